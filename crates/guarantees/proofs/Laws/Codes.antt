-- What is told to C is what the library's entries tell: every value is far below 2^56, a need below 2^45. Assumes nothing.
use Rattle.std.specs.Prelude.{Bool, cond, ◌≡◌, ℕ, ◌+◌, ◌*◌, ◌/◌, ◌%◌, ◌≤◌, ◌<◌, min, leb, ℤ, length, Ok, Err}
use Rattle.loops.specs.Checked.{Checked, passing}
use Rattle.refusals.specs.Answers.{Answer}
use Rattle.std.proofs.Math.Bool.{true, false}
use Rattle.std.proofs.Math.Path.{refl, ap, ap₂}
use Rattle.std.proofs.Common.{sym, ◌∙◌, subst, arith, lt-ltb, le-ltb}
use mathlib.Core.List.{List, []}
use Rattle.refusals.specs.declared.Refusal.{Refusal}
use Rattle.refusals.specs.declared.Refusal.TheVariants as refusals
use Rattle.refusals.specs.Refusals.{refusal_number, refusal_line}
use Rattle.words.specs.Kinds.{Row, rows_of}
use Rattle.lines.specs.Lent.{text_rows}
use Rattle.lines.specs.Reading.{head_of, loops_limits}
use Rattle.lines.proofs.TableLaws.{read_few}
use Rattle.lines.specs.declared.Heads.TheVariants.{Words}
use Rattle.meaning.specs.Numbers.{clamped32}
use Rattle.meaning.specs.Loops.{Loops}
use Rattle.meaning.specs.Counts.{command_writes}
use Rattle.meaning.proofs.Theorems.{writes_of_run, need_few}
use Rattle.syntax.specs.Reading.{loops_of}
use Rattle.syntax.specs.Theorems.{loops_read}
use Rattle.typing.specs.Entry.{check_plan_text as check_plan}
use Rattle.plans.specs.Promises.{ChecksPlan}
use Rattle.interpreter.specs.Orders.{run_of}
use Rattle.loops.specs.Check.{writes_of, check_loops_text, check_table, need_of}
use Rattle.loops.specs.Promises.{ChecksLoops, TellsNeed, ReadsLoops}
use Rattle.loops.specs.Theorems.{Accepted}
use Rattle.loops.specs.TextTheorems.{text_passes_exactly, put_exactly}
use Rattle.loops.specs.TableTheorems.{table_passes_exactly}
use Rattle.translate.specs.Promises.{TranslatesText}
use Rattle.translate.specs.Theorems.{text_put}
use Rattle.run.specs.Run.{Ran, outcome, finished, refused, asked_run, run_checked, run_table, run_text}
use Rattle.run.specs.Promises.{KeepsFrame, RunsText, RunsRows}
use Rattle.run.specs.Theorems.{run_is_run}
use Rattle.store.specs.Cells.{cells_of}
use Rattle.store.specs.Store.{store_of, frame_of}
use Rattle.store.specs.Laws.{store_of_bytes}
use Rattle.vazhdumir.specs.Codes.{refusal_code, accepted_code, answer_code, RunCoded}
use Rattle.vazhdumir.specs.Promises.{ChecksPlanForC, TranslatesForC, ChecksLoopsForC, TellsNeedForC}
use Rattle.vazhdumir.specs.Promises.{ReadsLoopsForC, RunsTextForC, RunsRowsForC}
use Rattle.guarantees.specs.Told.{Told, refusal, told_accepted, told_answer, told_writes, told_code, cut, ToldToC, told_need}
use Rattle.guarantees.proofs.Laws.Told.{no_run}
use Rattle.words.specs.Good.{Good}

-- ---- codes

value_code : (v : ℕ) → v < 72057594037927936 → told_code v ≡ Told.value v
value_code v h =
    ap (λ (b : Bool). cond b (Told.value v) (Told.refused (v / 72057594037927936) (v % 72057594037927936))) (lt-ltb v 72057594037927936 h)

number_code : (n l : ℕ) → 1 ≤ n → l < 72057594037927936 → told_code (n * 72057594037927936 + l) ≡ Told.refused n l
number_code n l h g =
    let r : ℕ = n * 72057594037927936 + l in
    let high : 72057594037927936 ≤ r = omega arith in
    let number : r / 72057594037927936 ≡ n = omega arith in
    let line : r % 72057594037927936 ≡ l = omega arith in
    ap (λ (b : Bool). cond b (Told.value r) (Told.refused (r / 72057594037927936) (r % 72057594037927936))) (le-ltb r 72057594037927936 high)
    ∙ ap₂ Told.refused number line

some_number : (q : Refusal) → 1 ≤ refusal_number q
some_number refusals.TextForm = omega arith
some_number (refusals.LineForm l) = omega arith
some_number refusals.LineCount = omega arith
some_number (refusals.RowDue l) = omega arith
some_number (refusals.NumberRange l) = omega arith
some_number (refusals.NameCount l) = omega arith
some_number (refusals.TypeMisfit l) = omega arith
some_number (refusals.TypeSize l) = omega arith
some_number (refusals.OffsetBound l) = omega arith
some_number refusals.LoopsLength = omega arith
some_number refusals.WriteCount = omega arith
some_number refusals.LentSize = omega arith
some_number refusals.UnknownOrder = omega arith
some_number refusals.StoreSize = omega arith
some_number refusals.ValueLines = omega arith
some_number refusals.WordsForm = omega arith
some_number refusals.WordTwice = omega arith
some_number (refusals.LanesInside l) = omega arith

pub refusal_code_holds : (q : Refusal) → told_code (refusal_code q) ≡ cut (refusal q)
refusal_code_holds q = number_code (refusal_number q) (min (refusal_line q) 72057594037927935) (some_number q) (omega arith)

-- ---- each answer, where its number is small

accepted_code_holds : (a : Answer) → told_code (accepted_code a) ≡ cut (told_accepted a)
accepted_code_holds (Ok n) = value_code 0 (omega arith)
accepted_code_holds (Err q) = refusal_code_holds q

answer_code_holds : (a : Answer) → ((n : ℕ) → a ≡ Ok n → n ≤ 16777216) → told_code (answer_code a) ≡ cut (told_answer a)
answer_code_holds (Ok n) h = value_code n (omega (arith, h n refl))
answer_code_holds (Err q) h = refusal_code_holds q

writes_code : (a : Checked) → ((w n : ℕ) → a ≡ passing w n → w ≤ 16777216) → told_code (answer_code (writes_of a)) ≡ cut (told_writes a)
writes_code (Ok p) h = value_code p.writes (omega (arith, h p.writes p.need refl))
writes_code (Err q) h = refusal_code_holds q

need_code : (a : Checked) → ((w n : ℕ) → a ≡ passing w n → n < 35184372088832) → told_code (answer_code (need_of a)) ≡ cut (told_need a)
need_code (Ok p) h = value_code p.need (omega (arith, h p.writes p.need refl))
need_code (Err q) h = refusal_code_holds q

-- ws is any good table of words.
module _ (ws : List (List ℕ)) (good : Good ws) where
  -- ---- how great they are

  few_rows : (t : List ℕ) (w n : ℕ) → check_loops_text ws t ≡ passing w n → length (text_rows ws t) ≤ 4096
  few_rows t w n e = read_few (head_of ws Words) loops_limits t (length (text_rows ws t)) ((text_passes_exactly ws t w n).0 e).0

  need_small : (t : List ℕ) (w n : ℕ) → check_loops_text ws t ≡ passing w n → n < 35184372088832
  need_small t w n e =
      let a = ((text_passes_exactly ws t w n).0 e).1 in
      let few : command_writes a.loops.command ≤ 16777216 = omega (arith, a.writes, a.writes_few) in
      omega (arith, need_few a.loops a.passes few, a.needs)

  -- the writes of a run of rows that pass
  module _ (R : List Row) (c : Checked) (pass : (w n : ℕ) → c ≡ passing w n → Accepted R w n) (order : ℕ) (s : List ℤ) where
    abbrev L : Loops
    L = loops_of R

    run_writes : (w n : ℕ) → c ≡ passing w n → (run_of L order s).writes ≤ 16777216
    run_writes w n e =
        let a = pass w n e in
        let same : L ≡ a.loops = ap loops_of a.rows ∙ loops_read a.loops in
        let counted : (run_of L order s).writes ≡ command_writes L.command = writes_of_run clamped32 L s (run_of L order s) (run_is_run L order s) in
        let here : command_writes L.command ≡ w = ap (λ (M : Loops). command_writes M.command) same ∙ sym a.writes in
        omega (arith, counted, here, a.writes_few)

    asked_writes : (n v : ℕ) → (run_of L order s).writes ≤ 16777216 → (asked_run L n order s).answer ≡ Ok v → v ≤ 16777216
    unfolding asked_run
    asked_writes n v h e = go (leb order 2) (leb n (length s)) e
      where
        go : (a b : Bool) → (cond a (cond b (finished (run_of L order s)) (refused refusals.StoreSize s)) (refused refusals.UnknownOrder s)).answer ≡ Ok v
            → v ≤ 16777216
        go true true f = let same : (run_of L order s).writes ≡ v = cc in omega (arith, h, same)
        go true false f = no_run f
        go false b f = no_run f

    pub ran_small : (v : ℕ) → (run_checked c L order s).answer ≡ Ok v → v ≤ 16777216
    ran_small v e = go c refl e
      where
        go : (x : Checked) → c ≡ x → (run_checked x L order s).answer ≡ Ok v → v ≤ 16777216
        go (Ok p) f g = asked_writes p.need v (run_writes p.writes p.need f) g
        go (Err q) f g = no_run g

  -- ---- the entries

  pub check_plan_c : (t : List ℕ) (r : ℕ) → ChecksPlanForC ws t r → ToldToC (ChecksPlan ws t) told_accepted r
  check_plan_c t r e = (check_plan ws t, refl, ap told_code e ∙ accepted_code_holds (check_plan ws t))

  pub translate_c : (t u u' : List ℕ) (r : ℕ) → TranslatesForC ws t u r u' → ToldToC (λ a. TranslatesText ws t u a u') told_answer r
  translate_c t u u' r I = (
    I.printing,
    I.left,
    ap told_code I.answer
        ∙ answer_code_holds I.printing
        (λ n e. omega (arith, (text_put ws good t u u' n (subst (λ (a : Answer). TranslatesText ws t u a u') e I.left)).few)),
  )

  pub check_loops_c : (t : List ℕ) (r : ℕ) → ChecksLoopsForC ws t r → ToldToC (ChecksLoops ws t) told_writes r
  check_loops_c t r e = (
    check_loops_text ws t,
    refl,
    ap told_code e ∙ writes_code (check_loops_text ws t) (λ w n f. ((text_passes_exactly ws t w n).0 f).1.writes_few),
  )

  pub need_loops_c : (t : List ℕ) (r : ℕ) → TellsNeedForC ws t r → ToldToC (TellsNeed ws t) told_answer r
  need_loops_c t r e = (need_of (check_loops_text ws t), refl, ap told_code e ∙ need_code (check_loops_text ws t) (need_small t))

  pub read_loops_c : (t k k' : List ℕ) (n n' : List ℤ) (r : ℕ) → ReadsLoopsForC ws t k n r k' n'
      → ToldToC (λ a. ReadsLoops ws t k n a k' n') told_answer r
  read_loops_c t k k' n n' r I = (
    I.reading,
    I.left,
    ap told_code I.answer
        ∙ answer_code_holds I.reading
        (λ m e.
        let p = (put_exactly ws t (length k) (length n) m).0 (sym I.left.answer ∙ e) in
        omega (arith, p.4, few_rows t p.0 p.1 p.2)),
  )

  -- a store in bytes is a store with no cells before them
  module _ (o : Ran) (b b' : List ℕ) (r : ℕ) (I : RunCoded o b r b') where
    pub bytes_left : o.store ≡ store_of [] b'
    bytes_left = sym I.cells_left ∙ sym (store_of_bytes b')

    pub bytes_frame : KeepsFrame [] b [] b'
    unfolding frame_of
    bytes_frame = ap₂ (λ (x : ℕ) (l : List ℕ). (0, x, l)) I.length_left I.others_left

    pub bytes_ran : (f : List ℤ → Ran) → o ≡ f (cells_of b) → outcome o.answer (store_of [] b') ≡ f (store_of [] b)
    bytes_ran f e = ap (outcome o.answer) (sym bytes_left) ∙ e ∙ ap f (sym (store_of_bytes b))

  pub run_text_c : (t : List ℕ) (order : ℕ) (b b' : List ℕ) (r : ℕ) → RunsTextForC ws t order b r b'
      → ToldToC (λ a. RunsText ws t order [] b a [] b' × KeepsFrame [] b [] b') told_answer r
  unfolding run_text
  run_text_c t order b b' r I =
      let o : Ran = run_text ws t order (cells_of b) in (
        o.answer,
        (bytes_ran o b b' r I (run_text ws t order) refl, bytes_frame o b b' r I),
        ap told_code I.answer
            ∙ answer_code_holds o.answer (ran_small (text_rows ws t) (check_loops_text ws t) (λ w n f. ((text_passes_exactly ws t w n).0 f).1) order (cells_of b)),
      )

  pub run_rows_c : (k : List ℕ) (n : List ℤ) (order : ℕ) (b b' : List ℕ) (r : ℕ) → RunsRowsForC k n order b r b'
      → ToldToC (λ a. RunsRows k n order [] b a [] b' × KeepsFrame [] b [] b') told_answer r
  unfolding run_table
  run_rows_c k n order b b' r I =
      let R : List Row = rows_of k n in
      let o : Ran = run_table R order (cells_of b) in (
        o.answer,
        (bytes_ran o b b' r I (run_table R order) refl, bytes_frame o b b' r I),
        ap told_code I.answer
            ∙ answer_code_holds o.answer (ran_small R (check_table R) (λ w m f. ((table_passes_exactly R w m).0 f).1) order (cells_of b)),
      )
