-- Demand 1 of the entries that take loops, as a text or as a table: each is said once, of any list of questions at the door. Assumes
-- nothing.
use Rattle.std.specs.Prelude.{Bool, ◌≡◌, eqb, leb, ℤ, length, Err, Ok}
use Rattle.loops.specs.Checked.{Checked, passing}
use Rattle.std.proofs.Math.Bool.{true, false, cond}
use Rattle.std.proofs.Math.Path.{refl, ap, fun_ext}
use Rattle.std.proofs.Common.{sym, ◌∙◌, subst}
use mathlib.Core.List.{List, ◌++◌}
use Prim.Native.Nat.{ℕ}
use Rattle.refusals.specs.declared.Refusal.{Refusal}
use Rattle.refusals.specs.declared.Refusal.TheVariants.{UnknownOrder, StoreSize}
use Rattle.refusals.specs.Answers.{unless_refused, Answer}
use Rattle.words.specs.Kinds.{Row, rows_of}
use Rattle.lines.specs.Lent.{text_rows, ask_room}
use Rattle.meaning.specs.Numbers.{clamped32}
use Rattle.meaning.specs.Loops.{Loops}
use Rattle.meaning.specs.Layout.{need}
use Rattle.meaning.specs.Runs.{State}
use Rattle.meaning.specs.NamedOrders.{forward, backward, evens_then_odds}
use Rattle.meaning.specs.Counts.{command_writes}
use Rattle.meaning.specs.Rows.{loops_rows}
use Rattle.meaning.proofs.Theorems.{named_run}
use Rattle.syntax.specs.Reading.{loops_of}
use Rattle.syntax.specs.Theorems.{loops_unique}
use Rattle.interpreter.specs.Orders.{named, run_of}
use Rattle.typing.specs.Questions.{Question, ask, AllYes}
use Rattle.loops.specs.Check.{check_table, check_loops_text, need_of}
use Rattle.loops.specs.Promises.{ChecksLoops, ChecksTable, TellsNeed, ReadsLoops}
use Rattle.run.specs.Run.{Ran, outcome, finished, refused, asked_run, run_checked, run_table, run_text}
use Rattle.run.specs.Promises.{KeepsFrame, RunsText, RunsRows}
use Rattle.run.specs.Theorems.{text_kept, table_kept as rows_kept}
use Rattle.store.specs.Cells.{AllBytes}
use Rattle.store.specs.Store.{store_of}
use Rattle.store.specs.Laws.{parts_of_store}
use Rattle.store.specs.BytesLaws.{same_bytes}
use Rattle.guarantees.specs.Told.{Told, refusal, told_answer, told_writes, told_need}
use Rattle.guarantees.specs.Answers.{AnswersOf}
use Rattle.guarantees.specs.Questions.{loops_door, table_door, loops_questions, table_room, run_questions}
use Rattle.guarantees.specs.Runs.{turns, run_named, run_in_order}
use Rattle.guarantees.specs.Demand1.{OfLoops, OfTable, Nothing, TableKept, TableLeft, StoreLeft, writes_made}
use Rattle.guarantees.proofs.Laws.Asked.{answers_of}
use Rattle.guarantees.proofs.Laws.Doors.{loops_are, table_is, passes, table_check_asks, loops_check_asks}
use Rattle.guarantees.proofs.Laws.Told.{no_run, told_asks, told_further, answer_refused, answer_done}
use Rattle.guarantees.proofs.Laws.PlanEntries.{room_told, table_kept, table_left}
use Rattle.words.specs.Good.{Good}

-- ws is any good table of words.
module _ (ws : List (List ℕ)) (good : Good ws) where
  -- ---- the run in the order named

  named_turns : (order : ℕ) (visit : List ℕ) (n : ℕ) → (named order n).0 ≡ turns order visit n
  unfolding forward backward evens_then_odds
  named_turns order visit n = go (eqb order 0) (eqb order 1)
    where
      go : (a b : Bool) → ((cond a forward (cond b backward evens_then_odds)) n).0 ≡ cond a (forward n).0 (cond b (backward n).0 (evens_then_odds n).0)
      go true b = refl
      go false true = refl
      go false false = refl

  pub run_in_order_holds : (order : ℕ) (L : Loops) (s : List ℤ) → run_of L order s ≡ run_in_order order L s
  unfolding run_of
  run_in_order_holds order L s =
      named_run clamped32 (named order) L s
      ∙ ap (λ (π : List ℕ → ℕ → List ℕ). run_named π L s) (fun_ext (λ visit. fun_ext (λ n. named_turns order visit n)))

  -- A store that is the same, in a frame that is the same, is the same cells and bytes.
  pub store_same : (c c' : List ℤ) (b b' : List ℕ) → AllBytes b → AllBytes b' → KeepsFrame c b c' b' → store_of c' b' ≡ store_of c b
      → (c' ≡ c) × (b' ≡ b)
  store_same c c' b b' h h' f e =
      let x = parts_of_store c c' b b' (store_of c b) e f in
      let y = parts_of_store c c b b (store_of c b) refl refl in (
        x.0 ∙ sym y.0,
        same_bytes b' b h' h (x.1 ∙ sym y.1) x.2,
      )

  -- ---- rows R that are checked with the answer c, behind questions at the door

  module _ (R : List Row) (door : List Question) (c : Checked) (are : AllYes door → R ≡ loops_rows (loops_of R))
      (asked : c ≡ ask Err (door ++ loops_questions (loops_of R)) (passes ws good R)) where
    abbrev L : Loops
    L = loops_of R

    abbrev Of : (Loops → List Question) → (Loops → ℕ) → Type 0 → (Loops → Type 0) → Told → Type 0
    Of = AnswersOf loops_rows R door

    pub of_loops_holds : (more : Loops → List Question) (v : Loops → ℕ) (Kept : Type 0) (Left : Loops → Type 0) (r : Told)
        → r ≡ ask refusal (door ++ more L) (Told.value (v L))
        → ((q : Refusal) → r ≡ refusal q → Kept) → (r ≡ Told.value (v L) → Left L) → Of more v Kept Left r
    of_loops_holds more v Kept Left r asks kept left =
        answers_of loops_rows R door more v Kept Left r L asks are loops_unique kept left

    -- what is told of the check's answer, by any f that hands refusals on
    pub loops_told : (f : Checked → Told) → ((q : Refusal) → f (Err q) ≡ refusal q)
        → f c ≡ ask refusal (door ++ loops_questions L) (f (passes ws good R))
    loops_told f h = told_asks Err f h (door ++ loops_questions L) (passes ws good R) c asked

    pub writes_answered : Of loops_questions (λ M. command_writes M.command) (Unit {0}) Nothing (told_writes c)
    writes_answered =
        of_loops_holds loops_questions (λ M. command_writes M.command) (Unit {0}) Nothing (told_writes c) (loops_told told_writes (λ q. refl))
        (λ q e. tt) (λ e. tt)

    pub need_answered : Of loops_questions need (Unit {0}) Nothing (told_need c)
    need_answered =
        of_loops_holds loops_questions need (Unit {0}) Nothing (told_need c) (loops_told told_need (λ q. refl)) (λ q e. tt) (λ e. tt)

    pub needed_answered : Of loops_questions need (Unit {0}) Nothing (told_answer (need_of c))
    needed_answered =
        of_loops_holds loops_questions need (Unit {0}) Nothing (told_answer (need_of c)) (loops_told (λ x. told_answer (need_of x)) (λ q. refl))
        (λ q e. tt) (λ e. tt)

    -- ---- a run

    module _ (order : ℕ) (s : List ℤ) where
      asked_told : told_answer (asked_run L (need L) order s).answer
          ≡ ask refusal (run_questions order (length s) L) (Told.value (run_of L order s).writes)
      unfolding asked_run ask
      asked_told = go (leb order 2) (leb (need L) (length s))
        where
          go : (a b : Bool) → told_answer (cond a (cond b (finished (run_of L order s)) (refused StoreSize s)) (refused UnknownOrder s)).answer
              ≡ cond a (cond b (Told.value (run_of L order s).writes) (refusal StoreSize)) (refusal UnknownOrder)
          go true true = refl
          go true false = refl
          go false b = refl

      run_told : told_answer (run_checked c L order s).answer
          ≡ ask refusal (door ++ (loops_questions L ++ run_questions order (length s) L)) (Told.value (run_in_order order L s).writes)
      run_told =
          told_further door (loops_questions L) (run_questions order (length s) L) (told_answer (run_checked c L order s).answer)
          (Told.value (run_in_order order L s).writes)
          (loops_told (λ x. told_answer (run_checked x L order s).answer) (λ q. refl)
          ∙ ap (ask refusal (door ++ loops_questions L))
          (asked_told
          ∙ ap (λ (st : State clamped32). ask refusal (run_questions order (length s) L) (Told.value st.writes)) (run_in_order_holds order L s)))

      -- a run that was made left its store
      asked_left : (n w : ℕ) → (asked_run L n order s).answer ≡ Ok w → (asked_run L n order s).store ≡ (run_of L order s).store
      unfolding asked_run
      asked_left n w e = go (leb order 2) (leb n (length s)) e
        where
          go : (a b : Bool) → (cond a (cond b (finished (run_of L order s)) (refused StoreSize s)) (refused UnknownOrder s)).answer ≡ Ok w
              → (cond a (cond b (finished (run_of L order s)) (refused StoreSize s)) (refused UnknownOrder s)).store ≡ (run_of L order s).store
          go true true f = refl
          go true false f = no_run f
          go false b f = no_run f

      run_left : (x : Checked) (w : ℕ) → (run_checked x L order s).answer ≡ Ok w → (run_checked x L order s).store ≡ (run_of L order s).store
      run_left (Ok p) w e = asked_left p.need w e
      run_left (Err q) w e = no_run e

    pub run_answered : (order : ℕ) (k k' : List ℤ) (b b' : List ℕ) (r : Answer) → AllBytes b → AllBytes b' → KeepsFrame k b k' b'
        → outcome r (store_of k' b') ≡ run_checked c L order (store_of k b)
        → ((q : Refusal) → (run_checked c L order (store_of k b)).answer ≡ Err q → (run_checked c L order (store_of k b)).store ≡ store_of k b)
        → Of (λ M. loops_questions M ++ run_questions order (length (store_of k b)) M) (writes_made order k b)
        ((k' ≡ k) × (b' ≡ b)) (StoreLeft order k b k' b') (told_answer r)
    run_answered order k k' b b' r h h' f e same =
        let s : List ℤ = store_of k b in
        let answer : r ≡ (run_checked c L order s).answer = ap (λ (o : Ran). o.answer) e in
        let store : store_of k' b' ≡ (run_checked c L order s).store = ap (λ (o : Ran). o.store) e in
        of_loops_holds (λ M. loops_questions M ++ run_questions order (length s) M) (writes_made order k b) ((k' ≡ k) × (b' ≡ b))
        (StoreLeft order k b k' b') (told_answer r) (ap told_answer answer ∙ run_told order s)
        (λ q g. answer_refused r q g (λ p i. store_same k k' b b' h h' f (store ∙ same p (sym answer ∙ i))))
        (λ g.
        answer_done r _ g
        (λ n i. (
          store ∙ run_left order s c n (sym answer ∙ i) ∙ ap (λ (st : State clamped32). st.store) (run_in_order_holds order L s),
          f,
        )))

  -- ---- texts

  module _ (t : List ℕ) where
    abbrev R : List Row
    R = text_rows ws t

    abbrev c : Checked
    c = check_loops_text ws t

    pub check_loops_holds : (r : Checked) → ChecksLoops ws t r
        → OfLoops ws t loops_questions (λ M. command_writes M.command) (Unit {0}) Nothing (told_writes r)
        × OfLoops ws t loops_questions need (Unit {0}) Nothing (told_need r)
    check_loops_holds r e =
        subst
        (λ (x : Checked). OfLoops ws t loops_questions (λ M. command_writes M.command) (Unit {0}) Nothing (told_writes x)
        × OfLoops ws t loops_questions need (Unit {0}) Nothing (told_need x))
        (sym e) (
          writes_answered R (loops_door ws t) c (loops_are ws good t) (loops_check_asks ws good t),
          need_answered R (loops_door ws t) c (loops_are ws good t) (loops_check_asks ws good t),
        )

    pub need_loops : (r : Answer) → TellsNeed ws t r → OfLoops ws t loops_questions need (Unit {0}) Nothing (told_answer r)
    need_loops r e =
        subst (λ (x : Answer). OfLoops ws t loops_questions need (Unit {0}) Nothing (told_answer x)) (sym e)
        (needed_answered R (loops_door ws t) c (loops_are ws good t) (loops_check_asks ws good t))

    pub loops_read_asked : (k k' : List ℕ) (n n' : List ℤ) (r : Answer) → ReadsLoops ws t k n r k' n'
        → told_answer r ≡ ask refusal (loops_door ws t ++ (loops_questions (loops_of R) ++ table_room (length R) (length k) (length n))) (Told.value (length R))
    loops_read_asked k k' n n' r I =
        let M : Loops = loops_of R in
        told_further (loops_door ws t) (loops_questions M) (table_room (length R) (length k) (length n)) (told_answer r) (Told.value (length R))
        (ap told_answer I.answer
        ∙ loops_told R (loops_door ws t) c (loops_are ws good t) (loops_check_asks ws good t)
        (λ x. told_answer (unless_refused (need_of x) (ask_room (length R) (length k) (length n)))) (λ q. refl)
        ∙ ap (ask refusal (loops_door ws t ++ loops_questions M)) (room_told ws good (length R) (length k) (length n)))

    pub read_loops : (k k' : List ℕ) (n n' : List ℤ) (r : Answer) → ReadsLoops ws t k n r k' n'
        → OfLoops ws t (λ M. loops_questions M ++ table_room (length R) (length k) (length n)) (λ M. length R)
        (TableKept k k' n n') (λ M. TableLeft R k k' n n') (told_answer r)
    read_loops k k' n n' r I =
        of_loops_holds R (loops_door ws t) c (loops_are ws good t) (loops_check_asks ws good t) (λ M. loops_questions M ++ table_room (length R) (length k) (length n))
        (λ M. length R) (TableKept k k' n n') (λ M. TableLeft R k k' n n') (told_answer r) (loops_read_asked k k' n n' r I)
        (table_kept ws good R k k' n n' r I.kinds_left I.numbers_left) (table_left ws good R k k' n n' r I.kinds_left I.numbers_left (length R))

    pub run_text_holds : (order : ℕ) (k k' : List ℤ) (b b' : List ℕ) (r : Answer) → AllBytes b → AllBytes b' → KeepsFrame k b k' b'
        → RunsText ws t order k b r k' b'
        → OfLoops ws t (λ M. loops_questions M ++ run_questions order (length (store_of k b)) M) (writes_made order k b)
        ((k' ≡ k) × (b' ≡ b)) (StoreLeft order k b k' b') (told_answer r)
    unfolding run_text
    run_text_holds order k k' b b' r h h' f e =
        run_answered R (loops_door ws t) c (loops_are ws good t) (loops_check_asks ws good t) order k k' b b' r h h' f e (text_kept ws t order (store_of k b))

  -- ---- tables

  module _ (kinds : List ℕ) (numbers : List ℤ) where
    abbrev T : List Row
    T = rows_of kinds numbers

    pub check_table_holds : (r : Checked) → ChecksTable kinds numbers r
        → OfTable T loops_questions (λ M. command_writes M.command) (Unit {0}) Nothing (told_writes r)
        × OfTable T loops_questions need (Unit {0}) Nothing (told_need r)
    check_table_holds r e =
        subst
        (λ (x : Checked). OfTable T loops_questions (λ M. command_writes M.command) (Unit {0}) Nothing (told_writes x)
        × OfTable T loops_questions need (Unit {0}) Nothing (told_need x))
        (sym e) (
          writes_answered T (table_door T) (check_table T) (table_is ws good T) (table_check_asks ws good T),
          need_answered T (table_door T) (check_table T) (table_is ws good T) (table_check_asks ws good T),
        )

    pub run_rows : (order : ℕ) (k k' : List ℤ) (b b' : List ℕ) (r : Answer) → AllBytes b → AllBytes b' → KeepsFrame k b k' b'
        → RunsRows kinds numbers order k b r k' b'
        → OfTable T (λ M. loops_questions M ++ run_questions order (length (store_of k b)) M) (writes_made order k b)
        ((k' ≡ k) × (b' ≡ b)) (StoreLeft order k b k' b') (told_answer r)
    unfolding run_table
    run_rows order k k' b b' r h h' f e =
        run_answered T (table_door T) (check_table T) (table_is ws good T) (table_check_asks ws good T) order k k' b b' r h h' f e
        (rows_kept T order (store_of k b))
