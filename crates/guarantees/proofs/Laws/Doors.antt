-- What the check of a plan's text, of a loops' text and of a table asks, as one list: at the door, and then of the plan or the loops that
-- the rows are read as. Assumes nothing.
use Rattle.std.specs.Prelude.{cond, ◌≡◌, refl, ℕ, suc, leb, length, Ok, Err}
use Rattle.loops.specs.Checked.{Checked, passing}
use Rattle.refusals.specs.Answers.{Answer}
use Rattle.std.proofs.Common.{sym, ◌∙◌, subst, arith, lt-ltb}
use Rattle.std.proofs.Math.Path.{ap}
use mathlib.Core.List.{List, [], ◌∷◌, ◌++◌}
use Rattle.std.proofs.Math.Dec.{T}
use Rattle.refusals.specs.declared.Refusal.TheVariants.{LineCount}
use Rattle.words.specs.Kinds.{Row}
use Rattle.words.specs.Words.{words, look_up}
use Rattle.words.specs.declared.Sort.{Sort}
use Rattle.words.specs.declared.Sort.TheVariants as sort
use Rattle.lines.specs.Lent.{text_rows}
use Rattle.lines.specs.Printing.{Each, Printable}
use Rattle.texts.specs.Texts.{lines_of}
use Rattle.lines.specs.Reading.{head_of, plan_limits, loops_limits}
use Rattle.lines.specs.declared.Heads.TheVariants.{Words}
use Rattle.meaning.specs.Loops.{Loops}
use Rattle.meaning.specs.Layout.{need}
use Rattle.meaning.specs.Rows.{plan_rows, loops_rows}
use Rattle.meaning.specs.Counts.{command_writes}
use Rattle.syntax.specs.Reading.{plan_of, loops_of}
use Rattle.syntax.specs.Theorems.{WalksWell, plan_tree, loops_tree}
use Rattle.typing.specs.Questions.{Question, question, ask, AllYes}
use Rattle.typing.specs.TypeQuestions.{plan_questions}
use Rattle.typing.specs.EntryQuestions.{read_questions, kind_questions, row_questions, text_questions}
use Rattle.typing.specs.Entry.{check_plan_text}
use Rattle.typing.proofs.Laws.Questions.{yes_append, yes_parts, all_asked, ask_append, ask_through}
use Rattle.typing.proofs.Laws.EntryQuestions.{kinds_ask, reading_asks, table_asks, text_asks}
use Rattle.typing.proofs.Laws.Texts.{rows_printable}
use Rattle.loops.specs.Check.{after_answer, check_loops, check_loops_rows, check_table, check_loops_text as check_loops_text}
use Rattle.guarantees.specs.Questions.{rows_door, plan_door, loops_door, table_door, loops_questions}
use Rattle.guarantees.proofs.Laws.Asked.{without, again}
use Rattle.guarantees.proofs.Laws.LoopsAsked.{loops_ask}
use Rattle.words.specs.Good.{Good}

-- ws is any good table of words.
module _ (ws : List (List ℕ)) (good : Good ws) where
  -- ---- a text's kinds are ws'

  listed_yes : (p : ℕ) (R : List Row) → Each (Printable ws) R → AllYes (kind_questions p R)
  unfolding kind_questions Each
  listed_yes p [] h = tt
  listed_yes p (r ∷ rs) h =
      (subst T (sym (lt-ltb r.0 (length words) (omega (arith, good.count, h.0.listed)))) tt, listed_yes (suc p) rs h.1)

  pub kinds_yes : (t : List ℕ) → AllYes (kind_questions 0 (text_rows ws t))
  kinds_yes t = listed_yes 0 (text_rows ws t) (rows_printable ws (lines_of t))

  -- ---- rows that pass 4 to 6 are those of the tree that they are read as

  walks : (s : Sort) (R : List Row) → AllYes (kind_questions 0 R) → AllYes (rows_door s R) → WalksWell s R
  walks s R k w =
      table_asks s R ∙ all_asked Err (kind_questions 0 R ++ rows_door s R) (Ok (length R)) (yes_append (kind_questions 0 R) (rows_door s R) k w)

  pub plan_is : (t : List ℕ) → AllYes (plan_door ws t) → text_rows ws t ≡ plan_rows (plan_of (text_rows ws t))
  plan_is t h =
      let w = (yes_parts (read_questions (head_of ws Words) plan_limits t) _ h).1 in
      (plan_tree (text_rows ws t) (walks sort.Plan (text_rows ws t) (kinds_yes t) w)).1

  pub loops_are : (t : List ℕ) → AllYes (loops_door ws t) → text_rows ws t ≡ loops_rows (loops_of (text_rows ws t))
  loops_are t h =
      let w = (yes_parts (read_questions (head_of ws Words) loops_limits t) _ h).1 in
      (loops_tree (text_rows ws t) (walks sort.Loops (text_rows ws t) (kinds_yes t) w)).1

  pub table_is : (R : List Row) → AllYes (table_door R) → R ≡ loops_rows (loops_of R)
  table_is R h =
      let p = yes_parts (kind_questions 0 R) _ h in
      (loops_tree R (walks sort.Loops R p.0 p.1.1)).1

  -- ---- the checks

  pub plan_asks : (t : List ℕ) → check_plan_text ws t
      ≡ ask Err (plan_door ws t ++ plan_questions (plan_of (text_rows ws t))) (Ok (length (text_rows ws t)))
  unfolding text_questions row_questions
  plan_asks t =
      let R : List Row = text_rows ws t in
      let k : List Question = kind_questions 0 R in
      let w : List Question = rows_door sort.Plan R in
      let p : List Question = plan_questions (plan_of R) in
      let a : List Question = read_questions (look_up ws) plan_limits t in
      let end : Answer = Ok (length R) in
      text_asks ws t
      ∙ ask_append Err a ((k ++ w) ++ p) end
      ∙ ap (ask Err a) (ask_append Err (k ++ w) p end)
      ∙ without Err k w p end a (kinds_yes t)

  module _ (R : List Row) where
    abbrev L : Loops
    L = loops_of R

    abbrev pub passes : Checked
    passes = passing (command_writes L.command) (need L)

    abbrev kinds : List Question
    kinds = kind_questions 0 R

    abbrev walk : List Question
    walk = rows_door sort.Loops R

    rows_ask : check_loops_rows R ≡ ask Err (kinds ++ walk) (ask Err (loops_questions L) passes)
    unfolding check_loops_rows
    rows_ask =
        let next : Answer → Checked = λ a. after_answer a (check_loops L) in
        ap next (table_asks sort.Loops R)
        ∙ ask_through Err Err next (λ q. refl) (kinds ++ walk) (Ok (length R))
        ∙ ap (ask Err (kinds ++ walk)) (loops_ask L)

    pub table_check_asks : check_table R ≡ ask Err (table_door R ++ loops_questions L) passes
    unfolding check_table ask
    table_check_asks =
        let few : Question = question (leb (length R) 4096) LineCount in
        let next : Answer → Checked = λ a. after_answer a (cond (leb (length R) 4096) (check_loops_rows R) (Err LineCount)) in
        ap next (kinds_ask 0 R (Ok (length R)))
        ∙ ask_through Err Err next (λ q. refl) kinds (Ok (length R))
        ∙ ap (λ (c : Checked). ask Err kinds (ask Err (few ∷ []) c)) rows_ask
        ∙ again Err kinds walk (loops_questions L) passes (few ∷ [])

  pub loops_check_asks : (t : List ℕ) → check_loops_text ws t
      ≡ ask Err (loops_door ws t ++ loops_questions (loops_of (text_rows ws t))) (passes (text_rows ws t))
  unfolding check_loops_text
  loops_check_asks t =
      let R : List Row = text_rows ws t in
      let a : List Question = read_questions (head_of ws Words) loops_limits t in
      let next : Answer → Checked = λ r. after_answer r (check_loops_rows R) in
      ap next (reading_asks (head_of ws Words) loops_limits t)
      ∙ ask_through Err Err next (λ q. refl) a (Ok (length (lines_of t)))
      ∙ ap (ask Err a) (rows_ask R)
      ∙ without Err (kinds R) (walk R) (loops_questions (loops_of R)) (passes R) a (kinds_yes t)
