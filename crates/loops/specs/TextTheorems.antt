-- What it means that a loops text passes the check, and what is read into a lent table. It rests on `check_loops_text` of Check, `Accepted` of
-- Theorems, and on the reading of `lines`. ws is any table of words. Assumes nothing.
use Rattle.std.specs.Prelude.{Bool, true, false, cond, ◌&&◌, ◌≡◌, refl, List, [], ◌↔◌, ℕ, ◌*◌, ◌≤◌, ◌<◌, min, leb, length, Err, Ok}
use Rattle.loops.specs.Checked.{Checked, passing}
use Rattle.std.proofs.Common.{sym, ◌∙◌, arith, leb-true, leb-false, SFits}
use Rattle.std.proofs.Math.Path.{ap}
use Rattle.std.specs.Int.{w32}
use Rattle.refusals.specs.declared.Refusal.{Refusal}
use Rattle.refusals.specs.declared.Refusal.TheVariants.{LentSize}
use Rattle.refusals.specs.Answers.{unless_refused, Answer}
use Rattle.words.specs.Kinds.{Row}
use Rattle.words.specs.Good.{Good}
use Rattle.lines.specs.Reading.{reading, head_of, loops_limits}
use Rattle.lines.specs.Lent.{text_rows, ask_room}
use Rattle.lines.specs.Printing.{text_of}
use Rattle.lines.specs.Printing.{Each, Printable}
use Rattle.lines.proofs.Laws.{rows_back, reads_back, rows_read}
use Rattle.lines.specs.declared.Heads.TheVariants.{Words}
use Rattle.meaning.specs.Types.{DataType}
use Rattle.meaning.specs.Terms.{Plan}
use Rattle.meaning.specs.Typing.{HasType}
use Rattle.meaning.specs.Numbers.{NumberDomain}
use Rattle.meaning.specs.Loops.{Loops}
use Rattle.meaning.specs.Layout.{need, regions_from}
use Rattle.meaning.specs.Runs.{Store, start_of}
use Rattle.meaning.specs.Rows.{plan_rows, loops_rows}
use Rattle.meaning.specs.Counts.{plan_writes}
use Rattle.meaning.specs.Limits.{lanes_apart, LoopsWithin, PlanWithin, TouchesBelow}
use Rattle.meaning.specs.Translation.{translation}
use Rattle.meaning.proofs.Theorems.{own_loops_within}
use Rattle.loops.specs.Check.{need_of, check_loops_rows, after_answer, check_loops_text}
use Rattle.loops.specs.Theorems.{Accepted, RunsSafely, passes_exactly, safe, runs_safely, own_pass}
use Rattle.loops.specs.Laws.Literals.{CommandLiterals, plan_literals}
use Rattle.loops.specs.Laws.TranslatedLiterals.{translation_literals}
use Rattle.loops.specs.Laws.Printed.{loops_printable, loops_size}

no_refusal : {A : Type 0} {q : Refusal} {w n : ℕ} → Err q ≡ passing w n → A
no_refusal e = absurd (let z : ◌≡◌ {A = ℕ} 0 1 = cc in omega arith)

-- [10.1] to [10.3] are answered "yes".
abbrev pub Reads : List (List ℕ) → List ℕ → Type 0
Reads ws t = reading (head_of ws Words) loops_limits t ≡ Ok (length (text_rows ws t))

module _ (ws : List (List ℕ)) (t : List ℕ) where
  abbrev R : List Row
  R = text_rows ws t

  read_text : Reads ws t → check_loops_text ws t ≡ check_loops_rows R
  unfolding check_loops_text
  read_text e = ap (λ (r : Answer). after_answer r (check_loops_rows R)) e

  unread_text : (q : Refusal) → reading (head_of ws Words) loops_limits t ≡ Err q → check_loops_text ws t ≡ Err q
  unfolding check_loops_text
  unread_text q e = ap (λ (r : Answer). after_answer r (check_loops_rows R)) e

  -- a text is read or refused
  by_reading : {A : Type 0} → (Reads ws t → A) → ((q : Refusal) → reading (head_of ws Words) loops_limits t ≡ Err q → A) → A
  by_reading {A} well ill = go (reading (head_of ws Words) loops_limits t) refl
    where
      go : (r : Answer) → reading (head_of ws Words) loops_limits t ≡ r → A
      go (Ok n) e = well (e ∙ ap Ok (sym (rows_read (head_of ws Words) loops_limits t n e)))
      go (Err q) e = ill q e

  -- A text passes exactly when it reads as rows that are those of loops that satisfy the bounds and limits.
  pub text_passes_exactly : (w n : ℕ) → (check_loops_text ws t ≡ passing w n) ↔ (Reads ws t × Accepted R w n)
  text_passes_exactly w n = (
    λ e.
        by_reading (λ r. (r, (passes_exactly R w n).0 (sym (read_text r) ∙ e)))
        (λ q r. no_refusal (sym (unread_text q r) ∙ e)),
    λ h. read_text h.0 ∙ (passes_exactly R w n).1 h.1,
  )

  -- [9.9] Loops that pass run safely.
  rows_pass : (w n : ℕ) → check_loops_text ws t ≡ passing w n → check_loops_rows R ≡ passing w n
  rows_pass w n e = (passes_exactly R w n).1 ((text_passes_exactly w n).0 e).1

  pub text_safe : (w n : ℕ) → check_loops_text ws t ≡ passing w n
      → (L : Loops) × (R ≡ loops_rows L) × TouchesBelow n L.command (start_of L) (regions_from L)
  text_safe w n e = safe R w n (rows_pass w n e)

  pub text_runs_safely : (𝓝 : NumberDomain) (w n : ℕ) → check_loops_text ws t ≡ passing w n
      → (L : Loops) × (R ≡ loops_rows L) × ((s : Store 𝓝) → RunsSafely 𝓝 L w n s)
  text_runs_safely 𝓝 w n e = runs_safely 𝓝 R w n (rows_pass w n e)

  -- ---- reading into a lent table

  module _ (kinds numbers : ℕ) where
    -- the answer for slices of these lengths
    abbrev put : Checked → Answer
    put c = unless_refused (need_of c) (ask_room (length R) kinds numbers)

    passed_text : (w n : ℕ) → check_loops_text ws t ≡ passing w n → put (check_loops_text ws t) ≡ ask_room (length R) kinds numbers
    passed_text w n e = ap put e

    refused_text : (q : Refusal) → check_loops_text ws t ≡ Err q → put (check_loops_text ws t) ≡ Err q
    refused_text q e = ap put e

    by_check_holds : {A : Type 0} → ((w n : ℕ) → check_loops_text ws t ≡ passing w n → A) → ((q : Refusal) → check_loops_text ws t ≡ Err q → A) → A
    by_check_holds {A} well ill = go (check_loops_text ws t) refl
      where
        go : (c : Checked) → check_loops_text ws t ≡ c → A
        go (Ok p) e = well p.writes p.need e
        go (Err q) e = ill q e

    -- by question 12
    by_room : {A : Type 0} → (length R ≤ min kinds numbers → ask_room (length R) kinds numbers ≡ Ok (length R) → A)
        → (min kinds numbers < length R → ask_room (length R) kinds numbers ≡ Err LentSize → A) → A
    by_room {A} yes' no' = go (leb (length R) kinds) (leb (length R) numbers) refl refl
      where
        at : (a b : Bool) → leb (length R) kinds ≡ a → leb (length R) numbers ≡ b
            → ask_room (length R) kinds numbers ≡ cond (a && b) (Ok (length R)) (Err LentSize)
        at a b e f =
            ap (λ (x : Bool). cond (x && leb (length R) numbers) (Ok (length R)) (Err LentSize)) e
            ∙ ap (λ (x : Bool). cond (a && x) (Ok (length R)) (Err LentSize)) f

        go : (a b : Bool) → leb (length R) kinds ≡ a → leb (length R) numbers ≡ b → A
        go true true e f = yes' (omega (arith, leb-true (length R) kinds e, leb-true (length R) numbers f)) (at true true e f)
        go true false e f = no' (omega (arith, leb-false (length R) numbers f)) (at true false e f)
        go false b e f = no' (omega (arith, leb-false (length R) kinds e)) (at false b e f)

    -- Rows are put exactly when the text passes and both slices have room for them.
    pub put_exactly : (m : ℕ) → (put (check_loops_text ws t) ≡ Ok m)
        ↔ ((w : ℕ) × (n : ℕ) × (check_loops_text ws t ≡ passing w n) × (length R ≤ min kinds numbers) × (m ≡ length R))
    put_exactly m = (
      λ e.
          by_check_holds
          (λ w n p. by_room (λ l f. (w, n, p, l, same (sym f ∙ sym (passed_text w n p) ∙ e))) (λ l f. never (sym f ∙ sym (passed_text w n p) ∙ e)))
          (λ q p. never (sym (refused_text q p) ∙ e)),
      λ h. passed_text h.0 h.1 h.2 ∙ by_room (λ l f. f ∙ ap Ok (sym h.4)) (λ l f. absurd (omega (arith, l, h.3))),
    )
      where
        never : {A : Type 0} {q : Refusal} → ◌≡◌ {A = Answer} (Err q) (Ok m) → A
        never e = absurd (let z : ◌≡◌ {A = ℕ} 0 1 = cc in omega arith)

        same : ◌≡◌ {A = Answer} (Ok (length R)) (Ok m) → m ≡ length R
        same e = cc

-- ---- the translator's own

some_row : (L : Loops) → 0 < length (loops_rows L)
unfolding loops_rows
some_row L = omega arith

-- The loops made from any plan within the limits, whose numbers are 32-bit numbers, as a text.
module _ (ws : List (List ℕ)) (good : Good ws) (P : Plan) (t : DataType) (typed : HasType P.inputs [] P.term t) (within : PlanWithin P)
    (numbers : Each (λ (r : Row). SFits w32 r.1) (plan_rows P)) where
  abbrev own : List Row
  own = loops_rows (translation P)

  own_within : LoopsWithin (translation P)
  own_within = own_loops_within P t typed within

  own_literals : CommandLiterals (SFits w32) (translation P).command
  own_literals = translation_literals (SFits w32) (record { sfits = omega arith }) P (plan_literals (SFits w32) P numbers)

  own_printable : Each (Printable ws) own
  own_printable = loops_printable ws good (translation P) own_within own_literals

  -- at most 16 bytes a line
  pub own_text_size : length (text_of ws own) ≤ 16 * length own
  own_text_size = loops_size ws good (translation P) own_within own_literals

  -- it reads back
  pub own_text_back : text_rows ws (text_of ws own) ≡ own
  own_text_back = rows_back ws good own own_printable

  -- [9.9] Loops that the translator made pass: where they have at most 4,096 lines ([10.10]), [18.15] no `lanes` inside another, and 16,777,216
  -- writes ([10.11]).
  pub own_text_passes : length own ≤ 4096 → lanes_apart (translation P).command ≡ true → plan_writes P ≤ 16777216
      → check_loops_text ws (text_of ws own) ≡ passing (plan_writes P) (need (translation P))
  own_text_passes short apart few =
      let T : List ℕ = text_of ws own in
      let reads : Reads ws T =
      reads_back ws good loops_limits own own_printable (some_row (translation P)) (omega (arith, own_text_size, short)) short
      ∙ ap (λ (S : List Row). Ok (length S)) (sym own_text_back) in
      read_text ws T reads ∙ ap check_loops_rows own_text_back ∙ own_pass P t typed within apart few
