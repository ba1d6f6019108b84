-- What the answers of the translation say of a plan and of a text. Assumes nothing.
use Rattle.std.specs.Prelude.{Bool, ◌≡◌, List, [], ℕ, ◌≤◌, ◌<◌, Ok, Err}
use Rattle.loops.specs.Checked.{passing}
use Rattle.std.proofs.Math.Bool.{true, false, cond}
use Rattle.std.proofs.Math.Path.{refl, ap}
use Rattle.std.proofs.Common.{sym, ap₂, ◌∙◌, arith}
use Rattle.std.proofs.Math.Option.{Option}
use borrow.Author.Tests.{leb-true, le-leb, lt-leb}
use Rattle.std.proofs.Math.Dec.{leb}
use Rattle.std.proofs.Math.ListN.{length}
use Rattle.refusals.specs.declared.Refusal.{Refusal}
use Rattle.refusals.specs.declared.Refusal.TheVariants.{LoopsLength, WriteCount, LanesInside}
use Rattle.refusals.specs.Answers.{unless_refused, Answer}
use Rattle.meaning.specs.Types.{DataType}
use Rattle.meaning.specs.Terms.{Plan}
use Rattle.meaning.specs.Typing.{HasType}
use Rattle.meaning.specs.Layout.{need}
use Rattle.meaning.specs.Loops.{Loops}
use Rattle.meaning.specs.Counts.{plan_writes}
use Rattle.meaning.specs.Limits.{lanes_apart, PlanWithin}
use Rattle.meaning.specs.Translation.{translation}
use Rattle.meaning.proofs.Theorems.{own_loops_pass, own_writes}
use Rattle.typing.specs.Entry.{check_plan_text}
use Rattle.loops.specs.Check.{ask_writes, unless, check_loops, check_table}
use Rattle.loops.specs.Laws.Passing.{pass_loops}
use Rattle.loops.specs.Theorems.{tree_checked, own_nested}
use Rattle.loops.specs.TableTheorems.{few_rows}
use Rattle.translate.specs.Entry.{made_rows, make_plan, plan_in, make_text}
use Rattle.translate.specs.Making.{by_check}

pub no_rows : {A : Type 0} {q : Refusal} {n : ℕ} → Err q ≡ Ok n → A
no_rows e = absurd (let clash : ◌≡◌ {A = ℕ} 0 1 = cc in omega arith)

-- ---- plans

module _ (P : Plan) where
  abbrev by_writes : Bool → Answer
  by_writes b = cond b (Ok (length (made_rows P))) (Err WriteCount)

  abbrev by_lanes : Bool → Bool → Answer
  by_lanes a b = cond a (by_writes b) (Err (LanesInside 0))

  -- the answers to [18.15] and [10.11] of the loops that are made
  abbrev apart : Bool
  apart = lanes_apart (translation P).command

  abbrev few : Bool
  few = leb (plan_writes P) 16777216

  pub plan_short : length (made_rows P) ≤ 4096 → make_plan P ≡ by_lanes apart few
  unfolding make_plan
  plan_short h = ap (λ (b : Bool). cond b (by_lanes apart few) (Err LoopsLength)) (le-leb _ _ h)

  pub plan_long : 4096 < length (made_rows P) → make_plan P ≡ Err LoopsLength
  unfolding make_plan
  plan_long h = ap (λ (b : Bool). cond b (by_lanes apart few) (Err LoopsLength)) (lt-leb _ _ h)

  -- a plan that makes rows makes those, few enough and with few enough writes, [18.15] and no `lanes` stands inside another
  pub plan_made : (n : ℕ) → make_plan P ≡ Ok n
      → (length (made_rows P) ≡ n) × (n ≤ 4096) × (plan_writes P ≤ 16777216) × (lanes_apart (translation P).command ≡ true)
  unfolding make_plan
  plan_made n e = go (leb (length (made_rows P)) 4096) apart few refl refl refl e
    where
      go : (a d b : Bool) → leb (length (made_rows P)) 4096 ≡ a → apart ≡ d → few ≡ b
          → cond a (by_lanes d b) (Err LoopsLength) ≡ Ok n
          → (length (made_rows P) ≡ n) × (n ≤ 4096) × (plan_writes P ≤ 16777216) × (apart ≡ true)
      go true true true x y z e =
          let l : length (made_rows P) ≡ n = cc in
          (l, omega (arith, l, leb-true (length (made_rows P)) 4096 x), leb-true _ _ z, y)
      go true true false x y z e = no_rows e
      go true false b x y z e = no_rows e
      go false d b x y z e = no_rows e

  -- ---- the check of loops asks 18 and counts the writes

  module _ (t : DataType) (typed : HasType P.inputs [] P.term t) (within : PlanWithin P) (short : length (made_rows P) ≤ 4096) where
    abbrev L : Loops
    L = translation P

    -- of made loops that are short enough it asks 18 and the writes alone
    apart_checked : apart ≡ true → check_table (made_rows P) ≡ cond few (passing (plan_writes P) (need L)) (Err WriteCount)
    unfolding check_loops
    apart_checked e =
        let h = pass_loops L (own_loops_pass P t typed within e) in
        few_rows (made_rows P) short
        ∙ tree_checked L h.0
        ∙ ap (λ (a : Option Refusal). unless a (ask_writes L)) h.1
        ∙ ap (λ (w : ℕ). cond (leb w 16777216) (passing w (need L)) (Err WriteCount)) (own_writes P t typed)

    pub made_asked : by_check (length (made_rows P)) (check_table (made_rows P)) ≡ make_plan P
    made_asked = go apart few refl refl ∙ sym (plan_short short)
      where
        go : (a b : Bool) → apart ≡ a → few ≡ b → by_check (length (made_rows P)) (check_table (made_rows P)) ≡ by_lanes apart few
        go false b e f =
            let h = own_nested P t typed within e in
            ap (by_check (length (made_rows P))) (few_rows (made_rows P) short ∙ h.1) ∙ sym (ap (λ (x : Bool). by_lanes x few) e)
        go true true e f =
            ap (by_check (length (made_rows P))) (apart_checked e ∙ ap (λ (x : Bool). cond x (passing (plan_writes P) (need L)) (Err WriteCount)) f)
            ∙ sym (ap₂ by_lanes e f)
        go true false e f =
            ap (by_check (length (made_rows P))) (apart_checked e ∙ ap (λ (x : Bool). cond x (passing (plan_writes P) (need L)) (Err WriteCount)) f)
            ∙ sym (ap₂ by_lanes e f)

-- ---- texts

module _ (ws : List (List ℕ)) (t : List ℕ) where
  pub text_passed : (m : ℕ) → check_plan_text ws t ≡ Ok m → make_text ws t ≡ make_plan (plan_in ws t)
  unfolding make_text
  text_passed m e = ap (λ (a : Answer). unless_refused a (make_plan (plan_in ws t))) e

  pub text_refused : (q : Refusal) → check_plan_text ws t ≡ Err q → make_text ws t ≡ Err q
  unfolding make_text
  text_refused q e = ap (λ (a : Answer). unless_refused a (make_plan (plan_in ws t))) e

  -- by the check of the plan
  pub by_check_holds : {A : Type 0} → ((m : ℕ) → check_plan_text ws t ≡ Ok m → A) → ((q : Refusal) → check_plan_text ws t ≡ Err q → A) → A
  by_check_holds {A} passed refused = go (check_plan_text ws t) refl
    where
      go : (a : Answer) → check_plan_text ws t ≡ a → A
      go (Ok m) e = passed m e
      go (Err q) e = refused q e

  -- a text that makes rows passes the check of plans, and its plan makes them
  pub text_made : (n : ℕ) → make_text ws t ≡ Ok n → ((m : ℕ) × (check_plan_text ws t ≡ Ok m)) × (make_plan (plan_in ws t) ≡ Ok n)
  text_made n e =
      by_check_holds (λ m f. ((m, f), sym (text_passed m f) ∙ e)) (λ q f. no_rows (sym (text_refused q f) ∙ e))

  pub text_count : (n : ℕ) → make_text ws t ≡ Ok n
      → (length (made_rows (plan_in ws t)) ≡ n) × (n ≤ 4096) × (plan_writes (plan_in ws t) ≤ 16777216)
      × (lanes_apart (translation (plan_in ws t)).command ≡ true)
  text_count n e = plan_made (plan_in ws t) n (text_made n e).1
