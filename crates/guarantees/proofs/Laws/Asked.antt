-- An answer that is the first "no" of a list of questions, or else a value, is one of demand 1's form. Assumes nothing.
use Rattle.std.specs.Prelude.{◌≡◌, List, ◌++◌, ℕ}
use Rattle.std.proofs.Common.{sym, ap, ◌∙◌, ⊎_elim}
use Rattle.refusals.specs.declared.Refusal.{Refusal}
use Rattle.words.specs.Kinds.{Row}
use Rattle.typing.specs.Questions.{Question, ask, AllYes}
use Rattle.typing.proofs.Laws.Questions.{yes_or_no, all_asked, ask_append, first_asked}
use Rattle.guarantees.specs.Told.{Told, refusal}
use Rattle.guarantees.specs.Answers.{Answers, AnswersOf}

-- ---- demand 1's form

pub answers : (qs : List Question) (v : ℕ) (Kept Left : Type 0) (r : Told) → r ≡ ask refusal qs (Told.value v)
    → ((q : Refusal) → r ≡ refusal q → Kept) → (r ≡ Told.value v → Left) → Answers qs v Kept Left r
answers qs v Kept Left r asks kept left = record {
  first_no_holds = λ q f. let e : r ≡ refusal q = asks ∙ first_asked refusal qs (Told.value v) q f in (e, kept q e);
  all_yes = λ h. let e : r ≡ Told.value v = asks ∙ all_asked refusal qs (Told.value v) h in (e, left e);
}

-- x is the tree that the rows are read as
pub answers_of : {A : Type 0} (rows : A → List Row) (R : List Row) (door : List Question) (more : A → List Question) (v : A → ℕ)
    (Kept : Type 0) (Left : A → Type 0) (r : Told) (x : A) → r ≡ ask refusal (door ++ more x) (Told.value (v x))
    → (AllYes door → R ≡ rows x) → ((y z : A) → rows y ≡ rows z → y ≡ z)
    → ((q : Refusal) → r ≡ refusal q → Kept) → (r ≡ Told.value (v x) → Left x) → AnswersOf rows R door more v Kept Left r
answers_of rows R door more v Kept Left r x asks is one kept left =
    let end : Told = ask refusal (more x) (Told.value (v x)) in
    let parts : r ≡ ask refusal door end = asks ∙ ask_append refusal door (more x) (Told.value (v x)) in
    record {
      at_door = λ q f. let e : r ≡ refusal q = parts ∙ first_asked refusal door end q f in (e, kept q e);
      behind = λ h. (
        x,
        is h,
        λ y e. one y x (sym e ∙ is h),
        answers (more x) (v x) Kept (Left x) r (parts ∙ all_asked refusal door end h) kept left,
      );
    }

-- ---- questions that are asked twice, or are always answered "yes"

module _ {A : Type 0} (no' : Refusal → A) (k w p : List Question) (end : A) where
  abbrev later : A
  later = ask no' w (ask no' p end)

  skipped : AllYes k → ask no' (k ++ w) (ask no' p end) ≡ later
  skipped h = ask_append no' k w (ask no' p end) ∙ all_asked no' k later h

  -- k is always answered "yes"
  pub without : (a : List Question) → AllYes k → ask no' a (ask no' (k ++ w) (ask no' p end)) ≡ ask no' ((a ++ w) ++ p) end
  without a h =
      ap (ask no' a) (skipped h)
      ∙ sym (ask_append no' a w (ask no' p end))
      ∙ sym (ask_append no' (a ++ w) p end)

  -- k is asked before x, and again behind it
  pub again : (x : List Question) → ask no' k (ask no' x (ask no' (k ++ w) (ask no' p end))) ≡ ask no' ((k ++ (x ++ w)) ++ p) end
  again x =
      ⊎_elim
      (λ h. ap (λ (v : A). ask no' k (ask no' x v)) (skipped h))
      (λ f.
      first_asked no' k (ask no' x (ask no' (k ++ w) (ask no' p end))) f.0 f.1
      ∙ sym (first_asked no' k (ask no' x later) f.0 f.1))
      (yes_or_no k)
      ∙ ap (ask no' k) (sym (ask_append no' x w (ask no' p end)))
      ∙ sym (ask_append no' k (x ++ w) (ask no' p end))
      ∙ sym (ask_append no' (k ++ (x ++ w)) p end)
