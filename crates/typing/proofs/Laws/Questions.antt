-- Laws of questions that are put in order, for answers of every kind. Assumes nothing.
use Rattle.std.specs.Prelude.{◌≡◌, refl, Bool, true, false, cond, List, [], ◌∷◌, ◌++◌, ◌↔◌, ◌⊎◌, T}
use Rattle.std.proofs.Common.{sym, ap, ◌∙◌, subst, inl, inr, ⊎_elim}
use Rattle.refusals.specs.declared.Refusal.{Refusal}
use Rattle.typing.specs.Questions.{Question, question, ask, AllYes, FirstNo}

pub yes_append : (a b : List Question) → AllYes a → AllYes b → AllYes (a ++ b)
yes_append [] b h k = k
yes_append (q ∷ a) b h k = (h.0, yes_append a b h.1 k)

pub yes_parts : (a b : List Question) → AllYes (a ++ b) → AllYes a × AllYes b
yes_parts [] b h = (tt, h)
yes_parts (q ∷ a) b h = let r = yes_parts a b h.1 in ((h.0, r.0), r.1)

-- all answers are "yes", or there is a first "no"
pub yes_or_no : (qs : List Question) → AllYes qs ⊎ ((r : Refusal) × FirstNo qs r)
yes_or_no [] = inl tt
yes_or_no (q ∷ qs) = go q.answer refl (yes_or_no qs)
  where
    go : (b : Bool) → q.answer ≡ b → AllYes qs ⊎ ((r : Refusal) × FirstNo qs r) → AllYes (q ∷ qs) ⊎ ((r : Refusal) × FirstNo (q ∷ qs) r)
    go true a (inl h) = inl (subst T (sym a) tt, h)
    go true a (inr n) =
        inr (
          n.0,
          record {
            before = q ∷ n.1.before;
            others = n.1.others;
            order = ap (λ (l : List Question). q ∷ l) n.1.order;
            yes_before = (subst T (sym a) tt, n.1.yes_before);
          },
        )
    go false a h =
        inr (
          q.refusal,
          record {
            before = [];
            others = qs;
            order = ap (λ (b : Bool). question b q.refusal ∷ qs) a;
            yes_before = tt;
          },
        )

pub all_asked : {A : Type 0} (no' : Refusal → A) (qs : List Question) (end : A) → AllYes qs → ask no' qs end ≡ end
unfolding ask
all_asked no' [] end h = refl
all_asked no' (q ∷ qs) end h = go q.answer h.0 (all_asked no' qs end h.1)
  where
    go : (b : Bool) → T b → ask no' qs end ≡ end → cond b (ask no' qs end) (no' q.refusal) ≡ end
    go true t e = e
    go false t e = absurd t

pub ask_append : {A : Type 0} (no' : Refusal → A) (a b : List Question) (end : A) → ask no' (a ++ b) end ≡ ask no' a (ask no' b end)
unfolding ask
ask_append no' [] b end = refl
ask_append {A} no' (q ∷ a) b end = ap (λ (v : A). cond q.answer v (no' q.refusal)) (ask_append no' a b end)

pub first_asked : {A : Type 0} (no' : Refusal → A) (qs : List Question) (end : A) (r : Refusal) → FirstNo qs r → ask no' qs end ≡ no' r
unfolding ask
first_asked no' qs end r n =
    ap (λ (l : List Question). ask no' l end) n.order
    ∙ ask_append no' n.before (question false r ∷ n.others) end
    ∙ all_asked no' n.before (no' r) n.yes_before

-- who gets an answer that is no refusal is answered "yes" throughout
pub end_asked : {A : Type 0} (no' : Refusal → A) (qs : List Question) (end x : A) → ((r : Refusal) → no' r ≡ x → ⊥)
    → ask no' qs end ≡ x → AllYes qs × (end ≡ x)
end_asked no' qs end x other e =
    ⊎_elim (λ h. (h, sym (all_asked no' qs end h) ∙ e))
    (λ n. absurd (other n.0 (sym (first_asked no' qs end n.0 n.1) ∙ e)))
    (yes_or_no qs)

-- what hands refusals on is done behind the questions
pub ask_through : {A B : Type 0} (no' : Refusal → A) (no'' : Refusal → B) (f : A → B) → ((r : Refusal) → f (no' r) ≡ no'' r)
    → (qs : List Question) (end : A) → f (ask no' qs end) ≡ ask no'' qs (f end)
unfolding ask
ask_through no' no'' f h [] end = refl
ask_through no' no'' f h (q ∷ qs) end = go q.answer (ask_through no' no'' f h qs end)
  where
    go : (b : Bool) → f (ask no' qs end) ≡ ask no'' qs (f end)
        → f (cond b (ask no' qs end) (no' q.refusal)) ≡ cond b (ask no'' qs (f end)) (no'' q.refusal)
    go true e = e
    go false e = h q.refusal

-- Where answers are made by `no'` of a refusal, each refusal is given exactly on its condition.
module _ {A : Type 0} (no' : Refusal → A) (end : A) (one : (p q : Refusal) → no' p ≡ no' q → p ≡ q)
    (other : (q : Refusal) → end ≡ no' q → ⊥) where
  pub refused_exactly : (qs : List Question) (q : Refusal) → (ask no' qs end ≡ no' q) ↔ FirstNo qs q
  refused_exactly qs q = (
    (λ e.
        ⊎_elim (λ h. absurd (other q (sym (all_asked no' qs end h) ∙ e)))
        (λ f. subst (FirstNo qs) (one f.0 q (sym (first_asked no' qs end f.0 f.1) ∙ e)) f.1)
        (yes_or_no qs)),
    (λ f. first_asked no' qs end q f),
  )
