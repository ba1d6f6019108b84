-- All mixings of loops in one list, so that tests can count them; and that the list has the mixings and nothing else.
use Rattle.std.specs.Prelude.{◌≡◌, refl, ◌⊎◌, ◌↔◌, List, [], ◌∷◌, ◌++◌, map, ℕ, zero, suc, ◌+◌}
use Rattle.std.proofs.Common.{sym, ap, subst, inl, inr, ⊎_elim, arith}
use Rattle.meaning.specs.Loops.{Loops}
use Rattle.meaning.specs.Layout.{regions_from}
use Rattle.meaning.specs.Runs.{start_of}
use Rattle.meaning.specs.Steps.{SetStep}
use Rattle.mixing.specs.Mixing.{MixingOf}
use Rattle.mixing.specs.Cores.{Work, work_of, Ended, Goes, Done}
use Rattle.mixing.proofs.Laws.CoresMix.{mixing_done, done_mixing}

-- The list

-- a step that some core can do next, and what is left then
abbrev pub Next : Type 0
Next = SetStep × Work

unfoldable pub steps_left : Work → ℕ
steps_left Work.nothing = 0
steps_left (Work.one s) = 1
steps_left (Work.then v w) = steps_left v + steps_left w
steps_left (Work.beside v w) = steps_left v + steps_left w

-- the list, where no step is left before it
unfoldable pub where_none : {A : Type 0} → ℕ → List A → List A
where_none zero l = l
where_none (suc k) l = []

-- the same step in greater work, f saying what is left of that
abbrev pub step_in : (Work → Work) → Next → Next
step_in f g = (g.0, f g.1)

unfoldable pub nexts : Work → List Next
nexts Work.nothing = []
nexts (Work.one s) = (s, Work.nothing) ∷ []
nexts (Work.then v w) =
    map (step_in (λ u. Work.then u w)) (nexts v) ++ where_none (steps_left v) (map (step_in (λ u. Work.then v u)) (nexts w))
nexts (Work.beside v w) = map (step_in (λ u. Work.beside u w)) (nexts v) ++ map (step_in (λ u. Work.beside v u)) (nexts w)

-- what is made of each, one after the other
unfoldable pub flat : {A B : Type 0} → (A → List B) → List A → List B
flat f [] = []
flat f (x ∷ l) = f x ++ flat f l

-- all ways to do work of k steps
unfoldable pub all_ways : ℕ → Work → List (List SetStep)
all_ways zero w = [] ∷ []
all_ways (suc k) w = flat (λ (g : Next). map (λ (l : List SetStep). g.0 ∷ l) (all_ways k g.1)) (nexts w)

unfoldable pub mixings : Loops → List (List SetStep)
mixings L = all_ways (steps_left (work_of L)) (work_of L)

-- Some element of a list

abbrev pub Some : {A : Type 0} → (A → Type 0) → List A → Type 0
Some P [] = ⊥
Some P (x ∷ l) = P x ⊎ Some P l

some_left : {A : Type 0} (P : A → Type 0) (l m : List A) → Some P l → Some P (l ++ m)
some_left P [] m h = absurd h
some_left P (x ∷ l) m h = ⊎_elim (λ p. inl p) (λ r. inr (some_left P l m r)) h

some_right : {A : Type 0} (P : A → Type 0) (l m : List A) → Some P m → Some P (l ++ m)
some_right P [] m h = h
some_right P (x ∷ l) m h = inr (some_right P l m h)

some_append : {A : Type 0} (P : A → Type 0) (l m : List A) → Some P (l ++ m) → Some P l ⊎ Some P m
some_append P [] m h = inr h
some_append P (x ∷ l) m h =
    ⊎_elim (λ p. inl (inl p)) (λ r. ⊎_elim (λ q. inl (inr q)) (λ q. inr q) (some_append P l m r)) h

some_map : {A B : Type 0} (P : B → Type 0) (f : A → B) (l : List A) → Some P (map f l) → Some (λ x. P (f x)) l
some_map P f [] h = h
some_map P f (x ∷ l) h = ⊎_elim (λ p. inl p) (λ r. inr (some_map P f l r)) h

map_some : {A B : Type 0} (P : B → Type 0) (f : A → B) (l : List A) → Some (λ x. P (f x)) l → Some P (map f l)
map_some P f [] h = h
map_some P f (x ∷ l) h = ⊎_elim (λ p. inl p) (λ r. inr (map_some P f l r)) h

some_flat : {A B : Type 0} (P : B → Type 0) (f : A → List B) (l : List A)
    → Some P (flat f l) → Some (λ x. Some P (f x)) l
unfolding flat
some_flat P f [] h = h
some_flat P f (x ∷ l) h = ⊎_elim (λ p. inl p) (λ r. inr (some_flat P f l r)) (some_append P (f x) (flat f l) h)

flat_some : {A B : Type 0} (P : B → Type 0) (f : A → List B) (l : List A)
    → Some (λ x. Some P (f x)) l → Some P (flat f l)
unfolding flat
flat_some P f [] h = h
flat_some P f (x ∷ l) h =
    ⊎_elim (λ p. some_left P (f x) (flat f l) p) (λ r. some_right P (f x) (flat f l) (flat_some P f l r)) h

some_where_none : {A : Type 0} (P : A → Type 0) (k : ℕ) (l : List A) → Some P (where_none k l) → (k ≡ 0) × Some P l
unfolding where_none
some_where_none P zero l h = (refl, h)
some_where_none P (suc k) l h = absurd h

where_none_some : {A : Type 0} (P : A → Type 0) (k : ℕ) (l : List A) → k ≡ 0 → Some P l → Some P (where_none k l)
unfolding where_none
where_none_some P k l e h = subst (λ (j : ℕ). Some P (where_none j l)) (sym e) h

-- The steps left

ended_none : (w : Work) → Ended w → steps_left w ≡ 0
unfolding steps_left
ended_none Work.nothing e = refl
ended_none (Work.one s) e = absurd e
ended_none (Work.then v w) e = let p = ended_none v e.0 in let q = ended_none w e.1 in omega arith
ended_none (Work.beside v w) e = let p = ended_none v e.0 in let q = ended_none w e.1 in omega arith

none_ended : (w : Work) → steps_left w ≡ 0 → Ended w
unfolding steps_left
none_ended Work.nothing e = tt
none_ended (Work.one s) e = absurd (omega arith)
none_ended (Work.then v w) e = (none_ended v (omega arith), none_ended w (omega arith))
none_ended (Work.beside v w) e = (none_ended v (omega arith), none_ended w (omega arith))

goes_one : (w : Work) (s : SetStep) (left : Work) → Goes w s left → steps_left w ≡ suc (steps_left left)
unfolding steps_left
goes_one Work.nothing s left g = absurd g
goes_one (Work.one u) s left g = sym (ap (λ (x : Work). suc (steps_left x)) g.1)
goes_one (Work.then v w) s left g =
    ⊎_elim
    (λ h. let e = ap steps_left h.2 in let r = goes_one v s h.0 h.1 in omega arith)
    (λ h. let e = ap steps_left h.3 in let r = goes_one w s h.0 h.2 in omega arith)
    g
goes_one (Work.beside v w) s left g =
    ⊎_elim
    (λ h. let e = ap steps_left h.2 in let r = goes_one v s h.0 h.1 in omega arith)
    (λ h. let e = ap steps_left h.2 in let r = goes_one w s h.0 h.1 in omega arith)
    g

-- The next steps

-- w is a part of greater work, of which f says what is left
listed_in : (f : Work → Work) (w : Work) (P : Next → Type 0) (s : SetStep) (left : Work)
    → ((Q : Next → Type 0) → Q (s, left) → Some Q (nexts w)) → P (s, f left) → Some P (map (step_in f) (nexts w))
listed_in f w P s left h p = map_some P (step_in f) (nexts w) (h (λ x. P (step_in f x)) p)

goes_listed : (w : Work) (s : SetStep) (left : Work) → Goes w s left
    → (P : Next → Type 0) → P (s, left) → Some P (nexts w)
unfolding nexts
goes_listed Work.nothing s left g P p = absurd g
goes_listed (Work.one u) s left g P p =
    inl (subst (λ (x : SetStep). P (x, Work.nothing)) (sym g.0) (subst (λ (x : Work). P (s, x)) g.1 p))
goes_listed (Work.then v w) s left g P p =
    ⊎_elim
    (λ h.
    some_left P (map (step_in (λ u. Work.then u w)) (nexts v)) _
    (listed_in (λ u. Work.then u w) v P s h.0 (goes_listed v s h.0 h.1) (subst (λ (x : Work). P (s, x)) h.2 p)))
    (λ h.
    some_right P (map (step_in (λ u. Work.then u w)) (nexts v)) _
    (where_none_some P (steps_left v) _ (ended_none v h.1)
    (listed_in (λ u. Work.then v u) w P s h.0 (goes_listed w s h.0 h.2) (subst (λ (x : Work). P (s, x)) h.3 p))))
    g
goes_listed (Work.beside v w) s left g P p =
    ⊎_elim
    (λ h.
    some_left P (map (step_in (λ u. Work.beside u w)) (nexts v)) _
    (listed_in (λ u. Work.beside u w) v P s h.0 (goes_listed v s h.0 h.1) (subst (λ (x : Work). P (s, x)) h.2 p)))
    (λ h.
    some_right P (map (step_in (λ u. Work.beside u w)) (nexts v)) _
    (listed_in (λ u. Work.beside v u) w P s h.0 (goes_listed w s h.0 h.1) (subst (λ (x : Work). P (s, x)) h.2 p)))
    g

abbrev Going : (Next → Type 0) → Work → Type 0
Going P w = (s : SetStep) × (left : Work) × Goes w s left × P (s, left)

going_in : (f : Work → Work) (w : Work) (P : Next → Type 0) → ((Q : Next → Type 0) → Some Q (nexts w) → Going Q w)
    → Some P (map (step_in f) (nexts w)) → Going (λ x. P (step_in f x)) w
going_in f w P h k = h (λ x. P (step_in f x)) (some_map P (step_in f) (nexts w) k)

listed_goes : (w : Work) (P : Next → Type 0) → Some P (nexts w) → Going P w
unfolding nexts
listed_goes Work.nothing P h = absurd h
listed_goes (Work.one s) P h = ⊎_elim (λ p. (s, Work.nothing, (refl, refl), p)) (λ n. absurd n) h
listed_goes (Work.then v w) P h =
    ⊎_elim
    (λ k.
    let r = going_in (λ u. Work.then u w) v P (listed_goes v) k in
    (r.0, Work.then r.1 w, inl (r.1, r.2, refl), r.3))
    (λ k.
    let m = some_where_none P (steps_left v) _ k in
    let r = going_in (λ u. Work.then v u) w P (listed_goes w) m.1 in
    (r.0, Work.then v r.1, inr (r.1, none_ended v m.0, r.2, refl), r.3))
    (some_append P (map (step_in (λ u. Work.then u w)) (nexts v)) _ h)
listed_goes (Work.beside v w) P h =
    ⊎_elim
    (λ k.
    let r = going_in (λ u. Work.beside u w) v P (listed_goes v) k in
    (r.0, Work.beside r.1 w, inl (r.1, r.2, refl), r.3))
    (λ k.
    let r = going_in (λ u. Work.beside v u) w P (listed_goes w) k in
    (r.0, Work.beside v r.1, inr (r.1, r.2, refl), r.3))
    (some_append P (map (step_in (λ u. Work.beside u w)) (nexts v)) _ h)

-- All ways

done_listed : (k : ℕ) (w : Work) (l : List SetStep) → Done w l → steps_left w ≡ k
    → (P : List SetStep → Type 0) → P l → Some P (all_ways k w)
unfolding all_ways
done_listed zero w [] d e P p = inl p
done_listed zero w (s ∷ l) d e P p = absurd (let o = goes_one w s d.0 d.1 in omega arith)
done_listed (suc k) w [] d e P p = absurd (let o = ended_none w d in omega arith)
done_listed (suc k) w (s ∷ l) d e P p =
    flat_some P (λ (g : Next). map (λ (m : List SetStep). g.0 ∷ m) (all_ways k g.1)) (nexts w)
    (goes_listed w s d.0 d.1 (λ g. Some P (map (λ (m : List SetStep). g.0 ∷ m) (all_ways k g.1)))
    (map_some P (λ (m : List SetStep). s ∷ m) (all_ways k d.0)
    (done_listed k d.0 l d.2 (let o = goes_one w s d.0 d.1 in omega arith) (λ m. P (s ∷ m)) p)))

abbrev DoneTo : (List SetStep → Type 0) → Work → Type 0
DoneTo P w = (l : List SetStep) × Done w l × P l

listed_done : (k : ℕ) (w : Work) → steps_left w ≡ k → (P : List SetStep → Type 0) → Some P (all_ways k w) → DoneTo P w
unfolding all_ways
listed_done zero w e P h = ⊎_elim (λ p. ([], none_ended w e, p)) (λ n. absurd n) h
listed_done (suc k) w e P h =
    let g : Going (λ x. Some P (map (λ (m : List SetStep). x.0 ∷ m) (all_ways k x.1))) w =
    listed_goes w (λ x. Some P (map (λ (m : List SetStep). x.0 ∷ m) (all_ways k x.1)))
    (some_flat P (λ (x : Next). map (λ (m : List SetStep). x.0 ∷ m) (all_ways k x.1)) (nexts w) h) in
    let r : DoneTo (λ m. P (g.0 ∷ m)) g.1 =
    listed_done k g.1 (let o = goes_one w g.0 g.1 g.2 in omega arith) (λ m. P (g.0 ∷ m))
    (some_map P (λ (m : List SetStep). g.0 ∷ m) (all_ways k g.1) g.3) in
    (g.0 ∷ r.0, (g.1, g.2, r.1), r.2)

pub mixings_listed : (L : Loops) (l : List SetStep) → MixingOf L l ↔ Some (λ m. l ≡ m) (mixings L)
unfolding MixingOf work_of mixings
mixings_listed L l = (
  λ m.
      done_listed (steps_left (work_of L)) (work_of L) l (mixing_done L.command (start_of L) (regions_from L) l m) refl
      (λ x. l ≡ x) refl,
  λ h.
      let r : DoneTo (λ x. l ≡ x) (work_of L) = listed_done (steps_left (work_of L)) (work_of L) refl (λ x. l ≡ x) h in
      done_mixing L.command (start_of L) (regions_from L) l (subst (Done (work_of L)) (sym r.2) r.1),
)
