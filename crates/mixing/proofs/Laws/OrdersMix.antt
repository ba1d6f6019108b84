-- Each order of rounds is a mixing: the steps of a run are one of the mixings.
use Rattle.std.specs.Prelude.{◌≡◌, refl, ℕ}
use Rattle.std.proofs.Common.{sym, ap, ◌∙◌, subst, inl, inr, ⊎_elim}
use mathlib.Core.List.{List, [], ◌∷◌, ◌++◌, map, Permᴰ}
use mathlib.Core.List.{cons-ne-nil}
use Rattle.meaning.specs.Terms.{LoopKind}
use Rattle.meaning.specs.Sequence.{up_from}
use Rattle.meaning.specs.Loops.{Command, seq, loop, new}
use Rattle.meaning.specs.Layout.{first_room, second_room, round_room, region_room, body_room}
use Rattle.meaning.specs.Runs.{Order, rounds_in, Orders, Environment, with_counter, with_region}
use Rattle.meaning.specs.Steps.{SetStep, steps_of_rounds, steps}
use Rattle.mixing.specs.Mixing.{Takes, AllEnded, Mixed, joined, Together, OneEach, Mixing}

-- rounds one after the other are a mixing
ended_first : (xs : List (List SetStep)) (l : List SetStep) → Mixed xs l → Mixed ([] ∷ xs) l
ended_first xs [] m = (refl, m)
ended_first xs (s ∷ l) m = ([] ∷ m.0, inr (refl, m.1), ended_first m.0 l m.2)

begun_first : (x : List SetStep) (xs : List (List SetStep)) (l : List SetStep) → Mixed xs l → Mixed (x ∷ xs) (x ++ l)
begun_first [] xs l m = ended_first xs l m
begun_first (s ∷ x) xs l m = (x ∷ xs, inl (refl, refl), begun_first x xs l m)

joined_mixed : (xs : List (List SetStep)) → Mixed xs (joined xs)
joined_mixed [] = tt
joined_mixed (x ∷ xs) = begun_first x xs (joined xs) (joined_mixed xs)

-- the rounds may be listed in any order

ended_permuted : {xs ys : List (List SetStep)} → Permᴰ xs ys → AllEnded xs → AllEnded ys
ended_permuted Permᴰ.nil h = h
ended_permuted (Permᴰ.cons e d) h = (sym e ∙ h.0, ended_permuted d h.1)
ended_permuted (Permᴰ.swap e f) h = (sym f ∙ h.1.0, (sym e ∙ h.0, h.1.1))
ended_permuted (Permᴰ.trans d f) h = ended_permuted f (ended_permuted d h)

-- taking a step of a round that stands elsewhere
abbrev TakesToo : SetStep → List (List SetStep) → List (List SetStep) → Type 0
TakesToo s xs' ys = (ys' : List (List SetStep)) × Takes s ys ys' × Permᴰ xs' ys'

takes_permuted : (s : SetStep) {xs ys : List (List SetStep)} → Permᴰ xs ys → (xs' : List (List SetStep)) → Takes s xs xs' → TakesToo s xs' ys
takes_permuted s Permᴰ.nil xs' t = absurd t
takes_permuted s (Permᴰ.cons e d) [] t = absurd t
takes_permuted s (Permᴰ.cons {a} {b} {l₁} {l₂} e d) (c ∷ l) t =
    ⊎_elim
    (λ h.
    (c ∷ l₂, inl (sym e ∙ h.0, refl), Permᴰ.cons refl (subst (λ (r : List (List SetStep)). Permᴰ r l₂) h.1 d)))
    (λ h.
    let r : TakesToo s l l₂ = takes_permuted s d l h.1 in
    (b ∷ r.0, inr (refl, r.1), Permᴰ.cons (sym h.0 ∙ e) r.2))
    t
takes_permuted s (Permᴰ.swap e f) [] t = absurd t
takes_permuted s (Permᴰ.swap {a} {b} {a'} {b'} {l} e f) (c ∷ []) t =
    ⊎_elim (λ h. absurd (cons-ne-nil b l h.1)) (λ h. absurd h.1) t
takes_permuted s (Permᴰ.swap {a} {b} {a'} {b'} {l} e f) (c ∷ d ∷ m) t =
    ⊎_elim
    (λ h. (
      a' ∷ c ∷ l,
      inr (refl, inl (sym e ∙ h.0, refl)),
      subst (λ (r : List (List SetStep)). Permᴰ (c ∷ r) (a' ∷ c ∷ l)) h.1 (Permᴰ.swap refl f),
    ))
    (λ h.
    ⊎_elim
    (λ k. (
      d ∷ b' ∷ l,
      inl (sym f ∙ k.0, refl),
      subst (λ (r : List (List SetStep)). Permᴰ (c ∷ d ∷ r) (d ∷ b' ∷ l)) k.1 (Permᴰ.swap (sym h.0 ∙ e) refl),
    ))
    (λ k. (a' ∷ b' ∷ m, inr (refl, inr (refl, k.1)), Permᴰ.swap (sym h.0 ∙ e) (sym k.0 ∙ f)))
    h.1)
    t
takes_permuted s (Permᴰ.trans {l₁} {l₂} {l₃} d f) xs' t =
    let r : TakesToo s xs' l₂ = takes_permuted s d xs' t in
    let q : TakesToo s r.0 l₃ = takes_permuted s f r.0 r.1 in
    (q.0, q.1, Permᴰ.trans r.2 q.2)

mixed_permuted : {xs ys : List (List SetStep)} → Permᴰ xs ys → (l : List SetStep) → Mixed xs l → Mixed ys l
mixed_permuted {xs} {ys} d [] m = ended_permuted d m
mixed_permuted {xs} {ys} d (s ∷ l) m =
    let r : TakesToo s m.0 ys = takes_permuted s d m.0 m.1 in
    (r.0, r.1, mixed_permuted {xs = m.0} {ys = r.0} r.2 l m.2)

-- A run's steps

map_permuted : (f : ℕ → List SetStep) {is js : List ℕ} → Permᴰ is js → Permᴰ (map f is) (map f js)
map_permuted f Permᴰ.nil = Permᴰ.nil
map_permuted f (Permᴰ.cons e d) = Permᴰ.cons (ap f e) (map_permuted f d)
map_permuted f (Permᴰ.swap e g) = Permᴰ.swap (ap f e) (ap f g)
map_permuted f (Permᴰ.trans d e) = Permᴰ.trans (map_permuted f d) (map_permuted f e)

rounds_joined : (f : ℕ → List SetStep) (is : List ℕ) → steps_of_rounds is f ≡ joined (map f is)
rounds_joined f [] = refl
rounds_joined f (i ∷ is) = ap (λ (l : List SetStep). f i ++ l) (rounds_joined f is)

one_each_map : (Round : ℕ → List SetStep → Type 0) (f : ℕ → List SetStep) → ((i : ℕ) → Round i (f i))
    → (is : List ℕ) → OneEach is Round (map f is)
one_each_map Round f h [] = tt
one_each_map Round f h (i ∷ is) = (h i, one_each_map Round f h is)

permuted_mixed : (f : ℕ → List SetStep) {is js : List ℕ} → Permᴰ is js → Mixed (map f js) (steps_of_rounds is f)
permuted_mixed f {is} {js} d =
    mixed_permuted (map_permuted f d) (steps_of_rounds is f)
    (subst (Mixed (map f is)) (sym (rounds_joined f is)) (joined_mixed (map f is)))

steps_together : (kind : LoopKind) (n : ℕ) (o : Order kind n) (f : ℕ → List SetStep)
    → Together kind (map f (up_from 0 n)) (steps_of_rounds (rounds_in kind n o) f)
steps_together LoopKind.parallel n o f = permuted_mixed f o.1
steps_together LoopKind.sequential n o f = rounds_joined f (up_from 0 n)
steps_together LoopKind.lanes n o f = permuted_mixed f o.1

pub steps_mixing : (c : Command) (ch : Orders c) (ρ : Environment) (a : ℕ) → Mixing c ρ a (steps c ch ρ a)
unfolding Mixing steps
steps_mixing (Command.assignment p v) ch ρ a = refl
steps_mixing (seq c d) ch ρ a = (
  steps c ch.0 ρ (first_room a c d),
  steps d ch.1 ρ (second_room a c d),
  steps_mixing c ch.0 ρ (first_room a c d),
  steps_mixing d ch.1 ρ (second_room a c d),
  refl,
)
steps_mixing (loop kind n b) ch ρ a =
    let f : ℕ → List SetStep = λ i. steps b (ch.1 i) (with_counter i ρ) (round_room a kind n b i) in (
      map f (up_from 0 n),
      one_each_map (λ i x. Mixing b (with_counter i ρ) (round_room a kind n b i) x) f
          (λ i. steps_mixing b (ch.1 i) (with_counter i ρ) (round_room a kind n b i)) (up_from 0 n),
      steps_together kind n ch.0 f,
    )
steps_mixing (new c b) ch ρ a = steps_mixing b ch (with_region (region_room a c b) ρ) (body_room a c b)
