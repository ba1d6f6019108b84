-- What `one_line_each` knows at each way out: the cells that the lines so far name are marked, each was named once. Assumes nothing.
use mathlib.Core.Path.{◌≡◌, refl, sym, ap, ◌∙◌, subst}
use mathlib.Core.Bool.{Bool, true, false, cond}
use mathlib.Core.List.{List, [], ◌∷◌, ◌++◌}
use mathlib.Core.Logic.{◌≢◌}
use Prim.Native.Nat.{ℕ, suc, ◌+◌, ◌≤◌, ◌<◌}
use native.Mathlib.Numerals.{add-one}
use native.Mathlib.Omega.{arith}
use lib.ListN.{length, get_or, set, take, drop, replicate, get_or-replicate}
use lib.Seq.{take-suc, take_all, split_at, get_or-set_same, get_or-set_other}
use Rattle.values.specs.Values.{lines_for, one_line_each}
use Rattle.values.specs.Laws.{OneLineEach, cell_cases, lines_here, lines_other, lines_append, test_says, test_so, as_many, none_twice}

-- cs are the cells that the lines so far name
pub record Seen (n : ℕ) (seen : List Bool) (cs : List ℕ) : Type 0 where
  pub marks : (k : ℕ) → k < n → lines_for k cs ≡ cond (get_or seen k false) 1 0
  pub none : (k : ℕ) → n ≤ k → lines_for k cs ≡ 0

mark_few : (b : Bool) → cond b 1 0 ≤ 1
mark_few true = omega arith
mark_few false = omega arith

pub nothing_seen : (n m : ℕ) → n ≤ m → Seen n (replicate m false) []
unfolding lines_for
nothing_seen n m h =
    record { marks = λ k g. ap (λ (b : Bool). cond b 1 0) (sym (get_or-replicate m k false false (omega arith))); none = λ k g. refl }

-- one line more, for cell c
module _ (n : ℕ) (seen : List Bool) (cs : List ℕ) (so_far : Seen n seen cs) (c : ℕ) (inside : c < n) where
  one_more : (k : ℕ) → lines_for k (cs ++ (c ∷ [])) ≡ lines_for k cs + lines_for k (c ∷ [])
  one_more k = lines_append k cs (c ∷ [])

  pub seen_next : c < length seen → get_or seen c false ≡ false → Seen n (set seen c true) (cs ++ (c ∷ []))
  unfolding lines_for
  seen_next room fresh =
      record {
        marks = λ k g.
            cell_cases c k
            (λ s.
            subst (λ (j : ℕ). lines_for j (cs ++ (c ∷ [])) ≡ cond (get_or (set seen c true) j false) 1 0) s
            (let zero-before : lines_for c cs ≡ 0 = so_far.marks c inside ∙ ap (λ (b : Bool). cond b 1 0) fresh in
            let now-one : lines_for c (cs ++ (c ∷ [])) ≡ 1 = omega (arith, one_more c, lines_here c c [] refl, zero-before) in
            now-one ∙ ap (λ (b : Bool). cond b 1 0) (sym (get_or-set_same seen c true false room))))
            (λ s.
            let same : lines_for k (cs ++ (c ∷ [])) ≡ lines_for k cs = omega (arith, one_more k, lines_other k c [] s) in
            same ∙ so_far.marks k g ∙ ap (λ (b : Bool). cond b 1 0) (sym (get_or-set_other seen c k true false (λ e. s (sym e)))));
        none = λ k g. omega (arith, one_more k, lines_other k c [] (λ s. omega arith), so_far.none k g);
      }

-- ---- the ways out

refused : (n : ℕ) (cs : List ℕ) → (OneLineEach n cs → ⊥) → false ≡ one_line_each n cs
refused n cs no' = go (one_line_each n cs) refl
  where
    go : (b : Bool) → one_line_each n cs ≡ b → false ≡ b
    go true e = absurd (no' (test_says n cs e))
    go false e = refl

pub uneven : (n : ℕ) (cs : List ℕ) → length cs ≢ n → false ≡ one_line_each n cs
uneven n cs h = refused n cs (λ p. h (as_many n cs p))

-- line i, which names cell c
module _ (n : ℕ) (cs : List ℕ) (i c : ℕ) (here : i < length cs) (is : c ≡ get_or cs i 0) where
  lines_split : (k : ℕ) → lines_for k cs ≡ lines_for k (take i cs) + lines_for k (c ∷ drop (suc i) cs)
  lines_split k =
      ap (lines_for k) (split_at cs i 0 here ∙ ap (λ (d : ℕ). take i cs ++ (d ∷ drop (suc i) cs)) (sym is))
      ∙ lines_append k (take i cs) (c ∷ drop (suc i) cs)

  pub other_cell : n ≤ c → false ≡ one_line_each n cs
  other_cell h = refused n cs (λ p. omega (arith, lines_split c, lines_here c c (drop (suc i) cs) refl, p.none c h))

  module _ (seen : List Bool) (so_far : Seen n seen (take i cs)) (inside : c < n) where
    pub cell_twice : get_or seen c false ≡ true → false ≡ one_line_each n cs
    cell_twice again =
        let before : lines_for c (take i cs) ≡ 1 = so_far.marks c inside ∙ ap (λ (b : Bool). cond b 1 0) again in
        refused n cs (λ p. omega (arith, lines_split c, lines_here c c (drop (suc i) cs) refl, before, p.one c inside))

    pub cell_once : c < length seen → get_or seen c false ≡ false → Seen n (set seen c true) (take (i + 1) cs)
    cell_once room fresh =
        subst (λ (ds : List ℕ). Seen n (set seen c true) ds)
        (sym (ap (λ (j : ℕ). take j cs) (add-one i) ∙ take-suc cs i 0 here ∙ ap (λ (d : ℕ). take i cs ++ (d ∷ [])) (sym is)))
        (seen_next n seen (take i cs) so_far c inside room fresh)

pub all_once : (n : ℕ) (cs : List ℕ) (i : ℕ) (seen : List Bool) → length cs ≡ n → n ≤ i → Seen n seen (take i cs) → true ≡ one_line_each n cs
all_once n cs i seen e h so_far =
    let all = subst (λ (ds : List ℕ). Seen n seen ds) (take_all i cs (omega arith)) so_far in
    sym (test_so n cs (none_twice n cs e (λ k g. subst (λ (m : ℕ). m ≤ 1) (sym (all.marks k g)) (mark_few (get_or seen k false))) all.none))
