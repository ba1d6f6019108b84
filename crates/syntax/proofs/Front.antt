-- Rows at the front of a table: the first row, and the parts behind it. Assumes nothing.
use mathlib.Core.Path.{◌≡◌, refl, sym, ap, ◌∙◌}
use mathlib.Core.List.{List, [], ◌∷◌, ◌++◌, append_assoc}
use Prim.Native.Nat.{ℕ, suc, ◌-◌}
use native.Mathlib.Omega.{arith}
use lib.IntN.{ℤ, pos}
use lib.ListN.{length, get_or, take, drop, length-drop}
use lib.Seq.{drop_at}
use Rattle.words.specs.Kinds.{Row, rows_of}
use Rattle.syntax.specs.Standing.{Begins}
use Rattle.syntax.proofs.WalkSteps.{rows_part, part_all as part-whole}

-- what a callee is lent: the part that starts at a
abbrev pub part : {A : Type 0} → ℕ → List A → List A
part a l = take (length l - a) (drop a l)

pub part_all : {A : Type 0} (a : ℕ) (l : List A) → part a l ≡ drop a l
part_all a l = part-whole l a

pub part_length : {A : Type 0} (a : ℕ) (l : List A) → length (part a l) ≡ length l - a
part_length a l = ap length (part_all a l) ∙ length-drop a l

pub begins_none : (ks : List ℕ) (ns : List ℤ) (r : Row) (rs : List Row) → length ks ≡ 0 → Begins ks ns (r ∷ rs) → ⊥
unfolding rows_of
begins_none [] ns r rs e b = let z : 0 ≡ suc (length (rs ++ b.behind)) = ap (λ (l : List Row). length l) b.front in omega arith
begins_none (k ∷ ks) ns r rs e b = omega arith

-- the table from a on has the rows from a on
rows_behind : (a : ℕ) (ks : List ℕ) (ns : List ℤ) (xs rs : List Row) → rows_of ks ns ≡ xs ++ rs → length xs ≡ a → rows_of (part a ks) (part a ns) ≡ rs
rows_behind a ks ns xs rs e l = rows_part a ks ns ∙ ap (drop a) e ∙ drop_at xs rs a l

-- ---- the first row and its operands

pub head_row : (ks : List ℕ) (ns : List ℤ) (r : Row) (R : List Row) → rows_of ks ns ≡ r ∷ R → (get_or ks 0 0 ≡ r.0) × (get_or ns 0 (pos 0) ≡ r.1)
unfolding rows_of
head_row [] ns r R e = absurd (let z : ◌≡◌ {A = ℕ} 0 1 = cc in omega arith)
head_row (k ∷ ks) [] r R e = absurd (let z : ◌≡◌ {A = ℕ} 0 1 = cc in omega arith)
head_row (k ∷ ks) (n ∷ ns) r R e = let h : ◌≡◌ {A = Row} (k, n) r = cc in (ap (λ (x : Row). x.0) h, ap (λ (x : Row). x.1) h)

module _ {ks : List ℕ} {ns : List ℤ} {k : ℕ} {z : ℤ} where
  pub kind : {rs : List Row} → Begins ks ns ((k, z) ∷ rs) → get_or ks 0 0 ≡ k
  kind {rs} b = (head_row ks ns (k, z) (rs ++ b.behind) b.front).0

  pub number : {rs : List Row} → Begins ks ns ((k, z) ∷ rs) → get_or ns 0 (pos 0) ≡ z
  number {rs} b = (head_row ks ns (k, z) (rs ++ b.behind) b.front).1

  -- the rows behind the first
  pub next : {rs : List Row} → Begins ks ns ((k, z) ∷ rs) → Begins (part 1 ks) (part 1 ns) rs
  next {rs} b = record { behind = b.behind; front = rows_behind 1 ks ns ((k, z) ∷ []) (rs ++ b.behind) b.front refl }

-- of two operands: the first, and the second, m rows behind the table's start
pub fore : {ks : List ℕ} {ns : List ℤ} (xs ys : List Row) → Begins ks ns (xs ++ ys) → Begins ks ns xs
fore xs ys b = record { behind = ys ++ b.behind; front = b.front ∙ append_assoc xs ys b.behind }

pub hind : {ks : List ℕ} {ns : List ℤ} (xs ys : List Row) (m : ℕ) → m ≡ length xs → Begins ks ns (xs ++ ys) → Begins (part m ks) (part m ns) ys
hind {ks} {ns} xs ys m e b = record {
  behind = b.behind;
  front = rows_behind m ks ns xs (ys ++ b.behind) (b.front ∙ append_assoc xs ys b.behind) (sym e);
}
