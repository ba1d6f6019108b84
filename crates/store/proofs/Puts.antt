-- What reading and putting a cell do to the lists. Assumes nothing.
use mathlib.Core.Path.{◌≡◌, refl, sym, ap, ap₂, ◌∙◌}
use mathlib.Core.List.{List, [], ◌∷◌, ◌++◌}
use Prim.Native.Nat.{ℕ, zero, suc, ◌+◌, ◌-◌, ◌*◌, ◌/◌, ◌≤◌, ◌<◌}
use native.Mathlib.Omega.{arith}
use lib.IntN.{ℤ, pos}
use lib.ListN.{length, get_or, set, length-set, get_or-append, get_or-eq_default}
use lib.Seq.{get_or-append-add, set-append_left, set_out}
use mir.Syntax.{w32}
use mir.Val.{SFits, to_z, of_z}
use mir.ValLaws.{to_z-of_z}
use Rattle.std.specs.Int.{to_le_bytes, from_le_bytes}
use Rattle.store.proofs.Signs.{signed_is, bits_is}
use Rattle.store.specs.Cells.{signed_of, bits_of, cell_of, cells_of, left_over}
use Rattle.store.specs.Store.{store_of, frame_of}
use Rattle.store.specs.Laws.{reads_back, cells_length, cell_read, four_at, cell_put, left_over_put}

-- ---- cells in bytes

pub cell_outside : (l : List ℕ) (k : ℕ) → length l / 4 ≤ k → pos 0 ≡ get_or (cells_of l) k (pos 0)
cell_outside l k h = sym (get_or-eq_default (cells_of l) (pos 0) (omega (arith, h, cells_length l)))

module _ (l : List ℕ) (k : ℕ) (h : k < length l / 4) where
  last_below : 4 * k + 3 < length l
  last_below = omega arith

  pub cell_inside : (r : ℤ) → SFits w32 r
      → r ≡ to_z w32 (from_le_bytes w32 (get_or l (4 * k) 0 ∷ get_or l (4 * k + 1) 0 ∷ get_or l (4 * k + 2) 0 ∷ get_or l (4 * k + 3) 0 ∷ []))
      → to_z w32 (of_z w32 r) ≡ get_or (cells_of l) k (pos 0)
  cell_inside r f e = to_z-of_z w32 r f ∙ e ∙ signed_is _ ∙ ap signed_of (omega arith) ∙ sym (cell_read l k last_below)

  pub put_inside : (z : ℤ) (bs : List ℕ) → SFits w32 z → bs ≡ to_le_bytes w32 (of_z w32 (to_z w32 (of_z w32 z)))
      → (cells_of (four_at l k (get_or bs 0 0) (get_or bs 1 0) (get_or bs 2 0) (get_or bs 3 0)) ≡ set (cells_of l) k z)
      × ((length (four_at l k (get_or bs 0 0) (get_or bs 1 0) (get_or bs 2 0) (get_or bs 3 0)) ≡ length l)
      × (left_over (four_at l k (get_or bs 0 0) (get_or bs 1 0) (get_or bs 2 0) (get_or bs 3 0)) ≡ left_over l))
  put_inside z bs f e =
      let a = get_or bs 0 0 in
      let b = get_or bs 1 0 in
      let c = get_or bs 2 0 in
      let d = get_or bs 3 0 in
      let g : bs ≡ to_le_bytes w32 (bits_of z) = e ∙ ap (to_le_bytes w32) (ap (of_z w32) (to_z-of_z w32 z f) ∙ bits_is z) in
      let v : cell_of a b c d ≡ z =
      ap (λ (x : List ℕ). cell_of (get_or x 0 0) (get_or x 1 0) (get_or x 2 0) (get_or x 3 0)) g ∙ reads_back z f.sfits in (
        cell_put a b c d l k last_below ∙ ap (set (cells_of l) k) v,
        (simp length-set refl, left_over_put a b c d l k last_below),
      )

pub put_outside : (l : List ℕ) (k : ℕ) (z : ℤ) → length l / 4 ≤ k → cells_of l ≡ set (cells_of l) k z
put_outside l k z h = sym (set_out (cells_of l) k z (omega (arith, h, cells_length l)))

-- ---- both parts of a store

set_append_right : (xs ys : List ℤ) (i : ℕ) (z : ℤ) → length xs ≤ i → set (xs ++ ys) i z ≡ xs ++ set ys (i - length xs) z
set_append_right [] ys i z h = ap (λ (j : ℕ). set ys j z) (omega arith)
set_append_right (x ∷ xs) ys zero z h = absurd (omega arith)
set_append_right (x ∷ xs) ys (suc i) z h =
    ap (λ (l : List ℤ). x ∷ l) (set_append_right xs ys i z (omega arith) ∙ ap (λ (j : ℕ). xs ++ set ys j z) (omega arith))

-- a number as it is stored or handed on: itself
module _ (cs : List ℤ) (bs : List ℕ) (i : ℕ) where
  pub read_cells : SFits w32 (get_or cs i (pos 0)) → i < length cs → to_z w32 (of_z w32 (get_or cs i (pos 0))) ≡ get_or (store_of cs bs) i (pos 0)
  unfolding store_of
  read_cells f h = to_z-of_z w32 (get_or cs i (pos 0)) f ∙ sym (get_or-append cs (cells_of bs) (pos 0) i h)

  pub read_bytes : (r : ℤ) → SFits w32 r → length cs ≤ i → r ≡ get_or (cells_of bs) (i - length cs) (pos 0)
      → to_z w32 (of_z w32 r) ≡ get_or (store_of cs bs) i (pos 0)
  unfolding store_of
  read_bytes r f h q =
      let e : length cs + (i - length cs) ≡ i = omega arith in
      to_z-of_z w32 r f ∙ q ∙ sym (get_or-append-add cs (cells_of bs) (i - length cs) (pos 0))
      ∙ ap (λ (j : ℕ). get_or (cs ++ cells_of bs) j (pos 0)) e

  module _ (z : ℤ) (f : SFits w32 z) where
    pub put_cells : i < length cs
        → (store_of (set cs i (to_z w32 (of_z w32 z))) bs ≡ set (store_of cs bs) i z) × (frame_of (set cs i (to_z w32 (of_z w32 z))) bs ≡ frame_of cs bs)
    unfolding store_of frame_of
    put_cells h = (
      ap (λ (v : ℤ). set cs i v ++ cells_of bs) (to_z-of_z w32 z f) ∙ sym (set-append_left cs (cells_of bs) i z h),
      ap (λ (n : ℕ). (n, length bs, left_over bs)) (length-set cs i (to_z w32 (of_z w32 z))),
    )

    pub put_bytes : (bs' : List ℕ) → length cs ≤ i → cells_of bs' ≡ set (cells_of bs) (i - length cs) (to_z w32 (of_z w32 z))
        → (length bs' ≡ length bs) × (left_over bs' ≡ left_over bs) → (store_of cs bs' ≡ set (store_of cs bs) i z) × (frame_of cs bs' ≡ frame_of cs bs)
    unfolding store_of frame_of
    put_bytes bs' h e k = (
      ap (λ (l : List ℤ). cs ++ l) (e ∙ ap (set (cells_of bs) (i - length cs)) (to_z-of_z w32 z f)) ∙ sym (set_append_right cs (cells_of bs) i z h),
      ap₂ (λ (n : ℕ) (l : List ℕ). (length cs, n, l)) k.0 k.1,
    )
