-- Rows handed over to a lent table: what each way out of `hand_over` knows. Assumes nothing.
use Rattle.std.specs.Prelude.{Ok, Err}
use mathlib.Core.Bool.{Bool, cond}
use mathlib.Core.Path.{◌≡◌, refl, sym, ap, ◌∙◌}
use mathlib.Core.List.{List, [], ◌∷◌, ◌++◌}
use Prim.Native.Nat.{ℕ, ◌≤◌, ◌<◌}
use native.Mathlib.Omega.{arith}
use lib.IntN.{ℤ}
use lib.ListN.{length, drop}
use Rattle.refusals.specs.declared.Refusal.TheVariants.{LentSize}
use Rattle.words.specs.Kinds.{Row, rows_of}
use Rattle.words.proofs.Laws.{rows_length}
use Rattle.lines.specs.Reading.{kinds_of, numbers_of}
use Rattle.lines.specs.Lent.{TableInto}
use Rattle.lines.proofs.TableLaws.{no_room, room_for_holds}

-- the columns of a table's rows
kinds_again : (ks : List ℕ) (ns : List ℤ) → length ks ≡ length ns → kinds_of (rows_of ks ns) ≡ ks
unfolding rows_of
kinds_again [] ns h = refl
kinds_again (k ∷ ks) [] h = absurd (omega arith)
kinds_again (k ∷ ks) (n ∷ ns) h = ap (λ (l : List ℕ). k ∷ l) (kinds_again ks ns (omega arith))

numbers_again : (ks : List ℕ) (ns : List ℤ) → length ks ≡ length ns → numbers_of (rows_of ks ns) ≡ ns
unfolding rows_of
numbers_again [] [] h = refl
numbers_again [] (n ∷ ns) h = absurd (omega arith)
numbers_again (k ∷ ks) [] h = absurd (omega arith)
numbers_again (k ∷ ks) (n ∷ ns) h = ap (λ (l : List ℤ). n ∷ l) (numbers_again ks ns (omega arith))

module _ (ks : List ℕ) (ns : List ℤ) (sizes : length ks ≡ length ns) (lk : List ℕ) (ln : List ℤ) where
  abbrev R : List Row
  R = rows_of ks ns

  count : length R ≡ length ks
  count = omega (arith, rows_length ks ns, sizes)

  pub few_rows : {room : ℕ} → room ≡ length (rows_of lk ln) → room < length ks → TableInto (Ok (length ks)) R lk ln (Err LentSize) lk ln
  few_rows e h = record {
    answer = ap (λ (b : Bool). cond b (Ok (length R)) (Err LentSize))
        (sym (no_room (length R) (length lk) (length ln) (omega (arith, count, rows_length lk ln))));
    kinds_left = refl;
    numbers_left = refl;
  }

  pub handed : {ks' : List ℕ} {ns' : List ℤ} → length ks ≤ length lk → length ks ≤ length ln → ks' ≡ ks → ns' ≡ ns
      → TableInto (Ok (length ks)) R lk ln (Ok (length ks)) (ks' ++ drop (length ks) lk) (ns' ++ drop (length ks) ln)
  handed h g p q = record {
    answer = ap Ok (sym count)
        ∙ ap (λ (b : Bool). cond b (Ok (length R)) (Err LentSize))
        (sym (room_for_holds (length R) (length lk) (length ln) (omega (arith, count)) (omega (arith, count))));
    kinds_left = ap (λ (l : List ℕ). l ++ drop (length ks) lk) p ∙ ap (λ (l : List ℕ). l ++ drop (length l) lk) (sym (kinds_again ks ns sizes));
    numbers_left = ap (λ (l : List ℤ). l ++ drop (length ks) ln) q ∙ ap (λ (i : ℕ). ns ++ drop i ln) sizes
        ∙ ap (λ (l : List ℤ). l ++ drop (length l) ln) (sym (numbers_again ks ns sizes));
  }
