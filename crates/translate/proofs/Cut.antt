-- A table of types cut behind its sound places: the types, and what a column notes, are as they were. Assumes nothing.
use mathlib.Core.Path.{◌≡◌, refl, sym}
use mathlib.Core.List.{List}
use Prim.Native.Nat.{ℕ, ◌<◌}
use native.Mathlib.Omega.{arith}
use lib.ListN.{length, get_or, take}
use lib.Seq.{length-take-le, get_or-take}
use Rattle.meaning.specs.Types.{DataType}
use Rattle.meaning.specs.Terms.{Term}
use Rattle.type_table.specs.Table.{type_at, SoundAt, Sound}
use Rattle.type_table.specs.Columns.{Names, Noted}
use Rattle.type_table.specs.Laws.{type_before}
use Rattle.row_typing.proofs.NotedLaws.{names_kept, noted_kept}

module _ (T : List ℕ) (m : ℕ) (S : Sound T m) where
  pub cut_length : length (take m T) ≡ m
  cut_length = length-take-le m T S.room

  cut_type : (i : ℕ) → i < m → type_at (take m T) i ≡ type_at T i
  cut_type i h = sym (type_before T m i S.room h)

  cut_at : (i : ℕ) → i < m → SoundAt (take m T) i
  cut_at i h =
      let A = S.each i h in
      let e : get_or (take m T) i 0 ≡ get_or T i 0 = get_or-take m T i 0 h in
      record {
        parts = rw e A.parts;
        its_cells = rw (e, cut_type i h) A.its_cells;
        its_levels = rw (e, cut_type i h) A.its_levels;
        within = rw (cut_type i h) A.within;
      }

  pub cut_sound : Sound (take m T) (length (take m T))
  cut_sound =
      record {
        room = omega arith;
        few = omega (arith, cut_length, S.few);
        each = λ i h. cut_at i (omega (arith, h, cut_length));
      }

  pub cut_names : {p : ℕ} {t : DataType} → Names T m p t → Names (take m T) (length (take m T)) p t
  cut_names n = names_kept T (take m T) (omega (arith, cut_length)) cut_type refl n

  pub cut_noted : (I Γ : List DataType) (e : Term) (C : List ℕ) → Noted T m I Γ e C → Noted (take m T) (length (take m T)) I Γ e C
  cut_noted I Γ e C N = noted_kept T (take m T) (omega (arith, cut_length)) cut_type I Γ e C C (record { same = λ i h. refl }) N
