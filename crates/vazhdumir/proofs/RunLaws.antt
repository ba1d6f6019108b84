-- What a run on a store lent as bytes alone comes to. Assumes nothing.
use Rattle.refusals.specs.Answers.{Answer}
use mathlib.Core.Path.{◌≡◌, refl, ap, ◌∙◌}
use mathlib.Core.List.{List, [], ◌∷◌}
use Prim.Native.Nat.{ℕ}
use lib.IntN.{ℤ}
use lib.ListN.{length, drop}
use Rattle.store.specs.Cells.{cells_of}
use Rattle.store.specs.Store.{store_of, frame_of}
use Rattle.store.specs.Laws.{store_of_bytes, parts_of_store}
use Rattle.run.specs.Run.{Ran, outcome}
use Rattle.vazhdumir.specs.Codes.{answer_code, RunCoded}

drop_none : {A : Type 0} (l : List A) → drop 0 l ≡ l
drop_none [] = refl
drop_none (x ∷ l) = refl

module _ (bs bs' : List ℕ) (cs' : List ℤ) (f : frame_of cs' bs' ≡ frame_of [] bs) where
  size_kept : length bs' ≡ length bs
  unfolding frame_of
  size_kept = ap (λ (x : ℕ × ℕ × List ℕ). x.1) f

  pub run_coded : (does : List ℤ → Ran) (a : Answer) (r : ℕ) → r ≡ answer_code a → outcome a (store_of cs' bs') ≡ does (store_of [] bs)
      → RunCoded (does (cells_of bs)) bs r bs'
  run_coded does a r c e =
      let all : outcome a (store_of cs' bs') ≡ does (cells_of bs) = e ∙ ap does (store_of_bytes bs) in
      let parts = parts_of_store [] cs' bs bs' (store_of cs' bs') refl f in
      record {
        answer = c ∙ ap (λ (x : Ran). answer_code x.answer) all;
        cells_left = parts.1 ∙ drop_none (store_of cs' bs') ∙ ap (λ (x : Ran). x.store) all;
        others_left = parts.2;
        length_left = size_kept;
      }
