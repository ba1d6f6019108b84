-- A region opened and written: what the command after it finds.
use Rattle.std.specs.Prelude.{◌≡◌, ◌⊎◌, List, ◌∷◌, ℕ, ◌+◌, length}
use Rattle.std.proofs.Common.{inl, inr, ⊎_elim}
use Rattle.meaning.specs.Types.{DataType, cells}
use Rattle.meaning.specs.Paths.{Path}
use Rattle.meaning.specs.Expressions.{Expression}
use Rattle.meaning.proofs.Laws.Layout.{Inside, Outside, Part, Apart, part_trans, inside_part, outside_part}
use Rattle.meaning.proofs.Laws.Layout.{apart_outside}
use Rattle.meaning.proofs.Laws.Paths.{PathOf, cell_of}
use Rattle.meaning.proofs.Laws.Levels.{extends_push}
use Rattle.meaning.proofs.Laws.Holds.{Setting, StateOf, Contents, cell_at, CellSet, innermost_region}
use Rattle.meaning.proofs.Laws.Holds.{holds_region}
use Rattle.meaning.proofs.Laws.Into.{whole_inside}
use Rattle.meaning.proofs.Laws.Claims.{AfterUse}

-- the cells of S, and the n cells from a on
abbrev pub Added : CellSet → ℕ → ℕ → CellSet
Added S a n x = S x ⊎ Inside a n x

-- In a whole room, N cells from a on, lie the region at b, of type t, and the room of the body, m cells from e on; they are apart. In the
-- body's room lies that of the continuation, n cells from x on. So the region's cells are new ones of the whole room, and outside the
-- continuation's.
pub region_onward : {S : CellSet} {a N b e m x n : ℕ} (t : DataType)
    → Part b (cells t) a N → Part e m a N → Apart b (cells t) e m → Part x n e m
    → ((y : ℕ) → S y → Outside a N y)
    → Part x n a N
    × ((y : ℕ) → Added S b (cells t) y → S y ⊎ Inside a N y)
    × ((y : ℕ) → Added S b (cells t) y → Outside x n y)
region_onward t region body apart onward free = (
  part_trans onward body,
  λ y. ⊎_elim (λ sy. inl sy) (λ i. inr (inside_part region i)),
  λ y.
      ⊎_elim
      (λ sy. outside_part (part_trans onward body) (free y sy))
      (λ i. outside_part onward (apart_outside apart i)),
)

-- And the region holds f.
pub region_after_use : {W : Setting} {cs rs : List ℕ} {S : CellSet} {a N b e m x n k : ℕ} {st st' : StateOf W}
    {f : Contents W} (t : DataType)
    → Part b (cells t) a N → Part e m a N → Apart b (cells t) e m → Part x n e m
    → ((y : ℕ) → S y → Outside a N y)
    → ((p : Path ℕ) → PathOf t p → cell_at W st'.store (b + cell_of t p) ≡ f p)
    → ((y : ℕ) → Outside a N y → cell_at W st'.store y ≡ cell_at W st.store y)
    → length st'.store ≡ length st.store
    → st'.writes ≡ st.writes + k
    → AfterUse W cs rs S a N st k (Expression.region (length rs) t) t f (b ∷ rs) (Added S b (cells t)) x n st'
region_after_use {W} {cs} {rs} {b} {e} {m} {x} {n} t region body apart onward free written kept same counted = record {
  extends = extends_push b rs;
  part = (region_onward t region body apart onward free).0;
  more = λ y sy. inl sy;
  only = (region_onward t region body apart onward free).1;
  free = (region_onward t region body apart onward free).2;
  kept = kept;
  same_length = same;
  counted = counted;
  holds = holds_region (length rs) b (innermost_region b rs) written (λ p ok. inr (whole_inside b t p ok));
}
