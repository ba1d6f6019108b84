-- Maps are written and used rightly: a round for each element, in any order; and a region for the map that is used.
use Rattle.std.specs.Prelude.{refl, List, ◌∷◌, length}
use Prim.Native.Nat.{ℕ, suc, ◌+◌, ◌*◌}
use Rattle.std.proofs.Common.{arith}
use Rattle.meaning.specs.Types.{DataType, cells, array_length, element, array}
use Rattle.meaning.specs.Terms.{LoopKind}
use Rattle.meaning.specs.Loops.{Offset, Command, seq, loop, new}
use Rattle.meaning.specs.Layout.{room, first_room, second_room, round_room, region_room, body_room}
use Rattle.meaning.specs.Runs.{run}
use Rattle.meaning.specs.Paths.{Path, head_index, tail, index}
use Rattle.meaning.specs.Expressions.{Expression, Acceptor}
use Rattle.meaning.specs.Translation.{Write, Use, write_map, use_written}
use Rattle.meaning.specs.Counts.{map_writes}
use Rattle.meaning.proofs.Laws.Layout.{Outside, Part, part_trans, outside_part, apart_outside, first_inside}
use Rattle.meaning.proofs.Laws.Layout.{second_inside, round_inside, region_inside, body_inside, region_apart}
use Rattle.meaning.proofs.Laws.Paths.{PathOf, SamePaths, cell_of}
use Rattle.meaning.proofs.Laws.Levels.{extends_refl, extends_push}
use Rattle.meaning.proofs.Laws.PathValues.{element_at}
use Rattle.meaning.proofs.Laws.Holds.{Setting, StateOf, Contents, environment, Holds, innermost_counter}
use Rattle.meaning.proofs.Laws.Holds.{innermost_region, holds_on, holds_same, holds_index}
use Rattle.meaning.proofs.Laws.Into.{Into, into_on, into_index, whole_inside, whole_apart, into_region}
use Rattle.meaning.proofs.Laws.Wrote.{Wrote, wrote_inside}
use Rattle.meaning.proofs.Laws.Rounds.{loop_wrote}
use Rattle.meaning.proofs.Laws.Claims.{Precondition, precondition_on, precondition_part, precondition_push}
use Rattle.meaning.proofs.Laws.Claims.{UsesRightly, WritesRightly, precondition_after, into_after, wrote_after}
use Rattle.meaning.proofs.Laws.Regions.{Added, region_after_use}

module _ {W : Setting} {Γ : List DataType} where
  -- [6.13] A region for the map, which is written into it, and then C.
  pub use_written_holds : (writeE : Write) (t : DataType) (k : ℕ) (F : List (Contents W) → Contents W)
      → WritesRightly W writeE Γ t k F → UsesRightly W (use_written t writeE) Γ t k F
  unfolding use_written run
  use_written_holds writeE t k F writes Δ env cs rs S a st C G Q K ch =
      let w : Command = writeE Γ Δ (length cs) (suc (length rs)) (Acceptor.region (length rs) t) in
      let d : Command = C (Expression.region (length rs) t) (suc (length rs)) in
      let b : ℕ = region_room a (cells t) (seq w d) in
      let e : ℕ = body_room a (cells t) (seq w d) in
      let one : Part (first_room e w d) (room w) e (room (seq w d)) = first_inside e w d in
      let body : Part e (room (seq w d)) a (room (new (cells t) (seq w d))) = body_inside a (cells t) (seq w d) in
      let region : Part b (cells t) a (room (new (cells t) (seq w d))) = region_inside a (cells t) (seq w d) in
      let st₁ : StateOf W = run W.domain w ch.0 (environment W cs (b ∷ rs)) (first_room e w d) st in
      let H : Wrote W (λ p. b + cell_of t p) t (F env) (first_room e w d) (room w) k st st₁ =
      writes Δ env cs (b ∷ rs) S (first_room e w d) st (Acceptor.region (length rs) t) (λ p. b + cell_of t p)
      (precondition_part
      (precondition_on G (extends_refl cs) (extends_push b rs) (λ x sx. refl) (λ x sx. sx) G.free G.fits)
      (part_trans one body))
      (into_region (length rs) b t (innermost_region b rs) (omega (arith, region.below, G.fits))
      (λ not x sx. outside_part region (G.free x sx)))
      (λ p ok. outside_part one (apart_outside (region_apart a (cells t) (seq w d)) (whole_inside b t p ok)))
      ch.0 in
      K (b ∷ rs) (Added S b (cells t)) (second_room e w d) st₁ (Expression.region (length rs) t)
      (region_after_use t region body (region_apart a (cells t) (seq w d)) (second_inside e w d) G.free H.written
      (λ x o. H.kept x (whole_apart b t x (outside_part region o)) (outside_part (part_trans one body) o))
      H.same_length H.counted)
      ch.1

  -- [6.7] The array used, and a round for each element.
  pub write_map_rightly : (kind : LoopKind) (useA : Use) (writeB : Write) (ta tb : DataType) (ka kb : ℕ)
      (Fa Fb : List (Contents W) → Contents W)
      → SamePaths ta (array (array_length ta) (element ta)) → UsesRightly W useA Γ ta ka Fa
      → WritesRightly W writeB (element ta ∷ Γ) tb kb Fb
      → WritesRightly W (write_map kind ta useA writeB) Γ (array (array_length ta) tb) (map_writes ka (array_length ta) kb)
      (λ env p. Fb (element_at W.domain (Fa env) (head_index 0 p) ∷ env) (tail p))
  unfolding write_map run
  write_map_rightly kind useA writeB ta tb ka kb Fa Fb same uses writes Δ env cs rs S a st P g G I clear ch =
      let n : ℕ = array_length ta in
      let i₀ : Offset = Offset.counter (length cs) in
      let f : Contents W = λ p. Fb (element_at W.domain (Fa env) (head_index 0 p) ∷ env) (tail p) in
      let body : Expression → ℕ → Command =
      λ A r'. writeB (element ta ∷ Γ) (Expression.index A i₀ ∷ Δ) (suc (length cs)) r' (Acceptor.index P i₀) in
      let C : Expression → ℕ → Command = λ A r'. loop kind n (body A r') in
      let N : ℕ = room (useA Γ Δ (length cs) (length rs) C) in
      uses Δ env cs rs S a st C G (λ st''. Wrote W g (array n tb) f a N (ka + n * kb) st st'')
      (λ rs' S' a' st' A H ch'.
      let b : Command = body A (length rs') in
      let I' : Into W cs rs' P (array n tb) g S' (length st'.store) = into_after I clear H in
      let G' : Precondition W cs rs' st'.store S' Γ Δ env a' (room (loop kind n b)) = precondition_after G H in
      let h : Holds W cs rs' st'.store S' A (array n (element ta)) (Fa env) =
      holds_same same H.holds in
      let clear' : (p : Path ℕ) → PathOf (array n tb) p → Outside a' (room (loop kind n b)) (g p) =
      λ p ok. outside_part H.part (clear p ok) in
      wrote_after H H.part
      (loop_wrote W n tb g f a' (room (loop kind n b)) kb I'.distinct clear' S' st'.store (I'.apart refl) G'.free
      (λ i. run W.domain b (ch'.1 i) (environment W (i ∷ cs) rs') (round_room a' kind n b i))
      (λ i l st₁ ag ln.
      let round : Part (round_room a' kind n b i) (room b) a' (room (loop kind n b)) = round_inside a' kind n b i l in
      wrote_inside round
      (writes (Expression.index A i₀ ∷ Δ) (element_at W.domain (Fa env) i ∷ env) (i ∷ cs) rs' S'
      (round_room a' kind n b i) st₁ (Acceptor.index P i₀) (λ p. g (index i ∷ p))
      (precondition_push
      (precondition_part
      (precondition_on G' (extends_push i cs) (extends_refl rs') ag (λ x sx. sx) G'.free
      (omega (arith, G'.fits, ln)))
      round)
      (holds_index i₀ i (holds_on h (extends_push i cs) (extends_refl rs') ag (λ x sx. sx)) (innermost_counter i cs) l))
      (into_index i₀ i (innermost_counter i cs) l
      (into_on I' (extends_push i cs) (extends_refl rs') (omega (arith, ln)) I'.apart))
      (λ p ok. outside_part round (clear' (index i ∷ p) (l, ok)))
      (ch'.1 i)))
      kind ch'.0 st' (λ x sx. refl) refl))
      ch
