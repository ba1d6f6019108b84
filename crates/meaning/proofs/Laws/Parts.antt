-- Pairs, zips and regrouped arrays are written rightly: their operands are written into parts of the place.
use Rattle.std.proofs.Math.Path.{refl}
use Rattle.std.specs.Prelude.{List, ◌∷◌, length}
use Prim.Native.Nat.{ℕ, ◌+◌, ◌*◌}
use Rattle.std.proofs.Common.{arith}
use Rattle.meaning.specs.Types.{DataType, array}
use Rattle.meaning.specs.Loops.{Command, seq}
use Rattle.meaning.specs.Layout.{room, first_room, second_room}
use Rattle.meaning.specs.Runs.{run}
use Rattle.meaning.specs.Paths.{Path, tail, by_part, index, first, second}
use Rattle.meaning.specs.Expressions.{Expression, Acceptor}
use Rattle.meaning.specs.Translation.{Write}
use Rattle.meaning.proofs.Laws.Groups.{group_below, quotient_below, remainder_below}
use Rattle.meaning.proofs.Laws.Layout.{Outside, Part, outside_part, first_inside, second_inside}
use Rattle.meaning.proofs.Laws.Paths.{on_array, on_groups, flat_path, group_path, unzipped_path, zipped_path}
use Rattle.meaning.proofs.Laws.Levels.{extends_refl}
use Rattle.meaning.proofs.Laws.Holds.{Setting, StateOf, Contents, environment, CellSet}
use Rattle.meaning.proofs.Laws.Into.{NotAt, Into, into_on, into_first, into_second, into_zip_first}
use Rattle.meaning.proofs.Laws.Into.{into_zip_second, into_split, into_join}
use Rattle.meaning.proofs.Laws.Wrote.{Wrote, wrote_inside, pair_wrote, zip_wrote, split_wrote, join_wrote}
use Rattle.meaning.proofs.Laws.Claims.{Precondition, precondition_on, precondition_part, WritesRightly}

module _ {W : Setting} {Γ : List DataType} where
  -- what a second write finds after the first
  precondition_second : {cs rs : List ℕ} {S : CellSet} {Δ : List Expression} {env : List (Contents W)} {a n b m : ℕ}
      {st st₁ : StateOf W} {g : Path ℕ → ℕ} {t : DataType} {f : Contents W} {k : ℕ} (part : Part b m a n)
      → Precondition W cs rs st.store S Γ Δ env a n
      → ((x : ℕ) → S x → NotAt t g x)
      → Wrote W g t f a n k st st₁
      → Precondition W cs rs st₁.store S Γ Δ env b m
  precondition_second {cs} {rs} part G apart H =
      precondition_part
      (precondition_on G (extends_refl cs) (extends_refl rs)
      (λ x sx. H.kept x (apart x sx) (G.free x sx)) (λ x sx. sx)
      G.free (omega (arith, H.same_length, G.fits)))
      part

  pub write_pair : (writeE writeF : Write) (s t : DataType) (k₁ k₂ : ℕ) (F₁ F₂ : List (Contents W) → Contents W)
      → WritesRightly W writeE Γ s k₁ F₁ → WritesRightly W writeF Γ t k₂ F₂
      → WritesRightly W (λ G D c r P. seq (writeE G D c r (Acceptor.first P)) (writeF G D c r (Acceptor.second P)))
      Γ (DataType.pair s t) (k₁ + k₂) (λ env p. by_part p (F₁ env (tail p)) (F₂ env (tail p)))
  unfolding run
  write_pair writeE writeF s t k₁ k₂ F₁ F₂ writes₁ writes₂ Δ env cs rs S a st P g G I clear ch =
      let c : Command = writeE Γ Δ (length cs) (length rs) (Acceptor.first P) in
      let d : Command = writeF Γ Δ (length cs) (length rs) (Acceptor.second P) in
      let one : Part (first_room a c d) (room c) a (room (seq c d)) = first_inside a c d in
      let two : Part (second_room a c d) (room d) a (room (seq c d)) = second_inside a c d in
      let st₁ : StateOf W = run W.domain c ch.0 (environment W cs rs) (first_room a c d) st in
      let H : Wrote W (λ p. g (first ∷ p)) s (F₁ env) a (room (seq c d)) k₁ st st₁ =
      wrote_inside one
      (writes₁ Δ env cs rs S (first_room a c d) st (Acceptor.first P) (λ p. g (first ∷ p)) (precondition_part G one)
      (into_first I) (λ p ok. outside_part one (clear (first ∷ p) ok)) ch.0) in
      pair_wrote I.distinct clear H
      (wrote_inside two
      (writes₂ Δ env cs rs S (second_room a c d) st₁ (Acceptor.second P) (λ p. g (second ∷ p))
      (precondition_second two G (λ x sx p ok. I.apart refl x sx (first ∷ p) ok) H)
      (into_on (into_second I) (extends_refl cs) (extends_refl rs) (omega (arith, H.same_length))
      (into_second I).apart)
      (λ p ok. outside_part two (clear (second ∷ p) ok)) ch.1))

  pub write_zip : (writeE writeF : Write) (n : ℕ) (s t : DataType) (k₁ k₂ : ℕ) (F₁ F₂ : List (Contents W) → Contents W)
      → WritesRightly W writeE Γ (array n s) k₁ F₁ → WritesRightly W writeF Γ (array n t) k₂ F₂
      → WritesRightly W
      (λ G D c r P. seq (writeE G D c r (Acceptor.zip_first P)) (writeF G D c r (Acceptor.zip_second P)))
      Γ (array n (DataType.pair s t)) (k₁ + k₂)
      (λ env p. by_part (tail p) (F₁ env (unzipped_path p)) (F₂ env (unzipped_path p)))
  unfolding run
  write_zip writeE writeF n s t k₁ k₂ F₁ F₂ writes₁ writes₂ Δ env cs rs S a st P g G I clear ch =
      let c : Command = writeE Γ Δ (length cs) (length rs) (Acceptor.zip_first P) in
      let d : Command = writeF Γ Δ (length cs) (length rs) (Acceptor.zip_second P) in
      let one : Part (first_room a c d) (room c) a (room (seq c d)) = first_inside a c d in
      let two : Part (second_room a c d) (room d) a (room (seq c d)) = second_inside a c d in
      let g₁ : Path ℕ → ℕ = λ p. g (zipped_path first p) in
      let g₂ : Path ℕ → ℕ = λ p. g (zipped_path second p) in
      let I₁ : Into W cs rs (Acceptor.zip_first P) (array n s) g₁ S (length st.store) = into_zip_first I in
      let I₂ : Into W cs rs (Acceptor.zip_second P) (array n t) g₂ S (length st.store) = into_zip_second I in
      let st₁ : StateOf W = run W.domain c ch.0 (environment W cs rs) (first_room a c d) st in
      let H : Wrote W g₁ (array n s) (F₁ env) a (room (seq c d)) k₁ st st₁ =
      wrote_inside one
      (writes₁ Δ env cs rs S (first_room a c d) st (Acceptor.zip_first P) g₁ (precondition_part G one) I₁
      (on_array n s (λ p. Outside (first_room a c d) (room c) (g₁ p))
      (λ i p l ok. outside_part one (clear (index i ∷ first ∷ p) (l, ok))))
      ch.0) in
      zip_wrote I.distinct clear (λ i p. refl) (λ i p. refl) H
      (wrote_inside two
      (writes₂ Δ env cs rs S (second_room a c d) st₁ (Acceptor.zip_second P) g₂
      (precondition_second two G (I₁.apart refl) H)
      (into_on I₂ (extends_refl cs) (extends_refl rs) (omega (arith, H.same_length)) I₂.apart)
      (on_array n t (λ p. Outside (second_room a c d) (room d) (g₂ p))
      (λ i p l ok. outside_part two (clear (index i ∷ second ∷ p) (l, ok))))
      ch.1))

  pub write_split : (writeE : Write) (m n : ℕ) (t : DataType) (k : ℕ) (F : List (Contents W) → Contents W)
      → WritesRightly W writeE Γ (array (m * n) t) k F
      → WritesRightly W (λ G D c r P. writeE G D c r (Acceptor.split n P)) Γ (array m (array n t)) k
      (λ env p. F env (flat_path n p))
  write_split writeE m n t k F writes Δ env cs rs S a st P g G I clear ch =
      let c : Command = writeE Γ Δ (length cs) (length rs) (Acceptor.split n P) in
      split_wrote m n
      (writes Δ env cs rs S a st (Acceptor.split n P) (λ p. g (group_path n p)) G (into_split m n I)
      (on_array (m * n) t (λ p. Outside a (room c) (g (group_path n p)))
      (λ i p l ok. clear (group_path n (index i ∷ p)) (quotient_below i m n l, (remainder_below i m n l, ok))))
      ch)

  pub write_join : (writeE : Write) (m n : ℕ) (t : DataType) (k : ℕ) (F : List (Contents W) → Contents W)
      → WritesRightly W writeE Γ (array m (array n t)) k F
      → WritesRightly W (λ G D c r P. writeE G D c r (Acceptor.join n P)) Γ (array (m * n) t) k
      (λ env p. F env (group_path n p))
  write_join writeE m n t k F writes Δ env cs rs S a st P g G I clear ch =
      let c : Command = writeE Γ Δ (length cs) (length rs) (Acceptor.join n P) in
      join_wrote m n
      (writes Δ env cs rs S a st (Acceptor.join n P) (λ p. g (flat_path n p)) G (into_join m n I)
      (on_groups m n t (λ p. Outside a (room c) (g (flat_path n p)))
      (λ i j p l l₂ ok. clear (index (n * i + j) ∷ p) (group_below l l₂, ok)))
      ch)
