-- Pairs, zips and regrouped places are written orderly.
use Rattle.std.proofs.Common.{inl}
use Rattle.std.specs.Prelude.{List, ◌∷◌, ℕ, ◌+◌, ◌*◌, length}
use Rattle.meaning.specs.Types.{DataType, array}
use Rattle.meaning.specs.Loops.{Command, seq}
use Rattle.meaning.specs.Layout.{room, first_room, second_room}
use Rattle.meaning.specs.Paths.{Path, index, first, second}
use Rattle.meaning.specs.Expressions.{Acceptor}
use Rattle.meaning.specs.Translation.{Write}
use Rattle.meaning.proofs.Laws.Groups.{group_below, quotient_below, remainder_below}
use Rattle.meaning.proofs.Laws.Layout.{Outside, Part, outside_part, first_inside, second_inside}
use Rattle.meaning.proofs.Laws.Paths.{on_array, on_groups, flat_path, group_path, zipped_path}
use Rattle.meaning.proofs.Laws.Holds.{Setting}
use Rattle.meaning.proofs.Laws.Into.{into_first, into_second, into_zip_first, into_zip_second, into_split, into_join}
use Rattle.mixing.proofs.Laws.Orderly.{orderly_seq}
use Rattle.mixing.proofs.Laws.OrderlyClaims.{footing_part, allows_part, WritesOrderly}

module _ {W : Setting} {L : ℕ} {Γ : List DataType} where
  pub write_pair_orderly : (writeE writeF : Write) (s t : DataType)
      → WritesOrderly W L writeE Γ s → WritesOrderly W L writeF Γ t
      → WritesOrderly W L (λ G D c r P. seq (writeE G D c r (Acceptor.first P)) (writeF G D c r (Acceptor.second P)))
      Γ (DataType.pair s t)
  write_pair_orderly writeE writeF s t writes₁ writes₂ Δ cs rs S a P g Z R G I clear A into =
      let c : Command = writeE Γ Δ (length cs) (length rs) (Acceptor.first P) in
      let d : Command = writeF Γ Δ (length cs) (length rs) (Acceptor.second P) in
      let one : Part (first_room a c d) (room c) a (room (seq c d)) = first_inside a c d in
      let two : Part (second_room a c d) (room d) a (room (seq c d)) = second_inside a c d in
      orderly_seq
      (writes₁ Δ cs rs S (first_room a c d) (Acceptor.first P) (λ p. g (first ∷ p)) Z R (footing_part G one)
      (into_first I) (λ p ok. outside_part one (clear (first ∷ p) ok)) (allows_part A one (λ x sx. inl sx))
      (λ p ok. into (first ∷ p) ok))
      (writes₂ Δ cs rs S (second_room a c d) (Acceptor.second P) (λ p. g (second ∷ p)) Z R (footing_part G two)
      (into_second I) (λ p ok. outside_part two (clear (second ∷ p) ok)) (allows_part A two (λ x sx. inl sx))
      (λ p ok. into (second ∷ p) ok))

  pub write_zip_orderly : (writeE writeF : Write) (n : ℕ) (s t : DataType)
      → WritesOrderly W L writeE Γ (array n s) → WritesOrderly W L writeF Γ (array n t)
      → WritesOrderly W L
      (λ G D c r P. seq (writeE G D c r (Acceptor.zip_first P)) (writeF G D c r (Acceptor.zip_second P)))
      Γ (array n (DataType.pair s t))
  write_zip_orderly writeE writeF n s t writes₁ writes₂ Δ cs rs S a P g Z R G I clear A into =
      let c : Command = writeE Γ Δ (length cs) (length rs) (Acceptor.zip_first P) in
      let d : Command = writeF Γ Δ (length cs) (length rs) (Acceptor.zip_second P) in
      let one : Part (first_room a c d) (room c) a (room (seq c d)) = first_inside a c d in
      let two : Part (second_room a c d) (room d) a (room (seq c d)) = second_inside a c d in
      let g₁ : Path ℕ → ℕ = λ p. g (zipped_path first p) in
      let g₂ : Path ℕ → ℕ = λ p. g (zipped_path second p) in
      orderly_seq
      (writes₁ Δ cs rs S (first_room a c d) (Acceptor.zip_first P) g₁ Z R (footing_part G one) (into_zip_first I)
      (on_array n s (λ p. Outside (first_room a c d) (room c) (g₁ p))
      (λ i p l ok. outside_part one (clear (index i ∷ first ∷ p) (l, ok))))
      (allows_part A one (λ x sx. inl sx))
      (on_array n s (λ p. Z (g₁ p)) (λ i p l ok. into (index i ∷ first ∷ p) (l, ok))))
      (writes₂ Δ cs rs S (second_room a c d) (Acceptor.zip_second P) g₂ Z R (footing_part G two) (into_zip_second I)
      (on_array n t (λ p. Outside (second_room a c d) (room d) (g₂ p))
      (λ i p l ok. outside_part two (clear (index i ∷ second ∷ p) (l, ok))))
      (allows_part A two (λ x sx. inl sx))
      (on_array n t (λ p. Z (g₂ p)) (λ i p l ok. into (index i ∷ second ∷ p) (l, ok))))

  pub write_split_orderly : (writeE : Write) (m n : ℕ) (t : DataType)
      → WritesOrderly W L writeE Γ (array (m * n) t)
      → WritesOrderly W L (λ G D c r P. writeE G D c r (Acceptor.split n P)) Γ (array m (array n t))
  write_split_orderly writeE m n t writes Δ cs rs S a P g Z R G I clear A into =
      let c : Command = writeE Γ Δ (length cs) (length rs) (Acceptor.split n P) in
      writes Δ cs rs S a (Acceptor.split n P) (λ p. g (group_path n p)) Z R G (into_split m n I)
      (on_array (m * n) t (λ p. Outside a (room c) (g (group_path n p)))
      (λ i p l ok. clear (group_path n (index i ∷ p)) (quotient_below i m n l, (remainder_below i m n l, ok))))
      A
      (on_array (m * n) t (λ p. Z (g (group_path n p)))
      (λ i p l ok. into (group_path n (index i ∷ p)) (quotient_below i m n l, (remainder_below i m n l, ok))))

  pub write_join_orderly : (writeE : Write) (m n : ℕ) (t : DataType)
      → WritesOrderly W L writeE Γ (array m (array n t))
      → WritesOrderly W L (λ G D c r P. writeE G D c r (Acceptor.join n P)) Γ (array (m * n) t)
  write_join_orderly writeE m n t writes Δ cs rs S a P g Z R G I clear A into =
      let c : Command = writeE Γ Δ (length cs) (length rs) (Acceptor.join n P) in
      writes Δ cs rs S a (Acceptor.join n P) (λ p. g (flat_path n p)) Z R G (into_join m n I)
      (on_groups m n t (λ p. Outside a (room c) (g (flat_path n p)))
      (λ i j p l l₂ ok. clear (index (n * i + j) ∷ p) (group_below l l₂, ok)))
      A
      (on_groups m n t (λ p. Z (g (flat_path n p)))
      (λ i j p l l₂ ok. into (index (n * i + j) ∷ p) (group_below l l₂, ok)))
