-- [6.3] An assignment writes the value that its expression holds, whatever order its `par`s take.
use Rattle.std.specs.Prelude.{refl, List, ◌∷◌, ℕ, suc, length}
use Rattle.std.proofs.Common.{arith}
use Rattle.meaning.specs.Types.{DataType, cells, number, array, vector}
use Rattle.meaning.specs.Terms.{LoopKind}
use Rattle.meaning.specs.Loops.{Offset, Command}
use Rattle.meaning.specs.Layout.{first_room, second_room, round_room}
use Rattle.meaning.specs.Runs.{Orders, run}
use Rattle.meaning.specs.Paths.{Path, first}
use Rattle.meaning.specs.Expressions.{Expression, Acceptor}
use Rattle.meaning.specs.Translation.{assign_number, assign}
use Rattle.meaning.proofs.Laws.Layout.{outside_none}
use Rattle.meaning.proofs.Laws.Paths.{same_sym, same_vector}
use Rattle.meaning.proofs.Laws.Levels.{extends_refl, extends_push}
use Rattle.meaning.proofs.Laws.Holds.{Setting, StateOf, Contents, environment, CellSet, Holds, innermost_counter}
use Rattle.meaning.proofs.Laws.Holds.{holds_on, holds_same, holds_index, holds_first, holds_second}
use Rattle.meaning.proofs.Laws.Into.{Into, into_on, into_same, into_index, into_first, into_second}
use Rattle.meaning.proofs.Laws.Wrote.{Wrote, wrote_same, set_wrote, pair_wrote}
use Rattle.meaning.proofs.Laws.Rounds.{loop_wrote}

-- It opens no region: of the cells from b on it changes none.
pub assign_wrote : (t : DataType) {W : Setting} {E : Expression} {P : Acceptor} {f : Contents W} {g : Path ℕ → ℕ}
    {cs rs : List ℕ} {S : CellSet} (a b : ℕ) (st : StateOf W)
    → Holds W cs rs st.store S E t f → Into W cs rs P t g S (length st.store)
    → (ch : Orders (assign t E P (length cs) (length rs)))
    → Wrote W g t f b 0 (cells t) st
    (run W.domain (assign t E P (length cs) (length rs)) ch (environment W cs rs) a st)
unfolding run assign
assign_wrote number a b st h k ch = set_wrote a b st h k (omega arith) ch
assign_wrote (array n t) {W} {E} {P} {f} {g} {cs} {rs} {S} a b st h k ch =
    let c : Offset = Offset.counter (length cs) in
    let body : Command = assign t (Expression.index E c) (Acceptor.index P c) (suc (length cs)) (length rs) in
    loop_wrote W n t g f b 0 (cells t) k.distinct (λ p ok. outside_none b (g p)) S st.store (k.apart refl)
    (λ x sx. outside_none b x)
    (λ i. run W.domain body (ch.1 i) (environment W (i ∷ cs) rs) (round_room a LoopKind.parallel n body i))
    (λ i l st₁ ag ln.
    assign_wrote t (round_room a LoopKind.parallel n body i) b st₁
    (holds_index c i (holds_on h (extends_push i cs) (extends_refl rs) ag (λ x sx. sx)) (innermost_counter i cs) l)
    (into_index c i (innermost_counter i cs) l
    (into_on k (extends_push i cs) (extends_refl rs) (omega arith) k.apart))
    (ch.1 i))
    LoopKind.parallel ch.0 st (λ x sx. refl) refl
assign_wrote (DataType.pair s t) {W} {E} {P} {f} {g} {cs} {rs} {S} a b st h k ch =
    let c : Command = assign s (Expression.first E) (Acceptor.first P) (length cs) (length rs) in
    let d : Command = assign t (Expression.second E) (Acceptor.second P) (length cs) (length rs) in
    let st₁ : StateOf W = run W.domain c ch.0 (environment W cs rs) (first_room a c d) st in
    let H : Wrote W (λ p. g (first ∷ p)) s (λ p. f (first ∷ p)) b 0 (cells s) st st₁ =
    assign_wrote s (first_room a c d) b st (holds_first h) (into_first k) ch.0 in
    pair_wrote k.distinct (λ p ok. outside_none b (g p)) H
    (assign_wrote t (second_room a c d) b st₁
    (holds_second
    (holds_on h (extends_refl cs) (extends_refl rs)
    (λ x sx. H.kept x (λ p ok. k.apart refl x sx (first ∷ p) ok) (outside_none b x))
    (λ x sx. sx)))
    (into_second (into_on k (extends_refl cs) (extends_refl rs) (omega (arith, H.same_length)) k.apart))
    ch.1)
assign_wrote (vector w) {W} {E} {P} {f} {g} {cs} {rs} {S} a b st h k ch =
    let c : Offset = Offset.counter (length cs) in
    let body : Command = assign_number (Expression.index E c) (Acceptor.index P c) (suc (length cs)) (length rs) in
    let h' : Holds W cs rs st.store S E (array w number) f = holds_same (same_vector w) h in
    let k' : Into W cs rs P (array w number) g S (length st.store) = into_same (same_vector w) k in
    wrote_same (same_sym (same_vector w)) (omega arith)
    (loop_wrote W w number g f b 0 1 k'.distinct (λ p ok. outside_none b (g p)) S st.store (k'.apart refl)
    (λ x sx. outside_none b x)
    (λ i. run W.domain body (ch.1 i) (environment W (i ∷ cs) rs) (round_room a LoopKind.lanes w body i))
    (λ i l st₁ ag ln.
    set_wrote {L = length st₁.store} (round_room a LoopKind.lanes w body i) b st₁
    (holds_index c i (holds_on h' (extends_push i cs) (extends_refl rs) ag (λ x sx. sx)) (innermost_counter i cs) l)
    (into_index c i (innermost_counter i cs) l
    (into_on k' (extends_push i cs) (extends_refl rs) (omega arith) k'.apart))
    (omega arith)
    (ch.1 i))
    LoopKind.lanes ch.0 st (λ x sx. refl) refl)
