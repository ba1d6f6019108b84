-- A column that keeps the rule of the figures, or of the rooms, has, where a command stands, its writes, or its room. Assumes nothing.
use mathlib.Core.Bool.{Bool, true, false}
use mathlib.Core.Path.{◌≡◌, refl, ap, ap₂, ◌∙◌}
use mathlib.Core.List.{List}
use Prim.Native.Nat.{ℕ, zero, suc, ◌+◌, ◌*◌, min, max, ◌≤◌}
use native.Mathlib.Nat.{zero-mul, suc-mul}
use native.Mathlib.Omega.{arith}
use borrow.Author.Tests.{leb-true, leb-false}
use lib.Dec.{leb}
use lib.IntN.{ℤ, pos}
use lib.ListN.{length, get_or}
use Rattle.words.specs.Kinds.{word_set, word_seq, word_new}
use Rattle.meaning.specs.Terms.{LoopKind}
use Rattle.meaning.specs.Loops.{Place, Value, Command, seq, loop, new}
use Rattle.meaning.specs.Rows.{command_rows, loop_word}
use Rattle.meaning.specs.Counts.{command_writes}
use Rattle.meaning.specs.Layout.{room}
use Rattle.syntax.specs.Ranges.{as_natural}
use Rattle.columns.specs.Table.{Stand}
use Rattle.columns.specs.Ends.{Ends}
use Rattle.columns.specs.Figures.{capped_writes, writes_by, is_command, figure_by, capped_room, room_by, Column, Figures, Rooms}
use Rattle.columns.proofs.Tables as table
use Rattle.columns.proofs.EndTrees.{inside, unary}

-- ---- a column of commands: what a row has comes from its kind, its number and what its operands have

module _ (ks : List ℕ) (ns : List ℤ) (es cs : List ℕ) (E : Ends ks es) (F : ℕ → ℕ → ℕ → ℕ → ℕ → ℕ)
    (rule : Column (length ks) es cs (λ (p x y : ℕ). F p (get_or ks p 0) (as_natural (get_or ns p (pos 0))) x y) 0)
    (G : Command → ℕ)
    (set-row : (at : ℕ) (p : Place) (v : Value) (x y : ℕ) → F at word_set 0 x y ≡ G (Command.assignment p v))
    (seq-row : (at : ℕ) (c d : Command) → F at word_seq 0 (G c) (G d) ≡ G (seq c d))
    (loop-row : (at : ℕ) (kind : LoopKind) (n : ℕ) (c : Command) (y : ℕ) → F at (loop_word kind) n (G c) y ≡ G (loop kind n c))
    (new_row : (at n : ℕ) (c : Command) (y : ℕ) → F at word_new n (G c) y ≡ G (new n c)) where
  at_row : (p k n : ℕ) (z : ℤ) → get_or ks p 0 ≡ k → 1 ≤ k → get_or ns p (pos 0) ≡ z → as_natural z ≡ n
      → get_or cs p 0 ≡ F p k n (get_or cs (p + 1) 0) (get_or cs (get_or es (p + 1) 0) 0)
  at_row p k n z e h g a =
      rule p (omega arith) (inside ks p k e h)
      ∙ ap₂ (λ (i j : ℕ). F p i j (get_or cs (p + 1) 0) (get_or cs (get_or es (p + 1) 0) 0)) e (ap as_natural g ∙ a)

  pub command_column : (at : ℕ) (x : Command) → Stand ks ns at (command_rows x) → get_or cs at 0 ≡ G x
  unfolding command_rows
  command_column at (Command.assignment p v) b =
      at_row at _ 0 _ (table.kind b) (omega arith) (table.number b) refl ∙ set-row at p v _ _
  command_column at (seq c d) b =
      at_row at _ 0 _ (table.kind b) (omega arith) (table.number b) refl
      ∙ ap₂ (F at word_seq 0) (command_column (at + 1) c (table.first (command_rows c) (command_rows d) b))
      (ap (λ (i : ℕ). get_or cs i 0) (E.command ns (at + 1) c (table.first (command_rows c) (command_rows d) b))
      ∙ command_column (at + 1 + length (command_rows c)) d (table.second (command_rows c) (command_rows d) (at + 1 + length (command_rows c)) refl b))
      ∙ seq-row at c d
  command_column at (loop kind n x) b =
      at_row at _ n _ (table.kind b) (unary kind).1 (table.number b) refl
      ∙ ap (λ (i : ℕ). F at (loop_word kind) n i (get_or cs (get_or es (at + 1) 0) 0)) (command_column (at + 1) x (table.next b))
      ∙ loop-row at kind n x _
  command_column at (new n x) b =
      at_row at _ n _ (table.kind b) (omega arith) (table.number b) refl
      ∙ ap (λ (i : ℕ). F at word_new n i (get_or cs (get_or es (at + 1) 0) 0)) (command_column (at + 1) x (table.next b))
      ∙ new_row at n x _

-- ---- writes and rooms

-- a product is capped alike from a capped factor
capped_product : (m n x : ℕ) → min (n * min x m) m ≡ min (n * x) m
capped_product m zero x = omega (arith, zero-mul x, zero-mul (min x m))
capped_product m (suc n) x = go (leb x m) refl
  where
    go : (b : Bool) → leb x m ≡ b → min (suc n * min x m) m ≡ min (suc n * x) m
    go true e =
        let l = leb-true x m e in
        let f : min x m ≡ x = omega arith in
        ap (λ (y : ℕ). min (suc n * y) m) f
    go false e =
        let l = leb-false x m e in
        let f : min x m ≡ m = omega arith in
        ap (λ (y : ℕ). min (suc n * y) m) f ∙ (omega (arith, suc-mul n m, suc-mul n x))

module _ (ks : List ℕ) (ns : List ℤ) (es : List ℕ) (E : Ends ks es) where
  looped_writes : (kind : LoopKind) (n m x y : ℕ) → figure_by (loop_word kind) n m x y ≡ capped_writes (n * x)
  unfolding figure_by is_command writes_by
  looped_writes LoopKind.parallel n m x y = refl
  looped_writes LoopKind.sequential n m x y = refl
  looped_writes LoopKind.lanes n m x y = refl

  pub writes_there : (ms fs : List ℕ) → Figures ks ns es ms fs → (at : ℕ) (x : Command) → Stand ks ns at (command_rows x)
      → get_or fs at 0 ≡ capped_writes (command_writes x)
  unfolding figure_by is_command writes_by
  writes_there ms fs F =
      command_column ks ns es fs E (λ (p k n x y : ℕ). figure_by k n (get_or ms p 0) x y) F.rule (λ (x : Command). capped_writes (command_writes x))
      (λ at p v x y. refl)
      (λ at c d. let e : capped_writes (capped_writes (command_writes c) + capped_writes (command_writes d)) ≡ capped_writes
      (command_writes c + command_writes d) = omega arith in e)
      (λ at kind n c y. looped_writes kind n (get_or ms at 0) (capped_writes (command_writes c)) y ∙ capped_product 16777217 n (command_writes c))
      (λ at n c y. refl)

  looped_room : (kind : LoopKind) (n : ℕ) (c : Command) (y : ℕ) → room_by (loop_word kind) n (capped_room (room c)) y ≡ capped_room (room (loop kind n c))
  unfolding room_by room
  looped_room LoopKind.parallel n c y = capped_product 281474976710656 n (room c)
  looped_room LoopKind.sequential n c y = refl
  looped_room LoopKind.lanes n c y = capped_product 281474976710656 n (room c)

  pub room_there : (rs : List ℕ) → Rooms ks ns es rs → (at : ℕ) (x : Command) → Stand ks ns at (command_rows x)
      → get_or rs at 0 ≡ capped_room (room x)
  unfolding room_by room
  room_there rs R =
      command_column ks ns es rs E (λ (p : ℕ). room_by) R.rule (λ (x : Command). capped_room (room x))
      (λ at p v x y. refl)
      (λ at c d. let e : max (capped_room (room c)) (capped_room (room d)) ≡ capped_room (max (room c) (room d)) = omega arith in e)
      (λ at kind n c y. looped_room kind n c y)
      (λ at n c y. let e : capped_room (n + capped_room (room c)) ≡ capped_room (n + room c) = omega arith in e)
