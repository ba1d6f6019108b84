-- The rows of a reduction as far as its body, over plain variables. Assumes nothing.
use mathlib.Core.Path.{◌≡◌, ap, ap₂, ◌∙◌}
use mathlib.Core.List.{List}
use Prim.Native.Nat.{ℕ, ◌+◌, ◌≤◌, ◌<◌}
use native.Mathlib.Omega.{arith}
use lib.IntN.{ℤ, pos}
use Rattle.words.specs.Kinds.{word_seq, word_for}
use Rattle.meaning.specs.Types.{DataType}
use Rattle.meaning.specs.Expressions.{Expression, Acceptor}
use Rattle.meaning.specs.Translation.{assign}
use Rattle.meaning.specs.Rows.{command_rows}
use Rattle.type_table.specs.Table.{type_at}
use Rattle.emission.specs.Table.{Table, put_row, put_rows}
use Rattle.emission.specs.References.{expression_at, acceptor_at}
use Rattle.clauses.specs.Clauses.{region_rows, next_rows, entered_rows}
use Rattle.clauses.specs.Clauses.{ReductionPushed}
use Rattle.emission.specs.Laws.Readings.{reads_on}
use Rattle.clauses.specs.Laws.{reduction_grown, total_writes}

-- as far as a reduction's body, the start being node v
pub reduction_put : (Y : List ℕ) (N : List ℤ) (T B : List ℕ) (p a v c r g len n : ℕ) → ReductionPushed T B p a c r g len
    → len + 3 ≤ 1024 → p < 65536 → a < len → v < len → c < 65536 → r < 65536 → (o o₁ o₂ o₃ o₄ o₅ : Table)
    → o₁ ≡ region_rows (type_at Y p) o
    → o₂ ≡ put_rows (command_rows (assign (type_at Y p) (expression_at Y N B v) (acceptor_at Y B len) c (r + 1))) o₁
    → o₃ ≡ put_row o₂ (word_seq, pos 0) → o₄ ≡ put_row o₃ (word_for, pos n) → o₅ ≡ next_rows (type_at Y p) o₄
    → o₅ ≡ entered_rows (type_at Y p) n (expression_at Y N T v) c r o
reduction_put Y N T B p a v c r g len n R hl hp ha hv hc hr o o₁ o₂ o₃ o₄ o₅ e₁ e₂ e₃ e₄ e₅ =
    let t : DataType = type_at Y p in
    let ev : expression_at Y N B v ≡ expression_at Y N T v = reads_on T B len v hv (reduction_grown T B p a c r g len R) Y N in
    let et : acceptor_at Y B len ≡ Acceptor.region r t = total_writes T B p a c r g len R hl (omega arith) hp ha hc hr Y in
    let f₂ : o₂ ≡ put_rows (command_rows (assign t (expression_at Y N T v) (Acceptor.region r t) c (r + 1))) (region_rows t o)
    = e₂ ∙ ap₂ (λ (E : Expression) (P : Acceptor). put_rows (command_rows (assign t E P c (r + 1))) o₁) ev et
    ∙ ap (put_rows (command_rows (assign t (expression_at Y N T v) (Acceptor.region r t) c (r + 1)))) e₁ in
    e₅ ∙ ap (next_rows t) (e₄ ∙ ap (λ (u : Table). put_row u (word_for, pos n)) (e₃ ∙ ap (λ (u : Table). put_row u (word_seq, pos 0)) f₂))
