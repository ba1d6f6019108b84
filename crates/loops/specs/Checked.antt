-- What the check of loops answers: the writes that they make and the cells that they need, or the first "no". Definitions only; assumes nothing.
use Rattle.std.specs.Prelude.{ℕ, Result, Ok}
use Rattle.refusals.specs.declared.Refusal.{Refusal}
use Rattle.columns.specs.declared.Counted.{Counted}

abbrev pub Checked : Type 0
Checked = Result Counted Refusal

-- loops that pass, with so many writes and this need
abbrev pub passing : ℕ → ℕ → Checked
passing writes need = Ok (record { writes = writes; need = need })
