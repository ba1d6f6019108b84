-- `put_pluses` meets its contract: so many rows are put after so many rounds.
use Rattle.std.proofs.Common.{◌≡◌, pos, replicate}
use Rattle.words.specs.Kinds.{word_plus}
use Rattle.emission.specs.Table.{put_rows}
use Rattle.emission.proofs.rows.Rows.put_pluses.Given as goal

abbrev pub invariant-loop : goal.invariant-loop
invariant-loop l = l.self ≡ put_rows (replicate l.counter (word_plus, pos 0)) l.initial.self
