-- `own_table` meets its contract. The loop's invariant: the kinds passed have their lines, and these lines' own words are put.
use Rattle.own_words.proofs.Turns.{ReadTo}
use Rattle.own_words.proofs.own_table.Given as goal

abbrev pub invariant-loop-kind : goal.invariant-loop-kind
invariant-loop-kind l = ReadTo l.text l.own l.at l.kind
