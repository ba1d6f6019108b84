-- `words::groups::is_leaf` meets its contract: the kinds that it names, and no other, have no operand in the table.
use native.Mathlib.Omega.{arith}
use Rattle.words.proofs.Lists.{leaf, no_leaf}
use Rattle.words.proofs.groups.is_leaf.Goals as goal

pub returns-in-4 : goal.returns-in-4
returns-in-4 c = leaf c.args.kind (λ p. omega (arith, p.0, p.1.0, p.1.1.0))

pub returns-in_default : goal.returns-in_default
returns-in_default c = no_leaf c.args.kind ((λ e. omega arith), ((λ e. omega arith), ((λ e. omega arith), tt)))

pub returns-in_default-2 : goal.returns-in_default-2
returns-in_default-2 c = no_leaf c.args.kind ((λ e. omega arith), ((λ e. omega arith), ((λ e. omega arith), tt)))
