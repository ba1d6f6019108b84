-- `interpreter::order::counter` meets its contract: each order, turn by turn, is a law of Turns.
use native.Mathlib.Omega.{arith}
use Rattle.interpreter.proofs.Turns as turns
use Rattle.interpreter.proofs.order.counter.Goals as goal

pub returns-in-0-clause-result : goal.returns-in-0-clause-result
returns-in-0-clause-result c = turns.turn_forward _ _ _ c.in-0.is c.requires

pub returns-in-1-clause-result : goal.returns-in-1-clause-result
returns-in-1-clause-result c = turns.turn_backward _ _ _ c.in-1.is c.requires

pub returns-in_default-clause-result : goal.returns-in_default-clause-result
returns-in_default-clause-result c = turns.turn_even c.args.order c.args.n c.args.k (λ e. omega (arith, e)) (λ e. omega (arith, e)) c.if-k-evens.true

pub returns-in_default-2-clause-result : goal.returns-in_default-2-clause-result
returns-in_default-2-clause-result c =
    turns.turn_odd c.args.order c.args.n c.args.k (λ e. omega (arith, e)) (λ e. omega (arith, e)) c.requires c.if-k-evens.false
