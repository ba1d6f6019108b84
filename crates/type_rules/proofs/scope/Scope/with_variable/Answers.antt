-- `with_variable` meets its contract: the new variable is the innermost, and the others are one further out.
use Rattle.type_rules.proofs.ScopeLaws.{one_more}
use Rattle.type_rules.proofs.scope.Scope.with_variable.Goals as goal

pub returns-clause-named : goal.returns-clause-named
returns-clause-named c = λ T m I Γ F h. one_more T m c.args.self I Γ c.args.place F h c.requires.0
