-- `second` meets its contract: the body of a map has one variable more, the element.
use Rattle.std.proofs.Common.{arith}
use Rattle.std.proofs.lemmas.Grind.{common_steps}
use Rattle.type_rules.proofs.scope.Scope.second.Goals as goal

pub returns : goal.returns
returns c =
    let over = c.in_ok-over.ensures in (
      grind (arith, common_steps),
      λ m I Γ h F.
          let F' = c.with_variable.ensures.named c.args.types.now m I Γ F (omega (arith, over.1)) in
          grind (arith, common_steps),
    )
