-- `third` meets its contract: the body of a reduction has two variables more, the element and the total.
use Rattle.std.proofs.Common.{arith}
use Rattle.std.proofs.lemmas.Grind.{common_steps}
use Rattle.type_rules.proofs.scope.Scope.third.Goals as goal

pub returns : goal.returns
returns c =
    let over = c.in_ok-over.ensures in (
      grind (arith, common_steps),
      λ m I Γ h k F.
          let F' = c.with_variable.ensures.named c.args.types.now m I _ F (omega (arith, over.1)) in
          let F'' = c.with_variable-2.ensures.named c.args.types.now m I _ F' h in
          grind (arith, common_steps),
    )
