use Rattle.teco_command_outcomes.proofs.Prelude.{◌≡◌, [], ◌∷◌, ◌∙◌, arith, common_steps}
use Rattle.teco_command_outcomes.proofs.Copying.{copies_counted}
use Rattle.teco_command_outcomes.proofs.texts.copy_many.Goals as goal

pub returns : goal.returns
returns c =
    let items : c.push.new.self.items ≡ c.in_ok-condition.condition ∷ [] = grind (arith, common_steps) in
    copies_counted c.args.case.now c.args.register c.args.colons c.in_ok-rest.rest c.args.by c.in_ok-size.size
    c.in_ok-most.most c.in_ok-condition.condition c.in_ok-all.all c.in_ok-all.ensures.copies c.in_ok-rest.ensures
    c.in_ok-size.ensures c.in_ok-most.ensures c.in_ok-condition.ensures (c.in_ok-all.ensures.conditions ∙ items)
