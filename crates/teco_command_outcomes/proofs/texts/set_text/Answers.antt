use Rattle.teco_command_outcomes.proofs.Prelude.{◌≡◌, [], ◌∷◌, ◌∙◌, arith, sym, common_steps, IfOk-weaker, seen}
use Rattle.teco_command_outcomes.proofs.Copying.{sets_text}
use Rattle.teco_command_outcomes.proofs.texts.set_text.Goals as goal

pub returns : goal.returns
returns c =
    let items : c.push.new.self.items ≡ c.in_ok-condition.condition ∷ [] = grind (arith, common_steps) in
    IfOk-weaker c.one.result _ _
    (λ all one.
    sets_text c.args.case.now c.in_ok-after.after c.args.taken c.args.register c.in_ok-here.here
    (seen c.args.element.now) c.in_ok-rest.rest c.in_ok-more.more c.in_ok-long.long c.in_ok-condition.condition _ all
    c.in_ok-here.ensures.register c.in_ok-here.ensures.within (sym c.is_some.ensures
    ∙ c.if-is_some.false) c.in_ok-rest.ensures c.in_ok-more.ensures
    c.in_ok-long.ensures c.in_ok-condition.ensures items c.in_ok-after.ensures one)
    c.one.ensures
