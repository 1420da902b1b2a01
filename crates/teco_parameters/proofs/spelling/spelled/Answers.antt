use Rattle.std.proofs.Common.{◌≡◌, [], arith}
use Rattle.std.proofs.lemmas.Grind.{common_steps}
use Rattle.teco_parameters.proofs.Spelt.{ended, one_more}
use Rattle.teco_parameters.proofs.spelling.spelled.Goals as goal

pub loop-rest-preserved : goal.loop-rest-preserved
loop-rest-preserved c =
    one_more c.args.text.now c.loop-rest.rest.now c.in-Some.behind.now c.loop-rest.bytes.items c.push.new.self.items
    c.in-Some.byte c.loop-rest.invariant c.in-Some.ensures c.in_ok-push.ensures.items

pub returns : goal.returns
returns c =
    let none : c.loop-rest.rest.now ≡ [] = grind (arith, common_steps, c.is_empty.ensures, c.loop-rest-test.false) in
    ended c.args.text.now c.loop-rest.rest.now c.loop-rest.bytes.items c.loop-rest.invariant none
