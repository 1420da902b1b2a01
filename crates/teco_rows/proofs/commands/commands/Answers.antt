use Rattle.teco_rows.proofs.Ways.{commanded_more, commanded_all}
use Rattle.teco_rows.proofs.commands.commands.Goals as goal

pub loop-way-preserved : goal.loop-way-preserved
loop-way-preserved c =
    commanded_more c.args.case.now c.args.given.now c.args.here c.args.ways.now c.loop-way.way-index _
    c.loop-way.cases.items
    c.push.new.self.items _ c.loop-way-test.true c.in_ok-push.ensures.items c.loop-way.invariant c.in_ok-command.ensures

pub returns : goal.returns
returns c =
    commanded_all c.args.case.now c.args.given.now c.args.here c.args.ways.now c.loop-way.way-index
    c.loop-way.cases.items
    c.loop-way-test.false c.loop-way.invariant
