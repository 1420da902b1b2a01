use Rattle.teco_facts.proofs.Prelude.{add-one, arith}
use Rattle.teco_facts.proofs.Meeting.{met_more, met_rest}
use Rattle.teco_facts.proofs.each.meet_each.Goals as goal

pub loop-at-preserved : goal.loop-at-preserved
loop-at-preserved g c =
    let xs = c.args.one.now in
    let ys = c.args.two.now in
    let at = c.loop-at.at in
    let here = met_rest g.T.Meets.met xs ys at c.index-one-at.result (omega arith) (omega arith)
    (rw c.loop-at.invariant at c.index-one-at.is) in
    rw (c.loop-at.invariant, c.met.ensures, add-one)
    (met_more g.T.Meets.met xs ys at _ _ (omega arith) (omega arith) here c.index-two-at.is)
