use Rattle.teco_facts.proofs.Prelude.{◌-◌, arith}
use Rattle.teco_facts.proofs.Sides.{each_at_false}
use Rattle.teco_facts.proofs.each.each_covers.Goals as goal

pub returns-then-not-covers : goal.returns-then-not-covers
returns-then-not-covers g c =
    each_at_false g.T.Covers.covers c.args.one.now c.args.edge.now (c.loop-at.at - 1) _ _
    (omega arith) (omega arith)
    c.index-one-at.is c.index-edge-at.is (cc)
