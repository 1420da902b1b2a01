use Rattle.teco_facts.proofs.Prelude.{add-one, arith}
use Rattle.teco_facts.proofs.Meeting.{written_more, kept_more}
use Rattle.teco_facts.proofs.each.replace_where.Goals as goal
use Rattle.teco_facts.proofs.each.replace_where.Goals.{then-replaced-at, else-replaced-at}

pub loop-at-preserved : goal.loop-at-preserved
loop-at-preserved g c =
    let ws = c.args.replaced.now in
    let xs = c.args.items.now in
    let at = c.loop-at.at in
    elim c.if-replaced-at.branch [
      | then-replaced-at w ↦ rw (w.items-is, c.loop-at.invariant, add-one)
          (written_more c.args.other ws xs at (omega arith) (omega arith) w.if-replaced-at.true)
      | else-replaced-at w ↦ rw (w.items-is, c.loop-at.invariant, add-one)
          (kept_more c.args.other ws xs at (omega arith) (omega arith) w.if-replaced-at.false)
    ]
