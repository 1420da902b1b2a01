use Rattle.teco_facts.proofs.Prelude.{ap, ◌∙◌, set, arith, fall_after}
use Rattle.std.proofs.lemmas.List.Edits.{map_over_more}
use Rattle.teco_facts.proofs.falls.each_behind.Goals as goal

pub loop-at-preserved : goal.loop-at-preserved
loop-at-preserved c =
    ap (set c.loop-at.falls c.loop-at.at) c.after.ensures
    ∙ map_over_more (fall_after c.args.by) c.args.falls.now c.loop-at.falls
    c.loop-at.at c.index-falls-at.result (omega arith) c.loop-at.invariant c.index-falls-at.is
