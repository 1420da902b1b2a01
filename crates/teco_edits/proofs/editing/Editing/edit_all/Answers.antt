use Rattle.teco_edits.proofs.Files.{each_all, each_breaks, each_more}
use Rattle.teco_edits.specs.Files.{none}
use Rattle.teco_edits.proofs.editing.Editing.edit_all.Goals as goal

pub loop-done-init : goal.loop-done-init
loop-done-init g c = none

pub loop-done-preserved : goal.loop-done-preserved
loop-done-preserved g c =
    each_more _ _ _ _ _ _ _ _ _ _ c.loop-done-test.true c.index-files-done.is c.loop-done.invariant
    c.in-Ok.ensures

pub returns-in-Err : goal.returns-in-Err
returns-in-Err g c =
    each_breaks _ _ _ _ _ _ _ _ c.loop-done-test.true c.index-files-done.is c.loop-done.invariant

pub returns : goal.returns
returns g c = each_all _ _ _ _ _ _ _ c.loop-done-test.false c.loop-done.invariant
