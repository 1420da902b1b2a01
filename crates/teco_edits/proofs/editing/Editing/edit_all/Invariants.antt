use Rattle.std.proofs.Common.{take}
use Rattle.teco_edits.specs.Files.{EditsEach}
use Rattle.teco_edits.proofs.editing.Editing.edit_all.Given as goal

-- as many files as turns were left or edited
abbrev pub invariant-loop-done : goal.invariant-loop-done
invariant-loop-done g l = EditsEach l.self.given.now l.self.job (g.O.Write.contents l.fn.console.out)
    (take l.done l.files) (g.O.Write.contents l.console.out) l.tally
