use Rattle.teco_paths.proofs.Lists.{all_last}
use Rattle.teco_paths.specs.Meaning.{IsMadeOf}
use Rattle.teco_paths.proofs.translated.cuts_at.Goals.{then-stand-cut+in_ok-cut_of+in_ok-push, else-stand-cut}
use Rattle.teco_paths.proofs.translated.cuts_at.Goals as goal

pub loop-stand-preserved : goal.loop-stand-preserved
loop-stand-preserved c =
    elim c.if-stand-cut.branch [
      | then-stand-cut+in_ok-cut_of+in_ok-push w ↦
          rw w.cuts-is
          (all_last (IsMadeOf c.args.nodes.now c.args.cut.now) c.loop-stand.cuts.items w.push.new.self.items
          w.in_ok-cut_of.field-0 w.in_ok-push.ensures.items c.loop-stand.invariant w.in_ok-cut_of.ensures)
      | else-stand-cut w ↦ rw w.cuts-is c.loop-stand.invariant
    ]
