use Rattle.std.proofs.Common.{◌∙◌, ap}
use Rattle.teco_witness.proofs.Ends.{readied}
use Rattle.teco_witness.specs.Witness.{Subject, world_before}
use Rattle.teco_witness.proofs.trial.ready.Goals as goal

pub returns-in-Ended : goal.returns-in-Ended
returns-in-Ended c =
    let library = ap (λ (s : Subject). s.library) c.subject.view_is in
    readied _ _ _ _ _ _ _ _ (c.deref.ensures.value ∙ c.in_ok-commands.ensures)
    (c.in_ok-bench.ensures ∙ ap (λ l. world_before l c.args.world.now) library) c.in-Ended.is c.run.ensures
