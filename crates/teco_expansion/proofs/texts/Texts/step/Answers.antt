use Rattle.teco_expansion.proofs.Prelude.{library_of}
use Rattle.teco_expansion.proofs.texts.Texts.step.Goals as goal

pub returns-clause-step : goal.returns-clause-step
returns-clause-step c = rw c.in_ok-register.was
    (c.kept_at.ensures.step (library_of c.args.self.now) c.args.self.now.right)
