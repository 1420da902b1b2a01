use Rattle.teco_outcomes.proofs.Prelude.{subst, sym, IfOk-weaker, Performs}
use Rattle.teco_model.specs.Motion.{motion}
use Rattle.teco_outcomes.proofs.elements.move_by.Goals as goal

pub returns-in-Lines : goal.returns-in-Lines
returns-in-Lines c =
    IfOk-weaker c.move_lines.result _ _
    (λ all moves e same.
    subst (λ k. Performs (motion k e) c.args.taken c.args.case.now all) (sym c.in-Lines.is) (moves e))
    c.move_lines.ensures
