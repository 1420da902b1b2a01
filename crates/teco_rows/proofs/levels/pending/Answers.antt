use Rattle.teco_rows.proofs.Prelude.{ap, ◌∙◌, IfOk-weaker, each}
use Rattle.teco_rows.proofs.levels.pending.Goals as goal

pub returns : goal.returns
returns c =
    IfOk-weaker c.measured.result _ _
    (λ form is n v s h. is n v s h ∙ ap (each s c.args.family) (c.in_ok-here.ensures s h.shape)) c.measured.ensures
