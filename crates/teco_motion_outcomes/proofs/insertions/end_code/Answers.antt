use Rattle.teco_motion_outcomes.proofs.Prelude.{ap, pos, sym, ◌∙◌, ◌+◌, IfOk-weaker, code_before}
use Rattle.teco_motion_outcomes.proofs.Inserting.{end_given}
use Rattle.teco_motion_outcomes.proofs.insertions.end_code.Goals as goal

pub returns-in-Some : goal.returns-in-Some
returns-in-Some c =
    IfOk-weaker c.counted.result _ _
    (λ form is n v s true_of.
    is n v ∙ ap (λ b. pos (b + 1)) c.from.ensures
    ∙ ap pos (sym (end_given c.args.text.now c.in-Some.code.now (code_before s.kept.text s.kept.pointer)
    c.in-Some.ensures.value)))
    c.counted.ensures
