use Rattle.teco_command_outcomes.proofs.Prelude.{sym, subst, IfOk-weaker, Performs, deletion, Characters, Lines}
use Rattle.teco_command_outcomes.proofs.Deleting.{deletes_alone, deletes_part}
use Rattle.teco_command_outcomes.proofs.deletions.delete.Goals as goal

pub returns-in-Some-value : goal.returns-in-Some-value
returns-in-Some-value c =
    IfOk-weaker c.delete_part.result _ _
    (λ all deletes.
    deletes_part c.args.case.now c.args.unit c.args.taken c.in-Some.first c.in-Some-value.second all c.in-Some.is
    c.in-Some-value.is deletes)
    c.delete_part.ensures

pub returns-in-Characters : goal.returns-in-Characters
returns-in-Characters c =
    IfOk-weaker c.delete_characters.result _ _
    (λ all deletes.
    subst (λ u. Performs (deletion u) c.args.taken c.args.case.now all) (sym c.in-Characters.is)
    (deletes_alone c.args.case.now Characters c.args.taken all c.in-None.is deletes))
    c.delete_characters.ensures

pub returns-in-Lines : goal.returns-in-Lines
returns-in-Lines c =
    IfOk-weaker c.delete_lines.result _ _
    (λ all deletes.
    subst (λ u. Performs (deletion u) c.args.taken c.args.case.now all) (sym c.in-Lines.is)
    (deletes_alone c.args.case.now Lines c.args.taken all c.in-None.is deletes))
    c.delete_lines.ensures
