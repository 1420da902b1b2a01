use Rattle.teco_motion_outcomes.proofs.Prelude.{sym, ◌∙◌}
use Rattle.teco_motion_outcomes.proofs.Inserting.{starts_as_before, starts_behind_end}
use Rattle.teco_motion_outcomes.proofs.insertions.start_behind.Goals as goal

pub returns-then-is_line_end : goal.returns-then-is_line_end
returns-then-is_line_end c =
    sym (starts_behind_end c.args.text.now c.args.place (sym c.is_line_end.ensures ∙ c.if-is_line_end.true))

pub returns-else-is_line_end : goal.returns-else-is_line_end
returns-else-is_line_end c =
    c.requires.start ∙ sym (starts_as_before c.args.text.now c.args.place (sym c.is_line_end.ensures
    ∙ c.if-is_line_end.false))
