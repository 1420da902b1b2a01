use Rattle.std.proofs.Common.{sym, ◌∙◌}
use Rattle.teco_policy.proofs.Firsts.{ended_first, open_first_line}
use Rattle.teco_policy.proofs.lines.first_line.Goals as goal

pub returns-in-Some : goal.returns-in-Some
returns-in-Some c = ended_first c.args.text.now c.in-Some.place c.in-Some.ensures

pub returns-in-None : goal.returns-in-None
returns-in-None c =
    open_first_line c.args.text.now (sym c.is_empty.ensures ∙ c.if-is_empty.false) c.in-None.ensures
