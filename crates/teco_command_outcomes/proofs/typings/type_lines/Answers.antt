use Rattle.teco_command_outcomes.proofs.Prelude.{line_characters, value}
use Rattle.teco_command_outcomes.proofs.Writing.{types_bytes}
use Rattle.teco_command_outcomes.proofs.typings.type_lines.Goals as goal

pub returns : goal.returns
returns c =
    types_bytes c.args.case.now c.in_ok-count.count (λ n v s. line_characters (value c.args.by.now n v) s.kept)
    c.in_ok-all.all c.in_ok-count.ensures c.in_ok-all.ensures.types
