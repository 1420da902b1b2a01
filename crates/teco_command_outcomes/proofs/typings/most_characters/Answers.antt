use Rattle.teco_command_outcomes.proofs.Prelude.{◌+◌, inl, inr, sym, ap, arith}
use Rattle.teco_command_outcomes.proofs.Writing.{characters, number_long}
use Rattle.teco_command_outcomes.proofs.typings.most_characters.Goals as goal
use Rattle.teco_command_outcomes.proofs.typings.most_characters.Goals.{then-colons-eq0, else-colons-eq0}

pub returns-in-Decimal : goal.returns-in-Decimal
returns-in-Decimal c =
    number_long c.args.radix c.args.colons c.if-colons-eq0.line_end _
    (elim c.if-colons-eq0.branch [
      | then-colons-eq0 w ↦ λ h. w.line_end-is
      | else-colons-eq0 w ↦ λ h. absurd (omega (arith, h, w.if-colons-eq0.false))
    ])
    (elim c.in-Decimal.is [
      | inl is ↦ ap (λ r. characters r + c.if-colons-eq0.line_end) (sym is)
      | inr is ↦ ap (λ r. characters r + c.if-colons-eq0.line_end) (sym is)
    ])

pub returns-in-Hexadecimal : goal.returns-in-Hexadecimal
returns-in-Hexadecimal c =
    number_long c.args.radix c.args.colons c.if-colons-eq0.line_end _
    (elim c.if-colons-eq0.branch [
      | then-colons-eq0 w ↦ λ h. w.line_end-is
      | else-colons-eq0 w ↦ λ h. absurd (omega (arith, h, w.if-colons-eq0.false))
    ])
    (ap (λ r. characters r + c.if-colons-eq0.line_end) (sym c.in-Hexadecimal.is))
