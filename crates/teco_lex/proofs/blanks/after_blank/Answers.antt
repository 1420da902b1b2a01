use Rattle.std.proofs.Common.{sym}
use Rattle.teco_lex.proofs.BlankLen.{skips_pair, no_pair}
use Rattle.teco_lex.proofs.blanks.after_blank.Goals as goal

pub returns-then-is_blank_pair : goal.returns-then-is_blank_pair
returns-then-is_blank_pair c =
    skips_pair _ _ _ _ _ c.in_ok-b.ensures.cases.0 c.in_ok-c.ensures.cases.0 (sym c.if-is_blank.ensures)
    (sym c.if-is_blank_pair.ensures)

pub returns-else-is_blank_pair : goal.returns-else-is_blank_pair
returns-else-is_blank_pair c =
    no_pair _ _ _ _ _ c.in_ok-b.ensures.cases.0 c.in_ok-c.ensures.cases.0 (sym c.if-is_blank.ensures)
    (sym c.if-is_blank_pair.ensures)
