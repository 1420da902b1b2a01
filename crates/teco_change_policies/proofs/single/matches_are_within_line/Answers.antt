use Rattle.teco_change_policies.proofs.Simply.{no_match_ends}
use Rattle.teco_change_policies.proofs.single.matches_are_within_line.Goals as goal

pub returns-then-is_simple : goal.returns-then-is_simple
returns-then-is_simple c = λ ok taken h.
    no_match_ends c.args.wanted.now taken (c.is_simple.ensures c.if-is_simple.true) (c.is_within_line.ensures ok) h
