use Rattle.teco_search_outcomes.proofs.Ending.{begins_later}
use Rattle.teco_search_outcomes.proofs.searches.begins_later.Goals as goal

pub returns : goal.returns
returns c =
    begins_later c.args.case.now c.args.parts.now c.args.direction c.first_codes.result c.in_ok-here.here
    c.in_ok-is_other.is_other c.first_codes.ensures c.in_ok-here.ensures
    (c.looks_ahead.ensures c.if-not-looks_ahead.false) c.in_ok-is_other.ensures
