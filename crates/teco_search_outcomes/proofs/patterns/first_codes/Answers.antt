use Rattle.teco_search_outcomes.proofs.Ending.{begins_at, begins_at_none}
use Rattle.teco_search_outcomes.proofs.patterns.first_codes.Goals as goal

pub returns-in-Some : goal.returns-in-Some
returns-in-Some c = begins_at c.args.parts.now c.in-Some.part.now _ c.in-Some.ensures.value c.part_codes.ensures

pub returns-in-None : goal.returns-in-None
returns-in-None c = begins_at_none c.args.parts.now _ c.in-None.ensures.value
