use Rattle.teco_search_outcomes.proofs.Ending.{ends_at, ends_at_none}
use Rattle.teco_search_outcomes.proofs.patterns.last_codes.Goals as goal

pub returns-in-Some : goal.returns-in-Some
returns-in-Some c = ends_at c.args.parts.now c.in-Some.part.now _ c.in-Some.ensures.value c.part_codes.ensures

pub returns-in-None : goal.returns-in-None
returns-in-None c = ends_at_none c.args.parts.now _ c.in-None.ensures.value
