use Rattle.teco_search_outcomes.proofs.Prelude.{arith, common_steps}
use Rattle.teco_search_outcomes.proofs.Looking.{is_later_page}
use Rattle.teco_search_outcomes.proofs.page_searches.later_page.Goals as goal

pub returns-clause-later : goal.returns-clause-later
returns-clause-later c = is_later_page c.args.case.now c.in_ok-on.on c.in_ok-on.ensures

pub returns-clause-symbols : goal.returns-clause-symbols
returns-clause-symbols c = grind (arith, common_steps)
