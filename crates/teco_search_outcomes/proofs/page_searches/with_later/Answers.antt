use Rattle.teco_search_outcomes.proofs.Prelude.{arith, refl, common_steps}
use Rattle.teco_search_outcomes.proofs.page_searches.with_later.Goals as goal

pub returns : goal.returns
returns c = record {
  conditions = refl;
  guarded = refl;
  away = refl;
  case = c.in_ok-made.made;
  told = c.in_ok-made.ensures;
  cases = grind (arith, common_steps);
}
