use Rattle.teco_search_outcomes.proofs.searches.begun_search.Goals as goal

pub returns : goal.returns
returns c = record {
  number = c.in_ok-number.number;
  takes = c.in_ok-number.ensures.takes;
  some = c.in_ok-number.ensures.some;
  read = c.in_ok-parts.ensures;
  aims = c.in_ok-aim.ensures;
  misses = c.in_ok-start.ensures;
}
