use Rattle.teco_search_outcomes.proofs.page_searches.begun_in_pages.Goals as goal

pub returns : goal.returns
returns c = record {
  number = c.in_ok-number.number;
  takes = c.in_ok-number.ensures.takes;
  some = c.in_ok-number.ensures.some;
  read = c.in_ok-parts.ensures;
  positive = c.in_ok-conditions.ensures.positive;
  room = c.in_ok-conditions.ensures.room;
  later = c.in_ok-on.ensures.later;
  symbols = c.in_ok-on.ensures.symbols;
  passes = c.in_ok-gone.ensures;
}
