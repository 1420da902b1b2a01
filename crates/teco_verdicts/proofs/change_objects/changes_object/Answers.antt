use Rattle.teco_verdicts.proofs.change_objects.changes_object.Goals as goal

pub returns : goal.returns
returns c = record {
  facts = c.in_ok-facts.facts;
  hold = c.in_ok-facts.ensures;
  spelled = rw c.entry.ensures at c.in_ok-text.ensures;
}
