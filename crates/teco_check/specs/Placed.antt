-- An element where it stands, as the rules have it.
use Rattle.teco_model.specs.Element as elements
use Rattle.teco_verifier.specs.facts.Transfer as rules
use Rattle.teco_check.specs.declared.transfer.edges.Placed.{Placed}

abbrev pub seen : Placed → rules.Placed
seen x = record {
  element = elements.seen x.element;
  library = x.library;
  inside = x.inside;
  colon = x.colon;
  leaves = x.leaves;
}
