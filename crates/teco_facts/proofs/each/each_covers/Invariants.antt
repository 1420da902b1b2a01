use Rattle.teco_facts.proofs.Prelude.{◌≡◌, drop, true}
use Rattle.teco_verifier.specs.facts.Covers as rules
use Rattle.teco_facts.proofs.each.each_covers.Given as goal

-- what stands from this place on is covered
abbrev pub invariant-loop-at : goal.invariant-loop-at
invariant-loop-at g l = rules.each_covers g.T.Covers.covers (drop l.at l.one) (drop l.at l.edge) ≡ true
