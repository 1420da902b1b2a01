use Rattle.teco_facts.proofs.Prelude.{◌≡◌, each_covers}
use Rattle.teco_verifier.specs.facts.Covers.{covers_pushed}
use Rattle.teco_facts.proofs.covering.covers_pairs.Given as goal

-- all pairs are covered if those from here on are
abbrev pub invariant-loop-pair : goal.invariant-loop-pair
invariant-loop-pair l = each_covers covers_pushed l.initial.one l.initial.edge ≡ each_covers covers_pushed l.one l.edge
