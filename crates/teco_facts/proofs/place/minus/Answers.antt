use Rattle.teco_facts.proofs.Places.{difference_is_place}
use Rattle.teco_facts.proofs.place.minus.Goals as goal

pub returns-clause-place : goal.returns-clause-place
returns-clause-place c =
    rw c.apart.ensures (difference_is_place _ _ _ _ _ _ _ _ c.s.invariant c.t.invariant)
