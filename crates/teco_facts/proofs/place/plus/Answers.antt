use Rattle.teco_facts.proofs.Prelude.{sym, subst, Value, IsPlace}
use Rattle.teco_facts.proofs.Places.{added, number_is_place, sum_is_place}
use Rattle.teco_facts.proofs.Wholes.{place_whole, sum_whole}
use Rattle.teco_facts.proofs.place.plus.Goals as goal

pub returns-clause-value : goal.returns-clause-value
returns-clause-value c =
    let s = place_whole _ _ _ _ (number_is_place _ _ _ _ c.s.invariant) in
    let t = place_whole _ _ _ _ (number_is_place _ _ _ _ c.t.invariant) in
    rw (← c.s.view_is, ← c.t.view_is)
    (added c.s.inside.value c.t.inside.value _ _ _ _
    (sum_whole s.ahead t.ahead (record { sfits = c.add.type_inv }) c.add.ensures)
    (sum_whole s.behind t.behind (record { sfits = c.add-2.type_inv }) c.add-2.ensures)
    (sum_whole s.lo t.lo (record { sfits = c.add-3.type_inv }) c.add-3.ensures)
    (sum_whole s.hi t.hi (record { sfits = c.add-4.type_inv }) c.add-4.ensures))

pub returns-clause-place : goal.returns-clause-place
returns-clause-place c =
    subst (λ (n : Value). IsPlace n.ahead n.behind n.lo n.hi) (sym (returns-clause-value c))
    (rw (← c.s.view_is, ← c.t.view_is) (sum_is_place _ _ _ _ _ _ _ _ c.s.invariant c.t.invariant))
