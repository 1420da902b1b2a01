use Rattle.teco_check.proofs.Prelude.{◌≡◌, ◌≤◌, length, refl, arith}
use Rattle.teco_check.proofs.Arriving.{arrived_inside, arrived_outside}
use Rattle.teco_check.proofs.arrived.Arrived.put.Goals as goal
use Rattle.teco_check.proofs.arrived.Arrived.put.Goals.{else-target-gt0-via-then-target-gt0+else-target-len}
use Rattle.teco_check.proofs.arrived.Arrived.put.Goals.{else-target-gt0-via-else-target-gt0}

pub returns-in_ok-self-inside : goal.returns-in_ok-self-inside
returns-in_ok-self-inside c =
    let items = c.self.inside.slots.items in
    let within : c.args.target ≤ length items = omega (arith, c.len.ensures, c.self.inside.slots.ok.0) in
    rw (← c.self.view_is)
    (arrived_inside items c.args.target c.args.facts _ c.replace-slot.result _ (omega arith) within
    (rw c.replace-slot.ensures.value c.index_mut.ensures.value) (rw c.in_ok-self-inside.was at c.met_more.ensures))

pub returns-else-target-gt0 : goal.returns-else-target-gt0
returns-else-target-gt0 c =
    elim c.else-target-gt0.branch [
      | else-target-gt0-via-then-target-gt0+else-target-len w ↦ rw (← c.self.view_is)
          (arrived_outside c.self.inside.slots.items c.args.target c.args.facts
          (omega (arith, w.len.ensures, c.self.inside.slots.ok.0)))
      | else-target-gt0-via-else-target-gt0 w ↦ let none : c.args.target ≡ 0 = omega arith in rw none refl
    ]
