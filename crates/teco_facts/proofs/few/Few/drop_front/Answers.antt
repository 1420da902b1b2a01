use Rattle.teco_facts.proofs.Prelude.{◌≤◌, ◌∙◌, length, arith}
use Rattle.teco_facts.proofs.Shifted.{dropped_front, drop_fewer}
use Rattle.teco_facts.proofs.few.Few.drop_front.Goals as goal

pub returns-clause-value : goal.returns-clause-value
returns-clause-value g c =
    let items = c.self.inside.items in
    let within : c.self.inside.len ≤ length items = omega (arith, c.self.invariant.0, c.self.invariant.1) in
    let fewer : c.min-count.result ≤ c.self.inside.len = omega (arith, c.min-count.ensures) in
    rw (c.copy_within.ensures.after, ← c.self.view_is)
    (dropped_front items c.self.inside.len c.min-count.result fewer within
    ∙ drop_fewer items c.self.inside.len c.args.count c.min-count.result within c.min-count.ensures)
