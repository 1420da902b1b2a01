use Rattle.teco_facts.proofs.Prelude.{◌<◌, length, length-take, arith}
use Rattle.teco_facts.proofs.Shifted.{put_front}
use Rattle.teco_facts.proofs.few.Few.put.Goals as goal

pub returns : goal.returns
returns g c =
    let items = c.self.inside.items in
    let room = rw (← c.self.view_is) at c.requires in
    let within : c.self.inside.len < length items =
    omega (arith, length-take c.self.inside.len items, c.self.invariant.0, c.self.invariant.1) in
    rw (c.copy_within.ensures.after, ← c.self.view_is) (put_front items c.self.inside.len c.args.item within)
