use Rattle.teco_facts.proofs.Places.{subtracted}
use Rattle.teco_facts.proofs.Wholes.{place_whole, difference_whole}
use Rattle.teco_facts.proofs.place.apart.Goals as goal

pub returns : goal.returns
returns c =
    let s = place_whole _ _ _ _ c.requires.one in
    let t = place_whole _ _ _ _ c.requires.two in
    subtracted c.args.s c.args.t _ _ _ _
    (difference_whole s.ahead t.ahead (record { sfits = c.sub.type_inv }) c.sub.ensures)
    (difference_whole s.behind t.behind (record { sfits = c.sub-2.type_inv }) c.sub-2.ensures)
    (difference_whole s.lo t.hi (record { sfits = c.sub-3.type_inv }) c.sub-3.ensures)
    (difference_whole s.hi t.lo (record { sfits = c.sub-4.type_inv }) c.sub-4.ensures)
