use Rattle.teco_facts.proofs.Meeting.{met_front}
use Rattle.teco_facts.proofs.few.Few.meet.Goals as goal

pub returns : goal.returns
returns g c =
    rw (c.meet_each.ensures.value, ← c.self.view_is, ← c.other.view_is)
    (met_front g.T.Meets.met c.self.inside.items c.other.inside.items c.self.inside.len c.other.inside.len
    c.min-self-inside.result c.min-self-inside.ensures)
