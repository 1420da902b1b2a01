use Rattle.teco_run.proofs.Prelude.{w32, rules, to_z-of_z}
use Rattle.teco_run.proofs.flow.iterate.Goals as goal

pub returns-in-None-clause-way : goal.returns-in-None-clause-way
returns-in-None-clause-way c =
    let same = to_z-of_z w32 c.in-Some.n (search rules) in
    let none = rw (c.in-None.is, same) at c.later_turns.ensures in
    λ arguments. rw (c.in-Some.is, ← none) (c.jump.ensures.way arguments)
