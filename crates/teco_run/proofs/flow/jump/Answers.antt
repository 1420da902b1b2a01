use Rattle.teco_run.proofs.Prelude.{seen}
use Rattle.teco_run.proofs.Turns.{jump_some, jump_none}
use Rattle.teco_run.proofs.flow.jump.Goals as goal

pub returns-in-Some-clause-way : goal.returns-in-Some-clause-way
returns-in-Some-clause-way c =
    jump_some c.args.frames.now.running (seen c.args.element.now) c.requires.read c.skip-skip.result
    c.skip-skip.ensures.value c.args.code c.in-Some.place c.in-Some.is

pub returns-in-None-clause-way : goal.returns-in-None-clause-way
returns-in-None-clause-way c =
    jump_none c.args.frames.now.running (seen c.args.element.now) c.requires.read c.skip-skip.result
    c.skip-skip.ensures.value c.args.code c.in-None.is
