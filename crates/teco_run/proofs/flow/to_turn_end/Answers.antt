use Rattle.teco_run.proofs.Prelude.{◌≡◌, is_some, true, seen}
use Rattle.teco_run.proofs.Turns.{to_turn_end-open}
use Rattle.teco_run.proofs.flow.to_turn_end.Goals as goal

pub returns-clause-way : goal.returns-clause-way
returns-clause-way c =
    let some : is_some c.innermost.result ≡ true = cc (rw c.if-is_none.false at c.is_none.ensures) in
    λ arguments. rw (to_turn_end-open (seen c.args.element.now) c.args.frames.now.running c.innermost.result
    c.innermost.ensures.value some arguments) (c.jump.ensures.way arguments)
