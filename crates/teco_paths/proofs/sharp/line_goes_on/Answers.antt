use Rattle.teco_paths.proofs.Prelude.{subst, OnTrue, Implies}
use Rattle.teco_paths.proofs.Sharpening.{sharper}
use Rattle.teco_paths.proofs.sharp.line_goes_on.Goals as goal

pub returns-then-branch : goal.returns-then-branch
returns-then-branch c =
    sharper c.args.case.now c.in_ok-ahead.ahead c.in_ok-more.more c.in_ok-ahead.ensures c.in_ok-more.ensures
    (subst (λ b. OnTrue b (Implies c.args.case.now.constraints.items c.in_ok-ahead.ahead)) c.if-branch.true
    c.in_ok-is_so_nearby.ensures)
