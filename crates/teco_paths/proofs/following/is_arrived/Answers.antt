use Rattle.teco_paths.proofs.Prelude.{subst, arith, OnTrue, ComesTo}
use Rattle.teco_paths.proofs.Answered.{on_true}
use Rattle.teco_paths.proofs.Onward.{arrives}
use Rattle.teco_paths.proofs.following.is_arrived.Goals as goal

pub returns : goal.returns
returns c =
    on_true c.in_ok-is_timely.is_timely
    (arrives c.args.course.now c.args.spot.now c.args.cut.now (omega arith) (omega arith)
    (subst (λ b. OnTrue b (ComesTo c.args.spot.now.case c.args.cut.now)) c.if-not-is_claimed.false
    c.in_ok-is_claimed.ensures))
    c.in_ok-is_timely.ensures
