use Rattle.teco_paths.proofs.Prelude.{subst, sym, arith, All, LeadsOn}
use Rattle.teco_paths.proofs.Onward.{all_short, in_place}
use Rattle.teco_paths.proofs.following.follow.Goals as goal

pub returns-in_default : goal.returns-in_default
returns-in_default c =
    c.spots.invariant
    (all_short (LeadsOn c.args.course.now) c.spots.ahead.items (omega (arith, c.in_default.ensures.cases.0)))

pub spots-preserved : goal.spots-preserved
spots-preserved c all =
    c.spots.invariant
    (subst (All (LeadsOn c.args.course.now)) (sym c.in-Some.ensures.items)
    (in_place c.args.course.now c.pop.new.self.items c.in_ok-more.more.items c.in-Some.spot c.in_ok-more.ensures
    (subst (All (LeadsOn c.args.course.now)) c.in_ok-append.ensures.items all)))
