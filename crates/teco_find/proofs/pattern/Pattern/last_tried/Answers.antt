use Rattle.teco_find.proofs.Prelude.{subst, Anchors, joined}
use Rattle.teco_find.proofs.Matches.{last_standing}
use Rattle.teco_find.proofs.pattern.Pattern.last_tried.Goals as goal

pub returns-in-Some : goal.returns-in-Some
returns-in-Some c =
    let anchors = subst (λ items. Anchors items c.in-Some.anchor) c.self.view_is
    (c.self.invariant.0 c.in-Some.anchor c.in-Some.is) in
    last_standing c.args.self.now (joined c.args.text) c.in-Some.anchor anchors c.args.before c.last_start.result
    c.last_start.ensures
