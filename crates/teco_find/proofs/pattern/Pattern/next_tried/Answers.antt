use Rattle.teco_find.proofs.Prelude.{subst, Anchors, IsNeedle, joined}
use Rattle.teco_find.proofs.Matches.{next_needle, next_standing}
use Rattle.teco_find.proofs.pattern.Pattern.next_tried.Goals as goal

pub returns-in-Some : goal.returns-in-Some
returns-in-Some c =
    let is = subst (λ items. IsNeedle items c.in-Some.needle) c.self.view_is
    (c.self.invariant.1 c.in-Some.needle c.in-Some.is) in
    next_needle c.args.self.now (joined c.args.text) c.in-Some.needle is c.args.from c.next_start.result
    c.next_start.ensures

pub returns-in-Some-anchor : goal.returns-in-Some-anchor
returns-in-Some-anchor c =
    let anchors = subst (λ items. Anchors items c.in-Some-anchor.anchor) c.self.view_is
    (c.self.invariant.0 c.in-Some-anchor.anchor c.in-Some-anchor.is) in
    next_standing c.args.self.now (joined c.args.text) c.in-Some-anchor.anchor anchors c.args.from c.first_start.result
    c.first_start.ensures
