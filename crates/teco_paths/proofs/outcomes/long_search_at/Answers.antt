use Rattle.teco_paths.proofs.Prelude.{◌≤◌, ◌∙◌, length, subst, sym, Some, seen, Course, IsRead, LawAt}
use Rattle.teco_paths.proofs.Lawful.{law_at_long_search}
use Rattle.teco_paths.proofs.outcomes.long_search_at.Goals as goal

pub returns-in-Ok : goal.returns-in-Ok
returns-in-Ok c =
    let e = seen c.args.element.now in
    subst (λ (x : Course). LawAt x.nodes x.needs c.args.number e c.args.case.now c.in-Ok.all) c.course.view_is
    (law_at_long_search c.nodes_are_sound.ensures c.course.inside.nodes.now c.course.inside.needs c.args.number e
    c.args.case.now
    c.in-Ok.all c.requires.one
    (subst (λ (x : Course). c.args.number ≤ length x.nodes) (sym c.course.view_is) c.requires.last)
    (subst (λ (x : Course). IsRead x.nodes c.args.number (Some e)) (sym c.course.view_is) c.requires.reads)
    c.in-Search.kind c.colon-answers.result c.in-Search.is
    c.colon-answers.ensures (λ none node is. c.if-not-is_told.ensures none ∙ c.inside-is_inside.ensures node is)
    c.if-not-is_met.ensures
    (c.in-Ok.ensures c.in-Search.is))
