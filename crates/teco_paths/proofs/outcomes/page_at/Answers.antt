use Rattle.teco_paths.proofs.Prelude.{subst, seen, Course, IsMet}
use Rattle.teco_paths.proofs.Lawful.{law_at_page}
use Rattle.teco_paths.proofs.outcomes.page_at.Goals as goal

pub returns-in-Ok : goal.returns-in-Ok
returns-in-Ok c =
    law_at_page c.nodes_are_sound.ensures c.args.course.now.nodes c.args.course.now.needs c.args.number
    (seen c.args.element.now) c.args.case.now c.in-Ok.all c.requires.one c.requires.last c.requires.reads
    c.in-Page.page c.in-Page.is
    (subst (λ (x : Course). IsMet x.needs c.in-Page.page) c.course.view_is c.if-not-is_met.ensures)
    (c.in-Ok.ensures (seen c.args.element.now) c.in-Page.is)
