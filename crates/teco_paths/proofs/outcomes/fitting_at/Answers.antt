use Rattle.teco_paths.proofs.Prelude.{seen}
use Rattle.teco_paths.proofs.Lawful.{law_at_element}
use Rattle.teco_paths.proofs.outcomes.fitting_at.Goals as goal

pub returns-in-Ok : goal.returns-in-Ok
returns-in-Ok c =
    law_at_element c.nodes_are_sound.ensures c.args.course.now.nodes c.args.course.now.needs c.args.number
    (seen c.args.element.now) c.args.case.now
    c.in-Ok.all c.requires.one c.requires.last c.requires.reads c.if-not-has_pair.ensures c.in-Ok.ensures
