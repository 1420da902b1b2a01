use Rattle.teco_paths.proofs.Prelude.{subst, seen, Course, AreSpots, GoOn, IsPlain}
use Rattle.teco_paths.proofs.Answered.{if_ok}
use Rattle.teco_paths.proofs.Stepping.{go_on_element}
use Rattle.teco_paths.proofs.steps.behind_element.Goals as goal

pub returns : goal.returns
returns c =
    if_ok (λ spots. AreSpots c.course.inside.nodes.now c.args.number c.in_ok-outcomes.outcomes spots.items)
    (λ spots. GoOn c.args.course.now.nodes c.args.course.now.needs c.args.number c.args.case.now spots.items)
    c.spots_of.result
    (λ spots are. go_on_element (record {
      whole = c.whole_is_kept.ensures;
      along = c.steps_go_along_nodes.ensures;
      loaded = c.stays_loaded.ensures;
      sound = c.nodes_are_sound.ensures;
      opened = c.files_stay_open.ensures;
    }) c.args.course.now.nodes c.args.number c.args.case.now c.in_ok-outcomes.outcomes spots.items
    c.in_ok-outcomes.ensures.asked
    (subst (λ (x : Course). AreSpots x.nodes c.args.number c.in_ok-outcomes.outcomes spots.items) c.course.view_is are)
    c.requires.one c.requires.last c.args.course.now.needs (seen c.args.element.now) c.requires.reads
    (subst (λ (x : Course). IsPlain x.nodes c.args.number (seen c.args.element.now).kind) c.course.view_is
    c.if-not-is_plain.ensures)
    c.in_ok-outcomes.ensures.law)
    c.spots_of.ensures
