use Rattle.teco_paths.proofs.Prelude.{◌≡◌, subst, sym, arith, Some, OnTrue, Course, AreMet, AreSpots, GoOn, numbered}
use Rattle.teco_paths.proofs.Answered.{if_ok}
use Rattle.teco_paths.proofs.Stepping.{go_on_text}
use Rattle.teco_paths.proofs.steps.behind_text.Goals as goal

pub returns : goal.returns
returns c =
    let asked : AreMet c.args.case.now c.in_ok-outcomes.outcomes =
    subst (λ b. OnTrue b (AreMet c.args.case.now c.in_ok-outcomes.outcomes)) c.if-not-is_asked.false
    c.in_ok-is_asked.ensures in
    if_ok (λ spots. AreSpots c.course.inside.nodes.now c.args.number c.in_ok-outcomes.outcomes spots.items)
    (λ spots. GoOn c.args.course.now.nodes c.args.course.now.needs c.args.number c.args.case.now spots.items)
    c.spots_of.result
    (λ spots are. go_on_text (record {
      whole = c.whole_is_kept.ensures;
      along = c.steps_go_along_nodes.ensures;
      loaded = c.stays_loaded.ensures;
      sound = c.nodes_are_sound.ensures;
      opened = c.files_stay_open.ensures;
    }) c.args.course.now.nodes c.args.number c.args.case.now c.in_ok-outcomes.outcomes spots.items
    asked
    (subst (λ (x : Course). AreSpots x.nodes c.args.number c.in_ok-outcomes.outcomes spots.items) c.course.view_is are)
    c.requires.one c.requires.last c.args.course.now.needs c.in_ok-outcomes.ensures
    (λ node is. omega (
      arith,
      c.ways.ensures node (subst (λ (x : Course). numbered x.nodes c.args.number ≡ Some node)
          (sym c.course.view_is) is),
      c.if-ways-ne1.false,
    )) c.requires.reads)
    c.spots_of.ensures
