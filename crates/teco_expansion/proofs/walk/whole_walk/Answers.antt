use Rattle.teco_expansion.proofs.Prelude.{◌-◌, ◌+◌, List, map, Some, None, sym, ap, refl, ◌∙◌, arith, Visit, walk}
use Rattle.teco_expansion.proofs.Prelude.{visit_seen, library_of, behind}
use Rattle.teco_expansion.specs.Refused.{reason_seen}
use Rattle.teco_expansion.proofs.Level.{level_next, level-room}
use Rattle.teco_expansion.proofs.Walking.{walk_refused, walk_over, walk_on, walk_spent, seen_more, seen_ending}
use Rattle.teco_expansion.proofs.Walking.{room_more}
use Rattle.teco_expansion.proofs.walk.whole_walk.Goals as goal

pub returns-in-Err-clause-walk : goal.returns-in-Err-clause-walk
returns-in-Err-clause-walk c =
    let texts = c.args.texts.now in
    let l = c.loop-number in
    seen_ending texts l.visits.items c.push.new.self.items l.visit _ _ c.in_ok-push.ensures.items
    (ap Some c.refusal_at.ensures)
    ∙ sym (walk_refused (library_of texts) texts.entry (4098 - l.number) l.number
    (map (visit_seen texts) l.visits.items) (visit_seen texts l.visit) (reason_seen c.in-Err.reason)
    (omega arith) c.in-Err.ensures)
    ∙ l.invariant.0

pub returns-in-Err-clause-room : goal.returns-in-Err-clause-room
returns-in-Err-clause-room c =
    let l = c.loop-number in
    room_more l.visits.items c.push.new.self.items l.visit c.in_ok-push.ensures.items l.invariant.2
    (level-room c.args.texts.now l.visit l.invariant.1)

pub returns-then-len-eq0-clause-walk : goal.returns-then-len-eq0-clause-walk
returns-then-len-eq0-clause-walk c =
    let texts = c.args.texts.now in
    let l = c.loop-number in
    seen_ending texts l.visits.items c.push.new.self.items l.visit None None c.in_ok-push.ensures.items refl
    ∙ sym (walk_over (library_of texts) texts.entry (4098 - l.number) l.number (map (visit_seen texts) l.visits.items)
    (visit_seen texts l.visit) (visit_seen texts c.in-Ok.next) (omega arith) c.in-Ok.ensures
    (omega (arith, c.len.ensures.value, c.if-len-eq0.true)))
    ∙ l.invariant.0

pub returns-then-len-eq0-clause-room : goal.returns-then-len-eq0-clause-room
returns-then-len-eq0-clause-room c =
    let l = c.loop-number in
    room_more l.visits.items c.push.new.self.items l.visit c.in_ok-push.ensures.items l.invariant.2
    (level-room c.args.texts.now l.visit l.invariant.1)

pub loop-number-preserved : goal.loop-number-preserved
loop-number-preserved c =
    let texts = c.args.texts.now in
    let l = c.loop-number in
    let next = visit_seen texts c.in-Ok.next in
    let rest = walk (4098 - (l.number + 1)) (library_of texts) texts.entry (l.number + 1) next in (
      ap (λ (vs : List Visit). behind vs rest)
          (seen_more texts l.visits.items c.push.new.self.items l.visit c.in_ok-push.ensures.items)
          ∙ sym (walk_on (library_of texts) texts.entry (4098 - l.number) (4098 - (l.number + 1)) l.number
          (map (visit_seen texts) l.visits.items) (visit_seen texts l.visit) next (omega arith) c.in-Ok.ensures
          (omega (arith, c.len.ensures.value, c.if-len-eq0.false)))
          ∙ l.invariant.0,
      level_next (library_of texts) l.number (visit_seen texts l.visit) next c.in-Ok.ensures l.invariant.1,
      room_more l.visits.items c.push.new.self.items l.visit c.in_ok-push.ensures.items l.invariant.2
          (level-room texts l.visit l.invariant.1),
    )

pub returns-clause-walk : goal.returns-clause-walk
returns-clause-walk c =
    let texts = c.args.texts.now in
    let l = c.loop-number in
    seen_ending texts l.visits.items c.push-2.new.self.items l.visit _ _ c.in_ok-push-2.ensures.items
    (ap Some c.refusal_at-2.ensures)
    ∙ sym (walk_spent (library_of texts) texts.entry (4098 - l.number) l.number (map (visit_seen texts) l.visits.items)
    (visit_seen texts l.visit) (omega arith))
    ∙ l.invariant.0

pub returns-clause-room : goal.returns-clause-room
returns-clause-room c =
    let l = c.loop-number in
    room_more l.visits.items c.push-2.new.self.items l.visit c.in_ok-push-2.ensures.items l.invariant.2
    (level-room c.args.texts.now l.visit l.invariant.1)
