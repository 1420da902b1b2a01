use Rattle.teco_expansion.proofs.Prelude.{listed, refusal_seen, position_seen, visit_seen, library_of, walk_seen}
use Rattle.teco_expansion.proofs.Two.{both_numbers, second_fails}
use Rattle.teco_expansion.proofs.link.way_numbers.Goals as goal

pub returns-in-Ok : goal.returns-in-Ok
returns-in-Ok c =
    let texts = c.args.link.now.texts.now in
    let all = both_numbers (library_of texts) texts.entry (walk_seen texts c.args.link.now.walk.now) c.args.first
    c.args.link.now.number (visit_seen texts c.args.link.now.visit.now) (position_seen texts c.in-Two.one)
    (position_seen texts c.in-Two.other) c.in_ok-way-in-Two.way (listed c.in-Ok.last) c.in_ok-way-in-Two.ensures
    c.in-Ok.ensures.value in
    rw (c.in-Two.is, c.with.ensures) all

pub returns-in-Err : goal.returns-in-Err
returns-in-Err c =
    let texts = c.args.link.now.texts.now in
    let all = second_fails (library_of texts) texts.entry (walk_seen texts c.args.link.now.walk.now) c.args.first
    c.args.link.now.number (visit_seen texts c.args.link.now.visit.now) (position_seen texts c.in-Two.one)
    (position_seen texts c.in-Two.other) c.in_ok-way-in-Two.way
    (refusal_seen c.in-Err.refusal) c.in_ok-way-in-Two.ensures c.in-Err.ensures.value in
    rw c.in-Two.is all
