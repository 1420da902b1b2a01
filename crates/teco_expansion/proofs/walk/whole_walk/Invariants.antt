use Rattle.teco_expansion.proofs.Prelude.{◌≡◌, ◌-◌, map, walk, HasRoom, visit_seen, library_of, behind}
use Rattle.std.proofs.Common.{All}
use Rattle.teco_verifier.specs.expansion.Expansion.{whole_walk_of}
use Rattle.teco_expansion.proofs.Level.{IsLevel}
use Rattle.teco_expansion.proofs.walk.whole_walk.Given as goal

abbrev pub invariant-loop-number : goal.invariant-loop-number
invariant-loop-number l =
    let library = library_of l.texts in
    let entry = l.texts.entry in
    (behind (map (visit_seen l.texts) l.visits.items)
    (walk (4098 - l.number) library entry l.number (visit_seen l.texts l.visit)) ≡ whole_walk_of library entry)
    × IsLevel (visit_seen l.texts l.visit) × All HasRoom l.visits.items
