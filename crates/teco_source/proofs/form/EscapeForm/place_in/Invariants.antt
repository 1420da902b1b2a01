use Rattle.std.proofs.Common.{◌≡◌, ◌+◌, drop}
use Rattle.teco_source.specs.Source.{place_in, place_behind}
use Rattle.teco_source.proofs.form.EscapeForm.place_in.Given as goal

-- the place is the one that is left, from here on
abbrev pub invariant-loop-at : goal.invariant-loop-at
invariant-loop-at l = l.at + place_behind l.self l.before (drop l.at l.source) l.left ≡ place_in l.self l.source l.place
