use Rattle.std.proofs.Common.{◌≡◌, ◌-◌}
use Rattle.teco_acceptance.specs.Editions.{edition_within}
use Rattle.teco_acceptance.proofs.claim.edition_of.Given as goal

-- the lines that are left name the edition
abbrev pub invariant-loop : goal.invariant-loop
invariant-loop l = edition_within (4 - l.counter) l.rest ≡ edition_within 4 l.text
