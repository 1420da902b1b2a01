use Rattle.teco_search_outcomes.proofs.Prelude.{◌≡◌, ◌-◌, length, parts}
use Rattle.teco_search_outcomes.proofs.Parting.{with_rest}
use Rattle.teco_search_outcomes.proofs.patterns.parts.Given as goal

-- what is read so far and what is read of the rest are the whole
abbrev pub invariant-loop-step : goal.invariant-loop-step
invariant-loop-step l = parts l.text ≡ with_rest (length l.text - l.step) l.rest l.read.items
