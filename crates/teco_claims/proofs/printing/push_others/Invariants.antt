use Rattle.teco_claims.proofs.Prelude.{◌≡◌, ◌++◌, take, flat_map, next_text}
use Rattle.teco_claims.proofs.printing.push_others.Given as goal

-- what is added so far is of those so far
abbrev pub invariant-loop-term : goal.invariant-loop-term
invariant-loop-term l = l.text.items ≡ l.fn.text.items ++ flat_map next_text (take l.term-index l.terms)
