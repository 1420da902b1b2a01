use Rattle.teco_linear.proofs.Prelude.{◌≤◌, vec_len, MAX_TERMS}
use Rattle.teco_linear.proofs.Substitution.{IsSubstituted}
use Rattle.teco_linear.proofs.form.substituted.Given as goal

-- the terms before this one are done
abbrev pub invariant-loop-term : goal.invariant-loop-term
invariant-loop-term l = IsSubstituted l.terms l.forms l.term-index l.sum.items × (vec_len l.sum ≤ MAX_TERMS)
