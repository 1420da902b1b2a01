use Rattle.teco_policy.proofs.Asking.{IsNumberUpTo}
use Rattle.teco_policy.proofs.words.number.Given as goal

abbrev pub invariant-loop-digit : goal.invariant-loop-digit
invariant-loop-digit l = IsNumberUpTo l.n l.digits l.digit-index
