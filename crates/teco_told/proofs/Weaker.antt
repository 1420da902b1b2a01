-- What is known of one numeric argument is known of another.
use Rattle.std.proofs.Common.{◌≡◌, ℤ, subst}
use Rattle.teco_changes.specs.Arguments.{Implies}
use Rattle.teco_changes.specs.declared.argument.NumericArgument.{NumericArgument}
use Rattle.teco_changes.specs.declared.argument.NumericArgument.TheVariants as known
use Rattle.teco_law_changes.proofs.Sharper.{some_is_value, value_is_number}

pub unreached : (other : NumericArgument) → Implies known.Unreached other
unreached other level is = absurd is

pub unknown : (one : NumericArgument) → Implies one known.Unknown
unknown one level is = tt

pub itself : (one : NumericArgument) → Implies one one
itself one level is = is

pub number : Implies known.Value known.Number
number level is = value_is_number level is.0 is.1

pub complete : Implies known.Value known.Complete
complete level is = is.0

pub same : (n m : ℤ) → n ≡ m → Implies (known.Exactly n) (known.Exactly m)
same n m equal = subst (λ k. Implies (known.Exactly n) (known.Exactly k)) equal (itself (known.Exactly n))

pub through : (n : ℤ) (other : NumericArgument) → Implies known.Value other → Implies (known.Exactly n) other
through n other implies level is = implies level (is.0, some_is_value n level is.1)
