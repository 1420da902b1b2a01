-- The numbers that reasons of refusals are printed as, behind an X.
use Rattle.std.specs.Prelude.{ℕ}
use Rattle.teco_verifier.specs.declared.refusal.RefusalReason.{RefusalReason}
use Rattle.teco_verifier.specs.declared.refusal.RefusalReason.TheVariants as why

abbrev pub number_of : RefusalReason → ℕ
number_of why.Library = 1
number_of why.Fault = 2
number_of why.Partner = 3
number_of why.Argument = 4
number_of why.Pending = 5
number_of why.Place = 6
number_of why.Deletion = 7
number_of why.Divisor = 8
number_of why.Fall = 9
number_of why.Bound = 10
number_of why.Missing = 11
number_of why.Recursion = 12
number_of why.Written = 13
number_of why.Pop = 14
number_of why.Unverified = 15
number_of why.Size = 16
number_of why.Overflow = 17
number_of why.Certificate = 18
