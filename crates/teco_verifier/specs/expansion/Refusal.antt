-- Why a library is not expanded.
use Rattle.std.specs.Prelude.{ℕ, Bool, true, false, Result, Ok, Err}
pub use Rattle.teco_base.specs.Results.{◌>>=◌}

-- a fault of an element, or of a search text (X2); a bracket, pipe or tag without its partner, or pairs that overlap
-- (X3); a call of what is no macro of the library (X11); recursion (X12); too many elements, open calls or open
-- iterations (X16)
pub data Reason : Type 0 where
  Fault : Reason
  Unpaired : Reason
  NoMacro : Reason
  Recursion : Reason
  TooLarge : Reason

-- a reason, and the register and the place of the element
pub record Refusal : Type 0 where
  pub reason : Reason
  pub register : ℕ
  pub place : ℕ

-- a refusal where something is so
abbrev pub unless : {E : Type 0} → Bool → E → Result (Unit {0}) E
unless true refusal = Err refusal
unless false refusal = Ok tt
