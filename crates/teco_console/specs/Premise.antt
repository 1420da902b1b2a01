-- Up to which N a promise holds: the size may be held, and the number of commands is one of 64 bits.
use Rattle.std.specs.Prelude.{ℕ, ◌<◌, ◌≤◌, ◌-◌, ◌^◌, ◌⊎◌, Option, Some, None}
use Rattle.teco_base.specs.declared.TheConstants.{LIMIT}
use Rattle.teco_poly.specs.Polynomial.{Polynomial, value}

-- the most commands that can be counted
abbrev pub MOST : ℕ
MOST = 2 ^ 64 - 1

-- the promise holds at N
pub record Holds (size commands : Polynomial) (n : ℕ) : Type 0 where
  pub fits : value size n ≤ LIMIT
  pub counts : value commands n ≤ MOST

-- the premise fails: one of the two is too large
abbrev pub Fails : Polynomial → Polynomial → ℕ → Type 0
Fails size commands n = (LIMIT < value size n) ⊎ (MOST < value commands n)

-- N is the last, of 64 bits, at which it holds
pub record IsLast (size commands : Polynomial) (n : ℕ) : Type 0 where
  pub holds : Holds size commands n
  pub beyond : (m : ℕ) → n < m → m < 2 ^ 64 → Fails size commands m

-- that N, or that there is none
abbrev pub IsPremise : Polynomial → Polynomial → Option ℕ → Type 0
IsPremise size commands None = (n : ℕ) → Fails size commands n
IsPremise size commands (Some n) = IsLast size commands n

-- up to that N, if there is one
abbrev pub IsWithin : Option ℕ → ℕ → Type 0
IsWithin None n = ⊥
IsWithin (Some last) n = n ≤ last
