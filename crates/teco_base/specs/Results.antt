-- Steps that may fail: the first error is the answer of all.
use Rattle.std.specs.Prelude.{Result, Ok, Err}

infixl 10 ◌>>=◌
abbrev pub ◌>>=◌ : {E X Y : Type 0} → Result X E → (X → Result Y E) → Result Y E
(Ok x) >>= f = f x
(Err e) >>= f = Err e

-- what is made of an answer; an error stays
infixl 10 ◌>>-◌
abbrev pub ◌>>-◌ : {E X Y : Type 0} → Result X E → (X → Y) → Result Y E
r >>- made = r >>= (λ x. Ok (made x))
