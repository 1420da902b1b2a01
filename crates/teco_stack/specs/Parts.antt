-- The item on top of a stack, and those below.
use Rattle.std.specs.Prelude.{◌≡◌, List, [], ◌∷◌, Option, Some, None, Result, Ok, Err}
use Rattle.std.specs.Borrow.{Bor}

abbrev pub IsParted : {T : Type 0} → List T → Option (Bor T × Bor (List T)) → Type 0
IsParted items None = items ≡ []
IsParted items (Some parts) = items ≡ parts.0.now ∷ parts.1.now

-- that item is taken off, if there is one; a refusal leaves all as it is
abbrev pub IsPopped : {T E : Type 0} → List T → List T → Result (Option T) E → Type 0
IsPopped old new (Ok None) = (old ≡ []) × (new ≡ old)
IsPopped old new (Ok (Some item)) = old ≡ item ∷ new
IsPopped old new (Err refused) = new ≡ old
