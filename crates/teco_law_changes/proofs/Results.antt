-- What a result gives, where it is no code.
use Rattle.std.proofs.Common.{◌≡◌, subst, Bool, true, false, refl, Result, Ok, Err, if◌then◌else◌}
use Rattle.std.specs.Prelude.{IfOk}
use Rattle.teco_base.specs.Results.{◌>>=◌, ◌>>-◌}

pub given : {X E : Type 0} (Q : X → Type 0) (r : Result X E) → ((x : X) → r ≡ Ok x → Q x) → IfOk r Q
given Q (Ok x) h = h x refl
given Q (Err e) h = tt

pub onward : {X Y E : Type 0} (P : X → Type 0) (Q : Y → Type 0) (r : Result X E) (f : X → Result Y E)
    → IfOk r P → ((x : X) → P x → IfOk (f x) Q) → IfOk (r >>= f) Q
onward P Q (Ok x) f h k = k x h
onward P Q (Err e) f h k = tt

pub onward_made : {X Y E : Type 0} (P : X → Type 0) (Q : Y → Type 0) (r : Result X E) (f : X → Y)
    → IfOk r P → ((x : X) → P x → Q (f x)) → IfOk (r >>- f) Q
onward_made P Q (Ok x) f h k = k x h
onward_made P Q (Err e) f h k = tt

pub onward_any : {X Y E : Type 0} (Q : Y → Type 0) (r : Result X E) (f : X → Result Y E)
    → ((x : X) → r ≡ Ok x → IfOk (f x) Q) → IfOk (r >>= f) Q
onward_any Q (Ok x) f k = k x refl
onward_any Q (Err e) f k = tt

pub tested : {X E : Type 0} (Q : X → Type 0) (b : Bool) (x : X) (e : E) → Q x → IfOk (if b then Ok x else Err e) Q
tested Q true x e h = h
tested Q false x e h = tt

-- what it gives is so
pub of_ok : {X E : Type 0} (Q : X → Type 0) (r : Result X E) (x : X) → IfOk r Q → r ≡ Ok x → Q x
of_ok Q (Ok y) x h e = let same : y ≡ x = cc in subst Q same h
of_ok Q (Err c) x h e = absurd cc
