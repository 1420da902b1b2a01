-- Steps that may fail: what their answers are.
use Rattle.std.proofs.Common.{Result, Ok, Err, IfOk}
use Rattle.teco_base.specs.Results.{◌>>=◌}

-- what holds of the first step's answer, and then of all
pub ok_then : {E X Y : Type 0} (P : X → Type 0) (Q : Y → Type 0) (r : Result X E) (f : X → Result Y E) → IfOk r P
    → ((x : X) → P x → IfOk (f x) Q) → IfOk (r >>= f) Q
ok_then P Q (Ok x) f h k = k x h
ok_then P Q (Err e) f h k = tt

pub ok_any : {E X Y : Type 0} (Q : Y → Type 0) (r : Result X E) (f : X → Result Y E) → ((x : X) → IfOk (f x) Q)
    → IfOk (r >>= f) Q
ok_any Q (Ok x) f k = k x
ok_any Q (Err e) f k = tt
