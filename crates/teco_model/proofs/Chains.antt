-- Steps in a chain that ends at the first error, taken apart.
use Rattle.teco_model.proofs.Prelude.{◌≡◌, Option, Some, None, Result, Ok, Err, ok_or, refl, ap}
use Rattle.teco_base.specs.Results.{◌>>=◌}

pub ok : {X E : Type 0} (x y : X) → Path (Result X E) (Ok x) (Ok y) → x ≡ y
ok x y h = cc

-- what a step gave before another
pub record Bound {X Y E : Type 0} (r : Result X E) (f : X → Result Y E) (y : Y) : Type 0 where
  pub before : X
  pub was : r ≡ Ok before
  pub gives : f before ≡ Ok y

pub bound : {X Y E : Type 0} (r : Result X E) (f : X → Result Y E) (y : Y) → (r >>= f) ≡ Ok y → Bound r f y
bound (Ok x) f y h = record { before = x; was = refl; gives = h }
bound (Err e) f y h = absurd (cc)

pub some_of : {X E : Type 0} (o : Option X) (e : E) (x : X) → ok_or o e ≡ Ok x → o ≡ Some x
some_of None e x h = absurd (cc)
some_of (Some y) e x h = ap Some (ok y x h)
