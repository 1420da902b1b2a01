-- What the constants are.
use Rattle.std.specs.Prelude.{◌≡◌, refl}
use Rattle.teco_poly.specs.declared.coefficients.TheConstants.{COEFFICIENTS}

-- how many coefficients a polynomial has: of the powers from 0 to 8
pub coefficients : COEFFICIENTS ≡ 9
coefficients = refl
