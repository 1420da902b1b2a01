use Rattle.teco_claims.proofs.Prelude.{◌≡◌, subst, refl, eqb-true, IsGcd}
use Rattle.std.proofs.lemmas.Nat.Gcd.{same_from_IsGcd}
use Rattle.teco_claims.proofs.spelled.have_no_divisor.Goals as goal

pub returns : goal.returns
returns c =
    let is = c.greatest_divisor.ensures in (
      λ same. subst (IsGcd c.args.first c.args.second) (eqb-true c.greatest_divisor.result 1 same) is,
      λ gcd. let one : c.greatest_divisor.result ≡ 1 =
          same_from_IsGcd c.args.first c.args.second c.greatest_divisor.result 1 is gcd in rw one refl,
    )
