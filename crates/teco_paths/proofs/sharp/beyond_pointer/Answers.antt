use Rattle.teco_paths.proofs.Prelude.{◌≡◌, ℕ, pos, ◌-ℤ◌, arith, ints, Valuation, value, Pointer, Point}
use Rattle.teco_paths.proofs.Prelude.{IsTrueOf, single}
use Rattle.teco_paths.proofs.Answered.{if_ok}
use Rattle.teco_paths.proofs.sharp.beyond_pointer.Goals as goal

pub returns : goal.returns
returns c =
    if_ok
    (λ more. (n : ℕ) (v : Valuation)
    → value more n v ≡ value c.in_ok-form.form n v -ℤ value c.in_ok-pointer.pointer n v -ℤ pos 1)
    (λ more. (n : ℕ) (v : Valuation) (s : Point) → IsTrueOf n v c.args.case.now s
    → value more n v ≡ single s c.args.which -ℤ single s Pointer -ℤ pos 1)
    c.beyond.result
    (λ more is n v s true_of. omega (
      arith,
      ints,
      is n v,
      c.in_ok-form.ensures n v s true_of,
      c.in_ok-pointer.ensures n v s true_of,
    ))
    c.beyond.ensures
