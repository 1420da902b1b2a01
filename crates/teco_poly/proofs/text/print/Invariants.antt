use Rattle.teco_poly.proofs.Prelude.{◌≡◌, [], ◌++◌, drop, string_bytes, terms_from, joined, lead_behind}
use Rattle.teco_poly.proofs.text.print.Given as goal

-- what is written and the terms that are left are all the terms
abbrev pub invariant-loop-power : goal.invariant-loop-power
invariant-loop-power l =
    let written = string_bytes l.text in
    written ++ joined (lead_behind written) (terms_from l.power (drop l.power l.coefficients)) ≡ joined []
    (terms_from 0 l.coefficients)
