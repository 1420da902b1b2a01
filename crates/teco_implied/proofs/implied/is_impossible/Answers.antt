use Rattle.std.proofs.Common.{◌≡◌, ℕ, List, arith, Bool, true, false, Result, Ok, Err, pos, negsuc, subst}
use Rattle.std.proofs.lemmas.Int.{ints}
use Rattle.std.specs.Prelude.{IfOk, ◌≤ℤ◌}
use Rattle.std.specs.Bool.{OnTrue}
use Rattle.teco_linear.specs.declared.term.Term.{Term}
use Rattle.teco_linear.specs.Form.{Valuation, value}
use Rattle.teco_linear.specs.Implied.{Implies}
use Rattle.teco_rows.specs.declared.case.Case.{Case}
use Rattle.teco_implied.specs.Implied.{IsImpossible}
use Rattle.teco_implied.specs.declared.fault.ImpliedFault.{ImpliedFault}
use Rattle.teco_implied.proofs.implied.is_impossible.Goals as goal

below : (form : List Term) → ((n : ℕ) (v : Valuation) → value form n v ≡ negsuc 0) → (case : Case)
    → Implies case.constraints.items form → IsImpossible case
below form is case h n s d =
    let fits : pos 0 ≤ℤ value form n d.0 = h n d.0 d.1.fits.constraints in
    omega (arith, ints, fits, is n d.0)

by_answer : (form : List Term) → ((n : ℕ) (v : Valuation) → value form n v ≡ negsuc 0) → (case : Case)
    → (answer : Bool) → OnTrue answer (Implies case.constraints.items form) → OnTrue answer (IsImpossible case)
by_answer form is case true h = below form is case h
by_answer form is case false h = tt

by_result : (form : List Term) → ((n : ℕ) (v : Valuation) → value form n v ≡ negsuc 0) → (case : Case)
    → (r : Result Bool ImpliedFault) → IfOk r (λ answer. OnTrue answer (Implies case.constraints.items form))
    → IfOk r (λ answer. OnTrue answer (IsImpossible case))
by_result form is case (Ok answer) h = by_answer form is case answer h
by_result form is case (Err e) h = tt

pub returns : goal.returns
returns c =
    by_result c.in_ok-below.below c.in_ok-below.ensures c.args.case.now c.is_found.result
    (subst (λ cs. IfOk c.is_found.result (λ answer. OnTrue answer (Implies cs c.in_ok-below.below)))
    c.deref-2.ensures.value c.is_found.ensures)
