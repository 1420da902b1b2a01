use Rattle.teco_paths.proofs.Prelude.{subst, ℕ, OnTrue, All, Valuation, values, Holds, AreFilled, ArePresent, ComesTo}
use Rattle.teco_paths.proofs.Answered.{if_ok, on_true}
use Rattle.teco_paths.proofs.Claiming.{comes}
use Rattle.teco_paths.proofs.cut.comes_to.Goals as goal

pub returns : goal.returns
returns c =
    if_ok (λ answer. OnTrue answer ((n : ℕ) (v : Valuation) → All (Holds n v) c.args.case.now.constraints.items
    → All (Holds n (values c.deref-3.result.now n v)) c.deref-4.result.now))
    (λ answer. OnTrue answer (ComesTo c.args.case.now c.args.cut.now)) c.are_claims_so.result
    (λ answer. on_true answer (λ claims. comes c.args.case.now c.args.cut.now c.in_ok-forms.forms.items
    c.if-not-is_same_shape.ensures.operators c.if-not-is_same_shape.ensures.iterations
    c.if-not-is_same_shape.ensures.pushes
    (subst (λ p. ArePresent p c.args.case.now.forms.items) c.deref.ensures.value
    (subst (λ f. ArePresent c.deref.result.now f) c.deref-else-not-is_same_shape.ensures.value
    c.if-not-are_marked.ensures))
    (subst (λ f. AreFilled f c.in_ok-forms.forms.items) c.deref-2.ensures.value c.in_ok-forms.ensures)
    (λ n v holds. subst (λ f. All (Holds n (values f n v)) c.args.cut.now.claims.items) c.deref-3.ensures.value
    (subst (All (Holds n (values c.deref-3.result.now n v))) c.deref-4.ensures.value (claims n v holds)))))
    c.are_claims_so.ensures
