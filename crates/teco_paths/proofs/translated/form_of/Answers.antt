use Rattle.teco_paths.proofs.Prelude.{◌≡◌, ◌+◌, ◌+ℤ◌, sym, ap, ◌∙◌, subst, arith, length, take, value, slice_index_or}
use Rattle.teco_paths.proofs.Prelude.{numbers_of}
use Rattle.teco_paths.proofs.Meant.{sums_on, take_more}
use Rattle.teco_paths.specs.Meaning.{Sums}
use Rattle.teco_paths.proofs.translated.form_of.Goals as goal

pub loop-term-preserved : goal.loop-term-preserved
loop-term-preserved c node is n s =
    let claim = c.args.claim.now in
    let same : c.deref-term-items.result.now ≡ claim = c.deref-term-items.ensures.value ∙ c.claim.view_is in
    let item = c.term-item.result in
    let here : slice_index_or claim c.loop-term.term-index item ≡ item =
    ap (λ xs. slice_index_or xs c.loop-term.term-index item) (sym same) ∙ sym c.term-item.is in
    let times = c.in-Some.times in
    subst (λ sum. Sums node n s times (take (c.loop-term.term-index + 1) claim) sum)
    (sym (c.in_ok-form.ensures n (numbers_of s)))
    (subst (λ terms. Sums node n s times terms (value c.loop-term.form n (numbers_of s)
    +ℤ value c.in_ok-more.more n (numbers_of s)))
    (sym (take_more claim c.loop-term.term-index item (omega (arith, ap length same)) here))
    (sums_on node n s times (take c.loop-term.term-index claim) item (value c.loop-term.form n (numbers_of s))
    (value c.in_ok-more.more n (numbers_of s)) (c.loop-term.invariant node is n s)
    (c.in_ok-more.ensures node is n s)))
