use Rattle.teco_paths.proofs.Prelude.{◌≡◌, ◌<◌, sym, ap, ◌∙◌, subst, arith, [], length, Some, numbered}
use Rattle.teco_claims.specs.Values.{AtCut}
use Rattle.teco_paths.proofs.translated.forms_of.Goals as goal

pub returns : goal.returns
returns c n s all node is k d l =
    let same : c.deref-claim-items.result.now ≡ c.args.cut.now.claims =
    c.deref-claim-items.ensures.value ∙ ap (λ (x : AtCut). x.claims) c.cut.view_is in
    let less : k < c.loop-claim.claim-index = omega (arith, l, ap length same) in
    c.loop-claim.invariant.each k [] d less n s (all k [] (omega (arith, less, c.loop-claim.invariant.count))) node
    (subst (λ number. numbered c.args.nodes.now number ≡ Some node)
    (sym (ap (λ (x : AtCut). x.point) c.cut.view_is)) is)
