use Rattle.teco_paths.proofs.Prelude.{◌≡◌, sym, ap, ◌∙◌, subst, arith, length, slice_index_or, ◌+◌}
use Rattle.teco_claims.specs.Values.{Claimed}
use Rattle.teco_paths.proofs.Meant.{AreMade, made_more, made_say}
use Rattle.teco_paths.proofs.translated.cuts_of.Goals as goal

pub loop-cut-preserved : goal.loop-cut-preserved
loop-cut-preserved c =
    let cuts = c.args.claimed.now.cuts in
    let same : c.deref-cut-items.result.now ≡ cuts =
    c.deref-cut-items.ensures.value ∙ ap (λ (x : Claimed). x.cuts) c.claimed.view_is in
    let index = c.loop-cut.cut-index in
    let at = c.cut-item.result in
    let here : slice_index_or cuts index at ≡ at =
    ap (λ xs. slice_index_or xs index at) (sym same) ∙ sym c.cut-item.is in
    subst (AreMade c.args.nodes.now cuts (index + 1)) (sym c.in_ok-append.ensures.items)
    (made_more c.args.nodes.now cuts index c.loop-cut.cuts.items c.in_ok-more.more.items at
    (omega (arith, ap length same)) here c.loop-cut.invariant c.in_ok-more.ensures.made c.in_ok-more.ensures.some)

pub returns : goal.returns
returns c =
    let cuts = c.args.claimed.now.cuts in
    let same : c.deref-cut-items.result.now ≡ cuts =
    c.deref-cut-items.ensures.value ∙ ap (λ (x : Claimed). x.cuts) c.claimed.view_is in
    made_say c.args.nodes.now cuts c.loop-cut.cuts.items
    (subst (λ count. AreMade c.args.nodes.now cuts count c.loop-cut.cuts.items)
    (omega (arith, ap length same)) c.loop-cut.invariant)
