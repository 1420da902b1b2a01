use Rattle.teco_check.proofs.Prelude.{◌≡◌, ◌<◌, ◌-◌, sym, ◌∙◌, refl, take, drop, length, ◌+◌, arith, node_at}
use Rattle.teco_verifier.specs.table.Written.{ends_in}
use Rattle.teco_check.proofs.Writing.{body_more, ends_here, ends_later}
use Rattle.teco_check.proofs.iterations.ends_in.Goals as goal
use Rattle.teco_check.proofs.iterations.ends_in.Goals.{then-ends_saved, else-ends_saved}

pub loop-at-init : goal.loop-at-init
loop-at-init c =
    let none : c.args.begin - c.args.begin ≡ 0 = omega arith in
    rw none refl

pub loop-at-preserved : goal.loop-at-preserved
loop-at-preserved c =
    let nodes = c.args.nodes.now in
    let begin = c.args.begin in
    let before = take (c.loop-at.at - begin) (drop begin nodes) in
    let node = node_at nodes (c.loop-at.at + 1) in
    let within : c.loop-at.at < length nodes = omega (arith, c.end_of-at-end.ensures.ahead) in
    let more = body_more nodes begin c.loop-at.at c.loop-at.auto.at within in
    elim c.if-ends_saved.branch [
      | then-ends_saved w ↦ rw (w.ended-is, more)
          (sym (ends_here before node (sym c.ends_saved.ensures ∙ w.if-ends_saved.true)))
      | else-ends_saved w ↦ rw (w.ended-is, c.loop-at.invariant, more)
          (sym (ends_later before node (sym c.ends_saved.ensures ∙ w.if-ends_saved.false)))
    ]

pub returns : goal.returns
unfolding ends_in
returns c =
    let from = c.end_of-at-end.ensures.from in
    let all : c.loop-at.at ≡ c.end_of-at-end.result = omega arith in
    rw (c.loop-at.invariant, all, c.end_of-at-end.ensures.value) refl
