use Rattle.teco_check.proofs.Prelude.{◌≡◌, ◌<◌, ◌+◌, true, false, length, sym, ◌∙◌, ap, arith, node_at, begins}
use Rattle.teco_check.proofs.Prelude.{begins_iteration}
use Rattle.teco_check.proofs.Lines.{any_here, any_behind, any_in_none}
use Rattle.teco_check.proofs.loops.has_iterations.Goals as goal

pub returns-then-begins_iteration : goal.returns-then-begins_iteration
returns-then-begins_iteration c =
    let within : c.loop-at.at < length c.args.nodes.now = omega (arith, c.len-at-end.ensures) in
    let here : begins (node_at c.args.nodes.now (c.loop-at.at + 1)) ≡ true =
    ap begins_iteration (sym c.element.ensures.read) ∙ sym c.begins_iteration.ensures
    ∙ c.if-begins_iteration.true in
    sym (any_here c.args.nodes.now c.loop-at.at within here) ∙ c.loop-at.invariant

pub loop-at-preserved : goal.loop-at-preserved
loop-at-preserved c =
    let within : c.loop-at.at < length c.args.nodes.now = omega (arith, c.len-at-end.ensures) in
    let here : begins (node_at c.args.nodes.now (c.loop-at.at + 1)) ≡ false =
    ap begins_iteration (sym c.element.ensures.read) ∙ sym c.begins_iteration.ensures
    ∙ c.if-begins_iteration.false in
    any_behind c.args.nodes.now c.loop-at.at within here ∙ c.loop-at.invariant

pub returns : goal.returns
returns c = sym (any_in_none c.args.nodes.now c.loop-at.at (omega (arith, c.len-at-end.ensures))) ∙ c.loop-at.invariant
