use Rattle.teco_check.proofs.Prelude.{◌≡◌, ◌<◌, ◌-◌, sym, ◌∙◌, refl, take, drop, length, ◌+◌, arith, REGISTERS, node_at}
use Rattle.teco_verifier.specs.table.Written.{written}
use Rattle.teco_check.proofs.Writing.{body_more, written_some, written_none, nothing_written, length-written}
use Rattle.teco_check.proofs.iterations.written.Goals as goal
use Rattle.teco_check.proofs.iterations.written.Goals.{in-Some, in_default}

pub loop-at-init : goal.loop-at-init
loop-at-init c =
    let none : c.args.begin - c.args.begin ≡ 0 = omega arith in
    rw none (sym (nothing_written REGISTERS 0))

pub loop-at-preserved : goal.loop-at-preserved
loop-at-preserved c =
    let nodes = c.args.nodes.now in
    let begin = c.args.begin in
    let before = take (c.loop-at.at - begin) (drop begin nodes) in
    let node = node_at nodes (c.loop-at.at + 1) in
    let within : c.loop-at.at < length nodes = omega (arith, c.end_of-at-end.ensures.ahead) in
    let more = body_more nodes begin c.loop-at.at c.loop-at.auto.at within in
    elim c.match-set_at.branch [
      | in-Some w ↦ rw (w.written-is, c.loop-at.invariant, more)
          (sym (written_some before node REGISTERS w.in-Some.register (sym c.set_at.ensures.value ∙ w.in-Some.is)
          w.in-Some.ensures.within))
      | in_default w ↦ rw (w.written-is, c.loop-at.invariant, more)
          (sym (written_none before node REGISTERS (sym c.set_at.ensures.value ∙ w.in_default.is)))
    ]

pub returns-clause-value : goal.returns-clause-value
unfolding written
returns-clause-value c =
    let from = c.end_of-at-end.ensures.from in
    let all : c.loop-at.at ≡ c.end_of-at-end.result = omega arith in
    rw (c.loop-at.invariant, all, c.end_of-at-end.ensures.value) refl

pub returns-clause-all : goal.returns-clause-all
returns-clause-all c = rw c.loop-at.invariant (length-written _ REGISTERS 0)
