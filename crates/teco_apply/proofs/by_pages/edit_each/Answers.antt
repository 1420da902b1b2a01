use Rattle.teco_apply.proofs.Prelude.{◌≡◌, ◌+◌, ◌∙◌, ℕ, Ok, Err, true, inl, refl, ap, arith, in_turn, BehindPage, Order}
use Rattle.teco_apply.proofs.Prelude.{PagesTurned, nothing_done, order_by, PAGES, Tally, World, Joined-stays}
use Rattle.teco_apply.proofs.ByPages.{Joined-too_many, each-ends, each-full, each-more, each-stops, macro-goes_on}
use Rattle.teco_apply.proofs.ByPages.{macro-stops, page-closes}
use Rattle.teco_apply.proofs.Parts.{parts-same, parts-taken}
use Rattle.teco_apply.specs.declared.stages.Ran.TheVariants as ran
use Rattle.teco_apply.proofs.by_pages.edit_each.Goals as goal

pub loop-init : goal.loop-init
loop-init g c = record {
  turned =
      rw c.new-done.ensures (Joined-stays
      (λ (old : World) (new : World). PagesTurned
      (order_by (g.G.Guard.answers c.args.order.now.guard.now) c.args.order.now.call.now) old
      (g.H.Host.failures c.args.host.now) (g.W.Write.contents c.args.writer.now) nothing_done new
      (g.H.Host.failures c.args.host.now) (g.W.Write.contents c.args.writer.now))
      c.args.machine.now (g.H.Host.files c.args.host.now) (λ world. PagesTurned.none));
  touched = parts-same c.args.order.now.call.now c.args.machine.now c.args.machine.now
      (g.H.Host.files c.args.host.now) refl;
  failures = refl;
  pages = ap (λ (t : Tally). t.pages) c.new-done.ensures;
}

-- an edit that ends with the macro
pub returns-in-Ok-Coded-clause-edits : goal.returns-in-Ok-Coded-clause-edits
returns-in-Ok-Coded-clause-edits g c =
    let now = c.loop in
    let order : Order = order_by (g.G.Guard.answers c.args.order.now.guard.now) c.args.order.now.call.now in
    each-ends order now.done c.args.machine.now now.machine c.run_admitted.new.machine
    (g.H.Host.files c.args.host.now) (g.H.Host.files now.host) (g.H.Host.files c.run_admitted.new.host)
    (g.H.Host.failures c.args.host.now) (g.H.Host.failures now.host) (g.H.Host.failures c.run_admitted.new.host)
    (g.W.Write.contents c.args.writer.now) (g.W.Write.contents now.writer)
    (g.W.Write.contents c.run_admitted.new.writer)
    (Ok c.edited.result) now.invariant.turned
    (macro-stops order now.done BehindPage now.machine c.run_admitted.new.machine (g.H.Host.files now.host)
    (g.H.Host.files c.run_admitted.new.host)
    (g.H.Host.failures now.host) (g.H.Host.failures c.run_admitted.new.host) (g.W.Write.contents now.writer)
    (g.W.Write.contents c.run_admitted.new.writer)
    (Ok ran.Coded) (Ok c.edited.result) (ap Ok c.edited.ensures)
    (rw c.in-Ok-Coded.field-0-is at c.in-Ok-Coded.ensures.runs))

pub returns-in-Ok-Refused-clause-edits : goal.returns-in-Ok-Refused-clause-edits
returns-in-Ok-Refused-clause-edits g c =
    let now = c.loop in
    let order : Order = order_by (g.G.Guard.answers c.args.order.now.guard.now) c.args.order.now.call.now in
    each-ends order now.done c.args.machine.now now.machine c.run_admitted.new.machine
    (g.H.Host.files c.args.host.now) (g.H.Host.files now.host) (g.H.Host.files c.run_admitted.new.host)
    (g.H.Host.failures c.args.host.now) (g.H.Host.failures now.host) (g.H.Host.failures c.run_admitted.new.host)
    (g.W.Write.contents c.args.writer.now) (g.W.Write.contents now.writer)
    (g.W.Write.contents c.run_admitted.new.writer)
    (Ok c.edited-in-Ok-Refused.result) now.invariant.turned
    (macro-stops order now.done BehindPage now.machine c.run_admitted.new.machine (g.H.Host.files now.host)
    (g.H.Host.files c.run_admitted.new.host)
    (g.H.Host.failures now.host) (g.H.Host.failures c.run_admitted.new.host) (g.W.Write.contents now.writer)
    (g.W.Write.contents c.run_admitted.new.writer)
    (Ok ran.Refused) (Ok c.edited-in-Ok-Refused.result) (ap Ok c.edited-in-Ok-Refused.ensures)
    (rw c.in-Ok-Refused.field-0-is at c.in-Ok-Refused.ensures.runs))

pub returns-in-Err-clause-edits : goal.returns-in-Err-clause-edits
returns-in-Err-clause-edits g c =
    let now = c.loop in
    let order : Order = order_by (g.G.Guard.answers c.args.order.now.guard.now) c.args.order.now.call.now in
    each-ends order now.done c.args.machine.now now.machine c.run_admitted.new.machine
    (g.H.Host.files c.args.host.now) (g.H.Host.files now.host) (g.H.Host.files c.run_admitted.new.host)
    (g.H.Host.failures c.args.host.now) (g.H.Host.failures now.host) (g.H.Host.failures c.run_admitted.new.host)
    (g.W.Write.contents c.args.writer.now) (g.W.Write.contents now.writer)
    (g.W.Write.contents c.run_admitted.new.writer)
    (Err c.in-Err.fault) now.invariant.turned
    (macro-stops order now.done BehindPage now.machine c.run_admitted.new.machine (g.H.Host.files now.host)
    (g.H.Host.files c.run_admitted.new.host)
    (g.H.Host.failures now.host) (g.H.Host.failures c.run_admitted.new.host) (g.W.Write.contents now.writer)
    (g.W.Write.contents c.run_admitted.new.writer)
    (Err c.in-Err.fault) (Err c.in-Err.fault) refl c.in-Err.ensures.runs)

-- an edit that ends behind the macro
pub returns-in-Ok-Through-clause-edits : goal.returns-in-Ok-Through-clause-edits
returns-in-Ok-Through-clause-edits g c =
    let now = c.loop in
    let order : Order = order_by (g.G.Guard.answers c.args.order.now.guard.now) c.args.order.now.call.now in
    let closing = rw c.after-done.ensures at c.close.ensures.closes in
    each-ends order now.done c.args.machine.now now.machine c.close.new.machine
    (g.H.Host.files c.args.host.now) (g.H.Host.files now.host) (g.H.Host.files c.close.new.host)
    (g.H.Host.failures c.args.host.now) (g.H.Host.failures now.host) (g.H.Host.failures c.close.new.host)
    (g.W.Write.contents c.args.writer.now) (g.W.Write.contents now.writer) (g.W.Write.contents c.close.new.writer)
    c.close.result now.invariant.turned
    (macro-goes_on order now.done BehindPage now.machine c.run_admitted.new.machine c.close.new.machine
    (g.H.Host.files now.host) (g.H.Host.files c.run_admitted.new.host) (g.H.Host.files c.close.new.host)
    (g.H.Host.failures now.host) (g.H.Host.failures c.run_admitted.new.host) (g.H.Host.failures c.close.new.host)
    (g.W.Write.contents now.writer) (g.W.Write.contents c.run_admitted.new.writer)
    (g.W.Write.contents c.close.new.writer)
    c.in-Ok-On.steps c.close.result (rw c.in-Ok-On.field-0-is at c.in-Ok-On.ensures.runs)
    (page-closes _ c.run_admitted.new.machine c.turn.new.machine c.close.new.machine
    (g.H.Host.files c.run_admitted.new.host) (g.H.Host.files c.turn.new.host) (g.H.Host.files c.close.new.host)
    (g.H.Host.failures c.run_admitted.new.host) (g.H.Host.failures c.turn.new.host) (g.H.Host.failures c.close.new.host)
    (g.W.Write.contents c.run_admitted.new.writer) (g.W.Write.contents c.turn.new.writer)
    (g.W.Write.contents c.close.new.writer)
    c.close.result (rw c.in-Ok-Through.field-0-is at c.in-Ok-Through.ensures.turns) closing))

pub returns-in-Ok-Coded-turn-clause-edits : goal.returns-in-Ok-Coded-turn-clause-edits
returns-in-Ok-Coded-turn-clause-edits g c =
    let now = c.loop in
    let order : Order = order_by (g.G.Guard.answers c.args.order.now.guard.now) c.args.order.now.call.now in
    let told = rw c.after-done.ensures at c.edited-in-Ok-Coded-turn.ensures in
    each-stops order now.done c.args.machine.now now.machine c.run_admitted.new.machine c.turn.new.machine
    (g.H.Host.files c.args.host.now) (g.H.Host.files now.host) (g.H.Host.files c.run_admitted.new.host)
    (g.H.Host.files c.turn.new.host)
    (g.H.Host.failures c.args.host.now) (g.H.Host.failures now.host) (g.H.Host.failures c.run_admitted.new.host)
    (g.H.Host.failures c.turn.new.host)
    (g.W.Write.contents c.args.writer.now) (g.W.Write.contents now.writer)
    (g.W.Write.contents c.run_admitted.new.writer) (g.W.Write.contents c.turn.new.writer)
    c.in-Ok-On.steps (Ok true) (Ok c.edited-in-Ok-Coded-turn.result) (λ same. cc) (ap Ok told) now.invariant.turned
    (rw c.in-Ok-On.field-0-is at c.in-Ok-On.ensures.runs)
    (rw c.in-Ok-Coded-turn.field-0-is at c.in-Ok-Coded-turn.ensures.turns)

pub returns-in-Err-turn-clause-edits : goal.returns-in-Err-turn-clause-edits
returns-in-Err-turn-clause-edits g c =
    let now = c.loop in
    let order : Order = order_by (g.G.Guard.answers c.args.order.now.guard.now) c.args.order.now.call.now in
    each-stops order now.done c.args.machine.now now.machine c.run_admitted.new.machine c.turn.new.machine
    (g.H.Host.files c.args.host.now) (g.H.Host.files now.host) (g.H.Host.files c.run_admitted.new.host)
    (g.H.Host.files c.turn.new.host)
    (g.H.Host.failures c.args.host.now) (g.H.Host.failures now.host) (g.H.Host.failures c.run_admitted.new.host)
    (g.H.Host.failures c.turn.new.host)
    (g.W.Write.contents c.args.writer.now) (g.W.Write.contents now.writer)
    (g.W.Write.contents c.run_admitted.new.writer) (g.W.Write.contents c.turn.new.writer)
    c.in-Ok-On.steps (Err c.in-Err-turn.fault) (Err c.in-Err-turn.fault) (λ same. cc) refl now.invariant.turned
    (rw c.in-Ok-On.field-0-is at c.in-Ok-On.ensures.runs) c.in-Err-turn.ensures.turns

pub loop-preserved : goal.loop-preserved
loop-preserved g c =
    let now = c.loop in
    let order : Order = order_by (g.G.Guard.answers c.args.order.now.guard.now) c.args.order.now.call.now in
    let ran_on = rw c.in-Ok-On.field-0-is at c.in-Ok-On.ensures.counted in
    let turned_on = rw c.in-Ok-On-turn.field-0-is at c.in-Ok-On-turn.ensures.counted in
    record {
      turned =
          rw c.after-done.ensures
          (each-more order now.done c.args.machine.now now.machine c.run_admitted.new.machine c.turn.new.machine
          (g.H.Host.files c.args.host.now) (g.H.Host.files now.host) (g.H.Host.files c.run_admitted.new.host)
          (g.H.Host.files c.turn.new.host)
          (g.H.Host.failures c.args.host.now) (g.H.Host.failures now.host) (g.H.Host.failures c.run_admitted.new.host)
          (g.H.Host.failures c.turn.new.host)
          (g.W.Write.contents c.args.writer.now) (g.W.Write.contents now.writer)
          (g.W.Write.contents c.run_admitted.new.writer) (g.W.Write.contents c.turn.new.writer)
          c.in-Ok-On.steps now.invariant.turned
          (rw c.in-Ok-On.field-0-is at c.in-Ok-On.ensures.runs)
          (rw c.in-Ok-On-turn.field-0-is at c.in-Ok-On-turn.ensures.turns));
      touched =
          in_turn c.args.machine.now c.run_admitted.new.machine c.turn.new.machine (g.H.Host.files c.args.host.now)
          (g.H.Host.files c.run_admitted.new.host) (g.H.Host.files c.turn.new.host)
          (in_turn c.args.machine.now now.machine c.run_admitted.new.machine (g.H.Host.files c.args.host.now)
          (g.H.Host.files now.host) (g.H.Host.files c.run_admitted.new.host) now.invariant.touched
          c.in-Ok-On.ensures.touches)
          (c.in-Ok-On-turn.ensures.touches c.args.order.now.call.now (inl refl));
      failures = turned_on ∙ (ran_on ∙ now.invariant.failures);
      pages = rw c.after-done.ensures (ap (λ (n : ℕ). n + 1) now.invariant.pages);
    }

pub returns-clause-edits : goal.returns-clause-edits
returns-clause-edits g c =
    let now = c.loop in
    let order : Order = order_by (g.G.Guard.answers c.args.order.now.guard.now) c.args.order.now.call.now in
    let all : now.done.pages ≡ PAGES = omega arith in
    let lines = rw c.not_begun-stopped.ensures at c.tell.ensures.lines in
    let told = rw c.not_begun-stopped.ensures at c.tell.ensures.told in
    each-full order now.done c.args.machine.now now.machine c.tell.new.machine
    (g.H.Host.files c.args.host.now) (g.H.Host.files now.host) (g.H.Host.files now.host)
    (g.H.Host.failures c.args.host.now) (g.H.Host.failures now.host) (g.H.Host.failures now.host)
    (g.W.Write.contents c.args.writer.now) (g.W.Write.contents now.writer) (g.W.Write.contents c.tell.new.writer)
    c.tell.result c.ended.result all c.ended.ensures now.invariant.turned
    (Joined-too_many now.machine c.tell.new.machine (g.H.Host.files now.host) (g.H.Host.failures now.host)
    (g.W.Write.contents now.writer) (g.W.Write.contents c.tell.new.writer) c.tell.result lines told
    c.tell.ensures.taken)

pub returns-in-Ok-Coded-clause-touches : goal.returns-in-Ok-Coded-clause-touches
returns-in-Ok-Coded-clause-touches g c =
    let now = c.loop in
    in_turn c.args.machine.now now.machine c.run_admitted.new.machine (g.H.Host.files c.args.host.now)
    (g.H.Host.files now.host) (g.H.Host.files c.run_admitted.new.host)
    now.invariant.touched c.in-Ok-Coded.ensures.touches

pub returns-in-Ok-Refused-clause-touches : goal.returns-in-Ok-Refused-clause-touches
returns-in-Ok-Refused-clause-touches g c =
    let now = c.loop in
    in_turn c.args.machine.now now.machine c.run_admitted.new.machine (g.H.Host.files c.args.host.now)
    (g.H.Host.files now.host) (g.H.Host.files c.run_admitted.new.host)
    now.invariant.touched c.in-Ok-Refused.ensures.touches

pub returns-in-Err-clause-touches : goal.returns-in-Err-clause-touches
returns-in-Err-clause-touches g c =
    let now = c.loop in
    in_turn c.args.machine.now now.machine c.run_admitted.new.machine (g.H.Host.files c.args.host.now)
    (g.H.Host.files now.host) (g.H.Host.files c.run_admitted.new.host)
    now.invariant.touched c.in-Err.ensures.touches

pub returns-in-Ok-Coded-turn-clause-touches : goal.returns-in-Ok-Coded-turn-clause-touches
returns-in-Ok-Coded-turn-clause-touches g c =
    let now = c.loop in
    let call = c.args.order.now.call.now in
    let ran_on = in_turn c.args.machine.now now.machine c.run_admitted.new.machine (g.H.Host.files c.args.host.now)
    (g.H.Host.files now.host) (g.H.Host.files c.run_admitted.new.host) now.invariant.touched
    c.in-Ok-On.ensures.touches in
    in_turn c.args.machine.now c.run_admitted.new.machine c.turn.new.machine (g.H.Host.files c.args.host.now)
    (g.H.Host.files c.run_admitted.new.host) (g.H.Host.files c.turn.new.host) ran_on
    (c.in-Ok-Coded-turn.ensures.touches call (inl refl))

pub returns-in-Err-turn-clause-touches : goal.returns-in-Err-turn-clause-touches
returns-in-Err-turn-clause-touches g c =
    let now = c.loop in
    let call = c.args.order.now.call.now in
    let ran_on = in_turn c.args.machine.now now.machine c.run_admitted.new.machine (g.H.Host.files c.args.host.now)
    (g.H.Host.files now.host) (g.H.Host.files c.run_admitted.new.host) now.invariant.touched
    c.in-Ok-On.ensures.touches in
    in_turn c.args.machine.now c.run_admitted.new.machine c.turn.new.machine (g.H.Host.files c.args.host.now)
    (g.H.Host.files c.run_admitted.new.host) (g.H.Host.files c.turn.new.host) ran_on
    (c.in-Err-turn.ensures.touches call (inl refl))

pub returns-in-Ok-Through-clause-touches : goal.returns-in-Ok-Through-clause-touches
returns-in-Ok-Through-clause-touches g c =
    let now = c.loop in
    let call = c.args.order.now.call.now in
    let ran_on = in_turn c.args.machine.now now.machine c.run_admitted.new.machine (g.H.Host.files c.args.host.now)
    (g.H.Host.files now.host) (g.H.Host.files c.run_admitted.new.host) now.invariant.touched
    c.in-Ok-On.ensures.touches in
    in_turn c.args.machine.now c.turn.new.machine c.close.new.machine (g.H.Host.files c.args.host.now)
    (g.H.Host.files c.turn.new.host) (g.H.Host.files c.close.new.host)
    (in_turn c.args.machine.now c.run_admitted.new.machine c.turn.new.machine (g.H.Host.files c.args.host.now)
    (g.H.Host.files c.run_admitted.new.host) (g.H.Host.files c.turn.new.host) ran_on
    (c.in-Ok-Through.ensures.touches call (inl refl)))
    (c.close.ensures.touches call)

pub returns-clause-touches : goal.returns-clause-touches
returns-clause-touches g c =
    let now = c.loop in
    in_turn c.args.machine.now now.machine c.tell.new.machine (g.H.Host.files c.args.host.now) (g.H.Host.files now.host)
    (g.H.Host.files now.host)
    now.invariant.touched (parts-taken c.args.order.now.call.now now.machine c.tell.new.machine
    (g.H.Host.files now.host) c.tell.ensures.taken)
