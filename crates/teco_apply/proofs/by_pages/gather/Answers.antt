use Rattle.teco_apply.proofs.Prelude.{◌≡◌, ◌∙◌, Ok, Err, true, inl, inr, refl, arith, PagesGathered, in_turn, PAGES}
use Rattle.teco_apply.proofs.Prelude.{World, Joined-stays}
use Rattle.teco_apply.proofs.ByPages.{Joined-too_many, gathers-full, gathers-more, gathers-stops, gathers-through}
use Rattle.teco_apply.proofs.Parts.{parts-same, parts-taken}
use Rattle.teco_apply.proofs.by_pages.gather.Goals as goal

pub loop-init : goal.loop-init
loop-init g c = record {
  gathered =
      Joined-stays (λ (old : World) (new : World). PagesGathered old (g.H.Host.failures c.args.host.now)
      (g.W.Write.contents c.args.writer.now) 0 new (g.H.Host.failures c.args.host.now)
      (g.W.Write.contents c.args.writer.now))
      c.args.machine.now (g.H.Host.files c.args.host.now) (λ world. PagesGathered.none);
  touched = λ call. parts-same call c.args.machine.now c.args.machine.now (g.H.Host.files c.args.host.now) refl;
  failures = refl;
}

pub loop-preserved : goal.loop-preserved
loop-preserved g c =
    let now = c.loop in
    record {
      gathered =
          gathers-more now.counter c.args.machine.now now.machine c.turn.new.machine
          (g.H.Host.files c.args.host.now) (g.H.Host.files now.host) (g.H.Host.files c.turn.new.host)
          (g.H.Host.failures c.args.host.now) (g.H.Host.failures now.host) (g.H.Host.failures c.turn.new.host)
          (g.W.Write.contents c.args.writer.now) (g.W.Write.contents now.writer) (g.W.Write.contents c.turn.new.writer)
          now.invariant.gathered (rw c.in-Ok-On.field-0-is at c.in-Ok-On.ensures.turns);
      touched = λ call.
          in_turn c.args.machine.now now.machine c.turn.new.machine (g.H.Host.files c.args.host.now)
          (g.H.Host.files now.host) (g.H.Host.files c.turn.new.host)
          (now.invariant.touched call) (c.in-Ok-On.ensures.touches call (inr (inl refl)));
      failures = (rw c.in-Ok-On.field-0-is at c.in-Ok-On.ensures.counted) ∙ now.invariant.failures;
    }

pub returns-in-Ok-Through-clause-gathers : goal.returns-in-Ok-Through-clause-gathers
returns-in-Ok-Through-clause-gathers g c =
    let now = c.loop in
    gathers-through now.counter c.args.machine.now now.machine c.turn.new.machine
    (g.H.Host.files c.args.host.now) (g.H.Host.files now.host) (g.H.Host.files c.turn.new.host)
    (g.H.Host.failures c.args.host.now) (g.H.Host.failures now.host) (g.H.Host.failures c.turn.new.host)
    (g.W.Write.contents c.args.writer.now) (g.W.Write.contents now.writer) (g.W.Write.contents c.turn.new.writer)
    now.invariant.gathered (rw c.in-Ok-Through.field-0-is at c.in-Ok-Through.ensures.turns)

pub returns-in-Ok-Coded-clause-gathers : goal.returns-in-Ok-Coded-clause-gathers
returns-in-Ok-Coded-clause-gathers g c =
    let now = c.loop in
    gathers-stops now.counter c.args.machine.now now.machine c.turn.new.machine
    (g.H.Host.files c.args.host.now) (g.H.Host.files now.host) (g.H.Host.files c.turn.new.host)
    (g.H.Host.failures c.args.host.now) (g.H.Host.failures now.host) (g.H.Host.failures c.turn.new.host)
    (g.W.Write.contents c.args.writer.now) (g.W.Write.contents now.writer) (g.W.Write.contents c.turn.new.writer)
    (Ok true) (λ same. cc) now.invariant.gathered (rw c.in-Ok-Coded.field-0-is at c.in-Ok-Coded.ensures.turns)

pub returns-in-Err-clause-gathers : goal.returns-in-Err-clause-gathers
returns-in-Err-clause-gathers g c =
    let now = c.loop in
    gathers-stops now.counter c.args.machine.now now.machine c.turn.new.machine
    (g.H.Host.files c.args.host.now) (g.H.Host.files now.host) (g.H.Host.files c.turn.new.host)
    (g.H.Host.failures c.args.host.now) (g.H.Host.failures now.host) (g.H.Host.failures c.turn.new.host)
    (g.W.Write.contents c.args.writer.now) (g.W.Write.contents now.writer) (g.W.Write.contents c.turn.new.writer)
    (Err c.in-Err.fault) (λ same. cc) now.invariant.gathered c.in-Err.ensures.turns

pub returns-clause-gathers : goal.returns-clause-gathers
returns-clause-gathers g c =
    let now = c.loop in
    let all : now.counter ≡ PAGES = omega arith in
    let lines = rw c.not_begun-stopped.ensures at c.tell.ensures.lines in
    let told = rw c.not_begun-stopped.ensures at c.tell.ensures.told in
    gathers-full now.counter c.args.machine.now now.machine c.tell.new.machine
    (g.H.Host.files c.args.host.now) (g.H.Host.files now.host) (g.H.Host.files now.host)
    (g.H.Host.failures c.args.host.now) (g.H.Host.failures now.host) (g.H.Host.failures now.host)
    (g.W.Write.contents c.args.writer.now) (g.W.Write.contents now.writer) (g.W.Write.contents c.tell.new.writer)
    c.tell.result all now.invariant.gathered
    (Joined-too_many now.machine c.tell.new.machine (g.H.Host.files now.host) (g.H.Host.failures now.host)
    (g.W.Write.contents now.writer) (g.W.Write.contents c.tell.new.writer) c.tell.result lines told
    c.tell.ensures.taken)

pub returns-in-Ok-Through-clause-touches : goal.returns-in-Ok-Through-clause-touches
returns-in-Ok-Through-clause-touches g c = λ call.
    in_turn c.args.machine.now c.loop.machine c.turn.new.machine (g.H.Host.files c.args.host.now)
    (g.H.Host.files c.loop.host) (g.H.Host.files c.turn.new.host)
    (c.loop.invariant.touched call) (c.in-Ok-Through.ensures.touches call (inr (inl refl)))

pub returns-in-Ok-Coded-clause-touches : goal.returns-in-Ok-Coded-clause-touches
returns-in-Ok-Coded-clause-touches g c = λ call.
    in_turn c.args.machine.now c.loop.machine c.turn.new.machine (g.H.Host.files c.args.host.now)
    (g.H.Host.files c.loop.host) (g.H.Host.files c.turn.new.host)
    (c.loop.invariant.touched call) (c.in-Ok-Coded.ensures.touches call (inr (inl refl)))

pub returns-in-Err-clause-touches : goal.returns-in-Err-clause-touches
returns-in-Err-clause-touches g c = λ call.
    in_turn c.args.machine.now c.loop.machine c.turn.new.machine (g.H.Host.files c.args.host.now)
    (g.H.Host.files c.loop.host) (g.H.Host.files c.turn.new.host)
    (c.loop.invariant.touched call) (c.in-Err.ensures.touches call (inr (inl refl)))

pub returns-clause-touches : goal.returns-clause-touches
returns-clause-touches g c = λ call.
    in_turn c.args.machine.now c.loop.machine c.tell.new.machine (g.H.Host.files c.args.host.now)
    (g.H.Host.files c.loop.host) (g.H.Host.files c.loop.host)
    (c.loop.invariant.touched call)
    (parts-taken call c.loop.machine c.tell.new.machine (g.H.Host.files c.loop.host) c.tell.ensures.taken)
