use Rattle.teco_session.proofs.Prelude.{◌≡◌, ◌-◌, length, take, drop, arith, take_all}
use Rattle.std.proofs.Common.{length-drop}
use Rattle.teco_session.proofs.Known.{Appends-part}
use Rattle.teco_session.proofs.output.write_bytes.Goals as goal

pub loop-preserved : goal.loop-preserved
loop-preserved g c =
    let rest : take (length c.args.bytes.now - c.loop.written) (drop c.loop.written c.args.bytes.now) ≡ drop
    c.loop.written c.args.bytes.now =
    take_all _ (drop c.loop.written c.args.bytes.now) (omega (arith, length-drop c.loop.written c.args.bytes.now))
    in
    let bound = rw rest at c.in_ok-more.ensures.bound in
    let more = rw rest at c.in_ok-more.ensures.ok in
    record {
      within = omega (arith, bound, length-drop c.loop.written c.args.bytes.now);
      count = omega arith;
      appended = Appends-part _ _ _ _ _ _ c.loop.invariant.appended more;
    }
