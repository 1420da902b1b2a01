use Rattle.teco_hosts.proofs.Prelude.{◌≡◌, ◌-◌, [], length, take, drop, arith, length-drop, ◌∙◌, take_all}
use Rattle.teco_hosts.proofs.Touching.{bytes_left, touches-nothing, touches-on, touches-writing}
use Rattle.teco_hosts.proofs.Written.{written-part, written-all, written-stays, front-part}
use Rattle.teco_hosts.proofs.write.write_all.Goals as goal

pub returns-then-written-bytes-clause-written : goal.returns-then-written-bytes-clause-written
returns-then-written-bytes-clause-written g c =
    written-all c.args.bytes.now c.loop.written _ _ (omega arith) c.loop.invariant.written

pub returns-in-Err-clause-written : goal.returns-in-Err-clause-written
returns-in-Err-clause-written g c =
    front-part c.args.bytes.now c.loop.written _ _
    (written-stays (take c.loop.written c.args.bytes.now) _ _ _ c.loop.invariant.written c.in-Err.ensures.files)

pub loop-preserved : goal.loop-preserved
loop-preserved g c =
    let bytes = c.args.bytes.now in
    let rest : take (length bytes - c.loop.written) (drop c.loop.written bytes) ≡ drop c.loop.written bytes =
    take_all _ (drop c.loop.written bytes) (omega (arith, length-drop c.loop.written bytes)) in
    let files = rw rest at c.in-Ok.ensures.files in
    let bound = rw rest at c.in-Ok.ensures.bound in
    let some = rw rest at c.in-Ok.ensures.some in
    let noted = rw rest at c.in-Ok.ensures.noted in
    record {
      within = omega (arith, bound, length-drop c.loop.written bytes);
      count = grind (arith, some, length-drop c.loop.written bytes);
      written = written-part bytes c.loop.written c.in-Ok.n _ _ _ c.loop.invariant.written files;
      same = c.in-Ok.ensures.counted ∙ c.loop.invariant.same;
      given = c.in-Ok.ensures.given ∙ c.loop.invariant.given;
      noted = λ end. touches-on [] [] end end end _ _ _ (c.loop.invariant.noted end)
          (touches-writing c.in-Ok.n (drop c.loop.written bytes) end _ _ noted
          (bytes_left c.loop.written bytes c.are_bytes.ensures));
    }

pub returns-clause-written : goal.returns-clause-written
returns-clause-written g c =
    written-all c.args.bytes.now c.loop.written _ _ (omega arith) c.loop.invariant.written

pub returns-then-written-bytes-clause-noted : goal.returns-then-written-bytes-clause-noted
returns-then-written-bytes-clause-noted g c = c.loop.invariant.noted

pub returns-in-Err-clause-noted : goal.returns-in-Err-clause-noted
returns-in-Err-clause-noted g c = λ end. touches-on [] [] end end end _ _ _ (c.loop.invariant.noted end)
    (touches-nothing end _ _ c.in-Err.ensures.noted)

pub returns-clause-noted : goal.returns-clause-noted
returns-clause-noted g c = c.loop.invariant.noted
