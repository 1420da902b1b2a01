use Rattle.teco_hosts.proofs.Prelude.{◌∙◌, arith, false, length, true, err_from_is_err_and}
use Rattle.teco_hosts.proofs.Copied.{copies-all, copies-written, copies-read, copies-cut, copies-stopped, some-read}
use Rattle.teco_hosts.proofs.Touching.{some_count, touches-more}
use Rattle.teco_hosts.proofs.write.copy_rest.Goals as goal

pub returns-in_err-write_all-clause-copied : goal.returns-in_err-write_all-clause-copied
returns-in_err-write_all-clause-copied g c =
    let p = err_from_is_err_and c.from_residual.result c.from_residual.ensures.1 in
    rw p.1 (copies-cut c.args.ahead.now c.loop.ahead c.bytes.result.now p.0 _ _ _ c.loop.invariant.copied
    c.bytes.ensures c.in_err-write_all.ensures.written)

pub returns-in_err-fill-clause-copied : goal.returns-in_err-fill-clause-copied
returns-in_err-fill-clause-copied g c =
    let p = err_from_is_err_and c.from_residual-in_err-fill.result c.from_residual-in_err-fill.ensures.1 in
    let err = c.in_err-fill.ensures.err in
    rw p.1 (copies-stopped c.args.ahead.now c.fill.new.self p.0 _ _ _
    (copies-written c.args.ahead.now c.loop.ahead c.bytes.result.now _ _ _ c.loop.invariant.copied c.bytes.ensures
    c.in_ok-write_all.ensures.written) err.0 err.1)

pub loop-preserved : goal.loop-preserved
loop-preserved g c =
    let some = some-read c.fill.new.self c.is_empty.result c.if-is_empty.false c.is_empty.ensures.1 in
    record {
      copied = copies-read c.args.ahead.now c.fill.new.self _ _ _
          (copies-written c.args.ahead.now c.loop.ahead c.bytes.result.now _ _ _ c.loop.invariant.copied c.bytes.ensures
          c.in_ok-write_all.ensures.written) c.in_ok-fill.ensures.ok;
      same = c.in_ok-fill.ensures.counted ∙ c.in_ok-write_all.ensures.answer ∙ c.loop.invariant.same;
      count = omega (arith, some, c.in_ok-fill.ensures.given, c.in_ok-write_all.ensures.given, c.loop.invariant.count);
      limit = λ _. c.in_ok-fill.ensures.limit;
      noted =
          let more = rw (some_count (length c.fill.new.self) some) at c.in_ok-fill.ensures.noted in
          touches-more false false false _ _ _
          (touches-more false false false _ _ _ c.loop.invariant.noted (c.in_ok-write_all.ensures.noted false))
          more;
    }

pub returns-then-is_empty-clause-copied : goal.returns-then-is_empty-clause-copied
returns-then-is_empty-clause-copied g c =
    let none = c.is_empty.ensures.0 c.if-is_empty.true in
    copies-all c.args.ahead.now c.fill.new.self _ _ _
    (copies-written c.args.ahead.now c.loop.ahead c.bytes.result.now _ _ _ c.loop.invariant.copied c.bytes.ensures
    c.in_ok-write_all.ensures.written) c.in_ok-fill.ensures.ok none (c.in_ok-fill.ensures.end none)

pub returns-in_err-write_all-clause-noted : goal.returns-in_err-write_all-clause-noted
returns-in_err-write_all-clause-noted g c =
    let p = err_from_is_err_and c.from_residual.result c.from_residual.ensures.1 in
    rw p.1 (touches-more false false false _ _ _ c.loop.invariant.noted (c.in_err-write_all.ensures.noted false))

pub returns-in_err-fill-clause-noted : goal.returns-in_err-fill-clause-noted
returns-in_err-fill-clause-noted g c =
    let p = err_from_is_err_and c.from_residual-in_err-fill.result c.from_residual-in_err-fill.ensures.1 in
    rw p.1 (touches-more false false false _ _ _
    (touches-more false false false _ _ _ c.loop.invariant.noted (c.in_ok-write_all.ensures.noted false))
    c.in_err-fill.ensures.noted)

pub returns-then-is_empty-clause-noted : goal.returns-then-is_empty-clause-noted
returns-then-is_empty-clause-noted g c =
    let none = c.is_empty.ensures.0 c.if-is_empty.true in
    let ended = rw none at c.in_ok-fill.ensures.noted in
    touches-more false false true _ _ _
    (touches-more false false false _ _ _ c.loop.invariant.noted (c.in_ok-write_all.ensures.noted false)) ended
