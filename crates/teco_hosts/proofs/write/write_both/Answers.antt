use Rattle.teco_hosts.proofs.Prelude.{err_from_is_err_and}
use Rattle.teco_hosts.proofs.Touching.{touches-more}
use Rattle.teco_hosts.proofs.Written.{front-more, both}
use Rattle.teco_hosts.proofs.write.write_both.Goals as goal

pub returns-in_err-write_all-clause-written : goal.returns-in_err-write_all-clause-written
returns-in_err-write_all-clause-written g c =
    let p = err_from_is_err_and c.from_residual.result c.from_residual.ensures.1 in
    rw p.1 (front-more c.args.first.now c.args.second.now _ _ c.in_err-write_all.ensures.written)

pub returns-clause-written : goal.returns-clause-written
returns-clause-written g c =
    both c.args.first.now c.args.second.now _ _ _ _ c.in_ok-write_all.ensures.written c.write_all-2.ensures.written

pub returns-clause-noted : goal.returns-clause-noted
returns-clause-noted g c = λ end. touches-more end end end _ _ _ (c.in_ok-write_all.ensures.noted end)
    (c.write_all-2.ensures.noted end)
