use Rattle.teco_hosts.proofs.Prelude.{◌++◌, err_from_is_err_and}
use Rattle.teco_hosts.proofs.Touching.{touches-more}
use Rattle.teco_hosts.proofs.Written.{front-more, both-as}
use Rattle.teco_hosts.proofs.pages.Pages.write_page.Goals as goal

pub returns-in_err-write_both-clause-written : goal.returns-in_err-write_both-clause-written
returns-in_err-write_both-clause-written g c =
    let p = err_from_is_err_and c.from_residual.result c.from_residual.ensures.1 in
    rw p.1 (front-more (c.args.first.now ++ c.args.second.now) _ _ _ c.in_err-write_both.ensures.written)

pub returns-clause-written : goal.returns-clause-written
returns-clause-written g c =
    both-as (c.args.first.now ++ c.args.second.now) c.ending.result.now _ c.write_all.result _ _ _ c.ending.ensures
    c.in_ok-write_both.ensures.written c.write_all.ensures.written

pub returns-clause-noted : goal.returns-clause-noted
returns-clause-noted g c =
    let end = c.args.self.now.end in
    touches-more end end end _ _ _ (c.in_ok-write_both.ensures.noted end) (c.write_all.ensures.noted end)
