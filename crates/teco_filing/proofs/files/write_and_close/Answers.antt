use Rattle.teco_filing.proofs.Prelude.{[]}
use Rattle.teco_hosts.proofs.Touching.{touches-on}
use Rattle.teco_filing.proofs.Written.{closes-all, drops-all}
use Rattle.teco_filing.proofs.files.write_and_close.Goals as goal

pub returns-in-Ok-clause-closed : goal.returns-in-Ok-clause-closed
returns-in-Ok-clause-closed g c =
    closes-all c.args.editor.now c.args.pages.now c.close_out.result _ _ _ c.in-Ok.ensures.written
    c.close_out.ensures.files

pub returns-in-Err-clause-closed : goal.returns-in-Err-clause-closed
returns-in-Err-clause-closed g c =
    drops-all c.args.editor.now c.args.pages.now c.in-Err.fault _ _ _ c.in-Err.ensures.written c.drop_out.ensures.files

pub returns-in-Ok-clause-noted : goal.returns-in-Ok-clause-noted
returns-in-Ok-clause-noted g c = touches-on [] _ _ _ _ _ _ _ c.write_all.ensures.noted c.close_out.ensures.noted

pub returns-in-Err-clause-noted : goal.returns-in-Err-clause-noted
returns-in-Err-clause-noted g c = touches-on [] _ _ _ _ _ _ _ c.write_all.ensures.noted c.drop_out.ensures.noted
