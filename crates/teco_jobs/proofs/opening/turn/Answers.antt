use Rattle.teco_jobs.proofs.Openings.{turned}
use Rattle.teco_tools.specs.Codes.{code_at}
use Rattle.teco_jobs.proofs.opening.turn.Goals as goal

pub returns-in_ok-run_text-in-Ok-true : goal.returns-in_ok-run_text-in-Ok-true
returns-in_ok-run_text-in-Ok-true g c =
    turned c.args.text.now (code_at c.in_ok-run_text-in-Ok-true.field-0.stop) c.in-Ok-true.field-0 c.args.machine.now
    c.has_unread.new.self c.run_text.new.machine (g.H.Host.files c.args.host.now)
    (g.H.Host.files c.has_unread.new.host) (g.H.Host.files c.run_text.new.host) c.in-Ok-true.field-0-test
    c.in-Ok-true.ensures.tells c.in_ok-run_text-in-Ok-true.ensures
