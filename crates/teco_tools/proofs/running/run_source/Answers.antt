use Rattle.std.proofs.Common.{Some}
use Rattle.teco_tools.proofs.Played.{text_heard}
use Rattle.teco_tools.proofs.running.run_source.Goals as goal

pub returns : goal.returns
returns g c = λ unread.
    text_heard c.args.conduct.until_code c.args.conduct.limits c.args.source.now c.text-text.result.now
    (g.H.Host.failures c.args.host.now) (g.H.Host.failures c.session_heard.new.host)
    (Some c.session_heard.new.reader.now) unread
    (g.O.Write.contents c.args.console.now.out) (g.O.Write.contents c.session_heard.new.writer) c.session_heard.result
    c.args.machine.now c.session_heard.new.machine (g.H.Host.files c.args.host.now)
    (g.H.Host.files c.session_heard.new.host)
    c.text-text.ensures c.session_heard.ensures.session
