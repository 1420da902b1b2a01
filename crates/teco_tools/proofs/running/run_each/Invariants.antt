use Rattle.std.proofs.Common.{take}
use Rattle.teco_run.specs.Holdings.{Joined}
use Rattle.teco_session.specs.Sessions.{setting}
use Rattle.teco_tools.specs.Scripts.{Plays, terms_of}
use Rattle.teco_tools.proofs.running.run_each.Given as goal

-- as many scripts as turns were played
abbrev pub invariant-loop-script : goal.invariant-loop-script
invariant-loop-script g l = Joined
    (λ old new. Plays (terms_of (g.R.Shelf.holds l.fn.task.rt.now) l.fn.task.escape l.fn.task.conduct)
    (setting old (g.H.Host.failures l.fn.host) (g.S.Read.remaining l.fn.reader) (g.O.Write.contents l.fn.console.out))
    (take l.script-index l.fn.task.scripts.now)
    (setting new (g.H.Host.failures l.host) (g.S.Read.remaining l.reader) (g.O.Write.contents l.console.out))
    l.coded) l.fn.machine l.machine (g.H.Host.files l.fn.host) (g.H.Host.files l.host)
