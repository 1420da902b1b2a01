use Rattle.std.proofs.Common.{inr, subst, ◌∙◌}
use Rattle.teco_run.specs.Holdings.{Joined}
use Rattle.teco_tools.specs.Scripts.{Concludes, around, terms_of}
use Rattle.teco_tools.specs.Starts.{Prepares}
use Rattle.teco_tools.proofs.running.run_scripts.Goals as goal

pub returns : goal.returns
returns g c =
    let start = c.args.run.now.start in
    let begun = g.H.Host.files c.args.host.now in
    inr (record {
      begun = c.prepare.new.machine;
      left = c.play_out.new.machine;
      before = g.H.Host.files c.prepare.new.host;
      failures = g.H.Host.failures c.prepare.new.host;
      prepared = subst
          (λ it. Joined (Prepares start) it c.prepare.new.machine begun (g.H.Host.files c.prepare.new.host))
          c.machine_with-machine.ensures c.in_ok-prepare.ensures.prepares;
      same_machine = λ bare. c.prepare.ensures.machine bare ∙ c.machine_with-machine.ensures;
      same_files = λ bare. c.prepare.ensures.files bare;
      same_failures = λ bare. c.prepare.ensures.failures bare;
      concludes = subst (λ conduct. Concludes (terms_of (g.R.Shelf.holds c.args.rt.now) c.args.run.now.escape conduct)
          c.args.run.now.scripts.now
          (around (g.H.Host.failures c.prepare.new.host) (g.S.Read.remaining c.args.reader.now)
          (g.O.Write.contents c.args.console.now.out))
          (around (g.H.Host.failures c.play_out.new.host) (g.S.Read.remaining c.play_out.new.reader)
          (g.O.Write.contents c.play_out.new.console.out))
          c.prepare.new.machine c.play_out.new.machine (g.H.Host.files c.prepare.new.host)
          (g.H.Host.files c.play_out.new.host) c.play_out.result) c.conduct.ensures c.play_out.ensures;
    })
