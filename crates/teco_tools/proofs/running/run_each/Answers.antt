use Rattle.std.proofs.Common.{sym, ◌∙◌, ◌+◌, subst, take, drop, get_or, arith, Ok, Err, ◌||◌}
use Rattle.std.proofs.lemmas.List.{take_more}
use Rattle.teco_model.specs.State.{World}
use Rattle.teco_run.proofs.Together.{Joined-on}
use Rattle.teco_run.specs.Holdings.{Joined}
use Rattle.teco_tools.proofs.Played.{all_out, breaks_out, ends_out, played_none, played_more, played_last, unread_out}
use Rattle.teco_tools.proofs.Played.{whole_at}
use Rattle.teco_tools.specs.Scripts.{Around, at, EndsIn, Plays, PlaysOut, terms_of}
use Rattle.teco_options.specs.declared.running.Script.TheVariants.{Stream}
use Rattle.teco_tools.proofs.running.run_each.Goals as goal

pub loop-script-init : goal.loop-script-init
loop-script-init g c = played_none
    (terms_of (g.R.Shelf.holds c.args.task.rt.now) c.args.task.escape c.args.task.conduct)
    (record {
      failures = g.H.Host.failures c.args.host.now;
      unread = g.S.Read.remaining c.args.reader.now;
      written = g.O.Write.contents c.args.console.now.out;
    })
    c.args.machine.now (g.H.Host.files c.args.host.now)

pub loop-script-preserved : goal.loop-script-preserved
loop-script-preserved g c =
    let now = c.loop-script in
    let after = c.run_script.new in
    let terms = terms_of (g.R.Shelf.holds c.args.task.rt.now) c.args.task.escape c.args.task.conduct in
    let x : Around = record {
      failures = g.H.Host.failures c.args.host.now;
      unread = g.S.Read.remaining c.args.reader.now;
      written = g.O.Write.contents c.args.console.now.out;
    } in
    let y : Around = record {
      failures = g.H.Host.failures now.host;
      unread = g.S.Read.remaining now.reader;
      written = g.O.Write.contents now.console.out;
    } in
    let z : Around = record {
      failures = g.H.Host.failures after.host;
      unread = g.S.Read.remaining after.reader;
      written = g.O.Write.contents after.console.out;
    } in
    let scripts = c.args.task.scripts.now in
    let i = now.script-index in
    let done = c.in_ok-done.done in
    subst (λ front. Joined (λ (old : World) (new : World). Plays terms (at x old) front (at z new)
    (now.coded || done.coded)) c.args.machine.now after.machine (g.H.Host.files c.args.host.now)
    (g.H.Host.files after.host))
    (sym (take_more scripts i Stream c.loop-script-test.true))
    (played_more terms x y z (take i scripts) now.coded (get_or scripts i Stream) c.in_ok-source.source done
    c.args.machine.now now.machine after.machine
    (g.H.Host.files c.args.host.now) (g.H.Host.files now.host) (g.H.Host.files after.host) c.in_ok-source.ensures
    (sym c.is_last.ensures ∙ c.if-is_last.false) now.invariant
    (rw c.in_ok-done.was at c.run_script.ensures))

pub returns-then-is_last : goal.returns-then-is_last
returns-then-is_last g c =
    let now = c.loop-script in
    let after = c.run_script.new in
    let terms = terms_of (g.R.Shelf.holds c.args.task.rt.now) c.args.task.escape c.args.task.conduct in
    let x : Around = record {
      failures = g.H.Host.failures c.args.host.now;
      unread = g.S.Read.remaining c.args.reader.now;
      written = g.O.Write.contents c.args.console.now.out;
    } in
    let y : Around = record {
      failures = g.H.Host.failures now.host;
      unread = g.S.Read.remaining now.reader;
      written = g.O.Write.contents now.console.out;
    } in
    let z : Around = record {
      failures = g.H.Host.failures after.host;
      unread = g.S.Read.remaining after.reader;
      written = g.O.Write.contents after.console.out;
    } in
    let scripts = c.args.task.scripts.now in
    let i = now.script-index in
    let done = c.in_ok-done.done in
    Joined-on (λ (old : World) (new : World). EndsIn terms scripts (at x old) (at z new) (Ok done) now.coded)
    (λ (old : World) (new : World). PlaysOut terms scripts (at x old) (at z new)
    (Ok (record { coded = now.coded || done.coded; exit = done.exit })))
    c.args.machine.now after.machine (g.H.Host.files c.args.host.now) (g.H.Host.files after.host)
    (λ (old : World) (new : World) ends. ends_out terms scripts (at x old) (at z new) now.coded done
    (sym c.is_last.ensures ∙ c.if-is_last.true) ends)
    (played_last terms scripts x y z (take i scripts) now.coded (get_or scripts i Stream)
    (drop (i + 1) scripts) c.in_ok-source.source (Ok done) c.args.machine.now now.machine after.machine
    (g.H.Host.files c.args.host.now) (g.H.Host.files now.host) (g.H.Host.files after.host)
    (whole_at scripts i Stream c.loop-script-test.true) c.in_ok-source.ensures now.invariant
    (rw c.in_ok-done.was at c.run_script.ensures))

pub returns-in_err-done : goal.returns-in_err-done
returns-in_err-done g c =
    let now = c.loop-script in
    let after = c.run_script.new in
    let terms = terms_of (g.R.Shelf.holds c.args.task.rt.now) c.args.task.escape c.args.task.conduct in
    let x : Around = record {
      failures = g.H.Host.failures c.args.host.now;
      unread = g.S.Read.remaining c.args.reader.now;
      written = g.O.Write.contents c.args.console.now.out;
    } in
    let y : Around = record {
      failures = g.H.Host.failures now.host;
      unread = g.S.Read.remaining now.reader;
      written = g.O.Write.contents now.console.out;
    } in
    let z : Around = record {
      failures = g.H.Host.failures after.host;
      unread = g.S.Read.remaining after.reader;
      written = g.O.Write.contents after.console.out;
    } in
    let scripts = c.args.task.scripts.now in
    let i = now.script-index in
    let fault = c.in_err-done.field-0.0 in
    Joined-on (λ (old : World) (new : World). EndsIn terms scripts (at x old) (at z new) (Err fault) now.coded)
    (λ (old : World) (new : World). PlaysOut terms scripts (at x old) (at z new) c.from_residual-in_err-done.result)
    c.args.machine.now after.machine (g.H.Host.files c.args.host.now) (g.H.Host.files after.host)
    (λ (old : World) (new : World) ends. breaks_out terms scripts (at x old)
    (at z new) now.coded fault c.from_residual-in_err-done.result c.from_residual-in_err-done.ensures.0 ends)
    (played_last terms scripts x y z (take i scripts) now.coded (get_or scripts i Stream)
    (drop (i + 1) scripts) c.in_ok-source.source (Err fault) c.args.machine.now now.machine after.machine
    (g.H.Host.files c.args.host.now) (g.H.Host.files now.host) (g.H.Host.files after.host)
    (whole_at scripts i Stream c.loop-script-test.true) c.in_ok-source.ensures now.invariant
    (rw c.in_err-done.was at c.run_script.ensures))

pub returns-in_err-source : goal.returns-in_err-source
returns-in_err-source g c =
    let now = c.loop-script in
    let terms = terms_of (g.R.Shelf.holds c.args.task.rt.now) c.args.task.escape c.args.task.conduct in
    let x : Around = record {
      failures = g.H.Host.failures c.args.host.now;
      unread = g.S.Read.remaining c.args.reader.now;
      written = g.O.Write.contents c.args.console.now.out;
    } in
    let y : Around = record {
      failures = g.H.Host.failures now.host;
      unread = g.S.Read.remaining now.reader;
      written = g.O.Write.contents now.console.out;
    } in
    let scripts = c.args.task.scripts.now in
    let i = now.script-index in
    Joined-on (λ (old : World) (new : World). Plays terms (at x old) (take i scripts) (at y new) now.coded)
    (λ (old : World) (new : World). PlaysOut terms scripts (at x old) (at y new) c.from_residual.result)
    c.args.machine.now now.machine (g.H.Host.files c.args.host.now) (g.H.Host.files now.host)
    (λ (old : World) (new : World) played. unread_out terms scripts (at x old)
    (at y new) now.coded i Stream c.from_residual.result c.loop-script-test.true c.from_residual.ensures.0 played)
    now.invariant

pub returns : goal.returns
returns g c =
    let now = c.loop-script in
    let terms = terms_of (g.R.Shelf.holds c.args.task.rt.now) c.args.task.escape c.args.task.conduct in
    let x : Around = record {
      failures = g.H.Host.failures c.args.host.now;
      unread = g.S.Read.remaining c.args.reader.now;
      written = g.O.Write.contents c.args.console.now.out;
    } in
    let y : Around = record {
      failures = g.H.Host.failures now.host;
      unread = g.S.Read.remaining now.reader;
      written = g.O.Write.contents now.console.out;
    } in
    let scripts = c.args.task.scripts.now in
    let i = now.script-index in
    Joined-on (λ (old : World) (new : World). Plays terms (at x old) (take i scripts) (at y new) now.coded) _
    c.args.machine.now now.machine (g.H.Host.files c.args.host.now) (g.H.Host.files now.host)
    (λ (old : World) (new : World) played. all_out terms scripts (at x old) (at y new) now.coded i
    (omega (arith, c.loop-script-test.false)) played)
    now.invariant
