use Rattle.teco_apply.proofs.Prelude.{◌≡◌, ◌<◌, subst, sym, ap, ◌∙◌, PromisedCall, Calls, HasFiles, IsReady, MOST}
use Rattle.teco_apply.proofs.Prelude.{TakesArgument, call_text, TouchesNone, REGISTERS, IsLoaded, Stops, start, Joined}
use Rattle.teco_apply.proofs.Prelude.{TouchesBySteps, touched_in_run}
use Rattle.teco_apply.proofs.Sure.{calls}
use Rattle.teco_apply.proofs.Touched.{touches-none}
use Rattle.teco_apply.proofs.run.call_promised.Goals as goal

pub returns-clause-calls : goal.returns-clause-calls
returns-clause-calls g c =
    let call : PromisedCall = record { promise = c.call.inside.promise.now; given = c.call.inside.given } in
    let same : call ≡ c.args.call.now = c.call.view_is in
    let old = c.args.machine.now in
    let new = c.run_to_stop.new.self in
    let before = g.H.Host.files c.args.host.now in
    let behind = g.H.Host.files c.run_to_stop.new.host in
    let text = c.as_slice.ensures.value ∙ c.call_text-text.ensures
    ∙ ap (λ entry. call_text entry call.given) c.entry-entry.ensures in
    subst (λ (k : PromisedCall). Joined (Calls k c.run_to_stop.result.stop) old new before behind) same
    (calls (record {
      sure = c.runs_are_sure.ensures;
      leave = c.runs_leave_open.ensures;
      once = c.runs_end_once.ensures;
    }) call c.run_to_stop.result.stop old new before behind (record {
      sound = c.is_sound.ensures;
      loaded = subst (λ (k : PromisedCall). IsLoaded k.promise.library old.kept) (sym same) c.requires.loaded;
      whole = c.is_whole.ensures.kept;
      bytes = c.is_whole.ensures.held;
      named = subst (λ r. r < REGISTERS) (c.index.ensures.value ∙ c.entry-entry.ensures) c.index.ensures.within;
      files = subst (λ (k : PromisedCall). HasFiles k.promise.needs old.held) (sym same) c.requires.files;
      taken = subst TakesArgument (sym same) c.requires.taken;
    }) (subst (λ text. Joined (λ old new. Stops (start text old) MOST c.run_to_stop.result.stop new) old new before
    behind) text c.run_to_stop.ensures.stops))

pub returns-clause-touches : goal.returns-clause-touches
returns-clause-touches g c =
    let call : PromisedCall = record { promise = c.call.inside.promise.now; given = c.call.inside.given } in
    let same : call ≡ c.args.call.now = c.call.view_is in
    let old = c.args.machine.now in
    let new = c.run_to_stop.new.self in
    let before = g.H.Host.files c.args.host.now in
    let behind = g.H.Host.files c.run_to_stop.new.host in
    let stopped = c.run_to_stop.result in
    let text = c.as_slice.ensures.value ∙ c.call_text-text.ensures
    ∙ ap (λ entry. call_text entry call.given) c.entry-entry.ensures in
    subst (λ (k : PromisedCall). TouchesNone (IsReady k.promise) old new before behind) same
    (touches-none c.notes_fit.ensures (record {
      sure = c.runs_are_sure.ensures;
      leave = c.runs_leave_open.ensures;
      once = c.runs_end_once.ensures;
    }) call old (record {
      sound = c.is_sound.ensures;
      loaded = subst (λ (k : PromisedCall). IsLoaded k.promise.library old.kept) (sym same) c.requires.loaded;
      whole = c.is_whole.ensures.kept;
      bytes = c.is_whole.ensures.held;
      named = subst (λ r. r < REGISTERS) (c.index.ensures.value ∙ c.entry-entry.ensures) c.index.ensures.within;
      files = subst (λ (k : PromisedCall). HasFiles k.promise.needs old.held) (sym same) c.requires.files;
      taken = subst TakesArgument (sym same) c.requires.taken;
    }) stopped new before behind
    (subst (λ text. TouchesBySteps (start text) (touched_in_run stopped) old new before behind) text
    c.run_to_stop.ensures.noted))
