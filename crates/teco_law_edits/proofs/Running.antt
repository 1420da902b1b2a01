-- What runs of command strings and of the macro come to in an edit.
use Rattle.std.proofs.Common.{◌≡◌, ◌≤◌, inl, inr, ℕ, List, length, Bool, true, false, Option, Some, None, IsSome}
use Rattle.std.proofs.Common.{option_map, Ok}
use Rattle.std.proofs.Common.{refl, sym, ap, ◌∙◌, subst, arith}
use Rattle.teco_apply.specs.Apply.{AnswersText, IsNotRun, Lacks, TextStops, stop_of}
use Rattle.teco_apply.specs.ByPages.{AdmittedStops, AnswersAdmitted, Order, steps_of}
use Rattle.teco_apply.specs.Sure.{PromisedCall, MOST}
use Rattle.teco_apply.specs.declared.ready.NotReady.{NotReady}
use Rattle.teco_apply.specs.declared.ready.NotReady.TheVariants as not_ready
use Rattle.teco_law_edits.specs.Bounds.{bound_at}
use Rattle.teco_law_edits.specs.Strict.{EndsBeyond, IsBeyond, IsStrict}
use Rattle.teco_law_runs.specs.Keeping.{LeavesOpen}
use Rattle.teco_law_runs.specs.Staying.{AreAsOpen}
use Rattle.teco_law_runs.specs.Sure.{ComesTo, RunsEndOnce}
use Rattle.teco_model.specs.Files.{Files}
use Rattle.teco_model.specs.Paging.{unread}
use Rattle.teco_model.specs.Run.{Ends, IsSure}
use Rattle.teco_model.specs.Session.{code_of, is_code, without_typed}
use Rattle.teco_model.specs.State.{World, start}
use Rattle.teco_model.specs.declared.stop.Stop.{Stop}
use Rattle.teco_model.specs.declared.stop.Stop.TheVariants as stop

-- both files are open, and no more than so much is unread
pub record IsOpen (most : ℕ) (files : Files) : Type 0 where
  pub input : IsSome files.input
  pub output : IsSome files.output
  pub few : length (unread files) ≤ most

-- ---- command strings
-- a command string comes to one end, in no more steps than any run may take
pub record HasEnd (text : List ℕ) (old end : World) : Type 0 where
  pub steps : ℕ
  pub few : steps ≤ MOST
  pub ends : Ends (start text old) steps end

come : RunsEndOnce → (text : List ℕ) (old end : World) (has : HasEnd text old end) (answer : Stop) (new : World)
    → TextStops text old answer new → ComesTo has.steps end answer new
come once text old end has answer new stops =
    once (start text old) has.steps MOST end answer new has.ends has.few stops

-- with no code it comes to that end
at_end : (n : ℕ) (end : World) (answer : Stop) (new : World) → ComesTo n end answer new
    → false ≡ is_code (code_of answer) → new ≡ end
at_end n end (stop.Ended m) new comes none = comes.1
at_end n end (stop.Exit m) new comes none = absurd comes
at_end n end (stop.Error c) new comes none = absurd comes
at_end n end stop.Limit new comes none = absurd comes
at_end n end stop.Memory new comes none = absurd (cc)
at_end n end (stop.HostFault fault) new comes none = absurd (cc)

-- with one it is stopped
stopped : (n : ℕ) (end : World) (answer : Stop) (new : World) → ComesTo n end answer new
    → true ≡ is_code (code_of answer) → IsBeyond answer
stopped n end (stop.Ended m) new comes some = absurd (cc)
stopped n end (stop.Exit m) new comes some = absurd comes
stopped n end (stop.Error c) new comes some = absurd comes
stopped n end stop.Limit new comes some = absurd comes
stopped n end stop.Memory new comes some = tt
stopped n end (stop.HostFault fault) new comes some = tt

module _ (once : RunsEndOnce) (text : List ℕ) (old end : World) (has : HasEnd text old end) (new : World) (f g : ℕ)
    (sink sunk : Option (List ℕ)) where
  pub text_ends : AnswersText text old new f g sink sunk (Ok false) → new ≡ without_typed end
  text_ends a = a.stays
      ∙ ap without_typed (at_end has.steps end a.stop a.after (come once text old end has a.stop a.after a.ran) a.told)

  pub text_stops : AnswersText text old new f g sink sunk (Ok true) → EndsBeyond sunk
  text_stops a = record {
    stop = a.stop;
    beyond = stopped has.steps end a.stop a.after (come once text old end has a.stop a.after a.ran) a.told;
    after = a.after;
    before = sink;
    written = a.writes;
  }

-- ---- the macro
-- a run that is sure and comes to a code is stopped
sure_stopped : (most : ℕ) (answer : Stop) → IsSure most answer → true ≡ is_code (code_of answer) → IsBeyond answer
sure_stopped most (stop.Ended n) sure some = absurd (cc)
sure_stopped most (stop.Exit n) sure some = absurd sure
sure_stopped most (stop.Error c) sure some = absurd sure
sure_stopped most stop.Limit sure some = absurd sure
sure_stopped most stop.Memory sure some = tt
sure_stopped most (stop.HostFault fault) sure some = tt

-- one that comes to none ends
pub sure_ends : (most : ℕ) (answer : Stop) → IsSure most answer → false ≡ is_code (code_of answer)
    → (n : ℕ) × (answer ≡ stop.Ended n) × (n ≤ most)
sure_ends most (stop.Ended n) sure none = (n, refl, sure)
sure_ends most (stop.Exit n) sure none = absurd sure
sure_ends most (stop.Error c) sure none = absurd sure
sure_ends most stop.Limit sure none = absurd sure
sure_ends most stop.Memory sure none = absurd (cc)
sure_ends most (stop.HostFault fault) sure none = absurd (cc)

-- no file is lacking where both are open
none_missing : {X : Type 0} (needed : Bool) (file : Option X) → IsSome file → (needed ≡ true) × (file ≡ None) → ⊥
none_missing needed None open_file missing = absurd (cc)
none_missing needed (Some x) open_file missing = absurd (grind arith)

not_run_beyond : (most : ℕ) (call : PromisedCall) (old new : World) (answer : Stop) → IsOpen most old.files
    → IsNotRun call.promise.needs old answer new → IsBeyond answer
not_run_beyond most call old new answer open_files n = by n.why n.stopped n.lacks
  where
    by : (why : NotReady) → answer ≡ stop_of why → Lacks call.promise.needs old.files why → IsBeyond answer
    by not_ready.NoInput is lacks = absurd (none_missing _ old.files.input open_files.input lacks)
    by not_ready.NoOutput is lacks = absurd (none_missing _ old.files.output open_files.output lacks)
    by not_ready.Argument is lacks = absurd lacks
    by not_ready.Memory is lacks = subst IsBeyond (sym is) tt

-- what has the name of something is something
still_some : {X Y : Type 0} (f : X → Y) (new old : Option X) → option_map f new ≡ option_map f old → IsSome old
    → IsSome new
still_some f None None same is = is
still_some f None (Some x) same is = absurd (cc)
still_some f (Some y) old same is = refl

-- what stops a macro that is not run is a code
pub not_run_code : (why : NotReady) → is_code (code_of (stop_of why)) ≡ true
not_run_code not_ready.NoInput = refl
not_run_code not_ready.NoOutput = refl
not_run_code not_ready.Argument = refl
not_run_code not_ready.Memory = refl

module _ (order : Order) (strict : IsStrict order) (most : ℕ) (old new : World) (open_files : IsOpen most old.files)
  where
    stop_beyond : (answer : Stop) (after : World) → AdmittedStops order old answer after
        → true ≡ is_code (code_of answer) → IsBeyond answer
    stop_beyond answer after (inl h) some = sure_stopped (bound_at order old) answer (h.1.sure (strict old h.0)) some
    stop_beyond answer after (inr h) some = not_run_beyond most order.call old after answer open_files h

    pub macro_stops : (f g : ℕ) (sink sunk : Option (List ℕ)) → AnswersAdmitted order old new f g sink sunk (Ok true)
        → EndsBeyond sunk
    macro_stops f g sink sunk a = record {
      stop = a.stop;
      beyond = stop_beyond a.stop a.after a.ran a.told;
      after = a.after;
      before = sink;
      written = a.writes;
    }

    -- the files of a run that came to its end
    kept_open : (after : World) → AreAsOpen old.files after.files → IsOpen most after.files
    kept_open after left = record {
      input = still_some _ after.files.input old.files.input left.input open_files.input;
      output = still_some _ after.files.output old.files.output left.output open_files.output;
      few = omega (arith, left.unread, open_files.few);
    }

    ended_open : (answer : Stop) (after : World) → AdmittedStops order old answer after
        → false ≡ is_code (code_of answer) → IsOpen most after.files
    ended_open answer after (inl h) none =
        let ready = strict old h.0 in
        let ends = sure_ends (bound_at order old) answer (h.1.sure ready) none in
        kept_open after (subst (λ answer. LeavesOpen answer old.files after.files) ends.1 (h.1.keeps ready))
    ended_open answer after (inr h) none =
        let coded = ap (λ answer. is_code (code_of answer)) h.stopped ∙ not_run_code h.why in absurd (cc)

    pub macro_ends : (f g : ℕ) (sink sunk : Option (List ℕ)) → AnswersAdmitted order old new f g sink sunk (Ok false)
        → IsOpen most new.files
    macro_ends f g sink sunk a =
        subst (λ (w : World). IsOpen most w.files) (sym a.stays) (ended_open a.stop a.after a.ran a.told)

-- the steps of an admitted run that came to its end
module _ (order : Order) (strict : IsStrict order) (old new : World) where
  ended_steps : (answer : Stop) (after : World) → AdmittedStops order old answer after
      → false ≡ is_code (code_of answer) → steps_of answer ≤ bound_at order old
  ended_steps answer after (inl h) none =
      let ends = sure_ends (bound_at order old) answer (h.1.sure (strict old h.0)) none in
      subst (λ answer. steps_of answer ≤ bound_at order old) (sym ends.1) ends.2
  ended_steps answer after (inr h) none =
      let coded = ap (λ answer. is_code (code_of answer)) h.stopped ∙ not_run_code h.why in absurd (cc)

  pub macro_steps : (f g : ℕ) (sink sunk : Option (List ℕ))
      (a : AnswersAdmitted order old new f g sink sunk (Ok false)) → steps_of a.stop ≤ bound_at order old
  macro_steps f g sink sunk a = ended_steps a.stop a.after a.ran a.told
