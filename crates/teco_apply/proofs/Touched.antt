-- The run of a verified macro opens, names and drops no file, and some files fit what was noted of it.
use Rattle.teco_apply.proofs.Prelude.{◌≡◌, ℕ, zero, suc, ◌+◌, ◌-◌, ◌<◌, ◌≤◌, List, [], ◌∷◌, Bool, true, false, Option}
use Rattle.teco_apply.proofs.Prelude.{Some, None, Result, Ok, Err, inl, inr, refl, sym, ap, subst, ◌∙◌, arith, nat_le}
use Rattle.teco_apply.proofs.Prelude.{nat_tests, IsReady, call_text, kept_loaded, IsReadyLoaded, TouchesNone}
use Rattle.teco_apply.proofs.Prelude.{PromisedCall, world, Element, element_at, go_on, run, State, World, Next, End}
use Rattle.teco_apply.proofs.Prelude.{start, step, Kind, told-whole, Event, IsSameOutput, AreOfBytes, HostFiles}
use Rattle.teco_apply.proofs.Prelude.{Telling, Tells, Notes, Touches, NotesFit, Holdings, TouchesBySteps}
use Rattle.teco_apply.proofs.Prelude.{touched_in_run}
use Rattle.std.proofs.Common.{nat_lt}
use Rattle.std.proofs.lemmas.Bool.{true≢false}
use Rattle.std.specs.Prelude.{IfSome}
use Rattle.teco_apply.proofs.Sure.{IsCalled, Laws, ends_with}
use Rattle.teco_apply.specs.Touched.{WasNotReady}
use Rattle.teco_base.specs.declared.code.Code as base
use Rattle.teco_filing.specs.declared.halt.Halt.{Halt}
use Rattle.teco_law_runs.specs.Staying.{NoFileCommands, ReadsNoFileCommand, is_of_files}
use Rattle.teco_model.specs.Run.{Ends, Reaches}
use Rattle.teco_model.specs.declared.kind.Kind.TheVariants as kind
use Rattle.teco_hosts.specs.Events.{opened_input, gave, ended, opened_output, wrote, closed, dropped, measured}
use Rattle.teco_hosts.specs.Noting.{openings}
use Rattle.teco_hosts.specs.Possible.{GivesMeasured, IsUnopened, OpensAnew, SomeFit}
use Rattle.teco_run.proofs.Quiet.{quiet-end}
use Rattle.teco_run.proofs.Runs.{run-on}
use Rattle.teco_run.specs.Touched.{ComesTo, IsDue, file_of, output_named, touched_by_read}
use Rattle.teco_run.specs.declared.site.Stopped.{Stopped}

-- ---- no command of files is read
no_file_of : (k : Kind) → is_of_files k ≡ false → file_of k ≡ None
no_file_of (kind.File f) h = absurd (true≢false h)
no_file_of k h = refl

quiet_there : {X : Type 0} (s : State) (read : Result (Option Element) base.Code)
    → element_at s.frames.running.text s.frames.running.place ≡ read → ReadsNoFileCommand s
    → (output : Option (List ℕ)) (result : Result X Halt) → touched_by_read read output result ≡ []
quiet_there s (Err c) is none output result = refl
quiet_there s (Ok None) is none output result = refl
quiet_there s (Ok (Some e)) is none output result = rw (no_file_of e.kind (none (Some e) is)) refl

quiet_here : {X : Type 0} (s : State) → ReadsNoFileCommand s → (output : Option (List ℕ)) (result : Result X Halt)
    → touched_by_read (element_at s.frames.running.text s.frames.running.place) output result ≡ []
quiet_here s none output result =
    quiet_there s (element_at s.frames.running.text s.frames.running.place) refl none output result

-- behind its end a run goes on nowhere
stays_ended : (m : ℕ) (last : State) (w : World) → step last ≡ End w → run (suc m) last ≡ End w
unfolding run
stays_ended zero last w is = is
stays_ended (suc m) last w is = ap go_on (stays_ended m last w is)

-- a run of so many steps stops no later
no_later : (s : State) (n k : ℕ) (new : World) (last : State) → Ends s n new → Reaches k s last → k ≤ n
no_later s n k new last ends reached = by (nat_le k n) refl where
  by : (b : Bool) → nat_le k n ≡ b → k ≤ n
  by true is = grind (arith, nat_tests)
  by false is =
      let later : n < k = grind (arith, nat_tests) in
      let far : k ≡ n + suc (k - suc n) = omega (arith, later) in
      absurd (let led = sym reached ∙ ap (λ m. run m s) far ∙ run-on n (suc (k - suc n)) s ends.last ends.steps
      ∙ stays_ended (k - suc n) ends.last new ends.end in cc)

-- the step that is why it stops
quiet_last : {X : Type 0} (s : State) (n k : ℕ) (new : World) (last : State) → NoFileCommands s n → Ends s n new
    → Reaches k s last → k ≤ n → (output : Option (List ℕ)) (result : Result X Halt)
    → touched_by_read (element_at last.frames.running.text last.frames.running.place) output result ≡ []
quiet_last {X = X} s n k new last none ends reached small output result = by (nat_lt k n) refl where
  by : (b : Bool) → nat_lt k n ≡ b
      → touched_by_read {X = X} (element_at last.frames.running.text last.frames.running.place) output result ≡ []
  by true is = quiet_here last (none k last (let less : k < n = grind (arith, nat_tests) in less) reached) output result
  by false is =
      let all : k ≡ n = grind (arith, nat_tests) in
      let there : Next last ≡ Next ends.last = sym reached ∙ ap (λ m. run m s) all ∙ ends.steps in
      let same : last ≡ ends.last = cc in
      rw same (quiet-end ends.last new output result ends.end)

-- ---- some files fit
unopened : (name : List ℕ) (events : List Event) → openings events ≡ [] → IsUnopened name events
unopened name [] h = tt
unopened name (opened_input other ∷ events) h = absurd (cc)
unopened name (gave bytes ∷ events) h = unopened name events h
unopened name (ended ∷ events) h = unopened name events h
unopened name (opened_output other ∷ events) h = absurd (cc)
unopened name (wrote bytes ∷ events) h = unopened name events h
unopened name (closed ∷ events) h = absurd (cc)
unopened name (dropped ∷ events) h = absurd (cc)
unopened name (measured most ∷ events) h = absurd (cc)

opens_none : (events : List Event) → openings events ≡ [] → OpensAnew events
opens_none [] h = tt
opens_none (opened_input other ∷ events) h = absurd (cc)
opens_none (gave bytes ∷ events) h = opens_none events h
opens_none (ended ∷ events) h = opens_none events h
opens_none (opened_output other ∷ events) h = absurd (cc)
opens_none (wrote bytes ∷ events) h = opens_none events h
opens_none (closed ∷ events) h = absurd (cc)
opens_none (dropped ∷ events) h = absurd (cc)
opens_none (measured most ∷ events) h = absurd (cc)

measures_none : (events : List Event) → openings events ≡ [] → GivesMeasured events
measures_none [] h = tt
measures_none (opened_input other ∷ events) h = absurd (cc)
measures_none (gave bytes ∷ events) h = measures_none events h
measures_none (ended ∷ events) h = measures_none events h
measures_none (opened_output other ∷ events) h = absurd (cc)
measures_none (wrote bytes ∷ events) h = measures_none events h
measures_none (closed ∷ events) h = absurd (cc)
measures_none (dropped ∷ events) h = absurd (cc)
measures_none (measured most ∷ events) h = absurd (cc)

unopened_output : (output : Option (List ℕ)) (events : List Event) → openings events ≡ []
    → IfSome output (λ name. IsUnopened name events)
unopened_output None events h = tt
unopened_output (Some name) events h = unopened name events h

some-fit : NotesFit → (output : Option (List ℕ)) (end end' : Bool) (x y : Telling) → Touches [] end end' x y
    → SomeFit output x y
some-fit fit output end end' (Tells f) (Tells g) t = tt
some-fit fit output end end' (Tells f) (Notes b) t = absurd t
some-fit fit output end end' (Notes a) (Tells g) t = absurd t
some-fit fit output end end' (Notes a) (Notes b) t = record {
  meanwhile = t.meanwhile;
  noted = t.noted;
  fitted = λ any. fit output end end' t.meanwhile t.bytes t.order (measures_none t.meanwhile t.openings)
      (opens_none t.meanwhile t.openings) (unopened_output output t.meanwhile t.openings);
}

-- ---- the call of a verified macro
module _ (fit : NotesFit) (laws : Laws) (call : PromisedCall) (a : Holdings) (is : IsCalled call a.kept a.held) where
  abbrev from : World → State
  from old = start (call_text call.promise.entry call.given) old

  abbrev ready : World → Type 0
  ready = IsReady call.promise

  -- where it is ready it comes to no command of files
  comes-to-none : (files : HostFiles) → AreOfBytes files → IsSameOutput a.held files → ready (world a.kept a.held files)
      → (event : Event) → ComesTo event (from (world a.kept a.held files)) → ⊥
  comes-to-none files bytes same enough event comes =
      let within = (ends_with laws call a.kept a.held is files bytes same enough call.given is.taken).ends in
      let began = from (world a.kept a.held files) in
      let small = no_later began within.steps comes.steps within.new comes.there within.ends comes.reached in
      let none = quiet_last began within.steps comes.steps within.new comes.there within.none within.ends comes.reached
      small (output_named comes.there.world) comes.result in
      absurd (let k = sym none ∙ comes.touches in cc)

  was-not-ready : (event : Event) (later : List Event) (b : Holdings) (f g : Telling)
      → IsDue from [] event later a b f g → WasNotReady ready a b f g
  was-not-ready event later b f g due = record {
    touched = event ∷ later;
    mid = due.mid;
    until = due.until;
    quiet = due.notes;
    others = due.others;
    fitted = some-fit fit a.held.output a.held.end due.mid.held.end f due.until due.notes;
    unready = told-whole
        (λ files left. IsSameOutput a.held files → ComesTo event (from (world a.kept a.held files))
        × IsSameOutput due.mid.held left)
        (λ files left. IsSameOutput a.held files → (¬ ready (world a.kept a.held files))
        × IsSameOutput due.mid.held left)
        (λ files left bytes behind t same. (
          (λ enough. comes-to-none files bytes same enough event (t same).0),
          (t same).1,
        )) f due.until due.comes;
  }

  pub touches-none : (stopped : Stopped) (b : Holdings) (f g : Telling)
      → TouchesBySteps from (touched_in_run stopped) a b f g → TouchesNone ready a b f g
  touches-none stopped b f g t = by t.touched refl where
    by : (touched : List Event) → t.touched ≡ touched → TouchesNone ready a b f g
    by [] all =
        let none = subst (λ e. Touches e a.held.end b.held.end f g) all t.notes in
        inl (none, some-fit fit a.held.output a.held.end b.held.end f g none)
    by (event ∷ later) all = inr (was-not-ready event later b f g (t.due [] event later all))

-- where its library is loaded first
pub touches-none-loaded : (call : PromisedCall) (a loaded b : Holdings) (f g : Telling)
    → loaded ≡ record a { kept = kept_loaded call.promise.library a.kept }
    → TouchesNone (IsReady call.promise) loaded b f g → TouchesNone (IsReadyLoaded call) a b f g
touches-none-loaded call a loaded b f g e t =
    by (subst (λ l. TouchesNone (IsReady call.promise) l b f g) e t) where
      by : TouchesNone (IsReady call.promise) (record a { kept = kept_loaded call.promise.library a.kept }) b f g
          → TouchesNone (IsReadyLoaded call) a b f g
      by (inl none) = inl none
      by (inr was) = inr (record {
        touched = was.touched;
        mid = was.mid;
        until = was.until;
        quiet = was.quiet;
        others = was.others;
        fitted = was.fitted;
        unready = was.unready;
      })
