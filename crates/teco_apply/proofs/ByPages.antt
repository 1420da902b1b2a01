-- Edits by pages, run after run.
use Rattle.teco_apply.proofs.Prelude.{◌≡◌, ◌≢◌, ◌≤◌, ◌+◌, ◌++◌, ◌∷◌, inl, inr, ℕ, List, [], Bool, true, false, not}
use Rattle.teco_apply.proofs.Prelude.{Option, Result, Ok, Err, refl, sym, ◌∙◌, ap, subst, arith, AnswersText, Lacks}
use Rattle.teco_apply.proofs.Prelude.{closing, has_esc, opening, stop_of, AdmittedStops, Behind, BehindMacro}
use Rattle.teco_apply.proofs.Prelude.{BehindPage, Closing, EditsPages, EditsText, EndsInMacro, EndsWith, FileEdited}
use Rattle.teco_apply.proofs.Prelude.{Gathers, Once, OpensBoth, Order, PagesCount, PagesGathered, PagesTurned}
use Rattle.teco_apply.proofs.Prelude.{RunsAdmitted, is_dropped, nothing_done, to_start, Calls, TakesArgument}
use Rattle.teco_apply.proofs.Prelude.{kept_loaded, Edited, PageChoice, First, PAGES, NotReady, Ran, Tally, unread}
use Rattle.teco_apply.proofs.Prelude.{code_of, is_code, Kept, World, Stop, told-map, Held, IsSameOutput, unread_bytes}
use Rattle.teco_apply.proofs.Prelude.{HostFiles, Telling, world, Holdings, Joined, Joined-on, Joined-stays}
use Rattle.teco_apply.proofs.Prelude.{SessionFault, PromisedCall}
use Rattle.std.proofs.Common.{◌&&◌}
use Rattle.std.specs.Prelude.{IfOk, option_map}
use Rattle.teco_apply.proofs.Edits.{leaves_open}
use Rattle.teco_apply.specs.Apply.{Course, DropsIfCoded, LineCounts}
use Rattle.teco_apply.specs.ByPages.{EachPage, EditCourse}
use Rattle.teco_apply.specs.ByPages.{IsAskedAt}
use Rattle.teco_apply.specs.ByPages.{IsRefused, RanBy}
use Rattle.teco_apply.specs.ByPages.{RanCounts, TooMany, TurnCounts, TurnedBy, Turning, Turns}
use Rattle.teco_apply.specs.ByPages.{edited_with, gathering, tally_after, turning}
use Rattle.teco_apply.specs.Sure.{Answers, loaded as with_library}
use Rattle.teco_options.specs.declared.editing.PageChoice.TheVariants.{Each, Whole}
use Rattle.teco_apply.specs.declared.ready.NotReady.TheVariants as not_ready
use Rattle.teco_apply.specs.declared.stages.Ran.TheVariants as ran
use Rattle.teco_apply.specs.declared.stages.Turned.{Turned}
use Rattle.teco_apply.specs.declared.stages.Turned.TheVariants as turned
use Rattle.teco_model.specs.Session.{code_line, lines_of, without_typed}
use Rattle.teco_model.specs.declared.stop.Stop.TheVariants as kind
use Rattle.teco_hosts.proofs.Told.{told-same}
use Rattle.teco_hosts.specs.Held.{files_of}
use Rattle.teco_filing.specs.Worlds.{is_some_byte}
use Rattle.teco_run.proofs.Together.{none-open}
use Rattle.teco_model.specs.Run.{StopCounts}
use Rattle.teco_run.specs.Unread.{TellsIfUnread}
use Rattle.teco_session.proofs.Together.{Joined-then, Joined-typed}
use Rattle.teco_session.specs.Output.{Writes}
use Rattle.teco_session.specs.declared.fault.SessionFault.TheVariants as fault

-- ---- counts
never_falls : (stop : Stop) (f g : ℕ) → StopCounts stop f g → f ≤ g
never_falls (kind.Ended n) f g counted = omega (arith, counted)
never_falls (kind.Exit n) f g counted = omega (arith, counted)
never_falls (kind.Error c) f g counted = omega (arith, counted)
never_falls kind.Limit f g counted = omega (arith, counted)
never_falls kind.Memory f g counted = omega (arith, counted)
never_falls (kind.HostFault fault) f g counted = omega (arith, counted)

stays_plain : (stop : Stop) (f g : ℕ) → false ≡ is_code (code_of stop) → StopCounts stop f g → g ≡ f
stays_plain (kind.Ended n) f g told counted = counted
stays_plain (kind.Exit n) f g told counted = counted
stays_plain (kind.Error c) f g told counted = cc
stays_plain kind.Limit f g told counted = cc
stays_plain kind.Memory f g told counted = cc
stays_plain (kind.HostFault fault) f g told counted = cc

-- the count of a run that is told
pub line_counts : (line : Result Bool SessionFault) (stop : Stop) (f g : ℕ) (sink sunk : Option (List ℕ))
    (lines : List ℕ) → StopCounts stop f g → Writes sink sunk lines line
    → IfOk line (λ coded. coded ≡ is_code (code_of stop)) → LineCounts line f g
line_counts (Ok true) stop f g sink sunk lines counted writes told = never_falls stop f g counted
line_counts (Ok false) stop f g sink sunk lines counted writes told = stays_plain stop f g told counted
line_counts (Err fault.Write) stop f g sink sunk lines counted writes told = never_falls stop f g counted
line_counts (Err fault.Memory) stop f g sink sunk lines counted writes told = let no = writes.0 in cc
line_counts (Err fault.Argument) stop f g sink sunk lines counted writes told = let no = writes.0 in cc
line_counts (Err fault.Read) stop f g sink sunk lines counted writes told = let no = writes.0 in cc

pub ran_counts : (line : Result Bool SessionFault) (stop : Stop) (result : Result Ran SessionFault) (f g : ℕ)
    → RanBy line stop result → LineCounts line f g → RanCounts result f g
ran_counts (Ok true) stop result f g by counted = rw by counted
ran_counts (Ok false) stop result f g by counted = rw by counted
ran_counts (Err cannot) stop result f g by counted = rw by counted

pub turn_counts : (line : Result Bool SessionFault) (result : Result Turned SessionFault) (f g : ℕ)
    → TurnedBy line result → LineCounts line f g → TurnCounts result f g
turn_counts (Ok true) result f g by counted = rw by counted
turn_counts (Ok false) result f g by counted = rw by counted
turn_counts (Err cannot) result f g by counted = rw by counted

pub ended_counts : (done : Tally) (line : Result Bool SessionFault) (result : Result Edited SessionFault) (f g : ℕ)
    → EndsWith done line result → LineCounts line f g → PagesCount result f g
ended_counts done (Ok coded) result f g ends counted = rw ends counted
ended_counts done (Err cannot) result f g ends counted = rw ends counted

-- ---- the macro
runs_by : (order : Order) (old after : World) (f g : ℕ) (sink sunk : Option (List ℕ)) (stop : Stop)
    (line : Result Bool SessionFault) (result : Result Ran SessionFault) → RanBy line stop result
    → AdmittedStops order old stop after → StopCounts stop f g → Writes sink sunk (lines_of stop after) line
    → IfOk line (λ coded. coded ≡ is_code (code_of stop))
    → RunsAdmitted order old (without_typed after) f g sink sunk result
runs_by order old after f g sink sunk stop (Ok true) result by stops counted writes told =
    rw by (record {
      stop = stop;
      after = after;
      ran = stops;
      counted = counted;
      stays = refl;
      writes = writes;
      told = told;
    })
runs_by order old after f g sink sunk stop (Ok false) result by stops counted writes told =
    rw by (record {
      answers = record {
        stop = stop;
        after = after;
        ran = stops;
        counted = counted;
        stays = refl;
        writes = writes;
        told = told;
      };
      counted = refl;
    })
runs_by order old after f g sink sunk stop (Err cannot) result by stops counted writes told =
    rw by (record {
      stop = stop;
      after = after;
      ran = stops;
      counted = counted;
      stays = refl;
      writes = writes;
      told = told;
    })

-- what is typed of a run is what is kept of it
typed_lines : (kept other : Kept) (stop : Stop) (sink sunk : Option (List ℕ)) (line : Result Bool SessionFault)
    → other ≡ kept → Writes sink sunk (kept.typed ++ code_line (code_of stop)) line
    → Writes sink sunk (other.typed ++ code_line (code_of stop)) line
typed_lines kept other stop sink sunk line same writes =
    subst (λ (k : Kept). Writes sink sunk (k.typed ++ code_line (code_of stop)) line) (sym same) writes

pub Joined-runs : (order : Order) (a b c : Holdings) (f g : Telling) (k m : ℕ) (sink sunk : Option (List ℕ))
    (stop : Stop) (line : Result Bool SessionFault) (result : Result Ran SessionFault) → RanBy line stop result
    → StopCounts stop k m → Writes sink sunk (b.kept.typed ++ code_line (code_of stop)) line
    → IfOk line (λ coded. coded ≡ is_code (code_of stop)) → c ≡ record b { kept = record b.kept { typed = [] } }
    → Joined (λ old new. AdmittedStops order old stop new) a b f g
    → Joined (λ old new. RunsAdmitted order old new k m sink sunk result) a c f g
Joined-runs order a b c f g k m sink sunk stop line result by counted writes told taken =
    Joined-typed (λ old new. AdmittedStops order old stop new)
    (λ old new. RunsAdmitted order old new k m sink sunk result) a b c f g taken
    (λ (old : World) (after : World) same stops. runs_by order old after k m sink sunk stop line result by stops counted
    (typed_lines b.kept after.kept stop sink sunk line same writes) told)

-- what is lacking where the macro is not run
lacks : (call : PromisedCall) (held : Held) (files : HostFiles) (why : NotReady) → TakesArgument call
    → Answers {X = Unit {0}} call held (Err why) → IsSameOutput held files
    → Lacks call.promise.needs (files_of held files) why
lacks call held files not_ready.NoInput taken is same =
    (is.0, ap (option_map (λ name. record { name = name; unread = unread_bytes held files })) is.1)
lacks call held files not_ready.NoOutput taken is same = ((is.1).0, none-open held.output files.output same (is.1).1)
lacks call held files not_ready.Argument taken is same = absurd (is.1 taken)
lacks call held files not_ready.Memory taken is same = tt

pub Joined-unready : (order : Order) (a : Holdings) (f : Telling) (why : NotReady) → TakesArgument order.call
    → Answers {X = Unit {0}} order.call a.held (Err why)
    → Joined (λ old new. AdmittedStops order old (stop_of why) new) a a f f
Joined-unready order a f why taken is =
    told-same _
    (λ files same. (
      inr (record {
        why = why;
        stopped = refl;
        lacks = lacks order.call a.held files why taken is same;
        stays = refl;
      }),
      same,
    )) f

-- the guard did not admit it
pub Joined-refused : (order : Order) (a b : Holdings) (f g : Telling) (k m : ℕ) (sink : Option (List ℕ)) → m ≡ k
    → Joined (IsRefused order) a b f g
    → Joined (λ old new. RunsAdmitted order old new k m sink sink (Ok ran.Refused)) a b f g
Joined-refused order a b f g k m sink same =
    Joined-on (IsRefused order) (λ old new. RunsAdmitted order old new k m sink sink (Ok ran.Refused)) a b f g
    (λ old new is. (is, same, refl))

-- it is asked where the library is loaded
Joined-loaded : (order : Order) (R S : World → World → Type 0) (a loaded b : Holdings) (f g : Telling)
    → loaded ≡ record a { kept = kept_loaded order.call.promise.library a.kept }
    → ((old new : World) → R (with_library order.call.promise.library old) new → S old new) → Joined R loaded b f g
    → Joined S a b f g
Joined-loaded order R S a loaded b f g e on t =
    told-map (λ files left. IsSameOutput a.held files
    → R (world (kept_loaded order.call.promise.library a.kept) a.held files) (world b.kept b.held left)
    × IsSameOutput b.held left) _ (λ files left t same. (on _ _ (t same).0, (t same).1)) f g
    (subst (λ l. Joined R l b f g) e t)

pub Joined-asked : (order : Order) (a loaded : Holdings) (f g : Telling) (answer : Bool)
    → loaded ≡ record a { kept = kept_loaded order.call.promise.library a.kept } → answer ≡ false
    → Joined (λ old new. (new ≡ old) × IsAskedAt order.answers old answer) loaded loaded f g
    → Joined (IsRefused order) a loaded f g
Joined-asked order a loaded f g answer e refused =
    Joined-loaded order (λ old new. (new ≡ old) × IsAskedAt order.answers old answer)
    (IsRefused order) a loaded loaded f g e
    (λ old new is.
    record {
      answered = subst (λ b. IsAskedAt order.answers (with_library order.call.promise.library old) b) refused
          is.1;
      stays = is.0;
    })

pub Joined-admitted : (order : Order) (a loaded b : Holdings) (f g h : Telling) (answer : Bool) (stop : Stop)
    → loaded ≡ record a { kept = kept_loaded order.call.promise.library a.kept } → answer ≡ true
    → Joined (λ old new. (new ≡ old) × IsAskedAt order.answers old answer) loaded loaded f g
    → Joined (Calls order.call stop) loaded b g h
    → Joined (λ old new. AdmittedStops order old stop new) a b f h
Joined-admitted order a loaded b f g h answer stop e admitted asked calls =
    Joined-loaded order (λ old new. IsAskedAt order.answers old true
    × Calls order.call stop old new) (λ old new. AdmittedStops order old stop new) a
    loaded b f h e
    (λ old new is. inl is)
    (Joined-then (λ old new. (new ≡ old) × IsAskedAt order.answers old answer)
    (Calls order.call stop) (λ old new. IsAskedAt order.answers old true
    × Calls order.call stop old new) loaded loaded b f g h
    (λ (old : World) (mid : World) (new : World) is ran. (
      subst (λ b. IsAskedAt order.answers old b) admitted is.1,
      subst (λ (w : World). Calls order.call stop w new) is.0 ran,
    )) asked calls)

-- ---- more pages
no_byte : (bytes : List ℕ) → false ≡ is_some_byte bytes → bytes ≡ []
no_byte [] is = refl
no_byte (b ∷ bytes) is = cc

some_byte : (bytes : List ℕ) → true ≡ is_some_byte bytes → bytes ≢ []
some_byte [] is none = cc
some_byte (b ∷ bytes) is none = cc

turns_by : (text : List ℕ) (old new : World) (f g : ℕ) (sink sunk : Option (List ℕ)) (line : Result Bool SessionFault)
    (result : Result Turned SessionFault) → TurnedBy line result → Turning text old new f g sink sunk line
    → Turns text old new f g sink sunk result
turns_by text old new f g sink sunk (Ok true) result by turning = rw by turning
turns_by text old new f g sink sunk (Ok false) result by turning = rw by turning
turns_by text old new f g sink sunk (Err cannot) result by turning = rw by turning

pub Joined-through : (text : List ℕ) (a b : Holdings) (f g : Telling) (k m : ℕ) (sink : Option (List ℕ)) → m ≡ k
    → Joined (λ old new. TellsIfUnread old new (Ok false)) a b f g
    → Joined (λ old new. Turns text old new k m sink sink (Ok turned.Through)) a b f g
Joined-through text a b f g k m sink same =
    Joined-on (λ old new. TellsIfUnread old new (Ok false))
    (λ old new. Turns text old new k m sink sink (Ok turned.Through)) a b f g
    (λ (old : World) (new : World) tells. (no_byte (unread old.files) tells.0, tells.1, same, refl))

runs_for_more : (text : List ℕ) (old mid new : World) (f m g : ℕ) (sink sunk : Option (List ℕ))
    (line : Result Bool SessionFault) → m ≡ f → TellsIfUnread old mid (Ok true)
    → AnswersText text mid new m g sink sunk line → Turning text old new f g sink sunk line
runs_for_more text old mid new f m g sink sunk line same tells answers =
    let at_old = subst (λ (w : World). AnswersText text w new m g sink sunk line) tells.1 answers in
    inl (record {
      some = some_byte (unread old.files) tells.0;
      answers = subst (λ (n : ℕ). AnswersText text old new n g sink sunk line) same at_old;
    })

pub Joined-turned : (text : List ℕ) (a b c : Holdings) (f g h : Telling) (k m n : ℕ) (sink sunk : Option (List ℕ))
    (line : Result Bool SessionFault) (result : Result Turned SessionFault) → TurnedBy line result → m ≡ k
    → Joined (λ old new. TellsIfUnread old new (Ok true)) a b f g
    → Joined (λ old new. AnswersText text old new m n sink sunk line) b c g h
    → Joined (λ old new. Turns text old new k n sink sunk result) a c f h
Joined-turned text a b c f g h k m n sink sunk line result by same =
    Joined-then (λ old new. TellsIfUnread old new (Ok true)) (λ old new. AnswersText text old new m n sink sunk line)
    (λ old new. Turns text old new k n sink sunk result) a b c f g h
    (λ (old : World) (mid : World) (new : World) tells answers. turns_by text old new k n sink sunk line result by
    (runs_for_more text old mid new k m n sink sunk line same tells answers))

pub Joined-untold : (text : List ℕ) (a b c : Holdings) (f g : Telling) (k m : ℕ) (sink sunk : Option (List ℕ))
    (why : Stop) (line : Result Bool SessionFault) (result : Result Turned SessionFault) → TurnedBy line result
    → StopCounts why k m → Writes sink sunk (b.kept.typed ++ code_line (code_of why)) line
    → IfOk line (λ coded. coded ≡ is_code (code_of why)) → c ≡ record b { kept = record b.kept { typed = [] } }
    → Joined (λ old new. TellsIfUnread old new (Err why)) a b f g
    → Joined (λ old new. Turns text old new k m sink sunk result) a c f g
Joined-untold text a b c f g k m sink sunk why line result by counted writes told taken =
    Joined-typed (λ old new. TellsIfUnread old new (Err why)) (λ old new. Turns text old new k m sink sunk result) a b c
    f g taken
    (λ (old : World) (after : World) same tells. turns_by text old (without_typed after) k m sink sunk line result by
    (inr (record {
      stop = why;
      after = after;
      ran = tells;
      counted = counted;
      stays = refl;
      writes = typed_lines b.kept after.kept why sink sunk line same writes;
      told = told;
    })))

-- more pages than an edit takes
pub Joined-too_many : (a c : Holdings) (f : Telling) (k : ℕ) (sink sunk : Option (List ℕ))
    (line : Result Bool SessionFault) → Writes sink sunk (a.kept.typed ++ code_line (code_of kind.Limit)) line
    → IfOk line (λ coded. coded ≡ is_code (code_of kind.Limit)) → c ≡ record a { kept = record a.kept { typed = [] } }
    → Joined (λ old new. TooMany old new k k sink sunk line) a c f f
Joined-too_many a c f k sink sunk line writes told taken =
    Joined-typed (λ old new. new ≡ old) (λ old new. TooMany old new k k sink sunk line) a a c f f taken
    (λ (old : World) (after : World) same stays. record {
      stop = kind.Limit;
      after = after;
      ran = (refl, stays);
      counted = refl;
      stays = refl;
      writes = typed_lines a.kept after.kept kind.Limit sink sunk line same writes;
      told = told;
    })
    (Joined-stays (λ old new. new ≡ old) a f (λ world. refl))

-- ---- one after another
-- an edit that ends with a code before any page
pub ends-coded : (done : Tally) (e : Edited) → done ≡ nothing_done → e ≡ edited_with done true false
    → EndsWith nothing_done (Ok true) (Ok e)
ends-coded done e none is =
    let same : e ≡ edited_with nothing_done true false = is ∙ ap (λ (t : Tally). edited_with t true false) none in
    rw same refl

module _ (order : Order) (done : Tally) (More : Tally → EditCourse) where
  pub macro-stops : (a b : Holdings) (f g : Telling) (k m : ℕ) (sink sunk : Option (List ℕ))
      (answer : Result Ran SessionFault) (result : Result Edited SessionFault) → EndsInMacro done answer result
      → Joined (λ old new. RunsAdmitted order old new k m sink sunk answer) a b f g
      → Joined (λ old new. BehindMacro order done More old new k m sink sunk result) a b f g
  macro-stops a b f g k m sink sunk answer result ends =
      Joined-on (λ old new. RunsAdmitted order old new k m sink sunk answer)
      (λ old new. BehindMacro order done More old new k m sink sunk result) a b f g
      (λ (old : World) (new : World) runs. BehindMacro.stops answer runs ends)

  pub macro-goes_on : (a b c : Holdings) (f g h : Telling) (k m n : ℕ) (sink mid sunk : Option (List ℕ)) (steps : ℕ)
      (result : Result Edited SessionFault)
      → Joined (λ old new. RunsAdmitted order old new k m sink mid (Ok (ran.On steps))) a b f g
      → Joined (λ old new. More (tally_after steps done) old new m n mid sunk result) b c g h
      → Joined (λ old new. BehindMacro order done More old new k n sink sunk result) a c f h
  macro-goes_on a b c f g h k m n sink mid sunk steps result =
      Joined-then (λ old new. RunsAdmitted order old new k m sink mid (Ok (ran.On steps)))
      (λ old new. More (tally_after steps done) old new m n mid sunk result)
      (λ old new. BehindMacro order done More old new k n sink sunk result) a b c f g h
      (λ (w0 : World) (w1 : World) (w2 : World) runs more. BehindMacro.goes_on steps w1 m mid runs more)

pub closes : (done : Tally) (a b : Holdings) (f g : Telling) (k m : ℕ) (sink sunk : Option (List ℕ))
    (line : Result Bool SessionFault) (result : Result Edited SessionFault) → EndsWith done line result
    → Joined (λ old new. AnswersText closing old new k m sink sunk line) a b f g
    → Joined (λ old new. Closing done old new k m sink sunk result) a b f g
closes done a b f g k m sink sunk line result ends =
    Joined-on (λ old new. AnswersText closing old new k m sink sunk line)
    (λ old new. Closing done old new k m sink sunk result) a b f g
    (λ (old : World) (new : World) answers. record { line = line; closes = answers; told = ends })

pub page-stops : (done : Tally) (a b : Holdings) (f g : Telling) (k m : ℕ) (sink sunk : Option (List ℕ))
    (line : Result Bool SessionFault) (result : Result Edited SessionFault) → line ≢ Ok false
    → EndsWith done line result → Joined (λ old new. Turning turning old new k m sink sunk line) a b f g
    → Joined (λ old new. BehindPage done old new k m sink sunk result) a b f g
page-stops done a b f g k m sink sunk line result other ends =
    Joined-on (λ old new. Turning turning old new k m sink sunk line)
    (λ old new. BehindPage done old new k m sink sunk result) a b f g
    (λ (old : World) (new : World) turns. BehindPage.stops line other turns ends)

pub page-closes : (done : Tally) (a b c : Holdings) (f g h : Telling) (k m n : ℕ) (sink mid sunk : Option (List ℕ))
    (result : Result Edited SessionFault)
    → Joined (λ old new. Turns turning old new k m sink mid (Ok turned.Through)) a b f g
    → Joined (λ old new. Closing done old new m n mid sunk result) b c g h
    → Joined (λ old new. BehindPage done old new k n sink sunk result) a c f h
page-closes done a b c f g h k m n sink mid sunk result =
    Joined-then (λ old new. Turns turning old new k m sink mid (Ok turned.Through))
    (λ old new. Closing done old new m n mid sunk result) (λ old new. BehindPage done old new k n sink sunk result)
    a b c f g h
    (λ (w0 : World) (w1 : World) (w2 : World) through closing.
    let at_world = subst (λ (w : World). Closing done w w2 m n mid sunk result) through.1 closing in
    let at_count = subst (λ (c : ℕ). Closing done w0 w2 c n mid sunk result) through.2 at_world in
    BehindPage.closes through.0 (subst (λ (s : Option (List ℕ)). Closing done w0 w2 k n s sunk result) through.3
    at_count))

module _ (order : Order) (done : Tally) where
  pub each-ends : (a b c : Holdings) (f g h : Telling) (k m n : ℕ) (sink mid sunk : Option (List ℕ))
      (result : Result Edited SessionFault) → Joined (λ old new. PagesTurned order old k sink done new m mid) a b f g
      → Joined (λ old new. BehindMacro order done BehindPage old new m n mid sunk result) b c g h
      → Joined (λ old new. EachPage order old new k n sink sunk result) a c f h
  each-ends a b c f g h k m n sink mid sunk result =
      Joined-then (λ old new. PagesTurned order old k sink done new m mid)
      (λ old new. BehindMacro order done BehindPage old new m n mid sunk result)
      (λ old new. EachPage order old new k n sink sunk result) a b c f g h
      (λ (w0 : World) (w1 : World) (w2 : World) turned more. EachPage.ends done w1 m mid turned more)

  pub each-full : (a b c : Holdings) (f g h : Telling) (k m n : ℕ) (sink mid sunk : Option (List ℕ))
      (line : Result Bool SessionFault) (result : Result Edited SessionFault) → done.pages ≡ PAGES
      → EndsWith done line result → Joined (λ old new. PagesTurned order old k sink done new m mid) a b f g
      → Joined (λ old new. TooMany old new m n mid sunk line) b c g h
      → Joined (λ old new. EachPage order old new k n sink sunk result) a c f h
  each-full a b c f g h k m n sink mid sunk line result all ends =
      Joined-then (λ old new. PagesTurned order old k sink done new m mid)
      (λ old new. TooMany old new m n mid sunk line) (λ old new. EachPage order old new k n sink sunk result) a b c
      f g h
      (λ (w0 : World) (w1 : World) (w2 : World) turned many. EachPage.full done w1 m mid line turned all many ends)

  pub each-more : (a b c d : Holdings) (f g h i : Telling) (k m n o : ℕ) (sink s t sunk : Option (List ℕ)) (steps : ℕ)
      → Joined (λ old new. PagesTurned order old k sink done new m s) a b f g
      → Joined (λ old new. RunsAdmitted order old new m n s t (Ok (ran.On steps))) b c g h
      → Joined (λ old new. Turning turning old new n o t sunk (Ok false)) c d h i
      → Joined (λ old new. PagesTurned order old k sink (tally_after steps done) new o sunk) a d f i
  each-more a b c d f g h i k m n o sink s t sunk steps turned runs turns =
      let page = Joined-then (λ old new. RunsAdmitted order old new m n s t (Ok (ran.On steps)))
      (λ old new. Turning turning old new n o t sunk (Ok false))
      (λ old new. (w : World) × (RunsAdmitted order old w m n s t (Ok (ran.On steps))
      × Turning turning w new n o t sunk (Ok false))) b c d g h i
      (λ (w0 : World) (w1 : World) (w2 : World) one more. (w1, (one, more))) runs turns in
      Joined-then (λ old new. PagesTurned order old k sink done new m s)
      (λ old new. (w : World) × (RunsAdmitted order old w m n s t (Ok (ran.On steps))
      × Turning turning w new n o t sunk (Ok false)))
      (λ old new. PagesTurned order old k sink (tally_after steps done) new o sunk) a b d f g i
      (λ (w0 : World) (w1 : World) (w2 : World) before here. PagesTurned.one_more done steps w1 here.0 w2 m n o s t sunk
      before here.1.0 here.1.1)
      turned page

  -- the edit ends where the next page is turned to
  pub each-stops : (a b c d : Holdings) (f g h i : Telling) (k m n o : ℕ) (sink s t sunk : Option (List ℕ)) (steps : ℕ)
      (line : Result Bool SessionFault) (result : Result Edited SessionFault) → line ≢ Ok false
      → EndsWith (tally_after steps done) line result
      → Joined (λ old new. PagesTurned order old k sink done new m s) a b f g
      → Joined (λ old new. RunsAdmitted order old new m n s t (Ok (ran.On steps))) b c g h
      → Joined (λ old new. Turning turning old new n o t sunk line) c d h i
      → Joined (λ old new. EachPage order old new k o sink sunk result) a d f i
  each-stops a b c d f g h i k m n o sink s t sunk steps line result other ends turned runs turns =
      each-ends a b d f g i k m o sink s sunk result turned
      (macro-goes_on order done BehindPage b c d g h i m n o s t sunk steps result runs
      (page-stops (tally_after steps done) c d h i n o t sunk line result other ends turns))

-- ---- all pages as one
pub gathers-through : (pages : ℕ) (a b c : Holdings) (f g h : Telling) (k m n : ℕ) (sink mid sunk : Option (List ℕ))
    → Joined (λ old new. PagesGathered old k sink pages new m mid) a b f g
    → Joined (λ old new. Turns gathering old new m n mid sunk (Ok turned.Through)) b c g h
    → Joined (λ old new. Gathers old new k n sink sunk (Ok false)) a c f h
gathers-through pages a b c f g h k m n sink mid sunk =
    Joined-then (λ old new. PagesGathered old k sink pages new m mid)
    (λ old new. Turns gathering old new m n mid sunk (Ok turned.Through))
    (λ old new. Gathers old new k n sink sunk (Ok false)) a b c f g h
    (λ (w0 : World) (w1 : World) (w2 : World) gathered through.
    let at_world = subst (λ (w : World). PagesGathered w0 k sink pages w m mid) (sym through.1) gathered in
    let at_count = subst (λ (c : ℕ). PagesGathered w0 k sink pages w2 c mid) (sym through.2) at_world in
    let none : unread w2.files ≡ [] = subst (λ (w : World). unread w.files ≡ []) (sym through.1) through.0 in
    Gathers.through pages (subst (λ (s : Option (List ℕ)). PagesGathered w0 k sink pages w2 n s)
    (sym through.3) at_count) none refl)

pub gathers-stops : (pages : ℕ) (a b c : Holdings) (f g h : Telling) (k m n : ℕ) (sink mid sunk : Option (List ℕ))
    (line : Result Bool SessionFault) → line ≢ Ok false
    → Joined (λ old new. PagesGathered old k sink pages new m mid) a b f g
    → Joined (λ old new. Turning gathering old new m n mid sunk line) b c g h
    → Joined (λ old new. Gathers old new k n sink sunk line) a c f h
gathers-stops pages a b c f g h k m n sink mid sunk line other =
    Joined-then (λ old new. PagesGathered old k sink pages new m mid)
    (λ old new. Turning gathering old new m n mid sunk line) (λ old new. Gathers old new k n sink sunk line) a b c f
    g h
    (λ (w0 : World) (w1 : World) (w2 : World) gathered turns. Gathers.stops pages w1 m mid gathered other turns)

pub gathers-full : (pages : ℕ) (a b c : Holdings) (f g h : Telling) (k m n : ℕ) (sink mid sunk : Option (List ℕ))
    (line : Result Bool SessionFault) → pages ≡ PAGES
    → Joined (λ old new. PagesGathered old k sink pages new m mid) a b f g
    → Joined (λ old new. TooMany old new m n mid sunk line) b c g h
    → Joined (λ old new. Gathers old new k n sink sunk line) a c f h
gathers-full pages a b c f g h k m n sink mid sunk line all =
    Joined-then (λ old new. PagesGathered old k sink pages new m mid) (λ old new. TooMany old new m n mid sunk line)
    (λ old new. Gathers old new k n sink sunk line) a b c f g h
    (λ (w0 : World) (w1 : World) (w2 : World) gathered many. Gathers.full w1 m mid
    (subst (λ (p : ℕ). PagesGathered w0 k sink p w1 m mid) all gathered) many)

pub gathers-more : (pages : ℕ) (a b c : Holdings) (f g h : Telling) (k m n : ℕ) (sink mid sunk : Option (List ℕ))
    → Joined (λ old new. PagesGathered old k sink pages new m mid) a b f g
    → Joined (λ old new. Turning gathering old new m n mid sunk (Ok false)) b c g h
    → Joined (λ old new. PagesGathered old k sink (pages + 1) new n sunk) a c f h
gathers-more pages a b c f g h k m n sink mid sunk =
    Joined-then (λ old new. PagesGathered old k sink pages new m mid)
    (λ old new. Turning gathering old new m n mid sunk (Ok false))
    (λ old new. PagesGathered old k sink (pages + 1) new n sunk) a b c f g h
    (λ (w0 : World) (w1 : World) (w2 : World) gathered turns. PagesGathered.one_more pages w1 w2 m n mid sunk gathered
    turns)

-- ---- behind command strings
module _ (Front : Course) (More : EditCourse) where
  pub behind-stops : (a b : Holdings) (f g : Telling) (k m : ℕ) (sink sunk : Option (List ℕ))
      (line : Result Bool SessionFault) (result : Result Edited SessionFault) → line ≢ Ok false
      → EndsWith nothing_done line result → Joined (λ old new. Front old new k m sink sunk line) a b f g
      → Joined (λ old new. Behind Front More old new k m sink sunk result) a b f g
  behind-stops a b f g k m sink sunk line result other ends =
      Joined-on (λ old new. Front old new k m sink sunk line)
      (λ old new. Behind Front More old new k m sink sunk result) a b f g
      (λ (old : World) (new : World) first. Behind.stops line other first ends)

  pub behind-goes_on : (a b c : Holdings) (f g h : Telling) (k m n : ℕ) (sink mid sunk : Option (List ℕ))
      (result : Result Edited SessionFault) → Joined (λ old new. Front old new k m sink mid (Ok false)) a b f g
      → Joined (λ old new. More old new m n mid sunk result) b c g h
      → Joined (λ old new. Behind Front More old new k n sink sunk result) a c f h
  behind-goes_on a b c f g h k m n sink mid sunk result =
      Joined-then (λ old new. Front old new k m sink mid (Ok false)) (λ old new. More old new m n mid sunk result)
      (λ old new. Behind Front More old new k n sink sunk result) a b c f g h
      (λ (w0 : World) (w1 : World) (w2 : World) first more. Behind.goes_on w1 m mid first more)

-- ---- the whole
-- writing is the only fault of an edit
abbrev pub IsWriting : EditCourse → Type 0
IsWriting course = (old new : World) (f g : ℕ) (sink sunk : Option (List ℕ)) (cannot : SessionFault)
    → course old new f g sink sunk (Err cannot) → cannot ≡ fault.Write

abbrev pub IsWritingLine : Course → Type 0
IsWritingLine course = (old new : World) (f g : ℕ) (sink sunk : Option (List ℕ)) (cannot : SessionFault)
    → course old new f g sink sunk (Err cannot) → cannot ≡ fault.Write

-- of the command string that it ends with
of_line : (done : Tally) (line : Result Bool SessionFault) (cannot : SessionFault) → EndsWith done line (Err cannot)
    → ((other : SessionFault) → line ≡ Err other → other ≡ fault.Write) → cannot ≡ fault.Write
of_line done (Ok coded) cannot ends other = cc
of_line done (Err x) cannot ends other = let same : cannot ≡ x = cc in same ∙ other x refl

writing_line : (Front : Course) → IsWritingLine Front
    → (done : Tally) (old new : World) (f g : ℕ) (sink sunk : Option (List ℕ)) (line : Result Bool SessionFault)
    (cannot : SessionFault) → EndsWith done line (Err cannot) → Front old new f g sink sunk line → cannot ≡ fault.Write
writing_line Front only done old new f g sink sunk line cannot ends first =
    of_line done line cannot ends (λ (other : SessionFault) is. only old new f g sink sunk other
    (subst (λ (l : Result Bool SessionFault). Front old new f g sink sunk l) is first))

text_writing : (text : List ℕ) → IsWritingLine (AnswersText text)
text_writing text old new f g sink sunk cannot answers = answers.writes.0

turning_writing : (text : List ℕ) → IsWritingLine (Turning text)
turning_writing text old new f g sink sunk cannot (inl more) = more.answers.writes.0
turning_writing text old new f g sink sunk cannot (inr untold) = untold.writes.0

many_writing : IsWritingLine TooMany
many_writing old new f g sink sunk cannot many = many.writes.0

gathers_writing : IsWritingLine Gathers
gathers_writing old new f g sink sunk cannot (Gathers.through pages gathered none same) = cc
gathers_writing old new f g sink sunk cannot (Gathers.stops pages mid count written gathered other turns) =
    turning_writing gathering mid new count g written sunk cannot turns
gathers_writing old new f g sink sunk cannot (Gathers.full mid count written gathered many) =
    many_writing mid new count g written sunk cannot many

-- of the macro
ends_by : (order : Order) (done : Tally) (old new : World) (f g : ℕ) (sink sunk : Option (List ℕ))
    (answer : Result Ran SessionFault) (cannot : SessionFault) → RunsAdmitted order old new f g sink sunk answer
    → EndsInMacro done answer (Err cannot) → cannot ≡ fault.Write
ends_by order done old new f g sink sunk (Ok (ran.On steps)) cannot runs ends = absurd ends
ends_by order done old new f g sink sunk (Ok ran.Coded) cannot runs ends = cc
ends_by order done old new f g sink sunk (Ok ran.Refused) cannot runs ends = cc
ends_by order done old new f g sink sunk (Err x) cannot runs ends = let same : cannot ≡ x = cc in same ∙ runs.writes.0

macro_writing : (order : Order) (done : Tally) (More : Tally → EditCourse) → ((t : Tally) → IsWriting (More t))
    → IsWriting (BehindMacro order done More)
macro_writing order done More only old new f g sink sunk cannot (BehindMacro.stops answer runs ends) =
    ends_by order done old new f g sink sunk answer cannot runs ends
macro_writing order done More only old new f g sink sunk cannot
    (BehindMacro.goes_on steps mid count written runs more) =
    only (tally_after steps done) mid new count g written sunk cannot more

closing_writing : (done : Tally) → IsWriting (Closing done)
closing_writing done old new f g sink sunk cannot closed =
    writing_line (AnswersText closing) (text_writing closing) done old new f g sink sunk closed.line cannot closed.told
    closed.closes

page_writing : (done : Tally) → IsWriting (BehindPage done)
page_writing done old new f g sink sunk cannot (BehindPage.closes none closed) =
    closing_writing done old new f g sink sunk cannot closed
page_writing done old new f g sink sunk cannot (BehindPage.stops line other turns ends) =
    writing_line (Turning turning) (turning_writing turning) done old new f g sink sunk line cannot ends turns

each_writing : (order : Order) → IsWriting (EachPage order)
each_writing order old new f g sink sunk cannot (EachPage.ends done mid count written before more) =
    macro_writing order done BehindPage page_writing mid new count g written sunk cannot more
each_writing order old new f g sink sunk cannot (EachPage.full done mid count written line before all many ends) =
    writing_line TooMany many_writing done mid new count g written sunk line cannot ends many

behind_writing : (Front : Course) (More : EditCourse) → IsWritingLine Front → IsWriting More
    → IsWriting (Behind Front More)
behind_writing Front More first more old new f g sink sunk cannot (Behind.stops line other answers ends) =
    writing_line Front first nothing_done old new f g sink sunk line cannot ends answers
behind_writing Front More first more old new f g sink sunk cannot (Behind.goes_on mid count written answers rest) =
    more mid new count g written sunk cannot rest

pages_writing : (pages : PageChoice) (order : Order) → IsWriting (EditsPages pages order)
pages_writing First order = macro_writing order nothing_done Closing closing_writing
pages_writing Each order = each_writing order
pages_writing Whole order = behind_writing Gathers _ gathers_writing
    (behind_writing (AnswersText to_start) (Once order) (text_writing to_start)
    (macro_writing order nothing_done Closing closing_writing))

text_edits_writing : (pages : PageChoice) (order : Order) (text : List ℕ) → IsWriting (EditsText pages order text)
text_edits_writing pages order text = behind_writing (AnswersText text) (EditsPages pages order) (text_writing text)
    (pages_writing pages order)

both_false : (b c : Bool) → (not b && not c) ≡ true → (b ≡ false) × (c ≡ false)
both_false true c plain = cc
both_false false true plain = cc
both_false false false plain = (refl, refl)

opens : (source target : List ℕ) (old : World) → OpensBoth source target old
opens source target old new f g sink sunk plain answers =
    let names = both_false (has_esc source) (has_esc target) plain in
    leaves_open source target names.0 names.1 old new f g sink sunk answers

file_edited : (pages : PageChoice) (order : Order) (source target : List ℕ) (old edited new : World) (f m g : ℕ)
    (sink sunk : Option (List ℕ)) (result : Result Edited SessionFault)
    → EditsText pages order (opening source target) old edited f m sink sunk result
    → DropsIfCoded (is_dropped result) edited new m g
    → FileEdited pages order source target old new f g sink sunk result
file_edited pages order source target old edited new f m g sink sunk (Ok e) edits drops =
    record { edited = edited; count = m; edits = edits; opens = opens source target old; drops = drops }
file_edited pages order source target old edited new f m g sink sunk (Err fault.Write) edits drops =
    record { edited = edited; count = m; edits = edits; opens = opens source target old; drops = drops }
file_edited pages order source target old edited new f m g sink sunk (Err fault.Memory) edits drops =
    let no : fault.Memory ≡ fault.Write =
    text_edits_writing pages order (opening source target) old edited f m sink sunk fault.Memory edits in cc
file_edited pages order source target old edited new f m g sink sunk (Err fault.Argument) edits drops =
    let no : fault.Argument ≡ fault.Write =
    text_edits_writing pages order (opening source target) old edited f m sink sunk fault.Argument edits in cc
file_edited pages order source target old edited new f m g sink sunk (Err fault.Read) edits drops =
    let no : fault.Read ≡ fault.Write =
    text_edits_writing pages order (opening source target) old edited f m sink sunk fault.Read edits in cc

pub Joined-file : (pages : PageChoice) (order : Order) (source target : List ℕ) (a b c : Holdings) (f g h : Telling)
    (k m n : ℕ) (sink sunk : Option (List ℕ)) (line : Result Bool SessionFault) (result : Result Edited SessionFault)
    → line ≡ is_dropped result → Joined
    (λ old new. EditsText pages order (opening source target) old new k m sink sunk result) a b f g
    → Joined (λ old new. DropsIfCoded line old new m n) b c g h
    → Joined (λ old new. FileEdited pages order source target old new k n sink sunk result) a c f h
Joined-file pages order source target a b c f g h k m n sink sunk line result is =
    Joined-then (λ old new. EditsText pages order (opening source target) old new k m sink sunk result)
    (λ old new. DropsIfCoded line old new m n)
    (λ old new. FileEdited pages order source target old new k n sink sunk result) a b c f g h
    (λ (w0 : World) (w1 : World) (w2 : World) edits drops. file_edited pages order source target w0 w1 w2 k m n sink
    sunk result edits (subst (λ (l : Result Bool SessionFault). DropsIfCoded l w1 w2 m n) is drops))
