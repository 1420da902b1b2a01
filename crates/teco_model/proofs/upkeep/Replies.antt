-- What each element answers is upheld, and so is what each step comes to.
use Rattle.teco_model.proofs.Prelude.{◌≡◌, ℕ, zero, suc, arith, refl, ap, subst, sym, ℤ, pos, ◌+ℤ◌, List, [], ◌∷◌}
use Rattle.teco_model.proofs.Prelude.{Option, Some, None, IfSome, Result, Ok, Err, IfOk, Bool, true, false, cond}
use Rattle.teco_model.proofs.Prelude.{AllByRecursion, ⊤, ints, Code, Arguments, standing_value, levels_after_taking}
use Rattle.teco_model.proofs.Prelude.{levels_after_answer, ◌>>=◌, Effect, Element, is_of_files, Looked, Met}
use Rattle.teco_model.proofs.Prelude.{Turned, Through, Finding, Found, Missed, Kept, World, Frame, step, IsOfStep}
use Rattle.teco_model.proofs.Prelude.{Upkeep, IsUpheld, AreBytes, IsOfBytes, Loop, Command, Kind, Query, Search}
use Rattle.teco_base.specs.declared.code.Code.TheVariants as code
use Rattle.teco_model.proofs.Bytes.{code_fits}
use Rattle.teco_model.proofs.Coded.{Coded, Yields, element_at, yields_then, yields_any}
use Rattle.teco_model.proofs.Reading.{element_bytes}
use Rattle.teco_model.proofs.upkeep.Edits.{Ground, Upheld, Leaves, IsUpheldEffect, moved, typed}
use Rattle.teco_model.proofs.upkeep.Levels.{FitsIfSome, AreArguments, given, leveled, levels_fit, value_fits}
use Rattle.teco_model.proofs.upkeep.Levels.{taking_fits, answer_fits, standing_fits}
use Rattle.teco_model.proofs.upkeep.Pages.{Works, IsProgress, yanked, append_works, turned, paged, through, one_page}
use Rattle.teco_model.proofs.upkeep.Pages.{pages_work, output_coded, opened, opened_output, output_closed, abandoned}
use Rattle.teco_model.proofs.upkeep.Pages.{copied, exited}
use Rattle.teco_model.proofs.upkeep.Registers.{text_bytes, command_does, query_with_does}
use Rattle.teco_model.proofs.upkeep.Registers.{query_gives, stack_does}
use Rattle.teco_model.proofs.upkeep.Searches.{IsUpheldFinding, IsUpheldLooked, searched, looked_for, first_looked}
use Rattle.teco_model.proofs.upkeep.Turns.{IsUpheldTurn, IsUpheldMiss, after_taking, turn_does, miss_upheld}
use Rattle.teco_model.specs.Character.{character}
use Rattle.teco_model.specs.Element as reading
use Rattle.teco_model.specs.Filing as filing
use Rattle.teco_model.specs.Going as going
use Rattle.teco_model.specs.Going.{After, Course, Behind, Again, Along, Into, Refused, Reply, on_editor, settled}
use Rattle.teco_model.specs.Going.{settle}
use Rattle.teco_model.specs.Outside as outside
use Rattle.teco_model.specs.Paging as paging
use Rattle.teco_model.specs.Search as search_text
use Rattle.teco_model.specs.Searching as searching
use Rattle.teco_model.specs.State.{Frames, State, Outcome, Next, End, Exit, Fail, Absent}
use Rattle.teco_model.specs.Step as steps
use Rattle.teco_model.specs.laws.StepCodes.{StepsTellTheirCodes}
use Rattle.teco_model.specs.laws.Upkeep.{Survives, Upholds}
use Rattle.teco_model.specs.laws.Whole.{AreWholeFrames, IsWholeState, IsWholeOutcome}
use Rattle.teco_model.specs.declared.kind.File.{File}
use Rattle.teco_model.specs.declared.kind.File.TheVariants as file
use Rattle.teco_model.specs.declared.kind.Kind.TheVariants as kind
use Rattle.teco_model.specs.declared.kind.Page.{Page}
use Rattle.teco_model.specs.declared.kind.Page.TheVariants as page
use Rattle.teco_model.specs.declared.kind.Search.TheVariants as search_kind

-- what is kept and pending behind an element that works on the editor alone
pub record IsUpheldAfter (g : Ground) (before : World) (done : After) : Type 0 where
  pub kept : Leaves g before done.kept
  pub arguments : AreArguments g.assumed done.arguments

-- where a run goes on: in texts of bytes, or with a code that a step may be
abbrev pub IsUpheldCourse : Ground → Course → Type 0
IsUpheldCourse g (Along frame) = g.assumed → AreBytes frame.text
IsUpheldCourse g (Into text) = g.assumed → AreBytes text
IsUpheldCourse g (Refused c) = IsOfStep c
IsUpheldCourse g course = ⊤

pub record IsUpheldReply (g : Ground) (reply : Reply) : Type 0 where
  pub world : Upheld g reply.world
  pub arguments : AreArguments g.assumed reply.arguments
  pub course : IsUpheldCourse g reply.course

module _ (g : Ground) (s : State) (h : g.assumed → IsWholeState s) (u : Upheld g s.world) where
  abbrev Replies : Result Reply Code → Type 0
  Replies r = Yields (IsUpheldReply g) r

  abbrev Behinds : Result After Code → Type 0
  Behinds r = Yields (IsUpheldAfter g s.world) r

  pending : AreArguments g.assumed s.arguments
  pending a = (h a).arguments

  behind : (r : Result After Code) → Behinds r → Replies (on_editor s.left s.world r)
  behind r i = yields_then (IsUpheldAfter g s.world) (IsUpheldReply g) r _ i
      (λ done d. record { world = d.kept; arguments = d.arguments; course = tt })

  effect_after : (r : Result Effect Code) → Yields (IsUpheldEffect g s.world) r
      → Behinds (r >>= λ effect. Ok (record {
        kept = effect.kept;
        arguments = levels_after_answer effect.answer (levels_after_taking s.arguments);
      }))
  effect_after r i = yields_then (IsUpheldEffect g s.world) (IsUpheldAfter g s.world) r _ i (λ effect d. record {
    kept = d.kept;
    arguments = answer_fits g.assumed effect.answer _ d.answer (taking_fits g.assumed s.arguments pending);
  })

  levels_after : (kept : Kept) → Leaves g s.world kept → (r : Result Arguments Code)
      → Yields (AreArguments g.assumed) r
      → Behinds (r >>= λ levels. Ok (record { kept = kept; arguments = levels }))
  levels_after kept k r i = yields_then (AreArguments g.assumed) (IsUpheldAfter g s.world) r _ i
      (λ levels a. record { kept = k; arguments = a })

  query_after : (q : Query) (colons : ℕ) (o : Option ℤ) → g.kind ≡ kind.Query q → FitsIfSome g.assumed o
      → Behinds (steps.after_query_with q colons o s.world.kept s.arguments)
  query_after q colons None is f = let i = query_gives g s.world u q colons in
      levels_after _ i.kept _ (leveled g.assumed s.arguments _ pending
      (given g.assumed _ s.arguments.level i.value (λ a. (h a).arguments.level)))
  query_after q colons (Some n) is f = effect_after _ (query_with_does g s.world u q n is f)

  taken_if : (x : Bool) → FitsIfSome g.assumed (cond x (standing_value s.arguments.level) None)
  taken_if true = standing_fits g.assumed s.arguments.level (λ a. (h a).arguments.level)
  taken_if false = λ a. tt

  -- ---- pages and files
  module _ (arguments : Arguments) (a : AreArguments g.assumed arguments) where
    onward : (left : Option ℕ) (r : Result World Code) → Works g r
        → Replies (outside.going_on left arguments r)
    onward left r i = yields_then (Upheld g) (IsUpheldReply g) r _ i
        (λ world w. record { world = w; arguments = a; course = tt })

    opened_reply : (o : Option World) → IfSome o (Upheld g)
        → IsUpheldReply g (outside.opened s.left arguments s.world o)
    opened_reply None i = record { world = u; arguments = a; course = tt }
    opened_reply (Some world) i = record { world = i; arguments = a; course = tt }

    filed_replies : (f : File) (name : List ℕ) → is_of_files g.kind ≡ true
        → Replies (outside.filed f name s.left arguments s.world)
    filed_replies file.Read name is =
        yields_then (λ o. IfSome o (Upheld g)) (IsUpheldReply g) (filing.open_input name s.world) _
        (opened g s.world u is name) opened_reply
    filed_replies file.Write name is = onward s.left _ (opened_output g s.world u is name)
    filed_replies file.Close name is = onward s.left _ (output_closed g s.world u is)
    filed_replies file.Abandon name is =
        record { world = abandoned g s.world u is; arguments = a; course = tt }
    filed_replies file.Copy name is = onward s.left _ (copied g s.world u is)
    filed_replies file.Exit name is = record { world = exited g s.world u is; arguments = a; course = tt }

    in_pages : (r : Result paging.Progress Code) → Yields (IsProgress g) r → Replies (outside.in_pages arguments r)
    in_pages r i = yields_then (IsProgress g) (IsUpheldReply g) r _ i
        (λ done d. by done.world d done.left) where
          by : (world : World) → Upheld g world → (left : ℕ)
              → IsUpheldReply g (outside.while_left left arguments world)
          by world w zero = record { world = w; arguments = a; course = tt }
          by world w (suc n) = record { world = w; arguments = a; course = tt }

    append_replies : (o : Option ℤ) → Replies (outside.append_reply o s.left arguments s.world)
    append_replies None = onward s.left _ (append_works g s.world u)
    append_replies (Some n) = record {
      world = u;
      arguments = answer_fits g.assumed (Some (character n s.world.kept)) _
          (λ b. code_fits s.world.kept.text (u.whole b).kept.bytes (pos s.world.kept.pointer +ℤ n)) a;
      course = tt;
    }

  pages_reply : (one : World → Result World Code) → Works g (one s.world) → (left : Option ℕ)
      → Replies (outside.pages_reply one left s.arguments s.world)
  pages_reply one i None = after_taking g.assumed (IsUpheldReply g) s.arguments _ pending
      (λ taken t a. in_pages _ a _ (yields_any (IsProgress g) _ _ (output_coded s.world)
      (λ output. pages_work g s.world u one i taken.first taken.value)))
  pages_reply one i (Some n) = in_pages s.arguments pending _ (one_page g s.world u one i n)

  page_replies : (p : Page) → Replies (outside.page_reply p s.left s.arguments s.world)
  page_replies page.Yank = after_taking g.assumed (IsUpheldReply g) s.arguments _ pending
      (λ taken t a. onward _ a s.left _ (yanked g s.world u))
  page_replies page.Append = after_taking g.assumed (IsUpheldReply g) s.arguments _ pending
      (λ taken t a. append_replies _ a taken.value)
  page_replies page.Next = pages_reply paging.page_turned (turned g s.world u) s.left
  page_replies page.Write = pages_reply paging.page_written (paged g s.world u) s.left

  -- ---- searches
  met_answer : (miss : searching.Miss) → FitsIfSome g.assumed (searching.answer_by miss)
  met_answer searching.Answers = λ a. omega (arith, ints)
  met_answer miss = λ a. tt

  at_miss : (colons : ℕ) (kept : Kept) → Leaves g s.world kept
      → Leaves g s.world (searching.kept_by_miss colons kept)
  at_miss zero kept k = moved g _ k 0 (λ w. omega arith)
  at_miss (suc zero) kept k = moved g _ k 0 (λ w. omega arith)
  at_miss (suc (suc colons)) kept k = k

  module _ (e : Element) (b : g.assumed → IsOfBytes e) (miss : searching.Miss) (m : IsUpheldMiss g.assumed miss) where
    module _ (arguments : Arguments) (a : AreArguments g.assumed arguments) where
      missed : (miss : searching.Miss) → IsUpheldMiss g.assumed miss → (left : Option ℕ) (before now : World)
          → Upheld g before → Upheld g now → IsUpheldReply g (searching.missed miss left arguments before now)
      missed searching.Answers m left before now v w = record {
        world = w;
        arguments = answer_fits g.assumed (Some (pos 0)) arguments (λ c. omega (arith, ints)) a;
        course = tt;
      }
      missed (searching.Leaves turn) m left before now v w =
          record { world = typed g now w _; arguments = m.arguments; course = m.text }
      missed searching.Unended m left before now v w = record { world = v; arguments = a; course = tt }
      missed searching.Fails m left before now v w = record { world = w; arguments = a; course = tt }

      met : (left : Option ℕ) (world : World) → Upheld g world
          → IsUpheldReply g (searching.met miss left arguments world)
      met left world w = record {
        world = w;
        arguments = answer_fits g.assumed (searching.answer_by miss) arguments (met_answer miss) a;
        course = tt;
      }

      found : (finding : Finding) → IsUpheldFinding g s.world finding
          → IsUpheldReply g (searching.found e miss s.left arguments s.world finding)
      found (Found kept) k = met s.left _ k
      found (Missed kept) k = missed miss m s.left _ _ k (at_miss e.colons kept k)

      looked : (look : Looked) → IsUpheldLooked g look → IsUpheldReply g (searching.looked miss arguments look)
      looked (Met world) w = met None world w
      looked (Turned n world) w = record { world = w; arguments = a; course = tt }
      looked (Through world) w = missed miss m None world _ w (through g world w)

    in_buffer : (x : Search) → Replies (searching.found_in_buffer x e miss s.left s.arguments s.world)
    in_buffer x = after_taking g.assumed (IsUpheldReply g) s.arguments _ pending
        (λ taken t a. yields_then (IsUpheldFinding g s.world) (IsUpheldReply g)
        (search_text.search x e taken s.world.kept) _ (searched g x e b taken s.world u) (found _ a))

    in_pages_found : (x : Search) (left : Option ℕ)
        → Replies (searching.found_in_pages x e miss left s.arguments s.world)
    in_pages_found x None = after_taking g.assumed (IsUpheldReply g) s.arguments _ pending
        (λ taken t a. yields_then (IsUpheldLooked g) (IsUpheldReply g) (paging.look_first x e taken s.world) _
        (first_looked g x e b taken s.world u) (looked _ a))
    in_pages_found x (Some n) = yields_then (IsUpheldLooked g) (IsUpheldReply g) (paging.look_for x e n s.world) _
        (looked_for g x e b n s.world u) (looked s.arguments pending)

    search_replies : (x : Search) → Replies (searching.search_reply x e miss s.left s.arguments s.world)
    search_replies search_kind.Find = in_buffer search_kind.Find
    search_replies search_kind.Replace = in_buffer search_kind.Replace
    search_replies search_kind.FindInPages = in_pages_found search_kind.FindInPages s.left
    search_replies search_kind.ReplaceInPages = in_pages_found search_kind.ReplaceInPages s.left

  -- ---- all elements
  module _ (e : Element) (b : g.assumed → IsOfBytes e) where
    command_after : (c : Command) → g.kind ≡ kind.Command c
        → Behinds (steps.after_command c e s.world.kept s.arguments)
    command_after c is = after_taking g.assumed (IsUpheldAfter g s.world) s.arguments _ pending
        (λ taken t a. effect_after (steps.execution c e taken s.world.kept)
        (command_does g s.world u c e taken is (λ h. (b h).text) t))

    pub replies_keep : (k : Kind) → g.kind ≡ k → Replies (steps.reply_of k e s)
    unfolding steps.reply_of
    replies_keep (kind.Argument a) is =
        behind _ (levels_after s.world.kept u _ (levels_fit g.assumed a e.text s.arguments pending))
    replies_keep (kind.Value v) is = behind _ (levels_after s.world.kept u _
        (leveled g.assumed s.arguments _ pending
        (value_fits g.assumed v s.world.kept s.arguments.level (λ a. (u.whole a).kept) (λ a. (h a).arguments.level))))
    replies_keep (kind.Query q) is =
        behind _ (query_after q e.colons _ is (taken_if (steps.takes q e.colons)))
    replies_keep (kind.Stack k) is = behind _ (yields_then (Leaves g s.world) (IsUpheldAfter g s.world) _ _
        (stack_does g s.world u k is) (λ changed c. record { kept = c; arguments = pending }))
    replies_keep (kind.Call c) is =
        record { world = u; arguments = pending; course = text_bytes g s.world u c.register }
    replies_keep (kind.Flow f) is = yields_then (IsUpheldTurn g.assumed) (IsUpheldReply g) _ _
        (turn_does g.assumed e s.frames.running (λ a. (h a).frames.running) f s.arguments pending)
        (λ turn t. record { world = u; arguments = t.arguments; course = t.text })
    replies_keep (kind.Command c) is = behind _ (command_after c is)
    replies_keep (kind.Page p) is = page_replies p
    replies_keep (kind.Search x) is = search_replies e b _
        (miss_upheld g.assumed e s.frames.running (λ a. (h a).frames.running)
        (searching.has_colon e s.frames.running)) x
    replies_keep (kind.File f) is = after_taking g.assumed (IsUpheldReply g) s.arguments _ pending
        (λ taken t a. filed_replies _ a f e.text (ap is_of_files is))

-- ---- steps
code_in : (callers : List Frame) (c : Code) → IsOfStep c → IsOfStep (going.code_in callers c)
code_in [] c i = i
code_in (caller ∷ callers) code.Utc i = tt
code_in (caller ∷ callers) c i = i

module _ (s : State) (P : World → Type 0) (p : P s.world) where
  abbrev Comes : Outcome → Type 0
  Comes outcome = Upholds (IsWholeState s) P outcome

  itself : IsUpheld (IsWholeState s) P s.world
  itself = record { whole = λ h. h.world; kept = p }

  failed : (c : Code) → IsOfStep c → Comes (going.failure c s)
  failed c i = (code_in s.frames.callers c i, itself)

  returned : (callers : List Frame)
      → (IsWholeState s → AllByRecursion (λ (frame : Frame). AreBytes frame.text) callers)
      → Comes (steps.end_outcome callers s)
  returned [] i = itself
  returned (caller ∷ callers) i = (
    λ h. record {
      world = h.world;
      arguments = h.arguments;
      frames = record { running = (i h).0; callers = (i h).1 };
    },
    p,
  )

  text_ended : (loops : List Loop) → Comes (steps.end_of_text loops s)
  text_ended [] = returned s.frames.callers (λ h. h.frames.callers)
  text_ended (loop ∷ outer) = failed code.Utc tt

  module _ (e : Element) (u : Upkeep e.kind P) where
    abbrev ground : Ground
    ground = record { kind = e.kind; assumed = IsWholeState s; property = P; upkeep = u }

    goes_on : (reply : Reply) (frames : Frames) → Upheld ground reply.world
        → AreArguments (IsWholeState s) reply.arguments → (IsWholeState s → AreWholeFrames frames)
        → Comes (going.next_in frames reply)
    goes_on reply frames w a f = (λ h. record { world = w.whole h; arguments = a h; frames = f h }, w.kept)

    settled_comes : (reply : Reply) (course : Course) → Upheld ground reply.world
        → AreArguments (IsWholeState s) reply.arguments → IsUpheldCourse ground course
        → Comes (settled e s.frames reply course)
    settled_comes reply Behind w a c =
        goes_on reply _ w a (λ h. record { running = h.frames.running; callers = h.frames.callers })
    settled_comes reply Again w a c = goes_on reply _ w a (λ h. h.frames)
    settled_comes reply (Along frame) w a c =
        goes_on reply _ w a (λ h. record { running = c h; callers = h.frames.callers })
    settled_comes reply (Into text) w a c =
        goes_on reply _ w a (λ h. record { running = c h; callers = (h.frames.running, h.frames.callers) })
    settled_comes reply (Refused c) w a i = (code_in s.frames.callers c i, w)
    settled_comes reply course w a c = w

    settle_comes : (r : Result Reply Code) → Yields (IsUpheldReply ground) r → Comes (settle e s r)
    settle_comes (Err c) i = failed c i
    settle_comes (Ok reply) i = settled_comes reply reply.course i.world i.arguments i.course

  -- what is read at the place is of bytes, as the text
  outcome_comes : (read : Result (Option Element) Code) → Coded read
      → (IsWholeState s → IfOk read (λ o. IfSome o IsOfBytes)) → Survives P read → Comes (steps.outcome_at s read)
  outcome_comes (Err c) i b u = failed c i
  outcome_comes (Ok None) i b u = text_ended s.frames.running.loops
  outcome_comes (Ok (Some e)) i b u = settle_comes e u _ (replies_keep (ground e u) s (λ h. h) itself e b e.kind refl)

  pub step_upholds : Survives P (reading.element_at s.frames.running.text s.frames.running.place) → Comes (step s)
  unfolding step
  step_upholds u = outcome_comes _ (element_at s.frames.running.text s.frames.running.place)
      (λ h. element_bytes s.frames.running.text s.frames.running.place h.frames.running) u

-- what an element keeps is kept by the step to a next state
pub kept_by_step : (s t : State) (P : World → Type 0) (read : Option Element)
    → reading.element_at s.frames.running.text s.frames.running.place ≡ Ok read → Survives P (Ok read) → P s.world
    → step s ≡ Next t → P t.world
kept_by_step s t P read reads survives p goes =
    (subst (Upholds (IsWholeState s) P) goes (step_upholds s P p (subst (Survives P) (sym reads) survives))).1

-- ---- codes, and what is whole
always : (k : Kind) → Upkeep k (λ world. ⊤)
always k = record {
  edited = λ old new registers mode files p. tt;
  numbered = λ world r n names p. tt;
  paired = λ world r pair names writes p. tt;
  stacked = λ world stack is p. tt;
  moded = λ world mode sets p. tt;
  read = λ world p. tt;
  written = λ world bytes p. tt;
  filed = λ old new files registers mode p. tt;
}

step_is_upheld : (s : State) → Upholds (IsWholeState s) (λ world. ⊤) (step s)
step_is_upheld s =
    step_upholds s (λ world. ⊤) tt (by (reading.element_at s.frames.running.text s.frames.running.place))
  where
    by : (read : Result (Option Element) Code) → Survives (λ world. ⊤) read
    by (Ok (Some e)) = always e.kind
    by read = tt

pub codes_of_steps : StepsTellTheirCodes
codes_of_steps s c new is = (subst (Upholds (IsWholeState s) (λ world. ⊤)) is (step_is_upheld s)).0

pub step_whole : (s : State) → IsWholeState s → IsWholeOutcome (step s)
step_whole s h = by (step s) (step_is_upheld s)
  where
    by : (outcome : Outcome) → Upholds (IsWholeState s) (λ world. ⊤) outcome → IsWholeOutcome outcome
    by (Next t) u = u.0 h
    by (End world) u = u.whole h
    by (Exit world) u = u.whole h
    by (Fail c world) u = u.1.whole h
    by (Absent world) u = u.whole h
