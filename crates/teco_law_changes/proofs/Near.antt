-- What is known near the pointer before an element is so behind it, by the way that the step goes.
use Rattle.std.proofs.Common.{◌≡◌, ◌≢◌, ℕ, ℤ, pos, negsuc, neg_ℤ, zero, suc, ◌+◌, List, [], ◌∷◌, ◌++◌, length, refl}
use Rattle.std.proofs.Common.{sym, ap}
use Rattle.std.proofs.Common.{◌∙◌, subst, inl, inr, Option, Some, None, Result, Ok, Err, Bool, true, false, not}
use Rattle.std.specs.Prelude.{◌⊎◌, IfOk, ⊤, nat_le}
use Rattle.std.specs.Option.{ok_or}
use Rattle.teco_base.specs.Arithmetic.{byte_of, sub}
use Rattle.teco_base.specs.NumberText.{decimal}
use Rattle.teco_base.specs.Results.{◌>>=◌}
use Rattle.teco_base.specs.Text.{text_after_insertion}
use Rattle.teco_base.specs.declared.TheConstants.{LIMIT}
use Rattle.teco_base.specs.declared.bytes.TheConstants.{TAB}
use Rattle.teco_base.specs.declared.code.Code.{Code}
use Rattle.teco_base.specs.declared.code.Code.TheVariants as code
use Rattle.teco_changes.specs.Nearby as near
use Rattle.teco_changes.specs.Nearby.{Found, HasValue, IsFound, IsNear, IsPending, JustFound, Known, Nearby, Nothing}
use Rattle.teco_changes.specs.Nearby.{Perhaps, Surely, Unreached}
use Rattle.teco_changes.specs.declared.argument.Pending.{Pending}
use Rattle.teco_changes.specs.declared.argument.Pending.TheVariants.{Anything, Empty, Length, Negative, Number, Place}
use Rattle.teco_changes.specs.Arguments.{IsSo}
use Rattle.teco_changes.specs.declared.argument.NumericArgument.{NumericArgument}
use Rattle.teco_changes.specs.declared.argument.NumericArgument.TheVariants as known
use Rattle.teco_law_changes.specs.Steps.{IsKnown, IsKnownNear, IsUnderway, Reads, StepsLeaveNear, colon_in}
use Rattle.teco_law_changes.proofs.Characters.{characters_leave}
use Rattle.teco_law_changes.proofs.Lasts.{near_before}
use Rattle.teco_law_changes.proofs.Numbers.{exact, known_before}
use Rattle.teco_law_changes.proofs.Pending.{LeavesPending, argument_pending, commands_leave, leveled, page_pending}
use Rattle.teco_law_changes.proofs.Pending.{value_pending}
use Rattle.teco_law_changes.proofs.Results.{of_ok, onward, onward_any, onward_made, tested}
use Rattle.teco_law_changes.proofs.Searches.{FoundTold, IsSought, LookTold, first_look_is_told, look_is_told}
use Rattle.teco_law_changes.proofs.Searches.{search_is_told}
use Rattle.teco_law_changes.proofs.Sharper.{HasNumber, exactly_is_number, value_is_number}
use Rattle.teco_law_changes.proofs.Staying.{IsSame, as_it_was, executes, found_same, pending_same, still_found}
use Rattle.teco_law_changes.proofs.Steps.{anything, still_looks}
use Rattle.teco_law_changes.proofs.Taking.{ends_so, taken_is, value_is}
use Rattle.teco_law_runs.specs.Steps.{IsLeftAt, is_long}
use Rattle.teco_law_runs.specs.Turns.{Took, Went}
use Rattle.teco_law_runs.specs.Was.{Answers, ElementWas, Finds, GoesOnFound, GoesOnMissed, OutcomeWas, SearchWas}
use Rattle.teco_law_runs.specs.Was.{StepWas}
use Rattle.teco_law_runs.specs.Was.{Turns, answer_where, finding, levels_searching, looking_on}
use Rattle.teco_model.specs.Arguments.{Arguments, arguments_of, final_value, first_value, level_after_comma, level_with}
use Rattle.teco_model.specs.Arguments.{level_with_operator, level_with_pair, levels_after_answer, levels_after_taking}
use Rattle.teco_model.specs.Arguments.{no_first, run_value, with_level}
use Rattle.teco_model.specs.Condition.{holds, is_negative}
use Rattle.teco_model.specs.Effect.{Effect, needed_value}
use Rattle.teco_model.specs.Deletion.{character_deletion, deletion_of, part_deletion}
use Rattle.teco_model.specs.Element.{Element}
use Rattle.teco_model.specs.Insertion.{insertion_of, insertion_with}
use Rattle.teco_model.specs.Flow.{Turn, leaves, turn_of}
use Rattle.teco_model.specs.Going.{After, Again, Along, Behind, Course, Into, NoFile, Quit, Refused, Reply, on_editor}
use Rattle.teco_model.specs.Going.{next_in, settle, settled}
use Rattle.teco_model.specs.Outside.{append_reply, page_reply}
use Rattle.teco_model.specs.Paging.{Looked, Met, Through, Turned, look_first, look_for, world_seeking}
use Rattle.teco_model.specs.Places.{characters_of, part_named, part_of, place_in}
use Rattle.teco_model.specs.Motion.{motion, motion_to, target}
use Rattle.teco_model.specs.Query.{query, query_with}
use Rattle.teco_model.specs.Registers.{registers_after_pop}
use Rattle.teco_model.specs.Search.{Finding, Missed, search, search_text_of}
use Rattle.teco_model.specs.Search.{Found as Finds_kept}
use Rattle.teco_model.specs.Searching.{has_colon}
use Rattle.teco_model.specs.State.{Frame, Frames, Kept, Next, State, World}
use Rattle.teco_model.specs.Step.{after_query_with, execution, level_with_value, levels_after, outcome_of, value_for}
unfoldable use Rattle.teco_model.specs.Step.{reply_of}
use Rattle.teco_model.specs.Storage.{own_text_storage, retrieval, stack, storage, text_in, text_setting, text_storage}
use Rattle.teco_model.specs.Typing.{typing}
use Rattle.teco_model.specs.declared.arguments.Level.{Level}
use Rattle.teco_model.specs.declared.arguments.Operator.{Operator}
use Rattle.teco_model.specs.declared.arguments.Operator.TheVariants.{Plus, Minus, Times, Over, And, Or}
use Rattle.teco_model.specs.declared.arguments.Taken.{Taken}
use Rattle.teco_model.specs.declared.kind.Argument.{Argument}
use Rattle.teco_model.specs.declared.kind.Argument.TheVariants.{DropAll, Digits, Operate, Open, Close, Comma}
use Rattle.teco_model.specs.declared.kind.Call.{Call}
use Rattle.teco_model.specs.declared.kind.Command.{Command}
use Rattle.teco_model.specs.declared.kind.Command.TheVariants as command
use Rattle.teco_model.specs.declared.kind.Flow.{Flow}
use Rattle.teco_model.specs.declared.kind.Flow.TheVariants as flow
use Rattle.teco_model.specs.declared.kind.Insertion.{Insertion}
use Rattle.teco_model.specs.declared.kind.Insertion.TheVariants as insertion_kind
use Rattle.teco_model.specs.declared.kind.Kind.{Kind}
use Rattle.teco_model.specs.declared.kind.Kind.TheVariants as kind
use Rattle.teco_model.specs.declared.kind.MachineValue.{MachineValue}
use Rattle.teco_model.specs.declared.kind.MachineValue.TheVariants.{Begin, Size, Pointer, Whole, LastLength, LastText}
use Rattle.teco_model.specs.declared.kind.Motion.{Motion}
use Rattle.teco_model.specs.declared.kind.Motion.TheVariants as motion_kind
use Rattle.teco_model.specs.declared.kind.Page.{Page}
use Rattle.teco_model.specs.declared.kind.Page.TheVariants as page
use Rattle.teco_model.specs.declared.kind.Query.{Query}
use Rattle.teco_model.specs.declared.kind.Query.TheVariants as query_kind
use Rattle.teco_model.specs.declared.kind.Search.{Search}
use Rattle.teco_model.specs.declared.kind.Search.TheVariants as search_kind
use Rattle.teco_model.specs.declared.kind.Stack.{Stack}
use Rattle.teco_model.specs.declared.kind.Stack.TheVariants as stack_kind
use Rattle.teco_model.specs.declared.kind.Storage.{Storage}
use Rattle.teco_model.specs.declared.kind.Storage.TheVariants as storage_kind
use Rattle.teco_model.specs.declared.kind.Test.{Test}
use Rattle.teco_model.specs.declared.kind.Test.TheVariants as test
use Rattle.teco_model.specs.declared.kind.Typing.{Typing}
use Rattle.teco_model.specs.declared.kind.Unit.{Unit as Counted}
use Rattle.teco_model.specs.declared.kind.Unit.TheVariants.{Characters, Lines}
use Rattle.teco_model.specs.declared.kind.Typing.TheVariants as typing_kind

-- ---- flow
nonzero_holds : (t : Test) (n : ℤ) → near.is_nonzero_by t zero ≡ true → holds t n ≡ true → n ≢ pos 0
nonzero_holds test.Negative n is h e = absurd (let z = subst (λ n. holds test.Negative n ≡ true) e h in cc)
nonzero_holds test.Positive n is h e = absurd (let z = subst (λ n. holds test.Positive n ≡ true) e h in cc)
nonzero_holds test.NotZero n is h e = absurd (let z = subst (λ n. holds test.NotZero n ≡ true) e h in cc)
nonzero_holds test.Zero n is h e = absurd cc
nonzero_holds test.Letter n is h e = absurd cc
nonzero_holds test.Symbol n is h e = absurd cc
nonzero_holds test.Digit n is h e = absurd cc
nonzero_holds test.LetterOrDigit n is h e = absurd cc
nonzero_holds test.Lower n is h e = absurd cc
nonzero_holds test.Upper n is h e = absurd cc

nonzero_fails : (t : Test) (way : ℕ) (n : ℤ) → near.is_nonzero_by t (suc way) ≡ true → holds t n ≡ false → n ≢ pos 0
nonzero_fails test.Zero way n is h e = absurd (let z = subst (λ n. holds test.Zero n ≡ false) e h in cc)
nonzero_fails test.Negative way n is h e = absurd cc
nonzero_fails test.Positive way n is h e = absurd cc
nonzero_fails test.NotZero way n is h e = absurd cc
nonzero_fails test.Letter way n is h e = absurd cc
nonzero_fails test.Symbol way n is h e = absurd cc
nonzero_fails test.Digit way n is h e = absurd cc
nonzero_fails test.LetterOrDigit way n is h e = absurd cc
nonzero_fails test.Lower way n is h e = absurd cc
nonzero_fails test.Upper way n is h e = absurd cc

nonzero_stays : (colons : ℕ) (n : ℤ) → near.is_nonzero_leaving colons zero ≡ true → leaves colons n ≡ false
    → n ≢ pos 0
nonzero_stays zero n is h e = absurd (let z = subst (λ n. leaves zero n ≡ false) e h in cc)
nonzero_stays (suc colons) n is h e = absurd cc

nonzero_leaves : (colons way : ℕ) (n : ℤ) → near.is_nonzero_leaving colons (suc way) ≡ true → leaves colons n ≡ true
    → n ≢ pos 0
nonzero_leaves zero way n is h e = absurd cc
nonzero_leaves (suc colons) way n is h e = absurd (let z = subst (λ n. leaves (suc colons) n ≡ true) e h in cc)

value_has : (n v : ℤ) (level : Level) (taken : Taken) → HasValue v level → arguments_of level ≡ Ok taken
    → taken.value ≡ Some n → v ≡ n
value_has n v level taken has took is =
    let same : ◌≡◌ {A = Option ℤ} (Some v) (Some n) =
    sym (value_is level taken took (Some v) (ends_so level (Some v) has.0 has.1)) ∙ is in cc

module _ (arguments : Arguments) (kept : Kept) where
  settled_found : (found : Found) (n : ℤ) (after : Level) → n ≢ pos 0 → Took arguments (Some n)
      → IsFound found arguments.level kept → IsFound (near.settled found) after kept
  settled_found Nothing n after some took is = tt
  settled_found (Perhaps wanted) n after some took is =
      is.2 (λ none. some (sym (value_has n is.0 arguments.level took.taken is.1 took.took took.value_is) ∙ none))
  settled_found (Surely wanted) n after some took is = is

  settled_by : (known : Bool) (found : Found) (n : ℤ) (after : Level) → (known ≡ true → n ≢ pos 0)
      → Took arguments (Some n) → IsFound found arguments.level kept
      → IsFound (near.settled_where known found) after kept
  settled_by true found n after some took is = settled_found found n after (some refl) took is
  settled_by false found n after some took is =
      still_found found arguments.level after kept kept (as_it_was kept) is

module _ (s : State) (e : Element) (found : Found) (pending : Pending)
    (is : IsFound found s.arguments.level s.world.kept × IsPending pending s.arguments.level s.world.kept) where
  abbrev Near : Found → Pending → Arguments → Type 0
  Near found pending arguments =
      IsFound found arguments.level s.world.kept × IsPending pending arguments.level s.world.kept

  gone_to : (f : Found) (p : Pending) (turn : Turn) (arguments : Arguments) → turn.arguments ≡ arguments
      → Near f p arguments → Near f p turn.arguments
  gone_to f p turn arguments same near = subst (Near f p) (sym same) near

  emptied : (turn : Turn) (arguments : Arguments) → turn.arguments ≡ arguments
      → (arguments.level.operator ≡ None) × (arguments.level.value ≡ None) → Near (near.still found) Empty
      turn.arguments
  emptied turn arguments same empty =
      gone_to (near.still found) Empty turn arguments same (
        still_found found s.arguments.level arguments.level s.world.kept s.world.kept (as_it_was s.world.kept) is.0,
        empty,
      )

  asked : (known : Bool) (n : ℤ) (turn : Turn) (arguments : Arguments) → turn.arguments ≡ arguments
      → (arguments.level.operator ≡ None) × (arguments.level.value ≡ None) → (known ≡ true → n ≢ pos 0)
      → Took s.arguments (Some n) → Near (near.settled_where known found) Empty turn.arguments
  asked known n turn arguments same empty some took =
      gone_to (near.settled_where known found) Empty turn arguments same
      (settled_by s.arguments s.world.kept known found n arguments.level some took is.0, empty)

  by_flow : (f : Flow) (way : ℕ) (turn : Turn) → Went f way e s.arguments s.frames.running turn
      → Near (near.found_flow f e.colons way found) (near.pending_flow f pending) turn.arguments
  by_flow flow.Iterate zero turn w =
      emptied turn (levels_after_taking s.arguments) (ap (λ t. t.arguments) w.gone) (refl, refl)
  by_flow flow.Iterate (suc zero) turn w =
      emptied turn (levels_after_taking s.arguments) (ap (λ t. t.arguments) w.jumps.gone) (refl, refl)
  by_flow flow.Iterate (suc (suc way)) turn w = absurd w
  by_flow flow.EndTurn zero turn w = emptied turn _ (ap (λ t. t.arguments) w.gone) (refl, refl)
  by_flow flow.EndTurn (suc zero) turn w = emptied turn _ (ap (λ t. t.arguments) w.gone) (refl, refl)
  by_flow flow.EndTurn (suc (suc way)) turn w = absurd w
  by_flow flow.Leave zero turn w =
      asked (near.is_nonzero_leaving e.colons zero) w.n turn (levels_after_taking s.arguments)
      (ap (λ t. t.arguments) w.gone) (refl, refl) (λ known. nonzero_stays e.colons w.n known w.stays) w.took
  by_flow flow.Leave (suc zero) turn w =
      asked (near.is_nonzero_leaving e.colons (suc zero)) w.n turn _ (ap (λ t. t.arguments) w.jumps.gone) (refl, refl)
      (λ known. nonzero_leaves e.colons zero w.n known w.leaves) w.took
  by_flow flow.Leave (suc (suc way)) turn w = absurd w
  by_flow (flow.Test t) zero turn w =
      asked (near.is_nonzero_by t zero) w.n turn (levels_after_taking s.arguments) (ap (λ t. t.arguments) w.gone)
      (refl, refl) (λ known. nonzero_holds t w.n known w.true_here) w.took
  by_flow (flow.Test t) (suc zero) turn w =
      asked (near.is_nonzero_by t (suc zero)) w.n turn (levels_after_taking s.arguments)
      (ap (λ t. t.arguments) w.jumps.gone) (refl, refl) (λ known. nonzero_fails t zero w.n known w.false_here) w.took
  by_flow (flow.Test t) (suc (suc way)) turn w = absurd w
  by_flow flow.Otherwise zero turn w =
      gone_to found pending turn s.arguments (ap (λ t. t.arguments) w.gone) is
  by_flow flow.Otherwise (suc way) turn w = absurd w
  by_flow flow.GoTo zero turn w = emptied turn _ (ap (λ t. t.arguments) w.jumps.gone) (refl, refl)
  by_flow flow.GoTo (suc way) turn w = absurd w
  by_flow flow.EndTest zero turn w = gone_to found pending turn s.arguments (ap (λ t. t.arguments) w) is
  by_flow flow.EndTest (suc way) turn w = absurd w
  by_flow flow.Comment zero turn w = gone_to found pending turn s.arguments (ap (λ t. t.arguments) w) is
  by_flow flow.Comment (suc way) turn w = absurd w
  by_flow (flow.GoAhead g) zero turn w = gone_to found pending turn s.arguments (ap (λ t. t.arguments) w.gone) is
  by_flow (flow.GoAhead g) (suc way) turn w = absurd w

both_ok : (f : Reply → Type 0) (p : Reply → Type 0) (r : Result Reply Code) → IfOk r (λ reply. f reply × ⊤) → IfOk r p
    → IfOk r (λ reply. f reply × p reply)
both_ok f p (Ok reply) first second = (first.0, second)
both_ok f p (Err c) first second = tt

-- flow elements, calls and searches go on elsewhere
abbrev is_short : Kind → Bool
is_short (kind.Call c) = false
is_short (kind.Flow f) = false
is_short (kind.Search x) = false
is_short k = true

next_is : (reply : Reply) (t : State) (frames : Frames) → next_in frames reply ≡ Next t
    → record { world = reply.world; arguments = reply.arguments; frames = frames; left = reply.left } ≡ t
next_is reply t frames goes = cc

-- ---- all elements but flow elements, calls and searches
module _ (s : State) (e : Element) (before : NumericArgument) (found : Found) (pending : Pending)
    (is : IsFound found s.arguments.level s.world.kept × IsPending pending s.arguments.level s.world.kept)
    (so_before : IsSo before s.arguments.level) where
  abbrev Leave : Found → Pending → Arguments → Kept → Type 0
  Leave f p arguments kept = IsFound f arguments.level kept × IsPending p arguments.level kept

  abbrev ReplyLeaves : Found → Pending → Reply → Type 0
  ReplyLeaves f p reply = Leave f p reply.arguments reply.world.kept

  abbrev AfterLeaves : Found → Pending → After → Type 0
  AfterLeaves f p done = Leave f p done.arguments done.kept

  editor : (f : Found) (p : Pending) (r : Result After Code) → IfOk r (AfterLeaves f p)
      → IfOk (on_editor s.left s.world r) (ReplyLeaves f p)
  editor f p r i = onward_made (AfterLeaves f p) (ReplyLeaves f p) r _ i (λ done has. has)

  kept_level : (p : Pending) (r : Result Arguments Code) → IfOk r (λ a. IsPending p a.level s.world.kept)
      → IfOk (r >>= λ levels. Ok (record { kept = s.world.kept; arguments = levels }))
      (AfterLeaves (near.still found) p)
  kept_level p r i =
      onward (λ (a : Arguments). IsPending p a.level s.world.kept) (AfterLeaves (near.still found) p) r _ i
      (λ levels has. (
        still_found found s.arguments.level levels.level s.world.kept s.world.kept (as_it_was s.world.kept) is.0,
        has,
      ))

  queried : (q : Query) (colons : ℕ) (level : Level)
      → IsFound (near.found_query q found) level (query q colons s.world.kept).kept
  queried (query_kind.Number r) zero level =
      still_found found s.arguments.level level s.world.kept s.world.kept (as_it_was s.world.kept) is.0
  queried (query_kind.Number r) (suc colons) level =
      still_found found s.arguments.level level s.world.kept s.world.kept (as_it_was s.world.kept) is.0
  queried query_kind.Mode colons level =
      still_found found s.arguments.level level s.world.kept s.world.kept (as_it_was s.world.kept) is.0
  queried query_kind.Conversion colons level = tt

  queried_with : (q : Query) (n : ℤ)
      → IfOk (query_with q n s.world.kept)
      (λ effect. (level : Level) → IsFound (near.found_query q found) level effect.kept)
  queried_with (query_kind.Number r) n = λ level.
      still_found found s.arguments.level level s.world.kept s.world.kept (as_it_was s.world.kept) is.0
  queried_with query_kind.Mode n = λ level.
      still_found found s.arguments.level level s.world.kept _ (record { text = refl; pointer = refl; long = refl })
      is.0
  queried_with query_kind.Conversion n = onward_unit (insertion_of (decimal n) s.world.kept)
    where
      onward_unit : (r : Result Effect Code)
          → IfOk r (λ effect. (level : Level) → IsFound Nothing level effect.kept)
      onward_unit (Ok effect) = λ level. tt
      onward_unit (Err c) = tt

  asked_after : (q : Query) (o : Option ℤ)
      → IfOk (after_query_with q e.colons o s.world.kept s.arguments) (AfterLeaves (near.found_query q found) Anything)
  asked_after q None =
      onward_any _ (with_level s.arguments (level_with (query q e.colons s.world.kept).value s.arguments.level)) _
      (λ levels given. (queried q e.colons levels.level, tt))
  asked_after q (Some n) =
      onward (λ effect. (level : Level) → IsFound (near.found_query q found) level effect.kept)
      (AfterLeaves (near.found_query q found) Anything) (query_with q n s.world.kept) _ (queried_with q n)
      (λ effect has. (has _, tt))

  stacked : (k : Stack) → IfOk (stack k s.world.kept) (λ new. IsSame s.world.kept new)
  stacked (stack_kind.Push r) = record { text = refl; pointer = refl; long = refl }
  stacked (stack_kind.Pop r) =
      onward_any _ (ok_or (registers_after_pop r s.world.kept.registers) code.Pes) _
      (λ registers given. record { text = refl; pointer = refl; long = refl })

  commanded : (c : Command) (taken : Taken)
      → IfOk (execution c e taken s.world.kept) (λ effect. AfterLeaves (near.found_command c e.colons found)
      (near.pending_command c e.colons)
      (record { kept = effect.kept; arguments = levels_after_answer effect.answer (levels_after_taking s.arguments) }))
  commanded c taken = by_effect (execution c e taken s.world.kept)
      (λ level. executes s.world.kept found s.arguments.level level is.0 c e taken)
      (commands_leave s.world.kept s.arguments c e taken)
    where
      by_effect : (r : Result Effect Code)
          → ((level : Level) → IfOk r (λ effect. IsFound (near.found_command c e.colons found) level effect.kept))
          → IfOk r (LeavesPending s.world.kept s.arguments (near.pending_command c e.colons))
          → IfOk r (λ effect. AfterLeaves (near.found_command c e.colons found) (near.pending_command c e.colons)
          (record {
            kept = effect.kept;
            arguments = levels_after_answer effect.answer
                (levels_after_taking s.arguments);
          }))
      by_effect (Ok effect) f p = (f _, p)
      by_effect (Err c) f p = tt

  nothing_known : (r : Result Reply Code) → IfOk r (ReplyLeaves Nothing Anything)
  nothing_known (Ok reply) = (tt, tt)
  nothing_known (Err c) = tt

  gives_character : (value : Option ℤ) → value ≢ None
      → IfOk (append_reply value s.left (levels_after_taking s.arguments) s.world)
      (ReplyLeaves (near.still found) Anything)
  gives_character None some = absurd (some refl)
  gives_character (Some n) some =
      (still_found found s.arguments.level _ s.world.kept s.world.kept (as_it_was s.world.kept) is.0, tt)

  characters : HasNumber s.arguments.level
      → IfOk (page_reply page.Append s.left s.arguments s.world) (ReplyLeaves (near.still found) Anything)
  characters number =
      onward_any _ (arguments_of s.arguments.level) _ (λ taken there.
      gives_character taken.value (λ none. number (taken_is s.arguments.level taken there ∙ ap Ok none)))

  paged : (p : Page) (argument : NumericArgument) → IsSo argument s.arguments.level
      → IfOk (page_reply p s.left s.arguments s.world) (ReplyLeaves (near.found_page p argument found) Anything)
  paged page.Append known.Number so = characters so
  paged page.Append known.Value so = characters (value_is_number s.arguments.level so.0 so.1)
  paged page.Append (known.Exactly n) so = characters (exactly_is_number n s.arguments.level so.0 so.1)
  paged page.Append known.Unreached so = absurd so
  paged page.Append known.Unknown so = nothing_known _
  paged page.Append known.Complete so = nothing_known _
  paged page.Yank argument so = nothing_known _
  paged page.Next argument so = nothing_known _
  paged page.Write argument so = nothing_known _

  by_reply : (k : Kind) (colon : Bool) → is_short k ≡ true
      → IfOk (reply_of k e s)
      (ReplyLeaves (near.found_behind e k colon zero before found) (near.pending_behind e k colon pending))
  unfolding reply_of
  by_reply (kind.Argument a) colon short =
      editor (near.still found) _ _ (kept_level (near.pending_argument a e.text pending) _
      (argument_pending pending s.arguments s.world.kept is.1 a e.text))
  by_reply (kind.Value v) colon short =
      editor (near.still found) _ _ (kept_level (near.pending_value v pending) _
      (leveled pending s.arguments s.world.kept is.1 (near.pending_value v pending) _
      (value_pending pending s.arguments s.world.kept is.1 v)))
  by_reply (kind.Query q) colon short =
      editor (near.found_query q found) Anything _ (asked_after q (value_for q e.colons s.arguments.level))
  by_reply (kind.Stack k) colon short =
      editor found pending _
      (onward (λ new. IsSame s.world.kept new) (AfterLeaves found pending) (stack k s.world.kept) _ (stacked k)
      (λ new same. (
        found_same found s.arguments.level s.world.kept new same is.0,
        pending_same pending s.arguments.level s.world.kept new same is.1,
      )))
  by_reply (kind.Command c) colon short =
      editor (near.found_command c e.colons found) (near.pending_command c e.colons) _
      (onward_any _ (arguments_of s.arguments.level) _ (λ taken there.
      onward (λ effect. AfterLeaves (near.found_command c e.colons found) (near.pending_command c e.colons)
      (record { kept = effect.kept; arguments = levels_after_answer effect.answer (levels_after_taking s.arguments) }))
      _ (execution c e taken s.world.kept) _ (commanded c taken) (λ effect has. has)))
  by_reply (kind.Page p) colon short =
      both_ok (λ reply. IsFound (near.found_page p before found) reply.arguments.level reply.world.kept)
      (λ reply. IsPending (near.pending_page p pending) reply.arguments.level reply.world.kept)
      (page_reply p s.left s.arguments s.world) (paged p before so_before) (page_pending s p pending is.1)
  by_reply (kind.File f) colon short = nothing_known _
  by_reply (kind.Call c) colon short = absurd cc
  by_reply (kind.Flow f) colon short = absurd cc
  by_reply (kind.Search x) colon short = absurd cc

-- ---- steps
module _ (s t : State) (e : Element) where
  abbrev LeftIn : Found → Pending → Type 0
  LeftIn f p = IsFound f t.arguments.level t.world.kept × IsPending p t.arguments.level t.world.kept

  module _ (P : Arguments → Kept → Type 0) where
    by_course : (reply : Reply) (course : Course) → settled e s.frames reply course ≡ Next t
        → P reply.arguments reply.world.kept → P t.arguments t.world.kept
    by_course reply Behind goes is = subst (λ (u : State). P u.arguments u.world.kept) (next_is reply t _ goes) is
    by_course reply Again goes is = subst (λ (u : State). P u.arguments u.world.kept) (next_is reply t _ goes) is
    by_course reply (Along frame) goes is =
        subst (λ (u : State). P u.arguments u.world.kept) (next_is reply t _ goes) is
    by_course reply (Into text) goes is =
        subst (λ (u : State). P u.arguments u.world.kept) (next_is reply t _ goes) is
    by_course reply Quit goes is = absurd cc
    by_course reply NoFile goes is = absurd cc
    by_course reply (Refused c) goes is = absurd cc

    settles : (r : Result Reply Code) → IfOk r (λ reply. P reply.arguments reply.world.kept)
        → settle e s r ≡ Next t → P t.arguments t.world.kept
    settles (Ok reply) i goes = by_course reply reply.course goes i
    settles (Err c) i goes = absurd cc

  -- ---- searches
  text_found : (colon : Bool) (text : List ℕ) (level : Level) (kept : Kept) → (text ≢ [] → JustFound text kept)
      → (colon ≡ true → HasValue (negsuc 0) level) → IsFound (near.found_text colon zero text) level kept
  text_found colon [] level kept found has = tt
  text_found true (b ∷ text) level kept found has = (negsuc 0, has refl, λ some. found (λ e. absurd cc))
  text_found false (b ∷ text) level kept found has = found (λ e. absurd cc)

  text_missed : (text : List ℕ) (level : Level) (kept : Kept) → HasValue (pos 0) level
      → IsFound (near.found_text true zero text) level kept
  text_missed [] level kept has = tt
  text_missed (b ∷ text) level kept has = (pos 0, has, λ some. absurd (some refl))

  search_found : (x : Search) (colon : Bool) (kept : Kept) → IsSought x e kept
      → (λ (a : Arguments). IsFound (near.found_search x colon zero e.text) a.level kept
      × IsPending (near.pending_search x colon) a.level kept)
      (levels_after_answer (answer_where colon (negsuc 0)) (levels_searching x s))
  search_found search_kind.Find true kept sought = (text_found true e.text _ kept sought (λ is. (refl, refl)), tt)
  search_found search_kind.Find false kept sought =
      (text_found false e.text _ kept sought (λ is. absurd cc), (refl, refl))
  search_found search_kind.FindInPages true kept sought =
      (text_found true e.text _ kept sought (λ is. (refl, refl)), tt)
  search_found search_kind.FindInPages false kept sought =
      (text_found false e.text _ kept sought (λ is. absurd cc), tt)
  search_found search_kind.Replace colon kept sought = (tt, tt)
  search_found search_kind.ReplaceInPages colon kept sought = (tt, tt)

  search_missed : (x : Search) (kept : Kept)
      → (λ (a : Arguments). IsFound (near.found_search x true zero e.text) a.level kept
      × IsPending (near.pending_search x true) a.level kept)
      (levels_after_answer (Some (pos 0)) (levels_searching x s))
  search_missed search_kind.Find kept = (text_missed e.text _ kept (refl, refl), tt)
  search_missed search_kind.FindInPages kept = (text_missed e.text _ kept (refl, refl), tt)
  search_missed search_kind.Replace kept = (tt, tt)
  search_missed search_kind.ReplaceInPages kept = (tt, tt)

  search_left : (x : Search) (colon : Bool) → colon ≡ false
      → (t.arguments.level.operator ≡ None) × (t.arguments.level.value ≡ None)
      → LeftIn (near.found_search x colon 1 e.text) (near.pending_search x colon)
  search_left search_kind.Find true none empty = absurd cc
  search_left search_kind.Find false none empty = (tt, empty)
  search_left search_kind.FindInPages colon none empty = (tt, tt)
  search_left search_kind.Replace colon none empty = (tt, tt)
  search_left search_kind.ReplaceInPages colon none empty = (tt, tt)

  -- what they found stands before the pointer
  module _ (under : IsUnderway s) (reads : Reads s (Some e)) where
    in_buffer : (x : Search) (kept : Kept) → finding x e s ≡ Ok (Finds_kept kept) → IsSought x e kept
    in_buffer x kept h =
        (of_ok (FoundTold x e s.world.kept) (finding x e s) (Finds_kept kept)
        (onward_any (FoundTold x e s.world.kept) (arguments_of s.arguments.level) _
        (λ taken is. search_is_told x e s.world.kept taken)) h).2

    in_pages : (x : Search) (left : Option ℕ) (world : World) → s.left ≡ left → e.kind ≡ kind.Search x
        → looking_on x e s left ≡ Ok (Met world) → IsSought x e world.kept
    in_pages x None world is same h =
        (of_ok (LookTold x e (world_seeking e.text s.world)) (looking_on x e s None) (Met world)
        (onward_any (LookTold x e (world_seeking e.text s.world)) (arguments_of s.arguments.level) _
        (λ taken is. first_look_is_told x e taken s.world)) h).1
    in_pages x (Some n) world is same h =
        (of_ok (LookTold x e s.world) (looking_on x e s (Some n)) (Met world)
        (look_is_told x e s.world (still_looks s e under reads x n same is) n) h).1

    sought_by : (x : Search) (world : World) → e.kind ≡ kind.Search x → Finds x e s world → IsSought x e world.kept
    sought_by search_kind.Find world same f =
        subst (λ (w : World). IsSought search_kind.Find e w.kept) (sym f.2) (in_buffer search_kind.Find f.0 f.1)
    sought_by search_kind.FindInPages world same f = in_pages search_kind.FindInPages s.left world refl same f
    sought_by search_kind.Replace world same f = tt
    sought_by search_kind.ReplaceInPages world same f = tt

    by_answers : (answer : Option ℤ) (world : World) (x : Search) (P : Arguments → Kept → Type 0)
        → Answers answer world (levels_searching x s) e s t
        → P (levels_after_answer answer (levels_searching x s)) world.kept → P t.arguments t.world.kept
    by_answers answer world x P a is =
        subst (λ (w : World). P t.arguments w.kept) (sym a.world_is)
        (subst (λ (b : Arguments). P b world.kept) (sym a.arguments_are) is)

    searched : (x : Search) (way : ℕ) → e.kind ≡ kind.Search x → SearchWas x way e s t
        → LeftIn (near.found_search x (has_colon e s.frames.running) way e.text)
        (near.pending_search x (has_colon e s.frames.running))
    searched x zero same (inl w) =
        let colon = has_colon e s.frames.running in
        by_answers (answer_where colon (negsuc 0)) w.world x
        (λ a kept. IsFound (near.found_search x colon zero e.text) a.level kept
        × IsPending (near.pending_search x colon) a.level kept) w.answers
        (search_found x colon w.world.kept (sought_by x w.world same w.finds))
    searched x zero same (inr w) =
        subst (λ colon. LeftIn (near.found_search x colon zero e.text) (near.pending_search x colon)) (sym w.colon)
        (by_answers (Some (pos 0)) w.world x
        (λ a kept. IsFound (near.found_search x true zero e.text) a.level kept
        × IsPending (near.pending_search x true) a.level kept) w.answers (search_missed x w.world.kept))
    searched x (suc zero) same w =
        search_left x (has_colon e s.frames.running) w.colon
        (subst (λ (a : Arguments). (a.level.operator ≡ None) × (a.level.value ≡ None))
        (sym (w.arguments_are ∙ ap (λ (u : Turn). u.arguments) w.jumps.gone)) (refl, refl))
    searched x (suc (suc way)) same w = absurd w

  -- ---- by what it was
  module _ (before : NumericArgument) (found : Found) (pending : Pending) (under : IsUnderway s)
      (reads : Reads s (Some e)) where
    abbrev IsBefore : Type 0
    IsBefore = (IsFound found s.arguments.level s.world.kept × IsPending pending s.arguments.level s.world.kept)
        × IsSo before s.arguments.level

    by_outcome : (k : Kind) (colon : Bool) (way : ℕ) → is_short k ≡ true → IsBefore → OutcomeWas way k e s t
        → LeftIn (near.found_behind e k colon way before found) (near.pending_behind e k colon pending)
    by_outcome k colon zero short is goes =
        settles (λ a kept. IsFound (near.found_behind e k colon zero before found) a.level kept
        × IsPending (near.pending_behind e k colon pending) a.level kept) (reply_of k e s)
        (by_reply s e before found pending is.0 is.1 k colon short) goes
    by_outcome k colon (suc way) short is goes = absurd goes

    by_page : (p : Page) (colon : Bool) (way : ℕ) → (is_long (kind.Page p) ≡ false → IsBefore)
        → OutcomeWas way (kind.Page p) e s t
        → LeftIn (near.found_behind e (kind.Page p) colon way before found)
        (near.pending_behind e (kind.Page p) colon pending)
    by_page page.Append colon way is goes = by_outcome (kind.Page page.Append) colon way refl (is refl) goes
    by_page page.Yank colon way is goes = (tt, tt)
    by_page page.Next colon way is goes = (tt, tt)
    by_page page.Write colon way is goes = (tt, tt)

    by_kind : (k : Kind) (way : ℕ) → e.kind ≡ k → (is_long k ≡ false → IsBefore) → ElementWas k way e s t
        → LeftIn (near.found_behind e k (has_colon e s.frames.running) way before found)
        (near.pending_behind e k (has_colon e s.frames.running) pending)
    by_kind (kind.Call c) zero same is was =
        subst (λ (u : State). IsFound found u.arguments.level u.world.kept
        × IsPending pending u.arguments.level u.world.kept) (sym was) (is refl).0
    by_kind (kind.Call c) (suc way) same is was = absurd was
    by_kind (kind.Flow f) way same is was =
        subst (λ (u : State). IsFound (near.found_flow f e.colons way found) u.arguments.level u.world.kept
        × IsPending (near.pending_flow f pending) u.arguments.level u.world.kept) (sym was.gone)
        (by_flow s e found pending (is refl).0 f way was.turn was.went)
    by_kind (kind.Search x) way same is was = searched under reads x way same was
    by_kind (kind.Page p) way same is was = by_page p (has_colon e s.frames.running) way is was
    by_kind (kind.Argument a) way same is was =
        by_outcome (kind.Argument a) (has_colon e s.frames.running) way refl (is refl) was
    by_kind (kind.Value v) way same is was =
        by_outcome (kind.Value v) (has_colon e s.frames.running) way refl (is refl) was
    by_kind (kind.Query q) way same is was =
        by_outcome (kind.Query q) (has_colon e s.frames.running) way refl (is refl) was
    by_kind (kind.Stack k) way same is was =
        by_outcome (kind.Stack k) (has_colon e s.frames.running) way refl (is refl) was
    by_kind (kind.Command c) way same is was =
        by_outcome (kind.Command c) (has_colon e s.frames.running) way refl (is refl) was
    by_kind (kind.File f) way same is was =
        by_outcome (kind.File f) (has_colon e s.frames.running) way refl (is refl) was

nothing_left : (left : Option ℕ) → IsLeftAt None left → left ≡ None
nothing_left None at = refl
nothing_left (Some n) at = absurd at

three_parts : (A B C : Type 0) → A × B → C → A × B × C
three_parts A B C two three = (two.0, two.1, three)

returned : (s t : State) (way : ℕ) (near : Nearby) → IsNear near s.arguments.level s.world.kept
    → StepWas None way s t → IsNear near t.arguments.level t.world.kept
returned s t zero near is was =
    subst (λ (u : State). IsNear near u.arguments.level u.world.kept) (sym was.gone) is
returned s t (suc way) near is was = absurd was

pub steps_leave_near : StepsLeaveNear
steps_leave_near s t read way before Unreached whole under left known near reads was = absurd (near.reached refl)
steps_leave_near s t None way before (Known found pending characters) whole under left known near reads was =
    returned s t way (Known found pending characters) (near.begins (nothing_left s.left left)) was
steps_leave_near s t (Some e) way before (Known found pending characters) whole under left known near reads was =
    three_parts _ _ _
    (by_kind s t e before found pending under reads e.kind way refl (λ short. (
      (
        (near_before s e (Known found pending characters) left near short).0,
        (near_before s e (Known found pending characters) left near short).1,
      ),
      known_before s e before left known short,
    )) was)
    (characters_leave s t e whole before pending characters e.kind way (λ short. (
      (near_before s e (Known found pending characters) left near short).1,
      (near_before s e (Known found pending characters) left near short).2,
      known_before s e before left known short,
    )) was)
