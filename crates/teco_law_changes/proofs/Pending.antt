-- What is pending behind elements, where it asks for what is near.
use Rattle.std.proofs.Common.{◌≡◌, ◌≢◌, ℕ, ℤ, pos, negsuc, neg_ℤ, zero, suc, ◌+◌, List, [], ◌∷◌, ◌++◌, length, refl}
use Rattle.std.proofs.Common.{sym, ap}
use Rattle.std.proofs.Common.{◌∙◌, subst, inl, inr, Option, Some, None, Result, Ok, Err, Bool, true, false, not}
use Rattle.std.specs.Prelude.{◌⊎◌, IfOk, ⊤, nat_le}
use Rattle.std.proofs.Common.{◌+ℤ◌, arith}
use Rattle.std.proofs.lemmas.Int.{ints}
use Rattle.std.specs.Option.{ok_or}
use Rattle.std.specs.Prelude.{option_map, slice_get, unwrap_or}
use Rattle.teco_model.specs.Arguments.{no_arguments}
use Rattle.teco_model.specs.Character.{character, code_at}
use Rattle.teco_base.specs.Arithmetic.{byte_of, sub}
use Rattle.teco_base.specs.NumberText.{decimal}
use Rattle.teco_base.specs.Results.{◌>>=◌}
use Rattle.teco_base.specs.Text.{text_after_insertion}
use Rattle.teco_base.specs.declared.TheConstants.{LIMIT}
use Rattle.teco_base.specs.declared.bytes.TheConstants.{TAB}
use Rattle.teco_base.specs.declared.code.Code.{Code}
use Rattle.teco_base.specs.declared.code.Code.TheVariants as code
use Rattle.teco_changes.specs.Characters.{character_before, character_there, code_there}
use Rattle.teco_changes.specs.declared.argument.Side.{Side}
use Rattle.teco_changes.specs.declared.argument.Side.TheVariants.{At, Before}
use Rattle.teco_changes.specs.Nearby as near
use Rattle.teco_changes.specs.Nearby.{Found, HasValue, IsFound, IsNear, IsPending, JustFound, Known, Nearby, Nothing}
use Rattle.teco_changes.specs.Nearby.{Perhaps, Surely, Unreached}
use Rattle.teco_changes.specs.declared.argument.Pending.{Pending}
use Rattle.teco_changes.specs.declared.argument.Pending.TheVariants.{Asked, AskedLess, AskedMinus, Anything, Empty}
use Rattle.teco_changes.specs.declared.argument.Pending.TheVariants.{Length, Negative, Number, Place}
use Rattle.teco_changes.specs.Arguments.{IsSo}
use Rattle.teco_changes.specs.declared.argument.NumericArgument.{NumericArgument}
use Rattle.teco_changes.specs.declared.argument.NumericArgument.TheVariants as known
use Rattle.teco_law_changes.specs.Steps.{IsKnown, IsKnownNear, IsUnderway, Reads, StepsLeaveNear, colon_in}
use Rattle.teco_law_changes.proofs.Lasts.{near_before}
use Rattle.teco_law_changes.proofs.Numbers.{exact, known_before}
use Rattle.teco_law_changes.proofs.Results.{of_ok, onward, onward_any, onward_made, tested}
use Rattle.teco_law_changes.proofs.Searches.{FoundTold, IsSought, LookTold, first_look_is_told, look_is_told}
use Rattle.teco_law_changes.proofs.Searches.{search_is_told}
use Rattle.teco_law_changes.proofs.Sharper.{HasNumber, exactly_is_number, value_is_number}
use Rattle.teco_law_changes.proofs.Steps.{anything, still_looks}
use Rattle.teco_law_changes.proofs.Taking.{ends_so, taken_is, value_is}
use Rattle.teco_law_runs.specs.Steps.{IsLeftAt, is_long}
use Rattle.teco_law_runs.specs.Turns.{Took, Went}
use Rattle.teco_law_runs.specs.Was.{Answers, ElementWas, Finds, GoesOnFound, GoesOnMissed, OutcomeWas, SearchWas}
use Rattle.teco_law_runs.specs.Was.{StepWas}
use Rattle.teco_law_runs.specs.Was.{Turns, answer_where, finding, levels_searching, looking_on}
use Rattle.teco_model.specs.Arguments.{Arguments, arguments_of, final_value, first_value, level_after_comma, level_with}
use Rattle.teco_model.specs.Arguments.{level_with_operator, level_with_pair, levels_after_answer, levels_after_taking}
use Rattle.teco_model.specs.Arguments.{no_first, run_value, with_level}
use Rattle.teco_model.specs.Condition.{holds, is_negative}
use Rattle.teco_model.specs.Effect.{Effect, needed_value}
use Rattle.teco_model.specs.Deletion.{character_deletion, deletion_of, part_deletion}
use Rattle.teco_model.specs.Element.{Element}
use Rattle.teco_model.specs.Insertion.{insertion_of, insertion_with}
use Rattle.teco_model.specs.Flow.{Turn, leaves, turn_of}
use Rattle.teco_model.specs.Going.{After, Again, Along, Behind, Course, Into, NoFile, Quit, Refused, Reply, on_editor}
use Rattle.teco_model.specs.Going.{next_in, settle, settled}
use Rattle.teco_model.specs.Outside.{append_reply, page_reply}
use Rattle.teco_model.specs.Paging.{Looked, Met, Through, Turned, look_first, look_for, world_seeking}
use Rattle.teco_model.specs.Places.{characters_of, part_named, part_of, place_in}
use Rattle.teco_model.specs.Motion.{motion, motion_to, target}
use Rattle.teco_model.specs.Query.{query, query_with}
use Rattle.teco_model.specs.Registers.{registers_after_pop}
use Rattle.teco_model.specs.Search.{Finding, Missed, search, search_text_of}
use Rattle.teco_model.specs.Search.{Found as Finds_kept}
use Rattle.teco_model.specs.Searching.{has_colon}
use Rattle.teco_model.specs.State.{Frame, Frames, Kept, Next, State, World}
use Rattle.teco_model.specs.Step.{after_query_with, execution, level_with_value, levels_after, outcome_of, value_for}
unfoldable use Rattle.teco_model.specs.Step.{reply_of}
use Rattle.teco_model.specs.Storage.{own_text_storage, retrieval, stack, storage, text_in, text_setting, text_storage}
use Rattle.teco_model.specs.Typing.{typing}
use Rattle.teco_model.specs.declared.arguments.Level.{Level}
use Rattle.teco_model.specs.declared.arguments.Operator.{Operator}
use Rattle.teco_model.specs.declared.arguments.Operator.TheVariants.{Plus, Minus, Times, Over, And, Or}
use Rattle.teco_model.specs.declared.arguments.Taken.{Taken}
use Rattle.teco_model.specs.declared.kind.Argument.{Argument}
use Rattle.teco_model.specs.declared.kind.Argument.TheVariants.{DropAll, Digits, Operate, Open, Close, Comma}
use Rattle.teco_model.specs.declared.kind.Call.{Call}
use Rattle.teco_model.specs.declared.kind.Command.{Command}
use Rattle.teco_model.specs.declared.kind.Command.TheVariants as command
use Rattle.teco_model.specs.declared.kind.Flow.{Flow}
use Rattle.teco_model.specs.declared.kind.Flow.TheVariants as flow
use Rattle.teco_model.specs.declared.kind.Insertion.{Insertion}
use Rattle.teco_model.specs.declared.kind.Insertion.TheVariants as insertion_kind
use Rattle.teco_model.specs.declared.kind.Kind.{Kind}
use Rattle.teco_model.specs.declared.kind.Kind.TheVariants as kind
use Rattle.teco_model.specs.declared.kind.MachineValue.{MachineValue}
use Rattle.teco_model.specs.declared.kind.MachineValue.TheVariants.{Begin, Size, Pointer, Whole, LastLength, LastText}
use Rattle.teco_model.specs.declared.kind.Motion.{Motion}
use Rattle.teco_model.specs.declared.kind.Motion.TheVariants as motion_kind
use Rattle.teco_model.specs.declared.kind.Page.{Page}
use Rattle.teco_model.specs.declared.kind.Page.TheVariants as page
use Rattle.teco_model.specs.declared.kind.Query.{Query}
use Rattle.teco_model.specs.declared.kind.Query.TheVariants as query_kind
use Rattle.teco_model.specs.declared.kind.Search.{Search}
use Rattle.teco_model.specs.declared.kind.Search.TheVariants as search_kind
use Rattle.teco_model.specs.declared.kind.Stack.{Stack}
use Rattle.teco_model.specs.declared.kind.Stack.TheVariants as stack_kind
use Rattle.teco_model.specs.declared.kind.Storage.{Storage}
use Rattle.teco_model.specs.declared.kind.Storage.TheVariants as storage_kind
use Rattle.teco_model.specs.declared.kind.Test.{Test}
use Rattle.teco_model.specs.declared.kind.Test.TheVariants as test
use Rattle.teco_model.specs.declared.kind.Typing.{Typing}
use Rattle.teco_model.specs.declared.kind.Unit.{Unit as Counted}
use Rattle.teco_model.specs.declared.kind.Unit.TheVariants.{Characters, Lines}
use Rattle.teco_model.specs.declared.kind.Typing.TheVariants as typing_kind

-- ---- what is pending
digits_pending : (v : ℤ) (pending : Pending) (level : Level) (kept : Kept) → IsPending pending level kept
    → IfOk (level_with v level) (λ after. IsPending (near.pending_digits v pending) after kept)
digits_pending v Empty level kept is = exact v level is.0
digits_pending v Negative level kept is = rw (is.0, is.1) (refl, refl)
digits_pending v (AskedMinus side) level kept is = rw (is.0, is.1) (refl, refl)
digits_pending v (Asked side) level kept is = anything _
digits_pending v (AskedLess side n) level kept is = anything _
digits_pending v Anything level kept is = anything _
digits_pending v (Number n) level kept is = anything _
digits_pending v Length level kept is = anything _
digits_pending v Place level kept is = anything _

by_pending : (first value : Option ℤ) (operator : Option Operator) (v : Option ℤ) → operator ≡ None → value ≡ v
    → IfOk (level_with_operator Minus (record { first = first; value = value; operator = operator }))
    (λ after. (after.operator ≡ Some Minus) × (after.value ≡ v))
by_pending first value None v none is = (refl, is)
by_pending first value (Some pending) v none is = absurd cc

minus_pending : (pending : Pending) (level : Level) (kept : Kept) → IsPending pending level kept
    → IfOk (level_with_operator Minus level) (λ after. IsPending (near.pending_minus pending) after kept)
minus_pending Empty level kept is = by_pending level.first level.value level.operator None is.0 is.1
minus_pending (Asked side) level kept is =
    by_pending level.first level.value level.operator (Some (code_there side kept)) is.0 is.1
minus_pending (AskedMinus side) level kept is = anything _
minus_pending (AskedLess side n) level kept is = anything _
minus_pending Negative level kept is = anything _
minus_pending Anything level kept is = anything _
minus_pending (Number n) level kept is = anything _
minus_pending Length level kept is = anything _
minus_pending Place level kept is = anything _

module _ (pending : Pending) (arguments : Arguments) (kept : Kept) (is : IsPending pending arguments.level kept) where
  abbrev pub Leaves : Pending → Arguments → Type 0
  Leaves after new = IsPending after new.level kept

  pub leveled : (after : Pending) (r : Result Level Code) → IfOk r (λ level. IsPending after level kept)
      → IfOk (with_level arguments r) (Leaves after)
  leveled after r i = onward (λ level. IsPending after level kept) (Leaves after) r _ i (λ level is. is)

  pub argument_pending : (a : Argument) (text : List ℕ)
      → IfOk (levels_after a text arguments) (Leaves (near.pending_argument a text pending))
  argument_pending Digits text =
      leveled (near.pending_digits (run_value text) pending) _
      (digits_pending (run_value text) pending arguments.level kept is)
  argument_pending (Operate Minus) text =
      leveled (near.pending_minus pending) _ (minus_pending pending arguments.level kept is)
  argument_pending (Operate Plus) text = anything _
  argument_pending (Operate Times) text = anything _
  argument_pending (Operate Over) text = anything _
  argument_pending (Operate And) text = anything _
  argument_pending (Operate Or) text = anything _
  argument_pending DropAll text = (refl, refl)
  argument_pending Open text = tt
  argument_pending Close text = anything _
  argument_pending Comma text = anything _

  abbrev HasPair : ℤ → ℤ → Level → Type 0
  HasPair x y level = HasValue y level × (level.first ≡ Some x)

  parted : (x y : ℤ) (first : Option ℤ)
      → IfOk (level_after_comma (record { first = first; value = Some x; operator = None }) >>= level_with y)
      (HasPair x y)
  parted x y (Some m) = tt
  parted (pos n) y None = ((refl, refl), refl)
  parted (negsuc n) y None = tt

  paired : (x y : ℤ) (first value : Option ℤ) (operator : Option Operator) → operator ≡ None
      → IfOk (level_with_pair x y (record { first = first; value = value; operator = operator })) (HasPair x y)
  paired x y first value None none = parted x y first
  paired x y first value (Some operator) none = absurd cc

  length_pending : (p : Pending) → IsPending p arguments.level kept
      → IfOk (level_with_value LastLength kept arguments.level)
      (λ level. IsPending (near.pending_value LastLength p) level kept)
  length_pending Empty is = exact (neg_ℤ (pos kept.last_length)) arguments.level is.0
  length_pending Negative is = anything _
  length_pending Anything is = anything _
  length_pending (Number n) is = anything _
  length_pending Length is = anything _
  length_pending (Asked side) is = anything _
  length_pending (AskedMinus side) is = anything _
  length_pending (AskedLess side m) is = anything _
  length_pending Place is = anything _

  place_pending : (p : Pending) → IsPending p arguments.level kept
      → IfOk (level_with_value LastText kept arguments.level)
      (λ level. IsPending (near.pending_value LastText p) level kept)
  place_pending Empty is =
      let level = arguments.level in
      paired (near.last_begin kept) (pos kept.pointer) level.first level.value level.operator is.0
  place_pending Negative is = anything _
  place_pending Anything is = anything _
  place_pending (Number n) is = anything _
  place_pending Length is = anything _
  place_pending (Asked side) is = anything _
  place_pending (AskedMinus side) is = anything _
  place_pending (AskedLess side m) is = anything _
  place_pending Place is = anything _

  pub value_pending : (v : MachineValue)
      → IfOk (level_with_value v kept arguments.level) (λ level. IsPending (near.pending_value v pending) level kept)
  value_pending LastLength = length_pending pending is
  value_pending LastText = place_pending pending is
  value_pending Begin = anything _
  value_pending Size = anything _
  value_pending Pointer = anything _
  value_pending Whole = anything _

module _ (kept : Kept) where
  abbrev HasNone : Effect → Type 0
  HasNone effect = effect.answer ≡ None

  inserted_none : (new : List ℕ) → IfOk (insertion_of new kept) HasNone
  inserted_none new =
      tested HasNone (nat_le (length (text_after_insertion kept.text kept.pointer new)) LIMIT) _ code.Ful refl

  insertions_none : (i : Insertion) (text : List ℕ) (value : Option ℤ) → IfOk (insertion_with i text value kept) HasNone
  insertions_none insertion_kind.Text text None = inserted_none text
  insertions_none insertion_kind.Text [] (Some n) = inserted_none (byte_of n ∷ [])
  insertions_none insertion_kind.Text (c ∷ text) (Some n) = tt
  insertions_none insertion_kind.Tab text None = inserted_none (TAB ∷ text)
  insertions_none insertion_kind.Tab text (Some n) = tt

  part_none : (first value : Option ℤ) → IfOk (part_deletion first value kept) HasNone
  part_none first value = onward_any HasNone (part_named first value kept) _ (λ part is. refl)

  characters_none : (n : ℤ) → IfOk (character_deletion n kept) HasNone
  characters_none (pos n) = tested HasNone (nat_le (kept.pointer + n) (length kept.text)) _ code.Dtb refl
  characters_none (negsuc n) = tested HasNone (nat_le (suc n) kept.pointer) _ code.Dtb refl

  deletions_none : (unit : Counted) (first value : Option ℤ) → IfOk (deletion_of unit first value kept) HasNone
  deletions_none Lines first value = part_none first value
  deletions_none Characters (Some m) (Some n) = part_none (Some m) (Some n)
  deletions_none Characters (Some m) None = characters_none (pos 1)
  deletions_none Characters None (Some n) = characters_none n
  deletions_none Characters None None = characters_none (pos 1)

  typings_none : (t : Typing) (e : Element) (taken : Taken) → IfOk (typing t e taken kept) HasNone
  typings_none typing_kind.Part e taken = onward_any HasNone (part_of taken kept) _ (λ part is. refl)
  typings_none typing_kind.View e taken = refl
  typings_none typing_kind.Message e taken = refl
  typings_none typing_kind.Byte e taken = onward_any HasNone (needed_value taken.value) _ (λ n is. refl)
  typings_none (typing_kind.Number radix) e taken = onward_any HasNone (needed_value taken.value) _ (λ n is. refl)

  set_none : (r : ℕ) (text : List ℕ) → IfOk (text_setting r text kept) HasNone
  set_none r text = tested HasNone (nat_le (length text) LIMIT) _ code.Ful refl

  put_none : (colons r : ℕ) (text : List ℕ) → IfOk (text_storage colons r text kept) HasNone
  put_none zero r text = set_none r text
  put_none (suc colons) r text = set_none r (text_in r kept ++ text)

  put_own_none : (colons r : ℕ) (text : List ℕ) (value : Option ℤ)
      → IfOk (own_text_storage colons r text value kept) HasNone
  put_own_none colons r text None = put_none colons r text
  put_own_none colons r text (Some n) = tt

  retrieved_none : (colons r : ℕ) → IfOk (retrieval colons r kept) HasNone
  retrieved_none zero r = inserted_none (text_in r kept)
  retrieved_none (suc colons) r = refl

  moved_none : (place : Option ℕ) → IfOk (motion_to zero place kept) HasNone
  moved_none None = tt
  moved_none (Some place) = refl

  module _ (arguments : Arguments) where
    abbrev pub LeavesPending : Pending → Effect → Type 0
    LeavesPending pending effect =
        IsPending pending (levels_after_answer effect.answer (levels_after_taking arguments)).level effect.kept

    empty : (r : Result Effect Code) → IfOk r HasNone → IfOk r (LeavesPending Empty)
    empty (Ok effect) none = rw none (refl, refl)
    empty (Err c) none = tt

    moves_to : (colons : ℕ) (place : Option ℕ) (m : Motion)
        → IfOk (motion_to colons place kept) (LeavesPending (near.pending_command (command.Motion m) colons))
    moves_to zero place m = empty (motion_to zero place kept) (moved_none place)
    moves_to (suc colons) place m = anything _

    lines_leave : (colons : ℕ) (effect : Effect) → effect.answer ≡ None
        → LeavesPending (near.pending_command (command.Motion motion_kind.Lines) colons) effect
    lines_leave zero effect none = rw none (refl, refl)
    lines_leave (suc colons) effect none = tt

    moves_leave : (m : Motion) (e : Element) (taken : Taken)
        → IfOk (motion m e taken kept) (LeavesPending (near.pending_command (command.Motion m) e.colons))
    moves_leave motion_kind.Lines e taken = lines_leave e.colons _ refl
    moves_leave motion_kind.Forward e taken =
        moves_to e.colons (place_in kept.text (target motion_kind.Forward kept.pointer taken.value)) motion_kind.Forward
    moves_leave motion_kind.Backward e taken =
        moves_to e.colons (place_in kept.text (target motion_kind.Backward kept.pointer taken.value))
        motion_kind.Backward
    moves_leave motion_kind.To e taken =
        moves_to e.colons (place_in kept.text (target motion_kind.To kept.pointer taken.value)) motion_kind.To

    stores_leave : (s : Storage) (e : Element) (taken : Taken)
        → IfOk (storage s e taken kept) (LeavesPending (near.pending_command (command.Storage s) e.colons))
    stores_leave (storage_kind.Get r) e taken = empty _ (retrieved_none e.colons r)
    stores_leave (storage_kind.SetNumber r) e taken =
        empty _ (onward_any HasNone (needed_value taken.value) _ (λ n is. refl))
    stores_leave (storage_kind.Add r) e taken = tt
    stores_leave (storage_kind.Copy r) e taken =
        empty _ (onward_any HasNone (part_of taken kept) _ (λ part is. put_none e.colons r (characters_of part kept)))
    stores_leave (storage_kind.SetText r) e taken = empty _ (put_own_none e.colons r e.text taken.value)

    pub commands_leave : (c : Command) (e : Element) (taken : Taken)
        → IfOk (execution c e taken kept) (LeavesPending (near.pending_command c e.colons))
    commands_leave (command.Motion m) e taken = moves_leave m e taken
    commands_leave (command.Deletion unit) e taken = empty _ (deletions_none unit taken.first taken.value)
    commands_leave (command.Insertion i) e taken = empty _ (insertions_none i e.text taken.value)
    commands_leave (command.Typing t) e taken = empty _ (typings_none t e taken)
    commands_leave (command.Storage s) e taken = stores_leave s e taken

-- nA gives the code of a character
place_at : (place : ℕ) → pos place +ℤ pos 0 ≡ pos place
place_at place = omega (arith, ints)

place_before : (place : ℕ) → pos (suc place) +ℤ negsuc 0 ≡ pos place
place_before place = omega (arith, ints)

before_is : (text : List ℕ) (place : ℕ)
    → code_at text (pos place +ℤ negsuc 0)
    ≡ unwrap_or (option_map pos (character_before text place)) (negsuc 0)
before_is text zero = refl
before_is text (suc place) = ap (λ n. code_at text n) (place_before place)

module _ (kept : Kept) where
  number_pending : (n : ℤ)
      → IsPending (near.pending_number n)
      (levels_after_answer (Some (character n kept)) no_arguments).level kept
  number_pending (pos zero) = (refl, ap (λ n. Some (code_at kept.text n)) (place_at kept.pointer))
  number_pending (pos (suc n)) = tt
  number_pending (negsuc zero) = (refl, ap Some (before_is kept.text kept.pointer))
  number_pending (negsuc (suc n)) = tt

module _ (s : State) where
  abbrev AppendLeaves : Pending → Reply → Type 0
  AppendLeaves pending reply = IsPending pending reply.arguments.level reply.world.kept

  gives : (n : ℤ) (value : Option ℤ) → value ≡ Some n
      → IfOk (append_reply value s.left (levels_after_taking s.arguments) s.world)
      (AppendLeaves (near.pending_number n))
  gives n None is = absurd (let z : Path (Option ℤ) None (Some n) = is in cc)
  gives n (Some m) is =
      let same : n ≡ m = let z : Path (Option ℤ) (Some m) (Some n) = is in cc in
      subst (λ k. IfOk (append_reply (Some m) s.left (levels_after_taking s.arguments) s.world)
      (AppendLeaves (near.pending_number k))) (sym same) (number_pending s.world.kept m)

  append_pending : (pending : Pending) (taken : Taken) → IsPending pending s.arguments.level s.world.kept
      → arguments_of s.arguments.level ≡ Ok taken
      → IfOk (append_reply taken.value s.left (levels_after_taking s.arguments) s.world)
      (AppendLeaves (near.pending_append pending))
  append_pending (Number n) taken is took =
      gives n taken.value
      (value_is s.arguments.level taken took (Some n) (ends_so s.arguments.level (Some n) is.0 is.1))
  append_pending Negative taken is took =
      gives (negsuc 0) taken.value
      (value_is s.arguments.level taken took (Some (negsuc 0)) (rw (is.0, is.1) refl))
  append_pending Anything taken is took = anything _
  append_pending Empty taken is took = anything _
  append_pending Length taken is took = anything _
  append_pending Place taken is took = anything _
  append_pending (Asked side) taken is took = anything _
  append_pending (AskedMinus side) taken is took = anything _
  append_pending (AskedLess side n) taken is took = anything _

  pub page_pending : (p : Page) (pending : Pending) → IsPending pending s.arguments.level s.world.kept
      → IfOk (page_reply p s.left s.arguments s.world) (AppendLeaves (near.pending_page p pending))
  page_pending page.Append pending is =
      onward_any (AppendLeaves (near.pending_append pending)) (arguments_of s.arguments.level) _
      (λ taken took. append_pending pending taken is took)
  page_pending page.Yank pending is = anything _
  page_pending page.Next pending is = anything _
  page_pending page.Write pending is = anything _
