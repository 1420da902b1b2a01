-- What is known of the numeric argument before an element is so behind it, by the rules of what it leaves.
use Rattle.std.proofs.Common.{◌≡◌, ℕ, ℤ, pos, zero, suc, List, [], ◌∷◌, refl, sym, ap, ◌∙◌, subst, Option, Some, None}
use Rattle.std.proofs.Common.{Result, Ok, Err, Bool, true, false}
use Rattle.std.specs.Prelude.{◌≢◌, IfOk, ⊤}
use Rattle.std.specs.Option.{ok_or}
use Rattle.teco_base.specs.Results.{◌>>=◌}
use Rattle.teco_base.specs.declared.code.Code.{Code}
use Rattle.teco_base.specs.declared.code.Code.TheVariants as code
use Rattle.teco_changes.specs.Arguments.{IsSo, behind, behind_argument, behind_digits, behind_flow}
use Rattle.teco_changes.specs.Arguments.{behind_kind, behind_query}
use Rattle.teco_changes.specs.declared.argument.NumericArgument.{NumericArgument}
use Rattle.teco_changes.specs.declared.argument.NumericArgument.TheVariants as known
use Rattle.teco_law_changes.specs.Steps.{IsKnown, StepsLeaveArguments}
use Rattle.teco_law_runs.specs.Steps.{IsLeftAt, is_long}
use Rattle.teco_law_changes.proofs.Results.{onward, onward_any, onward_made}
use Rattle.teco_law_changes.proofs.Firsts.{end_with, settle_leaves}
use Rattle.teco_law_changes.proofs.Steps.{anything}
use Rattle.teco_model.specs.Ahead.{Whole as WholeGoal}
use Rattle.teco_model.specs.Arguments.{Arguments, arguments_of, final_value, first_value, level_after_comma, level_with}
use Rattle.teco_model.specs.Arguments.{level_with_operator, level_with_pair, no_first, value_at_end}
use Rattle.teco_model.specs.Arguments.{levels_after_answer}
use Rattle.teco_model.specs.Arguments.{levels_after_taking, levels_closed_onto}
use Rattle.teco_model.specs.Arguments.{no_arguments, run_value, value_with, with_level, inner_value}
use Rattle.teco_model.specs.Character.{character}
use Rattle.teco_model.specs.Condition.{holds}
use Rattle.teco_model.specs.Effect.{needed_value}
use Rattle.teco_model.specs.Element.{Element}
use Rattle.teco_model.specs.Filing.{open_input}
use Rattle.teco_model.specs.Flow.{Turn, conditional, counted_iteration, going_ahead, iteration, jump, later_turns}
use Rattle.teco_model.specs.Flow.{leaves, leaving, leaving_where, next_turn, to_turn_end, turn_end, turn_of}
use Rattle.teco_model.specs.Flow.{without_value}
use Rattle.teco_model.specs.Going.{After, Reply, on_editor}
use Rattle.teco_model.specs.Outside.{append_reply, filed, going_on, in_pages, opened, page_reply, pages_reply}
use Rattle.teco_model.specs.Outside.{while_left}
use Rattle.teco_model.specs.Paging.{Looked, Met, Progress, Through, Turned, look_first, look_for, page_turned}
use Rattle.teco_model.specs.Paging.{page_written}
use Rattle.teco_model.specs.Query.{query, query_with}
use Rattle.teco_model.specs.Search.{Finding, Found, Missed, search}
use Rattle.teco_model.specs.Searching.{Answers, Fails, Leaves, Miss, Unended, answer_by, found, found_in_buffer}
use Rattle.teco_model.specs.Searching.{found_in_pages}
use Rattle.teco_model.specs.Searching.{has_colon, leaving_by, looked, miss_of, miss_where, miss_within, missed}
use Rattle.teco_model.specs.Searching.{search_reply}
use Rattle.teco_model.specs.Skip.{skip_of}
use Rattle.teco_model.specs.State.{Frame, Kept, Next, State, World}
use Rattle.teco_model.specs.Step.{after_query_with, execution, level_with_value, levels_after}
use Rattle.teco_model.specs.Step.{outcome_at, value_for}
unfoldable use Rattle.teco_model.specs.Step.{reply_of, step}
use Rattle.teco_model.specs.Storage.{stack}
use Rattle.teco_model.specs.declared.arguments.Level.{Level}
use Rattle.teco_model.specs.declared.arguments.Operator.{Operator}
use Rattle.teco_model.specs.declared.arguments.Operator.TheVariants.{Plus, Minus, Times, Over, And, Or}
use Rattle.teco_model.specs.declared.flow.Loop.{Loop}
use Rattle.teco_model.specs.declared.kind.Argument.{Argument}
use Rattle.teco_model.specs.declared.kind.Argument.TheVariants.{DropAll, Digits, Operate, Open, Close, Comma}
use Rattle.teco_model.specs.declared.kind.File.{File}
use Rattle.teco_model.specs.declared.kind.File.TheVariants as file
use Rattle.teco_model.specs.declared.kind.Flow.{Flow}
use Rattle.teco_model.specs.declared.kind.Flow.TheVariants as flow
use Rattle.teco_model.specs.declared.kind.Goal.{Goal}
use Rattle.teco_model.specs.declared.kind.Goal.TheVariants as goal
use Rattle.teco_model.specs.declared.kind.Kind.{Kind}
use Rattle.teco_model.specs.declared.kind.Kind.TheVariants as kind
use Rattle.teco_model.specs.declared.kind.MachineValue.{MachineValue}
use Rattle.teco_model.specs.declared.kind.MachineValue.TheVariants.{Begin, Size, Pointer, Whole, LastLength, LastText}
use Rattle.teco_model.specs.declared.kind.Page.{Page}
use Rattle.teco_model.specs.declared.kind.Page.TheVariants as page
use Rattle.teco_model.specs.declared.kind.Query.{Query}
use Rattle.teco_model.specs.declared.kind.Query.TheVariants as query_kind
use Rattle.teco_model.specs.declared.kind.Search.{Search}
use Rattle.teco_model.specs.declared.kind.Search.TheVariants as search_kind

-- ---- levels
abbrev Complete : Level → Type 0
Complete level = level.operator ≡ None

abbrev HasValue : Level → Type 0
HasValue level = (level.operator ≡ None) × (level.value ≢ None)

abbrev HasNumber : Level → Type 0
HasNumber level = final_value level ≢ Ok None

abbrev Has : ℤ → Level → Type 0
Has v level = (level.operator ≡ None) × (level.value ≡ Some v)

some_value : (v : ℤ) → ◌≢◌ {A = Option ℤ} (Some v) None
some_value v none = absurd cc

valued : (v : ℤ) (level : Level) → IfOk (level_with v level) HasValue
valued v level =
    onward_any HasValue (value_with v level.value level.operator) _ (λ given is. (refl, some_value given))

by_operator : (v : ℤ) (first value : Option ℤ) (operator : Option Operator) → operator ≡ None
    → IfOk (level_with v (record { first = first; value = value; operator = operator })) (Has v)
by_operator v first value None none = (refl, refl)
by_operator v first value (Some operator) none = absurd cc

pub exact : (v : ℤ) (level : Level) → Complete level → IfOk (level_with v level) (Has v)
exact v level none = by_operator v level.first level.value level.operator none

ends_some : (value : Option ℤ) (operator : Operator) → value_at_end value (Some operator) ≢ Ok None
ends_some None Minus e = absurd cc
ends_some None Plus e = absurd cc
ends_some None Times e = absurd cc
ends_some None Over e = absurd cc
ends_some None And e = absurd cc
ends_some None Or e = absurd cc
ends_some (Some v) Minus e = absurd cc
ends_some (Some v) Plus e = absurd cc
ends_some (Some v) Times e = absurd cc
ends_some (Some v) Over e = absurd cc
ends_some (Some v) And e = absurd cc
ends_some (Some v) Or e = absurd cc

by_pending : (operator : Operator) (first value : Option ℤ) (pending : Option Operator)
    → IfOk (level_with_operator operator (record { first = first; value = value; operator = pending })) HasNumber
by_pending operator first value None = ends_some value operator
by_pending operator first value (Some pending) = tt

operated : (operator : Operator) (level : Level) → IfOk (level_with_operator operator level) HasNumber
operated operator level = by_pending operator level.first level.value level.operator

parted : (level : Level) → IfOk (level_after_comma level) Complete
parted level =
    onward_any Complete (no_first level.first) _ (λ alone is.
    onward_any Complete (final_value level) _ (λ value ends.
    onward_any Complete (first_value value) _ (λ first gives. refl)))

paired : (x y : ℤ) (level : Level) → IfOk (level_with_pair x y level) HasValue
paired x y level =
    onward_any HasValue (level_with x level) _ (λ first is.
    onward_any HasValue (level_after_comma first) _ (λ behind there. valued y behind))

weaker : {X E : Type 0} (P Q : X → Type 0) (r : Result X E) → IfOk r P → ((x : X) → P x → Q x) → IfOk r Q
weaker P Q (Ok x) is map = map x is
weaker P Q (Err c) is map = tt

-- ---- arguments
leveled : (P : Level → Type 0) (arguments : Arguments) (r : Result Level Code) → IfOk r P
    → IfOk (with_level arguments r) (λ a. P a.level)
leveled P arguments r i = onward P (λ a. P a.level) r _ i (λ level is. is)

closed : (level : Level) (outer : List Level) → IfOk (levels_closed_onto level outer) (λ a. HasValue a.level)
closed level [] = tt
closed level (outside ∷ outer) =
    onward_any (λ (a : Arguments). HasValue a.level) (inner_value level) _ (λ value is.
    onward HasValue (λ (a : Arguments). HasValue a.level) (level_with value outside) _ (valued value outside)
    (λ given has. has))

digits : (v : ℤ) (before : NumericArgument) (level : Level) → IsSo before level
    → IfOk (level_with v level) (IsSo (behind_digits v before))
digits v known.Unreached level is = absurd is
digits v known.Unknown level is = valued v level
digits v known.Number level is = valued v level
digits v known.Complete level is = exact v level is
digits v known.Value level is = exact v level is.0
digits v (known.Exactly n) level is = exact v level is.0

argued : (a : Argument) (text : List ℕ) (before : NumericArgument) (arguments : Arguments)
    → IsSo before arguments.level
    → IfOk (levels_after a text arguments) (λ r. IsSo (behind_argument a text before) r.level)
argued DropAll text before arguments is = refl
argued Digits text before arguments is =
    leveled (IsSo (behind_digits (run_value text) before)) arguments _
    (digits (run_value text) before arguments.level is)
argued (Operate operator) text before arguments is = leveled HasNumber arguments _ (operated operator arguments.level)
argued Open text before arguments is = refl
argued Close text before arguments is = closed arguments.level arguments.outer
argued Comma text before arguments is = leveled Complete arguments _ (parted arguments.level)

machine_valued : (v : MachineValue) (kept : Kept) (level : Level) → IfOk (level_with_value v kept level) HasValue
machine_valued Begin kept level = valued _ level
machine_valued Size kept level = valued _ level
machine_valued Pointer kept level = valued _ level
machine_valued LastLength kept level = valued _ level
machine_valued Whole kept level = paired _ _ level
machine_valued LastText kept level = paired _ _ level

-- nothing waits behind what takes its argument, and perhaps answers
abbrev Done : Arguments → Type 0
Done arguments = Complete arguments.level

answered : (answer : Option ℤ) (arguments : Arguments) → Done arguments → Done (levels_after_answer answer arguments)
answered None arguments done = done
answered (Some v) arguments done = refl

-- ---- flow
module _ (e : Element) (frame : Frame) (P : Arguments → Type 0) where
  abbrev TurnIs : Turn → Type 0
  TurnIs turn = P turn.arguments

  jumps : (c : Code) (arguments : Arguments) → P arguments → IfOk (jump c e arguments frame) TurnIs
  jumps c arguments is = onward_any TurnIs (ok_or (skip_of frame.text (WholeGoal e)).to c) _ (λ place there. is)

  goes_to_end : (loops : List Loop) (arguments : Arguments) → P arguments
      → IfOk (to_turn_end e loops arguments frame) TurnIs
  goes_to_end [] arguments is = tt
  goes_to_end (loop ∷ outer) arguments is = jumps code.Utc arguments is

  goes_ahead : (g : Goal) (arguments : Arguments) → P arguments → IfOk (going_ahead g e arguments frame) TurnIs
  goes_ahead goal.EndTurn arguments is = goes_to_end frame.loops arguments is
  goes_ahead goal.EndTest arguments is = jumps code.Utc arguments is
  goes_ahead goal.Otherwise arguments is = jumps code.Utc arguments is

module _ (e : Element) (frame : Frame) where
  abbrev TurnDone : Turn → Type 0
  TurnDone turn = Done turn.arguments

  counted : (turns : Option ℕ) (arguments : Arguments) → Done arguments
      → IfOk (counted_iteration e turns arguments frame) TurnDone
  counted None arguments done = jumps e frame Done code.Utc arguments done
  counted (Some turns) arguments done = done

  iterates : (value : Option ℤ) (arguments : Arguments) → Done arguments
      → IfOk (iteration e value arguments frame) TurnDone
  iterates None arguments done = done
  iterates (Some n) arguments done = counted (later_turns n) arguments done

  turns_on : (loop : Loop) (outer : List Loop) (turns : Option ℕ) → loop.turns ≡ turns
      → TurnDone (next_turn e (record { start = loop.start; turns = turns }) outer frame)
  turns_on loop outer None is = refl
  turns_on loop outer (Some zero) is = refl
  turns_on loop outer (Some (suc n)) is = refl

  ends_turn : (loops : List Loop) → IfOk (turn_end e loops frame) TurnDone
  ends_turn [] = tt
  ends_turn (loop ∷ outer) = turns_on loop outer loop.turns refl

  leaves_where : (t : Bool) (arguments : Arguments) → Done arguments
      → IfOk (leaving_where t e arguments frame) TurnDone
  leaves_where true arguments done = jumps e frame Done code.Utc no_arguments refl
  leaves_where false arguments done = done

  leaves_iteration : (loops : List Loop) (arguments : Arguments) → IfOk (leaving e loops arguments frame) TurnDone
  leaves_iteration [] arguments = tt
  leaves_iteration (loop ∷ outer) arguments =
      onward_any TurnDone (arguments_of arguments.level) _ (λ taken is.
      onward_any TurnDone (needed_value taken.value) _ (λ n there.
      leaves_where (leaves e.colons n) (levels_after_taking arguments) refl))

  branches : (t : Bool) (arguments : Arguments) → Done arguments → IfOk (conditional t e arguments frame) TurnDone
  branches true arguments done = done
  branches false arguments done = jumps e frame Done code.Utc arguments done

  without : (value : Option ℤ) (turn : Turn) → TurnDone turn → IfOk (without_value value turn) TurnDone
  without None turn done = done
  without (Some n) turn done = tt

  flows : (f : Flow) (before : NumericArgument) (arguments : Arguments) → IsSo before arguments.level
      → IfOk (turn_of f e arguments frame) (λ turn. IsSo (behind_flow f before) turn.arguments.level)
  flows flow.Iterate before arguments is =
      onward_any TurnDone (arguments_of arguments.level) _ (λ taken there.
      iterates taken.value (levels_after_taking arguments) refl)
  flows flow.EndTurn before arguments is = ends_turn frame.loops
  flows flow.Leave before arguments is = leaves_iteration frame.loops arguments
  flows (flow.Test test) before arguments is =
      onward_any TurnDone (arguments_of arguments.level) _ (λ taken there.
      onward_any TurnDone (needed_value taken.value) _ (λ n needed.
      branches (holds test n) (levels_after_taking arguments) refl))
  flows flow.Otherwise before arguments is =
      jumps e frame (λ (a : Arguments). IsSo before a.level) code.Utc arguments is
  flows flow.EndTest before arguments is = is
  flows flow.GoTo before arguments is =
      onward_any TurnDone (arguments_of arguments.level) _ (λ taken there.
      onward TurnDone TurnDone (jump code.Tag e no_arguments frame) _ (jumps e frame Done code.Tag no_arguments refl)
      (λ turn done. without taken.value turn done))
  flows flow.Comment before arguments is = is
  flows (flow.GoAhead g) before arguments is =
      goes_ahead e frame (λ (a : Arguments). IsSo before a.level) g arguments is

-- a miss that leaves its iteration drops all arguments
abbrev MissDone : Miss → Type 0
MissDone (Leaves turn) = Done turn.arguments
MissDone miss = ⊤

leaves_by : (r : Result Turn Code) → IfOk r (λ turn. Done turn.arguments) → MissDone (leaving_by r)
leaves_by (Err c) i = tt
leaves_by (Ok turn) i = i

miss_in : (loops : List Loop) (e : Element) (frame : Frame) → MissDone (miss_within loops e frame)
miss_in [] e frame = tt
miss_in (loop ∷ outer) e frame = leaves_by _ (jumps e frame Done code.Utc no_arguments refl)

miss_done : (colon : Bool) (e : Element) (frame : Frame) → MissDone (miss_where colon e frame)
miss_done true e frame = tt
miss_done false e frame = miss_in frame.loops e frame

-- ---- all elements
module _ (s : State) (e : Element) where
  abbrev ReplyDone : Reply → Type 0
  ReplyDone reply = Done reply.arguments

  abbrev ReplyIs : NumericArgument → Reply → Type 0
  ReplyIs known reply = IsSo known reply.arguments.level

  abbrev AfterIs : NumericArgument → After → Type 0
  AfterIs known done = IsSo known done.arguments.level

  behind_is : (known : NumericArgument) (r : Result After Code) → IfOk r (AfterIs known)
      → IfOk (on_editor s.left s.world r) (ReplyIs known)
  behind_is known r i = onward_made (AfterIs known) (ReplyIs known) r _ i (λ done has. has)

  kept_after : (known : NumericArgument) (new : Kept) (r : Result Arguments Code) → IfOk r (λ a. IsSo known a.level)
      → IfOk (r >>= λ levels. Ok (record { kept = new; arguments = levels })) (AfterIs known)
  kept_after known new r i = onward (λ (a : Arguments). IsSo known a.level) (AfterIs known) r _ i (λ levels has. has)

  has_value : (q : Query) (level : Level) → HasValue level → IsSo (behind_query q) level
  has_value (query_kind.Number r) level has = has
  has_value query_kind.Mode level has = has.0
  has_value query_kind.Conversion level has = has.0

  asked_with : (q : Query) (n : ℤ)
      → IfOk (after_query_with q e.colons (Some n) s.world.kept s.arguments) (AfterIs (behind_query q))
  asked_with (query_kind.Number r) n = (refl, some_value _)
  asked_with query_kind.Mode n = refl
  asked_with query_kind.Conversion n =
      onward_any (AfterIs known.Complete) (query_with query_kind.Conversion n s.world.kept) _ (λ effect is.
      answered effect.answer (levels_after_taking s.arguments) refl)

  asked : (q : Query) (o : Option ℤ)
      → IfOk (after_query_with q e.colons o s.world.kept s.arguments) (AfterIs (behind_query q))
  asked q None =
      kept_after (behind_query q) (query q e.colons s.world.kept).kept _
      (leveled (IsSo (behind_query q)) s.arguments _
      (weaker HasValue (IsSo (behind_query q)) (level_with (query q e.colons s.world.kept).value s.arguments.level)
      (valued _ s.arguments.level) (has_value q)))
  asked q (Some n) = asked_with q n

  -- pages and files
  waits : (left : ℕ) (arguments : Arguments) (world : World) → Done arguments
      → ReplyDone (while_left left arguments world)
  waits zero arguments world done = done
  waits (suc n) arguments world done = done

  in_pages_done : (arguments : Arguments) (r : Result Progress Code) → Done arguments
      → IfOk (in_pages arguments r) ReplyDone
  in_pages_done arguments r done =
      onward_made (λ d. ⊤) ReplyDone r _ (anything r)
      (λ progress any. waits progress.left arguments progress.world done)

  pages_done : (one : World → Result World Code) (left : Option ℕ)
      → ((n : ℕ) → left ≡ Some n → Done s.arguments) → IfOk (pages_reply one left s.arguments s.world) ReplyDone
  pages_done one None amid =
      onward_any ReplyDone (arguments_of s.arguments.level) _ (λ taken is. in_pages_done _ _ refl)
  pages_done one (Some n) amid = in_pages_done s.arguments _ (amid n refl)

  moves_on : (arguments : Arguments) (r : Result World Code) → Done arguments
      → IfOk (going_on s.left arguments r) ReplyDone
  moves_on arguments r done = onward_made (λ d. ⊤) ReplyDone r _ (anything r) (λ d any. done)

  appends : (value : Option ℤ) → IfOk (append_reply value s.left (levels_after_taking s.arguments) s.world) ReplyDone
  appends None = moves_on (levels_after_taking s.arguments) _ refl
  appends (Some n) = answered (Some (character n s.world.kept)) (levels_after_taking s.arguments) refl

  pages : (p : Page) → (is_long (kind.Page p) ≡ true → (n : ℕ) → s.left ≡ Some n → Done s.arguments)
      → IfOk (page_reply p s.left s.arguments s.world) ReplyDone
  pages page.Yank amid =
      onward_any ReplyDone (arguments_of s.arguments.level) _
      (λ taken is. moves_on (levels_after_taking s.arguments) _ refl)
  pages page.Append amid = onward_any ReplyDone (arguments_of s.arguments.level) _ (λ taken is. appends taken.value)
  pages page.Next amid = pages_done page_turned s.left (amid refl)
  pages page.Write amid = pages_done page_written s.left (amid refl)

  opens : (o : Option World) → ReplyDone (opened s.left (levels_after_taking s.arguments) s.world o)
  opens None = refl
  opens (Some world) = refl

  files : (f : File) → IfOk (filed f e.text s.left (levels_after_taking s.arguments) s.world) ReplyDone
  files file.Read = onward_made (λ d. ⊤) ReplyDone (open_input e.text s.world) _ (anything _) (λ o any. opens o)
  files file.Write = moves_on (levels_after_taking s.arguments) _ refl
  files file.Close = moves_on (levels_after_taking s.arguments) _ refl
  files file.Abandon = refl
  files file.Copy = moves_on (levels_after_taking s.arguments) _ refl
  files file.Exit = refl

  -- searches
  module _ (x : Search) (miss : Miss) (has_miss : MissDone miss) where
    misses : (miss : Miss) → MissDone miss → (left : Option ℕ) (arguments : Arguments) (old new : World)
        → Done arguments → ReplyDone (missed miss left arguments old new)
    misses Answers m left arguments old new done = answered (Some (pos 0)) arguments done
    misses (Leaves turn) m left arguments old new done = m
    misses Unended m left arguments old new done = done
    misses Fails m left arguments old new done = done

    finds : (finding : Finding) → ReplyDone (found e miss s.left (levels_after_taking s.arguments) s.world finding)
    finds (Found new) = answered (answer_by miss) (levels_after_taking s.arguments) refl
    finds (Missed new) = misses miss has_miss s.left (levels_after_taking s.arguments) _ _ refl

    in_buffer : IfOk (found_in_buffer x e miss s.left s.arguments s.world) ReplyDone
    in_buffer =
        onward_any ReplyDone (arguments_of s.arguments.level) _ (λ taken is.
        onward_made (λ d. ⊤) ReplyDone (search x e taken s.world.kept) _ (anything _) (λ finding any. finds finding))

    looks : (arguments : Arguments) → Done arguments → (look : Looked) → ReplyDone (looked miss arguments look)
    looks arguments done (Met new) = answered (answer_by miss) arguments done
    looks arguments done (Turned n new) = done
    looks arguments done (Through last) = misses miss has_miss None arguments last _ done

    in_pages_found : (left : Option ℕ) → ((n : ℕ) → left ≡ Some n → Done s.arguments)
        → IfOk (found_in_pages x e miss left s.arguments s.world) ReplyDone
    in_pages_found None amid =
        onward_any ReplyDone (arguments_of s.arguments.level) _ (λ taken is.
        onward_made (λ d. ⊤) ReplyDone (look_first x e taken s.world) _ (anything _)
        (λ look any. looks (levels_after_taking s.arguments) refl look))
    in_pages_found (Some n) amid =
        onward_made (λ d. ⊤) ReplyDone (look_for x e n s.world) _ (anything _)
        (λ look any. looks s.arguments (amid n refl) look)

  searches : (x : Search) (miss : Miss) → MissDone miss
      → (is_long (kind.Search x) ≡ true → (n : ℕ) → s.left ≡ Some n → Done s.arguments)
      → IfOk (search_reply x e miss s.left s.arguments s.world) ReplyDone
  searches search_kind.Find miss m amid = in_buffer search_kind.Find miss m
  searches search_kind.Replace miss m amid = in_buffer search_kind.Replace miss m
  searches search_kind.FindInPages miss m amid = in_pages_found search_kind.FindInPages miss m s.left (amid refl)
  searches search_kind.ReplaceInPages miss m amid = in_pages_found search_kind.ReplaceInPages miss m s.left (amid refl)

  element_leaves : (k : Kind) (before : NumericArgument) → (is_long k ≡ false → IsSo before s.arguments.level)
      → (is_long k ≡ true → (n : ℕ) → s.left ≡ Some n → Done s.arguments)
      → IfOk (reply_of k e s) (ReplyIs (behind_kind k e.text before))
  unfolding reply_of
  element_leaves (kind.Argument a) before is amid =
      behind_is (behind_argument a e.text before) _
      (kept_after (behind_argument a e.text before) s.world.kept _ (argued a e.text before s.arguments (is refl)))
  element_leaves (kind.Value v) before is amid =
      behind_is known.Value _ (kept_after known.Value s.world.kept _
      (leveled HasValue s.arguments _ (machine_valued v s.world.kept s.arguments.level)))
  element_leaves (kind.Query q) before is amid =
      behind_is (behind_query q) _ (asked q (value_for q e.colons s.arguments.level))
  element_leaves (kind.Stack k) before is amid =
      behind_is before _ (onward_any (AfterIs before) (stack k s.world.kept) _ (λ new there. is refl))
  element_leaves (kind.Call c) before is amid = is refl
  element_leaves (kind.Flow f) before is amid =
      onward_made (λ (turn : Turn). IsSo (behind_flow f before) turn.arguments.level) (ReplyIs (behind_flow f before))
      (turn_of f e s.arguments s.frames.running) _ (flows e s.frames.running f before s.arguments (is refl))
      (λ turn has. has)
  element_leaves (kind.Command c) before is amid =
      behind_is known.Complete _ (onward_any (AfterIs known.Complete) (arguments_of s.arguments.level) _ (λ taken there.
      onward_any (AfterIs known.Complete) (execution c e taken s.world.kept) _ (λ effect done.
      answered effect.answer (levels_after_taking s.arguments) refl)))
  element_leaves (kind.Page p) before is amid = pages p amid
  element_leaves (kind.Search x) before is amid =
      searches x (miss_of e s.frames.running) (miss_done (has_colon e s.frames.running) e s.frames.running) amid
  element_leaves (kind.File f) before is amid =
      onward_any ReplyDone (arguments_of s.arguments.level) _ (λ taken there. files f)

-- ---- steps
-- an element of several steps takes its argument in the first of them
long_is_done : (k : Kind) (text : List ℕ) (before : NumericArgument) → is_long k ≡ true
    → behind_kind k text before ≡ known.Complete
long_is_done (kind.Page p) text before long = refl
long_is_done (kind.Search x) text before long = refl
long_is_done (kind.Argument a) text before long = absurd cc
long_is_done (kind.Value v) text before long = absurd cc
long_is_done (kind.Query q) text before long = absurd cc
long_is_done (kind.Stack k) text before long = absurd cc
long_is_done (kind.Call c) text before long = absurd cc
long_is_done (kind.Flow f) text before long = absurd cc
long_is_done (kind.Command c) text before long = absurd cc
long_is_done (kind.File f) text before long = absurd cc

by_element : (s t : State) (e : Element) (before : NumericArgument)
    → (is_long e.kind ≡ false → IsSo before s.arguments.level)
    → (is_long e.kind ≡ true → (n : ℕ) → s.left ≡ Some n → Done s.arguments)
    → outcome_at s (Ok (Some e)) ≡ Next t → IsSo (behind_kind e.kind e.text before) t.arguments.level
by_element s t e before is amid goes =
    settle_leaves s e (λ (a : Arguments). IsSo (behind_kind e.kind e.text before) a.level) t (reply_of e.kind e s)
    (element_leaves s e e.kind before is amid) goes

known_somehow : (s : State) (read : Option Element) (before : NumericArgument) → IsKnown read before s
    → before ≢ known.Unreached
known_somehow s read before is e = by s.left refl
  where
    by : (left : Option ℕ) → s.left ≡ left → ⊥
    by None none = subst (λ b. IsSo b s.arguments.level) e (is.begins none)
    by (Some n) left = subst (λ b. IsSo (behind read b) s.arguments.level) e (is.goes_on n left)

pub by_kind : (e : Element) (before : NumericArgument) → before ≢ known.Unreached
    → behind (Some e) before ≡ behind_kind e.kind e.text before
by_kind e known.Unreached reached = absurd (reached refl)
by_kind e known.Unknown reached = refl
by_kind e known.Complete reached = refl
by_kind e known.Number reached = refl
by_kind e known.Value reached = refl
by_kind e (known.Exactly n) reached = refl

at_end : (before : NumericArgument) → behind None before ≡ before
at_end known.Unreached = refl
at_end known.Unknown = refl
at_end known.Complete = refl
at_end known.Number = refl
at_end known.Value = refl
at_end (known.Exactly n) = refl

pub none_left : (k : Kind) (left : Option ℕ) → ((n : ℕ) → left ≡ Some n → is_long k ≡ true)
    → is_long k ≡ false → left ≡ None
none_left k None long short = refl
none_left k (Some n) long short = absurd (let z : Path Bool true false = sym (long n refl) ∙ short in cc)

pub left_long : (s : State) (e : Element) → IsLeftAt (Some e) s.left → (n : ℕ) → s.left ≡ Some n → is_long e.kind ≡ true
left_long s e is n left = subst (λ l. IsLeftAt (Some e) l) left is

-- what is known before an element that takes one step is so
pub known_before : (s : State) (e : Element) (before : NumericArgument) → IsLeftAt (Some e) s.left
    → IsKnown (Some e) before s → is_long e.kind ≡ false → IsSo before s.arguments.level
known_before s e before left is short = is.begins (none_left e.kind s.left (left_long s e left) short)

outcome_leaves : (s t : State) (read : Option Element) (before : NumericArgument) → IsLeftAt read s.left
    → IsKnown read before s → outcome_at s (Ok read) ≡ Next t → IsSo (behind read before) t.arguments.level
outcome_leaves s t None before left is goes =
    let same = end_with s t s.frames.running.loops goes in
    subst (λ (a : Arguments). IsSo (behind None before) a.level) same (here s.left refl)
  where
    here : (l : Option ℕ) → s.left ≡ l → IsSo (behind None before) s.arguments.level
    here None none = subst (λ b. IsSo b s.arguments.level) (sym (at_end before)) (is.begins none)
    here (Some n) some = is.goes_on n some
outcome_leaves s t (Some e) before left is goes =
    let reached = by_kind e before (known_somehow s (Some e) before is) in
    subst (λ b. IsSo b t.arguments.level) (sym reached)
    (by_element s t e before (known_before s e before left is)
    (λ long n some. subst (λ b. IsSo b s.arguments.level) (reached ∙ long_is_done e.kind e.text before long)
    (is.goes_on n some)) goes)

pub steps_leave_arguments : StepsLeaveArguments
unfolding step
steps_leave_arguments s t read before left is reads goes =
    outcome_leaves s t read before left is (ap (outcome_at s) (sym reads) ∙ goes)
