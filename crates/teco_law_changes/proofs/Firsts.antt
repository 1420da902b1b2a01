-- No first argument is pending where no element gives one.
use Rattle.std.proofs.Common.{◌≡◌, ℕ, ℤ, pos, zero, suc, List, [], ◌∷◌, refl, sym, ap, ◌∙◌, subst, Option, Some, None}
use Rattle.std.proofs.Common.{Result, Ok, Err, Bool, true, false}
use Rattle.std.specs.List.{AllByRecursion}
use Rattle.std.specs.Prelude.{IfOk, ⊤}
use Rattle.std.specs.Option.{ok_or}
use Rattle.teco_base.specs.Results.{◌>>=◌}
use Rattle.teco_base.specs.declared.code.Code.{Code}
use Rattle.teco_base.specs.declared.code.Code.TheVariants as code
use Rattle.teco_law_changes.specs.Steps.{HaveNoFirst, StepsGiveNoFirst, gives_first, gives_first_in}
use Rattle.teco_law_changes.proofs.Results.{onward, onward_any, onward_made}
use Rattle.teco_law_changes.proofs.Steps.{anything}
use Rattle.teco_model.specs.Ahead.{Whole as WholeGoal}
use Rattle.teco_model.specs.Arguments.{Arguments, arguments_of, level_with, level_with_operator}
use Rattle.teco_model.specs.Arguments.{levels_after_answer}
use Rattle.teco_model.specs.Arguments.{levels_after_taking, levels_closed_onto}
use Rattle.teco_model.specs.Arguments.{no_arguments, operator_after, run_value, value_with, with_level, inner_value}
use Rattle.teco_model.specs.Character.{character}
use Rattle.teco_model.specs.Condition.{holds}
use Rattle.teco_model.specs.Effect.{needed_value}
use Rattle.teco_model.specs.Element.{Element}
use Rattle.teco_model.specs.Filing.{open_input}
use Rattle.teco_model.specs.Flow.{Turn, conditional, counted_iteration, going_ahead, iteration, jump, later_turns}
use Rattle.teco_model.specs.Flow.{leaves, leaving, leaving_where, next_turn, to_turn_end, turn_end, turn_of}
use Rattle.teco_model.specs.Flow.{without_value}
use Rattle.teco_model.specs.Going.{After, Again, Along, Behind, Course, Into, NoFile, Quit, Refused, Reply, on_editor}
use Rattle.teco_model.specs.Going.{settle, settled}
use Rattle.teco_model.specs.Outside.{append_reply, filed, going_on, in_pages, opened, page_reply, pages_reply}
use Rattle.teco_model.specs.Outside.{while_left}
use Rattle.teco_model.specs.Paging.{Looked, Met, Progress, Through, Turned, look_first, look_for, page_turned}
use Rattle.teco_model.specs.Paging.{page_written}
use Rattle.teco_model.specs.Query.{query, query_with}
use Rattle.teco_model.specs.Search.{Finding, Found, Missed, search}
use Rattle.teco_model.specs.Searching.{Answers, Fails, Leaves, Miss, Unended, answer_by, found, found_in_buffer}
use Rattle.teco_model.specs.Searching.{found_in_pages}
use Rattle.teco_model.specs.Searching.{has_colon, leaving_by, looked, miss_of, miss_where, miss_within, missed}
use Rattle.teco_model.specs.Searching.{search_reply}
use Rattle.teco_model.specs.Skip.{skip_of}
use Rattle.teco_model.specs.State.{Frame, Kept, Next, State, World}
use Rattle.teco_model.specs.Step.{after_query_with, end_of_text, end_outcome, execution, level_with_value, levels_after}
use Rattle.teco_model.specs.Step.{outcome_at, value_for}
unfoldable use Rattle.teco_model.specs.Step.{reply_of, step}
use Rattle.teco_model.specs.Storage.{stack}
use Rattle.teco_model.specs.declared.arguments.Level.{Level}
use Rattle.teco_model.specs.declared.flow.Loop.{Loop}
use Rattle.teco_model.specs.declared.kind.Argument.{Argument}
use Rattle.teco_model.specs.declared.kind.Argument.TheVariants.{DropAll, Digits, Operate, Open, Close, Comma}
use Rattle.teco_model.specs.declared.kind.File.{File}
use Rattle.teco_model.specs.declared.kind.File.TheVariants as file
use Rattle.teco_model.specs.declared.kind.Flow.{Flow}
use Rattle.teco_model.specs.declared.kind.Flow.TheVariants as flow
use Rattle.teco_model.specs.declared.kind.Goal.{Goal}
use Rattle.teco_model.specs.declared.kind.Goal.TheVariants as goal
use Rattle.teco_model.specs.declared.kind.Kind.{Kind}
use Rattle.teco_model.specs.declared.kind.Kind.TheVariants as kind
use Rattle.teco_model.specs.declared.kind.MachineValue.{MachineValue}
use Rattle.teco_model.specs.declared.kind.MachineValue.TheVariants.{Begin, Size, Pointer, Whole, LastLength, LastText}
use Rattle.teco_model.specs.declared.kind.Page.{Page}
use Rattle.teco_model.specs.declared.kind.Page.TheVariants as page
use Rattle.teco_model.specs.declared.kind.Query.{Query}
use Rattle.teco_model.specs.declared.kind.Search.{Search}
use Rattle.teco_model.specs.declared.kind.Search.TheVariants as search_kind

abbrev NoFirst : Level → Type 0
NoFirst level = level.first ≡ None

abbrev NoFirstOutside : List Level → Type 0
NoFirstOutside outer = AllByRecursion NoFirst outer

abbrev TurnHas : Turn → Type 0
TurnHas turn = HaveNoFirst turn.arguments

none_pending : HaveNoFirst no_arguments
none_pending = record { level = refl; outer = tt }

-- ---- levels
valued : (v : ℤ) (level : Level) → NoFirst level → IfOk (level_with v level) NoFirst
valued v level none = onward_any NoFirst (value_with v level.value level.operator) _ (λ given is. none)

operated : (operator : _) (level : Level) → NoFirst level → IfOk (level_with_operator operator level) NoFirst
operated operator level none = onward_any NoFirst (operator_after operator level.operator) _ (λ pending is. none)

module _ (arguments : Arguments) (have : HaveNoFirst arguments) where
  leveled : (r : Result Level Code) → IfOk r NoFirst → IfOk (with_level arguments r) HaveNoFirst
  leveled r i = onward NoFirst HaveNoFirst r _ i (λ level none. record { level = none; outer = have.outer })

  taken_away : HaveNoFirst (levels_after_taking arguments)
  taken_away = record { level = refl; outer = have.outer }

  answered : (answer : Option ℤ) → HaveNoFirst (levels_after_answer answer arguments)
  answered None = have
  answered (Some v) = record { level = refl; outer = have.outer }

closed : (level : Level) (outer : List Level) → NoFirstOutside outer → IfOk (levels_closed_onto level outer) HaveNoFirst
closed level [] none = tt
closed level (outside ∷ outer) none =
    onward_any HaveNoFirst (inner_value level) _ (λ value is.
    onward NoFirst HaveNoFirst (level_with value outside) _ (valued value outside none.0)
    (λ given first. record { level = first; outer = none.1 }))

argued : (a : Argument) (text : List ℕ) (arguments : Arguments) → gives_first (kind.Argument a) ≡ false
    → HaveNoFirst arguments → IfOk (levels_after a text arguments) HaveNoFirst
argued DropAll text arguments gives have = none_pending
argued Digits text arguments gives have =
    leveled arguments have _ (valued (run_value text) arguments.level have.level)
argued (Operate operator) text arguments gives have =
    leveled arguments have _ (operated operator arguments.level have.level)
argued Open text arguments gives have = record { level = refl; outer = (have.level, have.outer) }
argued Close text arguments gives have = closed arguments.level arguments.outer have.outer
argued Comma text arguments gives have = absurd cc

machine_valued : (v : MachineValue) (kept : Kept) (level : Level) → gives_first (kind.Value v) ≡ false → NoFirst level
    → IfOk (level_with_value v kept level) NoFirst
machine_valued Begin kept level gives none = valued _ level none
machine_valued Size kept level gives none = valued _ level none
machine_valued Pointer kept level gives none = valued _ level none
machine_valued LastLength kept level gives none = valued _ level none
machine_valued Whole kept level gives none = absurd cc
machine_valued LastText kept level gives none = absurd cc

-- ---- flow
module _ (e : Element) (frame : Frame) where
  jumps : (c : Code) (arguments : Arguments) → HaveNoFirst arguments → IfOk (jump c e arguments frame) TurnHas
  jumps c arguments have = onward_any TurnHas (ok_or (skip_of frame.text (WholeGoal e)).to c) _ (λ place is. have)

  counted : (turns : Option ℕ) (arguments : Arguments) → HaveNoFirst arguments
      → IfOk (counted_iteration e turns arguments frame) TurnHas
  counted None arguments have = jumps code.Utc arguments have
  counted (Some turns) arguments have = have

  iterates : (value : Option ℤ) (arguments : Arguments) → HaveNoFirst arguments
      → IfOk (iteration e value arguments frame) TurnHas
  iterates None arguments have = have
  iterates (Some n) arguments have = counted (later_turns n) arguments have

  turns_on : (loop : Loop) (outer : List Loop) (turns : Option ℕ) → loop.turns ≡ turns
      → TurnHas (next_turn e (record { start = loop.start; turns = turns }) outer frame)
  turns_on loop outer None is = none_pending
  turns_on loop outer (Some zero) is = none_pending
  turns_on loop outer (Some (suc n)) is = none_pending

  ends_turn : (loops : List Loop) → IfOk (turn_end e loops frame) TurnHas
  ends_turn [] = tt
  ends_turn (loop ∷ outer) = turns_on loop outer loop.turns refl

  leaves_where : (t : Bool) (arguments : Arguments) → HaveNoFirst arguments
      → IfOk (leaving_where t e arguments frame) TurnHas
  leaves_where true arguments have = jumps code.Utc no_arguments none_pending
  leaves_where false arguments have = have

  leaves_iteration : (loops : List Loop) (arguments : Arguments) → HaveNoFirst arguments
      → IfOk (leaving e loops arguments frame) TurnHas
  leaves_iteration [] arguments have = tt
  leaves_iteration (loop ∷ outer) arguments have =
      onward_any TurnHas (arguments_of arguments.level) _ (λ taken is.
      onward_any TurnHas (needed_value taken.value) _ (λ n there.
      leaves_where (leaves e.colons n) (levels_after_taking arguments) (taken_away arguments have)))

  branches : (t : Bool) (arguments : Arguments) → HaveNoFirst arguments → IfOk (conditional t e arguments frame) TurnHas
  branches true arguments have = have
  branches false arguments have = jumps code.Utc arguments have

  goes_to_end : (loops : List Loop) (arguments : Arguments) → HaveNoFirst arguments
      → IfOk (to_turn_end e loops arguments frame) TurnHas
  goes_to_end [] arguments have = tt
  goes_to_end (loop ∷ outer) arguments have = jumps code.Utc arguments have

  goes_ahead : (g : Goal) (arguments : Arguments) → HaveNoFirst arguments
      → IfOk (going_ahead g e arguments frame) TurnHas
  goes_ahead goal.EndTurn arguments have = goes_to_end frame.loops arguments have
  goes_ahead g arguments have = jumps code.Utc arguments have

  without : (value : Option ℤ) (turn : Turn) → TurnHas turn → IfOk (without_value value turn) TurnHas
  without None turn have = have
  without (Some n) turn have = tt

  flows : (f : Flow) (arguments : Arguments) → HaveNoFirst arguments → IfOk (turn_of f e arguments frame) TurnHas
  flows flow.Iterate arguments have =
      onward_any TurnHas (arguments_of arguments.level) _ (λ taken is.
      iterates taken.value (levels_after_taking arguments) (taken_away arguments have))
  flows flow.EndTurn arguments have = ends_turn frame.loops
  flows flow.Leave arguments have = leaves_iteration frame.loops arguments have
  flows (flow.Test test) arguments have =
      onward_any TurnHas (arguments_of arguments.level) _ (λ taken is.
      onward_any TurnHas (needed_value taken.value) _ (λ n there.
      branches (holds test n) (levels_after_taking arguments) (taken_away arguments have)))
  flows flow.Otherwise arguments have = jumps code.Utc arguments have
  flows flow.EndTest arguments have = have
  flows flow.GoTo arguments have =
      onward_any TurnHas (arguments_of arguments.level) _ (λ taken is.
      onward TurnHas TurnHas (jump code.Tag e no_arguments frame) _ (jumps code.Tag no_arguments none_pending)
      (λ turn has. without taken.value turn has))
  flows flow.Comment arguments have = have
  flows (flow.GoAhead g) arguments have = goes_ahead g arguments have

-- a miss that leaves its iteration drops all arguments
abbrev MissHas : Miss → Type 0
MissHas (Leaves turn) = TurnHas turn
MissHas miss = ⊤

leaves_by : (r : Result Turn Code) → IfOk r TurnHas → MissHas (leaving_by r)
leaves_by (Err c) i = tt
leaves_by (Ok turn) i = i

miss_in : (loops : List Loop) (e : Element) (frame : Frame) → MissHas (miss_within loops e frame)
miss_in [] e frame = tt
miss_in (loop ∷ outer) e frame = leaves_by _ (jumps e frame code.Utc no_arguments none_pending)

miss_has : (colon : Bool) (e : Element) (frame : Frame) → MissHas (miss_where colon e frame)
miss_has true e frame = tt
miss_has false e frame = miss_in frame.loops e frame

-- ---- all elements
module _ (s : State) (e : Element) (have : HaveNoFirst s.arguments) where
  abbrev Has : Reply → Type 0
  Has reply = HaveNoFirst reply.arguments

  abbrev AfterHas : After → Type 0
  AfterHas done = HaveNoFirst done.arguments

  rest : HaveNoFirst (levels_after_taking s.arguments)
  rest = taken_away s.arguments have

  behind : (r : Result After Code) → IfOk r AfterHas → IfOk (on_editor s.left s.world r) Has
  behind r i = onward_made AfterHas Has r _ i (λ done has. has)

  kept_after : (new : Kept) (r : Result Arguments Code) → IfOk r HaveNoFirst
      → IfOk (r >>= λ levels. Ok (record { kept = new; arguments = levels })) AfterHas
  kept_after new r i = onward HaveNoFirst AfterHas r _ i (λ levels has. has)

  asked : (q : Query) (colons : ℕ) (o : Option ℤ) → IfOk (after_query_with q colons o s.world.kept s.arguments) AfterHas
  asked q colons None =
      kept_after (query q colons s.world.kept).kept _
      (leveled s.arguments have _ (valued _ s.arguments.level have.level))
  asked q colons (Some n) =
      onward_any AfterHas (query_with q n s.world.kept) _ (λ effect is.
      answered (levels_after_taking s.arguments) rest effect.answer)

  -- pages and files
  waits : (left : ℕ) (arguments : Arguments) (world : World) → HaveNoFirst arguments
      → Has (while_left left arguments world)
  waits zero arguments world has = has
  waits (suc n) arguments world has = has

  in_pages_has : (arguments : Arguments) (r : Result Progress Code) → HaveNoFirst arguments
      → IfOk (in_pages arguments r) Has
  in_pages_has arguments r has =
      onward_made (λ d. ⊤) Has r _ (anything r) (λ progress any. waits progress.left arguments progress.world has)

  pages_have : (one : World → Result World Code) (left : Option ℕ)
      → IfOk (pages_reply one left s.arguments s.world) Has
  pages_have one None =
      onward_any Has (arguments_of s.arguments.level) _ (λ taken is. in_pages_has _ _ rest)
  pages_have one (Some n) = in_pages_has s.arguments _ have

  moves_on : (arguments : Arguments) (r : Result World Code) → HaveNoFirst arguments
      → IfOk (going_on s.left arguments r) Has
  moves_on arguments r has = onward_made (λ d. ⊤) Has r _ (anything r) (λ d any. has)

  appends : (value : Option ℤ) → IfOk (append_reply value s.left (levels_after_taking s.arguments) s.world) Has
  appends None = moves_on _ _ rest
  appends (Some n) = answered (levels_after_taking s.arguments) rest (Some (character n s.world.kept))

  pages : (p : Page) → IfOk (page_reply p s.left s.arguments s.world) Has
  pages page.Yank = onward_any Has (arguments_of s.arguments.level) _ (λ taken is. moves_on _ _ rest)
  pages page.Append = onward_any Has (arguments_of s.arguments.level) _ (λ taken is. appends taken.value)
  pages page.Next = pages_have page_turned s.left
  pages page.Write = pages_have page_written s.left

  opens : (o : Option World) → Has (opened s.left (levels_after_taking s.arguments) s.world o)
  opens None = rest
  opens (Some world) = rest

  files : (f : File) → IfOk (filed f e.text s.left (levels_after_taking s.arguments) s.world) Has
  files file.Read = onward_made (λ d. ⊤) Has (open_input e.text s.world) _ (anything _) (λ o any. opens o)
  files file.Write = moves_on _ _ rest
  files file.Close = moves_on _ _ rest
  files file.Abandon = rest
  files file.Copy = moves_on _ _ rest
  files file.Exit = rest

  -- searches
  module _ (x : Search) (miss : Miss) (has_miss : MissHas miss) where
    misses : (miss : Miss) → MissHas miss → (left : Option ℕ) (arguments : Arguments) (old new : World)
        → HaveNoFirst arguments → Has (missed miss left arguments old new)
    misses Answers m left arguments old new has = answered arguments has (Some (pos 0))
    misses (Leaves turn) m left arguments old new has = m
    misses Unended m left arguments old new has = has
    misses Fails m left arguments old new has = has

    finds : (finding : Finding) → Has (found e miss s.left (levels_after_taking s.arguments) s.world finding)
    finds (Found new) = answered (levels_after_taking s.arguments) rest (answer_by miss)
    finds (Missed new) = misses miss has_miss s.left _ _ _ rest

    in_buffer : IfOk (found_in_buffer x e miss s.left s.arguments s.world) Has
    in_buffer =
        onward_any Has (arguments_of s.arguments.level) _ (λ taken is.
        onward_made (λ d. ⊤) Has (search x e taken s.world.kept) _ (anything _) (λ finding any. finds finding))

    looks : (arguments : Arguments) → HaveNoFirst arguments → (look : Looked) → Has (looked miss arguments look)
    looks arguments has (Met new) = answered arguments has (answer_by miss)
    looks arguments has (Turned n new) = has
    looks arguments has (Through last) = misses miss has_miss None arguments last _ has

    in_pages_found : (left : Option ℕ) → IfOk (found_in_pages x e miss left s.arguments s.world) Has
    in_pages_found None =
        onward_any Has (arguments_of s.arguments.level) _ (λ taken is.
        onward_made (λ d. ⊤) Has (look_first x e taken s.world) _ (anything _) (λ look any. looks _ rest look))
    in_pages_found (Some n) =
        onward_made (λ d. ⊤) Has (look_for x e n s.world) _ (anything _) (λ look any. looks s.arguments have look)

  searches : (x : Search) (miss : Miss) → MissHas miss
      → IfOk (search_reply x e miss s.left s.arguments s.world) Has
  searches search_kind.Find miss m = in_buffer search_kind.Find miss m
  searches search_kind.Replace miss m = in_buffer search_kind.Replace miss m
  searches search_kind.FindInPages miss m = in_pages_found search_kind.FindInPages miss m s.left
  searches search_kind.ReplaceInPages miss m = in_pages_found search_kind.ReplaceInPages miss m s.left

  element_has : (k : Kind) → gives_first k ≡ false → IfOk (reply_of k e s) Has
  unfolding reply_of
  element_has (kind.Argument a) gives =
      behind _ (kept_after s.world.kept _ (argued a e.text s.arguments gives have))
  element_has (kind.Value v) gives =
      behind _ (kept_after s.world.kept _ (leveled s.arguments have _
      (machine_valued v s.world.kept s.arguments.level gives have.level)))
  element_has (kind.Query q) gives =
      behind _ (asked q e.colons (value_for q e.colons s.arguments.level))
  element_has (kind.Stack k) gives =
      behind _ (onward_any AfterHas (stack k s.world.kept) _ (λ new is. have))
  element_has (kind.Call c) gives = have
  element_has (kind.Flow f) gives =
      onward_made TurnHas Has (turn_of f e s.arguments s.frames.running) _ (flows e s.frames.running f s.arguments have)
      (λ turn has. has)
  element_has (kind.Command c) gives =
      behind _ (onward_any AfterHas (arguments_of s.arguments.level) _ (λ taken is.
      onward_any AfterHas (execution c e taken s.world.kept) _ (λ effect there.
      answered (levels_after_taking s.arguments) rest effect.answer)))
  element_has (kind.Page p) gives = pages p
  element_has (kind.Search x) gives =
      searches x (miss_of e s.frames.running) (miss_has (has_colon e s.frames.running) e s.frames.running)
  element_has (kind.File f) gives =
      onward_any Has (arguments_of s.arguments.level) _ (λ taken is. files f)

-- ---- what a reply leaves pending is pending at the next state
module _ (s : State) (e : Element) where
  by_course : (reply : Reply) (t : State) (course : Course) → settled e s.frames reply course ≡ Next t
      → reply.arguments ≡ t.arguments
  by_course reply t Behind goes = let same : reply.arguments ≡ t.arguments = cc in same
  by_course reply t Again goes = let same : reply.arguments ≡ t.arguments = cc in same
  by_course reply t (Along frame) goes = let same : reply.arguments ≡ t.arguments = cc in same
  by_course reply t (Into text) goes = let same : reply.arguments ≡ t.arguments = cc in same
  by_course reply t Quit goes = absurd cc
  by_course reply t NoFile goes = absurd cc
  by_course reply t (Refused c) goes = absurd cc

  pub settle_leaves : (P : Arguments → Type 0) (t : State) (r : Result Reply Code) → IfOk r (λ reply. P reply.arguments)
      → settle e s r ≡ Next t → P t.arguments
  settle_leaves P t (Ok reply) d goes = subst P (by_course reply t reply.course goes) d
  settle_leaves P t (Err c) d goes = absurd cc

returns_with : (s t : State) (callers : List Frame) → end_outcome callers s ≡ Next t → s.arguments ≡ t.arguments
returns_with s t [] goes = absurd cc
returns_with s t (caller ∷ callers) goes = let same : s.arguments ≡ t.arguments = cc in same

pub end_with : (s t : State) (loops : List Loop) → end_of_text loops s ≡ Next t → s.arguments ≡ t.arguments
end_with s t [] goes = returns_with s t s.frames.callers goes
end_with s t (loop ∷ outer) goes = absurd cc

outcome_has : (s t : State) (read : Option Element) → gives_first_in read ≡ false → HaveNoFirst s.arguments
    → outcome_at s (Ok read) ≡ Next t → HaveNoFirst t.arguments
outcome_has s t None gives have goes = subst HaveNoFirst (end_with s t s.frames.running.loops goes) have
outcome_has s t (Some e) gives have goes =
    settle_leaves s e HaveNoFirst t (reply_of e.kind e s) (element_has s e have e.kind gives) goes

pub steps_give_no_first : StepsGiveNoFirst
unfolding step
steps_give_no_first s t read gives have reads goes =
    outcome_has s t read gives have (ap (outcome_at s) (sym reads) ∙ goes)
