-- What each element does to the text of the world, and so each step.
use Rattle.std.proofs.Common.{◌≡◌, ℕ, ℤ, zero, suc, List, [], ◌∷◌, refl, sym, ap, ◌∙◌, subst, Option}
use Rattle.std.proofs.Common.{Some}
use Rattle.std.proofs.Common.{None, Result, Ok, Err, Bool, true, false, cond, arith, is_some}
use Rattle.std.proofs.lemmas.Int.{ints}
use Rattle.std.specs.Int.{w32}
use Rattle.std.specs.Prelude.{IfOk, IfSome, FitsSigned, ⊤}
use Rattle.std.specs.Option.{ok_or}
use Rattle.teco_base.specs.Results.{◌>>=◌}
use Rattle.teco_base.specs.declared.code.Code.{Code}
use Rattle.teco_base.specs.declared.code.Code.TheVariants as code
use Rattle.teco_changes.specs.Changes.{Changes}
use Rattle.teco_changes.specs.Elements.{asked, changes_of, changes_told, commanded, sought as sought_changes, turned}
use Rattle.teco_changes.specs.Worlds.{IsChangedBy, text_of}
use Rattle.teco_changes.specs.declared.change.Change.{Change}
use Rattle.teco_changes.specs.declared.change.Change.TheVariants as change
use Rattle.teco_changes.proofs.Elements.{no_change}
use Rattle.teco_changes.proofs.Numerals.{queries_are_told}
use Rattle.teco_changes.proofs.Unchanged.{commands_are_told}
use Rattle.teco_law_changes.specs.Steps.{IsUnderway, Reads, StepsAreTold, is_ranged, told_of}
use Rattle.teco_law_changes.proofs.Marks.{HasMark, commands_keep_mark, inserted}
use Rattle.teco_law_changes.proofs.Results.{given, of_ok, onward, onward_any, onward_made}
use Rattle.teco_law_changes.proofs.Searches.{FoundTold, LookTold, first_look_is_told, look_is_told, search_is_told}
use Rattle.teco_law_changes.proofs.Worlds.{IsJoined, appending_joins, form_feeds, in_world, turning_keeps}
use Rattle.teco_model.specs.Arguments.{Arguments, arguments_from, arguments_of, final_value, levels_after_taking}
use Rattle.teco_model.specs.Arguments.{standing_value, value_beside, with_level}
use Rattle.teco_model.specs.Element.{Element}
use Rattle.teco_model.specs.Files.{Output}
use Rattle.teco_model.specs.Flow.{turn_of}
use Rattle.teco_model.specs.Going.{After, Again, Along, Behind, Course, Into, NoFile, Quit, Refused, Reply, on_editor}
use Rattle.teco_model.specs.Going.{replying, settle, settled, with_kept}
use Rattle.teco_model.specs.Outside.{append_reply, in_pages, page_reply, pages_reply, while_left}
use Rattle.teco_model.specs.Paging.{Looked, Met, Progress, Through, Turned, append, look_first, look_for}
use Rattle.teco_model.specs.Paging.{looked_through}
use Rattle.teco_model.specs.Paging.{needed_output, one_page_of, page_count, page_turned, pages_of, world_seeking}
use Rattle.teco_model.specs.Query.{query, query_with}
use Rattle.teco_model.specs.Search.{Finding, Found, Missed, search, search_text_of}
use Rattle.teco_model.specs.Searching.{Answers, Fails, Leaves, Miss, Unended, found, found_in_buffer, found_in_pages}
use Rattle.teco_model.specs.Searching.{kept_by_miss}
use Rattle.teco_model.specs.Searching.{looked, miss_of, missed, search_reply, with_message}
use Rattle.teco_model.specs.State.{Frame, Kept, Next, State, World}
use Rattle.teco_model.specs.Step.{after_query_with, end_of_text, end_outcome, execution, level_with_value, levels_after}
use Rattle.teco_model.specs.Step.{outcome_at, takes}
unfoldable use Rattle.teco_model.specs.Step.{reply_of, step}
use Rattle.teco_model.specs.Storage.{push, stack}
use Rattle.teco_model.specs.Registers.{registers_after_pop}
use Rattle.teco_model.specs.declared.arguments.Operator.{Operator}
use Rattle.teco_model.specs.declared.arguments.Taken.{Taken}
use Rattle.teco_model.specs.declared.flow.Loop.{Loop}
use Rattle.teco_model.specs.declared.kind.Command.{Command}
use Rattle.teco_model.specs.declared.kind.Kind.{Kind}
use Rattle.teco_model.specs.declared.kind.Kind.TheVariants as kind
use Rattle.teco_model.specs.declared.kind.Page.{Page}
use Rattle.teco_model.specs.declared.kind.Page.TheVariants as page
use Rattle.teco_model.specs.declared.kind.Query.{Query}
use Rattle.teco_model.specs.declared.kind.Query.TheVariants as query_kind
use Rattle.teco_model.specs.declared.kind.Search.{Search}
use Rattle.teco_model.specs.declared.kind.Search.TheVariants as search_kind
use Rattle.teco_model.specs.declared.kind.Stack.{Stack}
use Rattle.teco_model.specs.declared.kind.Stack.TheVariants as stack_kind
use Rattle.teco_model.specs.laws.Whole.{IsWholeState}

pub anything : {X E : Type 0} (r : Result X E) → IfOk r (λ x. ⊤)
anything (Ok x) = tt
anything (Err e) = tt

module _ (s : State) (e : Element) where
  abbrev pub Told : Option (List Change) → Reply → Type 0
  Told told reply = IsChangedBy told (text_of s.world) (text_of reply.world)

  pub as_was : (changes : List Change) (world : World) → text_of world ≡ text_of s.world
      → Changes changes (text_of s.world) (text_of world)
  as_was changes world same = no_change changes (text_of s.world) (text_of world) (sym same)

  -- ---- elements that work on the editor alone
  abbrev pub Edits : List Change → Kept → Type 0
  Edits changes new =
      (new.form_feed ≡ s.world.kept.form_feed) × Changes changes s.world.kept.text new.text

  abbrev pub EditsAfter : List Change → After → Type 0
  EditsAfter changes done = Edits changes done.kept

  pub behind : (changes : List Change) (r : Result After Code) → IfOk r (EditsAfter changes)
      → IfOk (on_editor s.left s.world r) (Told (Some changes))
  behind changes r i =
      onward_made (EditsAfter changes) (Told (Some changes)) r
      (λ done. replying Behind s.left done.arguments (with_kept done.kept s.world)) i
      (λ done d. in_world changes s.world done.kept d.0 d.1)

  leaves_text : (changes : List Change) (new : Kept) → new.form_feed ≡ s.world.kept.form_feed
      → s.world.kept.text ≡ new.text → Edits changes new
  leaves_text changes new feed same = (feed, no_change changes s.world.kept.text new.text same)

  leveled : (changes : List Change) (new : Kept) → Edits changes new → (r : Result Arguments Code)
      → IfOk (r >>= λ levels. Ok (record { kept = new; arguments = levels })) (EditsAfter changes)
  leveled changes new is r =
      onward_any (EditsAfter changes) r (λ levels. Ok (record { kept = new; arguments = levels })) (λ levels given. is)

  asks : (q : Query) (colons : ℕ) → Edits (asked q) (query q colons s.world.kept).kept
  asks (query_kind.Number r) zero = leaves_text [] s.world.kept refl refl
  asks (query_kind.Number r) (suc colons) = leaves_text [] s.world.kept refl refl
  asks query_kind.Mode colons = leaves_text [] s.world.kept refl refl
  asks query_kind.Conversion colons =
      leaves_text (change.PutsNumber ∷ []) (query query_kind.Conversion colons s.world.kept).kept refl refl

  asks_mark : (q : Query) (n : ℤ) → IfOk (query_with q n s.world.kept) (HasMark s.world.kept)
  asks_mark (query_kind.Number r) n = refl
  asks_mark query_kind.Mode n = refl
  asks_mark query_kind.Conversion n = inserted s.world.kept _

  asks_with : (q : Query) (n : ℤ) → FitsSigned w32 n
      → IfOk (query_with q n s.world.kept) (λ effect. Edits (asked q) effect.kept)
  asks_with q n fits = given (λ effect. Edits (asked q) effect.kept) (query_with q n s.world.kept) (λ effect is. (
    of_ok (HasMark s.world.kept) (query_with q n s.world.kept) effect (asks_mark q n) is,
    queries_are_told q n s.world.kept effect (omega (arith, ints, fits)) is,
  ))

  asked_after : (q : Query) (colons : ℕ) (o : Option ℤ) → IfSome o (FitsSigned w32)
      → IfOk (after_query_with q colons o s.world.kept s.arguments) (EditsAfter (asked q))
  asked_after q colons None fits = leveled (asked q) _ (asks q colons) _
  asked_after q colons (Some n) fits =
      onward (λ effect. Edits (asked q) effect.kept) (EditsAfter (asked q)) (query_with q n s.world.kept) _
      (asks_with q n fits) (λ effect d. d)

  value_fits : IsWholeState s → (t : Bool) → IfSome (cond t (standing_value s.arguments.level) None) (FitsSigned w32)
  value_fits h false = tt
  value_fits h true = by s.arguments.level.operator where
    by : (o : Option Operator) → IfSome (value_beside o s.arguments.level.value) (FitsSigned w32)
    by None = h.arguments.level.value
    by (Some operator) = tt

  stacks : (k : Stack) → IfOk (stack k s.world.kept) (Edits [])
  stacks (stack_kind.Push r) = leaves_text [] (push r s.world.kept) refl refl
  stacks (stack_kind.Pop r) =
      onward_any (Edits []) (ok_or (registers_after_pop r s.world.kept.registers) code.Pes)
      (λ registers. Ok (record s.world.kept { registers = registers }))
      (λ registers is. leaves_text [] (record s.world.kept { registers = registers }) refl refl)

  executes : (c : Command) (taken : Taken)
      → IfOk (execution c e taken s.world.kept) (λ effect. Edits (commanded c e) effect.kept)
  executes c taken = given (λ effect. Edits (commanded c e) effect.kept) (execution c e taken s.world.kept)
      (λ effect is. (
        of_ok (HasMark s.world.kept) (execution c e taken s.world.kept) effect
            (commands_keep_mark s.world.kept c e taken) is,
        commands_are_told c e taken s.world.kept effect is,
      ))

  -- ---- pages
  pub first_taken : (first value : Option ℤ) (taken : Taken) → arguments_from first value ≡ Ok taken → taken.first ≡
      first
  first_taken (Some m) (Some n) taken is = let same : taken.first ≡ Some m = cc in same
  first_taken (Some m) None taken is = absurd cc
  first_taken None value taken is = let same : taken.first ≡ None = cc in same

  abbrev Pages : Progress → Type 0
  Pages progress = text_of progress.world ≡ text_of s.world

  output_is : (o : Option Output) (output : Output) → ok_or o code.Nfo ≡ Ok output → o ≡ Some output
  output_is None output h = absurd cc
  output_is (Some other) output h = ap Some (let same : other ≡ output = cc in same)

  one_turned : (n : ℕ) → IfOk (one_page_of page_turned n s.world) Pages
  one_turned n =
      onward_any Pages (needed_output s.world) _ (λ output is.
      onward (λ new. (text_of new ≡ text_of s.world) × (new.kept.search_text ≡ s.world.kept.search_text)) Pages
      (page_turned s.world) _ (turning_keeps s.world output (output_is s.world.files.output output is))
      (λ new same. same.0))

  turned_first : (first value : Option ℤ) → first ≡ None → IfOk (pages_of page_turned first value s.world) Pages
  turned_first None value is = onward_any Pages (page_count _) _ (λ n counted. one_turned n)
  turned_first (Some m) value is = absurd cc

  waits : (left : ℕ) (arguments : Arguments) (world : World) → text_of world ≡ text_of s.world
      → Told (Some []) (while_left left arguments world)
  waits zero arguments world same = as_was [] world same
  waits (suc n) arguments world same = as_was [] world same

  in_pages_told : (arguments : Arguments) (r : Result Progress Code) → IfOk r Pages
      → IfOk (in_pages arguments r) (Told (Some []))
  in_pages_told arguments r i =
      onward_made Pages (Told (Some [])) r (λ progress. while_left progress.left arguments progress.world) i
      (λ progress same. waits progress.left arguments progress.world same)

  pub taken_none : (taken : Taken) → s.arguments.level.first ≡ None → arguments_of s.arguments.level ≡ Ok taken
      → taken.first ≡ None
  taken_none taken none is =
      of_ok (λ (t : Taken). t.first ≡ None) (arguments_of s.arguments.level) taken
      (onward_any (λ (t : Taken). t.first ≡ None) (final_value s.arguments.level) _ (λ value fine.
      given (λ (t : Taken). t.first ≡ None) (arguments_from s.arguments.level.first value)
      (λ t from. first_taken s.arguments.level.first value t from ∙ none))) is

  pages_told : (left : Option ℕ) → s.arguments.level.first ≡ None
      → IfOk (pages_reply page_turned left s.arguments s.world) (Told (Some []))
  pages_told (Some n) none = in_pages_told s.arguments _ (one_turned n)
  pages_told None none =
      onward_any (Told (Some [])) (arguments_of s.arguments.level) _ (λ taken is.
      in_pages_told (levels_after_taking s.arguments) _
      (onward_any Pages (needed_output s.world) _ (λ output there.
      turned_first taken.first taken.value (taken_none taken none is))))

  next_told : (first : Option ℤ) → s.arguments.level.first ≡ first
      → IfOk (pages_reply page_turned s.left s.arguments s.world) (Told (turned page.Next (is_some first)))
  next_told None none = pages_told s.left none
  next_told (Some m) is = anything _

  abbrev Appends : Option (List Change)
  Appends = Some (change.Takes form_feeds ∷ [])

  append_told : (value : Option ℤ) (arguments : Arguments)
      → IfOk (append_reply value s.left arguments s.world) (Told Appends)
  append_told None arguments =
      onward_made (IsJoined s.world) (Told Appends) (append s.world) _ (appending_joins s.world)
      (λ world joined. joined)
  append_told (Some n) arguments = as_was (change.Takes form_feeds ∷ []) s.world refl

  page_told : (p : Page) → IfOk (page_reply p s.left s.arguments s.world) (Told (turned p (is_ranged s)))
  page_told page.Yank = anything _
  page_told page.Append =
      onward_any (Told Appends) (arguments_of s.arguments.level) _ (λ taken is.
      append_told taken.value (levels_after_taking s.arguments))
  page_told page.Next = next_told s.arguments.level.first refl
  page_told page.Write = anything _

  -- ---- searches
  module _ (x : Search) (miss : Miss) where
    abbrev Searches : Reply → Type 0
    Searches reply = Told (Some (sought_changes x e)) reply

    misses : (miss : Miss) (left : Option ℕ) (arguments : Arguments) (old new : World)
        → text_of old ≡ text_of s.world → text_of new ≡ text_of s.world → Searches (missed miss left arguments old new)
    misses Answers left arguments old new o n = as_was (sought_changes x e) new n
    misses (Leaves turn) left arguments old new o n = as_was (sought_changes x e) (with_message new) n
    misses Unended left arguments old new o n = as_was (sought_changes x e) old o
    misses Fails left arguments old new o n = as_was (sought_changes x e) new n

    same_world : (new : Kept) → new.form_feed ≡ s.world.kept.form_feed → new.text ≡ s.world.kept.text
        → text_of (with_kept new s.world) ≡ text_of s.world
    same_world new feed same = rw (feed, same) refl

    at_miss : (colons : ℕ) (new : Kept) → text_of (with_kept new s.world) ≡ text_of s.world
        → text_of (with_kept (kept_by_miss colons new) s.world) ≡ text_of s.world
    at_miss zero new same = same
    at_miss (suc zero) new same = same
    at_miss (suc (suc colons)) new same = same

    found_told : (arguments : Arguments) (finding : Finding) → FoundTold x e s.world.kept finding
        → Searches (found e miss s.left arguments s.world finding)
    found_told arguments (Found new) d = in_world (sought_changes x e) s.world new d.0 d.1
    found_told arguments (Missed new) d =
        let same = same_world new d.0 d.1 in
        misses miss s.left arguments (with_kept new s.world) (with_kept (kept_by_miss e.colons new) s.world) same
        (at_miss e.colons new same)

    looked_told : (arguments : Arguments) (world : World) → text_of world ≡ text_of s.world → (look : Looked)
        → LookTold x e world look → Searches (looked miss arguments look)
    looked_told arguments world same (Met new) d =
        subst (λ text. Changes (sought_changes x e) text (text_of new)) same d.0
    looked_told arguments world same (Turned n new) d = as_was (sought_changes x e) new (d.0 ∙ same)
    looked_told arguments world same (Through last) d =
        misses miss None arguments last (looked_through last) (d.0 ∙ same) (d.1 ∙ same)

    in_buffer_told : IfOk (found_in_buffer x e miss s.left s.arguments s.world) Searches
    in_buffer_told =
        onward_any Searches (arguments_of s.arguments.level) _ (λ taken is.
        onward_made (FoundTold x e s.world.kept) Searches (search x e taken s.world.kept) _
        (search_is_told x e s.world.kept taken) (found_told (levels_after_taking s.arguments)))

    in_pages_found : (left : Option ℕ)
        → ((n : ℕ) → left ≡ Some n → search_text_of e.text s.world.kept ≡ s.world.kept.search_text)
        → IfOk (found_in_pages x e miss left s.arguments s.world) Searches
    in_pages_found None still =
        onward_any Searches (arguments_of s.arguments.level) _ (λ taken is.
        onward_made (LookTold x e (world_seeking e.text s.world)) Searches (look_first x e taken s.world) _
        (first_look_is_told x e taken s.world)
        (looked_told (levels_after_taking s.arguments) (world_seeking e.text s.world) refl))
    in_pages_found (Some n) still =
        onward_made (LookTold x e s.world) Searches (look_for x e n s.world) _
        (look_is_told x e s.world (still n refl) n) (looked_told s.arguments s.world refl)

  search_told : (x : Search) (miss : Miss)
      → ((n : ℕ) → s.left ≡ Some n → search_text_of e.text s.world.kept ≡ s.world.kept.search_text)
      → IfOk (search_reply x e miss s.left s.arguments s.world) (Told (Some (sought_changes x e)))
  search_told search_kind.Find miss still = in_buffer_told search_kind.Find miss
  search_told search_kind.Replace miss still = in_buffer_told search_kind.Replace miss
  search_told search_kind.FindInPages miss still = in_pages_found search_kind.FindInPages miss s.left still
  search_told search_kind.ReplaceInPages miss still = in_pages_found search_kind.ReplaceInPages miss s.left still

  -- ---- all elements
  element_told : IsWholeState s → (k : Kind) → ((x : Search) (n : ℕ) → k ≡ kind.Search x → s.left ≡ Some n
      → search_text_of e.text s.world.kept ≡ s.world.kept.search_text)
      → IfOk (reply_of k e s) (Told (changes_told k e (is_ranged s)))
  unfolding reply_of
  element_told h (kind.Argument a) looks =
      behind [] _ (leveled [] s.world.kept (leaves_text [] s.world.kept refl refl) (levels_after a e.text s.arguments))
  element_told h (kind.Value v) looks =
      behind [] _ (leveled [] s.world.kept (leaves_text [] s.world.kept refl refl)
      (with_level s.arguments (level_with_value v s.world.kept s.arguments.level)))
  element_told h (kind.Query q) looks =
      behind (asked q) _ (asked_after q e.colons _ (value_fits h (takes q e.colons)))
  element_told h (kind.Stack k) looks =
      behind [] _ (onward (Edits []) (EditsAfter []) (stack k s.world.kept) _ (stacks k) (λ new d. d))
  element_told h (kind.Call c) looks = as_was [] s.world refl
  element_told h (kind.Flow f) looks =
      onward_made (λ turn. ⊤) (Told (Some [])) (turn_of f e s.arguments s.frames.running) _ (anything _)
      (λ turn any. as_was [] s.world refl)
  element_told h (kind.Command c) looks =
      behind (commanded c e) _
      (onward_any (EditsAfter (commanded c e)) (arguments_of s.arguments.level) _ (λ taken is.
      onward (λ effect. Edits (commanded c e) effect.kept) (EditsAfter (commanded c e))
      (execution c e taken s.world.kept) _ (executes c taken) (λ effect d. d)))
  element_told h (kind.Page p) looks = page_told p
  element_told h (kind.Search x) looks =
      search_told x (miss_of e s.frames.running) (λ n is. looks x n refl is)
  element_told h (kind.File f) looks = anything _

  -- ---- steps
  by_course : (reply : Reply) (t : State) (course : Course) → settled e s.frames reply course ≡ Next t
      → reply.world ≡ t.world
  by_course reply t Behind goes = let same : reply.world ≡ t.world = cc in same
  by_course reply t Again goes = let same : reply.world ≡ t.world = cc in same
  by_course reply t (Along frame) goes = let same : reply.world ≡ t.world = cc in same
  by_course reply t (Into text) goes = let same : reply.world ≡ t.world = cc in same
  by_course reply t Quit goes = absurd cc
  by_course reply t NoFile goes = absurd cc
  by_course reply t (Refused c) goes = absurd cc

  pub settle_told : (told : Option (List Change)) (t : State) (r : Result Reply Code) → IfOk r (Told told)
      → settle e s r ≡ Next t → IsChangedBy told (text_of s.world) (text_of t.world)
  settle_told told t (Ok reply) d goes =
      subst (λ world. IsChangedBy told (text_of s.world) (text_of world)) (by_course reply t reply.course goes) d
  settle_told told t (Err c) d goes = absurd cc

returns_same : (s t : State) (callers : List Frame) → end_outcome callers s ≡ Next t → s.world ≡ t.world
returns_same s t [] goes = absurd cc
returns_same s t (caller ∷ callers) goes = let same : s.world ≡ t.world = cc in same

end_same : (s t : State) (loops : List Loop) → end_of_text loops s ≡ Next t → s.world ≡ t.world
end_same s t [] goes = returns_same s t s.frames.callers goes
end_same s t (loop ∷ outer) goes = absurd cc

pub one_read : {X E : Type 0} (r : Result X E) (x y : X) → r ≡ Ok x → r ≡ Ok y → x ≡ y
one_read r x y is other = let same : ◌≡◌ {A = Result _ _} (Ok x) (Ok y) = sym is ∙ other in cc

pub some_is : {X : Type 0} (x y : X) → ◌≡◌ {A = Option X} (Some x) (Some y) → x ≡ y
some_is x y same = cc

-- a search that is read looks for its own text
pub still_looks : (s : State) (e : Element) → IsUnderway s → Reads s (Some e) → (x : Search) (n : ℕ)
    → e.kind ≡ kind.Search x → s.left ≡ Some n → search_text_of e.text s.world.kept ≡ s.world.kept.search_text
still_looks s e goes reads x n is left =
    let on = goes n left in
    let same : on.element ≡ e = some_is on.element e (one_read _ _ _ on.reads reads) in
    subst (λ (e : Element). search_text_of e.text s.world.kept ≡ s.world.kept.search_text) same
    (on.looks x (ap (λ (e : Element). e.kind) same ∙ is))

outcome_told : (s t : State) (read : Option Element) → IsWholeState s → IsUnderway s → Reads s read
    → outcome_at s (Ok read) ≡ Next t
    → IsChangedBy (told_of read (is_ranged s)) (text_of s.world) (text_of t.world)
outcome_told s t None whole under reads goes =
    no_change [] (text_of s.world) (text_of t.world) (ap text_of (end_same s t s.frames.running.loops goes))
outcome_told s t (Some e) whole under reads goes =
    settle_told s e (changes_of e (is_ranged s)) t (reply_of e.kind e s)
    (element_told s e whole e.kind (still_looks s e under reads)) goes

pub steps_are_told : StepsAreTold
unfolding step
steps_are_told s t read whole under reads goes =
    outcome_told s t read whole under reads (ap (outcome_at s) (sym reads) ∙ goes)
