-- Where an element goes on, the state still reads it, and it looks for its own text.
use Rattle.std.proofs.Common.{◌≡◌, ℕ, ℤ, zero, suc, List, [], ◌∷◌, refl, sym, ap, ◌∙◌, subst, Option, Some, None}
use Rattle.std.proofs.Common.{Result, Ok, Err, Bool, true, false}
use Rattle.std.specs.Prelude.{IfOk, ⊤}
use Rattle.teco_base.specs.declared.code.Code.{Code}
use Rattle.teco_law_changes.specs.Steps.{IsUnderway, Reads, StepsGoOn}
use Rattle.teco_law_changes.proofs.Results.{onward_any, onward_made}
use Rattle.teco_law_changes.proofs.Searches.{LookTold, first_look_is_told, look_is_told, text_again}
use Rattle.teco_law_changes.proofs.Steps.{anything, one_read, some_is, still_looks}
use Rattle.teco_law_runs.specs.Steps.{is_long}
use Rattle.teco_model.specs.Arguments.{Arguments, arguments_of, levels_after_taking}
use Rattle.teco_model.specs.Element.{Element, element_at}
use Rattle.teco_model.specs.Flow.{turn_of}
use Rattle.teco_model.specs.Going.{After, Again, Along, Behind, Course, Into, NoFile, Quit, Refused, Reply, on_editor}
use Rattle.teco_model.specs.Going.{settle, settled}
use Rattle.teco_model.specs.Outside.{append_reply, filed, going_on, in_pages, opened, page_reply, pages_reply}
use Rattle.teco_model.specs.Outside.{while_left}
use Rattle.teco_model.specs.Paging.{Looked, Met, Progress, Through, Turned, look_first, look_for}
use Rattle.teco_model.specs.Paging.{looked_through}
use Rattle.teco_model.specs.Paging.{page_turned, page_written, world_seeking}
use Rattle.teco_model.specs.Filing.{open_input}
use Rattle.teco_model.specs.Search.{Finding, Found, Missed, search, search_text_of, text_or}
use Rattle.teco_model.specs.Searching.{Answers, Fails, Leaves, Miss, Unended, found, found_in_buffer, found_in_pages}
use Rattle.teco_model.specs.Searching.{looked}
use Rattle.teco_model.specs.Searching.{miss_of, missed, search_reply}
use Rattle.teco_model.specs.State.{Frame, Frames, Next, State, World}
use Rattle.teco_model.specs.Step.{end_of_text, end_outcome, outcome_at}
unfoldable use Rattle.teco_model.specs.Step.{reply_of, step}
use Rattle.teco_model.specs.declared.flow.Loop.{Loop}
use Rattle.teco_model.specs.declared.kind.File.{File}
use Rattle.teco_model.specs.declared.kind.File.TheVariants as file
use Rattle.teco_model.specs.declared.kind.Kind.{Kind}
use Rattle.teco_model.specs.declared.kind.Kind.TheVariants as kind
use Rattle.teco_model.specs.declared.kind.Page.{Page}
use Rattle.teco_model.specs.declared.kind.Page.TheVariants as page
use Rattle.teco_model.specs.declared.kind.Search.{Search}
use Rattle.teco_model.specs.declared.kind.Search.TheVariants as search_kind

module _ (s : State) (e : Element) where
  -- its text is still looked for
  abbrev Looks : Kind → World → Type 0
  Looks k world =
      (x : Search) → k ≡ kind.Search x → search_text_of e.text world.kept ≡ world.kept.search_text

  -- It goes on where it stands only where it is of several steps; else nothing is left to do.
  abbrev Goes : Kind → Course → Reply → Type 0
  Goes k Again reply = (is_long k ≡ true) × Looks k reply.world
  Goes k course reply = reply.left ≡ None

  abbrev GoesBy : Kind → Reply → Type 0
  GoesBy k reply = Goes k reply.course reply

  done : (k : Kind) (r : Result After Code) → s.left ≡ None → IfOk (on_editor s.left s.world r) (GoesBy k)
  done k r none = onward_made (λ d. ⊤) (GoesBy k) r _ (anything r) (λ d any. none)

  -- ---- pages and files
  waits : (p : Page) → is_long (kind.Page p) ≡ true → (left : ℕ) (arguments : Arguments) (world : World)
      → GoesBy (kind.Page p) (while_left left arguments world)
  waits p long zero arguments world = refl
  waits p long (suc n) arguments world = (long, λ x is. absurd cc)

  in_pages_go : (p : Page) → is_long (kind.Page p) ≡ true → (arguments : Arguments) (r : Result Progress Code)
      → IfOk (in_pages arguments r) (GoesBy (kind.Page p))
  in_pages_go p long arguments r =
      onward_made (λ d. ⊤) (GoesBy (kind.Page p)) r _ (anything r)
      (λ progress any. waits p long progress.left arguments progress.world)

  pages_go : (p : Page) → is_long (kind.Page p) ≡ true → (one : World → Result World Code) (left : Option ℕ)
      → IfOk (pages_reply one left s.arguments s.world) (GoesBy (kind.Page p))
  pages_go p long one None =
      onward_any (GoesBy (kind.Page p)) (arguments_of s.arguments.level) _ (λ taken is.
      in_pages_go p long (levels_after_taking s.arguments) _)
  pages_go p long one (Some n) = in_pages_go p long s.arguments _

  moves_on : (k : Kind) (arguments : Arguments) (r : Result World Code) → s.left ≡ None
      → IfOk (going_on s.left arguments r) (GoesBy k)
  moves_on k arguments r none = onward_made (λ d. ⊤) (GoesBy k) r _ (anything r) (λ d any. none)

  appends : (value : Option ℤ) (arguments : Arguments) → s.left ≡ None
      → IfOk (append_reply value s.left arguments s.world) (GoesBy (kind.Page page.Append))
  appends None arguments none = moves_on (kind.Page page.Append) arguments _ none
  appends (Some n) arguments none = none

  page_goes : (p : Page) → (is_long (kind.Page p) ≡ false → s.left ≡ None)
      → IfOk (page_reply p s.left s.arguments s.world) (GoesBy (kind.Page p))
  page_goes page.Yank none =
      onward_any (GoesBy (kind.Page page.Yank)) (arguments_of s.arguments.level) _ (λ taken is.
      moves_on (kind.Page page.Yank) (levels_after_taking s.arguments) _ (none refl))
  page_goes page.Append none =
      onward_any (GoesBy (kind.Page page.Append)) (arguments_of s.arguments.level) _ (λ taken is.
      appends taken.value (levels_after_taking s.arguments) (none refl))
  page_goes page.Next none = pages_go page.Next refl page_turned s.left
  page_goes page.Write none = pages_go page.Write refl page_written s.left

  opens : (f : File) (arguments : Arguments) (o : Option World) → s.left ≡ None
      → GoesBy (kind.File f) (opened s.left arguments s.world o)
  opens f arguments None none = none
  opens f arguments (Some world) none = none

  files : (f : File) (arguments : Arguments) → s.left ≡ None
      → IfOk (filed f e.text s.left arguments s.world) (GoesBy (kind.File f))
  files file.Read arguments none =
      onward_made (λ d. ⊤) (GoesBy (kind.File file.Read)) (open_input e.text s.world) _ (anything _)
      (λ o any. opens file.Read arguments o none)
  files file.Write arguments none = moves_on (kind.File file.Write) arguments _ none
  files file.Close arguments none = moves_on (kind.File file.Close) arguments _ none
  files file.Abandon arguments none = none
  files file.Copy arguments none = moves_on (kind.File file.Copy) arguments _ none
  files file.Exit arguments none = none

  -- ---- searches
  module _ (x : Search) (miss : Miss) where
    abbrev Searches : Reply → Type 0
    Searches reply = GoesBy (kind.Search x) reply

    misses : (miss : Miss) (left : Option ℕ) (arguments : Arguments) (old new : World) → left ≡ None
        → Searches (missed miss left arguments old new)
    misses Answers left arguments old new none = none
    misses (Leaves turn) left arguments old new none = none
    misses Unended left arguments old new none = none
    misses Fails left arguments old new none = none

    finds : (arguments : Arguments) → s.left ≡ None → (finding : Finding)
        → Searches (found e miss s.left arguments s.world finding)
    finds arguments none (Found new) = none
    finds arguments none (Missed new) = misses miss s.left arguments _ _ none

    in_buffer_goes : s.left ≡ None → IfOk (found_in_buffer x e miss s.left s.arguments s.world) Searches
    in_buffer_goes none =
        onward_any Searches (arguments_of s.arguments.level) _ (λ taken is.
        onward_made (λ d. ⊤) Searches (search x e taken s.world.kept) _ (anything _)
        (λ finding any. finds (levels_after_taking s.arguments) none finding))

    module _ (long : is_long (kind.Search x) ≡ true) where
      looks_on : (arguments : Arguments) (world : World)
          → search_text_of e.text world.kept ≡ world.kept.search_text → (look : Looked) → LookTold x e world look
          → Searches (looked miss arguments look)
      looks_on arguments world still (Met new) d = refl
      looks_on arguments world still (Turned n new) d =
          (long, λ y is. subst (λ text. text_or e.text text ≡ text) (sym d.1) still)
      looks_on arguments world still (Through last) d = misses miss None arguments last (looked_through last) refl

      in_pages_goes : (left : Option ℕ)
          → ((n : ℕ) → left ≡ Some n → search_text_of e.text s.world.kept ≡ s.world.kept.search_text)
          → IfOk (found_in_pages x e miss left s.arguments s.world) Searches
      in_pages_goes None still =
          onward_any Searches (arguments_of s.arguments.level) _ (λ taken is.
          onward_made (LookTold x e (world_seeking e.text s.world)) Searches (look_first x e taken s.world) _
          (first_look_is_told x e taken s.world)
          (looks_on (levels_after_taking s.arguments) (world_seeking e.text s.world)
          (text_again x e s.world.kept e.text s.world.kept.search_text)))
      in_pages_goes (Some n) still =
          onward_made (LookTold x e s.world) Searches (look_for x e n s.world) _
          (look_is_told x e s.world (still n refl) n) (looks_on s.arguments s.world (still n refl))

  search_goes : (x : Search) (miss : Miss) → (is_long (kind.Search x) ≡ false → s.left ≡ None)
      → ((n : ℕ) → s.left ≡ Some n → search_text_of e.text s.world.kept ≡ s.world.kept.search_text)
      → IfOk (search_reply x e miss s.left s.arguments s.world) (GoesBy (kind.Search x))
  search_goes search_kind.Find miss none still = in_buffer_goes search_kind.Find miss (none refl)
  search_goes search_kind.Replace miss none still = in_buffer_goes search_kind.Replace miss (none refl)
  search_goes search_kind.FindInPages miss none still =
      in_pages_goes search_kind.FindInPages miss refl s.left still
  search_goes search_kind.ReplaceInPages miss none still =
      in_pages_goes search_kind.ReplaceInPages miss refl s.left still

  -- ---- all elements
  element_goes : (k : Kind) → (is_long k ≡ false → s.left ≡ None) → ((x : Search) (n : ℕ) → k ≡ kind.Search x
      → s.left ≡ Some n → search_text_of e.text s.world.kept ≡ s.world.kept.search_text)
      → IfOk (reply_of k e s) (GoesBy k)
  unfolding reply_of
  element_goes (kind.Argument a) none looks = done (kind.Argument a) _ (none refl)
  element_goes (kind.Value v) none looks = done (kind.Value v) _ (none refl)
  element_goes (kind.Query q) none looks = done (kind.Query q) _ (none refl)
  element_goes (kind.Stack k) none looks = done (kind.Stack k) _ (none refl)
  element_goes (kind.Call c) none looks = none refl
  element_goes (kind.Flow f) none looks =
      onward_made (λ turn. ⊤) (GoesBy (kind.Flow f)) (turn_of f e s.arguments s.frames.running) _ (anything _)
      (λ turn any. none refl)
  element_goes (kind.Command c) none looks = done (kind.Command c) _ (none refl)
  element_goes (kind.Page p) none looks = page_goes p none
  element_goes (kind.Search x) none looks =
      search_goes x (miss_of e s.frames.running) none (λ n is. looks x n refl is)
  element_goes (kind.File f) none looks =
      onward_any (GoesBy (kind.File f)) (arguments_of s.arguments.level) _ (λ taken is.
      files f (levels_after_taking s.arguments) (none refl))

  -- ---- steps
  stays_none : (t : State) (reply : Reply) → reply.left ≡ None → reply.left ≡ t.left → IsUnderway t
  stays_none t reply none same n left = absurd (let z : Path (Option ℕ) None (Some n) = sym none ∙ same ∙ left in cc)

  again : (t : State) (reply : Reply) → Reads s (Some e) → (is_long e.kind ≡ true) × Looks e.kind reply.world
      → settled e s.frames reply Again ≡ Next t → IsUnderway t
  again t reply reads d goes n left = record {
    element = e;
    reads =
        subst (λ (frames : Frames). element_at frames.running.text frames.running.place ≡ Ok (Some e))
        (let same : s.frames ≡ t.frames = cc in same) reads;
    long = d.0;
    looks = λ x is. subst (λ (world : World). search_text_of e.text world.kept ≡ world.kept.search_text)
        (let same : reply.world ≡ t.world = cc in same) (d.1 x is);
  }

  by_course : (t : State) (reply : Reply) (course : Course) → Reads s (Some e) → Goes e.kind course reply
      → settled e s.frames reply course ≡ Next t → IsUnderway t
  by_course t reply Behind reads d goes = stays_none t reply d (let same : reply.left ≡ t.left = cc in same)
  by_course t reply Again reads d goes = again t reply reads d goes
  by_course t reply (Along frame) reads d goes = stays_none t reply d (let same : reply.left ≡ t.left = cc in same)
  by_course t reply (Into text) reads d goes = stays_none t reply d (let same : reply.left ≡ t.left = cc in same)
  by_course t reply Quit reads d goes = absurd cc
  by_course t reply NoFile reads d goes = absurd cc
  by_course t reply (Refused c) reads d goes = absurd cc

  settle_goes : (t : State) (r : Result Reply Code) → Reads s (Some e) → IfOk r (GoesBy e.kind)
      → settle e s r ≡ Next t → IsUnderway t
  settle_goes t (Ok reply) reads d goes = by_course t reply reply.course reads d goes
  settle_goes t (Err c) reads d goes = absurd cc

  -- nothing is left where an element of one step is read
  none_left : IsUnderway s → Reads s (Some e) → (left : Option ℕ) → s.left ≡ left → is_long e.kind ≡ false
      → s.left ≡ None
  none_left under reads None is short = is
  none_left under reads (Some n) is short =
      let on = under n is in
      let same : on.element ≡ e = some_is on.element e (one_read _ _ _ on.reads reads) in
      absurd (let z : Path Bool true false = sym on.long ∙ ap (λ (e : Element). is_long e.kind) same ∙ short in cc)

ended : (s t : State) → IsUnderway s → Reads s None → s.left ≡ t.left → IsUnderway t
ended s t under reads same n left =
    let on = under n (same ∙ left) in
    absurd (let z : Path (Option Element) (Some on.element) None = one_read _ _ _ on.reads reads in cc)

returns_left : (s t : State) (callers : List Frame) → end_outcome callers s ≡ Next t → s.left ≡ t.left
returns_left s t [] goes = absurd cc
returns_left s t (caller ∷ callers) goes = let same : s.left ≡ t.left = cc in same

end_left : (s t : State) (loops : List Loop) → end_of_text loops s ≡ Next t → s.left ≡ t.left
end_left s t [] goes = returns_left s t s.frames.callers goes
end_left s t (loop ∷ outer) goes = absurd cc

outcome_goes : (s t : State) (read : Option Element) → IsUnderway s → Reads s read
    → outcome_at s (Ok read) ≡ Next t → IsUnderway t
outcome_goes s t None under reads goes = ended s t under reads (end_left s t s.frames.running.loops goes)
outcome_goes s t (Some e) under reads goes =
    settle_goes s e t (reply_of e.kind e s) reads
    (element_goes s e e.kind (none_left s e under reads s.left refl) (still_looks s e under reads)) goes

pub steps_go_on : StepsGoOn
unfolding step
steps_go_on s t read under reads goes =
    outcome_goes s t read under reads (ap (outcome_at s) (sym reads) ∙ goes)
