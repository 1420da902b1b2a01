-- A step goes one of the ways from where it stands.
use Rattle.teco_law_runs.proofs.Prelude.{◌≡◌, ℕ, ℤ, zero, suc, pos, inl, inr, List, [], ◌∷◌, map, Bool, true, false}
use Rattle.teco_law_runs.proofs.Prelude.{Option, Some, None, Result, Ok, Err, refl, sym, ap, ◌∙◌, subst, slice_get}
use Rattle.teco_law_runs.proofs.Prelude.{arith, Code, Loop, Kind, Call, Flow, Search, Arguments, arguments_of}
use Rattle.teco_law_runs.proofs.Prelude.{no_arguments, levels_after_answer, levels_after_taking, Element, blank_end}
use Rattle.teco_law_runs.proofs.Prelude.{element_at, Turn, turn_of, jump, Course, Into, Reply, frames_in, settled}
use Rattle.teco_law_runs.proofs.Prelude.{settle, has_colon, Kept, World, Frame, State, Next, End, reply_of, outcome_of}
use Rattle.teco_law_runs.proofs.Prelude.{end_of_text, outcome_at, step, ◌>>=◌, Library, macro, IsLoaded, Position}
use Rattle.teco_law_runs.proofs.Prelude.{position_of, position_of_frames, start_of, spot_of, pattern_parts, as_fault}
use Rattle.teco_law_runs.proofs.Prelude.{sound, past, read_at, search_ways, call_ways, return_ways, element_ways}
use Rattle.teco_law_runs.proofs.Prelude.{ways_at, flow_ways, IsLeftAt, Moves, ok, bound, Page, ⊤, Behind}
use Rattle.std.proofs.Common.{negsuc}
use Rattle.teco_base.specs.declared.code.Code.TheVariants as code
use Rattle.teco_model.specs.declared.arguments.Taken.{Taken}
use Rattle.teco_model.specs.declared.kind.Kind.TheVariants as kind
use Rattle.teco_model.specs.declared.kind.File.{File}
use Rattle.teco_model.specs.declared.kind.File.TheVariants as file
use Rattle.teco_model.specs.declared.kind.Page.TheVariants as page
use Rattle.teco_model.specs.declared.kind.Search.TheVariants as search_kind
use Rattle.teco_model.specs.Going.{After, Again, Along, frames_at, on_editor, with_kept}
use Rattle.teco_model.specs.Outside as outside
use Rattle.teco_model.specs.Paging.{append, yank, pages, look_first, Progress, page_turned, page_written, one_page_of}
use Rattle.teco_model.specs.Paging.{look_for, looked_through, Looked, Met, Turned, Through}
use Rattle.teco_model.specs.Filing.{open_input, open_output, close_output, copy_all}
use Rattle.teco_model.specs.Search.{Finding, Found, Missed, search}
use Rattle.teco_model.specs.Searching as searching
use Rattle.teco_model.specs.Searching.{kept_by_miss}
use Rattle.teco_model.specs.Step.{flow_reply, call_reply}
use Rattle.teco_model.proofs.Ahead.{element_at-again}
use Rattle.teco_law_runs.specs.Was.{answer_where, looking_on, levels_looking, levels_searching, Finds, Misses, Answers}
use Rattle.teco_law_runs.specs.Was.{GoesOnFound, GoesOnMissed, LeavesByMiss, ElementWas, StepWas}
use Rattle.teco_law_runs.specs.Steps.{is_long, Stays, Went, Stayed, StepsGoWays}
use Rattle.teco_law_runs.proofs.Turns.{leaves_by_kind, turn_goes, jumped as jump_made}
use Rattle.teco_law_runs.proofs.FlowWays.{position_in, jump_leads, first_way, second_way, only, way_leads}
use Rattle.teco_law_runs.proofs.Walking.{same_next}

-- what was read
pub read_is : (r : Result (Option Element) Code) (read : Option Element)
    → (as_fault r >>= (λ read. sound read)) ≡ Ok read → r ≡ Ok read
read_is (Ok None) read h = ap Ok (ok None read h)
read_is (Ok (Some e)) read h = let b = bound (as_fault (pattern_parts e.kind e.text)) _ read h in
    ap Ok (ok (Some e) read b.gives)
read_is (Err c) read h = absurd (cc)

pub as_element : (s : State) (read : Option Element) → read_at (position_of s) ≡ Ok read
    → element_at s.frames.running.text s.frames.running.place ≡ Ok read
unfolding read_at
as_element s read h =
    let frame = s.frames.running in
    sym (element_at-again frame.text frame.place)
    ∙ read_is (element_at frame.text (blank_end frame.text frame.place)) read h

pub as_read : (s : State) (read : Option Element) → read_at (position_of s) ≡ Ok read → step s ≡ outcome_at s (Ok read)
unfolding step
as_read s read h = ap (outcome_at s) (as_element s read h)

-- no work is left where the element is not long
nothing_left : (k : Kind) (e : Element) (left : Option ℕ) → e.kind ≡ k → is_long k ≡ false → IsLeftAt (Some e) left
    → left ≡ None
nothing_left k e None g h l = refl
nothing_left k e (Some n) g h l = let long : is_long k ≡ true = ap is_long (sym g) ∙ l in absurd (cc)

-- what an element was, by its kind
of_kind : (k : Kind) (way : ℕ) (e : Element) (s t : State) → e.kind ≡ k → ElementWas k way e s t
    → StepWas (Some e) way s t
of_kind k way e s t g was = subst (λ k. ElementWas k way e s t) (sym g) was

-- a state on a way
on_way : (read : Option Element) (way : ℕ) (ways : List Position) (p : Position) (s u t : State) → StepWas read way s t
    → slice_get ways way ≡ Some p → u.left ≡ None → position_of u ≡ p → u ≡ t → Moves read ways s t
on_way read way ways p s u t was w l h g = Went (record {
  done = sym (ap (λ (u : State). u.left) g) ∙ l;
  way = way;
  leads = w ∙ ap Some (sym h ∙ ap position_of g);
  was = was;
})

goes_past : (read : Option Element) (e : Element) (ways : List Position) (s u v t : State) → StepWas read 0 s t
    → slice_get ways 0 ≡ Some (past e (position_of u)) → v.left ≡ None → v.frames ≡ frames_at e.next u.frames
    → Next v ≡ Next t → Moves read ways s t
goes_past read e ways s u v t was w l f h =
    on_way read 0 ways (past e (position_of u)) s v t was w l (ap position_of_frames f) (same_next v t h)

stays : (read : Option Element) (n : ℕ) (ways : List Position) (s u t : State) → u.left ≡ Some n → u.frames ≡ s.frames
    → IsLeftAt read (Some n) → Next u ≡ Next t → Moves read ways s t
stays read n ways s u t l f long h =
    Stayed (subst (λ (t : State). Stays read s t) (same_next u t h)
    (record { n = n; left = l; same = f; long = subst (IsLeftAt read) (sym l) long }))

-- what goes on at its element or behind it: nothing is left behind it
abbrev GoesOnBy : Element → Reply → Course → Type 0
GoesOnBy e reply Behind = reply.left ≡ None
GoesOnBy e reply Again = (n : ℕ) × (reply.left ≡ Some n) × IsLeftAt (Some e) (Some n)
GoesOnBy e reply (Along frame) = ⊥
GoesOnBy e reply (Into text) = ⊥
GoesOnBy e reply course = ⊤

abbrev GoesOn : Element → Result Reply Code → Type 0
GoesOn e (Ok reply) = GoesOnBy e reply reply.course
GoesOn e (Err c) = ⊤

moved_by : (reply : Reply) (course : Course) (e : Element) (ways : List Position) (s t : State)
    → GoesOnBy e reply course → StepWas (Some e) 0 s t → slice_get ways 0 ≡ Some (past e (position_of s))
    → settled e s.frames reply course ≡ Next t → Moves (Some e) ways s t
moved_by reply Behind e ways s t l was w h = goes_past (Some e) e ways s s _ t was w l refl h
moved_by reply Again e ways s t l was w h = stays (Some e) l.0 ways s _ t l.1 refl l.2 h
moved_by reply course e ways s t l was w h = absurd (grind arith)

moved : (r : Result Reply Code) (e : Element) (ways : List Position) (s t : State) → GoesOn e r → StepWas (Some e) 0 s t
    → slice_get ways 0 ≡ Some (past e (position_of s)) → settle e s r ≡ Next t → Moves (Some e) ways s t
moved (Err c) e ways s t l was w h = absurd (cc)
moved (Ok reply) e ways s t l was w h = moved_by reply reply.course e ways s t l was w h

-- a chain whose last part goes on
goes_then : {X : Type 0} (e : Element) (r : Result X Code) (f : X → Result Reply Code) → ((x : X) → GoesOn e (f x))
    → GoesOn e (r >>= f)
goes_then e (Ok x) f k = k x
goes_then e (Err c) f k = tt

performed : (e : Element) (left : Option ℕ) (world : World) (r : Result After Code) → left ≡ None
    → GoesOn e (on_editor left world r)
performed e left world (Err c) l = tt
performed e left world (Ok done) l = l

did_world : (e : Element) (left : Option ℕ) (arguments : Arguments) (r : Result World Code) → left ≡ None
    → GoesOn e (outside.going_on left arguments r)
did_world e left arguments (Err c) l = tt
did_world e left arguments (Ok world) l = l

appended : (e : Element) (value : Option ℤ) (left : Option ℕ) (arguments : Arguments) (world : World) → left ≡ None
    → GoesOn e (outside.append_reply value left arguments world)
appended e None left arguments world l = did_world e left arguments (append world) l
appended e (Some n) left arguments world l = l

paged : (k : Kind) (e : Element) (arguments : Arguments) (r : Result Progress Code) → e.kind ≡ k → is_long k ≡ true
    → GoesOn e (outside.in_pages arguments r)
paged k e arguments (Err c) g long = tt
paged k e arguments (Ok done) g long = among done.left
  where
    among : (left : ℕ) → GoesOnBy e (outside.while_left left arguments done.world)
        (outside.while_left left arguments done.world).course
    among zero = refl
    among (suc n) = (suc n, refl, ap is_long g ∙ long)

paged_from : (k : Kind) (one_page : World → Result World Code) (left : Option ℕ) (e : Element) (arguments : Arguments)
    (world : World) → e.kind ≡ k → is_long k ≡ true → GoesOn e (outside.pages_reply one_page left arguments world)
paged_from k one_page None e arguments world g long =
    goes_then e (arguments_of arguments.level)
    (λ taken. outside.in_pages (levels_after_taking arguments) (pages one_page taken world))
    (λ taken. paged k e (levels_after_taking arguments) (pages one_page taken world) g long)
paged_from k one_page (Some n) e arguments world g long = paged k e arguments (one_page_of one_page n world) g long

page_goes : (p : Page) (e : Element) (s : State) → e.kind ≡ kind.Page p → IsLeftAt (Some e) s.left
    → GoesOn e (outside.page_reply p s.left s.arguments s.world)
page_goes page.Yank e s g l = goes_then e (arguments_of s.arguments.level)
    (λ taken. outside.going_on s.left (levels_after_taking s.arguments) (yank s.world))
    (λ taken. did_world e s.left (levels_after_taking s.arguments) (yank s.world)
    (nothing_left (kind.Page page.Yank) e s.left g refl l))
page_goes page.Append e s g l =
    goes_then e (arguments_of s.arguments.level)
    (λ taken. outside.append_reply taken.value s.left (levels_after_taking s.arguments) s.world)
    (λ taken. appended e taken.value s.left (levels_after_taking s.arguments) s.world
    (nothing_left (kind.Page page.Append) e s.left g refl l))
page_goes page.Next e s g l = paged_from (kind.Page page.Next) page_turned s.left e s.arguments s.world g refl
page_goes page.Write e s g l = paged_from (kind.Page page.Write) page_written s.left e s.arguments s.world g refl

opened : (e : Element) (left : Option ℕ) (arguments : Arguments) (world : World) (r : Result (Option World) Code)
    → left ≡ None → GoesOn e (r >>= (λ found. Ok (outside.opened left arguments world found)))
opened e left arguments world (Err c) l = tt
opened e left arguments world (Ok None) l = tt
opened e left arguments world (Ok (Some new)) l = l

filed : (f : File) (e : Element) (name : List ℕ) (left : Option ℕ) (arguments : Arguments) (world : World) → left ≡ None
    → GoesOn e (outside.filed f name left arguments world)
filed file.Read e name left arguments world l = opened e left arguments world (open_input name world) l
filed file.Write e name left arguments world l = did_world e left arguments (open_output name world) l
filed file.Close e name left arguments world l = did_world e left arguments (close_output world) l
filed file.Abandon e name left arguments world l = l
filed file.Copy e name left arguments world l = did_world e left arguments (copy_all world) l
filed file.Exit e name left arguments world l = tt

-- searches
search_first : (colon : Bool) (starts : List ℕ) (e : Element) (p : Position) (ways : List Position)
    → search_ways colon starts e p ≡ Ok ways → slice_get ways 0 ≡ Some (past e p)
search_first false (start ∷ outer) e p ways h = first_way (past e p) e p ways h
search_first false [] e p ways h = only (past e p) ways h
search_first true [] e p ways h = only (past e p) ways h
search_first true (start ∷ outer) e p ways h = only (past e p) ways h

-- what is known where a search has come to its end
record Searched (x : Search) (e : Element) (s : State) (left : Option ℕ) (arguments : Arguments) : Type 0 where
  kind_is : e.kind ≡ kind.Search x
  done : left ≡ None
  arguments_are : arguments ≡ levels_searching x s

-- a match answers where the search has a colon
silent : (r : Result Turn Code) → searching.answer_by (searching.leaving_by r) ≡ None
silent (Ok turn) = refl
silent (Err c) = refl

silent_within : (loops : List Loop) (e : Element) (frame : Frame)
    → searching.answer_by (searching.miss_within loops e frame) ≡ None
silent_within [] e frame = refl
silent_within (loop ∷ outer) e frame = silent (jump code.Utc e no_arguments frame)

answers_where : (colon : Bool) (e : Element) (frame : Frame)
    → searching.answer_by (searching.miss_where colon e frame) ≡ answer_where colon (negsuc 0)
answers_where true e frame = refl
answers_where false e frame = silent_within frame.loops e frame

answers :
    (answer : Option ℤ) (levels : Arguments) (left : Option ℕ) (e : Element) (world : World) (s t : State)
    → Next (record {
      world = world;
      arguments = levels_after_answer answer levels;
      frames = frames_at e.next s.frames;
      left = left;
    }) ≡ Next t
    → Answers answer world levels e s t
answers answer levels left e world s t h =
    let g = sym (same_next _ t h) in
    record {
      world_is = ap (λ (t : State). t.world) g;
      arguments_are = ap (λ (t : State). t.arguments) g;
      frames_are = ap (λ (t : State). t.frames) g;
    }

module _ (x : Search) (e : Element) (ways : List Position) (s t : State) (left : Option ℕ) (arguments : Arguments)
    (known : Searched x e s left arguments) where
  abbrev frame : Frame
  frame = s.frames.running

  leaves_by_miss : (loops : List Loop) (before now : World) → has_colon e frame ≡ false → Misses x e s now
      → frame.loops ≡ loops →
      search_ways false (map start_of loops) e (position_of s) ≡ Ok ways
      → settle e s (Ok (searching.missed (searching.miss_within loops e frame) left arguments before now)) ≡ Next t
      → Moves (Some e) ways s t
  leaves_by_miss [] before now c misses o w h = absurd (cc)
  leaves_by_miss (loop ∷ outer) before now c misses o w h = among (jump code.Utc e no_arguments frame) refl h
    where
      among : (r : Result Turn Code) → jump code.Utc e no_arguments frame ≡ r
          → settle e s (Ok (searching.missed (searching.leaving_by r) left arguments before now)) ≡ Next t
          → Moves (Some e) ways s t
      among (Err c) j h = absurd (cc)
      among (Ok turn) j h =
          let jumps = jump_made code.Utc 1 e no_arguments frame turn
          (leaves_by_kind (kind.Search x) e frame.text known.kind_is) j in
          let leads = jump_leads 1 e no_arguments frame s.frames.callers turn jumps in
          let g = same_next _ t h in
          let was : LeavesByMiss x e s t = record {
            world = now;
            misses = misses;
            colon = c;
            loop = loop;
            outer = outer;
            inside = o;
            turn = turn;
            jumps = jumps;
            world_is = ap (λ (t : State). t.world) (sym g);
            arguments_are = ap (λ (t : State). t.arguments) (sym g);
            frames_are = ap (λ (t : State). t.frames) (sym g);
          } in
          on_way (Some e) 1 ways (position_in turn.frame s.frames.callers) s _ t
          (of_kind (kind.Search x) 1 e s t known.kind_is was)
          (second_way (past e (position_of s)) _ e (position_of s) ways leads w) known.done refl g

  missed : (colon : Bool) (before now : World) → has_colon e frame ≡ colon → Misses x e s now →
      search_ways colon (map start_of frame.loops) e (position_of s) ≡ Ok ways
      → settle e s (Ok (searching.missed (searching.miss_where colon e frame) left arguments before now)) ≡ Next t
      → Moves (Some e) ways s t
  missed true before now c misses w h =
      let was : GoesOnMissed x e s t = record {
        world = now;
        misses = misses;
        colon = c;
        answers = subst (λ levels. Answers (Some (pos 0)) now levels e s t) known.arguments_are
            (answers (Some (pos 0)) arguments left e now s t h);
      } in
      goes_past (Some e) e ways s s _ t (of_kind (kind.Search x) 0 e s t known.kind_is (inr was))
      (search_first true (map start_of frame.loops) e (position_of s) ways w) known.done refl h
  missed false before now c misses w h = leaves_by_miss frame.loops before now c misses refl w h

  found : (colon : Bool) (world : World) → has_colon e frame ≡ colon → Finds x e s world →
      search_ways colon (map start_of frame.loops) e (position_of s) ≡ Ok ways
      → settle e s (Ok (searching.met (searching.miss_where colon e frame) left arguments world)) ≡ Next t
      → Moves (Some e) ways s t
  found colon world c finds w h =
      let same : searching.answer_by (searching.miss_where colon e frame) ≡ answer_where (has_colon e frame)
      (negsuc 0) = answers_where colon e frame ∙ ap (λ b. answer_where b (negsuc 0)) (sym c) in
      let was : GoesOnFound x e s t = record {
        world = world;
        finds = finds;
        answers = subst (λ levels. Answers (answer_where (has_colon e frame) (negsuc 0)) world levels e s t)
            known.arguments_are (subst (λ answer. Answers answer world arguments e s t) same
            (answers _ arguments left e world s t h));
      } in
      goes_past (Some e) e ways s s _ t (of_kind (kind.Search x) 0 e s t known.kind_is (inl was))
      (search_first colon (map start_of frame.loops) e (position_of s) ways w) known.done refl h

module _ (x : Search) (e : Element) (ways : List Position) (s t : State) (g : e.kind ≡ kind.Search x) where
  abbrev miss : searching.Miss
  miss = searching.miss_of e s.frames.running

  searched :
      (r : Result Finding Code) → s.left ≡ None → levels_after_taking s.arguments ≡ levels_searching x s
      → ((kept : Kept) → r ≡ Ok (Found kept) → Finds x e s (with_kept kept s.world))
      → ((kept : Kept) → r ≡ Ok (Missed kept) → Misses x e s (with_kept (kept_by_miss e.colons kept) s.world))
      → search_ways (has_colon e s.frames.running) (map start_of s.frames.running.loops) e (position_of s) ≡ Ok ways
      → settle e s
      (r >>= (λ finding. Ok (searching.found e miss s.left (levels_after_taking s.arguments) s.world finding)))
      ≡ Next t → Moves (Some e) ways s t
  searched (Err c) l a finds misses w h = absurd (cc)
  searched (Ok (Found kept)) l a finds misses w h =
      found x e ways s t s.left (levels_after_taking s.arguments) (record { kind_is = g; done = l; arguments_are = a })
      (has_colon e s.frames.running) _ refl (finds kept refl) w h
  searched (Ok (Missed kept)) l a finds misses w h =
      missed x e ways s t s.left (levels_after_taking s.arguments) (record { kind_is = g; done = l; arguments_are = a })
      (has_colon e s.frames.running) _ _ refl (misses kept refl) w h

  in_buffer :
      (r : Result Taken Code) → s.left ≡ None → levels_after_taking s.arguments ≡ levels_searching x s
      → ((kept : Kept) → (r >>= (λ taken. search x e taken s.world.kept)) ≡ Ok (Found kept)
      → Finds x e s (with_kept kept s.world))
      → ((kept : Kept) → (r >>= (λ taken. search x e taken s.world.kept)) ≡ Ok (Missed kept)
      → Misses x e s (with_kept (kept_by_miss e.colons kept) s.world))
      → search_ways (has_colon e s.frames.running) (map start_of s.frames.running.loops) e (position_of s) ≡ Ok ways
      → settle e s
      (r >>= (λ taken. search x e taken s.world.kept >>=
      (λ finding. Ok (searching.found e miss s.left (levels_after_taking s.arguments) s.world finding)))) ≡ Next t
      → Moves (Some e) ways s t
  in_buffer (Err c) l a finds misses w h = absurd (cc)
  in_buffer (Ok taken) l a finds misses w h = searched (search x e taken s.world.kept) l a finds misses w h

  looked :
      (r : Result Looked Code) (arguments : Arguments) → is_long (kind.Search x) ≡ true
      → arguments ≡ levels_searching x s → ((world : World) → r ≡ Ok (Met world) → Finds x e s world)
      → ((last : World) → r ≡ Ok (Through last) → Misses x e s (looked_through last))
      → search_ways (has_colon e s.frames.running) (map start_of s.frames.running.loops) e (position_of s) ≡ Ok ways
      → settle e s (searching.looking miss arguments r) ≡ Next t → Moves (Some e) ways s t
  looked (Err c) arguments long a finds misses w h = absurd (cc)
  looked (Ok (Met world)) arguments long a finds misses w h =
      found x e ways s t None arguments (record { kind_is = g; done = refl; arguments_are = a })
      (has_colon e s.frames.running) world refl (finds world refl) w h
  looked (Ok (Turned n world)) arguments long a finds misses w h =
      stays (Some e) n ways s _ t refl refl (ap is_long g ∙ long) h
  looked (Ok (Through last)) arguments long a finds misses w h =
      missed x e ways s t None arguments (record { kind_is = g; done = refl; arguments_are = a })
      (has_colon e s.frames.running) _ _ refl (misses last refl) w h

  looked_first :
      (r : Result Taken Code) → is_long (kind.Search x) ≡ true → levels_after_taking s.arguments ≡ levels_searching x s
      → ((world : World) → (r >>= (λ taken. look_first x e taken s.world)) ≡ Ok (Met world) → Finds x e s world)
      → ((last : World) → (r >>= (λ taken. look_first x e taken s.world)) ≡ Ok (Through last)
      → Misses x e s (looked_through last))
      → search_ways (has_colon e s.frames.running) (map start_of s.frames.running.loops) e (position_of s) ≡ Ok ways
      → settle e s (r >>= (λ taken. searching.looking miss (levels_after_taking s.arguments)
      (look_first x e taken s.world))) ≡ Next t → Moves (Some e) ways s t
  looked_first (Err c) long a finds misses w h = absurd (cc)
  looked_first (Ok taken) long a finds misses w h =
      looked (look_first x e taken s.world) (levels_after_taking s.arguments) long a finds misses w h

  looked_from :
      (left : Option ℕ) → is_long (kind.Search x) ≡ true → levels_looking left s.arguments ≡ levels_searching x s
      → ((world : World) → looking_on x e s left ≡ Ok (Met world) → Finds x e s world)
      → ((last : World) → looking_on x e s left ≡ Ok (Through last) → Misses x e s (looked_through last))
      → search_ways (has_colon e s.frames.running) (map start_of s.frames.running.loops) e (position_of s) ≡ Ok ways
      → settle e s (searching.found_in_pages x e miss left s.arguments s.world) ≡ Next t → Moves (Some e) ways s t
  looked_from None long a finds misses w h = looked_first (arguments_of s.arguments.level) long a finds misses w h
  looked_from (Some n) long a finds misses w h = looked (look_for x e n s.world) s.arguments long a finds misses w h

search_moved : (x : Search) (e : Element) (ways : List Position) (s t : State) → e.kind ≡ kind.Search x
    → IsLeftAt (Some e) s.left →
    search_ways (has_colon e s.frames.running) (map start_of s.frames.running.loops) e (position_of s) ≡ Ok ways →
    settle e s (searching.search_reply x e (searching.miss_of e s.frames.running) s.left s.arguments s.world) ≡ Next t
    → Moves (Some e) ways s t
search_moved search_kind.Find e ways s t g l w h =
    in_buffer search_kind.Find e ways s t g (arguments_of s.arguments.level)
    (nothing_left (kind.Search search_kind.Find) e s.left g refl l) refl
    (λ kept r. (kept, r, refl)) (λ kept r. (kept, r, refl)) w h
search_moved search_kind.Replace e ways s t g l w h =
    in_buffer search_kind.Replace e ways s t g (arguments_of s.arguments.level)
    (nothing_left (kind.Search search_kind.Replace) e s.left g refl l) refl
    (λ kept r. (kept, r, refl)) (λ kept r. (kept, r, refl)) w h
search_moved search_kind.FindInPages e ways s t g l w h =
    looked_from search_kind.FindInPages e ways s t g s.left refl refl (λ world r. r) (λ last r. (last, r, refl)) w h
search_moved search_kind.ReplaceInPages e ways s t g l w h =
    looked_from search_kind.ReplaceInPages e ways s t g s.left refl refl (λ world r. r) (λ last r. (last, r, refl)) w h

-- calls and returns
called : (library : Library) (c : Call) (text : Option (List ℕ)) (e : Element) (ways : List Position) (s t : State)
    → e.kind ≡ kind.Call c → IsLoaded library s.world.kept → macro library c.register ≡ text → s.left ≡ None →
    call_ways text e (position_of s) ≡ Ok ways → settle e s (Ok (call_reply c s)) ≡ Next t → Moves (Some e) ways s t
called library c None e ways s t g loaded m l w h = absurd (cc)
called library c (Some text) e ways s t g loaded m l w h =
    let gone = same_next _ t h in
    on_way (Some e) 0 ways _ s _ t (of_kind (kind.Call c) 0 e s t g (sym gone)) (only _ ways w) l
    (ap (λ text. position_of_frames (frames_in text e.next s.frames)) (loaded.holds c.register text m)) gone

returned : (loops : List Loop) (callers : List Frame) (ways : List Position) (s t : State)
    → s.frames.running.loops ≡ loops → s.frames.callers ≡ callers → s.left ≡ None →
    return_ways (map start_of loops) (map spot_of callers) ≡ Ok ways → end_of_text loops s ≡ Next t
    → Moves None ways s t
returned (loop ∷ outer) callers ways s t o c l w h = absurd (cc)
returned [] [] ways s t o c l w h = let z : End s.world ≡ Next t = rw c at h in absurd (cc)
returned [] (caller ∷ callers) ways s t o c l w h =
    let gone = same_next (record s { frames = record { running = caller; callers = callers } }) t (rw c at h) in
    on_way None 0 ways _ s _ t (record { caller = caller; callers = callers; waiting = c; closed = o; gone = sym gone })
    (only _ ways w) l refl gone

turned : (r : Result Turn Code) (f : Flow) (e : Element) (ways : List Position) (s t : State) → e.kind ≡ kind.Flow f
    → s.left ≡ None → turn_of f e s.arguments s.frames.running ≡ r →
    flow_ways f e (position_of s) ≡ Ok ways → settle e s (flow_reply s.left s.world r) ≡ Next t
    → Moves (Some e) ways s t
turned (Err c) f e ways s t g l r w h = absurd (cc)
turned (Ok turn) f e ways s t g l r w h =
    let goes = turn_goes f e s.arguments s.frames.running turn g r in
    let gone = same_next _ t h in
    on_way (Some e) goes.way ways (position_in turn.frame s.frames.callers) s _ t
    (of_kind (kind.Flow f) goes.way e s t g (record { turn = turn; went = goes.went; gone = sym gone }))
    (way_leads f goes.way e s.arguments s.frames.running s.frames.callers turn ways goes.went w) l refl gone

-- an element of a kind, whose outcome is told as the kind has it
obeyed : (library : Library) (k : Kind) (e : Element) (ways : List Position) (s t : State) → e.kind ≡ k
    → IsLoaded library s.world.kept → IsLeftAt (Some e) s.left →
    element_ways library k e (position_of s) ≡ Ok ways → outcome_of k e s ≡ Next t → Moves (Some e) ways s t
unfolding reply_of
obeyed library (kind.Argument a) e ways s t g loaded l w h =
    moved _ e ways s t (performed e s.left s.world _ (nothing_left (kind.Argument a) e s.left g refl l))
    (of_kind (kind.Argument a) 0 e s t g h) (only _ ways w) h
obeyed library (kind.Value v) e ways s t g loaded l w h =
    moved _ e ways s t (performed e s.left s.world _ (nothing_left (kind.Value v) e s.left g refl l))
    (of_kind (kind.Value v) 0 e s t g h) (only _ ways w) h
obeyed library (kind.Query q) e ways s t g loaded l w h =
    moved _ e ways s t (performed e s.left s.world _ (nothing_left (kind.Query q) e s.left g refl l))
    (of_kind (kind.Query q) 0 e s t g h) (only _ ways w) h
obeyed library (kind.Stack k) e ways s t g loaded l w h =
    moved _ e ways s t (performed e s.left s.world _ (nothing_left (kind.Stack k) e s.left g refl l))
    (of_kind (kind.Stack k) 0 e s t g h) (only _ ways w) h
obeyed library (kind.Command c) e ways s t g loaded l w h =
    moved _ e ways s t (performed e s.left s.world _ (nothing_left (kind.Command c) e s.left g refl l))
    (of_kind (kind.Command c) 0 e s t g h) (only _ ways w) h
obeyed library (kind.Call c) e ways s t g loaded l w h =
    called library c (macro library c.register) e ways s t g loaded refl (nothing_left (kind.Call c) e s.left g refl l)
    w h
obeyed library (kind.Flow f) e ways s t g loaded l w h =
    turned (turn_of f e s.arguments s.frames.running) f e ways s t g (nothing_left (kind.Flow f) e s.left g refl l) refl
    w h
obeyed library (kind.Page p) e ways s t g loaded l w h =
    moved _ e ways s t (page_goes p e s g l) (of_kind (kind.Page p) 0 e s t g h) (only _ ways w) h
obeyed library (kind.Search x) e ways s t g loaded l w h = search_moved x e ways s t g l w h
obeyed library (kind.File f) e ways s t g loaded l w h =
    moved _ e ways s t
    (goes_then e (arguments_of s.arguments.level)
    (λ taken. outside.filed f e.text s.left (levels_after_taking s.arguments) s.world)
    (λ taken. filed f e e.text s.left (levels_after_taking s.arguments) s.world
    (nothing_left (kind.File f) e s.left g refl l)))
    (of_kind (kind.File f) 0 e s t g h) (only _ ways w) h

none_left : (left : Option ℕ) → IsLeftAt None left → left ≡ None
none_left None l = refl
none_left (Some n) l = absurd l

went : (library : Library) (read : Option Element) (ways : List Position) (s t : State) → IsLoaded library s.world.kept
    → IsLeftAt read s.left →
    ways_at library read (position_of s) ≡ Ok ways → outcome_at s (Ok read) ≡ Next t → Moves read ways s t
unfolding ways_at
went library None ways s t loaded l w h =
    returned s.frames.running.loops s.frames.callers ways s t refl refl (none_left s.left l) w h
went library (Some e) ways s t loaded l w h = obeyed library e.kind e ways s t refl loaded l w h

pub steps_go_ways : StepsGoWays
steps_go_ways library s t read ways loaded l r w h = went library read ways s t loaded l w (sym (as_read s read r) ∙ h)
