-- A, P and PW proceed along their edges.
use Rattle.teco_law_facts.proofs.Prelude.{◌≡◌, ℕ, zero, suc, ◌+◌, ◌≤◌, arith, refl, sym, subst, ℤ, pos, negsuc, ◌≤ℤ◌}
use Rattle.teco_law_facts.proofs.Prelude.{List, Option, Some, None, MatchOption, Result, Ok, Err, IfOk, inl, inr, ⊤}
use Rattle.teco_law_facts.proofs.Prelude.{unwrap_or, ints, Code, Input, Output, settle, first_page, unread_of, World}
use Rattle.teco_law_facts.proofs.Prelude.{State, Outcome, Next, Taken, Page, Polynomial, value, ok_any, ok_then, Run}
use Rattle.teco_law_facts.proofs.Prelude.{Facts, Edges, steps, Succeeds, FitsOn, ComesTo, Comes, TurnsPages, Appends}
use Rattle.teco_law_facts.proofs.Prelude.{PagesAtMost, IsTurnOrWrite, BeginsAt, IsUnderway, Proceeds, Placed, transfer}
use Rattle.teco_model.specs.Arguments as model
use Rattle.teco_model.specs.Checked.{◌>>=◌}
use Rattle.teco_model.specs.Outside as outside
use Rattle.teco_model.specs.Paging as paging
use Rattle.teco_model.specs.Paging.{Progress}
use Rattle.teco_model.specs.Places.{text_between}
use Rattle.teco_model.specs.declared.kind.Kind.TheVariants as kind
use Rattle.teco_model.specs.declared.kind.Page.TheVariants as page
use Rattle.teco_law_facts.proofs.Going.{leads_at, then_so, so_far, on_comes}
use Rattle.teco_law_facts.proofs.Leading.{succeeds_with}
use Rattle.teco_law_facts.proofs.Paging.{appends_are_sound, page_turns_are_sound, page_writes_are_sound}
use Rattle.teco_law_facts.proofs.Seeking.{written_out}
use Rattle.teco_law_facts.proofs.Steppings.{page_steps_are_bounded}

-- an output is open
abbrev pub IsOpen : World → Type 0
IsOpen world = (output : Output) × (world.files.output ≡ Some output)

-- ---- an output stays open
wrote_open : (bytes : List ℕ) (world : World) → IsOpen world → IsOpen (paging.world_after_writing bytes world)
wrote_open bytes world (output, o) = written_out bytes world.files.output output o

turned_open : (world : World) → IsOpen world → IfOk (paging.page_turned world) IsOpen
turned_open world o = ok_then IsOpen IsOpen (paging.world_with_next_page world) _
    (ok_any IsOpen (paging.page_taken (first_page (paging.unread world.files)) world.kept)
    (λ kept. Ok (record { kept = kept; files = paging.files_behind_page world.files })) (λ kept. o))
    (λ turned i. wrote_open _ turned i)

written_open : (world : World) → IsOpen world → IfOk (paging.page_written world) IsOpen
written_open world o = wrote_open _ world o

-- ---- how much is left, and where
pub record IsLeft (most : ℕ) (first : Option ℤ) (done : Progress) : Type 0 where
  pub fewer : done.left + 1 ≤ most
  pub alone : 1 ≤ done.left → first ≡ None
  pub output : IsOpen done.world

one_left : (page : World → Result World Code) (world : World) → IsOpen world → IfOk (page world) IsOpen
    → (most n : ℕ) (first : Option ℤ) → 1 ≤ n → n ≤ most → first ≡ None
    → IfOk (paging.one_page_of page n world) (IsLeft most first)
one_left page world o k most n first some few none =
    ok_any (IsLeft most first) (paging.needed_output world) _
    (λ output. ok_then IsOpen (IsLeft most first) (page world) _ k
    (λ done i. record { fewer = omega arith; alone = λ more. none; output = i }))

counted_left : (page : World → Result World Code) (world : World) → IsOpen world → IfOk (page world) IsOpen
    → (most : ℕ) (z : ℤ) → z ≤ℤ pos most → IfOk (paging.page_count z >>= λ n. paging.one_page_of page n world)
    (IsLeft most None)
counted_left page world o k most (pos zero) l = tt
counted_left page world o k most (pos (suc n)) l =
    one_left page world o k most (suc n) None (omega arith) (omega (arith, ints)) refl
counted_left page world o k most (negsuc n) l = tt

pages_left : (page : World → Result World Code) (world : World) → IsOpen world → IfOk (page world) IsOpen
    → (most : ℕ) (first value : Option ℤ) → PagesAtMost most first value → ((m : ℤ) → first ≡ Some m → value ≡ None → ⊥)
    → IfOk (paging.pages_of page first value world) (IsLeft most first)
pages_left page world o k most (Some m) (Some n) l w =
    ok_then IsOpen (IsLeft most (Some m)) (paging.range_written m n world) _
    (ok_any IsOpen (text_between m n world.kept) (λ text. Ok (paging.world_after_writing text world))
    (λ text. wrote_open text world o)) (λ done i. record {
      fewer = omega arith;
      alone = λ more. absurd (omega arith);
      output = i;
    })
pages_left page world o k most None value l w = counted_left page world o k most (unwrap_or value (pos 1)) l
pages_left page world o k most (Some m) None l w = absurd (w m refl refl)

-- a first value stands before a value
taken_both : (first value : Option ℤ) → IfOk (model.arguments_from first value) (λ (taken : Taken). (m : ℤ)
    → taken.first ≡ Some m → taken.value ≡ None → ⊥)
taken_both None value = λ m e f. cc
taken_both (Some m) None = tt
taken_both (Some m) (Some n) = λ k e f. cc

module _ (run : Run) (facts : Facts) (x : Placed) (edges : Edges) (s : State) (h : BeginsAt run facts x s)
    (t : transfer x facts ≡ Ok edges) (fits : FitsOn run.n edges) where
  abbrev at : World → Option ℕ → State
  at world left = record s { world = world; arguments = model.levels_after_taking s.arguments; left = left }

  -- what is pending behind an element that took its arguments
  abbrev rest : model.Arguments
  rest = model.levels_after_taking s.arguments

  -- the first state, or a later one
  abbrev from : World → model.Arguments → Option ℕ → State
  from world arguments left = record s { world = world; arguments = arguments; left = left }

  abbrev pub ComesBehind : World → Type 0
  ComesBehind new = Comes run facts.held s.world (model.levels_after_taking s.arguments) edges new

  module _ (p : Page) where
    abbrev Goes : ℕ → Outcome → Type 0
    Goes most outcome = Proceeds (kind.Page p) run facts x edges s most outcome

    behind_page : (most : ℕ) → 1 ≤ most → (world : World) (left : Option ℕ) → left ≡ None → ComesBehind world
        → Goes most (Next (record s {
          world = world;
          arguments = model.levels_after_taking s.arguments;
          frames = record s.frames { running = record s.frames.running { place = x.element.next } };
          left = left;
        }))
    behind_page most some world left l c = inl (some, record { comes = c; frames = refl; done = l })

    -- ---- P and PW
    progress_goes : IsTurnOrWrite p → (most : ℕ) (taken : Taken) → model.arguments_of s.arguments.level ≡ Ok taken
        → (now : World) (arguments : model.Arguments) (left : Option ℕ) (r : Result Progress Code)
        → IfOk r (IsLeft most taken.first) → Succeeds (λ (done : Progress). ComesBehind done.world) r
        → Goes most (settle x.element (from now arguments left) (outside.in_pages rest r))
    progress_goes b most taken w now arguments left (Err c) i g = absurd g
    progress_goes b most taken w now arguments left (Ok done) i g = by done.left refl where
      by : (n : ℕ) → done.left ≡ n → Goes most
          (settle x.element (from now arguments left) (Ok (outside.while_left n rest done.world)))
      by zero e = behind_page most (omega (arith, i.fewer)) done.world None refl g
      by (suc n) e = inr (
        suc n,
        omega (arith, e, i.fewer),
        record {
          some = omega arith;
          pending = refl;
          frames = refl;
          output = i.output;
          work = (b, refl, g, (taken, w, i.alone (omega (arith, e))));
        },
      )

  -- The first step of P or PW does a page, or a part, and each later step does the next page.
  abbrev pub Begins : (World → Result World Code) → Taken → Type 0
  Begins page taken = Succeeds (λ (done : Progress). ComesBehind done.world) (paging.pages page taken s.world)

  pub record RepeatsPage (page : World → Result World Code) : Type 0 where
    pub opens : (world : World) → IsOpen world → IfOk (page world) IsOpen
    pub begins : Succeeds (Begins page) (model.arguments_of s.arguments.level)
    pub more : (taken : Taken) → model.arguments_of s.arguments.level ≡ Ok taken → taken.first ≡ None
        → (now : World) → ComesBehind now → Succeeds ComesBehind (page now)

  module _ (p : Page) (page : World → Result World Code) (turns : IsTurnOrWrite p) (o : IsOpen s.world)
      (r : RepeatsPage page) where
    well_taken : IfOk (model.arguments_of s.arguments.level) (λ (taken : Taken). (m : ℤ) → taken.first ≡ Some m
        → taken.value ≡ None → ⊥)
    well_taken = ok_any (λ (taken : Taken). (m : ℤ) → taken.first ≡ Some m → taken.value ≡ None → ⊥)
        (model.final_value s.arguments.level) (λ value. model.arguments_from s.arguments.level.first value)
        (taken_both s.arguments.level.first)

    first_pages : (most : ℕ) (c : Result Taken Code) → model.arguments_of s.arguments.level ≡ c
        → IfOk c (λ (taken : Taken). (m : ℤ) → taken.first ≡ Some m → taken.value ≡ None → ⊥)
        → Succeeds (λ (taken : Taken). PagesAtMost most taken.first taken.value) c → Succeeds (Begins page) c
        → Goes p most (settle x.element s (c >>= λ taken. outside.in_pages rest (paging.pages page taken s.world)))
    first_pages most (Err c) e w b g = absurd g
    first_pages most (Ok taken) e w b g =
        progress_goes p turns most taken e s.world s.arguments s.left (paging.pages page taken s.world)
        (ok_any (IsLeft most taken.first) (paging.needed_output s.world) _
        (λ output. pages_left page s.world o (r.opens s.world o) most taken.first taken.value b w)) g

    pub pages_proceed : (most : Polynomial) → steps (kind.Page p) facts ≡ Ok most
        → Goes p (value most run.n) (settle x.element s (outside.pages_reply page s.left s.arguments s.world))
    pages_proceed most m =
        subst (λ left. Goes p (value most run.n)
        (settle x.element s (outside.pages_reply page left s.arguments s.world))) (sym h.left)
        (first_pages (value most run.n) _ refl well_taken
        (leads_at (λ most. ⊤) (λ most (taken : Taken). PagesAtMost (value most run.n) taken.first taken.value)
        (steps (kind.Page p) facts) (model.arguments_of s.arguments.level) most m tt
        (page_steps_are_bounded run facts (unread_of s.world) s.world.kept s.arguments p h.whole.world.kept
        h.described turns)) r.begins)

    pub pages_again : (rest : ℕ) (now : World) (left : Option ℕ)
        → IsUnderway (kind.Page p) run facts x edges s rest (at now left)
        → Goes p rest (settle x.element (at now left)
        (outside.pages_reply page left (model.levels_after_taking s.arguments) now))
    pages_again rest now left i =
        let w = i.work in let k = w.3 in
        subst (λ l. Goes p rest (settle x.element (at now left)
        (outside.pages_reply page l (model.levels_after_taking s.arguments) now))) (sym w.1)
        (progress_goes p turns rest k.0 k.1 now (model.levels_after_taking s.arguments) left _
        (one_left page now i.output (r.opens now i.output) rest rest k.0.first i.some (omega arith) k.2)
        (succeeds_with (λ (done : Progress). ComesBehind done.world) now.files.output i.output.0 _ _ i.output.1
        (λ q. then_so ComesBehind (λ (done : Progress). ComesBehind done.world) (page now) _
        (r.more k.0 k.1 k.2 now w.2) (λ done w c. c))))

  abbrev Turns : Taken → Type 0
  Turns taken = TurnsPages run facts.held s.world s.arguments edges taken.first taken.value

  pub turns_repeat : x.element.kind ≡ kind.Page page.Next → IsOpen s.world → RepeatsPage paging.page_turned
  turns_repeat e (output, o) = record {
    opens = turned_open;
    begins = so_far Turns (Begins paging.page_turned) _ (λ taken i. i.begins) known;
    more = λ taken w none now c. let i : Turns taken = subst (λ c. Succeeds Turns c) w known in i.more now none c;
  } where
    known : Succeeds Turns (model.arguments_of s.arguments.level)
    known = leads_at (FitsOn run.n) _ (transfer x facts) (model.arguments_of s.arguments.level) edges t fits
        (page_turns_are_sound run facts s.world s.arguments x output h.whole.world.kept h.described e o)

  -- what is written changes nothing that is known
  writes_stay : (bytes : List ℕ) (now : World) (o : Option Facts)
      → MatchOption o ⊥ (λ next. ComesTo run facts.held s.world next (model.levels_after_taking s.arguments) now)
      → MatchOption o ⊥ (λ next. ComesTo run facts.held s.world next (model.levels_after_taking s.arguments)
      (paging.world_after_writing bytes now))
  writes_stay bytes now None c = c
  writes_stay bytes now (Some next) c = record { described = c.described; grown = c.grown }

  pub writes_repeat : x.element.kind ≡ kind.Page page.Write → IsOpen s.world → RepeatsPage paging.page_written
  writes_repeat e (output, o) = record {
    opens = written_open;
    begins = leads_at (FitsOn run.n) _ (transfer x facts) (model.arguments_of s.arguments.level) edges t fits
        (page_writes_are_sound run facts s.world s.arguments x output h.whole.world.kept h.described e o);
    more = λ taken w none now c. writes_stay _ now edges.on c;
  }

  -- ---- A
  abbrev Adds : ℕ → Outcome → Type 0
  Adds most outcome = Proceeds (kind.Page page.Append) run facts x edges s most outcome

  appended : (most : ℕ) → 1 ≤ most → (r : Result World Code) → Succeeds ComesBehind r
      → Adds most (settle x.element s (outside.going_on s.left rest r))
  appended most some (Err c) g = absurd g
  appended most some (Ok world) g = behind_page page.Append most some world s.left h.left g

  append_by : (most : ℕ) → 1 ≤ most → (taken : Taken) (o : Option ℤ)
      → (o ≡ None → (input : Input) × (s.world.files.input ≡ Some input))
      → Appends run facts.held s.world s.arguments edges (record { first = taken.first; value = o })
      → Adds most (settle x.element s (outside.append_reply o s.left rest s.world))
  append_by most some taken None ready g = let i = ready refl in appended most some (paging.append s.world) (g i.0 i.1)
  append_by most some taken (Some n) ready g =
      inl (
        some,
        record {
          comes = on_comes run facts.held s.world s.world.kept _ edges g;
          frames = refl;
          done = h.left;
        },
      )

  append_taken : (most : ℕ) → 1 ≤ most → (r : Result Taken Code)
      → Succeeds (λ (taken : Taken). taken.value ≡ None → (input : Input) × (s.world.files.input ≡ Some input)) r
      → Succeeds (Appends run facts.held s.world s.arguments edges) r
      → Adds most (settle x.element s (r >>= λ taken. outside.append_reply taken.value s.left rest s.world))
  append_taken most some (Err c) ready g = absurd g
  append_taken most some (Ok taken) ready g = append_by most some taken taken.value ready g

  pub append_proceeds : (most : ℕ) → 1 ≤ most → x.element.kind ≡ kind.Page page.Append
      → Succeeds (λ (taken : Taken). taken.value ≡ None → (input : Input) × (s.world.files.input ≡ Some input))
      (model.arguments_of s.arguments.level)
      → Adds most (settle x.element s (model.arguments_of s.arguments.level >>= λ taken.
      outside.append_reply taken.value s.left rest s.world))
  append_proceeds most some e ready =
      append_taken most some _ ready (leads_at (FitsOn run.n) _ (transfer x facts)
      (model.arguments_of s.arguments.level) edges t fits
      (appends_are_sound run facts s.world s.arguments x h.whole.world.kept h.described e))
