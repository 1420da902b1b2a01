-- An element that begins where a run is described passes, by the laws of facts.
use Rattle.teco_law_tables.proofs.Prelude.{◌≡◌, inl, inr, ℕ, suc, refl, sym, ap, ◌∙◌, subst, arith, Bool, true, false}
use Rattle.teco_law_tables.proofs.Prelude.{Option, Some, None, Result, Ok, Err, option_map_or, stands, Kind, Page}
use Rattle.teco_law_tables.proofs.Prelude.{Search, Element, element_at, Reaches, Frames, State, Next, step, Library}
use Rattle.teco_law_tables.proofs.Prelude.{IsLoaded, names_macro, position_of, position_of_frames, GoesTo, MovesFrom}
use Rattle.teco_law_tables.proofs.Prelude.{Stayed, is_long, IsLeftAt, read_at, Polynomial, value, reaches_more}
use Rattle.teco_law_tables.proofs.Prelude.{RefusalReason, KnownTaken, arguments_of, Run, IsWhole, Facts, steps, FitsOn}
use Rattle.teco_law_tables.proofs.Prelude.{AreOpen, BeginsAt, KindEnds, Placed, answer_for, Edges, without_answer}
use Rattle.teco_law_tables.proofs.Prelude.{edges_of, transfer, placed, edges_behind, edges_at, run_at, IsLong, IsLast}
use Rattle.teco_law_tables.proofs.Prelude.{Alone, Again, steps_of, needs_in, NoFileCommands, value_of, reads_none}
use Rattle.teco_law_tables.proofs.Prelude.{none_yet, none_more}
use Rattle.teco_law_runs.specs.Staying.{is_of_files, FilesStayOpen}
use Rattle.std.specs.Prelude.{IsErr}
use Rattle.teco_model.specs.declared.kind.Command.TheVariants as command
use Rattle.teco_model.specs.declared.kind.Storage.{Storage}
use Rattle.teco_model.specs.declared.kind.Storage.TheVariants as storage
use Rattle.teco_model.specs.declared.kind.Stack.TheVariants as stack
use Rattle.teco_model.specs.declared.kind.Kind.TheVariants as kind
use Rattle.teco_model.specs.declared.kind.Page.TheVariants as page
use Rattle.teco_model.specs.declared.kind.Search.TheVariants as search
use Rattle.teco_model.specs.Macros.{is_macro}
use Rattle.teco_law_runs.specs.Loaded.{StaysLoaded}
use Rattle.teco_verifier.specs.expansion.Names.{named_by, written_by, writes_macro}
use Rattle.teco_law_runs.specs.Run.{Went, StepsGoAlongNodes}
use Rattle.teco_law_facts.proofs.Library.{library_stays}
use Rattle.teco_law_facts.proofs.Repeats.{Completed, IsKept, completed}
use Rattle.teco_law_facts.specs.Repeats.{IsAt}
use Rattle.teco_verifier.specs.declared.refusal.RefusalReason.TheVariants as refusal
use Rattle.teco_verifier.specs.facts.Attempt.{◌>>=◌}
use Rattle.teco_verifier.specs.facts.Facts.{Answer}
use Rattle.teco_law_facts.specs.Laws.{WritesText}
use Rattle.teco_law_facts.specs.SoundPages.{IsTurnOrWrite}
use Rattle.teco_law_facts.specs.SoundSeeking.{IsInPages}
use Rattle.teco_law_facts.specs.SoundSteps.{KindUnderway, IsUnderway, StepsAreSound, LaterStepsAreSound}
use Rattle.teco_law_tables.proofs.Ground.{Ground, Arrival}
use Rattle.teco_law_tables.proofs.Coming.{HasLoop, element_comes}
use Rattle.teco_law_runs.proofs.Staying.{open_as_before}
use Rattle.teco_law_tables.proofs.Underway.{IsAmid, AreAmid, none_amid, more_amid, Goes}

-- ---- no register of the library is written
one_named : (b : Bool) → (b ≡ true → ⊥) → b ≡ false
one_named true h = absurd (h refl)
one_named false h = refl

storage_writes : (library : Library) (s : Storage)
    → (option_map_or (is_macro library) (named_by (kind.Command (command.Storage s))) false ≡ true
    → WritesText (kind.Command (command.Storage s)) → ⊥)
    → option_map_or (is_macro library) (written_by (kind.Command (command.Storage s))) false ≡ false
storage_writes library (storage.Copy r) h = one_named _ (λ e. h e tt)
storage_writes library (storage.SetText r) h = one_named _ (λ e. h e tt)
storage_writes library s h = refl

kind_writes : (library : Library) (k : Kind)
    → (option_map_or (is_macro library) (named_by k) false ≡ true → WritesText k → ⊥)
    → option_map_or (is_macro library) (written_by k) false ≡ false
kind_writes library (kind.Stack (stack.Pop r)) h = one_named _ (λ e. h e tt)
kind_writes library (kind.Command (command.Storage s)) h = storage_writes library s h
kind_writes library k h = refl

not_refused : (r : Result Edges RefusalReason) (edges : Edges) → r ≡ Ok edges → IsErr r → ⊥
not_refused r edges h e = absurd (grind arith)

pub writes_nothing : (library : Library) (x : Placed) (facts : Facts) (edges : Edges)
    → x.library ≡ names_macro library (Some x.element) → transfer x facts ≡ Ok edges
    → writes_macro library (Some x.element) ≡ false
writes_nothing library x facts edges names h =
    kind_writes library x.element.kind
    (λ e writes. not_refused (transfer x facts) edges h (library_stays x facts (names ∙ e) writes))

-- ---- no file is opened or closed
never : (r : Result KnownTaken RefusalReason) (edges : Edges) → (r >>= (λ taken. Err refusal.Unverified)) ≡ Ok edges → ⊥
never r edges h = absurd (grind arith)

kind_no_file : (k : Kind) (x : Placed) (answer : Option Answer) (facts : Facts) (edges : Edges)
    → edges_of k x answer facts ≡ Ok edges → is_of_files k ≡ false
kind_no_file (kind.File f) x answer facts edges h = absurd (never (arguments_of facts.arguments.level) edges h)
kind_no_file k x answer facts edges h = refl

no_file : (x : Placed) (facts : Facts) (edges : Edges) → transfer x facts ≡ Ok edges
    → is_of_files x.element.kind ≡ false
unfolding transfer
no_file x facts edges h = kind_no_file x.element.kind x (answer_for x.element.kind facts) (without_answer facts) edges h

-- ---- an element that is underway is long
page_long : (p : Page) → IsTurnOrWrite p → is_long (kind.Page p) ≡ true
page_long page.Next h = refl
page_long page.Write h = refl
page_long p h = absurd h

search_long : (q : Search) → IsInPages q → is_long (kind.Search q) ≡ true
search_long search.FindInPages h = refl
search_long search.ReplaceInPages h = refl
search_long q h = absurd (grind arith)

under_long : (k : Kind) (run : Run) (facts : Facts) (x : Placed) (edges : Edges) (old u : State) (rest : ℕ)
    → KindUnderway k run facts x edges old rest u → is_long k ≡ true
under_long (kind.Page p) run facts x edges old u rest h = page_long p h.0
under_long (kind.Search q) run facts x edges old u rest h = search_long q h.0
under_long k run facts x edges old u rest h = absurd h

under_left : (k : Kind) (run : Run) (facts : Facts) (x : Placed) (edges : Edges) (old u : State) (rest : ℕ)
    → KindUnderway k run facts x edges old rest u → (n : ℕ) × (u.left ≡ Some n)
under_left (kind.Page p) run facts x edges old u rest h = (rest, h.1)
under_left (kind.Search q) run facts x edges old u rest h = h.1
under_left k run facts x edges old u rest h = absurd h

left_long : (e : Element) (left : Option ℕ) → is_long e.kind ≡ true → IsLeftAt (Some e) left
left_long e None h = tt
left_long e (Some n) h = h

-- ---- nothing is left where an element ends
ends_done : (k : Kind) (run : Run) (facts : Facts) (x : Placed) (edges : Edges) (s new : State) → s.left ≡ None
    → KindEnds k run facts x edges s new → new.left ≡ None
ends_done (kind.Flow f) run facts x edges s new none h = ap (λ (s : State). s.left) h.gone ∙ none
ends_done (kind.Call c) run facts x edges s new none h = ap (λ (s : State). s.left) h.gone ∙ none
ends_done (kind.Search q) run facts x edges s new none (inl h) = h.done
ends_done (kind.Search q) run facts x edges s new none (inr h) = h.1.done
ends_done k run facts x edges s new none h = h.done

-- ---- the steps of an element
pub record Facts_laws : Type 0 where
  pub first : StepsAreSound
  pub later : LaterStepsAreSound
  pub along : StepsGoAlongNodes
  pub loaded : StaysLoaded
  pub files : FilesStayOpen

module _ (laws : Facts_laws) (ground : Ground) (arrival : Arrival ground) where
  open ground use {library, entry, nodes, table, n, below, are}
  open arrival use {number, turns, s, here}

  module _ (e : Element) (reads : here.node.element ≡ Some e) (edges : Edges)
      (leads : edges_at nodes here.node here.facts ≡ Ok edges) (most : Polynomial)
      (takes : steps e.kind here.facts ≡ Ok most) (fits : FitsOn n edges)
      (begins : BeginsAt (run_at n below turns) here.facts (placed nodes here.node e) s) (wholes : (k : ℕ) (u : State)
      → Reaches k s u → IsWhole u.world.kept) (inside : (q : Search) → e.kind ≡ kind.Search q
      → (placed nodes here.node e).colon ≡ false → HasLoop s.frames.running) where
    abbrev run_here : Run
    run_here = run_at n below turns

    abbrev x : Placed
    x = placed nodes here.node e

    knows : transfer x here.facts ≡ Ok edges
    knows = ap (λ read. edges_behind nodes here.node read here.facts) (sym reads) ∙ leads

    abbrev Under : ℕ → State → Type 0
    Under rest u = IsUnderway e.kind run_here here.facts x edges s rest u

    abbrev Ends : State → Type 0
    Ends new = KindEnds e.kind run_here here.facts x edges s new

    under_is_long : (u : State) (rest : ℕ) → Under rest u → is_long e.kind ≡ true
    under_is_long u rest under = under_long e.kind run_here here.facts x edges s u rest under.work

    frames_same : (u : State) → IsAt Under s u → u.frames ≡ s.frames
    frames_same u (inl same) = ap (λ (s : State). s.frames) same
    frames_same u (inr (rest, under)) = under.frames

    last_of : (u : State) → IsAt Under s u → IsLast here.node.element s u
    last_of u (inl same) = Alone same
    last_of u (inr (rest, under)) = Again under.frames (subst IsLong (sym reads) (under_is_long u rest under))

    amid_of : (u : State) (rest : ℕ) → Under rest u → IsAmid here.node.element s u
    amid_of u rest under =
        let left = under_left e.kind run_here here.facts x edges s u rest under.work in
        record {
          n = left.0;
          left = left.1;
          frames = under.frames;
          long = subst IsLong (sym reads) (under_is_long u rest under);
        }

    left_at : (u : State) → IsAt Under s u → IsLeftAt here.node.element u.left
    left_at u (inl same) = subst (λ left. IsLeftAt here.node.element left)
        (sym (ap (λ (s : State). s.left) same ∙ here.begins)) tt
    left_at u (inr (rest, under)) = subst (λ read. IsLeftAt read u.left) (sym reads)
        (left_long e u.left (under_is_long u rest under))

    abbrev HasOpen : State → Type 0
    HasOpen u = AreOpen (needs_in nodes table) u.world.files

    -- what each step keeps
    record Keeps (j : ℕ) (u : State) : Type 0 where
      none : NoFileCommands s j
      amid : AreAmid here.node.element s j
      loaded : IsLoaded library u.world.kept
      files : HasOpen u

    module _ (u new : State) (at : IsAt Under s u) (goes : step u ≡ Next new) where
      position_is : here.node.stand.position ≡ position_of u
      position_is = here.position ∙ ap position_of_frames (sym (frames_same u at))

      loaded_next : IsLoaded library u.world.kept → IsLoaded library new.world.kept
      loaded_next loaded =
          let linked = are.each number here.node here.at in
          laws.loaded library u new (Some e) loaded
          (writes_nothing library x here.facts edges (linked.names ∙ ap (names_macro library) reads) knows)
          (ap read_at (sym position_is) ∙ (linked.reads ∙ ap Ok reads)) goes

      read_there : element_at u.frames.running.text u.frames.running.place ≡ Ok (Some e)
      read_there = ap (λ (frames : Frames). element_at frames.running.text frames.running.place) (frames_same u at)
          ∙ begins.read

      none_next : (j : ℕ) → Reaches j s u → NoFileCommands s j → NoFileCommands s (suc j)
      none_next j came none =
          none_more j s u none came (reads_none u (Some e) read_there (no_file x here.facts edges knows))

      open_next : HasOpen u → HasOpen new
      open_next files = open_as_before (needs_in nodes table) u.world.files new.world.files
          (laws.files u new (Some e) (no_file x here.facts edges knows) read_there goes) files

    keeps : IsKept Under Keeps s
    keeps j rest u new at came k goes there under = record {
      none = none_next u new at goes j came k.none;
      amid = more_amid here.node.element s new j k.amid there (amid_of new rest under);
      loaded = loaded_next u new at goes k.loaded;
      files = open_next u new at goes k.files;
    }

    -- the step that ends it
    module _ (c : Completed Under Ends Keeps (value most n) s) where
      done : c.new.left ≡ None
      done = ends_done e.kind run_here here.facts x edges s c.new here.begins c.ends

      moved : MovesFrom (stands nodes entry) number here.node c.last c.new
          → GoesTo (stands nodes entry) number here.node c.last c.new
      moved (Went g) = g
      moved (Stayed st) = let z : None ≡ Some st.n = sym done ∙ st.left in absurd (cc)

      went : GoesTo (stands nodes entry) number here.node c.last c.new
      went = moved (laws.along library entry nodes number here.node c.last c.new are here.at
          (position_is c.last c.new c.stands c.final) (left_at c.last c.stands) c.kept.loaded c.final)

      ending : Goes library entry nodes table n below number turns s here
      ending = record {
        amid = c.kept.amid;
        passes = record {
          before = c.before;
          last = c.last;
          next = c.new;
          reaches = c.reaches;
          steps = c.final;
          few = let e2 : value_of n (steps_of here.node.element here.facts) ≡ value most n =
              ap (value_of n) (ap (λ read. steps_of read here.facts) reads ∙ takes) in omega (arith, e2, c.few);
          none = none_next c.last c.new c.stands c.final c.before c.reaches c.kept.none;
          again = last_of c.last c.stands;
          goes = went;
          comes = element_comes nodes here.node here.facts edges run_here s c.last c.new leads e reads
              (last_of c.last c.stands) inside went.way went.was c.ends;
          loaded = loaded_next c.last c.new c.stands c.final c.kept.loaded;
          whole = wholes (suc c.before) c.new (reaches_more c.before s c.last c.new c.reaches c.final);
          files = open_next c.last c.new c.stands c.final c.kept.files;
        };
      }

    pub passing : HasOpen s → Goes library entry nodes table n below number turns s here
    passing files = ending (completed Under Ends Keeps (value most n) s (record {
      first = laws.first run_here here.facts x edges most s begins knows fits takes;
      later = λ rest u i. laws.later run_here here.facts x edges most s u rest begins knows fits takes i;
    }) keeps (record {
      none = none_yet s;
      amid = none_amid here.node.element s;
      loaded = here.loaded;
      files = files;
    }))
