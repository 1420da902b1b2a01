-- One law of all elements: the first step, and each that follows.
use Rattle.teco_law_facts.proofs.Prelude.{List, [], ◌∷◌, arith, ◌∙◌, ◌+◌, ◌≤◌, ◌≡◌, ℕ, refl, sym, subst, ⊤, ap, ℤ, true}
use Rattle.teco_law_facts.proofs.Prelude.{Option, Some, None, Result, Ok, Err, IfOk, Code, Input, settle, Frame, Kept}
use Rattle.teco_law_facts.proofs.Prelude.{World, State, Next, step, Taken, Loop, Kind, Page, Search, Polynomial, value}
use Rattle.teco_law_facts.proofs.Prelude.{number, KnownTaken, ◌>>=◌, Run, IsTaken, IsOptional, fore_of, back_of, Facts}
use Rattle.teco_law_facts.proofs.Prelude.{Edges, steps_of_page, steps_of_search, steps, facts_answered, Succeeds, Leads}
use Rattle.teco_law_facts.proofs.Prelude.{FitsOn, unread_of, IsInPages, KindEnds, IsNamed, KindStands, BeginsAt}
use Rattle.teco_law_facts.proofs.Prelude.{IsUnderway, Proceeds, Placed, transfer, IsValue, RefusalReason, Value}
use Rattle.std.proofs.Common.{rules}
use Rattle.teco_model.specs.Arguments as model
use Rattle.teco_model.specs.Paging as paging
use Rattle.teco_model.specs.Searching as outcomes
use Rattle.teco_model.specs.State.{Frames}
use Rattle.teco_model.specs.Step as stepping
use Rattle.teco_model.specs.declared.kind.File.{File}
use Rattle.teco_model.specs.declared.kind.Kind.TheVariants as kind
use Rattle.teco_model.specs.declared.kind.Page.TheVariants as page
use Rattle.teco_model.specs.declared.kind.Search.TheVariants as search
use Rattle.teco_law_facts.proofs.Flowing.{taking_is}
use Rattle.teco_law_facts.proofs.Going.{leads_at, ok_at}
use Rattle.teco_law_facts.proofs.Onward.{outcome_goes, flow_proceeds, call_proceeds, search_proceeds, look_proceeds}
use Rattle.teco_law_facts.proofs.Onward.{look_again}
use Rattle.teco_law_facts.proofs.Paged.{IsOpen, pages_proceed, pages_again, turns_repeat, writes_repeat}
use Rattle.teco_law_facts.proofs.Paged.{append_proceeds}
use Rattle.teco_law_facts.proofs.Repeats.{completed}
use Rattle.teco_law_facts.proofs.Seeking.{search_steps_are_bounded}
use Rattle.teco_law_facts.proofs.Shapes.{value-number}
use Rattle.teco_law_facts.proofs.Steps.{by_kind, Covers}
use Rattle.teco_law_facts.proofs.Transfers.{arguments_are_sound, values_are_sound, commands_are_sound}
use Rattle.teco_law_facts.proofs.Transfers.{queries_are_sound, stacks_are_sound, without_answer}
use Rattle.teco_verifier.specs.facts.Arguments as known
use Rattle.teco_verifier.specs.facts.Printed.{needs, needs_of_page}
use Rattle.teco_law_facts.specs.SoundSeeking.{SearchesAtMost}
use Rattle.teco_law_facts.specs.SoundSteps.{ReturnsGoBack, StepsAreSound, LaterStepsAreSound, ElementsAreSound}
use Rattle.teco_law_runs.specs.Ready.{AreOpen}
use Rattle.teco_verifier.specs.facts.Transfer as transfers
use Rattle.teco_verifier.specs.declared.refusal.RefusalReason.TheVariants as refusal

-- ---- what is refused leads nowhere
yank_refused : (x : Placed) (facts : Facts) → x.element.kind ≡ kind.Page page.Yank
    → IfOk (transfer x facts) (λ edges. ⊥)
yank_refused x facts e =
    by_kind x facts _ (λ r. IfOk r (λ edges. ⊥)) e (by (known.arguments_of facts.arguments.level)) where
      by : (r : Result KnownTaken RefusalReason)
          → IfOk (transfers.on (r >>= λ taken. Err refusal.Unverified >>= λ known. Ok (facts_answered known)))
          (λ edges. ⊥)
      by (Ok taken) = tt
      by (Err why) = tt

file_refused : (x : Placed) (facts : Facts) (f : File) → x.element.kind ≡ kind.File f
    → IfOk (transfer x facts) (λ edges. ⊥)
file_refused x facts f e =
    by_kind x facts _ (λ r. IfOk r (λ edges. ⊥)) e (by (known.arguments_of facts.arguments.level)) where
      by : (r : Result KnownTaken RefusalReason) → IfOk (r >>= λ taken. Err refusal.Unverified) (λ (edges : Edges). ⊥)
      by (Ok taken) = tt
      by (Err why) = tt

module _ (run : Run) (facts : Facts) (x : Placed) (edges : Edges) (s : State) (h : BeginsAt run facts x s)
    (t : transfer x facts ≡ Ok edges) (fits : FitsOn run.n edges) where
  abbrev u : ℕ
  u = unread_of s.world

  abbrev kept : Kept
  kept = s.world.kept

  -- what an element needs
  module _ (k : Kind) (e : x.element.kind ≡ k) where
    named : IsNamed k
    named = subst IsNamed e h.named

    stands : KindStands k facts x s.frames.running
    stands = subst (λ k. KindStands k facts x s.frames.running) e h.stands

    needed : IfOk (needs k facts) (λ need. AreOpen need s.world.files)
    needed = subst (λ k. IfOk (needs k facts) (λ need. AreOpen need s.world.files)) e h.files

    arrived : {X : Type 0} (Q : Edges → X → Type 0) (r : Result X Code) → Leads (FitsOn run.n) Q (transfer x facts) r
        → Succeeds (Q edges) r
    arrived Q r l = leads_at (FitsOn run.n) Q (transfer x facts) r edges t fits l

  -- A without a value needs an input, P, PW, N and FN an output
  output_of : (p : Page) (most : Polynomial) → ((o : Option Value) → (needs_of_page p o).output ≡ true)
      → (r : Result KnownTaken RefusalReason) → (r >>= λ taken. steps_of_page p taken facts) ≡ Ok most
      → IfOk (r >>= λ taken. Ok (needs_of_page p taken.value)) (λ need. AreOpen need s.world.files) → IsOpen s.world
  output_of p most o (Err why) m i = absurd (cc)
  output_of p most o (Ok taken) m i = i.output (o taken.value)

  page_output : (p : Page) (most : Polynomial) → x.element.kind ≡ kind.Page p → steps (kind.Page p) facts ≡ Ok most
      → ((o : Option Value) → (needs_of_page p o).output ≡ true) → IsOpen s.world
  page_output p most e m o = output_of p most o _ m (needed (kind.Page p) e)

  input_of : (most : Polynomial) (r : Result KnownTaken RefusalReason) (c : Result Taken Code)
      → Covers (IsTaken (fore_of kept) (back_of kept)) r c
      → (r >>= λ taken. steps_of_page page.Append taken facts) ≡ Ok most
      → IfOk (r >>= λ taken. Ok (needs_of_page page.Append taken.value)) (λ need. AreOpen need s.world.files)
      → Succeeds (λ (taken : Taken). taken.value ≡ None → (input : Input) × (s.world.files.input ≡ Some input)) c
  input_of most (Ok k) (Ok taken) i m n = by k.value taken.value i.value n where
    by : (o : Option Value) (v : Option ℤ) → IsOptional (IsValue (fore_of kept) (back_of kept)) o v
        → AreOpen (needs_of_page page.Append o) s.world.files → v ≡ None
        → (input : Input) × (s.world.files.input ≡ Some input)
    by None v j a q = a.input refl
    by (Some w) (Some z) j a q = absurd (cc)
    by (Some w) None j a q = absurd j
  input_of most r c i m n = absurd (grind arith)

  looks : (q : Search) (most : Polynomial) → x.element.kind ≡ kind.Search q → IsInPages q → IsOpen s.world
      → u + 1 ≤ value most run.n → Proceeds (kind.Search q) run facts x edges s (value most run.n)
      (settle x.element s (outcomes.found_in_pages q x.element (outcomes.miss_of x.element s.frames.running) s.left
      s.arguments s.world))
  looks q most e b o m = look_proceeds run facts x edges s h t q (value most run.n) fits b e
      (stands (kind.Search q) e) o.0 o.1 m

  bounded : (q : Search) (most : Polynomial) → steps (kind.Search q) facts ≡ Ok most
      → SearchesAtMost q u (value most run.n)
  bounded q most m = ok_at (λ most. SearchesAtMost q u (value most run.n)) (steps (kind.Search q) facts) most m
      (search_steps_are_bounded run facts u kept s.arguments q h.described)

  -- any other takes one step
  one_step : (most : Polynomial) → steps_of_search search.Find facts ≡ Ok most → 1 ≤ value most run.n
  one_step most m = let e : number 1 ≡ most = cc in
      subst (λ (p : Polynomial). 1 ≤ value p run.n) e (omega (arith, value-number 1 run.n))

  one_taken : (most : Polynomial) (r : Result KnownTaken RefusalReason) → (r >>= λ taken. Ok (number 1)) ≡ Ok most
      → 1 ≤ value most run.n
  one_taken most (Ok taken) m = one_step most m
  one_taken most (Err why) m = absurd (cc)

  first_step : (k : Kind) (most : Polynomial) → x.element.kind ≡ k → steps k facts ≡ Ok most
      → Proceeds k run facts x edges s (value most run.n) (stepping.outcome_of k x.element s)
  unfolding stepping.reply_of
  first_step (kind.Argument a) most e m = outcome_goes run facts x edges s h t (kind.Argument a) (value most run.n)
      (one_step most m) (λ new g. g) _
      (arrived (kind.Argument a) e _ _
      (arguments_are_sound run facts u kept s.arguments x a h.whole.world.kept h.described e))
  first_step (kind.Value v) most e m = outcome_goes run facts x edges s h t (kind.Value v) (value most run.n)
      (one_step most m) (λ new g. g) _
      (arrived (kind.Value v) e _ _ (values_are_sound run facts u kept s.arguments x v h.whole.world.kept h.described
      e))
  first_step (kind.Query q) most e m = outcome_goes run facts x edges s h t (kind.Query q) (value most run.n)
      (one_step most m) (λ new g. g) _
      (arrived (kind.Query q) e _ _ (queries_are_sound run facts u kept s.arguments x q h.whole.world.kept h.described e
      (named (kind.Query q) e)))
  first_step (kind.Stack k) most e m = outcome_goes run facts x edges s h t (kind.Stack k) (value most run.n)
      (one_step most m) (λ new g. g) _
      (arrived (kind.Stack k) e _ _ (stacks_are_sound run facts u kept s.arguments x k h.whole.world.kept h.described e
      (named (kind.Stack k) e)))
  first_step (kind.Command c) most e m = outcome_goes run facts x edges s h t (kind.Command c) (value most run.n)
      (one_step most m) (λ new g. g) _
      (arrived (kind.Command c) e _ _
      (commands_are_sound run facts u kept s.arguments x c h.whole.world.kept h.described e (named (kind.Command c) e)))
  first_step (kind.Call c) most e m = call_proceeds run facts x edges s h t c (value most run.n) (one_step most m) e
  first_step (kind.Flow f) most e m = flow_proceeds run facts x edges s h t f (value most run.n) (one_step most m) e
      (stands (kind.Flow f) e)
  first_step (kind.Page page.Yank) most e m =
      absurd (ok_at (λ edges. ⊥) (transfer x facts) edges t (yank_refused x facts e))
  first_step (kind.Page page.Append) most e m =
      append_proceeds run facts x edges s h t fits (value most run.n) (one_taken most _ m) e
      (input_of most _ _ (taking_is run facts u kept s.arguments h.whole.world.kept h.described) m
      (needed (kind.Page page.Append) e))
  first_step (kind.Page page.Next) most e m =
      let o = page_output page.Next most e m (λ o. refl) in
      pages_proceed run facts x edges s h t fits page.Next paging.page_turned tt o
      (turns_repeat run facts x edges s h t fits e o) most m
  first_step (kind.Page page.Write) most e m =
      let o = page_output page.Write most e m (λ o. refl) in
      pages_proceed run facts x edges s h t fits page.Write paging.page_written tt o
      (writes_repeat run facts x edges s h t fits e o) most m
  first_step (kind.Search search.Find) most e m = search_proceeds run facts x edges s h t search.Find (value most run.n)
      (one_step most m) fits tt e (stands (kind.Search search.Find) e)
  first_step (kind.Search search.Replace) most e m =
      search_proceeds run facts x edges s h t search.Replace (value most run.n) (one_step most m) fits tt e
      (stands (kind.Search search.Replace) e)
  first_step (kind.Search search.FindInPages) most e m =
      looks search.FindInPages most e tt ((needed (kind.Search search.FindInPages) e).output refl)
      (bounded search.FindInPages most m)
  first_step (kind.Search search.ReplaceInPages) most e m =
      looks search.ReplaceInPages most e tt ((needed (kind.Search search.ReplaceInPages) e).output refl)
      (bounded search.ReplaceInPages most m)
  first_step (kind.File f) most e m = absurd (ok_at (λ edges. ⊥) (transfer x facts) edges t (file_refused x facts f e))

  -- ---- a step while work is left
  abbrev later : World → Option ℕ → State
  later world left = record s { world = world; arguments = model.levels_after_taking s.arguments; left = left }

  looks_again : (q : Search) (rest : ℕ) (world : World) (left : Option ℕ) → x.element.kind ≡ kind.Search q
      → IsInPages q → IsOpen s.world → IsUnderway (kind.Search q) run facts x edges s rest (later world left)
      → Proceeds (kind.Search q) run facts x edges s rest (settle x.element (later world left)
      (outcomes.found_in_pages q x.element (outcomes.miss_of x.element s.frames.running) left
      (model.levels_after_taking s.arguments) world))
  looks_again q rest world left e b o i =
      let w = i.work in
      subst (λ l. Proceeds (kind.Search q) run facts x edges s rest
      (settle x.element (later world left)
      (outcomes.found_in_pages q x.element (outcomes.miss_of x.element s.frames.running) l
      (model.levels_after_taking s.arguments) world))) (sym w.1.1)
      (look_again run facts x edges s h t q rest fits b e (stands (kind.Search q) e) o.0 o.1 world w.1.0 left w.3 w.2)

  later_step : (k : Kind) (most : Polynomial) (rest : ℕ) (world : World) (left : Option ℕ) → x.element.kind ≡ k
      → steps k facts ≡ Ok most → IsUnderway k run facts x edges s rest (later world left)
      → Proceeds k run facts x edges s rest (stepping.outcome_of k x.element (later world left))
  unfolding stepping.reply_of
  later_step (kind.Page page.Next) most rest world left e m i =
      let o = page_output page.Next most e m (λ o. refl) in
      pages_again run facts x edges s h t fits page.Next paging.page_turned tt o
      (turns_repeat run facts x edges s h t fits e o) rest world left i
  later_step (kind.Page page.Write) most rest world left e m i =
      let o = page_output page.Write most e m (λ o. refl) in
      pages_again run facts x edges s h t fits page.Write paging.page_written tt o
      (writes_repeat run facts x edges s h t fits e o) rest world left i
  later_step (kind.Search search.FindInPages) most rest world left e m i =
      looks_again search.FindInPages rest world left e tt ((needed (kind.Search search.FindInPages) e).output refl) i
  later_step (kind.Search search.ReplaceInPages) most rest world left e m i =
      looks_again search.ReplaceInPages rest world left e tt
      ((needed (kind.Search search.ReplaceInPages) e).output refl) i
  later_step (kind.Page page.Yank) most rest world left e m i = absurd i.work.0
  later_step (kind.Page page.Append) most rest world left e m i = absurd i.work.0
  later_step (kind.Search search.Find) most rest world left e m i = absurd i.work.0
  later_step (kind.Search search.Replace) most rest world left e m i = absurd i.work.0
  later_step k most rest world left e m i = absurd i.work

-- ---- the laws
pub steps_are_sound : StepsAreSound
unfolding step
steps_are_sound run facts x edges most s h t fits m =
    subst (λ r. Proceeds x.element.kind run facts x edges s (value most run.n) (stepping.outcome_at s r)) (sym h.read)
    (first_step run facts x edges s h t fits x.element.kind most refl m)

-- a state while work is left stands as the first did
later_is : (s now : State) → now.arguments ≡ model.levels_after_taking s.arguments → now.frames ≡ s.frames
    → now ≡ record s { world = now.world; arguments = model.levels_after_taking s.arguments; left = now.left }
later_is s now a f = ap (λ (arguments : model.Arguments). record now { arguments = arguments }) a
    ∙ ap (λ (frames : Frames). record now { arguments = model.levels_after_taking s.arguments; frames = frames }) f

pub later_steps_are_sound : LaterStepsAreSound
unfolding step
later_steps_are_sound run facts x edges most old s rest h t fits m i =
    let same = later_is old s i.pending i.frames in
    let j = subst (λ s. IsUnderway x.element.kind run facts x edges old rest s) same i in
    subst (λ s. Proceeds x.element.kind run facts x edges old rest (step s)) (sym same)
    (subst (λ r. Proceeds x.element.kind run facts x edges old rest
    (stepping.outcome_at (record old {
      world = s.world;
      arguments = model.levels_after_taking old.arguments;
      left = s.left;
    }) r)) (sym h.read)
    (later_step run facts x edges old h t fits x.element.kind most rest s.world s.left refl m j))

-- ---- an element as a whole
pub elements_are_sound : ElementsAreSound
elements_are_sound run facts x edges most s h t fits m =
    let c = completed (IsUnderway x.element.kind run facts x edges s) (KindEnds x.element.kind run facts x edges s)
    (λ j now. ⊤) (value most run.n) s (record {
      first = steps_are_sound run facts x edges most s h t fits m;
      later = λ rest now i. later_steps_are_sound run facts x edges most s now rest h t fits m i;
    }) (λ j rest now new at came k goes there i. tt) tt in
    record {
      before = c.before;
      last = c.last;
      new = c.new;
      few = c.few;
      reaches = c.reaches;
      stands = c.stands;
      final = c.final;
      ends = c.ends;
    }

-- ---- the end of a called text
module _ (s : State) (caller : Frame) (callers : List Frame) where
  abbrev back : State
  back = record s { frames = record { running = caller; callers = callers } }

  waiting_goes : (waiting : List Frame) → waiting ≡ caller ∷ callers → stepping.end_outcome waiting s ≡ Next back
  waiting_goes [] e = absurd (cc)
  waiting_goes (first ∷ others) e = search rules

  text_goes : (loops : List Loop) → loops ≡ [] → s.frames.callers ≡ caller ∷ callers
      → stepping.end_of_text loops s ≡ Next back
  text_goes [] e c = waiting_goes s.frames.callers c
  text_goes (loop ∷ outer) e c = absurd (cc)

pub returns_go_back : ReturnsGoBack
unfolding step
returns_go_back run facts s caller callers d e l c = (
  back s caller callers,
  subst (λ r. stepping.outcome_at s r ≡ Next (back s caller callers)) (sym e)
      (text_goes s caller callers s.frames.running.loops l c),
  record {
    comes = record {
      described = without_answer run facts (unread_of s.world) s.world.kept s.arguments d;
      grown = omega arith;
    };
    gone = refl;
  },
)
