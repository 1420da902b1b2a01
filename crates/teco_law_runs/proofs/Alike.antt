-- States that are the same but for the text of the command string step to such.
use Rattle.teco_law_runs.proofs.Prelude.{◌≡◌, ℕ, zero, suc, List, [], ◌∷◌, Option, Some, None, Result, Ok, Err, refl}
use Rattle.teco_law_runs.proofs.Prelude.{sym, ap, ◌∙◌, subst, arith, Code, Loop, Call, Kind, Arguments, Element}
use Rattle.teco_law_runs.proofs.Prelude.{element_at, Course, Into, Reply, frames_in, settled, settle, run, go_on, World}
use Rattle.teco_law_runs.proofs.Prelude.{Frame, State, Outcome, Next, End, reply_of, outcome_of, end_of_text}
use Rattle.teco_law_runs.proofs.Prelude.{outcome_at, step, CallsLast, Calling, AreAlike, Exit, Fail, Absent}
use Rattle.teco_law_runs.proofs.Prelude.{AreOutcomesAlike, StepsAreAlike, RunsAreAlike, ReadingsAreAlike}
use Rattle.teco_base.specs.declared.code.Code.TheVariants as code
use Rattle.teco_model.specs.declared.kind.Kind.TheVariants as kind
use Rattle.teco_model.specs.Going.{Quit, NoFile, Refused, code_in}
use Rattle.teco_model.specs.Storage.{text_in}
use Rattle.teco_law_runs.specs.Alike.{Waits, AreAtBottom, Waiting, AreTextsAlike, ReadsAlike}

-- ---- texts that wait below a running one
module _ (c d : Frame) (cs ds : List Frame) (alike : AreTextsAlike c cs d ds) where
  abbrev one : World → Arguments → Option ℕ → Frame → State
  one w g l f = record { world = w; arguments = g; frames = record { running = f; callers = c ∷ cs }; left = l }

  abbrev other : World → Arguments → Option ℕ → Frame → State
  other w g l f = record { world = w; arguments = g; frames = record { running = f; callers = d ∷ ds }; left = l }

  same : (w : World) (g : Arguments) (l : Option ℕ) (f : Frame) → AreAlike (one w g l f) (other w g l f)
  same w g l f = record { world = refl; arguments = refl; left = refl; texts = (refl, alike) }

  code_same : (k : Code) → code_in (c ∷ cs) k ≡ code_in (d ∷ ds) k
  code_same code.Utc = refl
  code_same k = refl

  module _ (w : World) (g : Arguments) (l : Option ℕ) (f : Frame) where
    abbrev s : State
    s = one w g l f

    abbrev t : State
    t = other w g l f

    settled_alike : (e : Element) (reply : Reply) (course : Course)
        → AreOutcomesAlike (settled e s.frames reply course) (settled e t.frames reply course)
    settled_alike e reply (Into text) =
        record { world = refl; arguments = refl; left = refl; texts = (refl, (refl, alike)) }
    settled_alike e reply Quit = refl
    settled_alike e reply NoFile = refl
    settled_alike e reply (Refused k) = (code_same k, refl)
    settled_alike e reply course = same _ _ _ _

    settle_alike : (e : Element) (r : Result Reply Code) → AreOutcomesAlike (settle e s r) (settle e t r)
    settle_alike e (Ok reply) = settled_alike e reply reply.course
    settle_alike e (Err k) = (code_same k, refl)

    -- an element sees nothing of the texts that wait
    same_reply : (k : Kind) (e : Element) → reply_of k e s ≡ reply_of k e t
    unfolding reply_of
    same_reply (kind.Argument a) e = refl
    same_reply k e = refl

    element_alike : (k : Kind) (e : Element) → AreOutcomesAlike (outcome_of k e s) (outcome_of k e t)
    element_alike k e = subst (λ r. AreOutcomesAlike (settle e s (reply_of k e s)) (settle e t r)) (same_reply k e)
        (settle_alike e (reply_of k e s))

    end_alike : (loops : List Loop) → AreOutcomesAlike (end_of_text loops s) (end_of_text loops t)
    end_alike [] = record { world = refl; arguments = refl; left = refl; texts = alike }
    end_alike (loop ∷ outer) = (code_same code.Utc, refl)

    outcomes_alike : (r : Result (Option Element) Code)
        → AreOutcomesAlike (outcome_at (one w g l f) r) (outcome_at (other w g l f) r)
    outcomes_alike (Err k) = (code_same k, refl)
    outcomes_alike (Ok None) = end_alike f.loops
    outcomes_alike (Ok (Some e)) = element_alike e.kind e

    inner_alike : AreOutcomesAlike (step (one w g l f)) (step (other w g l f))
    unfolding step
    inner_alike = outcomes_alike (element_at f.text f.place)

-- ---- the command string alone
module _ (w : World) (g : Arguments) (l : Option ℕ) where
  abbrev alone : Frame → State
  alone f = record { world = w; arguments = g; frames = record { running = f; callers = [] }; left = l }

  waiting_ends : (f : Frame) → Waits f → step (alone f) ≡ End w
  unfolding step
  waiting_ends f h = ap (outcome_at (alone f)) h.over ∙ ap (λ loops. end_of_text loops (alone f)) h.closed

  abbrev called : Call → Frame → ℕ → State
  called c f next = record (alone f) {
    frames = frames_in (text_in c.register w.kept) next
        (record { running = f; callers = [] });
  }

  by_kind : (k : Kind) (c : Call) (f : Frame) (e : Element) → k ≡ kind.Call c
      → outcome_of k e (alone f) ≡ Next (called c f e.next)
  unfolding reply_of
  by_kind k c f e h = rw h refl

  calling_calls : (c : Call) (f : Frame) (h : CallsLast c f) → step (alone f) ≡ Next (called c f h.element.next)
  unfolding step
  calling_calls c f h = ap (outcome_at (alone f)) h.reads ∙ by_kind h.element.kind c f h.element h.calls

  bottom_alike : (a b : Frame) → AreAtBottom a b → AreOutcomesAlike (step (alone a)) (step (alone b))
  bottom_alike a b (Waiting x y) = rw (waiting_ends a x, waiting_ends b y) refl
  bottom_alike a b (Calling c x y) =
      let goal : AreOutcomesAlike (Next (called c a x.element.next)) (Next (called c b y.element.next)) =
      record { world = refl; arguments = refl; left = refl; texts = (refl, Waiting x.behind y.behind) } in
      subst (λ o. AreOutcomesAlike o (step (alone b))) (sym (calling_calls c a x))
      (subst (λ o. AreOutcomesAlike (Next (called c a x.element.next)) o) (sym (calling_calls c b y)) goal)

texts_alike : (w : World) (g : Arguments) (l : Option ℕ) (a b : Frame) (callers others : List Frame)
    → AreTextsAlike a callers b others →
    AreOutcomesAlike (step (record {
      world = w;
      arguments = g;
      frames = record { running = a; callers = callers };
      left = l;
    })) (step (record {
      world = w;
      arguments = g;
      frames = record { running = b; callers = others };
      left =
          l;
    }))
texts_alike w g l a b [] [] h = bottom_alike w g l a b h
texts_alike w g l a b (c ∷ cs) (d ∷ ds) h =
    subst (λ b. AreOutcomesAlike (step (one c d cs ds h.1 w g l a)) (step (other c d cs ds h.1 w g l b))) h.0
    (inner_alike c d cs ds h.1 w g l a)
texts_alike w g l a b callers others h = absurd (grind arith)

by_parts : (v w : World) (f g : Arguments) (l m : Option ℕ) (a b : Frame) (callers others : List Frame) → v ≡ w → f ≡ g
    → l ≡ m → AreTextsAlike a callers b others →
    AreOutcomesAlike (step (record {
      world = v;
      arguments = f;
      frames = record { running = a; callers = callers };
      left = l;
    })) (step (record {
      world = w;
      arguments = g;
      frames = record { running = b; callers = others };
      left =
          m;
    }))
by_parts v w f g l m a b callers others i j k h = rw (i, j, k) (texts_alike w g m a b callers others h)

pub steps_are_alike : StepsAreAlike
steps_are_alike s t h = by_parts s.world t.world s.arguments t.arguments s.left t.left s.frames.running t.frames.running
    s.frames.callers t.frames.callers h.world h.arguments h.left h.texts

-- ---- runs
onward : (one other : Outcome) → AreOutcomesAlike one other → AreOutcomesAlike (go_on one) (go_on other)
onward (Next s) (Next t) h = steps_are_alike s t h
onward (End w) (End v) h = h
onward (Exit w) (Exit v) h = h
onward (Fail c w) (Fail d v) h = h
onward (Absent w) (Absent v) h = h
onward (Next s) (Exit v) h = elim h [ ]
onward (Next s) (Fail d v) h = elim h [ ]
onward (Next s) (Absent v) h = elim h [ ]
onward (End w) (Next t) h = elim h [ ]
onward (End w) (Exit v) h = elim h [ ]
onward (End w) (Fail d v) h = elim h [ ]
onward (End w) (Absent v) h = elim h [ ]
onward (Exit w) (Next t) h = elim h [ ]
onward (Exit w) (Fail d v) h = elim h [ ]
onward (Exit w) (Absent v) h = elim h [ ]
onward (Fail c w) (Next t) h = elim h [ ]
onward (Fail c w) (Exit v) h = elim h [ ]
onward (Fail c w) (Absent v) h = elim h [ ]
onward (Absent w) (Next t) h = elim h [ ]
onward (Absent w) (Exit v) h = elim h [ ]
onward (Absent w) (Fail d v) h = elim h [ ]
onward one (End v) h = elim h [ ]

pub runs_are_alike : RunsAreAlike
unfolding run
runs_are_alike zero s t h = h
runs_are_alike (suc n) s t h = onward (run n s) (run n t) (runs_are_alike n s t h)

-- ---- readings
same_element : (a b : Result (Option Element) Code) (read : Option Element) → a ≡ Ok read → b ≡ a → b ≡ Ok read
same_element a b read h e = e ∙ h

bottom_reads : (a b : Frame) (read : Option Element) (t : State) → t.frames.running ≡ b → AreAtBottom a b
    → element_at a.text a.place ≡ Ok read → ReadsAlike read t
bottom_reads a b read t at (Waiting x y) h =
    let e : None ≡ read = (let f = sym x.over ∙ h in cc) in
    record { other = None; reads = rw at y.over; kinds = rw (sym e) refl }
bottom_reads a b read t at (Calling c x y) h =
    let e : Some x.element ≡ read = (let f = sym x.reads ∙ h in cc) in
    record { other = Some y.element; reads = rw at y.reads; kinds = rw (sym e) (ap Some (x.calls ∙ sym y.calls)) }

texts_read : (a b : Frame) (callers others : List Frame) (read : Option Element) (t : State) → t.frames.running ≡ b
    → AreTextsAlike a callers b others → element_at a.text a.place ≡ Ok read → ReadsAlike read t
texts_read a b [] [] read t at h r = bottom_reads a b read t at h r
texts_read a b (c ∷ cs) (d ∷ ds) read t at h r = record { other = read; reads = rw (at, sym h.0) r; kinds = refl }
texts_read a b callers others read t at h r = absurd (grind arith)

pub readings_are_alike : ReadingsAreAlike
readings_are_alike s t read h r =
    texts_read s.frames.running t.frames.running s.frames.callers t.frames.callers read t refl h.texts r
