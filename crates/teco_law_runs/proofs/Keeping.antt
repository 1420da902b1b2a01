-- A run none of whose elements is a command of files leaves open what was open.
use Rattle.teco_law_runs.proofs.Prelude.{◌≡◌, ℕ, zero, suc, ◌≤◌, ◌<◌, List, [], ◌∷◌, Option, Some, None, Result, Ok}
use Rattle.teco_law_runs.proofs.Prelude.{Err, refl, sym, ◌∙◌, subst, arith, Code, Loop, Element, element_at, run, go_on}
use Rattle.teco_law_runs.proofs.Prelude.{World, Frame, State, Outcome, Next, End, end_of_text, outcome_at, reply_of}
use Rattle.teco_law_runs.proofs.Prelude.{step, Stop, Ends, Reaches, Exit, Fail, Absent, end_outcome, ComesTo, AreAsOpen}
use Rattle.teco_law_runs.proofs.Prelude.{NoFileCommands}
use Rattle.teco_model.specs.declared.stop.Stop.TheVariants as stop
use Rattle.teco_law_runs.specs.Keeping.{LeavesOpen, RunsLeaveOpen}
use Rattle.teco_law_runs.proofs.Staying.{files_stay_open, same}
use Rattle.teco_law_runs.proofs.Sure.{runs_end_once, settle_goes}
use Rattle.teco_law_runs.proofs.Walking.{same_next}

-- ---- step by step
abbrev Reads : State → Result (Option Element) Code → Type 0
Reads s r = element_at s.frames.running.text s.frames.running.place ≡ r

goes_open : (s t : State) (steps k : ℕ) (first : State) → NoFileCommands first steps → k < steps → Reaches k first s
    → (r : Result (Option Element) Code) → Reads s r → outcome_at s r ≡ Next t → step s ≡ Next t
    → AreAsOpen s.world.files t.world.files
goes_open s t steps k first none less reached (Ok read) reads goes steps_on =
    files_stay_open s t read (none k s less reached read reads) reads steps_on
goes_open s t steps k first none less reached (Err c) reads goes steps_on = absurd (cc)

step_open : (s t : State) (steps k : ℕ) (first : State) → NoFileCommands first steps → k < steps → Reaches k first s
    → step s ≡ Next t → AreAsOpen s.world.files t.world.files
unfolding step
step_open s t steps k first none less reached goes =
    goes_open s t steps k first none less reached (element_at s.frames.running.text s.frames.running.place) refl goes
    goes

onward : (a b c : State) → AreAsOpen a.world.files b.world.files → AreAsOpen b.world.files c.world.files
    → AreAsOpen a.world.files c.world.files
onward a b c first next = record {
  input = next.input ∙ first.input;
  output = next.output ∙ first.output;
  unread = omega (arith, first.unread, next.unread);
  named = next.named ∙ first.named;
}

module _ (first : State) (steps : ℕ) (none : NoFileCommands first steps) where
  abbrev StaysOpen : ℕ → Type 0
  StaysOpen k = (t : State) → k ≤ steps → Reaches k first t → AreAsOpen first.world.files t.world.files

  -- what a step comes from is a state
  behind : (k : ℕ) → StaysOpen k → (o : Outcome) → run k first ≡ o → (t : State) → suc k ≤ steps → go_on o ≡ Next t
      → AreAsOpen first.world.files t.world.files
  behind k before (Next s) came t few goes =
      onward first s t (before s (omega (arith, few)) came)
      (step_open s t steps k first none (omega (arith, few)) came goes)
  behind k before (End w) came t few goes = absurd (cc)
  behind k before (Exit w) came t few goes = absurd (cc)
  behind k before (Fail c w) came t few goes = absurd (cc)
  behind k before (Absent w) came t few goes = absurd (cc)

  stays_open : (k : ℕ) → StaysOpen k
  unfolding run
  stays_open zero t few reached =
      subst (λ (s : State). AreAsOpen first.world.files s.world.files) (same_next first t reached)
      (same first.world.files)
  stays_open (suc k) t few reached = behind k (stays_open k) (run k first) refl t few reached

-- ---- the end
return_stays : (s : State) (callers : List Frame) (w : World) → end_outcome callers s ≡ End w → s.world ≡ w
return_stays s [] w e = cc
return_stays s (caller ∷ callers) w e = absurd (cc)

text_stays : (s : State) (loops : List Loop) (w : World) → end_of_text loops s ≡ End w → s.world ≡ w
text_stays s [] w e = return_stays s s.frames.callers w e
text_stays s (loop ∷ outer) w e = absurd (cc)

read_stays : (s : State) (r : Result (Option Element) Code) (w : World) → outcome_at s r ≡ End w → s.world ≡ w
read_stays s (Err c) w e = absurd (cc)
read_stays s (Ok None) w e = text_stays s s.frames.running.loops w e
read_stays s (Ok (Some x)) w e = absurd (settle_goes x s (reply_of x.kind x s) w e)

pub end_stays : (s : State) (w : World) → step s ≡ End w → s.world ≡ w
unfolding step
end_stays s w e = read_stays s (element_at s.frames.running.text s.frames.running.place) w e

ends_open : (s : State) (steps : ℕ) (new : World) → NoFileCommands s steps → Ends s steps new
    → AreAsOpen s.world.files new.files
ends_open s steps new none ends =
    subst (λ (w : World). AreAsOpen s.world.files w.files) (end_stays ends.last new ends.end)
    (stays_open s steps none steps ends.last (omega arith) ends.steps)

-- what comes to that end leaves open what it does
open_at : (s : State) (n : ℕ) (end : World) (answer : Stop) (new : World) → AreAsOpen s.world.files end.files
    → ComesTo n end answer new → LeavesOpen answer s.world.files new.files
open_at s n end (stop.Ended m) new open_then comes =
    subst (λ (w : World). AreAsOpen s.world.files w.files) (sym comes.1) open_then
open_at s n end answer new open_then comes = tt

pub runs_leave_open : RunsLeaveOpen
runs_leave_open s most limit answer new ends small stops =
    open_at s ends.steps ends.new answer new (ends_open s ends.steps ends.new ends.none ends.ends)
    (runs_end_once s ends.steps limit ends.new answer new ends.ends (omega (arith, ends.few, small)) stops)
