-- What is foretold of elements is a law of the machine's step.
use Rattle.teco_outcomes.proofs.Prelude.{◌≡◌, ℕ, inl, inr, Result, Ok, Err, refl, sym, ap, subst, ◌∙◌, Code}
use Rattle.teco_outcomes.proofs.Prelude.{levels_after_answer, levels_after_taking, ◌>>=◌, Effect, Element}
use Rattle.teco_outcomes.proofs.Prelude.{after_command, after_stack, after_value, outcome_at, reply_of, step, Case}
use Rattle.teco_outcomes.proofs.Prelude.{TakenForms, Outcomes, IsTaken, Performs, commanded, Describe, Foretells}
use Rattle.teco_outcomes.proofs.Prelude.{Succeeds, Goes, Law, StepsTo, point_of, Asks, Point, behind}
use Rattle.teco_model.specs.Arguments.{Arguments}
use Rattle.teco_model.specs.Going as going
use Rattle.teco_model.specs.Flow.{Turn, turn_of}
use Rattle.teco_model.specs.State.{Frame, State}
use Rattle.teco_model.specs.Step.{after_argument, after_query, execution}
use Rattle.teco_model.specs.Step.{flow_reply, levels_after}
use Rattle.teco_model.specs.declared.kind.Argument.{Argument}
use Rattle.teco_model.specs.declared.kind.Command.{Command}
use Rattle.teco_model.specs.declared.kind.Flow.{Flow}
use Rattle.teco_model.specs.declared.kind.Kind.TheVariants as kind
use Rattle.teco_model.specs.declared.kind.Query.{Query}
use Rattle.teco_model.specs.declared.kind.Stack.{Stack}
use Rattle.teco_model.specs.declared.kind.MachineValue.{MachineValue}
use Rattle.teco_rows.specs.Commands.{taken_by}
use Rattle.teco_rows.specs.Foretold.{Rearranges}
use Rattle.teco_flow_outcomes.specs.Flow.{IsTurnOf, Turns}
use Rattle.teco_flow_outcomes.specs.Law.{loops_in}
use Rattle.teco_rows.specs.States.{Origin}

-- an element that works on the editor alone goes on behind itself
pub editor_law : (e : Element) (case : Case) (all : Outcomes) (performed : Point → Result going.After Code)
    → ((s : State) (steps : ℕ) (origin : Origin)
    → reply_of e.kind e s ≡ going.on_editor s.left s.world (performed (point_of steps origin s)))
    → Foretells performed case all → Law e case all
unfolding step
editor_law e case all performed is foretells n v s steps origin stands begins =
    subst (StepsTo (Goes n all e steps origin s))
    (sym (ap (outcome_at s) stands.reads ∙ ap (going.settle e s) (is s steps origin)))
    (settled (performed (point_of steps origin s)) (foretells n v (point_of steps origin s) begins)) where
      settled : (r : Result going.After Code)
          → Succeeds (λ done. Describe n all (behind (point_of steps origin s) done)) r
          → StepsTo (Goes n all e steps origin s) (going.settle e s (going.on_editor s.left s.world r))
      settled (Ok done) d = inl (record { described = d; there = refl; left = refl })
      settled (Err c) d = absurd d

-- ---- by what an element is
pub argument_law : (e : Element) (case : Case) (all : Outcomes) (a : Argument) → e.kind ≡ kind.Argument a
    → Rearranges (levels_after a e.text) case all → Law e case all
unfolding reply_of
argument_law e case all a is arranges =
    editor_law e case all (λ s. after_argument a e s.kept s.arguments)
    (λ s steps origin. ap (λ k. reply_of k e s) is)
    (λ n v s begins. passed s n (levels_after a e.text s.arguments) (arranges n v s begins)) where
      passed : (s : Point) (n : ℕ) (r : Result Arguments Code)
          → Succeeds (λ arguments. Describe n all (behind s (going.after s.kept arguments))) r
          → Succeeds (λ done. Describe n all (behind s done)) (r >>= (λ levels. Ok (going.after s.kept levels)))
      passed s n (Ok levels) d = d
      passed s n (Err c) d = d

pub value_law : (e : Element) (case : Case) (all : Outcomes) (v : MachineValue) → e.kind ≡ kind.Value v
    → Foretells (λ s. after_value v s.kept s.arguments) case all → Law e case all
unfolding reply_of
value_law e case all v is foretells =
    editor_law e case all (λ s. after_value v s.kept s.arguments) (λ s steps origin. ap (λ k. reply_of k e s) is)
    foretells

pub query_law : (e : Element) (case : Case) (all : Outcomes) (q : Query) → e.kind ≡ kind.Query q
    → Asks q e.colons case all → Law e case all
unfolding reply_of
query_law e case all q is asks =
    editor_law e case all (λ s. after_query q e s.kept s.arguments) (λ s steps origin. ap (λ k. reply_of k e s) is)
    (asks e refl)

pub command_law : (e : Element) (case : Case) (all : Outcomes) (c : Command) → e.kind ≡ kind.Command c
    → Foretells (λ s. after_command c e s.kept s.arguments) case all → Law e case all
unfolding reply_of
command_law e case all c is foretells =
    editor_law e case all (λ s. after_command c e s.kept s.arguments) (λ s steps origin. ap (λ k. reply_of k e s) is)
    foretells

-- A command that takes what is foretold, and comes to what is foretold with that.
pub command_foretold : (e : Element) (case : Case) (taken : TakenForms) (all : Outcomes) (c : Command)
    → IsTaken case taken
    → Performs (execution c e) taken case all → Foretells (λ s. after_command c e s.kept s.arguments) case all
command_foretold e case taken all c is performs n v s begins =
    subst (Succeeds (λ done. Describe n all (behind s done)))
    (sym (ap (λ r. r >>= (λ taken. execution c e taken s.kept >>= (λ effect. Ok (going.after effect.kept
    (levels_after_answer effect.answer (levels_after_taking s.arguments)))))) (is n v s begins.true_of)))
    (passed (execution c e (taken_by taken n v) s.kept) (performs n v s begins)) where
      passed : (r : Result Effect Code)
          → Succeeds (λ effect. Describe n all (commanded s effect.kept effect.answer)) r
          → Succeeds (λ done. Describe n all (behind s done)) (r >>= (λ effect. Ok (going.after effect.kept
          (levels_after_answer effect.answer (levels_after_taking s.arguments)))))
      passed (Ok effect) d = d
      passed (Err c) d = d

pub stack_law : (e : Element) (case : Case) (all : Outcomes) (k : Stack) → e.kind ≡ kind.Stack k
    → Foretells (λ s. after_stack k s.kept s.arguments) case all → Law e case all
unfolding reply_of
stack_law e case all k is foretells =
    editor_law e case all (λ s. after_stack k s.kept s.arguments) (λ s steps origin. ap (λ k. reply_of k e s) is)
    foretells

-- ---- a flow element turns
pub flow_law : (e : Element) (case : Case) (all : Outcomes) (f : Flow) → e.kind ≡ kind.Flow f
    → Turns f e.colons case all → Law e case all
unfolding step reply_of
flow_law e case all f is turns n v s steps origin stands begins =
    subst (StepsTo (Goes n all e steps origin s))
    (sym (ap (outcome_at s) stands.reads ∙ ap (λ k. going.settle e s (reply_of k e s)) is))
    (settled (turn_of f e s.arguments s.frames.running)
    (turns e s.frames.running (loops_in s.frames.callers) n v (point_of steps origin s) is refl stands.matched refl
    begins)) where
      settled : (r : Result Turn Code)
          → Succeeds (IsTurnOf n all.cases.items all.away.items e s.frames.running (loops_in s.frames.callers)
          (point_of steps origin s)) r
          → StepsTo (Goes n all e steps origin s) (going.settle e s (flow_reply s.left s.world r))
      settled (Ok turn) (inl h) = inl (record {
        described = h.described;
        there = ap (λ (frame : Frame). record s.frames { running = frame }) h.there;
        left = refl;
      })
      settled (Ok turn) (inr (place, away, h)) = inr (
        place,
        away,
        record {
          described = h.described;
          there = ap (λ (frame : Frame). record s.frames { running = frame }) h.there;
          left = refl;
        },
      )
      settled (Err c) d = absurd d
