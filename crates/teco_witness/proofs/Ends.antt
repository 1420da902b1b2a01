-- What the stops of runs say.
use Rattle.std.proofs.Common.{◌≡◌, ℕ, ◌∙◌, ◌||◌, List, Option, Some, None, inl, inr, ap, sym, subst}
use Rattle.std.specs.Prelude.{IfSome}
use Rattle.teco_base.specs.declared.code.Code as base
use Rattle.teco_model.specs.Macros.{Library}
use Rattle.teco_model.specs.Run.{Ends}
use Rattle.teco_model.specs.State.{World, State, start, held_length}
use Rattle.teco_model.specs.declared.stop.Stop.TheVariants as stop
use Rattle.teco_run.specs.Stopped.{IsWhy, StopsAt}
use Rattle.teco_run.specs.declared.site.Stopped.{Stopped}
use Rattle.teco_witness.specs.Witness.{Subject, SmallWorld, Fails, GoesOn, Comes, ComesTo, IsTaken, IsReady, call_text}
use Rattle.teco_witness.specs.Witness.{preparation, world_before}
use Rattle.teco_witness.specs.declared.witness.WitnessEnd.{WitnessEnd}

-- a run that is told as ended comes to its end
pub ended : (s : State) (limit : ℕ) (stopped : Stopped) (new : World) (n : ℕ) → stopped.stop ≡ stop.Ended n
    → StopsAt s limit stopped new → Ends s stopped.steps new
ended s limit stopped new n is (inl h) = record {
  last = h.last;
  steps = h.reached;
  end = subst (λ k. IsWhy h.last k new) is h.why;
}
ended s limit stopped new n is (inr h) =
    let other : stop.Ended n ≡ stop.Memory = sym is ∙ h.stop in absurd (cc)

-- a run that stops with a code fails
pub coded : (s : State) (limit : ℕ) (stopped : Stopped) (new : World) (c : base.Code) → stopped.stop ≡ stop.Error c
    → StopsAt s limit stopped new → Fails c stopped.site.place s
coded s limit stopped new c is (inl h) = record {
  steps = stopped.steps;
  last = h.last;
  new = new;
  reached = h.reached;
  failed = subst (λ k. IsWhy h.last k new) is h.why;
  stands = h.place;
}
coded s limit stopped new c is (inr h) =
    let other : stop.Error c ≡ stop.Memory = sym is ∙ h.stop in absurd (cc)

-- a run that comes to its limit goes on
pub limited : (s : State) (limit : ℕ) (stopped : Stopped) (new : World) → stopped.stop ≡ stop.Limit
    → StopsAt s limit stopped new → GoesOn stopped.steps (held_length new.kept) s
limited s limit stopped new is (inl h) =
    let why = subst (λ k. IsWhy h.last k new) is h.why in record {
      last = h.last;
      reached = h.reached;
      unfinished = why.1;
      holds = ap (λ (w : World). held_length w.kept) why.0;
    }
limited s limit stopped new is (inr h) =
    let other : stop.Limit ≡ stop.Memory = sym is ∙ h.stop in absurd (cc)

-- all is ready behind the command string that makes it so
pub readied : (library : Library) (w : SmallWorld) (commands : List ℕ) (from : World) (limit : ℕ) (stopped : Stopped)
    (new : World) (n : ℕ) → commands ≡ preparation w → from ≡ world_before library w → stopped.stop ≡ stop.Ended n
    → StopsAt (start commands from) limit stopped new → IsReady library w new
readied library w commands from limit stopped new n text world is h =
    let ends = ended (start commands from) limit stopped new n is h in record {
      steps = stopped.steps;
      ends = subst (λ k. Ends (start k (world_before library w)) stopped.steps new) text
          (subst (λ k. Ends (start commands k) stopped.steps new) world ends);
    }

-- from where all is ready the call comes to its end
pub comes_to : (subject : Subject) (w : SmallWorld) (ready : World) (command : List ℕ) (end : Option WitnessEnd)
    → w.is_input ≡ (subject.needs.input || subject.needs.output) → IsTaken subject.argument w.given
    → IsReady subject.library w ready → command ≡ call_text subject.entry w.given
    → IfSome end (λ e. Comes e (start command ready)) → IfSome end (ComesTo subject w)
comes_to subject w ready command None opened taken made text h = tt
comes_to subject w ready command (Some e) opened taken made text h = record {
  opened = opened;
  taken = taken;
  ready = ready;
  made = made;
  comes = subst (λ k. Comes e (start k ready)) text h;
}
