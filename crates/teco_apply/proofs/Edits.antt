-- An edit, where both files are open.
use Rattle.teco_apply.proofs.Prelude.{◌≡◌, ℕ, List, true, false, Option, Ok, inl, inr, sym, subst, AnswersText}
use Rattle.teco_apply.proofs.Prelude.{BothOpen, Lacks, MacroStops, has_esc, opening, stop_of, NotReady, World}
use Rattle.teco_apply.proofs.Prelude.{Stop, PromisedCall}
use Rattle.teco_apply.proofs.Opening.{opens_both}
use Rattle.teco_apply.specs.Apply.{IsNotRun, WantsMemory}
use Rattle.teco_apply.specs.declared.ready.NotReady.TheVariants.{NoInput, NoOutput, Argument, Memory}

-- where both are open, only memory is lacked
lacks_memory : (call : PromisedCall) (old : World) (stop : Stop) (new : World) → BothOpen old.files
    → IsNotRun call.promise.needs old stop new → WantsMemory old stop new
lacks_memory call old stop new both is = among is.why is.lacks is.stopped
  where
    among : (why : NotReady) → Lacks call.promise.needs old.files why → stop ≡ stop_of why
        → WantsMemory old stop new
    among NoInput missing stopped = absurd (cc (both.input))
    among NoOutput missing stopped = absurd (cc (both.output))
    among Argument missing stopped = absurd missing
    among Memory missing stopped = record { stopped = stopped; stays = is.stays }

pub macro_stops : (call : PromisedCall) (old : World) (stop : Stop) (new : World) → BothOpen old.files
    → MacroStops false call old stop new → MacroStops true call old stop new
macro_stops call old stop new both (inl runs) = inl runs
macro_stops call old stop new both (inr is) = inr (lacks_memory call old stop new both is)

-- the run that opens them leaves them open
pub leaves_open : (source target : List ℕ) → has_esc source ≡ false → has_esc target ≡ false
    → (old new : World) (f g : ℕ) (sink sunk : Option (List ℕ))
    → AnswersText (opening source target) old new f g sink sunk (Ok false) → BothOpen new.files
leaves_open source target plain plain' old new f g sink sunk a =
    let both : BothOpen a.after.files = opens_both source target plain plain' old a.stop a.after a.ran (sym a.told) in
    subst (λ (w : World). BothOpen w.files) (sym a.stays) both
