-- How a macro is refused.
use Rattle.std.proofs.Common.{◌≡◌, Option, List, Result, Ok, Err, ℕ}
use Rattle.std.specs.Prelude.{IfOk}
use Rattle.teco_applied.specs.Tasks.{Refuses}
use Rattle.teco_acceptance.specs.Refused as answers
use Rattle.teco_console.specs.declared.outcome.Outcome.{Outcome}
use Rattle.teco_console.specs.declared.outcome.Outcome.TheVariants.{Refused}
use Rattle.teco_verify.specs.declared.refusal.Refusal.{Refusal}
use Rattle.teco_verify.specs.declared.refusal.Refusal.TheVariants.{No, Memory}

-- a refusal is written with its line
pub refuses : {E : Type 0} (old new : Option (List ℕ)) (refusal : Refusal) (result : Result Outcome E)
    → IfOk result (λ outcome. outcome ≡ Refused) → answers.Refuses old new refusal result → Refuses old new result
refuses old new (No reason register place) (Ok outcome) is line = (is, (No reason register place, line))
refuses old new Memory (Ok outcome) is (is_err, keeps) = absurd (cc)
refuses old new (No reason register place) (Err fault) is line = tt
refuses old new Memory (Err fault) is line = tt
