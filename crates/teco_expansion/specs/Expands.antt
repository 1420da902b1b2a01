-- What an expansion answers.
use Rattle.std.specs.Prelude.{◌≡◌, ℕ, List, ⊤, Result, Ok, Err}
use Rattle.teco_verifier.specs.expansion.Expansion.{expansion}
use Rattle.teco_model.specs.Macros.{Library}
use Rattle.teco_verifier.specs.expansion.Node.{Node}
use Rattle.teco_verifier.specs.expansion.Refusal as model
use Rattle.teco_expansion.specs.declared.refusal.ExpandFault.{ExpandFault}
use Rattle.teco_expansion.specs.declared.refusal.ExpandFault.TheVariants.{Refused, Memory}
use Rattle.teco_expansion.specs.Refused.{refusal_seen}

-- the answer is what the definition gives, or its refusal; of want of memory nothing is said
abbrev pub Makes : {X Y : Type 0} → (X → Y) → Result X ExpandFault → Result Y model.Refusal → Type 0
Makes view (Ok x) defined = defined ≡ Ok (view x)
Makes view (Err (Refused refusal)) defined = defined ≡ Err (refusal_seen refusal)
Makes view (Err Memory) defined = ⊤

abbrev pub Expands : Library → ℕ → Result (List Node) ExpandFault → Type 0
Expands library entry result = Makes (λ nodes. nodes) result (expansion library entry)
