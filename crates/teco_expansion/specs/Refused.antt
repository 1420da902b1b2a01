-- Why there is no expansion.
use Rattle.std.specs.Prelude.{◌≡◌, Result, Ok, Err, IsOk}
use Rattle.teco_verifier.specs.expansion.Refusal as model
use Rattle.teco_expansion.specs.declared.refusal.ExpandReason.{ExpandReason}
use Rattle.teco_expansion.specs.declared.refusal.ExpandReason.TheVariants as reason
use Rattle.teco_expansion.specs.declared.refusal.PlacedReason.{PlacedReason}

abbrev pub reason_seen : ExpandReason → model.Reason
reason_seen reason.Fault = model.Fault
reason_seen reason.Unpaired = model.Unpaired
reason_seen reason.NoMacro = model.NoMacro
reason_seen reason.Recursion = model.Recursion
reason_seen reason.TooLarge = model.TooLarge

abbrev pub refusal_seen : PlacedReason → model.Refusal
refusal_seen refusal = record {
  reason = reason_seen refusal.reason;
  register = refusal.register;
  place = refusal.place;
}

-- what was returned, seen by view, is what the definition gives
abbrev pub Gives : {X Y : Type 0} → (X → Y) → Result X ExpandReason → Result Y model.Reason → Type 0
Gives view (Ok x) defined = defined ≡ Ok (view x)
Gives view (Err reason) defined = defined ≡ Err (reason_seen reason)

-- what only passes or refuses
abbrev pub Passes : {X Y : Type 0} → Result X ExpandReason → Result Y model.Reason → Type 0
Passes (Ok x) defined = IsOk defined
Passes (Err reason) defined = defined ≡ Err (reason_seen reason)

-- the answer is what the definition gives, or its refusal at its place
abbrev pub Answers : {X Y : Type 0} → (X → Y) → Result X PlacedReason → Result Y model.Refusal → Type 0
Answers view (Ok x) defined = defined ≡ Ok (view x)
Answers view (Err refusal) defined = defined ≡ Err (refusal_seen refusal)
