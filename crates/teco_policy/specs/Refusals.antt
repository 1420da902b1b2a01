-- Why no search text is read.
use Rattle.std.specs.Prelude.{◌≡◌, ℕ, List, [], Bool, Result, Ok, Err}
use Rattle.teco_find.specs.declared.fault.FindFault.{FindFault}
use Rattle.teco_find.specs.declared.fault.FindFault.TheVariants as fault
use Rattle.teco_policy.specs.Wordings.{Wording}
use Rattle.teco_policy.specs.declared.refusal.PolicyRefusal.{PolicyRefusal}
use Rattle.teco_policy.specs.declared.refusal.PolicyRefusal.TheVariants as refusal

-- how a fault of a search text is told
abbrev pub refusal_of : FindFault → PolicyRefusal
refusal_of fault.Ice = refusal.IllFormed
refusal_of fault.Iqn = refusal.IllFormed
refusal_of fault.Memory = refusal.Memory

-- A search text is read as it stands, in this mode; and it is missing only where it is empty.
abbrev pub IsReadText : Bool → List ℕ → Result Wording PolicyRefusal → Type 0
IsReadText exact text (Ok wording) = wording ≡ record { text = text; exact = exact }
IsReadText exact text (Err refusal.NoPattern) = text ≡ []
IsReadText exact text (Err refusal.IllFormed) = Unit {0}
IsReadText exact text (Err refusal.Register) = Unit {0}
IsReadText exact text (Err refusal.Memory) = Unit {0}
IsReadText exact text (Err other) = ⊥
