-- The answers of calls that read a search text, beside the definition.
use Rattle.std.specs.Prelude.{◌≡◌, ℕ, ◌<◌, List, [], ◌∷◌, length, flat_map, All, Bool, Option, Some, None}
use Rattle.std.specs.Prelude.{Result, Ok, Err}
use Rattle.teco_base.specs.Does.{Cause, Refused, Memory}
use Rattle.teco_base.specs.declared.code.Code.{Code}
use Rattle.teco_base.specs.declared.code.Code.TheVariants as code
use Rattle.teco_model.specs.Checked.{◌>>=◌}
use Rattle.teco_model.specs.Pattern.{Pattern, parts, pattern}
use Rattle.teco_model.specs.Registers.{Registers, pair_of}
use Rattle.teco_model.specs.declared.pattern.Part.{Part}
use Rattle.teco_model.specs.declared.pattern.Part.TheVariants as part
use Rattle.teco_find.specs.declared.fault.FindFault.{FindFault}
use Rattle.teco_find.specs.declared.fault.FindFault.TheVariants as fault
use Rattle.teco_find.specs.declared.fault.Flaw.{Flaw}
use Rattle.teco_find.specs.declared.fault.Flaw.TheVariants as flaw

-- the code that a flaw of a text is, and how it is told
abbrev pub code_of : Flaw → Code
code_of flaw.Ice = code.Ice
code_of flaw.Iqn = code.Iqn

abbrev pub fault_of : Flaw → FindFault
fault_of flaw.Ice = fault.Ice
fault_of flaw.Iqn = fault.Iqn

abbrev pub flaw_cause : Flaw → Cause ⊥
flaw_cause f = Refused (code_of f)

abbrev pub pattern_cause : FindFault → Cause ⊥
pattern_cause fault.Ice = Refused code.Ice
pattern_cause fault.Iqn = Refused code.Iqn
pattern_cause fault.Memory = Memory

-- a part was read off a text: the parts of what there was are this one and those of what is left
abbrev pub NextPart : List ℕ → List ℕ → Result (Option Part) Flaw → Type 0
NextPart old new (Ok None) = parts old ≡ Ok []
NextPart old new (Ok (Some p)) =
    (parts old ≡ (parts new >>= (λ ps. Ok (p ∷ ps)))) × (length new < length old)
NextPart old new (Err f) = parts old ≡ Err (code_of f)

-- a register that a search text names, with a text of it
pub record Named : Type 0 where
  pub register : ℕ
  pub text : List ℕ

-- the registers that a part names, and a search text, each with the text that it has
abbrev pub named_by : Registers → Part → List Named
named_by registers (part.Item i) = []
named_by registers (part.Register r) = record { register = r; text = (pair_of r registers).text } ∷ []

abbrev pub named_in : Registers → List ℕ → Result (List Named) Code
named_in registers text = do
  ps ← parts text
  Ok (flat_map (named_by registers) ps)

-- a register has the text that it is named with
abbrev pub Has : Registers → Named → Type 0
Has registers named = (pair_of named.register registers).text ≡ named.text

-- a text says this pattern wherever the registers that are named have these texts
abbrev pub SaysWhere : List Named → Bool → List ℕ → Pattern → Type 0
SaysWhere named exact text said =
    (registers : Registers) → All (Has registers) named → pattern registers exact text ≡ Ok said
