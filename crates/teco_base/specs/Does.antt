-- A call beside the definition's result of it.
use Rattle.std.specs.Prelude.{◌≡◌, ◌⊎◌, Result, Ok, Err, IsOk}
use Rattle.teco_base.specs.declared.code.Code.{Code}
use Rattle.teco_base.specs.declared.code.Code.TheVariants as code

-- Why a call fails: with a code, for want of memory, or by a fault of the host.
pub data Cause (F : Type 0) : Type 0 where
  Refused : Code → Cause F
  Memory : Cause F
  Host : F → Cause F

-- Where a call may fail otherwise than with the definition's code, by the definition's result. A fault of the host
-- tells too what becomes of the state.
pub record May (S Y F : Type 0) : Type 1 where
  pub memory : Result Y Code → Type 0
  pub breaks : F → S → S → Result Y Code → Type 0

-- A failure with a code is the definition's. With that, and for want of memory, the state stays.
abbrev pub FailsAs : {S Y F : Type 0} → May S Y F → S → S → Result Y Code → Cause F → Type 0
FailsAs may old new defined (Refused c) = (defined ≡ Err c) × (new ≡ old)
FailsAs may old new defined Memory = may.memory defined × (new ≡ old)
FailsAs may old new defined (Host fault) = may.breaks fault old new defined

-- A call left and answered what the definition says, as it is seen; or it failed, and its error has a cause.
abbrev pub Does : {S X Y E F : Type 0} → (E → Cause F) → May S Y F → (S → X → Y) → S → S → Result Y Code → Result X E
    → Type 0
Does cause may seen old new defined (Ok answer) = defined ≡ Ok (seen new answer)
Does cause may seen old new defined (Err error) = FailsAs may old new defined (cause error)

-- a call that answers nothing: it left what the definition says
abbrev pub Updates : {S X E F : Type 0} → (E → Cause F) → May S S F → S → S → Result S Code → Result X E → Type 0
Updates cause may = Does cause may (λ new done. new)

-- a failure of a call that has no state
abbrev pub FailsWith : {Y F : Type 0} → May (Unit {0}) Y F → Result Y Code → Cause F → Type 0
FailsWith may defined (Refused c) = defined ≡ Err c
FailsWith may defined Memory = may.memory defined
FailsWith may defined (Host fault) = may.breaks fault tt tt defined

-- A call that has no state answered what the definition says, as it is seen; or it failed, and its error has a cause.
abbrev pub Gives : {X Y E F : Type 0} → (E → Cause F) → May (Unit {0}) Y F → (X → Y) → Result Y Code → Result X E
    → Type 0
Gives cause may seen defined (Ok answer) = defined ≡ Ok (seen answer)
Gives cause may seen defined (Err error) = FailsWith may defined (cause error)

-- it fails with codes alone
abbrev pub codes_alone : {S Y F : Type 0} → May S Y F
codes_alone = record { memory = λ defined. ⊥; breaks = λ fault old new defined. ⊥ }

-- it may want memory where this is so of the definition's result
abbrev pub memory_where : {S Y F : Type 0} → (Result Y Code → Type 0) → May S Y F
memory_where fact = record { memory = fact; breaks = λ fault old new defined. ⊥ }

-- the cause, where the error is a code
abbrev pub code_cause : Code → Cause ⊥
code_cause c = Refused c

-- what is done, or FUL
abbrev pub IsDoneOrFull : {X : Type 0} → Result X Code → Type 0
IsDoneOrFull r = IsOk r ⊎ (r ≡ Err code.Ful)
