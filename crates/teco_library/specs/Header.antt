-- The header of a library, which declares an argument.
use Rattle.std.specs.Prelude.{◌≡◌, ◌≢◌, ℕ, ◌<◌, List, [], ◌∷◌, ◌++◌, codes, Bool, true, false, ◌==◌, ◌&&◌, Option}
use Rattle.std.specs.Prelude.{Some, None, if◌then◌else◌}
use Rattle.std.specs.Option.{ForSome}
use Rattle.teco_base.specs.Register.{register_name}
use Rattle.teco_base.specs.declared.TheConstants.{REGISTERS}
use Rattle.teco_model.specs.declared.kind.Kind.{Kind}
use Rattle.teco_model.specs.declared.kind.Kind.TheVariants as kind
use Rattle.teco_model.specs.declared.kind.Flow.TheVariants as flow
use Rattle.teco_model.specs.Ahead.{Reading, Whole, Faulty}
use Rattle.teco_model.specs.Macros.{ArgumentRange, IsArgumentRange}
use Rattle.teco_verifier.specs.certificate.ArgumentText.{range_text}

-- a register, and the arguments that it may be called with
pub record Declared : Type 0 where
  pub register : ℕ
  pub range : ArgumentRange

-- what the declaration of these begins with, and its text
abbrev pub header_word : List ℕ
header_word = codes "TECO-LIB "

abbrev pub header_text : Declared → List ℕ
header_text declared =
    header_word
    ++ (codes "2 " ++ (register_name declared.register ∷ (codes " " ++ range_text declared.range)))

pub record IsDeclared (declared : Declared) : Type 0 where
  pub register : declared.register < REGISTERS
  pub range : IsArgumentRange declared.range

-- the text of a comment
abbrev pub is_comment : Kind → Bool
is_comment (kind.Flow flow.Comment) = true
is_comment k = false

-- the text of the comment at the first place of a file, if one stands there
abbrev pub first_comment : List Reading → Option (List ℕ)
first_comment [] = None
first_comment (Whole e ∷ behind) = if is_comment e.kind && (e.place == 0) then Some e.text else None
first_comment (Faulty c place next ∷ behind) = None

-- That comment declares an argument. Where it begins as a header does it has to; any other declares none.
abbrev pub Declares : Option (List ℕ) → Option Declared → Type 0
Declares comment (Some declared) = IsDeclared declared × (comment ≡ Some (header_text declared))
Declares comment None = ForSome comment (λ text. (behind : List ℕ) → text ≢ header_word ++ behind)

-- no header that declares nothing
abbrev pub HasNoOtherHeader : List Reading → Type 0
HasNoOtherHeader readings = (declared : Option Declared) × Declares (first_comment readings) declared

-- the arguments that a register may be called with, where they are declared
abbrev pub range_of : ℕ → Declared → Option ArgumentRange
range_of q declared = if declared.register == q then Some declared.range else None
