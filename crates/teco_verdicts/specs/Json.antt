-- The objects of JSON that `verify --json` and `check --json` write, and what they state.
use Rattle.std.specs.Prelude.{ℕ, ◌≡◌, ◌⊎◌, ⊤, List, [], ◌∷◌, ◌++◌, codes, Bool, true, false, IfSome, Option, Some, None}
use Rattle.std.specs.Prelude.{Err, Vec, option_map}
use Rattle.std.specs.Fmt.{decimal}
use Rattle.std.specs.Option.{option_copied}
use Rattle.teco_json.specs.Json.{array_or_null, array_text, byte_or_null, number_or_null, object_text, quoted_text}
use Rattle.teco_json.specs.Json.{stated, text_or_null, truth_text}
use Rattle.std.specs.declared.alloc.Global.{Global}
use Rattle.teco_base.specs.Register.{register_name}
use Rattle.teco_explain.specs.Numbers.{number_of}
use Rattle.teco_library.specs.Library.{LibraryFile}
use Rattle.teco_library.specs.Reads.{Reads}
use Rattle.teco_library.specs.declared.fault.LibraryFault.TheVariants.{NotALibrary}
use Rattle.teco_model.specs.Macros.{ArgumentRange, Needs}
use Rattle.teco_poly.specs.Polynomial.{Polynomial, value}
use Rattle.teco_promise.specs.Promise.{Promise}
use Rattle.teco_source.specs.Places.{Position}
use Rattle.teco_verifier.specs.declared.refusal.RefusalReason.TheVariants as why
use Rattle.teco_verify.specs.declared.refusal.Refusal.{Refusal}
use Rattle.teco_console.specs.Premise.{IsLast}
use Rattle.teco_console.specs.declared.method.Method.{Method}
use Rattle.teco_console.specs.declared.outcome.Outcome.TheVariants.{Done, Coded, Refused}
use Rattle.std.specs.Io.KnownBytes.{Keeps}
use Rattle.teco_acceptance.specs.Accepted.{IsAmong, IsOf, IsProved, certificate_of, edition_of, promise_of}
use Rattle.teco_acceptance.specs.Lines.{verdict_of}
use Rattle.teco_acceptance.specs.Refused.{IsRefusedBy}
use Rattle.teco_acceptance.specs.declared.acceptance.Accepted.{Accepted}
use Rattle.teco_acceptance.specs.declared.verdict.Verdict.{Verdict}
use Rattle.teco_verdicts.specs.Answers.{Answer, AnswersIn, AnswersOf}
use Rattle.teco_verdicts.specs.Methods.{ChecksBy}
use Rattle.teco_verdicts.specs.declared.objects.Remark.{Remark}
use Rattle.teco_verdicts.specs.declared.objects.Stated.{Stated}
use Rattle.teco_verdicts.specs.declared.objects.StatedRefusal.{StatedRefusal}
use Rattle.teco_verdicts.specs.declared.objects.StatedBounds.{StatedBounds}
use Rattle.teco_console.specs.declared.outcome.Outcome.{Outcome}
use Rattle.teco_console.specs.declared.request.Request.{Request}
use Rattle.std.specs.Prelude.{Result, IsErr}

-- the numbers that a vector has
abbrev pub items : Vec ℕ Global → List ℕ
items numbers = numbers.items

-- the ends of a range of arguments
abbrev pub range_ends : ArgumentRange → List ℕ
range_ends range = range.low ∷ range.high ∷ []

-- the name of a register, if there is one
abbrev pub name_in : Option ℕ → Option ℕ
name_in None = None
name_in (Some register) = Some (register_name register)

-- the object of a macro that is accepted: its bounds as coefficients, the files that must be open, the last N at which
-- it holds, and the arguments
abbrev pub stated_text : Stated → List ℕ
stated_text promised = object_text (
    stated (codes "macro") (byte_or_null (name_in (Some promised.entry)))
    ∷ stated (codes "accepted") (truth_text true)
    ∷ stated (codes "commands") (array_text promised.bounds.commands.items)
    ∷ stated (codes "size") (array_text promised.bounds.size.items)
    ∷ stated (codes "grows") (array_or_null (option_map items promised.bounds.grows))
    ∷ stated (codes "types") (array_or_null (option_map items promised.bounds.types))
    ∷ stated (codes "needs_input") (truth_text promised.needs_input)
    ∷ stated (codes "needs_output") (truth_text promised.needs_output)
    ∷ stated (codes "greatest_n") (number_or_null promised.greatest)
    ∷ stated (codes "argument") (array_or_null (option_map items promised.argument))
    ∷ [])

-- the line and the column of a position, if there is one
abbrev pub line_in : Option Position → Option ℕ
line_in None = None
line_in (Some at) = Some at.line

abbrev pub column_in : Option Position → Option ℕ
column_in None = None
column_in (Some at) = Some at.column

-- The object of a macro, or of no library, that is refused: the reason, where it is so, and what is said of it.
abbrev pub refusal_by : Option ℕ → Verdict → List ℕ → Remark → List ℕ
refusal_by entry verdict reason remark = object_text (
    stated (codes "macro") (byte_or_null (name_in entry))
    ∷ stated (codes "accepted") (truth_text false)
    ∷ stated (codes "refusal") (quoted_text reason)
    ∷ stated (codes "register") (byte_or_null (name_in verdict.register))
    ∷ stated (codes "place") (decimal verdict.place)
    ∷ stated (codes "line") (number_or_null (line_in remark.begin))
    ∷ stated (codes "column") (number_or_null (column_in remark.begin))
    ∷ stated (codes "end") (number_or_null remark.end)
    ∷ stated (codes "end_line") (number_or_null (line_in remark.end_position))
    ∷ stated (codes "end_column") (number_or_null (column_in remark.end_position))
    ∷ stated (codes "message") (quoted_text remark.message.now)
    ∷ stated (codes "remedy") (quoted_text remark.remedy.now)
    ∷ stated (codes "witness") (text_or_null (option_copied remark.witness))
    ∷ stated (codes "witness_text") (text_or_null (option_copied remark.witness_text))
    ∷ [])

abbrev pub refusal_text : Option ℕ → Verdict → Remark → List ℕ
refusal_text entry verdict remark = refusal_by entry verdict (codes "X" ++ decimal (number_of verdict.why)) remark

-- what is stated of a refusal, as its object
abbrev pub remark_in : StatedRefusal → Remark
remark_in told = record {
  begin = told.begin;
  end = told.end;
  end_position = told.end_position;
  message = told.message;
  remedy = told.remedy;
  witness = told.witness;
  witness_text = told.witness_text;
}

abbrev pub refusal_object : StatedRefusal → List ℕ
refusal_object told = refusal_by told.entry told.verdict told.reason.now (remark_in told)

-- numbers are the coefficients of a polynomial: with them it has the same value at each N
abbrev pub AreCoefficients : Polynomial → List ℕ → Type 0
AreCoefficients polynomial numbers = (n : ℕ) → value numbers n ≡ value polynomial n

-- of a bound, if there is one
abbrev pub AreCoefficientsIf : Option Polynomial → Option (Vec ℕ Global) → Type 0
AreCoefficientsIf None None = ⊤
AreCoefficientsIf None (Some numbers) = ⊥
AreCoefficientsIf (Some polynomial) None = ⊥
AreCoefficientsIf (Some polynomial) (Some numbers) = AreCoefficients polynomial numbers.items

pub record StatesBounds (promise : Promise) (bounds : StatedBounds) : Type 0 where
  pub commands : AreCoefficients promise.commands bounds.commands.items
  pub size : AreCoefficients promise.size bounds.size.items
  pub grows : AreCoefficientsIf promise.grows bounds.grows
  pub types : AreCoefficientsIf promise.types bounds.types

-- What is stated are the fields of a promise, and the last N at which it holds; null where no text is as short.
pub record States (promise : Promise) (stated : Stated) : Type 0 where
  pub entry : stated.entry ≡ promise.entry
  pub argument : option_map items stated.argument ≡ option_map range_ends promise.argument
  pub needs_input : stated.needs_input ≡ promise.needs.input
  pub needs_output : stated.needs_output ≡ promise.needs.output
  pub bounds : StatesBounds promise stated.bounds
  pub greatest : IfSome stated.greatest (IsLast promise.size promise.commands)

-- the object of a promise
pub record IsObjectOf (promise : Promise) (text : List ℕ) : Type 0 where
  pub stated : Stated
  pub states : States promise stated
  pub spelled : text ≡ stated_text stated

-- the object of an entry that is accepted, by an edition of a method: it states what is promised of it
pub record IsAcceptedObject (method : Method) (library : LibraryFile) (entry : ℕ) (text : List ℕ) : Type 0 where
  pub accepted : Accepted
  pub is : IsOf library entry accepted
  pub proved : IsProved accepted
  pub among : IsAmong method (edition_of accepted)
  pub object : IsObjectOf (promise_of accepted) text

-- the object of an entry that is refused
pub record IsRefusedObject (method : Method) (library : LibraryFile) (entry : ℕ) (text : List ℕ) : Type 0 where
  pub refusal : Refusal
  pub verdict : Verdict
  pub remark : Remark
  pub refused : IsRefusedBy method library entry refusal
  pub told : verdict_of refusal ≡ Some verdict
  pub spelled : text ≡ refusal_text (Some entry) verdict remark

-- what `verify --json` answers of an entry by a method
abbrev pub ObjectBy : Method → LibraryFile → ℕ → Answer
ObjectBy method library entry Done text = IsAcceptedObject method library entry text
ObjectBy method library entry Coded text = ⊥
ObjectBy method library entry Refused text = IsRefusedObject method library entry text

-- the object for a text that is no library
pub record IsNoLibraryObject (source text : List ℕ) : Type 0 where
  pub place : ℕ
  pub remark : Remark
  pub none : Reads source (Err (NotALibrary place))
  pub spelled : text ≡ refusal_text None (record { why = why.Library; register = None; place = place }) remark

-- what is answered of it
abbrev pub NoLibraryBy : List ℕ → Answer
NoLibraryBy source Done text = ⊥
NoLibraryBy source Coded text = ⊥
NoLibraryBy source Refused text = IsNoLibraryObject source text

-- an answer on a text that says a library, or none
abbrev pub ObjectsOfText : (LibraryFile → Answer) → List ℕ → Answer
ObjectsOfText In source Done text = AnswersIn In source Done text
ObjectsOfText In source Coded text = AnswersIn In source Coded text
ObjectsOfText In source Refused text = AnswersIn In source Refused text ⊎ IsNoLibraryObject source text

-- the answer on the source that was read for a request
abbrev pub ObjectsFor : {E : Type 0} → (List ℕ → Option (List ℕ)) → Request → (LibraryFile → Answer)
    → Option (List ℕ) → Option (List ℕ) → Result Outcome E → Type 0
ObjectsFor holds request In old new result = AnswersOf holds request (ObjectsOfText In) old new result

-- ---- `check --json`
-- the object of a macro that a certificate is of: it states what is promised of it
pub record IsCheckedObject (bytes : List ℕ) (library : LibraryFile) (entry : ℕ) (text : List ℕ) : Type 0 where
  pub accepted : Accepted
  pub is : IsOf library entry accepted
  pub proved : IsProved accepted
  pub spelled : certificate_of accepted ≡ bytes
  pub object : IsObjectOf (promise_of accepted) text

-- bytes that are refused as a certificate
abbrev pub denied_verdict : Verdict
denied_verdict = record { why = why.Certificate; register = None; place = 0 }

pub record IsDeniedObject (method : Method) (bytes : List ℕ) (library : LibraryFile) (entry : ℕ) (text : List ℕ)
    : Type 0 where
  pub line : List ℕ
  pub denied : ChecksBy method bytes library entry Refused line
  pub remark : Remark
  pub spelled : text ≡ refusal_text (Some entry) denied_verdict remark

-- what is answered of bytes by a method
abbrev pub CheckObjectBy : Method → List ℕ → LibraryFile → ℕ → Answer
CheckObjectBy method bytes library entry Done text = IsCheckedObject bytes library entry text
CheckObjectBy method bytes library entry Coded text = ⊥
CheckObjectBy method bytes library entry Refused text = IsDeniedObject method bytes library entry text

-- of the bytes that a file of a name has
pub record CheckObjectsOn {E : Type 0} (holds : List ℕ → Option (List ℕ)) (request : Request) (entry : ℕ)
    (name : List ℕ) (old new : Option (List ℕ)) (result : Result Outcome E) : Type 0 where
  pub bytes : List ℕ
  pub told : IfSome (holds name) (λ known. bytes ≡ known)
  pub answers :
      ObjectsFor holds request (λ library. CheckObjectBy request.method bytes library entry) old new result

abbrev pub CheckObjectsFor : {E : Type 0} → (List ℕ → Option (List ℕ)) → Request → ℕ → List ℕ
    → Option (List ℕ) → Option (List ℕ) → Result Outcome E → Type 0
CheckObjectsFor holds request entry name old new result =
    (IsErr result × Keeps old new) ⊎ CheckObjectsOn holds request entry name old new result
