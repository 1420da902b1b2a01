-- What is answered of the macros of a library, one behind another.
use Rattle.std.specs.Prelude.{ℕ, ◌≡◌, ◌⊎◌, List, [], ◌∷◌, ◌++◌, Option, Some, None, Result, Ok, Err, IsErr}
use Rattle.std.specs.Io.KnownBytes.{Keeps}
use Rattle.teco_console.specs.Macros.{macro_named}
use Rattle.teco_console.specs.Outcomes.{worse}
use Rattle.teco_console.specs.Sources.{IsReadFor}
use Rattle.teco_console.specs.declared.method.Method.{Method}
use Rattle.teco_console.specs.declared.outcome.Outcome.{Outcome}
use Rattle.teco_console.specs.declared.outcome.Outcome.TheVariants.{Done}
use Rattle.teco_console.specs.declared.request.Request.{Request}
use Rattle.teco_console.specs.declared.sourced.TheConstants.{NAMES}
use Rattle.teco_library.specs.Library.{LibraryFile}
use Rattle.teco_library.specs.Reads.{Reads}
use Rattle.teco_verdicts.specs.Answers.{Answer, Answers, BreaksOff, WritesAnswer}
use Rattle.teco_verdicts.specs.Json.{NoLibraryBy, ObjectBy}

-- the texts of registers, by their places
abbrev pub Texts : Type 0
Texts = List (Option (List ℕ))

-- an answer is written, and what came of it counts if it is the worst so far
pub record AnswersMacro (IsAnswer : Answer) (old new : Option (List ℕ)) (before after : Outcome) : Type 0 where
  pub outcome : Outcome
  pub answer : WritesAnswer IsAnswer old new outcome
  pub counted : after ≡ worse before outcome

-- of the register of a name, if it has a text
abbrev pub AnswersNext : (ℕ → Answer) → Option ℕ → Option (List ℕ) → Option (List ℕ) → Outcome → Outcome → Type 0
AnswersNext On None old new before after = (new ≡ old) × (after ≡ before)
AnswersNext On (Some entry) old new before after = AnswersMacro (On entry) old new before after

-- with a fault a front of its answer, or nothing
abbrev pub BreaksNext : (ℕ → Answer) → Option ℕ → Option (List ℕ) → Option (List ℕ) → Type 0
BreaksNext On None old new = ⊥
BreaksNext On (Some entry) old new = Keeps old new ⊎ BreaksOff (On entry) old new

abbrev pub AnswersNamed : {E : Type 0} → (ℕ → Answer) → Option ℕ → Option (List ℕ) → Option (List ℕ) → Outcome
    → Result Outcome E → Type 0
AnswersNamed On named old new before (Ok after) = AnswersNext On named old new before after
AnswersNamed On named old new before (Err fault) = BreaksNext On named old new

-- Of names in turn: what is written of one stands behind what was written before.
pub data AnswersEach (On : ℕ → Answer) (texts : Texts) (old : Option (List ℕ)) : List ℕ → Option (List ℕ) → Outcome
    → Type 0 where
  none : AnswersEach On texts old [] old Done
  one_more :
      (names : List ℕ) (mid : Option (List ℕ)) (before : Outcome) (name : ℕ) (new : Option (List ℕ)) (after : Outcome) →
      AnswersEach On texts old names mid before →
      AnswersNext On (macro_named texts name) mid new before after →
      AnswersEach On texts old (names ++ name ∷ []) new after

-- It breaks off at a name, behind the answers of those before it.
pub record BreaksOffAt (On : ℕ → Answer) (texts : Texts) (names : List ℕ) (old new : Option (List ℕ)) : Type 0 where
  pub front : List ℕ
  pub name : ℕ
  pub behind : List ℕ
  pub whole : names ≡ front ++ name ∷ behind
  pub mid : Option (List ℕ)
  pub before : Outcome
  pub answered : AnswersEach On texts old front mid before
  pub broken : BreaksNext On (macro_named texts name) mid new

-- of all macros of a library, A to Z and then 0 to 9
abbrev pub AnswersAll : {E : Type 0} → (ℕ → Answer) → Texts → Option (List ℕ) → Option (List ℕ) → Result Outcome E
    → Type 0
AnswersAll On texts old new (Ok outcome) = AnswersEach On texts old NAMES.now new outcome
AnswersAll On texts old new (Err fault) = BreaksOffAt On texts NAMES.now old new

-- the objects of the macros of the library that a text says
pub record ObjectsOfEach {E : Type 0} (method : Method) (source : List ℕ) (old new : Option (List ℕ))
    (result : Result Outcome E) : Type 0 where
  pub library : LibraryFile
  pub read : Reads source (Ok library)
  pub objects : AnswersAll (ObjectBy method library) library.texts old new result

-- or the object for a text that says none
abbrev pub ObjectsOfAll : {E : Type 0} → Method → List ℕ → Option (List ℕ) → Option (List ℕ) → Result Outcome E
    → Type 0
ObjectsOfAll method source old new result =
    ObjectsOfEach method source old new result ⊎ Answers (NoLibraryBy source) old new result

-- those on the source that was read for a request
pub record ObjectsOn {E : Type 0} (holds : List ℕ → Option (List ℕ)) (request : Request)
    (old new : Option (List ℕ)) (result : Result Outcome E) : Type 0 where
  pub source : List ℕ
  pub read : IsReadFor holds request source
  pub objects : ObjectsOfAll request.method source old new result

-- that, or with a fault none was read and nothing written
abbrev pub LibraryObjectsFor : {E : Type 0} → (List ℕ → Option (List ℕ)) → Request → Option (List ℕ)
    → Option (List ℕ) → Result Outcome E → Type 0
LibraryObjectsFor holds request old new result =
    (IsErr result × Keeps old new) ⊎ ObjectsOn holds request old new result
