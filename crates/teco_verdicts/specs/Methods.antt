-- What `verify` and `check` answer by whichever method.
use Rattle.std.specs.Prelude.{ℕ, ◌≡◌, ◌⊎◌, ⊤, List, Option, Result, IsErr, IfSome}
use Rattle.std.specs.Io.KnownBytes.{Keeps}
use Rattle.teco_acceptance.specs.Accepted.{IsAmong}
use Rattle.teco_acceptance.specs.Editions.{edition_by}
use Rattle.teco_acceptance.specs.Refused.{IsRefusedByTable}
use Rattle.teco_library.specs.Library.{LibraryFile}
use Rattle.teco_verdicts.specs.Answers.{Answer, AnswersFor, ChecksByTable, VerdictByTable}
use Rattle.teco_verdicts.specs.Linear.{ChecksByClaims, VerdictByClaims}
use Rattle.teco_console.specs.declared.method.Edition.{Edition}
use Rattle.teco_console.specs.declared.method.Edition.TheVariants.{First, Second}
use Rattle.teco_console.specs.declared.method.Method.{Method}
use Rattle.teco_console.specs.declared.method.Method.TheVariants.{Only, Best}
use Rattle.teco_console.specs.declared.outcome.Outcome.{Outcome}
use Rattle.teco_console.specs.declared.outcome.Outcome.TheVariants.{Done, Coded, Refused}
use Rattle.teco_console.specs.declared.request.Request.{Request}

-- what `verify` answers of an entry by an edition
abbrev pub VerdictIn : Edition → LibraryFile → ℕ → Answer
VerdictIn First library entry = VerdictByTable library entry
VerdictIn Second library entry = VerdictByClaims library entry

-- where either edition may accept, what is refused is refused by a table, too
abbrev pub RefusesByBoth : Method → LibraryFile → ℕ → Outcome → Type 0
RefusesByBoth (Only asked) library entry outcome = ⊤
RefusesByBoth Best library entry Done = ⊤
RefusesByBoth Best library entry Coded = ⊤
RefusesByBoth Best library entry Refused = IsRefusedByTable library entry

-- by a method: an answer of one of its editions
pub record VerdictBy (method : Method) (library : LibraryFile) (entry : ℕ) (outcome : Outcome) (text : List ℕ)
    : Type 0 where
  pub edition : Edition
  pub among : IsAmong method edition
  pub answer : VerdictIn edition library entry outcome text
  pub by_both : RefusesByBoth method library entry outcome

-- what `check` answers of bytes by an edition
abbrev pub ChecksIn : Edition → List ℕ → LibraryFile → ℕ → Answer
ChecksIn First bytes library entry = ChecksByTable bytes library entry
ChecksIn Second bytes library entry = ChecksByClaims bytes library entry

-- by a method: the answer of the edition that is asked for, or else of the one that the bytes name
abbrev pub ChecksBy : Method → List ℕ → LibraryFile → ℕ → Answer
ChecksBy method bytes library entry = ChecksIn (edition_by method bytes) bytes library entry

-- what `check` answers of the bytes that a file of a name has
pub record ChecksOn {E : Type 0} (holds : List ℕ → Option (List ℕ)) (request : Request) (entry : ℕ)
    (name : List ℕ) (old new : Option (List ℕ)) (result : Result Outcome E) : Type 0 where
  pub bytes : List ℕ
  pub told : IfSome (holds name) (λ known. bytes ≡ known)
  pub answers : AnswersFor holds request (λ library. ChecksBy request.method bytes library entry) old new result

abbrev pub ChecksFor : {E : Type 0} → (List ℕ → Option (List ℕ)) → Request → ℕ → List ℕ
    → Option (List ℕ) → Option (List ℕ) → Result Outcome E → Type 0
ChecksFor holds request entry name old new result =
    (IsErr result × Keeps old new) ⊎ ChecksOn holds request entry name old new result
