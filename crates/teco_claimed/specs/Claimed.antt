-- What is so of a macro whose certificate of the linear rules was checked.
use Rattle.std.specs.Prelude.{◌≡◌, ℕ, List, map, length, IfSome, Option, option_map, Ok}
use Rattle.teco_claimed.specs.Checksum.{checksum_of}
use Rattle.teco_claimed.specs.Reads.{IsWellFormed}
use Rattle.teco_claimed.specs.declared.certificate.LinearCertificate.{LinearCertificate}
use Rattle.teco_library.specs.Library.{LibraryFile, argument_of}
use Rattle.teco_model.specs.Macros.{Library}
use Rattle.teco_paths.specs.Sure.{AreCertain}
use Rattle.teco_promise.specs.Promise.{EachRunEnds, Promise}
use Rattle.teco_verifier.specs.expansion.Expansion.{expansion}
use Rattle.teco_verifier.specs.expansion.Node.{Node}

-- the library, and what the certificate says of the entry
pub record LinearFinding : Type 0 where
  pub library : LibraryFile
  pub certificate : LinearCertificate

-- The argument is the one that the library declares for the entry, if it declares one.
abbrev pub TakesDeclared : LibraryFile → LinearCertificate → Type 0
TakesDeclared library certificate = certificate.argument ≡ argument_of library certificate.entry

-- The checksum that the certificate has, if it has one, is that of the texts in which the nodes stand.
abbrev pub IsOfTexts : LibraryFile → LinearCertificate → List Node → Type 0
IsOfTexts library certificate nodes = IfSome certificate.checksum (λ sum. sum ≡ checksum_of library.texts nodes)

-- how long the texts are, by the places of their registers
abbrev pub lengths_of : Library → List (Option ℕ)
lengths_of library = map (option_map length) library

-- The certificate has a text and the argument that is declared, the macro has an expansion and the checksum, if there
-- is one, and each of its runs ends as the certificate says.
pub record IsChecked (library : LibraryFile) (certificate : LinearCertificate) : Type 0 where
  pub well_formed : IsWellFormed certificate
  pub declared : TakesDeclared library certificate
  pub nodes : List Node
  pub expanded : expansion library.texts certificate.entry ≡ Ok nodes
  pub of_texts : IsOfTexts library certificate nodes
  pub certain :
      AreCertain nodes (lengths_of library.texts) certificate.argument certificate.needs certificate.claims

-- what the certificate says, but not what it claims on the way
abbrev pub promise_of : LinearFinding → Promise
promise_of found = record {
  library = found.library.texts;
  entry = found.certificate.entry;
  argument = found.certificate.argument;
  needs = found.certificate.needs;
  commands = found.certificate.claims.commands;
  size = found.certificate.claims.size;
  grows = found.certificate.claims.grows;
  types = found.certificate.claims.types;
}

-- Each run of a macro ends as its checked certificate says.
abbrev pub CheckedMacrosEnd : Type 0
CheckedMacrosEnd =
    (found : LinearFinding) → IsChecked found.library found.certificate → EachRunEnds (promise_of found)
