-- What is accepted, and what that promises.
use Rattle.std.specs.Prelude.{ℕ, ◌≡◌, ⊤, List}
use Rattle.teco_certificate.specs.Text.{certificate_text}
use Rattle.teco_claimed.specs.Claimed as claimed
use Rattle.teco_claimed.specs.Text.{linear_text}
use Rattle.teco_console.specs.declared.method.Edition.{Edition}
use Rattle.teco_console.specs.declared.method.Edition.TheVariants.{First, Second}
use Rattle.teco_console.specs.declared.method.Method.{Method}
use Rattle.teco_console.specs.declared.method.Method.TheVariants.{Only, Best}
use Rattle.teco_library.specs.Library.{LibraryFile, argument_of}
use Rattle.teco_promise.specs.Promise.{Promise}
use Rattle.teco_acceptance.specs.declared.acceptance.Accepted.{Accepted}
use Rattle.teco_acceptance.specs.declared.acceptance.Accepted.TheVariants.{Table, Claims}
use Rattle.teco_verify.specs.Certified.{IsCertified}
use Rattle.teco_verify.specs.Promised as verified

-- what it promises
abbrev pub promise_of : Accepted → Promise
promise_of (Table found) = verified.promise_of found
promise_of (Claims found) = claimed.promise_of found

-- the text of its certificate
abbrev pub certificate_of : Accepted → List ℕ
certificate_of (Table found) = certificate_text found.fields
certificate_of (Claims found) = linear_text found.certificate

-- the edition of the rules that accepts it
abbrev pub edition_of : Accepted → Edition
edition_of (Table found) = First
edition_of (Claims found) = Second

-- its table is closed, or its claims hang together
abbrev pub IsProved : Accepted → Type 0
IsProved (Table found) = IsCertified found.library found.fields
IsProved (Claims found) = claimed.IsChecked found.library found.certificate

-- It is the macro of an entry of a library, with the argument that the library declares for it.
pub record IsOf (library : LibraryFile) (entry : ℕ) (accepted : Accepted) : Type 0 where
  pub texts : (promise_of accepted).library ≡ library.texts
  pub of_entry : (promise_of accepted).entry ≡ entry
  pub declared : (promise_of accepted).argument ≡ argument_of library entry

-- The macro of an entry of a library is accepted: its table is closed, or its claims hang together, with the argument
-- that the library declares.
pub record IsAccepted (library : LibraryFile) (entry : ℕ) (accepted : Accepted) : Type 0 where
  pub proved : IsProved accepted
  pub is : IsOf library entry accepted

-- an edition of the rules is one by which a method verifies
abbrev pub IsAmong : Method → Edition → Type 0
IsAmong (Only asked) edition = edition ≡ asked
IsAmong Best edition = ⊤
