-- What a printed or an accepted certificate promises of the machine.
use Rattle.std.specs.Prelude.{ℕ, List, Option}
use Rattle.teco_law_runs.specs.Given.{call_given}
use Rattle.teco_law_runs.specs.Ready.{AreOpen, IsReady}
use Rattle.teco_law_runs.specs.Ending.{EndsWithin}
use Rattle.teco_library.specs.Library.{LibraryFile}
use Rattle.teco_model.specs.Macros.{IsAsked}
use Rattle.teco_model.specs.State.{World, start}
use Rattle.teco_poly.specs.Polynomial.{value}
use Rattle.teco_verdicts.specs.Certificates.{IsCertificate}

-- The macro of a certificate is called: its library is loaded, the files that it needs are open, it is given an
-- argument that it takes, and its size at N may be held.
pub record IsCalled {library : LibraryFile} {entry : ℕ} {text : List ℕ}
    (certificate : IsCertificate library entry text) (given : Option ℕ) (n : ℕ) (world : World) : Type 0 where
  pub asked : IsAsked certificate.fields.argument given
  pub ready : IsReady library.texts entry certificate.fields.size n world
  pub files : AreOpen certificate.fields.needs world.files

-- It ends without a code, within the number of commands of its certificate.
abbrev pub CertifiedMacrosEnd : Type 0
CertifiedMacrosEnd =
    (library : LibraryFile) (entry : ℕ) (text : List ℕ)
    (certificate : IsCertificate library entry text) (given : Option ℕ) (n : ℕ) (world : World)
    → IsCalled certificate given n world
    → EndsWithin (start (call_given entry given) world) (value certificate.fields.commands n)
