-- What was checked is promised, and has its text.
use Rattle.std.proofs.Common.{◌≡◌, ℕ, List, refl, subst, sym}
use Rattle.std.specs.Prelude.{Option, Result, Ok, Err, IfOk}
use Rattle.teco_claimed.specs.Claimed.{LinearFinding, IsChecked, lengths_of, promise_of}
use Rattle.teco_claimed.specs.Reads.{IsTextOf}
use Rattle.teco_claimed.specs.declared.certificate.LinearCertificate.{LinearCertificate}
use Rattle.teco_claimed.specs.declared.refusal.LinearRefusal.{LinearRefusal}
use Rattle.teco_law_runs.specs.Linked.{ExpansionsAreLinked}
use Rattle.teco_model.specs.Macros.{ArgumentRange, Library, Needs}
use Rattle.teco_paths.specs.Sure.{CertainEnd, bounds_in}
use Rattle.teco_poly.specs.Polynomial.{Polynomial}
use Rattle.teco_promise.specs.Promise.{EachRunEnds}

pub checked_ends : ExpansionsAreLinked → CertainEnd → (found : LinearFinding)
    → IsChecked found.library found.certificate → EachRunEnds (promise_of found)
checked_ends linked ends found checked = record {
  nodes = checked.nodes;
  expanded = checked.expanded;
  runs = λ given world asked ready opened.
      let texts = found.library.texts in
      let certificate = found.certificate in
      ends checked.nodes (lengths_of texts) certificate.argument certificate.needs (bounds_in certificate.claims)
      checked.certain.cuts checked.certain.certain texts certificate.entry given world refl
      (linked texts certificate.entry checked.nodes checked.expanded) asked ready opened;
}

-- what has its parts is its promise
pub same_promise : (found : LinearFinding) {library : Library} {entry : ℕ} {argument : Option ArgumentRange}
    {needs : Needs} {commands size : Polynomial} {grows types : Option Polynomial}
    → library ≡ found.library.texts → entry ≡ found.certificate.entry → argument ≡ found.certificate.argument
    → needs ≡ found.certificate.needs → commands ≡ found.certificate.claims.commands
    → size ≡ found.certificate.claims.size → grows ≡ found.certificate.claims.grows
    → types ≡ found.certificate.claims.types
    → record {
      library = library;
      entry = entry;
      argument = argument;
      needs = needs;
      commands = commands;
      size = size;
      grows = grows;
      types = types;
    } ≡ promise_of found
same_promise found l e a n c s g t = rw (l, e, a, n, c, s, g, t) refl

-- what is found has the text that its certificate has
pub found_text : (result : Result LinearFinding LinearRefusal) (certificate : LinearCertificate) (text : List ℕ)
    → IfOk result (λ found. found.certificate ≡ certificate) → IsTextOf certificate text
    → IfOk result (λ found. IsTextOf found.certificate text)
found_text (Ok found) certificate text same is = subst (λ c. IsTextOf c text) (sym same) is
found_text (Err refused) certificate text same is = tt
