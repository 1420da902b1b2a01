-- Small worlds on which macros fail.
use Rattle.std.specs.Prelude.{ℕ, ◌≡◌}
use Rattle.teco_library.specs.Library.{LibraryFile, argument_of}
use Rattle.teco_witness.specs.Witness.{Subject, Witness, IsWitness}

-- On a small world the macro of an entry fails, called with an argument if its library declares one: there its run
-- stops with that code at that place, or has not ended after so many steps.
pub record FailsOn (library : LibraryFile) (entry : ℕ) (witness : Witness) : Type 0 where
  pub subject : Subject
  pub texts : subject.library ≡ library.texts
  pub of_entry : subject.entry ≡ entry
  pub declared : subject.argument ≡ argument_of library entry
  pub fails : IsWitness subject witness
