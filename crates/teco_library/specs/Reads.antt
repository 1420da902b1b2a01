-- What reading a library gives. NotALibrary comes exactly where a text is no library, whatever memory does.
use Rattle.std.specs.Prelude.{ℕ, ◌<◌, List, length, Result, Ok, Err}
use Rattle.teco_library.specs.declared.fault.LibraryFault.{LibraryFault}
use Rattle.teco_library.specs.declared.fault.LibraryFault.TheVariants.{NotALibrary, Memory}
use Rattle.teco_library.specs.Library.{IsLibrary, IsFirstNotAllowed, IsGivenBy, LibraryFile}

abbrev pub Reads : List ℕ → Result LibraryFile LibraryFault → Type 0
Reads text (Ok library) = IsLibrary text × IsGivenBy text library
Reads text (Err (NotALibrary place)) = IsFirstNotAllowed text place
Reads text (Err Memory) = IsLibrary text × (0 < length text)
