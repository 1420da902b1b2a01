-- What is swept of a folder.
use Rattle.std.specs.Prelude.{ℕ, ◌≡◌, List, length, take}
use Rattle.teco_files.specs.declared.process.TheConstants.{FRONT}

-- a name begins as those of unfinished outputs do, and those of no other files
abbrev pub IsOutputName : List ℕ → Type 0
IsOutputName name = take (length FRONT.now) name ≡ FRONT.now
