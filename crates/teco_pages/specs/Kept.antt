-- What is known of an output of the system's files: each file of a type F may tell the bytes that it has.
use Rattle.std.specs.Prelude.{ℕ, List, Option, option_and_then}
use Rattle.teco_files.specs.Buffers.{unfinished_contents}
use Rattle.teco_files.specs.declared.unfinished.Unfinished.{Unfinished}

-- the bytes that the file of the open output has, and behind them those that are kept for it
abbrev pub output_contents : {F : Type 0} → (F → Option (List ℕ)) → Option (Unfinished F) → Option (List ℕ)
output_contents contents = option_and_then (unfinished_contents contents)
