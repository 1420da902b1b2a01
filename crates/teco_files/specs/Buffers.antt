-- What is known of an input and of an output: each file of a type F may tell the bytes that it still gives, or has.
use Rattle.std.specs.Prelude.{ℕ, List, Option}
use Rattle.std.specs.Io.Buffered.{reader_buffer, reader_capacity, reader_remaining, writer_buffer, writer_contents}
use Rattle.teco_files.specs.declared.source.ReadFile.{ReadFile}
use Rattle.teco_files.specs.declared.unfinished.Unfinished.{Unfinished}

-- the bytes that were read ahead, and are not given yet
abbrev pub source_ahead : {F : Type 0} → ReadFile F → List ℕ
source_ahead input = reader_buffer input.reader

-- how many bytes are read ahead at most
abbrev pub source_room : {F : Type 0} → ReadFile F → ℕ
source_room input = reader_capacity input.reader

-- how many bytes the file was told to have when it was opened, if it was
abbrev pub source_told : {F : Type 0} → ReadFile F → Option ℕ
source_told input = input.length

-- the bytes that the input still gives: those that were read ahead, and behind them those that its file gives
abbrev pub source_remaining : {F : Type 0} → (F → Option (List ℕ)) → ReadFile F → Option (List ℕ)
source_remaining remaining input = reader_remaining remaining input.reader

-- the bytes of small writes that are kept, and were not sent to the file yet
abbrev pub unfinished_kept : {F : Type 0} → Unfinished F → List ℕ
unfinished_kept output = writer_buffer output.writer

-- the bytes of the output: those that its file has, and behind them those that are kept
abbrev pub unfinished_contents : {F : Type 0} → (F → Option (List ℕ)) → Unfinished F → Option (List ℕ)
unfinished_contents contents output = writer_contents contents output.writer
