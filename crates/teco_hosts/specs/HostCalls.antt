-- What the calls of a host do, by their answers: E is what a failed call answers.
use Rattle.std.specs.Prelude.{ℕ, ◌≡◌, ◌≤◌, ◌<◌, List, length, take, Option, Some, IfSome, Result, Ok, Err}
use Rattle.teco_model.specs.Files.{file_named}
use Rattle.teco_hosts.specs.HostFiles.{Telling, Told, Becomes, Stays, Reads, NoneUnread, after_opening, after_writing}
use Rattle.teco_hosts.specs.HostFiles.{after_closing, after_dropping}

-- a failure is counted, and success is not
abbrev pub Counts : {X E : Type 0} → Result X E → ℕ → ℕ → Type 0
Counts (Ok _) old new = new ≡ old
Counts (Err _) old new = old < new

-- the bytes of the file of this name are the input, all of them unread
abbrev pub HasOpened : List ℕ → Telling → Telling → Type 0
HasOpened name = Told (λ files left.
    (file_named name files.named ≡ Some left.unread) × (left ≡ record files { unread = left.unread }))

-- a failure leaves the input that was
abbrev pub OpensIn : {E : Type 0} → List ℕ → Result (Unit {0}) E → Telling → Telling → Type 0
OpensIn name (Ok _) = HasOpened name
OpensIn name (Err _) = Stays

-- the first bytes of the buffer were the next of the input; none of a buffer that has room are its end
abbrev pub ReadsSome : {E : Type 0} → List ℕ → Result ℕ E → Telling → Telling → Type 0
ReadsSome buffer (Ok n) old new = Reads (take n buffer) old new
    × (n ≡ 0 → 0 < length buffer → NoneUnread old new)
ReadsSome buffer (Err _) old new = Stays old new

-- an output of this name is open
abbrev pub OpensOut : {E : Type 0} → List ℕ → Result (Unit {0}) E → Telling → Telling → Type 0
OpensOut name (Ok _) = Becomes (after_opening name)
OpensOut name (Err _) = Stays

-- the first bytes are written
abbrev pub WritesSome : {E : Type 0} → List ℕ → Result ℕ E → Telling → Telling → Type 0
WritesSome bytes (Ok n) = Becomes (after_writing (take n bytes))
WritesSome bytes (Err _) = Stays

-- the output takes its name; where that fails it is dropped
abbrev pub Closes : {E : Type 0} → Result (Unit {0}) E → Telling → Telling → Type 0
Closes (Ok _) = Becomes after_closing
Closes (Err _) = Becomes after_dropping

-- no more bytes of the input than these are unread, if that is told
abbrev pub Measures : Option ℕ → Telling → Telling → Type 0
Measures left_of = Told (λ files left. IfSome left_of (λ most. length files.unread ≤ most) × (left ≡ files))
