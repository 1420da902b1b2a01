-- What the calls of a host do to files, one after another.
use Rattle.std.specs.Prelude.{◌≡◌, ◌≤◌, ⊤, ℕ, List, [], ◌∷◌, ◌++◌, length, cond, ◌==◌, Some, refl}
use Rattle.std.specs.Coded.{Coded, code_by, coded×, coded_ℕ, coded_list}
use Rattle.teco_model.specs.Files.{file_named}
use Rattle.teco_model.specs.laws.Whole.{AreBytes}
use Rattle.teco_hosts.specs.Changes.{HostFiles, after_opening, after_writing, after_closing, after_dropping}

-- what one call did
pub data Event : Type 0 where
  -- the file of this name became the input, all of it unread
  opened_input : List ℕ → Event
  -- these bytes were the next of the input
  gave : List ℕ → Event
  -- the input was at its end
  ended : Event
  -- an output of this name was opened
  opened_output : List ℕ → Event
  -- these bytes were written to the output
  wrote : List ℕ → Event
  -- the output took its name
  closed : Event
  -- the output was dropped
  dropped : Event
  -- no more bytes than these were left of the input
  measured : ℕ → Event

-- the files before and after it
abbrev pub Happens : Event → HostFiles → HostFiles → Type 0
Happens (opened_input name) files left =
    (file_named name files.named ≡ Some left.unread) × (left ≡ record files { unread = left.unread })
Happens (gave bytes) files left = (files.unread ≡ bytes ++ left.unread)
    × (left ≡ record files { unread = left.unread })
Happens ended files left = (files.unread ≡ []) × (left ≡ files)
Happens (opened_output name) files left = left ≡ after_opening name files
Happens (wrote bytes) files left = left ≡ after_writing bytes files
Happens closed files left = left ≡ after_closing files
Happens dropped files left = left ≡ after_dropping files
Happens (measured most) files left = (length files.unread ≤ most) × (left ≡ files)

-- the files before and after all of them
abbrev pub Happened : List Event → HostFiles → HostFiles → Type 0
Happened [] files left = left ≡ files
Happened (event ∷ events) files left = (mid : HostFiles) × Happens event files mid × Happened events mid left

-- what was read and written is of bytes
abbrev pub IsOfBytes : Event → Type 0
IsOfBytes (opened_input name) = ⊤
IsOfBytes (gave bytes) = AreBytes bytes
IsOfBytes ended = ⊤
IsOfBytes (opened_output name) = ⊤
IsOfBytes (wrote bytes) = AreBytes bytes
IsOfBytes closed = ⊤
IsOfBytes dropped = ⊤
IsOfBytes (measured most) = ⊤

-- ---- how the logic keeps them: a number for what was done, and its bytes, or its number
abbrev number_of : Event → ℕ × List ℕ
number_of (opened_input name) = (0, name)
number_of (gave bytes) = (1, bytes)
number_of ended = (2, [])
number_of (opened_output name) = (3, name)
number_of (wrote bytes) = (4, bytes)
number_of closed = (5, [])
number_of dropped = (6, [])
number_of (measured most) = (7, most ∷ [])

abbrev only : List ℕ → ℕ
only [] = 0
only (n ∷ others) = n

abbrev numbered : ℕ × List ℕ → Event
numbered p =
    cond (p.0 == 0) (opened_input p.1)
    (cond (p.0 == 1) (gave p.1) (cond (p.0 == 2) ended (cond (p.0 == 3) (opened_output p.1)
    (cond (p.0 == 4) (wrote p.1) (cond (p.0 == 5) closed (cond (p.0 == 6) dropped (measured (only p.1))))))))

pub numbered-number_of : (event : Event) → numbered (number_of event) ≡ event
numbered-number_of (opened_input name) = refl
numbered-number_of (gave bytes) = refl
numbered-number_of ended = refl
numbered-number_of (opened_output name) = refl
numbered-number_of (wrote bytes) = refl
numbered-number_of closed = refl
numbered-number_of dropped = refl
numbered-number_of (measured most) = refl

abbrev pub events_code : Coded (List Event)
events_code =
    coded_list
    (code_by (ℕ × List ℕ) (coded× coded_ℕ (coded_list coded_ℕ)) number_of numbered
    numbered-number_of)
