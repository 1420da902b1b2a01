-- What a host says of its files, and what calls do to them.
use Rattle.std.specs.Prelude.{ℕ, ◌≡◌, List, [], ◌++◌}
use Rattle.std.specs.List.{AllByRecursion}
use Rattle.teco_hosts.specs.Events.{Event, Happened, IsOfBytes}
pub use Rattle.teco_hosts.specs.Changes.{HostFiles, AreOfBytes, after_opening, after_writing, after_closing}
pub use Rattle.teco_hosts.specs.Changes.{after_dropping}

-- A host tells its files, or it notes what its calls did to files that it cannot tell.
pub data Telling : Type 0 where
  Tells : HostFiles → Telling
  Notes : List Event → Telling

-- R holds of whatever files were there, of bytes, that fit what was noted meanwhile.
pub record Fits (R : HostFiles → HostFiles → Type 0) (old new : List Event) : Type 0 where
  pub meanwhile : List Event
  pub noted : new ≡ old ++ meanwhile
  pub bytes : AllByRecursion IsOfBytes meanwhile
  pub holds : (files left : HostFiles) → AreOfBytes files → Happened meanwhile files left → R files left

-- A relation of files of bytes before and after calls: it holds of those that are told, or of all that fit what is
-- noted.
abbrev pub Told : (HostFiles → HostFiles → Type 0) → Telling → Telling → Type 0
Told R (Tells files) (Tells left) = AreOfBytes files → R files left × AreOfBytes left
Told R (Tells files) (Notes new) = ⊥
Told R (Notes old) (Tells left) = ⊥
Told R (Notes old) (Notes new) = Fits R old new

-- files become what f makes of them
abbrev pub Becomes : (HostFiles → HostFiles) → Telling → Telling → Type 0
Becomes f = Told (λ files left. left ≡ f files)

-- files stay
abbrev pub Stays : Telling → Telling → Type 0
Stays = Told (λ files left. left ≡ files)

-- files stay, but for the input, of which these bytes were the next
abbrev pub Reads : List ℕ → Telling → Telling → Type 0
Reads bytes = Told (λ files left.
    (files.unread ≡ bytes ++ left.unread) × (left ≡ record files { unread = left.unread }))

-- nothing is left unread
abbrev pub NoneUnread : Telling → Telling → Type 0
NoneUnread = Told (λ files left. left.unread ≡ [])
