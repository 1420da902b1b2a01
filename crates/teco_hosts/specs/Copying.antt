-- How all that is unread is copied, piece by piece.
use Rattle.std.specs.Prelude.{ℕ, ◌≡◌, List, ◌++◌}
use Rattle.teco_hosts.specs.HostFiles.{HostFiles, Telling, Told, after_writing}

-- what was unread is what is written of it, what is held, and what the host has behind that
pub record IsCopied (unread held : List ℕ) (files left : HostFiles) : Type 0 where
  pub front : List ℕ
  pub whole : unread ≡ front ++ (held ++ left.unread)
  pub written : left ≡ record (after_writing front files) { unread = left.unread }

-- copied as far as it went, where `old` was held at first and `held` is held now
abbrev pub CopiesOn : List ℕ → List ℕ → Telling → Telling → Type 0
CopiesOn old held = Told (λ files left. IsCopied (old ++ files.unread) held files left)
