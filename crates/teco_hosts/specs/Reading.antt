-- How a page is read in pieces.
use Rattle.std.specs.Prelude.{ℕ, ◌+◌, ◌≡◌, ◌<◌, ◌≤◌, List, [], ◌∷◌, ◌++◌, length, Bool, true, false, not, ◌==◌}
use Rattle.std.specs.Prelude.{Result, Ok, Err}
use Rattle.teco_base.specs.declared.TheConstants.{LIMIT}
use Rattle.teco_base.specs.declared.bytes.TheConstants.{FF}
use Rattle.teco_model.specs.Pages.{before_form_feed, has_form_feed, behind_form_feed}
use Rattle.teco_hosts.specs.HostFiles.{Telling, Told, NoneUnread}
use Rattle.teco_hosts.specs.declared.fault.Fault.{Fault}
use Rattle.teco_hosts.specs.declared.fault.Fault.TheVariants.{NoFile, In, Out, Full, Memory}

-- a byte that ends no page
abbrev pub is_inner : ℕ → Bool
is_inner b = not (b == FF)

-- nothing but the input was read on, and what is held and what is unread is together what it was
abbrev pub Shifts : List ℕ → Telling → List ℕ → Telling → Type 0
Shifts held old held' new = Told (λ files left.
    (held ++ files.unread ≡ held' ++ left.unread) × (left ≡ record files { unread = left.unread })) old new

-- what the giving of bytes to a page does
abbrev pub Gives : List ℕ → List ℕ → List ℕ → List ℕ → Result Bool Fault → Type 0
Gives old new into into' (Ok ff) =
    (ff ≡ has_form_feed old) × (into' ≡ into ++ before_form_feed old) × (new ≡ behind_form_feed old)
    × (length into' ≤ LIMIT)
Gives old new into into' (Err Full) = (into' ≡ into) × (new ≡ old)
    × (LIMIT < length into + length (before_form_feed old))
Gives old new into into' (Err Memory) = (into' ≡ into) × (new ≡ old)
Gives old new into into' (Err NoFile) = ⊥
Gives old new into into' (Err In) = ⊥
Gives old new into into' (Err Out) = ⊥

-- what the reading of more bytes did, where none were held
abbrev pub TopsUp : List ℕ → Telling → List ℕ → Telling → ℕ → ℕ → Result Bool Fault → Type 0
TopsUp old x new y f g (Ok true) = Shifts old x new y × (g ≡ f) × (0 < length new)
TopsUp old x new y f g (Ok false) = Shifts old x new y × (g ≡ f) × (new ≡ []) × NoneUnread x y
TopsUp old x new y f g (Err In) = Shifts old x new y × (f < g)
TopsUp old x new y f g (Err Full) = ⊥
TopsUp old x new y f g (Err Memory) = ⊥
TopsUp old x new y f g (Err NoFile) = ⊥
TopsUp old x new y f g (Err Out) = ⊥

-- What reading on to the end of a page did: read is what is read of the page, ahead what is read behind it.
abbrev pub EndsPage : List ℕ → Telling → List ℕ → List ℕ → Telling → ℕ → ℕ → Result Bool Fault → Type 0
EndsPage held old read ahead new f g (Ok true) = Shifts held old (read ++ FF ∷ ahead) new × (g ≡ f)
EndsPage held old read ahead new f g (Ok false) =
    Shifts held old read new × (ahead ≡ []) × NoneUnread old new × (g ≡ f)
EndsPage held old read ahead new f g (Err In) = Shifts held old (read ++ ahead) new × (f < g)
EndsPage held old read ahead new f g (Err Full) =
    Shifts held old (read ++ ahead) new × (g ≡ f) × (LIMIT < length read + length (before_form_feed ahead))
EndsPage held old read ahead new f g (Err Memory) = Shifts held old (read ++ ahead) new × (g ≡ f)
EndsPage held old read ahead new f g (Err NoFile) = ⊥
EndsPage held old read ahead new f g (Err Out) = ⊥
