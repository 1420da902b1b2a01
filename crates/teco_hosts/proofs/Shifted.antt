-- What is held and what is unread is together what it was, over reads in turn.
use Rattle.teco_hosts.proofs.Prelude.{◌≡◌, ℕ, List, ◌++◌, refl, sym, ap, subst, ◌∙◌, append_assoc, HostFiles, Telling}
use Rattle.teco_hosts.proofs.Prelude.{Shifts}
use Rattle.teco_hosts.proofs.Told.{told-same, told-map, told-on}

-- of the files themselves
abbrev pub Shift : List ℕ → List ℕ → HostFiles → HostFiles → Type 0
Shift held held' files left = (held ++ files.unread ≡ held' ++ left.unread)
    × (left ≡ record files { unread = left.unread })

pub shifts-refl : (p : List ℕ) (x : Telling) → Shifts p x p x
shifts-refl p = told-same (Shift p p) (λ f. (refl, refl))

pub shifts-trans : (p q r : List ℕ) (x y z : Telling) → Shifts p x q y → Shifts q y r z → Shifts p x r z
shifts-trans p q r = told-on (Shift p q) (Shift q r) (Shift p r)
    (λ f g l h k. (h.0 ∙ k.0, k.1 ∙ ap (λ (k : HostFiles). record k { unread = l.unread }) h.1))

pub shifts-as : (p q r : List ℕ) (x y : Telling) → Shifts p x q y → q ≡ r → Shifts p x r y
shifts-as p q r x y h e = subst (λ l. Shifts p x l y) e h

-- behind what is held already
pub shifts-front : (p q r : List ℕ) (x y : Telling) → Shifts q x r y → Shifts (p ++ q) x (p ++ r) y
shifts-front p q r = told-map (Shift q r) (Shift (p ++ q) (p ++ r))
    (λ f g h. (append_assoc p q f.unread ∙ ap (λ l. p ++ l) h.0 ∙ sym (append_assoc p r g.unread), h.1))

pub shifts-on : (a i h h' : List ℕ) (x y z : Telling) → Shifts a x (i ++ h) y → Shifts h y h' z → Shifts a x (i ++ h') z
shifts-on a i h h' x y z s t = shifts-trans a (i ++ h) (i ++ h') x y z s (shifts-front i h h' y z t)
