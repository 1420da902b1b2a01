-- Reading on to the end of a page.
use Rattle.teco_hosts.proofs.Prelude.{◌≡◌, ℕ, ◌+◌, ◌<◌, List, [], ◌∷◌, ◌++◌, length, Bool, true, false, subst, sym, ap}
use Rattle.teco_hosts.proofs.Prelude.{◌∙◌, append_assoc, length-append, append-nil, Ok, Err, FF, before_form_feed}
use Rattle.teco_hosts.proofs.Prelude.{has_form_feed, behind_form_feed, Telling, EndsPage, Shifts, Fault, NoFile, In}
use Rattle.teco_hosts.proofs.Prelude.{Out, Full, Memory}
use Rattle.teco_hosts.specs.Reading.{Gives, TopsUp}
use Rattle.teco_hosts.proofs.Cuts.{onward, plain, whole-ff, whole-none}
use Rattle.teco_hosts.proofs.Shifted.{Shift, shifts-on, shifts-as}
use Rattle.teco_hosts.proofs.Told.{told-on}

-- i is what was read of the page before, h1 what is ahead now: the page ends in it
pub page-ended : (a i h h1 n i' : List ℕ) (x y z : Telling) (ff : Bool) → Shifts a x (i ++ h) y → Shifts h y h1 z
    → has_form_feed i ≡ false → ff ≡ true → ff ≡ has_form_feed h1 → i' ≡ i ++ before_form_feed h1
    → n ≡ behind_form_feed h1 → Shifts a x (i' ++ FF ∷ n) z × (has_form_feed i' ≡ false)
page-ended a i h h1 n i' x y z ff s t p e f g k =
    let whole : h1 ≡ before_form_feed h1 ++ FF ∷ behind_form_feed h1 = whole-ff h1 (sym f ∙ e) in
    let same : i ++ h1 ≡ i' ++ FF ∷ n =
    ap (λ l. i ++ l) whole ∙ sym (append_assoc i (before_form_feed h1) (FF ∷ behind_form_feed h1))
    ∙ ap (λ l. l ++ FF ∷ behind_form_feed h1) (sym g) ∙ ap (λ l. i' ++ FF ∷ l) (sym k) in (
      shifts-as a (i ++ h1) (i' ++ FF ∷ n) x z (shifts-on a i h h1 x y z s t) same,
      ap has_form_feed g ∙ (onward i (before_form_feed h1) p).ff ∙ plain h1,
    )

-- the page goes on behind it
pub page-on : (a i h h1 n i' : List ℕ) (x y z : Telling) (ff : Bool) → Shifts a x (i ++ h) y → Shifts h y h1 z
    → has_form_feed i ≡ false → ff ≡ false → ff ≡ has_form_feed h1 → i' ≡ i ++ before_form_feed h1
    → n ≡ behind_form_feed h1 → Shifts a x (i' ++ n) z × (has_form_feed i' ≡ false) × (length i' ≡ length i + length h1)
page-on a i h h1 n i' x y z ff s t p e f g k =
    let w = whole-none h1 (sym f ∙ e) in
    let same : i ++ h1 ≡ i' ++ n = ap (λ l. i ++ l) (sym w.0) ∙ sym g ∙ sym (append-nil i')
    ∙ ap (λ l. i' ++ l) (sym (k ∙ w.1)) in (
      shifts-as a (i ++ h1) (i' ++ n) x z (shifts-on a i h h1 x y z s t) same,
      ap has_form_feed g ∙ (onward i (before_form_feed h1) p).ff ∙ plain h1,
      ap length g ∙ length-append i (before_form_feed h1) ∙ ap (λ l. length i + length l) w.0,
    )

-- bytes are there
pub topped : (old : List ℕ) (x : Telling) (new : List ℕ) (y : Telling) (f g : ℕ) (b : Bool) → b ≡ true
    → TopsUp old x new y f g (Ok b) → Shifts old x new y × (g ≡ f) × (0 < length new)
topped old x new y f g true e t = t
topped old x new y f g false e t = cc

-- nothing is left unread of what was read on
pub ends-last : (held read old new : List ℕ) (x y z : Telling) (f m g : ℕ) (b : Bool) → b ≡ false
    → Shifts held x (read ++ old) y → m ≡ f → TopsUp old y new z m g (Ok b) → EndsPage held x read new z f g (Ok false)
ends-last held read old new x y z f m g true e s is t = cc
ends-last held read old new x y z f m g false e s is t =
    let on = shifts-on held read old new x y z s t.0 in (
      shifts-as held (read ++ new) read x z on (ap (λ l. read ++ l) t.2 ∙ append-nil read),
      t.2,
      told-on (Shift held (read ++ old)) (λ g l. l.unread ≡ []) (λ f l. l.unread ≡ []) (λ f g l s n. n) x y z s t.3,
      t.1 ∙ is,
    )

-- more could not be read
pub ends-stopped : (held read old new : List ℕ) (x y z : Telling) (f m g : ℕ) (fault : Fault)
    → Shifts held x (read ++ old) y → m ≡ f → TopsUp old y new z m g (Err fault)
    → EndsPage held x read new z f g (Err fault)
ends-stopped held read old new x y z f m g In s is t =
    (shifts-on held read old new x y z s t.0, subst (λ k. k < g) is t.1)
ends-stopped held read old new x y z f m g Full s is t = absurd t
ends-stopped held read old new x y z f m g Memory s is t = absurd t
ends-stopped held read old new x y z f m g NoFile s is t = absurd t
ends-stopped held read old new x y z f m g Out s is t = absurd t

-- what was read could not be given to the page
pub ends-kept : (held read old mid new read' : List ℕ) (x y z : Telling) (f m g : ℕ) (b : Bool) (fault : Fault)
    → b ≡ true → Shifts held x (read ++ old) y → m ≡ f → TopsUp old y mid z m g (Ok b)
    → Gives mid new read read' (Err fault) → EndsPage held x read' new z f g (Err fault)
ends-kept held read old mid new read' x y z f m g false fault e s is t give = cc
ends-kept held read old mid new read' x y z f m g true Full e s is t give =
    rw (give.0, give.1) (shifts-on held read old mid x y z s t.0, t.1 ∙ is, give.2)
ends-kept held read old mid new read' x y z f m g true Memory e s is t give =
    rw (give.0, give.1) (shifts-on held read old mid x y z s t.0, t.1 ∙ is)
ends-kept held read old mid new read' x y z f m g true In e s is t give = absurd give
ends-kept held read old mid new read' x y z f m g true NoFile e s is t give = absurd give
ends-kept held read old mid new read' x y z f m g true Out e s is t give = absurd give
