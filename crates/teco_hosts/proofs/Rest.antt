-- All that is unread, written from what is held on.
use Rattle.teco_hosts.proofs.Prelude.{◌≡◌, ℕ, List, [], ◌∷◌, ◌++◌, Bool, true, false, Option, Some, None, sym, ap, ◌∙◌}
use Rattle.teco_hosts.proofs.Prelude.{append_assoc, append-nil, Result, Ok, Err, FF, Output, Held, unread_bytes}
use Rattle.teco_hosts.proofs.Prelude.{page_in, behind_page_in, behind_held, written_if_any, HostFiles, Telling, Told}
use Rattle.teco_hosts.proofs.Prelude.{Becomes, after_writing, Copies, WritesFront, Fault}
use Rattle.std.proofs.Common.{if◌then◌else◌}
use Rattle.std.specs.Prelude.{unwrap_or}
use Rattle.teco_hosts.specs.PageCalls.{CopiesRest}
use Rattle.teco_hosts.proofs.Told.{told-map, told-on}
use Rattle.teco_hosts.proofs.Written.{written-written}

-- what is held is the page with its form feed, if it has one, and what is ahead
pub held-parts : (p : List ℕ) (r : Option Bool) (a q e : List ℕ) (b : Bool) → q ≡ p → b ≡ unwrap_or r false
    → e ≡ (if b then FF ∷ [] else []) → written_if_any (page_in p r) ++ behind_page_in p r a ≡ (q ++ e) ++ a
held-parts p None a q e b h k m =
    sym (ap (λ l. (l ++ e) ++ a) h ∙ ap (λ l. (p ++ l) ++ a) (m ∙ ap (λ t. if t then FF ∷ [] else []) k)
    ∙ ap (λ l. l ++ a) (append-nil p))
held-parts p (Some ff) a q e b h k m =
    sym (ap (λ l. (l ++ e) ++ a) h ∙ ap (λ l. (p ++ l) ++ a) (m ∙ ap (λ t. if t then FF ∷ [] else []) k))

-- the host's input stays where it was
kept : (f g : HostFiles) (bytes : List ℕ) → g ≡ after_writing bytes f
    → g ≡ record (after_writing bytes f) { unread = g.unread }
kept f g bytes h = h ∙ ap (λ u. record (after_writing bytes f) { unread = u })
    (sym (ap (λ (k : HostFiles). k.unread) h))

-- Below k is what the parts show, and part what is held before a.

-- a fault while that is written
pub rest-cut : (k : Held) (part a : List ℕ) (e : Fault) (x y : Telling) → written_if_any k.ready ++ k.ahead ≡ part ++ a
    → WritesFront part x y → Told (CopiesRest (Err e) k k) x y
rest-cut k part a e x y h w = told-map (λ f g. g ≡ after_writing w.front f) (CopiesRest (Err e) k k) (λ f g written.
    let b = behind_held k.end f.unread in
    record {
      front = w.front;
      unwritten = (w.left ++ a) ++ b;
      read = [];
      whole = ap (λ l. l ++ b) (h ∙ ap (λ l. l ++ a) w.whole ∙ append_assoc w.front w.left a)
          ∙ append_assoc w.front (w.left ++ a) b;
      suffix = ap (λ u. (written_if_any k.ready ++ k.ahead) ++ behind_held k.end u)
          (sym (ap (λ (j : HostFiles). j.unread) written));
      written = kept f g w.front written;
    }) x y w.written

-- nothing is behind what is held
pub rest-end : (k new : Held) (part a : List ℕ) (x y : Telling) → written_if_any k.ready ++ k.ahead ≡ part ++ a
    → k.end ≡ true → a ≡ [] → Becomes (after_writing part) x y → Told (CopiesRest (Ok tt) k new) x y
rest-end k new part a x y h t n = told-map (λ f g. g ≡ after_writing part f) (CopiesRest (Ok tt) k new) (λ f g w.
    let all : unread_bytes k f ≡ part = ap (λ d. (written_if_any k.ready ++ k.ahead) ++ behind_held d f.unread) t
    ∙ append-nil (written_if_any k.ready ++ k.ahead) ∙ h ∙ ap (λ l. part ++ l) n ∙ append-nil part in
    kept f g part w ∙ ap (λ l. record (after_writing l f) { unread = g.unread }) (sym all)) x y

-- what was unread before part was written
more : (k : Held) (part a : List ℕ) (f g : HostFiles) → written_if_any k.ready ++ k.ahead ≡ part ++ a → k.end ≡ false
    → g ≡ after_writing part f → unread_bytes k f ≡ part ++ (a ++ g.unread)
more k part a f g h t w =
    ap (λ d. (written_if_any k.ready ++ k.ahead) ++ behind_held d f.unread) t ∙ ap (λ l. l ++ f.unread) h
    ∙ append_assoc part a f.unread
    ∙ ap (λ u. part ++ (a ++ u)) (sym (ap (λ (j : HostFiles). j.unread) w))

-- two writes in turn
twice : (f g l : HostFiles) (part next : List ℕ) → g ≡ after_writing part f
    → l ≡ record (after_writing next g) { unread = l.unread }
    → l ≡ record (after_writing (part ++ next) f) { unread = l.unread }
twice f g l part next w c =
    c ∙ ap (λ (j : HostFiles). record (after_writing next j) { unread = l.unread }) w
    ∙ ap (λ (o : Option Output). record f { output = o; unread = l.unread }) (written-written f.output part next)

copied-on : (k new : Held) (part a a' : List ℕ) (r : Result (Unit {0}) Fault) (f g l : HostFiles)
    → written_if_any k.ready ++ k.ahead ≡ part ++ a → k.end ≡ false → unread_bytes new l ≡ a' ++ l.unread
    → g ≡ after_writing part f → Copies r (a ++ g.unread) (a' ++ l.unread) g l → CopiesRest r k new f l
copied-on k new part a a' (Ok u) f g l h t n w c =
    twice f g l part (a ++ g.unread) w c ∙ ap (λ b. record (after_writing b f) { unread = l.unread })
    (sym (more k part a f g h t w))
copied-on k new part a a' (Err e) f g l h t n w c =
    let all = more k part a f g h t w in
    record {
      front = part ++ c.front;
      unwritten = c.unwritten;
      read = part ++ c.read;
      whole = all ∙ ap (λ u. part ++ u) c.whole ∙ sym (append_assoc part c.front c.unwritten);
      suffix = all ∙ ap (λ u. part ++ u) c.suffix ∙ sym (append_assoc part c.read (a' ++ l.unread))
          ∙ ap (λ u. (part ++ c.read) ++ u) (sym n);
      written = twice f g l part c.front w c.written;
    }

-- the host has more
pub rest-copied : (k new : Held) (part a a' : List ℕ) (r : Result (Unit {0}) Fault) (x y z : Telling)
    → written_if_any k.ready ++ k.ahead ≡ part ++ a → k.end ≡ false
    → ((l : HostFiles) → unread_bytes new l ≡ a' ++ l.unread) → Becomes (after_writing part) x y
    → Told (λ files left. Copies r (a ++ files.unread) (a' ++ left.unread) files left) y z
    → Told (CopiesRest r k new) x z
rest-copied k new part a a' r x y z h t n =
    told-on (λ f g. g ≡ after_writing part f) (λ g l. Copies r (a ++ g.unread) (a' ++ l.unread) g l)
    (CopiesRest r k new)
    (λ f g l w c. copied-on k new part a a' r f g l h t (n l) w c) x y z

-- the host had more, and all of it is written
pub rest-all : (k new : Held) (part a a' : List ℕ) (x y z : Telling) → written_if_any k.ready ++ k.ahead ≡ part ++ a
    → k.end ≡ false → Becomes (after_writing part) x y
    → Told (λ files left. Copies (Ok tt) (a ++ files.unread) (a' ++ left.unread) files left) y z
    → Told (CopiesRest (Ok tt) k new) x z
rest-all k new part a a' x y z h t =
    told-on (λ f g. g ≡ after_writing part f) (λ g l. Copies (Ok tt) (a ++ g.unread) (a' ++ l.unread) g l)
    (CopiesRest (Ok tt) k new)
    (λ f g l w c. twice f g l part (a ++ g.unread) w c ∙ ap (λ b. record (after_writing b f) { unread = l.unread })
    (sym (more k part a f g h t w))) x y z
