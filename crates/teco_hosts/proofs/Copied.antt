-- What is unread, copied piece by piece.
use Rattle.teco_hosts.proofs.Prelude.{◌≡◌, ℕ, ◌<◌, List, [], ◌∷◌, ◌++◌, length, Bool, true, false, arith, Option, refl}
use Rattle.teco_hosts.proofs.Prelude.{sym, ap, subst, ◌∙◌, append_assoc, append-nil, Result, Ok, Err, Output}
use Rattle.teco_hosts.proofs.Prelude.{with_written, CopiesOn, HostFiles, Telling, Told, Becomes, Reads, Stays}
use Rattle.teco_hosts.proofs.Prelude.{NoneUnread, after_writing, Copies, WritesFront, Fault}
use Rattle.std.proofs.Common.{IsTrue}
use Rattle.teco_hosts.specs.Copying.{IsCopied}
use Rattle.teco_hosts.proofs.Told.{told-same, told-on, told-both}
use Rattle.teco_hosts.proofs.Written.{written-nil, written-written}

-- of the files themselves
abbrev On : List ℕ → List ℕ → HostFiles → HostFiles → Type 0
On old held files left = IsCopied (old ++ files.unread) held files left

abbrev Done : Result (Unit {0}) Fault → List ℕ → List ℕ → HostFiles → HostFiles → Type 0
Done result a h files left = Copies result (a ++ files.unread) (h ++ left.unread) files left

-- nothing is copied yet
pub copies-none : (a : List ℕ) (x : Telling) → CopiesOn a a x x
copies-none a = told-same (On a a) (λ f.
    record {
      front = [];
      whole = refl;
      written = ap (λ (o : Option Output). record f { output = o }) (written-nil f.output);
    })

-- what a write leaves
wrote : (f g l : HostFiles) (front part : List ℕ) → g ≡ record (after_writing front f) { unread = g.unread }
    → l ≡ after_writing part g → l ≡ record (after_writing (front ++ part) f) { unread = l.unread }
wrote f g l front part e h =
    let same : g.unread ≡ l.unread = sym (ap (λ (k : HostFiles). k.unread) h) in
    h ∙ ap (after_writing part) e
    ∙ ap (λ (o : Option Output). record f { output = o; unread = g.unread }) (written-written f.output front part)
    ∙ ap (λ u. record f { output = with_written (front ++ part) f.output; unread = u }) same

-- what is held is written
written-held : (a h : List ℕ) (x y z : Telling) → CopiesOn a h x y → Becomes (after_writing h) y z → CopiesOn a [] x z
written-held a h = told-on (On a h) (λ g l. l ≡ after_writing h g) (On a []) (λ f g l c w.
    record {
      front = c.front ++ h;
      whole = c.whole ∙ ap (λ u. c.front ++ (h ++ u)) (sym (ap (λ (k : HostFiles). k.unread) w))
          ∙ sym (append_assoc c.front h l.unread);
      written = wrote f g l c.front h c.written w;
    })

pub copies-written : (a h bytes : List ℕ) (x y z : Telling) → CopiesOn a h x y → bytes ≡ h
    → Becomes (after_writing bytes) y z → CopiesOn a [] x z
copies-written a h bytes x y z c e w = written-held a h x y z c (subst (λ l. Becomes (after_writing l) y z) e w)

-- what a read leaves
read-on : (f g l : HostFiles) (front : List ℕ) → g ≡ record (after_writing front f) { unread = g.unread }
    → l ≡ record g { unread = l.unread } → l ≡ record (after_writing front f) { unread = l.unread }
read-on f g l front e h = h ∙ ap (λ (k : HostFiles). record k { unread = l.unread }) e

-- more is read
pub copies-read : (a h : List ℕ) (x y z : Telling) → CopiesOn a [] x y → Reads h y z → CopiesOn a h x z
copies-read a h = told-on (On a []) (λ g l. (g.unread ≡ h ++ l.unread) × (l ≡ record g { unread = l.unread })) (On a h)
    (λ f g l c r.
    record {
      front = c.front;
      whole = c.whole ∙ ap (λ u. c.front ++ u) r.0;
      written = read-on f g l c.front c.written r.1;
    })

-- the end
pub copies-all : (a h : List ℕ) (x y z : Telling) → CopiesOn a [] x y → Reads h y z → h ≡ [] → NoneUnread y z
    → Told (Done (Ok tt) a h) x z
copies-all a h x y z c r e n =
    told-both (On a h) (λ f g. g.unread ≡ []) (Done (Ok tt) a h) (λ f g c n.
    let all : c.front ≡ a ++ f.unread =
    sym (append-nil c.front) ∙ ap (λ l. c.front ++ l) (sym (ap (λ k. k ++ g.unread) e ∙ n)) ∙ sym c.whole in
    c.written ∙ ap (λ l. record (after_writing l f) { unread = g.unread }) all) x z
    (copies-read a h x y z c r)
    (told-on (On a []) (λ g l. l.unread ≡ []) (λ f l. l.unread ≡ []) (λ f g l c n. n) x y z c n)

-- a fault in writing
cut-held : (a h : List ℕ) (e : Fault) (x y z : Telling) → CopiesOn a h x y → WritesFront h y z
    → Told (Done (Err e) a h) x z
cut-held a h e x y z c w = told-on (On a h) (λ g l. l ≡ after_writing w.front g) (Done (Err e) a h) (λ f g l c written.
    let same : g.unread ≡ l.unread = sym (ap (λ (k : HostFiles). k.unread) written) in
    let rest : a ++ f.unread ≡ c.front ++ (h ++ l.unread) = c.whole ∙ ap (λ u. c.front ++ (h ++ u)) same in
    record {
      front = c.front ++ w.front;
      unwritten = w.left ++ l.unread;
      read = c.front;
      whole = rest ∙ ap (λ u. c.front ++ (u ++ l.unread)) w.whole
          ∙ ap (λ u. c.front ++ u) (append_assoc w.front w.left l.unread)
          ∙ sym (append_assoc c.front w.front (w.left ++ l.unread));
      suffix = rest;
      written = wrote f g l c.front w.front c.written written;
    }) x y z c w.written

pub copies-cut : (a h bytes : List ℕ) (e : Fault) (x y z : Telling) → CopiesOn a h x y → bytes ≡ h
    → WritesFront bytes y z → Told (Done (Err e) a h) x z
copies-cut a h bytes e x y z c q w = cut-held a h e x y z c (subst (λ l. WritesFront l y z) q w)

-- bytes were read
pub some-read : (l : List ℕ) (b : Bool) → b ≡ false → (l ≡ [] → IsTrue b) → 0 < length l
some-read [] true e n = cc
some-read [] false e n = let no = n refl in cc
some-read (x ∷ l) b e n = omega arith

-- a fault in reading
pub copies-stopped : (a h : List ℕ) (e : Fault) (x y z : Telling) → CopiesOn a [] x y → h ≡ [] → Stays y z
    → Told (Done (Err e) a h) x z
copies-stopped a h e x y z c n = told-on (On a []) (λ g l. l ≡ g) (Done (Err e) a h) (λ f g l c s.
    let same : g.unread ≡ l.unread = sym (ap (λ (k : HostFiles). k.unread) s) in
    let rest : a ++ f.unread ≡ c.front ++ l.unread = c.whole ∙ ap (λ u. c.front ++ u) same in
    record {
      front = c.front;
      unwritten = l.unread;
      read = c.front;
      whole = rest;
      suffix = rest ∙ ap (λ k. c.front ++ (k ++ l.unread)) (sym n);
      written = s ∙ c.written ∙ ap (λ u. record (after_writing c.front f) { unread = u }) same;
    }) x y z c
