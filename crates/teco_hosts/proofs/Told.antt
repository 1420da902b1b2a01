-- Relations of files, over calls in turn; and when the files of an editor stay.
use Rattle.teco_hosts.proofs.Prelude.{◌≡◌, ℕ, List, [], ◌∷◌, ◌++◌, Option, refl, sym, ap, subst, ◌∙◌, append_assoc}
use Rattle.teco_hosts.proofs.Prelude.{append-nil, Input, Event, Happened, Held, unread_bytes, files_of, HostFiles}
use Rattle.teco_hosts.proofs.Prelude.{AreOfBytes, Telling, Tells, Notes, Told}
use Rattle.std.proofs.lemmas.List.{append_cancel_left}
use Rattle.std.specs.Prelude.{option_map}
use Rattle.teco_model.specs.Files.{Files}
use Rattle.teco_hosts.proofs.Bytes.{both_of_bytes, whole_behind}
use Rattle.teco_hosts.specs.PageCalls.{OnlyReads}

-- of a host that was not called
pub told-same : (R : HostFiles → HostFiles → Type 0) → ((f : HostFiles) → R f f) → (x : Telling) → Told R x x
told-same R r (Tells f) = λ w. (r f, w)
told-same R r (Notes a) = record {
  meanwhile = [];
  noted = sym (append-nil a);
  bytes = tt;
  holds = λ f g w h. subst (λ k. R f k) (sym h) (r f);
}

-- what follows of a relation of files of bytes
pub told-whole : (R S : HostFiles → HostFiles → Type 0)
    → ((f g : HostFiles) → AreOfBytes f → AreOfBytes g → R f g → S f g) → (x y : Telling) → Told R x y → Told S x y
told-whole R S s (Tells f) (Tells g) r = λ w. let k = r w in (s f g w k.1 k.0, k.1)
told-whole R S s (Tells f) (Notes b) r = absurd r
told-whole R S s (Notes a) (Tells g) r = absurd r
told-whole R S s (Notes a) (Notes b) r = record {
  meanwhile = r.meanwhile;
  noted = r.noted;
  bytes = r.bytes;
  holds = λ f g w h. s f g w (whole_behind r.meanwhile f g r.bytes h w) (r.holds f g w h);
}

-- what follows of a relation
pub told-map : (R S : HostFiles → HostFiles → Type 0) → ((f g : HostFiles) → R f g → S f g) → (x y : Telling)
    → Told R x y → Told S x y
told-map R S s x y r = told-whole R S (λ f g w v. s f g) x y r

-- nothing was noted where as much is noted before and after
none-noted : (a m : List Event) → a ≡ a ++ m → m ≡ []
none-noted a m same = append_cancel_left a m [] (sym same ∙ sym (append-nil a))

-- files stay where a host was not called
pub told-still : (R : HostFiles → HostFiles → Type 0) (x : Telling) → Told R x x
    → Told (λ files left. R files left × (left ≡ files)) x x
told-still R (Tells files) t = λ w. (((t w).0, refl), w)
told-still R (Notes a) t = record {
  meanwhile = t.meanwhile;
  noted = t.noted;
  bytes = t.bytes;
  holds = λ files left w h. (
    t.holds files left w h,
    subst (λ m. Happened m files left) (none-noted a t.meanwhile t.noted) h,
  );
}

-- the files between some events and others
between : (a b : List Event) (f h : HostFiles) → Happened (a ++ b) f h → (g : HostFiles) × Happened a f g
    × Happened b g h
between [] b f h p = (f, refl, p)
between (e ∷ a) b f h p =
    let q = between a b p.0 h p.2 in
    (q.0, (p.0, p.1, q.1), q.2)

-- one call, and then another
pub told-on : (R S T : HostFiles → HostFiles → Type 0) → ((f g h : HostFiles) → R f g → S g h → T f h)
    → (x y z : Telling) → Told R x y → Told S y z → Told T x z
told-on R S T t (Tells f) (Tells g) (Tells h) r s = λ w. let k = r w in let l = s k.1 in (t f g h k.0 l.0, l.1)
told-on R S T t (Tells f) (Tells g) (Notes c) r s = absurd s
told-on R S T t (Tells f) (Notes b) z r s = absurd r
told-on R S T t (Notes a) (Tells g) z r s = absurd r
told-on R S T t (Notes a) (Notes b) (Tells h) r s = absurd s
told-on R S T t (Notes a) (Notes b) (Notes c) r s = record {
  meanwhile = r.meanwhile ++ s.meanwhile;
  noted = s.noted ∙ ap (λ l. l ++ s.meanwhile) r.noted ∙ append_assoc a r.meanwhile s.meanwhile;
  bytes = both_of_bytes r.meanwhile s.meanwhile r.bytes s.bytes;
  holds = λ f h w p.
      let q = between r.meanwhile s.meanwhile f h p in
      t f q.0 h (r.holds f q.0 w q.1) (s.holds q.0 h (whole_behind r.meanwhile f q.0 r.bytes q.1 w) q.2);
}

-- two relations of the same calls
pub told-both : (R S T : HostFiles → HostFiles → Type 0) → ((f g : HostFiles) → R f g → S f g → T f g) → (x y : Telling)
    → Told R x y → Told S x y → Told T x y
told-both R S T t (Tells f) (Tells g) r s = λ w. let k = r w in (t f g k.0 (s w).0, k.1)
told-both R S T t (Tells f) (Notes b) r s = absurd r
told-both R S T t (Notes a) (Tells g) r s = absurd r
told-both R S T t (Notes a) (Notes b) r s =
    let same : r.meanwhile ≡ s.meanwhile = append_cancel_left a r.meanwhile s.meanwhile (sym r.noted ∙ s.noted) in
    record {
      meanwhile = r.meanwhile;
      noted = r.noted;
      bytes = r.bytes;
      holds = λ f g w h. t f g (r.holds f g w h) (s.holds f g w (subst (λ l. Happened l f g) same h));
    }

-- where it was only read, and nothing that is unread is lost
pub same-files : (old new : Held) (f g : HostFiles) → new.input ≡ old.input → unread_bytes new g ≡ unread_bytes old f
    → OnlyReads f g → files_of new g ≡ files_of old f
same-files old new f g i u o =
    let input : List ℕ → Option (List ℕ) → Option Input =
    λ bytes. option_map (λ name. record { name = name; unread = bytes }) in
    let seen : HostFiles → Option Input → Files =
    λ files read. record { named = files.named; input = read; output = files.output } in
    ap (λ name. seen g (input (unread_bytes new g) name)) i ∙ ap (λ bytes. seen g (input bytes old.input)) u
    ∙ ap (λ files. seen files (input (unread_bytes old f) old.input)) o
