-- The page that is ready is the first of what is unread.
use Rattle.teco_hosts.proofs.Prelude.{◌≡◌, ℕ, ◌+◌, ◌<◌, ◌≤◌, List, [], ◌∷◌, ◌++◌, length, Bool, true, false, not}
use Rattle.teco_hosts.proofs.Prelude.{Option, Some, None, ◌==◌, refl, sym, ap, subst, ◌∙◌, append_assoc, length-append}
use Rattle.teco_hosts.proofs.Prelude.{arith, append-nil, Result, Ok, Err, is_some, LIMIT, FF, Page, before_form_feed}
use Rattle.teco_hosts.proofs.Prelude.{has_form_feed, behind_form_feed, HostFiles, Telling, Told, NoneUnread, Held}
use Rattle.teco_hosts.proofs.Prelude.{unread_bytes, page_in, behind_page_in, behind_held, EndsPage, Shifts, Fault}
use Rattle.teco_hosts.proofs.Prelude.{NoFile, In, Out, Full, Memory}
use Rattle.std.specs.Prelude.{IsSome}
use Rattle.teco_model.specs.Pages.{first_page}
use Rattle.teco_hosts.specs.Held.{IsWhole}
use Rattle.teco_hosts.specs.PageCalls.{MakesReady, IsFirstPage}
use Rattle.teco_hosts.proofs.Told.{told-same, told-map, told-both}
use Rattle.teco_hosts.proofs.Cuts.{onward, whole-none}
use Rattle.teco_hosts.proofs.Shifted.{Shift}

-- what is held, by its parts
abbrev pub held : Option (List ℕ) → List ℕ → Option Bool → List ℕ → Bool → Option (List ℕ) → Held
held input text ready ahead end output = record {
  input = input;
  ready = page_in text ready;
  ahead = behind_page_in text ready ahead;
  end = end;
  output = output;
}

-- the first page, where it is known
first-ff : (p l : List ℕ) → has_form_feed p ≡ false
    → ◌≡◌ {A = Page} (record { text = p; ff = true }) (first_page (p ++ FF ∷ l))
first-ff p l h = ap (λ b. record { text = b; ff = true }) (sym ((onward p (FF ∷ l) h).paged ∙ append-nil p))
    ∙ ap (λ f. record { text = before_form_feed (p ++ FF ∷ l); ff = f }) (sym (onward p (FF ∷ l) h).ff)

first-none : (p : List ℕ) → has_form_feed p ≡ false → ◌≡◌ {A = Page} (record { text = p; ff = false }) (first_page p)
first-none p h = ap (λ b. record { text = b; ff = false }) (sym (whole-none p h).0)
    ∙ ap (λ f. record { text = before_form_feed p; ff = f }) (sym h)

-- what is unread, with a page that is ready
ended-known : (p a l : List ℕ) → ((p ++ FF ∷ []) ++ a) ++ l ≡ p ++ FF ∷ (a ++ l)
ended-known p a l = append_assoc (p ++ FF ∷ []) a l ∙ append_assoc p (FF ∷ []) (a ++ l)

last-known : (p a l : List ℕ) → a ≡ [] → l ≡ [] → ((p ++ []) ++ a) ++ l ≡ p
last-known p a l e k = ap (λ m. ((p ++ []) ++ a) ++ m) k ∙ append-nil ((p ++ []) ++ a) ∙ ap (λ m. (p ++ []) ++ m) e
    ∙ append-nil (p ++ []) ∙ append-nil p

behind-end : (end : Bool) (l : List ℕ) → end ≡ true → behind_held end l ≡ []
behind-end true l h = refl
behind-end false l h = cc

-- it is ready already
first-held : (i : Option (List ℕ)) (p : List ℕ) (ff : Bool) (a : List ℕ) (end : Bool) (o : Option (List ℕ))
    → IsWhole i p (Some ff) a end → (f : HostFiles)
    → ◌≡◌ {A = Option Page} (Some (record { text = p; ff = ff }))
    (Some (first_page (unread_bytes (held i p (Some ff) a end o) f)))
first-held i p true a end o w f =
    ap Some (first-ff p (a ++ behind_held end f.unread) w.plain
    ∙ ap first_page (sym (ended-known p a (behind_held end f.unread))))
first-held i p false a end o w f =
    ap Some (first-none p w.plain ∙ ap first_page
    (sym (last-known p a (behind_held end f.unread) (w.none (w.last refl))
    (behind-end end f.unread (w.last refl)))))

pub ready-now : (i : Option (List ℕ)) (p : List ℕ) (ff : Bool) (a : List ℕ) (end : Bool) (o : Option (List ℕ))
    (x : Telling) → IsWhole i p (Some ff) a end
    → Told (MakesReady (Ok tt) (held i p (Some ff) a end o) (held i p (Some ff) a end o)) x x
ready-now i p ff a end o x w = told-same _ (λ f. record {
  page = first-held i p ff a end o w f;
  unread = refl;
  only = refl;
}) x

-- nothing is behind what was read of it
pub ready-end : (i : Option (List ℕ)) (p : List ℕ) (a : List ℕ) (o : Option (List ℕ)) (x : Telling)
    → IsWhole i p None a true → Told (MakesReady (Ok tt) (held i p None a true o) (held i p (Some false) a true o)) x x
ready-end i p a o x w =
    let none : a ≡ [] = w.none refl in
    let old : (p ++ a) ++ [] ≡ p = append-nil (p ++ a) ∙ ap (λ l. p ++ l) none ∙ append-nil p in
    told-same _ (λ f. record {
      page = ap Some (first-none p w.plain ∙ ap first_page (sym old));
      unread = last-known p a [] none refl ∙ sym old;
      only = refl;
    }) x

-- from reads in turn: q was held of what was unread, and q' is
made : (r : Result (Unit {0}) Fault) (old new : Held) (q q' : List ℕ) (x y : Telling)
    → ((f : HostFiles) → unread_bytes old f ≡ q ++ f.unread) → ((f : HostFiles) → unread_bytes new f ≡ q' ++ f.unread)
    → ((f g : HostFiles) → q ++ f.unread ≡ q' ++ g.unread → IsFirstPage r new (unread_bytes old f)) → Shifts q x q' y
    → Told (MakesReady r old new) x y
made r old new q q' x y o n p =
    told-map (Shift q q') (MakesReady r old new)
    (λ f g s. record { page = p f g s.0; unread = n g ∙ sym s.0 ∙ sym (o f); only = s.1 }) x y

page-grows-cons : (b : ℕ) (xs l : List ℕ) (t : Bool) → (b == FF) ≡ t
    → length (before_form_feed xs) ≤ length (before_form_feed (xs ++ l))
    → length (before_form_feed (b ∷ xs)) ≤ length (before_form_feed (b ∷ (xs ++ l)))
page-grows-cons b xs l true e h = rw e (omega arith)
page-grows-cons b xs l false e h = rw e (omega (arith, h))

page-grows : (xs l : List ℕ) → length (before_form_feed xs) ≤ length (before_form_feed (xs ++ l))
page-grows [] l = omega arith
page-grows (b ∷ xs) l = page-grows-cons b xs l (b == FF) refl (page-grows xs l)

too-long : (q read a l : List ℕ) → q ≡ (read ++ a) ++ l → has_form_feed read ≡ false
    → LIMIT < length read + length (before_form_feed a) → LIMIT < length (before_form_feed q)
too-long q read a l e h m =
    let paged : length (before_form_feed q) ≡ length read + length (before_form_feed (a ++ l)) =
    ap (λ k. length (before_form_feed k)) (e ∙ append_assoc read a l) ∙ ap length (onward read (a ++ l) h).paged
    ∙ length-append read (before_form_feed (a ++ l)) in
    omega (arith, paged, m, page-grows a l)

-- the page could not be read to its end
pub refused : (i : Option (List ℕ)) (p a0 : List ℕ) (o : Option (List ℕ)) (read a : List ℕ) (x y : Telling) (f g : ℕ)
    (fault : Fault) → EndsPage (p ++ a0) x read a y f g (Err fault) → has_form_feed read ≡ false
    → Told (MakesReady (Err fault) (held i p None a0 false o) (held i read None a false o)) x y
refused i p a0 o read a x y f g In s h = made _ _ _ (p ++ a0) (read ++ a) x y (λ f. refl) (λ f. refl) (λ f g e. tt) s.0
refused i p a0 o read a x y f g Memory s h =
    made _ _ _ (p ++ a0) (read ++ a) x y (λ f. refl) (λ f. refl) (λ f g e. tt) s.0
refused i p a0 o read a x y f g Full s h =
    made _ _ _ (p ++ a0) (read ++ a) x y (λ f. refl) (λ f. refl)
    (λ f g e. too-long ((p ++ a0) ++ f.unread) read a g.unread e h s.2) s.0
refused i p a0 o read a x y f g NoFile s h = absurd s
refused i p a0 o read a x y f g Out s h = absurd s

-- it was read to its end
ended : (i : Option (List ℕ)) (p a0 : List ℕ) (o : Option (List ℕ)) (read a : List ℕ) (x y : Telling)
    → Shifts (p ++ a0) x (read ++ FF ∷ a) y → has_form_feed read ≡ false
    → Told (MakesReady (Ok tt) (held i p None a0 false o) (held i read (Some true) a false o)) x y
ended i p a0 o read a x y s h =
    made _ _ _ (p ++ a0) (read ++ FF ∷ a) x y (λ f. refl) (λ f. ap (λ l. l ++ f.unread) (append_assoc read (FF ∷ []) a))
    (λ f g e. ap Some (first-ff read (a ++ g.unread) h ∙ ap first_page (sym (e ∙ append_assoc read (FF ∷ a) g.unread))))
    s

last : (i : Option (List ℕ)) (p a0 : List ℕ) (o : Option (List ℕ)) (read a : List ℕ) (x y : Telling)
    → Shifts (p ++ a0) x read y → a ≡ [] → NoneUnread x y → has_form_feed read ≡ false
    → Told (MakesReady (Ok tt) (held i p None a0 false o) (held i read (Some false) a true o)) x y
last i p a0 o read a x y s e n h =
    told-both (Shift (p ++ a0) read) (λ f g. g.unread ≡ [])
    (MakesReady (Ok tt) (held i p None a0 false o) (held i read (Some false) a true o)) (λ f g s n.
    let all : (p ++ a0) ++ f.unread ≡ read = s.0 ∙ ap (λ l. read ++ l) n ∙ append-nil read in
    record {
      page = ap Some (first-none read h ∙ ap first_page (sym all));
      unread = last-known read a [] e refl
          ∙ sym all;
      only = s.1;
    }) x y s n

pub readied : (i : Option (List ℕ)) (p a0 : List ℕ) (o : Option (List ℕ)) (read a : List ℕ) (x y : Telling) (f g : ℕ)
    (ff : Bool) → EndsPage (p ++ a0) x read a y f g (Ok ff) → has_form_feed read ≡ false
    → Told (MakesReady (Ok tt) (held i p None a0 false o) (held i read (Some ff) a (not ff) o)) x y
readied i p a0 o read a x y f g true s h = ended i p a0 o read a x y s.0 h
readied i p a0 o read a x y f g false s h = last i p a0 o read a x y s.0 s.1 s.2 h

-- what is unread once the page is accepted
pub accepted : (i : Option (List ℕ)) (p : List ℕ) (ff : Bool) (a : List ℕ) (end : Bool) (o : Option (List ℕ))
    (cleared : List ℕ) → cleared ≡ [] → IsWhole i p (Some ff) a end → (f : HostFiles)
    → unread_bytes (held i cleared None a end o) f ≡ behind_form_feed (unread_bytes (held i p (Some ff) a end o) f)
accepted i p true a end o cleared e w f =
    ap (λ l. (l ++ a) ++ behind_held end f.unread) e
    ∙ sym (ap behind_form_feed (ended-known p a (behind_held end f.unread))
    ∙ (onward p (FF ∷ (a ++ behind_held end f.unread)) w.plain).left)
accepted i p false a end o cleared e w f =
    let none : a ≡ [] = w.none (w.last refl) in
    let off : behind_held end f.unread ≡ [] = behind-end end f.unread (w.last refl) in
    let new : (cleared ++ a) ++ behind_held end f.unread ≡ [] = ap (λ l. (l ++ a) ++ behind_held end f.unread) e
    ∙ ap (λ l. l ++ behind_held end f.unread) none ∙ off in
    new ∙ sym (ap behind_form_feed (last-known p a (behind_held end f.unread) none off) ∙ (whole-none p w.plain).1)

-- The same of what is seen of a value: k is what its parts show.
pub ready-some : (i : Option (List ℕ)) (p : List ℕ) (r : Option Bool) (a : List ℕ) (end : Bool) (o : Option (List ℕ))
    (k : Held) (x : Telling) → is_some r ≡ true → held i p r a end o ≡ k → IsWhole i p r a end
    → Told (MakesReady (Ok tt) k k) x x
ready-some i p None a end o k x h v w = cc
ready-some i p (Some ff) a end o k x h v w =
    subst (λ k. Told (MakesReady (Ok tt) k k) x x) v (ready-now i p ff a end o x w)

pub ready-none : (i : Option (List ℕ)) (p : List ℕ) (r : Option Bool) (a : List ℕ) (end : Bool) (o : Option (List ℕ))
    (k : Held) (x : Telling) → is_some r ≡ false → end ≡ true → held i p r a end o ≡ k → IsWhole i p r a end
    → Told (MakesReady (Ok tt) k (held i p (Some false) a end o)) x x
ready-none i p (Some ff) a end o k x h e v w = cc
ready-none i p None a false o k x h e v w = cc
ready-none i p None a true o k x h e v w =
    subst (λ k. Told (MakesReady (Ok tt) k (held i p (Some false) a true o)) x x) v (ready-end i p a o x w)

pub refused-none : (i : Option (List ℕ)) (p : List ℕ) (r : Option Bool) (a0 : List ℕ) (end : Bool) (o : Option (List ℕ))
    (k : Held) (read a : List ℕ) (x y : Telling) (f g : ℕ) (fault : Fault) → is_some r ≡ false → end ≡ false
    → held i p r a0 end o ≡ k → EndsPage (p ++ a0) x read a y f g (Err fault) → has_form_feed read ≡ false
    → Told (MakesReady (Err fault) k (held i read r a end o)) x y
refused-none i p (Some ff) a0 end o k read a x y f g fault h e v s n = cc
refused-none i p None a0 true o k read a x y f g fault h e v s n = cc
refused-none i p None a0 false o k read a x y f g fault h e v s n =
    subst (λ k. Told (MakesReady (Err fault) k (held i read None a false o)) x y) v
    (refused i p a0 o read a x y f g fault s n)

pub readied-none : (i : Option (List ℕ)) (p : List ℕ) (r : Option Bool) (a0 : List ℕ) (end : Bool) (o : Option (List ℕ))
    (k : Held) (read a : List ℕ) (x y : Telling) (f g : ℕ) (ff : Bool) → is_some r ≡ false → end ≡ false
    → held i p r a0 end o ≡ k → EndsPage (p ++ a0) x read a y f g (Ok ff) → has_form_feed read ≡ false
    → Told (MakesReady (Ok tt) k (held i read (Some ff) a (not ff) o)) x y
readied-none i p (Some b) a0 end o k read a x y f g ff h e v s n = cc
readied-none i p None a0 true o k read a x y f g ff h e v s n = cc
readied-none i p None a0 false o k read a x y f g ff h e v s n =
    subst (λ k. Told (MakesReady (Ok tt) k (held i read (Some ff) a (not ff) o)) x y) v
    (readied i p a0 o read a x y f g ff s n)

-- it is known whether a form feed ended the page that is ready
pub is-ready : (p : List ℕ) (r : Option Bool) → IsSome (page_in p r) → is_some r ≡ true
is-ready p None h = h
is-ready p (Some ff) h = refl

pub accepted-some : (i : Option (List ℕ)) (p : List ℕ) (r : Option Bool) (a : List ℕ) (end : Bool) (o : Option (List ℕ))
    (k : Held) (cleared : List ℕ) → is_some r ≡ true → cleared ≡ [] → held i p r a end o ≡ k → IsWhole i p r a end
    → (f : HostFiles) → unread_bytes (held i cleared None a end o) f ≡ behind_form_feed (unread_bytes k f)
accepted-some i p None a end o k cleared h e v w f = cc
accepted-some i p (Some ff) a end o k cleared h e v w f =
    subst (λ k. unread_bytes (held i cleared None a end o) f ≡ behind_form_feed (unread_bytes k f)) v
    (accepted i p ff a end o cleared e w f)
