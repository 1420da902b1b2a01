-- Subsequences, and what is left of them without some characters.
use Rattle.std.proofs.Common.{◌≡◌, inl, inr, ℕ, List, [], ◌∷◌, ◌++◌, Bool, true, false, cond, not}
use Rattle.std.proofs.Common.{refl, sym, subst, ap, ◌∙◌}
use Rattle.std.proofs.lemmas.List.Elements.{All-head, All-nil, All-tail, All-weaker, filter-append}
use Rattle.std.specs.Prelude.{All, IsTrue}
use Rattle.teco_changes.specs.Changes.{AreOneOf, Changes, IsChange}
use Rattle.teco_change_policies.specs.Laws.{NothingIsAdded, OnlyTheseAreAdded, OnlyTheseAreTaken, PutsNothing, PutsOnly}
use Rattle.teco_change_policies.specs.Laws.{TakesNothing, TakesOnly, TextIsKept}
use Rattle.teco_changes.specs.declared.change.Change.{Change}
use Rattle.teco_changes.proofs.Turns.{by_changes}
use Rattle.teco_policy.specs.Subsequences.{IsSubsequence, is_one_of, without}

longer : (part : List ℕ) (c : ℕ) (text : List ℕ) → IsSubsequence part text → IsSubsequence part (c ∷ text)
longer [] c text h = tt
longer (b ∷ part) c text h = inr h

itself : (text : List ℕ) → IsSubsequence text text
itself [] = tt
itself (b ∷ text) = inl (refl, itself text)

joins : (a b c : List ℕ) → IsSubsequence a b → IsSubsequence b c → IsSubsequence a c
joins [] b c h g = tt
joins (x ∷ a) [] c h g = absurd h
joins (x ∷ a) (y ∷ b) [] h g = absurd g
joins (x ∷ a) (y ∷ b) (z ∷ c) h g =
    elim g [
      | inl s ↦ elim h [ inl r ↦ inl (r.0 ∙ s.0, joins a b c r.1 s.1) | inr q ↦ inr (joins (x ∷ a) b c q s.1) ]
      | inr p ↦ inr (joins (x ∷ a) (y ∷ b) c h p)
    ]

behind : (front back : List ℕ) → IsSubsequence back (front ++ back)
behind [] back = itself back
behind (b ∷ front) back = longer back b (front ++ back) (behind front back)

both_behind : (front a b : List ℕ) → IsSubsequence a b → IsSubsequence (front ++ a) (front ++ b)
both_behind [] a b h = h
both_behind (c ∷ front) a b h = inl (refl, both_behind front a b h)

-- without no character, a text is itself
without_none : (text : List ℕ) → without [] text ≡ text
without_none [] = refl
without_none (b ∷ text) = ap (λ l. b ∷ l) (without_none text)

module _ (characters : List ℕ) where
  left : (t : Bool) (b : ℕ) (text : List ℕ) → IsSubsequence (without characters text) text
      → IsSubsequence (cond (not t) (b ∷ without characters text) (without characters text)) (b ∷ text)
  left true b text h = longer (without characters text) b text h
  left false b text h = inl (refl, h)

  is_within : (text : List ℕ) → IsSubsequence (without characters text) text
  is_within [] = tt
  is_within (b ∷ text) = left (is_one_of characters b) b text (is_within text)

  nothing_left : (text : List ℕ) → AreOneOf characters text → without characters text ≡ []
  nothing_left [] each = refl
  nothing_left (b ∷ text) each =
      ap (λ t. cond (not t) (b ∷ without characters text) (without characters text))
      (All-head (λ x. IsTrue (is_one_of characters x)) b text each)
      ∙ nothing_left text (All-tail (λ x. IsTrue (is_one_of characters x)) b text each)

  parted : (front piece back : List ℕ)
      → without characters (front ++ (piece ++ back))
      ≡ without characters front ++ (without characters piece ++ without characters back)
  parted front piece back =
      filter-append (λ b. not (is_one_of characters b)) front (piece ++ back)
      ∙ ap (λ l. without characters front ++ l) (filter-append (λ b. not (is_one_of characters b)) piece back)

  -- such characters go, whatever stood in their stead
  goes : (front piece other back : List ℕ) → AreOneOf characters piece
      → IsSubsequence (without characters (front ++ (piece ++ back))) (without characters (front ++ (other ++ back)))
  goes front piece other back each =
      let w : List ℕ → List ℕ = λ l. without characters l in
      let gone : w (front ++ (piece ++ back)) ≡ w front ++ w back =
      parted front piece back ∙ ap (λ l. w front ++ (l ++ w back)) (nothing_left piece each) in
      subst (λ l. IsSubsequence l (w (front ++ (other ++ back)))) (sym gone)
      (subst (λ l. IsSubsequence (w front ++ w back) l) (sym (parted front other back))
      (both_behind (w front) (w back) (w other ++ w back) (behind (w other) (w back))))

  adds : (change : Change) → PutsOnly characters change → (old new : List ℕ) → IsChange change old new
      → IsSubsequence (without characters new) (without characters old)
  adds change only old new h =
      let w : List ℕ → List ℕ = λ l. without characters l in
      subst (λ l. IsSubsequence (w new) (w l)) (sym h.old_is)
      (subst (λ l. IsSubsequence (w l) (w (h.front ++ (h.taken ++ h.back)))) (sym h.new_is)
      (goes h.front h.put h.taken h.back (only h.put h.puts)))

  takes : (change : Change) → TakesOnly characters change → (old new : List ℕ) → IsChange change old new
      → IsSubsequence (without characters old) (without characters new)
  takes change only old new h =
      let w : List ℕ → List ℕ = λ l. without characters l in
      subst (λ l. IsSubsequence (w l) (w new)) (sym h.old_is)
      (subst (λ l. IsSubsequence (w (h.front ++ (h.taken ++ h.back))) (w l)) (sym h.new_is)
      (goes h.front h.taken h.put h.back (only h.taken h.takes)))

  added : (changes : List Change) → All (PutsOnly characters) changes → (old new : List ℕ)
      → Changes changes old new → IsSubsequence (without characters new) old
  added changes each old new h =
      joins (without characters new) (without characters old) old
      (by_changes (λ a b. IsSubsequence (without characters b) (without characters a))
      (λ a. itself (without characters a))
      (λ a b c h g. joins (without characters c) (without characters b) (without characters a) g h)
      (PutsOnly characters) adds changes each old new h)
      (is_within old)

  taken : (changes : List Change) → All (TakesOnly characters) changes → (old new : List ℕ)
      → Changes changes old new → IsSubsequence (without characters old) new
  taken changes each old new h =
      joins (without characters old) (without characters new) new
      (by_changes (λ a b. IsSubsequence (without characters a) (without characters b))
      (λ a. itself (without characters a))
      (λ a b c h g. joins (without characters a) (without characters b) (without characters c) h g)
      (TakesOnly characters) takes changes each old new h)
      (is_within new)

none_of_none : (text : List ℕ) → text ≡ [] → AreOneOf [] text
none_of_none text e = subst (λ l. AreOneOf [] l) (sym e) (All-nil (λ x. IsTrue (is_one_of [] x)))

pub only_these_are_added : OnlyTheseAreAdded
only_these_are_added characters changes each old new h = added characters.items changes each old new h

pub only_these_are_taken : OnlyTheseAreTaken
only_these_are_taken characters changes each old new h = taken characters.items changes each old new h

pub nothing_is_added : NothingIsAdded
nothing_is_added changes each old new h =
    subst (λ l. IsSubsequence l old) (without_none new)
    (added [] changes
    (All-weaker PutsNothing (PutsOnly []) (λ change none put p. none_of_none put (none put p)) changes each)
    old new h)

pub text_is_kept : TextIsKept
text_is_kept changes each old new h =
    subst (λ l. IsSubsequence l new) (without_none old)
    (taken [] changes
    (All-weaker TakesNothing (TakesOnly [])
    (λ change none taken p. none_of_none taken (none taken p)) changes each)
    old new h)
