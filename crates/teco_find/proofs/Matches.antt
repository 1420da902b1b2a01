-- Matches and searches in a text of two pieces.
use Rattle.teco_find.proofs.Prelude.{◌≡◌, ℕ, zero, suc, ◌+◌, ◌-◌, ◌<◌, ◌≤◌, List, [], ◌∷◌, length, drop, get_or, Option}
use Rattle.teco_find.proofs.Prelude.{Some, None, ap, sym, refl, ◌∙◌, arith, length-drop, option_map_or, IsSome}
use Rattle.teco_find.proofs.Prelude.{option_map, option_and_then, IsFirst, IsLast, Nowhere, NoneBefore, sought, Item}
use Rattle.teco_find.proofs.Prelude.{Wanted, Span, Anchors, Stands, IsNeedle, NoneUpTo, Anchor}
use Rattle.std.proofs.lemmas.List.{at_drop_more}
use Rattle.std.specs.Option.{option_or}
use Rattle.memchr.specs.Find.{NoneAfter}
use Rattle.teco_model.specs.Match as model
use Rattle.teco_model.specs.Pattern.{Pattern}
use Rattle.teco_find.specs.Anchors.{IsLastTried, IsNextTried, StartsAt}

-- what elements leave, from the next on
pub rests_more : (text : List ℕ) (items : List Item) (i : ℕ) (own : Item) → i < length items → own ≡ get_or items i own
    → model.match_rest (drop i items) text ≡ option_and_then (model.match_rest (drop (i + 1) items))
    (model.item_rest own text)
rests_more text items i own within e =
    at_drop_more (λ left. model.match_rest left text) items i own within
    ∙ ap (λ x. option_and_then (model.match_rest (drop (i + 1) items)) (model.item_rest x text)) (sym e)

-- a match by its start
pub here_none : (pattern : Pattern) (text : List ℕ) (at : ℕ) → length pattern ≡ 0 → model.here pattern text at ≡ None
unfolding model.here
here_none [] text at e = refl
here_none (i ∷ items) text at e = absurd (omega arith)

pub here_some : (pattern : Pattern) (text : List ℕ) (at : ℕ) → (length pattern ≡ 0 → ⊥)
    → model.here pattern text at ≡ option_map (λ rest. record { start = at; end = length text - length rest })
    (model.match_rest pattern (drop at text))
unfolding model.here
here_some [] text at some = absurd (some refl)
here_some (i ∷ items) text at some = refl

module _ (pattern : Pattern) (text : List ℕ) where
  -- the first from a place on
  pub first_more : (at : ℕ) → at < length text
      → model.first_from pattern text at ≡ option_or (model.here pattern text at)
      (model.first_from pattern text (at + 1))
  first_more at within =
      let e : length text - at ≡ suc (length text - (at + 1)) = omega arith in
      ap (model.first_among pattern text at) e

  pub first_none : (at : ℕ) → length text ≤ at → model.first_from pattern text at ≡ None
  first_none at past_end = let e : length text - at ≡ zero = omega arith in ap (model.first_among pattern text at) e

  -- the last before a place
  pub last_more : (at n : ℕ) → n ≡ at + 1 → model.last_before pattern text n ≡ option_or (model.here pattern text at)
      (model.last_before pattern text at)
  last_more at n e = let f : n ≡ suc at = omega arith in ap (model.last_before pattern text) f

  pub last_none : (n : ℕ) → n ≡ 0 → model.last_before pattern text n ≡ None
  last_none n e = ap (model.last_before pattern text) e

-- what is passed, where no match starts there
none_found : (o : Option Span) → (IsSome o → ⊥) → o ≡ None
none_found None none = refl
none_found (Some span) none = absurd (none refl)

module _ (pattern : Pattern) (text : List ℕ) where
  not_here : (at : ℕ) → (StartsAt pattern text at → ⊥) → model.here pattern text at ≡ None
  not_here at none = none_found (model.here pattern text at) none

  first_past : (n at : ℕ) → at + n ≤ length text → Nowhere (StartsAt pattern text) at (at + n)
      → model.first_from pattern text at ≡ model.first_from pattern text (at + n)
  first_past zero at within none = let same : at ≡ at + zero = omega arith in ap (model.first_from pattern text) same
  first_past (suc n) at within none =
      let next : at + 1 + n ≡ at + suc n = omega arith in
      let later = first_past n (at + 1) (omega arith) (λ k from below. none k (omega arith) (omega arith)) in
      first_more pattern text at (omega arith)
      ∙ ap (λ o. option_or o (model.first_from pattern text (at + 1)))
      (not_here at (none at (omega arith) (omega arith)))
      ∙ later
      ∙ ap (model.first_from pattern text) next

  first_jump : (at start : ℕ) → NoneBefore (StartsAt pattern text) at (length text) start
      → model.first_from pattern text at ≡ option_or (model.here pattern text start)
      (model.first_from pattern text (start + 1))
  first_jump at start h =
      let low = h.low in
      let high = h.high in
      let there : at + (start - at) ≡ start = omega arith in
      first_past (start - at) at (omega arith) (λ k from below. h.before k from (omega arith))
      ∙ ap (model.first_from pattern text) there
      ∙ first_more pattern text start high

  pub first_found : (at start : ℕ) (span : Span) → NoneBefore (StartsAt pattern text) at (length text) start
      → Some span ≡ model.here pattern text start → Some span ≡ model.first_from pattern text at
  first_found at start span h found = ap (λ o. option_or o (model.first_from pattern text (start + 1))) found
      ∙ sym (first_jump at start h)

  pub first_missed : (at start : ℕ) → NoneBefore (StartsAt pattern text) at (length text) start
      → None ≡ model.here pattern text start
      → model.first_from pattern text (start + 1) ≡ model.first_from pattern text at
  first_missed at start h missed = ap (λ o. option_or o (model.first_from pattern text (start + 1))) missed
      ∙ sym (first_jump at start h)

  pub first_nowhere : (at : ℕ) → at ≤ length text → Nowhere (StartsAt pattern text) at (length text)
      → model.first_from pattern text at ≡ None
  first_nowhere at within h =
      let there : at + (length text - at) ≡ length text = omega arith in
      first_past (length text - at) at (omega arith) (λ k from below. h k from (omega arith))
      ∙ ap (model.first_from pattern text) there
      ∙ first_none pattern text (length text) (omega arith)

  last_past : (n at : ℕ) → Nowhere (StartsAt pattern text) at (at + n)
      → model.last_before pattern text (at + n) ≡ model.last_before pattern text at
  last_past zero at none = let same : at + zero ≡ at = omega arith in ap (model.last_before pattern text) same
  last_past (suc n) at none =
      last_more pattern text (at + n) (at + suc n) (omega arith)
      ∙ ap (λ o. option_or o (model.last_before pattern text (at + n)))
      (not_here (at + n) (none (at + n) (omega arith) (omega arith)))
      ∙ last_past n at (λ k from below. none k from (omega arith))

  last_jump : (before start : ℕ) → NoneAfter (StartsAt pattern text) 0 before start
      → model.last_before pattern text before ≡ option_or (model.here pattern text start)
      (model.last_before pattern text start)
  last_jump before start h =
      let high = h.high in
      let there : before ≡ start + 1 + (before - (start + 1)) = omega arith in
      ap (model.last_before pattern text) there
      ∙ last_past (before - (start + 1)) (start + 1) (λ k from below. h.after k from (omega arith))
      ∙ last_more pattern text start (start + 1) (omega arith)

  pub last_found : (before start : ℕ) (span : Span) → NoneAfter (StartsAt pattern text) 0 before start
      → Some span ≡ model.here pattern text start → Some span ≡ model.last_before pattern text before
  last_found before start span h found = ap (λ o. option_or o (model.last_before pattern text start)) found
      ∙ sym (last_jump before start h)

  pub last_missed : (before start : ℕ) → NoneAfter (StartsAt pattern text) 0 before start
      → None ≡ model.here pattern text start
      → model.last_before pattern text start ≡ model.last_before pattern text before
  last_missed before start h missed = ap (λ o. option_or o (model.last_before pattern text start)) missed
      ∙ sym (last_jump before start h)

  pub last_nowhere : (before : ℕ) → Nowhere (StartsAt pattern text) 0 before
      → model.last_before pattern text before ≡ None
  last_nowhere before h =
      let there : before ≡ 0 + before = omega arith in
      ap (model.last_before pattern text) there ∙ last_past before 0 (λ k from below. h k from (omega arith))

  -- what is passed on the way to where an anchor stands, or a needle
  pub next_standing : (anchor : Anchor) → Anchors pattern anchor → (at : ℕ) (r : Option ℕ)
      → IsFirst (Stands anchor text) at (length text) r → IsNextTried pattern text at r
  next_standing anchor anchors at None h = λ k from below starts. h k from below (anchors text k starts)
  next_standing anchor anchors at (Some start) h =
      record {
        low = h.0.low;
        high = h.0.high;
        before = λ k from below starts. h.0.before k from below (anchors text k starts);
      }

  pub last_standing : (anchor : Anchor) → Anchors pattern anchor → (before : ℕ) (r : Option ℕ)
      → IsLast (Stands anchor text) 0 before r → IsLastTried pattern text before r
  last_standing anchor anchors before None h = λ k from below starts. h k from below (anchors text k starts)
  last_standing anchor anchors before (Some start) h =
      record {
        low = h.0.low;
        high = h.0.high;
        after = λ k from below starts. h.0.after k from below (anchors text k starts);
      }

  pub next_needle : (needle : List ℕ) → IsNeedle pattern needle → (at : ℕ) (r : Option ℕ) → NoneUpTo needle text at r
      → IsNextTried pattern text at r
  next_needle needle is at None h = λ k from below starts. h k from below (is.begins is.some text k starts)
  next_needle needle is at (Some start) h =
      record {
        low = h.low;
        high = h.high;
        before = λ k from below starts. h.before k from below (is.begins is.some text k starts);
      }

-- so many turns ahead
module _ (search : ℕ → Option Span) (onward : Span → ℕ) where
  pub nth_all : (from n : ℕ) → 1 ≤ n
      → model.nth_match search onward from (suc (n - 1)) ≡ model.nth_match search onward from n
  nth_all from n some = let e : suc (n - 1) ≡ n = omega arith in ap (model.nth_match search onward from) e

  pub nth_more : (at turn n : ℕ) → turn < n → model.nth_match search onward at (suc (n - turn)) ≡ option_and_then
      (λ last. model.nth_match search onward (onward last) (suc (n - (turn + 1)))) (search at)
  nth_more at turn n less = let e : n - turn ≡ suc (n - (turn + 1)) = omega arith in
      ap (λ k. model.nth_match search onward at (suc k)) e

-- so many matches ahead, as far as they are there
module _ (pattern : Pattern) (text : List ℕ) where
  pub sought_all : (from n : ℕ) → 1 ≤ n → sought pattern text from (suc (n - 1)) ≡ sought pattern text from n
  sought_all from n some = let e : suc (n - 1) ≡ n = omega arith in ap (sought pattern text from) e

  pub sought_more : (at turn n : ℕ) → turn < n
      → sought pattern text at (suc (n - turn)) ≡ option_map_or
      (λ (span : Span). sought pattern text span.end (suc (n - (turn + 1)))) (model.first_from pattern text at)
      (Wanted (suc (n - turn)))
  sought_more at turn n less =
      let e : n - turn ≡ suc (n - (turn + 1)) = omega arith in
      ap (λ k. sought pattern text at (suc k)) e
      ∙ ap (λ k. option_map_or (λ (span : Span). sought pattern text span.end (suc (n - (turn + 1))))
      (model.first_from pattern text at) (Wanted (suc k))) (sym e)

-- what the functions need
pub ruleset starts = (here_none, here_some, length-drop)

pub ruleset turns = (nth_all, nth_more)

pub ruleset seeking = (sought_all, sought_more)
