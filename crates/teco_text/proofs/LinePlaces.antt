-- Line places along a text, and the entries that count.
use Rattle.std.proofs.Common.{◌≡◌, ℕ, zero, suc, ◌+◌, ◌-◌, ◌<◌, ◌≤◌, Bool, true, false, cond, ℤ, pos, negsuc, ◌≤ℤ◌}
use Rattle.std.proofs.Common.{◌<ℤ◌, unsigned_abs, List, [], ◌∷◌, ◌++◌, length, take, drop, get_or, reverse, Some}
use Rattle.std.proofs.Common.{Result, Ok, Err, sym, ap, refl, ◌∙◌, arith, add-zero, append_assoc, length-append}
use Rattle.std.proofs.Common.{length-take, take-append-drop}
use Rattle.std.proofs.lemmas.Bool.{lt-ltb, le-ltb, le-leb, lt-leb}
use Rattle.std.proofs.lemmas.Int.{ints}
use Rattle.std.proofs.lemmas.List.{reverse-append, append-nil, get_or_past}
use Rattle.std.proofs.lemmas.List.Elements.{filter-append}
use Rattle.std.proofs.lemmas.Option.{get_or_from_slice_get}
use Rattle.std.specs.Prelude.{slice_get, filter, nat_lt, nat_le}
use Rattle.std.specs.Result.{result_unwrap_or}
use Rattle.teco_base.specs.Bytes.{is_line_end}
use Rattle.teco_base.specs.Lines.{line_places_from, line_places, places_ahead, places_back, line_place}
use Rattle.teco_text.specs.Counted.{Counted}

-- the place after one character, if it is a line end
abbrev place_of : ℕ → ℕ → List ℕ
place_of at b = cond (is_line_end b) ((at + 1) ∷ []) []

places_cons : (at b : ℕ) (text : List ℕ) → line_places_from at (b ∷ text) ≡ place_of at b
    ++ line_places_from (at + 1) text
places_cons at b text =
    elim (is_line_end b) as (λ v. cond v ((at + 1) ∷ line_places_from (at + 1) text)
    (line_places_from (at + 1) text) ≡ cond v ((at + 1) ∷ []) [] ++ line_places_from (at + 1) text)
    [ true ↦ refl | false ↦ refl ]

-- the places of two texts, one behind the other
pub places-append : (at : ℕ) (xs ys : List ℕ) → line_places_from at (xs ++ ys) ≡ line_places_from at xs
    ++ line_places_from (at + length xs) ys
places-append at [] ys = rw add-zero refl
places-append at (x ∷ xs) ys =
    let deeper : line_places_from (at + 1) (xs ++ ys) ≡ line_places_from (at + 1) xs
    ++ line_places_from (at + 1 + length xs) ys = places-append (at + 1) xs ys in
    let same : at + 1 + length xs ≡ at + length (x ∷ xs) = omega arith in
    places_cons at x (xs ++ ys)
    ∙ ap (λ t. place_of at x ++ t) (deeper ∙ ap (λ n. line_places_from (at + 1) xs ++ line_places_from n ys) same)
    ∙ sym (append_assoc (place_of at x) (line_places_from (at + 1) xs) (line_places_from (at + length (x ∷ xs)) ys))
    ∙ ap (λ t. t ++ line_places_from (at + length (x ∷ xs)) ys) (sym (places_cons at x xs))

-- how a count goes on from one list into the next
slice_get_left : (xs ys : List ℕ) (k y : ℕ) → slice_get xs k ≡ Some y → slice_get (xs ++ ys) k ≡ Some y
slice_get_left [] ys k y e = cc
slice_get_left (x ∷ xs) ys zero y e = e
slice_get_left (x ∷ xs) ys (suc k) y e = slice_get_left xs ys k y e

slice_get_right : (xs ys : List ℕ) (k : ℕ) → slice_get (xs ++ ys) (length xs + k) ≡ slice_get ys k
slice_get_right [] ys k = let e : 0 + k ≡ k = omega arith in rw e refl
slice_get_right (x ∷ xs) ys k =
    let e : suc (length xs) + k ≡ suc (length xs + k) = omega arith in
    rw e (slice_get_right xs ys k)

counted_next : (xs ys : List ℕ) (count missing : ℕ) (r : Result ℕ ℕ) → Counted xs count (Err missing)
    → Counted ys missing r → Counted (xs ++ ys) count r
counted_next xs ys count missing (Ok y) passed found =
    let e : count - 1 ≡ length xs + (missing - 1) = omega (arith, passed.0, passed.1) in
    rw (e, slice_get_right xs ys (missing - 1)) found
counted_next xs ys count missing (Err left) passed found =
    (found.0, omega (arith, passed.1, found.1, length-append xs ys))

module _ (at : ℕ) (first second : List ℕ) (count : ℕ) where
  pub ahead_first : (place : ℕ) → Counted (line_places_from at first) count (Ok place)
      → Counted (line_places_from at (first ++ second)) count (Ok place)
  ahead_first place found =
      rw (places-append at first second)
      (slice_get_left (line_places_from at first) (line_places_from (at + length first) second)
      (count - 1) place found)

  pub ahead_second : (missing : ℕ) (r : Result ℕ ℕ) → Counted (line_places_from at first) count (Err missing)
      → Counted (line_places_from (at + length first) second) missing r
      → Counted (line_places_from at (first ++ second)) count r
  ahead_second missing r passed found =
      rw (places-append at first second)
      (counted_next (line_places_from at first) (line_places_from (at + length first) second) count missing r passed
      found)

-- the same of places counted backwards, where the second piece begins behind the first
module _ (at next : ℕ) (first second : List ℕ) (count : ℕ) (e : next ≡ at + length first) where
  turned : reverse (line_places_from at (first ++ second)) ≡ reverse (line_places_from next second)
      ++ reverse (line_places_from at first)
  turned =
      ap reverse (places-append at first second ∙ ap (λ n. line_places_from at first ++ line_places_from n second)
      (sym e))
      ∙ reverse-append (line_places_from at first) (line_places_from next second)

  pub back_first : (place : ℕ) → Counted (reverse (line_places_from next second)) count (Ok place)
      → Counted (reverse (line_places_from at (first ++ second))) count (Ok place)
  back_first place found =
      rw turned (slice_get_left (reverse (line_places_from next second)) (reverse (line_places_from at first))
      (count - 1) place found)

  pub back_second : (missing : ℕ) (r : Result ℕ ℕ)
      → Counted (reverse (line_places_from next second)) count (Err missing)
      → Counted (reverse (line_places_from at first)) missing r
      → Counted (reverse (line_places_from at (first ++ second))) count r
  back_second missing r passed found =
      rw turned (counted_next (reverse (line_places_from next second)) (reverse (line_places_from at first)) count
      missing r passed found)

-- places that all pass a test, or all fail it
kept : (p : ℕ → Bool) (at : ℕ) (xs : List ℕ) → ((k : ℕ) → at < k → k ≤ at + length xs → p k ≡ true)
    → filter p (line_places_from at xs) ≡ line_places_from at xs
kept p at [] pass = refl
kept p at (x ∷ xs) pass =
    let deeper = kept p (at + 1) xs (λ k low high. pass k (omega arith) (omega arith)) in
    let own = pass (at + 1) (omega arith) (omega arith) in
    elim (is_line_end x) as (λ v. filter p
    (cond v ((at + 1) ∷ line_places_from (at + 1) xs) (line_places_from (at + 1) xs)) ≡ cond v
    ((at + 1) ∷ line_places_from (at + 1) xs) (line_places_from (at + 1) xs)) [
      | true ↦ rw own (ap (λ t. (at + 1) ∷ t) deeper)
      | false ↦ deeper
    ]

dropped : (p : ℕ → Bool) (at : ℕ) (xs : List ℕ) → ((k : ℕ) → at < k → k ≤ at + length xs → p k ≡ false)
    → filter p (line_places_from at xs) ≡ []
dropped p at [] fail = refl
dropped p at (x ∷ xs) fail =
    let deeper = dropped p (at + 1) xs (λ k low high. fail k (omega arith) (omega arith)) in
    let own = fail (at + 1) (omega arith) (omega arith) in
    elim (is_line_end x) as (λ v. filter p
    (cond v ((at + 1) ∷ line_places_from (at + 1) xs) (line_places_from (at + 1) xs)) ≡ []) [
      | true ↦ rw own deeper
      | false ↦ deeper
    ]

module _ (text : List ℕ) (pointer : ℕ) (within : pointer ≤ length text) where
  halves : line_places text ≡ line_places_from 0 (take pointer text) ++ line_places_from pointer (drop pointer text)
  halves =
      let own : 0 + length (take pointer text) ≡ pointer = omega (arith, length-take pointer text) in
      ap line_places (sym (take-append-drop pointer text))
      ∙ places-append 0 (take pointer text) (drop pointer text)
      ∙ ap (λ n. line_places_from 0 (take pointer text) ++ line_places_from n (drop pointer text)) own

  -- the places ahead are those of the rest of the text, and the places back those of its front
  ahead_are : places_ahead text pointer ≡ line_places_from pointer (drop pointer text)
  ahead_are =
      let test : ℕ → Bool = λ place. nat_lt pointer place in
      ap (filter test) halves
      ∙ filter-append test (line_places_from 0 (take pointer text)) (line_places_from pointer (drop pointer text))
      ∙ ap (λ t. t ++ filter test (line_places_from pointer (drop pointer text)))
      (dropped test 0 (take pointer text)
      (λ k low high. le-ltb pointer k (omega (arith, length-take pointer text))))
      ∙ kept test pointer (drop pointer text) (λ k low high. lt-ltb pointer k low)

  back_are : places_back text pointer ≡ reverse (line_places_from 0 (take pointer text))
  back_are =
      let test : ℕ → Bool = λ place. nat_le place pointer in
      ap reverse (
      ap (filter test) halves
      ∙ filter-append test (line_places_from 0 (take pointer text)) (line_places_from pointer (drop pointer text))
      ∙ ap (λ t. filter test (line_places_from 0 (take pointer text)) ++ t)
      (dropped test pointer (drop pointer text) (λ k low high. lt-leb k pointer low))
      ∙ append-nil (filter test (line_places_from 0 (take pointer text)))
      ∙ kept test 0 (take pointer text) (λ k low high. le-leb k pointer (omega (arith, length-take pointer text)))
      )

-- what a count that falls short gives in the entry's stead
counted_or : (entries : List ℕ) (count k : ℕ) (r : Result ℕ ℕ) (d : ℕ) → count - 1 ≡ k → 0 < count
    → Counted entries count r → result_unwrap_or r d ≡ get_or entries k d
counted_or entries count k (Ok entry) d e some found = sym (get_or_from_slice_get entries k entry d (rw e at found))
counted_or entries count k (Err missing) d e some found =
    sym (get_or_past entries k d (omega (arith, found.0, found.1)))

-- the line place is what the counts give
pub place_ahead_is : (text : List ℕ) (pointer : ℕ) (n : ℤ) (count : ℕ) (r : Result ℕ ℕ) → pointer ≤ length text
    → pos 0 <ℤ n → count ≡ unsigned_abs n → Counted (line_places_from pointer (drop pointer text)) count r
    → result_unwrap_or r (length text) ≡ line_place text pointer n
place_ahead_is text pointer (pos zero) count r within positive e found = absurd (omega (arith, ints))
place_ahead_is text pointer (pos (suc k)) count r within positive e found =
    rw (ahead_are text pointer within) (counted_or (line_places_from pointer (drop pointer text)) count k r
    (length text) (omega arith) (omega arith) found)
place_ahead_is text pointer (negsuc k) count r within positive e found = absurd (omega (arith, ints))

pub place_back_is : (text : List ℕ) (pointer : ℕ) (n : ℤ) (count : ℕ) (r : Result ℕ ℕ) → pointer ≤ length text
    → n ≤ℤ pos 0 → count ≡ unsigned_abs n + 1 → Counted (reverse (line_places_from 0 (take pointer text))) count r
    → result_unwrap_or r 0 ≡ line_place text pointer n
place_back_is text pointer (pos zero) count r within low e found =
    rw (back_are text pointer within) (counted_or (reverse (line_places_from 0 (take pointer text))) count 0 r 0
    (omega arith) (omega arith) found)
place_back_is text pointer (pos (suc k)) count r within low e found = absurd (omega (arith, ints))
place_back_is text pointer (negsuc k) count r within low e found =
    rw (back_are text pointer within) (counted_or (reverse (line_places_from 0 (take pointer text))) count (suc k) r 0
    (omega arith) (omega arith) found)
