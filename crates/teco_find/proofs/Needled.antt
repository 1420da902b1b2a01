-- The literals that a pattern begins with stand at the start of each match; and where they are found in two pieces.
use Rattle.teco_find.proofs.Prelude.{◌≡◌, ℕ, zero, suc, ◌+◌, ◌-◌, ◌<◌, ◌≤◌, List, [], ◌∷◌, ◌++◌, length, drop, take}
use Rattle.teco_find.proofs.Prelude.{get_or, Option, Some, None, ⊎_elim, ap, refl, sym, subst, ◌∙◌, arith}
use Rattle.teco_find.proofs.Prelude.{length-append, get_or-append, get_or-append_right, cases_lt, get_or-drop}
use Rattle.teco_find.proofs.Prelude.{length-drop, length-take, IfSome, IsSome, map, Nowhere, NoneBefore, Item, IsNeedle}
use Rattle.teco_find.proofs.Prelude.{NoneUpTo, literal, joined}
use Rattle.std.proofs.lemmas.Bool.{eq-eqb, eqb-true}
use Rattle.std.proofs.lemmas.List.{length-map, take_all, take_rest}
use Rattle.std.specs.Borrow.{Bor}
use Rattle.memchr.specs.Find.{FindsNeedle, OccursAt}
use Rattle.teco_model.specs.Match as model
use Rattle.teco_find.specs.Needles.{AreLiterals, Begins}
use Rattle.teco_find.specs.declared.mark.SoughtByte.TheVariants as mark
use Rattle.teco_find.proofs.Anchored.{GoesOn, goes_on, marked_front, matched}
use Rattle.teco_find.proofs.Matches.{here_some}

-- bytes stand at the front of a text
record Leads (bytes text : List ℕ) : Type 0 where
  fits : length bytes ≤ length text
  reads : (j : ℕ) → j < length bytes → get_or text j 0 ≡ get_or bytes j 0

lead_more : (b : ℕ) (bytes : List ℕ) (c : ℕ) (rest : List ℕ) → c ≡ b → Leads bytes rest → Leads (b ∷ bytes) (c ∷ rest)
lead_more b bytes c rest same later = record { fits = omega (arith, later.fits); reads = reads }
  where
    reads : (j : ℕ) → j < length (b ∷ bytes) → get_or (c ∷ rest) j 0 ≡ get_or (b ∷ bytes) j 0
    reads zero within = same
    reads (suc j) within = later.reads j (omega arith)

lead_on : (b : ℕ) (bytes : List ℕ) (items : List Item) (text : List ℕ) (front : GoesOn items text) → get_or text 0 0 ≡ b
    → Leads bytes front.rest → Leads (b ∷ bytes) text
lead_on b bytes items text front first later =
    let same : front.first ≡ b = subst (λ t. get_or t 0 0 ≡ b) front.is first in
    subst (λ t. Leads (b ∷ bytes) t) (sym front.is) (lead_more b bytes front.first front.rest same later)

leads : (bytes : List ℕ) (items : List Item) (text : List ℕ) → map literal bytes ≡ take (length bytes) items
    → IsSome (model.match_rest items text) → Leads bytes text
leads [] items text e some = record { fits = omega arith; reads = λ j within. absurd (omega arith) }
leads (b ∷ bytes) [] text e some = cc
leads (b ∷ bytes) (i ∷ items) text e some =
    let same : literal b ≡ i = cc in
    let others : map literal bytes ≡ take (length bytes) items = cc in
    let found = subst (λ x. IsSome (model.match_rest (x ∷ items) text)) (sym same) some in
    let front = goes_on (literal b) items text tt found in
    let first = marked_front (literal b) items (mark.One b) text (λ c is. is) found in
    lead_on b bytes items text front (eqb-true (get_or text 0 0) b first.1)
    (leads bytes items front.rest others front.some)

pub begins : (bytes : List ℕ) (n : ℕ) (items : List Item) → length bytes ≡ n → map literal bytes ≡ take n items
    → Begins items bytes
begins bytes n items count e filled text at some =
    let taken = e ∙ ap (λ k. take k items) (sym count) in
    let found = leads bytes items (drop at text) taken (matched items text at some) in
    let long = length-drop at text in
    record {
      fits = let fits = found.fits in omega arith;
      reads = λ j within. sym (get_or-drop at text j 0) ∙ found.reads j within;
    }

-- what a slice from a place on is
abbrev pub slice_from : ℕ → List ℕ → List ℕ
slice_from at bytes = take (length bytes - at) (drop at bytes)

module _ (front back needle : List ℕ) (filled : 0 < length needle) where
  -- a needle that lies in one piece
  in_front : (at j : ℕ) → at ≤ j → j + length needle ≤ length front → OccursAt (front ++ back) needle j
      → OccursAt (drop at front) needle (j - at)
  in_front at j from within h = record {
    fits = omega (arith, length-drop at front);
    reads = λ i below.
        let place : at + (j - at + i) ≡ j + i = omega arith in
        get_or-drop at front (j - at + i) 0 ∙ ap (λ n. get_or front n 0) place
        ∙ sym (get_or-append front back 0 (j + i) (omega arith)) ∙ h.reads i below;
  }

  in_back : (at j : ℕ) → length front ≤ at → at ≤ j → OccursAt (front ++ back) needle j
      → OccursAt (drop (at - length front) back) needle (j - at)
  in_back at j behind from h = record {
    fits = omega (arith, length-drop (at - length front) back, length-append front back, h.fits);
    reads = λ i below.
        let place : at - length front + (j - at + i) ≡ j + i - length front = omega arith in
        get_or-drop (at - length front) back (j - at + i) 0 ∙ ap (λ n. get_or back n 0) place
        ∙ sym (get_or-append_right front back (j + i) 0 (omega arith)) ∙ h.reads i below;
  }

  -- the first in the front, and none there
  pub found_front : (at k : ℕ) → at ≤ length front → FindsNeedle (slice_from at front) needle 0 (Some k)
      → NoneBefore (OccursAt (front ++ back) needle) at (length (front ++ back)) (at + k)
  found_front at k within found =
      let h = subst (λ l. FindsNeedle l needle 0 (Some k)) (take_rest front at) found in
      let fits = h.1.fits in
      let long = length-drop at front in
      let whole = length-append front back in
      record {
        low = omega arith;
        high = omega arith;
        before = λ j from below occurs. h.0.before (j - at) (omega arith) (omega arith)
            (in_front at j from (omega arith) occurs);
      }

  pub none_front : (at across : ℕ) → across + length needle ≤ length front + 1
      → FindsNeedle (slice_from at front) needle 0 None → Nowhere (OccursAt (front ++ back) needle) at across
  none_front at across within none =
      λ j from below occurs.
      let h = subst (λ l. FindsNeedle l needle 0 None) (take_rest front at) none in
      let there = in_front at j from (omega arith) occurs in
      let fits = there.fits in
      h (j - at) (omega arith) (omega arith) there

  out_of_back : (at k : ℕ) → length front ≤ at → at ≤ length (front ++ back)
      → OccursAt (drop (at - length front) back) needle k → OccursAt (front ++ back) needle (at + k)
  out_of_back at k behind within h = record {
    fits = omega (arith, length-drop (at - length front) back, length-append front back, h.fits);
    reads = λ i below.
        let place : at + k + i - length front ≡ at - length front + (k + i) = omega arith in
        get_or-append_right front back (at + k + i) 0 (omega arith) ∙ ap (λ n. get_or back n 0) place
        ∙ sym (get_or-drop (at - length front) back (k + i) 0) ∙ h.reads i below;
  }

  -- the first in the back, and none there
  pub found_back : (at k : ℕ) → length front ≤ at → at ≤ length (front ++ back)
      → FindsNeedle (slice_from (at - length front) back) needle 0 (Some k)
      → FindsNeedle (front ++ back) needle at (Some (at + k))
  found_back at k behind within found =
      let h = subst (λ l. FindsNeedle l needle 0 (Some k)) (take_rest back (at - length front)) found in
      let fits = h.1.fits in
      let long = length-drop (at - length front) back in
      let whole = length-append front back in (
        record {
          low = omega arith;
          high = omega arith;
          before = λ j from below occurs. h.0.before (j - at) (omega arith) (omega arith)
              (in_back at j behind from occurs);
        },
        out_of_back at k behind within h.1,
      )

  pub none_back : (at : ℕ) → length front ≤ at → FindsNeedle (slice_from (at - length front) back) needle 0 None
      → FindsNeedle (front ++ back) needle at None
  none_back at behind none =
      λ j from below occurs.
      let h = subst (λ l. FindsNeedle l needle 0 None) (take_rest back (at - length front)) none in
      let there = in_back at j behind from occurs in
      let fits = there.fits in
      h (j - at) (omega arith) (omega arith) there

-- where a needle is found first, none stands before
pub up_to : (needle text : List ℕ) → 0 < length needle → (at : ℕ) (r : Option ℕ) → FindsNeedle text needle at r
    → NoneUpTo needle text at r
up_to needle text some at None h = λ j from below. h j from (omega arith)
up_to needle text some at (Some k) h = record {
  low = h.0.low;
  high = (let fits = h.1.fits in omega arith);
  before = h.0.before;
}

Nowhere-then : (P : ℕ → Type 0) (i j l : ℕ) → Nowhere P i j → Nowhere P j l → Nowhere P i l
Nowhere-then P i j l front back k low high =
    ⊎_elim (λ (below : k < j). front k low below) (λ (from : j ≤ k). back k from high) (cases_lt k j)

NoneBefore-then : (P : ℕ → Type 0) (i j l k : ℕ) → i ≤ j → Nowhere P i j → NoneBefore P j l k → NoneBefore P i l k
NoneBefore-then P i j l k le front back = record {
  low = let low = back.low in omega arith;
  high = back.high;
  before = Nowhere-then P i j k front back.before;
}

-- no needle up to a later place, and on from there
pub then_up_to : (needle text : List ℕ) (at later : ℕ) (next : Option ℕ) → at ≤ later
    → Nowhere (OccursAt text needle) at later → NoneUpTo needle text later next → NoneUpTo needle text at next
then_up_to needle text at later None le front back =
    Nowhere-then (OccursAt text needle) at later (length text) front back
then_up_to needle text at later (Some k) le front back =
    NoneBefore-then (OccursAt text needle) at later (length text) k le front back

-- literals are matched where they stand
literals_rest : (bytes rest : List ℕ) → model.match_rest (map literal bytes) (bytes ++ rest) ≡ Some rest
literals_rest [] rest = refl
literals_rest (b ∷ bytes) rest = rw (eq-eqb b b refl) (literals_rest bytes rest)

-- a pattern of nothing but literals is matched where they stand
pub needle_rest : (items : List Item) (needle text rest : List ℕ) → IsNeedle items needle → length items ≤ length needle
    → text ≡ needle ++ rest → model.match_rest items text ≡ Some rest
needle_rest items needle text rest is all stands =
    let are : map literal needle ≡ items = is.are ∙ take_all (length needle) items all in
    subst (λ found. model.match_rest found text ≡ Some rest) are
    (subst (λ t. model.match_rest (map literal needle) t ≡ Some rest) (sym stands) (literals_rest needle rest))

pub needle_rests : (items : List Item) (needle text : List ℕ) → IsNeedle items needle → length items ≤ length needle
    → (r : Option (Bor (List ℕ) × Bor (List ℕ))) → IfSome r (λ rest. text ≡ needle ++ joined rest)
    → IfSome r (λ rest. model.match_rest items text ≡ Some (joined rest))
needle_rests items needle text is all None h = h
needle_rests items needle text is all (Some rest) h = needle_rest items needle text (joined rest) is all h

-- what bytes that stand at the front of a text are of it
led : (bytes text : List ℕ) → Leads bytes text → text ≡ bytes ++ drop (length bytes) text
led [] text h = refl
led (b ∷ bytes) [] h = absurd (let fits = h.fits in omega arith)
led (b ∷ bytes) (c ∷ text) h =
    let first : c ≡ b = h.reads 0 (omega arith) in
    let fits = h.fits in
    let later = led bytes text (record { fits = omega arith; reads = λ j within. h.reads (suc j) (omega arith) }) in
    ap (λ x. x ∷ text) first ∙ ap (λ t. b ∷ t) later

-- where the literals stand that a pattern is, it is matched
pub literals_here : (items : List Item) (needle text : List ℕ) (at : ℕ) → AreLiterals items needle
    → OccursAt text needle at → Some (record { start = at; end = at + length needle }) ≡ model.here items text at
literals_here items needle text at are stands =
    let fits = stands.fits in
    let some = are.begin.some in
    let taken = ap length are.begin.are in
    let mapped = length-map needle literal in
    let long = length-take (length needle) items in
    let behind = length-drop at text in
    let left = length-drop (length needle) (drop at text) in
    let is = led needle (drop at text)
    (record { fits = omega arith; reads = λ j within. get_or-drop at text j 0 ∙ stands.reads j within }) in
    let rest = needle_rest items needle (drop at text) (drop (length needle) (drop at text)) are.begin are.all is in
    let end : length text - length (drop (length needle) (drop at text)) ≡ at + length needle = omega arith in
    rw (here_some items text at (λ none. absurd (omega arith)), rest, end) refl
