-- The first and the last start from which an anchor's mark stands, by where the mark is found.
use Rattle.teco_find.proofs.Prelude.{◌≡◌, ℕ, ◌+◌, ◌-◌, ◌<◌, ◌≤◌, true, List, length, drop, take, get_or, Option, Some}
use Rattle.teco_find.proofs.Prelude.{None, ap, sym, subst, ◌∙◌, arith, get_or-drop, length-drop, length-take, IsFirst}
use Rattle.teco_find.proofs.Prelude.{IsLast, IsFirstByte, IsLastByte, Passes, is_marked, Stands, Anchor}
use Rattle.std.proofs.lemmas.List.{get_or-take}

module _ (anchor : Anchor) (text : List ℕ) where
  -- what is ahead of a place, from the anchor's distance on
  module _ (at : ℕ) (ahead : List ℕ) (is : ahead ≡ drop anchor.distance (drop at text)) where
    ahead_length : length ahead ≡ length text - at - anchor.distance
    ahead_length = ap length is ∙ length-drop anchor.distance (drop at text)
        ∙ ap (λ n. n - anchor.distance) (length-drop at text)

    ahead_byte : (k : ℕ) → get_or ahead k 0 ≡ get_or text (at + k + anchor.distance) 0
    ahead_byte k =
        let place : at + (anchor.distance + k) ≡ at + k + anchor.distance = omega arith in
        ap (λ l. get_or l k 0) is ∙ get_or-drop anchor.distance (drop at text) k 0
        ∙ get_or-drop at text (anchor.distance + k) 0 ∙ ap (λ n. get_or text n 0) place

    stands_ahead : (k : ℕ) → k < length ahead → Passes (is_marked anchor.mark) ahead k → Stands anchor text (at + k)
    stands_ahead k within passes = record {
      within = omega (arith, ahead_length);
      marked = subst (λ b. is_marked anchor.mark b ≡ true) (ahead_byte k) passes;
    }

    passes_ahead : (j : ℕ) → at ≤ j → Stands anchor text j → Passes (is_marked anchor.mark) ahead (j - at)
    passes_ahead j from stands =
        let same : at + (j - at) + anchor.distance ≡ j + anchor.distance = omega arith in
        subst (λ b. is_marked anchor.mark b ≡ true) (sym (ahead_byte (j - at) ∙ ap (λ n. get_or text n 0) same))
        stands.marked

    pub first_start : (r : Option ℕ) → (k : ℕ) → r ≡ Some k → IsFirstByte (is_marked anchor.mark) ahead r
        → IsFirst (Stands anchor text) at (length text) (Some (at + k))
    first_start r k e found =
        let h = rw e at found in (
          record {
            low = omega arith;
            high = omega (arith, h.0.high, ahead_length);
            before = λ j from below stands. h.0.before (j - at) (omega arith) (omega arith)
                (passes_ahead j from stands);
          },
          stands_ahead k h.0.high h.1,
        )

    pub no_start : (r : Option ℕ) → r ≡ None → IsFirstByte (is_marked anchor.mark) ahead r
        → IsFirst (Stands anchor text) at (length text) None
    no_start r e found =
        let h = rw e at found in
        λ j from below stands. h (j - at) (omega arith) (let within = stands.within in omega (arith, ahead_length))
        (passes_ahead j from stands)

  -- what stands at the anchor's distance from the places before one
  module _ (before : ℕ) (behind : List ℕ) (is : behind ≡ take before (drop anchor.distance text)) where
    behind_byte : (k : ℕ) → k < before → get_or behind k 0 ≡ get_or text (k + anchor.distance) 0
    behind_byte k below =
        let place : anchor.distance + k ≡ k + anchor.distance = omega arith in
        ap (λ l. get_or l k 0) is ∙ get_or-take before (drop anchor.distance text) k 0 below
        ∙ get_or-drop anchor.distance text k 0 ∙ ap (λ n. get_or text n 0) place

    behind_length : (k : ℕ) → k < length behind → (k < before) × (k + anchor.distance < length text)
    behind_length k within =
        let long = ap length is ∙ length-take before (drop anchor.distance text) in
        let rest = length-drop anchor.distance text in
        (omega arith, omega arith)

    within_behind : (k : ℕ) → k < before → k + anchor.distance < length text → k < length behind
    within_behind k below within =
        let long = ap length is ∙ length-take before (drop anchor.distance text) in
        let rest = length-drop anchor.distance text in
        omega arith

    passes_behind : (j : ℕ) → j < before → Stands anchor text j → Passes (is_marked anchor.mark) behind j
    passes_behind j below stands = subst (λ b. is_marked anchor.mark b ≡ true) (sym (behind_byte j below)) stands.marked

    pub last_start : (r : Option ℕ) → IsLastByte (is_marked anchor.mark) behind r
        → IsLast (Stands anchor text) 0 before r
    last_start None h = λ j from below stands. h j from (within_behind j below stands.within)
        (passes_behind j below stands)
    last_start (Some k) h =
        let place = behind_length k h.0.high in (
          record {
            low = omega arith;
            high = place.0;
            after = λ j from below stands. h.0.after j from (within_behind j below stands.within)
                (passes_behind j below stands);
          },
          record {
            within = place.1;
            marked = subst (λ b. is_marked anchor.mark b ≡ true) (behind_byte k place.0) h.1;
          },
        )
