-- Line ends as a search finds them, and counts among their places.
use Rattle.std.proofs.Common.{◌≡◌, ℕ, zero, suc, ◌+◌, ◌-◌, ◌<◌, Bool, true, false, cond, List, [], ◌∷◌, ◌++◌, length}
use Rattle.std.proofs.Common.{map, drop, get_or, reverse, All, Result, Ok, Err, refl, sym, ap, ◌∙◌, arith}
use Rattle.std.proofs.lemmas.List.{drop_all, drop_more, map-append, reverse-append}
use Rattle.std.proofs.lemmas.List.Elements.{All-cons, All-head, All-tail}
use Rattle.memchr.specs.Find.{is_byte3, places, places_from}
use Rattle.memchr.proofs.lemmas.CallerLemmas.{All-places}
use Rattle.teco_base.specs.Bytes.{is_line_end}
use Rattle.teco_base.specs.Lines.{line_places_from}
use Rattle.teco_text.specs.Counted.{Counted}

-- the line ends of a piece
abbrev pub line_ends : List ℕ → List ℕ
line_ends piece = places (is_byte3 10 11 12) piece

-- the places behind some of them, in a piece that begins at a place
abbrev pub places_behind : ℕ → List ℕ → List ℕ
places_behind at ends = map (λ i. at + i + 1) ends

behind-one : (b : Bool) (at i : ℕ) (ends later : List ℕ) → places_behind at ends ≡ later
    → places_behind at (cond b (i ∷ ends) ends) ≡ cond b ((at + i + 1) ∷ later) later
behind-one true at i ends later same = ap (λ t. (at + i + 1) ∷ t) same
behind-one false at i ends later same = same

behind-from : (at i n : ℕ) (piece : List ℕ) → i + n ≡ length piece
    → places_behind at (places_from (is_byte3 10 11 12) piece i n) ≡ line_places_from (at + i) (drop i piece)
unfolding places_from
behind-from at i zero piece whole = sym (ap (line_places_from (at + i)) (drop_all i piece (omega arith)))
behind-from at i (suc n) piece whole =
    let next : at + (i + 1) ≡ at + i + 1 = omega arith in
    let later = behind-from at (i + 1) n piece (omega arith) ∙ ap (λ k. line_places_from k (drop (i + 1) piece)) next in
    behind-one (is_line_end (get_or piece i 0)) at i _ _ later
    ∙ ap (line_places_from (at + i)) (sym (drop_more piece i 0 (omega arith)))

-- the line places are those behind the line ends
pub places-behind : (at : ℕ) (piece : List ℕ) → places_behind at (line_ends piece) ≡ line_places_from at piece
places-behind at piece =
    let begin : at + 0 ≡ at = omega arith in
    behind-from at 0 (length piece - 0) piece (omega arith) ∙ ap (λ k. line_places_from k piece) begin

-- line ends are characters of their piece
abbrev pub AreInside : List ℕ → List ℕ → Type 0
AreInside piece ends = All (λ i. i < length piece) ends

pub ends-inside : (piece : List ℕ) → AreInside piece (line_ends piece)
ends-inside piece = λ k d within. (All-places (is_byte3 10 11 12) piece k d within).0

pub last-inside : (piece ends : List ℕ) (i : ℕ) → AreInside piece (ends ++ i ∷ []) → AreInside piece (i ∷ ends)
last-inside piece [] i inside = inside
last-inside piece (x ∷ ends) i inside =
    let P = λ (k : ℕ). k < length piece in
    let deeper = last-inside piece ends i (All-tail P x (ends ++ i ∷ []) inside) in
    All-cons P i (x ∷ ends) (All-head P i ends deeper)
    (All-cons P x ends (All-head P x (ends ++ i ∷ []) inside) (All-tail P i ends deeper))

-- places counted from the last end on
pub behind-last : (at : ℕ) (ends : List ℕ) (i : ℕ)
    → reverse (places_behind at (ends ++ i ∷ [])) ≡ (at + i + 1) ∷ reverse (places_behind at ends)
behind-last at ends i =
    ap reverse (map-append (λ k. at + k + 1) ends (i ∷ [])) ∙ reverse-append (places_behind at ends) ((at + i + 1) ∷ [])

-- a count that goes on among the places to come is that of them all
abbrev pub GoesOn : List ℕ → ℕ → List ℕ → ℕ → Type 0
GoesOn places count coming left = (r : Result ℕ ℕ) → Counted coming left r → Counted places count r

module _ (places : List ℕ) (count left : ℕ) where
  -- the next place is the last that is counted,
  pub ends-here : (place : ℕ) (coming : List ℕ) → GoesOn places count (place ∷ coming) left → left - 1 ≡ 0
      → Counted places count (Ok place)
  ends-here place coming on last = on (Ok place) (rw last refl)

  -- or it is passed,
  pub goes-past : (place : ℕ) (coming : List ℕ) → GoesOn places count (place ∷ coming) left → 0 < left - 1
      → GoesOn places count coming (left - 1)
  goes-past place coming on more (Ok entry) found =
      let next : left - 1 ≡ suc (left - 1 - 1) = omega arith in
      on (Ok entry) (rw next found)
  goes-past place coming on more (Err missing) found = on (Err missing) (found.0, omega (arith, found.1))

  -- or none comes
  pub falls-short : GoesOn places count [] left → 0 < left → Counted places count (Err left)
  falls-short on some = on (Err left) (some, omega arith)
