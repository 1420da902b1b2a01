-- What is read of a text.
use Rattle.teco_expansion.proofs.Prelude.{◌≡◌, ℕ, ◌<◌, List, [], length, drop, true, Some, None, Ok, nat_le, refl, ap}
use Rattle.teco_expansion.proofs.Prelude.{◌∙◌, arith, le-leb, drop_all, Whole, reading_at, Element, blank_end}
use Rattle.teco_expansion.proofs.Prelude.{element_at, element_at-again, skip_of, skip_at}
use Rattle.teco_model.specs.Element.{blank_len}
use Rattle.teco_model.specs.Searching.{is_leave}
use Rattle.teco_model.specs.Skip.{no_skip}

-- behind the end nothing is read
pub none_behind : (text : List ℕ) (at : ℕ) → length text < at → element_at text at ≡ Ok None
unfolding element_at
none_behind text at l =
    let past : nat_le (length text) (blank_end text at) ≡ true =
    le-leb (length text) (blank_end text at) (omega arith) in
    rw (element_at, past) refl

-- nor are there blanks
pub no_blanks_behind : (text : List ℕ) (at : ℕ) → length text < at → blank_end text at ≡ at
unfolding blank_len
no_blanks_behind text at l =
    let none : drop at text ≡ [] = drop_all at text (omega arith) in
    rw none (omega arith)

pub no_skip_behind : (text : List ℕ) (at : ℕ) → length text < at → skip_at text at ≡ no_skip
unfolding reading_at
no_skip_behind text at l =
    let none = none_behind text at l in
    rw (reading_at, none) refl

-- a search counts as having a colon by what stands behind the blanks
pub leaves_again : (text : List ℕ) (at behind : ℕ) → behind ≡ blank_end text at
    → is_leave (element_at text behind) ≡ is_leave (element_at text at)
leaves_again text at behind h = ap (λ place. is_leave (element_at text place)) h
    ∙ ap is_leave (element_at-again text at)

-- an element is read ahead as it is read
pub ahead_of_element : (text : List ℕ) (at : ℕ) (e : Element) → element_at text at ≡ Ok (Some e)
    → reading_at text at ≡ Some (Whole e)
unfolding reading_at
ahead_of_element text at e h = rw (reading_at, h) refl

-- the skip at a place is that of the element there
pub skip_of_element : (text : List ℕ) (at : ℕ) (e : Element) → element_at text at ≡ Ok (Some e)
    → skip_at text at ≡ skip_of text (Whole e)
unfolding reading_at
skip_of_element text at e h = rw (reading_at, h) refl
