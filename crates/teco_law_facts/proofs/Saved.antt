-- Saved numbers: where the buffer is no shorter than it was they are still places of it.
use Rattle.teco_law_facts.proofs.Prelude.{◌≡◌, ℕ, zero, suc, ◌+◌, ◌≤◌, arith, refl, sym, subst, ap, ◌∙◌, ℤ, List, []}
use Rattle.teco_law_facts.proofs.Prelude.{◌∷◌, length, get_or, replicate, Bool, true, false, cond, ◌&&◌, IsTrue, ints}
use Rattle.teco_law_facts.proofs.Prelude.{REGISTERS, Pair, empty_pair, covers_saved, AreSaved, none_saved, joined_saved}
use Rattle.teco_law_facts.proofs.Prelude.{saved_after, IsPlaceIf}
use Rattle.std.proofs.lemmas.List.{length-replicate}
use Rattle.teco_law_facts.proofs.Each.{each_at, each_length}
use Rattle.teco_verifier.specs.facts.Bodies.{unsaved_where}

-- all is ended, or the buffer is no shorter
abbrev pub Widens : Bool → ℕ → ℕ → ℕ → ℕ → Type 0
Widens ends fore back fore' back' = ends ≡ false → fore + back ≤ fore' + back'

-- what is known of a pair's number
abbrev pub IsSaved : ℕ → ℕ → Bool → Pair → Type 0
IsSaved fore back s pair = IsPlaceIf s fore back pair.number

place_wider : (saved : Bool) (fore back fore' back' : ℕ) (v : ℤ) → fore + back ≤ fore' + back'
    → IsPlaceIf saved fore back v → IsPlaceIf saved fore' back' v
place_wider true fore back fore' back' v w h = (h.0, omega (arith, ints, h.1))
place_wider false fore back fore' back' v w h = tt

pub place_after : (ends saved : Bool) (fore back fore' back' : ℕ) (v : ℤ) → Widens ends fore back fore' back'
    → IsPlaceIf saved fore back v → IsPlaceIf (cond ends false saved) fore' back' v
place_after true saved fore back fore' back' v w h = tt
place_after false saved fore back fore' back' v w h = place_wider saved fore back fore' back' v (w refl) h

pub place_covered : (s e : Bool) (fore back : ℕ) (v : ℤ) → IsTrue (covers_saved s e) → IsPlaceIf e fore back v
    → IsPlaceIf s fore back v
place_covered true true fore back v c h = h
place_covered true false fore back v c h = absurd (cc)
place_covered false e fore back v c h = tt

-- ---- of all registers
each_wider : (saved : List Bool) (pairs : List Pair) (fore back fore' back' : ℕ) → fore + back ≤ fore' + back'
    → AreSaved fore back saved pairs → AreSaved fore' back' saved pairs
each_wider [] [] fore back fore' back' w h = tt
each_wider (s ∷ saved) (pair ∷ pairs) fore back fore' back' w h =
    (place_wider s fore back fore' back' pair.number w h.0, each_wider saved pairs fore back fore' back' w h.1)
each_wider [] (pair ∷ pairs) fore back fore' back' w h = absurd h
each_wider (s ∷ saved) [] fore back fore' back' w h = absurd h

none_of : (fore back k : ℕ) (pairs : List Pair) → length pairs ≡ k → AreSaved fore back (replicate k false) pairs
none_of fore back zero [] l = tt
none_of fore back (suc k) (pair ∷ pairs) l = (tt, none_of fore back k pairs (omega arith))
none_of fore back zero (pair ∷ pairs) l = absurd (omega arith)
none_of fore back (suc k) [] l = absurd (omega arith)

pub none_are : (fore back : ℕ) (pairs : List Pair) → length pairs ≡ REGISTERS → AreSaved fore back none_saved pairs
none_are fore back pairs l = none_of fore back REGISTERS pairs l

pub saved_count : (fore back : ℕ) (saved : List Bool) (pairs : List Pair) → AreSaved fore back saved pairs
    → length saved ≡ length pairs
saved_count fore back saved pairs h = each_length (IsSaved fore back) saved pairs h

-- where none was saved none is
pub none_again : (fore back fore' back' : ℕ) (saved : List Bool) (pairs : List Pair) → saved ≡ none_saved
    → AreSaved fore back saved pairs → AreSaved fore' back' saved pairs
none_again fore back fore' back' saved pairs e h =
    subst (λ saved. AreSaved fore' back' saved pairs) (sym e)
    (none_are fore' back' pairs (sym (saved_count fore back saved pairs h) ∙ ap length e
    ∙ length-replicate REGISTERS false))

pub saved_after_are : (ends : Bool) (fore back fore' back' : ℕ) (saved : List Bool) (pairs : List Pair)
    → length pairs ≡ REGISTERS → Widens ends fore back fore' back' → AreSaved fore back saved pairs
    → AreSaved fore' back' (saved_after ends saved) pairs
saved_after_are true fore back fore' back' saved pairs l w h = none_are fore' back' pairs l
saved_after_are false fore back fore' back' saved pairs l w h = each_wider saved pairs fore back fore' back' (w refl) h

pub length_after : (ends : Bool) (saved : List Bool) → length saved ≡ REGISTERS
    → length (saved_after ends saved) ≡ REGISTERS
length_after true saved l = length-replicate REGISTERS false
length_after false saved l = l

-- at a body's start
unsaved_one : (b s : Bool) (fore back : ℕ) (v : ℤ) → IsPlaceIf s fore back v → IsPlaceIf (cond b false s) fore back v
unsaved_one true s fore back v h = tt
unsaved_one false s fore back v h = h

pub unsaved_are : (fore back : ℕ) (written saved : List Bool) (pairs : List Pair) → AreSaved fore back saved pairs
    → AreSaved fore back (unsaved_where written saved) pairs
unsaved_are fore back [] saved pairs h = h
unsaved_are fore back (b ∷ written) [] pairs h = h
unsaved_are fore back (b ∷ written) (s ∷ saved) (pair ∷ pairs) h =
    (unsaved_one b s fore back pair.number h.0, unsaved_are fore back written saved pairs h.1)
unsaved_are fore back (b ∷ written) (s ∷ saved) [] h = absurd h

-- where ways meet
both_saved : (s t : Bool) (fore back : ℕ) (v : ℤ) → IsPlaceIf s fore back v → IsPlaceIf (s && t) fore back v
both_saved true true fore back v h = h
both_saved true false fore back v h = tt
both_saved false t fore back v h = tt

both_saved_too : (s t : Bool) (fore back : ℕ) (v : ℤ) → IsPlaceIf t fore back v → IsPlaceIf (s && t) fore back v
both_saved_too true t fore back v h = h
both_saved_too false t fore back v h = tt

pub saved_left : (fore back : ℕ) (ss ts : List Bool) (pairs : List Pair) → length ss ≡ length ts
    → AreSaved fore back ss pairs → AreSaved fore back (joined_saved ss ts) pairs
saved_left fore back [] [] pairs l h = h
saved_left fore back (s ∷ ss) (t ∷ ts) (pair ∷ pairs) l h =
    (both_saved s t fore back pair.number h.0, saved_left fore back ss ts pairs (omega arith) h.1)
saved_left fore back (s ∷ ss) (t ∷ ts) [] l h = absurd h
saved_left fore back [] (t ∷ ts) pairs l h = absurd (omega arith)
saved_left fore back (s ∷ ss) [] pairs l h = absurd (omega arith)

pub saved_right : (fore back : ℕ) (ss ts : List Bool) (pairs : List Pair) → length ss ≡ length ts
    → AreSaved fore back ts pairs → AreSaved fore back (joined_saved ss ts) pairs
saved_right fore back [] [] pairs l h = h
saved_right fore back (s ∷ ss) (t ∷ ts) (pair ∷ pairs) l h =
    (both_saved_too s t fore back pair.number h.0, saved_right fore back ss ts pairs (omega arith) h.1)
saved_right fore back (s ∷ ss) (t ∷ ts) [] l h = absurd h
saved_right fore back [] (t ∷ ts) pairs l h = absurd (omega arith)
saved_right fore back (s ∷ ss) [] pairs l h = absurd (omega arith)

-- at a place
pub saved_at : (fore back : ℕ) (saved : List Bool) (pairs : List Pair) → AreSaved fore back saved pairs → (r : ℕ)
    → IsPlaceIf (get_or saved r false) fore back (get_or pairs r empty_pair).number
saved_at fore back saved pairs h r = each_at (IsSaved fore back) saved pairs false empty_pair h tt r
