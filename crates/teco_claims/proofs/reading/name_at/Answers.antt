use Rattle.teco_claims.proofs.Prelude.{◌≡◌, ◌<◌, ◌^◌, ℕ, true, false, Option, Some, None, List, [], ◌∷◌, ◌++◌, subst}
use Rattle.teco_claims.proofs.Prelude.{sym, ◌∙◌, append_assoc, refl, decimal, codes, IfSome, ClaimMeasure, One, Number}
use Rattle.teco_claims.proofs.Prelude.{Length, Turns, PushedNumber, PushedLength, Steps, Pointer, Size, Held, LineEnd}
use Rattle.teco_claims.proofs.Prelude.{LineStart, LastLength, Typed, EntryHeld, EndsTerm, name_text, EndsNumber}
use Rattle.teco_base.specs.Register.{register_name}
use Rattle.teco_base.specs.declared.TheConstants.{REGISTERS}
use Rattle.teco_claims.specs.declared.term.ClaimSingle.{ClaimSingle}
use Rattle.teco_claims.specs.Front.{is_end, single_of}
use Rattle.teco_claims.specs.Spelled.{IsMeasure}
use Rattle.teco_claims.specs.Text.{single_text}
use Rattle.teco_claims.proofs.Parts.{first_byte, clash, apart_part, part_number, term_apart}
use Rattle.teco_claims.proofs.reading.name_at.Goals as goal

other_bytes : {c d : ℕ} {x y : List ℕ} → c ∷ x ≡ d ∷ y → x ≡ y
other_bytes e = cc

-- a space or an LF begins no name
module _ (letter : ℕ) (words : List ℕ) where
  no_name : (d : ℕ) (behind : List ℕ) → is_end letter ≡ true → is_end d ≡ false → letter ∷ words ≡ d ∷ behind → ⊥
  no_name d behind end other e =
      let same : letter ≡ d = first_byte e in clash (is_end d) (subst (λ l. is_end l ≡ true) same end) other

  blank_read : (m : Option ClaimMeasure) (rest : List ℕ) → is_end letter ≡ true → letter ∷ words ≡ name_text m ++ rest
      → (None ≡ m) × (letter ∷ words ≡ rest)
  blank_read None rest end e = (refl, e)
  blank_read (Some (One Steps)) rest end e = absurd (no_name 99 rest end refl e)
  blank_read (Some (One Pointer)) rest end e = absurd (no_name 112 rest end refl e)
  blank_read (Some (One Size)) rest end e = absurd (no_name 122 rest end refl e)
  blank_read (Some (One Held)) rest end e = absurd (no_name 104 rest end refl e)
  blank_read (Some (One LineEnd)) rest end e = absurd (no_name 101 rest end refl e)
  blank_read (Some (One LineStart)) rest end e = absurd (no_name 115 rest end refl e)
  blank_read (Some (One LastLength)) rest end e = absurd (no_name 109 rest end refl e)
  blank_read (Some (One Typed)) rest end e = absurd (no_name 111 rest end refl e)
  blank_read (Some (One EntryHeld)) rest end e = absurd (no_name 105 rest end refl e)
  blank_read (Some (Number r)) rest end e = absurd (no_name 110 (register_name r ∷ rest) end refl e)
  blank_read (Some (Length r)) rest end e = absurd (no_name 116 (register_name r ∷ rest) end refl e)
  blank_read (Some (Turns n)) rest end e = absurd (no_name 114 (decimal n ++ rest) end refl e)
  blank_read (Some (PushedNumber n)) rest end e = absurd (no_name 107 ((decimal n ++ codes "n") ++ rest) end refl e)
  blank_read (Some (PushedLength n)) rest end e = absurd (no_name 107 ((decimal n ++ codes "t") ++ rest) end refl e)

-- the letter of a measure that has one to itself
module _ (letter : ℕ) (words : List ℕ) (other : single_of letter ≡ None) where
  no_letter : (single : ClaimSingle) (d : ℕ) (rest : List ℕ) → single_of d ≡ Some single → letter ∷ words ≡ d ∷ rest → ⊥
  no_letter single d rest is e =
      let same : letter ≡ d = first_byte e in
      let none : single_of d ≡ None = subst (λ l. single_of l ≡ None) same other in
      absurd (cc)

  no_single : (single : ClaimSingle) (rest : List ℕ) → letter ∷ words ≡ single_text single ++ rest → ⊥
  no_single Steps rest = no_letter Steps 99 rest refl
  no_single Pointer rest = no_letter Pointer 112 rest refl
  no_single Size rest = no_letter Size 122 rest refl
  no_single Held rest = no_letter Held 104 rest refl
  no_single LineEnd rest = no_letter LineEnd 101 rest refl
  no_single LineStart rest = no_letter LineStart 115 rest refl
  no_single LastLength rest = no_letter LastLength 109 rest refl
  no_single Typed rest = no_letter Typed 111 rest refl
  no_single EntryHeld rest = no_letter EntryHeld 105 rest refl

  -- the measures that have a number or a register are read by what stands behind the letter
  module _ (read : Option ClaimMeasure) (behind : List ℕ)
      (number : (r : ℕ) (rest : List ℕ) → r < REGISTERS → letter ≡ 110 → words ≡ register_name r ∷ rest
      → (read ≡ Some (Number r)) × (behind ≡ rest))
      (length : (r : ℕ) (rest : List ℕ) → r < REGISTERS → letter ≡ 116 → words ≡ register_name r ∷ rest
      → (read ≡ Some (Length r)) × (behind ≡ rest))
      (turns : (n : ℕ) (rest : List ℕ) → n < 2 ^ 32 → EndsNumber rest → letter ≡ 114 → words ≡ decimal n ++ rest
      → (read ≡ Some (Turns n)) × (behind ≡ rest))
      (pushed_number : (n : ℕ) (rest : List ℕ) → n < 2 ^ 32 → letter ≡ 107 → words ≡ decimal n ++ (codes "n" ++ rest)
      → (read ≡ Some (PushedNumber n)) × (behind ≡ rest))
      (pushed_length : (n : ℕ) (rest : List ℕ) → n < 2 ^ 32 → letter ≡ 107 → words ≡ decimal n ++ (codes "t" ++ rest)
      → (read ≡ Some (PushedLength n)) × (behind ≡ rest)) where
    numbered_read : (m : Option ClaimMeasure) (rest : List ℕ) → is_end letter ≡ false → IfSome m IsMeasure
        → EndsTerm rest → letter ∷ words ≡ name_text m ++ rest → (read ≡ m) × (behind ≡ rest)
    numbered_read None [] apart is ends e = absurd ends
    numbered_read None (c ∷ rest) apart is ends e =
        let same : letter ≡ c = first_byte e in
        absurd (clash (is_end c) ends (subst (λ l. is_end l ≡ false) same apart))
    numbered_read (Some (One single)) rest apart is ends e = absurd (no_single single rest e)
    numbered_read (Some (Number r)) rest apart is ends e = number r rest is (first_byte e) (other_bytes e)
    numbered_read (Some (Length r)) rest apart is ends e = length r rest is (first_byte e) (other_bytes e)
    numbered_read (Some (Turns n)) rest apart is ends e =
        turns n rest is (part_number rest (apart_part rest (term_apart rest ends))) (first_byte e) (other_bytes e)
    numbered_read (Some (PushedNumber n)) rest apart is ends e =
        pushed_number n rest is (first_byte e) (other_bytes e ∙ append_assoc (decimal n) (codes "n") rest)
    numbered_read (Some (PushedLength n)) rest apart is ends e =
        pushed_length n rest is (first_byte e) (other_bytes e ∙ append_assoc (decimal n) (codes "t") rest)

pub returns-then-is_end-clause-text : goal.returns-then-is_end-clause-text
returns-then-is_end-clause-text c = λ m rest is ends e.
    let stands = sym c.in-Some.ensures.cases.0 ∙ e in
    let none =
    blank_read c.in-Some.letter.now c.in-Some.rest.now m rest (sym c.is_end.ensures ∙ c.if-is_end.true) stands in
    (none.0, c.in-Some.ensures.cases.0 ∙ none.1)

pub returns-in-None-clause-text : goal.returns-in-None-clause-text
returns-in-None-clause-text c = λ m rest is ends e.
    numbered_read c.in-Some.letter.now c.in-Some.rest.now (sym c.single.ensures ∙ c.in-None.is)
    c.numbered_at.result.0 c.numbered_at.result.1.now
    c.numbered_at.ensures.number c.numbered_at.ensures.length c.numbered_at.ensures.turns
    c.numbered_at.ensures.pushed_number c.numbered_at.ensures.pushed_length m rest
    (sym c.is_end.ensures ∙ c.if-is_end.false) is ends (sym c.in-Some.ensures.cases.0 ∙ e)
