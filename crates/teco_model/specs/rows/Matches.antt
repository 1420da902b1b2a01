-- Search texts and searches worked by hand, as what the definition computes.
use Rattle.std.specs.Prelude.{ℕ, ◌≡◌, List, [], ◌∷◌, ◌++◌, codes, Option, Some, None, Result, Ok, Err, Bool, true}
use Rattle.std.specs.Prelude.{false}
use Rattle.teco_base.specs.declared.code.Code.{Code}
use Rattle.teco_base.specs.declared.code.Code.TheVariants as code
use Rattle.teco_model.specs.Checked.{◌>>=◌}
use Rattle.teco_model.specs.Match.{here, forward, backward}
use Rattle.teco_model.specs.Pattern.{Pattern, pattern, minimum}
use Rattle.teco_model.specs.Registers.{Registers, empty_registers, with_text}
use Rattle.teco_model.specs.declared.pattern.Span.{Span}

-- register A holds a text, and the others nothing
abbrev pub registers : Registers
registers = with_text 0 (codes "b.") empty_registers

-- what a way of searching finds
abbrev pub answer_of : (Pattern → Option Span) → Bool → List ℕ → Result (Option Span) Code
answer_of way exact search = do
  p ← pattern registers exact search
  Ok (way p)

-- the first match in a text, in either case or exact
abbrev pub first_match : List ℕ → List ℕ → Result (Option Span) Code
first_match search text = answer_of (λ p. forward p text 0 1) false search

abbrev pub exact_match : List ℕ → List ℕ → Result (Option Span) Code
exact_match search text = answer_of (λ p. forward p text 0 1) true search

abbrev pub span : ℕ → ℕ → Result (Option Span) Code
span start end = Ok (Some (record { start = start; end = end }))

abbrev pub no_match : Result (Option Span) Code
no_match = Ok None

-- each row's match, code or least length
pub record MatchRows : Type 0 where
  -- the elements, one after another
  pub letter_digit_blanks : first_match (codes "^EA^ED^ESb") (codes "ax1  b") ≡ span 1 6
  pub nothing_tried_again : first_match (codes "^ES ") (codes "  b") ≡ no_match
  pub some_blank : first_match (codes "^ESb") (codes "ab") ≡ no_match
  pub any : first_match (codes "a^Xb") (codes "a" ++ 10 ∷ codes "b") ≡ span 0 3
  pub separator : first_match (codes "a^Sb") (codes "a1ba.b") ≡ span 3 6
  pub no_digit : first_match (codes "^N^ED") (codes "ab1") ≡ span 0 1
  pub no_letter_a : first_match (codes "^Na") (codes "Aab") ≡ span 2 3
  pub no_quoted_caret : first_match (codes "^N^Q^") (codes "^a") ≡ span 1 2
  pub none_is_not_any : first_match (codes "^N^X") (codes "abc") ≡ no_match
  pub no_separator : first_match (codes "^N^S") (codes ".a") ≡ span 1 2
  pub quoted : first_match (codes "^Q^Q") (codes "Q^Q") ≡ span 1 3
  pub letter_or_digit : first_match (codes "^ER") (codes ".7") ≡ span 1 2
  pub lower : first_match (codes "^ev") (codes "Xx") ≡ span 1 2
  pub upper : first_match (codes "^EW") (codes "xX") ≡ span 1 2
  pub line_end : first_match (codes "^EL") (13 ∷ 12 ∷ []) ≡ span 1 2
  pub register_text : first_match (codes "^EQA") (codes "ab.") ≡ span 1 3
  pub other_control : first_match (codes "^A") (97 ∷ 1 ∷ []) ≡ span 1 2
  pub no_elements : first_match [] (codes "a") ≡ no_match
  pub empty_register : first_match (codes "^EQ0") (codes "a") ≡ no_match
  -- case concerns literal letters alone
  pub either_case : first_match (codes "abc") (codes "ABC") ≡ span 0 3
  pub same_case : exact_match (codes "abc") (codes "ABC") ≡ no_match
  pub either_case_of_register : first_match (codes "^EQA") (codes "aB.") ≡ span 1 3
  pub no_exact_letter_a : exact_match (codes "^Na") (codes "Aab") ≡ span 0 1
  pub no_case : first_match (codes "[") (codes "{") ≡ no_match
  -- the nth match from a place on, back from a place, and the match at a place
  pub second : answer_of (λ p. forward p (codes "abcab") 0 2) false (codes "ab") ≡ span 3 5
  pub third : answer_of (λ p. forward p (codes "abcab") 0 3) false (codes "ab") ≡ no_match
  pub no_overlap : answer_of (λ p. forward p (codes "aaaa") 0 2) false (codes "aa") ≡ span 2 4
  pub second_back : answer_of (λ p. backward p (codes "abab") 4 2) false (codes "ab") ≡ span 0 2
  pub overlap_back : answer_of (λ p. backward p (codes "aaaa") 3 2) false (codes "aa") ≡ span 1 3
  pub fourth_back : answer_of (λ p. backward p (codes "aaaa") 3 4) false (codes "aa") ≡ no_match
  pub at_the_place : answer_of (λ p. here p (codes "abab") 2) false (codes "ab") ≡ span 2 4
  pub not_at_the_place : answer_of (λ p. here p (codes "abab") 0) false (codes "b") ≡ no_match
  -- what is no search text
  pub lone_caret : first_match (codes "^") [] ≡ Err code.Ice
  pub caret_and_blank : first_match (codes "^ ") [] ≡ Err code.Ice
  pub no_such_control : first_match (codes "^E?") [] ≡ Err code.Ice
  pub cut_off_n : first_match (codes "^N") [] ≡ Err code.Ice
  pub n_of_n : first_match (codes "^N^N") [] ≡ Err code.Ice
  pub n_of_blanks : first_match (codes "^N^ES") [] ≡ Err code.Ice
  pub n_of_register : first_match (codes "^N^EQA") [] ≡ Err code.Ice
  pub cut_off_q : first_match (codes "^Q") [] ≡ Err code.Ice
  pub no_register : first_match (codes "ab^EQ?^") [] ≡ Err code.Iqn
  pub first_fault : first_match (codes "ab^^N^EQ?") [] ≡ Err code.Iqn
  -- least lengths
  pub least : minimum (codes "^Naa^Q^^ES") ≡ Ok (Some 4)
  pub least_of_none : minimum [] ≡ Ok (Some 0)
  pub least_of_register : minimum (codes "a^EQAb") ≡ Ok None
