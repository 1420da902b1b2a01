-- What the header of a library says.
use Rattle.std.proofs.Common.{◌≡◌, ◌≢◌, ℕ, List, [], ◌∷◌, ◌++◌, length, Bool, true, false, ◌==◌, ◌&&◌, Option, Some}
use Rattle.std.proofs.Common.{None, MatchOption, refl, sym, ap, ◌∙◌, arith, append-nil}
use Rattle.std.specs.Prelude.{codes, if◌then◌else◌}
use Rattle.std.specs.Fmt.{decimal}
use Rattle.std.specs.Option.{option_and_then}
use Rattle.std.proofs.lemmas.Bool.{false≢true}
use Rattle.std.proofs.lemmas.Bool.Decides.{nat_tests}
use Rattle.std.proofs.lemmas.List.Elements.{All-nil}
use Rattle.teco_poly.specs.Reading.{IsNumberAt}
use Rattle.teco_poly.proofs.Front.{one_number}
use Rattle.teco_model.specs.Ahead.{Reading, Whole, Faulty, reading_at, readings}
use Rattle.teco_model.proofs.Ahead.{readings-some, readings-none}
use Rattle.teco_library.specs.Header.{Declared, HasNoOtherHeader, IsDeclared, first_comment, header_text, header_word}
use Rattle.teco_library.specs.Header.{is_comment}
use Rattle.teco_library.specs.Library.{IsFirstNotAllowed, is_allowed}
use Rattle.teco_model.specs.Macros.{ArgumentRange, IsArgumentRange, is_range}
use Rattle.teco_verifier.specs.certificate.ArgumentText.{range_text}

-- a text is that of a range
module _ (text : List ℕ) (range : ArgumentRange) (is : IsArgumentRange range) (e : text ≡ range_text range) where
  pub low_at : IsNumberAt text range.low (codes " " ++ decimal range.high)
  low_at = record { small = omega (arith, is.ordered, is.small); spelled = e; ends = refl }

  high_at : IsNumberAt (decimal range.high) range.high []
  high_at = record { small = omega (arith, is.small); spelled = sym (append-nil (decimal range.high)); ends = tt }

  -- where a number is read, it is the least, and then stands what is behind it
  module _ (low : ℕ) (rest : List ℕ) (read : IsNumberAt text low rest) where
    low_read : (low ≡ range.low) × (rest ≡ codes " " ++ decimal range.high)
    low_read = one_number text low range.low rest (codes " " ++ decimal range.high) read low_at

    pub low_is : low ≡ range.low
    low_is = low_read.0

    pub blank_stands : rest ≡ codes " " ++ decimal range.high
    blank_stands = low_read.1

    module _ (numbers : List ℕ) (stands : rest ≡ codes " " ++ numbers) where
      behind : numbers ≡ decimal range.high
      behind = let both : codes " " ++ numbers ≡ codes " " ++ decimal range.high = sym stands ∙ blank_stands in cc

      pub high_there : IsNumberAt numbers range.high []
      high_there = record { small = high_at.small; spelled = behind ∙ high_at.spelled; ends = tt }

      pub high_read : (high : ℕ) (last : List ℕ) → IsNumberAt numbers high last → (high ≡ range.high) × (last ≡ [])
      high_read high last read = one_number numbers high range.high last [] read high_there

-- what is_range tests
tested : (range : ArgumentRange) → is_range range ≡ true → IsArgumentRange range
tested range h = record { ordered = grind (arith, nat_tests); small = grind (arith, nat_tests) }

passes : (range : ArgumentRange) → IsArgumentRange range → is_range range ≡ true
passes range is = let o = is.ordered in let s = is.small in grind (arith, nat_tests)

-- a text with two numbers is that of the range between them, if there is one
module _ (text numbers rest last : List ℕ) (low high : ℕ) (first : IsNumberAt text low rest)
    (stands : rest ≡ codes " " ++ numbers)
    (second : IsNumberAt numbers high last) where
  pub range_read : (result : Option ArgumentRange) → last ≡ []
      → result ≡ (if is_range (record { low = low; high = high }) then Some (record { low = low; high = high }) else
      None) →
      MatchOption result ((range : ArgumentRange) → IsArgumentRange range → text ≢ range_text range)
      (λ range. IsArgumentRange range × (text ≡ range_text range))
  range_read result none is = among (is_range (record { low = low; high = high })) refl result is
    where
      spelled : text ≡ decimal low ++ (codes " " ++ decimal high)
      spelled = first.spelled ∙ ap (λ more. decimal low ++ more)
          (stands ∙ ap (λ more. codes " " ++ more) (second.spelled ∙ rw none (append-nil (decimal high))))

      other : (range : ArgumentRange) → IsArgumentRange range → text ≡ range_text range
          → is_range (record { low = low; high = high }) ≡ true
      other range is e =
          let one = low_is text range is e low rest first in
          let two = (high_read text range is e low rest first numbers stands high last second).0 in
          rw (one, two) (passes range is)

      among : (b : Bool) → is_range (record { low = low; high = high }) ≡ b → (result : Option ArgumentRange)
          → result ≡ (if b then Some (record { low = low; high = high }) else None) →
          MatchOption result ((range : ArgumentRange) → IsArgumentRange range → text ≢ range_text range)
          (λ range. IsArgumentRange range × (text ≡ range_text range))
      among true was result h = rw h (tested (record { low = low; high = high }) was, spelled)
      among false was result h = rw h (λ range is e. absurd (false≢true (sym was ∙ other range is e)))

  pub more_behind : false ≡ (length last == 0) → (range : ArgumentRange) → IsArgumentRange range
      → text ≢ range_text range
  more_behind some range is e =
      let none = (high_read text range is e low rest first numbers stands high last second).1 in
      absurd (false≢true (rw none at some))

-- the first comment, by what is read first
pub first_read : (file : List ℕ) (r : Option Reading) → reading_at file 0 ≡ r
    → first_comment (readings file 0) ≡ option_and_then (λ (r : Reading). first_comment (r ∷ [])) r
first_read file None h = ap first_comment (readings-none file 0 h)
first_read file (Some (Whole e)) h = ap first_comment (readings-some file 0 (Whole e) h)
first_read file (Some (Faulty c place next)) h = ap first_comment (readings-some file 0 (Faulty c place next) h)

-- a header that declares nothing
both : (a b : Bool) → a && b ≡ true → b ≡ true
both true b h = h
both false b h = absurd (cc)

zero_is : (n : ℕ) → (n == 0) ≡ true → n ≡ 0
zero_is n h = grind (arith, nat_tests)

pub not_declared : (file text rest : List ℕ) → first_comment (readings file 0) ≡ Some text → text ≡ header_word ++ rest
    → ((declared : Declared) → IsDeclared declared → text ≢ header_text declared) → IsFirstNotAllowed file 0
not_declared file text rest h begins none = among (readings file 0) refl h
  where
    refuses : (rs : List Reading) → first_comment rs ≡ Some text → ¬ HasNoOtherHeader rs
    refuses rs h (None, d) = d text h rest begins
    refuses rs h (Some declared, d) =
        none declared d.0 (let same : Some text ≡ Some (header_text declared) = sym h ∙ d.1 in cc)

    among : (rs : List Reading) → readings file 0 ≡ rs → first_comment rs ≡ Some text → IsFirstNotAllowed file 0
    among [] was h = absurd (cc)
    among (Faulty c place next ∷ behind) was h = absurd (cc)
    among (Whole e ∷ behind) was h = by_test (is_comment e.kind && (e.place == 0)) refl h
      where
        by_test : (b : Bool) → (is_comment e.kind && (e.place == 0)) ≡ b
            → Path (Option (List ℕ)) (if b then Some e.text else None) (Some text) → IsFirstNotAllowed file 0
        by_test false is s = absurd (cc)
        by_test true is s = record {
          before = [];
          reading = Whole e;
          behind = behind;
          read = was;
          stands = zero_is e.place (both (is_comment e.kind) (e.place == 0) is);
          allowed = record {
            allowed = All-nil (λ x. is_allowed x ≡ true);
            once = λ q l. omega arith;
            header = (None, λ text h. absurd (cc));
          };
          refused = λ a. refuses (Whole e ∷ []) h a.header;
        }
