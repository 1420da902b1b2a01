-- Numbers that are read and written.
use Rattle.teco_query_outcomes.proofs.Prelude.{◌≡◌, ℕ, zero, suc, ◌+◌, ◌<◌, ◌≤◌, inl, inr, ℤ, pos, negsuc, List, []}
use Rattle.teco_query_outcomes.proofs.Prelude.{◌∷◌}
use Rattle.teco_query_outcomes.proofs.Prelude.{◌++◌, length, Bool, true, false, Option, Some, None, Result, Ok, Err}
use Rattle.teco_query_outcomes.proofs.Prelude.{if◌then◌else◌, get_or, slice_index_or, refl, sym, ap, subst, ◌∙◌, arith}
use Rattle.teco_query_outcomes.proofs.Prelude.{◌⊎◌}
use Rattle.teco_query_outcomes.proofs.Prelude.{FitsSigned, w32, neg_ℤ, ◌-ℤ◌, nat_tests, ints, All, is_line_end}
use Rattle.teco_query_outcomes.proofs.Prelude.{line_place, Code, Term, Valuation, value, level_with}
use Rattle.teco_query_outcomes.proofs.Prelude.{levels_after_answer}
use Rattle.teco_query_outcomes.proofs.Prelude.{levels_after_taking, value_beside, ◌>>=◌, Effect, after, Kept}
use Rattle.teco_query_outcomes.proofs.Prelude.{after_query_with, Level, Operator, IsWhole, Case, Value, One, Single}
use Rattle.teco_query_outcomes.proofs.Prelude.{Steps}
use Rattle.teco_query_outcomes.proofs.Prelude.{Pointer, Size, Held, LineEnd, LineStart, LastLength, CodeHere}
use Rattle.teco_query_outcomes.proofs.Prelude.{CodeBefore}
use Rattle.teco_query_outcomes.proofs.Prelude.{Typed, EntryHeld, Guarded, Outcomes, Clause, Places, value_if, Leads}
use Rattle.teco_query_outcomes.proofs.Prelude.{commanded, Describe, GivesAny, Succeeds, with_level, Before, changed}
use Rattle.teco_query_outcomes.proofs.Prelude.{Point}
use Rattle.teco_query_outcomes.proofs.Prelude.{IsShape, IsTrueOf, Describes, behind, code_here, each, single, read_at}
use Rattle.teco_query_outcomes.proofs.Prelude.{IsEnd}
use Rattle.teco_query_outcomes.proofs.Prelude.{above_or, clash, ends, line_begin, line_end, value_there, Asks}
use Rattle.std.proofs.Common.{◌-◌, ◌^◌, ◌%◌}
use Rattle.std.proofs.Common.{take, drop, codes}
use Rattle.std.proofs.Common.{length-append, length-drop, length-take}
use Rattle.std.proofs.lemmas.List.Elements.{All-more, All-pop, All-push, All-weaker}
use Rattle.std.proofs.lemmas.Fmt.{decimal_by_steps, decimal_nonempty, length-decimal-le}
use Rattle.std.proofs.lemmas.Int.{SFits-int_wrap}
use Rattle.std.proofs.lemmas.List.{get_or-append_right, get_or-drop, get_or_append_left}
use Rattle.std.proofs.lemmas.List.Folds.{length-prefix_len}
use Rattle.std.proofs.lemmas.List.Sums.{prefix_len_passes, prefix_len-le-length}
use Rattle.std.specs.Fmt as fmt
use Rattle.std.specs.List.{Any, prefix_len}
use Rattle.teco_base.specs.Bytes.{is_among, is_digit}
use Rattle.teco_base.specs.NumberText.{decimal}
use Rattle.teco_base.specs.Text.{text_after_insertion}
use Rattle.teco_base.specs.declared.TheConstants.{LIMIT}
use Rattle.teco_linear.specs.Implied as linear
use Rattle.teco_model.specs.Conversion.{is_minus, number_at, number_here, reading, sign_len, signed_value}
use Rattle.teco_model.specs.Insertion.{insertion_of}
use Rattle.teco_model.specs.declared.kind.Query.TheVariants.{Conversion}
use Rattle.teco_rows.specs.declared.levels.TheConstants.{NO}
use Rattle.teco_rows.specs.declared.row.Clause.TheVariants.{Wants}
use Rattle.teco_rows.specs.Commands.{IsCommanded}
use Rattle.teco_rows.specs.Foretold.{IsGuarded}
use Rattle.teco_rows.specs.Rows.{AreMet}
use Rattle.teco_rows.proofs.Characters.{with_codes}
use Rattle.teco_rows.proofs.Leading.{leads_singles}
use Rattle.teco_rows.proofs.Lines.{one_begin, one_end}
use Rattle.teco_query_outcomes.specs.declared.conversions.NumberSpan.{NumberSpan}
use Rattle.teco_query_outcomes.specs.declared.conversions.TheConstants.{BELOW, FEW, FURTHER, LAST, LONG, LONGER, MANY}
use Rattle.teco_query_outcomes.specs.declared.conversions.TheConstants.{MORE, MOST, MOVES, NUMBER, ONE, READS, SPANS}
use Rattle.teco_query_outcomes.specs.declared.conversions.TheConstants.{READS_DIGIT, READS_HIGH, READS_LOW}
use Rattle.teco_motion_outcomes.specs.declared.motions.TheConstants.{ANY_BEFORE}
use Rattle.teco_motion_outcomes.specs.Changes.{IsChangedFrom, read_given, with_kept}
use Rattle.teco_query_outcomes.specs.Conversions.{AddsGiven, AreBehindNumber, AreWithin, GivesAmong, HasRoomFor}
use Rattle.teco_query_outcomes.specs.Conversions.{HasRoomWithin, IsBehindNumber, IsLeftBehind, IsStanding, IsWithin}
use Rattle.teco_query_outcomes.specs.Conversions.{IsWritten, IsWrittenAmong, ReadsNumber, WritesNumber}
use Rattle.teco_query_outcomes.specs.Conversions.{kept_behind_number}
use Rattle.teco_motion_outcomes.specs.Changes.{IsDone}
use Rattle.teco_motion_outcomes.proofs.Changing.{changes_plainly, changes_singles}
use Rattle.teco_motion_outcomes.proofs.Codes.{grown_here, here_dropped}
use Rattle.teco_motion_outcomes.proofs.Inserting.{grown_end, grown_kept, grown_long, inserted, kept_with}
use Rattle.teco_query_outcomes.proofs.Valuing.{levels_succeed}

-- ---- a place further on in the line
module _ (text : List ℕ) (p k : ℕ) (order : p ≤ k) (inside : k ≤ length text)
    (plain : (i : ℕ) → p ≤ i → i < k → ends text i ≡ false) where
  before_end : (e : ℕ) → IsEnd text p e → e < length text → k < e
  before_end zero end l = absurd (omega (arith, end.more l))
  before_end (suc j) end l = elim (above_or k j) as (λ x. k < suc j) [
    | inl w ↦ omega arith
    | inr w ↦ absurd (clash _ (end.one j (omega arith) l) (plain j (omega (arith, end.more l)) w))
  ]

  pub reached : k ≤ line_place text p (pos 1)
  reached =
      let e = line_place text p (pos 1) in
      let end = line_end text p (omega arith) in
      elim (above_or (length text) e) as (λ x. k ≤ e) [
        | inl w ↦ omega arith
        | inr w ↦ omega (arith, before_end e end w)
      ]

  pub same_end : line_place text k (pos 1) ≡ line_place text p (pos 1)
  same_end =
      let e = line_place text p (pos 1) in
      let end = line_end text p (omega arith) in
      one_end text k (line_place text k (pos 1)) e (line_end text k inside) (record {
        after = reached;
        within = end.within;
        more = before_end e end;
        none = λ i a b. end.none i (omega arith) b;
        one = end.one;
      })

  pub same_start : line_place text k (pos 0) ≡ line_place text p (pos 0)
  same_start =
      let s = line_place text p (pos 0) in
      let start = line_begin text p in
      one_begin text k (line_place text k (pos 0)) s (line_begin text k) (record {
        before = omega (arith, start.before);
        none = λ i a b. elim (above_or p i) as (λ x. ends text i ≡ false) [
          | inl w ↦ plain i w b
          | inr w ↦ start.none i a w
        ];
        one = start.one;
      })

-- ---- no line end is in a number that is read
sign_plain : (x : Bool) (b : ℕ) (text : List ℕ) (i : ℕ) → is_among b (codes "+-") ≡ x → i < (if x then 1 else 0)
    → ends (b ∷ text) i ≡ false
sign_plain false b text i e h = absurd (omega arith)
sign_plain true b text zero e h = grind (arith, nat_tests)
sign_plain true b text (suc i) e h = absurd (omega arith)

signs_plain : (text : List ℕ) (i : ℕ) → i < sign_len text → ends text i ≡ false
signs_plain [] i h = absurd (omega arith)
signs_plain (b ∷ text) i h = sign_plain (is_among b (codes "+-")) b text i refl h

digit_plain : (c : ℕ) → is_digit c ≡ true → is_line_end c ≡ false
digit_plain c e = grind (arith, nat_tests)

sign_short : (text : List ℕ) → sign_len text ≤ length text
sign_short [] = omega arith
sign_short (b ∷ text) = short (is_among b (codes "+-")) where
  short : (x : Bool) → (if x then 1 else 0) ≤ suc (length text)
  short true = omega arith
  short false = omega arith

read_short : (minus : Bool) (sign : ℕ) (digits : List ℕ) → (reading minus sign digits).len ≤ sign + length digits
read_short minus sign [] = omega arith
read_short minus sign (d ∷ digits) = omega arith

-- the digits that follow the sign
digits_at : (text : List ℕ) → (number_at text).len ≤ sign_len text + prefix_len is_digit (drop (sign_len text) text)
digits_at text =
    let behind = drop (sign_len text) text in
    omega (
      arith,
      read_short (is_minus text) (sign_len text) (take (prefix_len is_digit behind) behind),
      length-prefix_len is_digit behind,
    )

number_plain : (text : List ℕ) (i : ℕ) → i < (number_at text).len → ends text i ≡ false
number_plain text i h = elim (above_or (sign_len text) i) as (λ x. ends text i ≡ false) [
  | inl w ↦ ap is_line_end (sym (get_or-drop (sign_len text) text (i - sign_len text) 0
      ∙ ap (λ k. get_or text k 0) (omega arith)))
      ∙ digit_plain (get_or (drop (sign_len text) text) (i - sign_len text) 0)
      (prefix_len_passes is_digit (drop (sign_len text) text) (i - sign_len text) 0 (omega (arith, digits_at text)))
  | inr w ↦ signs_plain text i w
]

number_short : (text : List ℕ) → (number_at text).len ≤ length text
number_short text =
    omega (
      arith,
      digits_at text,
      sign_short text,
      prefix_len-le-length is_digit (drop (sign_len text) text),
      length-drop (sign_len text) text,
    )

-- and it is one of 32 bits
signed_fits : (minus : Bool) (digits : List ℕ) → FitsSigned w32 (signed_value minus digits)
signed_fits true digits = SFits-int_wrap w32 _
signed_fits false digits = SFits-int_wrap w32 _

read_fits : (minus : Bool) (sign : ℕ) (digits : List ℕ) → FitsSigned w32 (reading minus sign digits).number
read_fits minus sign [] = omega (arith, ints)
read_fits minus sign (d ∷ digits) = signed_fits minus (d ∷ digits)

pub number_fits : (text : List ℕ) → FitsSigned w32 (number_at text).number
number_fits text =
    let behind = drop (sign_len text) text in
    read_fits (is_minus text) (sign_len text) (take (prefix_len is_digit behind) behind)

-- ---- the pointer goes behind it
module _ (s : Point) (whole : IsWhole s.kept) where
  abbrev kept : Kept
  kept = kept_behind_number s.kept

  abbrev behind_it : ℕ → ℤ
  behind_it = with_codes kept.text kept.pointer (λ i. pos kept.pointer)

  short : (number_here s.kept).len ≤ length (drop s.kept.pointer s.kept.text)
  short = number_short (drop s.kept.pointer s.kept.text)

  order : s.kept.pointer ≤ kept.pointer
  order = omega arith

  inside : kept.pointer ≤ length s.kept.text
  inside = omega (arith, short, length-drop s.kept.pointer s.kept.text, whole.inside)

  plain : (i : ℕ) → s.kept.pointer ≤ i → i < kept.pointer → ends s.kept.text i ≡ false
  plain i a b =
      ap is_line_end (sym (get_or-drop s.kept.pointer s.kept.text (i - s.kept.pointer) 0
      ∙ ap (λ j. get_or s.kept.text j 0) (omega arith)))
      ∙ number_plain (drop s.kept.pointer s.kept.text) (i - s.kept.pointer) (omega arith)

  in_line : kept.pointer ≤ line_place s.kept.text s.kept.pointer (pos 1)
  in_line = reached s.kept.text s.kept.pointer kept.pointer order inside plain

  end_is : line_place s.kept.text kept.pointer (pos 1) ≡ line_place s.kept.text s.kept.pointer (pos 1)
  end_is = same_end s.kept.text s.kept.pointer kept.pointer order inside plain

  start_is : line_place s.kept.text kept.pointer (pos 0) ≡ line_place s.kept.text s.kept.pointer (pos 0)
  start_is = same_start s.kept.text s.kept.pointer kept.pointer order inside plain

  any_singles : (n : ℕ) (v : Valuation) (here : Places) (which : Single)
      → Some (single (record s { kept = kept; unread = s.unread }) which)
      ≡ changed READS (read_given [] n v s behind_it here) (One which) (Some (single s which))
  any_singles n v here Steps = refl
  any_singles n v here Pointer = ap Some (omega (arith, ints))
  any_singles n v here Size = refl
  any_singles n v here Held = refl
  any_singles n v here LineEnd = ap (λ x. Some (pos x)) end_is
  any_singles n v here LineStart = ap (λ x. Some (pos x)) start_is
  any_singles n v here LastLength = refl
  any_singles n v here CodeHere = ap Some (omega (arith, ints))
  any_singles n v here CodeBefore = ap Some (omega (arith, ints))
  any_singles n v here Typed = refl
  any_singles n v here EntryHeld = refl

  digit_singles : (n : ℕ) (v : Valuation) (here : Places) (which : Single)
      → Some (single (record s { kept = kept; unread = s.unread }) which)
      ≡ changed READS_DIGIT (read_given [] n v s behind_it here) (One which) (Some (single s which))
  digit_singles n v here Steps = refl
  digit_singles n v here Pointer = ap Some (omega (arith, ints))
  digit_singles n v here Size = refl
  digit_singles n v here Held = refl
  digit_singles n v here LineEnd = ap (λ x. Some (pos x)) end_is
  digit_singles n v here LineStart = ap (λ x. Some (pos x)) start_is
  digit_singles n v here LastLength = refl
  digit_singles n v here CodeHere = ap Some (omega (arith, ints))
  digit_singles n v here CodeBefore = ap Some (omega (arith, ints))
  digit_singles n v here Typed = refl
  digit_singles n v here EntryHeld = refl

  low_singles : (n : ℕ) (v : Valuation) (here : Places) (which : Single)
      → Some (single (record s { kept = kept; unread = s.unread }) which)
      ≡ changed READS_LOW (read_given [] n v s behind_it here) (One which) (Some (single s which))
  low_singles n v here Steps = refl
  low_singles n v here Pointer = ap Some (omega (arith, ints))
  low_singles n v here Size = refl
  low_singles n v here Held = refl
  low_singles n v here LineEnd = ap (λ x. Some (pos x)) end_is
  low_singles n v here LineStart = ap (λ x. Some (pos x)) start_is
  low_singles n v here LastLength = refl
  low_singles n v here CodeHere = ap Some (omega (arith, ints))
  low_singles n v here CodeBefore = ap Some (omega (arith, ints))
  low_singles n v here Typed = refl
  low_singles n v here EntryHeld = refl

  high_singles : (n : ℕ) (v : Valuation) (here : Places) (which : Single)
      → Some (single (record s { kept = kept; unread = s.unread }) which)
      ≡ changed READS_HIGH (read_given [] n v s behind_it here) (One which) (Some (single s which))
  high_singles n v here Steps = refl
  high_singles n v here Pointer = ap Some (omega (arith, ints))
  high_singles n v here Size = refl
  high_singles n v here Held = refl
  high_singles n v here LineEnd = ap (λ x. Some (pos x)) end_is
  high_singles n v here LineStart = ap (λ x. Some (pos x)) start_is
  high_singles n v here LastLength = refl
  high_singles n v here CodeHere = ap Some (omega (arith, ints))
  high_singles n v here CodeBefore = ap Some (omega (arith, ints))
  high_singles n v here Typed = refl
  high_singles n v here EntryHeld = refl

pub goes_behind : (case made : Case) → IsChangedFrom case READS [] made → IsBehindNumber case made
goes_behind case made changes n v s true_of whole =
    changes_plainly case made READS [] changes n v s (kept s whole) s.unread (behind_it s whole) true_of (λ here.
    changes_singles READS (read_given [] n v s (behind_it s whole) here) s (kept s whole) s.unread refl refl
    (omega (arith, ints), (omega (arith, ints, in_line s whole), tt)) (any_singles s whole n v here))

-- ---- no line end is in a number that is written
single_plain : (c : ℕ) → 48 ≤ c → (i : ℕ) → ends (c ∷ []) i ≡ false
single_plain c h zero = grind (arith, nat_tests)
single_plain c h (suc i) = refl

pushed_plain : (digits : List ℕ) (c : ℕ) → 48 ≤ c → ((i : ℕ) → ends digits i ≡ false) → (i : ℕ)
    → ends (digits ++ c ∷ []) i ≡ false
pushed_plain [] c h f i = single_plain c h i
pushed_plain (d ∷ digits) c h f zero = f zero
pushed_plain (d ∷ digits) c h f (suc i) = pushed_plain digits c h (λ j. f (suc j)) i

digits_plain : (m : ℕ) → m < 2 ^ 64 → (i : ℕ) → ends (fmt.decimal m) i ≡ false
digits_plain =
    decimal_by_steps (λ m digits. (i : ℕ) → ends digits i ≡ false) (λ m h. single_plain (48 + m) (omega arith))
    (λ m digits h f. pushed_plain digits (48 + m % 10) (omega arith) f)

written_plain : (x : ℤ) → FitsSigned w32 x → (i : ℕ) → ends (decimal x) i ≡ false
written_plain (pos m) fits i = digits_plain m (omega (arith, ints)) i
written_plain (negsuc m) fits zero = refl
written_plain (negsuc m) fits (suc i) = digits_plain (suc m) (omega (arith, ints)) i

-- a text without one is of one line
one_line : (text : List ℕ) → ((i : ℕ) → ends text i ≡ false) → line_place text (length text) (pos 0) ≡ 0
one_line text plain =
    one_begin text (length text) (line_place text (length text) (pos 0)) 0 (line_begin text (length text)) (record {
      before = omega arith;
      none = λ i a b. plain i;
      one = λ k e. absurd (omega arith);
    })

-- ---- how long it is
some_digits : (m : ℕ) → m < 2 ^ 64 → 1 ≤ length (fmt.decimal m)
some_digits m h = omega (arith, decimal_nonempty m h)

-- ---- it is inserted
-- what is written of a number within bounds, by a text of so few or many characters
abbrev pub written : ℤ → ℤ → ℤ → ℤ → List Clause
written least most few many =
    ANY_BEFORE ∷ MOVES ∷ LONGER ∷ MORE ∷ FURTHER ∷ LAST ∷ Wants least ((pos 1, NUMBER), NO, NO, NO)
    ∷ Wants most ((negsuc 0, NUMBER), NO, NO, NO) ∷ Wants few ((pos 1, LONG), NO, NO, NO)
    ∷ Wants many ((negsuc 0, LONG), NO, NO, NO) ∷ []

-- what is not known of the state behind
abbrev written_behind : Kept → List ℕ → ℕ → ℤ
written_behind kept new =
    with_codes (text_after_insertion kept.text kept.pointer new) (kept.pointer + length new) (λ i. pos (length new))

module _ (s : Point) (here : Places) (given : ℕ → ℤ) (new : List ℕ) (inside : s.kept.pointer ≤ length s.kept.text)
    (plain : line_place new (length new) (pos 0) ≡ 0) where
  abbrev before : Before
  before = read_at s here given (written_behind s.kept new)

  long : length (text_after_insertion s.kept.text s.kept.pointer new) ≡ length new + length s.kept.text
  long = grown_long s.kept.text new s.kept.pointer inside

  end : line_place (text_after_insertion s.kept.text s.kept.pointer new) (s.kept.pointer + length new) (pos 1)
      ≡ line_place s.kept.text s.kept.pointer (pos 1) + length new
  end = grown_end s.kept.text new s.kept.pointer inside

  writes : (row : List Clause) (a b c d : ℤ) → row ≡ written a b c d → AreMet (written a b c d) before
      → Leads row before s (kept_with new s.kept) None
  writes row a b c d e met =
      subst (λ r. Leads r before s (kept_with new s.kept) None) (sym e)
      (leads_singles (written a b c d) before s (kept_with new s.kept) refl refl met singles) where
        singles : (which : Single) → Some (single (commanded s (kept_with new s.kept) None) which)
            ≡ changed (written a b c d) before (One which) (Some (single (commanded s s.kept None) which))
        singles Steps = refl
        singles Pointer = ap Some (omega (arith, ints))
        singles Size = ap Some (omega (arith, ints, long))
        singles Held = ap Some (omega (arith, ints, long))
        singles LineEnd = ap Some (omega (arith, ints, end))
        singles LineStart = ap (λ x. Some (pos x)) (grown_kept s.kept.text new s.kept.pointer inside plain)
        singles LastLength = ap Some (omega (arith, ints))
        singles CodeHere = ap (λ x. Some (pos x)) (grown_here s.kept.text new s.kept.pointer inside)
        singles CodeBefore = ap Some (omega (arith, ints))
        singles Typed = refl
        singles EntryHeld = refl

-- each number of 32 bits is within the bounds of one of these
data IsOneOf (x : ℤ) : Type 0 where
  is_one : IsWithin ONE x → IsOneOf x
  is_few : IsWithin FEW x → IsOneOf x
  is_many : IsWithin MANY x → IsOneOf x
  is_most : IsWithin MOST x → IsOneOf x
  is_below : IsWithin BELOW x → IsOneOf x

one_of : (x : ℤ) → FitsSigned w32 x → IsOneOf x
one_of (pos m) fits = elim (above_or 10 m) as (λ x. IsOneOf (pos m)) [
  | inl ten ↦ elim (above_or 1000 m) as (λ x. IsOneOf (pos m)) [
    | inl thousand ↦ elim (above_or 1000000000 m) as (λ x. IsOneOf (pos m)) [
      | inl more ↦ is_most (record {
        least = omega (arith, ints, more);
        most = omega (arith, ints, fits);
        some = some_digits m (omega (arith, ints, fits));
        few = length-decimal-le 10 m (omega arith) (omega (arith, ints, fits)) (omega arith);
      })
      | inr less ↦ is_many (record {
        least = omega (arith, ints, thousand);
        most = omega (arith, ints, less);
        some = some_digits m (omega (arith, less));
        few = length-decimal-le 9 m (omega arith) (omega (arith, less)) (omega arith);
      })
    ]
    | inr less ↦ is_few (record {
      least = omega (arith, ints, ten);
      most = omega (arith, ints, less);
      some = some_digits m (omega (arith, less));
      few = length-decimal-le 3 m (omega arith) (omega (arith, less)) (omega arith);
    })
  ]
  | inr less ↦ is_one (record {
    least = omega (arith, ints);
    most = omega (arith, ints, less);
    some = some_digits m (omega (arith, less));
    few = length-decimal-le 1 m (omega arith) (omega (arith, less)) (omega arith);
  })
]
one_of (negsuc m) fits =
    let most = length-decimal-le 10 (suc m) (omega arith) (omega (arith, ints)) (omega arith) in
    is_below (record {
      least = omega (arith, ints);
      most = omega (arith, ints);
      some = omega arith;
      few = omega (arith, most);
    })

-- the case behind a row for a number within bounds
pub is_written : (case made : Case) (given : List (List Term)) (span : NumberSpan) (here : Places) (row : List Clause)
    (low high size : ℤ) → IsCommanded case row given here made → row ≡ written low high (negsuc 0) size
    → low ≡ neg_ℤ span.least → high ≡ span.most → size ≡ pos span.long
    → IsWritten case (slice_index_or given 0 []) span made
is_written case made given span here row low high size leads_to e same_low same_high same_size n v s true_of whole fits
    w room =
    let form = slice_index_or given 0 [] in
    let new = decimal (value form n v) in
    let plain : line_place new (length new) (pos 0) ≡ 0 = one_line new (written_plain (value form n v) fits) in
    let small : length (text_after_insertion s.kept.text s.kept.pointer new) ≤ LIMIT =
    omega (arith, grown_long s.kept.text new s.kept.pointer whole.inside, w.few, room) in
    let behind_it : Describes n made (commanded s (kept_with new s.kept) None) =
    leads_to n v s (kept_with new s.kept) None (written_behind s.kept new) true_of
    (writes s here (λ i. value (slice_index_or given i []) n v) new whole.inside plain row low high (negsuc 0) size
    e (
      omega (arith, ints, same_low, w.least),
      (
        omega (arith, ints, same_high, w.most),
        (omega (arith, ints, w.some), (omega (arith, ints, same_size, w.few), tt)),
      ),
    )) in
    subst (Succeeds (λ effect. Describes n made (commanded s effect.kept effect.answer)))
    (sym (inserted new s.kept small)) behind_it

succeeds_more : {X : Type 0} (P Q : X → Type 0) (r : Result X Code) → ((x : X) → P x → Q x) → Succeeds P r
    → Succeeds Q r
succeeds_more P Q (Ok x) f h = f x h
succeeds_more P Q (Err c) f h = h

-- one of two lists of cases has one that describes a state
in_first : (n : ℕ) (s : Point) (a b : List Case) → Any (λ case. Describes n case s) a
    → Any (λ case. Describes n case s) (a ++ b)
in_first n s a b h =
    (h.0, h.1, omega (arith, h.2, length-append a b), get_or_append_left a b h.1 h.0 h.2 ∙ h.3, h.4)

in_second : (n : ℕ) (s : Point) (a b : List Case) → Any (λ case. Describes n case s) b
    → Any (λ case. Describes n case s) (a ++ b)
in_second n s a b h =
    let same : length a + h.0 - length a ≡ h.0 = omega arith in (
      length a + h.0,
      h.1,
      omega (arith, h.2, length-append a b),
      get_or-append_right a b (length a) (length a + h.0) h.1 refl (omega arith) ∙ ap (λ k. get_or b k h.1) same ∙ h.3,
      h.4,
    )

in_last : (n : ℕ) (s : Point) (cases more : List Case) (last : Case) → more ≡ cases ++ last ∷ []
    → Describes n last s → Any (λ case. Describes n case s) more
in_last n s cases more last items d =
    subst (Any (λ case. Describes n case s)) (sym items)
    (in_second n s cases (last ∷ []) (0, last, omega arith, refl, d))

in_more : (n : ℕ) (s : Point) (cases rest more : List Case) → more ≡ cases ++ rest
    → Any (λ case. Describes n case s) cases → Any (λ case. Describes n case s) more
in_more n s cases rest more items h =
    subst (Any (λ case. Describes n case s)) (sym items) (in_first n s cases rest h)

pub more_written : (case : Case) (form : List Term) (spans : List NumberSpan) (i : ℕ) (d : NumberSpan)
    (cases more : List Case) (after : Case) → i < length spans → more ≡ cases ++ after ∷ []
    → All (IsWrittenAmong case form cases) (take i spans) → IsWritten case form (get_or spans i d) after
    → All (IsWrittenAmong case form more) (take (i + 1) spans)
more_written case form spans i d cases more after less items all last =
    All-more (IsWrittenAmong case form more) spans i d less
    (All-weaker (IsWrittenAmong case form cases) (IsWrittenAmong case form more)
    (λ span is n v s t whole fits w room.
    succeeds_more _ _ (insertion_of (decimal (value form n v)) s.kept)
    (λ effect. in_more n (commanded s effect.kept effect.answer) cases (after ∷ []) more items)
    (is n v s t whole fits w room)) (take i spans) all)
    (λ n v s t whole fits w room.
    succeeds_more _ _ (insertion_of (decimal (value form n v)) s.kept)
    (λ effect. in_last n (commanded s effect.kept effect.answer) cases more after items)
    (last n v s t whole fits w room))

pub writes_number : (case : Case) (form : List Term) (all : Outcomes)
    → All (HasRoomWithin case form all.guarded.items) SPANS → All (IsWrittenAmong case form all.cases.items) SPANS
    → ((n : ℕ) (v : Valuation) → All (linear.Holds n v) all.conditions.items → FitsSigned w32 (value form n v))
    → WritesNumber form case all
writes_number case form all has are fits n v s begins = by_span (one_of x r) where
  x : ℤ
  x = value form n v

  r : FitsSigned w32 x
  r = fits n v begins.conditions

  within : (span : NumberSpan) → HasRoomWithin case form all.guarded.items span
      → IsWrittenAmong case form all.cases.items span → IsWithin span x
      → IsDone n all s (insertion_of (decimal x) s.kept)
  within span room is w =
      is n v s begins.true_of begins.whole r w (room n v s begins.true_of begins.guarded w.least w.most)

  by_span : IsOneOf x → IsDone n all s (insertion_of (decimal x) s.kept)
  by_span (is_one w) = within ONE (has 0 ONE (omega arith)) (are 0 ONE (omega arith)) w
  by_span (is_few w) = within FEW (has 1 ONE (omega arith)) (are 1 ONE (omega arith)) w
  by_span (is_many w) = within MANY (has 2 ONE (omega arith)) (are 2 ONE (omega arith)) w
  by_span (is_most w) = within MOST (has 3 ONE (omega arith)) (are 3 ONE (omega arith)) w
  by_span (is_below w) = within BELOW (has 4 ONE (omega arith)) (are 4 ONE (omega arith)) w

-- ---- room
pub are_within : (case : Case) (form : List Term) (span : NumberSpan) (least most : List Term)
    (others constraints : List (List Term))
    → ((n : ℕ) (v : Valuation) → All (linear.Holds n v) case.constraints.items → All (linear.Holds n v) others)
    → ((n : ℕ) (v : Valuation) → value least n v ≡ value form n v -ℤ span.least)
    → ((n : ℕ) (v : Valuation) → value most n v ≡ span.most -ℤ value form n v)
    → constraints ≡ (others ++ least ∷ []) ++ most ∷ [] → AreWithin case form span constraints
are_within case form span least most others constraints copies least_is most_is items n v known low high =
    let H = linear.Holds n v in
    let above : H least = omega (arith, ints, least_is n v, low) in
    let below : H most = omega (arith, ints, most_is n v, high) in
    subst (All H) (sym items)
    (All-push H (others ++ least ∷ []) most (All-push H others least (copies n v known) above) below)

pub has_room : (case : Case) (form : List Term) (span : NumberSpan) (guarded : Guarded)
    → AreWithin case form span guarded.constraints.items → IsLeftBehind case span.long guarded.wanted
    → HasRoomFor case form span guarded
has_room case form span guarded within left n v s true_of holds low high =
    let so : linear.Holds n v guarded.wanted =
    holds v (λ symbol h. refl) (within n v true_of.fits.constraints low high) in
    omega (arith, ints, so, left n v s true_of)

pub more_rooms : (case : Case) (form : List Term) (spans : List NumberSpan) (i : ℕ) (d : NumberSpan)
    (asked more : List Guarded) (guarded : Guarded) → i < length spans → more ≡ asked ++ guarded ∷ []
    → All (HasRoomWithin case form asked) (take i spans) → HasRoomFor case form (get_or spans i d) guarded
    → All (HasRoomWithin case form more) (take (i + 1) spans)
more_rooms case form spans i d asked more guarded less items all last =
    All-more (HasRoomWithin case form more) spans i d less
    (All-weaker (HasRoomWithin case form asked) (HasRoomWithin case form more)
    (λ span has n v s t h. has n v s t (All-pop (IsGuarded n v) more asked (Some guarded) items h).0)
    (take i spans) all)
    (λ n v s t h. last n v s t (All-pop (IsGuarded n v) more asked (Some guarded) items h).1)

-- ---- what is asked
pub stands_alone : (case : Case) (form : Option (List Term)) (operator : Option Operator) → operator ≡ None
    → ((s : Point) → IsShape case.shape s → operator ≡ s.arguments.level.operator)
    → ((n : ℕ) (v : Valuation) (s : Point) → IsTrueOf n v case s
    → value_if form n v ≡ each s Value (length s.arguments.outer))
    → IsStanding case form
stands_alone case form operator none waits is n v s true_of =
    is n v s true_of ∙ value_there s
    ∙ ap (λ o. value_beside o s.arguments.level.value) (sym none ∙ waits s true_of.shape)

pub stands_not : (case : Case) (operator : Option Operator) (o : Operator) → operator ≡ Some o
    → ((s : Point) → IsShape case.shape s → operator ≡ s.arguments.level.operator) → IsStanding case None
stands_not case operator o some waits n v s true_of =
    ap (λ o. value_beside o s.arguments.level.value) (sym some ∙ waits s true_of.shape)

pub reads_number : (case behind : Case) (all : Outcomes) → IsBehindNumber case behind → GivesAny behind all
    → ReadsNumber case all
reads_number case behind all is gives n v s begins =
    let d = is n v s begins.true_of begins.whole in
    gives n d.0 (with_kept s (kept_behind_number s.kept)) (number_here s.kept).number d.1
    (number_fits (drop s.kept.pointer s.kept.text))

-- a number begins with a digit where one is there, and then has a character
some_read : (minus : Bool) (sign : ℕ) (digits : List ℕ) → 1 ≤ length digits → 1 ≤ (reading minus sign digits).len
some_read minus sign [] h = absurd (omega (arith, h))
some_read minus sign (d ∷ digits) h = omega arith

some_digit : (b : ℕ) (text : List ℕ) → is_digit b ≡ true → 1 ≤ prefix_len is_digit (b ∷ text)
some_digit b text e = by (is_digit b) e where
  by : (x : Bool) → x ≡ true → 1 ≤ (if x then 1 + prefix_len is_digit text else 0)
  by true h = omega arith
  by false h = absurd (cc)

no_sign : (b : ℕ) → 48 ≤ b → is_among b (codes "+-") ≡ false
no_sign b h = grind (arith, nat_tests)

a_digit : (b : ℕ) → 48 ≤ b → b ≤ 57 → is_digit b ≡ true
a_digit b h k = grind (arith, nat_tests)

digit_read : (text : List ℕ) → 49 ≤ code_here text 0 → code_here text 0 ≤ 58 → 1 ≤ (number_at text).len
digit_read [] low high = absurd (omega (arith, low))
digit_read (b ∷ text) low high =
    let none : sign_len (b ∷ text) ≡ 0 = ap (λ x. if x then 1 else 0) (no_sign b (omega (arith, low))) in
    let first = some_digit b text (a_digit b (omega (arith, low)) (omega (arith, high))) in
    let some : 1 ≤ prefix_len is_digit (drop (sign_len (b ∷ text)) (b ∷ text)) =
    subst (λ k. 1 ≤ prefix_len is_digit (drop k (b ∷ text))) (sym none) first in
    some_read (is_minus (b ∷ text)) (sign_len (b ∷ text)) _ (omega (
      arith,
      some,
      prefix_len-le-length is_digit (drop (sign_len (b ∷ text)) (b ∷ text)),
      length-take (prefix_len is_digit (drop (sign_len (b ∷ text)) (b ∷ text))) (drop (sign_len (b ∷ text)) (b ∷ text)),
    ))

-- a digit is at the pointer, or a character below or above those, or none
digit_or : (k : ℕ) → ((49 ≤ k) × (k ≤ 58)) ⊎ ((k ≤ 48) ⊎ (59 ≤ k))
digit_or k = elim (above_or 49 k) [
  | inl h ↦ elim (above_or 59 k) [ inl g ↦ inr (inr g) | inr g ↦ inl (h, omega arith) ]
  | inr h ↦ inr (inl (omega arith))
]

pub more_given : (cases made more : List Case) (i : ℕ) (d : Case) → i < length made
    → All (GivesAmong cases) (take i made) → AddsGiven (get_or made i d) cases more
    → All (GivesAmong more) (take (i + 1) made)
more_given cases made more i d less all adds =
    All-more (GivesAmong more) made i d less
    (All-weaker (GivesAmong cases) (GivesAmong more)
    (λ case gives n v s x t fits.
    succeeds_more _ _ (level_with x s.arguments.level)
    (λ level. in_more n (behind_with s level) cases adds.given more adds.items)
    (gives n v s x t fits)) (take i made) all)
    (λ n v s x t fits.
    succeeds_more _ _ (level_with x s.arguments.level)
    (λ level h. subst (Any (λ case. Describes n case (behind_with s level)))
    (sym adds.items) (in_second n (behind_with s level) cases adds.given h))
    (adds.gives n v s x t fits)) where
      behind_with : Point → Level → Point
      behind_with s level = behind s (with_level s level)

pub reads_known : (case : Case) (made : List Case) (all : Outcomes) → AreBehindNumber case made
    → All (GivesAmong all.cases.items) made → ReadsNumber case all
reads_known case made all are gives n v s begins =
    let there = are n v s begins.true_of begins.whole in
    let same : get_or made there.0 there.1 ≡ there.1 = there.3 in
    let given : GivesAmong all.cases.items there.1 =
    subst (GivesAmong all.cases.items) same (gives there.0 there.1 there.2) in
    given n there.4.0 (with_kept s (kept_behind_number s.kept)) (number_here s.kept).number there.4.1
    (number_fits (drop s.kept.pointer s.kept.text))

pub behind_known : (case digit low high : Case) (made : List Case) → IsChangedFrom case READS_DIGIT [] digit
    → IsChangedFrom case READS_LOW [] low → IsChangedFrom case READS_HIGH [] high
    → made ≡ digit ∷ low ∷ high ∷ [] → AreBehindNumber case made
behind_known case digit low high made at_digit at_low at_high items n v s true_of whole =
    subst (Any (λ case. Describes n case (with_kept s (kept_behind_number s.kept)))) (sym items)
    (by_code (digit_or (code_here s.kept.text s.kept.pointer))) where
      moved : 49 ≤ code_here s.kept.text s.kept.pointer → code_here s.kept.text s.kept.pointer ≤ 58
          → s.kept.pointer + 1 ≤ (kept s whole).pointer
      moved l h =
          let same = here_dropped s.kept.text s.kept.pointer 0 s.kept.pointer (omega arith) in
          omega (arith, digit_read (drop s.kept.pointer s.kept.text) (omega (arith, same, l)) (omega (arith, same, h)))

      by_code : ((49 ≤ code_here s.kept.text s.kept.pointer) × (code_here s.kept.text s.kept.pointer ≤ 58))
          ⊎ ((code_here s.kept.text s.kept.pointer ≤ 48) ⊎ (59 ≤ code_here s.kept.text s.kept.pointer))
          → Any (λ case. Describes n case (with_kept s (kept s whole))) (digit ∷ low ∷ high ∷ [])
      by_code (inl c) =
          let d = changes_plainly case digit READS_DIGIT [] at_digit n v s (kept s whole) s.unread (behind_it s whole)
          true_of (λ here. changes_singles READS_DIGIT (read_given [] n v s (behind_it s whole) here) s
          (kept s whole) s.unread refl refl (
            omega (arith, ints, moved c.0 c.1),
            (omega (arith, ints, in_line s whole), (omega (arith, ints, c.0), (omega (arith, ints, c.1), tt))),
          ) (digit_singles s whole n v here)) in (0, digit, omega arith, refl, d)
      by_code (inr (inl c)) =
          let d = changes_plainly case low READS_LOW [] at_low n v s (kept s whole) s.unread (behind_it s whole)
          true_of (λ here. changes_singles READS_LOW (read_given [] n v s (behind_it s whole) here) s
          (kept s whole) s.unread refl refl (
            omega (arith, ints, order s whole),
            (omega (arith, ints, in_line s whole), (omega (arith, ints, c), tt)),
          ) (low_singles s whole n v here)) in (1, low, omega arith, refl, d)
      by_code (inr (inr c)) =
          let d = changes_plainly case high READS_HIGH [] at_high n v s (kept s whole) s.unread (behind_it s whole)
          true_of (λ here. changes_singles READS_HIGH (read_given [] n v s (behind_it s whole) here) s
          (kept s whole) s.unread refl refl (
            omega (arith, ints, order s whole),
            (omega (arith, ints, in_line s whole), (omega (arith, ints, c), tt)),
          ) (high_singles s whole n v here)) in (2, high, omega arith, refl, d)

pub read_asked : (case : Case) (form : Option (List Term)) (all : Outcomes) → form ≡ None → IsStanding case form
    → ReadsNumber case all → (colons : ℕ) → Asks Conversion colons case all
read_asked case form all none is reads colons e same n v s begins =
    let P = Succeeds (λ done. Describe n all (behind s done)) in
    subst (λ o. P (after_query_with Conversion e.colons o s.kept s.arguments))
    (ap (λ o. value_if o n v) (sym none) ∙ is n v s begins.true_of)
    (levels_succeed n all (with_kept s (kept_behind_number s.kept))
    (level_with (number_here s.kept).number s.arguments.level) (reads n v s begins))

pub written_asked : (case : Case) (form : Option (List Term)) (number : List Term) (all : Outcomes)
    → form ≡ Some number → IsStanding case form → WritesNumber number case all → (colons : ℕ)
    → Asks Conversion colons case all
written_asked case form number all some is writes colons e same n v s begins =
    let P = Succeeds (λ done. Describe n all (behind s done)) in
    subst (λ o. P (after_query_with Conversion e.colons o s.kept s.arguments))
    (ap (λ o. value_if o n v) (sym some) ∙ is n v s begins.true_of)
    (passed (insertion_of (decimal (value number n v)) s.kept) (writes n v s begins)) where
      passed : (r : Result Effect Code) → IsDone n all s r
          → Succeeds (λ done. Describe n all (behind s done)) (r >>= (λ effect. Ok (after effect.kept
          (levels_after_answer effect.answer (levels_after_taking s.arguments)))))
      passed (Ok effect) d = d
      passed (Err c) d = d
