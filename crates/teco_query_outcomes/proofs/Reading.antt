-- The code of a character.
use Rattle.teco_query_outcomes.proofs.Prelude.{◌≡◌, ℕ, zero, suc, ◌+◌, ◌<◌, ◌≤◌, ◌⊎◌, inl, inr, ℤ, pos, negsuc, ◌+ℤ◌}
use Rattle.teco_query_outcomes.proofs.Prelude.{List}
use Rattle.teco_query_outcomes.proofs.Prelude.{[], ◌∷◌, length, Bool, true, false, Some, None, get_or, slice_index_or}
use Rattle.teco_query_outcomes.proofs.Prelude.{refl}
use Rattle.teco_query_outcomes.proofs.Prelude.{sym, ap, subst, ◌∙◌, arith, nat_tests, ints, is_line_end, line_place}
use Rattle.teco_query_outcomes.proofs.Prelude.{Term}
use Rattle.teco_query_outcomes.proofs.Prelude.{Valuation, value, levels_after_taking, code_at, ◌>>=◌, Element}
use Rattle.teco_query_outcomes.proofs.Prelude.{outcome_at}
use Rattle.teco_query_outcomes.proofs.Prelude.{reply_of, step, AreBytes, Case, TakenForms, Single, Steps, Pointer, Size}
use Rattle.teco_query_outcomes.proofs.Prelude.{Held}
use Rattle.teco_query_outcomes.proofs.Prelude.{LineEnd, LineStart, LastLength, CodeHere, CodeBefore, Typed, EntryHeld}
use Rattle.teco_query_outcomes.proofs.Prelude.{Outcomes}
use Rattle.teco_query_outcomes.proofs.Prelude.{Places}
use Rattle.teco_query_outcomes.proofs.Prelude.{value_if, AreCommanded, IsAtLevel, IsTaken, Leads, commanded, Describe}
use Rattle.teco_query_outcomes.proofs.Prelude.{Before}
use Rattle.teco_query_outcomes.proofs.Prelude.{Clause, IsTrueOf, Point, single, code_here, read_at, answers, leads}
use Rattle.teco_query_outcomes.proofs.Prelude.{IsEnd}
use Rattle.teco_query_outcomes.proofs.Prelude.{above_or, clash, ends, line_begin, line_end, IsWay, by, Goes, Law}
use Rattle.teco_query_outcomes.proofs.Prelude.{StepsTo}
use Rattle.teco_query_outcomes.proofs.Prelude.{point_of}
use Rattle.teco_model.specs.Character.{character}
use Rattle.teco_model.specs.Going as going
use Rattle.teco_model.specs.Outside.{append_reply}
use Rattle.teco_model.specs.declared.kind.Kind.TheVariants as kind
use Rattle.teco_model.specs.declared.kind.Page.TheVariants.{Append}
use Rattle.teco_rows.specs.declared.commands.Way as command
use Rattle.teco_rows.specs.States.{code_before}
use Rattle.teco_rows.proofs.Characters.{before_next}
use Rattle.teco_rows.proofs.Characters as characters
use Rattle.teco_rows.proofs.Lines.{IsBegin, begin_most, end_least}
use Rattle.teco_query_outcomes.specs.declared.characters.TheConstants.{AT_FIRST, AT_LAST, BEFORE, BEHIND, ENDS_HERE}
use Rattle.teco_query_outcomes.specs.declared.characters.TheConstants.{ENDS_THERE, HIGH_HERE}
use Rattle.teco_query_outcomes.specs.declared.characters.TheConstants.{HIGH_THERE, INSIDE, LOW_HERE, LOW_THERE}
use Rattle.teco_query_outcomes.specs.Characters.{AnswersCode, GivesCharacter}

-- a character that is there is a byte, and outside there is none
code_inside : (text : List ℕ) (k : ℕ) → k < length text → AreBytes text
    → (c : ℕ) × (code_at text (pos k) ≡ pos c) × (c < 256) × (get_or text k 0 ≡ c) × (code_here text k ≡ c + 1)
code_inside [] k h bytes = absurd (omega arith)
code_inside (c ∷ text) zero h bytes = (c, refl, bytes.0, refl, refl)
code_inside (c ∷ text) (suc k) h bytes = code_inside text k (omega arith) bytes.1

code_outside : (text : List ℕ) (k : ℕ) → length text ≤ k → code_at text (pos k) ≡ negsuc 0
code_outside [] k h = refl
code_outside (c ∷ text) zero h = absurd (omega arith)
code_outside (c ∷ text) (suc k) h = code_outside text k (omega arith)

module _ (s : Point) (here : Places) (given : ℕ → ℤ) (at : here.level ≡ length s.arguments.outer) where
  stays : (x : ℤ) (which : Single)
      → Some (single (commanded s s.kept (Some x)) which) ≡ Some (single (commanded s s.kept None) which)
  stays x Steps = refl
  stays x Pointer = refl
  stays x Size = refl
  stays x Held = refl
  stays x LineEnd = refl
  stays x LineStart = refl
  stays x LastLength = refl
  stays x CodeHere = refl
  stays x CodeBefore = refl
  stays x Typed = refl
  stays x EntryHeld = refl

  inside_leads : (k c : ℕ) → pos s.kept.pointer +ℤ given 0 ≡ pos k → k < length s.kept.text → c < 256
      → Leads INSIDE (read_at s here given (λ i. pos c)) s s.kept (Some (pos c))
  inside_leads k c e h byte = leads INSIDE _ s s.kept (Some (pos c)) refl refl refl refl (record {
    met = (omega (arith, ints), (omega (arith, ints), (omega (arith, ints), (omega (arith, ints), tt))));
    singles = stays (pos c);
    numbers = λ i. refl;
    lengths = λ i. refl;
    values = λ i. answers s s.kept here i (pos c) _ at (ap Some (omega (arith, ints)));
    stack = refl;
  })

  before_leads : (k : ℕ) → pos s.kept.pointer +ℤ given 0 ≡ negsuc k
      → Leads BEFORE (read_at s here given (λ i. pos 0)) s s.kept (Some (negsuc 0))
  before_leads k e = leads BEFORE _ s s.kept (Some (negsuc 0)) refl refl refl refl (record {
    met = (omega (arith, ints), tt);
    singles = stays (negsuc 0);
    numbers = λ i. refl;
    lengths = λ i. refl;
    values = λ i. answers s s.kept here i (negsuc 0) _ at (ap Some (omega (arith, ints)));
    stack = refl;
  })

  behind_leads : (k : ℕ) → pos s.kept.pointer +ℤ given 0 ≡ pos k → length s.kept.text ≤ k
      → Leads BEHIND (read_at s here given (λ i. pos 0)) s s.kept (Some (negsuc 0))
  behind_leads k e h = leads BEHIND _ s s.kept (Some (negsuc 0)) refl refl refl refl (record {
    met = (omega (arith, ints), tt);
    singles = stays (negsuc 0);
    numbers = λ i. refl;
    lengths = λ i. refl;
    values = λ i. answers s s.kept here i (negsuc 0) _ at (ap Some (omega (arith, ints)));
    stack = refl;
  })

-- ---- the character at the pointer, and the one before it
-- a character ends its line, or is below or above those that do
data Sort (c : ℕ) : Type 0 where
  ends_one : is_line_end c ≡ true → 10 ≤ c → c ≤ 12 → Sort c
  is_low : is_line_end c ≡ false → c ≤ 9 → Sort c
  is_high : is_line_end c ≡ false → 13 ≤ c → Sort c

end_code : (c : ℕ) → is_line_end c ≡ true → (10 ≤ c) × (c ≤ 12)
end_code c e = (grind (arith, nat_tests), grind (arith, nat_tests))

other_code : (c : ℕ) → is_line_end c ≡ false → (c ≤ 9) ⊎ (13 ≤ c)
other_code c e = grind (arith, nat_tests)

sort_of : (c : ℕ) → Sort c
sort_of c = by_test (is_line_end c) refl where
  by_test : (b : Bool) → is_line_end c ≡ b → Sort c
  by_test true e = let k = end_code c e in ends_one e k.0 k.1
  by_test false e = elim (other_code c e) [ inl h ↦ is_low e h | inr h ↦ is_high e h ]

module _ (s : Point) (here : Places) (given : ℕ → ℤ) (at : here.level ≡ length s.arguments.outer)
    (whole : s.kept.pointer ≤ length s.kept.text) where
  abbrev read_code : ℕ → Before
  read_code c = read_at s here given (λ i. pos c)

  end : IsEnd s.kept.text s.kept.pointer (line_place s.kept.text s.kept.pointer (pos 1))
  end = line_end s.kept.text s.kept.pointer whole

  begin : IsBegin s.kept.text s.kept.pointer (line_place s.kept.text s.kept.pointer (pos 0))
  begin = line_begin s.kept.text s.kept.pointer

  later : s.kept.pointer < length s.kept.text
      → s.kept.pointer + 1 ≤ line_place s.kept.text s.kept.pointer (pos 1)
  later h = elim (above_or (length s.kept.text) (line_place s.kept.text s.kept.pointer (pos 1))) [
    | inl w ↦ omega arith
    | inr w ↦ omega (arith, end.more w)
  ]

  ends_here : (c : ℕ) → code_here s.kept.text s.kept.pointer ≡ c + 1 → s.kept.pointer < length s.kept.text
      → ends s.kept.text s.kept.pointer ≡ true → 10 ≤ c → c ≤ 12
      → Leads ENDS_HERE (read_code c) s s.kept (Some (pos c))
  ends_here c code h e low high =
      let near = end_least s.kept.text s.kept.pointer _ s.kept.pointer end (omega arith) e in
      leads ENDS_HERE _ s s.kept (Some (pos c)) refl refl refl refl (record {
        met = (
          omega (arith, ints, code),
          (omega (arith, ints, code), (omega (arith, ints, code, later h), (omega (arith, ints, code, near), tt))),
        );
        singles = stays s here given at (pos c);
        numbers = λ i. refl;
        lengths = λ i. refl;
        values = λ i. answers s s.kept here i (pos c) _ at (ap Some (omega (arith, ints, code)));
        stack = refl;
      })

  low_here : (c : ℕ) → code_here s.kept.text s.kept.pointer ≡ c + 1 → s.kept.pointer < length s.kept.text → c ≤ 9
      → Leads LOW_HERE (read_code c) s s.kept (Some (pos c))
  low_here c code h low = leads LOW_HERE _ s s.kept (Some (pos c)) refl refl refl refl (record {
    met = (omega (arith, ints, code), (omega (arith, ints, code), (omega (arith, ints, code, later h), tt)));
    singles = stays s here given at (pos c);
    numbers = λ i. refl;
    lengths = λ i. refl;
    values = λ i. answers s s.kept here i (pos c) _ at (ap Some (omega (arith, ints, code)));
    stack = refl;
  })

  high_here : (c : ℕ) → code_here s.kept.text s.kept.pointer ≡ c + 1 → s.kept.pointer < length s.kept.text → 13 ≤ c
      → c < 256
      → Leads HIGH_HERE (read_code c) s s.kept (Some (pos c))
  high_here c code h low byte = leads HIGH_HERE _ s s.kept (Some (pos c)) refl refl refl refl (record {
    met = (omega (arith, ints, code), (omega (arith, ints, code), (omega (arith, ints, code, later h), tt)));
    singles = stays s here given at (pos c);
    numbers = λ i. refl;
    lengths = λ i. refl;
    values = λ i. answers s s.kept here i (pos c) _ at (ap Some (omega (arith, ints, code)));
    stack = refl;
  })

  at_last : length s.kept.text ≤ s.kept.pointer → Leads AT_LAST (read_code 0) s s.kept (Some (negsuc 0))
  at_last h = leads AT_LAST _ s s.kept (Some (negsuc 0)) refl refl refl refl (record {
    met = (
      omega (arith, ints, characters.code_outside s.kept.text s.kept.pointer h),
      (omega (arith, ints), tt),
    );
    singles = stays s here given at (negsuc 0);
    numbers = λ i. refl;
    lengths = λ i. refl;
    values = λ i. answers s s.kept here i (negsuc 0) _ at (ap Some (omega (arith, ints)));
    stack = refl;
  })

  -- before the pointer
  module _ (k : ℕ) (before : k + 1 ≡ s.kept.pointer) where
    ends_there : (c : ℕ) → code_before s.kept.text s.kept.pointer ≡ c + 1 → ends s.kept.text k ≡ true → 10 ≤ c → c ≤ 12
        → Leads ENDS_THERE (read_code c) s s.kept (Some (pos c))
    ends_there c code e low high =
        let near = begin_most s.kept.text s.kept.pointer _ k begin (omega arith) e in
        leads ENDS_THERE _ s s.kept (Some (pos c)) refl refl refl refl (record {
          met = (
            omega (arith, ints, code),
            (
              omega (arith, ints, code),
              (
                omega (arith, ints, code, before),
                (omega (arith, ints, code, near, before), tt),
              ),
            ),
          );
          singles = stays s here given at (pos c);
          numbers = λ i. refl;
          lengths = λ i. refl;
          values = λ i. answers s s.kept here i (pos c) _ at (ap Some (omega (arith, ints, code)));
          stack = refl;
        })

    earlier : ends s.kept.text k ≡ false → line_place s.kept.text s.kept.pointer (pos 0) + 1 ≤ s.kept.pointer
    earlier e = elim (above_or s.kept.pointer (line_place s.kept.text s.kept.pointer (pos 0))) [
      | inl w ↦ absurd (clash (ends s.kept.text k) (begin.one k (omega (arith, before, begin.before))) e)
      | inr w ↦ omega arith
    ]

    low_there : (c : ℕ) → code_before s.kept.text s.kept.pointer ≡ c + 1 → ends s.kept.text k ≡ false → c ≤ 9
        → Leads LOW_THERE (read_code c) s s.kept (Some (pos c))
    low_there c code e low = leads LOW_THERE _ s s.kept (Some (pos c)) refl refl refl refl (record {
      met = (omega (arith, ints, code), (omega (arith, ints, code), (omega (arith, ints, code, earlier e), tt)));
      singles = stays s here given at (pos c);
      numbers = λ i. refl;
      lengths = λ i. refl;
      values = λ i. answers s s.kept here i (pos c) _ at (ap Some (omega (arith, ints, code)));
      stack = refl;
    })

    high_there : (c : ℕ) → code_before s.kept.text s.kept.pointer ≡ c + 1 → ends s.kept.text k ≡ false → 13 ≤ c
        → c < 256
        → Leads HIGH_THERE (read_code c) s s.kept (Some (pos c))
    high_there c code e low byte = leads HIGH_THERE _ s s.kept (Some (pos c)) refl refl refl refl (record {
      met = (omega (arith, ints, code), (omega (arith, ints, code), (omega (arith, ints, code, earlier e), tt)));
      singles = stays s here given at (pos c);
      numbers = λ i. refl;
      lengths = λ i. refl;
      values = λ i. answers s s.kept here i (pos c) _ at (ap Some (omega (arith, ints, code)));
      stack = refl;
    })

  at_first : s.kept.pointer ≡ 0 → Leads AT_FIRST (read_code 0) s s.kept (Some (negsuc 0))
  at_first h = leads AT_FIRST _ s s.kept (Some (negsuc 0)) refl refl refl refl (record {
    met = (omega (arith, ints, ap (code_before s.kept.text) h), (omega (arith, ints), tt));
    singles = stays s here given at (negsuc 0);
    numbers = λ i. refl;
    lengths = λ i. refl;
    values = λ i. answers s s.kept here i (negsuc 0) _ at (ap Some (omega (arith, ints)));
    stack = refl;
  })

module _ (case : Case) (ways : List command.Way) (here : Places) (all : Outcomes) (level : IsAtLevel here case)
    (are : AreCommanded case ways [] here all.cases.items) where
  abbrev none_given : ℕ → Valuation → ℕ → ℤ
  none_given n v i = value (slice_index_or [] i []) n v

  -- a way by its row, with some code
  answered_by : (n : ℕ) (v : Valuation) (s : Point) (i c : ℕ) (row : List Clause) (x y : ℤ) → IsTrueOf n v case s
      → IsWay ways i row → y ≡ x → Leads row (read_at s here (none_given n v) (λ i. pos c)) s s.kept (Some x)
      → Describe n all (commanded s s.kept (Some y))
  answered_by n v s i c row x y true_of w same leading =
      subst (λ z. Describe n all (commanded s s.kept (Some z))) (sym same)
      (by n v case ways [] here all i row s s.kept (Some x) (λ i. pos c) are w true_of leading)

  pub character_here : IsWay ways 0 ENDS_HERE → IsWay ways 1 LOW_HERE → IsWay ways 2 HIGH_HERE → IsWay ways 3 AT_LAST
      → AnswersCode (pos 0) case all
  character_here w0 w1 w2 w3 n v s begins = elim (above_or (length s.kept.text) s.kept.pointer) [
    | inl h ↦ answered_by n v s 3 0 AT_LAST (negsuc 0) _ begins.true_of w3
        (ap (code_at s.kept.text) there ∙ code_outside s.kept.text s.kept.pointer h)
        (at_last s here (none_given n v) level_at begins.whole.inside h)
    | inr h ↦
        let c = code_inside s.kept.text s.kept.pointer h begins.whole.bytes in
        let code = ap (code_at s.kept.text) there ∙ c.1 in
        let same = ap is_line_end c.3 in
        by_sort c.0 code c.4 h c.2 same (sort_of c.0)
  ] where
    level_at : here.level ≡ length s.arguments.outer
    level_at = level s begins.true_of.shape

    there : (pos s.kept.pointer +ℤ pos 0) ≡ pos s.kept.pointer
    there = omega (arith, ints)

    by_sort : (c : ℕ) → code_at s.kept.text (pos s.kept.pointer +ℤ pos 0) ≡ pos c
        → code_here s.kept.text s.kept.pointer ≡ c + 1
        → s.kept.pointer < length s.kept.text → c < 256 → ends s.kept.text s.kept.pointer ≡ is_line_end c → Sort c
        → Describe n all (commanded s s.kept (Some (code_at s.kept.text (pos s.kept.pointer +ℤ pos 0))))
    by_sort c code there_is h byte same (ends_one e low high) =
        answered_by n v s 0 c ENDS_HERE (pos c) _ begins.true_of w0 code
        (ends_here s here (none_given n v) level_at begins.whole.inside c there_is h (same ∙ e) low high)
    by_sort c code there_is h byte same (is_low e low) =
        answered_by n v s 1 c LOW_HERE (pos c) _ begins.true_of w1 code
        (low_here s here (none_given n v) level_at begins.whole.inside c there_is h low)
    by_sort c code there_is h byte same (is_high e high) =
        answered_by n v s 2 c HIGH_HERE (pos c) _ begins.true_of w2 code
        (high_here s here (none_given n v) level_at begins.whole.inside c there_is h high byte)

  pub character_before : IsWay ways 0 ENDS_THERE → IsWay ways 1 LOW_THERE → IsWay ways 2 HIGH_THERE
      → IsWay ways 3 AT_FIRST → AnswersCode (negsuc 0) case all
  character_before w0 w1 w2 w3 n v s begins = by_place s.kept.pointer refl where
    level_at : here.level ≡ length s.arguments.outer
    level_at = level s begins.true_of.shape

    D : ℤ → Type 0
    D x = Describe n all (commanded s s.kept (Some (code_at s.kept.text x)))

    by_sort : (k c : ℕ) → k + 1 ≡ s.kept.pointer → code_at s.kept.text (pos k) ≡ pos c
        → code_before s.kept.text s.kept.pointer ≡ c + 1 → c < 256
        → ends s.kept.text k ≡ is_line_end c → Sort c → D (pos k)
    by_sort k c before code there_is byte same (ends_one e low high) =
        answered_by n v s 0 c ENDS_THERE (pos c) _ begins.true_of w0 code
        (ends_there s here (none_given n v) level_at begins.whole.inside k before c there_is (same ∙ e) low high)
    by_sort k c before code there_is byte same (is_low e low) =
        answered_by n v s 1 c LOW_THERE (pos c) _ begins.true_of w1 code
        (low_there s here (none_given n v) level_at begins.whole.inside k before c there_is (same ∙ e) low)
    by_sort k c before code there_is byte same (is_high e high) =
        answered_by n v s 2 c HIGH_THERE (pos c) _ begins.true_of w2 code
        (high_there s here (none_given n v) level_at begins.whole.inside k before c there_is (same ∙ e) high byte)

    by_place : (p : ℕ) → p ≡ s.kept.pointer → D (pos s.kept.pointer +ℤ negsuc 0)
    by_place zero e =
        let there : pos s.kept.pointer +ℤ negsuc 0 ≡ negsuc 0 = omega (arith, ints) in
        subst D (sym there)
        (answered_by n v s 3 0 AT_FIRST (negsuc 0) _ begins.true_of w3 refl
        (at_first s here (none_given n v) level_at begins.whole.inside (sym e)))
    by_place (suc k) e =
        let there : pos s.kept.pointer +ℤ negsuc 0 ≡ pos k = omega (arith, ints) in
        let before : k + 1 ≡ s.kept.pointer = omega arith in
        let inside : k < length s.kept.text = omega (arith, begins.whole.inside) in
        let c = code_inside s.kept.text k inside begins.whole.bytes in
        subst D (sym there) (by_sort k c.0 before c.1 (before_next s.kept.text k s.kept.pointer (sym before) ∙ c.4) c.2
        (ap is_line_end c.3)
        (sort_of c.0))

pub gives_code : (case : Case) (form : List Term) (number : ℤ) (all : Outcomes)
    → ((n : ℕ) (v : Valuation) → value form n v ≡ number) → AnswersCode number case all → GivesCharacter form case all
gives_code case form number all known answers n v s begins =
    subst (λ x. Describe n all (commanded s s.kept (Some (character x s.kept)))) (sym (known n v))
    (answers n v s begins)

-- ---- a character that is anywhere
pub gives_character : (case : Case) (ways : List command.Way) (form : List Term) (here : Places) (all : Outcomes)
    → IsAtLevel here case → AreCommanded case ways (form ∷ []) here all.cases.items → IsWay ways 0 INSIDE
    → IsWay ways 1 BEFORE → IsWay ways 2 BEHIND → GivesCharacter form case all
gives_character case ways form here all level are w0 w1 w2 n v s begins =
    by_place (pos s.kept.pointer +ℤ value form n v) refl where
      at : here.level ≡ length s.arguments.outer
      at = level s begins.true_of.shape

      given : ℕ → ℤ
      given i = value (slice_index_or (form ∷ []) i []) n v

      D : ℤ → Type 0
      D x = Describe n all (commanded s s.kept (Some x))

      by_place : (x : ℤ) → pos s.kept.pointer +ℤ value form n v ≡ x → D (code_at s.kept.text (pos s.kept.pointer
          +ℤ value form n v))
      by_place (negsuc k) e =
          subst (λ x. D (code_at s.kept.text x)) (sym e)
          (by n v case ways (form ∷ []) here all 1 BEFORE s s.kept (Some (negsuc 0)) (λ i. pos 0) are w1 begins.true_of
          (before_leads s here given at k e))
      by_place (pos k) e = subst (λ x. D (code_at s.kept.text x)) (sym e) (elim (above_or (length s.kept.text) k) [
        | inl h ↦ subst D (sym (code_outside s.kept.text k h))
            (by n v case ways (form ∷ []) here all 2 BEHIND s s.kept (Some (negsuc 0)) (λ i. pos 0) are w2
            begins.true_of (behind_leads s here given at k e h))
        | inr h ↦ let c = code_inside s.kept.text k h begins.whole.bytes in
            subst D (sym c.1)
            (by n v case ways (form ∷ []) here all 0 INSIDE s s.kept (Some (pos c.0)) (λ i. pos c.0) are w0
            begins.true_of (inside_leads s here given at k c.0 e h c.2))
      ])

-- nA gives it where it is read
pub character_law : (e : Element) (case : Case) (taken : TakenForms) (form : List Term) (all : Outcomes)
    → e.kind ≡ kind.Page Append → IsTaken case taken → taken.value ≡ Some form → GivesCharacter form case all
    → Law e case all
unfolding step reply_of
character_law e case taken form all is takes value_is gives n v s steps origin stands begins =
    subst (StepsTo (Goes n all e steps origin s))
    (sym (ap (outcome_at s) stands.reads ∙ ap (λ k. going.settle e s (reply_of k e s)) is
    ∙ ap (λ a. going.settle e s (a >>= (λ taken. append_reply taken.value s.left (levels_after_taking s.arguments)
    s.world))) (takes n v (point_of steps origin s) begins.true_of)
    ∙ ap (λ o. going.settle e s (append_reply (value_if o n v) s.left (levels_after_taking s.arguments) s.world))
    value_is))
    (inl (record { described = gives n v (point_of steps origin s) begins; there = refl; left = refl }))
