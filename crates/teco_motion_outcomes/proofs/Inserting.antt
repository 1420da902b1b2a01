-- I and TAB.
use Rattle.teco_motion_outcomes.proofs.Prelude.{◌≡◌, ℕ, ◌+◌, ◌<◌, ◌≤◌, ◌⊎◌, inl, inr, ℤ, pos, ◌-ℤ◌, ◌≤ℤ◌, List, ◌++◌}
use Rattle.teco_motion_outcomes.proofs.Prelude.{[], ◌∷◌, zero, suc, ◌-◌, slice_get, length, true, false, Some, None}
use Rattle.teco_motion_outcomes.proofs.Prelude.{Ok, Err, if◌then◌else◌, nat_le, take, drop, slice_index_or, refl, sym}
use Rattle.teco_motion_outcomes.proofs.Prelude.{ap, subst, ◌∙◌, arith, nat_tests, ints, append_assoc, All-head, All}
use Rattle.teco_motion_outcomes.proofs.Prelude.{byte_of, line_place, text_after_insertion, LIMIT, Term, Valuation}
use Rattle.teco_motion_outcomes.proofs.Prelude.{value, no_answer, Element, Kept, retrieval, storage, text_in, Get}
use Rattle.teco_motion_outcomes.proofs.Prelude.{IsWhole, Case, TakenForms, Single, Steps, Pointer, Size, Held, LineEnd}
use Rattle.teco_motion_outcomes.proofs.Prelude.{LineStart, LastLength, CodeHere, CodeBefore, Typed, EntryHeld, One}
use Rattle.teco_motion_outcomes.proofs.Prelude.{Outcomes}
use Rattle.teco_motion_outcomes.proofs.Prelude.{Places, value_if, AreCommanded, Leads, Performs, commanded, IsDone}
use Rattle.teco_motion_outcomes.proofs.Prelude.{Describe, end_code, Before, changed, Point, IsTrueOf, single}
use Rattle.teco_motion_outcomes.proofs.Prelude.{code_before, code_here, with_codes, read_at, leads_singles, performed}
use Rattle.teco_motion_outcomes.proofs.Prelude.{ends, IsEnd, IsBegin, line_end, line_begin, one_end, one_begin}
use Rattle.teco_motion_outcomes.proofs.Prelude.{above_or, begin_kept, end_behind, length_after, IsWay, by}
use Rattle.teco_base.specs.declared.bytes.TheConstants.{TAB}
use Rattle.teco_base.specs.declared.code.Code.TheVariants as code
use Rattle.teco_linear.specs.Implied as linear
use Rattle.teco_model.specs.Insertion.{insertion, insertion_of, insertion_with}
use Rattle.teco_model.specs.declared.kind.Insertion.{Insertion}
use Rattle.teco_model.specs.declared.kind.Insertion.TheVariants.{Text, Tab}
use Rattle.teco_rows.specs.declared.commands.Way as command
use Rattle.teco_motion_outcomes.specs.declared.insertions.TheConstants.{GOES_ON, PUTS, STARTS}
use Rattle.teco_motion_outcomes.specs.Insertions.{HasRoom, Inserts, InsertsAny, InsertsByte, IsEndCode}
use Rattle.teco_rows.specs.States.{code_if}
use Rattle.teco_motion_outcomes.proofs.Codes.{grown_before, grown_here}
use Rattle.teco_rows.proofs.Texts.{begin_new}

-- ---- where the last line of a text starts
pub starts_at_first : (text : List ℕ) → line_place text 0 (pos 0) ≡ 0
starts_at_first text = omega (arith, (line_begin text 0).before)

pub starts_behind_end : (text : List ℕ) (p : ℕ) → ends text p ≡ true → line_place text (p + 1) (pos 0) ≡ p + 1
starts_behind_end text p e =
    one_begin text (p + 1) (line_place text (p + 1) (pos 0)) (p + 1) (line_begin text (p + 1)) (record {
      before = omega arith;
      none = λ i a b. absurd (omega arith);
      one = λ k f. subst (λ i. ends text i ≡ true) (omega arith) e;
    })

pub starts_as_before : (text : List ℕ) (p : ℕ) → ends text p ≡ false
    → line_place text (p + 1) (pos 0) ≡ line_place text p (pos 0)
starts_as_before text p e =
    let b = line_begin text p in
    one_begin text (p + 1) (line_place text (p + 1) (pos 0)) (line_place text p (pos 0)) (line_begin text (p + 1))
    (record {
      before = omega (arith, b.before);
      none = λ i x y. elim (above_or p i) as (λ z. ends text i ≡ false) [
        | inl w ↦ subst (λ j. ends text j ≡ false) (omega arith) e
        | inr w ↦ b.none i x w
      ];
      one = b.one;
    })

-- ---- a text with a new part
module _ (text new : List ℕ) (p : ℕ) (inside : p ≤ length text) where
  -- the new text, joined from its end on
  joined : take p text ++ (new ++ drop p text) ≡ text_after_insertion text p new
  joined = sym (append_assoc (take p text) new (drop p text))

  pub grown_long : length (text_after_insertion text p new) ≡ length new + length text
  grown_long =
      subst (λ t. length t ≡ length new + length text) joined
      (omega (arith, length_after text new p p (omega arith) inside))

  pub grown_end : line_place (text_after_insertion text p new) (p + length new) (pos 1)
      ≡ line_place text p (pos 1) + length new
  grown_end =
      let after = text_after_insertion text p new in
      let e = line_place text p (pos 1) in
      one_end after (p + length new) (line_place after (p + length new) (pos 1)) (e + length new)
      (line_end after (p + length new) (omega (arith, grown_long)))
      (subst (λ t. IsEnd t (p + length new) (e + length new)) joined
      (end_behind text new p p (omega arith) inside p e (p + length new) (e + length new) (line_end text p inside)
      (omega arith) (omega arith) (omega arith)))

  pub grown_kept : line_place new (length new) (pos 0) ≡ 0
      → line_place (text_after_insertion text p new) (p + length new) (pos 0) ≡ line_place text p (pos 0)
  grown_kept none =
      let after = text_after_insertion text p new in
      let s = line_place text p (pos 0) in
      let start = line_begin new (length new) in
      one_begin after (p + length new) (line_place after (p + length new) (pos 0)) s
      (line_begin after (p + length new))
      (subst (λ t. IsBegin t (p + length new) s) joined
      (begin_kept text new p p (omega arith) inside s (p + length new) (line_begin text p) refl
      (λ i h. start.none i (omega arith) h)))

  pub grown_new : 1 ≤ line_place new (length new) (pos 0)
      → line_place (text_after_insertion text p new) (p + length new) (pos 0)
      ≡ p + line_place new (length new) (pos 0)
  grown_new one =
      let after = text_after_insertion text p new in
      let t = line_place new (length new) (pos 0) in
      one_begin after (p + length new) (line_place after (p + length new) (pos 0)) (p + t)
      (line_begin after (p + length new))
      (subst (λ x. IsBegin x (p + length new) (p + t)) joined
      (begin_new text new p p (omega arith) inside t (line_begin new (length new)) one))

abbrev pub kept_with : List ℕ → Kept → Kept
kept_with new kept = record kept {
  text = text_after_insertion kept.text kept.pointer new;
  pointer = kept.pointer + length new;
  last_length = length new;
}

module _ (s : Point) (here : Places) (given unknown : ℕ → ℤ) (new : List ℕ)
    (inside : s.kept.pointer ≤ length s.kept.text) (long_is : given 0 ≡ pos (length new))
    (start_is : given 1 ≡ pos (line_place new (length new) (pos 0)))
    (code_is : given 2 ≡ pos (end_code new (code_before s.kept.text s.kept.pointer))) where
  abbrev before : Before
  before = read_at s here given unknown

  pub goes_on : line_place new (length new) (pos 0) ≡ 0 → Leads GOES_ON before s (kept_with new s.kept) None
  goes_on none =
      leads_singles GOES_ON before s (kept_with new s.kept) refl refl (omega (arith, ints), tt) singles where
        long : length (text_after_insertion s.kept.text s.kept.pointer new) ≡ length new + length s.kept.text
        long = grown_long s.kept.text new s.kept.pointer inside

        singles : (which : Single) → Some (single (commanded s (kept_with new s.kept) None) which)
            ≡ changed GOES_ON before (One which) (Some (single (commanded s s.kept None) which))
        singles Steps = refl
        singles Pointer = ap Some (omega (arith, ints))
        singles Size = ap Some (omega (arith, ints, long))
        singles Held = ap Some (omega (arith, ints, long))
        singles LineEnd = ap Some (omega (arith, ints, grown_end s.kept.text new s.kept.pointer inside))
        singles LineStart = ap (λ x. Some (pos x)) (grown_kept s.kept.text new s.kept.pointer inside none)
        singles LastLength = ap Some (omega (arith, ints))
        singles CodeHere = ap (λ x. Some (pos x)) (grown_here s.kept.text new s.kept.pointer inside)
        singles CodeBefore = ap Some (omega (arith, ints, grown_before s.kept.text new s.kept.pointer inside))
        singles Typed = refl
        singles EntryHeld = refl

  pub starts : 1 ≤ line_place new (length new) (pos 0) → Leads STARTS before s (kept_with new s.kept) None
  starts one =
      leads_singles STARTS before s (kept_with new s.kept) refl refl (omega (arith, ints), tt) singles where
        long : length (text_after_insertion s.kept.text s.kept.pointer new) ≡ length new + length s.kept.text
        long = grown_long s.kept.text new s.kept.pointer inside

        singles : (which : Single) → Some (single (commanded s (kept_with new s.kept) None) which)
            ≡ changed STARTS before (One which) (Some (single (commanded s s.kept None) which))
        singles Steps = refl
        singles Pointer = ap Some (omega (arith, ints))
        singles Size = ap Some (omega (arith, ints, long))
        singles Held = ap Some (omega (arith, ints, long))
        singles LineEnd = ap Some (omega (arith, ints, grown_end s.kept.text new s.kept.pointer inside))
        singles LineStart = ap Some (omega (arith, ints, grown_new s.kept.text new s.kept.pointer inside one))
        singles LastLength = ap Some (omega (arith, ints))
        singles CodeHere = ap (λ x. Some (pos x)) (grown_here s.kept.text new s.kept.pointer inside)
        singles CodeBefore = ap Some (omega (arith, ints, grown_before s.kept.text new s.kept.pointer inside))
        singles Typed = refl
        singles EntryHeld = refl

-- ---- what is inserted
abbrev read_by : List Term → List Term → List Term → ℕ → Valuation → ℕ → ℤ
read_by long start end n v i = value (slice_index_or (long ∷ start ∷ end ∷ []) i []) n v

pub inserted : (new : List ℕ) (kept : Kept) → length (text_after_insertion kept.text kept.pointer new) ≤ LIMIT
    → insertion_of new kept ≡ Ok (no_answer (kept_with new kept))
inserted new kept h =
    let fits : nat_le (length (text_after_insertion kept.text kept.pointer new)) LIMIT ≡ true =
    grind (arith, nat_tests) in
    ap (λ b. if b then Ok (no_answer (kept_with new kept)) else Err code.Ful) fits

pub inserts : (case : Case) (ways : List command.Way) (new : List ℕ) (long start end : List Term) (here : Places)
    (all : Outcomes) → AreCommanded case ways (long ∷ start ∷ end ∷ []) here all.cases.items → IsWay ways 0 GOES_ON
    → IsWay ways 1 STARTS
    → ((n : ℕ) (v : Valuation) → value long n v ≡ pos (length new))
    → ((n : ℕ) (v : Valuation) → value start n v ≡ pos (line_place new (length new) (pos 0)))
    → IsEndCode new case end → HasRoom long case all.conditions.items → Inserts new case all
inserts case ways new long start end here all are w0 w1 long_is start_is code_is room n v s begins =
    performed n all s _ (no_answer (kept_with new s.kept)) (inserted new s.kept fits)
    (by_start (above_or (line_place new (length new) (pos 0)) 0)) where
      whole : s.kept.pointer ≤ length s.kept.text
      whole = begins.whole.inside

      fits : length (text_after_insertion s.kept.text s.kept.pointer new) ≤ LIMIT
      fits = omega (
        arith,
        ints,
        grown_long s.kept.text new s.kept.pointer whole,
        room n v s begins.true_of begins.conditions,
        long_is n v,
      )

      by_start : ((line_place new (length new) (pos 0) ≤ 0) ⊎ (0 < line_place new (length new) (pos 0)))
          → Describe n all (commanded s (kept_with new s.kept) None)
      by_start (inl h) =
          by n v case ways (long ∷ start ∷ end ∷ []) here all 0 GOES_ON s (kept_with new s.kept) None
          (λ i. pos 0) are w0 begins.true_of
          (goes_on s here (read_by long start end n v) (λ i. pos 0) new whole (long_is n v) (start_is n v)
          (code_is n v s begins.true_of) (omega arith))
      by_start (inr h) =
          by n v case ways (long ∷ start ∷ end ∷ []) here all 1 STARTS s (kept_with new s.kept) None
          (λ i. pos 0) are w1 begins.true_of
          (starts s here (read_by long start end n v) (λ i. pos 0) new whole (long_is n v) (start_is n v)
          (code_is n v s begins.true_of) (omega arith))

pub has_room : (case : Case) (long size most free left : List Term) (conditions : List (List Term))
    → conditions ≡ left ∷ []
    → ((n : ℕ) (v : Valuation) (s : Point) → IsTrueOf n v case s → value size n v ≡ pos (length s.kept.text))
    → ((n : ℕ) (v : Valuation) → value most n v ≡ pos LIMIT)
    → ((n : ℕ) (v : Valuation) → value free n v ≡ value most n v -ℤ value size n v)
    → ((n : ℕ) (v : Valuation) → value left n v ≡ value free n v -ℤ value long n v) → HasRoom long case conditions
has_room case long size most free left conditions e size_is most_is free_is left_is n v s true_of h =
    let holds : pos 0 ≤ℤ value left n v =
    All-head (linear.Holds n v) left [] (subst (All (linear.Holds n v)) e h) in
    omega (arith, ints, holds, size_is n v s true_of, most_is n v, free_is n v, left_is n v)

-- I inserts its text, and TAB itself before it
pub inserts_text : (case : Case) (kind : Insertion) (taken : TakenForms) (text : List ℕ) (all : Outcomes)
    → kind ≡ Text → taken.value ≡ None → Inserts text case all → (e : Element) → e.text ≡ text
    → Performs (insertion kind e) taken case all
inserts_text case kind taken text all k value_is told e same n v s begins =
    let told_here = told n v s begins in
    subst (λ j. IsDone n all s (insertion j e (record {
      first = value_if taken.first n v;
      value = value_if taken.value
          n v;
    })
    s.kept)) (sym k)
    (subst (λ x. IsDone n all s (insertion Text e (record { first = value_if taken.first n v; value = value_if x n v })
    s.kept)) (sym value_is)
    (subst (λ t. IsDone n all s (insertion_of t s.kept)) (sym same) told_here))

pub inserts_tab : (case : Case) (kind : Insertion) (taken : TakenForms) (text : List ℕ) (all : Outcomes)
    → kind ≡ Tab → taken.value ≡ None → Inserts (TAB ∷ text) case all → (e : Element) → e.text ≡ text
    → Performs (insertion kind e) taken case all
inserts_tab case kind taken text all k value_is told e same n v s begins =
    let told_here = told n v s begins in
    subst (λ j. IsDone n all s (insertion j e (record {
      first = value_if taken.first n v;
      value = value_if taken.value
          n v;
    })
    s.kept)) (sym k)
    (subst (λ x. IsDone n all s (insertion Tab e (record { first = value_if taken.first n v; value = value_if x n v })
    s.kept)) (sym value_is)
    (subst (λ t. IsDone n all s (insertion_of (TAB ∷ t) s.kept)) (sym same) told_here))

-- ---- G
module _ (s : Point) (here : Places) (given unknown : ℕ → ℤ) (new : List ℕ)
    (inside : s.kept.pointer ≤ length s.kept.text) (long_is : given 0 ≡ pos (length new))
    (begin_is : unknown 0 ≡ pos (line_place (text_after_insertion s.kept.text s.kept.pointer new)
    (s.kept.pointer + length new) (pos 0)))
    (before_is : unknown 5 ≡ pos (code_before (text_after_insertion s.kept.text s.kept.pointer new)
    (s.kept.pointer + length new))) where
  pub puts : Leads PUTS (read_at s here given unknown) s (kept_with new s.kept) None
  puts =
      leads_singles PUTS (read_at s here given unknown) s (kept_with new s.kept) refl refl
      (omega (arith, ints, later), (omega (arith, ints, there.before), tt)) singles where
        long : length (text_after_insertion s.kept.text s.kept.pointer new) ≡ length new + length s.kept.text
        long = grown_long s.kept.text new s.kept.pointer inside

        there : IsBegin (text_after_insertion s.kept.text s.kept.pointer new) (s.kept.pointer + length new)
            (line_place (text_after_insertion s.kept.text s.kept.pointer new) (s.kept.pointer + length new) (pos 0))
        there = line_begin (text_after_insertion s.kept.text s.kept.pointer new) (s.kept.pointer + length new)

        later : line_place s.kept.text s.kept.pointer (pos 0)
            ≤ line_place (text_after_insertion s.kept.text s.kept.pointer new) (s.kept.pointer + length new) (pos 0)
        later = elim (above_or (line_place new (length new) (pos 0)) 0) [
          | inl h ↦ omega (arith, grown_kept s.kept.text new s.kept.pointer inside (omega arith))
          | inr h ↦ omega (
            arith,
            grown_new s.kept.text new s.kept.pointer inside (omega arith),
            (line_begin s.kept.text s.kept.pointer).before,
          )
        ]

        singles : (which : Single) → Some (single (commanded s (kept_with new s.kept) None) which)
            ≡ changed PUTS (read_at s here given unknown) (One which) (Some (single
            (commanded s s.kept None) which))
        singles Steps = refl
        singles Pointer = ap Some (omega (arith, ints))
        singles Size = ap Some (omega (arith, ints, long))
        singles Held = ap Some (omega (arith, ints, long))
        singles LineEnd = ap Some (omega (arith, ints, grown_end s.kept.text new s.kept.pointer inside))
        singles LineStart = ap Some (omega (arith, ints))
        singles LastLength = ap Some (omega (arith, ints))
        singles CodeHere = ap (λ x. Some (pos x)) (grown_here s.kept.text new s.kept.pointer inside)
        singles CodeBefore = ap Some (omega (arith, ints, before_is))
        singles Typed = refl
        singles EntryHeld = refl

-- what is not known of the state behind
abbrev unknown_behind : Kept → List ℕ → ℕ → ℤ
unknown_behind kept new =
    with_codes (text_after_insertion kept.text kept.pointer new) (kept.pointer + length new)
    (λ i. pos (line_place (text_after_insertion kept.text kept.pointer new) (kept.pointer + length new) (pos 0)))

abbrev read_one : List Term → ℕ → Valuation → ℕ → ℤ
read_one long n v i = value (slice_index_or (long ∷ []) i []) n v

pub gets : (case : Case) (ways : List command.Way) (taken : TakenForms) (register colons : ℕ) (long : List Term)
    (here : Places) (all : Outcomes) → AreCommanded case ways (long ∷ []) here all.cases.items → IsWay ways 0 PUTS
    → colons ≡ 0
    → ((n : ℕ) (v : Valuation) (s : Point) → IsTrueOf n v case s → IsWhole s.kept
    → value long n v ≡ pos (length (text_in register s.kept)))
    → HasRoom long case all.conditions.items → (e : Element) → e.colons ≡ colons
    → Performs (storage (Get register) e) taken case all
gets case ways taken register colons long here all are w0 none long_is room e same n v s begins =
    subst (λ c. IsDone n all s (retrieval c register s.kept)) (sym (same ∙ none))
    (performed n all s _ (no_answer (kept_with (text_in register s.kept) s.kept))
    (inserted (text_in register s.kept) s.kept fits)
    (by n v case ways (long ∷ []) here all 0 PUTS s (kept_with (text_in register s.kept) s.kept) None
    (unknown_behind s.kept (text_in register s.kept)) are w0 begins.true_of
    (puts s here (read_one long n v) _ (text_in register s.kept) begins.whole.inside
    (long_is n v s begins.true_of begins.whole) refl refl))) where
      fits : length (text_after_insertion s.kept.text s.kept.pointer (text_in register s.kept)) ≤ LIMIT
      fits = omega (
        arith,
        ints,
        grown_long s.kept.text (text_in register s.kept) s.kept.pointer begins.whole.inside,
        room n v s begins.true_of begins.conditions,
        long_is n v s begins.true_of begins.whole,
      )

-- ---- nI
pub inserts_any : (case : Case) (ways : List command.Way) (long : List Term) (here : Places) (all : Outcomes)
    → AreCommanded case ways (long ∷ []) here all.cases.items → IsWay ways 0 PUTS
    → ((n : ℕ) (v : Valuation) → value long n v ≡ pos 1) → HasRoom long case all.conditions.items → InsertsAny case all
inserts_any case ways long here all are w0 long_is room n v s new begins one =
    performed n all s _ (no_answer (kept_with new s.kept)) (inserted new s.kept fits)
    (by n v case ways (long ∷ []) here all 0 PUTS s (kept_with new s.kept) None
    (unknown_behind s.kept new) are w0 begins.true_of
    (puts s here (read_one long n v) _ new begins.whole.inside (long_is n v ∙ ap pos (sym one)) refl refl)) where
      fits : length (text_after_insertion s.kept.text s.kept.pointer new) ≤ LIMIT
      fits = omega (
        arith,
        ints,
        grown_long s.kept.text new s.kept.pointer begins.whole.inside,
        room n v s begins.true_of begins.conditions,
        long_is n v,
      )

pub inserts_known : (case : Case) (form : List Term) (byte : ℕ) (all : Outcomes)
    → ((n : ℕ) (v : Valuation) → byte_of (value form n v) ≡ byte) → Inserts (byte ∷ []) case all
    → InsertsByte form case all
inserts_known case form byte all is told n v s begins =
    subst (λ b. IsDone n all s (insertion_of (b ∷ []) s.kept)) (sym (is n v)) (told n v s begins)

pub inserts_unknown : (case : Case) (form : List Term) (all : Outcomes) → InsertsAny case all
    → InsertsByte form case all
inserts_unknown case form all told n v s begins = told n v s (byte_of (value form n v) ∷ []) begins refl

no_text : (text : List ℕ) → length text ≡ 0 → text ≡ []
no_text [] h = refl
no_text (c ∷ text) h = absurd (omega arith)

pub inserts_number : (case : Case) (kind : Insertion) (taken : TakenForms) (form : List Term) (text : List ℕ)
    (all : Outcomes)
    → kind ≡ Text → taken.value ≡ Some form → length text ≡ 0 → InsertsByte form case all → (e : Element)
    → e.text ≡ text
    → Performs (insertion kind e) taken case all
inserts_number case kind taken form text all k value_is none told e same n v s begins =
    subst (λ j. IsDone n all s (insertion_with j e.text (value_if taken.value n v) s.kept)) (sym k)
    (subst (λ x. IsDone n all s (insertion_with Text e.text (value_if x n v) s.kept)) (sym value_is)
    (subst (λ t. IsDone n all s (insertion_with Text t (Some (value form n v)) s.kept)) (sym (same ∙ no_text text none))
    (told n v s begins)))

-- ---- the character before the pointer behind a text
end_last : (text : List ℕ) (k before : ℕ) → suc k ≡ length text → end_code text before ≡ code_here text k
end_last [] k before e = absurd (omega (arith, e))
end_last (b ∷ []) zero before e = refl
end_last (b ∷ []) (suc k) before e = absurd (omega (arith, e))
end_last (b ∷ c ∷ text) zero before e = absurd (omega (arith, e))
end_last (b ∷ c ∷ text) (suc k) before e = end_last (c ∷ text) k before (omega (arith, e))

pub end_given : (text : List ℕ) (last before : ℕ) → Some last ≡ slice_get text (length text - 1)
    → end_code text before ≡ last + 1
end_given [] last before h = absurd (cc)
end_given (b ∷ text) last before h =
    end_last (b ∷ text) (length (b ∷ text) - 1) before (omega arith) ∙ sym (ap code_if h)
