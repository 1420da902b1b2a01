-- What is typed.
use Rattle.teco_command_outcomes.proofs.Prelude.{◌≡◌, ℕ, zero, suc, ◌+◌, ◌<◌, ◌≤◌, ◌==◌, inl, inr, ℤ, pos, negsuc, ◌≤ℤ◌}
use Rattle.teco_command_outcomes.proofs.Prelude.{◌-ℤ◌, ◌+ℤ◌, List, [], ◌∷◌, ◌++◌, length, Bool, true, false, Option}
use Rattle.teco_command_outcomes.proofs.Prelude.{Some, None, Ok, if◌then◌else◌, slice_index_or, unwrap_or, FitsSigned}
use Rattle.teco_command_outcomes.proofs.Prelude.{refl, sym, ap, subst, ◌∙◌, arith, length-append, min-eq_left}
use Rattle.teco_command_outcomes.proofs.Prelude.{min-eq_right, max-eq_left, max-eq_right, ints, All, ok_or, max, min}
use Rattle.teco_command_outcomes.proofs.Prelude.{byte_of, line_place, range, Term, Valuation, value, ◌>>=◌}
use Rattle.teco_command_outcomes.proofs.Prelude.{needed_value, Element, characters_of, part_named, place_in}
use Rattle.teco_command_outcomes.proofs.Prelude.{span_between, retrieval, storage, text_in, line_characters, typing}
use Rattle.teco_command_outcomes.proofs.Prelude.{Get, IsWhole, Case, TakenForms, One, Single, Steps, Pointer, Size}
use Rattle.teco_command_outcomes.proofs.Prelude.{Held, LineEnd, LineStart, LastLength, CodeHere, CodeBefore, Typed}
use Rattle.teco_command_outcomes.proofs.Prelude.{EntryHeld}
use Rattle.teco_command_outcomes.proofs.Prelude.{Outcomes, Clause, Places, value_if, AreCommanded, IsCommanded, Leads}
use Rattle.teco_command_outcomes.proofs.Prelude.{Performs, commanded, IsOne, Before, changed, Point, IsTrueOf, single}
use Rattle.teco_command_outcomes.proofs.Prelude.{read_at, by_row, leads_singles, performed, above_or, line_begin}
use Rattle.teco_command_outcomes.proofs.Prelude.{line_end, IsWay, by, Exactly, IsDone, IsPlace, Types, view_characters}
use Rattle.std.proofs.Common.{◌*◌, ◌^◌, ◌/◌, ◌%◌}
use Rattle.std.proofs.Common.{is_none}
use Rattle.std.proofs.Math.Nat.{div-eq_of_lt, div-lt_iff_lt-mul}
use Rattle.std.proofs.Math.Nat.{mul_comm, pow-succ', pow-zero}
use Rattle.std.proofs.lemmas.Fmt.{length_signed_le}
use Rattle.std.specs.Fmt.{digits, digits_onto, digit_glyph}
use Rattle.std.specs.Int.{w32, cast_unsigned}
use Rattle.teco_base.specs.declared.code.Code.TheVariants as code
use Rattle.teco_linear.specs.Implied as linear
use Rattle.teco_model.specs.Typing.{line_end as end_text, number_text, typing_of, view_typing}
use Rattle.teco_model.specs.declared.kind.Radix.{Radix}
use Rattle.teco_model.specs.declared.kind.Radix.TheVariants.{Decimal, Octal, Hexadecimal}
use Rattle.teco_model.specs.declared.kind.Typing.TheVariants.{Part, View, Message, Byte, Number}
use Rattle.teco_rows.specs.declared.commands.Way as command
use Rattle.teco_command_outcomes.specs.declared.typings.TypedCount.{TypedCount}
use Rattle.teco_command_outcomes.specs.declared.typings.TypedCount.TheVariants.{AtMost}
use Rattle.teco_command_outcomes.specs.declared.typings.TheConstants.{TYPES, TYPES_BACK, TYPES_PART, TYPES_SOME}
use Rattle.teco_command_outcomes.specs.Typings.{AreAsMany, CountsLines, CountsView, IsLong, TypesByte}
use Rattle.teco_command_outcomes.specs.Typings.{TypesBytes, TypesLines, TypesNumber, TypesPart, TypesText, TypesView}
use Rattle.teco_command_outcomes.proofs.Copying.{part_long}
use Rattle.teco_command_outcomes.proofs.Lining.{ahead_within, back_within}
use Rattle.teco_motion_outcomes.proofs.Moving.{place_there}

abbrev given_of : List (List Term) → ℕ → Valuation → ℕ → ℤ
given_of given n v i = value (slice_index_or given i []) n v

-- ---- rows of how many bytes are typed
abbrev Leading : List Clause → List (List Term) → Places → ℕ → Valuation → Point → List ℕ → (ℕ → ℤ) → Type 0
Leading row given here n v s bytes unknown =
    Leads row (read_at s here (given_of given n v) unknown) s (typing_of bytes s.kept).kept None

more : (s : Point) (bytes : List ℕ)
    → single (commanded s (typing_of bytes s.kept).kept None) Typed ≡ single s Typed +ℤ pos (length bytes)
more s bytes = omega (arith, ints, length-append s.kept.typed bytes)

exactly : (form : List Term) (here : Places) (n : ℕ) (v : Valuation) (s : Point) (bytes : List ℕ)
    → pos (length bytes) ≡ value form n v → Leading TYPES (form ∷ []) here n v s bytes (λ i. pos 0)
exactly form here n v s bytes long = leads_singles TYPES b s (typing_of bytes s.kept).kept refl refl tt singles where
  b : Before
  b = read_at s here (given_of (form ∷ []) n v) (λ i. pos 0)

  singles : (which : Single) → Some (single (commanded s (typing_of bytes s.kept).kept None) which)
      ≡ changed TYPES b (One which) (Some (single (commanded s s.kept None) which))
  singles Steps = refl
  singles Pointer = refl
  singles Size = refl
  singles Held = refl
  singles LineEnd = refl
  singles LineStart = refl
  singles LastLength = refl
  singles CodeHere = refl
  singles CodeBefore = refl
  singles Typed = ap Some (omega (arith, ints, more s bytes, long))
  singles EntryHeld = refl

at_most : (form : List Term) (here : Places) (n : ℕ) (v : Valuation) (s : Point) (bytes : List ℕ)
    → pos (length bytes) ≤ℤ value form n v
    → Leading TYPES_SOME (form ∷ []) here n v s bytes (λ i. pos (length bytes))
at_most form here n v s bytes long =
    leads_singles TYPES_SOME b s (typing_of bytes s.kept).kept refl refl
    (omega (arith, ints), (omega (arith, ints, long), tt)) singles where
      b : Before
      b = read_at s here (given_of (form ∷ []) n v) (λ i. pos (length bytes))

      singles : (which : Single) → Some (single (commanded s (typing_of bytes s.kept).kept None) which)
          ≡ changed TYPES_SOME b (One which) (Some (single (commanded s s.kept None) which))
      singles Steps = refl
      singles Pointer = refl
      singles Size = refl
      singles Held = refl
      singles LineEnd = refl
      singles LineStart = refl
      singles LastLength = refl
      singles CodeHere = refl
      singles CodeBefore = refl
      singles Typed = ap Some (omega (arith, ints, more s bytes))
      singles EntryHeld = refl

in_order : (first second : List Term) (here : Places) (n : ℕ) (v : Valuation) (s : Point) (bytes : List ℕ)
    → pos (length bytes) ≡ value second n v -ℤ value first n v
    → Leading TYPES_PART (first ∷ second ∷ []) here n v s bytes (λ i. pos 0)
in_order first second here n v s bytes long =
    leads_singles TYPES_PART b s (typing_of bytes s.kept).kept refl refl (omega (arith, ints, long), tt) singles where
      b : Before
      b = read_at s here (given_of (first ∷ second ∷ []) n v) (λ i. pos 0)

      singles : (which : Single) → Some (single (commanded s (typing_of bytes s.kept).kept None) which)
          ≡ changed TYPES_PART b (One which) (Some (single (commanded s s.kept None) which))
      singles Steps = refl
      singles Pointer = refl
      singles Size = refl
      singles Held = refl
      singles LineEnd = refl
      singles LineStart = refl
      singles LastLength = refl
      singles CodeHere = refl
      singles CodeBefore = refl
      singles Typed = ap Some (omega (arith, ints, more s bytes, long))
      singles EntryHeld = refl

turned : (first second : List Term) (here : Places) (n : ℕ) (v : Valuation) (s : Point) (bytes : List ℕ)
    → pos (length bytes) ≡ value first n v -ℤ value second n v → pos 1 ≤ℤ (value first n v -ℤ value second n v)
    → Leading TYPES_BACK (first ∷ second ∷ []) here n v s bytes (λ i. pos 0)
turned first second here n v s bytes long some =
    leads_singles TYPES_BACK b s (typing_of bytes s.kept).kept refl refl (omega (arith, ints, some), tt) singles where
      b : Before
      b = read_at s here (given_of (first ∷ second ∷ []) n v) (λ i. pos 0)

      singles : (which : Single) → Some (single (commanded s (typing_of bytes s.kept).kept None) which)
          ≡ changed TYPES_BACK b (One which) (Some (single (commanded s s.kept None) which))
      singles Steps = refl
      singles Pointer = refl
      singles Size = refl
      singles Held = refl
      singles LineEnd = refl
      singles LineStart = refl
      singles LastLength = refl
      singles CodeHere = refl
      singles CodeBefore = refl
      singles Typed = ap Some (omega (arith, ints, more s bytes, long))
      singles EntryHeld = refl

pub types_exactly : (case after : Case) (form : List Term) (here : Places) (wanted : List (List Term)) (all : Outcomes)
    → IsCommanded case TYPES (form ∷ []) here after → IsOne wanted after all → Types (Exactly form) case all
types_exactly case after form here wanted all led one n v s bytes true_of long =
    by_row n v case after TYPES (form ∷ []) here all [] [] s (typing_of bytes s.kept).kept None (λ i. pos 0) led
    one.cases true_of (exactly form here n v s bytes long)

pub types_some : (case after : Case) (form : List Term) (here : Places) (wanted : List (List Term)) (all : Outcomes)
    → IsCommanded case TYPES_SOME (form ∷ []) here after → IsOne wanted after all → Types (AtMost form) case all
types_some case after form here wanted all led one n v s bytes true_of long =
    by_row n v case after TYPES_SOME (form ∷ []) here all [] [] s (typing_of bytes s.kept).kept None
    (λ i. pos (length bytes)) led one.cases true_of (at_most form here n v s bytes long)

-- ---- how long parts are
-- what is between two places, in either order, is as long as they say
ahead_long : (text : List ℕ) (a b : ℕ) → a ≤ b → b ≤ length text → length (range text (min a b) (max a b)) + a ≡ b
ahead_long text a b h k =
    subst (λ x. length (range text x (max a b)) + a ≡ b) (sym (min-eq_left h))
    (subst (λ x. length (range text a x) + a ≡ b) (sym (max-eq_right h)) (part_long text a b h k))

back_long : (text : List ℕ) (a b : ℕ) → b ≤ a → a ≤ length text → length (range text (min a b) (max a b)) + b ≡ a
back_long text a b h k =
    subst (λ x. length (range text x (max a b)) + b ≡ a) (sym (min-eq_right h))
    (subst (λ x. length (range text b x) + b ≡ a) (sym (max-eq_left h)) (part_long text b a h k))

-- so many lines: those ahead are behind the pointer, and those back before it
abbrev lines : List ℕ → ℕ → ℤ → List ℕ
lines text p x = range text (min p (line_place text p x)) (max p (line_place text p x))

lines_ahead : (text : List ℕ) (p : ℕ) → p ≤ length text → (m : ℕ)
    → length (lines text p (pos (suc m))) + p ≤ length text
lines_ahead text p h m =
    let there = ahead_within text p h m in
    let end = line_end text p h in
    let up : p ≤ line_place text p (pos (suc m)) = omega (arith, there.0, end.after) in
    omega (arith, there.1, ahead_long text p (line_place text p (pos (suc m))) up there.1)

lines_back : (text : List ℕ) (p : ℕ) → p ≤ length text → (x : ℤ) → x ≤ℤ pos 0 → length (lines text p x) ≤ p
lines_back text p h x l =
    let there = back_within text p h x l in
    let begin = line_begin text p in
    omega (arith, back_long text p (line_place text p x) (omega (arith, there.0, begin.before)) h)

lines_most : (text : List ℕ) (p : ℕ) → p ≤ length text → (x : ℤ) → length (lines text p x) ≤ length text
lines_most text p h (pos (suc m)) = omega (arith, lines_ahead text p h m)
lines_most text p h (pos zero) = omega (arith, h, lines_back text p h (pos zero) (omega (arith, ints)))
lines_most text p h (negsuc m) = omega (arith, h, lines_back text p h (negsuc m) (omega (arith, ints)))

view_most : (text : List ℕ) (p : ℕ) → p ≤ length text → (x y : ℤ) → y ≡ pos 1 -ℤ x
    → length (lines text p y) + length (lines text p x) ≤ length text
view_most text p h (pos (suc m)) y e =
    omega (arith, lines_ahead text p h m, lines_back text p h y (omega (arith, ints, e)))
view_most text p h (pos zero) (pos (suc k)) e =
    omega (arith, lines_ahead text p h k, lines_back text p h (pos zero) (omega (arith, ints)))
view_most text p h (negsuc m) (pos (suc k)) e =
    omega (arith, lines_ahead text p h k, lines_back text p h (negsuc m) (omega (arith, ints)))
view_most text p h (pos zero) (pos zero) e = absurd (omega (arith, ints, e))
view_most text p h (negsuc m) (pos zero) e = absurd (omega (arith, ints, e))
view_most text p h (pos zero) (negsuc k) e = absurd (omega (arith, ints, e))
view_most text p h (negsuc m) (negsuc k) e = absurd (omega (arith, ints, e))

-- ---- counts
abbrev IsNumber : List Term → ℤ → Type 0
IsNumber by x = (n : ℕ) (v : Valuation) → value by n v ≡ x

abbrev IsMeasure : List Term → Single → Case → Type 0
IsMeasure form which case = (n : ℕ) (v : Valuation) (s : Point) → IsTrueOf n v case s → value form n v ≡ single s which

abbrev IsDifference : List Term → List Term → List Term → Type 0
IsDifference form left right = (n : ℕ) (v : Valuation) → value form n v ≡ value left n v -ℤ value right n v

pub counts_line : (case : Case) (by end pointer form : List Term) → IsNumber by (pos 1) → IsMeasure end LineEnd case
    → IsMeasure pointer Pointer case → IsDifference form end pointer → CountsLines by case (Exactly form)
counts_line case by end pointer form one end_is pointer_is form_is n v s true_of whole =
    subst (λ x. pos (length (line_characters x s.kept)) ≡ value form n v) (sym (one n v))
    (let e = line_end s.kept.text s.kept.pointer whole.inside in
    omega (
      arith,
      ints,
      ahead_long s.kept.text s.kept.pointer (line_place s.kept.text s.kept.pointer (pos 1)) e.after
          e.within,
      end_is n v s true_of,
      pointer_is n v s true_of,
      form_is n v,
    ))

pub counts_back : (case : Case) (by start pointer form : List Term) → IsNumber by (pos 0)
    → IsMeasure start LineStart case → IsMeasure pointer Pointer case → IsDifference form pointer start
    → CountsLines by case (Exactly form)
counts_back case by start pointer form none start_is pointer_is form_is n v s true_of whole =
    subst (λ x. pos (length (line_characters x s.kept)) ≡ value form n v) (sym (none n v))
    (omega (
      arith,
      ints,
      back_long s.kept.text s.kept.pointer (line_place s.kept.text s.kept.pointer (pos 0))
          (line_begin s.kept.text s.kept.pointer).before whole.inside,
      start_is n v s true_of,
      pointer_is n v s true_of,
      form_is n v,
    ))

pub counts_most : (case : Case) (by size : List Term) → IsMeasure size Size case → CountsLines by case (AtMost size)
counts_most case by size size_is n v s true_of whole =
    omega (arith, ints, size_is n v s true_of, lines_most s.kept.text s.kept.pointer whole.inside (value by n v))

pub counts_in_view : (case : Case) (by start end form : List Term) → IsNumber by (pos 1)
    → IsMeasure start LineStart case → IsMeasure end LineEnd case → IsDifference form end start
    → CountsView by case (Exactly form)
counts_in_view case by start end form one start_is end_is form_is n v s true_of whole =
    let text = s.kept.text in
    let p = s.kept.pointer in
    subst (λ x. pos (length (view_characters x s)) ≡ value form n v) (sym (one n v))
    (let e = line_end text p whole.inside in
    let ahead = ahead_long text p (line_place text p (pos 1)) e.after e.within in
    let back = back_long text p (line_place text p (pos 0)) (line_begin text p).before whole.inside in
    omega (
      arith,
      ints,
      length-append (lines text p (pos 0)) (lines text p (pos 1)),
      ahead,
      back,
      start_is n v s true_of,
      end_is n v s true_of,
      form_is n v,
    ))

pub counts_view : (case : Case) (by size : List Term) → IsMeasure size Size case → CountsView by case (AtMost size)
counts_view case by size size_is n v s true_of whole =
    let text = s.kept.text in
    let p = s.kept.pointer in
    let x = value by n v in
    omega (
      arith,
      ints,
      size_is n v s true_of,
      length-append (lines text p (pos 1 -ℤ x)) (lines text p x),
      view_most text p whole.inside x (pos 1 -ℤ x) refl,
    )

-- ---- what is typed
pub types_bytes : (case : Case) (count : TypedCount) (bytes : ℕ → Valuation → Point → List ℕ) (all : Outcomes)
    → ((n : ℕ) (v : Valuation) (s : Point) → IsTrueOf n v case s → IsWhole s.kept → AreAsMany count n v (bytes n v s))
    → Types count case all → TypesBytes bytes case all
types_bytes case count bytes all many told n v s begins =
    told n v s (bytes n v s) begins.true_of (many n v s begins.true_of begins.whole)

pub types_part : (case : Case) (ways : List command.Way) (first second : List Term) (here : Places) (all : Outcomes)
    → AreCommanded case ways (first ∷ second ∷ []) here all.cases.items → IsWay ways 0 TYPES_PART
    → IsWay ways 1 TYPES_BACK
    → ((n : ℕ) (v : Valuation) (s : Point) → IsTrueOf n v case s → All (linear.Holds n v) all.conditions.items
    → IsPlace s.kept.text (value first n v) × IsPlace s.kept.text (value second n v))
    → TypesPart first second case all
types_part case ways first second here all are w0 w1 placed n v s begins =
    let k = placed n v s begins.true_of begins.conditions in
    let text = s.kept.text in
    let x = value first n v in
    let y = value second n v in
    let a = k.0.0 in
    let b = k.1.0 in
    let there : place_in text x ≡ Some a = ap (place_in text) k.0.1 ∙ place_there text a k.0.2 in
    let other : place_in text y ≡ Some b = ap (place_in text) k.1.1 ∙ place_there text b k.1.2 in
    let chars = characters_of (span_between a b) s.kept in
    performed n all s _ (typing_of chars s.kept)
    (ap (λ o. (ok_or o code.Pop >>= (λ from. ok_or (place_in text y) code.Pop >>= (λ to. Ok (span_between from to))))
    >>= (λ part. Ok (typing_of (characters_of part s.kept) s.kept))) there
    ∙ ap (λ o. (ok_or o code.Pop >>= (λ to. Ok (span_between a to)))
    >>= (λ part. Ok (typing_of (characters_of part s.kept) s.kept))) other)
    (elim (above_or a b) [
      | inl h ↦ by n v case ways (first ∷ second ∷ []) here all 0 TYPES_PART s (typing_of chars s.kept).kept None
          (λ i. pos 0) are w0 begins.true_of
          (in_order first second here n v s chars (omega (arith, ints, k.0.1, k.1.1, ahead_long text a b h k.1.2)))
      | inr h ↦ by n v case ways (first ∷ second ∷ []) here all 1 TYPES_BACK s (typing_of chars s.kept).kept None
          (λ i. pos 0) are w1 begins.true_of
          (turned first second here n v s chars
          (omega (arith, ints, k.0.1, k.1.1, back_long text a b (omega arith) k.0.2))
          (omega (arith, ints, k.0.1, k.1.1, h)))
    ])

pub part_typed : (case : Case) (taken : TakenForms) (first second : List Term) (all : Outcomes) (e : Element)
    → taken.first ≡ Some first → taken.value ≡ Some second → TypesPart first second case all
    → Performs (typing Part e) taken case all
part_typed case taken first second all e f g told n v s begins =
    subst (λ o. IsDone n all s (part_named (value_if o n v) (value_if taken.value n v) s.kept
    >>= (λ part. Ok (typing_of (characters_of part s.kept) s.kept)))) (sym f)
    (subst (λ o. IsDone n all s (part_named (Some (value first n v)) (value_if o n v) s.kept
    >>= (λ part. Ok (typing_of (characters_of part s.kept) s.kept)))) (sym g) (told n v s begins))

pub lines_typed : (case : Case) (taken : TakenForms) (by : List Term) (all : Outcomes) (e : Element)
    → taken.first ≡ None
    → ((n : ℕ) (v : Valuation) → value by n v ≡ unwrap_or (value_if taken.value n v) (pos 1)) → TypesLines by case all
    → Performs (typing Part e) taken case all
lines_typed case taken by all e f count told n v s begins =
    subst (λ o. IsDone n all s (part_named (value_if o n v) (value_if taken.value n v) s.kept
    >>= (λ part. Ok (typing_of (characters_of part s.kept) s.kept)))) (sym f)
    (subst (λ x. IsDone n all s (Ok (typing_of (line_characters x s.kept) s.kept))) (count n v) (told n v s begins))

pub view_typed : (case : Case) (taken : TakenForms) (by : List Term) (all : Outcomes) (e : Element)
    → ((n : ℕ) (v : Valuation) → value by n v ≡ unwrap_or (value_if taken.value n v) (pos 1)) → TypesView by case all
    → Performs (typing View e) taken case all
view_typed case taken by all e count told n v s begins =
    subst (λ x. IsDone n all s (Ok (view_typing x s.kept))) (count n v) (told n v s begins)

pub text_typed : (case : Case) (taken : TakenForms) (all : Outcomes) (e : Element) → TypesText e.text case all
    → Performs (typing Message e) taken case all
text_typed case taken all e told n v s begins = told n v s begins

pub byte_typed : (case : Case) (taken : TakenForms) (all : Outcomes) (e : Element) → TypesByte taken.value case all
    → Performs (typing Byte e) taken case all
byte_typed case taken all e told n v s begins = told n v s begins

pub number_typed : (case : Case) (taken : TakenForms) (all : Outcomes) (radix : Radix) (e : Element)
    → TypesNumber taken.value radix e.colons case all → Performs (typing (Number radix) e) taken case all
number_typed case taken all radix e told n v s begins = told n v s begins

-- a number that is there
there : (o : Option (List Term)) → is_none o ≡ false → (n : ℕ) (v : Valuation) → (x : ℤ) × (value_if o n v ≡ Some x)
there None h n v = absurd cc
there (Some form) h n v = (value form n v, refl)

pub types_byte : (case : Case) (number : Option (List Term)) (form : List Term) (all : Outcomes)
    → is_none number ≡ false → ((n : ℕ) (v : Valuation) → value form n v ≡ pos 1) → Types (Exactly form) case all
    → TypesByte number case all
types_byte case number form all h one told n v s begins =
    let x = there number h n v in
    subst (λ o. IsDone n all s (needed_value o >>= (λ n. Ok (typing_of (byte_of n ∷ []) s.kept))))
    (sym x.1) (told n v s (byte_of x.0 ∷ []) begins.true_of (sym (one n v)))

pub types_number : (case : Case) (option : Option (List Term)) (number form : List Term) (radix : Radix)
    (colons most : ℕ) (all : Outcomes) → option ≡ Some number → IsLong radix colons most
    → ((n : ℕ) (v : Valuation) → value form n v ≡ pos most)
    → ((n : ℕ) (v : Valuation) → All (linear.Holds n v) all.conditions.items → FitsSigned w32 (value number n v))
    → Types (AtMost form) case all → TypesNumber option radix colons case all
types_number case option number form radix colons most all is long form_is fits told n v s begins =
    let x = value number n v in
    subst (λ o. IsDone n all s (needed_value (value_if o n v)
    >>= (λ n. Ok (typing_of (number_text radix n ++ end_text colons) s.kept)))) (sym is)
    (told n v s (number_text radix x ++ end_text colons) begins.true_of
    (omega (arith, ints, form_is n v, long x (fits n v begins.conditions))))

-- ---- how long numbers are
nothing : (base n : ℕ) → n < base → (n / base == 0) ≡ true
nothing base n h = ap (λ q. q == 0) (div-eq_of_lt h)

one_base : (base n : ℕ) → n < base ^ 0 * base → n < base
one_base base n h = let less : n < 1 * base = subst (λ q. n < q * base) (pow-zero base) h in omega (arith, less)

-- a power is one times its base
power_more : (base m : ℕ) → base ^ suc m ≡ base ^ m * base
power_more base m = pow-succ' base m ∙ mul_comm base (base ^ m)

less_left : (base n m : ℕ) → n / base < base ^ suc m → n / base < base ^ m * base
less_left base n m h = subst (λ q. n / base < q) (power_more base m) h

digits_long : (k base : ℕ) (upper : Bool) (n : ℕ) (acc : List ℕ) (m : ℕ) → 1 ≤ base → n < base ^ m * base
    → length (digits_onto k base upper n acc) ≤ length acc + (m + 1)
digits_long zero base upper n acc m some h = omega arith
digits_long (suc k) base upper n acc zero some h =
    subst (λ b. length (if b then digit_glyph upper (n % base) ∷ acc
    else digits_onto k base upper (n / base) (digit_glyph upper (n % base) ∷ acc)) ≤ length acc + 1)
    (sym (nothing base n (one_base base n h))) (omega arith)
digits_long (suc k) base upper n acc (suc m) some h =
    by_test (n / base == 0)
    (digits_long k base upper (n / base) glyphs m some
    (less_left base n m ((div-lt_iff_lt-mul (omega arith)).1 h))) where
      glyphs : List ℕ
      glyphs = digit_glyph upper (n % base) ∷ acc

      by_test : (b : Bool) → length (digits_onto k base upper (n / base) glyphs) ≤ length glyphs + (m + 1)
          → length (if b then glyphs else digits_onto k base upper (n / base) glyphs) ≤ length acc + (suc m + 1)
      by_test true rest = omega arith
      by_test false rest = omega (arith, rest)

fewer : (a b : ℕ) → a ≤ 0 + b → a ≤ b
fewer a b h = omega (arith, h)

digits_alone : (k base : ℕ) (upper : Bool) (n m : ℕ) → 1 ≤ base → n < base ^ m * base
    → length (digits_onto k base upper n []) ≤ m + 1
digits_alone k base upper n m some h =
    fewer (length (digits_onto k base upper n [])) (m + 1) (digits_long k base upper n [] m some h)

digits_most : (base : ℕ) (upper : Bool) (n m : ℕ) → 1 ≤ base → n < base ^ m * base
    → length (digits base upper n) ≤ m + 1
unfolding digits
digits_most base upper n m some h = digits_alone 64 base upper n m some h

abbrev pub characters : Radix → ℕ
characters Decimal = 11
characters Octal = 11
characters Hexadecimal = 8

unsigned_most : (x : ℤ) → FitsSigned w32 x → cast_unsigned w32 x < 2 ^ 32
unsigned_most (pos k) fits = omega (arith, ints, fits)
unsigned_most (negsuc k) fits = omega arith

decimal_most : (x : ℤ) → FitsSigned w32 x → length (number_text Decimal x) ≤ 11
decimal_most (pos k) fits = length_signed_le 10 (pos k) (omega (arith, ints, fits)) (omega (arith, ints, fits))
decimal_most (negsuc k) fits = length_signed_le 10 (negsuc k) (omega (arith, ints, fits)) (omega (arith, ints, fits))

number_most : (radix : Radix) (x : ℤ) → FitsSigned w32 x → length (number_text radix x) ≤ characters radix
number_most Decimal x fits = decimal_most x fits
number_most Octal x fits =
    digits_most 8 false (cast_unsigned w32 x) 10 (omega arith) (omega (arith, unsigned_most x fits))
number_most Hexadecimal x fits =
    digits_most 16 true (cast_unsigned w32 x) 7 (omega arith) (omega (arith, unsigned_most x fits))

end_most : (colons end : ℕ) → (colons ≡ 0 → end ≡ 2) → length (end_text colons) ≤ end
end_most zero end h = omega (arith, h refl)
end_most (suc colons) end h = omega arith

pub number_long : (radix : Radix) (colons end most : ℕ) → (colons ≡ 0 → end ≡ 2) → most ≡ characters radix + end
    → IsLong radix colons most
number_long radix colons end most at_end is x fits =
    omega (
      arith,
      is,
      length-append (number_text radix x) (end_text colons),
      number_most radix x fits,
      end_most colons end at_end,
    )

-- ---- :G
pub register_typed : (case : Case) (taken : TakenForms) (register colons : ℕ) (form : List Term) (all : Outcomes)
    → 1 ≤ colons
    → ((n : ℕ) (v : Valuation) (s : Point) → IsTrueOf n v case s → IsWhole s.kept
    → value form n v ≡ pos (length (text_in register s.kept)))
    → Types (Exactly form) case all → (e : Element) → e.colons ≡ colons
    → Performs (storage (Get register) e) taken case all
register_typed case taken register zero form all h long told e same n v s begins = absurd (omega arith)
register_typed case taken register (suc colons) form all h long told e same n v s begins =
    subst (λ c. IsDone n all s (retrieval c register s.kept)) (sym same)
    (told n v s _ begins.true_of (sym (long n v s begins.true_of begins.whole)))
