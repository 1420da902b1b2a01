-- X and ^U.
use Rattle.teco_command_outcomes.proofs.Prelude.{◌≡◌, ℕ, zero, suc, ◌+◌, ◌-◌, ◌<◌, ◌≤◌, ◌==◌, inl, inr, ℤ, pos, negsuc}
use Rattle.teco_command_outcomes.proofs.Prelude.{◌≤ℤ◌, ◌+ℤ◌, ◌-ℤ◌, List, [], ◌∷◌, ◌++◌, length, true, false, Option}
use Rattle.teco_command_outcomes.proofs.Prelude.{Some, None, Ok, Err, if◌then◌else◌, nat_le, drop, slice_index_or}
use Rattle.teco_command_outcomes.proofs.Prelude.{unwrap_or, refl, sym, ap, subst, ◌∙◌, arith, length-append}
use Rattle.teco_command_outcomes.proofs.Prelude.{length-take, nat_tests, ints, All, ok_or, max, min, All-head}
use Rattle.teco_command_outcomes.proofs.Prelude.{min-eq_left, min-eq_right, max-eq_left, max-eq_right, line_place}
use Rattle.teco_command_outcomes.proofs.Prelude.{range, LIMIT, REGISTERS, Term, Valuation, value, ◌>>=◌, no_answer}
use Rattle.teco_command_outcomes.proofs.Prelude.{Element, characters_of, part_named, place_in, span_between, Kept}
use Rattle.teco_command_outcomes.proofs.Prelude.{storage, text_in, IsWhole, Case, TakenForms, Number, Length, Turns}
use Rattle.teco_command_outcomes.proofs.Prelude.{PushedNumber, PushedLength, First, Value, Each, Single, Steps, Pointer}
use Rattle.teco_command_outcomes.proofs.Prelude.{Size, Held, LineEnd, LineStart, LastLength, CodeHere, CodeBefore}
use Rattle.teco_command_outcomes.proofs.Prelude.{Typed, EntryHeld, Outcomes, Clause, Places, value_if, AreCommanded}
use Rattle.teco_command_outcomes.proofs.Prelude.{IsCommanded}
use Rattle.teco_command_outcomes.proofs.Prelude.{Leads, Performs, commanded, Describe, IsOne, AreMet, Before, changed}
use Rattle.teco_command_outcomes.proofs.Prelude.{Point, IsTrueOf, single, read_at, by_row, leads, leaves, left_alone}
use Rattle.teco_command_outcomes.proofs.Prelude.{performed, above_or, line_begin, line_end, IsWay, by, IsDone, IsPlace}
use Rattle.std.proofs.Common.{is_some}
use Rattle.std.proofs.Common.{length-drop}
use Rattle.teco_base.specs.declared.code.Code.TheVariants as code
use Rattle.teco_linear.specs.Implied as linear
use Rattle.teco_model.specs.Places.{line_span}
use Rattle.teco_model.specs.Storage.{own_text_storage, text_setting, text_storage}
use Rattle.teco_model.specs.declared.kind.Storage.TheVariants.{Copy, SetText}
use Rattle.teco_model.specs.declared.pattern.Span.{Span}
use Rattle.teco_rows.specs.declared.commands.Way as command
use Rattle.teco_rows.proofs.Registering.{length_set, numbers_stay}
use Rattle.teco_rows.proofs.Ways.{leaves_singles, single_alone}
use Rattle.teco_command_outcomes.specs.declared.texts.TheConstants.{COPIES, COPIES_BACK, LINES, LINES_BACK, STORES}
use Rattle.teco_command_outcomes.specs.Texts.{Copies, CopiesCount, CopiesCounted, CopiesLines, CopiesPart, Fits}
use Rattle.teco_command_outcomes.specs.Texts.{HasRoomFor}
use Rattle.teco_command_outcomes.specs.Texts.{IsGrownBy, IsRest, kept_with_text, rest_of}
use Rattle.teco_command_outcomes.proofs.Lining.{ahead_within, back_within}
use Rattle.teco_motion_outcomes.proofs.Moving.{place_there}

-- ---- a row that says how long the text is
module _ (row : List Clause) (s : Point) (here : Places) (given unknown : ℕ → ℤ) (text : List ℕ)
    (whole : IsWhole s.kept) (within : here.register < REGISTERS) where
  abbrev b : Before
  b = read_at s here given unknown

  abbrev kept : Kept
  kept = kept_with_text here.register text s.kept

  same : (which : Single)
      → Some (single (commanded s kept None) which) ≡ Some (single (commanded s s.kept None) which)
  same Steps = refl
  same Pointer = refl
  same Size = refl
  same Held = refl
  same LineEnd = refl
  same LineStart = refl
  same LastLength = refl
  same CodeHere = refl
  same CodeBefore = refl
  same Typed = refl
  same EntryHeld = refl

  pub text_leads : leaves Turns row ≡ true → leaves PushedNumber row ≡ true → leaves PushedLength row ≡ true
      → leaves First row ≡ true → leaves Number row ≡ true → leaves Value row ≡ true → leaves_singles row ≡ true
      → AreMet row b → (x : ℤ) → pos (length text) ≡ x
      → ((i : ℕ) (y : Option ℤ) → changed row b (Each Length i) y ≡ (if here.register == i then Some x else y))
      → Leads row b s kept None
  text_leads t pn pl f n v singles met x long lengths = leads row b s kept None t pn pl f (record {
    met = met;
    singles = λ which. same which ∙ sym (single_alone row b which _ singles);
    numbers = λ i. numbers_stay s.kept.registers.pairs here.register i text ∙ left_alone row b Number i _ n;
    lengths = λ i.
        length_set s.kept.registers.pairs here.register i _ (Some x) (omega (arith, whole.count)) (ap Some long)
        ∙ sym (lengths i _);
    values = λ i. left_alone row b Value i _ v;
    stack = refl;
  })

-- ---- what is stored
stored_text : (register : ℕ) (text : List ℕ) (kept : Kept) → length text ≤ LIMIT
    → text_setting register text kept ≡ Ok (no_answer (kept_with_text register text kept))
stored_text register text kept h =
    let fits : nat_le (length text) LIMIT ≡ true = grind (arith, nat_tests) in
    ap (λ b. if b then Ok (no_answer (kept_with_text register text kept)) else Err code.Ful) fits

pub stored : (colons register : ℕ) (text : List ℕ) (kept : Kept)
    → length (rest_of colons register kept) + length text ≤ LIMIT
    → text_storage colons register text kept
    ≡ Ok (no_answer (kept_with_text register (rest_of colons register kept ++ text) kept))
stored zero register text kept h = stored_text register text kept (omega arith)
stored (suc colons) register text kept h =
    stored_text register (text_in register kept ++ text) kept
    (omega (arith, length-append (text_in register kept) text))

long_text : (colons register : ℕ) (text : List ℕ) (kept : Kept)
    → length (rest_of colons register kept ++ text) ≡ length (rest_of colons register kept) + length text
long_text colons register text kept = length-append (rest_of colons register kept) text

-- ---- ^U
pub sets_text : (case after : Case) (taken : TakenForms) (register : ℕ) (here : Places) (e : Element)
    (rest more long condition : List Term) (wanted : List (List Term)) (all : Outcomes) → here.register ≡ register
    → here.register < REGISTERS → is_some taken.value ≡ false → IsRest register e.colons case rest
    → ((n : ℕ) (v : Valuation) → value more n v ≡ pos (length e.text))
    → ((n : ℕ) (v : Valuation) → value long n v ≡ value rest n v +ℤ value more n v)
    → ((n : ℕ) (v : Valuation) → linear.Holds n v condition → Fits (value long n v)) → wanted ≡ condition ∷ []
    → IsCommanded case STORES (long ∷ []) here after → IsOne wanted after all
    → Performs (storage (SetText register) e) taken case all
sets_text case after taken register here e rest more long condition wanted all at in' none rest_is more_is long_is fits
    conditions led one =
    subst (λ r. Performs (storage (SetText r) e) taken case all) at (λ n v s begins.
    let text = rest_of e.colons here.register s.kept ++ e.text in
    let resting = rest_is n v s begins.true_of begins.whole
    ∙ ap (λ r. pos (length (rest_of e.colons r s.kept))) (sym at) in
    let grown = long_text e.colons here.register e.text s.kept in
    let holds = All-head (linear.Holds n v) condition []
    (subst (All (linear.Holds n v)) (one.conditions ∙ conditions) begins.conditions) in
    let fit = fits n v holds in
    let short : length (rest_of e.colons here.register s.kept) + length e.text ≤ LIMIT =
    omega (arith, ints, fit, long_is n v, resting, more_is n v) in
    performed n all s _ (no_answer (kept_with_text here.register text s.kept))
    (ap (λ o. own_text_storage e.colons here.register e.text o s.kept) (missing taken.value none n v)
    ∙ stored e.colons here.register e.text s.kept short)
    (by_row n v case after STORES (long ∷ []) here all [] [] s _ None (λ i. pos 0) led one.cases begins.true_of
    (text_leads STORES s here _ (λ i. pos 0) text begins.whole in' refl refl refl refl refl refl refl tt _
    (omega (arith, ints, grown, long_is n v, resting, more_is n v)) (λ i y. refl)))) where
      missing : (o : Option (List Term)) → is_some o ≡ false → (n : ℕ) (v : Valuation) → value_if o n v ≡ None
      missing None h n v = refl
      missing (Some form) h n v = absurd cc

-- ---- X
abbrev given_of : List (List Term) → ℕ → Valuation → ℕ → ℤ
given_of given n v i = value (slice_index_or given i []) n v

module _ (case : Case) (ways : List command.Way) (register : ℕ) (here : Places) (given : List (List Term))
    (all : Outcomes) (at : here.register ≡ register) (in' : here.register < REGISTERS)
    (are : AreCommanded case ways given here all.cases.items) where
  copies_to : IsWay ways 0 COPIES → IsWay ways 1 COPIES_BACK → (n : ℕ) (v : Valuation) (s : Point) (rest a b : ℕ)
      (text : List ℕ) → IsTrueOf n v case s → IsWhole s.kept → value (slice_index_or given 0 []) n v ≡ pos rest
      → value (slice_index_or given 1 []) n v ≡ pos a → value (slice_index_or given 2 []) n v ≡ pos b
      → IsGrownBy rest (span_between a b) text
      → Describe n all (commanded s (kept_with_text register text s.kept) None)
  copies_to w0 w1 n v s rest a b text true_of whole rest_is a_is b_is grown =
      subst (λ r. Describe n all (commanded s (kept_with_text r text s.kept) None)) at (elim (above_or a b) [
        | inl h ↦ by n v case ways given here all 0 COPIES s (kept_with_text here.register text s.kept) None
            (λ i. pos 0) are w0 true_of
            (text_leads COPIES s here (given_of given n v) (λ i. pos 0) text whole in' refl refl refl refl refl refl
            refl
            (omega (arith, ints), tt) _ (omega (arith, ints, min-eq_left h, max-eq_right h)) (λ i y. refl))
        | inr h ↦ by n v case ways given here all 1 COPIES_BACK s (kept_with_text here.register text s.kept) None
            (λ i. pos 0) are w1 true_of
            (text_leads COPIES_BACK s here (given_of given n v) (λ i. pos 0) text whole in' refl refl refl refl refl
            refl refl (omega (arith, ints), tt) _
            (omega (arith, ints, turned_least h, turned_most h)) (λ i y. refl))
      ]) where
        turned_least : {a b : ℕ} → b < a → min a b ≡ b
        turned_least h = min-eq_right (omega arith)

        turned_most : {a b : ℕ} → b < a → max a b ≡ a
        turned_most h = max-eq_left (omega arith)

  pub copies : IsWay ways 0 COPIES → IsWay ways 1 COPIES_BACK → Copies register given case all
  copies w0 w1 = record { to = copies_to w0 w1 }

  lines_to : IsWay ways 0 LINES → IsWay ways 1 LINES_BACK → (n : ℕ) (v : Valuation) (s : Point) (rest : ℕ)
      (text : List ℕ) → IsTrueOf n v case s → IsWhole s.kept → value (slice_index_or given 0 []) n v ≡ pos rest
      → IsGrownBy rest (line_span s.kept.text s.kept.pointer (value (slice_index_or given 1 []) n v)) text
      → Describe n all (commanded s (kept_with_text register text s.kept) None)
  lines_to w0 w1 n v s rest text true_of whole rest_is grown =
      subst (λ r. Describe n all (commanded s (kept_with_text r text s.kept) None)) at
      (by_count (value (slice_index_or given 1 []) n v) refl grown) where
        D : Type 0
        D = Describe n all (commanded s (kept_with_text here.register text s.kept) None)

        p : ℕ
        p = s.kept.pointer

        back : (x : ℤ) → value (slice_index_or given 1 []) n v ≡ x → x ≤ℤ pos 0
            → IsGrownBy rest (line_span s.kept.text p x) text → D
        back x e h g =
            let there = back_within s.kept.text p whole.inside x h in
            let begin = line_begin s.kept.text p in
            let low : line_place s.kept.text p x ≤ p = omega (arith, there.0, begin.before) in
            by n v case ways given here all 1 LINES_BACK s (kept_with_text here.register text s.kept) None
            (λ i. pos (line_place s.kept.text p x)) are w1 true_of
            (text_leads LINES_BACK s here (given_of given n v) (λ i. pos (line_place s.kept.text p x)) text whole in'
            refl refl refl refl refl refl refl
            (omega (arith, ints), (omega (arith, ints), (omega (arith, ints, there.0), tt))) _
            (omega (arith, ints, min-eq_right low, max-eq_left low)) (λ i y. refl))

        by_count : (x : ℤ) → value (slice_index_or given 1 []) n v ≡ x
            → IsGrownBy rest (line_span s.kept.text p x) text → D
        by_count (pos (suc m)) e g =
            let there = ahead_within s.kept.text p whole.inside m in
            let end = line_end s.kept.text p whole.inside in
            let up : p ≤ line_place s.kept.text p (pos (suc m)) = omega (arith, there.0, end.after) in
            by n v case ways given here all 0 LINES s (kept_with_text here.register text s.kept) None
            (λ i. pos (line_place s.kept.text p (pos (suc m)))) are w0 true_of
            (text_leads LINES s here (given_of given n v) (λ i. pos (line_place s.kept.text p (pos (suc m)))) text whole
            in' refl refl refl refl refl refl refl
            (omega (arith, ints), (omega (arith, ints, there.0), (omega (arith, ints, there.1), tt))) _
            (omega (arith, ints, min-eq_left up, max-eq_right up)) (λ i y. refl))
        by_count (pos zero) e g = back (pos zero) e (omega (arith, ints)) g
        by_count (negsuc m) e g = back (negsuc m) e (omega (arith, ints)) g

  pub copies_lines : IsWay ways 0 LINES → IsWay ways 1 LINES_BACK → CopiesLines register given case all
  copies_lines w0 w1 = record { to = lines_to w0 w1 }

-- ---- what is copied
-- a part of a text is as long as it says
pub part_long : (text : List ℕ) (a b : ℕ) → a ≤ b → b ≤ length text → length (range text a b) + a ≡ b
part_long text a b h k = omega (arith, length-take (b - a) (drop a text), length-drop a text)

-- the part between two places of the buffer is copied
pub copied : (n : ℕ) (all : Outcomes) (s : Point) (colons register a b : ℕ) → a ≤ length s.kept.text
    → b ≤ length s.kept.text
    → length (rest_of colons register s.kept) + (span_between a b).end
    ≤ LIMIT + (span_between a b).start
    → ((text : List ℕ) → IsGrownBy (length (rest_of colons register s.kept)) (span_between a b) text
    → Describe n all (commanded s (kept_with_text register text s.kept) None))
    → IsDone n all s (text_storage colons register (characters_of (span_between a b) s.kept) s.kept)
copied n all s colons register a b ha hb room described =
    performed n all s _ (no_answer (kept_with_text register (rest_of colons register s.kept ++ chars) s.kept))
    (stored colons register chars s.kept (omega (arith, long)))
    (described (rest_of colons register s.kept ++ chars)
    (omega (arith, long, long_text colons register chars s.kept))) where
      part : Span
      part = span_between a b

      chars : List ℕ
      chars = characters_of part s.kept

      ordered : (part.start ≤ part.end) × (part.end ≤ length s.kept.text)
      ordered = elim (above_or a b) as (λ x. (min a b ≤ max a b) × (max a b ≤ length s.kept.text)) [
        | inl h ↦ (omega (arith, min-eq_left h, max-eq_right h), omega (arith, max-eq_right h))
        | inr h ↦ let k : b ≤ a = omega arith in
            (omega (arith, min-eq_right k, max-eq_left k), omega (arith, max-eq_left k))
      ]

      long : length chars + part.start ≡ part.end
      long = part_long s.kept.text part.start part.end ordered.0 ordered.1

-- what is between two places, in either order, has room
pub roomy : (rest a b : ℕ) → (pos rest +ℤ (pos b -ℤ pos a)) ≤ℤ pos LIMIT → (pos rest +ℤ (pos a -ℤ pos b)) ≤ℤ pos LIMIT
    → rest + (span_between a b).end ≤ LIMIT + (span_between a b).start
roomy rest a b f g = elim (above_or a b) as (λ x. rest + max a b ≤ LIMIT + min a b) [
  | inl h ↦ omega (arith, ints, min-eq_left h, max-eq_right h)
  | inr h ↦ let k : b ≤ a = omega arith in omega (arith, ints, min-eq_right k, max-eq_left k)
]

-- a line place is in the text
line_within : (text : List ℕ) (p : ℕ) → p ≤ length text → (x : ℤ) → line_place text p x ≤ length text
line_within text p h (pos (suc m)) = (ahead_within text p h m).1
line_within text p h (pos zero) = omega (arith, (line_begin text p).before)
line_within text p h (negsuc m) =
    omega (arith, (back_within text p h (negsuc m) (omega (arith, ints))).0, (line_begin text p).before)

-- what stays and the buffer have room, and so has a part of it
room_for : (rest size a b : ℕ) → a ≤ size → b ≤ size → rest + size ≤ LIMIT
    → rest + (span_between a b).end ≤ LIMIT + (span_between a b).start
room_for rest size a b p q h = elim (above_or a b) as (λ x. rest + max a b ≤ LIMIT + min a b) [
  | inl k ↦ omega (arith, max-eq_right k)
  | inr k ↦ let l : b ≤ a = omega arith in omega (arith, max-eq_left l)
]

abbrev pub IsPlacedBy : List Term → Case → Outcomes → (Point → ℕ) → Type 0
IsPlacedBy form case all place =
    (n : ℕ) (v : Valuation) (s : Point) → IsTrueOf n v case s → value form n v ≡ pos (place s)

-- lines between the pointer and a place that a form is
pub copies_count : (case : Case) (register colons : ℕ) (count : ℤ) (rest pointer place : List Term) (all : Outcomes)
    → Copies register (rest ∷ pointer ∷ place ∷ []) case all → IsRest register colons case rest
    → IsPlacedBy pointer case all (λ s. s.kept.pointer)
    → IsPlacedBy place case all (λ s. line_place s.kept.text s.kept.pointer count)
    → ((s : Point) → IsWhole s.kept → line_place s.kept.text s.kept.pointer count ≤ length s.kept.text)
    → ((n : ℕ) (v : Valuation) → All (linear.Holds n v) all.conditions.items
    → HasRoomFor (value rest n v) (value pointer n v) (value place n v))
    → CopiesCount register colons count case all
copies_count case register colons count rest pointer place all copied_to rest_is pointer_is place_is within room n v s
    begins =
    let k = line_place s.kept.text s.kept.pointer count in
    let long = rest_is n v s begins.true_of begins.whole in
    let p = pointer_is n v s begins.true_of in
    let q = place_is n v s begins.true_of in
    let r = room n v begins.conditions in
    copied n all s colons register s.kept.pointer k begins.whole.inside (within s begins.whole)
    (roomy (length (rest_of colons register s.kept)) s.kept.pointer k (omega (arith, ints, long, p, q, r.0))
    (omega (arith, ints, long, p, q, r.1)))
    (λ text grown.
    copied_to.to n v s (length (rest_of colons register s.kept)) s.kept.pointer k text begins.true_of begins.whole long
    p q grown)

pub copies_counted : (case : Case) (register colons : ℕ) (rest by size most condition : List Term) (all : Outcomes)
    → CopiesLines register (rest ∷ by ∷ []) case all → IsRest register colons case rest
    → ((n : ℕ) (v : Valuation) (s : Point) → IsTrueOf n v case s → value size n v ≡ pos (length s.kept.text))
    → ((n : ℕ) (v : Valuation) → value most n v ≡ value rest n v +ℤ value size n v)
    → ((n : ℕ) (v : Valuation) → linear.Holds n v condition → Fits (value most n v))
    → all.conditions.items ≡ condition ∷ [] → CopiesCounted register colons by case all
copies_counted case register colons rest by size most condition all copied_to rest_is size_is most_is fits conditions
    n v s begins =
    let x = value by n v in
    let k = line_place s.kept.text s.kept.pointer x in
    let long = rest_is n v s begins.true_of begins.whole in
    let z = size_is n v s begins.true_of in
    let fit = fits n v (All-head (linear.Holds n v) condition []
    (subst (All (linear.Holds n v)) conditions begins.conditions)) in
    let within = line_within s.kept.text s.kept.pointer begins.whole.inside x in
    copied n all s colons register s.kept.pointer k begins.whole.inside within
    (room_for (length (rest_of colons register s.kept)) (length s.kept.text) s.kept.pointer k begins.whole.inside within
    (omega (arith, ints, long, z, fit, most_is n v)))
    (λ text grown.
    copied_to.to n v s (length (rest_of colons register s.kept)) text begins.true_of begins.whole long grown)

pub copies_part : (case : Case) (register colons : ℕ) (rest first second : List Term) (all : Outcomes)
    → Copies register (rest ∷ first ∷ second ∷ []) case all → IsRest register colons case rest
    → ((n : ℕ) (v : Valuation) (s : Point) → IsTrueOf n v case s → All (linear.Holds n v) all.conditions.items
    → IsPlace s.kept.text (value first n v) × IsPlace s.kept.text (value second n v))
    → ((n : ℕ) (v : Valuation) → All (linear.Holds n v) all.conditions.items
    → HasRoomFor (value rest n v) (value first n v) (value second n v))
    → CopiesPart register colons first second case all
copies_part case register colons rest first second all copied_to rest_is placed room n v s begins =
    let k = placed n v s begins.true_of begins.conditions in
    let text = s.kept.text in
    let x = value first n v in
    let y = value second n v in
    let a = k.0.0 in
    let b = k.1.0 in
    let long = rest_is n v s begins.true_of begins.whole in
    let r = room n v begins.conditions in
    let store = λ (part : Span). text_storage colons register (characters_of part s.kept) s.kept in
    let there : place_in text x ≡ Some a = ap (place_in text) k.0.1 ∙ place_there text a k.0.2 in
    let other : place_in text y ≡ Some b = ap (place_in text) k.1.1 ∙ place_there text b k.1.2 in
    subst (IsDone n all s)
    (sym (ap (λ o. (ok_or o code.Pop
    >>= (λ from. ok_or (place_in text y) code.Pop >>= (λ to. Ok (span_between from to)))) >>= store) there
    ∙ ap (λ o. (ok_or o code.Pop >>= (λ to. Ok (span_between a to))) >>= store) other))
    (copied n all s colons register a b k.0.2 k.1.2
    (roomy (length (rest_of colons register s.kept)) a b (omega (arith, ints, long, k.0.1, k.1.1, r.0))
    (omega (arith, ints, long, k.0.1, k.1.1, r.1)))
    (λ text grown.
    copied_to.to n v s (length (rest_of colons register s.kept)) a b text begins.true_of begins.whole long k.0.1 k.1.1
    grown))

-- where the number is known, as many lines are copied as a form says
pub count_is : (case : Case) (register colons : ℕ) (number : ℤ) (form : List Term) (all : Outcomes)
    → ((n : ℕ) (v : Valuation) → value form n v ≡ number) → CopiesCount register colons number case all
    → CopiesCounted register colons form case all
count_is case register colons number form all is told n v s begins =
    subst (λ x. IsDone n all s (text_storage colons register
    (characters_of (line_span s.kept.text s.kept.pointer x) s.kept) s.kept)) (sym (is n v)) (told n v s begins)

abbrev copy_done : ℕ → Outcomes → Point → ℕ → ℕ → Option ℤ → Option ℤ → Type 0
copy_done n all s colons register first second =
    IsDone n all s (part_named first second s.kept
    >>= (λ part. text_storage colons register (characters_of part s.kept) s.kept))

pub performs_part : (case : Case) (taken : TakenForms) (register colons : ℕ) (first second : List Term) (all : Outcomes)
    → taken.first ≡ Some first → taken.value ≡ Some second → CopiesPart register colons first second case all
    → (e : Element) → e.colons ≡ colons → Performs (storage (Copy register) e) taken case all
performs_part case taken register colons first second all f g told e same n v s begins =
    subst (λ c. copy_done n all s c register (value_if taken.first n v) (value_if taken.value n v)) (sym same)
    (subst (λ o. copy_done n all s colons register (value_if o n v) (value_if taken.value n v)) (sym f)
    (subst (λ o. copy_done n all s colons register (Some (value first n v)) (value_if o n v)) (sym g)
    (told n v s begins)))

pub performs_lines : (case : Case) (taken : TakenForms) (register colons : ℕ) (by : List Term) (all : Outcomes)
    → taken.first ≡ None → ((n : ℕ) (v : Valuation) → value by n v ≡ unwrap_or (value_if taken.value n v) (pos 1))
    → CopiesCounted register colons by case all → (e : Element) → e.colons ≡ colons
    → Performs (storage (Copy register) e) taken case all
performs_lines case taken register colons by all f count told e same n v s begins =
    subst (λ c. copy_done n all s c register (value_if taken.first n v) (value_if taken.value n v)) (sym same)
    (subst (λ o. copy_done n all s colons register (value_if o n v) (value_if taken.value n v)) (sym f)
    (subst (λ x. IsDone n all s (text_storage colons register
    (characters_of (line_span s.kept.text s.kept.pointer x) s.kept) s.kept)) (count n v) (told n v s begins)))
