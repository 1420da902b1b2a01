-- What D and K delete: the part between two places, characters, and lines.
use Rattle.teco_command_outcomes.proofs.Prelude.{◌≡◌, ℕ, suc, ◌+◌, ◌-◌, ◌≤◌, ℤ, pos, negsuc, ◌+ℤ◌, ◌-ℤ◌, ◌≤ℤ◌, List, []}
use Rattle.teco_command_outcomes.proofs.Prelude.{◌∷◌, length, true, Option, Some, None, Ok, Err, if◌then◌else◌, nat_le}
use Rattle.teco_command_outcomes.proofs.Prelude.{unwrap_or, refl, sym, ap, subst, ◌∙◌, arith, nat_tests, ints}
use Rattle.teco_command_outcomes.proofs.Prelude.{All, ok_or, line_place, Term, Valuation, value, ◌>>=◌, deletion}
use Rattle.teco_command_outcomes.proofs.Prelude.{deletion_between, place_in, span_between, Characters, Lines, IsWhole}
use Rattle.teco_command_outcomes.proofs.Prelude.{Case, TakenForms, PART, PART_BACK, Outcomes, Places, value_if}
use Rattle.teco_command_outcomes.proofs.Prelude.{AreCommanded, Performs, commanded, CutsLines, CutsTo, IsDone}
use Rattle.teco_command_outcomes.proofs.Prelude.{kept_without, Begins, Describe, IsPlace, Point, IsTrueOf, performed}
use Rattle.teco_command_outcomes.proofs.Prelude.{line_end, line_begin, IsWay, by}
use Rattle.teco_base.specs.declared.code.Code.TheVariants as code
use Rattle.teco_linear.specs.Implied as linear
use Rattle.teco_model.specs.Deletion.{character_deletion, part_deletion}
use Rattle.teco_model.specs.declared.kind.Unit.{Unit as Deleted}
use Rattle.teco_rows.specs.declared.commands.Way as command
use Rattle.teco_command_outcomes.specs.Deletions.{DeletesCharacters, DeletesLines, DeletesPart}
use Rattle.teco_command_outcomes.proofs.Lining.{Counted}
use Rattle.teco_motion_outcomes.proofs.Moving.{place_there}
use Rattle.teco_command_outcomes.proofs.Cutting.{ordered_part, part_by, same_part, turned_part}

-- a part that two numbers name
part_done : (n : ℕ) (all : Outcomes) (s : Point) (x y : ℤ) (a b : ℕ) → x ≡ pos a → a ≤ length s.kept.text → y ≡ pos b
    → b ≤ length s.kept.text → Describe n all (commanded s (kept_without a b s.kept) None)
    → IsDone n all s (part_deletion (Some x) (Some y) s.kept)
part_done n all s x y a b e p f q d =
    let text = s.kept.text in
    let there : place_in text x ≡ Some a = ap (place_in text) e ∙ place_there text a p in
    let other : place_in text y ≡ Some b = ap (place_in text) f ∙ place_there text b q in
    let part = span_between a b in
    performed n all s _ (deletion_between part.start part.end s.kept)
    (ap (λ o. (ok_or o code.Pop >>= (λ from. ok_or (place_in text y) code.Pop >>= (λ to. Ok (span_between from to))))
    >>= (λ part. Ok (deletion_between part.start part.end s.kept))) there
    ∙ ap (λ o. (ok_or o code.Pop >>= (λ to. Ok (span_between a to)))
    >>= (λ part. Ok (deletion_between part.start part.end s.kept))) other)
    d

pub deletes_between : (case : Case) (ways : List command.Way) (first second : List Term) (here : Places)
    (all : Outcomes)
    → AreCommanded case ways (first ∷ second ∷ []) here all.cases.items → IsWay ways 0 PART → IsWay ways 1 PART_BACK
    → ((n : ℕ) (v : Valuation) (s : Point) → IsTrueOf n v case s → All (linear.Holds n v) all.conditions.items
    → IsPlace s.kept.text (value first n v) × IsPlace s.kept.text (value second n v))
    → DeletesPart first second case all
deletes_between case ways first second here all are w0 w1 placed n v s begins =
    let k = placed n v s begins.true_of begins.conditions in
    part_done n all s (value first n v) (value second n v) k.0.0 k.1.0 k.0.1 k.0.2 k.1.1 k.1.2
    (part_by case ways first second here all are n v s begins.true_of w0 w1 k.0.0 k.1.0 k.0.1 k.1.1 k.0.2 k.1.2)

-- the conditions say that a form is a place
abbrev pub IsPlaced : List Term → Case → Outcomes → Type 0
IsPlaced place case all =
    (n : ℕ) (v : Valuation) (s : Point) → IsTrueOf n v case s → All (linear.Holds n v) all.conditions.items
    → IsPlace s.kept.text (value place n v)

abbrev pub IsAtPointer : List Term → Case → Type 0
IsAtPointer form case = (n : ℕ) (v : Valuation) (s : Point) → IsTrueOf n v case s → value form n v ≡ pos s.kept.pointer

pub deletes_to_pointer : (case : Case) (first second : List Term) (all : Outcomes) → IsAtPointer second case
    → IsPlaced first case all → CutsTo first case all → DeletesPart first second case all
deletes_to_pointer case first second all at placed cuts n v s begins =
    let k = placed n v s begins.true_of begins.conditions in
    part_done n all s (value first n v) (value second n v) k.0 s.kept.pointer k.1 k.2 (at n v s begins.true_of)
    begins.whole.inside
    (subst (λ kept. Describe n all (commanded s kept None)) (same_part s.kept.pointer k.0 s.kept)
    (cuts n v s k.0 begins k.1 k.2))

pub deletes_from_pointer : (case : Case) (first second : List Term) (all : Outcomes) → IsAtPointer first case
    → IsPlaced second case all → CutsTo second case all → DeletesPart first second case all
deletes_from_pointer case first second all at placed cuts n v s begins =
    let k = placed n v s begins.true_of begins.conditions in
    part_done n all s (value first n v) (value second n v) s.kept.pointer k.0 (at n v s begins.true_of)
    begins.whole.inside k.1 k.2 (cuts n v s k.0 begins k.1 k.2)

-- ---- characters and lines, as many as a form says
pub deletes_characters : (case : Case) (by : Option (List Term)) (count pointer place : List Term) (all : Outcomes)
    → Counted by count → IsAtPointer pointer case
    → ((n : ℕ) (v : Valuation) → value place n v ≡ value pointer n v +ℤ value count n v) → IsPlaced place case all
    → CutsTo place case all → DeletesCharacters by case all
deletes_characters case by count pointer place all counts at sum placed cuts n v s begins =
    by_count (unwrap_or (value_if by n v) (pos 1))
    (sum n v ∙ ap (λ x. x +ℤ value count n v) (at n v s begins.true_of)
    ∙ ap (λ x. pos s.kept.pointer +ℤ x) (counts n v)) where
      p : ℕ
      p = s.kept.pointer

      k : IsPlace s.kept.text (value place n v)
      k = placed n v s begins.true_of begins.conditions

      by_count : (x : ℤ) → value place n v ≡ pos s.kept.pointer +ℤ x
          → IsDone n all s (character_deletion x s.kept)
      by_count (pos m) e =
          let there : k.0 ≡ s.kept.pointer + m = omega (arith, ints, k.1) in
          let h : s.kept.pointer + m ≤ length s.kept.text = omega (arith, k.2) in
          let fits : nat_le (s.kept.pointer + m) (length s.kept.text) ≡ true = grind (arith, nat_tests) in
          performed n all s _ (deletion_between s.kept.pointer (s.kept.pointer + m) s.kept)
          (ap (λ b. if b then Ok (deletion_between s.kept.pointer (s.kept.pointer + m) s.kept) else Err code.Dtb) fits)
          (subst (λ kept. Describe n all (commanded s kept None))
          (ordered_part s.kept.pointer (s.kept.pointer + m) s.kept (omega arith))
          (cuts n v s (s.kept.pointer + m) begins (k.1 ∙ ap pos there) h))
      by_count (negsuc m) e =
          let there : k.0 + suc m ≡ s.kept.pointer = omega (arith, ints, k.1) in
          let less : k.0 ≡ s.kept.pointer - suc m = omega arith in
          let h : suc m ≤ s.kept.pointer = omega arith in
          let fits : nat_le (suc m) s.kept.pointer ≡ true = grind (arith, nat_tests) in
          performed n all s _ (deletion_between (s.kept.pointer - suc m) s.kept.pointer s.kept)
          (ap (λ b. if b then Ok (deletion_between (s.kept.pointer - suc m) s.kept.pointer s.kept) else Err code.Dtb)
          fits)
          (subst (λ j. Describe n all (commanded s (deletion_between j s.kept.pointer s.kept).kept None)) less
          (subst (λ kept. Describe n all (commanded s kept None))
          (turned_part s.kept.pointer k.0 s.kept (omega arith))
          (cuts n v s k.0 begins k.1 k.2)))

pub deletes_lines : (case : Case) (by : Option (List Term)) (count place : List Term) (number : ℤ) (all : Outcomes)
    → Counted by count → ((n : ℕ) (v : Valuation) → value count n v ≡ number)
    → ((n : ℕ) (v : Valuation) (s : Point) → IsTrueOf n v case s
    → value place n v ≡ pos (line_place s.kept.text s.kept.pointer number))
    → ((s : Point) → IsWhole s.kept → line_place s.kept.text s.kept.pointer number ≤ length s.kept.text)
    → CutsTo place case all → DeletesLines by case all
deletes_lines case by count place number all counts known place_is within cuts n v s begins =
    let k = line_place s.kept.text s.kept.pointer number in
    let part = span_between s.kept.pointer k in
    performed n all s _ (deletion_between part.start part.end s.kept)
    (ap (λ x. Ok (deletion_between (span_between s.kept.pointer (line_place s.kept.text s.kept.pointer x)).start
    (span_between s.kept.pointer (line_place s.kept.text s.kept.pointer x)).end s.kept))
    (sym (counts n v) ∙ known n v))
    (cuts n v s k begins (place_is n v s begins.true_of) (within s begins.whole))

pub deletes_counted : (case : Case) (by : Option (List Term)) (count : List Term) (all : Outcomes) → Counted by count
    → CutsLines count case all → DeletesLines by case all
deletes_counted case by count all counts cuts n v s begins =
    let k = line_place s.kept.text s.kept.pointer (unwrap_or (value_if by n v) (pos 1)) in
    let part = span_between s.kept.pointer k in
    performed n all s _ (deletion_between part.start part.end s.kept) refl
    (subst (λ x. Describe n all (commanded s
    (kept_without s.kept.pointer (line_place s.kept.text s.kept.pointer x) s.kept) None)) (counts n v)
    (cuts n v s begins))

pub end_within : (s : Point) → IsWhole s.kept → line_place s.kept.text s.kept.pointer (pos 1) ≤ length s.kept.text
end_within s whole = (line_end s.kept.text s.kept.pointer whole.inside).within

pub start_within : (s : Point) → IsWhole s.kept → line_place s.kept.text s.kept.pointer (pos 0) ≤ length s.kept.text
start_within s whole = omega (arith, (line_begin s.kept.text s.kept.pointer).before, whole.inside)

pub placed_by : (case : Case) (place : List Term) (wanted : List (List Term)) (all : Outcomes)
    → all.conditions.items ≡ wanted
    → ((n : ℕ) (v : Valuation) (s : Point) → IsTrueOf n v case s → All (linear.Holds n v) wanted
    → IsPlace s.kept.text (value place n v))
    → IsPlaced place case all
placed_by case place wanted all e placed n v s true_of h = placed n v s true_of (subst (All (linear.Holds n v)) e h)

-- what the arguments name is deleted
pub deletes_part : (case : Case) (unit : Deleted) (taken : TakenForms) (first second : List Term) (all : Outcomes)
    → taken.first ≡ Some first → taken.value ≡ Some second → DeletesPart first second case all
    → Performs (deletion unit) taken case all
deletes_part case unit taken first second all e f deletes n v s begins =
    subst (λ x. IsDone n all s (deletion unit (record { first = value_if x n v; value = value_if taken.value n v })
    s.kept)) (sym e)
    (subst (λ x. IsDone n all s (deletion unit (record { first = Some (value first n v); value = value_if x n v })
    s.kept)) (sym f)
    (either unit)) where
      either : (unit : Deleted)
          → IsDone n all s (deletion unit (record { first = Some (value first n v); value = Some (value second n v) })
          s.kept)
      either Characters = deletes n v s begins
      either Lines = deletes n v s begins

pub deletes_alone : (case : Case) (unit : Deleted) (taken : TakenForms) (all : Outcomes) → taken.first ≡ None
    → ((n : ℕ) (v : Valuation) (s : Point) → Begins n v case all s
    → IsDone n all s (deletion unit (record { first = None; value = value_if taken.value n v }) s.kept))
    → Performs (deletion unit) taken case all
deletes_alone case unit taken all e deletes n v s begins =
    subst (λ x. IsDone n all s (deletion unit (record { first = value_if x n v; value = value_if taken.value n v })
    s.kept)) (sym e) (deletes n v s begins)
