-- C, R and J.
use Rattle.teco_motion_outcomes.proofs.Prelude.{◌≡◌, ℕ, zero, suc, ◌+◌, ◌<◌, ◌≤◌, ◌⊎◌, inl, inr, ℤ, pos, negsuc, List}
use Rattle.teco_motion_outcomes.proofs.Prelude.{[], ◌∷◌, ◌++◌, length, true, false, Option, Some, None, Ok}
use Rattle.teco_motion_outcomes.proofs.Prelude.{if◌then◌else◌, nat_le, slice_index_or, refl, sym, ap, subst, ◌∙◌, ◌+ℤ◌}
use Rattle.teco_motion_outcomes.proofs.Prelude.{arith, nat_tests, ints, All, line_place, Term, Valuation, value}
use Rattle.teco_motion_outcomes.proofs.Prelude.{no_answer, with_answer, motion, Element, place_in, Kept, IsWhole, Case}
use Rattle.teco_motion_outcomes.proofs.Prelude.{Single, Steps, Pointer, Size, Held, LineEnd, LineStart, LastLength}
use Rattle.teco_motion_outcomes.proofs.Prelude.{CodeHere, CodeBefore, Typed, EntryHeld, One, Each, Number, Length}
use Rattle.teco_motion_outcomes.proofs.Prelude.{Turns}
use Rattle.teco_motion_outcomes.proofs.Prelude.{PushedNumber, PushedLength, First, Value, value_if, TakenForms}
use Rattle.teco_motion_outcomes.proofs.Prelude.{Outcomes, Clause, Places, Before, AreMet, changed, Point, IsTrueOf}
use Rattle.teco_motion_outcomes.proofs.Prelude.{single, code_here, code_before, Begins, Describe, AreCommanded}
use Rattle.teco_motion_outcomes.proofs.Prelude.{IsAtLevel, Leads, Performs, commanded, IsPlace, read_at, leads, leaves}
use Rattle.teco_motion_outcomes.proofs.Prelude.{left_alone, answers, performed, IsWay, by, IsEnd, IsBegin, line_end}
use Rattle.teco_motion_outcomes.proofs.Prelude.{line_begin, end_before, begin_before, end_inside, end_least, above_or}
use Rattle.teco_motion_outcomes.proofs.Prelude.{begin_most, clash, ends, Sort, ends_one, is_low, is_high, sort_at}
use Rattle.teco_motion_outcomes.proofs.Prelude.{before_next, with_codes}
use Rattle.teco_linear.specs.Implied as linear
use Rattle.teco_model.specs.Motion.{motion_to, target}
use Rattle.teco_model.specs.declared.kind.Motion.{Motion}
use Rattle.teco_model.specs.declared.kind.Motion.TheVariants.{Forward, Backward, To, Lines}
use Rattle.teco_rows.specs.declared.commands.Way as command
use Rattle.teco_motion_outcomes.specs.declared.motions.TheConstants.{AHEAD, WITHIN, BACK, FOUND, BEFORE, BEHIND}
use Rattle.teco_motion_outcomes.specs.declared.motions.TheConstants.{PASSES_END, PASSES_LOW, PASSES_HIGH}
use Rattle.teco_motion_outcomes.specs.declared.motions.TheConstants.{RETURNS_END, RETURNS_LOW, RETURNS_HIGH}
use Rattle.teco_rows.specs.States.{each}
use Rattle.teco_rows.specs.Foretold.{Succeeds}
use Rattle.teco_rows.specs.Commands.{taken_by}
use Rattle.teco_motion_outcomes.specs.Motions.{GoesFar, GoesTo, IsToPlace, Passes, Returns}
use Rattle.teco_rows.proofs.Ways.{answering}

-- what the line places are at another place
pub record IsMoved (text : List ℕ) (p x e s f t : ℕ) : Type 0 where
  pub end : IsEnd text p e
  pub begin : IsBegin text p s
  pub end_there : IsEnd text x f
  pub begin_there : IsBegin text x t

-- ahead of the pointer, back in its line, and back past its start
data Way (p x e s f t z : ℕ) : Type 0 where
  Ahead : p + 1 ≤ x → e ≤ f → x ≤ f → f ≤ z → s ≤ t → t ≤ x → Way p x e s f t z
  Within : x ≤ p → s ≤ x → f ≡ e → t ≡ s → Way p x e s f t z
  Back : x + 1 ≤ s → x + 1 ≤ f → f ≤ s → t ≤ x → Way p x e s f t z

-- a line start that is not 0 stands behind a line end
start_behind : (text : List ℕ) (p x s f : ℕ) → IsBegin text p s → IsEnd text x f → x + 1 ≤ s → f ≤ s
start_behind text p x zero f b e h = absurd (omega arith)
start_behind text p x (suc k) f b e h = omega (arith, end_least text x f k e (omega arith) (b.one k (omega arith)))

way_of : (text : List ℕ) (p x e s f t : ℕ) → p ≤ length text → IsMoved text p x e s f t → Way p x e s f t (length text)
way_of text p x e s f t h m = elim (above_or x p) [
  | inr w ↦ Ahead (omega arith) (end_before text p x e f m.end m.end_there (λ l. omega (arith, m.end_there.more l)))
      m.end_there.after m.end_there.within (begin_before text p x s t m.begin m.begin_there (omega
      (arith, m.begin.before)))
      m.begin_there.before
  | inl w ↦ elim (above_or s x) [
    | inl u ↦ Within w u
        (omega (
          arith,
          end_before text x p f e m.end_there m.end (λ l. omega (arith, m.end.more l)),
          end_inside text p x s e f m.begin m.end m.end_there u w,
        ))
        (omega (
          arith,
          begin_before text p x s t m.begin m.begin_there u,
          begin_before text x p t s m.begin_there m.begin (omega (arith, m.begin_there.before)),
        ))
    | inr u ↦ Back (omega arith) (beyond (omega arith) (above_or (length text) f))
        (start_behind text p x s f m.begin m.end_there (omega arith))
        m.begin_there.before
  ]
] where
  beyond : x + 1 ≤ s → ((length text ≤ f) ⊎ (f < length text)) → x + 1 ≤ f
  beyond u (inl k) = omega (arith, m.begin.before)
  beyond u (inr k) = omega (arith, m.end_there.more k)

module _ (s : Point) (here : Places) (given unknown : ℕ → ℤ) (k : ℕ) (whole : IsWhole s.kept)
    (in' : k ≤ length s.kept.text) (e : given 0 ≡ pos k) (end : unknown 0 ≡ pos (line_place s.kept.text k (pos 1)))
    (start : unknown 1 ≡ pos (line_place s.kept.text k (pos 0))) (at_it : unknown 4 ≡ pos (code_here s.kept.text k))
    (before_it : unknown 5 ≡ pos (code_before s.kept.text k)) where
  abbrev kept : Kept
  kept = record s.kept { pointer = k }

  abbrev b : Before
  b = read_at s here given unknown

  way : Way s.kept.pointer k (line_place s.kept.text s.kept.pointer (pos 1)) (line_place s.kept.text s.kept.pointer
      (pos 0))
      (line_place s.kept.text k (pos 1)) (line_place s.kept.text k (pos 0)) (length s.kept.text)
  way = way_of s.kept.text s.kept.pointer k _ _ _ _ whole.inside (record {
    end = line_end s.kept.text s.kept.pointer whole.inside;
    begin = line_begin s.kept.text s.kept.pointer;
    end_there = line_end s.kept.text k in';
    begin_there = line_begin s.kept.text k;
  })

  -- what is moved, by a row that says so; the line places stay where the row leaves them
  moved : (row : List Clause) (answer : Option ℤ) → leaves Turns row ≡ true → leaves PushedNumber row ≡ true
      → leaves PushedLength row ≡ true → leaves First row ≡ true → leaves Number row ≡ true → leaves Length row ≡ true
      → AreMet row b
      → ((which : Single) → Some (single (commanded s kept answer) which)
      ≡ changed row b (One which) (Some (single (commanded s s.kept None) which)))
      → ((i : ℕ) → each (commanded s kept answer) Value i
      ≡ changed row b (Each Value i) (each (commanded s s.kept None) Value i))
      → Leads row b s kept answer
  moved row answer t pn pl f n l met singles values = leads row b s kept answer t pn pl f (record {
    met = met;
    singles = singles;
    numbers = λ i. left_alone row b Number i _ n;
    lengths = λ i. left_alone row b Length i _ l;
    values = values;
    stack = refl;
  })

  pub lead : (here.level ≡ length s.arguments.outer)
      → Leads AHEAD b s kept None ⊎ (Leads WITHIN b s kept None ⊎ Leads BACK b s kept None)
  lead at = elim way [
    | Ahead a c d f g h ↦ inl (moved AHEAD None refl refl refl refl refl refl (
      omega (arith, ints),
      (
        omega (arith, ints),
        (
          omega (arith, ints),
          (
            omega (arith, ints),
            (
              omega
                  (arith, ints),
              (omega (arith, ints), tt),
            ),
          ),
        ),
      ),
    )
        ahead (λ i. refl))
    | Within a c d f ↦ inr (inl (moved WITHIN None refl refl refl refl refl refl
        (omega (arith, ints), (omega (arith, ints), tt)) (within d f) (λ i. refl)))
    | Back a c d f ↦ inr (inr (moved BACK None refl refl refl refl refl refl (
      omega (arith, ints),
      (
        omega (arith, ints),
        (
          omega (arith, ints),
          (
            omega (arith, ints),
            (
              omega
                  (arith, ints),
              tt,
            ),
          ),
        ),
      ),
    )
        back (λ i. refl)))
  ] where
    ahead : (which : Single) → Some (single (commanded s kept None) which)
        ≡ changed AHEAD b (One which) (Some (single (commanded s s.kept None) which))
    ahead Steps = refl
    ahead Pointer = ap Some (omega (arith, ints))
    ahead Size = refl
    ahead Held = refl
    ahead LineEnd = ap Some (omega (arith, ints))
    ahead LineStart = ap Some (omega (arith, ints))
    ahead LastLength = refl
    ahead CodeHere = ap Some (omega (arith, ints, at_it))
    ahead CodeBefore = ap Some (omega (arith, ints, before_it))
    ahead Typed = refl
    ahead EntryHeld = refl

    within : line_place s.kept.text k (pos 1) ≡ line_place s.kept.text s.kept.pointer (pos 1)
        → line_place s.kept.text k (pos 0) ≡ line_place s.kept.text s.kept.pointer (pos 0)
        → (which : Single) → Some (single (commanded s kept None) which)
        ≡ changed WITHIN b (One which) (Some (single (commanded s s.kept None) which))
    within d f Steps = refl
    within d f Pointer = ap Some (omega (arith, ints))
    within d f Size = refl
    within d f Held = refl
    within d f LineEnd = ap (λ x. Some (pos x)) d
    within d f LineStart = ap (λ x. Some (pos x)) f
    within d f LastLength = refl
    within d f CodeHere = ap Some (omega (arith, ints, at_it))
    within d f CodeBefore = ap Some (omega (arith, ints, before_it))
    within d f Typed = refl
    within d f EntryHeld = refl

    back : (which : Single) → Some (single (commanded s kept None) which)
        ≡ changed BACK b (One which) (Some (single (commanded s s.kept None) which))
    back Steps = refl
    back Pointer = ap Some (omega (arith, ints))
    back Size = refl
    back Held = refl
    back LineEnd = ap Some (omega (arith, ints))
    back LineStart = ap Some (omega (arith, ints))
    back LastLength = refl
    back CodeHere = ap Some (omega (arith, ints, at_it))
    back CodeBefore = ap Some (omega (arith, ints, before_it))
    back Typed = refl
    back EntryHeld = refl

  -- to the next character
  there : IsEnd s.kept.text k (line_place s.kept.text k (pos 1))
  there = line_end s.kept.text k in'

  begun : IsBegin s.kept.text k (line_place s.kept.text k (pos 0))
  begun = line_begin s.kept.text k

  now : IsEnd s.kept.text s.kept.pointer (line_place s.kept.text s.kept.pointer (pos 1))
  now = line_end s.kept.text s.kept.pointer whole.inside

  from_there : Way k s.kept.pointer (line_place s.kept.text k (pos 1)) (line_place s.kept.text k (pos 0))
      (line_place s.kept.text s.kept.pointer (pos 1)) (line_place s.kept.text s.kept.pointer (pos 0))
      (length s.kept.text)
  from_there = way_of s.kept.text k s.kept.pointer _ _ _ _ in' (record {
    end = there;
    begin = begun;
    end_there = now;
    begin_there = line_begin s.kept.text s.kept.pointer;
  })

  later : s.kept.pointer < length s.kept.text
      → s.kept.pointer + 1 ≤ line_place s.kept.text s.kept.pointer (pos 1)
  later h = elim (above_or (length s.kept.text) (line_place s.kept.text s.kept.pointer (pos 1))) [
    | inl w ↦ omega arith
    | inr w ↦ omega (arith, now.more w)
  ]

  later_there : k < length s.kept.text → k + 1 ≤ line_place s.kept.text k (pos 1)
  later_there h = elim (above_or (length s.kept.text) (line_place s.kept.text k (pos 1))) [
    | inl w ↦ omega arith
    | inr w ↦ omega (arith, there.more w)
  ]

  -- where a character that ends no line is passed, the line goes on
  record IsSame : Type 0 where
    end_same : line_place s.kept.text k (pos 1) ≡ line_place s.kept.text s.kept.pointer (pos 1)
    start_same : line_place s.kept.text k (pos 0) ≡ line_place s.kept.text s.kept.pointer (pos 0)

  goes_on : k ≡ s.kept.pointer + 1 → ends s.kept.text s.kept.pointer ≡ false → IsSame
  goes_on next e = elim from_there [
    | Ahead a c d f g h ↦ absurd (omega (arith, next))
    | Within a c d f ↦ record { end_same = sym d; start_same = sym f }
    | Back a c d f ↦ absurd (clash _ (begun.one s.kept.pointer (omega (arith, next, begun.before, a))) e)
  ]

  came : k + 1 ≡ s.kept.pointer → ends s.kept.text k ≡ false → IsSame
  came last e = elim way [
    | Ahead a c d f g h ↦ absurd (omega (arith, last))
    | Within a c d f ↦ record { end_same = d; start_same = f }
    | Back a c d f ↦ absurd (clash _ ((line_begin s.kept.text s.kept.pointer).one k (omega
        (arith, last, (line_begin s.kept.text s.kept.pointer).before, a))) e)
  ]

  pub passed : k ≡ s.kept.pointer + 1
      → Leads PASSES_END b s kept None ⊎ (Leads PASSES_LOW b s kept None ⊎ Leads PASSES_HIGH b s kept None)
  passed next = by_sort (sort_at s.kept.text s.kept.pointer (omega (arith, next, in')) whole.bytes) where
    before : code_before s.kept.text k ≡ code_here s.kept.text s.kept.pointer
    before = before_next s.kept.text s.kept.pointer k next

    ahead : s.kept.pointer + 1 ≤ line_place s.kept.text s.kept.pointer (pos 1)
    ahead = later (omega (arith, next, in'))

    by_sort : Sort s.kept.text s.kept.pointer
        → Leads PASSES_END b s kept None ⊎ (Leads PASSES_LOW b s kept None ⊎ Leads PASSES_HIGH b s kept None)
    by_sort (ends_one ended low high) = inl (moved PASSES_END None refl refl refl refl refl refl (
      omega (arith, ints, low),
      (
        omega (arith, ints, high),
        (
          omega (arith, ints, near, next),
          (omega (arith, ints, there.after), (omega (arith, ints, there.within), tt)),
        ),
      ),
    )
        singles (λ i. refl)) where
          near : line_place s.kept.text s.kept.pointer (pos 1) ≤ s.kept.pointer + 1
          near = end_least s.kept.text s.kept.pointer _ s.kept.pointer now (omega arith) ended

          new : line_place s.kept.text k (pos 0) ≡ k
          new = omega (
            arith,
            next,
            begun.before,
            begin_most s.kept.text k _ s.kept.pointer begun (omega (arith, next)) ended,
          )

          singles : (which : Single) → Some (single (commanded s kept None) which)
              ≡ changed PASSES_END b (One which) (Some (single (commanded s s.kept None) which))
          singles Steps = refl
          singles Pointer = ap Some (omega (arith, ints))
          singles Size = refl
          singles Held = refl
          singles LineEnd = ap Some (omega (arith, ints))
          singles LineStart = ap Some (omega (arith, ints, new))
          singles LastLength = refl
          singles CodeHere = ap Some (omega (arith, ints, at_it))
          singles CodeBefore = ap Some (omega (arith, ints, before))
          singles Typed = refl
          singles EntryHeld = refl
    by_sort (is_low going low high) = inr (inl (moved PASSES_LOW None refl refl refl refl refl refl
        (omega (arith, ints, next, ahead), (omega (arith, ints, low), (omega (arith, ints, high), tt)))
        (singles (goes_on next going)) (λ i. refl))) where
          singles : IsSame → (which : Single) → Some (single (commanded s kept None) which)
              ≡ changed PASSES_LOW b (One which) (Some (single (commanded s s.kept None) which))
          singles same Steps = refl
          singles same Pointer = ap Some (omega (arith, ints))
          singles same Size = refl
          singles same Held = refl
          singles same LineEnd = ap (λ x. Some (pos x)) same.end_same
          singles same LineStart = ap (λ x. Some (pos x)) same.start_same
          singles same LastLength = refl
          singles same CodeHere = ap Some (omega (arith, ints, at_it))
          singles same CodeBefore = ap Some (omega (arith, ints, before))
          singles same Typed = refl
          singles same EntryHeld = refl
    by_sort (is_high going low high) = inr (inr (moved PASSES_HIGH None refl refl refl refl refl refl
        (omega (arith, ints, next, ahead), (omega (arith, ints, low), (omega (arith, ints, high), tt)))
        (singles (goes_on next going)) (λ i. refl))) where
          singles : IsSame → (which : Single) → Some (single (commanded s kept None) which)
              ≡ changed PASSES_HIGH b (One which) (Some (single (commanded s s.kept None) which))
          singles same Steps = refl
          singles same Pointer = ap Some (omega (arith, ints))
          singles same Size = refl
          singles same Held = refl
          singles same LineEnd = ap (λ x. Some (pos x)) same.end_same
          singles same LineStart = ap (λ x. Some (pos x)) same.start_same
          singles same LastLength = refl
          singles same CodeHere = ap Some (omega (arith, ints, at_it))
          singles same CodeBefore = ap Some (omega (arith, ints, before))
          singles same Typed = refl
          singles same EntryHeld = refl

  pub returned : k + 1 ≡ s.kept.pointer
      → Leads RETURNS_END b s kept None ⊎ (Leads RETURNS_LOW b s kept None ⊎ Leads RETURNS_HIGH b s kept None)
  returned last = by_sort (sort_at s.kept.text k (omega (arith, last, whole.inside)) whole.bytes) where
    before : code_before s.kept.text s.kept.pointer ≡ code_here s.kept.text k
    before = before_next s.kept.text k s.kept.pointer (sym last)

    by_sort : Sort s.kept.text k
        → Leads RETURNS_END b s kept None ⊎ (Leads RETURNS_LOW b s kept None ⊎ Leads RETURNS_HIGH b s kept None)
    by_sort (ends_one ended low high) = inl (moved RETURNS_END None refl refl refl refl refl refl (
      omega (arith, ints, low, before),
      (
        omega (arith, ints, high, before),
        (omega (arith, ints), (omega (arith, ints, begun.before), tt)),
      ),
    )
        singles (λ i. refl)) where
          near : line_place s.kept.text k (pos 1) ≡ s.kept.pointer
          near = omega (
            arith,
            last,
            later_there (omega (arith, last, whole.inside)),
            end_least s.kept.text k _ k there (omega arith) ended,
          )

          singles : (which : Single) → Some (single (commanded s kept None) which)
              ≡ changed RETURNS_END b (One which) (Some (single (commanded s s.kept None) which))
          singles Steps = refl
          singles Pointer = ap Some (omega (arith, ints))
          singles Size = refl
          singles Held = refl
          singles LineEnd = ap Some (omega (arith, ints, near))
          singles LineStart = ap Some (omega (arith, ints))
          singles LastLength = refl
          singles CodeHere = ap Some (omega (arith, ints, before))
          singles CodeBefore = ap Some (omega (arith, ints, before_it))
          singles Typed = refl
          singles EntryHeld = refl
    by_sort (is_low going low high) = inr (inl (moved RETURNS_LOW None refl refl refl refl refl refl (
      omega (arith, ints, begun.before, (came last going).start_same),
      (omega (arith, ints, low, before), (omega (arith, ints, high, before), tt)),
    )
        (singles (came last going)) (λ i. refl))) where
          singles : IsSame → (which : Single) → Some (single (commanded s kept None) which)
              ≡ changed RETURNS_LOW b (One which) (Some (single (commanded s s.kept None) which))
          singles same Steps = refl
          singles same Pointer = ap Some (omega (arith, ints))
          singles same Size = refl
          singles same Held = refl
          singles same LineEnd = ap (λ x. Some (pos x)) same.end_same
          singles same LineStart = ap (λ x. Some (pos x)) same.start_same
          singles same LastLength = refl
          singles same CodeHere = ap Some (omega (arith, ints, before))
          singles same CodeBefore = ap Some (omega (arith, ints, before_it))
          singles same Typed = refl
          singles same EntryHeld = refl
    by_sort (is_high going low high) = inr (inr (moved RETURNS_HIGH None refl refl refl refl refl refl (
      omega (arith, ints, begun.before, (came last going).start_same),
      (omega (arith, ints, low, before), (omega (arith, ints, high, before), tt)),
    )
        (singles (came last going)) (λ i. refl))) where
          singles : IsSame → (which : Single) → Some (single (commanded s kept None) which)
              ≡ changed RETURNS_HIGH b (One which) (Some (single (commanded s s.kept None) which))
          singles same Steps = refl
          singles same Pointer = ap Some (omega (arith, ints))
          singles same Size = refl
          singles same Held = refl
          singles same LineEnd = ap (λ x. Some (pos x)) same.end_same
          singles same LineStart = ap (λ x. Some (pos x)) same.start_same
          singles same LastLength = refl
          singles same CodeHere = ap Some (omega (arith, ints, before))
          singles same CodeBefore = ap Some (omega (arith, ints, before_it))
          singles same Typed = refl
          singles same EntryHeld = refl

-- ---- to a place that a number names, or off the buffer
pub place_there : (text : List ℕ) (k : ℕ) → k ≤ length text → place_in text (pos k) ≡ Some k
place_there text k h = let e : nat_le k (length text) ≡ true = grind (arith, nat_tests) in
    ap (λ b. if b then Some k else None) e

off : (text : List ℕ) (k : ℕ) → length text < k → place_in text (pos k) ≡ None
off text k h = let e : nat_le k (length text) ≡ false =
    grind (arith, nat_tests) in ap (λ b. if b then Some k else None) e

-- what is not known of a place that is gone to
abbrev lines_at : Point → ℕ → ℕ → ℤ
lines_at s k zero = pos (line_place s.kept.text k (pos 1))
lines_at s k (suc i) = pos (line_place s.kept.text k (pos 0))

abbrev places_at : Point → ℕ → ℕ → ℤ
places_at s k = with_codes s.kept.text k (lines_at s k)

module _ (case : Case) (ways : List command.Way) (place : List Term) (here : Places) (level : IsAtLevel here case)
    (all : Outcomes) (are : AreCommanded case ways (place ∷ []) here all.cases.items) where
  abbrev read : ℕ → Valuation → Point → (ℕ → ℤ) → Before
  read n v s unknown = read_at s here (λ i. value (slice_index_or (place ∷ []) i []) n v) unknown

  -- one of three rows
  one_of : (first second third : List Clause) → IsWay ways 0 first → IsWay ways 1 second → IsWay ways 2 third
      → (n : ℕ) (v : Valuation) (s : Point) (k : ℕ) → IsTrueOf n v case s
      → (Leads first (read n v s (places_at s k)) s (record s.kept { pointer = k }) None
      ⊎ (Leads second (read n v s (places_at s k)) s (record s.kept { pointer = k }) None
      ⊎ Leads third (read n v s (places_at s k)) s (record s.kept { pointer = k }) None))
      → Describe n all (commanded s (record s.kept { pointer = k }) None)
  one_of first second third w0 w1 w2 n v s k true_of (inl h) =
      by n v case ways (place ∷ []) here all 0 first s _ None (places_at s k) are w0 true_of h
  one_of first second third w0 w1 w2 n v s k true_of (inr (inl h)) =
      by n v case ways (place ∷ []) here all 1 second s _ None (places_at s k) are w1 true_of h
  one_of first second third w0 w1 w2 n v s k true_of (inr (inr h)) =
      by n v case ways (place ∷ []) here all 2 third s _ None (places_at s k) are w2 true_of h

  pub goes_far : IsWay ways 0 AHEAD → IsWay ways 1 WITHIN → IsWay ways 2 BACK → GoesFar place case all
  goes_far w0 w1 w2 n v s k begins e inside =
      one_of AHEAD WITHIN BACK w0 w1 w2 n v s k begins.true_of
      (lead s here _ (places_at s k) k begins.whole inside e refl refl refl refl (level s begins.true_of.shape))

  pub passes : IsWay ways 0 PASSES_END → IsWay ways 1 PASSES_LOW → IsWay ways 2 PASSES_HIGH → Passes place case all
  passes w0 w1 w2 n v s k begins e inside next =
      one_of PASSES_END PASSES_LOW PASSES_HIGH w0 w1 w2 n v s k begins.true_of
      (passed s here _ (places_at s k) k begins.whole inside e refl refl refl refl next)

  pub returns_by_one : IsWay ways 0 RETURNS_END → IsWay ways 1 RETURNS_LOW → IsWay ways 2 RETURNS_HIGH
      → Returns place case all
  returns_by_one w0 w1 w2 n v s k begins e inside last =
      one_of RETURNS_END RETURNS_LOW RETURNS_HIGH w0 w1 w2 n v s k begins.true_of
      (returned s here _ (places_at s k) k begins.whole inside e refl refl refl refl last)

  pub tries : IsWay ways 0 (FOUND ++ AHEAD) → IsWay ways 1 (FOUND ++ WITHIN) → IsWay ways 2 (FOUND ++ BACK)
      → IsWay ways 3 BEFORE → IsWay ways 4 BEHIND → GoesTo 1 place case all
  tries w0 w1 w2 w3 w4 n v s begins = by_number (value place n v) refl where
    at : here.level ≡ length s.arguments.outer
    at = level s begins.true_of.shape

    -- one of the rows of a motion, with the answer -1
    found_by : (i k : ℕ) (row : List Clause) → value place n v ≡ pos k → k ≤ length s.kept.text
        → leaves Value row ≡ true
        → IsWay ways i (FOUND ++ row) → Leads row (read n v s (places_at s k)) s (record s.kept { pointer = k }) None
        → Describe n all (commanded s (record s.kept { pointer = k }) (Some (negsuc 0)))
    found_by i k row e h left w leading =
        by n v case ways (place ∷ []) here all i (FOUND ++ row) s (record s.kept { pointer = k }) (Some (negsuc 0))
        (places_at s k) are w begins.true_of
        (answering FOUND row (read n v s (places_at s k)) s (record s.kept { pointer = k }) (negsuc 0) leading
        (omega (arith, ints), (omega (arith, ints), tt)) refl refl refl refl refl refl refl left
        (λ j. answers s (record s.kept { pointer = k }) here j (negsuc 0) _ at (ap Some (omega (arith, ints)))))

    found : (k : ℕ) → value place n v ≡ pos k → k ≤ length s.kept.text
        → (Leads AHEAD (read n v s (places_at s k)) s (record s.kept { pointer = k }) None
        ⊎ (Leads WITHIN (read n v s (places_at s k)) s (record s.kept { pointer = k }) None
        ⊎ Leads BACK (read n v s (places_at s k)) s (record s.kept { pointer = k }) None))
        → Describe n all (commanded s (record s.kept { pointer = k }) (Some (negsuc 0)))
    found k e h (inl leading) = found_by 0 k AHEAD e h refl w0 leading
    found k e h (inr (inl leading)) = found_by 1 k WITHIN e h refl w1 leading
    found k e h (inr (inr leading)) = found_by 2 k BACK e h refl w2 leading

    stays : (which : Single)
        → Some (single (commanded s s.kept (Some (pos 0))) which) ≡ Some (single
        (commanded s s.kept None) which)
    stays Steps = refl
    stays Pointer = refl
    stays Size = refl
    stays Held = refl
    stays LineEnd = refl
    stays LineStart = refl
    stays LastLength = refl
    stays CodeHere = refl
    stays CodeBefore = refl
    stays Typed = refl
    stays EntryHeld = refl

    -- nothing moves, and 0 is answered
    nothing : Succeeds (λ effect. Describe n all (commanded s effect.kept effect.answer)) (Ok (with_answer
        (pos 0) s.kept))
        → place_in s.kept.text (value place n v) ≡ None
        → Succeeds (λ effect. Describe n all (commanded s effect.kept effect.answer))
        (motion_to 1 (place_in s.kept.text (value place n v)) s.kept)
    nothing d e =
        performed n all s _ (with_answer (pos 0) s.kept) (ap (λ o. motion_to 1 o s.kept) e) d

    by_number : (x : ℤ) → value place n v ≡ x
        → Succeeds (λ effect. Describe n all (commanded s effect.kept effect.answer))
        (motion_to 1 (place_in s.kept.text (value place n v)) s.kept)
    by_number (negsuc m) e =
        nothing
        (by n v case ways (place ∷ []) here all 3 BEFORE s s.kept (Some (pos 0)) (λ i. pos 0) are w3 begins.true_of
        (leads BEFORE (read n v s (λ i. pos 0)) s s.kept (Some (pos 0)) refl refl refl refl (record {
          met = (omega (arith, ints), tt);
          singles = stays;
          numbers = λ i. refl;
          lengths = λ i. refl;
          values = λ i. answers s s.kept here i (pos 0) _ at (ap Some (omega (arith, ints)));
          stack = refl;
        })))
        (ap (place_in s.kept.text) e)
    by_number (pos k) e = elim (above_or k (length s.kept.text)) [
      | inl h ↦ performed n all s _ (with_answer (negsuc 0) (record s.kept { pointer = k }))
          (ap (λ x. motion_to 1 (place_in s.kept.text x) s.kept) e
          ∙ ap (λ o. motion_to 1 o s.kept) (place_there s.kept.text k h))
          (found k e h (lead s here _ (places_at s k) k begins.whole h e refl refl refl refl at))
      | inr h ↦ nothing
          (by n v case ways (place ∷ []) here all 4 BEHIND s s.kept (Some (pos 0)) (λ i. pos 0) are w4 begins.true_of
          (leads BEHIND (read n v s (λ i. pos 0)) s s.kept (Some (pos 0)) refl refl refl refl (record {
            met = (omega (arith, ints), tt);
            singles = stays;
            numbers = λ i. refl;
            lengths = λ i. refl;
            values = λ i. answers s s.kept here i (pos 0) _ at (ap Some (omega (arith, ints)));
            stack = refl;
          })))
          (ap (place_in s.kept.text) e ∙ off s.kept.text k h)
    ]

-- where it is known how a place is described that a number names, no code comes of going there
pub goes : (case : Case) (place : List Term) (all : Outcomes)
    → ((n : ℕ) (v : Valuation) (s : Point) → IsTrueOf n v case s
    → All (linear.Holds n v) all.conditions.items → IsPlace s.kept.text (value place n v))
    → ((n : ℕ) (v : Valuation) (s : Point) (k : ℕ) → Begins n v case all s → value place n v ≡ pos k
    → k ≤ length s.kept.text → Describe n all (commanded s (record s.kept { pointer = k }) None))
    → GoesTo 0 place case all
goes case place all placed described n v s begins =
    let k = placed n v s begins.true_of begins.conditions in
    let e : motion_to 0 (place_in s.kept.text (value place n v)) s.kept ≡ Ok (no_answer (record s.kept {
      pointer =
          k.0;
    })) =
    ap (λ x. motion_to 0 (place_in s.kept.text x) s.kept) k.1
    ∙ ap (λ o. motion_to 0 o s.kept) (place_there s.kept.text k.0 k.2) in
    performed n all s _ (no_answer (record s.kept { pointer = k.0 })) e (described n v s k.0 begins k.1 k.2)

-- by the conditions that are asked
pub placed_in : (case : Case) (place : List Term) (wanted : List (List Term)) (all : Outcomes)
    → all.conditions.items ≡ wanted
    → ((n : ℕ) (v : Valuation) (s : Point) → IsTrueOf n v case s → All (linear.Holds n v) wanted
    → IsPlace s.kept.text (value place n v))
    → (n : ℕ) (v : Valuation) (s : Point) → IsTrueOf n v case s → All (linear.Holds n v) all.conditions.items
    → IsPlace s.kept.text (value place n v)
placed_in case place wanted all e placed n v s true_of h = placed n v s true_of (subst (All (linear.Holds n v)) e h)

-- by one character
pub by_one : (case : Case) (place : List Term) (all : Outcomes)
    → ((n : ℕ) (v : Valuation) (s : Point) → IsTrueOf n v case s → value place n v ≡ pos s.kept.pointer +ℤ pos 1)
    → Passes place case all
    → (n : ℕ) (v : Valuation) (s : Point) (k : ℕ) → Begins n v case all s → value place n v ≡ pos k
    → k ≤ length s.kept.text → Describe n all (commanded s (record s.kept { pointer = k }) None)
by_one case place all near passes n v s k begins e inside =
    passes n v s k begins e inside (omega (arith, ints, near n v s begins.true_of, e))

pub back_by_one : (case : Case) (place : List Term) (all : Outcomes)
    → ((n : ℕ) (v : Valuation) (s : Point) → IsTrueOf n v case s → value place n v ≡ pos s.kept.pointer +ℤ negsuc 0)
    → Returns place case all
    → (n : ℕ) (v : Valuation) (s : Point) (k : ℕ) → Begins n v case all s → value place n v ≡ pos k
    → k ≤ length s.kept.text → Describe n all (commanded s (record s.kept { pointer = k }) None)
back_by_one case place all near returns n v s k begins e inside =
    returns n v s k begins e inside (omega (arith, ints, near n v s begins.true_of, e))

-- the motions that name a place are those
pub moves : (case : Case) (kind : Motion) (taken : TakenForms) (place : List Term) (all : Outcomes) (colons : ℕ)
    → IsToPlace kind
    → ((n : ℕ) (v : Valuation) (s : Point) → IsTrueOf n v case s
    → value place n v ≡ target kind s.kept.pointer (value_if taken.value n v))
    → GoesTo colons place case all → (e : Element) → e.colons ≡ colons → Performs (motion kind e) taken case all
moves case kind taken place all colons to place_is goes e same n v s begins =
    let P = Succeeds (λ effect. Describe n all (commanded s effect.kept effect.answer)) in
    subst P (sym (motion_is kind to))
    (subst (λ c. P (motion_to c (place_in s.kept.text (target kind s.kept.pointer
    (value_if taken.value n v))) s.kept)) (sym same)
    (subst (λ x. P (motion_to colons (place_in s.kept.text x) s.kept)) (place_is n v s begins.true_of)
    (goes n v s begins))) where
      motion_is : (m : Motion) → IsToPlace m
          → motion m e (taken_by taken n v) s.kept
          ≡ motion_to e.colons (place_in s.kept.text (target m s.kept.pointer (value_if taken.value n v))) s.kept
      motion_is Forward h = refl
      motion_is Backward h = refl
      motion_is To h = refl
      motion_is Lines h = absurd h
