-- L.
use Rattle.teco_command_outcomes.proofs.Prelude.{◌≡◌, ℕ, zero, suc, ◌+◌, ◌-◌, ◌<◌, ◌≤◌, ◌⊎◌, inl, inr, ℤ, pos, negsuc}
use Rattle.teco_command_outcomes.proofs.Prelude.{◌≤ℤ◌, List, [], ◌∷◌, length, Bool, true, false, Option, Some, None}
use Rattle.teco_command_outcomes.proofs.Prelude.{nat_le, slice_index_or, unwrap_or, refl, sym, ap, subst, ◌∙◌, arith}
use Rattle.teco_command_outcomes.proofs.Prelude.{nat_tests, ints, line_place, Term, Valuation, value, Element, motion}
use Rattle.teco_command_outcomes.proofs.Prelude.{Kept, Case, TakenForms, Single, Steps, Pointer, Size, Held, LineEnd}
use Rattle.teco_command_outcomes.proofs.Prelude.{LineStart, LastLength, CodeHere, CodeBefore, Typed, EntryHeld, One}
use Rattle.teco_command_outcomes.proofs.Prelude.{Outcomes}
use Rattle.teco_command_outcomes.proofs.Prelude.{Clause, Places, value_if, AreCommanded, Leads, Performs, commanded}
use Rattle.teco_command_outcomes.proofs.Prelude.{Describe, Before, changed, IsTrueOf, Point, single, code_here}
use Rattle.teco_command_outcomes.proofs.Prelude.{code_before, with_codes, read_at, leads_singles, ends, IsEnd, IsBegin}
use Rattle.teco_command_outcomes.proofs.Prelude.{line_end, line_begin, one_begin, end_before, begin_before, begin_most}
use Rattle.teco_command_outcomes.proofs.Prelude.{end_inside, end_least, clash, above_or, one_end, top_line, IsWay, by}
use Rattle.std.proofs.Common.{get_or, filter, reverse, cond, nat_lt}
use Rattle.std.proofs.lemmas.List.{get_or-reverse, get_or_past, length-reverse}
use Rattle.teco_base.specs.Bytes.{is_line_end}
use Rattle.teco_base.specs.Lines.{line_places, line_places_from}
use Rattle.teco_model.specs.declared.kind.Motion.TheVariants as kind
use Rattle.teco_rows.specs.declared.commands.Way as command
use Rattle.teco_command_outcomes.specs.declared.line_motions.TheConstants.{STAYS, STEPS, LAST, STARTS, AHEAD, BACK}
use Rattle.teco_command_outcomes.specs.declared.line_motions.TheConstants.{TOP, UP, UP_ONE}
use Rattle.teco_command_outcomes.specs.LineMotions.{GoesBy, GoesLines, gone_by}
use Rattle.teco_rows.proofs.Lines.{line_above}

-- ---- where line places may lie
-- of each item, and of what stands for one that is not there
abbrev Each : (ℕ → Type 0) → List ℕ → Type 0
Each P xs = (n d : ℕ) → P d → P (get_or xs n d)

each_more : (P : ℕ → Type 0) (x : ℕ) (xs : List ℕ) → P x → Each P xs → Each P (x ∷ xs)
each_more P x xs p h zero d q = p
each_more P x xs p h (suc n) d q = h n d q

each_if : (P : ℕ → Type 0) (b : Bool) (x : ℕ) (xs : List ℕ) → (b ≡ true → P x) → Each P xs
    → Each P (cond b (x ∷ xs) xs)
each_if P true x xs h i = each_more P x xs (h refl) i
each_if P false x xs h i = i

each_kept : (P : ℕ → Type 0) (test : ℕ → Bool) (xs : List ℕ) → Each (λ x. test x ≡ true → P x) xs
    → Each P (filter test xs)
each_kept P test [] h n d q = q
each_kept P test (x ∷ xs) h n d q =
    each_if P (test x) x (filter test xs) (h 0 d (λ e. q)) (each_kept P test xs (λ m. h (suc m))) n d q

each_reversed : (P : ℕ → Type 0) (xs : List ℕ) → Each P xs → Each P (reverse xs)
each_reversed P xs h n d q =
    elim (above_or (length xs) n) as (λ x. P (get_or (reverse xs) n d)) [
      | inl w ↦ subst P (sym (get_or_past (reverse xs) n d (subst (λ m. m ≤ n) (sym (length-reverse xs)) w))) q
      | inr w ↦ subst P (sym (get_or-reverse xs n d w)) (h (length xs - 1 - n) d q)
    ]

each_place : (P : ℕ → Type 0) (at : ℕ) (text : List ℕ)
    → ((k : ℕ) → k < length text → ends text k ≡ true → P (at + k + 1)) → Each P (line_places_from at text)
each_place P at [] h n d q = q
each_place P at (b ∷ text) h n d q =
    each_if P (is_line_end b) (at + 1) (line_places_from (at + 1) text)
    (λ e. subst P (omega arith) (h 0 (omega arith) e))
    (each_place P (at + 1) text (λ k l e. subst P (omega arith) (h (suc k) (omega arith) e))) n d q

module _ (text : List ℕ) (p : ℕ) (inside : p ≤ length text) where
  -- lines ahead start at the end of this one at the earliest
  pub ahead_within : (n : ℕ) → (line_place text p (pos 1) ≤ line_place text p (pos (suc n)))
      × (line_place text p (pos (suc n)) ≤ length text)
  ahead_within n =
      let end = line_end text p inside in
      each_kept (λ q. (line_place text p (pos 1) ≤ q) × (q ≤ length text)) (λ q. nat_lt p q) (line_places text)
      (each_place (λ q. nat_lt p q ≡ true → (line_place text p (pos 1) ≤ q) × (q ≤ length text)) 0 text (λ k l t m.
      let above : p < 0 + k + 1 = grind (arith, nat_tests) in
      (omega (arith, end_least text p (line_place text p (pos 1)) k end (omega arith) t), omega arith)))
      n (length text) (end.within, omega arith)

  -- a place where a line starts
  abbrev IsStart : ℕ → Type 0
  IsStart q = (k : ℕ) → k + 1 ≡ q → ends text k ≡ true

  back_at : (n : ℕ) → (get_or (reverse (filter (λ q. nat_le q p) (line_places text))) n 0 ≤ line_place text p (pos 0))
      × IsStart (get_or (reverse (filter (λ q. nat_le q p) (line_places text))) n 0)
  back_at n =
      let begin = line_begin text p in
      each_reversed (λ q. (q ≤ line_place text p (pos 0)) × IsStart q) (filter (λ q. nat_le q p) (line_places text))
      (each_kept (λ q. (q ≤ line_place text p (pos 0)) × IsStart q) (λ q. nat_le q p) (line_places text)
      (each_place (λ q. nat_le q p ≡ true → (q ≤ line_place text p (pos 0)) × IsStart q) 0 text (λ k l t m.
      let below : 0 + k + 1 ≤ p = grind (arith, nat_tests) in (
        omega (arith, begin_most text p (line_place text p (pos 0)) k begin (omega arith) t),
        λ j f. subst (λ i. ends text i ≡ true) (omega arith) t,
      ))))
      n 0 (omega arith, λ k f. absurd (omega arith))

  started : (q : ℕ) → IsStart q → IsBegin text q q
  started q start = record { before = omega arith; none = λ i a b. absurd (omega arith); one = start }

  -- lines back start at the start of this one at the latest, and the line of their place starts there
  abbrev LiesBack : ℕ → Type 0
  LiesBack q = (q ≤ line_place text p (pos 0)) × (line_place text q (pos 0) ≡ q)

  lies_back : (q : ℕ) → q ≤ line_place text p (pos 0) → IsStart q → LiesBack q
  lies_back q h start = (h, one_begin text q (line_place text q (pos 0)) q (line_begin text q) (started q start))

  pub back_within : (x : ℤ) → x ≤ℤ pos 0 → LiesBack (line_place text p x)
  back_within (pos zero) h = let b = back_at 0 in lies_back (line_place text p (pos 0)) b.0 b.1
  back_within (pos (suc n)) h = absurd (omega (arith, ints))
  back_within (negsuc n) h = let b = back_at (suc n) in lies_back (line_place text p (negsuc n)) b.0 b.1

-- a line place back, where lines are before this one: it is in front of the line's begin, and its line starts there
pub record LiesAbove (text : List ℕ) (p q : ℕ) : Type 0 where
  pub before : q < line_place text p (pos 0)
  pub starts : line_place text q (pos 0) ≡ q

pub above_within : (text : List ℕ) (p : ℕ) → p ≤ length text → 1 ≤ line_place text p (pos 0) → (m : ℕ)
    → LiesAbove text p (line_place text p (negsuc m))
above_within text p inside one m = at (line_place text p (pos 0)) refl where
  at : (s : ℕ) → s ≡ line_place text p (pos 0) → LiesAbove text p (line_place text p (negsuc m))
  at s e =
      let begin = line_begin text p in
      let within : s - 1 ≤ length text = omega (arith, begin.before) in
      let there = back_at text (s - 1) within m in
      let same : line_place text p (negsuc m)
      ≡ get_or (reverse (filter (λ q. nat_le q (s - 1)) (line_places text))) m 0 =
      line_above text p m one
      ∙ ap (λ k. get_or (reverse (filter (λ q. nat_le q (k - 1)) (line_places text))) m 0) (sym e) in
      let low = (line_begin text (s - 1)).before in
      subst (LiesAbove text p) (sym same) (record {
        before = omega (arith, there.0, low, e, one);
        starts = (lies_back text (s - 1) within _ there.0 there.1).1;
      })

-- the line before ends where this one starts
pub above_ends : (text : List ℕ) (p : ℕ) → p ≤ length text → 1 ≤ line_place text p (pos 0)
    → line_place text (line_place text p (negsuc 0)) (pos 1) ≡ line_place text p (pos 0)
above_ends text p inside one = at (line_place text p (pos 0) - 1) (line_place text p (negsuc 0)) refl
    (line_above text p 0 one) where
      at : (j k : ℕ) → j ≡ line_place text p (pos 0) - 1 → k ≡ line_place text (line_place text p (pos 0) - 1) (pos 0)
          → line_place text k (pos 1) ≡ line_place text p (pos 0)
      at j k e f =
          let begin = line_begin text p in
          let above = line_begin text j in
          let same : k ≡ line_place text j (pos 0) = f ∙ ap (λ i. line_place text i (pos 0)) (sym e) in
          let within : k ≤ length text = omega (arith, above.before, begin.before) in
          one_end text k _ _ (line_end text k within) (record {
            after = omega (arith, above.before);
            within = omega (arith, begin.before);
            more = λ l. omega (arith, above.before);
            none = λ i a b. above.none i (omega arith) (omega arith);
            one = λ i a b. begin.one i a;
          })

-- what is not known of the state at a place
abbrev lines_at : List ℕ → ℕ → ℕ → ℤ
lines_at text k zero = pos (line_place text k (pos 1))
lines_at text k (suc zero) = pos k
lines_at text k (suc (suc i)) = pos (line_place text k (pos 0))

abbrev unknown_at : List ℕ → ℕ → ℕ → ℤ
unknown_at text k = with_codes text k (lines_at text k)

module _ (s : Point) (here : Places) (given : ℕ → ℤ) (k : ℕ) (whole : s.kept.pointer ≤ length s.kept.text)
    (inside : k ≤ length s.kept.text) where
  abbrev kept : Kept
  kept = record s.kept { pointer = k }

  abbrev before : Before
  before = read_at s here given (unknown_at s.kept.text k)

  end : IsEnd s.kept.text s.kept.pointer (line_place s.kept.text s.kept.pointer (pos 1))
  end = line_end s.kept.text s.kept.pointer whole

  begin : IsBegin s.kept.text s.kept.pointer (line_place s.kept.text s.kept.pointer (pos 0))
  begin = line_begin s.kept.text s.kept.pointer

  end_there : IsEnd s.kept.text k (line_place s.kept.text k (pos 1))
  end_there = line_end s.kept.text k inside

  begin_there : IsBegin s.kept.text k (line_place s.kept.text k (pos 0))
  begin_there = line_begin s.kept.text k

  pub stays : length s.kept.text ≤ s.kept.pointer → k ≡ s.kept.pointer → Leads STAYS before s kept None
  stays h at = leads_singles STAYS before s kept refl refl (omega (arith, ints), tt) singles where
    singles : (which : Single) → Some (single (commanded s kept None) which)
        ≡ changed STAYS before (One which) (Some (single (commanded s s.kept None) which))
    singles Steps = refl
    singles Pointer = ap (λ x. Some (pos x)) at
    singles Size = refl
    singles Held = refl
    singles LineEnd = ap (λ x. Some (pos x)) (ap (λ x. line_place s.kept.text x (pos 1)) at)
    singles LineStart = ap (λ x. Some (pos x)) (ap (λ x. line_place s.kept.text x (pos 0)) at)
    singles LastLength = refl
    singles CodeHere = ap (λ x. Some (pos x)) (ap (code_here s.kept.text) at)
    singles CodeBefore = ap (λ x. Some (pos x)) (ap (code_before s.kept.text) at)
    singles Typed = refl
    singles EntryHeld = refl

  -- a line end stands before the place
  pub steps : s.kept.pointer + 1 ≤ k → k ≡ line_place s.kept.text s.kept.pointer (pos 1)
      → ((j : ℕ) → j + 1 ≡ k → ends s.kept.text j ≡ true) → Leads STEPS before s kept None
  steps h at start =
      leads_singles STEPS before s kept refl refl (
        omega (arith, ints),
        (omega (arith, ints, end_there.after), (omega (arith, ints, end_there.within), tt)),
      )
      singles where
        same : line_place s.kept.text k (pos 0) ≡ k
        same = one_begin s.kept.text k (line_place s.kept.text k (pos 0)) k begin_there
            (record { before = omega arith; none = λ i a b. absurd (omega arith); one = start })

        singles : (which : Single) → Some (single (commanded s kept None) which)
            ≡ changed STEPS before (One which) (Some (single (commanded s s.kept None) which))
        singles Steps = refl
        singles Pointer = ap Some (omega (arith, ints))
        singles Size = refl
        singles Held = refl
        singles LineEnd = ap Some (omega (arith, ints))
        singles LineStart = ap Some (omega (arith, ints, same))
        singles LastLength = refl
        singles CodeHere = ap Some (omega (arith, ints))
        singles CodeBefore = ap Some (omega (arith, ints))
        singles Typed = refl
        singles EntryHeld = refl

  -- none does
  pub last : s.kept.pointer + 1 ≤ k → k ≡ line_place s.kept.text s.kept.pointer (pos 1) → k ≡ length s.kept.text
      → ((j : ℕ) → j + 1 ≡ k → ends s.kept.text j ≡ false) → Leads LAST before s kept None
  last h at whole_text free =
      leads_singles LAST before s kept refl refl (omega (arith, ints), (omega (arith, ints), tt)) singles where
        none : (i : ℕ) → line_place s.kept.text s.kept.pointer (pos 0) ≤ i → i < k → ends s.kept.text i ≡ false
        none i a b = elim (above_or s.kept.pointer i) [
          | inr w ↦ begin.none i a w
          | inl w ↦ elim (above_or k (i + 1)) [
            | inl u ↦ free i (omega arith)
            | inr u ↦ end.none i w (omega arith)
          ]
        ]

        same : line_place s.kept.text k (pos 0) ≡ line_place s.kept.text s.kept.pointer (pos 0)
        same = one_begin s.kept.text k _ _ begin_there
            (record { before = omega (arith, begin.before); none = none; one = begin.one })

        singles : (which : Single) → Some (single (commanded s kept None) which)
            ≡ changed LAST before (One which) (Some (single (commanded s s.kept None) which))
        singles Steps = refl
        singles Pointer = ap Some (omega (arith, ints))
        singles Size = refl
        singles Held = refl
        singles LineEnd = ap (λ x. Some (pos x)) (omega (arith, end_there.after, end_there.within))
        singles LineStart = ap (λ x. Some (pos x)) same
        singles LastLength = refl
        singles CodeHere = ap Some (omega (arith, ints))
        singles CodeBefore = ap Some (omega (arith, ints))
        singles Typed = refl
        singles EntryHeld = refl

  pub starts : k ≡ line_place s.kept.text s.kept.pointer (pos 0) → Leads STARTS before s kept None
  starts at = leads_singles STARTS before s kept refl refl tt singles where
    same_end : line_place s.kept.text k (pos 1) ≡ line_place s.kept.text s.kept.pointer (pos 1)
    same_end =
        omega (
          arith,
          end_before s.kept.text k s.kept.pointer _ _ end_there end (λ l. omega (arith, end.more l, begin.before)),
          end_inside s.kept.text s.kept.pointer k _ _ _ begin end end_there (omega arith) (omega (arith, begin.before)),
        )

    same : line_place s.kept.text k (pos 0) ≡ k
    same = one_begin s.kept.text k (line_place s.kept.text k (pos 0)) k begin_there (record {
      before = omega arith;
      none = λ i a b. absurd (omega arith);
      one = λ j f. begin.one j (omega arith);
    })

    singles : (which : Single) → Some (single (commanded s kept None) which)
        ≡ changed STARTS before (One which) (Some (single (commanded s s.kept None) which))
    singles Steps = refl
    singles Pointer = ap Some (omega (arith, ints))
    singles Size = refl
    singles Held = refl
    singles LineEnd = ap (λ x. Some (pos x)) same_end
    singles LineStart = ap (λ x. Some (pos x)) (same ∙ at)
    singles LastLength = refl
    singles CodeHere = ap Some (omega (arith, ints))
    singles CodeBefore = ap Some (omega (arith, ints))
    singles Typed = refl
    singles EntryHeld = refl

  pub ahead : pos 1 ≤ℤ given 0 → line_place s.kept.text s.kept.pointer (pos 1) ≤ k → Leads AHEAD before s kept None
  ahead h far =
      leads_singles AHEAD before s kept refl refl (
        omega (arith, ints),
        (
          omega (arith, ints),
          (
            omega (arith, ints, end_there.after),
            (
              omega (arith, ints, end_there.within),
              (omega (arith, ints, later), (omega (arith, ints, begin_there.before), tt)),
            ),
          ),
        ),
      )
      singles where
        later : line_place s.kept.text s.kept.pointer (pos 0) ≤ line_place s.kept.text k (pos 0)
        later = begin_before s.kept.text s.kept.pointer k _ _ begin begin_there (omega (arith, begin.before, end.after))

        singles : (which : Single) → Some (single (commanded s kept None) which)
            ≡ changed AHEAD before (One which) (Some (single (commanded s s.kept None) which))
        singles Steps = refl
        singles Pointer = ap Some (omega (arith, ints))
        singles Size = refl
        singles Held = refl
        singles LineEnd = ap Some (omega (arith, ints))
        singles LineStart = ap Some (omega (arith, ints))
        singles LastLength = refl
        singles CodeHere = ap Some (omega (arith, ints))
        singles CodeBefore = ap Some (omega (arith, ints))
        singles Typed = refl
        singles EntryHeld = refl

  pub back : given 0 ≤ℤ pos 0 → k ≤ line_place s.kept.text s.kept.pointer (pos 0)
      → line_place s.kept.text k (pos 0) ≡ k → Leads BACK before s kept None
  back h near same =
      leads_singles BACK before s kept refl refl (
        omega (arith, ints),
        (
          omega (arith, ints),
          (omega (arith, ints), (omega (arith, ints, end_there.after), (omega (arith, ints, nearer), tt))),
        ),
      )
      singles where
        nearer : line_place s.kept.text k (pos 1) ≤ line_place s.kept.text s.kept.pointer (pos 1)
        nearer = end_before s.kept.text k s.kept.pointer _ _ end_there end (λ l. omega
            (arith, end.more l, begin.before))

        singles : (which : Single) → Some (single (commanded s kept None) which)
            ≡ changed BACK before (One which) (Some (single (commanded s s.kept None) which))
        singles Steps = refl
        singles Pointer = ap Some (omega (arith, ints))
        singles Size = refl
        singles Held = refl
        singles LineEnd = ap Some (omega (arith, ints))
        singles LineStart = ap Some (omega (arith, ints, same))
        singles LastLength = refl
        singles CodeHere = ap Some (omega (arith, ints))
        singles CodeBefore = ap Some (omega (arith, ints))
        singles Typed = refl
        singles EntryHeld = refl

  -- to the first line, and to one before
  pub top : line_place s.kept.text s.kept.pointer (pos 0) ≡ 0 → k ≡ 0 → Leads TOP before s kept None
  top first at = leads_singles TOP before s kept refl refl (omega (arith, ints), tt) singles where
    same_end : line_place s.kept.text k (pos 1) ≡ line_place s.kept.text s.kept.pointer (pos 1)
    same_end =
        omega (
          arith,
          end_before s.kept.text k s.kept.pointer _ _ end_there end (λ l. omega (arith, end.more l)),
          end_inside s.kept.text s.kept.pointer k _ _ _ begin end end_there (omega arith) (omega arith),
        )

    singles : (which : Single) → Some (single (commanded s kept None) which)
        ≡ changed TOP before (One which) (Some (single (commanded s s.kept None) which))
    singles Steps = refl
    singles Pointer = ap Some (omega (arith, ints))
    singles Size = refl
    singles Held = refl
    singles LineEnd = ap (λ x. Some (pos x)) same_end
    singles LineStart = ap (λ x. Some (pos x)) (omega (arith, begin_there.before))
    singles LastLength = refl
    singles CodeHere = ap Some (omega (arith, ints))
    singles CodeBefore = ap Some (omega (arith, ints))
    singles Typed = refl
    singles EntryHeld = refl

  pub up_one : LiesAbove s.kept.text s.kept.pointer k
      → line_place s.kept.text k (pos 1) ≡ line_place s.kept.text s.kept.pointer (pos 0)
      → Leads UP_ONE before s kept None
  up_one lies ends_there =
      leads_singles UP_ONE before s kept refl refl (omega (arith, ints), (omega (arith, ints, lies.before), tt)) singles
    where
      singles : (which : Single) → Some (single (commanded s kept None) which)
          ≡ changed UP_ONE before (One which) (Some (single (commanded s s.kept None) which))
      singles Steps = refl
      singles Pointer = ap Some (omega (arith, ints))
      singles Size = refl
      singles Held = refl
      singles LineEnd = ap Some (omega (arith, ints, ends_there))
      singles LineStart = ap Some (omega (arith, ints, lies.starts))
      singles LastLength = refl
      singles CodeHere = ap Some (omega (arith, ints))
      singles CodeBefore = ap Some (omega (arith, ints))
      singles Typed = refl
      singles EntryHeld = refl

  pub up : LiesAbove s.kept.text s.kept.pointer k → Leads UP before s kept None
  up lies =
      leads_singles UP before s kept refl refl (
        omega (arith, ints),
        (
          omega (arith, ints, lies.before),
          (omega (arith, ints, later), (omega (arith, ints, nearer), tt)),
        ),
      )
      singles where
        later : k < line_place s.kept.text k (pos 1)
        later = elim (above_or (length s.kept.text) (line_place s.kept.text k (pos 1))) [
          | inl w ↦ omega (arith, lies.before, begin.before)
          | inr w ↦ end_there.more w
        ]

        up_to : (j : ℕ) → j + 1 ≡ line_place s.kept.text s.kept.pointer (pos 0)
            → line_place s.kept.text k (pos 1) ≤ line_place s.kept.text s.kept.pointer (pos 0)
        up_to j e =
            omega (arith, end_least s.kept.text k _ j end_there (omega (arith, lies.before)) (begin.one j e))

        nearer : line_place s.kept.text k (pos 1) ≤ line_place s.kept.text s.kept.pointer (pos 0)
        nearer = up_to (line_place s.kept.text s.kept.pointer (pos 0) - 1) (omega (arith, lies.before))

        singles : (which : Single) → Some (single (commanded s kept None) which)
            ≡ changed UP before (One which) (Some (single (commanded s s.kept None) which))
        singles Steps = refl
        singles Pointer = ap Some (omega (arith, ints))
        singles Size = refl
        singles Held = refl
        singles LineEnd = ap Some (omega (arith, ints))
        singles LineStart = ap Some (omega (arith, ints, lies.starts))
        singles LastLength = refl
        singles CodeHere = ap Some (omega (arith, ints))
        singles CodeBefore = ap Some (omega (arith, ints))
        singles Typed = refl
        singles EntryHeld = refl

-- ---- what is gone to
module _ (case : Case) (ways : List command.Way) (given : List (List Term)) (here : Places) (all : Outcomes)
    (are : AreCommanded case ways given here all.cases.items) where
  abbrev read : ℕ → Valuation → ℕ → ℤ
  read n v i = value (slice_index_or given i []) n v

  gone : (n : ℕ) (v : Valuation) (s : Point) (k i : ℕ) (row : List Clause) → IsTrueOf n v case s → IsWay ways i row
      → Leads row (read_at s here (read n v) (unknown_at s.kept.text k)) s (record s.kept { pointer = k }) None
      → Describe n all (commanded s (record s.kept { pointer = k }) None)
  gone n v s k i row true_of w leading =
      by n v case ways given here all i row s (record s.kept { pointer = k }) None (unknown_at s.kept.text k) are w
      true_of leading

  pub next_line : IsWay ways 0 STAYS → IsWay ways 1 STEPS → IsWay ways 2 LAST → GoesBy (pos 1) case all
  next_line w0 w1 w2 n v s begins =
      elim (above_or (length s.kept.text) s.kept.pointer) [
        | inl h ↦ gone n v s (line_place s.kept.text s.kept.pointer (pos 1)) 0 STAYS begins.true_of w0
            (stays s here (read n v) (line_place s.kept.text s.kept.pointer (pos 1)) whole end.within h (omega
            (arith, end.after, end.within)))
        | inr h ↦ by_end (line_place s.kept.text s.kept.pointer (pos 1) - 1) (omega (arith, later h)) h
            (ends s.kept.text (line_place s.kept.text s.kept.pointer (pos 1) - 1)) refl
      ] where
        whole : s.kept.pointer ≤ length s.kept.text
        whole = begins.whole.inside

        end : IsEnd s.kept.text s.kept.pointer (line_place s.kept.text s.kept.pointer (pos 1))
        end = line_end s.kept.text s.kept.pointer whole

        later : s.kept.pointer < length s.kept.text
            → s.kept.pointer + 1 ≤ line_place s.kept.text s.kept.pointer (pos 1)
        later h = elim (above_or (length s.kept.text) (line_place s.kept.text s.kept.pointer (pos 1))) [
          | inl w ↦ omega arith
          | inr w ↦ omega (arith, end.more w)
        ]

        by_end : (j : ℕ) → j + 1 ≡ line_place s.kept.text s.kept.pointer (pos 1) → s.kept.pointer < length s.kept.text
            → (b : Bool) → ends s.kept.text j ≡ b → Describe n all (gone_by (pos 1) s)
        by_end j at h true t =
            gone n v s (line_place s.kept.text s.kept.pointer (pos 1)) 1 STEPS begins.true_of w1
            (steps s here (read n v) (line_place s.kept.text s.kept.pointer (pos 1)) whole end.within (later h) refl
            (λ i f. subst (λ x. ends s.kept.text x ≡ true) (omega arith) t))
        by_end j at h false t =
            gone n v s (line_place s.kept.text s.kept.pointer (pos 1)) 2 LAST begins.true_of w2
            (last s here (read n v) (line_place s.kept.text s.kept.pointer (pos 1)) whole end.within (later h) refl
            (at_last (above_or (length s.kept.text) (line_place s.kept.text s.kept.pointer (pos 1))))
            (λ i f. subst (λ x. ends s.kept.text x ≡ false) (omega arith) t)) where
              at_last : (length s.kept.text ≤ line_place s.kept.text s.kept.pointer (pos 1))
                  ⊎ (line_place s.kept.text s.kept.pointer (pos 1) < length s.kept.text)
                  → line_place s.kept.text s.kept.pointer (pos 1) ≡ length s.kept.text
              at_last (inl w) = omega (arith, end.within)
              at_last (inr w) = absurd (clash (ends s.kept.text j) (end.one j at w) t)

  pub line_start : IsWay ways 0 STARTS → GoesBy (pos 0) case all
  line_start w0 n v s begins =
      let k = line_place s.kept.text s.kept.pointer (pos 0) in
      gone n v s k 0 STARTS begins.true_of w0
      (starts s here (read n v) k begins.whole.inside
      (omega (arith, begins.whole.inside, (line_begin s.kept.text s.kept.pointer).before)) refl)

  -- to a line before
  back_by : (row : List Clause) (m : ℕ) → IsWay ways 0 TOP → IsWay ways 1 row
      → ((n : ℕ) (v : Valuation) (s : Point) (whole : s.kept.pointer ≤ length s.kept.text)
      (inside : line_place s.kept.text s.kept.pointer (negsuc m) ≤ length s.kept.text)
      → LiesAbove s.kept.text s.kept.pointer (line_place s.kept.text s.kept.pointer (negsuc m))
      → Leads row (read_at s here (read n v)
      (unknown_at s.kept.text (line_place s.kept.text s.kept.pointer (negsuc m)))) s
      (record s.kept { pointer = line_place s.kept.text s.kept.pointer (negsuc m) }) None)
      → GoesBy (negsuc m) case all
  back_by row m w0 w1 leading n v s begins = elim (above_or (line_place s.kept.text s.kept.pointer (pos 0)) 0) [
    | inl h ↦
        let first : line_place s.kept.text s.kept.pointer (pos 0) ≡ 0 = omega arith in
        let there = top_line s.kept.text s.kept.pointer m first in
        gone n v s (line_place s.kept.text s.kept.pointer (negsuc m)) 0 TOP begins.true_of w0
        (top s here (read n v) (line_place s.kept.text s.kept.pointer (negsuc m)) begins.whole.inside (omega
        (arith, there)) first there)
    | inr h ↦
        let lies = above_within s.kept.text s.kept.pointer begins.whole.inside h m in
        let inside : line_place s.kept.text s.kept.pointer (negsuc m) ≤ length s.kept.text =
        omega (arith, lies.before, (line_begin s.kept.text s.kept.pointer).before, begins.whole.inside) in
        gone n v s (line_place s.kept.text s.kept.pointer (negsuc m)) 1 row begins.true_of w1
        (leading n v s begins.whole.inside inside lies)
  ]

  pub lines_before : IsWay ways 0 TOP → IsWay ways 1 UP → (m : ℕ) → GoesBy (negsuc m) case all
  lines_before w0 w1 m = back_by UP m w0 w1 (λ n v s whole inside lies. up s here (read n v) _ whole inside lies)

  pub line_before : IsWay ways 0 TOP → IsWay ways 1 UP_ONE → GoesBy (negsuc 0) case all
  line_before w0 w1 = back_by UP_ONE 0 w0 w1 (λ n v s whole inside lies.
      up_one s here (read n v) _ whole inside lies (above_ends s.kept.text s.kept.pointer whole (omega
      (arith, lies.before))))

pub by_lines : (case : Case) (ways : List command.Way) (form : List Term) (here : Places) (all : Outcomes)
    → AreCommanded case ways (form ∷ []) here all.cases.items → IsWay ways 0 AHEAD → IsWay ways 1 BACK
    → GoesLines form case all
by_lines case ways form here all are w0 w1 n v s begins = by_count (value form n v) refl where
  whole : s.kept.pointer ≤ length s.kept.text
  whole = begins.whole.inside

  goes_back : (x : ℤ) → value form n v ≡ x → x ≤ℤ pos 0 → Describe n all (gone_by x s)
  goes_back x e h =
      let there = back_within s.kept.text s.kept.pointer whole x h in
      let k = line_place s.kept.text s.kept.pointer x in
      gone case ways (form ∷ []) here all are n v s k 1 BACK begins.true_of w1
      (back s here (read case ways (form ∷ []) here all are n v) k whole
      (omega (arith, there.0, (line_begin s.kept.text s.kept.pointer).before)) (omega (arith, ints)) there.0 there.1)

  by_count : (x : ℤ) → value form n v ≡ x → Describe n all (gone_by (value form n v) s)
  by_count (pos (suc m)) e =
      let there = ahead_within s.kept.text s.kept.pointer whole m in
      let k = line_place s.kept.text s.kept.pointer (pos (suc m)) in
      subst (λ x. Describe n all (gone_by x s)) (sym e)
      (gone case ways (form ∷ []) here all are n v s k 0 AHEAD begins.true_of w0
      (ahead s here (read case ways (form ∷ []) here all are n v) k whole there.1 (omega (arith, ints)) there.0))
  by_count (pos zero) e = subst (λ x. Describe n all (gone_by x s)) (sym e) (goes_back (pos zero) e (omega
      (arith, ints)))
  by_count (negsuc m) e =
      subst (λ x. Describe n all (gone_by x s)) (sym e) (goes_back (negsuc m) e (omega (arith, ints)))

-- ---- what L does
abbrev pub Counted : Option (List Term) → List Term → Type 0
Counted by form = (n : ℕ) (v : Valuation) → value form n v ≡ unwrap_or (value_if by n v) (pos 1)

pub moves_lines : (case : Case) (taken : TakenForms) (form : List Term) (all : Outcomes) → Counted taken.value form
    → GoesLines form case all → (e : Element) → Performs (motion kind.Lines e) taken case all
moves_lines case taken form all count goes e n v s begins =
    subst (λ x. Describe n all (gone_by x s)) (count n v) (goes n v s begins)

-- by a number that is known
pub known_lines : (case : Case) (taken : TakenForms) (form : List Term) (number : ℤ) (all : Outcomes)
    → Counted taken.value form → ((n : ℕ) (v : Valuation) → value form n v ≡ number) → GoesBy number case all
    → (e : Element) → Performs (motion kind.Lines e) taken case all
known_lines case taken form number all count known goes =
    moves_lines case taken form all count
    (λ n v s begins. subst (λ x. Describe n all (gone_by x s)) (sym (known n v)) (goes n v s begins))

-- by a number below 0
pub goes_back : (case : Case) (form : List Term) (all : Outcomes)
    → ((n : ℕ) (v : Valuation) → value form n v ≤ℤ negsuc 0) → ((m : ℕ) → GoesBy (negsuc m) case all)
    → GoesLines form case all
goes_back case form all below goes n v s begins = by_number (value form n v) refl where
  by_number : (x : ℤ) → value form n v ≡ x → Describe n all (gone_by (value form n v) s)
  by_number (pos k) e = absurd (omega (arith, ints, below n v))
  by_number (negsuc m) e = subst (λ x. Describe n all (gone_by x s)) (sym e) (goes m n v s begins)
