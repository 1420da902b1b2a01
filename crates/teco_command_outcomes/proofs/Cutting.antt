-- D and K.
use Rattle.teco_command_outcomes.proofs.Prelude.{◌≡◌, ℕ, zero, suc, ◌+◌, ◌-◌, ◌<◌, ◌≤◌, ◌⊎◌, inl, inr, ℤ, pos, negsuc}
use Rattle.teco_command_outcomes.proofs.Prelude.{◌≤ℤ◌, List, [], ◌∷◌, length, true, Some, None, slice_index_or, refl}
use Rattle.teco_command_outcomes.proofs.Prelude.{sym, ap, subst, ◌∙◌, arith, min-eq_left, min-eq_right, max-eq_left}
use Rattle.teco_command_outcomes.proofs.Prelude.{max-eq_right, ints, line_place, text_after_deletion, Term, Valuation}
use Rattle.teco_command_outcomes.proofs.Prelude.{value, deletion_between, Kept, Case, PART, PART_BACK, Single, Steps}
use Rattle.teco_command_outcomes.proofs.Prelude.{Pointer, Size, Held, LineEnd, LineStart, LastLength, CodeHere}
use Rattle.teco_command_outcomes.proofs.Prelude.{CodeBefore, Typed, EntryHeld, One, Outcomes, Clause, Places}
use Rattle.teco_command_outcomes.proofs.Prelude.{AreCommanded, Leads}
use Rattle.teco_command_outcomes.proofs.Prelude.{commanded, CutsLines, CutsTo, kept_without, Describe, AreMet, Before}
use Rattle.teco_command_outcomes.proofs.Prelude.{changed, Point, IsTrueOf, single, code_here, code_before, read_at}
use Rattle.teco_command_outcomes.proofs.Prelude.{is_of_singles, leads_singles, IsEnd, IsBegin, line_end, line_begin}
use Rattle.teco_command_outcomes.proofs.Prelude.{one_end, one_begin, end_before, begin_before, above_or, top_line}
use Rattle.teco_command_outcomes.proofs.Prelude.{with_codes, begin_kept, end_behind, length_after, IsWay, by}
use Rattle.std.proofs.Common.{max}
use Rattle.teco_base.specs.declared.code.Code.TheVariants as code
use Rattle.teco_linear.specs.Implied as linear
use Rattle.teco_rows.specs.declared.commands.Way as command
use Rattle.teco_command_outcomes.specs.declared.deletions.TheConstants.{CUTS, CUTS_PAST, CUTS_BACK, CUTS_BACK_PAST}
use Rattle.teco_command_outcomes.specs.declared.deletions.TheConstants.{CUTS_LINE, CUTS_TOP, CUTS_UP, KEEPS, LINES}
use Rattle.teco_command_outcomes.specs.declared.deletions.TheConstants.{LINES_BACK}
use Rattle.teco_command_outcomes.specs.Deletions.{CutsBy}
use Rattle.teco_motion_outcomes.proofs.Codes.{left_before, left_here}
use Rattle.teco_command_outcomes.proofs.Lining.{LiesAbove, above_within, ahead_within, back_within}

-- ---- a text without a part
module _ (text : List ℕ) (a b : ℕ) (ordered : a ≤ b) (inside : b ≤ length text) where
  abbrev left : List ℕ
  left = text_after_deletion text a b

  pub left_long : length left + b ≡ a + length text
  left_long = omega (arith, length_after text [] a b ordered inside)

  pub left_end : line_place left a (pos 1) + b ≡ line_place text b (pos 1) + a
  left_end =
      let f = line_end text b inside in
      let e = line_place text b (pos 1) + a - b in
      let g : IsEnd left a e = end_behind text [] a b ordered inside b (line_place text b (pos 1)) a e f (omega arith)
      (omega arith) (omega (arith, f.after)) in
      omega (
        arith,
        f.after,
        one_end left a (line_place left a (pos 1)) e (line_end left a (omega (arith, left_long))) g,
      )

  pub left_begin : line_place left a (pos 0) ≡ line_place text a (pos 0)
  left_begin =
      one_begin left a (line_place left a (pos 0)) (line_place text a (pos 0)) (line_begin left a)
      (begin_kept text [] a b ordered inside (line_place text a (pos 0)) a (line_begin text a) (omega arith)
      (λ i h. absurd (omega arith)))

-- what is not known of the state behind
abbrev lines_of : Kept → ℕ → ℤ
lines_of kept zero = pos (line_place kept.text kept.pointer (pos 1))
lines_of kept (suc zero) = pos (line_place kept.text kept.pointer (pos 0))
lines_of kept (suc (suc i)) = pos (length kept.text)

abbrev pub unknown_of : Kept → ℕ → ℤ
unknown_of kept = with_codes kept.text kept.pointer (lines_of kept)

module _ (s : Point) (here : Places) (given : ℕ → ℤ) (a b : ℕ) (ordered : a ≤ b) (inside : b ≤ length s.kept.text)
  where
    abbrev kept : Kept
    kept = (deletion_between a b s.kept).kept

    abbrev before : Before
    before = read_at s here given (unknown_of kept)

    long : length (text_after_deletion s.kept.text a b) + b ≡ a + length s.kept.text
    long = left_long s.kept.text a b ordered inside

    end_is : line_place (text_after_deletion s.kept.text a b) a (pos 1) + b ≡ line_place s.kept.text b (pos 1) + a
    end_is = left_end s.kept.text a b ordered inside

    begin_is : line_place (text_after_deletion s.kept.text a b) a (pos 0) ≡ line_place s.kept.text a (pos 0)
    begin_is = left_begin s.kept.text a b ordered inside

    here_is : code_here (text_after_deletion s.kept.text a b) a ≡ code_here s.kept.text b
    here_is = left_here s.kept.text a b (omega arith)

    before_is : code_before (text_after_deletion s.kept.text a b) a ≡ code_before s.kept.text a
    before_is = left_before s.kept.text a b (omega arith)

    cut : (row : List Clause) → is_of_singles row ≡ true → AreMet row before
        → ((which : Single) → Some (single (commanded s kept None) which)
        ≡ changed row before (One which) (Some (single (commanded s s.kept None) which)))
        → Leads row before s kept None
    cut row of met singles = leads_singles row before s kept refl of met singles

    -- lines ahead and back
    pub lines : pos 1 ≤ℤ given 0 → a ≡ s.kept.pointer → line_place s.kept.text s.kept.pointer (pos 1) ≤ b
        → Leads LINES before s kept None
    lines some at past = cut LINES refl (
      omega (arith, ints),
      (
        omega (arith, ints, long),
        (omega (arith, ints, end_is, f.after), (omega (arith, ints, end_is, f.within, long), tt)),
      ),
    )
        singles where
          f : IsEnd s.kept.text b (line_place s.kept.text b (pos 1))
          f = line_end s.kept.text b inside

          singles : (which : Single) → Some (single (commanded s kept None) which)
              ≡ changed LINES before (One which) (Some (single (commanded s s.kept None) which))
          singles Steps = refl
          singles Pointer = ap (λ x. Some (pos x)) at
          singles Size = ap Some (omega (arith, ints))
          singles Held = ap Some (omega (arith, ints, long))
          singles LineEnd = ap Some (omega (arith, ints))
          singles LineStart = ap (λ x. Some (pos x)) (begin_is ∙ ap (λ x. line_place s.kept.text x (pos 0)) at)
          singles LastLength = refl
          singles CodeHere = ap Some (omega (arith, ints))
          singles CodeBefore = ap (λ x. Some (pos x)) (before_is ∙ ap (code_before s.kept.text) at)
          singles Typed = refl
          singles EntryHeld = refl

    pub lines_back : given 0 ≤ℤ pos 0 → b ≡ s.kept.pointer → a ≤ line_place s.kept.text s.kept.pointer (pos 0)
        → line_place s.kept.text a (pos 0) ≡ a → Leads LINES_BACK before s kept None
    lines_back none at past starts =
        cut LINES_BACK refl (
          omega (arith, ints),
          (
            omega (arith, ints),
            (
              omega
                  (arith, ints, begin_is),
              tt,
            ),
          ),
        ) singles where
          singles : (which : Single) → Some (single (commanded s kept None) which)
              ≡ changed LINES_BACK before (One which) (Some (single (commanded s s.kept None) which))
          singles Steps = refl
          singles Pointer = ap Some (omega (arith, ints, begin_is))
          singles Size = ap Some (omega (arith, ints, long, begin_is))
          singles Held = ap Some (omega (arith, ints, long, begin_is))
          singles LineEnd =
              ap Some (omega (arith, ints, end_is, ap (λ x. line_place s.kept.text x (pos 1)) at, begin_is))
          singles LineStart = ap Some (omega (arith, ints))
          singles LastLength = refl
          singles CodeHere = ap (λ x. Some (pos x)) (here_is ∙ ap (code_here s.kept.text) at)
          singles CodeBefore = ap Some (omega (arith, ints))
          singles Typed = refl
          singles EntryHeld = refl

    -- the line to its end
    pub keeps : a ≡ s.kept.pointer → b ≡ a → length s.kept.text ≤ a → Leads KEEPS before s kept None
    keeps at same all_of = cut KEEPS refl (omega (arith, ints), tt) singles where
      singles : (which : Single) → Some (single (commanded s kept None) which)
          ≡ changed KEEPS before (One which) (Some (single (commanded s s.kept None) which))
      singles Steps = refl
      singles Pointer = ap (λ x. Some (pos x)) at
      singles Size = ap (λ x. Some (pos x)) (omega (arith, long))
      singles Held = ap (λ x. Some (pos (x + s.unread))) (omega (arith, long))
      singles LineEnd =
          ap (λ x. Some (pos x))
          (omega (arith, end_is, ap (λ x. line_place s.kept.text x (pos 1)) (same ∙ at)))
      singles LineStart = ap (λ x. Some (pos x)) (begin_is ∙ ap (λ x. line_place s.kept.text x (pos 0)) at)
      singles LastLength = refl
      singles CodeHere = ap (λ x. Some (pos x)) (here_is ∙ ap (code_here s.kept.text) (same ∙ at))
      singles CodeBefore = ap (λ x. Some (pos x)) (before_is ∙ ap (code_before s.kept.text) at)
      singles Typed = refl
      singles EntryHeld = refl

    pub cuts_line : a ≡ s.kept.pointer → b ≡ line_place s.kept.text s.kept.pointer (pos 1) → a + 1 ≤ b
        → Leads CUTS_LINE before s kept None
    cuts_line at past some = cut CUTS_LINE refl (
      omega (arith, ints),
      (omega (arith, ints, end_is, f.after), (omega (arith, ints, end_is, f.within), tt)),
    )
        singles where
          f : IsEnd s.kept.text b (line_place s.kept.text b (pos 1))
          f = line_end s.kept.text b inside

          singles : (which : Single) → Some (single (commanded s kept None) which)
              ≡ changed CUTS_LINE before (One which) (Some (single (commanded s s.kept None) which))
          singles Steps = refl
          singles Pointer = ap (λ x. Some (pos x)) at
          singles Size = ap Some (omega (arith, ints, long))
          singles Held = ap Some (omega (arith, ints, long))
          singles LineEnd = ap Some (omega (arith, ints))
          singles LineStart = ap (λ x. Some (pos x)) (begin_is ∙ ap (λ x. line_place s.kept.text x (pos 0)) at)
          singles LastLength = refl
          singles CodeHere = ap Some (omega (arith, ints))
          singles CodeBefore = ap (λ x. Some (pos x)) (before_is ∙ ap (code_before s.kept.text) at)
          singles Typed = refl
          singles EntryHeld = refl

    -- lines back, in the first line and in another
    pub cuts_top : b ≡ s.kept.pointer → a ≡ 0 → line_place s.kept.text s.kept.pointer (pos 0) ≡ 0
        → Leads CUTS_TOP before s kept None
    cuts_top at top first = cut CUTS_TOP refl (omega (arith, ints), tt) singles where
      t : IsBegin s.kept.text a (line_place s.kept.text a (pos 0))
      t = line_begin s.kept.text a

      singles : (which : Single) → Some (single (commanded s kept None) which)
          ≡ changed CUTS_TOP before (One which) (Some (single (commanded s s.kept None) which))
      singles Steps = refl
      singles Pointer = ap Some (omega (arith, ints))
      singles Size = ap Some (omega (arith, ints, long))
      singles Held = ap Some (omega (arith, ints, long))
      singles LineEnd = ap Some (omega (arith, ints, end_is, ap (λ x. line_place s.kept.text x (pos 1)) at))
      singles LineStart = ap (λ x. Some (pos x)) (omega (arith, begin_is, t.before))
      singles LastLength = refl
      singles CodeHere = ap (λ x. Some (pos x)) (here_is ∙ ap (code_here s.kept.text) at)
      singles CodeBefore = ap Some (omega (arith, ints))
      singles Typed = refl
      singles EntryHeld = refl

    pub cuts_up : b ≡ s.kept.pointer → LiesAbove s.kept.text s.kept.pointer a → Leads CUTS_UP before s kept None
    cuts_up at lies =
        cut CUTS_UP refl (omega (arith, ints), (omega (arith, ints, begin_is, lies.starts, lies.before), tt)) singles
      where
        singles : (which : Single) → Some (single (commanded s kept None) which)
            ≡ changed CUTS_UP before (One which) (Some (single (commanded s s.kept None) which))
        singles Steps = refl
        singles Pointer = ap Some (omega (arith, ints, begin_is, lies.starts))
        singles Size = ap Some (omega (arith, ints, long, begin_is, lies.starts))
        singles Held = ap Some (omega (arith, ints, long, begin_is, lies.starts))
        singles LineEnd =
            ap Some
            (omega (arith, ints, end_is, ap (λ x. line_place s.kept.text x (pos 1)) at, begin_is, lies.starts))
        singles LineStart = ap Some (omega (arith, ints))
        singles LastLength = refl
        singles CodeHere = ap (λ x. Some (pos x)) (here_is ∙ ap (code_here s.kept.text) at)
        singles CodeBefore = ap Some (omega (arith, ints))
        singles Typed = refl
        singles EntryHeld = refl

    -- in the order of the places
    module _ (from : given 0 ≡ pos a) (to : given 1 ≡ pos b) where
      pub cuts : a ≡ s.kept.pointer → b + 1 ≤ line_place s.kept.text s.kept.pointer (pos 1)
          → Leads CUTS before s kept None
      cuts at within = cut CUTS refl (omega (arith, ints), (omega (arith, ints), tt)) singles where
        same : line_place s.kept.text b (pos 1) ≡ line_place s.kept.text s.kept.pointer (pos 1)
        same =
            let e = line_end s.kept.text s.kept.pointer (omega arith) in
            let f = line_end s.kept.text b inside in
            omega (
              arith,
              end_before s.kept.text s.kept.pointer b _ _ e f (λ l. omega (arith, f.more l)),
              end_before s.kept.text b s.kept.pointer _ _ f e (λ l. omega arith),
            )

        singles : (which : Single) → Some (single (commanded s kept None) which)
            ≡ changed CUTS before (One which) (Some (single (commanded s s.kept None) which))
        singles Steps = refl
        singles Pointer = ap Some (omega (arith, ints))
        singles Size = ap Some (omega (arith, ints, long))
        singles Held = ap Some (omega (arith, ints, long))
        singles LineEnd = ap Some (omega (arith, ints, end_is, same))
        singles LineStart = ap (λ x. Some (pos x)) (begin_is ∙ ap (λ x. line_place s.kept.text x (pos 0)) at)
        singles LastLength = refl
        singles CodeHere = ap Some (omega (arith, ints))
        singles CodeBefore = ap (λ x. Some (pos x)) (before_is ∙ ap (code_before s.kept.text) at)
        singles Typed = refl
        singles EntryHeld = refl

      pub cuts_past : a ≡ s.kept.pointer → line_place s.kept.text s.kept.pointer (pos 1) ≤ b
          → Leads CUTS_PAST before s kept None
      cuts_past at past = cut CUTS_PAST refl (
        omega (arith, ints),
        (omega (arith, ints, end_is, f.after), (omega (arith, ints, end_is, f.within), tt)),
      )
          singles where
            f : IsEnd s.kept.text b (line_place s.kept.text b (pos 1))
            f = line_end s.kept.text b inside

            singles : (which : Single) → Some (single (commanded s kept None) which)
                ≡ changed CUTS_PAST before (One which) (Some (single (commanded s s.kept None) which))
            singles Steps = refl
            singles Pointer = ap Some (omega (arith, ints))
            singles Size = ap Some (omega (arith, ints, long))
            singles Held = ap Some (omega (arith, ints, long))
            singles LineEnd = ap Some (omega (arith, ints))
            singles LineStart = ap (λ x. Some (pos x)) (begin_is ∙ ap (λ x. line_place s.kept.text x (pos 0)) at)
            singles LastLength = refl
            singles CodeHere = ap Some (omega (arith, ints))
            singles CodeBefore = ap (λ x. Some (pos x)) (before_is ∙ ap (code_before s.kept.text) at)
            singles Typed = refl
            singles EntryHeld = refl

      pub parts : Leads PART before s kept None
      parts = cut PART refl (
        omega (arith, ints),
        (
          omega (arith, ints, end_is, f.after),
          (
            omega (arith, ints, end_is, f.within),
            (omega (arith, ints), (omega (arith, ints, begin_is, t.before), tt)),
          ),
        ),
      )
          singles where
            f : IsEnd s.kept.text b (line_place s.kept.text b (pos 1))
            f = line_end s.kept.text b inside

            t : IsBegin s.kept.text a (line_place s.kept.text a (pos 0))
            t = line_begin s.kept.text a

            singles : (which : Single) → Some (single (commanded s kept None) which)
                ≡ changed PART before (One which) (Some (single (commanded s s.kept None) which))
            singles Steps = refl
            singles Pointer = ap Some (omega (arith, ints))
            singles Size = ap Some (omega (arith, ints, long))
            singles Held = ap Some (omega (arith, ints, long))
            singles LineEnd = ap Some (omega (arith, ints))
            singles LineStart = ap Some (omega (arith, ints))
            singles LastLength = refl
            singles CodeHere = ap Some (omega (arith, ints))
            singles CodeBefore = ap Some (omega (arith, ints))
            singles Typed = refl
            singles EntryHeld = refl

    -- in the other order
    module _ (from : given 0 ≡ pos b) (to : given 1 ≡ pos a) where
      -- where the part ends at the pointer, the line ends as much nearer
      nearer : b ≡ s.kept.pointer
          → line_place (text_after_deletion s.kept.text a b) a (pos 1) + b
          ≡ line_place s.kept.text s.kept.pointer (pos 1) + a
      nearer at = end_is ∙ ap (λ x. line_place s.kept.text x (pos 1) + a) at

      pub cuts_back : b ≡ s.kept.pointer → a + 1 ≤ b → line_place s.kept.text s.kept.pointer (pos 0) ≤ a
          → Leads CUTS_BACK before s kept None
      cuts_back at apart within =
          cut CUTS_BACK refl (omega (arith, ints), (omega (arith, ints), tt)) singles where
            same : line_place s.kept.text a (pos 0) ≡ line_place s.kept.text s.kept.pointer (pos 0)
            same =
                let e = line_begin s.kept.text s.kept.pointer in
                let f = line_begin s.kept.text a in
                omega (
                  arith,
                  begin_before s.kept.text s.kept.pointer a _ _ e f within,
                  begin_before s.kept.text a s.kept.pointer _ _ f e (omega (arith, f.before)),
                )

            singles : (which : Single) → Some (single (commanded s kept None) which)
                ≡ changed CUTS_BACK before (One which) (Some (single (commanded s s.kept None) which))
            singles Steps = refl
            singles Pointer = ap Some (omega (arith, ints))
            singles Size = ap Some (omega (arith, ints, long))
            singles Held = ap Some (omega (arith, ints, long))
            singles LineEnd = ap Some (omega (arith, ints, nearer at))
            singles LineStart = ap (λ x. Some (pos x)) (begin_is ∙ same)
            singles LastLength = refl
            singles CodeHere = ap (λ x. Some (pos x)) (here_is ∙ ap (code_here s.kept.text) at)
            singles CodeBefore = ap Some (omega (arith, ints))
            singles Typed = refl
            singles EntryHeld = refl

      pub cuts_back_past : b ≡ s.kept.pointer → a + 1 ≤ line_place s.kept.text s.kept.pointer (pos 0)
          → Leads CUTS_BACK_PAST before s kept None
      cuts_back_past at past = cut CUTS_BACK_PAST refl
          (omega (arith, ints), (omega (arith, ints), (omega (arith, ints, begin_is, f.before), tt))) singles where
            f : IsBegin s.kept.text a (line_place s.kept.text a (pos 0))
            f = line_begin s.kept.text a

            singles : (which : Single) → Some (single (commanded s kept None) which)
                ≡ changed CUTS_BACK_PAST before (One which) (Some (single (commanded s s.kept None) which))
            singles Steps = refl
            singles Pointer = ap Some (omega (arith, ints))
            singles Size = ap Some (omega (arith, ints, long))
            singles Held = ap Some (omega (arith, ints, long))
            singles LineEnd = ap Some (omega (arith, ints, nearer at))
            singles LineStart = ap Some (omega (arith, ints))
            singles LastLength = refl
            singles CodeHere = ap (λ x. Some (pos x)) (here_is ∙ ap (code_here s.kept.text) at)
            singles CodeBefore = ap Some (omega (arith, ints))
            singles Typed = refl
            singles EntryHeld = refl

      pub parts_back : a + 1 ≤ b → Leads PART_BACK before s kept None
      parts_back apart = cut PART_BACK refl (
        omega (arith, ints),
        (
          omega (arith, ints, end_is, f.after),
          (
            omega (arith, ints, end_is, f.within),
            (omega (arith, ints), (omega (arith, ints, begin_is, t.before), tt)),
          ),
        ),
      )
          singles where
            f : IsEnd s.kept.text b (line_place s.kept.text b (pos 1))
            f = line_end s.kept.text b inside

            t : IsBegin s.kept.text a (line_place s.kept.text a (pos 0))
            t = line_begin s.kept.text a

            singles : (which : Single) → Some (single (commanded s kept None) which)
                ≡ changed PART_BACK before (One which) (Some (single (commanded s s.kept None) which))
            singles Steps = refl
            singles Pointer = ap Some (omega (arith, ints))
            singles Size = ap Some (omega (arith, ints, long))
            singles Held = ap Some (omega (arith, ints, long))
            singles LineEnd = ap Some (omega (arith, ints))
            singles LineStart = ap Some (omega (arith, ints))
            singles LastLength = refl
            singles CodeHere = ap Some (omega (arith, ints))
            singles CodeBefore = ap Some (omega (arith, ints))
            singles Typed = refl
            singles EntryHeld = refl

-- ---- the part between two places, in either order
pub ordered_part : (a b : ℕ) (kept : Kept) → a ≤ b → kept_without a b kept ≡ (deletion_between a b kept).kept
ordered_part a b kept h =
    ap (λ x. (deletion_between x (max a b) kept).kept) (min-eq_left h)
    ∙ ap (λ x. (deletion_between a x kept).kept) (max-eq_right h)

pub turned_part : (a b : ℕ) (kept : Kept) → b ≤ a → kept_without a b kept ≡ (deletion_between b a kept).kept
turned_part a b kept h =
    ap (λ x. (deletion_between x (max a b) kept).kept) (min-eq_right h)
    ∙ ap (λ x. (deletion_between b x kept).kept) (max-eq_left h)

pub same_part : (a b : ℕ) (kept : Kept) → kept_without a b kept ≡ kept_without b a kept
same_part a b kept = elim (above_or a b) as (λ x. kept_without a b kept ≡ kept_without b a kept) [
  | inl h ↦ ordered_part a b kept h ∙ sym (turned_part b a kept h)
  | inr h ↦ turned_part a b kept (omega arith) ∙ sym (ordered_part b a kept (omega arith))
]

module _ (case : Case) (ways : List command.Way) (first second : List Term) (here : Places) (all : Outcomes)
    (are : AreCommanded case ways (first ∷ second ∷ []) here all.cases.items) (n : ℕ) (v : Valuation) (s : Point)
    (true_of : IsTrueOf n v case s) where
  abbrev read : ℕ → ℤ
  read i = value (slice_index_or (first ∷ second ∷ []) i []) n v

  -- one of the cases, by the row of a way
  abbrev Cut : ℕ → ℕ → Type 0
  Cut a b = Describe n all (commanded s (deletion_between a b s.kept).kept None)

  one_by : (i a b : ℕ) (row : List Clause) → IsWay ways i row
      → Leads row (read_at s here read (unknown_of (deletion_between a b s.kept).kept)) s
      (deletion_between a b s.kept).kept
      None
      → Cut a b
  one_by i a b row w leading =
      by n v case ways (first ∷ second ∷ []) here all i row s (deletion_between a b s.kept).kept None
      (unknown_of (deletion_between a b s.kept).kept) are w true_of leading

  pub cut_by : IsWay ways 0 CUTS → IsWay ways 1 CUTS_PAST → IsWay ways 2 CUTS_BACK → IsWay ways 3 CUTS_BACK_PAST
      → (k : ℕ) → value first n v ≡ pos s.kept.pointer → value second n v ≡ pos k → s.kept.pointer ≤ length s.kept.text
      → k ≤ length s.kept.text → Describe n all (commanded s (kept_without s.kept.pointer k s.kept) None)
  cut_by w0 w1 w2 w3 k from to whole inside = elim (above_or s.kept.pointer k) [
    | inl h ↦ subst (λ kept. Describe n all (commanded s kept None)) (sym (ordered_part s.kept.pointer k s.kept h))
        (ahead h (above_or (line_place s.kept.text s.kept.pointer (pos 1)) k))
    | inr h ↦ subst (λ kept. Describe n all (commanded s kept None))
        (sym (turned_part s.kept.pointer k s.kept (omega arith)))
        (back (omega arith) (above_or (line_place s.kept.text s.kept.pointer (pos 0)) k))
  ] where
    ahead : s.kept.pointer ≤ k → ((line_place s.kept.text s.kept.pointer (pos 1) ≤ k)
        ⊎ (k < line_place s.kept.text s.kept.pointer (pos 1)))
        → Cut s.kept.pointer k
    ahead h (inl past) = one_by 1 s.kept.pointer k CUTS_PAST w1
        (cuts_past s here read s.kept.pointer k h inside from to refl past)
    ahead h (inr within) = one_by 0 s.kept.pointer k CUTS w0
        (cuts s here read s.kept.pointer k h inside from to refl (omega arith))

    back : k + 1 ≤ s.kept.pointer → ((line_place s.kept.text s.kept.pointer (pos 0) ≤ k)
        ⊎ (k < line_place s.kept.text s.kept.pointer (pos 0)))
        → Cut k s.kept.pointer
    back h (inl within) = one_by 2 k s.kept.pointer CUTS_BACK w2
        (cuts_back s here read k s.kept.pointer (omega arith) whole from to refl h within)
    back h (inr past) = one_by 3 k s.kept.pointer CUTS_BACK_PAST w3
        (cuts_back_past s here read k s.kept.pointer (omega arith) whole from to refl (omega arith))

  pub part_by : IsWay ways 0 PART → IsWay ways 1 PART_BACK → (a b : ℕ) → value first n v ≡ pos a
      → value second n v ≡ pos b → a ≤ length s.kept.text → b ≤ length s.kept.text
      → Describe n all (commanded s (kept_without a b s.kept) None)
  part_by w0 w1 a b from to p q = elim (above_or a b) [
    | inl h ↦ subst (λ kept. Describe n all (commanded s kept None)) (sym (ordered_part a b s.kept h))
        (one_by 0 a b PART w0 (parts s here read a b h q from to))
    | inr h ↦ subst (λ kept. Describe n all (commanded s kept None)) (sym (turned_part a b s.kept (omega arith)))
        (one_by 1 b a PART_BACK w1 (parts_back s here read b a (omega arith) p from to (omega arith)))
  ]

pub cuts_to : (case : Case) (ways : List command.Way) (pointer place : List Term) (here : Places) (all : Outcomes)
    → AreCommanded case ways (pointer ∷ place ∷ []) here all.cases.items → IsWay ways 0 CUTS → IsWay ways 1 CUTS_PAST
    → IsWay ways 2 CUTS_BACK → IsWay ways 3 CUTS_BACK_PAST
    → ((n : ℕ) (v : Valuation) (s : Point) → IsTrueOf n v case s → value pointer n v ≡ pos s.kept.pointer)
    → CutsTo place case all
cuts_to case ways pointer place here all are w0 w1 w2 w3 pointer_is n v s k begins is inside =
    cut_by case ways pointer place here all are n v s begins.true_of w0 w1 w2 w3 k (pointer_is n v s begins.true_of) is
    begins.whole.inside inside

abbrev read_one : List Term → ℕ → Valuation → ℕ → ℤ
read_one form n v i = value (slice_index_or (form ∷ []) i []) n v

pub cuts_lines : (case : Case) (ways : List command.Way) (form : List Term) (here : Places) (all : Outcomes)
    → AreCommanded case ways (form ∷ []) here all.cases.items → IsWay ways 0 LINES → IsWay ways 1 LINES_BACK
    → CutsLines form case all
cuts_lines case ways form here all are w0 w1 n v s begins =
    by_count (value form n v) refl where
      whole : s.kept.pointer ≤ length s.kept.text
      whole = begins.whole.inside

      goes_back : (x : ℤ) → value form n v ≡ x → x ≤ℤ pos 0
          → Describe n all (commanded s
          (kept_without s.kept.pointer (line_place s.kept.text s.kept.pointer x) s.kept) None)
      goes_back x e h =
          let p = s.kept.pointer in
          let there = back_within s.kept.text p whole x h in
          let k = line_place s.kept.text p x in
          let low : k ≤ p = omega (arith, there.0, (line_begin s.kept.text p).before) in
          subst (λ kept. Describe n all (commanded s kept None)) (sym (turned_part p k s.kept low))
          (by n v case ways (form ∷ []) here all 1 LINES_BACK s (deletion_between k p s.kept).kept None
          (unknown_of (deletion_between k p s.kept).kept) are w1 begins.true_of
          (lines_back s here (read_one form n v) k p low whole (omega (arith, ints)) refl there.0 there.1))

      by_count : (x : ℤ) → value form n v ≡ x
          → Describe n all (commanded s
          (kept_without s.kept.pointer (line_place s.kept.text s.kept.pointer x) s.kept) None)
      by_count (pos (suc m)) e =
          let p = s.kept.pointer in
          let there = ahead_within s.kept.text p whole m in
          let k = line_place s.kept.text p (pos (suc m)) in
          let up : p ≤ k = omega (arith, there.0, (line_end s.kept.text p whole).after) in
          subst (λ kept. Describe n all (commanded s kept None)) (sym (ordered_part p k s.kept up))
          (by n v case ways (form ∷ []) here all 0 LINES s (deletion_between p k s.kept).kept None
          (unknown_of (deletion_between p k s.kept).kept) are w0 begins.true_of
          (lines s here (read_one form n v) p k up there.1 (omega (arith, ints)) refl there.0))
      by_count (pos zero) e = goes_back (pos zero) e (omega (arith, ints))
      by_count (negsuc m) e = goes_back (negsuc m) e (omega (arith, ints))

-- the line, and lines before
module _ (case : Case) (ways : List command.Way) (here : Places) (all : Outcomes)
    (are : AreCommanded case ways [] here all.cases.items) where
  abbrev read_none : ℕ → Valuation → ℕ → ℤ
  read_none n v i = value (slice_index_or [] i []) n v

  way_of : (n : ℕ) (v : Valuation) (s : Point) (i a b : ℕ) (row : List Clause) → IsTrueOf n v case s → IsWay ways i row
      → Leads row (read_at s here (read_none n v) (unknown_of (deletion_between a b s.kept).kept)) s
      (deletion_between a b s.kept).kept None
      → Describe n all (commanded s (deletion_between a b s.kept).kept None)
  way_of n v s i a b row true_of w leading =
      by n v case ways [] here all i row s (deletion_between a b s.kept).kept None
      (unknown_of (deletion_between a b s.kept).kept) are w true_of leading

  pub cut_line : IsWay ways 0 KEEPS → IsWay ways 1 CUTS_LINE → CutsBy (pos 1) case all
  cut_line w0 w1 n v s begins = at (line_place s.kept.text s.kept.pointer (pos 1)) refl where
    p : ℕ
    p = s.kept.pointer

    whole : s.kept.pointer ≤ length s.kept.text
    whole = begins.whole.inside

    end : IsEnd s.kept.text s.kept.pointer (line_place s.kept.text s.kept.pointer (pos 1))
    end = line_end s.kept.text s.kept.pointer whole

    at : (e : ℕ) → e ≡ line_place s.kept.text s.kept.pointer (pos 1)
        → Describe n all (commanded s (kept_without s.kept.pointer (line_place s.kept.text s.kept.pointer (pos 1))
        s.kept) None)
    at e same =
        subst (λ k. Describe n all (commanded s (kept_without s.kept.pointer k s.kept) None)) same
        (subst (λ kept. Describe n all (commanded s kept None))
        (sym (ordered_part s.kept.pointer e s.kept (omega (arith, end.after))))
        (elim (above_or (length s.kept.text) s.kept.pointer) [
          | inl h ↦ way_of n v s 0 s.kept.pointer e KEEPS begins.true_of w0
              (keeps s here (read_none n v) s.kept.pointer e (omega (arith, end.after)) (omega (arith, end.within)) refl
              (omega (arith, end.after, end.within)) h)
          | inr h ↦ way_of n v s 1 s.kept.pointer e CUTS_LINE begins.true_of w1
              (cuts_line s here (read_none n v) s.kept.pointer e (omega (arith, end.after)) (omega (arith, end.within))
              refl same (later e same h))
        ])) where
          later : (e : ℕ) → e ≡ line_place s.kept.text s.kept.pointer (pos 1) → s.kept.pointer < length s.kept.text
              → s.kept.pointer + 1 ≤ e
          later e same h = elim (above_or (length s.kept.text) e) [
            | inl w ↦ omega arith
            | inr w ↦ omega (arith, end.more (omega arith))
          ]

  pub cut_back : IsWay ways 0 CUTS_TOP → IsWay ways 1 CUTS_UP → (m : ℕ) → CutsBy (negsuc m) case all
  cut_back w0 w1 m n v s begins =
      let p = s.kept.pointer in
      let k = line_place s.kept.text s.kept.pointer (negsuc m) in
      elim (above_or (line_place s.kept.text s.kept.pointer (pos 0)) 0) [
        | inl h ↦
            let first : line_place s.kept.text s.kept.pointer (pos 0) ≡ 0 = omega arith in
            let there = top_line s.kept.text s.kept.pointer m first in
            subst (λ kept. Describe n all (commanded s kept None)) (sym (turned_part p k s.kept (omega (arith, there))))
            (way_of n v s 0 k p CUTS_TOP begins.true_of w0
            (cuts_top s here (read_none n v) k p (omega (arith, there)) begins.whole.inside refl there first))
        | inr h ↦
            let lies = above_within s.kept.text s.kept.pointer begins.whole.inside h m in
            let low : k ≤ p = omega (arith, lies.before, (line_begin s.kept.text s.kept.pointer).before) in
            subst (λ kept. Describe n all (commanded s kept None)) (sym (turned_part p k s.kept low))
            (way_of n v s 1 k p CUTS_UP begins.true_of w1
            (cuts_up s here (read_none n v) k p low begins.whole.inside refl lies))
      ]

pub cuts_before : (case : Case) (form : List Term) (all : Outcomes)
    → ((n : ℕ) (v : Valuation) → value form n v ≤ℤ negsuc 0) → ((m : ℕ) → CutsBy (negsuc m) case all)
    → CutsLines form case all
cuts_before case form all below cuts n v s begins = by_number (value form n v) refl where
  by_number : (x : ℤ) → value form n v ≡ x
      → Describe n all (commanded s
      (kept_without s.kept.pointer (line_place s.kept.text s.kept.pointer (value form n v)) s.kept) None)
  by_number (pos k) e = absurd (omega (arith, ints, below n v))
  by_number (negsuc m) e =
      subst (λ x. Describe n all (commanded s (kept_without s.kept.pointer (line_place s.kept.text s.kept.pointer x)
      s.kept) None)) (sym e) (cuts m n v s begins)

pub cuts_known : (case : Case) (form : List Term) (number : ℤ) (all : Outcomes)
    → ((n : ℕ) (v : Valuation) → value form n v ≡ number) → CutsBy number case all → CutsLines form case all
cuts_known case form number all known cuts n v s begins =
    subst (λ x. Describe n all (commanded s (kept_without s.kept.pointer (line_place s.kept.text s.kept.pointer x)
    s.kept) None)) (sym (known n v)) (cuts n v s begins)
