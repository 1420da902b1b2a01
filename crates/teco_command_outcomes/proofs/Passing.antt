-- D of one character.
use Rattle.teco_command_outcomes.proofs.Prelude.{◌≡◌, ℕ, ◌+◌, ◌≤◌, ℤ, pos, ◌+ℤ◌, List, [], ◌∷◌, length, true, false}
use Rattle.teco_command_outcomes.proofs.Prelude.{Some, None, slice_index_or, refl, sym, ap, subst, ◌∙◌, arith, ints}
use Rattle.teco_command_outcomes.proofs.Prelude.{line_place, text_after_deletion, Term, Valuation, value}
use Rattle.teco_command_outcomes.proofs.Prelude.{deletion_between, Kept, Case, Single, Steps, Pointer, Size, Held}
use Rattle.teco_command_outcomes.proofs.Prelude.{LineEnd, LineStart, LastLength, CodeHere, CodeBefore, Typed, EntryHeld}
use Rattle.teco_command_outcomes.proofs.Prelude.{One}
use Rattle.teco_command_outcomes.proofs.Prelude.{Outcomes, Clause, Places, AreCommanded, Leads, commanded, Describe}
use Rattle.teco_command_outcomes.proofs.Prelude.{Before, changed, Point, IsTrueOf, single, code_here, code_before}
use Rattle.teco_command_outcomes.proofs.Prelude.{CutsTo, Sort, ends_one, is_low, is_high, sort_at, read_at}
use Rattle.teco_command_outcomes.proofs.Prelude.{leads_singles, IsEnd, end_least, ends, line_end, IsWay, by}
use Rattle.teco_rows.specs.declared.commands.Way as command
use Rattle.teco_command_outcomes.specs.declared.deletions.TheConstants.{CUTS_END, CUTS_LOW, CUTS_HIGH}
use Rattle.teco_command_outcomes.specs.Deletions.{CutsNext}
use Rattle.teco_motion_outcomes.proofs.Codes.{ends_as_before, left_before}
use Rattle.teco_command_outcomes.proofs.Cutting.{left_begin, left_end, left_long, ordered_part, unknown_of}

module _ (s : Point) (here : Places) (given : ℕ → ℤ) (k : ℕ) (next : k ≡ s.kept.pointer + 1)
    (inside : k ≤ length s.kept.text) (from : given 0 ≡ pos s.kept.pointer) (to : given 1 ≡ pos k) where
  abbrev kept : Kept
  kept = (deletion_between s.kept.pointer k s.kept).kept

  abbrev before : Before
  before = read_at s here given (unknown_of kept)

  ordered : s.kept.pointer ≤ k
  ordered = omega (arith, next)

  long : length (text_after_deletion s.kept.text s.kept.pointer k) + k ≡ s.kept.pointer + length s.kept.text
  long = left_long s.kept.text s.kept.pointer k ordered inside

  end_is : line_place (text_after_deletion s.kept.text s.kept.pointer k) s.kept.pointer (pos 1) + k
      ≡ line_place s.kept.text k (pos 1) + s.kept.pointer
  end_is = left_end s.kept.text s.kept.pointer k ordered inside

  begin_is : line_place (text_after_deletion s.kept.text s.kept.pointer k) s.kept.pointer (pos 0)
      ≡ line_place s.kept.text s.kept.pointer (pos 0)
  begin_is = left_begin s.kept.text s.kept.pointer k ordered inside

  before_is : code_before (text_after_deletion s.kept.text s.kept.pointer k) s.kept.pointer
      ≡ code_before s.kept.text s.kept.pointer
  before_is = left_before s.kept.text s.kept.pointer k (omega (arith, next, inside))

  there : IsEnd s.kept.text k (line_place s.kept.text k (pos 1))
  there = line_end s.kept.text k inside

  same : ends s.kept.text s.kept.pointer ≡ false
      → line_place s.kept.text k (pos 1) ≡ line_place s.kept.text s.kept.pointer (pos 1)
  same goes_on =
      ap (λ x. line_place s.kept.text x (pos 1)) next
      ∙ ends_as_before s.kept.text s.kept.pointer (omega (arith, next, inside)) goes_on

  low_cut : ends s.kept.text s.kept.pointer ≡ false → 1 ≤ code_here s.kept.text s.kept.pointer
      → code_here s.kept.text s.kept.pointer ≤ 10 → Leads CUTS_LOW before s kept None
  low_cut goes_on low high =
      leads_singles CUTS_LOW before s kept refl refl
      (omega (arith, ints, same goes_on, there.after), (omega (arith, ints, low), (omega (arith, ints, high), tt)))
      singles where
        singles : (which : Single) → Some (single (commanded s kept None) which)
            ≡ changed CUTS_LOW before (One which) (Some (single (commanded s s.kept None) which))
        singles Steps = refl
        singles Pointer = ap Some (omega (arith, ints))
        singles Size = ap Some (omega (arith, ints, long))
        singles Held = ap Some (omega (arith, ints, long))
        singles LineEnd = ap Some (omega (arith, ints, end_is, same goes_on))
        singles LineStart = ap (λ x. Some (pos x)) begin_is
        singles LastLength = refl
        singles CodeHere = ap Some (omega (arith, ints))
        singles CodeBefore = ap (λ x. Some (pos x)) before_is
        singles Typed = refl
        singles EntryHeld = refl

  high_cut : ends s.kept.text s.kept.pointer ≡ false → 14 ≤ code_here s.kept.text s.kept.pointer
      → code_here s.kept.text s.kept.pointer ≤ 256 → Leads CUTS_HIGH before s kept None
  high_cut goes_on low high =
      leads_singles CUTS_HIGH before s kept refl refl
      (omega (arith, ints, same goes_on, there.after), (omega (arith, ints, low), (omega (arith, ints, high), tt)))
      singles where
        singles : (which : Single) → Some (single (commanded s kept None) which)
            ≡ changed CUTS_HIGH before (One which) (Some (single (commanded s s.kept None) which))
        singles Steps = refl
        singles Pointer = ap Some (omega (arith, ints))
        singles Size = ap Some (omega (arith, ints, long))
        singles Held = ap Some (omega (arith, ints, long))
        singles LineEnd = ap Some (omega (arith, ints, end_is, same goes_on))
        singles LineStart = ap (λ x. Some (pos x)) begin_is
        singles LastLength = refl
        singles CodeHere = ap Some (omega (arith, ints))
        singles CodeBefore = ap (λ x. Some (pos x)) before_is
        singles Typed = refl
        singles EntryHeld = refl

  end_cut : ends s.kept.text s.kept.pointer ≡ true → 11 ≤ code_here s.kept.text s.kept.pointer
      → code_here s.kept.text s.kept.pointer ≤ 13 → Leads CUTS_END before s kept None
  end_cut ended low high =
      leads_singles CUTS_END before s kept refl refl (
        omega (arith, ints, past),
        (
          omega (arith, ints, end_is, there.after),
          (
            omega (arith, ints, end_is, there.within),
            (omega (arith, ints, low), (omega (arith, ints, high), tt)),
          ),
        ),
      )
      singles where
        past : line_place s.kept.text s.kept.pointer (pos 1) ≤ k
        past = omega (
          arith,
          next,
          end_least s.kept.text s.kept.pointer _ s.kept.pointer
              (line_end s.kept.text s.kept.pointer (omega (arith, next, inside))) (omega arith) ended,
        )

        singles : (which : Single) → Some (single (commanded s kept None) which)
            ≡ changed CUTS_END before (One which) (Some (single (commanded s s.kept None) which))
        singles Steps = refl
        singles Pointer = ap Some (omega (arith, ints))
        singles Size = ap Some (omega (arith, ints, long))
        singles Held = ap Some (omega (arith, ints, long))
        singles LineEnd = ap Some (omega (arith, ints))
        singles LineStart = ap (λ x. Some (pos x)) begin_is
        singles LastLength = refl
        singles CodeHere = ap Some (omega (arith, ints))
        singles CodeBefore = ap (λ x. Some (pos x)) before_is
        singles Typed = refl
        singles EntryHeld = refl

pub cuts_next : (case : Case) (ways : List command.Way) (pointer place : List Term) (here : Places) (all : Outcomes)
    → AreCommanded case ways (pointer ∷ place ∷ []) here all.cases.items → IsWay ways 0 CUTS_END
    → IsWay ways 1 CUTS_LOW → IsWay ways 2 CUTS_HIGH
    → ((n : ℕ) (v : Valuation) (s : Point) → IsTrueOf n v case s → value pointer n v ≡ pos s.kept.pointer)
    → CutsNext place case all
cuts_next case ways pointer place here all are w0 w1 w2 pointer_is n v s k begins is inside next =
    subst (λ kept. Describe n all (commanded s kept None))
    (sym (ordered_part s.kept.pointer k s.kept (omega (arith, next))))
    (by_sort (sort_at s.kept.text s.kept.pointer (omega (arith, next, inside)) begins.whole.bytes)) where
      read : ℕ → ℤ
      read i = value (slice_index_or (pointer ∷ place ∷ []) i []) n v

      from : read 0 ≡ pos s.kept.pointer
      from = pointer_is n v s begins.true_of

      one_by : (i : ℕ) (row : List Clause) → IsWay ways i row
          → Leads row (read_at s here read (unknown_of (deletion_between s.kept.pointer k s.kept).kept)) s
          (deletion_between s.kept.pointer k s.kept).kept None
          → Describe n all (commanded s (deletion_between s.kept.pointer k s.kept).kept None)
      one_by i row w leading =
          by n v case ways (pointer ∷ place ∷ []) here all i row s (deletion_between s.kept.pointer k s.kept).kept None
          (unknown_of (deletion_between s.kept.pointer k s.kept).kept) are w begins.true_of leading

      by_sort : Sort s.kept.text s.kept.pointer
          → Describe n all (commanded s (deletion_between s.kept.pointer k s.kept).kept None)
      by_sort (ends_one e low high) = one_by 0 CUTS_END w0 (end_cut s here read k next inside from is e low high)
      by_sort (is_low e low high) = one_by 1 CUTS_LOW w1 (low_cut s here read k next inside from is e low high)
      by_sort (is_high e low high) = one_by 2 CUTS_HIGH w2 (high_cut s here read k next inside from is e low high)

-- what is told of the place behind the pointer is told of a place that is there
pub cuts_by_one : (case : Case) (place : List Term) (all : Outcomes)
    → ((n : ℕ) (v : Valuation) (s : Point) → IsTrueOf n v case s → value place n v ≡ pos s.kept.pointer +ℤ pos 1)
    → CutsNext place case all → CutsTo place case all
cuts_by_one case place all near cuts n v s k begins e inside =
    cuts n v s k begins e inside (omega (arith, ints, near n v s begins.true_of, e))
