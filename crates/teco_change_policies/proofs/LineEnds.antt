-- Line ends that stay, and lines.
use Rattle.std.proofs.Common.{◌≡◌, ◌≢◌, ℕ, List, [], ◌∷◌, ◌++◌, map, Bool, true, false, cond, not, refl, sym, ap}
use Rattle.std.proofs.Common.{◌∙◌}
use Rattle.std.proofs.Common.{suc, ◌-◌, ◌<◌, arith, get_or, length}
use Rattle.std.proofs.lemmas.List.Elements.{All-head, All-tail, filter-append}
use Rattle.std.specs.List.{AllZip}
use Rattle.teco_base.specs.Bytes.{is_line_end}
use Rattle.std.specs.Prelude.{All}
use Rattle.teco_changes.specs.Changes.{Changes, IsChange}
use Rattle.teco_change_policies.specs.Laws.{IsWithinLine, KeepsLineEnds, LineEndsAreKept, LinesAreKept, Swaps}
use Rattle.teco_change_policies.specs.Laws.{SwapsKeepLines}
use Rattle.teco_change_policies.specs.Laws.{ends_within_line}
use Rattle.teco_changes.specs.declared.change.Change.{Change}
use Rattle.teco_changes.proofs.Turns.{by_changes}
use Rattle.teco_policy.specs.Lines.{EndAlike, in_first, line_end, lines}

-- a piece of one line has no line end
no_end : (text : List ℕ) → IsWithinLine text → line_end text ≡ []
no_end [] each = refl
no_end (b ∷ text) each =
    ap (λ t. cond t (b ∷ line_end text) (line_end text)) (All-head (λ x. is_line_end x ≡ false) b text each)
    ∙ no_end text (All-tail (λ x. is_line_end x ≡ false) b text each)

pub around : (front piece back : List ℕ) → IsWithinLine piece
    → line_end (front ++ (piece ++ back)) ≡ line_end front ++ line_end back
around front piece back each =
    filter-append is_line_end front (piece ++ back)
    ∙ ap (λ l. line_end front ++ l) (filter-append is_line_end piece back)
    ∙ ap (λ l. line_end front ++ (l ++ line_end back)) (no_end piece each)

keeps_ends : (change : Change) → KeepsLineEnds change → (old new : List ℕ) → IsChange change old new
    → EndAlike old new
keeps_ends change keeps old new h =
    ap line_end h.old_is
    ∙ around h.front h.taken h.back (keeps.0 h.taken h.takes)
    ∙ sym (around h.front h.put h.back (keeps.1 h.put h.puts))
    ∙ sym (ap line_end h.new_is)

pub line_ends_are_kept : LineEndsAreKept
line_ends_are_kept changes old new each h =
    by_changes EndAlike (λ a. refl) (λ a b c h g. h ∙ g) KeepsLineEnds keeps_ends changes each old new h

-- The line ends of the lines of a text, by its line ends and whether it ends within a line.

abbrev alone : ℕ → List ℕ
alone b = b ∷ []

abbrev last_end : Bool → List (List ℕ)
last_end true = [] ∷ []
last_end false = []

abbrev ends_of : List ℕ → List (List ℕ)
ends_of text = map alone (line_end text) ++ last_end (ends_within_line text)

first_some : (c : ℕ) (others : List (List ℕ)) → in_first c others ≢ []
first_some c [] = λ e. cc
first_some c (line ∷ others) = λ e. cc

either_some : (t : Bool) (c : ℕ) (others : List (List ℕ))
    → cond t ((c ∷ []) ∷ others) (in_first c others) ≢ []
either_some true c others = λ e. cc
either_some false c others = first_some c others

pub some_lines : (c : ℕ) (text : List ℕ) → lines (c ∷ text) ≢ []
some_lines c text = either_some (is_line_end c) c (lines text)

opened : (b : ℕ) → is_line_end b ≡ false → (others : List (List ℕ)) → others ≢ []
    → map line_end (in_first b others) ≡ map line_end others
opened b e [] some = absurd (some refl)
opened b e (line ∷ others) some =
    ap (λ t. cond t (b ∷ line_end line) (line_end line) ∷ map line_end others) e

-- the last character
ends_of_last : (b : ℕ) (t : Bool) → is_line_end b ≡ t → map line_end (lines (b ∷ [])) ≡ ends_of (b ∷ [])
ends_of_last b true e =
    ap (λ t. map line_end (cond t ((b ∷ []) ∷ []) ((b ∷ []) ∷ []))) e
    ∙ ap (λ t. cond t (b ∷ []) [] ∷ []) e
    ∙ sym (ap (λ t. map alone (cond t (b ∷ []) []) ++ last_end (not t)) e)
ends_of_last b false e =
    ap (λ t. map line_end (cond t ((b ∷ []) ∷ []) ((b ∷ []) ∷ []))) e
    ∙ ap (λ t. cond t (b ∷ []) [] ∷ []) e
    ∙ sym (ap (λ t. map alone (cond t (b ∷ []) []) ++ last_end (not t)) e)

-- a character before others
ends_of_more : (b c : ℕ) (text : List ℕ) (t : Bool) → is_line_end b ≡ t
    → map line_end (lines (c ∷ text)) ≡ ends_of (c ∷ text)
    → map line_end (lines (b ∷ c ∷ text)) ≡ ends_of (b ∷ c ∷ text)
ends_of_more b c text true e h =
    ap (λ t. map line_end (cond t ((b ∷ []) ∷ lines (c ∷ text)) (in_first b (lines (c ∷ text))))) e
    ∙ ap (λ t. cond t (b ∷ []) [] ∷ map line_end (lines (c ∷ text))) e
    ∙ ap (λ l. alone b ∷ l) h
    ∙ sym (ap (λ t. map alone (cond t (b ∷ line_end (c ∷ text)) (line_end (c ∷ text)))
    ++ last_end (ends_within_line (c ∷ text))) e)
ends_of_more b c text false e h =
    ap (λ t. map line_end (cond t ((b ∷ []) ∷ lines (c ∷ text)) (in_first b (lines (c ∷ text))))) e
    ∙ opened b e (lines (c ∷ text)) (some_lines c text)
    ∙ h
    ∙ sym (ap (λ t. map alone (cond t (b ∷ line_end (c ∷ text)) (line_end (c ∷ text)))
    ++ last_end (ends_within_line (c ∷ text))) e)

ends_of_lines : (text : List ℕ) → map line_end (lines text) ≡ ends_of text
ends_of_lines [] = refl
ends_of_lines (b ∷ []) = ends_of_last b (is_line_end b) refl
ends_of_lines (b ∷ c ∷ text) = ends_of_more b c text (is_line_end b) refl (ends_of_lines (c ∷ text))

alike : (old new : List (List ℕ)) → map line_end old ≡ map line_end new → AllZip EndAlike old new
alike [] [] e = tt
alike [] (b ∷ new) e = cc
alike (a ∷ old) [] e = cc
alike (a ∷ old) (b ∷ new) e =
    let first : line_end a ≡ line_end b = cc in
    let others : map line_end old ≡ map line_end new = cc in
    (first, alike old new others)

alike_lines : (old new : List ℕ) → line_end old ≡ line_end new → ends_within_line old ≡ ends_within_line new
    → AllZip EndAlike (lines old) (lines new)
alike_lines old new ends last =
    alike (lines old) (lines new)
    (ends_of_lines old
    ∙ ap (λ l. map alone l ++ last_end (ends_within_line old)) ends
    ∙ ap (λ t. map alone (line_end new) ++ last_end t) last
    ∙ sym (ends_of_lines new))

pub lines_are_kept : LinesAreKept
lines_are_kept changes old new each h last = alike_lines old new (line_ends_are_kept changes old new each h) last

-- Swaps of pieces within lines: the end of the text is within a line as before.

some_of : (piece back : List ℕ) → piece ≢ [] → piece ++ back ≢ []
some_of [] back some = absurd (some refl)
some_of (b ∷ piece) back some = λ e. cc

past : (front text : List ℕ) → text ≢ [] → ends_within_line (front ++ text) ≡ ends_within_line text
past front [] some = absurd (some refl)
past [] (c ∷ text) some = refl
past (b ∷ []) (c ∷ text) some = refl
past (b ∷ d ∷ front) (c ∷ text) some = past (d ∷ front) (c ∷ text) some

-- behind a piece of one line
abbrev within_behind : List ℕ → Bool
within_behind [] = true
within_behind (c ∷ back) = ends_within_line (c ∷ back)

open_end : (piece : List ℕ) → IsWithinLine piece → piece ≢ [] → ends_within_line (piece ++ []) ≡ true
open_end [] each some = absurd (some refl)
open_end (b ∷ []) each some = ap not (All-head (λ x. is_line_end x ≡ false) b [] each)
open_end (b ∷ c ∷ piece) each some =
    open_end (c ∷ piece) (All-tail (λ x. is_line_end x ≡ false) b (c ∷ piece) each) (λ e. cc)

at_piece : (piece back : List ℕ) → IsWithinLine piece → piece ≢ []
    → ends_within_line (piece ++ back) ≡ within_behind back
at_piece piece [] each some = open_end piece each some
at_piece piece (c ∷ back) each some = past piece (c ∷ back) (λ e. cc)

in_text : (front piece back : List ℕ) → IsWithinLine piece → piece ≢ []
    → ends_within_line (front ++ (piece ++ back)) ≡ within_behind back
in_text front piece back each some =
    past front (piece ++ back) (some_of piece back some) ∙ at_piece piece back each some

abbrev pub EndTheSame : List ℕ → List ℕ → Type 0
EndTheSame old new = EndAlike old new × (ends_within_line old ≡ ends_within_line new)

swap_keeps : (change : Change) → KeepsLineEnds change × Swaps change → (old new : List ℕ) → IsChange change old new
    → EndTheSame old new
swap_keeps change h old new does = (
  keeps_ends change h.0 old new does,
  ap ends_within_line does.old_is
      ∙ in_text does.front does.taken does.back (h.0.0 does.taken does.takes)
      (h.1.0 does.taken does.takes)
      ∙ sym (in_text does.front does.put does.back (h.0.1 does.put does.puts) (h.1.1 does.put does.puts))
      ∙ sym (ap ends_within_line does.new_is),
)

pub ends_stay : (changes : List Change) → All (λ change. KeepsLineEnds change × Swaps change) changes
    → (old new : List ℕ) → Changes changes old new → EndTheSame old new
ends_stay changes each old new h =
    by_changes EndTheSame (λ a. (refl, refl)) (λ a b c h g. (h.0 ∙ g.0, h.1 ∙ g.1))
    (λ change. KeepsLineEnds change × Swaps change) swap_keeps changes each old new h

pub swaps_keep_lines : SwapsKeepLines
swaps_keep_lines changes each old new h =
    let same = ends_stay changes each old new h in alike_lines old new same.0 same.1

-- the last character says whether the text ends within a line
pub last_ends : (text : List ℕ) → 0 < length text
    → not (is_line_end (get_or text (length text - 1) 0)) ≡ ends_within_line text
last_ends [] some = absurd (omega arith)
last_ends (b ∷ []) some = refl
last_ends (b ∷ c ∷ text) some =
    let later : length (b ∷ c ∷ text) - 1 ≡ suc (length (c ∷ text) - 1) = omega arith in
    ap (λ n. not (is_line_end (get_or (b ∷ c ∷ text) n 0))) later ∙ last_ends (c ∷ text) (omega arith)
