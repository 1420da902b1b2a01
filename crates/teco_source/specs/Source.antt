-- What a source says: the text that is meant, in which ESC is the byte ESC.
use Rattle.std.specs.Prelude.{◌≡◌, ℕ, zero, suc, Bool, true, false, ◌&&◌, ◌||◌, ◌==◌, not, if◌then◌else◌, List, []}
use Rattle.std.specs.Prelude.{◌∷◌, ◌++◌, Option, Some, None}
use Rattle.teco_base.specs.declared.bytes.TheConstants.{ESC}
use Rattle.teco_source.specs.declared.form.EscapeForm.TheVariants.{the_data, Marked, Readable}
use Rattle.teco_source.specs.declared.form.TheConstants.{CARET, DOLLAR}

-- a dollar comes next
abbrev pub begins_with_dollar : List ℕ → Bool
begins_with_dollar [] = false
begins_with_dollar (c ∷ source) = c == DOLLAR

-- What a byte says, by the one before it and those behind it. In the marked form the mark says ESC. In the readable
-- form a dollar says ESC, but behind a caret a dollar, and that caret says nothing.
abbrev pub said_by : the_data → ℕ → ℕ → List ℕ → Option ℕ
said_by (Marked mark) before c behind = Some (if c == mark then ESC else c)
said_by Readable before c behind =
    if c == CARET && begins_with_dollar behind then None
    else (if c == DOLLAR && not (before == CARET) then Some ESC else Some c)

-- what is said, if anything, and what is said behind it
abbrev pub saying : Option ℕ → List ℕ → List ℕ
saying None text = text
saying (Some c) text = c ∷ text

abbrev pub said_behind : the_data → ℕ → List ℕ → List ℕ
said_behind form before [] = []
said_behind form before (c ∷ source) = saying (said_by form before c source) (said_behind form c source)

-- the text that a source says: before its first byte there is no caret
abbrev pub said : the_data → List ℕ → List ℕ
said form source = said_behind form 0 source

-- how a byte of a text is written
abbrev pub spelling : the_data → ℕ → List ℕ
spelling (Marked mark) c = (if c == ESC then mark else c) ∷ []
spelling Readable c = if c == ESC then DOLLAR ∷ [] else (if c == DOLLAR then CARET ∷ DOLLAR ∷ [] else c ∷ [])

abbrev pub spelled : the_data → List ℕ → List ℕ
spelled form [] = []
spelled form (c ∷ text) = spelling form c ++ spelled form text

-- No source says a mark, which would say ESC, and no readable one ESC right behind a caret: that dollar would be a
-- dollar.
abbrev pub can_say : the_data → ℕ → ℕ → Bool
can_say (Marked mark) before c = not (c == mark) || mark == ESC
can_say Readable before c = not (c == ESC) || not (before == CARET)

abbrev pub has_source_behind : the_data → ℕ → List ℕ → Bool
has_source_behind form before [] = true
has_source_behind form before (c ∷ text) = can_say form before c && has_source_behind form c text

-- whether a source says a text
abbrev pub has_source : the_data → List ℕ → Bool
has_source form text = has_source_behind form 0 text

-- where in a source the byte stands that says a place of its text: behind it where it says no such byte
abbrev pub place_there : Option ℕ → (ℕ → ℕ) → ℕ → ℕ
place_there None further place = suc (further place)
place_there (Some said) further zero = 0
place_there (Some said) further (suc place) = suc (further place)

abbrev pub place_behind : the_data → ℕ → List ℕ → ℕ → ℕ
place_behind form before [] place = 0
place_behind form before (c ∷ source) place =
    place_there (said_by form before c source) (place_behind form c source) place

abbrev pub place_in : the_data → List ℕ → ℕ → ℕ
place_in form source place = place_behind form 0 source place

-- a text that has a source is said by the one that is written for it
abbrev pub SourcesSay : Type 0
SourcesSay = (form : the_data) (text : List ℕ) → has_source form text ≡ true
    → said form (spelled form text) ≡ text
