-- What is written for a text says it.
use Rattle.std.proofs.Common.{◌≡◌, ℕ, true, false, ◌==◌, List, [], ◌∷◌, ◌++◌, length, refl, sym, ◌∙◌, arith}
use Rattle.std.proofs.lemmas.List.{append-nil}
use Rattle.std.proofs.lemmas.Grind.{common_steps}
use Rattle.teco_base.specs.declared.bytes.TheConstants.{ESC}
use Rattle.teco_source.specs.Source.{said, said_behind, spelled, has_source, has_source_behind, begins_with_dollar}
use Rattle.teco_source.specs.declared.form.EscapeForm.TheVariants.{the_data, Marked, Readable}
use Rattle.teco_source.specs.declared.form.TheConstants.{CARET, DOLLAR}

-- behind a caret no text is written that begins with a dollar
begins_so : (text : List ℕ) → has_source_behind Readable CARET text ≡ true
    → begins_with_dollar (spelled Readable text) ≡ false
begins_so [] has = refl
begins_so (d ∷ text) has = grind (arith, common_steps)

marked : (mark before other : ℕ) (text : List ℕ) → has_source_behind (Marked mark) before text ≡ true
    → said_behind (Marked mark) other (spelled (Marked mark) text) ≡ text
marked mark before other [] has = refl
marked mark before other (c ∷ text) has = grind (arith, common_steps, marked mark c mark text, marked mark c c text)

readable : (before other : ℕ) (text : List ℕ) → (other == CARET) ≡ (before == CARET)
    → has_source_behind Readable before text ≡ true
    → said_behind Readable other (spelled Readable text) ≡ text
readable before other [] same has = refl
readable before other (c ∷ text) same has =
    grind (
      arith,
      common_steps,
      begins_so text,
      readable ESC DOLLAR text refl,
      readable c DOLLAR text,
      readable c c text refl,
    )

pub said_spelled : (form : the_data) (text : List ℕ) → has_source form text ≡ true
    → said form (spelled form text) ≡ text
said_spelled (Marked mark) text has = marked mark 0 0 text has
said_spelled Readable text has = readable 0 0 text refl has

-- what was written says the text, where nothing is left
pub written_says : (form : the_data) (before : ℕ) (written rest text : List ℕ) → length rest ≡ 0
    → written ++ spelled form rest ≡ spelled form text → has_source_behind form before rest ≡ has_source form text
    → said form written ≡ text
written_says form before written [] text none whole has =
    rw (sym (append-nil written) ∙ whole) (said_spelled form text (sym has))
written_says form before written (c ∷ rest) text none whole has = absurd (omega arith)
