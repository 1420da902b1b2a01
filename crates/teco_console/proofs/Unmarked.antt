-- A text in which the byte ESC says ESC says itself.
use Rattle.std.proofs.Common.{◌≡◌, ◌∙◌, ap, arith, refl, ℕ, List, [], ◌∷◌, if◌then◌else◌, ◌==◌}
use Rattle.std.proofs.lemmas.Grind.{common_steps}
use Rattle.teco_base.specs.declared.bytes.TheConstants.{ESC}
use Rattle.teco_source.specs.Source.{said, said_behind}
use Rattle.teco_source.specs.declared.form.EscapeForm.TheVariants.{Marked}

same_byte : (c : ℕ) → (if c == ESC then ESC else c) ≡ c
same_byte c = grind (arith, common_steps)

said_itself : (before : ℕ) (text : List ℕ) → said_behind (Marked ESC) before text ≡ text
said_itself before [] = refl
said_itself before (c ∷ text) =
    ap (λ b. b ∷ said_behind (Marked ESC) c text) (same_byte c) ∙ ap (λ rest. c ∷ rest) (said_itself c text)

pub says_itself : (text : List ℕ) → said (Marked ESC) text ≡ text
says_itself text = said_itself 0 text
