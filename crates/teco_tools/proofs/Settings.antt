-- Texts for some registers, and none for the others; and machines that are given them.
use Rattle.std.proofs.Common.{subst, ◌≡◌, ◌≤◌, ℕ, zero, suc, List, ◌∷◌, length, Option, None, Some, replicate, set}
use Rattle.std.proofs.Common.{ap, refl, ◌∙◌, ◌+◌, ◌<◌, drop, option_copied, get_or, sym, arith}
use Rattle.std.proofs.Math.Seq.{drop-cons}
use Rattle.std.proofs.lemmas.List.{map-set}
use Rattle.std.proofs.lemmas.List.Elements.{All-replicate, All-set}
use Rattle.std.proofs.lemmas.Option.{same_Some}
use Rattle.std.specs.Borrow.{Bor}
use Rattle.std.specs.List.{All}
use Rattle.teco_base.specs.declared.TheConstants.{LIMIT, REGISTERS}
use Rattle.teco_console.specs.Settings.{GivenText}
use Rattle.teco_regs.specs.Texts.{IsTextWithinLimit, handed}
use Rattle.teco_run.specs.Holdings.{Holdings}
use Rattle.teco_tools.specs.Starts.{only, with_settings}
use Rattle.teco_model.specs.Registers.{with_texts}

none_is_within : IsTextWithinLimit None
none_is_within text e = absurd (cc)

pub no_text : (n : ℕ) → All IsTextWithinLimit (replicate n None)
no_text n = All-replicate IsTextWithinLimit n None none_is_within

some_is_within : (text : Bor (List ℕ)) → length text.now ≤ LIMIT → IsTextWithinLimit (Some text)
some_is_within text within shown e = subst (λ it. length it.now ≤ LIMIT) (same_Some text shown e) within

pub one_more : (texts : List (Option (Bor (List ℕ)))) (place : ℕ) (text : Bor (List ℕ)) → All IsTextWithinLimit texts
    → length text.now ≤ LIMIT → All IsTextWithinLimit (set texts place (Some text))
one_more texts place text all within =
    All-set IsTextWithinLimit texts place (Some text) (some_is_within text within) all

none_handed : (n : ℕ) → handed (replicate n None) ≡ replicate n None
none_handed zero = refl
none_handed (suc n) = ap (λ texts. None ∷ texts) (none_handed n)

-- the texts that are handed in for one register
pub handed_only : (setting : GivenText) (none texts : List (Option (Bor (List ℕ)))) (register : ℕ) (text : Bor (List ℕ))
    → none ≡ replicate REGISTERS None → register ≡ setting.register → text.now ≡ setting.text
    → texts ≡ set none register (Some text) → handed texts ≡ only setting
handed_only setting none texts register text bare at says is =
    rw (is, bare, at, ← says) (
    map-set option_copied (replicate REGISTERS None) setting.register (Some text)
    ∙ ap (λ them. set them setting.register (Some text.now)) (none_handed REGISTERS)
    )

pub next_of : (settings : List GivenText) (place : ℕ) (setting : GivenText) → place < length settings
    → setting ≡ get_or settings place setting → drop place settings ≡ setting ∷ drop (place + 1) settings
next_of settings place setting within is =
    let one_more_place : suc place ≡ place + 1 = omega arith in
    drop-cons settings place setting within ∙ ap (λ it. it ∷ drop (suc place) settings) (sym is)
    ∙ ap (λ k. setting ∷ drop k settings) one_more_place

-- a machine that is given the next text is given those that are left then
pub given_more : (settings : List GivenText) (place : ℕ) (setting : GivenText) (old new : Holdings)
    → drop place settings ≡ setting ∷ drop (place + 1) settings
    → new ≡ record old { kept = record old.kept { registers = with_texts (only setting) old.kept.registers } }
    → record new { kept = with_settings (drop (place + 1) settings) new.kept }
    ≡ record old { kept = with_settings (drop place settings) old.kept }
given_more settings place setting old new front is = rw (is, front) refl
