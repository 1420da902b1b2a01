-- A number is written with digits and a minus.
use Rattle.std.proofs.Common.{ℕ, ℤ, pos, negsuc, zero, suc, ◌+◌, ◌%◌, ◌<◌, ◌^◌, [], ◌∷◌, refl}
use Rattle.std.proofs.Common.{arith}
use Rattle.std.proofs.lemmas.Fmt.{decimal_by_steps}
use Rattle.std.proofs.lemmas.List.Elements.{All-append, All-cons, All-nil}
use Rattle.std.specs.List.{list_any}
use Rattle.std.specs.Prelude.{◌==◌, IsTrue, nat_abs}
use Rattle.std.specs.Fmt.{decimal as unsigned, signed_decimal}
use Rattle.teco_changes.specs.Changes.{AreOneOf, numeral}
use Rattle.teco_changes.specs.Told.{QueriesAreTold}
use Rattle.teco_changes.specs.declared.change.Change.TheVariants as change
use Rattle.teco_changes.proofs.Elements.{no_change, put_in}
use Rattle.teco_changes.proofs.Unchanged.{same_text}
use Rattle.teco_model.specs.declared.kind.Query.TheVariants as query

abbrev IsOfNumeral : ℕ → Type 0
IsOfNumeral b = IsTrue (list_any (λ c. c == b) numeral)

digit : (n : ℕ) → n < 10 → IsOfNumeral (48 + n)
digit zero few = refl
digit (suc zero) few = refl
digit (suc (suc zero)) few = refl
digit (suc (suc (suc zero))) few = refl
digit (suc (suc (suc (suc zero)))) few = refl
digit (suc (suc (suc (suc (suc zero))))) few = refl
digit (suc (suc (suc (suc (suc (suc zero)))))) few = refl
digit (suc (suc (suc (suc (suc (suc (suc zero))))))) few = refl
digit (suc (suc (suc (suc (suc (suc (suc (suc zero)))))))) few = refl
digit (suc (suc (suc (suc (suc (suc (suc (suc (suc zero))))))))) few = refl
digit (suc (suc (suc (suc (suc (suc (suc (suc (suc (suc n)))))))))) few = absurd (omega arith)

alone : (n : ℕ) → n < 10 → AreOneOf numeral ((48 + n) ∷ [])
alone n few =
    All-cons IsOfNumeral (48 + n) [] (digit n few) (All-nil IsOfNumeral)

digits_are : (n : ℕ) → n < 2 ^ 64 → AreOneOf numeral (unsigned n)
digits_are n small =
    decimal_by_steps (λ m ds. AreOneOf numeral ds) alone
    (λ m ds large h.
    All-append IsOfNumeral ds ((48 + m % 10) ∷ []) h (alone (m % 10) (omega arith)))
    n small

number_is : (n : ℤ) → nat_abs n < 2 ^ 64 → AreOneOf numeral (signed_decimal n)
number_is (pos n) small = digits_are n small
number_is (negsuc n) small =
    All-cons IsOfNumeral 45 (unsigned (suc n)) refl (digits_are (suc n) small)

pub queries_are_told : QueriesAreTold
queries_are_told (query.Number r) n kept effect small h = no_change [] kept.text effect.kept.text (same_text _ effect h)
queries_are_told query.Mode n kept effect small h = no_change [] kept.text effect.kept.text (same_text _ effect h)
queries_are_told query.Conversion n kept effect small h =
    put_in change.PutsNumber (signed_decimal n) refl (number_is n small) kept effect h
