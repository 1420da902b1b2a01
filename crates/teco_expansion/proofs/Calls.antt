-- The table of command strings has them.
use Rattle.teco_expansion.proofs.Prelude.{◌≡◌, refl, ℕ, zero, suc, ◌*◌, ◌<◌, List, take, drop, Bool, true, false}
use Rattle.teco_expansion.proofs.Prelude.{bytes_eq, ◌&&◌, ⊎_elim, sym, ap, ◌∙◌, ◌≤◌, [], ◌∷◌, map, length, Option, None}
use Rattle.teco_expansion.proofs.Prelude.{arith, option_copied, macro, cases_lt, bytes_eq-Decides}
use Rattle.std.proofs.Common.{codes, Bor}
use Rattle.std.proofs.Common.{slice_index_or}
use Rattle.teco_model.specs.Macros.{call_of}
use Rattle.teco_base.specs.declared.TheConstants.{REGISTERS}

abbrev pub calls : List ℕ
calls = codes "MAMBMCMDMEMFMGMHMIMJMKMLMMMNMOMPMQMRMSMTMUMVMWMXMYMZM0M1M2M3M4M5M6M7M8M9"

abbrev has_call : ℕ → Bool
has_call r = bytes_eq (take 2 (drop (2 * r) calls)) (call_of r)

abbrev have_calls : ℕ → Bool
have_calls zero = true
have_calls (suc n) = has_call n && have_calls n

both : (a b : Bool) → (a && b) ≡ true → (a ≡ true) × (b ≡ true)
both true b h = (refl, h)
both false b h = absurd (cc)

has_call_below : (n r : ℕ) → have_calls n ≡ true → r < n → has_call r ≡ true
has_call_below zero r h l = absurd (omega arith)
has_call_below (suc n) r h l =
    let two = both (has_call n) (have_calls n) h in
    ⊎_elim (λ (k : r < n). has_call_below n r two.1 k) (λ (k : n ≤ r). let e : n ≡ r = omega arith in
    ap has_call (sym e) ∙ two.0) (cases_lt r n)

pub call_in_table : (r : ℕ) → r < REGISTERS → take 2 (drop (2 * r) calls) ≡ call_of r
call_in_table r l = (bytes_eq-Decides (take 2 (drop (2 * r) calls)) (call_of r)).0 (has_call_below REGISTERS r refl l)

-- there are no more registers
beyond : {X Y : Type 0} (f : X → Option Y) (xs : List X) (r : ℕ) → length xs ≤ r
    → slice_index_or (map f xs) r None ≡ None
beyond f [] r h = refl
beyond f (x ∷ xs) zero h = absurd (omega (arith, h))
beyond f (x ∷ xs) (suc r) h = beyond f xs r (omega (arith, h))

pub no_macro : (texts : List (Option (Bor (List ℕ)))) (r : ℕ) → length texts ≤ r
    → macro (map option_copied texts) r ≡ None
no_macro texts r h = beyond option_copied texts r h

pub macro_at : (texts : List (Option (Bor (List ℕ)))) (r : ℕ) → r < length texts
    → option_copied (slice_index_or texts r None) ≡ macro (map option_copied texts) r
macro_at [] r h = absurd (omega (arith, h))
macro_at (x ∷ xs) zero h = refl
macro_at (x ∷ xs) (suc r) h = macro_at xs r (omega (arith, h))
