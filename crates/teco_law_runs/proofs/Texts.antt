-- What is done with registers, and the texts of a library.
use Rattle.teco_law_runs.proofs.Prelude.{◌≡◌, ℕ, zero, suc, ◌≤◌, List, [], ◌∷◌, map, length, true, false, Option}
use Rattle.teco_law_runs.proofs.Prelude.{Some, None, refl, sym, ap, ◌∙◌, arith, pair_of, Kept, Library, macro}
use Rattle.teco_law_runs.proofs.Prelude.{is_macro, IsLoaded, Keeps}
use Rattle.std.proofs.Common.{slice_set, slice_index_or}
use Rattle.std.specs.Option.{is_some}
use Rattle.std.specs.Prelude.{Bool, ◌≢◌, zip, ℤ}
use Rattle.teco_model.specs.Registers.{Pair, empty_pair, with_pair, with_number, with_own_text}
use Rattle.teco_law_runs.specs.Loaded.{LoadingLoads}

-- where one pair is set, the others stay
pair_after : (pairs : List Pair) (i j : ℕ) (p d : Pair) → (i ≡ j → ⊥)
    → slice_index_or (slice_set pairs i p) j d ≡ slice_index_or pairs j d
pair_after [] i j p d apart = refl
pair_after (x ∷ pairs) zero zero p d apart = absurd (apart refl)
pair_after (x ∷ pairs) zero (suc j) p d apart = refl
pair_after (x ∷ pairs) (suc i) zero p d apart = refl
pair_after (x ∷ pairs) (suc i) (suc j) p d apart = pair_after pairs i j p d (λ e. apart (ap suc e))

-- and the one has the text that is put there
text_after : (pairs : List Pair) (i j : ℕ) (p d : Pair) → (i ≡ j → p.text ≡ (slice_index_or pairs j d).text)
    → (slice_index_or (slice_set pairs i p) j d).text ≡ (slice_index_or pairs j d).text
text_after [] i j p d h = refl
text_after (x ∷ pairs) zero zero p d h = h refl
text_after (x ∷ pairs) zero (suc j) p d h = refl
text_after (x ∷ pairs) (suc i) zero p d h = refl
text_after (x ∷ pairs) (suc i) (suc j) p d h = text_after pairs i j p d (λ e. h (ap suc e))

module _ (named wrote : Option ℕ) (modes : Bool) (r : ℕ) (named_is : Some r ≡ named) (old : Kept) where
  other : (q : ℕ) → named ≢ Some q → r ≡ q → ⊥
  other q apart e = apart (sym named_is ∙ ap Some e)

  -- another number
  pub keeps_number : (n : ℤ) → Keeps named wrote modes old (record old { registers = with_number r n old.registers })
  keeps_number n = record {
    pairs = λ q apart. pair_after old.registers.pairs r q (record (pair_of r old.registers) { number = n }) empty_pair
        (other q apart);
    texts = λ q apart. text_after old.registers.pairs r q (record (pair_of r old.registers) { number = n }) empty_pair
        (λ e. ap (λ q. (pair_of q old.registers).text) e);
    mode = λ e. refl;
  }

  -- another pair
  pub keeps_other : (p : Pair) → Some r ≡ wrote
      → Keeps named wrote modes old (record old { registers = with_pair r p old.registers })
  keeps_other p wrote_is = record {
    pairs = λ q apart. pair_after old.registers.pairs r q p empty_pair (other q apart);
    texts = λ q apart. ap (λ (p : Pair). p.text)
        (pair_after old.registers.pairs r q p empty_pair (λ e. apart (sym wrote_is ∙ ap Some e)));
    mode = λ e. refl;
  }

-- the register that is set is none of the library
pub apart : {P : Type 0} (library : Library) (r q : ℕ) (text : List ℕ) → is_macro library r ≡ false
    → macro library q ≡ Some text → r ≡ q → P
apart library r q text h m e =
    let is : is_macro library r ≡ true = ap (is_macro library) e ∙ ap is_some m in
    let z : true ≡ false = sym is ∙ h in absurd (cc)

pub still_loaded : (library : Library) (old new : Kept) → IsLoaded library old
    → ((r : ℕ) (text : List ℕ) → macro library r ≡ Some text
    → (pair_of r new.registers).text ≡ (pair_of r old.registers).text)
    → IsLoaded library new
still_loaded library old new l k = record { holds = λ r text m. k r text m ∙ l.holds r text m }

-- loading
loaded_text : (library : List (Option (List ℕ))) (pairs : List Pair) (r : ℕ) (text : List ℕ)
    → length library ≤ length pairs → slice_index_or library r None ≡ Some text →
    (slice_index_or (map (λ own. with_own_text own.0 own.1) (zip library pairs)) r empty_pair).text ≡ text
loaded_text (Some own ∷ library) (p ∷ pairs) zero text l h = let e : own ≡ text = cc in e
loaded_text (own ∷ library) (p ∷ pairs) (suc r) text l h = loaded_text library pairs r text (omega (arith, l)) h
loaded_text library pairs r text l h = absurd (grind arith)

pub loading_loads : LoadingLoads
loading_loads library kept l = record { holds = λ r text m. loaded_text library kept.registers.pairs r text l m }
