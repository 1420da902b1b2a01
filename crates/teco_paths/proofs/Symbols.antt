-- Places and their measures.
use Rattle.teco_paths.proofs.Prelude.{◌≡◌, ℕ, zero, suc, ◌+◌, ◌-◌, ◌*◌, ◌/◌, ◌%◌, ◌<◌, ◌≤◌, refl, ap, ◌∙◌, arith, List}
use Rattle.teco_paths.proofs.Prelude.{[], ◌∷◌, Bool, true, false, Option, Some, None, nat_lt, if◌then◌else◌, ℤ, pos}
use Rattle.teco_paths.proofs.Prelude.{◌+ℤ◌, ◌*ℤ◌, is_some, unwrap_or, ltb-true, ltb-false, Term, Valuation, value}
use Rattle.teco_paths.proofs.Prelude.{Pointer, Size, LineEnd, Typed, EntryHeld, Family, Number, Length, Turns}
use Rattle.teco_paths.proofs.Prelude.{PushedNumber}
use Rattle.teco_paths.proofs.Prelude.{PushedLength, First, Value, Measure, One, Each, place, Point, measures_of}
use Rattle.teco_paths.proofs.Prelude.{single_of, family_of, measure_of, numbers_of}
use Rattle.std.specs.Prelude.{◌^◌, slice_index_or}
use Rattle.teco_linear.specs.Form.{symbol_value, term_value}
use Rattle.teco_rows.specs.declared.measure.Single.TheVariants.{Steps, Held, LineStart}
use Rattle.teco_rows.specs.declared.measure.Single.TheVariants.{LastLength, CodeHere, CodeBefore}
use Rattle.teco_rows.specs.Measures.{single_code, family_code}

single_again : (k : ℕ) → k < 11 → single_code (single_of k) ≡ k
single_again zero l = refl
single_again (suc zero) l = refl
single_again (suc (suc zero)) l = refl
single_again (suc (suc (suc zero))) l = refl
single_again (suc (suc (suc (suc zero)))) l = refl
single_again (suc (suc (suc (suc (suc zero))))) l = refl
single_again (suc (suc (suc (suc (suc (suc zero)))))) l = refl
single_again (suc (suc (suc (suc (suc (suc (suc zero))))))) l = refl
single_again (suc (suc (suc (suc (suc (suc (suc (suc zero)))))))) l = refl
single_again (suc (suc (suc (suc (suc (suc (suc (suc (suc zero))))))))) l = refl
single_again (suc (suc (suc (suc (suc (suc (suc (suc (suc (suc zero)))))))))) l = refl
single_again (suc (suc (suc (suc (suc (suc (suc (suc (suc (suc (suc k))))))))))) l = absurd (omega (arith, l))

family_again : (k : ℕ) → k < 7 → family_code (family_of k) ≡ k
family_again zero l = refl
family_again (suc zero) l = refl
family_again (suc (suc zero)) l = refl
family_again (suc (suc (suc zero))) l = refl
family_again (suc (suc (suc (suc zero)))) l = refl
family_again (suc (suc (suc (suc (suc zero))))) l = refl
family_again (suc (suc (suc (suc (suc (suc zero)))))) l = refl
family_again (suc (suc (suc (suc (suc (suc (suc k))))))) l = absurd (omega (arith, l))

-- each place has its measure
pub place_again : (k : ℕ) → place (measure_of k) ≡ k
place_again k = among (nat_lt k 11) refl
  where
    among : (b : Bool) → nat_lt k 11 ≡ b
        → place (if b then One (single_of k) else Each (family_of ((k - 11) % 7)) ((k - 11) / 7)) ≡ k
    among true l = single_again k (ltb-true k 11 l)
    among false l =
        let most : 11 ≤ k = ltb-false k 11 l in
        let code : family_code (family_of ((k - 11) % 7)) ≡ (k - 11) % 7 = family_again ((k - 11) % 7) (omega arith) in
        ap (λ c. 11 + 7 * ((k - 11) / 7) + c) code ∙ omega (arith, most)

family_fits : (f : Family) → (family_code f < 7) × (family_of (family_code f) ≡ f)
family_fits Number = (omega arith, refl)
family_fits Length = (omega arith, refl)
family_fits Turns = (omega arith, refl)
family_fits PushedNumber = (omega arith, refl)
family_fits PushedLength = (omega arith, refl)
family_fits First = (omega arith, refl)
family_fits Value = (omega arith, refl)

each_again : (f : Family) (i k : ℕ) → k ≡ 11 + 7 * i + family_code f → measure_of k ≡ Each f i
each_again f i k e = among (nat_lt k 11) refl
  where
    among : (b : Bool) → nat_lt k 11 ≡ b
        → (if b then One (single_of k) else Each (family_of ((k - 11) % 7)) ((k - 11) / 7)) ≡ Each f i
    among true l = absurd (omega (arith, ltb-true k 11 l, e))
    among false l =
        let fits = family_fits f in
        let code : (k - 11) % 7 ≡ family_code f = omega (arith, fits.0, e) in
        let index : (k - 11) / 7 ≡ i = omega (arith, fits.0, e) in
        ap (λ c. Each (family_of c) ((k - 11) / 7)) code ∙ ap (λ g. Each g ((k - 11) / 7)) fits.1
        ∙ ap (λ j. Each f j) index

-- and each measure its place
pub measure_again : (m : Measure) → measure_of (place m) ≡ m
measure_again (One Steps) = refl
measure_again (One Pointer) = refl
measure_again (One Size) = refl
measure_again (One Held) = refl
measure_again (One LineEnd) = refl
measure_again (One LineStart) = refl
measure_again (One LastLength) = refl
measure_again (One CodeHere) = refl
measure_again (One CodeBefore) = refl
measure_again (One Typed) = refl
measure_again (One EntryHeld) = refl
measure_again (Each f i) = each_again f i (11 + 7 * i + family_code f) refl

-- what is there where it is marked
by_mark : (o : Option ℤ) (b : Bool) → is_some o ≡ b → (if b then Some (unwrap_or o (pos 0)) else None) ≡ o
by_mark None true h = absurd (cc)
by_mark None false h = refl
by_mark (Some x) true h = refl
by_mark (Some x) false h = absurd (cc)

pub marked : (present : List Bool) (s : Point) (m : Measure)
    → is_some (measures_of s m) ≡ slice_index_or present (place m) false
    → (if slice_index_or present (place m) false then Some (numbers_of s (place m)) else None) ≡ measures_of s m
marked present s m h =
    ap (λ o. if slice_index_or present (place m) false then Some (unwrap_or (measures_of s o) (pos 0)) else None)
    (measure_again m)
    ∙ by_mark (measures_of s m) (slice_index_or present (place m) false) h

-- a form has one value where the symbols have the same
symbol_same : (o : Option ℕ) (v w : Valuation) → ((k : ℕ) → v k ≡ w k) → symbol_value v o ≡ symbol_value w o
symbol_same None v w h = refl
symbol_same (Some k) v w h = h k

pub value_same : (form : List Term) (n : ℕ) (v w : Valuation) → ((k : ℕ) → v k ≡ w k) → value form n v ≡ value form n w
value_same [] n v w h = refl
value_same (t ∷ form) n v w h =
    ap (λ x. t.coefficient *ℤ (pos (n ^ t.power) *ℤ x) +ℤ value form n v) (symbol_same t.symbol v w h)
    ∙ ap (λ y. term_value t n w +ℤ y) (value_same form n v w h)
