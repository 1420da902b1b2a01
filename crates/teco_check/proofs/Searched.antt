-- A minimum is no longer than its text.
use Rattle.teco_check.proofs.Prelude.{◌≡◌, refl, ℕ, zero, suc, ◌+◌, ◌≤◌, List, [], ◌∷◌, length, Some, None, Result, Ok}
use Rattle.teco_check.proofs.Prelude.{Err, arith}
use Rattle.std.specs.Prelude.{fold}
use Rattle.teco_base.specs.declared.code.Code.{Code}
use Rattle.teco_model.specs.Checked.{◌>>=◌}
use Rattle.teco_model.specs.Pattern as model
use Rattle.teco_model.specs.declared.pattern.Part.{Part}
use Rattle.teco_model.specs.declared.pattern.Part.TheVariants as part

folded_none : (ps : List Part) → fold model.with_part None ps ≡ None
folded_none [] = refl
folded_none (part.Item i ∷ ps) = folded_none ps
folded_none (part.Register r ∷ ps) = folded_none ps

folded : (ps : List Part) (k v : ℕ) → fold model.with_part (Some k) ps ≡ Some v → v ≤ k + length ps
folded [] k v h = let e : k ≡ v = (cc) in omega arith
folded (part.Item i ∷ ps) k v h = let more = folded ps (k + 1) v h in omega arith
folded (part.Register r ∷ ps) k v h = let none = folded_none ps in absurd (cc)

-- each part takes a byte
few : (most : ℕ) (text : List ℕ) (ps : List Part) → model.parts_within most text ≡ Ok ps → length ps ≤ most
unfolding model.parts_within
few zero text ps h = let e : [] ≡ ps = (cc) in rw (← e) (omega arith)
few (suc most) [] ps h = let e : [] ≡ ps = (cc) in rw (← e) (omega arith)
few (suc most) (b ∷ text) ps h = first_of_all (λ rest qs. few most rest qs) (model.part_at (b ∷ text)) h
  where
    others_too : ((rest : List ℕ) (qs : List Part) → model.parts_within most rest ≡ Ok qs → length qs ≤ most)
        → (p : Part × List ℕ) (others : Result (List Part) Code) → model.parts_within most p.1 ≡ others
        → (others >>= (λ rest. Ok (p.0 ∷ rest))) ≡ Ok ps → length ps ≤ suc most
    others_too fewer p (Err c) e g = absurd (cc)
    others_too fewer p (Ok rest) e g = let is : p.0 ∷ rest ≡ ps = (cc) in let less = fewer p.1 rest e in
        rw (← is) (omega arith)

    first_of_all : ((rest : List ℕ) (qs : List Part) → model.parts_within most rest ≡ Ok qs → length qs ≤ most)
        → (first : Result (Part × List ℕ) Code)
        → (first >>= (λ p. model.parts_within most p.1 >>= (λ rest. Ok (p.0 ∷ rest)))) ≡ Ok ps → length ps ≤ suc most
    first_of_all fewer (Err c) g = absurd (cc)
    first_of_all fewer (Ok p) g = others_too fewer p (model.parts_within most p.1) refl g

pub minimum_within : (text : List ℕ) (v : ℕ) → model.minimum text ≡ Ok (Some v) → v ≤ length text
unfolding model.parts
minimum_within text v h = by_parts (model.parts_within (length text) text) refl h
  where
    by_parts : (read : Result (List Part) Code) → model.parts_within (length text) text ≡ read
        → (read >>= (λ ps. Ok (fold model.with_part (Some 0) ps))) ≡ Ok (Some v) → v ≤ length text
    by_parts (Err c) e g = absurd (cc)
    by_parts (Ok ps) e g =
        let is : fold model.with_part (Some 0) ps ≡ Some v = (cc) in
        omega (arith, folded ps 0 v is, few (length text) text ps e)
