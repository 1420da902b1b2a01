-- Of cases those that may be.
use Rattle.teco_paths.proofs.Prelude.{◌≡◌, ◌⊎◌, inl, inr, arith, List, [], ◌∷◌, ◌++◌, length, Any, Case, Describes}
use Rattle.teco_paths.proofs.Prelude.{ArePossible, AreSifted, IsImpossible}
use Rattle.teco_paths.proofs.Keeping.{any_one, any_split}
use Rattle.teco_paths.proofs.Lists.{any_back, any_front}

pub sifted_first : (cases : List Case) → AreSifted cases cases []
sifted_first cases n s any = inl any

pub sifted_last : (cases rest found : List Case) → length rest ≡ 0 → AreSifted cases rest found
    → ArePossible cases found
sifted_last cases rest found none sifted n s any = by (sifted n s any)
  where
    by : Any (λ c. Describes n c s) rest ⊎ Any (λ c. Describes n c s) found → Any (λ c. Describes n c s) found
    by (inl a) = absurd (omega (arith, a.2, none))
    by (inr a) = a

module _ (cases rest : List Case) (case : Case) (found : List Case)
    (sifted : AreSifted cases (rest ++ case ∷ []) found) where
  pub one_less : IsImpossible case → AreSifted cases rest found
  one_less none n s any = by (sifted n s any)
    where
      Is : Case → Type 0
      Is c = Describes n c s

      split : Any Is rest ⊎ Is case → Any Is rest ⊎ Any Is found
      split (inl a) = inl a
      split (inr d) = absurd (none n s d)

      by : Any Is (rest ++ case ∷ []) ⊎ Any Is found → Any Is rest ⊎ Any Is found
      by (inl a) = split (any_split Is rest case a)
      by (inr a) = inr a

  pub one_found : AreSifted cases rest (found ++ case ∷ [])
  one_found n s any = by (sifted n s any)
    where
      Is : Case → Type 0
      Is c = Describes n c s

      split : Any Is rest ⊎ Is case → Any Is rest ⊎ Any Is (found ++ case ∷ [])
      split (inl a) = inl a
      split (inr d) = inr (any_back Is found (case ∷ []) (any_one Is case d))

      by : Any Is (rest ++ case ∷ []) ⊎ Any Is found → Any Is rest ⊎ Any Is (found ++ case ∷ [])
      by (inl a) = split (any_split Is rest case a)
      by (inr a) = inr (any_front Is found (case ∷ []) a)
