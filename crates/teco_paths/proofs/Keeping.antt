-- The cases behind a node, one by one.
use Rattle.teco_paths.proofs.Prelude.{◌≡◌, ◌⊎◌, inl, inr, ℕ, zero, suc, refl, sym, subst, arith, List, [], ◌∷◌, ◌++◌}
use Rattle.teco_paths.proofs.Prelude.{length, Bool, true, false, Any, Case, NodeCase, Outcomes, point_of, Describes}
use Rattle.teco_paths.proofs.Prelude.{AreLeft, ArePossible, AreSpots, IsTarget, IsThere, Steps, cases_by, Node}
use Rattle.teco_paths.specs.Steps.{AreKept}
use Rattle.teco_paths.proofs.Lists.{any_back, any_front}

-- one of the first, or the last
pub any_split : {X : Type 0} (P : X → Type 0) (xs : List X) (y : X) → Any P (xs ++ y ∷ []) → Any P xs ⊎ P y
any_split P [] y (zero, x, l, e, p) = inr (subst P (sym e) p)
any_split P [] y (suc k, x, l, e, p) = absurd (omega (arith, l))
any_split P (z ∷ xs) y (zero, x, l, e, p) = inl (0, x, omega arith, e, p)
any_split P (z ∷ xs) y (suc k, x, l, e, p) = by (any_split P xs y (k, x, omega (arith, l), e, p))
  where
    by : Any P xs ⊎ P y → Any P (z ∷ xs) ⊎ P y
    by (inl a) = inl (suc a.0, a.1, omega (arith, a.2), a.3, a.4)
    by (inr p) = inr p

pub any_one : {X : Type 0} (P : X → Type 0) (x : X) → P x → Any P (x ∷ [])
any_one P x p = (0, x, omega arith, refl, p)

pub left_first : (nodes : List Node) (number : ℕ) (away : Bool) (cases : List Case)
    → AreLeft nodes number away cases cases []
left_first nodes number away cases ground steps s t st any = inl any

pub left_none : (nodes : List Node) (number : ℕ) (away : Bool) (cases rest : List Case) (spots : List NodeCase)
    → length rest ≡ 0 → AreLeft nodes number away cases rest spots → AreKept nodes number away cases spots
left_none nodes number away cases rest spots none left ground steps s t st any = by (left ground steps s t st any)
  where
    by : Any (λ c. Describes ground.n c (point_of steps ground.origin t)) rest
        ⊎ Any (IsThere nodes ground steps t) spots
        → Any (IsThere nodes ground steps t) spots
    by (inl a) = absurd (omega (arith, a.2, none))
    by (inr a) = a

module _ (nodes : List Node) (number : ℕ) (away : Bool) (cases rest : List Case) (case : Case) (spots : List NodeCase)
    (left : AreLeft nodes number away cases (rest ++ case ∷ []) spots) (target : ℕ)
    (is : IsTarget nodes number away case target) where
  abbrev spot : NodeCase
  spot = record { number = target; case = case }

  pub one_kept : AreLeft nodes number away cases rest (spots ++ spot ∷ [])
  one_kept ground steps s t st any = by (left ground steps s t st any)
    where
      Is : Case → Type 0
      Is c = Describes ground.n c (point_of steps ground.origin t)

      There : NodeCase → Type 0
      There = IsThere nodes ground steps t

      split : Any Is rest ⊎ Is case → Any Is rest ⊎ Any There (spots ++ spot ∷ [])
      split (inl a) = inl a
      split (inr d) =
          inr (any_back There spots (spot ∷ [])
          (any_one There spot (record { stands = is ground steps s t st d.1.shape; described = d })))

      by : Any Is (rest ++ case ∷ []) ⊎ Any There spots → Any Is rest ⊎ Any There (spots ++ spot ∷ [])
      by (inl a) = split (any_split Is rest case a)
      by (inr a) = inr (any_front There spots (spot ∷ []) a)

-- of both ways
pub spots_both : (nodes : List Node) (number : ℕ) (outcomes : Outcomes) (here there : List Case)
    (behind elsewhere all : List NodeCase) → all ≡ behind ++ elsewhere
    → ArePossible outcomes.cases.items here → ArePossible outcomes.away.items there
    → AreKept nodes number false here behind → AreKept nodes number true there elsewhere
    → AreSpots nodes number outcomes all
spots_both nodes number outcomes here there behind elsewhere all e one_may other_may one other ground steps s t = by
  where
    by : (away : Bool) → Steps nodes ground number away s t
        → Any (λ case. Describes ground.n case (point_of steps ground.origin t)) (cases_by away outcomes)
        → Any (IsThere nodes ground steps t) all
    by false st any =
        subst (Any (IsThere nodes ground steps t)) (sym e)
        (any_front (IsThere nodes ground steps t) behind elsewhere
        (one ground steps s t st (one_may ground.n (point_of steps ground.origin t) any)))
    by true st any =
        subst (Any (IsThere nodes ground steps t)) (sym e)
        (any_back (IsThere nodes ground steps t) behind elsewhere
        (other ground steps s t st (other_may ground.n (point_of steps ground.origin t) any)))
