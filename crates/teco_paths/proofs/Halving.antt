-- A path goes on where it does so with either of two constraints of which one holds.
use Rattle.teco_paths.proofs.Prelude.{◌≡◌, List, [], ◌∷◌, subst, sym, refl, arith, All, ℤ, pos, negsuc, ints, point_of}
use Rattle.teco_paths.proofs.Prelude.{Term, value, Course, Ends, LeadsOn, IsAt, IsWith, NodeCase}
use Rattle.teco_paths.specs.Steps.{AreHalves}

pub halves_lead : (spot one other : NodeCase) (ahead end : List Term) → AreHalves ahead end
    → one.number ≡ spot.number → IsWith spot.case ahead one.case
    → other.number ≡ spot.number → IsWith spot.case end other.case
    → (course : Course) → LeadsOn course one → LeadsOn course other → LeadsOn course spot
halves_lead spot one other ahead end are one_there one_with other_there other_with course leads otherwise
    ground steps s of at d cuts =
    by (value end ground.n d.0) refl
  where
    by : (k : ℤ) → value end ground.n d.0 ≡ k → Ends course ground steps s
    by (pos k) is =
        otherwise ground steps s of (subst (λ number. IsAt course.nodes ground number s) (sym other_there) at)
        (d.0, other_with ground.n d.0 (point_of steps ground.origin s) d.1 (omega (arith, ints, is))) cuts
    by (negsuc k) is =
        leads ground steps s of (subst (λ number. IsAt course.nodes ground number s) (sym one_there) at)
        (d.0, one_with ground.n d.0 (point_of steps ground.origin s) d.1 (omega (arith, ints, is, are ground.n d.0)))
        cuts

pub both_lead : (course : Course) (one other : NodeCase) (spots : List NodeCase) → spots ≡ one ∷ other ∷ []
    → All (LeadsOn course) spots → LeadsOn course one × LeadsOn course other
both_lead course one other spots are all = by (subst (All (LeadsOn course)) are all) where
  by : All (LeadsOn course) (one ∷ other ∷ []) → LeadsOn course one × LeadsOn course other
  by all = (all 0 one (omega arith), all 1 one (omega arith))
