-- Runs end from cut points.
use Rattle.teco_paths.proofs.Prelude.{◌≡◌, ◌⊎◌, inl, inr, ℕ, zero, suc, ◌+◌, ◌-◌, ◌<◌, ◌≤◌, Option, sym, subst, arith}
use Rattle.teco_paths.proofs.Prelude.{cases_order, All, Any, NoFileCommands, Reaches, State, step, point_of}
use Rattle.teco_paths.proofs.Prelude.{Describes, Course, Ends, IsFollowed, Leads, Case, Ground, IsAt, EndsBy, Point}
use Rattle.teco_paths.proofs.Prelude.{IsHeldWithin, IsWithin, List, None, Some, Node, length, refl}
use Rattle.teco_paths.specs.Claims.{IsSaid}
use Rattle.teco_paths.specs.Runs.{IsUnderway, Limits}
use Rattle.teco_law_runs.proofs.Walking.{none_on, none_yet, reaches_here, reaches_later, reaches_none, reaches_on}
use Rattle.teco_model.specs.State.{End}
use Rattle.teco_paths.specs.Paths.{IsAtCut, IsOf, CutsEnd}
use Rattle.teco_poly.specs.Polynomial.{value}

-- what is no more than something that is within bounds is so, too
within_down : (most : Option ℕ) (more less : ℕ) → less ≤ more → IsWithin most more → IsWithin most less
within_down None more less l w = tt
within_down (Some most) more less l w = omega (arith, l, w)

pub held_down : (size : ℕ) (grown : Option ℕ) (more less : ℕ) → less ≤ more → IsHeldWithin size grown more
    → IsHeldWithin size grown less
held_down size grown more less l w = record {
  fits = omega (arith, l, w.fits);
  grows = within_down grown more less l w.grows;
}

module _ (nodes : List Node) (ground : Ground) (limits : Limits) (Says : ℕ → Point → Type 0) where
  abbrev Underway : ℕ → State → Type 0
  Underway = IsUnderway nodes ground limits Says

  -- at the end
  here_alone : (steps : ℕ) (s t : State) (k : ℕ) → k ≤ 0 → Reaches k s t → Underway steps s → Underway (steps + k) t
  here_alone steps s t zero least r here =
      let e : steps ≡ steps + 0 = omega arith in
      subst (λ k. Underway k t) e (subst (Underway steps) (reaches_none s t r) here)
  here_alone steps s t (suc k) least r here = absurd (omega (arith, least))

  pub ends_here : (steps : ℕ) (s : State) → step s ≡ End s.world → steps ≤ limits.most → Underway steps s
      → IsWithin limits.typed (length s.world.kept.typed) → EndsBy nodes ground limits Says steps s
  ends_here steps s over within here types = record {
    more = 0;
    last = s;
    within = omega (arith, within);
    none = none_yet s;
    underway = λ k t least r. here_alone steps s t k least r here;
    types = types;
    comes = reaches_here s;
    ends = over;
  }

  -- some steps before it
  module _ (steps j : ℕ) (s t : State) (came : Reaches j s t)
      (before : (k : ℕ) (u : State) → k < j → Reaches k s u → Underway (steps + k) u)
      (later : EndsBy nodes ground limits Says (steps + j) t) where
    underway_on : (k : ℕ) (u : State) → k ≤ j + later.more → Reaches k s u → Underway (steps + k) u
    underway_on k u least r = by (cases_order k j)
      where
        behind : (i : ℕ) → k ≡ j + i → Underway (steps + k) u
        behind i e =
            let z : (steps + j) + i ≡ steps + k = omega (arith, e) in
            subst (λ k. Underway k u) z
            (later.underway i u (omega (arith, least, e))
            (reaches_later j i s t u came (subst (λ k. Reaches k s u) e r)))

        by : (k ≡ j) ⊎ ((k < j) ⊎ (j < k)) → Underway (steps + k) u
        by (inl e) = behind 0 (omega (arith, e))
        by (inr (inl less)) = before k u less r
        by (inr (inr more)) = behind (k - j) (omega (arith, more))

    pub ends_on : NoFileCommands s j → EndsBy nodes ground limits Says steps s
    ends_on none = record {
      more = j + later.more;
      last = later.last;
      within = omega (arith, later.within);
      none = none_on j later.more s t none came later.none;
      underway = underway_on;
      types = later.types;
      comes = reaches_on j later.more s t later.last came later.comes;
      ends = later.ends;
    }

-- the cut points that a run comes to later
pub cuts_on : (course : Course) (ground : Ground) (steps j : ℕ) (s t : State) → 1 ≤ j → Reaches j s t
    → CutsEnd course ground 1 steps s → CutsEnd course ground 0 (steps + j) t
cuts_on course ground steps j s t some came cuts k u least r any =
    let e : (steps + j) + k ≡ steps + (j + k) = omega arith in
    subst (λ m. Ends course ground m u) (sym e)
    (cuts (j + k) u (omega (arith, some)) (reaches_on j k s t u came r)
    (subst (λ m. Any (IsAtCut course ground m u) course.cuts) e any))

pub cuts_later : (course : Course) (ground : Ground) (steps : ℕ) (s : State)
    → CutsEnd course ground 0 steps s → CutsEnd course ground 1 steps s
cuts_later course ground steps s cuts k t least r any = cuts k t (omega arith) r any

-- here
pub cut_here : (course : Course) (ground : Ground) (steps : ℕ) (s : State)
    → CutsEnd course ground 0 steps s → Any (IsAtCut course ground steps s) course.cuts → Ends course ground steps s
cut_here course ground steps s cuts any =
    let e : steps + 0 ≡ steps = omega arith in
    subst (λ m. Ends course ground m s) e
    (cuts 0 s (omega arith) (reaches_here s) (subst (λ m. Any (IsAtCut course ground m s) course.cuts) (sym e) any))

-- a run ends from each cut point, by how many commands are left
module _ (course : Course) (ground : Ground) (of : IsOf course ground)
    (followed : All (IsFollowed course) course.cuts) where
  from_cut : (steps : ℕ) (s : State) (any : Any (IsAtCut course ground steps s) course.cuts)
      → CutsEnd course ground 1 steps s → Ends course ground steps s
  from_cut steps s any cuts =
      subst (IsFollowed course) any.3 (followed any.0 any.1 any.2) ground steps s of any.4
      (λ some. (any.0, any.1, any.2, any.3, (refl, any.4.claimed))) cuts

  pub cuts_end : (left steps : ℕ) (s : State) → value course.commands ground.n ≤ steps + left
      → Any (IsAtCut course ground steps s) course.cuts → Ends course ground steps s
  cuts_end zero steps s few any =
      from_cut steps s any (λ k t least r other. absurd (omega (arith, least, few, other.4.within)))
  cuts_end (suc left) steps s few any =
      from_cut steps s any (λ k t least r other. cuts_end left (steps + k) t (omega (arith, few, least)) other)

  pub run_ends : (number steps : ℕ) (case : Case) (s : State) → Leads course number case
      → IsAt course.nodes ground number s → Describes ground.n case (point_of steps ground.origin s)
      → IsSaid course.cuts ground.n number (point_of steps ground.origin s) → Ends course ground steps s
  run_ends number steps case s leads at described said =
      leads ground steps s of at described said
      (λ k t least r any. cuts_end (value course.commands ground.n) (steps + k) t (omega arith) any)
