-- What holds of the open turns along a run.
use Rattle.std.proofs.Common.{◌≡◌, ℕ, suc, ◌+◌, ◌-◌, ◌*◌, ◌≤◌, ⊎_elim, true, false, cond, ltb, ℤ, pos, List, [], ◌∷◌}
use Rattle.std.proofs.Common.{Option, Some, None, MatchOption, refl, arith}
use Rattle.std.proofs.lemmas.Int.{ints}
use Rattle.teco_law_turns.specs.Table.{Table, HasFallen, IsAtLeast, IsKept, IsLost, IsClosedLoop}
use Rattle.std.specs.List.{AllByRecursion}
use Rattle.teco_law_turns.specs.Moves.{still_open, FallFollows, CountsDown}
use Rattle.teco_law_turns.proofs.Left.{Turn, begins_of, end_of}

abbrev pub Most : Table → ℕ → ℕ → ℕ → Type 0
Most t i held ahead = (held ≤ t.held_most i) × (ahead ≤ t.ahead_most i)

-- Since a turn began, what is held grew by no more than the table's most, and what is ahead fell by the table's fall.
abbrev pub Since : Table → ℕ → ℕ → ℕ → Turn → Type 0
Since t i held ahead u =
    (held + t.held_most (suc u.loop.begin) ≤ u.held + t.held_most i) × HasFallen (t.fall i u.loop.begin) ahead u.ahead

-- the turns that come after are among those that may
abbrev pub Enough : Turn → Type 0
Enough u = MatchOption u.loop.more (u.ahead ≤ u.rest) (λ c. c ≤ u.rest)

-- The same holds of the loops outside at the start of the innermost one's last turn, with what may be held and ahead
-- then.
abbrev pub Stand : Table → ℕ → ℕ → ℕ → List Turn → Type 0
Stand t i held ahead [] = Most t i held ahead
Stand t i held ahead (u ∷ us) =
    Most t i held ahead × AllByRecursion (Since t i held ahead) (u ∷ us) × Enough u
    × Stand t (suc u.loop.begin) (u.held + u.rest * t.growth u.loop.begin) u.ahead us

pub each_map : {X : Type 0} (P Q : X → Type 0) (xs : List X) → ((x : X) → P x → Q x) → AllByRecursion P xs
    → AllByRecursion Q xs
each_map P Q [] f each = tt
each_map P Q (x ∷ xs) f each = (f x each.0, each_map P Q xs f each.1)

everywhere : {X : Type 0} (P : X → Type 0) → ((x : X) → P x) → (xs : List X) → AllByRecursion P xs
everywhere P f [] = tt
everywhere P f (x ∷ xs) = (f x, everywhere P f xs)

-- falls
told : (x y : Option ℤ) (ahead new start : ℕ) → FallFollows x y ahead new → HasFallen x ahead start
    → HasFallen y new start
told x None ahead new start is fallen = tt
told None (Some w) ahead new start is fallen = absurd is
told (Some v) (Some w) ahead new start is fallen = omega (arith, ints)

pub told_same : (x y : Option ℤ) (ahead new : ℕ) → new ≤ ahead → y ≡ x → FallFollows x y ahead new
told_same x y ahead new le e = rw e (of x)
  where
    of : (x : Option ℤ) → FallFollows x x ahead new
    of None = tt
    of (Some v) = omega (arith, ints)

pub told_none : (x y : Option ℤ) (ahead new : ℕ) → y ≡ None → FallFollows x y ahead new
told_none x y ahead new e = rw e tt

-- a known fall of at least 0: nothing more is ahead than at the start
not_above : (fall : Option ℤ) (ahead new start : ℕ) → new ≤ ahead → IsAtLeast 0 fall → HasFallen fall ahead start
    → new ≤ start
not_above None ahead new start low some fallen = absurd some
not_above (Some v) ahead new start low some fallen = omega (arith, ints)

-- a further turn is one of those that may come, and enough are left
fewer : (more next : Option ℕ) (fall : Option ℤ) (start ahead new rest less : ℕ) → new ≤ ahead → less ≡ rest - 1
    → CountsDown more next fall → MatchOption more (start ≤ rest) (λ c. c ≤ rest) → HasFallen fall ahead start
    → (rest ≡ suc less) × MatchOption next (new ≤ less) (λ c. c ≤ less)
fewer None next None start ahead new rest less low e counts enough fallen = absurd counts.1
fewer None next (Some v) start ahead new rest less low e counts enough fallen =
    (omega (arith, ints, counts.1), rw counts.0 (omega (arith, ints, counts.1)))
fewer (Some c) next fall start ahead new rest less low e counts enough fallen =
    (omega (arith, counts.1), rw counts.2 (omega (arith, counts.1)))

module _ (t : Table) where
  pub most_of : (i held ahead : ℕ) (us : List Turn) → Stand t i held ahead us → Most t i held ahead
  most_of i held ahead [] stand = stand
  most_of i held ahead (u ∷ us) stand = stand.0

  since_of : (i held ahead : ℕ) (us : List Turn) → Stand t i held ahead us → AllByRecursion (Since t i held ahead) us
  since_of i held ahead [] stand = tt
  since_of i held ahead (u ∷ us) stand = stand.1

  since_on : (i j held ahead held' ahead' : ℕ) (us : List Turn) → held' + t.held_most i ≤ held + t.held_most j
      → AllByRecursion (λ o. FallFollows (t.fall i o) (t.fall j o) ahead ahead') (begins_of us)
      → AllByRecursion (Since t i held ahead) us → AllByRecursion (Since t j held' ahead') us
  since_on i j held ahead held' ahead' [] grows falls since = tt
  since_on i j held ahead held' ahead' (u ∷ us) grows falls since = (
    (
      omega (arith, since.0.0),
      told (t.fall i u.loop.begin) (t.fall j u.loop.begin) ahead ahead' u.ahead falls.0
          since.0.1,
    ),
    since_on i j held ahead held' ahead' us grows falls.1 since.1,
  )

  -- from one node to another, within the same turns
  pub carry : (i j held ahead held' ahead' : ℕ) (us : List Turn) → held' + t.held_most i ≤ held + t.held_most j
      → ahead' ≤ t.ahead_most j → AllByRecursion (λ o. FallFollows (t.fall i o) (t.fall j o) ahead ahead')
      (begins_of us) → Stand t i held ahead us → Stand t j held' ahead' us
  carry i j held ahead held' ahead' [] grows few falls stand = (omega (arith, stand.0), few)
  carry i j held ahead held' ahead' (u ∷ us) grows few falls stand = (
    (omega (arith, stand.0.0), few),
    since_on i j held ahead held' ahead' (u ∷ us) grows falls stand.1,
    stand.2,
    stand.3,
  )

  -- out of the innermost loop, and out of those that end before a node
  pop : (i held ahead : ℕ) (u : Turn) (us : List Turn) → Stand t i held ahead (u ∷ us) → Stand t i held ahead us
  pop i held ahead u [] stand = stand.0
  pop i held ahead u (v ∷ us) stand = (stand.0, stand.1.1, stand.3.2, stand.3.3)

  pub unwind : (i held ahead j : ℕ) (us : List Turn) → Stand t i held ahead us
      → Stand t i held ahead (still_open (end_of t) j us)
  unwind i held ahead j [] stand = stand
  unwind i held ahead j (u ∷ us) stand =
      let deeper = unwind i held ahead j us (pop i held ahead u us stand) in
      elim (ltb (end_of t u) j) as (λ b. Stand t i held ahead (cond b (still_open (end_of t) j us) (u ∷ us)))
      [ true ↦ deeper | false ↦ stand ]

  -- A turn begins: what holds outside at its last turn's start holds at its own start.
  begin : (u : Turn) (us : List Turn) → t.fall (suc u.loop.begin) u.loop.begin ≡ Some (pos 0) → Enough u
      → Stand t (suc u.loop.begin) (u.held + u.rest * t.growth u.loop.begin) u.ahead us
      → Stand t (suc u.loop.begin) u.held u.ahead (u ∷ us)
  begin u us fresh enough stand =
      let most = most_of (suc u.loop.begin) (u.held + u.rest * t.growth u.loop.begin) u.ahead us stand in
      let since = since_of (suc u.loop.begin) (u.held + u.rest * t.growth u.loop.begin) u.ahead us stand in
      let same : (o : ℕ) → FallFollows (t.fall (suc u.loop.begin) o) (t.fall (suc u.loop.begin) o) u.ahead u.ahead =
      λ o. told_same (t.fall (suc u.loop.begin) o) (t.fall (suc u.loop.begin) o) u.ahead u.ahead
      (omega arith) refl in
      let outside = since_on (suc u.loop.begin) (suc u.loop.begin) (u.held + u.rest * t.growth u.loop.begin) u.ahead
      u.held u.ahead us (omega arith)
      (everywhere (λ o. FallFollows (t.fall (suc u.loop.begin) o) (t.fall (suc u.loop.begin) o) u.ahead u.ahead)
      same (begins_of us)) since in
      let own : HasFallen (t.fall (suc u.loop.begin) u.loop.begin) u.ahead u.ahead = rw fresh (omega (arith, ints)) in
      ((omega (arith, most), most.1), ((omega arith, own), outside), enough, stand)

  -- the first turn
  module _ (held ahead : ℕ) (u : Turn) (us : List Turn) (loop : IsClosedLoop t u.loop.begin)
      (outer : begins_of us ≡ t.loops u.loop.begin) where
    pub first : u.held ≤ held → u.ahead ≤ ahead → u.ahead ≤ u.held → Enough u → u.rest ≡ t.turns u.loop.begin - 1
        → Stand t u.loop.begin held ahead us → Stand t (suc u.loop.begin) u.held u.ahead (u ∷ us)
    first low_held low_ahead within enough rest stand =
        let l = u.loop.begin in
        let most = most_of l held ahead us stand in
        let grows : u.held + u.rest * t.growth l + t.held_most l ≤ held + t.held_most (suc l) = let m = loop.room in
        rw rest (omega arith) in
        begin u us loop.fresh enough (⊎_elim
        (λ (kept : IsKept t l). carry l (suc l) held ahead (u.held + u.rest * t.growth l) u.ahead us grows
        (omega (arith, kept.ahead, most))
        (rw outer (each_map (λ o. t.fall (suc l) o ≡ t.fall l o)
        (λ o. FallFollows (t.fall l o) (t.fall (suc l) o) ahead u.ahead) (t.loops l)
        (λ o e. told_same (t.fall l o) (t.fall (suc l) o) ahead u.ahead low_ahead e) kept.falls)) stand)
        (λ (lost : IsLost t l). carry l (suc l) held ahead (u.held + u.rest * t.growth l) u.ahead us grows
        (omega (arith, lost.ahead, loop.room, most))
        (rw outer (each_map (λ o. t.fall (suc l) o ≡ None)
        (λ o. FallFollows (t.fall l o) (t.fall (suc l) o) ahead u.ahead) (t.loops l)
        (λ o e. told_none (t.fall l o) (t.fall (suc l) o) ahead u.ahead e) lost.falls)) stand)
        loop.outside)

  -- a further turn
  module _ (held ahead : ℕ) (u v : Turn) (us : List Turn) (loop : IsClosedLoop t v.loop.begin)
      (outer : begins_of us ≡ t.loops v.loop.begin) (same : u.loop.begin ≡ v.loop.begin) where
    pub again : v.held ≤ held → v.ahead ≤ ahead → v.ahead ≤ v.held → v.rest ≡ u.rest - 1
        → CountsDown u.loop.more v.loop.more (t.fall (t.end v.loop.begin) v.loop.begin)
        → Stand t (t.end v.loop.begin) held ahead (u ∷ us)
        → (u.rest ≡ suc v.rest) × Stand t (suc v.loop.begin) v.held v.ahead (v ∷ us)
    again low_held low_ahead within rest counts stand =
        let l = v.loop.begin in
        let outside : Stand t (suc l) (u.held + u.rest * t.growth l) u.ahead us = rw same at stand.3 in
        let since : (held + t.held_most (suc l) ≤ u.held + t.held_most (t.end l))
        × HasFallen (t.fall (t.end l) l) ahead u.ahead = rw same at stand.1.0 in
        let few = fewer u.loop.more v.loop.more (t.fall (t.end l) l) u.ahead ahead v.ahead u.rest v.rest low_ahead rest
        counts stand.2 since.1 in
        let grows : v.held + v.rest * t.growth l ≤ u.held + u.rest * t.growth l = let turn = loop.grows in
        rw few.0 (omega (arith, since.0)) in
        let most = most_of (suc l) (u.held + u.rest * t.growth l) u.ahead us outside in (
          few.0,
          begin v us loop.fresh few.1 (⊎_elim
              (λ (kept : IsKept t l). let low : v.ahead ≤ u.ahead = not_above (t.fall (t.end l) l) ahead v.ahead u.ahead
              low_ahead kept.own since.1 in
              carry (suc l) (suc l) (u.held + u.rest * t.growth l) u.ahead (v.held + v.rest * t.growth l) v.ahead us
              (omega arith) (omega (arith, most))
              (everywhere (λ o. FallFollows (t.fall (suc l) o) (t.fall (suc l) o) u.ahead v.ahead)
              (λ o. told_same (t.fall (suc l) o) (t.fall (suc l) o) u.ahead v.ahead low refl) (begins_of us))
              outside)
              (λ (lost : IsLost t l). carry (suc l) (suc l) (u.held + u.rest * t.growth l) u.ahead
              (v.held + v.rest * t.growth l) v.ahead us (omega arith) (omega (arith, lost.ahead, most))
              (rw outer (each_map (λ o. t.fall (suc l) o ≡ None)
              (λ o. FallFollows (t.fall (suc l) o) (t.fall (suc l) o) u.ahead v.ahead) (t.loops l)
              (λ o e. told_none (t.fall (suc l) o) (t.fall (suc l) o) u.ahead v.ahead e) lost.falls)) outside)
              loop.outside),
        )
