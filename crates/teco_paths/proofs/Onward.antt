-- Paths from spot to spot.
use Rattle.teco_paths.proofs.Prelude.{cases_order, ◌≡◌, ◌⊎◌, inl, inr, ℕ, zero, suc, ◌+◌, ◌-◌, ◌<◌, ◌≤◌, refl, sym, ap}
use Rattle.teco_paths.proofs.Prelude.{◌∙◌, subst, arith, List, [], ◌∷◌, ◌++◌, length, All, Case, point_of, CutState}
use Rattle.teco_paths.proofs.Prelude.{NodeCase, ComesTo, IsCaseOf, Arrives, Course, IsFollowed, Leads, LeadsOn, IsAt}
use Rattle.teco_paths.proofs.Prelude.{held_in, most_with, IsHeldWithin, GoOn, IsInTime, IsSharper, IsSmall, IsThere}
use Rattle.teco_paths.proofs.Prelude.{TypesNoMore, Describes, Ground, Point, Reaches, State}
use Rattle.teco_model.specs.Macros.{IsLoaded, Library}
use Rattle.teco_model.specs.Registers.{Registers, pair_of}
use Rattle.std.proofs.Common.{◌≢◌}
use Rattle.teco_law_runs.proofs.Runs.{over_reads}
use Rattle.teco_law_runs.proofs.Walking.{reaches_none}
use Rattle.teco_law_runs.specs.Framing.{OfNone}
use Rattle.teco_paths.specs.Claims.{HasNoCut, IsSaid}
use Rattle.teco_paths.specs.Paths.{limits_of}
use Rattle.teco_paths.specs.Runs.{IsAsSaid, IsUnderway}
use Rattle.teco_paths.specs.Steps.{IsAmid}
use Rattle.teco_verifier.specs.expansion.Ways.{read_at}
use Rattle.teco_paths.proofs.Prelude.{numbers_of, Stand, stands, numbered}
use Rattle.std.specs.Prelude.{slice_index_or}
use Rattle.teco_law_runs.specs.Run.{RunsEnd}
use Rattle.teco_paths.proofs.Ending.{cut_here, cuts_later, cuts_on, ends_here, ends_on, held_down}
use Rattle.teco_paths.proofs.Lists.{all_both, over_behind}
use Rattle.teco_poly.specs.Polynomial.{value}

-- ---- a state on the way
-- no fewer pairs than at the entry
above_in : (n : ℕ) (case : Case) (s : Point) → Describes n case s → s.origin.pushes ≤ length s.kept.registers.stack
above_in n case s d = let z = d.1.shape.pushes in omega (arith, z)

-- a library is loaded where the registers are as they were
still_loaded : (library : Library) (s u : State) → IsLoaded library s.world.kept
    → u.world.kept.registers ≡ s.world.kept.registers → IsLoaded library u.world.kept
still_loaded library s u loaded same = record {
  holds = λ r text is. ap (λ (x : Registers). (pair_of r x).text) same ∙ loaded.holds r text is;
}

module _ (course : Course) (number : ℕ) (case : Case) (ground : Ground) (steps : ℕ) (s : State)
    (at : IsAt course.nodes ground number s) (d : Describes ground.n case (point_of steps ground.origin s))
    (said : IsSaid course.cuts ground.n number (point_of steps ground.origin s))
    (held : IsHeldWithin (value course.size ground.n) (most_with course.grows ground.n ground.origin.held) (held_in s))
  where
    said_there : (k : ℕ) (u : State) → Reaches k s u → k ≡ 0
        → IsAsSaid course.nodes ground (IsSaid course.cuts ground.n) (steps + k) u
    said_there k u r e =
        let same : s ≡ u = reaches_none s u (subst (λ k. Reaches k s u) e r) in
        let z : steps ≡ steps + k = omega (arith, e) in
        subst (IsAsSaid course.nodes ground (IsSaid course.cuts ground.n) (steps + k)) same
        (subst (λ k. IsAsSaid course.nodes ground (IsSaid course.cuts ground.n) k s) z
        (record { number = number; stands = at.stands; said = said }))

    amid_is_underway : (k : ℕ) (u : State) → Reaches k s u → IsAmid course.nodes s k u
        → IsUnderway course.nodes ground (limits_of course ground) (IsSaid course.cuts ground.n) (steps + k) u
    amid_is_underway k u r amid = record {
      held = held_down (value course.size ground.n) (most_with course.grows ground.n ground.origin.held) (held_in s)
          (held_in u) amid.held held;
      reads = amid.reads;
      loaded = still_loaded ground.library s u at.loaded amid.registers;
      above =
          subst (λ (x : Registers). ground.origin.pushes ≤ length x.stack) (sym amid.registers)
          (above_in ground.n case (point_of steps ground.origin s) d);
      said = λ begins. said_there k u r (amid.begins begins);
    }

-- from the spots behind one
pub leads_by : (course : Course) (number : ℕ) (case : Case) (spots : List NodeCase) → IsSmall course case
    → GoOn course.nodes course.needs number case spots → All (LeadsOn course) spots → Leads course number case
leads_by course number case spots small go all ground steps s of at d said cuts =
    let g = go ground steps s of.needs of.linked at d in
    let any = g.there in
    let j = g.more + 1 in
    let there : IsThere course.nodes ground (steps + j) g.next any.1 = any.4 in
    let leads : LeadsOn course any.1 = subst (LeadsOn course) any.3 (all any.0 any.1 any.2) in
    ends_on course.nodes ground (limits_of course ground) (IsSaid course.cuts ground.n) steps j s g.next g.goes
    (λ k u less r. amid_is_underway course number case ground steps s at d said (small ground.n _ d) k u r
    (g.amid k u (omega (arith, less)) r))
    (leads ground (steps + j) g.next of
    (record { stands = there.stands; begins = g.begins; loaded = g.loaded; whole = g.whole; files = g.files })
    there.described
    (cuts_on course ground steps j s g.next (omega arith) g.goes cuts))
    g.none

-- where no cut point is, nothing is said
none_said : (cuts : List CutState) (n number : ℕ) (s : Point) → HasNoCut cuts number → IsSaid cuts n number s
none_said cuts n number s none any = absurd (subst (λ (cut : CutState). cut.number ≢ number) any.3
    (none any.0 any.1 any.2) any.4)

pub leads_at_once : (course : Course) (spot : NodeCase) → HasNoCut course.cuts spot.number
    → Leads course spot.number spot.case → LeadsOn course spot
leads_at_once course spot none leads ground steps s linked at d cuts =
    leads ground steps s linked at d
    (none_said course.cuts ground.n spot.number (point_of steps ground.origin s) none)
    (cuts_later course ground steps s cuts)

-- from a case of which more is known
pub sharper_leads : (course : Course) (number : ℕ) (case sharp : Case) → IsSharper case sharp
    → LeadsOn course (record { number = number; case = sharp })
    → LeadsOn course (record { number = number; case = case })
sharper_leads course number case sharp is leads ground steps s of at d cuts =
    leads ground steps s of at (is ground.n (point_of steps ground.origin s) at.whole.world.kept d) cuts

-- at the end
pub over_leads : RunsEnd → (course : Course) (spot : NodeCase) → 0 < spot.number → spot.number - 1 ≡ length course.nodes
    → HasNoCut course.cuts spot.number → IsInTime course spot.case → IsSmall course spot.case
    → TypesNoMore course spot.case → LeadsOn course spot
over_leads ends course spot some number_is none in_time small types ground steps s linked at d cuts =
    let k : spot.number ≡ length course.nodes + 1 = omega (arith, some, number_is) in
    let there : numbered (stands course.nodes ground.entry) (length course.nodes + 1) ≡ _ =
    ap (numbered (stands course.nodes ground.entry)) (sym k) ∙ at.stands.at in
    let over_is = over_behind course.nodes ground.entry at.stands.stand there in
    let position = ap (λ (x : Stand). x.position) (sym over_is) ∙ at.stands.position in
    ends_here course.nodes ground (limits_of course ground) (IsSaid course.cuts ground.n) steps s
    (ends ground.entry s position) (in_time ground.n _ d)
    (record {
      held = small ground.n _ d;
      reads = OfNone (ap read_at (sym position) ∙ over_reads ground.entry);
      loaded = at.loaded;
      above = above_in ground.n spot.case (point_of steps ground.origin s) d;
      said = λ begins. record {
        number = spot.number;
        stands = at.stands;
        said = none_said course.cuts ground.n spot.number (point_of steps ground.origin s) none;
      };
    })
    (types ground.n (point_of steps ground.origin s) d)

-- at a cut point
pub arrives : (course : Course) (spot : NodeCase) (cut : CutState) → spot.number ≡ cut.number → cut.number ≢ 1
    → ComesTo spot.case cut → IsInTime course spot.case → Arrives course spot cut
arrives course spot cut e later comes in_time ground steps s at d = record {
  later = later;
  at = subst (λ k. IsAt course.nodes ground k s) e at;
  claimed = comes ground.n d.0 (point_of steps ground.origin s) d.1;
  within = in_time ground.n (point_of steps ground.origin s) d;
}

pub cut_leads : (course : Course) (spot : NodeCase) (k : ℕ) (cut : CutState) → k < length course.cuts
    → slice_index_or course.cuts k cut ≡ cut → Arrives course spot cut → LeadsOn course spot
cut_leads course spot k cut l e arrived ground steps s linked at d cuts =
    cut_here course ground steps s cuts (k, cut, l, e, arrived ground steps s at d)

-- from a cut point
pub cut_followed : (course : Course) (cut : CutState) (case : Case) → IsCaseOf course.size cut case
    → Leads course cut.number case → IsFollowed course cut
cut_followed course cut case is leads ground steps s of at said cuts =
    leads ground steps s of at.at (
      numbers_of (point_of steps ground.origin s),
      is ground.n (point_of steps ground.origin s) at.at.whole.world.kept of.room at.claimed,
    )
    said cuts

-- from that at the first element, which no run comes to
pub first_followed : (course : Course) (cut : CutState) → cut.number ≡ 1 → IsFollowed course cut
first_followed course cut is ground steps s of at said cuts = absurd (at.later is)

-- one spot ahead, and those behind it in its place
all_and_one : (P : NodeCase → Type 0) (xs : List NodeCase) (x : NodeCase) → All P xs → P x → All P (xs ++ x ∷ [])
all_and_one P [] x h p zero d l = p
all_and_one P [] x h p (suc k) d l = absurd (omega (arith, l))
all_and_one P (y ∷ xs) x h p zero d l = h 0 d (omega arith)
all_and_one P (y ∷ xs) x h p (suc k) d l =
    all_and_one P xs x (λ j e m. h (suc j) e (omega (arith, m))) p k d (omega (arith, l))

pub in_place : (course : Course) (ahead more : List NodeCase) (spot : NodeCase)
    → (All (LeadsOn course) more → LeadsOn course spot)
    → All (LeadsOn course) (ahead ++ more) → All (LeadsOn course) (ahead ++ spot ∷ [])
in_place course ahead more spot leads all =
    let both = all_both (LeadsOn course) ahead more all in
    all_and_one (LeadsOn course) ahead spot both.0 (leads both.1)

pub all_short : (P : NodeCase → Type 0) (xs : List NodeCase) → length xs ≡ 0 → All P xs
all_short P xs e k d l = absurd (omega (arith, l, e))

-- one cut point more is followed
pub same_there : {X : Type 0} (cuts : List X) (k : ℕ) (c d : X) → k < length cuts
    → slice_index_or cuts k c ≡ slice_index_or cuts k d
same_there [] k c d l = absurd (omega arith)
same_there (x ∷ cuts) zero c d l = refl
same_there (x ∷ cuts) (suc k) c d l = same_there cuts k c d (omega (arith, l))

pub followed_more : (course : Course) (n : ℕ) (cut : CutState) → n < length course.cuts
    → slice_index_or course.cuts n cut ≡ cut
    → ((k : ℕ) (d : CutState) → k < n → IsFollowed course (slice_index_or course.cuts k d)) → IsFollowed course cut
    → (k : ℕ) (d : CutState) → k < n + 1 → IsFollowed course (slice_index_or course.cuts k d)
followed_more course n cut within e first last k d l = by (cases_order k n)
  where
    by : (k ≡ n) ⊎ ((k < n) ⊎ (n < k)) → IsFollowed course (slice_index_or course.cuts k d)
    by (inl same) =
        subst (λ j. IsFollowed course (slice_index_or course.cuts j d)) (sym same)
        (subst (IsFollowed course) (sym (same_there course.cuts n d cut within ∙ e)) last)
    by (inr (inl less)) = first k d less
    by (inr (inr more)) = absurd (omega (arith, l, more))
