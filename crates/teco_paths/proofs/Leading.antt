-- To which node a step leads.
use Rattle.teco_paths.proofs.Prelude.{◌≡◌, ◌⊎◌, inl, inr, ℕ, zero, suc, ◌≤◌, refl, sym, ap, ◌∙◌, subst, arith, List}
use Rattle.teco_paths.proofs.Prelude.{◌++◌, length, Bool, true, false, Option, Some, None, slice_get, IterationsAreOpen}
use Rattle.teco_paths.proofs.Prelude.{GoesTo, StepsGoAlongNodes, Whole, Test, Element, skip_of, Frames, State, Case}
use Rattle.teco_paths.proofs.Prelude.{loops_in, point_of, IsShape, Ground, StandsBy, GoesBy, IsTarget, IsTold, Steps}
use Rattle.teco_paths.proofs.Prelude.{Node, stands, numbered}
use Rattle.teco_law_runs.specs.Was.{Turns, ElementWas, StepWas}
use Rattle.teco_law_runs.proofs.Lookup.{node_of}
use Rattle.teco_model.specs.declared.kind.Flow.TheVariants as flow
use Rattle.teco_model.specs.declared.kind.Kind.TheVariants as kind
use Rattle.teco_model.specs.Flow.{Turn}
use Rattle.teco_flow_outcomes.specs.Law.{place_away}
use Rattle.teco_paths.specs.Steps.{AreApart, IsTest, IsToldApart}
use Rattle.teco_paths.proofs.Lists.{none_behind, none_third}
use Rattle.teco_paths.proofs.Skipping.{test_skips}
use Rattle.teco_paths.proofs.Standing.{as_many, went, stands_there}

-- the place where the text goes on
away_at : (t : Test) (e : Element) (s : State) (place : ℕ) → e.kind ≡ kind.Flow (flow.Test t)
    → place_away e.kind e s.frames.running ≡ Some place → (skip_of s.frames.running.text (Whole e)).to ≡ Some place
away_at t e s place is h = subst (λ k. place_away k e s.frames.running ≡ Some place) is h

abbrev pub way_of : Bool → ℕ
way_of false = 0
way_of true = 1

module _ (t : Test) (e : Element) (s u : State) (is : e.kind ≡ kind.Flow (flow.Test t)) where
  place_now : (a : Turn) → u ≡ record s { arguments = a.arguments; frames = record s.frames { running = a.frame } }
      → u.frames.running.place ≡ a.frame.place
  place_now a h = ap (λ (x : State). x.frames.running.place) h

  -- it holds, and the text goes on elsewhere: that is not so
  not_away : (turn : Turns (flow.Test t) 0 e s u) → GoesBy true e s u → ⊥
  not_away turn g =
      let one : u.frames.running.place ≡ e.next =
      place_now turn.turn turn.gone ∙ ap (λ (x : Turn). x.frame.place) turn.went.gone in
      let other : u.frames.running.place ≡ g.0 = ap (λ (x : Frames). x.running.place) g.2 in
      omega (arith, test_skips s.frames.running.text e t g.0 is (away_at t e s g.0 is g.1), one, other)

  not_behind : (turn : Turns (flow.Test t) 1 e s u) → GoesBy false e s u → ⊥
  not_behind turn g =
      let jumps = turn.went.jumps in
      let one : u.frames.running.place ≡ jumps.place =
      place_now turn.turn turn.gone ∙ ap (λ (x : Turn). x.frame.place) jumps.gone in
      let other : u.frames.running.place ≡ e.next = ap (λ (x : Frames). x.running.place) g in
      omega (arith, test_skips s.frames.running.text e t jumps.place is jumps.leads, one, other)

  by_way : (away : Bool) (way : ℕ) → Turns (flow.Test t) way e s u → GoesBy away e s u → way ≡ way_of away
  by_way false zero turn g = refl
  by_way true zero turn g = absurd (not_away turn g)
  by_way true (suc zero) turn g = refl
  by_way false (suc zero) turn g = absurd (not_behind turn g)
  by_way away (suc (suc way)) turn g = absurd turn.went

-- the number of a way
taken_is : (ways : List ℕ) (way target other k : ℕ) → slice_get ways way ≡ Some target → slice_get ways k ≡ Some other
    → way ≡ k → target ≡ other
taken_is ways way target other k h g e = let z : Some target ≡ Some other = sym h ∙ (ap (slice_get ways) e ∙ g) in cc

module _ (along : StepsGoAlongNodes) (nodes : List Node) (ground : Ground) (number : ℕ) (away : Bool) (s t : State)
    (steps : Steps nodes ground number away s t) where
  abbrev goes_to : GoesTo (stands nodes ground.entry) number steps.node s t
  goes_to =
      went nodes ground number s steps.node steps.linked steps.is steps.at.stands along
      (steps.at.left steps.node steps.is) steps.at.loaded t steps.goes steps.done

  there : StandsBy nodes ground goes_to.target t
  there =
      stands_there nodes ground number s steps.node steps.linked steps.is steps.at.stands along
      (steps.at.left steps.node steps.is) steps.at.loaded t steps.goes steps.done

  -- one way
  pub only_way : (first : ℕ) → slice_get steps.node.ways 0 ≡ Some first → slice_get steps.node.ways 1 ≡ None
      → StandsBy nodes ground first t
  only_way first is none = by goes_to.way refl
    where
      by : (way : ℕ) → goes_to.way ≡ way → StandsBy nodes ground first t
      by zero e =
          subst (λ k. StandsBy nodes ground k t)
          (taken_is steps.node.ways goes_to.way goes_to.target first 0 goes_to.taken is e) there
      by (suc way) e =
          absurd (none_behind steps.node.ways way goes_to.target none
          (subst (λ w. slice_get steps.node.ways w ≡ Some goes_to.target) e goes_to.taken))

  -- two, at a conditional
  turns_at : (e : Element) (test : Test) → steps.node.element ≡ Some e → e.kind ≡ kind.Flow (flow.Test test)
      → Turns (flow.Test test) goes_to.way e s t
  turns_at e test reads is =
      subst (λ k. ElementWas k goes_to.way e s t) is (subst (λ read. StepWas read goes_to.way s t) reads goes_to.was)

  pub test_way : (e : Element) (test : Test) (target k : ℕ) → steps.node.element ≡ Some e
      → e.kind ≡ kind.Flow (flow.Test test) → slice_get steps.node.ways k ≡ Some target
      → k ≡ way_of away → StandsBy nodes ground target t
  test_way e test target k reads is taken way =
      let told : IsTold e.kind = subst IsTold (sym is) tt in
      let same : goes_to.way ≡ k =
      by_way test e s t is away goes_to.way (turns_at e test reads is) (steps.along e reads told) ∙ sym way in
      subst (λ k. StandsBy nodes ground k t)
      (taken_is steps.node.ways goes_to.way goes_to.target target k goes_to.taken taken same) there

  -- two others, which differ in how many iterations are open
  module _ (iterations : IterationsAreOpen) (few : length steps.node.ways ≤ 2) (this that this_way that_way : ℕ)
      (one other : Node) (ways : (way : ℕ) → (way ≡ 0) ⊎ (way ≡ 1) → (way ≡ this_way) ⊎ (way ≡ that_way))
      (this_is : slice_get steps.node.ways this_way ≡ Some this)
      (that_is : slice_get steps.node.ways that_way ≡ Some that)
      (one_is : numbered nodes this ≡ Some one) (other_is : numbered nodes that ≡ Some other)
      (as_one : length (t.frames.running.loops ++ loops_in t.frames.callers) ≡ length one.stand.iterations)
      (differ : length one.stand.iterations ≡ length other.stand.iterations → ⊥) where
    two_ways : (way : ℕ) → slice_get steps.node.ways way ≡ Some goes_to.target → (way ≡ 0) ⊎ (way ≡ 1)
    two_ways zero h = inl refl
    two_ways (suc zero) h = inr refl
    two_ways (suc (suc way)) h = absurd (none_third steps.node.ways way goes_to.target few h)

    by_way_taken : (goes_to.way ≡ this_way) ⊎ (goes_to.way ≡ that_way) → StandsBy nodes ground this t
    by_way_taken (inl e) =
        subst (λ k. StandsBy nodes ground k t)
        (taken_is steps.node.ways goes_to.way goes_to.target this this_way goes_to.taken this_is e) there
    by_way_taken (inr e) =
        let at : StandsBy nodes ground that t =
        subst (λ k. StandsBy nodes ground k t)
        (taken_is steps.node.ways goes_to.way goes_to.target that that_way goes_to.taken that_is e) there in
        absurd (differ (sym as_one ∙ sym (as_many nodes ground that t other iterations steps.linked other_is at)))

    pub open_way : StandsBy nodes ground this t
    open_way = by_way_taken (ways goes_to.way (two_ways goes_to.way goes_to.taken))

-- ---- targets
module _ (along : StepsGoAlongNodes) (nodes : List Node) (number : ℕ) (away : Bool) (case : Case) (first : ℕ)
    (one : Option ℕ)
    (one_is : one ≡ Some first) (ways_one : (node : Node) → numbered nodes number ≡ Some node
    → one ≡ slice_get node.ways 0) where
  pub one_target : (other : Option ℕ) → other ≡ None
      → ((node : Node) → numbered nodes number ≡ Some node → other ≡ slice_get node.ways 1)
      → IsTarget nodes number away case first
  one_target other none ways ground k s t st shape =
      only_way along nodes ground number away s t st first (sym (ways_one st.node st.is) ∙ one_is)
      (sym (ways st.node st.is) ∙ none)

  pub first_target : IsTest nodes number → away ≡ false → IsTarget nodes number away case first
  first_target test is ground k s t st shape =
      let x = test st.node st.is in
      test_way along nodes ground number away s t st x.0 x.1 first 0 x.2 x.3 (sym (ways_one st.node st.is) ∙ one_is)
      (sym (ap way_of is))

  module _ (second : ℕ) (other : Option ℕ) (other_is : other ≡ Some second)
      (ways_other : (node : Node) → numbered nodes number ≡ Some node → other ≡ slice_get node.ways 1) where
    pub second_target : IsTest nodes number → away ≡ true → IsTarget nodes number away case second
    second_target test is ground k s t st shape =
        let x = test st.node st.is in
        test_way along nodes ground number away s t st x.0 x.1 second 1 x.2 x.3 (sym (ways_other st.node st.is)
        ∙ other_is)
        (sym (ap way_of is))

    module _ (iterations : IterationsAreOpen) (few : (node : Node) → numbered nodes number ≡ Some node
        → length node.ways ≤ 2)
        (ground : Ground) (k : ℕ) (s t : State) (st : Steps nodes ground number away s t)
        (shape : IsShape case.shape (point_of k ground.origin t)) where
      by_open : (this that this_way that_way : ℕ) → AreApart nodes case.shape.iterations this that
          → ((way : ℕ) → (way ≡ 0) ⊎ (way ≡ 1) → (way ≡ this_way) ⊎ (way ≡ that_way))
          → slice_get st.node.ways this_way ≡ Some this → slice_get st.node.ways that_way ≡ Some that
          → StandsBy nodes ground this t
      by_open this that this_way that_way apart ways this_is that_is =
          let here = node_of nodes this apart.here.one apart.here.last in
          let there = node_of nodes that apart.there.one apart.there.last in
          let as_here = apart.here.as_many here.0 here.1 in
          open_way along nodes ground number away s t st iterations (few st.node st.is) this that this_way that_way
          here.0 there.0
          ways this_is that_is here.1 there.1 (sym shape.iterations ∙ sym as_here)
          (λ same. apart.differ (sym (apart.there.as_many there.0 there.1) ∙ sym same ∙ as_here))

      swapped : (way : ℕ) → (way ≡ 0) ⊎ (way ≡ 1) → (way ≡ 1) ⊎ (way ≡ 0)
      swapped way (inl e) = inr e
      swapped way (inr e) = inl e

      pub open_stands : (target : ℕ) → IsToldApart nodes case.shape.iterations first second target
          → StandsBy nodes ground target t
      open_stands target (inl a) =
          subst (λ k. StandsBy nodes ground k t) (sym a.0)
          (by_open first second 0 1 a.1 (λ way h. h) (sym (ways_one st.node st.is) ∙ one_is)
          (sym (ways_other st.node st.is) ∙ other_is))
      open_stands target (inr a) =
          subst (λ k. StandsBy nodes ground k t) (sym a.0)
          (by_open second first 1 0 a.1 swapped (sym (ways_other st.node st.is) ∙ other_is)
          (sym (ways_one st.node st.is) ∙ one_is))

    pub open_target : IterationsAreOpen → ((node : Node) → numbered nodes number ≡ Some node → length node.ways ≤ 2)
        → (target : ℕ) → IsToldApart nodes case.shape.iterations first second target
        → IsTarget nodes number away case target
    open_target iterations few target told ground k s t st shape =
        open_stands iterations few ground k s t st shape target told
