-- Where a run stands, and what is read there.
use Rattle.teco_paths.proofs.Prelude.{◌≡◌, ℕ, suc, ◌+◌, refl, sym, ap, ◌∙◌, subst, arith, List, [], ◌∷◌, ◌++◌, map}
use Rattle.teco_paths.proofs.Prelude.{length, Some, None, Ok, IterationsAreOpen, AreLinked, NodesAreSound, GoesTo}
use Rattle.teco_paths.proofs.Prelude.{StepsGoAlongNodes, IsLeftAt, Loop, element_at, IsLoaded, Frame, State, Next, step}
use Rattle.teco_paths.proofs.Prelude.{loops_in, Ground, StandsBy, Node, Stand, stands, numbered, Position, start_of}
use Rattle.teco_paths.proofs.Prelude.{spot_of, position_of}
use Rattle.std.proofs.Common.{length-append}
use Rattle.teco_law_runs.specs.Iterations.{AreOpenIn, AreOpen}
use Rattle.teco_law_runs.specs.Linked.{IsLinked}
use Rattle.teco_law_runs.specs.Run.{MovesFrom, Went, Stayed}
use Rattle.teco_law_runs.proofs.Lookup.{same_stand}
use Rattle.teco_model.proofs.Ahead.{element_at-again}
use Rattle.teco_verifier.specs.expansion.Position.{Spot, starts_in}
use Rattle.teco_verifier.specs.expansion.Ways.{read_at}

-- as many iterations are open as a node has numbers
in_text : (nodes : List Node) (entry below : ℕ) (text : List ℕ) (callers : List Spot) (Rest : List ℕ → Type 0)
    (starts numbers : List ℕ) (n : ℕ) → ((rest : List ℕ) → Rest rest → length rest ≡ n)
    → AreOpenIn nodes entry below text callers Rest starts numbers → length numbers ≡ length starts + n
in_text nodes entry below text callers Rest [] numbers n rest h = let e = rest numbers h in omega (arith, e)
in_text nodes entry below text callers Rest (start ∷ starts) [] n rest h = absurd h
in_text nodes entry below text callers Rest (start ∷ starts) (number ∷ numbers) n rest h =
    let e = in_text nodes entry below text callers Rest starts numbers n rest h.1 in omega (arith, e)

in_texts : (nodes : List Node) (entry below : ℕ) (spots : List Spot) (numbers : List ℕ)
    → AreOpen nodes entry below spots numbers → length numbers ≡ length (starts_in spots)
in_texts nodes entry below [] numbers h = ap length h
in_texts nodes entry below (spot ∷ callers) numbers h =
    in_text nodes entry below spot.text callers (AreOpen nodes entry below callers) spot.starts numbers
    (length (starts_in callers))
    (λ rest open_rest. in_texts nodes entry below callers rest open_rest) h
    ∙ sym (length-append spot.starts (starts_in callers))

pub mapped : (loops : List Loop) → length (map start_of loops) ≡ length loops
mapped [] = refl
mapped (loop ∷ loops) = ap suc (mapped loops)

of_callers : (callers : List Frame) → length (starts_in (map spot_of callers)) ≡ length (loops_in callers)
of_callers [] = refl
of_callers (frame ∷ callers) =
    length-append (map start_of frame.loops) (starts_in (map spot_of callers))
    ∙ ap (λ k. k + length (starts_in (map spot_of callers))) (mapped frame.loops)
    ∙ ap (λ k. length frame.loops + k) (of_callers callers) ∙ sym (length-append frame.loops (loops_in callers))

pub as_many : (nodes : List Node) (ground : Ground) (number : ℕ) (s : State) (node : Node)
    → IterationsAreOpen → AreLinked ground.library ground.entry nodes → numbered nodes number ≡ Some node
    → StandsBy nodes ground number s
    → length node.stand.iterations ≡ length (s.frames.running.loops ++ loops_in s.frames.callers)
as_many nodes ground number s node iterations linked is st =
    let same : node.stand ≡ st.stand = same_stand nodes ground.entry number node st.stand is st.at in
    let position : node.stand.position ≡ position_of s = ap (λ (x : Stand). x.position) same ∙ st.position in
    in_texts nodes ground.entry number (node.stand.position.running ∷ node.stand.position.callers) node.stand.iterations
    (iterations ground.library ground.entry nodes number node linked is)
    ∙ ap (λ (p : Position). length (starts_in (p.running ∷ p.callers))) position
    ∙ of_callers (s.frames.running ∷ s.frames.callers)

-- what is read
module _ (nodes : List Node) (ground : Ground) (number : ℕ) (s : State) (node : Node)
    (linked : AreLinked ground.library ground.entry nodes) (is : numbered nodes number ≡ Some node)
    (st : StandsBy nodes ground number s) where
  pub position_here : node.stand.position ≡ position_of s
  position_here =
      ap (λ (x : Stand). x.position) (same_stand nodes ground.entry number node st.stand is st.at)
      ∙ st.position

  pub linked_here : IsLinked ground.library (stands nodes ground.entry) number node
  linked_here = linked.each number node is

  pub reads_here : NodesAreSound → element_at s.frames.running.text s.frames.running.place ≡ Ok node.element
  reads_here sound =
      sym (element_at-again s.frames.running.text s.frames.running.place)
      ∙ subst (λ (p : Position). element_at p.running.text p.running.place ≡ Ok node.element) position_here
      (sound ground.library (stands nodes ground.entry) number node linked_here).0

  pub reads_there : read_at (position_of s) ≡ Ok node.element
  reads_there = subst (λ (p : Position). read_at p ≡ Ok node.element) position_here linked_here.reads

  -- a step that leaves nothing to do goes one of the ways
  module _ (along : StepsGoAlongNodes) (left : IsLeftAt node.element s.left)
      (loaded : IsLoaded ground.library s.world.kept) (t : State) (goes : step s ≡ Next t) where
    pub moves : MovesFrom (stands nodes ground.entry) number node s t
    moves = along ground.library ground.entry nodes number node s t linked is position_here left loaded goes

    -- behind a step the element is left, or it is one of several steps
    left_by : MovesFrom (stands nodes ground.entry) number node s t → IsLeftAt node.element t.left
    left_by (Went g) = subst (IsLeftAt node.element) (sym g.done) tt
    left_by (Stayed st) = st.long

    pub left_behind : IsLeftAt node.element t.left
    left_behind = left_by moves

  module _ (along : StepsGoAlongNodes) (left : IsLeftAt node.element s.left)
      (loaded : IsLoaded ground.library s.world.kept) (t : State) (goes : step s ≡ Next t) (done : t.left ≡ None) where
    went_of : MovesFrom (stands nodes ground.entry) number node s t → GoesTo (stands nodes ground.entry) number node s t
    went_of (Went g) = g
    went_of (Stayed st) = let z : None ≡ Some st.n = sym done ∙ st.left in absurd (cc)

    pub went : GoesTo (stands nodes ground.entry) number node s t
    went = went_of (moves along left loaded t goes)

    pub stands_there : StandsBy nodes ground went.target t
    stands_there = record { stand = _; at = went.there.at; position = refl }
