-- An element that passes, and what a run is at in the midst of it.
use Rattle.teco_law_tables.proofs.Prelude.{◌≡◌, ◌⊎◌, inl, inr, ℕ, suc, ◌≤◌, ◌<◌, sym, ap, ◌∙◌, subst, arith, List}
use Rattle.teco_law_tables.proofs.Prelude.{Option, Some, Ok, cases_order, element_at-again, Element, element_at, Pair}
use Rattle.teco_law_tables.proofs.Prelude.{Reaches, run, State, End, step, Library, NodesAreSound, Node, stands}
use Rattle.teco_law_tables.proofs.Prelude.{Position, AreOpen, Passes, ElementsPass, OpenTurn, IsDescribed, IsLong}
use Rattle.teco_law_tables.proofs.Prelude.{needs_in, Table, same_next}
use Rattle.teco_law_tables.proofs.Ground.{Ground, Arrival}

-- the element that is read where a run is described is the node's
pub element_here : NodesAreSound → (ground : Ground) (a : Arrival ground)
    → element_at a.s.frames.running.text a.s.frames.running.place ≡ Ok a.here.node.element
element_here sound ground a =
    sym (element_at-again a.s.frames.running.text a.s.frames.running.place)
    ∙ subst (λ (p : Position). element_at p.running.text p.running.place ≡ Ok a.here.node.element) a.here.position
    (sound ground.library (stands ground.nodes ground.entry) a.number a.here.node
    (ground.are.each a.number a.here.node a.here.at)).0

-- work is left at the element, where it began
pub record IsAmid (read : Option Element) (s u : State) : Type 0 where
  pub n : ℕ
  pub left : u.left ≡ Some n
  pub frames : u.frames ≡ s.frames
  pub long : IsLong read

-- so it is after each of some steps
abbrev pub AreAmid : Option Element → State → ℕ → Type 0
AreAmid read s steps = (k : ℕ) (u : State) → 0 < k → k ≤ steps → Reaches k s u → IsAmid read s u

pub none_amid : (read : Option Element) (s : State) → AreAmid read s 0
none_amid read s k u some l came = absurd (omega (arith, some, l))

pub one_state : (k : ℕ) (s u v : State) → Reaches k s u → Reaches k s v → u ≡ v
one_state k s u v h g = same_next u v (sym h ∙ g)

pub more_amid : (read : Option Element) (s v : State) (steps : ℕ) → AreAmid read s steps → Reaches (suc steps) s v
    → IsAmid read s v → AreAmid read s (suc steps)
more_amid read s v steps before there amid k u some l came = by (cases_order k (suc steps))
  where
    by : (k ≡ suc steps) ⊎ ((k < suc steps) ⊎ (suc steps < k)) → IsAmid read s u
    by (inl e) = subst (IsAmid read s) (sym (one_state k s u v came (ap (λ k. run k s) e ∙ there))) amid
    by (inr (inl less)) = before k u some (omega (arith, less)) came
    by (inr (inr more)) = absurd (omega (arith, l, more))

pub record Goes
    (library : Library) (entry : ℕ) (nodes : List Node) (table : Table) (n : ℕ) (below : List Pair) (number : ℕ)
    (turns : List OpenTurn) (s : State) (here : IsDescribed library nodes table n below number turns s) :
    Type 0 where
  pub passes : Passes library entry nodes table n below number turns s here
  pub amid : AreAmid here.node.element s passes.before

abbrev pub ElementsGo : Library → ℕ → List Node → Table → ℕ → List Pair → State → Type 0
ElementsGo library entry nodes table n below first =
    (number : ℕ) (turns : List OpenTurn) (steps : ℕ) (s : State) → Reaches steps first s
    → (here : IsDescribed library nodes table n below number turns s) → AreOpen (needs_in nodes table) s.world.files
    → (step s ≡ End s.world) ⊎ Goes library entry nodes table n below number turns s here

pub elements_pass : (library : Library) (entry : ℕ) (nodes : List Node) (table : Table) (n : ℕ) (below : List Pair)
    (first : State) → ElementsGo library entry nodes table n below first
    → ElementsPass library entry nodes table n below first
elements_pass library entry nodes table n below first go number turns steps s reached here files =
    by (go number turns steps s reached here files)
  where
    by : (step s ≡ End s.world) ⊎ Goes library entry nodes table n below number turns s here
        → (step s ≡ End s.world) ⊎ Passes library entry nodes table n below number turns s here
    by (inl e) = inl e
    by (inr g) = inr g.passes
