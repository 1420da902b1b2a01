-- The law of an element, where a run stands at its node.
use Rattle.teco_paths.proofs.Prelude.{◌≡◌, ℕ, ◌+◌, ◌<◌, ◌≤◌, refl, sym, ap, ◌∙◌, subst, arith, List, [], ◌∷◌, map}
use Rattle.teco_paths.proofs.Prelude.{length, Bool, true, false, Some, Ok, nat_lt, ltb-true, is_some, AreLinked}
use Rattle.teco_paths.proofs.Prelude.{NodesAreSound, AreOpen, Whole, Loop, Kind, Element, element_at, Library, Needs}
use Rattle.teco_paths.proofs.Prelude.{skip_of, route_of, State, step, Case, Outcomes, Goes, StepsTo, Comes, Ground}
use Rattle.teco_paths.proofs.Prelude.{IsAt, IsMet, IsRead, LawAt, Node, numbered, Position, start_of, position_of}
use Rattle.teco_paths.proofs.Prelude.{ways_at}
use Rattle.teco_law_runs.proofs.Targets.{FlowHas, HasStart, flow_has, search_has}
use Rattle.teco_law_runs.proofs.Lookup.{node_of}
use Rattle.teco_model.specs.declared.kind.Flow.{Flow}
use Rattle.teco_model.specs.declared.kind.Flow.TheVariants as flow
use Rattle.teco_model.specs.declared.kind.Goal.TheVariants as goal
use Rattle.teco_model.specs.declared.kind.Kind.TheVariants as kind
use Rattle.teco_model.specs.declared.kind.Page.{Page}
use Rattle.teco_model.specs.declared.kind.Page.TheVariants as page
use Rattle.teco_model.specs.declared.kind.Search.{Search}
use Rattle.teco_model.specs.Searching.{has_colon}
use Rattle.teco_model.specs.State.{frame_of}
use Rattle.teco_rows.specs.States.{Origin}
use Rattle.teco_flow_outcomes.specs.Law.{IsOfIteration, Law, LeadsOn, StandsAt}
use Rattle.teco_model.specs.Files.{Files}
use Rattle.teco_search_outcomes.specs.PageSearches.{LongLaw}
use Rattle.teco_search_outcomes.specs.Pages.{IsOpenFor, PageLaw}
use Rattle.teco_search_outcomes.specs.Searches.{IsAsked, SearchLaw}
use Rattle.teco_paths.specs.Steps.{HasPair}
use Rattle.teco_paths.proofs.Standing.{linked_here, mapped, position_here, reads_here}
use Rattle.teco_verifier.specs.expansion.Ways.{search_ways, element_ways}

-- ---- an element has its pair
inside : (loops : List Loop) → HasStart (map start_of loops) → 1 ≤ length loops
inside [] h = absurd h
inside (loop ∷ outer) h = omega arith

abbrev Matched : Kind → Element → State → Type 0
Matched k e s =
    LeadsOn (route_of k) (skip_of s.frames.running.text (Whole e)).to × IsOfIteration k s.frames.running.loops

flow_matched : (f : Flow) (e : Element) (s : State) → FlowHas f e (position_of s) → Matched (kind.Flow f) e s
flow_matched flow.Iterate e s h = (h, tt)
flow_matched flow.EndTurn e s h = (tt, inside s.frames.running.loops h)
flow_matched flow.Leave e s h = (h.1, inside s.frames.running.loops h.0)
flow_matched (flow.Test t) e s h = (h, tt)
flow_matched flow.Otherwise e s h = (h, tt)
flow_matched flow.EndTest e s h = (tt, tt)
flow_matched flow.GoTo e s h = (h, tt)
flow_matched flow.Comment e s h = (tt, tt)
flow_matched (flow.GoAhead goal.EndTurn) e s h = (h.1, inside s.frames.running.loops h.0)
flow_matched (flow.GoAhead goal.EndTest) e s h = (h, tt)
flow_matched (flow.GoAhead goal.Otherwise) e s h = (h, tt)

kind_matched : (library : Library) (k : Kind) (e : Element) (s : State) (targets : List Position) → HasPair k
    → element_ways library k e (position_of s) ≡ Ok targets → Matched k e s
kind_matched library (kind.Flow f) e s targets told h = flow_matched f e s (flow_has f e (position_of s) targets h)
kind_matched library (kind.Argument a) e s targets told h = (tt, tt)
kind_matched library (kind.Value a) e s targets told h = (tt, tt)
kind_matched library (kind.Query a) e s targets told h = (tt, tt)
kind_matched library (kind.Stack a) e s targets told h = (tt, tt)
kind_matched library (kind.Command a) e s targets told h = (tt, tt)
kind_matched library (kind.Page a) e s targets told h = (tt, tt)
kind_matched library (kind.Call a) e s targets told h = absurd told
kind_matched library (kind.Search a) e s targets told h = absurd told
kind_matched library (kind.File a) e s targets told h = absurd told

has_start : (starts : List ℕ) → 1 ≤ length starts → HasStart starts
has_start [] l = absurd (omega (arith, l))
has_start (start ∷ outer) l = tt

-- ---- where the run stands
module _ (sound : NodesAreSound) (nodes : List Node) (number : ℕ) (e : Element) (read : IsRead nodes number (Some e))
    (ground : Ground) (s : State) (linked : AreLinked ground.library ground.entry nodes)
    (at : IsAt nodes ground number s) (node : Node) (is : numbered nodes number ≡ Some node) where
  reads : element_at s.frames.running.text s.frames.running.place ≡ Ok (Some e)
  reads = reads_here nodes ground number s node linked is at.stands sound ∙ ap Ok (read node is)

  abbrev targets : List Position
  targets = (linked_here nodes ground number s node linked is at.stands).targets

  ways_here : element_ways ground.library e.kind e (position_of s) ≡ Ok targets
  unfolding ways_at
  ways_here =
      subst (λ (p : Position). element_ways ground.library e.kind e p ≡ Ok targets)
      (position_here nodes ground number s node linked is at.stands)
      (ap (λ r. ways_at ground.library r node.stand.position) (sym (read node is))
      ∙ (linked_here nodes ground number s node linked is at.stands).goes)

  stands_at : HasPair e.kind → StandsAt e s
  stands_at pair =
      let m = kind_matched ground.library e.kind e s targets pair ways_here in
      record { reads = reads; matched = record { leads = m.0; inside = m.1 } }

  -- whether it answers
  module _ (x : Search) (kind_is : e.kind ≡ kind.Search x) (answers : Bool)
      (colon : answers ≡ has_colon e (frame_of node.stand.position.running.text))
      (inside : answers ≡ false → 0 < length node.stand.position.running.starts) where
    colon_here : has_colon e s.frames.running ≡ answers
    colon_here =
        sym (colon ∙ ap (λ (p : Position). has_colon e (frame_of p.running.text))
        (position_here nodes ground number s node linked is at.stands))

    search_here : search_ways (has_colon e s.frames.running) (map start_of s.frames.running.loops) e (position_of s)
        ≡ Ok targets
    search_here = subst (λ k. element_ways ground.library k e (position_of s) ≡ Ok targets) kind_is ways_here

    is_inside : answers ≡ false → 1 ≤ length s.frames.running.loops
    is_inside none =
        omega (
          arith,
          inside none,
          ap (λ (p : Position). length p.running.starts) (position_here nodes ground number s node linked is at.stands),
          mapped s.frames.running.loops,
        )

    pub is_asked : (b : Bool) → answers ≡ b → IsAsked b e s.frames.running
    is_asked true is_so = colon_here ∙ is_so
    is_asked false is_so =
        let to =
        search_has (map start_of s.frames.running.loops) e (position_of s) targets
        (subst (λ b. search_ways b (map start_of s.frames.running.loops) e (position_of s) ≡ Ok targets)
        (colon_here ∙ is_so) search_here)
        (has_start _ (omega (arith, is_inside is_so, mapped s.frames.running.loops))) in
        (colon_here ∙ is_so, is_inside is_so, to.0, to.1)

-- the file that a command on pages wants is open
open_for : (p : Page) (needs : Needs) (files : Files) → IsMet needs p → AreOpen needs files → IsOpenFor p files
open_for page.Next needs files met opened = ap is_some (opened.output met).1
open_for page.Write needs files met opened = ap is_some (opened.output met).1
open_for page.Yank needs files met opened = ap is_some (opened.input met).1
open_for page.Append needs files met opened = ap is_some (opened.input met).1

-- an element of one step
at_once : (n : ℕ) (all : Outcomes) (e : Element) (steps : ℕ) (origin : Origin) (s : State)
    → StepsTo (Goes n all e steps origin s) (step s)
    → (more : ℕ) × Comes more (Goes n all e (steps + more) origin s) s (step s)
at_once n all e steps origin s h =
    let same : steps ≡ steps + 0 = omega arith in (0, subst (λ k. StepsTo (Goes n all e k origin s) (step s)) same h)

module _ (sound : NodesAreSound) (nodes : List Node) (needs : Needs) (number : ℕ) (e : Element) (case : Case)
    (all : Outcomes)
    (one : 0 < number) (last : number ≤ length nodes) (read : IsRead nodes number (Some e)) where
  pub law_at_element : HasPair e.kind → Law e case all → LawAt nodes needs number e case all
  law_at_element pair law ground v s steps same linked at begins =
      let n = node_of nodes number one last in
      at_once ground.n all e steps ground.origin s
      (law ground.n v s steps ground.origin
      (stands_at sound nodes number e read ground s linked at n.0 n.1 pair) begins)

  pub law_at_search : (x : Search) (answers : Bool) → e.kind ≡ kind.Search x
      → ((node : Node) (f : Element) → numbered nodes number ≡ Some node → node.element ≡ Some f
      → answers ≡ has_colon f (frame_of node.stand.position.running.text))
      → (answers ≡ false → (node : Node) → numbered nodes number ≡ Some node
      → true ≡ nat_lt 0 (length node.stand.position.running.starts))
      → SearchLaw answers e case all → LawAt nodes needs number e case all
  law_at_search x answers kind_is colon inside law ground v s steps same linked at begins =
      let n = node_of nodes number one last in
      at_once ground.n all e steps ground.origin s
      (law ground.n v s steps ground.origin (reads sound nodes number e read ground s linked at n.0 n.1)
      (is_asked sound nodes number e read ground s linked at n.0 n.1 x kind_is answers
      (colon n.0 e n.1 (read n.0 n.1))
      (λ none. ltb-true 0 (length n.0.stand.position.running.starts) (sym (inside none n.0 n.1))) answers refl)
      begins)

  -- a search over pages, where an output is open
  pub law_at_long_search : (x : Search) (answers : Bool) → e.kind ≡ kind.Search x
      → ((node : Node) (f : Element) → numbered nodes number ≡ Some node → node.element ≡ Some f
      → answers ≡ has_colon f (frame_of node.stand.position.running.text))
      → (answers ≡ false → (node : Node) → numbered nodes number ≡ Some node
      → true ≡ nat_lt 0 (length node.stand.position.running.starts))
      → needs.output ≡ true → LongLaw answers e case all → LawAt nodes needs number e case all
  law_at_long_search x answers kind_is colon inside met law ground v s steps same linked at begins =
      let n = node_of nodes number one last in
      law ground.n v s steps ground.origin (reads sound nodes number e read ground s linked at n.0 n.1)
      (is_asked sound nodes number e read ground s linked at n.0 n.1 x kind_is answers
      (colon n.0 e n.1 (read n.0 n.1))
      (λ none. ltb-true 0 (length n.0.stand.position.running.starts) (sym (inside none n.0 n.1))) answers refl)
      at.begins
      (ap is_some ((subst (λ (x : Needs). AreOpen x s.world.files) same at.files).output met).1) at.whole.world begins

  pub law_at_page : (p : Page) → e.kind ≡ kind.Page p → IsMet needs p → PageLaw p e case all
      → LawAt nodes needs number e case all
  law_at_page p kind_is met law ground v s steps same linked at begins =
      let n = node_of nodes number one last in
      at_once ground.n all e steps ground.origin s
      (law ground.n v s steps ground.origin (record {
        stands = stands_at sound nodes number e read ground s linked at n.0 n.1 (subst HasPair (sym kind_is) tt);
        begins = at.begins;
        file = open_for p needs s.world.files met (subst (λ (x : Needs). AreOpen x s.world.files) same at.files);
      }) begins)
