-- A run keeps what no element of its macro names, since each element that it reads is one of a node.
use Rattle.teco_law_tables.proofs.Prelude.{◌≡◌, ℕ, zero, suc, ◌+◌, ◌<◌, List, [], false, Option, Some, None, Ok, refl}
use Rattle.teco_law_tables.proofs.Prelude.{sym, ap, ◌∙◌, subst, arith, ◌^◌, REGISTERS, IterationsEnd, BeginsPending}
use Rattle.teco_law_tables.proofs.Prelude.{call_given, start_pending, AreOpen, start_given, Element, ArgumentRange}
use Rattle.teco_law_tables.proofs.Prelude.{IsAsked, Reaches, run, Kept, Next, State, World, start, step}
use Rattle.teco_law_tables.proofs.Prelude.{Node, numbered, position_of, position_of_frames, read_at, needs_in, CallLaws}
use Rattle.teco_law_tables.proofs.Prelude.{other_next, one_step, reaches_later, reaches_none}
use Rattle.teco_law_runs.proofs.Runs.{over_reads}
use Rattle.teco_law_runs.specs.Loaded.{StepsKeep}
use Rattle.teco_law_tables.proofs.Described as described
use Rattle.teco_law_tables.proofs.Described.{at_first, ready_call}
use Rattle.teco_law_tables.proofs.Ending as ending
use Rattle.teco_law_tables.proofs.Ending.{ClosedCall, Course, course}
use Rattle.teco_law_tables.proofs.Underway.{ElementsGo}
use Rattle.teco_law_tables.proofs.Verifying as verifying
use Rattle.teco_law_runs.proofs.Framing.{run_framed}
use Rattle.teco_law_runs.specs.Framing.{IsFramed, OfNode, OfNone, ReadsIn}
use Rattle.teco_law_tables.specs.Framing.{RunsAreFramed}

-- ---- what is read on the way
module _ (laws : ending.Laws) (c : Course)
    (go : ElementsGo c.library c.entry c.nodes c.table c.n c.below c.first) where
  open c use {library, entry, nodes, table, n, below, are}

  read_here : (number : ℕ) (turns : List _) (s u : State) (at : described.At laws c go number turns s)
      → u.frames ≡ s.frames → ReadsIn nodes u
  read_here number turns s u at same =
      OfNode number at.here.node at.here.at
      (ap read_at (ap position_of_frames same ∙ sym at.here.position)
      ∙ (are.each number at.here.node at.here.at).reads)

  reads_in : (u : State) → described.Comes laws c go u → ReadsIn nodes u
  reads_in u (described.Here number turns at) = read_here number turns u u at refl
  reads_in u (described.Within number turns begun at g k l came) =
      read_here number turns begun u at (g.amid (suc k) u (omega arith) l came).frames
  reads_in u (described.Behind o above) = OfNone (ap read_at (sym o) ∙ over_reads entry)

module _ (laws : ending.Laws) (call : ClosedCall)
    (go : ElementsGo call.library call.entry call.nodes call.table call.n call.world.kept.registers.stack
    (start_given call.entry call.given call.world)) (files : AreOpen (needs_in call.nodes call.table) call.world.files)
  where
    pub reads_there : (steps : ℕ) (s : State) → Reaches steps (course call).first s → ReadsIn call.nodes s
    reads_there steps s came =
        reads_in laws (course call) go s
        (described.comes laws (course call) go (suc steps) steps 1 [] (course call).first s
        (at_first laws call go files)
        (omega arith) came)

    given_framed : StepsKeep → (steps : ℕ) (s : State)
        → Reaches steps (start_given call.entry call.given call.world) s
        → IsFramed call.nodes call.world.kept s.world.kept
    given_framed keep steps s =
        run_framed keep call.nodes (start_given call.entry call.given call.world) steps s
        (λ k u least. reads_there k u)

-- ---- with the argument before the call
module _ (calls : CallLaws) (nodes : List Node) (entry n : ℕ) (world : World) (named : entry < REGISTERS)
    (small : n < 2 ^ 31)
    (framed : (steps : ℕ) (s : State) → Reaches steps (start_pending entry n world) s
    → IsFramed nodes world.kept s.world.kept) where
  digits : BeginsPending entry n world
  digits = calls.pending entry n world named small

  abbrev first : State
  first = start (call_given entry (Some n)) world

  behind_framed : (k : ℕ) (s : State) → Reaches k digits.behind s → IsFramed nodes world.kept s.world.kept
  behind_framed k s came =
      let other = other_next _ _ s (calls.runs k digits.behind (start_pending entry n world) digits.alike) came in
      subst (λ (w : World). IsFramed nodes world.kept w.kept) (sym other.alike.world)
      (framed k other.state other.is)

  digits_framed : (steps : ℕ) (s : State) → Reaches steps first s → IsFramed nodes world.kept s.world.kept
  digits_framed zero s came =
      subst (λ (s : State). IsFramed nodes world.kept s.world.kept) (reaches_none first s came)
      (record { pairs = λ r none. refl; mode = λ none. refl })
  digits_framed (suc k) s came =
      let later : suc k ≡ 1 + k = omega arith in
      behind_framed k s
      (reaches_later 1 k first digits.behind s (one_step first digits.behind digits.goes)
      (subst (λ k. Reaches k first s) later came))

call_framed : (calls : CallLaws) (nodes : List Node) (entry : ℕ) (argument : Option ArgumentRange) (given : Option ℕ)
    (world : World) → entry < REGISTERS → IsAsked argument given
    → ((steps : ℕ) (s : State) → Reaches steps (start_given entry given world) s
    → IsFramed nodes world.kept s.world.kept)
    → (steps : ℕ) (s : State) → Reaches steps (start (call_given entry given) world) s
    → IsFramed nodes world.kept s.world.kept
call_framed calls nodes entry None None world named asked framed = framed
call_framed calls nodes entry (Some range) (Some n) world named asked framed =
    digits_framed calls nodes entry n world named asked.small framed
call_framed calls nodes entry argument given world named asked framed = absurd (grind arith)

pub runs_are_framed : ending.Laws → verifying.Laws → CallLaws → IterationsEnd → StepsKeep → RunsAreFramed
runs_are_framed laws sound calls ends keep library entry argument given nodes table commands most n world are
    printed asked ready files =
    call_framed calls nodes entry argument given world ready.named asked
    (given_framed laws (ready_call library entry argument given nodes table commands most n world are printed
    asked ready) (verifying.elements_go sound ends library entry argument given nodes table commands most n world
    are printed asked ready) files keep)
