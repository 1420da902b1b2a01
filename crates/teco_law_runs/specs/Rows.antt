-- Expansions worked by hand.
use Rattle.std.specs.Prelude.{◌≡◌, ℕ, List, [], ◌∷◌, ◌++◌, map, codes, true, false, Some, Result, Ok, Err}
use Rattle.teco_base.specs.declared.bytes.TheConstants.{ESC}
use Rattle.teco_model.specs.Macros.{Library}
use Rattle.teco_verifier.specs.expansion.Refusal.{Reason, Fault, Unpaired, NoMacro, Recursion, TooLarge, Refusal, ◌>>=◌}
use Rattle.teco_verifier.specs.expansion.Node.{Node, place_of}
use Rattle.teco_verifier.specs.expansion.Expansion.{expansion}

-- libraries of A, and of A and B
abbrev pub only : List ℕ → Library
only a = Some a ∷ []

abbrev pub pair : List ℕ → List ℕ → Library
pair a b = Some a ∷ Some b ∷ []

-- one register's text calls the next one's
abbrev pub chain : List ℕ → Library
chain [] = []
chain (name ∷ names) = Some (77 ∷ name ∷ []) ∷ chain names

-- of each node the place in its text, and the numbers that its ways lead to
abbrev pub place_and_ways : Node → ℕ × List ℕ
place_and_ways node = (place_of node, node.ways)

-- of each node its register, and the numbers of the < whose iterations are open
abbrev pub register_and_iterations : Node → ℕ × List ℕ
register_and_iterations node = (node.register, node.stand.iterations)

-- what is told of the nodes of the expansion of A
abbrev pub told : {X : Type 0} → (Node → X) → Library → Result (List X) Refusal
told f library = do
  nodes ← expansion library 0
  Ok (map f nodes)

-- whether the expansion of A is refused, with the reason in a register at a place
abbrev pub Refuses : Library → Reason → ℕ → ℕ → Type 0
Refuses library reason register place =
    expansion library 0 ≡ Err (record { reason = reason; register = register; place = place })

-- two elements with an ESC between them
abbrev pub then : List ℕ → List ℕ → List ℕ
then first second = first ++ ESC ∷ second

-- each occurrence of foo gets a mark
abbrev pub mark_foo : Library
mark_foo = only (then (codes "J<Sfoo") (then (codes ";I!") (codes ">")))

abbrev pub jumps_out : Library
jumps_out = only (then (codes "<%AOout") (codes ">!out!"))

pub record WorkedExpansions : Type 0 where
  pub marks :
      told place_and_ways mark_foo
      ≡ Ok ((0, 2 ∷ []) ∷ (0, 3 ∷ []) ∷ (1, 4 ∷ 8 ∷ []) ∷ (2, 5 ∷ []) ∷ (7, 6 ∷ 8 ∷ []) ∷ (8, 7 ∷ [])
      ∷ (11, 4 ∷ 8 ∷ []) ∷ (12, 9 ∷ []) ∷ [])
  pub marks_inside :
      told register_and_iterations mark_foo
      ≡ Ok ((0, []) ∷ (0, []) ∷ (0, []) ∷ (0, 3 ∷ []) ∷ (0, 3 ∷ []) ∷ (0, 3 ∷ []) ∷ (0, 3 ∷ [])
      ∷ (0, []) ∷ [])
  pub counted :
      told place_and_ways (only (codes "3<.=>"))
      ≡ Ok ((0, 2 ∷ []) ∷ (0, 3 ∷ []) ∷ (1, 4 ∷ 7 ∷ []) ∷ (2, 5 ∷ []) ∷ (3, 6 ∷ []) ∷ (4, 4 ∷ 7 ∷ [])
      ∷ (5, 8 ∷ []) ∷ [])
  pub branches :
      told place_and_ways (only (codes "1\"G2=|3='"))
      ≡ Ok ((0, 2 ∷ []) ∷ (0, 3 ∷ []) ∷ (1, 4 ∷ 7 ∷ []) ∷ (3, 5 ∷ []) ∷ (4, 6 ∷ []) ∷ (5, 10 ∷ [])
      ∷ (6, 8 ∷ []) ∷ (7, 9 ∷ []) ∷ (8, 10 ∷ []) ∷ (9, 11 ∷ []) ∷ [])
  -- each call is expanded anew, and what it opens counts with what its callers have open
  pub calls :
      told place_and_ways (pair (codes "3<MBMB1;>") (codes "B"))
      ≡ Ok ((0, 2 ∷ []) ∷ (0, 3 ∷ []) ∷ (1, 4 ∷ 13 ∷ []) ∷ (2, 5 ∷ []) ∷ (0, 6 ∷ []) ∷ (1, 7 ∷ [])
      ∷ (4, 8 ∷ []) ∷ (0, 9 ∷ []) ∷ (1, 10 ∷ []) ∷ (6, 11 ∷ []) ∷ (7, 12 ∷ 13 ∷ []) ∷ (8, 4 ∷ 13 ∷ [])
      ∷ (9, 14 ∷ []) ∷ [])
  pub calls_inside :
      told register_and_iterations (pair (codes "3<MB>") (codes "<2;>"))
      ≡ Ok ((0, []) ∷ (0, []) ∷ (0, []) ∷ (0, 3 ∷ []) ∷ (1, 3 ∷ []) ∷ (1, 5 ∷ 3 ∷ []) ∷ (1, 5 ∷ 3 ∷ [])
      ∷ (1, 5 ∷ 3 ∷ []) ∷ (1, 3 ∷ []) ∷ (0, 3 ∷ []) ∷ (0, []) ∷ [])
  pub tag :
      told place_and_ways jumps_out
      ≡ Ok ((0, 2 ∷ []) ∷ (0, 3 ∷ 6 ∷ []) ∷ (1, 4 ∷ []) ∷ (3, 7 ∷ []) ∷ (8, 3 ∷ 6 ∷ []) ∷ (9, 7 ∷ [])
      ∷ (14, 8 ∷ []) ∷ [])
  -- F> goes to its >, blanks before that or not, F| past the | of its level, and F' past its '
  pub to_turn_end :
      told place_and_ways (only (codes "3<F>= >"))
      ≡ Ok ((0, 2 ∷ []) ∷ (0, 3 ∷ []) ∷ (1, 4 ∷ 7 ∷ []) ∷ (2, 6 ∷ []) ∷ (4, 6 ∷ []) ∷ (6, 4 ∷ 7 ∷ [])
      ∷ (7, 8 ∷ []) ∷ [])
  pub past_branches :
      told place_and_ways (only (codes "0\"EF|F'| ='"))
      ≡ Ok ((0, 2 ∷ []) ∷ (0, 3 ∷ []) ∷ (1, 4 ∷ 7 ∷ []) ∷ (3, 7 ∷ []) ∷ (5, 9 ∷ []) ∷ (7, 9 ∷ [])
      ∷ (9, 8 ∷ [])
      ∷ (10, 9 ∷ []) ∷ (11, 10 ∷ []) ∷ [])
  -- a search without a colon leaves its iteration where it misses
  pub search_alone :
      told place_and_ways (only (then (codes "<Sa") (codes ">")))
      ≡ Ok ((0, 2 ∷ []) ∷ (0, 3 ∷ 5 ∷ []) ∷ (1, 4 ∷ 5 ∷ []) ∷ (4, 3 ∷ 5 ∷ []) ∷ (5, 6 ∷ []) ∷ [])
  pub names : told (λ node. node.names_macro) (pair (codes "5UAQC") [])
      ≡ Ok (true ∷ false ∷ true ∷ false ∷ false ∷ [])
  -- faults
  pub fault : Refuses (only (codes "1=?")) Fault 0 2
  pub fault_behind_blanks : Refuses (only (codes "1= ?")) Fault 0 3
  pub cut_off : Refuses (only (codes "1Ia")) Fault 0 1
  pub search_text : Refuses (only (then (codes "1S^N") [])) Fault 0 1
  -- what has no partner, or overlaps
  pub branch_without_end : Refuses (only (codes "5\"N1=")) Unpaired 0 1
  pub iteration_without_end : Refuses (only (codes "1\"N<'")) Unpaired 0 3
  pub end_without_iteration : Refuses (only (codes "1=>")) Unpaired 0 2
  pub leaves_the_callers : Refuses (pair (codes "3<MB>") (codes "1;")) Unpaired 1 1
  pub ahead_of_no_iteration : Refuses (only (codes "1=F>>")) Unpaired 0 2
  pub ahead_without_end : Refuses (only (codes "1<F'>")) Unpaired 0 2
  pub no_tag : Refuses (only (then (codes "1=Oa") [])) Unpaired 0 2
  pub overlap : Refuses (only (codes "2<0\"N>'")) Unpaired 0 3
  pub overlap_of_end : Refuses (only (codes "1\"N2<'>")) Unpaired 0 1
  pub overlap_of_ahead : Refuses (only (codes "0\"E1<F'>'")) Unpaired 0 5
  pub overlap_before_fault : Refuses (only (codes "2<0\"N>'?")) Unpaired 0 3
  -- an overlap comes before what is refused on the way; an iteration without an end is none
  pub overlap_before_fault_inside : Refuses (only (codes "1\"E2<?'>")) Unpaired 0 1
  pub overlap_before_call : Refuses (only (codes "1\"E2<MC'>")) Unpaired 0 1
  pub overlap_before_iteration : Refuses (only (codes "1\"E2<<'>")) Unpaired 0 1
  pub overlap_of_other_branch : Refuses (only (codes "1\"E|2<MC'>")) Unpaired 0 3
  pub end_alone_inside : Refuses (only (codes "1\"E>'>")) Unpaired 0 3
  pub fault_within : Refuses (only (codes "1<?>")) Fault 0 2
  -- calls
  pub no_entry : Refuses [] NoMacro 0 0
  pub no_macro : Refuses (only (codes "1=MB")) NoMacro 0 2
  pub calls_itself : Refuses (only (codes "MA")) Recursion 0 0
  pub recursion : Refuses (pair (codes "1=MB") (codes "2MA")) Recursion 1 1
  -- too much that is open
  pub many_iterations : Refuses (only (codes "<<<<<<<>>>>>>>")) TooLarge 0 6
  pub many_iterations_of_callers : Refuses (pair (codes "<<<MB>>>") (codes "<<<<>>>>")) TooLarge 1 3
  pub many_calls : Refuses (chain (codes "BCDEFGH")) TooLarge 5 0
