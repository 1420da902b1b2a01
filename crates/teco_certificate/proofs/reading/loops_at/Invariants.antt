use Rattle.teco_certificate.proofs.Prelude.{◌≡◌, ◌++◌, ℕ, List, length, flat_map, AllByRecursion, codes, line}
use Rattle.teco_certificate.proofs.Prelude.{chosen_text, loop_line, IsChosen, RegistersRise, Chosen}
use Rattle.teco_poly.proofs.Items.{AreLeft}
use Rattle.teco_certificate.proofs.reading.loops_at.Given as goal

abbrev pub loop_rest : Chosen → List ℕ
loop_rest c = line (chosen_text c)

-- such a line has a text, and its registers rise
pub record IsLine (line : Chosen) : Type 0 where
  pub chosen : IsChosen line
  pub rises : RegistersRise line

-- of whatever loops there are, those that are read and those that are left are all; the registers of each that is read
-- rise
abbrev pub invariant-loop-words : goal.invariant-loop-words
invariant-loop-words l = record {
  rise : AllByRecursion RegistersRise l.loops.items;
  left : (cs : List Chosen) → AllByRecursion IsChosen cs → AllByRecursion RegistersRise cs
      → l.fn.text ≡ flat_map loop_line cs ++ line (codes "end")
      → AreLeft (codes "loop ") loop_rest IsLine (line (codes "end")) cs l.loops.items l.rest;
}

abbrev pub decreases-loop-words : goal.decreases-loop-words
decreases-loop-words l = length l.rest
