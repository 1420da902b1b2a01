use Rattle.teco_certificate.proofs.Prelude.{◌≡◌, ◌++◌, ◌∷◌, ◌≤◌, ℕ, List, length, flat_map, AllByRecursion, codes, LF}
use Rattle.teco_certificate.proofs.Prelude.{longer_text, behind_comma, IsLongerText, TextsRise, AreOfRegisters}
use Rattle.teco_certificate.proofs.Prelude.{LongerText}
use Rattle.teco_poly.proofs.Items.{AreLeft}
use Rattle.teco_certificate.proofs.reading.others_at.Given as goal

-- of whatever texts there are, those that are read and those that are left are all; those that are read rise
abbrev pub invariant-loop-words : goal.invariant-loop-words
invariant-loop-words l = record {
  within : length l.rest ≤ length l.fn.text;
  rise : TextsRise l.longer.items;
  registers : AreOfRegisters l.longer.items;
  left : (ls : List LongerText) (rest : List ℕ) → AllByRecursion IsLongerText ls → l.fn.text ≡ flat_map behind_comma ls
      ++ LF ∷ rest
      → AreLeft (codes ",") longer_text IsLongerText (LF ∷ rest) (l.fn.longer.items ++ ls) l.longer.items l.rest;
}

abbrev pub decreases-loop-words : goal.decreases-loop-words
decreases-loop-words l = length l.rest
