use Rattle.teco_certificate.proofs.Prelude.{◌≡◌, ◌++◌, List, ◌∷◌, [], Some, None, flat_map, arith, refl, Decides-eqb}
use Rattle.teco_certificate.proofs.Prelude.{strip_prefix_is, AllByRecursion, codes, line, loop_line, IsChosen}
use Rattle.teco_certificate.proofs.Prelude.{RegistersRise, Chosen}
use Rattle.teco_poly.proofs.Items.{all_and, more_read, all_read}
use Rattle.teco_certificate.proofs.Spelling.{other_byte}
use Rattle.teco_certificate.proofs.reading.loops_at.Invariants.{loop_rest, IsLine}
use Rattle.teco_certificate.proofs.reading.loops_at.Goals as goal

-- each has a text, and its registers rise
lines : (cs : List Chosen) → AllByRecursion IsChosen cs → AllByRecursion RegistersRise cs → AllByRecursion IsLine cs
lines [] are rise = tt
lines (c ∷ cs) are rise = (record { chosen = are.0; rises = rise.0 }, lines cs are.1 rise.1)

pub loop-words-init : goal.loop-words-init
loop-words-init c = record {
  rise = rw c.new-loops.ensures.items tt;
  left = λ cs are rise e. rw c.new-loops.ensures.items
      (record { left = cs; are = lines cs are rise; whole = refl; text = e });
}

pub loop-words-preserved : goal.loop-words-preserved
loop-words-preserved c = record {
  rise = rw c.in_ok-push.ensures.items
      (all_and RegistersRise c.loop-words.loops.items c.in_ok-line.line c.loop-words.invariant.rise
      c.in_ok-line.ensures.rise);
  left = λ cs are rise e.
      rw c.in_ok-push.ensures.items
      (more_read (codes "loop ") loop_rest IsLine (line (codes "end"))
      (other_byte (line (codes "end")) (codes "oop ") (codes "nd" ++ 10 ∷ []) 101 108 refl
      (λ (same : 101 ≡ 108). omega arith))
      cs c.loop-words.loops.items c.loop-words.rest.now (c.loop-words.invariant.left cs are rise e) c.in-Some.words.now
      (strip_prefix_is Decides-eqb c.loop-words.rest.now (codes "loop ") (Some c.in-Some.words) c.in-Some.ensures.cases)
      c.in_ok-line.line c.in_ok-line.lines.now
      (λ chosen others is f. c.in_ok-line.ensures.text chosen (flat_map loop_line others ++ line (codes "end"))
      is.chosen is.rises f));
}

pub returns-clause-text : goal.returns-clause-text
returns-clause-text c = λ cs are rise e.
    (all_read (codes "loop ") loop_rest IsLine (line (codes "end"))
    (other_byte (line (codes "end")) (codes "oop ") (codes "nd" ++ 10 ∷ []) 101 108 refl
    (λ (same : 101 ≡ 108). omega arith))
    cs c.loop-words.loops.items c.loop-words.rest.now (c.loop-words.invariant.left cs are rise e)
    (λ words f. strip_prefix_is Decides-eqb c.loop-words.rest.now (codes "loop ") None c.in_default.ensures.cases words
    f)).0
