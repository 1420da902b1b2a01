use Rattle.teco_claims.proofs.Prelude.{◌≡◌, ℕ, List, ◌++◌, ◌∷◌, [], Some, None, flat_map, arith, refl, Decides-eqb}
use Rattle.teco_claims.proofs.Prelude.{strip_prefix_is, codes, ◌≢◌, IsCut, line, cut_words, cut_text}
use Rattle.teco_claims.proofs.Claiming.{other_byte, ends_cuts}
use Rattle.teco_poly.proofs.Items.{more_read, all_read}
use Rattle.teco_claims.proofs.Rising.{all_and}
use Rattle.teco_claims.proofs.reading.cuts_at.Goals as goal

no_cut : (words : List ℕ) → line (codes "end") ≢ codes "cut " ++ words
no_cut =
    other_byte (line (codes "end")) (codes "ut ") (codes "nd" ++ 10 ∷ []) 101 99 refl (λ (same : 101 ≡ 99). omega arith)

pub loop-words-init : goal.loop-words-init
loop-words-init c = record {
  are = rw c.new-cuts.ensures.items tt;
  left = λ cs are e. rw c.new-cuts.ensures.items (record { left = cs; are = are; whole = refl; text = e });
}

pub loop-words-preserved : goal.loop-words-preserved
loop-words-preserved c = record {
  are =
      rw c.in_ok-push.ensures.items
      (all_and IsCut c.loop-words.cuts.items c.in_ok-cut.cut c.loop-words.invariant.are c.in_ok-cut.ensures.is);
  left = λ cs are e.
      rw c.in_ok-push.ensures.items
      (more_read (codes "cut ") cut_words IsCut (line (codes "end")) no_cut
      cs c.loop-words.cuts.items c.loop-words.rest.now (c.loop-words.invariant.left cs are e) c.in-Some.words.now
      (strip_prefix_is Decides-eqb c.loop-words.rest.now (codes "cut ") (Some c.in-Some.words) c.in-Some.ensures.cases)
      c.in_ok-cut.cut c.in_ok-cut.lines.now
      (λ cut others is f. c.in_ok-cut.ensures.text cut (flat_map cut_text others ++ line (codes "end")) is
      (ends_cuts others) f));
}

pub returns-clause-text : goal.returns-clause-text
returns-clause-text c = λ cs are e.
    (all_read (codes "cut ") cut_words IsCut (line (codes "end")) no_cut
    cs c.loop-words.cuts.items c.loop-words.rest.now (c.loop-words.invariant.left cs are e)
    (strip_prefix_is Decides-eqb c.loop-words.rest.now (codes "cut ") None c.in_default.ensures.cases)).0
