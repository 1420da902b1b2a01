-- Each step keeps the registers that its element does not name; so a library stays loaded.
use Rattle.teco_law_runs.proofs.Prelude.{◌≡◌, ℕ, List, Bool, false, Option, Some, None, refl, sym, ap, ◌∙◌, Element}
use Rattle.teco_law_runs.proofs.Prelude.{Library, macro, is_macro, pair_of, Kept, World, Kind, Keeps, option_map_or}
use Rattle.teco_law_runs.proofs.Prelude.{kept_by_step, Upkeep}
use Rattle.teco_model.specs.Names.{named_by, written_by, sets_mode}
use Rattle.teco_model.specs.Registers.{Registers}
use Rattle.teco_verifier.specs.expansion.Names.{writes_macro}
use Rattle.teco_law_runs.specs.Loaded.{KeepsBy, StepsKeep, StaysLoaded}
use Rattle.teco_law_runs.proofs.StepWays.{as_element}
use Rattle.teco_law_runs.proofs.Texts.{apart, keeps_number, keeps_other, still_loaded}

module _ (named wrote : Option ℕ) (modes : Bool) where
  kept_alike : (old before after : Kept) → after.registers ≡ before.registers → after.mode ≡ before.mode
      → Keeps named wrote modes old before → Keeps named wrote modes old after
  kept_alike old before after registers mode k = record {
    pairs = λ r apart. ap (pair_of r) registers ∙ k.pairs r apart;
    texts = λ r apart. ap (λ (registers : Registers). (pair_of r registers).text) registers ∙ k.texts r apart;
    mode = λ e. mode ∙ k.mode e;
  }

  kept_on : (old before after : Kept) → Keeps named wrote modes old before → Keeps named wrote modes before after
      → Keeps named wrote modes old after
  kept_on old before after k l = record {
    pairs = λ r apart. l.pairs r apart ∙ k.pairs r apart;
    texts = λ r apart. l.texts r apart ∙ k.texts r apart;
    mode = λ e. l.mode e ∙ k.mode e;
  }

  kept_itself : (old : Kept) → Keeps named wrote modes old old
  kept_itself old = record { pairs = λ r apart. refl; texts = λ r apart. refl; mode = λ e. refl }

-- what a kind leaves of registers and search mode is kept by its elements
registers_keep : (k : Kind) (old : Kept)
    → Upkeep k (λ (world : World). Keeps (named_by k) (written_by k) (sets_mode k) old world.kept)
registers_keep k old = record {
  edited = λ before after registers mode files h. kept_alike _ _ _ old before.kept after.kept registers mode h;
  numbered = λ world r n names h. kept_on _ _ _ old world.kept _ h
      (keeps_number (named_by k) (written_by k) (sets_mode k) r (sym names) world.kept n);
  paired = λ world r pair names writes h. kept_on _ _ _ old world.kept _ h
      (keeps_other (named_by k) (written_by k) (sets_mode k) r (sym names) world.kept pair (sym writes));
  stacked = λ world stack is h. record { pairs = h.pairs; texts = h.texts; mode = h.mode };
  moded = λ world mode sets h. record { pairs = h.pairs; texts = h.texts; mode = λ e. absurd (cc) };
  read = λ world h. h;
  written = λ world bytes h. h;
  filed = λ before after files registers mode h. kept_alike _ _ _ old before.kept after.kept registers mode h;
}

pub steps_keep : StepsKeep
steps_keep s t None reads goes =
    kept_by_step s t (λ (world : World). Keeps None None false s.world.kept world.kept) None (as_element s None reads)
    tt (kept_itself None None false s.world.kept) goes
steps_keep s t (Some e) reads goes = kept_by_step s t _ (Some e) (as_element s (Some e) reads)
    (registers_keep e.kind s.world.kept) (kept_itself _ _ _ s.world.kept) goes

-- ---- a library
-- what is written is none of its registers
not_written : (library : Library) (wrote : Option ℕ) (r : ℕ) (text : List ℕ)
    → option_map_or (is_macro library) wrote false ≡ false → macro library r ≡ Some text → wrote ≡ Some r → ⊥
not_written library wrote r text none is e =
    let same : option_map_or (is_macro library) (Some r) false ≡ false =
    ap (λ wrote. option_map_or (is_macro library) wrote false) (sym e) ∙ none in
    apart library r r text same is refl

texts_keep : (library : Library) (read : Option Element) (old new : Kept) → writes_macro library read ≡ false
    → KeepsBy read old new → (r : ℕ) (text : List ℕ) → macro library r ≡ Some text
    → (pair_of r new.registers).text ≡ (pair_of r old.registers).text
texts_keep library None old new none keeps r text is = keeps.texts r (λ e. absurd (cc))
texts_keep library (Some e) old new none keeps r text is =
    keeps.texts r (not_written library (written_by e.kind) r text none is)

pub stays_loaded : StaysLoaded
stays_loaded library s t read loaded none reads goes =
    still_loaded library s.world.kept t.world.kept loaded
    (texts_keep library read s.world.kept t.world.kept none (steps_keep s t read reads goes))
