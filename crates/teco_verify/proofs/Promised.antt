-- What is certified is promised.
use Rattle.teco_verify.proofs.Prelude.{subst, Finding, IsCertified}
use Rattle.teco_law_runs.proofs.Keeping.{end_stays}
use Rattle.teco_law_runs.specs.Framing.{IsFramed}
use Rattle.teco_law_runs.specs.Linked.{ExpansionsAreLinked}
use Rattle.teco_law_runs.specs.Ready.{AreOpen, n_of}
use Rattle.teco_law_tables.specs.Framing.{RunsAreFramed, RunsChangeAsTold, RunsLeaveBelow}
use Rattle.teco_law_tables.specs.Verified.{RunsAreVerified}
use Rattle.teco_model.specs.State.{World}
use Rattle.teco_promise.specs.Promise.{EachRunEnds}
use Rattle.teco_verify.specs.Promised.{promise_of}

-- the laws of tables that it stands on
pub record Laws : Type 0 where
  pub linked : ExpansionsAreLinked
  pub verified : RunsAreVerified
  pub framed : RunsAreFramed
  pub below : RunsLeaveBelow
  pub changed : RunsChangeAsTold

pub certified_ends : Laws → (found : Finding) → IsCertified found.library found.fields → EachRunEnds (promise_of found)
certified_ends laws found certified = record {
  nodes = certified.nodes;
  expanded = certified.expanded;
  runs = λ given world asked ready opened.
      let fields = found.fields in
      let nodes = certified.nodes in
      let linked = laws.linked found.library fields.entry nodes certified.expanded in
      let open' = subst (λ needs. AreOpen needs world.files) certified.needs_are opened in
      let ends =
      laws.verified found.library fields.entry fields.argument given nodes certified.table fields.commands fields.size
      (n_of world) world linked certified.printed asked ready open' in
      record {
        ends = ends;
        on_the_way = λ k t least came. tt;
        at_the_end = tt;
        types = tt;
        framed = record {
          framed = subst (λ (w : World). IsFramed nodes world.kept w.kept)
              (end_stays ends.ends.last ends.new ends.ends.end)
              (laws.framed found.library fields.entry fields.argument given nodes certified.table fields.commands
              fields.size (n_of world) world linked certified.printed asked ready open' ends.steps ends.ends.last
              ends.ends.steps);
          below =
              laws.below found.library fields.entry fields.argument given nodes certified.table fields.commands
              fields.size (n_of world) world linked certified.printed asked ready open' ends.steps ends.new ends.ends;
        };
        changed =
            laws.changed found.library fields.entry fields.argument given nodes certified.table fields.commands
            fields.size (n_of world) world linked certified.printed asked ready open' ends.steps ends.new ends.ends;
      };
}
