use Rattle.std.proofs.Common.{rules}
use Rattle.teco_edits.proofs.Files.{object_by}
use Rattle.teco_edits.proofs.editing.Editing.edit_as_object.Goals as goal

pub returns : goal.returns
returns g c = object_by c.args.self.now.given.now c.args.self.now.job c.args.name.now _ _ _ _
    c.in_ok-ended.field-0.ended c.replace-typed.result.items (record {
      name = c.args.name;
      changes = c.is_change.result;
      outcome = c.of_runs.result;
      typed = c.deref-3.result;
      counts = c.in_ok-ended.field-0.counts;
      diff = c.unless_empty-diff.result;
      said = c.unless_empty-said.result;
    }) c.in_ok-ended.ensures (search rules) (search rules) (search rules) (search rules) (search rules) (search rules)
    c.in_ok-print_report.ensures
