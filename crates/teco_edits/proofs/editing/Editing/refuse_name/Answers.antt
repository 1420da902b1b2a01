use Rattle.std.proofs.Common.{rules, false}
use Rattle.teco_edits.proofs.Files.{no_name_by}
use Rattle.teco_edits.specs.declared.outcome.EditOutcome.TheVariants.{Failed}
use Rattle.teco_edits.proofs.editing.Editing.refuse_name.Goals as goal

pub returns : goal.returns
returns g c = no_name_by c.args.self.now.given.now.prints_objects c.args.name.now _ _ (record {
  name = c.args.name;
  changes = false;
  outcome = Failed;
  typed = c.deref-3.result;
  counts = c.of.result;
  diff = c.unless_empty-diff.result;
  said = c.unless_empty-said.result;
}) c.print_report.result (search rules) (search rules) (search rules) (search rules) (search rules)
    c.print_report.ensures
