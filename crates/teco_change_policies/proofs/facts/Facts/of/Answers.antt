use Rattle.teco_change_policies.proofs.facts.Facts.of.Goals as goal

pub returns : goal.returns
returns c = record {
  adds_nothing = c.always_keep.ensures;
  takes_nothing = c.always_keep-2.ensures;
  keeps_line_ends = λ ok old new h.
      c.line_ends_are_kept.ensures c.args.changes.now old new (c.is_each.ensures ok) h;
  keeps_lines = c.always_keep-3.ensures;
  puts_only = c.in_ok-puts_only.ensures;
  takes_only = c.in_ok-takes_only.ensures;
  changes_only_with = c.in_ok-changes_only_with.ensures;
  leaves_lines_without = c.in_ok-leaves_lines_without.ensures;
}
