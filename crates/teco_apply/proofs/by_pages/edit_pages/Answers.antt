use Rattle.teco_apply.proofs.by_pages.edit_pages.Goals as goal

pub returns-in-First-clause-edits : goal.returns-in-First-clause-edits
returns-in-First-clause-edits g c = rw c.in-First.is c.edit_once.ensures.edits

pub returns-in-Each-clause-edits : goal.returns-in-Each-clause-edits
returns-in-Each-clause-edits g c = rw c.in-Each.is c.edit_each.ensures.edits

pub returns-in-Whole-clause-edits : goal.returns-in-Whole-clause-edits
returns-in-Whole-clause-edits g c = rw c.in-Whole.is c.edit_whole.ensures.edits
