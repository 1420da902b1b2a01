use Rattle.teco_jobs.proofs.jobs.edit_observed.Goals as goal

pub returns-clause-edits : goal.returns-clause-edits
returns-clause-edits g c = (
  c.terms-terms.result,
  record { strict = c.terms-terms.ensures.strict; premise = c.terms-terms.ensures.premise },
  c.edit_file.ensures.edits,
)
