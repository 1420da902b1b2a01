use Rattle.teco_paths.proofs.Certain.{certain_end}
use Rattle.teco_paths.proofs.laws.certain_ends.Goals as goal

pub returns : goal.returns
returns c = certain_end (record {
  calls = record {
    steps = c.steps_are_alike.ensures;
    runs = c.runs_are_alike.ensures;
    readings = c.readings_are_alike.ensures;
    pending = c.numbers_are_pending.ensures;
  };
  keep = c.steps_keep.ensures;
  shift = c.steps_shift.ensures;
  told = c.ends_are_told.ensures;
})
