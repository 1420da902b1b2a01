use Rattle.teco_paths.proofs.Prelude.{Holds}
use Rattle.teco_paths.proofs.Lists.{all_last}
use Rattle.teco_paths.proofs.sharp.with_constraint.Goals as goal

pub returns : goal.returns
returns c n v s true_of holds = record {
  fits = record {
    measures = true_of.fits.measures;
    constraints =
        all_last (Holds n v) c.args.case.constraints.items c.push.new.self.items c.args.form c.in_ok-push.ensures.items
        true_of.fits.constraints holds;
  };
  shape = true_of.shape;
}
