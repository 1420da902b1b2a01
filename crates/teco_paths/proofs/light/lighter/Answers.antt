use Rattle.teco_paths.proofs.Prelude.{subst, sym, All, Holds}
use Rattle.teco_paths.proofs.Lists.{all_where_true}
use Rattle.teco_paths.proofs.light.lighter.Goals as goal

pub returns : goal.returns
returns c n s whole d = (
  d.0,
  record {
    fits = record {
      measures = d.1.fits.measures;
      constraints =
          subst (All (Holds n d.0)) (sym c.retain.ensures.filtered.4)
          (all_where_true (Holds n d.0) c.retain.ensures.filtered.0 c.args.case.constraints.items
          d.1.fits.constraints);
    };
    shape = d.1.shape;
  },
)
