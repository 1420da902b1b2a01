use Rattle.teco_apply.proofs.Prelude.{refl, by_dropping}
use Rattle.teco_apply.proofs.Parts.{parts-same}
use Rattle.teco_apply.proofs.editing.drop_if_coded.Goals as goal

pub returns-in-Ok-true-clause-touches : goal.returns-in-Ok-true-clause-touches
returns-in-Ok-true-clause-touches g c = λ call.
    by_dropping c.args.machine.now c.run_to_stop.new.self (g.H.Host.files c.args.host.now)
    (g.H.Host.files c.run_to_stop.new.host) (record {
      stopped = c.run_to_stop.result;
      stops = c.run_to_stop.ensures.stops;
      touches = c.run_to_stop.ensures.noted;
    })

pub returns-else-line-clause-touches : goal.returns-else-line-clause-touches
returns-else-line-clause-touches g c =
    λ call. parts-same call c.args.machine.now c.args.machine.now (g.H.Host.files c.args.host.now) refl

pub returns-clause-touches : goal.returns-clause-touches
returns-clause-touches g c = λ call. parts-same call c.args.machine.now c.args.machine.now
    (g.H.Host.files c.args.host.now) refl
