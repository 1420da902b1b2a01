use Rattle.std.proofs.Common.{sym, arith}
use Rattle.teco_lex.proofs.Modifiers.{again, run_inside}
use Rattle.teco_lex.proofs.readings.Readings.read.Goals as goal

pub returns-then-stands_in_run : goal.returns-then-stands_in_run
returns-then-stands_in_run c =
    let long = c.stands_in_run.ensures c.if-stands_in_run.true in
    let behind = rw c.if-self.true at c.self.invariant.1 in
    rw (← c.self.view_is) (record {
      value = sym (again c.self.inside.text.now c.self.inside.place long.0 behind.1 long.1);
      next = omega arith;
      within = run_inside c.self.inside.text.now c.self.inside.place long.0 long.1;
    })
