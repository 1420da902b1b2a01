use Rattle.std.proofs.Common.{◌≡◌, ◌*◌, ◌≤◌, take}
use Rattle.std.specs.Prelude.{sum_by}
use Rattle.teco_base.specs.declared.TheConstants.{LIMIT}
use Rattle.teco_model.specs.Registers.{held_length_of_pair}
use Rattle.teco_regs.proofs.regs.held_in.Given as goal

abbrev pub invariant-loop-pair : goal.invariant-loop-pair
invariant-loop-pair l = record {
  so_far : l.held ≡ sum_by held_length_of_pair (take l.pair-index l.pairs);
  within : l.held ≤ LIMIT * l.pair-index;
}
