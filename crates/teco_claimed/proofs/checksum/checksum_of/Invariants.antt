use Rattle.std.proofs.Common.{◌≡◌, ◌-◌}
use Rattle.teco_base.specs.declared.TheConstants.{REGISTERS}
use Rattle.teco_claimed.proofs.Sums.{sum_behind}
use Rattle.teco_claimed.specs.Checksum.{checksum_of}
use Rattle.teco_claimed.proofs.checksum.checksum_of.Given as goal

-- the texts from this register on make the sum the checksum
abbrev pub invariant-loop-place : goal.invariant-loop-place
invariant-loop-place l = sum_behind l.library.texts l.nodes l.sum l.place (REGISTERS - l.place)
    ≡ checksum_of l.library.texts l.nodes
