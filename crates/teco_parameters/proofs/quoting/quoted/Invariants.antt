use Rattle.std.proofs.Common.{◌≡◌, take}
use Rattle.std.specs.Prelude.{flat_map}
use Rattle.teco_parameters.specs.Quoting.{quotation}
use Rattle.teco_parameters.proofs.quoting.quoted.Given as goal

abbrev pub invariant-loop-byte : goal.invariant-loop-byte
invariant-loop-byte l = l.search.items ≡ flat_map quotation (take l.byte-index l.text)
