-- Room for one more.
use Rattle.std.specs.Prelude.{◌<◌, length}
use Rattle.teco_expansion.specs.declared.few.TheConstants.{ROOM}
use Rattle.teco_expansion.specs.declared.visit.Visit.{Visit}
use Rattle.teco_expansion.specs.Few.{listed}

-- one more call and one more iteration can be open
pub record HasRoom (v : Visit) : Type 0 where
  pub starts : length (listed v.stand.position.running.starts) < ROOM
  pub calls : length (listed v.stand.position.callers) < ROOM
  pub iterations : length (listed v.stand.iterations) < ROOM
  pub registers : length (listed v.registers) < ROOM
