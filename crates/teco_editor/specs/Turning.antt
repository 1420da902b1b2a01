-- Bytes that go out to a host.
use Rattle.std.specs.Prelude.{ℕ, ◌≡◌, ◌<◌, List, Result, Ok, Err}
use Rattle.teco_hosts.specs.HostFiles.{Telling, Becomes, after_writing}
use Rattle.teco_hosts.specs.PageCalls.{WritesFront}
use Rattle.teco_hosts.specs.declared.fault.Fault.{Fault}
use Rattle.teco_hosts.specs.declared.fault.Fault.TheVariants.{NoFile, In, Out, Full, Memory}

-- The bytes were written; or with a fault, which is counted, some from their front; or memory was refused, before
-- the host was called.
abbrev pub GoesOut : List ℕ → Result (Unit {0}) Fault → Telling → Telling → ℕ → ℕ → Type 0
GoesOut bytes (Ok done) old new f g = Becomes (after_writing bytes) old new × (g ≡ f)
GoesOut bytes (Err NoFile) old new f g = ⊥
GoesOut bytes (Err In) old new f g = ⊥
GoesOut bytes (Err Out) old new f g = WritesFront bytes old new × (f < g)
GoesOut bytes (Err Full) old new f g = ⊥
GoesOut bytes (Err Memory) old new f g = (new ≡ old) × (g ≡ f)
