-- What is said of a piece, from what was written of it.
use Rattle.teco_session.proofs.Prelude.{◌≡◌, ℕ, List, Option, Bool, Result, Ok, Err, refl, IfOk, Said, Writes}
use Rattle.teco_session.proofs.Prelude.{SessionFault, Done}

pub said-writes : (sink sunk : Option (List ℕ)) (lines : List ℕ) (line : Result Bool SessionFault) (exit : Bool)
    (result : Result Done SessionFault) → Said line exit result → Writes sink sunk lines line
    → Writes sink sunk lines result
said-writes sink sunk lines (Ok line) exit result said writes = rw said writes
said-writes sink sunk lines (Err fault) exit result said writes = rw said writes

pub said-coded : (coded : Bool) (line : Result Bool SessionFault) (exit : Bool) (result : Result Done SessionFault)
    → Said line exit result → IfOk line (λ l. l ≡ coded) → IfOk result (λ done. done.coded ≡ coded)
said-coded coded (Ok line) exit result said told = rw said told
said-coded coded (Err fault) exit result said told = rw said tt

pub said-exit : (line : Result Bool SessionFault) (exit : Bool) (result : Result Done SessionFault)
    → Said line exit result → IfOk result (λ done. done.exit ≡ exit)
said-exit (Ok line) exit result said = rw said refl
said-exit (Err fault) exit result said = rw said tt
