-- Pairs that are joined from the top down.
use Rattle.teco_facts.proofs.Prelude.{◌++◌, List, Result, Ok, Err, RefusalReason, Pushed}

-- these pairs, and behind them what is joined
abbrev pub behind : List Pushed → Result (List Pushed) RefusalReason → Result (List Pushed) RefusalReason
behind pairs (Ok below) = Ok (pairs ++ below)
behind pairs (Err why) = Err why
