-- There is no node behind the last.
use Rattle.teco_verify.proofs.Prelude.{◌≡◌, refl, ℕ, zero, suc, ◌<◌, List, length, None, arith, Node}
use Rattle.std.proofs.lemmas.Option.{slice_get_past}
use Rattle.teco_verifier.specs.expansion.Node.{numbered}

pub none_behind : (nodes : List Node) (number : ℕ) → length nodes < number → numbered nodes number ≡ None
none_behind nodes zero h = refl
none_behind nodes (suc k) h = slice_get_past nodes k (omega arith)
