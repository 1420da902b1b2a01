use Rattle.teco_find.proofs.Prelude.{◌≡◌, ◌+◌, ◌≤◌, Ok, length, fold, IfSome, ◌>>=◌}
use Rattle.teco_model.specs.Pattern as model
use Rattle.teco_find.proofs.pattern.minimum.Given as goal

-- with the parts that are left, what is known so far is the least length
abbrev pub invariant-loop-part : goal.invariant-loop-part
invariant-loop-part l = record {
  fits : IfSome l.least (λ n. n + length l.parts.rest.now ≤ length l.text);
  whole : (model.parts l.parts.rest.now >>= (λ ps. Ok (fold model.with_part l.least ps))) ≡ model.minimum l.text;
}

abbrev pub decreases-loop-part : goal.decreases-loop-part
decreases-loop-part l = length l.parts.rest.now
