use Rattle.teco_find.proofs.Prelude.{◌≡◌, ◌++◌, ◌≤◌, Ok, length, flat_map, ◌>>=◌}
use Rattle.teco_model.specs.Pattern as model
use Rattle.teco_find.proofs.pattern.Pattern.read.Given as goal

-- what is read so far, and what the parts that are left stand for, are the pattern
abbrev pub invariant-loop-items : goal.invariant-loop-items
invariant-loop-items l = record {
  within : length l.parts.rest.now ≤ length l.text;
  none : length l.text ≡ 0 → length l.items.items ≡ 0;
  whole : (model.parts l.parts.rest.now >>= (λ ps. Ok (l.items.items ++ flat_map (model.items_of l.regs l.exact) ps)))
      ≡ model.pattern l.regs l.exact l.text;
}

abbrev pub decreases-loop-items : goal.decreases-loop-items
decreases-loop-items l = length l.parts.rest.now
