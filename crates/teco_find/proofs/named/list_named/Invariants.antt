use Rattle.teco_find.proofs.Prelude.{◌≡◌, ◌++◌, Ok, length, flat_map, ◌>>=◌, named_by, named_in}
use Rattle.teco_model.specs.Pattern as model
use Rattle.teco_find.proofs.named.list_named.Given as goal

-- what is listed so far, and what the parts that are left name, are all
abbrev pub invariant-loop-part : goal.invariant-loop-part
invariant-loop-part l = (model.parts l.parts.rest.now >>= (λ ps. Ok (l.named.items ++ flat_map (named_by l.regs) ps)))
    ≡ named_in l.regs l.text

abbrev pub decreases-loop-part : goal.decreases-loop-part
decreases-loop-part l = length l.parts.rest.now
