use Rattle.teco_find.proofs.Prelude.{◌∙◌, ap, sym, take}
use Rattle.teco_find.proofs.Needled.{begins}
use Rattle.teco_find.proofs.needle.literals_of.Goals as goal

pub returns-after-loop-item-clause-begins : goal.returns-after-loop-item-clause-begins
returns-after-loop-item-clause-begins c =
    begins c.loop-item.literals.items c.loop-item.item-index c.args.items.now c.loop-item.invariant.counted
    c.loop-item.invariant.taken

pub returns-after-loop-item-clause-are : goal.returns-after-loop-item-clause-are
returns-after-loop-item-clause-are c =
    c.loop-item.invariant.taken ∙ ap (λ n. take n c.args.items.now) (sym c.loop-item.invariant.counted)

pub returns-in_default-clause-begins : goal.returns-in_default-clause-begins
returns-in_default-clause-begins c =
    begins c.loop-item.literals.items c.loop-item.item-index c.args.items.now c.loop-item.invariant.counted
    c.loop-item.invariant.taken

pub returns-in_default-clause-are : goal.returns-in_default-clause-are
returns-in_default-clause-are c =
    c.loop-item.invariant.taken ∙ ap (λ n. take n c.args.items.now) (sym c.loop-item.invariant.counted)

pub returns-then-is_full-clause-begins : goal.returns-then-is_full-clause-begins
returns-then-is_full-clause-begins c =
    begins c.loop-item.literals.items c.loop-item.item-index c.args.items.now c.loop-item.invariant.counted
    c.loop-item.invariant.taken

pub returns-then-is_full-clause-are : goal.returns-then-is_full-clause-are
returns-then-is_full-clause-are c =
    c.loop-item.invariant.taken ∙ ap (λ n. take n c.args.items.now) (sym c.loop-item.invariant.counted)
