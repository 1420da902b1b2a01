use Rattle.std.proofs.Common.{◌+◌, ◌-◌, ◌≤◌, length, take, drop, arith}
use Rattle.std.proofs.lemmas.List.{length-append, length-drop, length-take}
use Rattle.teco_text.proofs.Gaps.{behind_moved_back, before_moved_on, behind_moved_on}
use Rattle.teco_text.proofs.moves.move_gap.Goals as goal

pub returns-then-at-start-clause-behind : goal.returns-then-at-start-clause-behind
returns-then-at-start-clause-behind c =
    let xs = c.args.block.now.items in
    let moved = behind_moved_back xs c.args.at c.args.start c.args.end (omega arith) (omega arith) (omega arith) in
    rw c.copy_within.ensures.items moved

-- the place of the text and the gap lie in the block
within : (c : goal.After-copy_back)
    → c.args.at + (c.args.end - c.args.start) ≤ length c.args.block.now.items
within c =
    let xs = c.args.block.now.items in
    let all = length-append (take c.args.start xs) (drop c.args.end xs) in
    omega (arith, all, length-take c.args.start xs, length-drop c.args.end xs)

pub returns-else-at-start-clause-before : goal.returns-else-at-start-clause-before
returns-else-at-start-clause-before c =
    let xs = c.args.block.now.items in
    let moved = before_moved_on xs c.args.at c.args.start c.args.end (omega arith) (omega arith) (within c) in
    rw c.copy_back.ensures.items moved

pub returns-else-at-start-clause-behind : goal.returns-else-at-start-clause-behind
returns-else-at-start-clause-behind c =
    let xs = c.args.block.now.items in
    let moved = behind_moved_on xs c.args.at c.args.start c.args.end (omega arith) (omega arith) (within c) in
    rw c.copy_back.ensures.items moved
