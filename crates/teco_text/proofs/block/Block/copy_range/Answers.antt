use Rattle.std.proofs.Common.{◌-◌, take, drop, append_assoc}
use Rattle.teco_text.proofs.Gaps.{range_of_pieces}
use Rattle.teco_text.proofs.block.Block.copy_range.Goals as goal

pub returns-clause-copied : goal.returns-clause-copied
returns-clause-copied c =
    let text = c.args.self.now in
    let parts = range_of_pieces text.before text.behind c.args.a c.args.b c.requires.0 in
    let first = c.in_ok-extend_from_slice.ensures.items in
    let second = c.in_ok-extend_from_slice-2.ensures.items in
    let kept = c.reserve.ensures.items in
    let ends_before = c.min-2.ensures in
    let ends_behind = c.saturating_sub-2.ensures in
    let before = take (c.min-2.result - c.min.result) (drop c.min.result c.slices.result.0.now) in
    let begins = c.saturating_sub.result in
    let behind = take (c.saturating_sub-2.result - begins) (drop begins c.slices.result.1.now) in
    let joined = append_assoc c.args.out.now.items before behind in
    cc (c.min.ensures, c.saturating_sub.ensures, c.slices.ensures.before, c.slices.ensures.behind)
