use Rattle.std.proofs.Common.{pos, ◌≤ℤ◌, ◌<ℤ◌, ◌+◌, take, drop, ap, ◌∙◌, arith}
use Rattle.std.proofs.lemmas.Int.{ints, to_z-of_z}
use Rattle.std.specs.Int.{w64}
use Rattle.std.specs.Result.{result_unwrap_or}
use Rattle.teco_text.proofs.LinePlaces.{place_ahead_is, place_back_is}
use Rattle.teco_text.proofs.lines.line_place.Goals as goal

pub returns-then-n-gt0-clause-value : goal.returns-then-n-gt0-clause-value
returns-then-n-gt0-clause-value g c =
    let rest = c.pieces_after.ensures ∙ ap (drop c.dot-dot.result) c.slices.ensures in
    let within = rw c.dot-dot.ensures.value at c.dot-dot.ensures.within_text in
    let found = rw (rest, c.dot-dot.ensures.value) at c.place_ahead.ensures.counted in
    let whole = to_z-of_z w64 c.args.n c.ranges.n in
    let positive : pos 0 <ℤ c.args.n = omega (arith, ints) in
    c.unwrap_or.ensures ∙ ap (result_unwrap_or c.place_ahead.result) c.len-len.ensures.value
    ∙ place_ahead_is (g.T.TextStore.list c.args.store.now) (g.T.TextStore.pointer c.args.store.now) c.args.n _ _
    within positive (rw whole at c.unsigned_abs.ensures.value) found

pub returns-else-n-gt0-clause-value : goal.returns-else-n-gt0-clause-value
returns-else-n-gt0-clause-value g c =
    let front = c.pieces_before.ensures ∙ ap (take c.dot-dot.result) c.slices.ensures in
    let within = rw c.dot-dot.ensures.value at c.dot-dot.ensures.within_text in
    let found = rw (front, c.dot-dot.ensures.value) at c.place_back.ensures.counted in
    let whole = to_z-of_z w64 c.args.n c.ranges.n in
    let low : c.args.n ≤ℤ pos 0 = omega (arith, ints) in
    c.unwrap_or-else-n-gt0.ensures ∙ place_back_is (g.T.TextStore.list c.args.store.now)
    (g.T.TextStore.pointer c.args.store.now) c.args.n _ _ within low
    (ap (λ k. k + 1) (rw whole at c.unsigned_abs-else-n-gt0.ensures.value)) found
