use Rattle.teco_expansion.proofs.Prelude.{◌≡◌, ◌+◌, map, drop, true, false, ◌&&◌, sym, ap, ◌∙◌, slice_get, rules}
use Rattle.teco_expansion.proofs.Prelude.{same_spots, listed, same_waiting, spot_seen}
use Rattle.teco_expansion.proofs.Comparing.{waiting_from}
use Rattle.teco_expansion.proofs.same.same_callers.Goals as goal

pub returns-then-not-same_caller : goal.returns-then-not-same_caller
returns-then-not-same_caller c =
    let texts = c.args.texts.now in
    let xs = listed c.args.first.now in
    let ys = listed c.args.second.now in
    let k = c.loop-at.at in
    let rest = same_spots (map (spot_seen texts) (drop (k + 1) xs)) (map (spot_seen texts) (drop (k + 1) ys)) in
    let here : same_waiting texts (slice_get xs k) (slice_get ys k) ≡ c.same_caller.result =
    rw (← c.get.ensures, ← c.get-in-loop-at.ensures) (sym c.same_caller.ensures) in
    let other : c.same_caller.result ≡ false = search rules in
    sym (c.loop-at.invariant ∙ waiting_from texts xs ys k ∙ ap (λ b. b && rest) (here ∙ other))

pub loop-at-preserved : goal.loop-at-preserved
loop-at-preserved c =
    let texts = c.args.texts.now in
    let xs = listed c.args.first.now in
    let ys = listed c.args.second.now in
    let k = c.loop-at.at in
    let rest = same_spots (map (spot_seen texts) (drop (k + 1) xs)) (map (spot_seen texts) (drop (k + 1) ys)) in
    let here : same_waiting texts (slice_get xs k) (slice_get ys k) ≡ c.same_caller.result =
    rw (← c.get.ensures, ← c.get-in-loop-at.ensures) (sym c.same_caller.ensures) in
    let same : c.same_caller.result ≡ true = search rules in
    c.loop-at.invariant ∙ waiting_from texts xs ys k ∙ ap (λ b. b && rest) (here ∙ same)
