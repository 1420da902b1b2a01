use Rattle.std.proofs.Common.{rules}
use Rattle.teco_paths.proofs.Halving.{both_lead, halves_lead}
use Rattle.teco_paths.proofs.halves.spots_with.Goals as goal

pub returns : goal.returns
returns c are course all =
    let one = c.in_ok-spot_with.field-0 in
    let other = c.in_ok-spot_with-2.field-0 in
    let both = both_lead course one other c.push-2.new.self.items (search rules) all in
    halves_lead c.args.spot.now one other c.args.apart.ahead c.args.apart.end are
    c.in_ok-spot_with.ensures.number c.in_ok-spot_with.ensures.case c.in_ok-spot_with-2.ensures.number
    c.in_ok-spot_with-2.ensures.case course both.0 both.1
