use Rattle.teco_find.proofs.Needled.{found_back, none_back}
use Rattle.teco_find.proofs.needle.first_behind.Goals as goal

pub returns-in_err-place : goal.returns-in_err-place
returns-in_err-place c = rw c.from_residual.ensures
    (none_back c.args.text.0.now c.args.text.1.now c.args.needle.now c.requires.some c.args.at c.requires.behind
    c.in_err-place.ensures)

pub returns : goal.returns
returns c = found_back c.args.text.0.now c.args.text.1.now c.args.needle.now c.requires.some c.args.at
    c.in_ok-place.place c.requires.behind c.requires.within c.in_ok-place.ensures
