use Rattle.teco_find.proofs.Prelude.{ap, arith, length}
use Rattle.teco_find.proofs.Needled.{found_front, none_front, then_up_to}
use Rattle.teco_find.proofs.needle.next_start.Goals as goal

pub returns-in-Some : goal.returns-in-Some
returns-in-Some c = found_front c.args.text.0.now c.args.text.1.now c.args.needle.now c.requires.some c.args.at
    c.in-Some.place (omega (arith, c.saturating_sub-across.ensures, ap length c.needle.ensures)) c.in-Some.ensures

pub returns-in-None : goal.returns-in-None
returns-in-None c =
    let none = none_front c.args.text.0.now c.args.text.1.now c.args.needle.now c.requires.some c.args.at
    c.saturating_sub-across.result (omega (arith, c.saturating_sub-across.ensures, ap length c.needle.ensures))
    c.in-None.ensures in
    then_up_to _ _ c.args.at c.saturating_sub-across.result c.next_behind-in-None.result
    (omega arith) none c.next_behind-in-None.ensures
