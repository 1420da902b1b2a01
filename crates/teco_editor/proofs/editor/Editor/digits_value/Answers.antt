use Rattle.std.proofs.Common.{rules, arith, refl}
use Rattle.teco_editor.proofs.Numbers.{value_code}
use Rattle.teco_editor.proofs.editor.Editor.digits_value.Goals as goal

pub loop-place-preserved : goal.loop-place-preserved
loop-place-preserved g c =
    let next = value_code c.args.self.now.text c.args.begin c.loop-place.place _ _ c.mul.result c.from.result
    c.add-value.result c.at.result _ _ (omega arith) (omega arith) refl c.loop-place.invariant (search rules) in
    next c.unwrap_or-digit.ensures c.saturating_sub.ensures c.from.ensures c.mul.ensures c.add-value.ensures
    (search rules) (search rules) (search rules)
