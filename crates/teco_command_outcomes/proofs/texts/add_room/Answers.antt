use Rattle.teco_command_outcomes.proofs.Prelude.{◌≡◌, [], ◌∷◌, ◌++◌, Some, arith, refl, common_steps, ints}
use Rattle.std.proofs.lemmas.List.Elements.{All-pop}
use Rattle.teco_linear.specs.Implied as linear
use Rattle.teco_command_outcomes.proofs.texts.add_room.Goals as goal

pub returns : goal.returns
returns c = λ n v h.
    let P = linear.Holds n v in
    let old = c.args.conditions.now.items in
    let items : c.push-2.new.self.items ≡ (old ++ c.in_ok-most.most ∷ []) ++ c.in_ok-least.least ∷ [] =
    grind (arith, common_steps) in
    let last = All-pop P _ (old ++ c.in_ok-most.most ∷ []) (Some c.in_ok-least.least) items h in
    let first = All-pop P _ old (Some c.in_ok-most.most) refl last.0 in
    let apart = c.in_ok-apart.ensures n v in (
      first.0,
      (
        omega (arith, ints, c.in_ok-most.ensures n v first.1, c.in_ok-longer.ensures n v, apart),
        omega (arith, ints, c.in_ok-least.ensures n v last.1, c.in_ok-shorter.ensures n v, apart),
      ),
    )
