use Rattle.std.proofs.lemmas.List.Elements.{All-head, All-tail}
use Rattle.teco_rows.proofs.Prelude.{◌≡◌, ◌∷◌, [], ◌++◌, ◌∙◌, ap, subst, arith, ints, All}
use Rattle.teco_linear.specs.Implied.{Holds}
use Rattle.teco_rows.proofs.forms.within_32_bits.Goals as goal

pub returns : goal.returns
returns c = λ n v h.
    let least = c.in_ok-sub.field-0 in
    let most = c.in_ok-sub-2.field-0 in
    let e : c.push-2.new.self.items ≡ least ∷ most ∷ [] =
    c.in_ok-push-2.ensures.items ∙ ap (λ forms. forms ++ most ∷ [])
    (c.in_ok-push.ensures.items ∙ ap (λ forms. forms ++ least ∷ []) c.new-conditions.ensures.items) in
    let both = subst (All (Holds n v)) e h in
    let above = All-head (Holds n v) least (most ∷ []) both in
    let below = All-head (Holds n v) most [] (All-tail (Holds n v) least (most ∷ []) both) in
    omega (
      arith,
      ints,
      above,
      below,
      c.in_ok-sub.ensures n v,
      c.in_ok-sub-2.ensures n v,
      c.in_ok-least.ensures n v,
      c.in_ok-most.ensures n v,
    )
