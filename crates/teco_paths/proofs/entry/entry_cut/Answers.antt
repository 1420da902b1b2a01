use Rattle.teco_paths.proofs.Prelude.{[], ◌∷◌, ◌++◌, None, ap, ◌∙◌, refl, subst, AreThere}
use Rattle.teco_paths.proofs.Beginning.{is_entry_cut}
use Rattle.teco_paths.proofs.entry.entry_cut.Goals as goal

pub returns : goal.returns
returns c =
    is_entry_cut c.args.lengths.now c.args.argument _
    (c.in_ok-push.ensures.items ∙ ap (λ xs. xs ++ None ∷ []) c.new-operators.ensures.items) refl refl
    (subst (λ b. AreThere b c.in_ok-present.present.items) c.is_some.ensures c.in_ok-present.ensures)
    c.in_ok-claims.ensures
