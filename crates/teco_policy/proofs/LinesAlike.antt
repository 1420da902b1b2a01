-- Lines by their parts: what stands in them, and their line ends.
use Rattle.std.proofs.Common.{◌≡◌, ◌↔◌, ℕ, List, ◌++◌, Bool, true, sym, subst, ap, ◌∙◌}
use Rattle.teco_policy.specs.Lines.{EndAlike, body, line_end}
use Rattle.teco_policy.specs.Walks.{IsLineOf}
use Rattle.teco_policy.specs.Wordings.{IsFoundIn, Wording}

module _ (inside end inside' end' : List ℕ) (line : IsLineOf inside end) (other : IsLineOf inside' end') (r : Bool)
  where
    pub end_alike : ((r ≡ true) ↔ (end ≡ end')) → (r ≡ true) ↔ EndAlike (inside ++ end) (inside' ++ end')
    end_alike h = (
      λ t. line.ends ∙ h.0 t ∙ sym other.ends,
      λ e. h.1 (sym line.ends ∙ e ∙ other.ends),
    )

    pub same_line : ((r ≡ true) ↔ ((inside ≡ inside') × (end ≡ end'))) → (r ≡ true) ↔ (inside ++ end ≡ inside' ++ end')
    same_line h = (
      λ t. let both = h.0 t in ap (λ l. l ++ end) both.0 ∙ ap (λ l. inside' ++ l) both.1,
      λ e. h.1 (
        sym line.has ∙ ap (λ l. body l) e ∙ other.has,
        sym line.ends ∙ ap (λ l. line_end l) e ∙ other.ends,
      ),
    )

pub found_in : (wording : Wording) (inside end : List ℕ) → IsLineOf inside end → (r : Bool)
    → ((r ≡ true) ↔ IsFoundIn wording inside) → (r ≡ true) ↔ IsFoundIn wording (body (inside ++ end))
found_in wording inside end line r h =
    subst (λ l. (r ≡ true) ↔ IsFoundIn wording l) (sym line.has) h
