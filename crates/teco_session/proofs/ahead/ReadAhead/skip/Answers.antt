use Rattle.std.proofs.Common.{◌≡◌, ℕ, ◌+◌, ◌-◌, ◌≤◌, List, length, take, drop, sym, ap, subst, ◌∙◌, arith, length-take}
use Rattle.std.proofs.lemmas.List.{drop-take, drop-drop}
use Rattle.std.specs.List.{slice_range}
use Rattle.teco_session.proofs.ahead.ReadAhead.skip.Goals as goal

-- a range without its first n places
slice_range-drop : (xs : List ℕ) (a b n : ℕ) → a + n ≤ b → slice_range xs (a + n) b ≡ drop n (slice_range xs a b)
slice_range-drop xs a b n within =
    let rest : b - a ≡ n + (b - (a + n)) = omega arith in
    sym (ap (λ m. drop n (take m (drop a xs))) rest ∙ drop-take n (b - (a + n)) (drop a xs)
    ∙ ap (take (b - (a + n))) (drop-drop n a xs))

pub returns : goal.returns
returns c =
    let inside = c.self.inside in
    let within : c.args.n ≤ length (slice_range inside.chunk inside.used inside.filled) =
    subst (λ v. c.args.n ≤ length v) (sym c.self.view_is) c.requires in
    slice_range-drop inside.chunk inside.used inside.filled c.args.n
    (omega (arith, within, length-take (inside.filled - inside.used) (drop inside.used inside.chunk)))
    ∙ ap (drop c.args.n) c.self.view_is
