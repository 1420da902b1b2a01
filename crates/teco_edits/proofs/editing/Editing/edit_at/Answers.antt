use Rattle.std.proofs.Common.{rules, ap, ℕ, List}
use Rattle.std.specs.Borrow.{Bor}
use Rattle.teco_edits.proofs.Files.{named_by}
use Rattle.teco_edits.proofs.editing.Editing.edit_at.Goals as goal

pub returns : goal.returns
returns g c =
    named_by c.args.self.now.given.now c.args.self.now.job c.new-work.result.job c.args.name.now
    c.new-work.result.name.now _ _ _ _ _ c.in-Ok.outcome _ _ c.new-typed.result.items
    c.rewrite_by-outcome.new.out.items _ c.rewrite_by-outcome.ensures c.new-work.ensures.job
    (ap (λ (name : Bor (List ℕ)). name.now) c.new-work.ensures.name) c.new-typed.ensures.items c.in-Ok.is
    c.in_ok-ended.ensures.outcome (search rules) (c.has_met.ensures (search rules)) c.in_ok-ended.ensures.differs
    (search rules)
