use Rattle.std.proofs.Common.{◌≡◌, ◌+◌, ◌-◌, drop, sym, ap, ◌∙◌, arith}
use Rattle.std.proofs.lemmas.List.{drop-drop}
use Rattle.teco_text.specs.Text.{text_after_deletion}
use Rattle.teco_text.proofs.block.Block.remove.Goals as goal

pub returns-clause-behind : goal.returns-clause-behind
returns-clause-behind c =
    let at = c.clamp-at.result in
    let text = text_after_deletion c.self.inside.bytes.items c.self.inside.gap_start c.self.inside.gap_end in
    let whole : at + (c.args.b - at) ≡ c.args.b = omega arith in
    rw (← c.self.view_is) (sym (drop-drop (c.args.b - at) c.move_gap-end.result c.move_gap-end.new.block.items)
    ∙ ap (drop (c.args.b - at)) c.move_gap-end.ensures.behind
    ∙ drop-drop (c.args.b - at) at text
    ∙ ap (λ k. drop k text) whole)
