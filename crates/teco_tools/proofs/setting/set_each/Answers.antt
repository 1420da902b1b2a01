use Rattle.std.proofs.Common.{◌∙◌, ap, arith}
use Rattle.teco_model.specs.Registers.{with_texts}
use Rattle.teco_tools.proofs.Settings.{given_more, handed_only, next_of}
use Rattle.teco_tools.proofs.setting.set_each.Goals as goal

pub loop-given-preserved : goal.loop-given-preserved
loop-given-preserved g c =
    let place = c.loop-given.given-index in
    let setting = c.given-item.result in
    let old = c.loop-given.machine in
    given_more c.args.settings.now place setting old c.load.new.self
    (next_of c.args.settings.now place setting (omega arith) c.given-item.is)
    (c.in_ok-load.ensures.loaded
    ∙ ap (λ texts. record old { kept = record old.kept { registers = with_texts texts old.kept.registers } })
    (handed_only setting c.no_texts.result c.with_text.result c.register.result c.text.result c.no_texts.ensures.none
    c.register.ensures c.text.ensures.text c.with_text.ensures.given))
    ∙ c.loop-given.invariant
