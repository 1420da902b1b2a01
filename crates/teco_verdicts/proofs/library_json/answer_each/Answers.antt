use Rattle.std.proofs.Common.{ℕ, slice_index_or}
use Rattle.std.proofs.lemmas.List.{get_or_default}
use Rattle.teco_console.specs.declared.sourced.TheConstants.{NAMES}
use Rattle.teco_verdicts.proofs.Each.{each_all, each_breaks, each_more}
use Rattle.teco_verdicts.specs.Each.{none}
use Rattle.teco_verdicts.proofs.library_json.answer_each.Goals as goal

-- the name at a place
abbrev name_at : ℕ → ℕ
name_at i = slice_index_or NAMES.now i 0

pub loop-name-init : goal.loop-name-init
loop-name-init g c = none

pub returns-in-Err : goal.returns-in-Err
returns-in-Err g c =
    let i : ℕ = c.loop-name.name-index in
    each_breaks _ _ _ _ _ NAMES.now i (name_at i) _ c.loop-name-test.true
    (get_or_default NAMES.now i 0 (name_at i) c.loop-name-test.true) c.loop-name.invariant c.in-Err.ensures

pub loop-name-preserved : goal.loop-name-preserved
loop-name-preserved g c =
    let i : ℕ = c.loop-name.name-index in
    each_more _ _ _ _ _ NAMES.now i (name_at i) _ _ c.loop-name-test.true
    (get_or_default NAMES.now i 0 (name_at i) c.loop-name-test.true) c.loop-name.invariant c.in-Ok.ensures

pub returns : goal.returns
returns g c = each_all _ _ _ _ _ _ _ c.loop-name-test.false c.loop-name.invariant
