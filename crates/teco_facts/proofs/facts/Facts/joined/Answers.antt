use Rattle.teco_facts.proofs.Prelude.{rules}
use Rattle.teco_facts.proofs.Joined.{fails_before, registers_fail, with_registers}
use Rattle.teco_facts.proofs.facts.Facts.joined.Goals as goal

pub returns-in_err-joined : goal.returns-in_err-joined
returns-in_err-joined c =
    let fails = fails_before c.args.self c.args.other.now c.in_err-joined.field-0.0 c.in_err-joined.ensures in
    search rules

pub returns-in_err-join_registers : goal.returns-in_err-join_registers
returns-in_err-join_registers c =
    let fails = registers_fail c.args.self c.args.other.now c.in_ok-joined.joined c.join_registers.new.self
    c.in_err-join_registers.field-0.0 c.in_ok-joined.ensures c.in_err-join_registers.ensures in
    search rules

pub returns : goal.returns
returns c =
    with_registers c.args.self c.args.other.now c.in_ok-joined.joined c.join_registers.new.self c.in_ok-joined.ensures
    c.in_ok-join_registers.ensures
