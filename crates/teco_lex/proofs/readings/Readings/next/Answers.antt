use Rattle.std.proofs.Common.{sym, arith}
use Rattle.teco_lex.specs.Ahead.{seen}
use Rattle.teco_lex.proofs.Modifiers.{behind_reading}
use Rattle.teco_lex.proofs.readings.Readings.next.Goals as goal

pub invariant_of-self : goal.invariant_of-self
invariant_of-self c =
    let read = rw (← c.self.view_is) at c.in-Some.ensures.value in
    let within = rw (← c.self.view_is) at c.in-Some.ensures.within in
    rw (c.next-self-inside.ensures, c.is_ill-self-inside.ensures) (
      within,
      behind_reading c.self.inside.text.now c.self.inside.place (seen c.in-Some.reading) (sym read),
    )

pub returns-clause-on : goal.returns-clause-on
returns-clause-on c = c.in-Some.ensures.next

pub returns-clause-within : goal.returns-clause-within
returns-clause-within c =
    let within = rw (← c.self.view_is) at c.in-Some.ensures.within in
    omega (arith, within, c.next-self-inside.ensures)
