use Rattle.teco_poly.proofs.Terms.{led_found, lead_missing}
use Rattle.teco_poly.proofs.text.led_term_at.Goals as goal

pub returns-in_err-led-clause-none : goal.returns-in_err-led-clause-none
returns-in_err-led-clause-none c =
    rw c.from_residual.ensures (lead_missing c.args.text.now c.args.lead.now c.args.power c.in_err-led.ensures.cases)

pub returns-clause-found : goal.returns-clause-found
returns-clause-found c =
    led_found c.args.text.now c.args.lead.now c.in_ok-led.led.now c.args.power c.in_ok-led.ensures.cases.0
    c.in_ok-led.ensures.cases.1
    c.in_ok-coefficient.coefficient c.in_ok-coefficient.rest.now c.in_ok-coefficient.ensures.found
