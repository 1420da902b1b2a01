use Rattle.teco_hosts.proofs.Prelude.{◌≡◌, true, false, ◌∙◌, arith, err_from_is_err_and}
use Rattle.teco_hosts.proofs.Reading.{page-ended, page-on, topped, ends-last, ends-stopped, ends-kept}
use Rattle.teco_hosts.proofs.Touching.{touches-more}
use Rattle.teco_hosts.proofs.pages.read_page.Goals as goal

pub returns-then-branch-clause-ends : goal.returns-then-branch-clause-ends
returns-then-branch-clause-ends g c =
    let more : c.in_ok-top_up.field-0 ≡ true = cc in
    let t = topped _ _ _ _ _ _ _ more c.in_ok-top_up.ensures.tops_up in
    let e = c.in_ok-give.ensures in
    let ended : c.in_ok-give.field-0 ≡ true = cc in
    let p = page-ended _ c.loop.into.items c.loop.ahead c.top_up.new.self c.give.new.self c.give.new.into.items _ _ _
    c.in_ok-give.field-0 c.loop.invariant.shifts t.0 c.loop.invariant.plain ended e.0 e.1 e.2 in
    (p.0, t.1 ∙ c.loop.invariant.same)

pub returns-then-branch-clause-plain : goal.returns-then-branch-clause-plain
returns-then-branch-clause-plain g c =
    let more : c.in_ok-top_up.field-0 ≡ true = cc in
    let t = topped _ _ _ _ _ _ _ more c.in_ok-top_up.ensures.tops_up in
    let e = c.in_ok-give.ensures in
    let ended : c.in_ok-give.field-0 ≡ true = cc in
    (page-ended _ c.loop.into.items c.loop.ahead c.top_up.new.self c.give.new.self c.give.new.into.items _ _ _
    c.in_ok-give.field-0 c.loop.invariant.shifts t.0 c.loop.invariant.plain ended e.0 e.1 e.2).1

pub loop-preserved : goal.loop-preserved
loop-preserved g c =
    let more : c.in_ok-top_up.field-0 ≡ true = cc in
    let t = topped _ _ _ _ _ _ _ more c.in_ok-top_up.ensures.tops_up in
    let e = c.in_ok-give.ensures in
    let on : c.in_ok-give.field-0 ≡ false = cc in
    let p = page-on _ c.loop.into.items c.loop.ahead c.top_up.new.self c.give.new.self c.give.new.into.items _ _ _
    c.in_ok-give.field-0 c.loop.invariant.shifts t.0 c.loop.invariant.plain on e.0 e.1 e.2 in
    record {
      plain = p.1;
      short = e.3;
      count = omega (arith, p.2, t.2, c.loop.invariant.count);
      shifts = p.0;
      same = t.1 ∙ c.loop.invariant.same;
      noted = let on = rw more at c.in_ok-top_up.ensures.noted in
          touches-more false false false _ _ _ c.loop.invariant.noted on;
    }

pub returns-then-not-branch-clause-ends : goal.returns-then-not-branch-clause-ends
returns-then-not-branch-clause-ends g c =
    let none : c.in_ok-top_up.field-0 ≡ false = cc in
    ends-last _ c.loop.into.items c.loop.ahead c.top_up.new.self _ _ _ _ _ _ _ none c.loop.invariant.shifts
    c.loop.invariant.same c.in_ok-top_up.ensures.tops_up

pub returns-in_err-top_up-clause-ends : goal.returns-in_err-top_up-clause-ends
returns-in_err-top_up-clause-ends g c =
    let p = err_from_is_err_and c.from_residual.result c.from_residual.ensures.1 in
    rw (p.1, p.2) (ends-stopped _ c.loop.into.items c.loop.ahead c.top_up.new.self _ _ _ _ _ _ _ c.loop.invariant.shifts
    c.loop.invariant.same c.in_err-top_up.ensures.tops_up)

pub returns-in_err-give-clause-ends : goal.returns-in_err-give-clause-ends
returns-in_err-give-clause-ends g c =
    let p = err_from_is_err_and c.from_residual-in_err-give.result c.from_residual-in_err-give.ensures.1 in
    let more : c.in_ok-top_up.field-0 ≡ true = cc in
    rw (p.1, p.2) (ends-kept _ c.loop.into.items c.loop.ahead c.top_up.new.self c.give.new.self c.give.new.into.items _
    _ _ _ _ _ _ _ more c.loop.invariant.shifts c.loop.invariant.same c.in_ok-top_up.ensures.tops_up
    c.in_err-give.ensures)

pub returns-in_err-top_up-clause-noted : goal.returns-in_err-top_up-clause-noted
returns-in_err-top_up-clause-noted g c =
    let p = err_from_is_err_and c.from_residual.result c.from_residual.ensures.1 in
    rw p.1 (touches-more false false false _ _ _ c.loop.invariant.noted c.in_err-top_up.ensures.noted)

pub returns-then-not-branch-clause-noted : goal.returns-then-not-branch-clause-noted
returns-then-not-branch-clause-noted g c =
    let none : c.in_ok-top_up.field-0 ≡ false = cc in
    let ended = rw none at c.in_ok-top_up.ensures.noted in
    touches-more false false true _ _ _ c.loop.invariant.noted ended

pub returns-in_err-give-clause-noted : goal.returns-in_err-give-clause-noted
returns-in_err-give-clause-noted g c =
    let p = err_from_is_err_and c.from_residual-in_err-give.result c.from_residual-in_err-give.ensures.1 in
    let more : c.in_ok-top_up.field-0 ≡ true = cc in
    let on = rw more at c.in_ok-top_up.ensures.noted in
    rw p.1 (touches-more false false false _ _ _ c.loop.invariant.noted on)

pub returns-then-branch-clause-noted : goal.returns-then-branch-clause-noted
returns-then-branch-clause-noted g c =
    let more : c.in_ok-top_up.field-0 ≡ true = cc in
    let on = rw more at c.in_ok-top_up.ensures.noted in
    touches-more false false false _ _ _ c.loop.invariant.noted on
