use Rattle.teco_hosts.proofs.Prelude.{◌≡◌, ◌≤◌, ◌+◌, ◌-◌, ◌++◌, length, take, drop, sym, ap, ◌∙◌, arith, length-append}
use Rattle.teco_hosts.proofs.Prelude.{slice_range, LIMIT, before_form_feed, has_form_feed, behind_form_feed}
use Rattle.teco_hosts.proofs.Cuts.{drop-part, take-part}
use Rattle.teco_hosts.proofs.ahead.Ahead.give.Goals as goal

pub returns : goal.returns
returns c =
    let a = c.self.inside in
    let into = c.args.into.now.items in
    let bytes : slice_range a.chunk a.used a.filled ≡ c.args.self.now = c.self.view_is in
    let part : take c.find_end-found.result.len (slice_range a.chunk a.used a.filled) ≡ before_form_feed
    c.args.self.now = c.find_end-found.ensures.taken ∙ ap before_form_feed bytes in
    let left : drop c.find_end-found.result.next (slice_range a.chunk a.used a.filled) ≡ behind_form_feed
    c.args.self.now = c.find_end-found.ensures.left ∙ ap behind_form_feed bytes in
    let len : c.find_end-found.result.len ≡ length (before_form_feed c.args.self.now) =
    c.find_end-found.ensures.len ∙ ap (λ l. length (before_form_feed l)) bytes in
    let next : c.find_end-found.result.next ≤ a.filled - a.used = omega (arith, c.find_end-found.ensures.within) in
    let short : c.find_end-found.result.len ≤ a.filled - a.used = omega (arith, c.find_end-found.ensures.within) in
    let given : slice_range a.chunk a.used (a.used + c.find_end-found.result.len) ≡ before_form_feed c.args.self.now =
    sym (take-part a.chunk a.used a.filled c.find_end-found.result.len short) ∙ part in
    let grown : c.extend_from_slice.new.self.items ≡ into ++ before_form_feed c.args.self.now =
    c.in_ok-extend_from_slice.ensures.items ∙ ap (λ l. into ++ l) given in
    let ff : c.find_end-found.result.ff ≡ has_form_feed c.args.self.now =
    c.find_end-found.ensures.ff ∙ ap has_form_feed bytes in
    let within : length c.extend_from_slice.new.self.items ≤ LIMIT =
    omega (
      arith,
      ap length grown,
      length-append into (before_form_feed c.args.self.now),
      len,
      c.if-found-len.false,
    ) in
    (ff, grown, sym (drop-part a.chunk a.used a.filled c.find_end-found.result.next next) ∙ left, within)
