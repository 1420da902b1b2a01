use Rattle.teco_hosts.proofs.Prelude.{◌≡◌, true, false, is_some, name_in}
use Rattle.teco_hosts.proofs.Ready.{ready-some, ready-none, refused-none, readied-none}
use Rattle.teco_hosts.proofs.pages.Pages.next_page.Goals as goal

pub returns-then-is_some-clause-page : goal.returns-then-is_some-clause-page
returns-then-is_some-clause-page g c =
    let i = c.self.inside in
    let yes : is_some i.ready ≡ true = cc in
    ready-some (name_in i.input) i.page.items i.ready i.ahead i.end (name_in i.output) _ _ yes c.self.view_is
    c.self.invariant

pub returns-then-self-clause-page : goal.returns-then-self-clause-page
returns-then-self-clause-page g c =
    let i = c.self.inside in
    let no : is_some i.ready ≡ false = cc in
    let end : i.end ≡ true = cc in
    ready-none (name_in i.input) i.page.items i.ready i.ahead i.end (name_in i.output) _ _ no end c.self.view_is
    c.self.invariant

pub returns-in-Err-clause-page : goal.returns-in-Err-clause-page
returns-in-Err-clause-page g c =
    let i = c.self.inside in
    let no : is_some i.ready ≡ false = cc in
    let more : i.end ≡ false = cc in
    refused-none (name_in i.input) i.page.items i.ready i.ahead i.end (name_in i.output) _ c.read_page.new.into.items
    c.read_page.new.ahead _ _ _ _ c.in-Err.fault no more c.self.view_is c.in-Err.ensures.ends c.in-Err.ensures.plain

pub returns-clause-page : goal.returns-clause-page
returns-clause-page g c =
    let i = c.self.inside in
    let no : is_some i.ready ≡ false = cc in
    let more : i.end ≡ false = cc in
    readied-none (name_in i.input) i.page.items i.ready i.ahead i.end (name_in i.output) _ c.read_page.new.into.items
    c.read_page.new.ahead _ _ _ _ c.in-Ok.ff no more c.self.view_is c.in-Ok.ensures.ends c.in-Ok.ensures.plain
