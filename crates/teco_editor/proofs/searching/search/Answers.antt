use Rattle.std.proofs.Common.{sym}
use Rattle.teco_model.specs.Element.{seen}
use Rattle.teco_editor.proofs.Late.{search-refused}
use Rattle.teco_editor.proofs.searching.search.Goals as goal

pub returns-in-Err-clause-searches : goal.returns-in-Err-clause-searches
returns-in-Err-clause-searches g c =
    rw c.stuck.ensures (search-refused c.args.search (seen c.args.element.now) c.args.taken c.args.editor.now
    c.in_ok-n.n (sym c.in_ok-n.ensures.value) c.in-Err.fault c.in-Err.ensures.err)
