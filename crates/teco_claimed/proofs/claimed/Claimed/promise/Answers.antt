use Rattle.std.proofs.Common.{ap, subst, sym}
use Rattle.teco_claimed.proofs.Promised.{checked_ends, same_promise}
use Rattle.teco_library.specs.Library.{LibraryFile}
use Rattle.teco_promise.specs.Promise.{EachRunEnds}
use Rattle.teco_claimed.proofs.claimed.Claimed.promise.Goals as goal

pub of-requires : goal.of-requires
of-requires c =
    let found = c.args.self.now in
    subst EachRunEnds
    (sym (same_promise found (ap (λ (l : LibraryFile). l.texts) c.library.ensures) c.entry.ensures c.argument.ensures
    c.needs.ensures c.commands.ensures c.size.ensures c.grows.ensures c.types.ensures))
    (checked_ends c.expansions_are_linked.ensures c.certain_ends.ensures found c.is_checked.ensures)
