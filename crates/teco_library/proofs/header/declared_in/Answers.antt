use Rattle.std.proofs.Common.{drop, sym}
use Rattle.std.proofs.lemmas.Bool.Decides.{Decides-eqb}
use Rattle.std.proofs.lemmas.Slice.Eq.{starts_is}
use Rattle.teco_library.specs.Header.{header_word}
use Rattle.teco_library.proofs.Declaring.{not_declared}
use Rattle.teco_library.proofs.header.declared_in.Goals as goal

pub returns-in_default-declaration : goal.returns-in_default-declaration
returns-in_default-declaration c =
    let text = c.in-Some.comment.now in
    let begins = (starts_is Decides-eqb text header_word c.starts_with.result c.starts_with.ensures.value).0
    c.if-not-starts_with.false in
    not_declared c.args.file.now text (drop 9 text) (sym c.in-Some.ensures) begins c.in_default-declaration.ensures
