use Rattle.std.proofs.Common.{Some, None, sym, ◌∙◌}
use Rattle.teco_lex.specs.Ahead.{seen}
use Rattle.teco_library.proofs.Declaring.{first_read}
use Rattle.teco_library.proofs.header.first_comment.Goals as goal

pub returns-in_default : goal.returns-in_default
returns-in_default c = sym (first_read c.args.file.now None (sym c.in_default.ensures.value))

pub returns : goal.returns
returns c = c.comment_in.ensures
    ∙ sym (first_read c.args.file.now (Some (seen c.in-Some.first)) (sym c.in-Some.ensures.value))
