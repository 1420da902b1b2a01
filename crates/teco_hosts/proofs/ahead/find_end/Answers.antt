use Rattle.teco_hosts.proofs.Prelude.{◌≡◌, ◌+◌, suc, take, drop, sym, ap, ◌∙◌, arith, drop_all, prefix_len, is_inner}
use Rattle.std.proofs.lemmas.List.Sums.{prefix_len-le-length}
use Rattle.teco_hosts.proofs.Cuts.{cut, whole-none}
use Rattle.teco_hosts.proofs.ahead.find_end.Goals as goal

pub returns-then-len-bytes-clause-len : goal.returns-then-len-bytes-clause-len
returns-then-len-bytes-clause-len c = c.inner_len-len.ensures ∙ sym (cut c.args.bytes.now).len

pub returns-then-len-bytes-clause-taken : goal.returns-then-len-bytes-clause-taken
returns-then-len-bytes-clause-taken c = ap (λ n. take n c.args.bytes.now) c.inner_len-len.ensures
    ∙ (cut c.args.bytes.now).taken

pub returns-then-len-bytes-clause-ff : goal.returns-then-len-bytes-clause-ff
returns-then-len-bytes-clause-ff c = sym ((cut c.args.bytes.now).found (omega arith))

pub returns-then-len-bytes-clause-left : goal.returns-then-len-bytes-clause-left
returns-then-len-bytes-clause-left c =
    let next : c.inner_len-len.result + 1 ≡ suc (prefix_len is_inner c.args.bytes.now) = omega arith in
    ap (λ n. drop n c.args.bytes.now) next ∙ (cut c.args.bytes.now).left

pub returns-else-len-bytes-clause-len : goal.returns-else-len-bytes-clause-len
returns-else-len-bytes-clause-len c = c.inner_len-len.ensures ∙ sym (cut c.args.bytes.now).len

pub returns-else-len-bytes-clause-within : goal.returns-else-len-bytes-clause-within
returns-else-len-bytes-clause-within c = (omega arith, omega (arith, prefix_len-le-length is_inner c.args.bytes.now))

pub returns-else-len-bytes-clause-taken : goal.returns-else-len-bytes-clause-taken
returns-else-len-bytes-clause-taken c = ap (λ n. take n c.args.bytes.now) c.inner_len-len.ensures
    ∙ (cut c.args.bytes.now).taken

pub returns-else-len-bytes-clause-ff : goal.returns-else-len-bytes-clause-ff
returns-else-len-bytes-clause-ff c = sym ((cut c.args.bytes.now).none (omega arith))

pub returns-else-len-bytes-clause-left : goal.returns-else-len-bytes-clause-left
returns-else-len-bytes-clause-left c = drop_all _ c.args.bytes.now (omega arith)
    ∙ sym (whole-none c.args.bytes.now ((cut c.args.bytes.now).none (omega arith))).1
