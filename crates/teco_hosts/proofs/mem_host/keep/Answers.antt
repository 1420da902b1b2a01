use Rattle.teco_hosts.proofs.Prelude.{ap, ◌∙◌, arith, File}
use Rattle.teco_hosts.proofs.Named.{put-over, put-behind}
use Rattle.teco_hosts.proofs.mem_host.keep.Goals as goal

pub returns-then-place-len-clause-ok : goal.returns-then-place-len-clause-ok
returns-then-place-len-clause-ok c =
    put-over c.args.file c.args.files.now.items c.deref.result.now c.place_of-place.result c.deref-2.result.now
    c.place_of-place.ensures.value c.deref.ensures.value
    (c.deref-2.ensures.value ∙ ap (λ (f : File). f.name) c.file.view_is) (omega arith)

pub returns-in_ok-push-clause-ok : goal.returns-in_ok-push-clause-ok
returns-in_ok-push-clause-ok c =
    c.in_ok-push.ensures.items ∙ put-behind c.args.file c.args.files.now.items c.deref.result.now
    c.place_of-place.result c.deref-2.result.now c.place_of-place.ensures.value c.deref.ensures.value
    (c.deref-2.ensures.value ∙ ap (λ (f : File). f.name) c.file.view_is) (omega arith)
