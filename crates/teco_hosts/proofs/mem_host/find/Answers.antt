use Rattle.teco_hosts.proofs.Prelude.{◌<◌, Some, length, ap, ◌∙◌, arith, File}
use Rattle.teco_hosts.proofs.Named.{found, missing}
use Rattle.teco_hosts.proofs.mem_host.find.Goals as goal

pub returns-then-place-files : goal.returns-then-place-files
returns-then-place-files c = missing c.args.name.now c.args.files.now c.place_of-place.result
    c.place_of-place.ensures.value (omega arith)

pub returns : goal.returns
returns c =
    let short : c.place_of-place.result < length c.args.files.now = omega (arith, c.place_of-place.ensures.within) in
    ap Some (c.deref.ensures.value ∙ ap (λ (f : File). f.bytes) c.file.view_is)
    ∙ ap (λ (f : File). Some f.bytes) c.index-files-place.is
    ∙ found c.args.name.now c.args.files.now c.place_of-place.result c.index-files-place.result
    c.place_of-place.ensures.value short
