use Rattle.teco_hosts.proofs.Prelude.{◌≡◌, ◌≤◌, ◌+◌, ◌-◌, ◌++◌, take, length, drop, sym, ap, ◌∙◌, arith, HostFiles}
use Rattle.teco_hosts.proofs.Bytes.{told-end, told-read}
use Rattle.teco_hosts.specs.MemFiles.{MemFiles, output_in}
use Rattle.teco_hosts.proofs.Named.{read-part, read-end}
use Rattle.teco_hosts.proofs.mem_host.MemHostHost.read.Goals as goal

pub returns-clause-files : goal.returns-clause-files
returns-clause-files c =
    let i = c.self.inside in
    let within : i.place + c.min-n.result ≤ length i.input.items = omega (arith, c.in-Some.ensures.within) in
    let next = read-part i.input.items c.deref.result.now c.args.buf.now c.copy_from_slice.new.self i.place
    c.min-n.result c.copy_from_slice.ensures.after c.deref.ensures.value within in
    let left : HostFiles = record {
      named = i.files.items;
      unread = drop (i.place + c.min-n.result) i.input.items;
      output = output_in i.output;
    } in
    let same : left ≡ record c.args.self.now.told { unread = left.unread } =
    ap (λ (m : MemFiles). record m.told { unread = drop (i.place + c.min-n.result) i.input.items }) c.self.view_is
    in (
      told-read (take c.min-n.result (c.copy_from_slice.new.self ++ drop c.min-n.result c.args.buf.now))
          c.args.self.now.told left (sym (ap (λ (m : MemFiles). m.told.unread) c.self.view_is) ∙ next) same,
      λ none some. told-end c.args.self.now.told left
          (read-end i.input.items c.args.buf.now c.copy_from_slice.new.self i.place c.min-n.result c.in-Some.allowed
          (c.len.result - i.place) c.copy_from_slice.ensures.len c.min-n.ensures c.in-Some.ensures.end
          (omega arith) none some) same,
    )
