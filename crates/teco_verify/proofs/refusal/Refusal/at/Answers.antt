use Rattle.teco_verify.proofs.Prelude.{◌≡◌, refl, node_at}
use Rattle.teco_check.proofs.Numbered.{numbered_at}
use Rattle.teco_verifier.specs.expansion.Node.{place_of}
use Rattle.teco_verify.proofs.refusal.Refusal.at.Goals as goal

pub returns : goal.returns
returns c =
    let node = node_at c.args.nodes.now c.args.number in
    let there = numbered_at c.args.nodes.now c.args.number c.requires.one c.requires.last in
    let register : c.register.result ≡ node.register = c.register.ensures node there in
    let place : c.place.result ≡ place_of node = c.place.ensures node there in
    rw (c.register_at.ensures, register, place) refl
