use Rattle.teco_expansion.proofs.Prelude.{◌≡◌, List, ℕ, map, Some, ap, ◌∙◌, element_at, Node, numbered, node_seen}
use Rattle.teco_model.specs.Searching.{has_colon}
use Rattle.teco_model.specs.State.{frame_of}
use Rattle.teco_expansion.specs.Seen.{read_of}
use Rattle.teco_expansion.proofs.Numbered.{seen_at}
use Rattle.teco_expansion.proofs.nodes.Nodes.colon.Goals as goal

pub returns : goal.returns
returns c = λ node e h r.
    let texts = c.self.inside.texts in
    let items = c.self.inside.nodes.items in
    let n = c.node_of.result.now in
    let place = n.stand.position.running.place in
    let seen : numbered (map (node_seen texts) items) c.args.number ≡ Some node = rw c.self.view_is h in
    let at : numbered items c.args.number ≡ Some n = rw (← c.deref.ensures.value) c.node_of.ensures in
    let same = seen_at (node_seen texts) items c.args.number n node seen at in
    let read : read_of (element_at c.text.result.now place) ≡ Some e =
    ap (λ (text : List ℕ). read_of (element_at text place)) c.text.ensures.value
    ∙ ap (λ (node : Node). node.element) same ∙ r in
    c.colon_at.ensures e read
    ∙ ap (λ (text : List ℕ). has_colon e (frame_of text))
    (c.text.ensures.value ∙ ap (λ (node : Node). node.stand.position.running.text) same)
