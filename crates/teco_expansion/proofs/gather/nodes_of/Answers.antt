use Rattle.teco_expansion.proofs.Prelude.{◌≡◌, ◌+◌, List, [], ◌∷◌, ◌++◌, map, drop, sym, ap, ◌∙◌, arith, map-append}
use Rattle.teco_expansion.proofs.Prelude.{node_at, nodes_at, Node, refusal_seen, visit_seen, node_seen, library_of}
use Rattle.teco_expansion.proofs.Prelude.{walk_seen}
use Rattle.teco_expansion.specs.declared.visit.Visit.{Visit}
use Rattle.teco_expansion.proofs.Gathering.{before, nodes_more, nodes_refused, nodes_end}
use Rattle.teco_expansion.proofs.gather.nodes_of.Goals as goal

pub returns-in-Err : goal.returns-in-Err
returns-in-Err c =
    let texts = c.args.texts.now in
    let l = c.loop-at in
    let library = library_of texts in
    let w = walk_seen texts c.args.walk.now in
    let here = sym (ap (λ (v : Visit). node_at library texts.entry w (l.at + 1) (visit_seen texts v)) c.index.ensures)
    ∙ c.in-Err.ensures in
    l.invariant ∙ nodes_refused (visit_seen texts) library texts.entry w (map (node_seen texts) l.nodes.items)
    (refusal_seen c.in-Err.refusal) c.args.walk.now.visits.items l.at c.index.result.now (omega arith) here

pub loop-at-preserved : goal.loop-at-preserved
loop-at-preserved c =
    let texts = c.args.texts.now in
    let l = c.loop-at in
    let library = library_of texts in
    let w = walk_seen texts c.args.walk.now in
    let vs = map (visit_seen texts) c.args.walk.now.visits.items in
    let node = node_seen texts c.in-Ok.node in
    let here = sym (ap (λ (v : Visit). node_at library texts.entry w (l.at + 1) (visit_seen texts v)) c.index.ensures)
    ∙ c.in-Ok.ensures in
    let more : map (node_seen texts) c.keep.new.nodes.items ≡ map (node_seen texts) l.nodes.items ++ node ∷ [] =
    ap (map (node_seen texts)) c.in_ok-keep-in-Ok.ensures ∙ map-append (node_seen texts) l.nodes.items
    (c.in-Ok.node ∷ []) in
    l.invariant
    ∙ nodes_more (visit_seen texts) library texts.entry w (map (node_seen texts) l.nodes.items) node
    c.args.walk.now.visits.items l.at c.index.result.now (omega arith) here
    ∙ ap (λ (nodes : List Node). before nodes (nodes_at library texts.entry w (l.at + 1 + 1) (drop (l.at + 1) vs)))
    (sym more)

pub returns : goal.returns
returns c =
    let texts = c.args.texts.now in
    let l = c.loop-at in
    l.invariant ∙ nodes_end (visit_seen texts) (library_of texts) texts.entry (walk_seen texts c.args.walk.now)
    (map (node_seen texts) l.nodes.items) c.args.walk.now.visits.items l.at (omega arith)
