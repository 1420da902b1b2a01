use Rattle.teco_facts.proofs.Prelude.{◌≡◌, each_covers, covers_level}
use Rattle.teco_facts.specs.Settled.{levels_since}
use Rattle.teco_facts.proofs.settling.covers_levels.Given as goal

-- all levels are covered if those from here on are
abbrev pub invariant-loop-level : goal.invariant-loop-level
invariant-loop-level l =
    each_covers (covers_level l.margins) (levels_since l.initial.one_since l.initial.one)
    (levels_since l.initial.edge_since l.initial.edge)
    ≡ each_covers (covers_level l.margins) (levels_since l.one_since l.one) (levels_since l.edge_since l.edge)
