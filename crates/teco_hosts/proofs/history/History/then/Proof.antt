-- The new history has the events of the old one, and behind them the one that is noted.
use Rattle.teco_hosts.proofs.Prelude.{List, [], ◌∷◌, ◌++◌, refl}
use seplogic.Ra.Ura.{Ura}
use mir.Val.{Val, vptr}
use base.Logic.{SProp, ent}
use prog.Memory.{Memory}
use prog.Routine.{Routine}
use prog.Wp.{Calls, Loops, WpFn, Tables}
use contract.Monad.{Fun}
use contract.Running.{tables, tables_of}
use sound.WpLaws.{WpFn-mono}
use types.Logic.{Logic}
use types.Kit.{‵, raw, ◌⊛◌, prop, ◌$◌, ◌∵◌, !, qed, move, keep, drop, split, fsplit, fjoin, feq_l, regoal, suffices}
use types.Kit.{done}
use types.Part.{agg}
use types.Run.{enter, returns, no_more}
use types.ByLocal.{alloc_all, pass_all, free_all, look_at, sets}
use denote.Builtin.{RefOf}
use denote.Exit.{yes}
use denote.RattleType.{owns}
use denote.Signature.{plain, types_at, named_lft}
use denote.Steps.{nothing}
use denote.Triple.Clauses.{Clauses, closing}
use denote.Triple.Entry.{alive}
use denote.Triple.Spec.{Meets, triple_of}
use denote.Triple.Table.{entered}
use denote.Triple.Walked.{says, Stays, stay_dropped, walk_of, ends_at, walk_Meets, Goes-dropped}
use Rattle.teco_hosts.proofs.Walks.{bare, makes_bare}
use Rattle.teco_hosts.specs.Noted.{event_of}
use Rattle.teco_hosts.specs.contracts.history.History as History
use Rattle.teco_hosts.specs.contracts.history.Note as Note
use Rattle.teco_hosts.specs.contracts.history.History.then as it
use Rattle.teco_hosts.specs.contracts.history.History.then.Key.{name as #it}
use Rattle.teco_hosts.proofs.history.History.then.Statement as stated
use Rattle.teco_hosts.proofs.history.History.then.Code as code

abbrev stayed : Stays (it.ended).signature.params (it.ended).kept
stayed = (stay_dropped _ yes, (stay_dropped _ yes, tt))

module _ {M : Type 1} {𝓤 : Ura M} (𝓛 : Logic 𝓤) (at_mem : Memory → SProp 𝓤) (run : Routine → Fun 𝓤) where
  open 𝓛 use {H}

  abbrev clauses : Clauses 𝓤 it.ended
  clauses = it.clauses 𝓛 at_mem run

  module _ (C : Calls 𝓤 H) (Λ : Loops 𝓤 H) (z : (walk_of 𝓛 it.ended stayed clauses).Ghost) where
    abbrev Post : Val → SProp 𝓤
    Post = (walk_of 𝓛 it.ended stayed clauses).post z

    walks : ent 𝓤 ((walk_of 𝓛 it.ended stayed clauses).pre z)
        (WpFn 𝓤 H C Λ code.function ((walk_of 𝓛 it.ended stayed clauses).args z) Post)
    walks =
        let a = z.0.3 in
        let vss = z.0.4 in
        let self : Val = vptr a.0.ref_ptr.0 a.0.ref_ptr.1 in
        let note : Val = vptr a.1.0.ref_ptr.0 a.1.0.ref_ptr.1 in
        let made : (History.the_row).Denot = record { events = a.0.now.events ++ event_of a.1.0.now ∷ [] } in
        qed 𝓛 ((raw (alive 𝓛 (it.ended).signature z.0.0 z.0.1) ⊛ ‵
        (owns (types_at (it.ended).signature.params z.0.0) a vss)) ∷ raw ((clauses z.0.0 a).requires z.1) ∷ []) ∵
        keep ! (0 ∷ []) $ split ! $ move ! (1 ∷ []) $ fsplit ! $ fsplit ! $ feq_l !
        (λ is. drop ! $ fsplit ! $ fsplit ! $ feq_l ! (λ is'. drop ! $ drop ! $
        regoal ! (λ (us : List Val). prop (WpFn 𝓤 H C Λ code.function (us ++ (vss.1.0 ++ [])) Post)) is refl $
        regoal ! (λ (us : List Val). prop (WpFn 𝓤 H C Λ code.function ((self ∷ []) ++ (us ++ [])) Post)) is' refl $
        enter ! C Λ code.function (self ∷ note ∷ []) Post $ alloc_all !
        (λ l. pass_all ! refl ((tt, tt), ((tt, tt), tt)) $
        sets ! (agg ! (no_more !)) refl (tt, tt) $
        nothing ! $ makes_bare ! $ fjoin ! $
        returns ! (look_at ! 0 refl) $ free_all ! refl $
        suffices ! _ (ends_at 𝓛 it.ended stayed clauses z bare made (tt, (tt, tt)) (tt, (tt, tt))) $ says ! refl $
        nothing ! $ nothing ! $ fjoin ! $ nothing ! $ fjoin ! $ move ! (2 ∷ 0 ∷ 1 ∷ []) $ done !)))

  meets : (𝓣 : Tables 𝓤 H) → Meets 𝓛 (it.ended).signature (WpFn 𝓤 H 𝓣.C 𝓣.Λ code.function) (closing 𝓛 it.ended clauses)
  meets 𝓣 =
      walk_Meets 𝓛 it.ended stayed (
        Goes-dropped 𝓛 3 (RefOf (0 ∷ []) tt (plain (λ _. History.the_row)) (λ _. tt)) yes (λ κs x f. refl),
        (
          Goes-dropped 𝓛 3 (RefOf (1 ∷ []) tt (plain (λ κs. Note.the_row (named_lft 3 2 tt κs))) (λ _. tt)) yes
              (λ κs x f. refl),
          tt,
        ),
      ) clauses (WpFn 𝓤 H 𝓣.C 𝓣.Λ code.function) (WpFn-mono 𝓤 H 𝓛.laws 𝓣 code.function) (walks 𝓣.C 𝓣.Λ)

pub then_spec : {M : Type 1} → stated.statement M
unfolding tables_of
then_spec 𝓤 𝓛 𝓜 𝓡 wired =
    let 𝓣 : Tables 𝓤 𝓛.H = tables_of 𝓤 𝓛.H 𝓜 (tables 𝓤 𝓛.H 𝓜 𝓡 𝓡.env) in
    entered 𝓤 𝓛.H (triple_of 𝓛 (it.ended).signature (closing 𝓛 it.ended (clauses 𝓛 𝓜.mem 𝓡.returns))) 𝓣.C 𝓣.Λ #it
    code.function
    (code.unfolded 𝓤 𝓛.H 𝓜 𝓡 wired) (meets 𝓛 𝓜.mem 𝓡.returns 𝓣)
