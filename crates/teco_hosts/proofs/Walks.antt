-- A value of no fields is made.
use Rattle.teco_hosts.proofs.Prelude.{List, [], ◌∷◌, refl}
use seplogic.Ra.Ura.{Ura}
use mir.Val.{Val, vstruct, vnil}
use types.Logic.{Logic}
use types.Kit.{Goal, Step, step, Item, ‵, ◌$◌, fjoin, fpack, feq_i}
use denote.RattleType.{RattleType, Valss}
use denote.Steps.{nothing}
use denote.Struct.Struct.{Struct, within}

abbrev pub bare : Val
bare = vstruct vnil

abbrev pub fieldless : RattleType
fieldless = Struct (record { name = []; args = []; types = []; fields = [] })

pub makes_bare : {M : Type 1} {𝓤 : Ura M} {𝓛 : Logic 𝓤} {K : Type 0} {Γ : List (Item 𝓤)} {G : Goal 𝓤 𝓛.H} → K
    → Step K 𝓛 (‵ (fieldless.own_val tt (bare ∷ [])) ∷ Γ) G Γ G
makes_bare t = step (λ s.
    nothing t $ feq_i t (List Val) (bare ∷ []) (bare ∷ []) refl $ fjoin t $
    fpack t (Valss []) (within (record { name = []; args = []; types = []; fields = [] }) tt (bare ∷ [])) tt $ s)
