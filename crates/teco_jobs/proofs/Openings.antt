-- Command strings that are run one after another.
use Rattle.std.proofs.Common.{◌≡◌, ℕ, List, Bool, Option, Some, None, inl, inr, true, false, refl, sym, ap, subst, Ok}
use Rattle.std.proofs.Common.{◌∙◌, is_some}
use Rattle.teco_base.specs.declared.code.Code.{Code}
use Rattle.teco_hosts.specs.HostFiles.{Telling}
use Rattle.teco_options.specs.declared.editing.PageChoice.{PageChoice}
use Rattle.teco_options.specs.declared.editing.PageChoice.TheVariants.{Whole}
use Rattle.teco_jobs.specs.Openings.{Opens, opening}
use Rattle.teco_jobs.specs.Openings.{AddsAll, AddsPages, Runs, Then, TurnsIfAny, joining, to_start, is_unread}
use Rattle.teco_jobs.specs.Openings.{just_first, one_more}
use Rattle.teco_apply.specs.Sure.{MOST}
use Rattle.teco_model.specs.State.{World}
use Rattle.teco_run.proofs.Together.{Joined-on, Joined-stays, Joined-then}
use Rattle.teco_run.specs.Holdings.{Holdings, Joined}
use Rattle.teco_run.specs.Unread.{TellsIfUnread}

some_code : (code : Option Code) → is_some code ≡ true → (c : Code) × (code ≡ Some c)
some_code (Some c) is = (c, refl)
some_code None is = absurd (cc)

no_code : (code : Option Code) → is_some code ≡ false → code ≡ None
no_code (Some c) is = absurd (cc)
no_code None is = refl

-- a code came of the first
pub then_coded : (R S : Option Code → World → World → Type 0) (a b : Holdings) (f g : Telling) (code : Option Code)
    → is_some code ≡ true → Joined (R code) a b f g → Joined (Then R S code) a b f g
then_coded R S a b f g code is =
    let some = some_code code is in
    Joined-on (R code) (Then R S code) a b f g (λ old new r. inl (some.0, some.1, r))

-- none did, and the second was done
pub then_on : (R S : Option Code → World → World → Type 0) (a b c : Holdings) (f g h : Telling)
    (first code : Option Code) → is_some first ≡ false → Joined (R first) a b f g → Joined (S code) b c g h
    → Joined (Then R S code) a c f h
then_on R S a b c f g h first code is r s =
    Joined-then (R None) (S code) (Then R S code) a b c f g h (λ w0 w1 w2 x y. inr (w1, x, y))
    (subst (λ it. Joined (R it) a b f g) (no_code first is) r) s

-- bytes are unread, and the command string was run
pub turned : (text : List ℕ) (code : Option Code) (some : Bool) (a b c : Holdings) (f g h : Telling) → some ≡ true
    → Joined (λ old new. TellsIfUnread old new (Ok some)) a b f g → Joined (Runs MOST text code) b c g h
    → Joined (TurnsIfAny text (Some code)) a c f h
turned text code some a b c f g h is =
    Joined-then (λ old new. TellsIfUnread old new (Ok some)) (Runs MOST text code) (TurnsIfAny text (Some code))
    a b c f g h
    (λ w0 w1 w2 told ran. inl (sym told.0 ∙ is, subst (λ it. Runs MOST text code it w2) told.1 ran))

pub no_page : (a : Holdings) (f : Telling) → Joined AddsPages a a f f
no_page a f = Joined-stays AddsPages a f (λ world. just_first)

pub page_more : (a b c : Holdings) (f g h : Telling) (code : Option Code) (turn : Option (Option Code))
    → turn ≡ Some code → is_some code ≡ false → Joined AddsPages a b f g
    → Joined (TurnsIfAny joining turn) b c g h → Joined AddsPages a c f h
page_more a b c f g h code turn same is pages turned' =
    Joined-then AddsPages (TurnsIfAny joining (Some None)) AddsPages a b c f g h
    (λ w0 w1 w2 x y. one_more w1 w2 x y) pages
    (subst (λ it. Joined (TurnsIfAny joining it) b c g h) (same ∙ ap Some (no_code code is)) turned')

pub page_coded : (a b d : Holdings) (f g h : Telling) (code : Option Code) (turn : Option (Option Code))
    → turn ≡ Some code → is_some code ≡ true → Joined AddsPages a b f g
    → Joined (TurnsIfAny joining turn) b d g h → Joined (AddsAll code) a d f h
page_coded a b d f g h code turn same is pages turned' =
    let some = some_code code is in
    Joined-then AddsPages (TurnsIfAny joining (Some code)) (AddsAll code) a b d f g h
    (λ w0 w1 w2 x y. (w1, x, inr (some.0, some.1, y))) pages
    (subst (λ it. Joined (TurnsIfAny joining it) b d g h) same turned')

pub all_added : (a b c d : Holdings) (f g h k : Telling) (code : Option Code) (turn : Option (Option Code))
    → turn ≡ None → Joined AddsPages a b f g → Joined (TurnsIfAny joining turn) b c g h
    → Joined (Runs MOST to_start code) c d h k → Joined (AddsAll code) a d f k
all_added a b c d f g h k code turn same pages unturned runs =
    Joined-then AddsPages (λ old new. (is_unread old ≡ false) × Runs MOST to_start code old new) (AddsAll code)
    a b d f g k (λ w0 w1 w2 x y. (w1, x, inl y)) pages
    (Joined-then (TurnsIfAny joining None) (Runs MOST to_start code)
    (λ old new. (is_unread old ≡ false) × Runs MOST to_start code old new) b c d g h k
    (λ w0 w1 w2 x y. (x.0, subst (λ it. Runs MOST to_start code it w2) x.1 y))
    (subst (λ it. Joined (TurnsIfAny joining it) b c g h) same unturned) runs)

-- all pages were read as one
pub opened_whole : (source target text : List ℕ) (pages : PageChoice) (code : Option Code) (a b : Holdings)
    (f g : Telling) → pages ≡ Whole → text ≡ opening source target → Joined (Then (Runs MOST text) AddsAll code) a b f g
    → Joined (Opens pages source target code) a b f g
opened_whole source target text pages code a b f g is same opens =
    subst (λ it. Joined (Opens it source target code) a b f g) (sym is)
    (subst (λ it. Joined (Then (Runs MOST it) AddsAll code) a b f g) same opens)
