-- What follows of what stays with machine and host together.
use Rattle.teco_session.proofs.Prelude.{◌≡◌, [], refl, World, Telling, Holdings, Joined}
use Rattle.teco_model.specs.Session.{without_typed}
use Rattle.teco_hosts.proofs.Told.{told-map}
use Rattle.teco_run.proofs.Together.{Beside}
pub use Rattle.teco_run.proofs.Together.{Joined-on, Joined-stays, Joined-then}

-- of a relation, where what was typed is taken then
pub Joined-typed : (R S : World → World → Type 0) (a b c : Holdings) (f g : Telling)
    → c ≡ record b { kept = record b.kept { typed = [] } }
    → ((old new : World) → new.kept ≡ b.kept → R old new → S old (without_typed new)) → Joined R a b f g
    → Joined S a c f g
Joined-typed R S a b c f g is h r =
    rw is (told-map (Beside R a b) (Beside S a (record b { kept = record b.kept { typed = [] } }))
    (λ files left r out. (h _ _ refl (r out).0, (r out).1)) f g r)
