-- Macros that are called on texts in memory.
use Rattle.std.proofs.Common.{◌≡◌, ℕ, suc, List, [], ◌∷◌, Option, refl, subst, get_or, Fits, w8, arith}
use Rattle.teco_apply.specs.Sure.{call_text, kept_loaded}
use Rattle.teco_base.specs.declared.code.Code.{Code}
use Rattle.teco_hosts.proofs.Told.{told-map}
use Rattle.teco_hosts.specs.HostFiles.{Telling, Tells}
use Rattle.teco_hosts.specs.MemFiles.{MemFiles, no_files, with_put}
use Rattle.teco_filing.specs.Worlds.{world}
use Rattle.teco_jobs.specs.InMemory.{CallsAndCloses, OpensAndCalls, Works, beside_text, closing, source}
use Rattle.teco_jobs.specs.Openings.{Runs, Then}
use Rattle.teco_jobs.specs.declared.in_memory.TextCall.{TextCall}
use Rattle.teco_jobs.specs.declared.in_memory.TheConstants.{STEPS}
use Rattle.teco_model.specs.State.{World}
use Rattle.teco_model.specs.laws.Whole.{AreBytes}
use Rattle.teco_run.proofs.Together.{Beside, Joined-then}
use Rattle.teco_run.specs.Holdings.{Holdings, Joined}
use Rattle.teco_tools.specs.Scripts.{new_machine}
use Rattle.teco_tools.specs.Starts.{Prepares}

-- the library is loaded first
pub called : (call : TextCall) (text : List ℕ) (code : Option Code) (a b c : Holdings) (f g : Telling)
    → text ≡ call_text call.entry call.argument
    → b ≡ record a { kept = kept_loaded call.library.now.texts a.kept }
    → Joined (Then (Runs STEPS text) (Runs STEPS closing) code) b c f g → Joined (CallsAndCloses call code) a c f g
called call text code a b c f g says is runs =
    let R : World → World → Type 0 = Then (Runs STEPS (call_text call.entry call.argument)) (Runs STEPS closing) code in
    let ready = record a { kept = kept_loaded call.library.now.texts a.kept } in
    told-map (Beside R ready c) (Beside (CallsAndCloses call code) a c) (λ files left x out. x out) f g
    (subst (λ it. Joined R it c f g) is
    (subst (λ it. Joined (Then (Runs STEPS it) (Runs STEPS closing) code) b c f g) says runs))

pub worked : (call : TextCall) (code : Option Code) (a b c : Holdings) (f g h : Telling)
    → Joined (Prepares call.start) a b f g → Joined (OpensAndCalls call code) b c g h → Joined (Works call code) a c f h
worked call code a b c f g h =
    Joined-then (Prepares call.start) (OpensAndCalls call code) (Works call code) a b c f g h
    (λ w0 w1 w2 x y. (w1, x, y))

pub bytes_of : (text : List ℕ) → ((i : ℕ) → Fits w8 (get_or text i 0)) → AreBytes text
bytes_of [] fits = tt
bytes_of (c ∷ text) fits = (omega (arith, fits 0), bytes_of text (λ i. fits (suc i)))

-- of a new machine, where the text is the only file
pub made_from : (call : TextCall) (text : List ℕ) (code : Option Code) (begun : MemFiles) (left : MemFiles)
    (old new : Holdings) → begun ≡ with_put source text no_files → old ≡ new_machine → AreBytes text
    → Joined (Works call code) old new (Tells begun.told) (Tells left.told)
    → (end : World) × Works call code (beside_text text) end × (end.files.named ≡ left.told.named)
made_from call text code begun left old new file bare bytes works =
    let files = Tells (with_put source text no_files).told in
    let told = subst (λ it. Joined (Works call code) it new files (Tells left.told))
    bare (subst (λ it. Joined (Works call code) old new (Tells it.told) (Tells left.told)) file works) in
    let end = (told (record { named = (bytes, tt); unread = tt; output = tt })).0 refl in
    (world new.kept new.held left.told, end.0, refl)
