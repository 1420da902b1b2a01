-- Scripts that are played in turn.
use Rattle.std.proofs.Common.{◌≡◌, refl, sym, subst, ap, ◌∙◌, ℕ, ◌+◌, ◌<◌, ◌≤◌, inl, inr, List, [], ◌∷◌, ◌++◌, length}
use Rattle.std.proofs.Common.{get_or, Bool, true, false, ◌||◌, Option, Some, Result, Ok, Err, IsErr, take, drop}
use Rattle.std.proofs.Common.{take-append-drop}
use Rattle.std.proofs.lemmas.List.{take_all, drop_more}
use Rattle.teco_model.specs.State.{World}
use Rattle.teco_model.specs.declared.session.Limits.{Limits}
use Rattle.teco_hosts.specs.HostFiles.{Telling}
use Rattle.teco_run.proofs.Together.{Joined-on, Joined-stays, Joined-then}
use Rattle.teco_run.specs.Holdings.{Holdings, Joined}
use Rattle.teco_session.specs.FirstCode.{Hears}
use Rattle.teco_session.specs.Sessions.{Setting, setting}
use Rattle.teco_session.specs.declared.fault.SessionFault.{SessionFault}
use Rattle.teco_session.specs.declared.sessions.Done.{Done}
use Rattle.teco_tools.specs.Scripts.{Around, at, EndsIn, HearsScript, IsAnswer, IsInput, Plays, PlaysOut}
use Rattle.teco_tools.specs.Scripts.{Terms, is_last, none, one_more}
use Rattle.teco_tools.specs.declared.fault.ToolFault.{ToolFault}
use Rattle.teco_console.specs.declared.outcome.Outcome.{Outcome}
use Rattle.teco_options.specs.declared.running.Script.{Script}

-- the front, the script at a place, and those behind
pub whole_at : (scripts : List Script) (i : ℕ) (d : Script) → i < length scripts
    → scripts ≡ take i scripts ++ get_or scripts i d ∷ drop (i + 1) scripts
whole_at scripts i d within = sym (take-append-drop i scripts) ∙ ap (λ behind. take i scripts ++ behind)
    (drop_more scripts i d within)

-- the session of a text leaves the stream as it is
pub text_heard : (until : Bool) (limits : Limits) (text read : List ℕ) (f g : ℕ) (left unread u v : Option (List ℕ))
    (result : Result Done SessionFault) (a b : Holdings) (t s : Telling)
    → read ≡ text
    → Joined (λ old new. Hears until limits (setting old f (Some read) u) (setting new g left v) result) a b t s
    → Joined (λ old new. HearsScript until limits (Some text) (setting old f unread u) (setting new g unread v) result)
    a b t s
text_heard until limits text read f g left unread u v result a b t s same =
    Joined-on (λ (old : World) (new : World). Hears until limits (setting old f (Some read) u)
    (setting new g left v) result)
    (λ (old : World) (new : World). HearsScript until limits (Some text) (setting old f unread u)
    (setting new g unread v) result)
    a b t s (λ (old : World) (new : World) heard. record {
      left = left;
      hears = subst (λ it. Hears until limits (setting old f (Some it) u) (setting new g left v) result) same heard;
      stream = refl;
    })

-- none yet
pub played_none : (terms : Terms) (x : Around) (a : Holdings) (t : Telling)
    → Joined (λ old new. Plays terms (at x old) [] (at x new) false) a a t t
played_none terms x a t = Joined-stays (λ (old : World) (new : World). Plays terms (at x old) [] (at x new) false) a t
    (λ world. none)

-- one more
pub played_more : (terms : Terms) (x y z : Around) (front : List Script) (coded : Bool) (script : Script)
    (input : Option (List ℕ)) (done : Done) (a b c : Holdings) (r s t : Telling)
    → IsInput terms.holds terms.escape script input → is_last terms.until done ≡ false
    → Joined (λ old mid. Plays terms (at x old) front (at y mid) coded) a b r s
    → Joined (λ mid new. HearsScript terms.until terms.limits input (at y mid) (at z new) (Ok done)) b c s t
    → Joined (λ old new. Plays terms (at x old) (front ++ script ∷ []) (at z new) (coded || done.coded)) a c r t
played_more terms x y z front coded script input done a b c r s t is on =
    Joined-then (λ (old : World) (mid : World). Plays terms (at x old) front (at y mid) coded)
    (λ (mid : World) (new : World). HearsScript terms.until terms.limits input (at y mid) (at z new) (Ok done))
    (λ (old : World) (new : World). Plays terms (at x old) (front ++ script ∷ []) (at z new) (coded || done.coded))
    a b c r s t (λ (old : World) (mid : World) (new : World) played heard. one_more front (at y mid) coded script input
    (at z new) done played is heard on)

-- the last, which ends the run or breaks off
pub played_last : (terms : Terms) (scripts : List Script) (x y z : Around) (front : List Script) (coded : Bool)
    (script : Script) (behind : List Script) (input : Option (List ℕ)) (result : Result Done SessionFault)
    (a b c : Holdings) (r s t : Telling)
    → scripts ≡ front ++ script ∷ behind → IsInput terms.holds terms.escape script input
    → Joined (λ old mid. Plays terms (at x old) front (at y mid) coded) a b r s
    → Joined (λ mid new. HearsScript terms.until terms.limits input (at y mid) (at z new) result) b c s t
    → Joined (λ old new. EndsIn terms scripts (at x old) (at z new) result coded) a c r t
played_last terms scripts x y z front coded script behind input result a b c r s t whole is =
    Joined-then (λ (old : World) (mid : World). Plays terms (at x old) front (at y mid) coded)
    (λ (mid : World) (new : World). HearsScript terms.until terms.limits input (at y mid) (at z new) result)
    (λ (old : World) (new : World). EndsIn terms scripts (at x old) (at z new) result coded)
    a b c r s t (λ (old : World) (mid : World) (new : World) played heard. record {
      mid = at y mid;
      comes = record { front = front; script = script; behind = behind; whole = whole; played = played };
      input = input;
      is = is;
      heard = heard;
    })

-- what comes of all of them
pub all_out : (terms : Terms) (scripts : List Script) (old new : Setting) (coded : Bool) (i : ℕ) → length scripts ≤ i
    → Plays terms old (take i scripts) new coded
    → PlaysOut terms scripts old new (Ok (record { coded = coded; exit = false }))
all_out terms scripts old new coded i end played =
    inl (record {
      played = subst (λ front. Plays terms old front new coded) (take_all i scripts end) played;
      on = refl;
    })

-- what comes of them where one ends the run
pub ends_out : (terms : Terms) (scripts : List Script) (old new : Setting) (coded : Bool) (last : Done)
    → is_last terms.until last ≡ true → EndsIn terms scripts old new (Ok last) coded
    → PlaysOut terms scripts old new (Ok (record { coded = coded || last.coded; exit = last.exit }))
ends_out terms scripts old new coded last is ends =
    inr (record { last = last; coded = coded; ends = ends; is_so = is; code = refl; exit = refl })

-- or breaks off
pub breaks_out : (terms : Terms) (scripts : List Script) (old new : Setting) (coded : Bool) (fault : SessionFault)
    (result : Result Done ToolFault) → IsErr result → EndsIn terms scripts old new (Err fault) coded
    → PlaysOut terms scripts old new result
breaks_out terms scripts old new coded fault (Ok done) failed ends = absurd (cc)
breaks_out terms scripts old new coded fault (Err why) failed ends = record { coded = coded; here = inr (fault, ends) }

-- or is not read
pub unread_out : (terms : Terms) (scripts : List Script) (old new : Setting) (coded : Bool) (i : ℕ) (d : Script)
    (result : Result Done ToolFault) → i < length scripts → IsErr result → Plays terms old (take i scripts) new coded
    → PlaysOut terms scripts old new result
unread_out terms scripts old new coded i d (Ok done) within failed played = absurd (cc)
unread_out terms scripts old new coded i d (Err why) within failed played = record {
  coded = coded;
  here = inl (record {
    front = take i scripts;
    script = get_or scripts i d;
    behind = drop (i + 1) scripts;
    whole = whole_at scripts i d within;
    played = played;
  });
}

-- what is answered where scripts broke off
pub failed : (fault : ToolFault) (result : Result Outcome ToolFault) → IsErr result → IsAnswer (Err fault) result
failed fault (Ok outcome) is = absurd (cc)
failed fault (Err other) is = tt
