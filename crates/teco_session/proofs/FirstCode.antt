-- How a session that the first code ends goes on, ends and breaks off.
use Rattle.teco_session.proofs.Prelude.{◌≡◌, ◌≢◌, ℕ, ◌≤◌, ◌⊎◌, inl, inr, List, [], length, Option, Bool, true, false}
use Rattle.teco_session.proofs.Prelude.{◌||◌, Ok, Err, refl, sym, subst, ◌∙◌, Consumes, prepend_known, Session}
use Rattle.teco_session.proofs.Prelude.{SessionToEnd, IsCommandString, Limits, Answers, Runs, Hears, Setting, Serves}
use Rattle.teco_session.proofs.Prelude.{BreaksOff, Finishes, IsPiece, IsRest, IsUnended, CHUNK, SessionFault, Read}
use Rattle.teco_session.proofs.Prelude.{Write, Memory, Argument, Done, STRINGS, Piece, Command, Rest}
use Rattle.teco_session.proofs.Known.{Consumes-ahead}
use Rattle.teco_session.proofs.SessionSteps.{breaks-behind, breaks-full, cuts-short, Converses-write, Converses-break}
use Rattle.teco_session.proofs.SessionSteps.{Converses-full, Finishes-exit, Finishes-rest, no_code_at_exit}
use Rattle.teco_session.proofs.SessionSteps.{string_session, rest_session}
use Rattle.teco_session.specs.FirstCode.{BreaksOffPlain, EndsAtCode, FinishesAtCode}

-- writing failed
pub Hears-write : (until : Bool) (limits : Limits) (count : ℕ) (old mid new : Setting) (coded : Bool)
    (ahead bytes : List ℕ) (piece : Piece) (fault : SessionFault) → (until ≡ true → coded ≡ false)
    → Serves limits count old mid coded → Consumes mid.unread (prepend_known ahead new.unread) bytes
    → IsPiece limits (prepend_known ahead new.unread) bytes piece → length ahead ≤ CHUNK
    → Answers limits piece bytes mid.world new.world mid.failures new.failures mid.written new.written (Err fault)
    → Hears until limits old new (Err fault)
Hears-write false limits count old mid new coded ahead bytes piece fault plain served came is one_read answers =
    Converses-write limits count old mid new coded ahead bytes piece fault served came is one_read answers
Hears-write true limits count old mid new coded ahead bytes piece fault plain served came is one_read answers =
    let cut = cuts-short limits count old mid new coded ahead bytes piece fault served came is one_read answers in
    rw answers.writes.0 (record { cuts = cut.0; plain = cut.1 ∙ plain refl })

-- no piece came
plainly : (limits : Limits) (old new : Setting) (coded : Bool) (fault : SessionFault) → coded ≡ false
    → (breaks : BreaksOff limits old new fault) × (breaks.coded ≡ coded) → BreaksOffPlain limits old new fault
plainly limits old new coded fault plain told = record { breaks = told.0; plain = told.1 ∙ plain }

pub Hears-break : (until : Bool) (limits : Limits) (count : ℕ) (old new : Setting) (left : Option (List ℕ))
    (coded : Bool) (ahead part : List ℕ) (fault : SessionFault) → (until ≡ true → coded ≡ false)
    → Serves limits count old (record new { unread = left }) coded → Consumes left (prepend_known ahead new.unread) part
    → IsUnended limits part → length ahead ≤ CHUNK → (fault ≡ Read → ahead ≡ []) → fault ≢ Write → fault ≢ Argument
    → Hears until limits old new (Err fault)
Hears-break false limits count old new left coded ahead part fault plain served came unended one_read all other
    uncalled = Converses-break limits count old new left coded ahead part fault served came unended one_read all other
    uncalled
Hears-break true limits count old new left coded ahead part Read plain served came unended one_read all other uncalled =
    plainly limits old new coded Read (plain refl)
    (breaks-behind limits count old new left coded ahead part Read served came unended one_read (λ e. inl (all e)))
Hears-break true limits count old new left coded ahead part Memory plain served came unended one_read all other
    uncalled = plainly limits old new coded Memory (plain refl)
    (breaks-behind limits count old new left coded ahead part Memory served came unended one_read (λ e. inl (all e)))
Hears-break true limits count old new left coded ahead part Write plain served came unended one_read all other
    uncalled = absurd (other refl)
Hears-break true limits count old new left coded ahead part Argument plain served came unended one_read all other
    uncalled = absurd (uncalled refl)

-- a session takes no more strings
pub Hears-full : (until : Bool) (limits : Limits) (count : ℕ) (old new : Setting) (coded : Bool) (ahead : List ℕ)
    → (until ≡ true → coded ≡ false)
    → Serves limits count old (record new { unread = prepend_known ahead new.unread }) coded → length ahead ≤ CHUNK
    → count ≡ STRINGS → Hears until limits old new (Err Read)
Hears-full false limits count old new coded ahead plain served one_read full =
    Converses-full limits count old new coded ahead served one_read full
Hears-full true limits count old new coded ahead plain served one_read full =
    plainly limits old new coded Read (plain refl) (breaks-full limits count old new coded ahead served one_read full)

-- whether a code came, where none came before
line_alone : (coded line other : Bool) → coded ≡ false → line ≡ other → (coded || line) ≡ other
line_alone coded line other plain is = rw (plain, is) refl

module _ (limits : Limits) (count : ℕ) (old mid new : Setting) (coded : Bool) (done : Done) (ahead bytes : List ℕ)
    (served : Serves limits count old mid coded) (came : Consumes mid.unread (prepend_known ahead new.unread) bytes)
    (one_read : length ahead ≤ CHUNK) where
  -- what is said at the end of a session, where a code came or did not
  finishes-as : (line exit : Bool) → coded ≡ false → done.coded ≡ line → FinishesAtCode limits old new line exit
      → FinishesAtCode limits old new (coded || done.coded) exit
  finishes-as line exit plain is h =
      subst (λ (b : Bool). FinishesAtCode limits old new b exit) (sym (line_alone coded done.coded line plain is)) h

  without_code : (exit : Bool) → coded ≡ false → done.coded ≡ false → Finishes limits old new (coded || done.coded) exit
      → FinishesAtCode limits old new (coded || done.coded) exit
  without_code exit plain is h = finishes-as false exit plain is
      (subst (λ (b : Bool). Finishes limits old new b exit) (line_alone coded done.coded false plain is) h)

  -- the first code is that of a piece
  ends-at : (piece : Piece) → coded ≡ false → IsPiece limits (prepend_known ahead new.unread) bytes piece
      → (answers : Answers limits piece bytes mid.world new.world mid.failures new.failures mid.written new.written
      (Ok done)) → SessionToEnd limits mid.world mid.failures bytes new.world new.failures answers.lines true
      → EndsAtCode limits old new
  ends-at piece plain is answers session = record {
    count = count;
    last = mid;
    piece = bytes;
    unused = ahead;
    lines = answers.lines;
    served = subst (λ (b : Bool). Serves limits count old mid b) plain served;
    came = Consumes-ahead mid.unread new.unread bytes ahead came;
    one_piece = one piece is;
    one_read = one_read;
    session = session;
    appended = answers.writes;
  } where
    one : (p : Piece) → IsPiece limits (prepend_known ahead new.unread) bytes p
        → IsCommandString limits bytes ⊎ IsRest limits (prepend_known ahead new.unread) bytes
    one Command is = inl is
    one Rest is = inr is

  -- what follows the last string
  module _ (is : IsRest limits (prepend_known ahead new.unread) bytes)
      (answers : Answers limits Rest bytes mid.world new.world mid.failures new.failures mid.written new.written
      (Ok done)) where
    at_rest : (line : Bool) → coded ≡ false → done.coded ≡ line
        → FinishesAtCode limits old new (coded || done.coded) false
    at_rest false plain told = without_code false plain told
        (Finishes-rest limits count old mid new coded done (prepend_known ahead new.unread) bytes served came is
        answers)
    at_rest true plain told =
        let line : answers.coded ≡ true = sym answers.coded_told ∙ told in
        let session = rest_session limits mid new bytes answers.lines answers.coded is.within is.endless answers.ran.0
        in
        finishes-as true false plain told
        (ends-at Rest plain is answers (subst
        (λ (b : Bool). SessionToEnd limits mid.world mid.failures bytes new.world new.failures answers.lines b) line
        session))

    pub Hears-rest : (until : Bool) → (until ≡ true → coded ≡ false)
        → Hears until limits old new (Ok (record { coded = coded || done.coded; exit = false }))
    Hears-rest false plain = Finishes-rest limits count old mid new coded done (prepend_known ahead new.unread) bytes
        served came is answers
    Hears-rest true plain = at_rest done.coded (plain refl) refl

  -- a command string that is a code
  module _ (is : IsCommandString limits bytes)
      (answers : Answers limits Command bytes mid.world new.world mid.failures new.failures mid.written new.written
      (Ok done)) where
    pub Hears-code : (until : Bool) → until ≡ true → (until ≡ true → coded ≡ false) → (coded || done.coded) ≡ true
        → done.exit ≡ false → Hears until limits old new (Ok (record { coded = coded || done.coded; exit = false }))
    Hears-code false ends plain told on = absurd (cc)
    Hears-code true ends plain told on =
        let none : coded ≡ false = plain refl in
        let line : answers.coded ≡ true =
        sym answers.coded_told ∙ (sym (line_alone coded done.coded done.coded none refl) ∙ told) in
        let stays : answers.exit ≡ false = sym answers.exit_told ∙ on in
        let runs = string_session limits mid new bytes answers.lines answers.coded answers.exit is answers.ran in
        let session =
        subst (λ (b : Bool). Session limits mid.world mid.failures bytes new.world new.failures answers.lines
        answers.coded b) stays runs in
        finishes-as true false none (answers.coded_told ∙ line)
        (ends-at Command none is answers
        (subst (λ (b : Bool). SessionToEnd limits mid.world mid.failures bytes new.world new.failures answers.lines
        b) line session))

  -- a command string that ends the session
  module _ (exits : done.exit ≡ true) where
    at_exit : (piece : Piece)
        → (answers : Answers limits piece bytes mid.world new.world mid.failures new.failures mid.written new.written
        (Ok done)) → done.coded ≡ false
    at_exit Command answers =
        let ends : answers.exit ≡ true = sym answers.exit_told ∙ exits in
        answers.coded_told ∙ no_code_at_exit limits bytes mid.world new.world mid.failures new.failures answers.lines
        answers.coded
        (subst (λ (b : Bool). Runs limits bytes mid.world new.world mid.failures new.failures answers.lines
        answers.coded b) ends answers.ran)
    at_exit Rest answers = let no : false ≡ true = sym answers.ran.1 ∙ sym answers.exit_told ∙ exits in cc

    pub Hears-exit : (piece : Piece) → IsPiece limits (prepend_known ahead new.unread) bytes piece
        → Answers limits piece bytes mid.world new.world mid.failures new.failures mid.written new.written (Ok done)
        → (until : Bool) → (until ≡ true → coded ≡ false)
        → Hears until limits old new (Ok (record { coded = coded || done.coded; exit = true }))
    Hears-exit piece is answers false plain =
        Finishes-exit limits count old mid new coded done ahead bytes piece exits served came one_read is answers
    Hears-exit piece is answers true plain =
        without_code true (plain refl) (at_exit piece answers)
        (Finishes-exit limits count old mid new coded done ahead bytes piece exits served came one_read is answers)
