-- How a session goes on, ends and breaks off.
use Rattle.teco_session.proofs.Prelude.{◌≡◌, ◌≢◌, ℕ, ◌+◌, ◌<◌, ◌≤◌, ◌⊎◌, inl, inr, List, [], ◌∷◌, ◌++◌, length, take}
use Rattle.teco_session.proofs.Prelude.{Option, Some, None, Bool, true, false, ◌||◌, Ok, Err, refl, sym, ap, subst, ◌∙◌}
use Rattle.teco_session.proofs.Prelude.{append_assoc, append-nil, arith, length-append, Appends-trans, Consumes-nil}
use Rattle.teco_session.proofs.Prelude.{Consumes-trans, prepend_known-nil, take_all, Consumes, prepend_known, Session}
use Rattle.teco_session.proofs.Prelude.{SessionToEnd, IsCommandString, string_end, code_line, code_of, is_code, is_exit}
use Rattle.teco_session.proofs.Prelude.{rest_code, Stops, StopCounts, World, start, Limits, Stop, Runs, Answers}
use Rattle.teco_session.proofs.Prelude.{Setting, Serves, Finishes, BreaksOff, IsPiece, IsRest, IsUnended, CHUNK}
use Rattle.teco_session.proofs.Prelude.{SessionFault, Read, Write, Memory, Argument, Done, STRINGS, Piece, Command}
use Rattle.teco_session.proofs.Prelude.{Rest}
use Rattle.std.proofs.Common.{nat_le, IfSome}
use Rattle.std.proofs.KnownBytes.{Appends-nil}
use Rattle.std.proofs.Math.Bool.{or-false}
use Rattle.std.proofs.Math.Nat.{eq-or-lt_of_le}
use Rattle.std.proofs.lemmas.Bool.{le-leb, lt-leb}
use Rattle.std.proofs.lemmas.List.{take_at}
use Rattle.std.specs.Io.KnownBytes.{IsAtEnd}
use Rattle.teco_model.specs.Session.{Executes, none, one_more, SessionToExit}
use Rattle.teco_model.specs.Session.{lines_of}
use Rattle.teco_model.specs.declared.stop.Stop.TheVariants as stop_kind
use Rattle.teco_session.proofs.Known.{Consumes-ahead}
use Rattle.teco_session.proofs.Pairs.{string_end-nil}
use Rattle.teco_session.specs.Answers.{RunsNot, MayRun}
use Rattle.teco_session.specs.Sessions.{CutsShort, Converses}

-- before the first string
pub Serves-start : (limits : Limits) (s : Setting) (ahead : List ℕ) → ahead ≡ []
    → Serves limits 0 s (record s { unread = prepend_known ahead s.unread }) false
Serves-start limits s ahead e = record {
  strings = [];
  lines = [];
  came = rw (e, prepend_known-nil) (Consumes-nil s.unread);
  executed = none;
  appended = Appends-nil s.written;
}

-- one more string, which does not end the session
pub Serves-more : (limits : Limits) (count : ℕ) (old mid new : Setting) (coded : Bool) (done : Done) (string : List ℕ)
    → done.exit ≡ false → Serves limits count old mid coded → Consumes mid.unread new.unread string
    → IsCommandString limits string
    → Answers limits Command string mid.world new.world mid.failures new.failures mid.written new.written (Ok done)
    → Serves limits (count + 1) old new (coded || done.coded)
Serves-more limits count old mid new coded done string on served came is answers =
    let runs = answers.ran in
    let goes_on : is_exit runs.stop ≡ false = sym runs.an_exit ∙ sym answers.exit_told ∙ on in
    record {
      strings = served.strings ++ string;
      lines = served.lines ++ answers.lines;
      came = Consumes-trans old.unread mid.unread new.unread served.strings string served.came came;
      executed = rw (runs.stays, runs.all_lines, answers.coded_told, runs.a_line)
          (one_more count served.strings mid.world mid.failures served.lines coded string runs.stop runs.after
          new.failures served.executed is runs.stops runs.counted goes_on);
      appended = Appends-trans old.written mid.written new.written served.lines answers.lines served.appended
          answers.writes;
    }

-- the session of some strings and a rest that is no string
session_of : (limits : Limits) (count : ℕ) (old : Setting) (new : Setting) (strings lines rest : List ℕ) (line : Bool)
    → Executes limits old.world old.failures count strings new.world new.failures lines line
    → string_end (take limits.length rest) ≡ None
    → SessionToEnd limits old.world old.failures (strings ++ rest) new.world new.failures
    (lines ++ code_line (rest_code limits rest)) (line || is_code (rest_code limits rest))
session_of limits count old new strings lines rest line executed no_string = record {
  count = count;
  strings = strings;
  rest = rest;
  lines = lines;
  line = line;
  whole = refl;
  executed = executed;
  no_string = no_string;
  all_written = refl;
  a_line = refl;
}

-- a rest that is no longer than a string may be
short_rest : (limits : Limits) (rest : List ℕ) → length rest ≤ limits.length → string_end rest ≡ None
    → string_end (take limits.length rest) ≡ None
short_rest limits rest short endless = ap string_end (take_all limits.length rest short) ∙ endless

-- a stop that ends the session
pub record IsExit (stop : Stop) : Type 0 where
  pub steps : ℕ
  pub same : stop ≡ stop_kind.Exit steps

exit_of : (stop : Stop) → is_exit stop ≡ true → IsExit stop
exit_of (stop_kind.Exit steps) e = record { steps = steps; same = refl }
exit_of (stop_kind.Ended steps) e = cc
exit_of (stop_kind.Error c) e = cc
exit_of stop_kind.Limit e = cc
exit_of stop_kind.Memory e = cc
exit_of (stop_kind.HostFault fault) e = cc

-- the end of the session is no code
pub no_code_at_exit : (limits : Limits) (string : List ℕ) (old new : World) (f g : ℕ) (lines : List ℕ) (coded : Bool)
    → Runs limits string old new f g lines coded true → coded ≡ false
no_code_at_exit limits string old new f g lines coded runs =
    let exits = exit_of runs.stop (sym runs.an_exit) in
    runs.a_line ∙ ap (λ stop. is_code (code_of stop)) exits.same

-- the session that a command string ends, behind others, with so much behind it
abbrev SessionBehind : (limits : Limits) (old new : World) (f g : ℕ) (input lines behind : List ℕ) (coded : Bool)
    → Type 0
SessionBehind limits old new f g input lines behind coded =
    (session : SessionToExit limits old f input new g lines coded) × (session.behind ≡ behind)

session_to : (limits : Limits) (count : ℕ) (old mid new : World) (f k g : ℕ) (strings lines string more : List ℕ)
    (own : List ℕ) (line coded : Bool) → Executes limits old f count strings mid k lines line
    → IsCommandString limits string → Runs limits string mid new k g own coded true
    → SessionBehind limits old new f g (strings ++ (string ++ more)) (lines ++ own) more (line || coded)
session_to limits count old mid new f k g strings lines string more own line coded executed is runs =
    let exits = exit_of runs.stop (sym runs.an_exit) in
    let no_line : coded ≡ false = no_code_at_exit limits string mid new k g own coded runs in
    let same : g ≡ k = subst (λ stop. StopCounts stop k g) exits.same runs.counted in (
      record {
        count = count;
        strings = strings;
        last = string;
        behind = more;
        lines = lines;
        steps = exits.steps;
        mid = mid;
        after = runs.after;
        whole = refl;
        executed = rw (same, no_line, or-false line) executed;
        one_string = is;
        exits = subst (λ stop. Stops (start string mid) limits.steps stop runs.after) exits.same runs.stops;
        stays = runs.stays;
        all_written = ap (λ l. lines ++ l) (runs.all_lines ∙ ap (λ stop. lines_of stop runs.after) exits.same);
      },
      refl,
    )

-- a string that may be there has room for its first byte
has_room : (limits : Limits) (string : List ℕ) → IsCommandString limits string → 0 < limits.length
has_room limits [] is = let none = string_end-nil in let ends = is.ends in cc
has_room limits (byte ∷ string) is = omega (arith, is.within)

served_room : (limits : Limits) (count : ℕ) (old : World) (f : ℕ) (input : List ℕ) (new : World) (g : ℕ)
    (written : List ℕ) (coded : Bool) → Executes limits old f count input new g written coded → 0 < count
    → 0 < limits.length
served_room limits count old f input new g written coded none some = omega arith
served_room limits count old f input new g written coded
    (one_more before strings mid k lines line string stop after failed executed is stops counted on) some =
    has_room limits string is

-- nothing is left behind a string
nothing_left : (limits : Limits) (string : List ℕ) → IsCommandString limits string → rest_code limits [] ≡ None
nothing_left limits string is =
    let short : nat_le limits.length 0 ≡ false = lt-leb _ _ (has_room limits string is) in
    rw short refl

-- the session of a command string
pub string_session : (limits : Limits) (old new : Setting) (string lines : List ℕ) (coded exit : Bool)
    → IsCommandString limits string → Runs limits string old.world new.world old.failures new.failures lines coded exit
    → Session limits old.world old.failures string new.world new.failures lines coded exit
string_session limits old new string lines coded false is runs = record {
  count = 1;
  strings = string;
  rest = [];
  lines = lines;
  line = coded;
  whole = sym (append-nil string);
  executed = rw (runs.stays, runs.all_lines, runs.a_line)
      (one_more 0 [] old.world old.failures [] false string runs.stop runs.after new.failures none is runs.stops
      runs.counted (sym runs.an_exit));
  no_string = short_rest limits [] (omega arith) string_end-nil;
  all_written = rw (nothing_left limits string is) (sym (append-nil lines));
  a_line = rw (nothing_left limits string is) (sym (or-false coded));
}
string_session limits old new string lines coded true is runs =
    subst (λ l. SessionToExit limits old.world old.failures l new.world new.failures lines coded) (append-nil string)
    (session_to limits 0 old.world old.world new.world old.failures old.failures new.failures [] [] string [] lines
    false coded none is runs).0

-- the session of a rest
pub rest_session : (limits : Limits) (old new : Setting) (rest lines : List ℕ) (coded : Bool)
    → length rest ≤ limits.length → string_end rest ≡ None
    → RunsNot limits rest old.world new.world old.failures new.failures lines coded
    → SessionToEnd limits old.world old.failures rest new.world new.failures lines coded
rest_session limits old new rest lines coded short endless runs_not =
    rw (runs_not.stays, runs_not.counted, runs_not.all_lines, runs_not.a_line)
    (session_of limits 0 old old [] [] rest false none (short_rest limits rest short endless))

-- the output of a piece was cut short, and as many codes came before as were told
pub cuts-short : (limits : Limits) (count : ℕ) (old mid new : Setting) (coded : Bool) (ahead bytes : List ℕ)
    (piece : Piece) (fault : SessionFault) → Serves limits count old mid coded
    → Consumes mid.unread (prepend_known ahead new.unread) bytes
    → IsPiece limits (prepend_known ahead new.unread) bytes piece → length ahead ≤ CHUNK
    → Answers limits piece bytes mid.world new.world mid.failures new.failures mid.written new.written (Err fault)
    → (cut : CutsShort limits old new) × (cut.coded ≡ coded)
cuts-short limits count old mid new coded ahead bytes piece fault served came is one_read answers = (
  record {
    count = count;
    coded = coded;
    last = mid;
    piece = bytes;
    unused = ahead;
    lines = answers.lines;
    line = answers.coded;
    exit = answers.exit;
    served = served;
    came = Consumes-ahead mid.unread new.unread bytes ahead came;
    one_piece = one piece is;
    one_read = one_read;
    session = session piece is answers.ran;
    part = answers.writes.1;
  },
  refl,
) where
  one : (p : Piece) → IsPiece limits (prepend_known ahead new.unread) bytes p
      → IsCommandString limits bytes ⊎ IsRest limits (prepend_known ahead new.unread) bytes
  one Command is = inl is
  one Rest is = inr is

  session : (p : Piece) → IsPiece limits (prepend_known ahead new.unread) bytes p
      → MayRun limits p bytes mid.world new.world mid.failures new.failures answers.lines answers.coded answers.exit
      → Session limits mid.world mid.failures bytes new.world new.failures answers.lines answers.coded answers.exit
  session Command is ran = string_session limits mid new bytes answers.lines answers.coded answers.exit is ran
  session Rest is ran =
      rw ran.1 (rest_session limits mid new bytes answers.lines answers.coded is.within is.endless ran.0)

pub Converses-write : (limits : Limits) (count : ℕ) (old mid new : Setting) (coded : Bool) (ahead bytes : List ℕ)
    (piece : Piece) (fault : SessionFault) → Serves limits count old mid coded
    → Consumes mid.unread (prepend_known ahead new.unread) bytes
    → IsPiece limits (prepend_known ahead new.unread) bytes piece → length ahead ≤ CHUNK
    → Answers limits piece bytes mid.world new.world mid.failures new.failures mid.written new.written (Err fault)
    → Converses limits old new (Err fault)
Converses-write limits count old mid new coded ahead bytes piece fault served came is one_read answers =
    rw answers.writes.0 (cuts-short limits count old mid new coded ahead bytes piece fault served came is one_read
    answers).0

-- such a fault came behind the strings, and as many codes as were told
pub breaks-behind : (limits : Limits) (count : ℕ) (old new : Setting) (left : Option (List ℕ)) (coded : Bool)
    (ahead part : List ℕ) (fault : SessionFault) → Serves limits count old (record new { unread = left }) coded
    → Consumes left (prepend_known ahead new.unread) part → IsUnended limits part → length ahead ≤ CHUNK
    → (fault ≡ Read → (ahead ≡ []) ⊎ (count ≡ STRINGS)) → (breaks : BreaksOff limits old new fault)
    × (breaks.coded ≡ coded)
breaks-behind limits count old new left coded ahead part fault served came unended one_read all_used = (
  record {
    count = count;
    coded = coded;
    left = left;
    part = part;
    unused = ahead;
    served = served;
    came = Consumes-ahead left new.unread part ahead came;
    unended = unended;
    one_read = one_read;
    all_used = all_used;
  },
  refl,
)

-- no piece came
pub Converses-break : (limits : Limits) (count : ℕ) (old new : Setting) (left : Option (List ℕ)) (coded : Bool)
    (ahead part : List ℕ) (fault : SessionFault) → Serves limits count old (record new { unread = left }) coded
    → Consumes left (prepend_known ahead new.unread) part → IsUnended limits part → length ahead ≤ CHUNK
    → (fault ≡ Read → ahead ≡ []) → fault ≢ Write → fault ≢ Argument → Converses limits old new (Err fault)
Converses-break limits count old new left coded ahead part Read served came unended one_read all other uncalled =
    (breaks-behind limits count old new left coded ahead part Read served came unended one_read (λ e. inl (all e))).0
Converses-break limits count old new left coded ahead part Memory served came unended one_read all other uncalled =
    (breaks-behind limits count old new left coded ahead part Memory served came unended one_read (λ e. inl (all e))).0
Converses-break limits count old new left coded ahead part Write served came unended one_read all other uncalled =
    absurd (other refl)
Converses-break limits count old new left coded ahead part Argument served came unended one_read all other uncalled =
    absurd (uncalled refl)

-- a session takes no more strings
pub breaks-full : (limits : Limits) (count : ℕ) (old new : Setting) (coded : Bool) (ahead : List ℕ)
    → Serves limits count old (record new { unread = prepend_known ahead new.unread }) coded → length ahead ≤ CHUNK
    → count ≡ STRINGS → (breaks : BreaksOff limits old new Read) × (breaks.coded ≡ coded)
breaks-full limits count old new coded ahead served one_read full =
    let left = prepend_known ahead new.unread in
    breaks-behind limits count old new left coded ahead [] Read served (Consumes-nil left)
    (record {
      endless = string_end-nil;
      short = served_room limits count _ _ _ _ _ _ _ served.executed (omega arith);
    }) one_read (λ _. inr full)

pub Converses-full : (limits : Limits) (count : ℕ) (old new : Setting) (coded : Bool) (ahead : List ℕ)
    → Serves limits count old (record new { unread = prepend_known ahead new.unread }) coded → length ahead ≤ CHUNK
    → count ≡ STRINGS → Converses limits old new (Err Read)
Converses-full limits count old new coded ahead served one_read full =
    (breaks-full limits count old new coded ahead served one_read full).0

-- a rest of as many bytes as a string may have, or more, is FUL, whatever follows
full_code : (limits : Limits) (rest more : List ℕ) → length rest ≡ limits.length
    → rest_code limits (rest ++ more) ≡ rest_code limits rest
full_code limits rest more full =
    let long : nat_le limits.length (length (rest ++ more)) ≡ true =
    le-leb _ _ (omega (arith, length-append rest more)) in
    let same : nat_le limits.length (length rest) ≡ true = le-leb _ _ (omega arith) in
    rw (long, same) refl

-- the bytes that are left, where they are known
known_rest : Option (List ℕ) → List ℕ
known_rest None = []
known_rest (Some bytes) = bytes

told_input : (source left : Option (List ℕ)) (read : List ℕ) → Consumes source left read
    → IfSome source (λ bytes. bytes ≡ read ++ known_rest left)
unfolding known_rest
told_input None left read came = tt
told_input (Some bytes) None read came = absurd came
told_input (Some bytes) (Some more) read came = came

none_left : (left : Option (List ℕ)) → IsAtEnd left → known_rest left ≡ []
unfolding known_rest
none_left None end = refl
none_left (Some bytes) end = end

-- what comes behind a rest changes neither its end nor its code
pub record Stays (limits : Limits) (rest more : List ℕ) : Type 0 where
  pub endless : string_end (take limits.length (rest ++ more)) ≡ None
  pub code : rest_code limits (rest ++ more) ≡ rest_code limits rest

stays : (limits : Limits) (rest : List ℕ) (left : Option (List ℕ)) → IsRest limits left rest
    → Stays limits rest (known_rest left)
stays limits rest left is = elim (eq-or-lt_of_le is.within) [
  | inl full ↦ record {
    endless = ap string_end (take_at rest (known_rest left) limits.length full) ∙ is.endless;
    code = full_code limits rest (known_rest left) full;
  }
  | inr short ↦
      let same : rest ++ known_rest left ≡ rest = ap (λ l. rest ++ l) (none_left left (is.last short))
      ∙ append-nil rest in
      record {
        endless = ap (λ l. string_end (take limits.length l)) same ∙ short_rest limits rest is.within is.endless;
        code = ap (rest_code limits) same;
      }
]

-- a session is finished at a rest
pub Finishes-rest : (limits : Limits) (count : ℕ) (old mid new : Setting) (coded : Bool) (done : Done)
    (left : Option (List ℕ)) (rest : List ℕ) → Serves limits count old mid coded → Consumes mid.unread left rest
    → IsRest limits left rest → Answers limits Rest rest mid.world new.world mid.failures new.failures mid.written
    new.written (Ok done) → Finishes limits old new (coded || done.coded) false
Finishes-rest limits count old mid new coded done left rest served came is answers =
    let more = known_rest left in
    let behind = stays limits rest left is in
    let read = served.strings ++ rest in
    let runs_not = answers.ran.0 in
    record {
      input = served.strings ++ (rest ++ more);
      lines = served.lines ++ answers.lines;
      told = subst (λ l. IfSome old.unread (λ bytes. bytes ≡ l)) (append_assoc served.strings rest more)
          (told_input old.unread left read
          (Consumes-trans old.unread mid.unread left served.strings rest served.came came));
      session = rw (
        runs_not.stays,
        runs_not.counted,
        runs_not.all_lines,
        answers.coded_told,
        runs_not.a_line,
        ← behind.code,
      ) (session_of limits count old mid served.strings served.lines
          (rest ++ more) coded served.executed behind.endless);
      appended = Appends-trans old.written mid.written new.written served.lines answers.lines served.appended
          answers.writes;
    }

-- or at a command string that ends it
pub Finishes-exit : (limits : Limits) (count : ℕ) (old mid new : Setting) (coded : Bool) (done : Done)
    (ahead bytes : List ℕ) (piece : Piece) → done.exit ≡ true → Serves limits count old mid coded
    → Consumes mid.unread (prepend_known ahead new.unread) bytes → length ahead ≤ CHUNK
    → IsPiece limits (prepend_known ahead new.unread) bytes piece
    → Answers limits piece bytes mid.world new.world mid.failures new.failures mid.written new.written (Ok done)
    → Finishes limits old new (coded || done.coded) true
Finishes-exit limits count old mid new coded done ahead string Command exits served came one_read is answers =
    let ends : answers.exit ≡ true = sym answers.exit_told ∙ exits in
    let runs =
    subst (λ exit. Runs limits string mid.world new.world mid.failures new.failures answers.lines answers.coded
    exit) ends answers.ran in
    let ended : SessionBehind limits old.world new.world old.failures new.failures (served.strings ++ (string ++ []))
    (served.lines ++ answers.lines) [] (coded || answers.coded) =
    session_to limits count old.world mid.world new.world old.failures mid.failures new.failures served.strings
    served.lines string [] answers.lines coded answers.coded served.executed is runs in
    let session = subst (λ (c : Bool). SessionBehind limits old.world new.world old.failures new.failures
    (served.strings ++ (string ++ [])) (served.lines ++ answers.lines) [] (coded || c))
    (sym answers.coded_told) ended in
    let read = Consumes-trans old.unread mid.unread (prepend_known ahead new.unread) served.strings string served.came
    came in
    record {
      input = served.strings ++ (string ++ []);
      unused = ahead;
      lines = served.lines ++ answers.lines;
      came = subst (λ l. Consumes old.unread new.unread ((served.strings ++ l) ++ ahead)) (sym (append-nil string))
          (Consumes-ahead old.unread new.unread (served.strings ++ string) ahead read);
      one_read = one_read;
      session = session.0;
      last = session.1;
      appended = Appends-trans old.written mid.written new.written served.lines answers.lines served.appended
          answers.writes;
    }
Finishes-exit limits count old mid new coded done ahead rest Rest exits served came one_read is answers =
    let no : false ≡ true = sym answers.ran.1 ∙ sym answers.exit_told ∙ exits in cc
