-- Where ways meet: what is known of each is true of both.
use Rattle.teco_law_facts.proofs.Prelude.{◌≡◌, ℕ, ◌≤◌, arith, refl, List, [], ◌∷◌, length, Option, Some, None, Result}
use Rattle.teco_law_facts.proofs.Prelude.{Ok, Err, IfOk, ok_or, ◌+◌, ℤ, ints, clamps, Polynomial, value, ◌>>=◌, Run}
use Rattle.teco_law_facts.proofs.Prelude.{IsAt, AreEach, HasFallen, ArePushed, ArePending, fore_of, back_of, Position}
use Rattle.teco_law_facts.proofs.Prelude.{Pushed, Facts, without_arguments, joined_saved, none_pending, Interval, Value}
use Rattle.teco_law_facts.proofs.Prelude.{KnownLevel, KnownArguments, ok_then, Arguments, Pair, Operator, RefusalReason}
use Rattle.teco_poly.proofs.Lawful.{value_of_join}
use Rattle.teco_poly.specs.Polynomial.{join}
use Rattle.teco_verifier.specs.facts.Facts.{join_of}
use Rattle.teco_verifier.specs.facts.Joins.{nearer_of, joined_position, hull, hulls, joined_lengths}
use Rattle.teco_verifier.specs.facts.Joins.{joined_pushes, smaller_fall, smaller_falls}
use Rattle.teco_law_facts.specs.Laws.{MayMeet, MeetsBoth, JoinsAreSound}
use Rattle.teco_verifier.specs.facts.Arguments.{no_arguments}
use Rattle.teco_law_facts.proofs.Each.{IsNumber, IsText}
use Rattle.teco_law_facts.proofs.Saved.{saved_left, saved_right}
use Rattle.teco_verifier.specs.declared.refusal.RefusalReason.TheVariants as refusal

-- ---- polynomials
pub record IsAbove (n : ℕ) (p q r : Polynomial) : Type 0 where
  pub left : value p n ≤ value r n
  pub right : value q n ≤ value r n

value-join_at : (n : ℕ) (p q : Polynomial) (o : Option Polynomial) → join p q ≡ o
    → IfOk (ok_or o refusal.Overflow) (IsAbove n p q)
value-join_at n p q None e = tt
value-join_at n p q (Some r) e = let v = value_of_join p q r n e in record { left = v.0; right = v.1 }

pub value-join_of : (n : ℕ) (p q : Polynomial) → IfOk (join_of p q) (IsAbove n p q)
value-join_of n p q = value-join_at n p q _ refl

-- ---- falls
fall_left : (ahead begun : ℕ) (v w : Option ℤ) → HasFallen ahead v begun → HasFallen ahead (smaller_fall v w) begun
fall_left ahead begun (Some v) (Some w) h = omega (arith, ints, clamps)
fall_left ahead begun None w h = tt
fall_left ahead begun (Some v) None h = tt

fall_right : (ahead begun : ℕ) (v w : Option ℤ) → HasFallen ahead w begun → HasFallen ahead (smaller_fall v w) begun
fall_right ahead begun (Some v) (Some w) h = omega (arith, ints, clamps)
fall_right ahead begun None w h = tt
fall_right ahead begun (Some v) None h = tt

falls_left : (ahead : ℕ) (vs ws : List (Option ℤ)) (turns : List ℕ) → length vs ≡ length ws
    → AreEach (HasFallen ahead) vs turns → AreEach (HasFallen ahead) (smaller_falls vs ws) turns
falls_left ahead [] [] turns l h = h
falls_left ahead (v ∷ vs) (w ∷ ws) (begun ∷ turns) l h =
    (fall_left ahead begun v w h.0, falls_left ahead vs ws turns (omega arith) h.1)
falls_left ahead (v ∷ vs) (w ∷ ws) [] l h = absurd h
falls_left ahead [] (w ∷ ws) turns l h = absurd (omega arith)
falls_left ahead (v ∷ vs) [] turns l h = absurd (omega arith)

falls_right : (ahead : ℕ) (vs ws : List (Option ℤ)) (turns : List ℕ) → length vs ≡ length ws
    → AreEach (HasFallen ahead) ws turns → AreEach (HasFallen ahead) (smaller_falls vs ws) turns
falls_right ahead [] [] turns l h = h
falls_right ahead (v ∷ vs) (w ∷ ws) (begun ∷ turns) l h =
    (fall_right ahead begun v w h.0, falls_right ahead vs ws turns (omega arith) h.1)
falls_right ahead (v ∷ vs) (w ∷ ws) [] l h = absurd h
falls_right ahead [] (w ∷ ws) turns l h = absurd (omega arith)
falls_right ahead (v ∷ vs) [] turns l h = absurd (omega arith)

-- ---- positions
pub record IsJoin (run : Run) (p q j : Position) : Type 0 where
  pub left : (fore back unread : ℕ) (pairs : List Pair) → IsAt run p fore back unread pairs
      → IsAt run j fore back unread pairs
  pub right : (fore back unread : ℕ) (pairs : List Pair) → IsAt run q fore back unread pairs
      → IsAt run j fore back unread pairs

position_with : (run : Run) (p q : Position) → length p.falls ≡ length q.falls → length p.saved ≡ length q.saved
    → (r : Result Polynomial RefusalReason) → IfOk r (IsAbove run.n p.ahead q.ahead)
    → IfOk (r >>= λ ahead. Ok (record {
      distances = nearer_of p.distances q.distances;
      falls = smaller_falls p.falls q.falls;
      ahead = ahead;
      saved = joined_saved p.saved q.saved;
    })) (IsJoin run p q)
position_with run p q l k (Err why) a = tt
position_with run p q l k (Ok ahead) a = record {
  left = λ fore back unread pairs h. record {
    begin = omega (arith, h.begin);
    end = omega (arith, h.end);
    fallen = falls_left (fore + unread) p.falls q.falls run.turns l h.fallen;
    ahead = omega (arith, a.left, h.ahead);
    saved = saved_left fore back p.saved q.saved pairs k h.saved;
  };
  right = λ fore back unread pairs h. record {
    begin = omega (arith, h.begin);
    end = omega (arith, h.end);
    fallen = falls_right (fore + unread) p.falls q.falls run.turns l h.fallen;
    ahead =
        omega (arith, a.right, h.ahead);
    saved = saved_right fore back p.saved q.saved pairs k h.saved;
  };
}

pub position_joined : (run : Run) (p q : Position) → length p.falls ≡ length q.falls → length p.saved ≡ length q.saved
    → IfOk (joined_position p q) (IsJoin run p q)
position_joined run p q l k = position_with run p q l k _ (value-join_of run.n p.ahead q.ahead)

-- ---- registers
hulls_left : (is js : List Interval) (pairs : List Pair) → length is ≡ length js → AreEach IsNumber is pairs
    → AreEach IsNumber (hulls is js) pairs
hulls_left [] [] pairs l h = h
hulls_left (i ∷ is) (j ∷ js) (pair ∷ pairs) l h = (
  record { low = omega (arith, ints, clamps, h.0); high = omega (arith, ints, clamps, h.0) },
  hulls_left is js pairs (omega arith) h.1,
)
hulls_left is js pairs l h = absurd (grind arith)

hulls_right : (is js : List Interval) (pairs : List Pair) → length is ≡ length js → AreEach IsNumber js pairs
    → AreEach IsNumber (hulls is js) pairs
hulls_right [] [] pairs l h = h
hulls_right (i ∷ is) (j ∷ js) (pair ∷ pairs) l h = (
  record { low = omega (arith, ints, clamps, h.0); high = omega (arith, ints, clamps, h.0) },
  hulls_right is js pairs (omega arith) h.1,
)
hulls_right is js pairs l h = absurd (grind arith)

-- texts that are no longer than those of one list, or of the other, are no longer than those that are joined
pub record AreAbove (ps qs rs : List Polynomial) : Type 0 where
  pub left : (n : ℕ) (pairs : List Pair) → AreEach (IsText n) ps pairs → AreEach (IsText n) rs pairs
  pub right : (n : ℕ) (pairs : List Pair) → AreEach (IsText n) qs pairs → AreEach (IsText n) rs pairs

put_before : (p q : Polynomial) (ps qs : List Polynomial) (r : Result Polynomial RefusalReason)
    (rs : Result (List Polynomial) RefusalReason) → ((n : ℕ) → IfOk r (IsAbove n p q)) → IfOk rs (AreAbove ps qs)
    → IfOk (r >>= λ join. rs >>= λ joins. Ok (join ∷ joins)) (AreAbove (p ∷ ps) (q ∷ qs))
put_before p q ps qs (Err why) rs a b = tt
put_before p q ps qs (Ok r) (Err why) a b = tt
put_before p q ps qs (Ok r) (Ok rs) a b = record { left = left_of; right = right_of } where
  left_of : (n : ℕ) (pairs : List Pair) → AreEach (IsText n) (p ∷ ps) pairs → AreEach (IsText n) (r ∷ rs) pairs
  left_of n (pair ∷ pairs) h = (omega (arith, (a n).left, h.0), b.left n pairs h.1)
  left_of n [] h = absurd h

  right_of : (n : ℕ) (pairs : List Pair) → AreEach (IsText n) (q ∷ qs) pairs → AreEach (IsText n) (r ∷ rs) pairs
  right_of n (pair ∷ pairs) h = (omega (arith, (a n).right, h.0), b.right n pairs h.1)
  right_of n [] h = absurd h

lengths_above : (ps qs : List Polynomial) → length ps ≡ length qs → IfOk (joined_lengths ps qs) (AreAbove ps qs)
lengths_above [] [] l = record { left = λ n pairs h. h; right = λ n pairs h. h }
lengths_above (p ∷ ps) (q ∷ qs) l =
    put_before p q ps qs _ _ (λ n. value-join_of n p q) (lengths_above ps qs (omega arith))
lengths_above ps qs l = absurd (grind arith)

-- pushes
pub record ArePushedBoth (ss ts js : List Pushed) : Type 0 where
  pub left : (n : ℕ) (below stack : List Pair) → ArePushed n below ss stack → ArePushed n below js stack
  pub right : (n : ℕ) (below stack : List Pair) → ArePushed n below ts stack → ArePushed n below js stack

push_before : (s t : Pushed) (ss ts : List Pushed) (r : Result Polynomial RefusalReason)
    (js : Result (List Pushed) RefusalReason)
    → ((n : ℕ) → IfOk r (IsAbove n s.text t.text)) → IfOk js (ArePushedBoth ss ts)
    → IfOk ((r >>= λ text. Ok (record { number = hull s.number t.number; text = text })) >>= λ pair. js >>= λ pairs.
    Ok (pair ∷ pairs)) (ArePushedBoth (s ∷ ss) (t ∷ ts))
push_before s t ss ts (Err why) js a b = tt
push_before s t ss ts (Ok r) (Err why) a b = tt
push_before s t ss ts (Ok r) (Ok js) a b = record { left = left_of; right = right_of } where
  left_of : (n : ℕ) (below stack : List Pair) → ArePushed n below (s ∷ ss) stack
      → ArePushed n below (record { number = hull s.number t.number; text = r } ∷ js) stack
  left_of n below (pair ∷ stack) h = (
    record {
      number = record {
        low = omega (arith, ints, clamps, h.0.number);
        high = omega (arith, ints, clamps, h.0.number);
      };
      text = omega (arith, (a n).left, h.0.text);
    },
    b.left n below stack h.1,
  )
  left_of n below [] h = absurd h

  right_of : (n : ℕ) (below stack : List Pair) → ArePushed n below (t ∷ ts) stack
      → ArePushed n below (record { number = hull s.number t.number; text = r } ∷ js) stack
  right_of n below (pair ∷ stack) h = (
    record {
      number = record {
        low = omega (arith, ints, clamps, h.0.number);
        high = omega (arith, ints, clamps, h.0.number);
      };
      text = omega (arith, (a n).right, h.0.text);
    },
    b.right n below stack h.1,
  )
  right_of n below [] h = absurd h

pushes_both : (ss ts : List Pushed) → IfOk (joined_pushes ss ts) (ArePushedBoth ss ts)
pushes_both [] [] = record { left = λ n below stack h. h; right = λ n below stack h. h }
pushes_both (s ∷ ss) (t ∷ ts) = push_before s t ss ts _ _ (λ n. value-join_of n s.text t.text) (pushes_both ss ts)
pushes_both [] (t ∷ ts) = tt
pushes_both (s ∷ ss) [] = tt

-- ---- nothing is pending
abbrev IsNone : KnownArguments → Type 0
IsNone known = (fore back : ℕ) (arguments : Arguments) → ArePending fore back known arguments
    → ArePending fore back no_arguments arguments

none_at : (first value : Option Value) (operator : Option Operator) (outer : List KnownLevel)
    → IfOk (none_pending (record {
      level = record { first = first; value = value; operator = operator };
      outer = outer;
    })) (λ u. IsNone (record {
      level = record { first = first; value = value; operator = operator };
      outer = outer;
    }))
none_at None None None [] = λ fore back arguments h.
    record {
      level = record { first = h.level.first; value = h.level.value; operator = h.level.operator };
      outer = h.outer;
    }
none_at None None None (level ∷ outer) = tt
none_at (Some s) value operator outer = tt
none_at None (Some s) operator outer = tt
none_at None None (Some operator) outer = tt

none_is : (known : KnownArguments) → IfOk (none_pending known) (λ u. IsNone known)
none_is known = none_at known.level.first known.level.value known.level.operator known.outer

-- ---- facts
met : (facts others : Facts) → MayMeet facts others → IsNone facts.arguments → IsNone others.arguments
    → (pushes : List Pushed) → ArePushedBoth facts.pushes others.pushes pushes → (position : Position)
    → ((run : Run) → IsJoin run facts.position others.position position) → (held : Polynomial)
    → ((n : ℕ) → IsAbove n facts.held others.held held) → (texts : List Polynomial)
    → AreAbove facts.texts others.texts texts
    → MeetsBoth facts others (record (without_arguments facts) {
      position = position;
      held = held;
      numbers = hulls facts.numbers others.numbers;
      texts = texts;
      pushes = pushes;
    })
met facts others m p q pushes s position j held a texts t = record {
  one = λ run unread kept arguments d. let h = d.state in record {
    state = record {
      position = (j run).left (fore_of kept) (back_of kept) unread kept.registers.pairs h.position;
      held = omega (arith, (a run.n).left, h.held);
      registers =
          record {
            numbers = hulls_left facts.numbers others.numbers kept.registers.pairs m.numbers h.registers.numbers;
            texts = t.left run.n kept.registers.pairs h.registers.texts;
          };
      pushed = s.left run.n run.below kept.registers.stack h.pushed;
    };
    pending = p (fore_of kept) (back_of kept) arguments d.pending;
    answers = tt;
  };
  other = λ run unread kept arguments d. let h = d.state in record {
    state = record {
      position = (j run).right (fore_of kept) (back_of kept) unread kept.registers.pairs h.position;
      held = omega (arith, (a run.n).right, h.held);
      registers =
          record {
            numbers = hulls_right facts.numbers others.numbers kept.registers.pairs m.numbers
                h.registers.numbers;
            texts = t.right run.n kept.registers.pairs h.registers.texts;
          };
      pushed = s.right run.n run.below kept.registers.stack h.pushed;
    };
    pending = q (fore_of kept) (back_of kept) arguments d.pending;
    answers = tt;
  };
}

all_above : (p q : Polynomial) (r : Result Polynomial RefusalReason) → ((n : ℕ) → IfOk r (IsAbove n p q))
    → IfOk r (λ j. (n : ℕ) → IsAbove n p q j)
all_above p q (Ok j) h = h
all_above p q (Err why) h = tt

all_joins : (p q : Position) (r : Result Position RefusalReason) → ((run : Run) → IfOk r (IsJoin run p q))
    → IfOk r (λ j. (run : Run) → IsJoin run p q j)
all_joins p q (Ok j) h = h
all_joins p q (Err why) h = tt

pub joins_are_sound : JoinsAreSound
joins_are_sound facts others m =
    ok_then (λ (u : Unit {0}). IsNone facts.arguments) (MeetsBoth facts others) _ _ (none_is facts.arguments)
    (λ one p.
    ok_then (λ (u : Unit {0}). IsNone others.arguments) (MeetsBoth facts others) _ _ (none_is others.arguments)
    (λ two q.
    ok_then (ArePushedBoth facts.pushes others.pushes) (MeetsBoth facts others) _ _
    (pushes_both facts.pushes others.pushes) (λ pushes s.
    ok_then (λ j. (run : Run) → IsJoin run facts.position others.position j) (MeetsBoth facts others) _ _
    (all_joins _ _ _ (λ run. position_joined run facts.position others.position m.falls m.saved)) (λ position j.
    ok_then (λ r. (n : ℕ) → IsAbove n facts.held others.held r) (MeetsBoth facts others) _ _
    (all_above _ _ _ (λ n. value-join_of n facts.held others.held)) (λ held a.
    ok_then (AreAbove facts.texts others.texts) (MeetsBoth facts others) _ _
    (lengths_above facts.texts others.texts m.texts) (λ texts t.
    met facts others m p q pushes s position j held a texts t))))))
