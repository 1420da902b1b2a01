-- What is done with registers, the push-down list, the search mode and numbers is upheld; and so are all commands.
use Rattle.teco_model.proofs.Prelude.{true, ◌≡◌, ℕ, zero, suc, arith, ap, w32, ℤ, pos, ◌+ℤ◌, List, [], ◌∷◌, drop}
use Rattle.teco_model.proofs.Prelude.{length}
use Rattle.teco_model.proofs.Prelude.{length-drop, Option, Some, None, ok_or, Ok, nat_le, AllByRecursion, unwrap_or}
use Rattle.teco_model.proofs.Prelude.{ints, SFits-int_wrap, nat_tests, add, decimal, LIMIT, ◌>>=◌, Element, with_kept}
use Rattle.teco_model.proofs.Prelude.{empty_pair, Kept, World, Taken, Command, Query, AreBytes, IsWhole, IsWholePair}
use Rattle.std.proofs.lemmas.List.{length-set}
use Rattle.teco_base.specs.declared.code.Code.TheVariants as code
use Rattle.teco_model.proofs.Bytes.{IsByte, all_at, all_put, all_joined, range_bytes, decimal_bytes, empty_whole}
use Rattle.teco_model.proofs.Bytes.{code_fits, number_short, number_fits}
use Rattle.teco_model.proofs.Coded.{Yields, yields_then, yields_if}
use Rattle.teco_model.proofs.upkeep.Edits.{Ground, Upheld, Leaves, Does, IsUpheldEffect, Part, moved, types, silent}
use Rattle.teco_model.proofs.upkeep.Edits.{motion_does, part_found, deletion_does, inserted, insertion_does}
use Rattle.teco_model.proofs.upkeep.Edits.{typing_does}
use Rattle.teco_model.proofs.upkeep.Levels.{Fits, IsTaken, needed}
use Rattle.teco_model.specs.Names.{named_by, written_by, is_of_stack, sets_mode}
use Rattle.teco_model.specs.Query as query
use Rattle.teco_model.specs.Registers.{Pair, pair_of, with_pair, registers_without_top}
use Rattle.teco_model.specs.Step.{execution}
use Rattle.teco_model.specs.Storage as storage
use Rattle.teco_model.specs.declared.kind.Command.TheVariants as command
use Rattle.teco_model.specs.declared.kind.Kind.TheVariants as kind
use Rattle.teco_model.specs.declared.kind.Query.TheVariants as query_kind
use Rattle.teco_model.specs.declared.kind.Stack.{Stack}
use Rattle.teco_model.specs.declared.kind.Stack.TheVariants as stack_kind
use Rattle.teco_model.specs.declared.kind.Storage.{Storage}
use Rattle.teco_model.specs.declared.kind.Storage.TheVariants as storage_kind
use Rattle.teco_model.specs.laws.Upkeep.{with_registers}

pair_whole : (kept : Kept) → IsWhole kept → (r : ℕ) → IsWholePair (pair_of r kept.registers)
pair_whole kept w r = all_at IsWholePair kept.registers.pairs empty_pair w.pairs empty_whole r

stacked_whole : (kept : Kept) → IsWhole kept → (stack : List Pair) → AllByRecursion IsWholePair stack
    → IsWhole (record kept { registers = record kept.registers { stack = stack } })
stacked_whole kept w stack s = record {
  inside = w.inside;
  within = w.within;
  bytes = w.bytes;
  count = w.count;
  pairs = w.pairs;
  stack = s;
  last = w.last;
  mode = w.mode;
}

-- what is given, of what a query leaves
pub record IsUpheldGiven (g : Ground) (before : World) (given : query.Reply) : Type 0 where
  pub kept : Upheld g (with_kept given.kept before)
  pub value : Fits g.assumed given.value

module _ (g : Ground) (world : World) (u : Upheld g world) where
  -- the text of a register
  pub text_bytes : (r : ℕ) → g.assumed → AreBytes (storage.text_in r world.kept)
  text_bytes r h = (pair_whole world.kept (u.whole h).kept r).bytes

  put_whole : (r : ℕ) (pair : Pair) (h : g.assumed) → IsWholePair pair
      → IsWhole (record world.kept { registers = with_pair r pair world.kept.registers })
  put_whole r pair h p = let w = (u.whole h).kept in record {
    inside = w.inside;
    within = w.within;
    bytes = w.bytes;
    count = omega (arith, length-set world.kept.registers.pairs r pair, w.count);
    pairs =
        all_put IsWholePair r pair world.kept.registers.pairs w.pairs p;
    stack = w.stack;
    last = w.last;
    mode = w.mode;
  }

  numbered : (r : ℕ) (n : ℤ) → named_by g.kind ≡ Some r → Fits g.assumed n
      → Upheld g (with_kept (storage.kept_with_number r n world.kept) world)
  numbered r n is f = record {
    whole = λ h. let p = pair_whole world.kept (u.whole h).kept r in record {
      kept = put_whole r _ h (record { number = f h; within = p.within; bytes = p.bytes });
      files = (u.whole h).files;
    };
    kept = g.upkeep.numbered world r n is u.kept;
  }

  paired : (r : ℕ) (pair : Pair) → named_by g.kind ≡ Some r → written_by g.kind ≡ Some r
      → (g.assumed → IsWholePair pair) → Upheld g (with_registers (with_pair r pair world.kept.registers) world)
  paired r pair is writes p = record {
    whole = λ h. record { kept = put_whole r pair h (p h); files = (u.whole h).files };
    kept = g.upkeep.paired world r pair is writes u.kept;
  }

  -- ---- X, ^U, G, U and %
  text_set : (r : ℕ) (text : List ℕ) → named_by g.kind ≡ Some r → written_by g.kind ≡ Some r
      → (g.assumed → AreBytes text) → Does g world (storage.text_setting r text world.kept)
  text_set r text is writes b = yields_if (IsUpheldEffect g world) (nat_le (length text) LIMIT) _ _ tt
      (λ t. silent g world u _ (paired r _ is writes
      (λ h. record {
        number = (pair_whole world.kept (u.whole h).kept r).number;
        within = grind (arith, nat_tests);
        bytes = b h;
      })))

  text_stored : (colons r : ℕ) (text : List ℕ) → named_by g.kind ≡ Some r → written_by g.kind ≡ Some r
      → (g.assumed → AreBytes text) → Does g world (storage.text_storage colons r text world.kept)
  text_stored zero r text is writes b = text_set r text is writes b
  text_stored (suc colons) r text is writes b =
      text_set r _ is writes (λ h. all_joined IsByte (storage.text_in r world.kept) text (text_bytes r h) (b h))

  own_stored : (colons r : ℕ) (text : List ℕ) (value : Option ℤ) → named_by g.kind ≡ Some r
      → written_by g.kind ≡ Some r → (g.assumed → AreBytes text)
      → Does g world (storage.own_text_storage colons r text value world.kept)
  own_stored colons r text None is writes b = text_stored colons r text is writes b
  own_stored colons r text (Some n) is writes b = tt

  retrieved : (colons r : ℕ) → Does g world (storage.retrieval colons r world.kept)
  retrieved zero r = inserted g world u _ (text_bytes r)
  retrieved (suc colons) r = types g world u _

  storage_does : (s : Storage) (e : Element) (taken : Taken) → g.kind ≡ kind.Command (command.Storage s)
      → (g.assumed → AreBytes e.text) → IsTaken g.assumed taken → Does g world (storage.storage s e taken world.kept)
  storage_does (storage_kind.SetNumber r) e taken is b t =
      yields_then (Fits g.assumed) (IsUpheldEffect g world) _ _ (needed g.assumed taken.value (λ h. (t h).value))
      (λ n f. silent g world u _ (numbered r n (ap named_by is) f))
  storage_does (storage_kind.Add r) e taken is b t =
      let f : Fits g.assumed (add (storage.number_in r world.kept) (unwrap_or taken.value (pos 1))) =
      λ h. SFits-int_wrap w32 (storage.number_in r world.kept +ℤ unwrap_or taken.value (pos 1)) in
      record { kept = numbered r _ (ap named_by is) f; answer = f }
  storage_does (storage_kind.Copy r) e taken is b t =
      yields_then (Part g world) (IsUpheldEffect g world) _ _ (part_found g world u taken.first taken.value)
      (λ part p. text_stored e.colons r _ (ap named_by is) (ap written_by is)
      (λ h. range_bytes world.kept.text part.start part.end (u.whole h).kept.bytes))
  storage_does (storage_kind.SetText r) e taken is b t =
      own_stored e.colons r e.text taken.value (ap named_by is) (ap written_by is) b
  storage_does (storage_kind.Get r) e taken is b t = retrieved e.colons r

  pub command_does : (c : Command) (e : Element) (taken : Taken) → g.kind ≡ kind.Command c
      → (g.assumed → AreBytes e.text) → IsTaken g.assumed taken → Does g world (execution c e taken world.kept)
  command_does (command.Motion m) e taken is b t = motion_does g world u m e taken
  command_does (command.Deletion c) e taken is b t = deletion_does g world u c taken.first taken.value
  command_does (command.Insertion i) e taken is b t = insertion_does g world u i e.text taken.value b
  command_does (command.Typing k) e taken is b t = typing_does g world u k e taken
  command_does (command.Storage s) e taken is b t = storage_does s e taken is b t

  -- ---- Q, ^X and \
  pub query_with_does : (q : Query) (n : ℤ) → g.kind ≡ kind.Query q → Fits g.assumed n
      → Does g world (query.query_with q n world.kept)
  query_with_does (query_kind.Number r) n is f =
      record { kept = u; answer = λ h. code_fits (storage.text_in r world.kept) (text_bytes r h) n }
  query_with_does query_kind.Mode n is f = silent g world u _ (record {
    whole = λ h. let w = (u.whole h).kept in record {
      kept = record {
        inside = w.inside;
        within = w.within;
        bytes = w.bytes;
        count = w.count;
        pairs = w.pairs;
        stack = w.stack;
        last = w.last;
        mode = f h;
      };
      files = (u.whole h).files;
    };
    kept = g.upkeep.moded world n (ap sets_mode is) u.kept;
  })
  query_with_does query_kind.Conversion n is f = inserted g world u (decimal n) (λ h. decimal_bytes n (f h))

  pub query_gives : (q : Query) (colons : ℕ) → IsUpheldGiven g world (query.query q colons world.kept)
  query_gives (query_kind.Number r) zero =
      record { kept = u; value = λ h. (pair_whole world.kept (u.whole h).kept r).number }
  query_gives (query_kind.Number r) (suc colons) =
      record { kept = u; value = λ h. omega (arith, ints, (pair_whole world.kept (u.whole h).kept r).within) }
  query_gives query_kind.Mode colons = record { kept = u; value = λ h. (u.whole h).kept.mode }
  query_gives query_kind.Conversion colons =
      record {
        kept = moved g world u _ (λ w. omega (
          arith,
          number_short (drop world.kept.pointer world.kept.text),
          length-drop world.kept.pointer world.kept.text,
          w.inside,
        ));
        value = λ h. number_fits (drop world.kept.pointer world.kept.text);
      }

-- ---- [ and ]
stacked : (g : Ground) (world : World) → Upheld g world → is_of_stack g.kind ≡ true → (stack : List Pair)
    → (g.assumed → AllByRecursion IsWholePair stack)
    → Upheld g (with_registers (record world.kept.registers { stack = stack }) world)
stacked g world u is stack s = record {
  whole = λ h. record {
    kept = stacked_whole world.kept (u.whole h).kept stack (s h);
    files = (u.whole h).files;
  };
  kept = g.upkeep.stacked world stack is u.kept;
}

module _ (g : Ground) (world : World) (u : Upheld g world) where
  popped : (r : ℕ) (pairs : List Pair) → named_by g.kind ≡ Some r → written_by g.kind ≡ Some r
      → is_of_stack g.kind ≡ true → (g.assumed → AllByRecursion IsWholePair pairs)
      → Yields (Leaves g world) (ok_or (registers_without_top r pairs world.kept.registers) code.Pes
      >>= (λ registers. Ok (record world.kept { registers = registers })))
  popped r [] is writes pops s = tt
  popped r (pair ∷ rest) is writes pops s =
      stacked g _ (paired g world u r pair is writes (λ h. (s h).0)) pops rest (λ h. (s h).1)

  pub stack_does : (s : Stack) → g.kind ≡ kind.Stack s
      → Yields (Leaves g world) (storage.stack s world.kept)
  stack_does (stack_kind.Push r) is =
      stacked g world u (ap is_of_stack is) _ (λ h. let w = (u.whole h).kept in (pair_whole world.kept w r, w.stack))
  stack_does (stack_kind.Pop r) is =
      popped r world.kept.registers.stack (ap named_by is) (ap written_by is)
      (ap is_of_stack is) (λ h. (u.whole h).kept.stack)
