-- What elements name, write and change: registers, the search mode, the files that are open.
use Rattle.std.specs.Prelude.{ℕ, Bool, true, false, Option, Some, None}
use Rattle.teco_model.specs.declared.kind.Kind.{Kind}
use Rattle.teco_model.specs.declared.kind.Kind.TheVariants as kind
use Rattle.teco_model.specs.declared.kind.Query.{Query}
use Rattle.teco_model.specs.declared.kind.Query.TheVariants as query
use Rattle.teco_model.specs.declared.kind.Stack.{Stack}
use Rattle.teco_model.specs.declared.kind.Stack.TheVariants as stack
use Rattle.teco_model.specs.declared.kind.Command.{Command}
use Rattle.teco_model.specs.declared.kind.Command.TheVariants as command
use Rattle.teco_model.specs.declared.kind.Storage.{Storage}
use Rattle.teco_model.specs.declared.kind.Storage.TheVariants as storage

-- the register that an element names
abbrev pub named_by_query : Query → Option ℕ
named_by_query (query.Number r) = Some r
named_by_query q = None

abbrev pub named_by_stack : Stack → ℕ
named_by_stack (stack.Push r) = r
named_by_stack (stack.Pop r) = r

abbrev pub named_by_storage : Storage → ℕ
named_by_storage (storage.SetNumber r) = r
named_by_storage (storage.Add r) = r
named_by_storage (storage.Copy r) = r
named_by_storage (storage.SetText r) = r
named_by_storage (storage.Get r) = r

abbrev pub named_by_command : Command → Option ℕ
named_by_command (command.Storage s) = Some (named_by_storage s)
named_by_command c = None

abbrev pub named_by : Kind → Option ℕ
named_by (kind.Query q) = named_by_query q
named_by (kind.Stack s) = Some (named_by_stack s)
named_by (kind.Call c) = Some c.register
named_by (kind.Command c) = named_by_command c
named_by k = None

-- X, ^U and ] write the text of a register.
abbrev pub written_by_storage : Storage → Option ℕ
written_by_storage (storage.Copy r) = Some r
written_by_storage (storage.SetText r) = Some r
written_by_storage s = None

abbrev pub written_by_stack : Stack → Option ℕ
written_by_stack (stack.Pop r) = Some r
written_by_stack s = None

abbrev pub written_by_command : Command → Option ℕ
written_by_command (command.Storage s) = written_by_storage s
written_by_command c = None

abbrev pub written_by : Kind → Option ℕ
written_by (kind.Stack s) = written_by_stack s
written_by (kind.Command c) = written_by_command c
written_by k = None

-- [ and ] alone push and pop
abbrev pub is_of_stack : Kind → Bool
is_of_stack (kind.Stack s) = true
is_of_stack k = false

-- ^X may set the search mode
abbrev pub sets_mode : Kind → Bool
sets_mode (kind.Query query.Mode) = true
sets_mode k = false

-- ER, EW, EF, EK, EC and EX alone open and close
abbrev pub is_of_files : Kind → Bool
is_of_files (kind.File f) = true
is_of_files k = false
