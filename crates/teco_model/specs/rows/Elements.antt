-- All elements on one page: their letters, what these name, how many colons and whether @ may stand before them, and
-- the texts that follow.
use Rattle.std.specs.Prelude.{ℕ, ◌≡◌, List, [], ◌∷◌, codes, length, Bool, true, false, Ok}
use Rattle.teco_base.specs.declared.bytes.TheConstants.{TAB, ESC}
use Rattle.teco_model.specs.Form.{colons_allowed, at_allowed, kind_on, texts_of}
use Rattle.teco_model.specs.Letters.{letters}
use Rattle.teco_model.specs.declared.arguments.Operator.TheVariants.{Plus, Minus, Times, Over, And, Or}
use Rattle.teco_model.specs.declared.head.Head.TheVariants as head
use Rattle.teco_model.specs.declared.head.OnRegister.{OnRegister}
use Rattle.teco_model.specs.declared.head.OnRegister.TheVariants as on_register
use Rattle.teco_model.specs.declared.head.TextShape.{TextShape}
use Rattle.teco_model.specs.declared.head.TextShape.TheVariants.{Itself, EndedBy, Two, NoText}
use Rattle.teco_model.specs.declared.kind.Kind.{Kind}
use Rattle.teco_model.specs.declared.kind.Kind.TheVariants as kind
use Rattle.teco_model.specs.declared.kind.Argument.TheVariants as argument
use Rattle.teco_model.specs.declared.kind.MachineValue.TheVariants as value
use Rattle.teco_model.specs.declared.kind.Query.TheVariants as query
use Rattle.teco_model.specs.declared.kind.Command.TheVariants as command
use Rattle.teco_model.specs.declared.kind.Motion.TheVariants as motion
use Rattle.teco_model.specs.declared.kind.Unit.TheVariants as unit
use Rattle.teco_model.specs.declared.kind.Insertion.TheVariants as insertion
use Rattle.teco_model.specs.declared.kind.Typing.TheVariants as typing
use Rattle.teco_model.specs.declared.kind.Radix.TheVariants as radix
use Rattle.teco_model.specs.declared.kind.Search.TheVariants as search_kind
use Rattle.teco_model.specs.declared.kind.Flow.TheVariants as flow
use Rattle.teco_model.specs.declared.kind.Goal.TheVariants as goal
use Rattle.teco_model.specs.declared.kind.Test.TheVariants as test
use Rattle.teco_model.specs.declared.kind.Page.TheVariants as page
use Rattle.teco_model.specs.declared.kind.File.TheVariants as file

-- bytes are the letters of a kind that takes so many colons, @ or not, and these texts
pub record Names (bytes : List ℕ) (k : Kind) (colons : ℕ) (at : Bool) (shape : TextShape) : Type 0 where
  pub named : letters bytes ≡ Ok (head.Kind k, length bytes)
  pub allows_colons : colons_allowed (head.Kind k) ≡ colons
  pub allows_at : at_allowed (head.Kind k) ≡ at
  pub texts : texts_of k ≡ shape

-- bytes are the letters of what a register's name follows, here that of register 0
pub record NamesOnRegister (bytes : List ℕ) (c : OnRegister) (colons : ℕ) (at : Bool) (shape : TextShape) : Type 0 where
  pub named : letters bytes ≡ Ok (head.OnRegister c, length bytes)
  pub allows_colons : colons_allowed (head.OnRegister c) ≡ colons
  pub allows_at : at_allowed (head.OnRegister c) ≡ at
  pub texts : texts_of (kind_on c 0) ≡ shape

-- each element's row: letters, what they name, colons, @ and texts
pub record ElementRows : Type 0 where
  -- arguments
  pub digits : Names (codes "10") (kind.Argument argument.Digits) 0 false Itself
  pub plus : Names (codes "+") (kind.Argument (argument.Operate Plus)) 0 false NoText
  pub minus : Names (codes "-") (kind.Argument (argument.Operate Minus)) 0 false NoText
  pub times : Names (codes "*") (kind.Argument (argument.Operate Times)) 0 false NoText
  pub over : Names (codes "/") (kind.Argument (argument.Operate Over)) 0 false NoText
  pub and : Names (codes "&") (kind.Argument (argument.Operate And)) 0 false NoText
  pub or : Names (codes "#") (kind.Argument (argument.Operate Or)) 0 false NoText
  pub open_parenthesis : Names (codes "(") (kind.Argument argument.Open) 0 false NoText
  pub close_parenthesis : Names (codes ")") (kind.Argument argument.Close) 0 false NoText
  pub comma : Names (codes ",") (kind.Argument argument.Comma) 0 false NoText
  pub escape : Names (ESC ∷ []) (kind.Argument argument.DropAll) 0 false NoText
  -- values
  pub pointer : Names (codes ".") (kind.Value value.Pointer) 0 false NoText
  pub begin : Names (codes "B") (kind.Value value.Begin) 0 false NoText
  pub size : Names (codes "Z") (kind.Value value.Size) 0 false NoText
  pub whole : Names (codes "H") (kind.Value value.Whole) 0 false NoText
  pub last_length : Names (codes "^S") (kind.Value value.LastLength) 0 false NoText
  pub last_text : Names (codes "^Y") (kind.Value value.LastText) 0 false NoText
  pub mode : Names (codes "^X") (kind.Query query.Mode) 0 false NoText
  pub conversion : Names (codes "\\") (kind.Query query.Conversion) 0 false NoText
  pub number : NamesOnRegister (codes "Q") on_register.Number 1 false NoText
  -- registers
  pub set_number : NamesOnRegister (codes "U") on_register.SetNumber 0 false NoText
  pub add : NamesOnRegister (codes "%") on_register.Add 0 false NoText
  pub copy : NamesOnRegister (codes "X") on_register.Copy 1 false NoText
  pub set_text : NamesOnRegister (codes "^U") on_register.SetText 1 true (EndedBy ESC)
  pub get : NamesOnRegister (codes "G") on_register.Get 1 false NoText
  pub push : NamesOnRegister (codes "[") on_register.Push 0 false NoText
  pub pop : NamesOnRegister (codes "]") on_register.Pop 0 false NoText
  pub call : NamesOnRegister (codes "M") on_register.Call 0 false NoText
  -- commands
  pub forward : Names (codes "C") (kind.Command (command.Motion motion.Forward)) 1 false NoText
  pub backward : Names (codes "R") (kind.Command (command.Motion motion.Backward)) 1 false NoText
  pub to : Names (codes "J") (kind.Command (command.Motion motion.To)) 1 false NoText
  pub lines : Names (codes "L") (kind.Command (command.Motion motion.Lines)) 0 false NoText
  pub delete : Names (codes "D") (kind.Command (command.Deletion unit.Characters)) 0 false NoText
  pub kill : Names (codes "K") (kind.Command (command.Deletion unit.Lines)) 0 false NoText
  pub insert : Names (codes "I") (kind.Command (command.Insertion insertion.Text)) 0 true (EndedBy ESC)
  pub tab : Names (TAB ∷ []) (kind.Command (command.Insertion insertion.Tab)) 0 false (EndedBy ESC)
  pub type : Names (codes "T") (kind.Command (command.Typing typing.Part)) 0 false NoText
  pub view : Names (codes "V") (kind.Command (command.Typing typing.View)) 0 false NoText
  pub type_byte : Names (codes "^T") (kind.Command (command.Typing typing.Byte)) 0 false NoText
  pub message : Names (codes "^A") (kind.Command (command.Typing typing.Message)) 0 true (EndedBy 1)
  pub decimal : Names (codes "=") (kind.Command (command.Typing (typing.Number radix.Decimal))) 1 false NoText
  pub octal : Names (codes "==") (kind.Command (command.Typing (typing.Number radix.Octal))) 1 false NoText
  pub hexadecimal : Names (codes "===") (kind.Command (command.Typing (typing.Number radix.Hexadecimal))) 1 false NoText
  -- searches
  pub find : Names (codes "S") (kind.Search search_kind.Find) 2 true (EndedBy ESC)
  pub replace : Names (codes "FS") (kind.Search search_kind.Replace) 1 true Two
  pub find_in_pages : Names (codes "N") (kind.Search search_kind.FindInPages) 1 true (EndedBy ESC)
  pub replace_in_pages : Names (codes "FN") (kind.Search search_kind.ReplaceInPages) 1 true Two
  -- flow
  pub iterate : Names (codes "<") (kind.Flow flow.Iterate) 0 false NoText
  pub end_turn : Names (codes ">") (kind.Flow flow.EndTurn) 0 false NoText
  pub leave : Names (codes ";") (kind.Flow flow.Leave) 1 false NoText
  pub otherwise : Names (codes "|") (kind.Flow flow.Otherwise) 0 false NoText
  pub end_test : Names (codes "'") (kind.Flow flow.EndTest) 0 false NoText
  pub go_to : Names (codes "O") (kind.Flow flow.GoTo) 0 true (EndedBy ESC)
  pub comment : Names (codes "!") (kind.Flow flow.Comment) 0 false (EndedBy 33)
  pub go_to_end_turn : Names (codes "F>") (kind.Flow (flow.GoAhead goal.EndTurn)) 0 false NoText
  pub go_to_end_test : Names (codes "F'") (kind.Flow (flow.GoAhead goal.EndTest)) 0 false NoText
  pub go_to_otherwise : Names (codes "F|") (kind.Flow (flow.GoAhead goal.Otherwise)) 0 false NoText
  -- conditions
  pub zero : Names (codes "\"E") (kind.Flow (flow.Test test.Zero)) 0 false NoText
  pub zero_as_false : Names (codes "\"F") (kind.Flow (flow.Test test.Zero)) 0 false NoText
  pub zero_as_unsuccessful : Names (codes "\"U") (kind.Flow (flow.Test test.Zero)) 0 false NoText
  pub zero_as_equal : Names (codes "\"=") (kind.Flow (flow.Test test.Zero)) 0 false NoText
  pub not_zero : Names (codes "\"N") (kind.Flow (flow.Test test.NotZero)) 0 false NoText
  pub negative : Names (codes "\"L") (kind.Flow (flow.Test test.Negative)) 0 false NoText
  pub negative_as_successful : Names (codes "\"S") (kind.Flow (flow.Test test.Negative)) 0 false NoText
  pub negative_as_true : Names (codes "\"T") (kind.Flow (flow.Test test.Negative)) 0 false NoText
  pub negative_as_below : Names (codes "\"<") (kind.Flow (flow.Test test.Negative)) 0 false NoText
  pub positive : Names (codes "\"G") (kind.Flow (flow.Test test.Positive)) 0 false NoText
  pub positive_as_above : Names (codes "\">") (kind.Flow (flow.Test test.Positive)) 0 false NoText
  pub letter : Names (codes "\"A") (kind.Flow (flow.Test test.Letter)) 0 false NoText
  pub symbol : Names (codes "\"C") (kind.Flow (flow.Test test.Symbol)) 0 false NoText
  pub digit : Names (codes "\"D") (kind.Flow (flow.Test test.Digit)) 0 false NoText
  pub letter_or_digit : Names (codes "\"R") (kind.Flow (flow.Test test.LetterOrDigit)) 0 false NoText
  pub lower : Names (codes "\"V") (kind.Flow (flow.Test test.Lower)) 0 false NoText
  pub upper : Names (codes "\"W") (kind.Flow (flow.Test test.Upper)) 0 false NoText
  -- pages and files
  pub yank : Names (codes "Y") (kind.Page page.Yank) 0 false NoText
  pub append : Names (codes "A") (kind.Page page.Append) 0 false NoText
  pub next_page : Names (codes "P") (kind.Page page.Next) 0 false NoText
  pub write_page : Names (codes "PW") (kind.Page page.Write) 0 false NoText
  pub read_file : Names (codes "ER") (kind.File file.Read) 0 true (EndedBy ESC)
  pub write_file : Names (codes "EW") (kind.File file.Write) 0 true (EndedBy ESC)
  pub close_file : Names (codes "EF") (kind.File file.Close) 0 false NoText
  pub abandon : Names (codes "EK") (kind.File file.Abandon) 0 false NoText
  pub copy_rest : Names (codes "EC") (kind.File file.Copy) 0 false NoText
  pub exit : Names (codes "EX") (kind.File file.Exit) 0 false NoText
