-- Sessions worked by hand, as what the definition computes.
use Rattle.std.specs.Prelude.{ℕ, ℤ, pos, ◌≡◌, List, [], ◌∷◌, ◌++◌, codes, None}
use Rattle.teco_base.specs.declared.bytes.TheConstants.{TAB, LF, CR, ESC}
use Rattle.teco_base.specs.declared.code.Code.TheVariants as code
use Rattle.teco_model.specs.Arguments.{no_arguments}
use Rattle.teco_model.specs.Registers.{with_number, with_text}
use Rattle.teco_model.specs.State.{World, State, Outcome, Next, End, Fail, start, world_of, kept_of_store}
use Rattle.teco_model.specs.Run.{run, go_on}

-- a machine with an empty buffer
abbrev pub new_world : World
new_world = world_of (kept_of_store [] 0)

-- the start of a command string there, with its two ESC
abbrev pub start_of : List ℕ → State
start_of command = start (command ++ ESC ∷ ESC ∷ []) new_world

-- the outcome of the step after n steps
abbrev pub after : ℕ → List ℕ → Outcome
after n command = go_on (run n (start_of command))

-- what is typed by a number and its line end
abbrev pub line : List ℕ → List ℕ
line text = text ++ CR ∷ LF ∷ []

-- what stays in the end: text, pointer, last length and typed bytes
abbrev pub world_with : List ℕ → ℕ → ℕ → List ℕ → World
world_with text pointer last_length typed =
    world_of (record (kept_of_store text pointer) { last_length = last_length; typed = typed })

-- two commands with an ESC between them
abbrev pub then : List ℕ → List ℕ → List ℕ
then first second = first ++ ESC ∷ second

abbrev pub two_lines : List ℕ
two_lines = codes "ab" ++ LF ∷ codes "cd"

abbrev pub three_lines : List ℕ
three_lines = two_lines ++ LF ∷ codes "ef"

-- what register A holds, the first of the registers
abbrev pub with_text_of_A : List ℕ → World → World
with_text_of_A text world =
    world_of (record world.kept { registers = with_text 0 text world.kept.registers })

abbrev pub with_number_of_A : ℤ → World → World
with_number_of_A n world =
    world_of (record world.kept { registers = with_number 0 n world.kept.registers })

-- another search mode
abbrev pub with_mode : ℤ → World → World
with_mode n world = world_of (record world.kept { mode = n })

-- another last search text
abbrev pub with_search_text : List ℕ → World → World
with_search_text text world = world_of (record world.kept { search_text = text })

-- each row's outcome
pub record WorkedRows : Type 0 where
  -- arithmetic and parentheses
  pub left_to_right : after 8 (codes "1+2*3=") ≡ End (world_with [] 0 0 (line (codes "9")))
  pub wraps : after 6 (codes "2147483647+1=") ≡ End (world_with [] 0 0 (line (codes "-2147483648")))
  pub encloses : after 10 (codes "2*(3+4)=") ≡ End (world_with [] 0 0 (line (codes "14")))
  pub bitwise : after 10 (codes "3&6=3#4=") ≡ End (world_with [] 0 0 (line (codes "2") ++ line (codes "7")))
  pub lone_minus : after 4 (codes "-=") ≡ End (world_with [] 0 0 (line (codes "-1")))
  pub absent_value : after 5 (codes "*3=") ≡ End (world_with [] 0 0 (line (codes "0")))
  pub divides : after 11 (codes "7/2=-7/2=1/0=")
      ≡ Fail code.Div (world_with [] 0 0 (line (codes "3") ++ line (codes "-3")))
  -- arguments that are refused
  pub unfinished : after 2 (codes "1+=") ≡ Fail code.Arg (world_with [] 0 0 [])
  pub third_argument : after 3 (codes "1,2,3=") ≡ Fail code.Arg (world_with [] 0 0 [])
  pub unopened : after 1 (codes "1)") ≡ Fail code.Arg (world_with [] 0 0 [])
  pub no_value_before_comma : after 0 (codes ",1=") ≡ Fail code.Nac (world_with [] 0 0 [])
  pub negative_before_comma : after 2 (codes "-1,2=") ≡ Fail code.Nca (world_with [] 0 0 [])
  pub dropped : after 2 (then (codes "5") (codes "=")) ≡ Fail code.Arg (world_with [] 0 0 [])
  -- elements: blanks, a comment, two colons, and one that is cut off
  pub blanks : after 6 (codes " 1^M+ 2=") ≡ End (world_with [] 0 0 (line (codes "3")))
  pub comment : after 5 (codes "!2=!1=") ≡ End (world_with [] 0 0 (line (codes "1")))
  pub two_colons : after 1 (codes "3::=") ≡ Fail code.Ill (world_with [] 0 0 [])
  pub cut_off : go_on (run 0 (start (codes "Ihello") new_world)) ≡ Fail code.Utc (world_with [] 0 0 [])
  -- motions and deletions
  pub moves_off : after 2 (then (codes "Iab") (codes "5C")) ≡ Fail code.Pop (world_with (codes "ab") 2 2 [])
  pub tries_to_move : after 14 (then (codes "Iab") (codes "J3:C=.=2:C=.="))
      ≡ End (world_with (codes "ab") 2 2 (line (codes "0") ++ line (codes "0") ++ line (codes "-1")
      ++ line (codes "2")))
  pub deletes : after 14 (then (codes "Iabc") (codes "J1D2+3*4=HT"))
      ≡ End (world_with (codes "bc") 0 3 (line (codes "20") ++ codes "bc"))
  pub deletes_too_many : after 3 (then (codes "Iab") (codes "-3D"))
      ≡ Fail code.Dtb (world_with (codes "ab") 2 2 [])
  pub exchanged : after 7 (then (codes "Iabcd") (codes "3,1D")) ≡ End (world_with (codes "ad") 1 4 [])
  -- insertions
  pub inserts_byte : after 6 (then (codes "65I") (codes "HT")) ≡ End (world_with (codes "A") 1 1 (codes "A"))
  pub byte_and_text : after 1 (codes "1Ia") ≡ Fail code.Iia (world_with [] 0 0 [])
  pub tab : after 5 (then (TAB ∷ codes "ab") (codes "HT"))
      ≡ End (world_with (TAB ∷ codes "ab") 3 3 (TAB ∷ codes "ab"))
  pub last_text : after 7 (then (codes "Iabc") (codes "^S=^YT"))
      ≡ End (world_with (codes "abc") 3 3 (line (codes "-3") ++ codes "abc"))
  -- typing
  pub types_off : after 4 (then (codes "Iabc") (codes "2,5T"))
      ≡ Fail code.Pop (world_with (codes "abc") 3 3 [])
  pub octal_and_hex : after 7 (codes "255==-1===")
      ≡ End (world_with [] 0 0 (line (codes "377") ++ line (codes "FFFFFFFF")))
  pub no_line_end : after 4 (codes "255:=") ≡ End (world_with [] 0 0 (codes "255"))
  pub message : after 5 (then (codes "@^A/a") (codes "b/33^T"))
      ≡ End (world_with [] 0 0 (then (codes "a") (codes "b!")))
  -- lines
  pub line_places : after 16 (then (codes "Iab" ++ 10 ∷ codes "cd") (codes "J2L.=0L.=-L.="))
      ≡ End (world_with two_lines 0 5 (line (codes "5") ++ line (codes "3") ++ line (codes "0")))
  pub views : after 8 (then (codes "I" ++ three_lines) (codes "J1L2V"))
      ≡ End (world_with three_lines 3 8 three_lines)
  pub deletes_range : after 9 (then (codes "Iabcdef") (codes "5,3KHT"))
      ≡ End (world_with (codes "abcf") 3 6 (codes "abcf"))
  -- registers
  pub adds :
      after 8 (codes "5UAQA+QA=")
      ≡ End (with_number_of_A (pos 5) (world_with [] 0 0 (line (codes "10"))))
  pub copies : after 17 (then (codes "Iabc") (codes "HXA:QA=1QA=HKGAGA:GA.="))
      ≡ End (with_text_of_A (codes "abc")
      (world_with (codes "abcabc") 6 3 (line (codes "3") ++ line (codes "98") ++ codes "abc"
      ++ line (codes "6"))))
  pub pushes : after 13 (then (codes "5UA@^UA/xy/[A7UA^UAz") (codes "]AQA=:GA"))
      ≡ End (with_number_of_A (pos 5)
      (with_text_of_A (codes "xy") (world_with [] 0 0 (line (codes "5") ++ codes "xy"))))
  pub appends : after 5 (then (then (codes "^UAab") (codes ":^UAcd")) (codes ":GA"))
      ≡ End (with_text_of_A (codes "abcd") (world_with [] 0 0 (codes "abcd")))
  pub empty_list : after 0 (codes "]A") ≡ Fail code.Pes (world_with [] 0 0 [])
  -- numbers in the text
  pub converts : after 12 (then (codes "I-42x") (codes "J\\=.=5\\HT"))
      ≡ End (world_with (codes "-425x") 4 1 (line (codes "-42") ++ line (codes "3")
      ++ codes "-425x"))
  -- the search mode
  pub mode : after 6 (codes "1^X^X=") ≡ End (with_mode (pos 1) (world_with [] 0 0 (line (codes "1"))))
  -- macros: arguments pass the call, an empty one takes the step back, and what its end cuts off is UTM
  pub calls :
      after 9 (codes "@^UA/+1/2MA=")
      ≡ End (with_text_of_A (codes "+1") (world_with [] 0 0 (line (codes "3"))))
  pub returns : after 5 (codes "@^UA//MA") ≡ End (with_text_of_A [] (world_with [] 0 0 []))
  pub cut_off_in_macro : after 2 (codes "@^UA/Ifoo/MA")
      ≡ Fail code.Utm (with_text_of_A (codes "Ifoo") (world_with [] 0 0 []))
  -- searches: all matches are replaced, a miss outside an iteration, and one that leaves it
  pub replaces_all :
      after 15 (then (then (then (codes "Iabcabc") (codes "J<FSb")) (codes "XX")) (codes ";>HT"))
      ≡ End (with_search_text (codes "b") (world_with (codes "aXXcaXXc") 0 2 (codes "aXXcaXXc")))
  pub misses : after 0 (codes "Sfoo") ≡ Fail code.Srh (with_search_text (codes "foo") (world_with [] 0 0 []))
  pub leaves_by_a_miss :
      after 12 (then (then (codes "Ixa") (codes "J<Sa")) (codes "1=>2="))
      ≡ End (with_search_text (codes "a")
      (world_with (codes "xa") 0 1 (line (codes "1") ++ line (codes "%SRH") ++ line (codes "2"))))
  -- iterations, conditionals and tags
  pub other_branch : after 7 (codes "0\"G2=|3='") ≡ End (world_with [] 0 0 (line (codes "3")))
  pub fault_is_passed : after 6 (codes "0\"N(?@I/'/'3=") ≡ End (world_with [] 0 0 (line (codes "3")))
  pub leaves_by_a_tag :
      after 9 (then (codes "3<%A=Oout") (codes ">!out!QA="))
      ≡ End (with_number_of_A (pos 1) (world_with [] 0 0 (line (codes "1") ++ line (codes "1"))))
  pub goes_to_turn_end : after 18 (codes "3<1=F>2=>3=")
      ≡ End (world_with [] 0 0 (line (codes "1") ++ line (codes "1") ++ line (codes "1")
      ++ line (codes "3")))
  pub goes_past_test_end : after 9 (codes "0\"E1=F'2=|3='4=")
      ≡ End (world_with [] 0 0 (line (codes "1") ++ line (codes "4")))
  pub goes_to_otherwise : after 12 (codes "0\"E1=F|2=|3='4=")
      ≡ End (world_with [] 0 0 (line (codes "1") ++ line (codes "3") ++ line (codes "4")))
  pub no_turn_end : after 0 (codes "F>") ≡ Fail code.Bni (world_with [] 0 0 [])
  pub no_test_end : after 0 (codes "F'") ≡ Fail code.Utc (world_with [] 0 0 [])
  pub no_bracket : after 6 (codes "0<F>>1=") ≡ End (world_with [] 0 0 (line (codes "1")))
  pub outside_an_iteration : after 0 (codes ">") ≡ Fail code.Bni (world_with [] 0 0 [])
  pub no_tag_ahead : after 1 (codes "!a!Oa") ≡ Fail code.Tag (world_with [] 0 0 [])
  pub open_at_the_end : after 5 (codes "<1=") ≡ Fail code.Utc (world_with [] 0 0 (line (codes "1")))
  -- after two steps and after five the end is not reached, and after six it is
  pub two_steps : run 2 (start_of (codes "1=2="))
      ≡ Next (record {
        world = world_with [] 0 0 (line (codes "1"));
        arguments = no_arguments;
        frames = record {
          running = record { text = then (codes "1=2=") (ESC ∷ []); place = 2; loops = [] };
          callers = [];
        };
        left = None;
      })
  pub five_steps :
      after 5 (codes "1=2=")
      ≡ Next (record {
        world = world_with [] 0 0 (line (codes "1") ++ line (codes "2"));
        arguments = no_arguments;
        frames =
            record {
              running = record { text = then (codes "1=2=") (ESC ∷ []); place = 6; loops = [] };
              callers = [];
            };
        left = None;
      })
  pub six_steps : after 6 (codes "1=2=") ≡ End (world_with [] 0 0 (line (codes "1") ++ line (codes "2")))
