-- The open iterations behind a step that begins no turn: some are left, the others stay.
use Rattle.teco_law_tables.proofs.Prelude.{◌≡◌, ℕ, ℤ, zero, suc, ◌-◌, inl, inr, refl, sym, ap, ◌∙◌, arith, List, []}
use Rattle.teco_law_tables.proofs.Prelude.{◌∷◌, ◌++◌, drop, length, false, Option, Some, None, Result, Ok, Err}
use Rattle.teco_law_tables.proofs.Prelude.{length-append, length-drop, Code, Loop, Kind, Flow, Page, Arguments, Element}
use Rattle.teco_law_tables.proofs.Prelude.{Turn, ⊤, ◌>>=◌, World, Frame, State, Next, reply_of, Went, ElementWas}
use Rattle.teco_law_tables.proofs.Prelude.{StepWas, turns_by_flow, turns_by_kind, begins_turn, loops_in, open_loops}
use Rattle.teco_law_tables.proofs.Prelude.{left_by_flow, left_by_kind, left_along}
use Rattle.teco_model.specs.Going.{Course, Behind, Reply, settled, settle, After, Again, Along, Into, on_editor}
use Rattle.teco_model.specs.declared.kind.Kind.TheVariants as kind
use Rattle.teco_model.specs.declared.kind.File.{File}
use Rattle.teco_model.specs.declared.kind.File.TheVariants as file
use Rattle.teco_model.specs.declared.kind.Flow.TheVariants as flow
use Rattle.teco_model.specs.declared.kind.Page.TheVariants as page
use Rattle.teco_model.specs.Arguments.{arguments_of, levels_after_taking}
use Rattle.teco_model.specs.Filing.{open_input, open_output, close_output, copy_all}
use Rattle.teco_model.specs.Outside.{going_on, while_left, in_pages, pages_reply, append_reply, page_reply, opened}
use Rattle.teco_model.specs.Outside.{filed}
use Rattle.teco_model.specs.Paging.{Progress, append, yank, pages, one_page_of, page_turned, page_written}
use Rattle.teco_law_runs.specs.Turns.{Jumps}

same : (s t : State) → Next s ≡ Next t → open_loops t ≡ open_loops s
same s t h = let e : s ≡ t = cc in ap open_loops (sym e)

-- ---- elements that only go on
-- the running text and those that wait go on
abbrev IsStraight : Course → Type 0
IsStraight (Along frame) = ⊥
IsStraight (Into text) = ⊥
IsStraight course = ⊤

abbrev GoesStraight : Result Reply Code → Type 0
GoesStraight (Ok reply) = IsStraight reply.course
GoesStraight (Err c) = ⊤

settled_behind : (e : Element) (s t : State) (reply : Reply) (course : Course) → IsStraight course
    → settled e s.frames reply course ≡ Next t → open_loops t ≡ open_loops s
settled_behind e s t reply Behind i h = same _ t h
settled_behind e s t reply Again i h = same _ t h
settled_behind e s t reply course i h = absurd (grind arith)

settle_behind : (e : Element) (s t : State) (r : Result Reply Code) → GoesStraight r → settle e s r ≡ Next t
    → open_loops t ≡ open_loops s
settle_behind e s t (Err c) i h = absurd (cc)
settle_behind e s t (Ok reply) i h = settled_behind e s t reply reply.course i h

then : {X : Type 0} (r : Result X Code) (f : X → Result Reply Code) → ((x : X) → GoesStraight (f x))
    → GoesStraight (r >>= f)
then (Ok x) f k = k x
then (Err c) f k = tt

on_editor_goes : (left : Option ℕ) (world : World) (r : Result After Code) → GoesStraight (on_editor left world r)
on_editor_goes left world r = then r _ (λ done. tt)

world_goes : (left : Option ℕ) (arguments : Arguments) (r : Result World Code)
    → GoesStraight (going_on left arguments r)
world_goes left arguments r = then r _ (λ world. tt)

left_goes : (n : ℕ) (arguments : Arguments) (world : World) → IsStraight (while_left n arguments world).course
left_goes zero arguments world = tt
left_goes (suc n) arguments world = tt

done_goes : (arguments : Arguments) (r : Result Progress Code) → GoesStraight (in_pages arguments r)
done_goes arguments r = then r _ (λ done. left_goes done.left arguments done.world)

pages_go : (one_page : World → Result World Code) (left : Option ℕ) (arguments : Arguments) (world : World)
    → GoesStraight (pages_reply one_page left arguments world)
pages_go one_page None arguments world =
    then (arguments_of arguments.level) (λ taken. in_pages (levels_after_taking arguments) (pages one_page taken world))
    (λ taken. done_goes (levels_after_taking arguments) (pages one_page taken world))
pages_go one_page (Some n) arguments world = done_goes arguments (one_page_of one_page n world)

append_goes : (value : Option ℤ) (left : Option ℕ) (arguments : Arguments) (world : World)
    → GoesStraight (append_reply value left arguments world)
append_goes None left arguments world = world_goes left arguments (append world)
append_goes (Some n) left arguments world = tt

page_goes : (p : Page) (left : Option ℕ) (arguments : Arguments) (world : World)
    → GoesStraight (page_reply p left arguments world)
page_goes page.Yank left arguments world =
    then (arguments_of arguments.level) (λ taken. going_on left (levels_after_taking arguments) (yank world))
    (λ taken. world_goes left (levels_after_taking arguments) (yank world))
page_goes page.Append left arguments world =
    then (arguments_of arguments.level) (λ taken. append_reply taken.value left (levels_after_taking arguments) world)
    (λ taken. append_goes taken.value left (levels_after_taking arguments) world)
page_goes page.Next left arguments world = pages_go page_turned left arguments world
page_goes page.Write left arguments world = pages_go page_written left arguments world

opened_goes : (left : Option ℕ) (arguments : Arguments) (world : World) (found : Option World)
    → IsStraight (opened left arguments world found).course
opened_goes left arguments world None = tt
opened_goes left arguments world (Some new) = tt

filed_goes : (f : File) (name : List ℕ) (left : Option ℕ) (arguments : Arguments) (world : World)
    → GoesStraight (filed f name left arguments world)
filed_goes file.Read name left arguments world = then (open_input name world) _ (opened_goes left arguments world)
filed_goes file.Write name left arguments world = world_goes left arguments (open_output name world)
filed_goes file.Close name left arguments world = world_goes left arguments (close_output world)
filed_goes file.Abandon name left arguments world = tt
filed_goes file.Copy name left arguments world = world_goes left arguments (copy_all world)
filed_goes file.Exit name left arguments world = tt

-- ---- flow
drop_some : {X : Type 0} (left : ℕ) (xs ys : List X)
    → drop left xs ++ ys ≡ drop (length (xs ++ ys) - length (drop left xs ++ ys)) (xs ++ ys)
drop_some zero xs ys = let z : length (xs ++ ys) - length (xs ++ ys) ≡ 0 = omega arith in rw z refl
drop_some (suc left) [] ys = let z : length ys - length ys ≡ 0 = omega arith in rw z refl
drop_some (suc left) (x ∷ xs) ys =
    let z : length (x ∷ xs ++ ys) - length (drop left xs ++ ys) ≡ suc
    (length (xs ++ ys) - length (drop left xs ++ ys)) =
    omega (arith, length-append xs ys, length-append (drop left xs) ys, length-drop left xs) in
    drop_some left xs ys ∙ ap (λ n. drop n (x ∷ xs ++ ys)) (sym z)

module _ (e : Element) (frame : Frame) (turn : Turn) (rest : List Loop) (between : ℕ) where
  jumps : (left : ℕ) (a : Arguments) → Jumps left e a frame turn → turn.frame.loops ≡ drop left frame.loops
  jumps left a j = ap (λ (turn : Turn). turn.frame.loops) j.gone

  stays : turn.frame.loops ≡ frame.loops → turn.frame.loops ++ rest ≡ frame.loops ++ rest
  stays h = ap (λ ls. ls ++ rest) h

  leaves : (loop : Loop) (outer : List Loop) → frame.loops ≡ loop ∷ outer → turn.frame.loops ≡ outer
      → turn.frame.loops ++ rest ≡ drop 1 (frame.loops ++ rest)
  leaves loop outer inside h = ap (λ ls. ls ++ rest) h ∙ sym (ap (λ ls. drop 1 (ls ++ rest)) inside)

  pub flow_loops : (f : Flow) (way : ℕ) (a : Arguments)
      → (way ≡ 0 → between ≡ length (frame.loops ++ rest) - length (turn.frame.loops ++ rest))
      → Went f way e a frame turn → turns_by_flow f way ≡ false
      → turn.frame.loops ++ rest ≡ drop (left_by_flow f way between) (frame.loops ++ rest)
  flow_loops flow.Iterate (suc zero) a b w t = stays (jumps 0 _ w.jumps)
  flow_loops flow.EndTurn (suc zero) a b w t =
      leaves w.loop w.outer w.inside (ap (λ (turn : Turn). turn.frame.loops) w.gone)
  flow_loops flow.Leave zero a b w t = stays (ap (λ (turn : Turn). turn.frame.loops) w.gone)
  flow_loops flow.Leave (suc zero) a b w t = leaves w.loop w.outer w.inside (jumps 1 _ w.jumps ∙ ap (drop 1) w.inside)
  flow_loops (flow.Test test) zero a b w t = stays (ap (λ (turn : Turn). turn.frame.loops) w.gone)
  flow_loops (flow.Test test) (suc zero) a b w t = stays (jumps 0 _ w.jumps)
  flow_loops flow.Otherwise zero a b w t = stays (jumps 0 _ w)
  flow_loops flow.EndTest zero a b w t = stays (ap (λ (turn : Turn). turn.frame.loops) w)
  flow_loops flow.GoTo zero a b w t =
      let to = jumps w.left _ w.jumps in
      ap (λ ls. ls ++ rest) to ∙ (drop_some w.left frame.loops rest
      ∙ (ap (λ ls. drop (length (frame.loops ++ rest) - length (ls ++ rest)) (frame.loops ++ rest)) (sym to)
      ∙ ap (λ n. drop n (frame.loops ++ rest)) (sym (b refl))))
  flow_loops flow.Comment zero a b w t = stays (ap (λ (turn : Turn). turn.frame.loops) w)
  flow_loops (flow.GoAhead g) zero a b w t = stays (jumps 0 _ w)
  flow_loops f way a b w t = absurd (grind arith)

-- ---- any element
module _ (e : Element) (s t : State) (between : ℕ) where
  pub kind_loops : (k : Kind) (way : ℕ) → (way ≡ 0 → between ≡ length (open_loops s) - length (open_loops t))
      → ElementWas k way e s t → turns_by_kind k way ≡ false
      → open_loops t ≡ drop (left_by_kind k way between) (open_loops s)
  unfolding reply_of
  kind_loops (kind.Call c) zero b w x = ap open_loops w
  kind_loops (kind.Flow f) way b w x =
      let to : open_loops t ≡ w.turn.frame.loops ++ loops_in s.frames.callers = ap open_loops w.gone in
      to ∙ flow_loops e s.frames.running w.turn (loops_in s.frames.callers) between f way s.arguments
      (λ z. b z ∙ ap (λ (ls : List Loop). length (open_loops s) - length ls) to) w.went x
  kind_loops (kind.Search c) zero b (inl w) x =
      ap (λ frames. loops_in (frames.running ∷ frames.callers)) w.answers.frames_are
  kind_loops (kind.Search c) zero b (inr w) x =
      ap (λ frames. loops_in (frames.running ∷ frames.callers)) w.answers.frames_are
  kind_loops (kind.Search c) (suc zero) b w x =
      ap (λ frames. loops_in (frames.running ∷ frames.callers)) w.frames_are
      ∙ leaves e s.frames.running w.turn (loops_in s.frames.callers) between w.loop w.outer w.inside
      (jumps e s.frames.running w.turn (loops_in s.frames.callers) between 1 _ w.jumps ∙ ap (drop 1) w.inside)
  kind_loops (kind.Page p) zero b w x = settle_behind e s t _ (page_goes p s.left s.arguments s.world) w
  kind_loops (kind.File f) zero b w x =
      settle_behind e s t _ (then (arguments_of s.arguments.level)
      (λ taken. filed f e.text s.left (levels_after_taking s.arguments) s.world)
      (λ taken. filed_goes f e.text s.left (levels_after_taking s.arguments) s.world)) w
  kind_loops k zero b w x = settle_behind e s t _ (on_editor_goes s.left s.world _) w
  kind_loops k way b w x = absurd (grind arith)

pub step_loops : (read : Option Element) (way : ℕ) (s t : State) (between : ℕ)
    → (way ≡ 0 → between ≡ length (open_loops s) - length (open_loops t)) → StepWas read way s t
    → begins_turn read way ≡ false → open_loops t ≡ drop (left_along read way between) (open_loops s)
step_loops None zero s t between b w x =
    ap open_loops w.gone ∙ sym (ap (λ (ls : List Loop). ls ++ loops_in s.frames.callers) w.closed
    ∙ ap loops_in w.waiting)
step_loops None (suc way) s t between b w x = absurd w
step_loops (Some e) way s t between b w x = kind_loops e s t between e.kind way b w x
