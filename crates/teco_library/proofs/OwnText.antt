-- The text of a ^U stands in the file, before the byte that ends it.
use Rattle.std.proofs.Common.{◌≡◌, ℕ, ◌-◌, ◌<◌, ◌≤◌, List, length, Some, refl, sym, arith}
use Rattle.teco_base.specs.declared.bytes.TheConstants.{ESC}
use Rattle.teco_model.specs.declared.head.TextShape.TheVariants.{EndedBy}
use Rattle.teco_model.specs.declared.kind.Kind.{Kind}
use Rattle.teco_model.specs.declared.kind.Kind.TheVariants as kind
use Rattle.teco_model.specs.declared.kind.Command.TheVariants as command
use Rattle.teco_model.specs.declared.kind.Storage.TheVariants as storage
use Rattle.teco_model.specs.Ahead.{Whole, reading_at}
use Rattle.teco_model.specs.Element.{Element, blank_end}
use Rattle.teco_model.specs.Form.{texts_of}
use Rattle.teco_model.proofs.Standing.{StandsIn, reading_read}
use Rattle.teco_library.specs.Library.{register_set}
use Rattle.teco_library.specs.Spans.{part_of, span_of}

ended : (k : Kind) (q : ℕ) → register_set k ≡ Some q → texts_of k ≡ EndedBy ESC
ended (kind.Command (command.Storage (storage.SetText r))) q h = refl
ended k q h = absurd (cc)

-- where the text of an element stands
pub record HasItsText (file : List ℕ) (e : Element) : Type 0 where
  pub ends : length e.text < e.next
  pub within : e.next ≤ length file
  pub stands : part_of file (span_of e) ≡ e.text

pub has_its_text : (file : List ℕ) (at q : ℕ) (e : Element) → reading_at file at ≡ Some (Whole e)
    → register_set e.kind ≡ Some q → HasItsText file e
has_its_text file at q e h set =
    let r = reading_read file at e h in
    let text : StandsIn file (blank_end file at) e.text (e.next - 1) = rw (ended e.kind q set) at r.text in
    let size : e.next - 1 - (e.next - 1 - length e.text) ≡ length e.text = omega (arith, text.after) in
    record { ends = omega (arith, text.after, r.on); within = r.within; stands = rw size (sym text.is) }
