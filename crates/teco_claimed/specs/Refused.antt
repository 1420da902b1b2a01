-- Why a certificate of the linear rules is refused: each refusal says what is not so.
use Rattle.std.specs.Prelude.{◌≡◌, ℕ, List, ⊤, Option, Some, None, option_map, option_and_then, Ok, Err}
use Rattle.teco_certificate.specs.declared.fault.CertificateFault.{CertificateFault}
use Rattle.teco_certificate.specs.declared.fault.CertificateFault.TheVariants as reading
use Rattle.teco_claimed.specs.Claimed.{TakesDeclared, IsOfTexts}
use Rattle.teco_claimed.specs.Reads.{IsTextOf, IsTextOfNone}
use Rattle.teco_claimed.specs.declared.certificate.LinearCertificate.{LinearCertificate}
use Rattle.teco_claimed.specs.declared.refusal.LinearRefusal.{LinearRefusal}
use Rattle.teco_claimed.specs.declared.refusal.LinearRefusal.TheVariants.{NotACertificate, OtherArgument, NotExpanded}
use Rattle.teco_claimed.specs.declared.refusal.LinearRefusal.TheVariants.{OtherText, NotCertain, NotFound, Memory}
use Rattle.teco_claimed.specs.declared.refusal.NodePlace.{NodePlace}
use Rattle.teco_expansion.specs.Refused.{refusal_seen}
use Rattle.teco_expansion.specs.declared.refusal.ExpandFault.{ExpandFault}
use Rattle.teco_expansion.specs.declared.refusal.ExpandFault.TheVariants as expanding
use Rattle.teco_library.specs.Library.{LibraryFile}
use Rattle.teco_paths.specs.declared.fault.PathFault.{PathFault}
use Rattle.teco_paths.specs.declared.fault.PathFault.TheVariants as path
use Rattle.teco_verifier.specs.expansion.Expansion.{expansion}
use Rattle.teco_verifier.specs.expansion.Node.{Node, numbered, place_of}

-- the number of the element that a fault tells, if it tells one
abbrev pub number_told : PathFault → Option ℕ
number_told (path.NoElement number) = Some number
number_told (path.NotTold number) = Some number
number_told (path.NotOpen number) = Some number
number_told (path.Condition number) = Some number
number_told (path.Size number) = Some number
number_told (path.Commands number) = Some number
number_told (path.Claims number) = Some number
number_told (path.Unreached number) = Some number
number_told (path.Unread number) = Some number
number_told path.TooLong = None
number_told path.Types = None
number_told path.Unknown = None
number_told path.Memory = None

-- where a node stands: the register of its text, and the place of its element there
abbrev pub node_place : Node → NodePlace
node_place node = record { register = node.register; place = place_of node }

-- where that element stands, if there is one
abbrev pub place_told : List Node → PathFault → Option NodePlace
place_told nodes fault = option_map node_place (option_and_then (numbered nodes) (number_told fault))

-- what the calls below answer, as refusals
abbrev pub refusal_by_reading : CertificateFault → LinearRefusal
refusal_by_reading reading.NotACertificate = NotACertificate
refusal_by_reading reading.Memory = Memory

abbrev pub refusal_by_expansion : ExpandFault → LinearRefusal
refusal_by_expansion (expanding.Refused refused) = NotExpanded refused
refusal_by_expansion expanding.Memory = Memory

abbrev pub refusal_by_claims : List Node → PathFault → LinearRefusal
refusal_by_claims nodes path.Memory = Memory
refusal_by_claims nodes fault = NotCertain fault (place_told nodes fault)

-- A fault of claims is told, and where its element stands.
abbrev pub IsOfClaims : List Node → LinearRefusal → Type 0
IsOfClaims nodes NotACertificate = ⊥
IsOfClaims nodes OtherArgument = ⊥
IsOfClaims nodes (NotExpanded refused) = ⊥
IsOfClaims nodes OtherText = ⊥
IsOfClaims nodes (NotCertain fault at) = at ≡ place_told nodes fault
IsOfClaims nodes (NotFound why at) = ⊥
IsOfClaims nodes Memory = ⊤

-- The macro has an expansion, and the checksum of the certificate is not that of its texts.
pub record IsOfOtherTexts (library : LibraryFile) (certificate : LinearCertificate) : Type 0 where
  pub nodes : List Node
  pub expanded : expansion library.texts certificate.entry ≡ Ok nodes
  pub other : ¬ IsOfTexts library certificate nodes

-- The macro has an expansion and the checksum, if there is one, and where the element of a fault stands is told.
pub record IsGivenUp
    (library : LibraryFile) (certificate : LinearCertificate) (fault : PathFault) (at : Option NodePlace) :
    Type 0 where
  pub nodes : List Node
  pub expanded : expansion library.texts certificate.entry ≡ Ok nodes
  pub of_texts : IsOfTexts library certificate nodes
  pub told : at ≡ place_told nodes fault

-- Another argument is declared. Or it is the one that is declared, and the macro has no expansion, for this reason, or
-- it has one, and its texts have another checksum, or the claims were given up.
abbrev pub IsRefusedFor : LibraryFile → LinearCertificate → LinearRefusal → Type 0
IsRefusedFor library certificate NotACertificate = ⊥
IsRefusedFor library certificate OtherArgument = ¬ TakesDeclared library certificate
IsRefusedFor library certificate (NotExpanded refused) =
    TakesDeclared library certificate × (expansion library.texts certificate.entry ≡ Err (refusal_seen refused))
IsRefusedFor library certificate OtherText =
    TakesDeclared library certificate × IsOfOtherTexts library certificate
IsRefusedFor library certificate (NotCertain fault at) =
    TakesDeclared library certificate × IsGivenUp library certificate fault at
IsRefusedFor library certificate (NotFound why at) = ⊥
IsRefusedFor library certificate Memory = ⊤

-- the text is that of a certificate that is refused so
pub record IsOfRefused (library : LibraryFile) (text : List ℕ) (refused : LinearRefusal) : Type 0 where
  pub certificate : LinearCertificate
  pub is : IsTextOf certificate text
  pub why : IsRefusedFor library certificate refused

-- The text is that of no certificate, or of one that is refused.
abbrev pub IsRefused : LibraryFile → List ℕ → LinearRefusal → Type 0
IsRefused library text NotACertificate = IsTextOfNone text
IsRefused library text OtherArgument = IsOfRefused library text OtherArgument
IsRefused library text (NotExpanded refused) = IsOfRefused library text (NotExpanded refused)
IsRefused library text OtherText = IsOfRefused library text OtherText
IsRefused library text (NotCertain fault at) = IsOfRefused library text (NotCertain fault at)
IsRefused library text (NotFound why at) = ⊥
IsRefused library text Memory = ⊤
