-- What may be counted by a point: a copy of an arm in a scope, or a bit of a variable.
use Rattle.std.specs.Prelude.{◌≡◌, ℕ, ◌<◌, Bool, true, Some, List, Contains}
use Rattle.cov_types.specs.declared.place.Place.{Place}
use Rattle.cov_points.specs.declared.options.CoverOptions.{CoverOptions}
use Rattle.cov_points.specs.declared.point.PointKind.{PointKind}
use Rattle.cov_points.specs.declared.point.PointKind.TheVariants as kind
use Rattle.point_meaning.specs.Arms.{PointArm, kind_of, comment_of}
use Rattle.flat_source_meaning.specs.SourceArms.{HasLine}
use Rattle.point_meaning.specs.Off.{IsPlaceOff, IsArmOff}
use Rattle.point_meaning.specs.Source.{Source, Variable, scope_at}
use Rattle.point_meaning.specs.Bits.{bit_comment, has_toggles}

-- an arm in a scope, or a bit by its variable, word and place
pub data Candidate : Type 0 where
  arm_in : ℕ → PointArm → Candidate
  bit_of : Variable → ℕ → ℕ → Candidate

-- whether the options ask for arms of this type; `line` asks for two
abbrev pub is_chosen : CoverOptions → PointKind → Bool
is_chosen options kind.Line = options.line
is_chosen options kind.Branch = options.line
is_chosen options kind.Toggle = options.toggle
is_chosen options kind.User = options.user

-- the candidates: arms with at least one copy, and bits whose variable has toggle points
pub data IsCandidate (source : Source) (options : CoverOptions) : Candidate → Type 0 where
  an_arm : {n : ℕ} {x : PointArm} → Contains source.copies (record { scope = n; arm = Some x })
      → is_chosen options (kind_of x.name) ≡ true → IsCandidate source options (arm_in n x)
  a_bit : {v : Variable} {word bit : ℕ} → Contains source.variables v → has_toggles options v ≡ true
      → word < v.words → bit < v.width → IsCandidate source options (bit_of v word bit)

-- a bit is reached where its name is declared
abbrev pub IsOff : Source → Candidate → Type 0
IsOff source (arm_in n x) = IsArmOff source.files x.arm
IsOff source (bit_of v word bit) = IsPlaceOff source.files v.place v.place

-- a candidate that is not off
abbrev pub IsOn : Source → CoverOptions → Candidate → Type 0
IsOn source options c = IsCandidate source options c × (IsOff source c → ⊥)

-- What makes candidates one point: type, module text, place and comment.
pub record Identity : Type 0 where
  pub kind : PointKind
  pub module_text : List ℕ
  pub place : Place
  pub comment : List ℕ

-- the point that a candidate belongs to
abbrev pub identity_of : Source → Candidate → Identity
identity_of source (arm_in n x) =
    record { kind = kind_of x.name; module_text = (scope_at source n).module_text; place = x.arm.place; comment = comment_of x.name }
identity_of source (bit_of v word bit) =
    record { kind = kind.Toggle; module_text = (scope_at source v.scope).module_text; place = v.place; comment = bit_comment v word bit }

-- the scope of a candidate
abbrev pub scope_of : Candidate → ℕ
scope_of (arm_in n x) = n
scope_of (bit_of v word bit) = v.scope

-- the lines of a candidate: those of the arm, or that of the declaration
abbrev pub IsLineOf : Candidate → ℕ → Type 0
IsLineOf (arm_in n x) line = HasLine x.arm line
IsLineOf (bit_of v word bit) line = line ≡ v.place.line
