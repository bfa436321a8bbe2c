-- The fields of nodes are apart, and so are nodes.
use Rattle.std.proofs.Common.{ℕ, Bool, true, List, ◌++◌, refl}
use Rattle.cvd_text.specs.Pieces.{fits, Mark}
use Rattle.spelling_laws.specs.Spelled.{Apart}
use Rattle.spelling_laws.proofs.Then as after
use Rattle.cvd_laws.proofs.Marks.{apart_marks}
use Rattle.cvd_laws.proofs.Typeds as typeds
use Rattle.cvd_cursor.specs.Numerals.{number_tokens, hex_tokens}
use Rattle.cvd_cursor.specs.Reads.{marks}
use Rattle.cvd_nodes.specs.Nodes.{Fields, Low, low_marks, constant_marks, place_marks, no_marks, field_marks, head_tokens, own_marks, sign_tokens}
use Rattle.cvd_nodes.specs.declared.head.Head.{Head}
use Rattle.cvd_nodes.specs.declared.head.Head.TheVariants as head
use Rattle.cvd_nodes.proofs.Heads.{apart_head}

pub apart_number : Apart fits (marks number_tokens)
apart_number n = apart_marks typeds.sNumber n (typeds.apart_number n)

pub apart_hex : Apart fits (marks hex_tokens)
apart_hex n = apart_marks typeds.sHex n (typeds.apart_hex n)

pub apart_sign : Apart fits (marks sign_tokens)
apart_sign s = apart_marks typeds.sSign s (typeds.apart_sign s)

-- one behind another
pub then_apart : (A B : Type 0) (sA : A → List Mark) (sB : B → List Mark) → Apart fits sA → Apart fits sB → Apart fits {A = (a : A) × B} (λ p. sA p.0 ++ sB p.1)
then_apart A B sA sB first second p = after.apart_pair fits A (λ a. B) sA (λ a. sB) p.0 p.1 (first p.0) (second p.1)

pub apart_low : Apart fits low_marks
apart_low = then_apart ℕ Bool (marks number_tokens) (marks sign_tokens) apart_number apart_sign

pub apart_constant : Apart fits constant_marks
apart_constant = then_apart ℕ ℕ (marks number_tokens) (marks hex_tokens) apart_number apart_hex

pub apart_place : Apart fits place_marks
apart_place = then_apart ℕ Low (marks number_tokens) low_marks apart_number apart_low

apart_nothing : Apart fits no_marks
apart_nothing u v h = refl

pub apart_fields : (h : Head) → Apart fits (field_marks h)
apart_fields head.Number = apart_constant
apart_fields head.Var = apart_number
apart_fields head.Word = apart_place
apart_fields head.Part = apart_place
apart_fields head.ZeroExtend = apart_number
apart_fields head.SignExtend = apart_number
apart_fields head.Truncate = apart_number
apart_fields (head.Unary op) = apart_nothing
apart_fields (head.Binary op) = apart_nothing
apart_fields head.Join = apart_nothing
apart_fields head.Repeat = apart_number
apart_fields head.Choose = apart_nothing

-- some fields
pub some_fields : (h : Head) → Fields h
some_fields head.Number = (1, 0)
some_fields head.Var = 0
some_fields head.Word = (0, (0, true))
some_fields head.Part = (1, (0, true))
some_fields head.ZeroExtend = 1
some_fields head.SignExtend = 1
some_fields head.Truncate = 1
some_fields (head.Unary op) = tt
some_fields (head.Binary op) = tt
some_fields head.Join = tt
some_fields head.Repeat = 1
some_fields head.Choose = tt

-- no node's marks begin another's
pub apart_own : Apart fits own_marks
apart_own n = after.apart_pair fits Head Fields (marks head_tokens) field_marks n.0 n.1 (apart_head n.0) (apart_fields n.0 n.1)
