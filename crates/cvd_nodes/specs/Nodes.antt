-- The nodes of an expression: each its first word and the fields that stand before its operands.
use Rattle.std.specs.Prelude.{ℕ, ◌^◌, ◌&&◌, Bool, true, nat_lt, List, [], ◌∷◌, ◌++◌, Option, None, Some, if◌then◌else◌}
use Rattle.cvd_text.specs.Tokens.{Token, word}
use Rattle.cvd_text.specs.Expressions.{sign_word}
use Rattle.cvd_text.specs.Pieces.{Mark}
use Rattle.cvd_cursor.specs.Numerals.{number_tokens, hex_tokens}
use Rattle.cvd_cursor.specs.Reads.{marks}
use Rattle.cvd_nodes.specs.Heads.{head_text}
use Rattle.cvd_nodes.specs.declared.head.Head.{Head}
use Rattle.cvd_nodes.specs.declared.head.Head.TheVariants as head
use Rattle.cvd_nodes.specs.declared.node.Node.{Node}
use Rattle.cvd_nodes.specs.declared.node.Node.TheVariants as node

-- LOW S: what is taken off a position, and how its value is read
abbrev pub Low : Type 0
Low = (low : ℕ) × Bool

abbrev pub sign_tokens : Bool → List Token
sign_tokens signed = word (sign_word signed) ∷ []

abbrev pub low_marks : Low → List Mark
low_marks p = marks number_tokens p.0 ++ marks sign_tokens p.1

-- the fields of a node, by its first word
abbrev pub Fields : Head → Type 0
Fields head.Number = (width : ℕ) × ℕ
Fields head.Var = ℕ
Fields head.Word = (var : ℕ) × Low
Fields head.Part = (width : ℕ) × Low
Fields head.ZeroExtend = ℕ
Fields head.SignExtend = ℕ
Fields head.Truncate = ℕ
Fields (head.Unary op) = Unit {0}
Fields (head.Binary op) = Unit {0}
Fields head.Join = Unit {0}
Fields head.Repeat = ℕ
Fields head.Choose = Unit {0}

abbrev pub no_marks : Unit {0} → List Mark
no_marks u = []

abbrev pub constant_marks : (width : ℕ) × ℕ → List Mark
constant_marks p = marks number_tokens p.0 ++ marks hex_tokens p.1

abbrev pub place_marks : (first : ℕ) × Low → List Mark
place_marks p = marks number_tokens p.0 ++ low_marks p.1

abbrev pub field_marks : (h : Head) → Fields h → List Mark
field_marks head.Number = constant_marks
field_marks head.Var = marks number_tokens
field_marks head.Word = place_marks
field_marks head.Part = place_marks
field_marks head.ZeroExtend = marks number_tokens
field_marks head.SignExtend = marks number_tokens
field_marks head.Truncate = marks number_tokens
field_marks (head.Unary op) = no_marks
field_marks (head.Binary op) = no_marks
field_marks head.Join = no_marks
field_marks head.Repeat = marks number_tokens
field_marks head.Choose = no_marks

abbrev pub head_tokens : Head → List Token
head_tokens h = word (head_text h) ∷ []

-- a node of any numbers
abbrev pub Own : Type 0
Own = (h : Head) × Fields h

abbrev pub own_marks : Own → List Mark
own_marks n = marks head_tokens n.0 ++ field_marks n.0 n.1

-- whether the numbers fit the types that hold them
abbrev pub is_small : ℕ → Bool
is_small n = nat_lt n 256

abbrev pub is_number : ℕ → Bool
is_number n = nat_lt n (2 ^ 32)

abbrev pub fields_fit : (h : Head) → Fields h → Bool
fields_fit head.Number p = is_small p.0 && nat_lt p.1 (2 ^ 128)
fields_fit head.Var v = is_number v
fields_fit head.Word p = is_number p.0 && is_number p.1.0
fields_fit head.Part p = is_small p.0 && is_number p.1.0
fields_fit head.ZeroExtend w = is_small w
fields_fit head.SignExtend w = is_small w
fields_fit head.Truncate w = is_small w
fields_fit (head.Unary op) u = true
fields_fit (head.Binary op) u = true
fields_fit head.Join u = true
fields_fit head.Repeat n = is_small n
fields_fit head.Choose u = true

abbrev pub node_with : (h : Head) → Fields h → Node
node_with head.Number p = node.Number p.0 p.1
node_with head.Var v = node.Var v
node_with head.Word p = node.Word p.0 p.1.0 p.1.1
node_with head.Part p = node.Part p.0 p.1.0 p.1.1
node_with head.ZeroExtend w = node.ZeroExtend w
node_with head.SignExtend w = node.SignExtend w
node_with head.Truncate w = node.Truncate w
node_with (head.Unary op) u = node.Unary op
node_with (head.Binary op) u = node.Binary op
node_with head.Join u = node.Join
node_with head.Repeat n = node.Repeat n
node_with head.Choose u = node.Choose

abbrev pub is_fit : Own → Bool
is_fit n = fields_fit n.0 n.1

abbrev pub node_of : Own → Node
node_of n = node_with n.0 n.1

-- a node, where its numbers fit
abbrev pub held_fields : (h : Head) → Fields h → Option Node
held_fields h f = if fields_fit h f then Some (node_with h f) else None

abbrev pub held_node : Own → Option Node
held_node n = held_fields n.0 n.1
