-- What the limits of a typed form count, statement by statement (docs/formats.md, "Limits"): the nodes of all typed expressions,
-- and the greatest lengths of all displayed texts.
use Rattle.std.specs.Prelude.{◌≡◌, ◌≤◌, ℕ, ◌+◌, Bool, true, false, List, [], ◌∷◌, ◌++◌, map, flat_map, Option, Some, None}
use Rattle.cov_types.specs.Limits.{most}
use Rattle.cov_types.specs.declared.limit.LimitName.TheVariants as limit
use Rattle.elab_types.specs.declared.flat_source.FlatVar.{FlatVar}
use Rattle.elab_types.specs.declared.flat_expression.FlatExpr.{FlatExpr}
use Rattle.elab_types.specs.declared.flat_statement.FlatStmt.{FlatStmt, out-FlatStmt, para-FlatStmt}
use Rattle.elab_types.specs.declared.flat_statement.FlatKind.{FlatKind, out-FlatKind}
use Rattle.elab_types.specs.declared.flat_statement.FlatArm.{FlatArm, out-FlatArm}
use Rattle.elab_types.specs.declared.flat_statement.FlatKind.TheOpen as k
use Rattle.design_tree.specs.declared.typed.Typed.{Typed}
use Rattle.design_tree.specs.declared.step.Target.{Target}
use Rattle.design_tree.specs.declared.step.Piece.{Piece}
use Rattle.design_tree.specs.declared.step.StepItem.{StepItem}
use Rattle.circuit_run.specs.Lists.{total}
use Rattle.circuit_run.specs.Digits.{decimal_columns, hex_columns}
use Rattle.design_meaning.specs.Sizes.{nodes, target_nodes}
use Rattle.design_meaning.specs.Mentions.{piece_mentions, mention_nodes}
use Rattle.source_meaning.specs.Meaning.{greatest_size, all_signed}
use Rattle.source_meaning.specs.Texts.{Base, decimal, hexadecimal, binary, Format, literal, value, wrong}
use Rattle.source_meaning.specs.Assignments.{total_width}
use Rattle.flat_meaning.specs.Expressions.{meaning}
use Rattle.typed_form.specs.Nodes.{test}
use Rattle.typed_form.specs.TypedExpressions.{IsTyped, IsTypedAlone, IsAssigned, size, signed}
use Rattle.typed_form.specs.TypedTargets.{AreTargets}
use Rattle.typed_form.specs.TypedTexts.{ArePieces, all_formats}
use Rattle.typed_form.specs.TypedSteps.{AreItems, compared_all}

-- the layer of a statement
abbrev pub KindLayer : Type 0
KindLayer = k.FlatKind-F FlatKind FlatArm FlatStmt

-- what a statement is at its head
abbrev pub kind_layer : FlatStmt → KindLayer
kind_layer st = out-FlatKind (out-FlatStmt st).what

-- nodes, and bytes of text
pub record Weight : Type 0 where
  pub nodes : ℕ
  pub text : ℕ

-- the greatest length of a value of some size and sign
abbrev pub greatest_length : Base → ℕ → Bool → ℕ
greatest_length decimal n by_sign = decimal_columns by_sign n
greatest_length hexadecimal n by_sign = hex_columns n
greatest_length binary n by_sign = n

-- the greatest length of what formats and values show
abbrev pub shown_length : List FlatVar → List Format → List FlatExpr → ℕ
shown_length vars [] values = 0
shown_length vars (literal c ∷ rest) values = 1 + shown_length vars rest values
shown_length vars (value base short ∷ rest) [] = shown_length vars rest []
shown_length vars (value base short ∷ rest) (of ∷ values) =
    greatest_length base (size vars of) (signed vars of) + shown_length vars rest values
shown_length vars (wrong ∷ rest) values = shown_length vars rest values

-- the nodes of some pieces
abbrev pub piece_nodes : List Piece → ℕ
piece_nodes pieces = total (map mention_nodes (flat_map piece_mentions pieces))

-- all items of a `case`
abbrev pub all_items : List FlatArm → List FlatExpr
all_items = flat_map (λ a. (out-FlatArm a).items)

-- a statement with expressions of its own
abbrev pub is_heavy : KindLayer → Bool
is_heavy (k.If on first second) = true
is_heavy (k.Case wild on arms) = true
is_heavy (k.Set target of) = true
is_heavy (k.Later target of) = true
is_heavy (k.Show text values) = true
is_heavy _ = false

-- what a statement's own expressions have, without those of the statements inside
pub data HasWeight (vars : List FlatVar) : KindLayer → Weight → Type 0 where
  tested : {on : FlatExpr} {first : FlatStmt} {second : Option FlatStmt} {a : Typed}
      → IsTypedAlone vars on a → HasWeight vars (k.If on first second) (record { nodes = nodes (test a); text = 0 })
  chosen : {wild : Bool} {on : FlatExpr} {arms : List FlatArm} {a : Typed} {items : List StepItem}
      → IsTyped vars on (greatest_size (compared_all vars on arms)) (all_signed (compared_all vars on arms)) a
      → AreItems vars (greatest_size (compared_all vars on arms)) (all_signed (compared_all vars on arms)) (all_items arms) items
      → HasWeight vars (k.Case wild on arms) (record { nodes = nodes a + total (map (λ i. nodes i.value) items); text = 0 })
  set : {target of : FlatExpr} {ts : List Target} {a : Typed}
      → AreTargets vars target ts → IsAssigned vars (total_width (meaning vars target).objects) of a
      → HasWeight vars (k.Set target of) (record { nodes = total (map target_nodes ts) + nodes a; text = 0 })
  later : {target of : FlatExpr} {ts : List Target} {a : Typed}
      → AreTargets vars target ts → IsAssigned vars (total_width (meaning vars target).objects) of a
      → HasWeight vars (k.Later target of) (record { nodes = total (map target_nodes ts) + nodes a; text = 0 })
  shown : {text : Option (List ℕ)} {values : List FlatExpr} {pieces : List Piece}
      → ArePieces vars (all_formats text) values pieces
      → HasWeight vars (k.Show text values) (record { nodes = piece_nodes pieces; text = shown_length vars (all_formats text) values })
  light : {layer : KindLayer} → is_heavy layer ≡ false → HasWeight vars layer (record { nodes = 0; text = 0 })

-- the nodes of some statements together, and their bytes of text
abbrev pub all_nodes : List Weight → ℕ
all_nodes ws = total (map (λ w. w.nodes) ws)

abbrev pub all_text : List Weight → ℕ
all_text ws = total (map (λ w. w.text) ws)

-- statements are within both limits
pub record AreWithin (ws : List Weight) : Type 0 where
  pub nodes : all_nodes ws ≤ most limit.Nodes
  pub text : all_text ws ≤ most limit.EdgeText
