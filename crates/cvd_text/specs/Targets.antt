-- The spelling of targets and of displayed pieces, and their conditions (docs/formats.md, "Design files").
use Rattle.std.specs.Prelude.{ℕ, ◌+◌, ◌==◌, ◌&&◌, Bool, true, false, nat_le, List, [], ◌∷◌, ◌++◌, codes, map, if◌then◌else◌}
use Rattle.std.specs.List.{list_all}
use Rattle.cov_types.specs.Limits.{most}
use Rattle.cov_types.specs.declared.limit.LimitName.TheVariants as limit
use Rattle.cov_types.specs.declared.kind.ProcessKind.{ProcessKind}
use Rattle.cov_types.specs.declared.kind.VarKind.{VarKind}
use Rattle.cov_types.specs.declared.kind.VarKind.TheVariants as kind
use Rattle.design_tree.specs.declared.design.Design.{Design}
use Rattle.design_tree.specs.declared.step.Target.{Target}
use Rattle.design_tree.specs.declared.step.Target.TheVariants as target
use Rattle.design_tree.specs.declared.step.Piece.{Piece}
use Rattle.design_tree.specs.declared.step.Piece.TheVariants as piece
use Rattle.design_tree.specs.declared.typed.Typed.{Typed}
use Rattle.circuit_run.specs.Lists.{total}
use Rattle.design_meaning.specs.States.{var_of}
use Rattle.design_meaning.specs.Widths.{width_of, widths_named}
use Rattle.design_meaning.specs.WellTyped.{is_typed, is_target}
use Rattle.design_meaning.specs.WellTyped as typed
use Rattle.design_meaning.specs.Sizes.{nodes, depth, target_nodes, target_depth}
use Rattle.design_meaning.specs.Targets.{var_named}
use Rattle.design_meaning.specs.ValidProcesses.{kind_written}
use Rattle.cvd_text.specs.Tokens.{Token, word, number, digits}
use Rattle.cvd_text.specs.Expressions.{tokens_of, position_tokens, sign_word}

-- a well typed expression that isn't too deep
abbrev pub is_expression : Design → Typed → Bool
is_expression d e = is_typed d e && nat_le (depth e) (most limit.Depth)

abbrev pub same_kind : VarKind → VarKind → Bool
same_kind kind.Input kind.Input = true
same_kind kind.Reg kind.Reg = true
same_kind kind.Wire kind.Wire = true
same_kind _ _ = false

abbrev pub target_tokens : Target → List Token
target_tokens (target.Whole v) = word (codes "w") ∷ number v ∷ []
target_tokens (target.Part v w at) = word (codes "b") ∷ number v ∷ number w ∷ position_tokens at
target_tokens (target.Word v at) = word (codes "m") ∷ number v ∷ position_tokens at
target_tokens (target.WordPart v index w at) = word (codes "q") ∷ number v ∷ position_tokens index ++ (number w ∷ position_tokens at)

-- a process of this kind may write the target
abbrev pub may_write : Design → ProcessKind → Target → Bool
may_write d k t = is_target d t && same_kind (var_of d (var_named t)).kind (kind_written k) && nat_le (target_depth t) (most limit.Depth)

-- the targets take the value: their widths together are the value's
abbrev pub takes_value : Design → ProcessKind → List Target → Typed → Bool
takes_value d k targets value = list_all (may_write d k) targets && is_expression d value && widths_named d targets == width_of d value

abbrev pub letter : Bool → List ℕ → List ℕ → Token
letter short long_form short_form = word (if short then short_form else long_form)

abbrev pub piece_tokens : Piece → List Token
piece_tokens (piece.Text bytes) = word (codes "t") ∷ digits bytes ∷ []
piece_tokens (piece.Dec signed short value) = letter short (codes "d") (codes "D") ∷ word (sign_word signed) ∷ tokens_of value
piece_tokens (piece.Hex short value) = letter short (codes "h") (codes "H") ∷ tokens_of value
piece_tokens (piece.Bin short value) = letter short (codes "b") (codes "B") ∷ tokens_of value

abbrev pub piece_nodes : Piece → ℕ
piece_nodes (piece.Text bytes) = 0
piece_nodes (piece.Dec signed short value) = nodes value
piece_nodes (piece.Hex short value) = nodes value
piece_nodes (piece.Bin short value) = nodes value

abbrev pub piece_depth : Piece → ℕ
piece_depth (piece.Text bytes) = 0
piece_depth (piece.Dec signed short value) = depth value
piece_depth (piece.Hex short value) = depth value
piece_depth (piece.Bin short value) = depth value

-- a well typed piece that isn't too deep
abbrev pub is_piece : Design → Piece → Bool
is_piece d p = typed.is_piece d p && nat_le (piece_depth p) (most limit.Depth)

abbrev pub assigned_nodes : List Target → Typed → ℕ
assigned_nodes targets value = total (map target_nodes targets) + nodes value
