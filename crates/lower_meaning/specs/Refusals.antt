-- Which flat sources are refused, and which refusal is the first: statement by statement, in the order of processes and
-- statements (docs/formats.md, "Refusals of a design").
use Rattle.std.specs.Prelude.{◌≡◌, ◌<◌, ◌≤◌, ℕ, List, [], ◌∷◌, ◌++◌, flat_map, map, Option, Some, None, All}
use Rattle.std.specs.List.{AllZip}
use Rattle.cov_types.specs.Limits.{most}
use Rattle.cov_types.specs.declared.limit.LimitName.TheVariants as limit
use Rattle.elab_types.specs.declared.flat_source.FlatVar.{FlatVar}
use Rattle.elab_types.specs.declared.flat_source.FlatSource.{FlatSource}
use Rattle.elab_types.specs.declared.flat_expression.FlatExpr.{FlatExpr}
use Rattle.elab_types.specs.declared.flat_statement.FlatStmt.{FlatStmt, para-FlatStmt, out-FlatStmt}
use Rattle.elab_types.specs.declared.flat_statement.FlatKind.{FlatKind}
use Rattle.elab_types.specs.declared.flat_statement.FlatArm.{FlatArm}
use Rattle.elab_types.specs.declared.flat_statement.FlatKind.TheOpen as k
use Rattle.flat_meaning.specs.Faults.{own_fault, bad_select, width_past_128}
use Rattle.lower_meaning.specs.declared.fault.LowerFault.{LowerFault}
use Rattle.lower_meaning.specs.declared.fault.LowerFault.TheVariants as fault
use Rattle.lower_meaning.specs.Weights.{KindLayer, kind_layer, Weight, HasWeight, all_nodes, all_text, all_items, AreWithin}

-- ---- the statements of a source

abbrev pub Statements : Type 0
Statements = List FlatStmt

-- those inside a statement, the arms of a `case` in order
abbrev pub inside_kind : k.FlatKind-F (FlatKind × Statements) (FlatArm × Statements) (FlatStmt × Statements) → Statements
inside_kind (k.Block body last) = flat_map (λ s. s.1) body
inside_kind (k.If on first None) = first.1
inside_kind (k.If on first (Some second)) = first.1 ++ second.1
inside_kind (k.Case wild on arms) = flat_map (λ a. a.1) arms
inside_kind _ = []

-- a statement, and those inside it, each before what it has inside
abbrev pub statements_of : FlatStmt → Statements
statements_of st = st ∷ para-FlatStmt Statements Statements Statements inside_kind (λ a. a.body.0 ∷ a.body.1) (λ s. s.what.1) st

-- all statements of a flat source, in order
abbrev pub all_statements : FlatSource → Statements
all_statements flat = flat_map (λ p. statements_of p.body) flat.processes

-- ---- refusals

-- the expressions of a statement itself
abbrev pub own_expressions : KindLayer → List FlatExpr
own_expressions (k.If on first second) = on ∷ []
own_expressions (k.Case wild on arms) = on ∷ all_items arms
own_expressions (k.Set target of) = target ∷ of ∷ []
own_expressions (k.Later target of) = target ∷ of ∷ []
own_expressions (k.Show text values) = values
own_expressions _ = []

module _ (vars : List FlatVar) where
  -- No expression of the statement is refused.
  abbrev pub IsCalm : FlatStmt → Type 0
  IsCalm st = own_fault vars (out-FlatStmt st).place (own_expressions (kind_layer st)) ≡ []

  -- A statement is refused behind others of some weights: for its expressions, else for the nodes, else for the text.
  pub data RefusesAt (ws : List Weight) (st : FlatStmt) : LowerFault → Type 0 where
    bad_select_at : own_fault vars (out-FlatStmt st).place (own_expressions (kind_layer st)) ≡ ((out-FlatStmt st).place, bad_select) ∷ []
        → RefusesAt ws st (fault.BadSelect (out-FlatStmt st).place)
    too_wide_at : own_fault vars (out-FlatStmt st).place (own_expressions (kind_layer st)) ≡ ((out-FlatStmt st).place, width_past_128) ∷ []
        → RefusesAt ws st (fault.WidthPast128 (out-FlatStmt st).place)
    too_many_nodes : {w : Weight} → IsCalm st → HasWeight vars (kind_layer st) w → most limit.Nodes < all_nodes (ws ++ w ∷ [])
        → RefusesAt ws st (fault.Limit limit.Nodes)
    too_much_text : {w : Weight} → IsCalm st → HasWeight vars (kind_layer st) w → all_nodes (ws ++ w ∷ []) ≤ most limit.Nodes
        → most limit.EdgeText < all_text (ws ++ w ∷ []) → RefusesAt ws st (fault.Limit limit.EdgeText)

  -- No statement is refused.
  pub record NoneRefused (sts : Statements) : Type 0 where
    pub weights : List Weight
    pub calm : All IsCalm sts
    pub weigh : AllZip (λ st w. HasWeight vars (kind_layer st) w) sts weights
    pub within : AreWithin weights

  -- The first statement that is refused, and why: none before it is.
  pub record IsFirstRefused (sts : Statements) (f : LowerFault) : Type 0 where
    pub front : Statements
    pub at : FlatStmt
    pub rest : Statements
    pub all : sts ≡ front ++ at ∷ rest
    pub before : NoneRefused front
    pub refused : RefusesAt before.weights at f

-- A flat source has a typed form.
abbrev pub IsAccepted : FlatSource → Type 0
IsAccepted flat = NoneRefused flat.vars (all_statements flat)

-- The first refusal of a flat source.
abbrev pub IsFirstLowerRefusal : FlatSource → LowerFault → Type 0
IsFirstLowerRefusal flat f = IsFirstRefused flat.vars (all_statements flat) f
