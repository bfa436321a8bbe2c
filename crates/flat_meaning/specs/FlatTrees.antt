-- Short forms of flat statements.
use Rattle.std.specs.Prelude.{List}
use Rattle.cov_types.specs.declared.place.Place.{Place}
use Rattle.elab_types.specs.declared.flat_expression.FlatExpr.{FlatExpr}
use Rattle.elab_types.specs.declared.flat_statement.FlatStmt.{FlatStmt, roll-FlatStmt}
use Rattle.elab_types.specs.declared.flat_statement.FlatKind.{FlatKind}
use Rattle.elab_types.specs.declared.flat_statement.FlatArm.{FlatArm, roll-FlatArm}

-- a flat statement of a kind at a place
abbrev pub flat_stmt : Place → FlatKind → FlatStmt
flat_stmt p what = roll-FlatStmt (record { place = p; what = what })

-- an arm of a flat case
abbrev pub flat_arm : Place → List FlatExpr → FlatStmt → FlatArm
flat_arm p items body = roll-FlatArm (record { place = p; items = items; body = body })
