-- What a flat source is beside its form, as each one is that comes from files: its expressions are sound, its targets can be
-- written, formats and values of a `$display` agree, the body of an assignment is one assignment and that of a cover one `if`.
use Rattle.std.specs.Prelude.{◌≡◌, ℕ, ◌<◌, ◌≤◌, ◌+◌, ◌^◌, Bool, true, false, ◌&&◌, List, [], ◌∷◌, length, Option, unwrap_or, All}
use Rattle.std.specs.List.{list_all}
use Rattle.cov_types.specs.declared.kind.ProcessKind.{ProcessKind}
use Rattle.cov_types.specs.declared.kind.ProcessKind.TheVariants as kind
use Rattle.elab_types.specs.declared.flat_source.FlatVar.{FlatVar}
use Rattle.elab_types.specs.declared.flat_source.FlatProcess.{FlatProcess}
use Rattle.elab_types.specs.declared.flat_source.FlatSource.{FlatSource}
use Rattle.elab_types.specs.declared.flat_expression.FlatExpr.{FlatExpr, FlatExpr-F, para-FlatExpr}
use Rattle.elab_types.specs.declared.flat_expression.FlatExpr.TheOpen as x
use Rattle.elab_types.specs.declared.flat_expression.FlatSelect.{FlatSelect}
use Rattle.elab_types.specs.declared.flat_statement.FlatStmt.{FlatStmt, fold-FlatStmt, out-FlatStmt}
use Rattle.elab_types.specs.declared.flat_statement.FlatKind.{FlatKind, out-FlatKind}
use Rattle.elab_types.specs.declared.flat_statement.FlatArm.{FlatArm}
use Rattle.elab_types.specs.declared.flat_statement.FlatKind.TheOpen as k
use Rattle.source_meaning.specs.Texts.{Format, literal, value, wrong}
use Rattle.typed_form.specs.TypedTexts.{all_formats}
use Rattle.lower_meaning.specs.SoundExpressions.{is_base, is_sound}

-- one layer of what can be written: a name, a select, or several of them in braces
abbrev pub target_node : FlatExpr-F (FlatExpr × Bool) (FlatSelect × Bool) → Bool
target_node (x.Var k) = true
target_node (x.Select base s) = is_base base.0
target_node (x.Join parts) = list_all (λ p. p.1) parts
target_node _ = false

-- an expression can be written
abbrev pub is_target : FlatExpr → Bool
is_target = para-FlatExpr Bool Bool target_node (λ s. true)

-- no format is wrong, and each format of a value has its value
abbrev pub are_shown : List Format → List FlatExpr → Bool
are_shown [] [] = true
are_shown [] (of ∷ values) = false
are_shown (literal c ∷ rest) values = are_shown rest values
are_shown (value base short ∷ rest) [] = false
are_shown (value base short ∷ rest) (of ∷ values) = are_shown rest values
are_shown (wrong ∷ rest) values = false

-- one statement, from whether those inside are sound
abbrev pub sound_kind : List FlatVar → k.FlatKind-F Bool Bool Bool → Bool
sound_kind vars (k.Block body last) = list_all (λ sound. sound) body
sound_kind vars (k.If on first second) = is_sound vars on && first && unwrap_or second true
sound_kind vars (k.Case wild on arms) = is_sound vars on && list_all (λ sound. sound) arms
sound_kind vars (k.Set target of) = is_target target && is_sound vars target && is_sound vars of
sound_kind vars (k.Later target of) = is_target target && is_sound vars target && is_sound vars of
sound_kind vars (k.Show text values) = list_all (is_sound vars) values && are_shown (all_formats text) values
sound_kind vars _ = true

-- a statement is sound
abbrev pub is_sound_stmt : List FlatVar → FlatStmt → Bool
is_sound_stmt vars = fold-FlatStmt Bool Bool Bool (sound_kind vars) (λ a. list_all (is_sound vars) a.items && a.body) (λ s. s.what)

-- the body of an assignment is an assignment, that of a cover an `if`
abbrev pub fits_kind : ProcessKind → k.FlatKind-F FlatKind FlatArm FlatStmt → Bool
fits_kind kind.Assign (k.Set target of) = true
fits_kind kind.Assign _ = false
fits_kind kind.Cover (k.If on first second) = true
fits_kind kind.Cover _ = false
fits_kind _ body = true

-- a variable has from 1 to 128 bits, and room for the numbers of its bits
pub record IsSoundVariable (v : FlatVar) : Type 0 where
  pub some_bits : 1 ≤ v.width
  pub few_bits : v.width ≤ 128
  pub room : v.low + 127 < 2 ^ 32

-- a process of a flat source
pub record IsSoundProcess (vars : List FlatVar) (p : FlatProcess) : Type 0 where
  pub body : is_sound_stmt vars p.body ≡ true
  pub fits : fits_kind p.kind (out-FlatKind (out-FlatStmt p.body).what) ≡ true

-- what a flat source has to be to have a typed form, or a first refusal
pub record IsLowerable (flat : FlatSource) : Type 0 where
  pub variables : All IsSoundVariable flat.vars
  pub few : length flat.vars ≤ 2 ^ 32
  pub inputs : All (λ k. k < length flat.vars) flat.inputs
  pub processes : All (IsSoundProcess flat.vars) flat.processes
