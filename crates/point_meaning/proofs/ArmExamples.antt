-- The arms of the module of `PragmaExamples`, by derivation: their lines, and which of them are off.
use Rattle.std.proofs.Common.{◌≡◌, ◌∙◌, ap, ap₂, sym, subst, ℕ, List, [], ◌∷◌, Some, None, Contains, codes, refl}
use native.Mathlib.Omega.{arith}
use mathlib.Core.Logic.{inl}
use Rattle.cov_types.specs.declared.place.Place.{Place}
use Rattle.vlog_tree.specs.declared.statement.StmtKind.{StmtKind, out-StmtKind}
use Rattle.vlog_tree.specs.declared.expression.Expr.{Expr}
use Rattle.vlog_tree.specs.declared.expression.Expr.TheVariants as e
use Rattle.vlog_tree.specs.declared.statement.Stmt.{Stmt, out-roll-Stmt}
use Rattle.vlog_tree.specs.declared.statement.StmtKind.TheVariants as s
use Rattle.vlog_tree.specs.declared.item.Item.{Item}
use Rattle.vlog_tree.specs.declared.item.ItemKind.TheVariants as i
use Rattle.vlog_tree.specs.declared.module.SourceFile.{SourceFile}
use Rattle.elab_types.specs.declared.arm.ArmComment.TheVariants as c
use Rattle.vlog_tree.specs.Trees.{stmt, item, StmtLayer, stmt_layer, first_token}
use Rattle.vlog_tree.specs.Inside.{IsDirectlyIn, parts_of}
use Rattle.vlog_tree.specs.Inside.IsDirectlyIn.{itself, deeper}
use Rattle.vlog_tree.specs.Blocks.{Block}
use Rattle.flat_source_meaning.specs.SourceArms as arms
use Rattle.flat_source_meaning.specs.SourceArms.{Arm, own_arms, HasLine, own_line, of_statement}
use Rattle.point_meaning.specs.Off.{IsTaken, switched, IsArmOff, by_place, by_stop, by_block}
use Rattle.point_meaning.proofs.PragmaExamples.{at, pragmas}

abbrev pub name : List ℕ → Expr
name text = e.Name text

abbrev pub first_update : Stmt
first_update = stmt (at 6 34) (s.Later (name (codes "n")) (name (codes "a")))

abbrev pub else_block : Stmt
else_block = stmt (at 7 10) (s.Block (stmt (at 7 49) (s.Later (name (codes "n")) (name (codes "a"))) ∷ []) (at 7 60))

abbrev pub first_if : Stmt
first_if = stmt (at 5 5) (s.If (name (codes "a")) first_update (Some else_block))

abbrev pub second_if : Stmt
second_if = stmt (at 8 5) (s.If (name (codes "_x")) (stmt (at 8 13) s.Stop) None)

abbrev pub body : Stmt
body = stmt (at 4 25) (s.Block (first_if ∷ second_if ∷ []) (at 9 3))

abbrev pub process : Item
process = item (at 4 3) (i.Always (Some (codes "clk")) body)

abbrev pub body_arm : Arm
body_arm = arms.body_arm (at 4 3) body

abbrev pub first_yes : Arm
first_yes = arms.arm c.If (at 5 5) (at 6 34) (Some first_update)

abbrev pub first_no : Arm
first_no = arms.arm c.Else (at 5 5) (at 7 10) (Some else_block)

abbrev pub second_yes : Arm
second_yes = arms.arm c.If (at 8 5) (at 8 13) (Some (stmt (at 8 13) s.Stop))

-- a statement has its own place and layer
token : (p : Place) (what : StmtKind) → first_token (stmt p what) ≡ p
token p what = ap (λ x. x.place) (out-roll-Stmt (record { place = p; what = what }))

layer_is : (p : Place) (what : StmtKind) → stmt_layer (stmt p what) ≡ out-StmtKind what
layer_is p what = ap (λ x. out-StmtKind x.what) (out-roll-Stmt (record { place = p; what = what }))

own_are : (p : Place) (what : StmtKind) (l : StmtLayer) → out-StmtKind what ≡ l → own_arms (stmt p what) ≡ arms.arms_at p l
own_are p what l e = ap₂ arms.arms_at (token p what) (layer_is p what ∙ e)

-- the arms of the two `if` are these
arms_of_first : own_arms first_if ≡ first_yes ∷ first_no ∷ []
arms_of_first =
    own_are (at 5 5) (s.If (name (codes "a")) first_update (Some else_block)) _ (s.outs-If (name (codes "a")) first_update (Some else_block))
    ∙ ap₂ (λ (p : Place) (q : Place). arms.arm c.If (at 5 5) p (Some first_update) ∷ arms.arm c.Else (at 5 5) q (Some else_block) ∷ [])
    (token (at 6 34) (s.Later (name (codes "n")) (name (codes "a"))))
    (token (at 7 10) (s.Block (stmt (at 7 49) (s.Later (name (codes "n")) (name (codes "a"))) ∷ []) (at 7 60)))

arms_of_second : own_arms second_if ≡ second_yes ∷ arms.arm c.Else (at 8 5) (at 8 5) None ∷ []
arms_of_second =
    own_are (at 8 5) (s.If (name (codes "_x")) (stmt (at 8 13) s.Stop) None) _ (s.outs-If (name (codes "_x")) (stmt (at 8 13) s.Stop) None)
    ∙ ap (λ (p : Place). arms.arm c.If (at 8 5) p (Some (stmt (at 8 13) s.Stop)) ∷ arms.arm c.Else (at 8 5) (at 8 5) None ∷ []) (token (at 8 13) s.Stop)

-- both `if` statements belong directly to the block's arm, whose lines are 4, 5 and 8
parts_of_body : parts_of (stmt_layer body) ≡ first_if ∷ second_if ∷ []
parts_of_body = ap parts_of (layer_is (at 4 25) (s.Block (first_if ∷ second_if ∷ []) (at 9 3)) ∙ s.outs-Block (first_if ∷ second_if ∷ []) (at 9 3))

in_body : (d : Stmt) → Contains (first_if ∷ second_if ∷ []) d → IsDirectlyIn body d
in_body d x = deeper (subst (λ (all : List Stmt). Contains all d) (sym parts_of_body) x) itself

line_4 : HasLine body_arm 4
line_4 = own_line

line_5 : HasLine body_arm 5
line_5 =
    subst (λ (p : Place). HasLine body_arm p.line) (token (at 5 5) (s.If (name (codes "a")) first_update (Some else_block)))
    (of_statement refl (in_body first_if (0, omega arith, refl))
    (ap arms.has_line (layer_is (at 5 5) (s.If (name (codes "a")) first_update (Some else_block))
    ∙ s.outs-If (name (codes "a")) first_update (Some else_block))))

line_8 : HasLine body_arm 8
line_8 =
    subst (λ (p : Place). HasLine body_arm p.line) (token (at 8 5) (s.If (name (codes "_x")) (stmt (at 8 13) s.Stop) None))
    (of_statement refl (in_body second_if (1, omega arith, refl))
    (ap arms.has_line (layer_is (at 8 5) (s.If (name (codes "_x")) (stmt (at 8 13) s.Stop) None) ∙ s.outs-If (name (codes "_x")) (stmt (at 8 13) s.Stop) None)))

-- the yes arm of the first `if` is off by `coverage_off`, in any files of which the first has these coverage comments
abbrev pub file : SourceFile
file = record { modules = []; pragmas = pragmas }

first_yes_is_off : IsArmOff (file ∷ []) first_yes
first_yes_is_off = by_place (switched refl)

-- the yes arm of the second has a `$stop`
second_yes_is_off : IsArmOff (file ∷ []) second_yes
second_yes_is_off = by_stop (stmt (at 8 13) s.Stop, stmt (at 8 13) s.Stop, refl, itself, ap arms.is_stop (layer_is (at 8 13) s.Stop ∙ s.outs-Stop))

-- the else arm of the first is off where its block is the one that `coverage_block_off` takes
first_no_is_off : (b : Block) → IsTaken (file ∷ []) b → b.statement ≡ Some else_block → IsArmOff (file ∷ []) first_no
first_no_is_off b taken is_it = by_block taken is_it (inl refl)
