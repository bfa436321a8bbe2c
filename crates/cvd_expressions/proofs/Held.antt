-- What is held of an expression, from its nodes and from what was built of them.
use Rattle.std.proofs.Common.{◌≡◌, ℕ, ◌≤◌, Bool, true, false, List, refl, sym, ◌∙◌, ap, arith}
use Rattle.std.specs.Prelude.{◌&&◌, [], nat_le}
use Rattle.std.proofs.lemmas.Bool.Decides.{nat_tests}
use Rattle.cov_types.specs.Limits.{most}
use Rattle.cov_types.specs.declared.limit.LimitName.TheVariants as limit
use Rattle.cov_types.specs.declared.var.Var.{Var}
use Rattle.design_tree.specs.declared.design.Design.{Design}
use Rattle.design_tree.specs.declared.typed.Typed.{Typed}
use Rattle.design_meaning.specs.Sizes.{nodes, depth}
use Rattle.design_meaning.specs.Widths.{width_of}
use Rattle.design_meaning.specs.WellTyped.{is_typed}
use Rattle.cvd_text.specs.Targets.{is_expression}
use Rattle.cvd_nodes.specs.Trees.{may_be}
use Rattle.cvd_expressions.specs.Builds.{IsBuilt, may_stand}
use Rattle.cvd_expressions.specs.declared.built.Built.{Built}

-- some design of these variables
abbrev pub with_vars : List Var → Design
with_vars vars = record { vars = vars; inputs = []; outputs = []; processes = [] }

by_tests : (t d n : Bool) → (t && n) ≡ false → ((t && d) && n) ≡ false
by_tests true true n h = h
by_tests true false n h = refl
by_tests false d n h = refl

pub never : (d : Design) (x : Typed) → may_be d x ≡ false → may_stand d x ≡ false
never d x h = by_tests (is_typed d x) (nat_le (depth x) (most limit.Depth)) (nat_le (nodes x) (most limit.Nodes)) h

pub never_built : (d : Design) (x : Typed) → is_expression d x ≡ false → may_stand d x ≡ false
never_built d x h = ap (λ b. b && nat_le (nodes x) (most limit.Nodes)) h

test_le : (n m : ℕ) → n ≤ m → nat_le n m ≡ true
test_le n m h = grind (arith, nat_tests)

all_true : (a b c : Bool) → a ≡ true → b ≡ true → c ≡ true → ((a && b) && c) ≡ true
all_true a b c h k l = ap (λ x. (x && b) && c) h ∙ ap (λ x. x && c) k ∙ l

pub stands : (d : Design) (x : Typed) (b : Built) → b.depth ≤ 2000 → nodes x ≤ most limit.Nodes → b.tree ≡ x → IsBuilt d b → may_stand d x ≡ true
stands d x b shallow few same h =
    all_true (is_typed d x) _ _ (ap (is_typed d) (sym same) ∙ h.typed)
    (test_le (depth x) 2000 (let deep = h.deep ∙ ap depth same in omega arith)) (test_le (nodes x) _ few)

pub width_is : (d : Design) (x : Typed) (b : Built) → b.tree ≡ x → IsBuilt d b → b.width ≡ width_of d x
width_is d x b same h = h.width ∙ ap (width_of d) same
