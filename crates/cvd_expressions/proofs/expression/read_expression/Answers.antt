use Rattle.std.proofs.Common.{◌≡◌, Some, refl, sym, ◌∙◌, subst, arith}
use Rattle.design_tree.specs.declared.design.Design.{Design}
use Rattle.cvd_nodes.specs.Trees.{AreNodes, HoldsNodes}
use Rattle.cvd_expressions.specs.Builds.{Builds}
use Rattle.cvd_expressions.proofs.Held.{with_vars, never_built, stands, width_is}
use Rattle.cvd_expressions.proofs.expression.read_expression.Goals as goal

pub returns-in_default-2 : goal.returns-in_default-2
returns-in_default-2 c =
    let r = c.in_ok-nodes.ensures in
    let h = subst (HoldsNodes r.0) c.in-Some.is r.1.1 in
    let are = subst (λ l. AreNodes l r.0) (sym c.as_slice.ensures) h.0 in
    (r.0, (r.1.0, λ d s. never_built d r.0 (subst (Builds d r.0) c.in_default-2.is (c.in_ok-built.ensures d r.0 s are))))

pub returns : goal.returns
returns c =
    let r = c.in_ok-nodes.ensures in
    let h = subst (HoldsNodes r.0) c.in-Some.is r.1.1 in
    let are = subst (λ l. AreNodes l r.0) (sym c.as_slice.ensures) h.0 in
    let b = c.in-Some-2.built in
    let f : (d : Design) → d.vars ≡ c.args.vars.now → Builds d r.0 (Some b) = λ d s. subst (Builds d r.0) c.in-Some-2.is (c.in_ok-built.ensures d r.0 s are) in
    let same = (f (with_vars c.args.vars.now) refl).0 in (
      r.0,
      (
        r.1.0,
        (
          same,
          (
            c.len-count.ensures ∙ h.1,
            λ d s. (stands d r.0 b b.shallow (omega (arith, h.1, h.2)) same (f d s).1, width_is d r.0 b same (f d s).1),
          ),
        ),
      ),
    )
