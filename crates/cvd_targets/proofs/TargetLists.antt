-- Targets that were read so far, and one more.
use Rattle.std.proofs.Common.{◌≡◌, ℕ, ◌+◌, ◌<◌, ◌≤◌, false, List, [], ◌∷◌, ◌++◌, refl, ◌∙◌, ap, arith}
use Rattle.std.specs.Prelude.{nat_le}
use Rattle.cov_types.specs.Limits.{most}
use Rattle.cov_types.specs.declared.limit.LimitName.TheVariants as limit
use Rattle.cov_types.specs.declared.kind.ProcessKind.{ProcessKind}
use Rattle.design_tree.specs.declared.design.Design.{Design}
use Rattle.design_tree.specs.declared.step.Target.{Target}
use Rattle.design_meaning.specs.Sizes.{target_nodes}
use Rattle.design_meaning.specs.Widths.{width_named}
use Rattle.cvd_text.specs.Targets.{may_write}
use Rattle.cvd_targets.specs.TargetParts.{IsWritten, AreWritten, may_be_target, may_be_targets}
use Rattle.cvd_targets.specs.declared.target.Written.{Written}
use Rattle.cvd_targets.specs.declared.targets.Targets.{Targets}
use Rattle.cvd_targets.proofs.Lists as lists

pub none_yet : (d : Design) (k : ProcessKind) (items : List Target) → items ≡ [] → AreWritten d k [] (record { items = items; width = 0; nodes = 0 })
none_yet d k items e = record { items_are = e; nodes_are = refl; stand = refl; width_is = refl }

module _ (d : Design) (k : ProcessKind) (ts : List Target) (t : Target) where
  pub not_before : may_be_targets d k ts ≡ false → may_be_targets d k (ts ++ t ∷ []) ≡ false
  not_before = lists.not_before (may_write d k) target_nodes (width_named d) (most limit.Nodes) 255 ts t

  pub not_one : may_be_target d k t ≡ false → may_be_targets d k (ts ++ t ∷ []) ≡ false
  not_one e = lists.not_one (may_write d k) target_nodes (width_named d) (most limit.Nodes) 255 ts t
      (lists.both_false (may_be_target d k t) (nat_le (width_named d t) 255) e)

  module _ (x : Targets) (y : Written) (h : AreWritten d k ts x) (o : IsWritten d k t y) where
    pub not_wide : 255 < x.width + y.width → may_be_targets d k (ts ++ t ∷ []) ≡ false
    not_wide e = lists.not_second (may_write d k) target_nodes (width_named d) (most limit.Nodes) 255 ts t
        (let a = h.width_is in let b = o.width_is in omega arith)

    pub not_few : most limit.Nodes < x.nodes + y.nodes → may_be_targets d k (ts ++ t ∷ []) ≡ false
    not_few e = lists.not_first (may_write d k) target_nodes (width_named d) (most limit.Nodes) 255 ts t
        (let a = h.nodes_are in let b = o.nodes_are in omega arith)

    pub one_more : (items : List Target) (width nodes : ℕ) → items ≡ x.items ++ y.target ∷ [] → width ≡ x.width + y.width → width ≤ 255
        → nodes ≡ x.nodes + y.nodes → nodes ≤ most limit.Nodes
        → AreWritten d k (ts ++ t ∷ []) (record { items = items; width = width; nodes = nodes })
    one_more items width nodes e w narrow n few =
        let a = h.width_is in
        let b = o.width_is in
        let p = h.nodes_are in
        let q = o.nodes_are in
        let wide = lists.total_more (may_write d k) target_nodes (width_named d) (most limit.Nodes) 255 (width_named d) ts t in
        let sum = lists.total_more (may_write d k) target_nodes (width_named d) (most limit.Nodes) 255 target_nodes ts t in
        record {
          items_are = e ∙ ap (λ l. l ++ y.target ∷ []) h.items_are ∙ ap (λ z. ts ++ z ∷ []) o.target_is;
          nodes_are = omega arith;
          stand = lists.more_fits (may_write d k) target_nodes (width_named d) (most limit.Nodes) 255 ts t h.stand
              (lists.left_of (may_write d k t) (nat_le (target_nodes t) (most limit.Nodes)) o.stands) (omega arith) (omega arith);
          width_is = omega arith;
        }
