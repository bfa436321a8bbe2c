use Rattle.std.proofs.Common.{◌≡◌, ℕ, List, [], ◌∷◌, ◌++◌, length, ◌∙◌, ap, arith}
use Rattle.std.proofs.lemmas.List.{length-append}
use Rattle.row_lists.specs.Lists.{list_at}
use Rattle.point_lists.proofs.ArmLists.{none_pushed}
use Rattle.point_lists.proofs.arms.empty_lists.Goals as goal

pub loop-number-preserved : goal.loop-number-preserved
loop-number-preserved c =
    let is : c.push.new.self ≡ c.loop-number.lists ++ [] ∷ [] =
    c.in_ok-push.ensures ∙ ap (λ (xs : List ℕ). c.loop-number.lists ++ xs ∷ []) c.new.ensures in
    record {
      many =
          let e : length c.push.new.self ≡ length (c.loop-number.lists ++ [] ∷ []) = ap length is in
          let h = c.loop-number.invariant.many in
          omega (arith, length-append c.loop-number.lists ([] ∷ []));
      empty = λ k. ap (λ (xs : List (List ℕ)). list_at xs k) is ∙ (none_pushed c.loop-number.lists k ∙ c.loop-number.invariant.empty k);
    }
