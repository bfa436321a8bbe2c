use Rattle.std.proofs.Common.{◌≡◌, ℕ, ◌<◌, List, ◌++◌, length, get_or, filter, Option, None, Some, sym, ap, ◌∙◌, subst, arith}
use Rattle.report_table.specs.declared.data_point.DataPoint.{DataPoint}
use Rattle.report_table.proofs.ChainLemmas.{from_place, IsPlace, rest_of_first, place_of_first, follow_step}
use Rattle.report_table.proofs.follow.follow.Goals as goal

pub chain-init : goal.chain-init
chain-init c =
    let up = c.args.points.now in
    record {
      within = λ k e. let same : c.args.first ≡ k = cc in subst (λ (n : ℕ). n < length up) same c.requires.within;
      so_far = λ p linked at. (
        ap (λ (xs : List DataPoint). xs ++ from_place p up (Some c.args.first)) c.new-group.ensures.items ∙ ap (from_place p up) (sym at)
            ∙ sym (rest_of_first p up 0),
        subst (IsPlace p up) at (place_of_first p up 0),
      );
    }

pub chain-preserved : goal.chain-preserved
chain-preserved c =
    let k = c.in-Some.place in
    let up = c.args.points.now in
    record {
      within = λ j e. (c.requires.rises k j e).1;
      so_far = λ p linked at.
          let so_far = c.chain.invariant.so_far p linked at in
          let place : IsPlace p up (Some k) = subst (IsPlace p up) c.in-Some.is so_far.1 in
          follow_step p up c.chain.group.items c.push.new.self.items k (get_or c.args.next.now k None) _ c.in_ok-push.ensures.items
          (subst (λ (o : Option ℕ). c.chain.group.items ++ from_place p up o ≡ filter p up) c.in-Some.is so_far.0) place
          (linked.next_is k (omega arith) place.0 place.1);
    }
