use Rattle.std.proofs.Common.{◌≡◌, drop}
use Rattle.std.specs.List.{list_any}
use Rattle.design_meaning.specs.Steps.{is_match}
use Rattle.flat_design.specs.InDesign.{AreItemsIn}
use Rattle.flat_design.proofs.run.matches_any.Given as goal

abbrev pub invariant-loop-item : goal.invariant-loop-item
invariant-loop-item l =
    let rest = drop l.item-index l.items in
    record {
      same : list_any (is_match l.state l.number) l.items ≡ list_any (is_match l.state l.number) rest;
      items : AreItemsIn l.state rest;
    }
