use Rattle.std.proofs.Common.{◌≡◌, ◌++◌, List, ℕ, Bool, subst}
use Rattle.std.specs.Prelude.{IfOk, OnOk}
use Rattle.elab_overrides.specs.Overrides.{AreAmong}
use Rattle.elab_blocks.specs.Duplicates.{is_duplicate}
use Rattle.elab_blocks.proofs.Twice.{item-names}
use Rattle.elab_blocks.proofs.duplicate.declares_twice.Goals as goal

pub returns : goal.returns
returns c =
    let e = item-names c.args.item.now c.in_ok-names.names c.as_slice.result.now c.as_slice.ensures c.in_ok-names.ensures in
    record {
      value = λ before h. subst (λ (ns : List (List ℕ)). IfOk c.some_twice.result (λ (bad : Bool). bad
          ≡ is_duplicate before ns)) e (c.some_twice.ensures.value before h);
      earlier = λ before h. subst (λ (ns : List (List ℕ)). OnOk c.some_twice.result (AreAmong (before
          ++ ns) c.some_twice.new.earlier)) e (c.some_twice.ensures.earlier before h);
    }
