use Rattle.std.proofs.Common.{◌≡◌, ℕ, List, ◌++◌, take}
use Rattle.elab_overrides.specs.Overrides.{AreAmong}
use Rattle.elab_blocks.specs.Duplicates.{is_duplicate, names_in}
use Rattle.elab_blocks.proofs.duplicate.some_twice.Given as goal

abbrev pub invariant-loop-name : goal.invariant-loop-name
invariant-loop-name l = record {
  names : (before : List (List ℕ)) → AreAmong before l.fn.earlier → AreAmong (before ++ names_in (take l.name-index l.names)) l.earlier;
  bad : (before : List (List ℕ)) → AreAmong before l.fn.earlier → l.bad ≡ is_duplicate before (names_in (take l.name-index l.names));
}
