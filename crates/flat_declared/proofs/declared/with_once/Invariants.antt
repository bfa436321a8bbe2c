use Rattle.std.proofs.Common.{◌≡◌, ◌++◌, map, take}
use Rattle.scope_meaning.specs.Declared.{once}
use Rattle.elab_overrides.specs.Overrides.{AreAmong}
use Rattle.flat_declared.specs.Kinds.{block_seen}
use Rattle.flat_declared.proofs.declared.with_once.Given as goal

abbrev pub invariant-loop-name : goal.invariant-loop-name
invariant-loop-name l = record {
  seen : AreAmong (take l.name-index l.names) l.seen;
  all : l.all ≡ l.fn.before ++ map block_seen (once (take l.name-index l.names));
}
