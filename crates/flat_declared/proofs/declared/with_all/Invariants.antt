use Rattle.std.proofs.Common.{◌≡◌, ◌++◌, map, take}
use Rattle.flat_declared.proofs.declared.with_all.Given as goal

abbrev pub invariant-loop-one : goal.invariant-loop-one
invariant-loop-one g l = l.all ≡ l.fn.before ++ map (λ n. record { name = g.T.HasName.named n; kind = l.kind }) (take l.one-index l.of)
