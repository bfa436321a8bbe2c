use Rattle.std.proofs.Common.{◌≡◌, ◌++◌, map, take}
use Rattle.scope_meaning.specs.Declared as spec
use Rattle.flat_declared.specs.Kinds.{seen}
use Rattle.flat_declared.proofs.declared.with_ports.Given as goal

abbrev pub invariant-loop-port : goal.invariant-loop-port
invariant-loop-port l = l.all ≡ l.fn.before ++ map (λ p. seen (spec.declare (spec.port_kind p.kind) p.name)) (take l.port-index l.ports)
