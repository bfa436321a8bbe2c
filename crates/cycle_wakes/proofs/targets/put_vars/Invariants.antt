use Rattle.std.proofs.Common.{◌≡◌, ◌++◌, map, take}
use Rattle.flow_marks.specs.declared.span.Span.{Span}
use Rattle.cycle_wakes.proofs.targets.put_vars.Given as goal

abbrev pub invariant-loop-span : goal.invariant-loop-span
invariant-loop-span l = l.vars ≡ l.fn.vars ++ map (λ (s : Span). s.var) (take l.span-index l.spans)
