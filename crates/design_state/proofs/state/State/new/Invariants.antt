use Rattle.std.proofs.Common.{◌≡◌, ◌++◌, map, drop}
use Rattle.design_state.specs.Layout.{split, AreLaid, start_of}
use Rattle.design_state.proofs.state.State.new.Given as goal

abbrev pub invariant-loop-var : goal.invariant-loop-var
invariant-loop-var l = record {
  laid : AreLaid 0 l.slots.items l.words.items;
  states : split l.slots.items l.words.items ++ map start_of (drop l.var-index l.design.vars) ≡ map start_of l.design.vars;
}
