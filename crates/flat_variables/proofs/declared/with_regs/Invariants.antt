use Rattle.std.proofs.Common.{◌≡◌, map, take}
use Rattle.scope_meaning.specs.Constants.{Names, constants}
use Rattle.flat_source_meaning.specs.Variables.{reg_variable}
use Rattle.flat_variables.specs.Sizes.{span_of}
use Rattle.flat_variables.proofs.declared.with_regs.Given as goal

abbrev pub invariant-loop-reg : goal.invariant-loop-reg
invariant-loop-reg g l = (known : Names) → g.N.Names.environment l.names ≡ constants known
    → l.all ≡ map (reg_variable known l.scope l.signed (span_of l.size)) (take l.reg-index l.regs)
