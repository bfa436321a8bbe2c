use Rattle.std.proofs.Common.{◌≡◌, ◌++◌, ◌∷◌, drop}
use Rattle.std.specs.List.{flat_map}
use Rattle.cvd_text.specs.Tokens.{decimal_text}
use Rattle.cvd_write.proofs.section.more_counters.Given as goal

abbrev pub invariant-loop-one : goal.invariant-loop-one
invariant-loop-one l = l.out ++ flat_map (λ n. 44 ∷ decimal_text n) (drop l.one-index l.list) ≡ l.initial.out ++ flat_map (λ n. 44 ∷ decimal_text n) l.list
