-- The layout of the variables of a valid design.
use Rattle.std.proofs.Common.{◌≡◌, ◌∙◌, sym, arith, List, length, replicate, false}
use Rattle.std.proofs.lemmas.List.{length-replicate}
use Rattle.cov_types.specs.declared.var.Var.{Var}
use Rattle.flow_marks.specs.Slots.{before, size, wide, slots_from, all_bits, all_columns, AreFew}
use Rattle.flow_marks.specs.Sets.{IsKept}
use Rattle.flow_marks.proofs.Started.{none_kept}
use Rattle.flow_edges.specs.Stretches.{AreNumbered}

pub bits_before : (vars : List Var) → AreFew vars → before size (slots_from 0 0 vars) (length (slots_from 0 0 vars)) ≡ all_bits vars
bits_before vars few =
    let k : IsKept (slots_from 0 0 vars) (replicate (all_bits vars) false) (replicate (all_columns vars) 0) = none_kept vars few in
    sym k.as_many ∙ length-replicate (all_bits vars) false

pub columns_before : (vars : List Var) → AreFew vars → before wide (slots_from 0 0 vars) (length (slots_from 0 0 vars)) ≡ all_columns vars
columns_before vars few =
    let k : IsKept (slots_from 0 0 vars) (replicate (all_bits vars) false) (replicate (all_columns vars) 0) = none_kept vars few in
    sym k.columns ∙ length-replicate (all_columns vars) 0

pub are_numbered : (vars : List Var) → AreFew vars → AreNumbered (slots_from 0 0 vars)
are_numbered vars few =
    let k : IsKept (slots_from 0 0 vars) (replicate (all_bits vars) false) (replicate (all_columns vars) 0) = none_kept vars few in
    record {
      laid = k.laid;
      bits = omega (arith, bits_before vars few, few.bits);
      columns = omega (arith, columns_before vars few, few.columns);
    }
