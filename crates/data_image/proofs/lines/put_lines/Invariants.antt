use Rattle.std.proofs.Common.{◌≡◌, ◌≤◌, ◌+◌, ◌++◌, take, vec_len, vec_capacity}
use Rattle.std.specs.Prelude.{flat_map, sum_by}
use Rattle.data_image.specs.Lines.{line_of, most_bytes}
use Rattle.data_image.proofs.lines.put_lines.Given as goal

abbrev pub invariant-loop-point : goal.invariant-loop-point
invariant-loop-point l =
    let before = take l.point-index l.points in
    record {
      items : l.out.items ≡ l.fn.out.items ++ flat_map (line_of l.bits l.counts) before;
      len : vec_len l.out ≤ vec_len l.fn.out + sum_by most_bytes before;
      capacity : vec_capacity l.fn.out ≤ vec_capacity l.out;
    }
