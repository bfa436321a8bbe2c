use Rattle.std.proofs.Common.{append_assoc}
use Rattle.test_rank.proofs.table.push_row.Goals as goal

pub returns : goal.returns
returns c =
    rw (
      c.in_ok-extend_from_slice-2.ensures.items,
      c.in_ok-extend_from_slice.ensures.items,
      c.name_of.ensures,
      c.in_ok-push_number-3.ensures,
      c.in_ok-push_number-2.ensures,
      c.in_ok-push_number.ensures,
      c.from.ensures,
    ) (simp append_assoc)
