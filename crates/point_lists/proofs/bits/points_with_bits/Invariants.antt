use Rattle.std.proofs.Common.{◌≡◌, ◌==◌, ℕ, false, length, get_or, take}
use Rattle.std.specs.List.{list_any}
use Rattle.point_lists.proofs.bits.points_with_bits.Given as goal

abbrev pub invariant-loop-toggle : goal.invariant-loop-toggle
invariant-loop-toggle l = record {
  many : length l.flags.items ≡ l.count;
  flags : (k : ℕ) → get_or l.flags.items k false ≡ list_any (λ t. t.point == k) (take l.toggle-index l.toggles);
}
