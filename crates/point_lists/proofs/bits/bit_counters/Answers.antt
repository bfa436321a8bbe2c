use Rattle.std.proofs.Common.{◌≡◌, ◌==◌, ℕ, Bool, List, sym, subst}
use Rattle.std.specs.List.{list_any}
use Rattle.std.proofs.lemmas.Result.{IfOk-weaker}
use Rattle.mark_numbers.specs.Numbers.{is_set, HaveNumbers}
use Rattle.point_lists.specs.Bits.{AreBitCounters}
use Rattle.point_lists.proofs.BitMarks as bits
use Rattle.point_lists.proofs.bits.bit_counters.Goals as goal

pub returns : goal.returns
returns c =
    let toggles = c.args.toggles.now in
    let flags = c.as_slice.result.now in
    let marked = subst (λ (fs : List Bool). (k : ℕ) → is_set fs k ≡ list_any (λ t. t.point == k) toggles) (sym c.as_slice.ensures.value)
    c.in_ok-flags.ensures.flags in
    IfOk-weaker c.number_marks.result (λ r. HaveNumbers flags c.args.first r.next r.numbers) (λ r. AreBitCounters toggles c.args.first r.next r.numbers)
    (λ r h. bits.bit_counters toggles c.args.first r.next flags r.numbers marked h) c.number_marks.ensures
