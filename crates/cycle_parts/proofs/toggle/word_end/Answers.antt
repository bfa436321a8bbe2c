use Rattle.std.proofs.Common.{ap, subst, refl, ◌+◌, ◌-◌, length, arith}
use Rattle.cycle_parts.specs.Toggles.{AreOfOneWord, entry_at}
use Rattle.cycle_parts.proofs.EntryOrder.{all_between}
use Rattle.cycle_parts.proofs.toggle.word_end.Goals as goal

pub returns-then-are_of_one_word-clause-same : goal.returns-then-are_of_one_word-clause-same
returns-then-are_of_one_word-clause-same c k from upto =
    let es = c.args.x.now.toggles in
    let at = c.args.at in
    let last = c.args.at + c.from.result - 1 in
    all_between es c.requires.toggles.ascend at last (omega (arith, c.requires.here, c.if-end-entries.true, ap length c.as_slice-entries.ensures))
    (subst (λ es. AreOfOneWord (entry_at es at) (entry_at es last)) c.as_slice-entries.ensures (c.if-are_of_one_word.ensures refl)) k from (omega (arith, upto))
