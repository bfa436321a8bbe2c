use Rattle.std.proofs.Common.{◌≡◌, ◌∙◌, sym, ap, subst, refl, ◌+◌, ◌<◌, length, take, arith}
use Rattle.std.specs.Prelude.{slice_index_or}
use Rattle.std.proofs.lemmas.List.{get_or_default, take_all}
use Rattle.design_meaning.specs.Counters.{HasCounted}
use Rattle.cycle_parts.specs.Toggles.{differing, entry_at, no_entry}
use Rattle.cycle_parts.proofs.CountLaws.{nothing_counted}
use Rattle.cycle_parts.proofs.ToggleLaws.{apart, differing_here, none_here, same_bits, same_here, room_for_entry}
use Rattle.cycle_parts.proofs.toggle.raise_word.Goals as goal
use Rattle.cycle_parts.proofs.toggle.raise_word.Goals.{then-bit_of-eq1, else-bit_of-eq1}

pub ones-init : goal.ones-init
ones-init c = record { counted = nothing_counted c.args.counts.now; within = omega arith }

pub returns-then-next-entries : goal.returns-then-next-entries
returns-then-next-entries c =
    let es = c.args.entries.now in
    let next = c.next_one-next.result in
    subst (λ es. HasCounted c.args.counts.now (differing c.args.was c.args.is es) c.ones.counts) (take_all next es (omega (arith, c.if-next-entries.true)))
    (none_here c.args.was c.args.is es c.ones.at next c.args.counts.now c.ones.counts c.next_one-next.ensures.from c.next_one-next.ensures.within
    c.next_one-next.ensures.none c.ones.invariant.counted)

pub raise_one-requires : goal.raise_one-requires
raise_one-requires c =
    let es = c.args.entries.now in
    let i = c.next_one-next.result in
    let here : i < length es = omega (arith, c.next_one-next.ensures.within, c.if-next-entries.false) in
    room_for_entry c.args.was c.args.is c.args.counts.now c.ones.counts es i (entry_at es i).counter c.requires.fit here
    (none_here c.args.was c.args.is es c.ones.at i c.args.counts.now c.ones.counts c.next_one-next.ensures.from c.next_one-next.ensures.within
    c.next_one-next.ensures.none c.ones.invariant.counted)

pub ones-preserved : goal.ones-preserved
ones-preserved c =
    let was = c.args.was in
    let is = c.args.is in
    let es = c.args.entries.now in
    let i = c.next_one-next.result in
    let within : i < length es = omega (arith, c.next_one-next.ensures.within, c.if-next-entries.false) in
    let x = entry_at es i in
    let here : x ≡ slice_index_or es i x = get_or_default es i no_entry x within in
    let a = c.args.counts.now in
    let before = none_here was is es c.ones.at i a c.ones.counts c.next_one-next.ensures.from c.next_one-next.ensures.within c.next_one-next.ensures.none
    c.ones.invariant.counted in
    elim c.if-bit_of-eq1.branch [
      | then-bit_of-eq1 w ↦ record {
        counted = subst (HasCounted a (differing was is (take (i + 1) es))) (sym w.counts-is)
            (differing_here was is es i x within here a c.ones.counts w.raise_one.new.counts
            (apart was is x.bit (sym c.bit_of.ensures ∙ w.if-bit_of-eq1.true)) before w.raise_one.ensures);
        within = omega (arith, within);
      }
      | else-bit_of-eq1 w ↦ record {
        counted = subst (HasCounted a (differing was is (take (i + 1) es))) (sym w.counts-is)
            (same_here was is es i x within here a c.ones.counts
            (same_bits was is x.bit (λ e. w.if-bit_of-eq1.false (c.bit_of.ensures ∙ e))) before);
        within = omega (arith, within);
      }
    ]
