use Rattle.std.proofs.Common.{◌≡◌, ◌+◌, ◌-◌, [], take, drop, suc, sym, ◌∙◌, ap, subst, false, codes, length}
use Rattle.std.specs.Str.{bytes_eq}
use Rattle.cvd_sections.specs.Keys.{HoldsNumber, parts_of}
use Rattle.cvd_sections.proofs.CounterLists.{ListSoFar, cut_at, cut_none, list_begins, list_ends, list_fails, list_goes_on, last_numeral, next_numeral}
use Rattle.cvd_sections.proofs.counters.list_of.Goals as goal

pub parts-init : goal.parts-init
parts-init c =
    let other : bytes_eq c.args.word.now (codes "-") ≡ false = sym (c.if-eq.ensures ∙ ap (bytes_eq c.args.word.now) c.as_slice.ensures) in
    subst (λ k. ListSoFar c.args.counters c.args.word.now c.args.word.now k) (sym c.new-kept.ensures)
    (list_begins c.args.counters c.args.word.now c.requires other)

pub counter_of-requires : goal.counter_of-requires
counter_of-requires c = next_numeral c.args.counters c.args.word.now c.parts.rest.now c.parts.kept c.parts.invariant c.in-Some.at c.in-Some.ensures

pub returns-in_default-counter_of : goal.returns-in_default-counter_of
returns-in_default-counter_of c =
    let other : bytes_eq c.args.word.now (codes "-") ≡ false = sym (c.if-eq.ensures ∙ ap (bytes_eq c.args.word.now) c.as_slice.ensures) in
    let rest = c.parts.rest.now in
    let none = subst (HoldsNumber c.args.counters (take c.in-Some.at rest)) c.in_default-counter_of.is c.counter_of.ensures in
    list_fails c.args.counters c.args.word.now rest c.parts.kept c.parts.invariant other (take c.in-Some.at rest) (parts_of (drop (suc c.in-Some.at) rest))
    (cut_at rest c.in-Some.at c.in-Some.ensures) none

pub parts-preserved : goal.parts-preserved
parts-preserved c =
    let rest = c.parts.rest.now in
    let some = subst (HoldsNumber c.args.counters (take c.in-Some.at rest)) c.in-Some-counter_of.is c.counter_of.ensures in
    subst (λ k. ListSoFar c.args.counters c.args.word.now (take (length rest - (c.in-Some.at + 1)) (drop (c.in-Some.at + 1) rest)) k)
    (sym c.in_ok-push.ensures.ok)
    (list_goes_on c.args.counters c.args.word.now rest c.parts.kept c.parts.invariant c.in-Some.at c.in-Some-counter_of.counter c.in-Some.ensures some.0 some.1)

pub counter_of-requires-2 : goal.counter_of-requires-2
counter_of-requires-2 c = last_numeral c.args.counters c.args.word.now c.parts.rest.now c.parts.kept c.parts.invariant c.in_default.ensures

pub returns-in_default-counter_of-2 : goal.returns-in_default-counter_of-2
returns-in_default-counter_of-2 c =
    let other : bytes_eq c.args.word.now (codes "-") ≡ false = sym (c.if-eq.ensures ∙ ap (bytes_eq c.args.word.now) c.as_slice.ensures) in
    let rest = c.parts.rest.now in
    let none = subst (HoldsNumber c.args.counters rest) c.in_default-counter_of-2.is c.counter_of-2.ensures in
    list_fails c.args.counters c.args.word.now rest c.parts.kept c.parts.invariant other rest [] (cut_none rest c.in_default.ensures) none

pub returns : goal.returns
returns c =
    let other : bytes_eq c.args.word.now (codes "-") ≡ false = sym (c.if-eq.ensures ∙ ap (bytes_eq c.args.word.now) c.as_slice.ensures) in
    let rest = c.parts.rest.now in
    let some = subst (HoldsNumber c.args.counters rest) c.in-Some-counter_of-2.is c.counter_of-2.ensures in
    let all =
    list_ends c.args.counters c.args.word.now rest c.parts.kept c.parts.invariant other c.in-Some-counter_of-2.counter c.in_default.ensures some.0
    some.1 in
    (c.in_ok-push-2.ensures.ok ∙ all.0, all.1)
