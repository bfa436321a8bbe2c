use Rattle.std.proofs.Common.{◌≡◌, sym, ap, subst, ◌+◌, ◌<◌, ◌≤◌, ◌^◌, List, length, arith}
use Rattle.std.specs.Prelude.{All, Some, slice_index, slice_range}
use Rattle.std.proofs.lemmas.List.{take_all}
use Rattle.circuit_run.specs.States.{held}
use Rattle.design_tree.specs.declared.instrumented.ToggleEntry.{ToggleEntry}
use Rattle.design_meaning.specs.Counters.{HasCounted, toggled}
use Rattle.cycle_parts.specs.Toggles.{DoBitsAscend, differing, entry_at}
use Rattle.cycle_parts.proofs.Firsts.{bits_ascend, passed_unmarked, places_fit}
use Rattle.cycle_parts.proofs.ToggleLaws.{room_for_word, word_counted}
use Rattle.cycle_parts.proofs.toggle.raise_toggled.Goals as goal

pub returns-then-from-entries : goal.returns-then-from-entries
returns-then-from-entries c =
    let x = c.args.x.now in
    let from = c.next_changed-from.result in
    let end : length x.toggles ≤ from = omega (arith, c.if-from-entries.true, ap (λ (es : List ToggleEntry). length es) c.words.invariant.same) in
    subst (λ (es : List ToggleEntry). HasCounted c.args.counts.now (toggled (Some c.args.before.now) c.args.now.now es) c.words.counts)
    (take_all from x.toggles end)
    (passed_unmarked x c.requires.variables c.requires.toggles c.args.before.now c.args.now.now c.args.changed.now c.requires.unchanged c.words.at from
    c.args.counts.now c.words.counts c.next_changed-from.ensures.from c.next_changed-from.ensures.within c.next_changed-from.ensures.unchanged
    c.words.invariant.counted)

pub raise_word-requires-clause-ascending : goal.raise_word-requires-clause-ascending
raise_word-requires-clause-ascending c =
    let x = c.args.x.now in
    let i = c.next_changed-from.result in
    let j = c.word_end-end.result in
    subst (λ (es : List ToggleEntry). DoBitsAscend (slice_range es i j)) (sym c.words.invariant.same)
    (bits_ascend x c.requires.toggles i j (omega (arith, c.word_end-end.ensures.more)) c.word_end-end.ensures.within c.word_end-end.ensures.same)

pub raise_word-requires-clause-places : goal.raise_word-requires-clause-places
raise_word-requires-clause-places c =
    let x = c.args.x.now in
    let i = c.next_changed-from.result in
    let j = c.word_end-end.result in
    subst (λ (es : List ToggleEntry). All (λ e. e.bit < 128) (slice_range es i j)) (sym c.words.invariant.same)
    (places_fit x c.requires.variables c.requires.toggles i j (omega (arith, c.word_end-end.ensures.more)) c.word_end-end.ensures.within)

pub raise_word-requires-clause-fit : goal.raise_word-requires-clause-fit
raise_word-requires-clause-fit c k =
    let i = c.next_changed-from.result in
    let j = c.word_end-end.result in
    subst (λ es. slice_index c.words.counts k + length (slice_range es i j) < 2 ^ 64) (sym c.words.invariant.same)
    (room_for_word c.args.before.now c.args.now.now c.args.x.now.toggles i j c.word_end-end.ensures.more c.word_end-end.ensures.within c.args.counts.now
    c.words.counts k c.requires.fit
    (passed_unmarked c.args.x.now c.requires.variables c.requires.toggles c.args.before.now c.args.now.now c.args.changed.now c.requires.unchanged c.words.at i
    c.args.counts.now c.words.counts c.next_changed-from.ensures.from c.next_changed-from.ensures.within c.next_changed-from.ensures.unchanged
    c.words.invariant.counted))

pub words-preserved : goal.words-preserved
words-preserved c =
    let s = c.args.before.now in
    let t = c.args.now.now in
    let i = c.next_changed-from.result in
    let j = c.word_end-end.result in
    let was = c.read-was.result in
    let is = c.read-is.result in
    record {
      counted = word_counted s t c.args.x.now.toggles i j c.word_end-end.ensures.more c.word_end-end.ensures.within was is c.args.counts.now c.words.counts
          c.raise_word.new.counts
          (subst (λ es. was ≡ slice_index (held s (entry_at es i).var).words (entry_at es i).word) c.words.invariant.same c.read-was.ensures.value)
          (subst (λ es. is ≡ slice_index (held t (entry_at es i).var).words (entry_at es i).word) c.words.invariant.same c.read-is.ensures.value)
          c.word_end-end.ensures.same
          (passed_unmarked c.args.x.now c.requires.variables c.requires.toggles c.args.before.now c.args.now.now c.args.changed.now c.requires.unchanged
          c.words.at i
          c.args.counts.now c.words.counts c.next_changed-from.ensures.from c.next_changed-from.ensures.within c.next_changed-from.ensures.unchanged
          c.words.invariant.counted)
          (subst (λ es. HasCounted c.words.counts (differing was is (slice_range es i j)) c.raise_word.new.counts) c.words.invariant.same c.raise_word.ensures);
      same = c.words.invariant.same;
      within = c.word_end-end.ensures.within;
    }
