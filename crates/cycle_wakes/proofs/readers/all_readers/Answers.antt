use Rattle.std.proofs.Common.{◌≡◌, ◌∙◌, ap, subst, ◌<◌, length, slice_index_or, arith}
use Rattle.std.proofs.lemmas.List.{get_or_default}
use Rattle.flow_uses.specs.Uses.{no_uses}
use Rattle.cycle_wakes.specs.Readers.{AreReaders, reads_at}
use Rattle.cycle_wakes.proofs.Reading.{none_read, one_read}
use Rattle.cycle_wakes.proofs.readers.all_readers.Goals as goal

pub loop-at-preserved : goal.loop-at-preserved
loop-at-preserved c =
    let vars = length c.args.vars.now in
    let uses = c.args.uses.now in
    let order = c.args.order.now in
    let n = c.loop-at.at in
    let p = slice_index_or order n 0 in
    let here : p < length uses = c.requires.order n 0 c.loop-at-test.true in
    let is : c.as_slice.result.now ≡ reads_at uses order n =
    c.as_slice.ensures ∙ ap (λ u. u.reads) (get_or_default uses p c.index-uses-p.result no_uses here) in
    one_read vars uses order n c.as_slice.result.now c.loop-at.readers.items c.put_place.new.readers.items is c.loop-at.invariant c.in_ok-put_place.ensures

pub returns : goal.returns
returns c =
    let end : c.loop-at.at ≡ length c.args.order.now = omega (arith, c.loop-at-test.false, c.loop-at.auto.at-end) in
    subst (λ n. AreReaders (length c.args.vars.now) c.args.uses.now c.args.order.now n c.loop-at.readers.items) end c.loop-at.invariant
