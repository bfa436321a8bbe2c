use Rattle.std.proofs.Common.{◌≡◌, ◌∙◌, sym, ap, subst, ◌+◌, ◌<◌, [], ◌∷◌, ◌++◌, length, arith}
use Rattle.std.specs.Prelude.{slice_set}
use Rattle.std.proofs.lemmas.List.{get_or_default}
use Rattle.cycle_wakes.specs.Readers.{HasPut, places_of, var_at}
use Rattle.cycle_wakes.proofs.Reading.{nothing_put, one_put}
use Rattle.cycle_wakes.proofs.readers.put_place.Goals as goal

pub loop-span-init : goal.loop-span-init
loop-span-init c = nothing_put c.args.readers.now.items c.args.spans.now c.args.place

pub loop-span-preserved : goal.loop-span-preserved
loop-span-preserved c =
    let old = c.args.readers.now.items in
    let spans = c.args.spans.now in
    let n = c.loop-span.span-index in
    let readers = c.loop-span.readers.items in
    let place = c.args.place in
    let here : var_at spans n < length readers = omega (arith, c.requires n c.loop-span-test.true, c.loop-span.invariant.as_many) in
    let row : c.push.new.self ≡ places_of readers (var_at spans n) ++ place ∷ [] =
    c.in_ok-push.ensures.ok ∙ ap (λ row. row ++ place ∷ [])
    (c.index_mut.ensures.value ∙ get_or_default readers (var_at spans n) c.index_mut.result.now [] here) in
    subst (λ row. HasPut spans (n + 1) place old (slice_set readers (var_at spans n) row)) (sym row)
    (one_put old readers spans n place here c.loop-span.invariant)
