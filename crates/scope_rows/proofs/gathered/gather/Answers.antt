use Rattle.std.proofs.Common.{◌∙◌, ap, sym, refl, subst, List, [], ◌∷◌, ◌++◌, append-nil}
use Rattle.std.specs.List.{flat_map}
use Rattle.std.proofs.lemmas.List.Concat.{flat_map-append}
use Rattle.scope_meaning.specs.Visits.{Visits}
use Rattle.walk_state.specs.Records.{visits_of}
use Rattle.scope_rows.specs.Gathered.{IsGathered}
use Rattle.scope_rows.proofs.Gathering.{nothing}
use Rattle.scope_rows.proofs.gathered.gather.Goals as goal

pub loop-recorded-init : goal.loop-recorded-init
loop-recorded-init c = nothing _ c.new.ensures c.new-2.ensures c.new-3.ensures

pub loop-recorded-preserved : goal.loop-recorded-preserved
loop-recorded-preserved c =
    let done = c.loop-recorded.yielded in
    let one = c.in-Some.recorded in
    subst (λ (vs : Visits). IsGathered vs c.with_record.new.to)
    (sym (flat_map-append visits_of done (one ∷ []) ∙ ap (λ (vs : Visits). flat_map visits_of done ++ vs) (append-nil (visits_of one))))
    (c.in_ok-with_record.ensures (flat_map visits_of done) c.loop-recorded.invariant)
