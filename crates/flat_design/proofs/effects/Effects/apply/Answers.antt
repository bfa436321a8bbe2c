use Rattle.std.proofs.Common.{◌≡◌, sym, subst, ℕ, zero, suc, ◌<◌, refl, List, [], ◌∷◌, length, map, slice_index_or}
use Rattle.std.specs.Prelude.{All}
use Rattle.std.proofs.lemmas.List.{length-map}
use Rattle.design_state.specs.declared.update.Update.{Update}
use Rattle.design_state.specs.Positions.{part_of}
use Rattle.flat_design.proofs.effects.Effects.apply.Goals as goal

part_at : (us : List Update) (k : ℕ) (u : Update) → slice_index_or (map part_of us) k (part_of u) ≡ part_of (slice_index_or us k u)
part_at [] k u = refl
part_at (x ∷ xs) zero u = refl
part_at (x ∷ xs) (suc k) u = part_at xs k u

pub write_updates-requires : goal.write_updates-requires
write_updates-requires c k u lt =
    let us = c.self.inside.updates.items in
    let n = length c.args.state.now in
    let all : All (λ part. part.var < n) (map part_of us) = subst (λ e. All (λ part. part.var < n) e.updates) (sym c.self.view_is) c.requires in
    let here : k < length us = subst (λ xs. k < length xs) c.as_slice.ensures.value lt in
    subst (λ xs. (slice_index_or xs k u).var < n) (sym c.as_slice.ensures.value)
    (subst (λ part. part.var < n) (part_at us k u) (all k (part_of u) (subst (λ m. k < m) (sym (length-map us part_of)) here)))
