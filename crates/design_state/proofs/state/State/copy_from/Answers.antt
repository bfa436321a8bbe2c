use Rattle.std.proofs.Common.{◌≡◌, ◌∙◌, sym, ap, subst, length}
use Rattle.std.specs.Vec.{with_items}
use Rattle.std.proofs.lemmas.List.{with_items_is}
use Rattle.design_state.specs.Layout.{split, AreLaid}
use Rattle.design_state.proofs.SameSlots.{same_places}
use Rattle.design_state.proofs.state.State.copy_from.Goals as goal

pub copy_from_slice-requires : goal.copy_from_slice-requires
copy_from_slice-requires c =
    let a = c.self.inside in
    let b = c.from.inside in
    let same = same_places a.slots.items b.slots.items a.words.items b.words.items c.args.self.now c.args.from.now c.self.invariant c.from.invariant
    c.self.view_is c.from.view_is c.requires in
    ap length c.as_mut_slice.ensures.value ∙ same.1 ∙ sym (ap length c.as_slice.ensures.value)

same_slots_here : (c : goal.After-self-1)
    → (c.self.inside.slots.items ≡ c.from.inside.slots.items) × (length c.self.inside.words.items ≡ length c.from.inside.words.items)
same_slots_here c =
    let a = c.self.inside in
    let b = c.from.inside in
    same_places a.slots.items b.slots.items a.words.items b.words.items c.args.self.now c.args.from.now c.self.invariant c.from.invariant c.self.view_is
    c.from.view_is c.requires

words : (c : goal.After-self-1) → (with_items c.self.inside.words c.copy_from_slice.new.self).items ≡ c.from.inside.words.items
words c =
    let copied : c.copy_from_slice.new.self ≡ c.from.inside.words.items = c.copy_from_slice.ensures.after ∙ c.as_slice.ensures.value in
    with_items_is c.self.inside.words c.copy_from_slice.new.self (ap length copied ∙ sym (same_slots_here c).1 ∙ sym c.self.inside.words.ok.0) ∙ copied

pub invariant_of-self : goal.invariant_of-self
invariant_of-self c =
    subst (AreLaid 0 c.self.inside.slots.items) (sym (words c))
    (subst (λ slots. AreLaid 0 slots c.from.inside.words.items) (sym (same_slots_here c).0) c.from.invariant)

pub returns : goal.returns
returns c =
    ap (split c.self.inside.slots.items) (words c) ∙ ap (λ slots. split slots c.from.inside.words.items) (same_slots_here c).0 ∙ c.from.view_is
