use Rattle.std.proofs.Common.{◌≡◌, sym, subst, ap, ◌<◌, arith, ℕ, List, length}
use Rattle.flow_marks.specs.declared.slot.Slot.{Slot}
use Rattle.flow_marks.specs.Slots.{before, wide}
use Rattle.flow_edges.specs.Owning.{slots_of}
use Rattle.flow_edges.proofs.Columns.{columns_lead, next_below, readers_below}
use Rattle.flow_edges.proofs.joined.graph_of.Goals as goal

pub join_columns-requires-clause-as_many : goal.join_columns-requires-clause-as_many
join_columns-requires-clause-as_many c =
    let wide_is : before wide c.args.owners.now.slots.items (length c.args.owners.now.slots.items)
    ≡ before wide (slots_of c.args.design.now) (length (slots_of c.args.design.now)) =
    ap (λ (slots : List Slot). before wide slots (length slots)) c.requires.owners.slots in
    omega (
      arith,
      c.requires.links.sized.readers,
      c.requires.owners.table.columns,
      wide_is,
    )

pub join_columns-requires-clause-columns : goal.join_columns-requires-clause-columns
join_columns-requires-clause-columns c =
    omega (arith, c.requires.owners.table.columns, c.requires.owners.table.numbered.columns)

pub join_columns-requires-clause-drivers : goal.join_columns-requires-clause-drivers
join_columns-requires-clause-drivers c =
    (λ i x h. (let lt : x < length c.args.design.now.processes = c.requires.owners.columns_below i x h in omega (arith, lt, c.requires.links.sized.next)))

pub join_columns-requires-clause-readers : goal.join_columns-requires-clause-readers
join_columns-requires-clause-readers c =
    (λ i x h. (let lt : x < length c.args.design.now.processes = readers_below c.args.design.now c.args.uses.now c.args.owners.now c.args.links
    c.in_ok-selfish.selfish.items c.requires.owners c.requires.links c.in_ok-selfish.ensures c.requires.uses i x h in
    omega (arith, lt, c.requires.links.sized.next)))

pub join_columns-requires-clause-ends : goal.join_columns-requires-clause-ends
join_columns-requires-clause-ends c = next_below c.args.design.now c.args.uses.now c.args.owners.now c.args.links c.in_ok-selfish.selfish.items
    c.requires.owners c.requires.links c.in_ok-selfish.ensures c.requires.uses

pub returns-clause-stands : goal.returns-clause-stands
returns-clause-stands c =
    columns_lead c.args.design.now c.args.uses.now c.args.owners.now c.args.links c.in_ok-selfish.selfish.items c.requires.owners c.requires.links
    c.in_ok-selfish.ensures c.requires.uses c.join_columns.new.next.items
    (rw (c.as_slice.ensures.value, c.requires.links.sized.next) at c.in_ok-join_columns.ensures.stands)
