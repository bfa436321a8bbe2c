use Rattle.std.proofs.Common.{arith, sym, subst, ◌≡◌, ◌<◌, Bool, ℕ}
use Rattle.std.proofs.lemmas.Bool.{ltb-true, lt-ltb}
use Rattle.flow_marks.specs.Slots.{slot_of}
use Rattle.flow_marks.specs.Sets.{MarkSet, IsColumn, marked, column_of, HasInColumn}
use Rattle.flow_marks.proofs.Counts.{marked_some, marked_word}
use Rattle.flow_marks.proofs.Kept.{column_inside, count_read}
use Rattle.flow_marks.proofs.marks.Marks.has_in_column.Goals as goal

pub overflow_add-slot : goal.overflow_add-slot
overflow_add-slot c =
    let h : IsColumn c.self.inside.slots.items c.args.var c.args.place = subst (λ (m : MarkSet). IsColumn m.slots c.args.var c.args.place) (sym
    c.self.view_is) c.requires in
    omega (
      arith,
      column_inside c.self.inside.slots.items c.self.inside.bits.items c.self.inside.counts.items c.self.invariant c.args.var c.args.place
          c.index-slot.result.now h c.index-slot.ensures,
      c.self.inside.counts.ok.0,
      c.self.inside.counts.ok.1,
      c.self.inside.counts.small,
    )

pub index-requires : goal.index-requires
index-requires c =
    let h : IsColumn c.self.inside.slots.items c.args.var c.args.place = subst (λ (m : MarkSet). IsColumn m.slots c.args.var c.args.place) (sym
    c.self.view_is) c.requires in
    omega (
      arith,
      column_inside c.self.inside.slots.items c.self.inside.bits.items c.self.inside.counts.items c.self.invariant c.args.var c.args.place
          c.index-slot.result.now h c.index-slot.ensures,
      c.self.inside.counts.ok.0,
    )

pub returns : goal.returns
returns c =
    let h : IsColumn c.self.inside.slots.items c.args.var c.args.place = subst (λ (m : MarkSet). IsColumn m.slots c.args.var c.args.place) (sym
    c.self.view_is) c.requires in
    let n : c.index.result.now ≡ marked (column_of c.self.inside.slots.items c.self.inside.bits.items c.args.var c.args.place) (slot_of
    c.self.inside.slots.items c.args.var).words =
    count_read c.self.inside.slots.items c.self.inside.bits.items c.self.inside.counts.items c.self.invariant c.args.var c.args.place c.index.result.now
    c.index-slot.result.now h c.index-slot.ensures c.index.ensures in
    let f : ℕ → Bool = column_of c.self.inside.slots.items c.self.inside.bits.items c.args.var c.args.place in (
      λ t. let z : 0 < marked f (slot_of c.self.inside.slots.items c.args.var).words = omega (arith, n, ltb-true 0 c.index.result.now t) in
          subst (λ (m : MarkSet). HasInColumn m c.args.var c.args.place) c.self.view_is (marked_word f (slot_of c.self.inside.slots.items c.args.var).words z),
      λ t. let x : HasInColumn (record { slots = c.self.inside.slots.items; bits = c.self.inside.bits.items }) c.args.var c.args.place =
          subst (λ (m : MarkSet). HasInColumn m c.args.var c.args.place) (sym c.self.view_is) t in
          let z : 0 < marked f (slot_of c.self.inside.slots.items c.args.var).words = marked_some f (slot_of c.self.inside.slots.items c.args.var).words x.0
          x.1 x.2 in
          lt-ltb 0 c.index.result.now (omega (arith, n, z)),
    )
