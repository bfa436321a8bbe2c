use Rattle.std.proofs.Common.{arith, sym, subst, ap, ◌∙◌, ◌≡◌, ◌<◌, Bool, ℕ, IsTrue}
use Rattle.std.specs.Prelude.{nat_eq}
use Rattle.std.proofs.lemmas.Bool.Decides.{nat_tests}
use Rattle.flow_marks.specs.declared.slot.Slot.{Slot}
use Rattle.flow_marks.specs.Slots.{slot_of}
use Rattle.flow_marks.specs.Sets.{MarkSet, IsColumn, HasColumn, marked, column_of}
use Rattle.flow_marks.proofs.Counts.{marked_all, all_marked}
use Rattle.flow_marks.proofs.Kept.{column_inside, count_read, slot_read}
use Rattle.flow_marks.proofs.marks.Marks.is_full.Goals as goal

pub overflow_add-slot : goal.overflow_add-slot
overflow_add-slot c =
    let h : IsColumn c.self.inside.slots.items c.args.var c.args.place = subst (λ (m : MarkSet). IsColumn m.slots c.args.var c.args.place) (sym
    c.self.view_is) c.requires in
    omega (
      arith,
      column_inside c.self.inside.slots.items c.self.inside.bits.items c.self.inside.counts.items c.self.invariant c.args.var c.args.place
          c.index-slot.result.now h c.index-slot.ensures,
      c.self.inside.counts.ok.0,
      c.self.inside.counts.ok.1,
      c.self.inside.counts.small,
    )

pub index-requires : goal.index-requires
index-requires c =
    let h : IsColumn c.self.inside.slots.items c.args.var c.args.place = subst (λ (m : MarkSet). IsColumn m.slots c.args.var c.args.place) (sym
    c.self.view_is) c.requires in
    omega (
      arith,
      column_inside c.self.inside.slots.items c.self.inside.bits.items c.self.inside.counts.items c.self.invariant c.args.var c.args.place
          c.index-slot.result.now h c.index-slot.ensures,
      c.self.inside.counts.ok.0,
    )

equal : (m n : ℕ) → IsTrue (nat_eq m n) → m ≡ n
equal m n t = grind (arith, nat_tests)

tested : (m n : ℕ) → m ≡ n → IsTrue (nat_eq m n)
tested m n e = grind (arith, nat_tests)

pub returns : goal.returns
returns c =
    let h : IsColumn c.self.inside.slots.items c.args.var c.args.place = subst (λ (m : MarkSet). IsColumn m.slots c.args.var c.args.place) (sym
    c.self.view_is) c.requires in
    let words : ℕ = (slot_of c.self.inside.slots.items c.args.var).words in
    let f : ℕ → Bool = column_of c.self.inside.slots.items c.self.inside.bits.items c.args.var c.args.place in
    let n : c.index.result.now ≡ marked f words =
    count_read c.self.inside.slots.items c.self.inside.bits.items c.self.inside.counts.items c.self.invariant c.args.var c.args.place c.index.result.now
    c.index-slot.result.now h c.index-slot.ensures c.index.ensures in
    let s : c.index-slot.result.now.words ≡ words = ap (λ (x : Slot). x.words)
    (slot_read c.self.inside.slots.items c.self.inside.bits.items c.self.inside.counts.items c.self.invariant c.args.var c.index-slot.result.now
    h.of_variable c.index-slot.ensures) in (
      λ t. subst (λ (m : MarkSet). HasColumn m c.args.var c.args.place) c.self.view_is
          (λ w l. all_marked f words w (sym n ∙ equal c.index.result.now c.index-slot.result.now.words t ∙ s) l),
      λ t. let x : HasColumn (record { slots = c.self.inside.slots.items; bits = c.self.inside.bits.items }) c.args.var c.args.place =
          subst (λ (m : MarkSet). HasColumn m c.args.var c.args.place) (sym c.self.view_is) t in
          tested c.index.result.now c.index-slot.result.now.words (n ∙ marked_all f words x ∙ sym s),
    )
