use Rattle.std.proofs.Common.{◌≡◌, ◌^◌, [], refl, sym, ◌∙◌, ap, arith, subst}
use Rattle.std.specs.Prelude.{nat_lt, ◌&&◌}
use Rattle.std.specs.List.{list_all}
use Rattle.std.specs.Option.{option_map}
use Rattle.cvd_text.specs.Sections.{has_bit, is_below}
use Rattle.design_meaning.specs.Valid.{toggle_place}
use Rattle.design_tree.specs.declared.instrumented.ToggleEntry.{ToggleEntry}
use Rattle.cvd_sections.specs.Alone.{design_of}
use Rattle.cvd_sections.specs.Closing.{Judges}
use Rattle.cvd_sections.specs.Fields.{HoldsPlace}
use Rattle.cvd_sections.specs.Places.{is_behind}
use Rattle.cvd_sections.proofs.Judging.{held_is, fails_first, fails_second, both_hold}
use Rattle.cvd_sections.proofs.Judging as judging
use Rattle.cvd_sections.proofs.Variables.{toggle_same}
use Rattle.cvd_sections.proofs.toggle.toggle_of.Goals as goal

pub returns-in_default : goal.returns-in_default
returns-in_default c = λ before t last h.
    let d = design_of c.args.vars.now [] [] in
    let j = subst (Judges (has_bit d) HoldsPlace t) c.in_default.is (c.bit_of.ensures d t refl h.0 h.1.0) in
    fails_first (has_bit d t && nat_lt t.counter c.args.counters) (list_all (λ u. is_below (toggle_place u) (toggle_place t)) before)
    (fails_first (has_bit d t) (nat_lt t.counter c.args.counters) j)

pub returns-then-not-is_behind : goal.returns-then-not-is_behind
returns-then-not-is_behind c = λ before t last h.
    let d = design_of c.args.vars.now [] [] in
    let j = subst (Judges (has_bit d) HoldsPlace t) c.in-Some.is (c.bit_of.ensures d t refl h.0 h.1.0) in
    let entry : ToggleEntry = record { var = c.in-Some.var; word = c.in-Some.word; bit = c.in-Some.bit; counter = c.in-Some-counter.counter } in
    let counter = held_is (2 ^ 32) t.counter c.in-Some-counter.counter (sym c.in-Some-counter.is ∙ h.1.1) in
    let e1 : c.in-Some.var ≡ t.var = j.1.0 in
    let e2 : c.in-Some.word ≡ t.word = j.1.1 in
    let e3 : c.in-Some.bit ≡ t.bit = j.1.2 in
    let same : entry ≡ t = toggle_same _ _ _ _ t e1 e2 e3 counter in
    fails_second (has_bit d t && nat_lt t.counter c.args.counters) (list_all (λ u. is_below (toggle_place u) (toggle_place t)) before)
    (last (toggle_place t) ∙ ap (λ u. is_behind is_below (option_map toggle_place c.args.last) (toggle_place u)) (sym same) ∙ sym c.is_behind.ensures
    ∙ c.if-not-is_behind.true)

pub returns : goal.returns
returns c = λ before t last h.
    let d = design_of c.args.vars.now [] [] in
    let j = subst (Judges (has_bit d) HoldsPlace t) c.in-Some.is (c.bit_of.ensures d t refl h.0 h.1.0) in
    let entry : ToggleEntry = record { var = c.in-Some.var; word = c.in-Some.word; bit = c.in-Some.bit; counter = c.in-Some-counter.counter } in
    let counter = held_is (2 ^ 32) t.counter c.in-Some-counter.counter (sym c.in-Some-counter.is ∙ h.1.1) in
    let e1 : c.in-Some.var ≡ t.var = j.1.0 in
    let e2 : c.in-Some.word ≡ t.word = j.1.1 in
    let e3 : c.in-Some.bit ≡ t.bit = j.1.2 in
    let same : entry ≡ t = toggle_same _ _ _ _ t e1 e2 e3 counter in (
      both_hold (has_bit d t && nat_lt t.counter c.args.counters) (list_all (λ u. is_below (toggle_place u) (toggle_place t)) before)
          (both_hold (has_bit d t) (nat_lt t.counter c.args.counters) j.0 (judging.is_below t.counter c.args.counters (omega arith)))
          (last (toggle_place t) ∙ ap (λ u. is_behind is_below (option_map toggle_place c.args.last) (toggle_place u)) (sym same) ∙ sym c.is_behind.ensures
          ∙ c.if-not-is_behind.false),
      same,
    )
