use Rattle.std.proofs.Common.{◌≡◌, ◌<◌, ◌++◌, ◌∷◌, [], ℕ, List, length, get_or, ◌∙◌, arith}
use Rattle.std.proofs.lemmas.Result.{IfOk-weaker}
use Rattle.arm_rows.specs.declared.row.ArmRow.{ArmRow}
use Rattle.arm_rows.specs.declared.row.ArmRow.TheVariants as row
use Rattle.arm_rows.specs.Rows.{row_at}
use Rattle.arm_counters.proofs.Marking.{at_any}
use Rattle.point_lists.proofs.Putting as putting
use Rattle.point_lists.proofs.Putting.{IsToldAround}
use Rattle.point_lists.proofs.lists.+put_lists.Goals as goal

row_is : (rows : List ArmRow) (n a y : ℕ) → n < length rows → get_or rows n row.Body ≡ row.No a y → row_at rows n ≡ row.No a y
row_is rows n a y lt is = at_any rows n row.Assignment row.Body lt ∙ is

pub counter_of-requires : goal.counter_of-requires
counter_of-requires t c =
    let inside = putting.told_within c.args.rows.now c.args.numbers.now c.args.arm c.requires.told in
    let at = row_is c.args.rows.now c.args.arm c.in-No.around c.in-No.yes inside c.in-No.is in
    (putting.told_around c.args.rows.now c.args.numbers.now c.args.arm c.in-No.around c.in-No.yes c.requires.told at).yes_has

pub put_lists-requires : goal.put_lists-requires
put_lists-requires t c =
    let inside = putting.told_within c.args.rows.now c.args.numbers.now c.args.arm c.requires.told in
    let at = row_is c.args.rows.now c.args.arm c.in-No.around c.in-No.yes inside c.in-No.is in
    let h = putting.told_around c.args.rows.now c.args.numbers.now c.args.arm c.in-No.around c.in-No.yes c.requires.told at in
    let less = h.less in
    let measure = c.decreases in
    (omega arith, (h.around, c.requires.apart))

pub counter_of-requires-in_default : goal.counter_of-requires-in_default
counter_of-requires-in_default t c =
    let inside = putting.told_within c.args.rows.now c.args.numbers.now c.args.arm c.requires.told in
    putting.told_own c.args.rows.now c.args.numbers.now c.args.arm c.requires.told
    (λ a y is. c.in_default.not-No a y (at_any c.args.rows.now c.args.arm row.Body row.Assignment inside ∙ is))

pub returns-in_ok-push-in-No : goal.returns-in_ok-push-in-No
returns-in_ok-push-in-No t c =
    let rows = c.args.rows.now in
    let numbers = c.args.numbers.now in
    let inside = putting.told_within rows numbers c.args.arm c.requires.told in
    IfOk-weaker c.put_lists.result
    (λ _. putting.Puts rows numbers c.in-No.around c.args.plus.now c.put_lists.new.plus c.push.new.self c.put_lists.new.minus)
    (λ _. putting.Puts rows numbers c.args.arm c.args.plus.now c.put_lists.new.plus c.args.minus.now c.put_lists.new.minus)
    (λ _ h. putting.puts_no_arm rows numbers c.args.arm c.in-No.around c.in-No.yes c.counter_of.result c.args.plus.now c.put_lists.new.plus
    c.args.minus.now c.push.new.self c.put_lists.new.minus c.requires.apart inside
    (row_is rows c.args.arm c.in-No.around c.in-No.yes inside c.in-No.is) c.counter_of.ensures c.in_ok-push-in-No.ensures.ok h)
    c.put_lists.ensures

pub returns-in_default : goal.returns-in_default
returns-in_default t c =
    IfOk-weaker c.push-in_default.result (λ _. c.push-in_default.new.self ≡ c.args.plus.now ++ c.counter_of-in_default.result ∷ [])
    (λ _. putting.Puts c.args.rows.now c.args.numbers.now c.args.arm c.args.plus.now c.push-in_default.new.self c.args.minus.now c.args.minus.now)
    (λ _ e. putting.puts_own c.args.rows.now c.args.numbers.now c.args.arm c.counter_of-in_default.result c.args.plus.now c.push-in_default.new.self
    c.args.minus.now c.requires.apart c.counter_of-in_default.ensures e)
    c.push-in_default.ensures.ok
