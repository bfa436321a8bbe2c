use Rattle.std.proofs.Common.{◌≡◌, ◌<◌, ℕ, List, true, false, length, get_or, sym, ◌∙◌, arith}
use Rattle.arm_rows.specs.declared.row.ArmRow.{ArmRow}
use Rattle.arm_rows.specs.declared.row.ArmRow.TheVariants as row
use Rattle.arm_rows.specs.Rows.{row_at, IsNoArm}
use Rattle.arm_counters.proofs.Marking as marking
use Rattle.arm_counters.proofs.needed.mark_around.Goals as goal

row_is : (rows : List ArmRow) (n a y : ℕ) → n < length rows → get_or rows n row.Body ≡ row.No a y → row_at rows n ≡ row.No a y
row_is rows n a y lt is = marking.at_any rows n row.Assignment row.Body lt ∙ is

pub returns-then-not-index : goal.returns-then-not-index
returns-then-not-index c =
    let lt : c.args.arm < length c.args.marks.now.items = let m = c.requires.many in let w = c.requires.within in omega arith in
    λ points h. marking.nothing_more c.args.rows.now points c.args.arm c.args.marks.now.items
    (λ a y is m. let e : false ≡ true = sym c.if-not-index.true
    ∙ (c.index.ensures ∙ (marking.at_any c.args.marks.now.items c.args.arm c.index.result.now false lt ∙ m)) in absurd (cc)) h

pub index_mut-requires : goal.index_mut-requires
index_mut-requires c =
    let h : IsNoArm c.requires.rows.forks c.args.rows.now c.args.arm c.in-No.around c.in-No.yes =
    c.requires.rows.no_arms c.args.arm c.in-No.around c.in-No.yes c.requires.within
    (row_is c.args.rows.now c.args.arm c.in-No.around c.in-No.yes c.requires.within c.in-No.is) in
    let a = h.before in
    let b = h.after in
    let m = c.requires.many in
    let w = c.requires.within in
    omega (arith, c.args.marks.now.ok.0)

pub index_mut-requires-in-No : goal.index_mut-requires-in-No
index_mut-requires-in-No c =
    let h : IsNoArm c.requires.rows.forks c.args.rows.now c.args.arm c.in-No.around c.in-No.yes =
    c.requires.rows.no_arms c.args.arm c.in-No.around c.in-No.yes c.requires.within
    (row_is c.args.rows.now c.args.arm c.in-No.around c.in-No.yes c.requires.within c.in-No.is) in
    let b = h.after in
    let m = c.requires.many in
    let w = c.requires.within in
    omega (arith, c.args.marks.now.ok.0)

pub returns-in-No : goal.returns-in-No
returns-in-No c =
    λ points h. marking.two_more c.args.rows.now points c.args.arm c.in-No.around c.in-No.yes c.args.marks.now.items c.requires.rows c.requires.within
    (row_is c.args.rows.now c.args.arm c.in-No.around c.in-No.yes c.requires.within c.in-No.is) h

pub returns-in_default : goal.returns-in_default
returns-in_default c =
    λ points h. marking.nothing_more c.args.rows.now points c.args.arm c.args.marks.now.items
    (λ a y is m. c.in_default.not-No a y (marking.at_any c.args.rows.now c.args.arm row.Body row.Assignment c.requires.within ∙ is)) h
