use Rattle.std.proofs.Common.{◌≡◌, sym, subst}
use Rattle.cvd_cursor.specs.Reads.{Reads}
use Rattle.cvd_nodes.specs.Nodes.{field_marks, held_fields}
use Rattle.cvd_nodes.proofs.node.fields.Goals as goal

pub returns-in-Number : goal.returns-in-Number
returns-in-Number c =
    subst (λ h. Reads (field_marks h) (λ f held. held ≡ held_fields h f) c.args.cursor.now c.constant.result c.constant.new.cursor) (sym c.in-Number.is)
    c.constant.ensures

pub returns-in-Var : goal.returns-in-Var
returns-in-Var c =
    subst (λ h. Reads (field_marks h) (λ f held. held ≡ held_fields h f) c.args.cursor.now c.variable.result c.variable.new.cursor) (sym c.in-Var.is)
    c.variable.ensures

pub returns-in-Word : goal.returns-in-Word
returns-in-Word c =
    subst (λ h. Reads (field_marks h) (λ f held. held ≡ held_fields h f) c.args.cursor.now c.word.result c.word.new.cursor) (sym c.in-Word.is) c.word.ensures

pub returns-in-Part : goal.returns-in-Part
returns-in-Part c =
    subst (λ h. Reads (field_marks h) (λ f held. held ≡ held_fields h f) c.args.cursor.now c.part.result c.part.new.cursor) (sym c.in-Part.is) c.part.ensures

pub returns-in-ZeroExtend : goal.returns-in-ZeroExtend
returns-in-ZeroExtend c =
    subst (λ h. Reads (field_marks h) (λ f held. held ≡ held_fields h f) c.args.cursor.now c.zeros.result c.zeros.new.cursor) (sym c.in-ZeroExtend.is)
    c.zeros.ensures

pub returns-in-SignExtend : goal.returns-in-SignExtend
returns-in-SignExtend c =
    subst (λ h. Reads (field_marks h) (λ f held. held ≡ held_fields h f) c.args.cursor.now c.signs.result c.signs.new.cursor) (sym c.in-SignExtend.is)
    c.signs.ensures

pub returns-in-Truncate : goal.returns-in-Truncate
returns-in-Truncate c =
    subst (λ h. Reads (field_marks h) (λ f held. held ≡ held_fields h f) c.args.cursor.now c.cut.result c.cut.new.cursor) (sym c.in-Truncate.is) c.cut.ensures

pub returns-in-Repeat : goal.returns-in-Repeat
returns-in-Repeat c =
    subst (λ h. Reads (field_marks h) (λ f held. held ≡ held_fields h f) c.args.cursor.now c.repeats.result c.repeats.new.cursor) (sym c.in-Repeat.is)
    c.repeats.ensures
