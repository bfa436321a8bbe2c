use Rattle.std.proofs.Common.{◌≡◌, Option, subst}
use Rattle.cvd_cursor.specs.Reads.{Refused, Takes, marks}
use Rattle.std.proofs.lemmas.Result.{err_from_is_err_and}
use Rattle.cvd_cursor.proofs.Composed.{takes_both, refused_first, refused_second}
use Rattle.cvd_nodes.specs.Nodes.{Fields, field_marks, head_tokens, held_fields}
use Rattle.cvd_nodes.specs.declared.head.Head.{Head}
use Rattle.cvd_nodes.specs.declared.node.Node.{Node}
use Rattle.cvd_cursor.specs.Places.{Reading}
use Rattle.cvd_nodes.proofs.Heads.{apart_head}
use Rattle.cvd_nodes.proofs.Fields.{some_fields}
use Rattle.cvd_nodes.proofs.node.read_node.Goals as goal

pub returns-in_err-first : goal.returns-in_err-first
returns-in_err-first c =
    let p = err_from_is_err_and c.from_residual.result c.from_residual.ensures.1 in
    rw (p.1, p.2) (refused_first Head Fields (marks head_tokens) field_marks apart_head some_fields c.args.cursor.now _ _ c.in_err-first.ensures)

pub returns-in_err-node : goal.returns-in_err-node
returns-in_err-node c =
    let a = c.in_ok-first.ensures in
    let p = err_from_is_err_and c.from_residual-in_err-node.result c.from_residual-in_err-node.ensures.1 in
    rw (p.1, p.2) (refused_second Head Fields (marks head_tokens) field_marks a.0 (apart_head a.0) c.args.cursor.now _ _ _ a.1.0
    (subst (λ h. Refused (field_marks h) c.read_head.new.cursor c.in_err-node.field-0.0 c.fields.new.cursor) a.1.1 c.in_err-node.ensures))

moved : (h first : Head) → first ≡ h → (old new : Reading) (held : Option Node)
    → (f : Fields first) × (Takes (field_marks first) old new f × (held ≡ held_fields first f))
    → (f : Fields h) × (Takes (field_marks h) old new f × (held ≡ held_fields h f))
moved h first e old new held b = subst (λ k. (f : Fields k) × (Takes (field_marks k) old new f × (held ≡ held_fields k f))) e b

pub returns : goal.returns
returns c =
    let a = c.in_ok-first.ensures in
    let b = moved a.0 c.in_ok-first.first a.1.1 c.read_head.new.cursor c.fields.new.cursor c.in_ok-node.node c.in_ok-node.ensures in
    ((a.0, b.0), (takes_both Head Fields (marks head_tokens) field_marks c.args.cursor.now _ _ a.0 b.0 a.1.0 b.1.0, (a.1.1, b.1.1)))
