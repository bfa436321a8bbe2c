use Rattle.std.proofs.Common.{◌∙◌, ap, sym, refl, length}
use Rattle.scope_rows.proofs.Trees.{rows-end, rows-length, scope_put, still}
use Rattle.scope_rows.proofs.tree.rows_of.Goals as goal

pub loop-scope-init : goal.loop-scope-init
loop-scope-init c = (c.new-rows.ensures ∙ sym (rows-end c.args.constants c.args.items 0), λ k le. refl, λ k le. refl)

pub loop-scope-preserved : goal.loop-scope-preserved
loop-scope-preserved c =
    let l = c.loop-scope in
    let inv = l.invariant in
    let at = c.len-number.ensures ∙ ap length inv.0 ∙ rows-length c.args.constants c.args.items 0 l.yielded in (
      scope_put c.args.constants l.constants c.args.items l.items l.yielded c.in-Some.scope c.len-number.result l.rows c.push.new.self
          c.take-its_constants.result c.take-its_items.result inv.0 c.len-number.ensures c.take-its_constants.ensures.taken
          c.take-its_items.ensures.taken inv.1 inv.2 c.in_ok-push.ensures.ok,
      still c.args.constants l.constants c.take-its_constants.new.self l.yielded c.in-Some.scope c.len-number.result at inv.1
          c.take-its_constants.ensures.others,
      still c.args.items l.items c.take-its_items.new.self l.yielded c.in-Some.scope c.len-number.result at inv.2 c.take-its_items.ensures.others,
    )
