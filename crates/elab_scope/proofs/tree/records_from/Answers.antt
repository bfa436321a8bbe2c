use Rattle.std.proofs.Common.{ℕ, Some, ap, sym, ◌∙◌}
use Rattle.vlog_tree.specs.declared.module.Module.{Module}
use Rattle.scope_meaning.specs.ScopeTrees.{modules}
use Rattle.elab_scope.proofs.tree.records_from.Goals as goal

pub returns : goal.returns
returns c = λ files m are found.
    let top = c.args.top.now in
    c.walked.ensures files top are (c.in_ok-walk.ensures (modules files) (sym (c.count.ensures files are))
    (found ∙ ap (λ (n : ℕ). Some (n, m)) (sym c.in_ok-first.ensures)
    ∙ ap (λ (x : Module). Some (c.in_ok-first.first, x)) (sym (c.in_ok-of.ensures files top m are found))))
