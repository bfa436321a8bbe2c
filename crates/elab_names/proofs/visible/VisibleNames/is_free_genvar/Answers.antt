use Rattle.std.proofs.Common.{ap, ◌∙◌}
use Rattle.scope_meaning.specs.Scope.{meaning_of}
use Rattle.elab_names.specs.Meanings.{meaning_by, is_genvar}
use Rattle.elab_names.proofs.Agreement.{agree, free}
use Rattle.elab_names.proofs.visible.VisibleNames.is_free_genvar.Goals as goal

pub returns : goal.returns
returns c = λ fs are.
    let name = c.args.name.now in
    c.is_genvar.ensures ∙ ap is_genvar c.meaning.ensures
    ∙ free (meaning_of fs name) (meaning_by c.args.self.now.scopes.now name) (agree name are)
