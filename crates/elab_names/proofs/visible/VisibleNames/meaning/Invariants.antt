use Rattle.std.proofs.Common.{◌≡◌, take}
use Rattle.elab_names.specs.Meanings.{meaning_by}
use Rattle.elab_names.proofs.visible.VisibleNames.meaning.Given as goal

abbrev pub invariant-loop-scope : goal.invariant-loop-scope
invariant-loop-scope l = l.meant ≡ meaning_by (take l.scope-index l.self.scopes.now) l.name
