-- The scope tree of a walk, and the faults of a design.
use Rattle.std.proofs.Common.{◌≡◌, ℕ, List, [], Option, Some, None, Ok, Err, refl, subst, sym, ap, ◌∙◌}
use Rattle.std.specs.List.{filter_map, AllZip}
use Rattle.cov_types.specs.declared.place.Place.{Place}
use Rattle.vlog_tree.specs.declared.module.Module.{Module}
use Rattle.vlog_tree.specs.declared.module.SourceFile.{SourceFile}
use Rattle.elab_types.specs.declared.elab_fault.ElabFault.{ElabFault}
use Rattle.elab_types.specs.declared.elab_fault.ElabFault.TheVariants as fault
use Rattle.elab_types.specs.declared.scope.ScopeTree.{ScopeTree}
use Rattle.scope_meaning.specs.Heads.{module_named}
use Rattle.scope_meaning.specs.ScopeTrees.{modules, second_name, top_fault, early_fault, later_or, IsFirstRefusal, IsScopeRow, entry_of, IsTreeOf, GivesScopes}
use Rattle.elab_modules.specs.Modules.{AreModules, IsDoubled}
use Rattle.walk_state.specs.declared.record.Record.{Record}
use Rattle.walk_steps.specs.Steps.{IsRefused}
use Rattle.elab_scope.specs.Walked.{IsWhole}

found_fault : (files : List SourceFile) (top : List ℕ) (f : ElabFault) → early_fault (modules files) top ≡ None → IsFirstRefusal (modules files) top f
    → later_or (IsFirstRefusal (modules files) top f) f (early_fault (modules files) top)
found_fault files top f none first =
    subst (λ (o : Option ElabFault). later_or (IsFirstRefusal (modules files) top f) f o) (sym none) first

-- What the walk refuses is the fault where nothing comes before all else,
pub gives_refusal : (files : List SourceFile) (top : List ℕ) (f : ElabFault) → early_fault (modules files) top ≡ None → IsRefused (modules files) top f
    → GivesScopes files top (Err f)
gives_refusal files top fault.NoMemory none h = tt
gives_refusal files top (fault.Duplicate p) none h = found_fault files top (fault.Duplicate p) none h
gives_refusal files top (fault.NoTop p) none h = found_fault files top (fault.NoTop p) none h
gives_refusal files top (fault.NotConstant p) none h = found_fault files top (fault.NotConstant p) none h
gives_refusal files top (fault.BadSelect p) none h = found_fault files top (fault.BadSelect p) none h
gives_refusal files top (fault.BadRange p) none h = found_fault files top (fault.BadRange p) none h
gives_refusal files top (fault.WidthPast128 p) none h = found_fault files top (fault.WidthPast128 p) none h
gives_refusal files top (fault.BadGenvar p) none h = found_fault files top (fault.BadGenvar p) none h
gives_refusal files top (fault.UnknownModule p) none h = found_fault files top (fault.UnknownModule p) none h
gives_refusal files top (fault.BadOverride p) none h = found_fault files top (fault.BadOverride p) none h
gives_refusal files top (fault.Recursive p) none h = found_fault files top (fault.Recursive p) none h
gives_refusal files top (fault.Limit l) none h = found_fault files top (fault.Limit l) none h

early : (files : List SourceFile) (top : List ℕ) (f : ElabFault) → early_fault (modules files) top ≡ Some f
    → later_or (IsFirstRefusal (modules files) top f) f (early_fault (modules files) top)
early files top f e = subst (λ (o : Option ElabFault). later_or (IsFirstRefusal (modules files) top f) f o) (sym e) refl

-- and so is a module name that stands twice,
pub gives_doubled : (files : List SourceFile) (top : List ℕ) (f : ElabFault) → IsDoubled files f → GivesScopes files top (Err f)
gives_doubled files top fault.NoMemory h = tt
gives_doubled files top (fault.Duplicate p) h = early files top (fault.Duplicate p) (h (module_named (modules files) top))
gives_doubled files top (fault.NoTop p) h = early files top (fault.NoTop p) (h (module_named (modules files) top))
gives_doubled files top (fault.NotConstant p) h = early files top (fault.NotConstant p) (h (module_named (modules files) top))
gives_doubled files top (fault.BadSelect p) h = early files top (fault.BadSelect p) (h (module_named (modules files) top))
gives_doubled files top (fault.BadRange p) h = early files top (fault.BadRange p) (h (module_named (modules files) top))
gives_doubled files top (fault.WidthPast128 p) h = early files top (fault.WidthPast128 p) (h (module_named (modules files) top))
gives_doubled files top (fault.BadGenvar p) h = early files top (fault.BadGenvar p) (h (module_named (modules files) top))
gives_doubled files top (fault.UnknownModule p) h = early files top (fault.UnknownModule p) (h (module_named (modules files) top))
gives_doubled files top (fault.BadOverride p) h = early files top (fault.BadOverride p) (h (module_named (modules files) top))
gives_doubled files top (fault.Recursive p) h = early files top (fault.Recursive p) (h (module_named (modules files) top))
gives_doubled files top (fault.Limit l) h = early files top (fault.Limit l) (h (module_named (modules files) top))

none_early : (files : List SourceFile) (top : List ℕ) (o : Option (ℕ × Module)) → second_name [] (modules files) ≡ None → module_named (modules files) top ≡ o
    → early_fault (modules files) top ≡ top_fault None o
none_early files top o single named =
    ap (λ (p : Option Place). top_fault p (module_named (modules files) top)) single ∙ ap (λ (x : Option (ℕ × Module)). top_fault None x) named

-- or that no module has the top's name.
pub gives_no_top : (files : List SourceFile) (top : List ℕ) → second_name [] (modules files) ≡ None → module_named (modules files) top ≡ None
    → GivesScopes files top (Err (fault.NoTop (record { file = 0; line = 1; column = 1 })))
gives_no_top files top single named =
    early files top (fault.NoTop (record { file = 0; line = 1; column = 1 })) (none_early files top None single named)

pub nothing_early : (files : List SourceFile) (top : List ℕ) (p : ℕ × Module) → second_name [] (modules files) ≡ None
    → module_named (modules files) top ≡ Some p → early_fault (modules files) top ≡ None
nothing_early files top p single named = none_early files top (Some p) single named

-- The tree of a whole walk.
pub gives_tree : (files : List SourceFile) (top : List ℕ) (tree : ScopeTree) (records : List Record) → early_fault (modules files) top ≡ None
    → (w : IsWhole (modules files) top records) → AllZip (IsScopeRow (modules files) w.vs) (filter_map entry_of w.vs) tree.scopes
    → GivesScopes files top (Ok tree)
gives_tree files top tree records none w rows = record { early = none; vs = w.vs; walk = w.walk; calm = w.calm; rows = rows }
