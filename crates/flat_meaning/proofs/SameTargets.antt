-- The flat form of a statement has the same targets.
use Rattle.std.proofs.Common.{◌≡◌, ◌∙◌, sym, ap, ap₂, refl, ℕ, List, [], ◌++◌, map}
use Rattle.std.specs.List.{flat_map}
use Rattle.vlog_tree.specs.declared.statement.Stmt.{Stmt}
use Rattle.vlog_tree.specs.declared.statement.CaseArm.{CaseArm}
use Rattle.elab_types.specs.declared.flat_source.FlatVar.{FlatVar}
use Rattle.elab_types.specs.declared.flat_statement.FlatStmt.{FlatStmt}
use Rattle.elab_types.specs.declared.flat_statement.FlatArm.{FlatArm}
use Rattle.source_meaning.specs.Meaning.{Meaning, Object}
use Rattle.source_meaning.specs.Environment.{Environment, in_pass}
use Rattle.source_meaning.specs.Drives as source
use Rattle.source_meaning.specs.Drives.{Targets}
use Rattle.flat_meaning.specs.Statements as flat
use Rattle.flat_meaning.specs.FlatForm as form
use Rattle.flat_meaning.specs.FlatForm.{IsFlatStmt, AreFlatStmts, AreFlatArms, AreFlatPasses}
use Rattle.flat_meaning.proofs.SourceTargets as src
use Rattle.flat_meaning.proofs.FlatTargets as of
use Rattle.flat_meaning.proofs.SameMeaning.{same_meaning}

abbrev at_env : Environment → Targets → List Object
at_env env f = f env

module _ (vars : List FlatVar) where
  mutual
    pub same_targets : {env : Environment} {st : Stmt} {fl : FlatStmt} → IsFlatStmt vars env st fl → source.targets st env ≡ flat.targets vars fl
    same_targets (form.empty {env} {p}) = ap (at_env env) (src.of-Empty p) ∙ sym (of.of-Empty vars p)
    same_targets (form.block {env} {p} {last} {body} {flat = fl} ds) =
        ap (at_env env) (src.of-Block p body last) ∙ same_of ds ∙ sym (of.of-Block vars p fl last)
    same_targets (form.if_alone {env} {p} {test} {a} {first} {one} dt d) =
        ap (at_env env) (src.of-If p test first) ∙ ap (λ (x : List Object). x ++ []) (same_targets d) ∙ sym (of.of-If vars p a one)
    same_targets (form.if_else {env} {p} {test} {a} {first} {second} {one} {two} dt d e) =
        ap (at_env env) (src.of-If-else p test first second) ∙ ap₂ ◌++◌ (same_targets d) (same_targets e) ∙ sym (of.of-If-else vars p a one two)
    same_targets (form.case {env} {p} {wild} {on} {a} {arms} {flat = fl} dt ds) =
        ap (at_env env) (src.of-Case p wild on arms) ∙ same_arms ds ∙ sym (of.of-Case vars p wild a fl)
    same_targets (form.loop {env} {p} {name} {step_name} {from} {test} {step} {body} {values} {flat = fl} q ds) =
        ap (at_env env) (src.of-For p name from test step_name step body)
        ∙ ap (λ (ns : List ℕ). flat_map (λ n. source.targets body (in_pass env name n)) ns) q
        ∙ same_passes ds
        ∙ sym (of.of-Block vars p fl p)
    same_targets (form.set {env} {p} {target} {value} {a} {b} d e) =
        ap (at_env env) (src.of-Set p target value) ∙ ap (λ (m : Meaning). m.objects) (same_meaning vars d) ∙ sym (of.of-Set vars p a b)
    same_targets (form.later {env} {p} {target} {value} {a} {b} d e) =
        ap (at_env env) (src.of-Later p target value) ∙ ap (λ (m : Meaning). m.objects) (same_meaning vars d) ∙ sym (of.of-Later vars p a b)
    same_targets (form.show {env} {p} {text} {values} {flat = fl} ds) = ap (at_env env) (src.of-Show p text values) ∙ sym (of.of-Show vars p text fl)
    same_targets (form.finish {env} {p}) = ap (at_env env) (src.of-Finish p) ∙ sym (of.of-Finish vars p)
    same_targets (form.stop {env} {p}) = ap (at_env env) (src.of-Stop p) ∙ sym (of.of-Stop vars p)

    same_of : {env : Environment} {body : List Stmt} {fl : List FlatStmt} → AreFlatStmts vars env body fl
        → flat_map (at_env env) (map source.targets body) ≡ flat_map (λ (x : List Object). x) (map (flat.targets vars) fl)
    same_of form.no_stmts = refl
    same_of (form.more_stmts d ds) = ap₂ ◌++◌ (same_targets d) (same_of ds)

    same_arms : {env : Environment} {arms : List CaseArm} {fl : List FlatArm} → AreFlatArms vars env arms fl
        → flat_map (at_env env) (map src.arms arms) ≡ flat_map (λ (x : List Object). x) (map (of.arms vars) fl)
    same_arms form.no_arms = refl
    same_arms (form.more_arms {env} {p} {items} {flat_items} {body} {one} di d ds) =
        ap₂ ◌++◌ (ap (at_env env) (src.of-arm p items body) ∙ same_targets d ∙ sym (of.of-arm vars p flat_items one)) (same_arms ds)

    same_passes : {env : Environment} {name : List ℕ} {ns : List ℕ} {body : Stmt} {fl : List FlatStmt} → AreFlatPasses vars env name ns body fl
        → flat_map (λ n. source.targets body (in_pass env name n)) ns ≡ flat_map (λ (x : List Object). x) (map (flat.targets vars) fl)
    same_passes form.no_passes = refl
    same_passes (form.more_passes d ds) = ap₂ ◌++◌ (same_targets d) (same_passes ds)
