-- What the tree and the flat source of some files say of points is what the walk says.
use Rattle.std.proofs.Common.{◌≡◌, ◌∙◌, sym, ap, ap₂, refl, subst, ℕ, true, List, [], ◌∷◌, map}
use Rattle.std.specs.List.{AllZip, filter_map}
use Rattle.vlog_tree.specs.declared.module.Module.{Module}
use Rattle.elab_types.specs.declared.arm.ArmComment.{ArmComment}
use Rattle.elab_types.specs.declared.arm.ArmComment.TheVariants as c
use Rattle.elab_types.specs.declared.arm.ArmRow.{ArmRow}
use Rattle.elab_types.specs.declared.scope.Scope.{Scope as TreeScope}
use Rattle.scope_meaning.specs.Visits.{Visits, Entry}
use Rattle.scope_meaning.specs.ScopeTrees.{modules, entry_of, IsScopeRow, IsWalkOf}
use Rattle.scope_meaning.proofs.WalkLaws.{same_walk}
use Rattle.flat_source_meaning.specs.Variables as walk
use Rattle.flat_source_meaning.specs.SourceArms.{Arm, IsArmRow}
use Rattle.flat_source_meaning.specs.Processes.{Process, AreProcesses}
use Rattle.flat_source_meaning.specs.FlatProcesses.{Numbered, HaveArms}
use Rattle.flat_source_meaning.proofs.FlatLaws.{one_source}
use Rattle.flat_source_meaning.proofs.SameCircuit.{one_list}
use Rattle.flat_source_meaning.proofs.OneArms.{one_list_of_copies}
use Rattle.point_meaning.specs.Arms.{name_of, with_name}
use Rattle.point_meaning.specs.Source.{Source, Scope, Copy}
use Rattle.point_meaning.specs.Flat.{scope_of, variable_of, IsRowOfArm, IsRowOfCopy}
use Rattle.point_meaning.specs.FromWalk.{scope_entered, copy_of, RowsAreOfTheWalk}

of_scopes : (w : walk.Source) (es : List Entry) (rows : List TreeScope) → AllZip (IsScopeRow w.design w.vs) es rows
    → map (scope_entered w) es ≡ map scope_of rows
of_scopes w [] [] a = refl
of_scopes w [] (r ∷ rows) a = absurd a
of_scopes w (e ∷ es) [] a = absurd a
of_scopes w (e ∷ es) (r ∷ rows) a =
    ap₂ (λ (x : Scope) (xs : List Scope). x ∷ xs)
    (ap₂ (λ (p : List ℕ) (t : List ℕ). record { path = p; module_text = t }) (sym a.0.path) (sym a.0.text)) (of_scopes w es rows a.1)

without_process : {k n : ℕ} {a : Arm} {row : ArmRow} → IsArmRow k n a row → IsArmRow row.process n a row
without_process r = record {
  process_number = refl;
  scope_number = r.scope_number;
  place = r.place;
  reach = r.reach;
  comment = r.comment;
  label = r.label;
  stops = r.stops;
  lines = r.lines;
}

of_row : {k n : ℕ} (a : Arm) (row : ArmRow) (what : ArmComment) → a.comment ≡ what → IsArmRow k n a row → IsRowOfArm row n (with_name a (name_of what a.label))
of_row a row c.Block e r = without_process r
of_row a row c.If e r = without_process r
of_row a row c.Else e r = without_process r
of_row a row c.Case e r = without_process r
of_row a row c.Cover e r = without_process r
of_row a row c.Nothing e r = (r.scope_number, r.comment ∙ e)

of_rows : (xs : List Numbered) (rows : List ArmRow) → AllZip (λ a row. IsArmRow a.process a.scope a.arm row) xs rows → AllZip IsRowOfCopy rows (map copy_of xs)
of_rows [] [] a = a
of_rows [] (r ∷ rows) a = absurd a
of_rows (x ∷ xs) [] a = absurd a
of_rows (x ∷ xs) (r ∷ rows) a = (of_row x.arm r x.arm.comment refl a.0, of_rows xs rows a.1)

pub rows_are_of_the_walk : RowsAreOfTheWalk
rows_are_of_the_walk files top clock tree flat source t f p =
    let e : f.w ≡ p.elaborated.w = one_source files top clock f.w p.elaborated.w f.source p.elaborated.walked in
    let d : p.elaborated.w.design ≡ modules files = p.elaborated.walked.design in
    let its_walk : IsWalkOf p.elaborated.w.design top t.vs true = subst (λ (x : List Module). IsWalkOf x top t.vs true) (sym d) t.walk in
    let vs : t.vs ≡ p.elaborated.w.vs = same_walk its_walk p.elaborated.walked.walk in
    let rows : AllZip (IsScopeRow p.elaborated.w.design p.elaborated.w.vs) (filter_map entry_of p.elaborated.w.vs) tree.scopes =
    subst (λ (x : List Module). AllZip (IsScopeRow x p.elaborated.w.vs) (filter_map entry_of p.elaborated.w.vs) tree.scopes) (sym d)
    (subst (λ (x : Visits). AllZip (IsScopeRow (modules files) x) (filter_map entry_of x) tree.scopes) vs t.rows) in
    let found : AreProcesses p.elaborated.w p.elaborated.w.vs f.flat_of.all = subst (λ (z : walk.Source). AreProcesses z z.vs f.flat_of.all) e f.flat_of.found
    in
    let have : HaveArms 0 p.elaborated.all f.flat_of.copies = subst (λ (ps : List Process). HaveArms 0 ps f.flat_of.copies) (one_list found p.elaborated.found)
    f.flat_of.have in
    let arms : f.flat_of.copies ≡ p.elaborated.arms = one_list_of_copies 0 p.elaborated.all f.flat_of.copies p.elaborated.arms have p.elaborated.have in
    record {
      files_are = ap (λ (s : Source). s.files) p.same;
      scopes = ap (λ (s : Source). s.scopes) p.same ∙ of_scopes p.elaborated.w (filter_map entry_of p.elaborated.w.vs) tree.scopes rows;
      variables = ap (λ (s : Source). s.variables) p.same ∙ sym (ap (map variable_of) f.flat_of.variables ∙ ap (λ (w : walk.Source). map variable_of w.vars) e);
      arms = subst (λ (xs : List Copy). AllZip IsRowOfCopy flat.arms xs) (ap (map copy_of) arms ∙ sym (ap (λ (s : Source). s.copies) p.same))
          (of_rows f.flat_of.copies flat.arms f.flat_of.arms);
    }
