-- The copies of arms of the processes on a walk are arms of the files, or have no point.
use Rattle.std.proofs.Common.{◌≡◌, sym, ap, refl, subst, ℕ, zero, suc, ◌⊎◌, inl, inr, Bool, true, false, List, [], ◌∷◌, ◌++◌, map}
use Rattle.std.proofs.Common.{Option, Some, None, Contains, arith}
use Rattle.std.specs.List.{flat_map, filter_map, cons_option, AllByRecursion}
use Rattle.std.proofs.lemmas.List.Elements.{Contains-append_cases}
use Rattle.cov_types.specs.declared.place.Place.{Place}
use Rattle.vlog_tree.specs.declared.expression.Expr.{Expr}
use Rattle.vlog_tree.specs.declared.expression.Expr.TheVariants as e
use Rattle.vlog_tree.specs.declared.statement.Stmt.{Stmt}
use Rattle.vlog_tree.specs.declared.item.Item.{Item}
use Rattle.vlog_tree.specs.declared.item.ItemKind.TheOpen as i
use Rattle.vlog_tree.specs.declared.item.WireName.{WireName}
use Rattle.vlog_tree.specs.declared.item.AssignPart.{AssignPart}
use Rattle.vlog_tree.specs.declared.module.SourceFile.{SourceFile}
use Rattle.vlog_tree.specs.Trees.{Layer, layer, item_place}
use Rattle.vlog_tree.specs.Inside.{IsAmong}
use Rattle.vlog_tree.specs.Inside as tree
use Rattle.elab_types.specs.declared.flat_source.FlatVar.{FlatVar}
use Rattle.source_meaning.specs.Environment.{Environment}
use Rattle.scope_meaning.specs.Constants.{option_of}
use Rattle.scope_meaning.specs.Visits.{Visits, Visit, Making}
use Rattle.scope_meaning.specs.ScopeTrees.{modules}
use Rattle.flat_source_meaning.specs.SourceArms.{Arm, body_arm, cover_arm, no_arm, IsArmInside}
use Rattle.flat_source_meaning.specs.Environments.{environment, ports_of}
use Rattle.flat_source_meaning.specs.Joins.{Join, is_input}
use Rattle.flat_source_meaning.specs.Variables.{Source}
use Rattle.flat_source_meaning.specs.Processes.{Process, initially, always, assigns, covers, wire_process, item_processes, by_direction, connection}
use Rattle.flat_source_meaning.specs.Processes.{HasProcesses, of_item, of_instance, of_other, AreProcesses}
use Rattle.flat_source_meaning.specs.Processes as p
use Rattle.flat_source_meaning.specs.FlatProcesses.{HasProcessArms, initially_has, always_has, assigns_has, covers_has, Numbered}
use Rattle.flat_source_meaning.specs.FlatProcesses.{with_numbers, HaveArms, scope_of}
use Rattle.flat_source_meaning.specs.FlatProcesses as f
use Rattle.arm_place_laws.proofs.StatementArms.{nothing_in, one_of}
use Rattle.arm_place_laws.proofs.ItemArms.{IsArmOf, its_body, inside, of_cover}
use Rattle.arm_place_laws.proofs.ModuleArms.{ArmOfModule, IsArmInFiles}
use Rattle.arm_place_laws.proofs.Seen.{IsItemOf, AreOf}
use Rattle.arm_place_laws.proofs.CopyArms.{IsNothing, statement_arms}

in_flat_map : {X Y : Type 0} (g : X → List Y) (xs : List X) (y : Y) → Contains (flat_map g xs) y → (x : X) × Contains xs x × Contains (g x) y
in_flat_map g [] y found = absurd (nothing_in found)
in_flat_map g (x ∷ xs) y found = elim (Contains-append_cases (g x) (flat_map g xs) y found) [
  | inl first ↦ (x, (zero, omega arith, refl), first)
  | inr more ↦ let later = in_flat_map g xs y more in (later.0, one_more x xs later.0 later.1, later.2)
]
  where
    one_more : {X : Type 0} (x : X) (xs : List X) (z : X) → Contains xs z → Contains (x ∷ xs) z
    one_more x xs z (k, lt, e) = (suc k, omega (arith, lt), e)

pub from_map : {X Y : Type 0} (g : X → Y) (xs : List X) (y : Y) → Contains (map g xs) y → (x : X) × Contains xs x × (g x ≡ y)
from_map g [] y found = absurd (nothing_in found)
from_map g (x ∷ xs) y found = elim (one_of (g x) (map g xs) y found) [
  | inl first ↦ (x, (zero, omega arith, refl), first)
  | inr more ↦ let later = from_map g xs y more in (later.0, one_more x xs later.0 later.1, later.2)
]
  where
    one_more : {X : Type 0} (x : X) (xs : List X) (z : X) → Contains xs z → Contains (x ∷ xs) z
    one_more x xs z (k, lt, e) = (suc k, omega (arith, lt), e)

facts_both : {A : Type 0} (P : A → Type 0) (xs ys : List A) → AllByRecursion P xs → AllByRecursion P ys → AllByRecursion P (xs ++ ys)
facts_both P [] ys h k = k
facts_both P (x ∷ xs) ys h k = (h.0, facts_both P xs ys h.1 k)

fact_of : {A : Type 0} (P : A → Type 0) (xs : List A) (x : A) → AllByRecursion P xs → Contains xs x → P x
fact_of P [] x h found = absurd (nothing_in found)
fact_of P (y ∷ ys) x h found = elim (one_of y ys x found) [
  | inl first ↦ subst P first h.0
  | inr more ↦ fact_of P ys x h.1 more
]

abbrev numbered : ℕ → Process → Arm → Numbered
numbered k q a = record { process = k; scope = scope_of q; arm = a }

module _ (files : List SourceFile) where
  -- an arm of an item of the design is one of the files
  in_files : (a : Item) (x : Arm) → IsItemOf (modules files) a → IsArmOf (item_place a) (layer a) x → IsArmInFiles files x
  in_files a x of own =
      let file = in_flat_map (λ (file : SourceFile). file.modules) files of.its_module of.there in
      record {
        file = file.0;
        listed = file.1;
        own = record { its_module = of.its_module; listed = file.2; own = by of.among };
      }
    where
      by : Contains of.its_module.params a ⊎ IsAmong of.its_module.items a → ArmOfModule of.its_module x
      by (inl param) = inl (record { item = a; among = tree.listed param; own = own })
      by (inr among) = inr (record { item = a; among = among; own = own })

  -- the arms of a process are written in the files
  abbrev IsWritten : Process → Type 0
  IsWritten (initially env place st) = (x : Arm) → (body_arm place st ≡ x) ⊎ IsArmInside st x → IsArmInFiles files x
  IsWritten (always clock env place st) = (x : Arm) → (body_arm place st ≡ x) ⊎ IsArmInside st x → IsArmInFiles files x
  IsWritten (assigns target_env env place target value) = Unit {0}
  IsWritten (covers env place word label test) = IsArmInFiles files (cover_arm word label)

  in_process : (place : Place) (st : Stmt) (arms : List Arm) (x : Arm) → ((x : Arm) → (body_arm place st ≡ x) ⊎ IsArmInside st x → IsArmInFiles files x)
      → ((x : Arm) → Contains arms x → IsNothing x ⊎ IsArmInside st x) → Contains (body_arm place st ∷ arms) x → IsNothing x ⊎ IsArmInFiles files x
  in_process place st arms x written copies found = elim (one_of (body_arm place st) arms x found) [
    | inl first ↦ inr (written x (inl first))
    | inr more ↦ elim (copies x more) [
      | inl nothing ↦ inl nothing
      | inr within ↦ inr (written x (inr within))
    ]
  ]

  its_arms : {q : Process} {arms : List Arm} → HasProcessArms q arms → IsWritten q → (x : Arm) → Contains arms x → IsNothing x ⊎ IsArmInFiles files x
  its_arms (initially_has {p = place} {st = st} {arms = arms} d) written x found = in_process place st arms x written (statement_arms d) found
  its_arms (always_has {p = place} {st = st} {arms = arms} d) written x found = in_process place st arms x written (statement_arms d) found
  its_arms (assigns_has {p = place}) written x found = elim (one_of (no_arm place) [] x found) [
    | inl first ↦ inl (sym (ap (λ y. y.comment) first))
    | inr none ↦ absurd (nothing_in none)
  ]
  its_arms (covers_has {word = word} {label = label}) written x found = elim (one_of (cover_arm word label) [] x found) [
    | inl first ↦ inr (subst (IsArmInFiles files) first written)
    | inr none ↦ absurd (nothing_in none)
  ]

  -- ---- the processes of a visit

  abbrev AreWritten : List Process → Type 0
  AreWritten = AllByRecursion IsWritten

  wire : (env : Environment) (place : Place) (name : List ℕ) (value : Option Expr) (qs : List Process) → AreWritten qs
      → AreWritten (cons_option (option_of (assigns env env place (e.Name name)) value) qs)
  wire env place name (Some v) qs h = (tt, h)
  wire env place name None qs h = h

  wires : (env : Environment) (place : Place) (names : List WireName) → AreWritten (filter_map (wire_process env place) names)
  wires env place [] = tt
  wires env place (w ∷ ws) = wire env place w.name.name w.value (filter_map (wire_process env place) ws) (wires env place ws)

  parts : (env : Environment) (place : Place) (all : List AssignPart) → AreWritten (map (λ a. assigns env env place a.target a.value) all)
  parts env place [] = tt
  parts env place (a ∷ all) = (tt, parts env place all)

  of_body : (place : Place) (l : Layer) (st : Stmt) → tree.statement_of l ≡ Some st → ((x : Arm) → IsArmOf place l x → IsArmInFiles files x) → (x : Arm)
      → (body_arm place st ≡ x) ⊎ IsArmInside st x → IsArmInFiles files x
  of_body place l st is k x (inl e) = subst (IsArmInFiles files) e (k (body_arm place st) (its_body is))
  of_body place l st is k x (inr within) = k x (inside is within)

  of_layer : (env : Environment) (place : Place) (l : Layer) → ((x : Arm) → IsArmOf place l x → IsArmInFiles files x) → AreWritten (item_processes env place l)
  of_layer env place (i.Wire signed range names) k = wires env place names
  of_layer env place (i.Assign all) k = parts env place all
  of_layer env place (i.Initial st) k = (of_body place (i.Initial st) st refl k, tt)
  of_layer env place (i.Always clock st) k = (of_body place (i.Always clock st) st refl k, tt)
  of_layer env place (i.Cover word label clock test) k = (k (cover_arm word label) of_cover, tt)
  of_layer env place _ k = tt

  joined : (vars : List FlatVar) (m : Making) (js : List Join) → AreWritten (map (connection vars m) js)
  joined vars m [] = tt
  joined vars m (j ∷ js) = (by (is_input j), joined vars m js)
    where
      by : (b : Bool) → IsWritten (by_direction b (ports_of vars m.here.number m.makes) (environment vars m.here m.at) m.place (e.Name j.port.name) j.expr)
      by true = tt
      by false = tt

  of_visit : {w : Source} {v : Visit} {ps : List Process} → w.design ≡ modules files → HasProcesses w v ps → AreOf w.design (v ∷ []) → AreWritten ps
  of_visit {w} design (of_item {here = here} {at = at} {a = a}) known =
      of_layer (environment w.vars here at) (item_place a) (layer a) (λ x own. in_files a x (subst (λ d. IsItemOf d a) design known.0) own)
  of_visit {w} design (of_instance {m = m} {js = js} keeps) known = joined w.vars m js
  of_visit design (of_other none) known = tt

  of_visits : {w : Source} {vs : Visits} {ps : List Process} → w.design ≡ modules files → AreProcesses w vs ps → AreOf w.design vs → AreWritten ps
  of_visits design p.none known = tt
  of_visits design (p.more {ps = ps} {qs = qs} d ds) known = facts_both IsWritten ps qs (of_visit design d (known.0, tt)) (of_visits design ds known.1)

  -- the copies of the arms of processes
  pub copies_written : {k : ℕ} {ps : List Process} {all : List Numbered} → HaveArms k ps all → AreWritten ps → (r : Numbered) → Contains all r
      → IsNothing r.arm ⊎ IsArmInFiles files r.arm
  copies_written f.none written r found = absurd (nothing_in found)
  copies_written {k} (f.more {p = q} {arms = arms} {rest = rest} d e ds) written r found =
      elim (Contains-append_cases (with_numbers k q arms) rest r found) [
        | inl first ↦ let one = from_map (numbered k q) arms r first in
            subst (λ y. IsNothing y ⊎ IsArmInFiles files y) (ap (λ (n : Numbered). n.arm) one.2) (its_arms d written.0 one.0 one.1)
        | inr more ↦ copies_written ds written.1 r more
      ]

  pub processes_written : {w : Source} {vs : Visits} {ps : List Process} → w.design ≡ modules files → AreProcesses w vs ps → AreOf w.design vs → AreWritten ps
  processes_written design all known = of_visits design all known
