-- What is found among the modules.
use Rattle.std.proofs.Common.{◌≡◌, ◌∙◌, sym, ap, refl, subst, ℕ, List, [], ◌∷◌, ◌++◌, append-nil, length, Option, Some, None, arith}
use Rattle.std.specs.Prelude.{slice_get}
use Rattle.vlog_tree.specs.declared.module.Module.{Module}
use Rattle.vlog_tree.specs.declared.module.SourceFile.{SourceFile}
use Rattle.elab_types.specs.declared.elab_fault.ElabFault.{ElabFault}
use Rattle.elab_types.specs.declared.elab_fault.ElabFault.TheVariants as fault
use Rattle.scope_meaning.specs.Constants.{option_of}
use Rattle.scope_meaning.specs.Heads.{module_named}
use Rattle.scope_meaning.specs.ScopeTrees.{modules, second_name, top_fault}
use Rattle.name_table.specs.Tables.{value_of}
use Rattle.elab_modules.specs.declared.table.ModuleRow.{ModuleRow}
use Rattle.elab_modules.specs.declared.table.ModuleTable.{ModuleTable}
use Rattle.elab_modules.specs.declared.find.FoundModule.{FoundModule}
use Rattle.elab_modules.specs.Tables.{IsRow, IsRowAt, IsTable, IsSecond, module_at}
use Rattle.elab_modules.specs.Modules.{IsDoubled, IsFound}
use Rattle.elab_modules.proofs.Names.{named-at}

pub doubled : (files : List SourceFile) (f : ElabFault) → IsSecond (modules files) f → IsDoubled files f
doubled files fault.NoMemory h = tt
doubled files (fault.Duplicate p) h = λ found. ap (λ ms. top_fault (second_name [] ms) found) (sym (append-nil (modules files))) ∙ h [] found
doubled files (fault.NoTop p) h = λ found. ap (λ ms. top_fault (second_name [] ms) found) (sym (append-nil (modules files))) ∙ h [] found
doubled files (fault.NotConstant p) h = λ found. ap (λ ms. top_fault (second_name [] ms) found) (sym (append-nil (modules files))) ∙ h [] found
doubled files (fault.BadSelect p) h = λ found. ap (λ ms. top_fault (second_name [] ms) found) (sym (append-nil (modules files))) ∙ h [] found
doubled files (fault.BadRange p) h = λ found. ap (λ ms. top_fault (second_name [] ms) found) (sym (append-nil (modules files))) ∙ h [] found
doubled files (fault.WidthPast128 p) h = λ found. ap (λ ms. top_fault (second_name [] ms) found) (sym (append-nil (modules files))) ∙ h [] found
doubled files (fault.BadGenvar p) h = λ found. ap (λ ms. top_fault (second_name [] ms) found) (sym (append-nil (modules files))) ∙ h [] found
doubled files (fault.UnknownModule p) h = λ found. ap (λ ms. top_fault (second_name [] ms) found) (sym (append-nil (modules files))) ∙ h [] found
doubled files (fault.BadOverride p) h = λ found. ap (λ ms. top_fault (second_name [] ms) found) (sym (append-nil (modules files))) ∙ h [] found
doubled files (fault.Recursive p) h = λ found. ap (λ ms. top_fault (second_name [] ms) found) (sym (append-nil (modules files))) ∙ h [] found
doubled files (fault.Limit l) h = λ found. ap (λ ms. top_fault (second_name [] ms) found) (sym (append-nil (modules files))) ∙ h [] found

-- the module of a row
pub record Rowed (files : List SourceFile) (ms : List Module) (n : ℕ) (row : ModuleRow) : Type 0 where
  pub m : Module
  pub stands : slice_get ms n ≡ Some m
  pub is : IsRow files m row

at_row : (files : List SourceFile) (ms : List Module) (n : ℕ) (row : ModuleRow) (o : Option Module) → slice_get ms n ≡ o → IsRowAt files o (Some row)
    → Rowed files ms n row
at_row files ms n row (Some m) e h = record { m = m; stands = e; is = h }
at_row files ms n row None e h = absurd h

pub rowed : (files : List SourceFile) (ms : List Module) (t : ModuleTable) (n : ℕ) (row : ModuleRow) → IsTable files ms t → Some row ≡ slice_get t.rows n
    → Rowed files ms n row
rowed files ms t n row h e = at_row files ms n row (slice_get ms n) refl (subst (IsRowAt files (slice_get ms n)) (sym e) (h.rows n))

pub get-some : (files seen : List SourceFile) (ms : List Module) (t : ModuleTable) (n : ℕ) (row : ModuleRow) (o : Option Module) → IsTable files ms t
    → seen ≡ files
    → Some row ≡ slice_get t.rows n → o ≡ module_at seen row.file row.index → o ≡ slice_get ms n
get-some files seen ms t n row o h same e is =
    let r = rowed files ms t n row h e in
    is ∙ ap (λ fs. module_at fs row.file row.index) same ∙ r.is.place ∙ sym r.stands

at_none : (files : List SourceFile) (o : Option Module) → IsRowAt files o None → None ≡ o
at_none files (Some m) h = absurd h
at_none files None h = refl

pub get-none : (files : List SourceFile) (ms : List Module) (t : ModuleTable) (n : ℕ) → IsTable files ms t → None ≡ slice_get t.rows n → None ≡ slice_get ms n
get-none files ms t n h e = at_none files (slice_get ms n) (subst (IsRowAt files (slice_get ms n)) (sym e) (h.rows n))

-- what the number of a name is
number_some : (o : Option (ℕ × Module)) (n : ℕ) → Some n ≡ option_of (λ (p : ℕ × Module). p.0) o → (m : Module) × (o ≡ Some (n, m))
number_some (Some p) n e = (p.1, (let s : n ≡ p.0 = cc in ap (λ k. Some (k, p.1)) (sym s)))
number_some None n e = cc

number_none : (o : Option (ℕ × Module)) → None ≡ option_of (λ (p : ℕ × Module). p.0) o → o ≡ None
number_none (Some p) e = cc
number_none None e = refl

pub find-some : (files : List SourceFile) (ms : List Module) (t : ModuleTable) (q : List ℕ) (n : ℕ) (r : Option FoundModule) → IsTable files ms t
    → Some n ≡ value_of t.numbers q → ((m : Module) → slice_get ms n ≡ Some m → IsFound (Some (n, m)) r) → IsFound (module_named ms q) r
find-some files ms t q n r h e found =
    let p = number_some (module_named ms q) n (e ∙ h.numbers q) in
    let named = named-at 0 ms q (n, p.0) p.1 in
    let here : named.behind ≡ n = let x = named.number in omega arith in
    subst (λ o. IsFound o r) (sym p.1) (found p.0 (ap (slice_get ms) (sym here) ∙ named.stands))

pub find-none : (files : List SourceFile) (ms : List Module) (t : ModuleTable) (q : List ℕ) → IsTable files ms t → None ≡ value_of t.numbers q
    → IsFound (module_named ms q) None
find-none files ms t q h e = subst (λ o. IsFound o None) (sym (number_none (module_named ms q) (e ∙ h.numbers q))) tt
