-- One row more in the table of modules.
use Rattle.std.proofs.Common.{◌≡◌, ◌∙◌, sym, ap, refl, subst, ℕ, zero, suc, ◌+◌, ◌<◌, Bool, true, false, not, cond, List, [], ◌∷◌, ◌++◌, length, take, drop}
use Rattle.std.proofs.Common.{get_or, Option, Some, None, Result, Ok, Err, is_some, append_assoc, append-nil, arith}
use Rattle.std.specs.Prelude.{slice_get}
use Rattle.std.specs.Option.{option_or}
use Rattle.std.specs.Str.{bytes_eq}
use Rattle.std.specs.List.{flat_map}
use Rattle.std.proofs.lemmas.List.{take_more, take-append-drop}
use Rattle.std.proofs.lemmas.List.Concat.{flat_map-append}
use Rattle.vlog_tree.specs.declared.module.Module.{Module}
use Rattle.vlog_tree.specs.declared.module.SourceFile.{SourceFile}
use Rattle.elab_types.specs.declared.elab_fault.ElabFault.{ElabFault}
use Rattle.elab_types.specs.declared.elab_fault.ElabFault.TheVariants as fault
use Rattle.scope_meaning.specs.Constants.{option_of, and_then}
use Rattle.scope_meaning.specs.Heads.{module_named, module_from}
use Rattle.scope_meaning.specs.ScopeTrees.{modules, second_name, top_fault}
use Rattle.name_table.specs.declared.table.NameTable.{NameTable}
use Rattle.name_table.specs.Tables.{value_of, only}
use Rattle.elab_modules.specs.declared.table.ModuleRow.{ModuleRow}
use Rattle.elab_modules.specs.declared.table.ModuleTable.{ModuleTable}
use Rattle.elab_modules.specs.Tables.{IsRow, IsRowAt, IsTable, IsSecond, Adds, module_at}
use Rattle.elab_modules.proofs.Names.{module-more, still-single, is-second, none-second}

rows-more : (files : List SourceFile) (ms : List Module) (rows : List ModuleRow) (m : Module) (row : ModuleRow)
    → ((n : ℕ) → IsRowAt files (slice_get ms n) (slice_get rows n)) → IsRow files m row
    → (n : ℕ) → IsRowAt files (slice_get (ms ++ m ∷ []) n) (slice_get (rows ++ row ∷ []) n)
rows-more files [] [] m row h r zero = r
rows-more files [] [] m row h r (suc n) = tt
rows-more files [] (x ∷ rows) m row h r n = absurd (h 0)
rows-more files (y ∷ ms) [] m row h r n = absurd (h 0)
rows-more files (y ∷ ms) (x ∷ rows) m row h r zero = h 0
rows-more files (y ∷ ms) (x ∷ rows) m row h r (suc n) = rows-more files ms rows m row (λ k. h (suc k)) r n

same-length : (files : List SourceFile) (ms : List Module) (rows : List ModuleRow) → ((n : ℕ) → IsRowAt files (slice_get ms n) (slice_get rows n))
    → length rows ≡ length ms
same-length files [] [] h = refl
same-length files [] (x ∷ rows) h = absurd (h 0)
same-length files (y ∷ ms) [] h = absurd (h 0)
same-length files (y ∷ ms) (x ∷ rows) h = ap suc (same-length files ms rows (λ k. h (suc k)))

abbrev number : Option (ℕ × Module) → Option ℕ
number = option_of (λ (p : ℕ × Module). p.0)

number-or : (a : Option (ℕ × Module)) (b : Bool) (n : ℕ) (m : Module)
    → option_or (number a) (cond b (Some n) None) ≡ number (option_or a (cond b (Some (n, m)) None))
number-or (Some p) b n m = refl
number-or None true n m = refl
number-or None false n m = refl

some-number : (a : Option (ℕ × Module)) → is_some (number a) ≡ is_some a
some-number (Some p) = refl
some-number None = refl

not_not : (a : Bool) → not (not a) ≡ a
not_not true = refl
not_not false = refl

there : (files : List SourceFile) (ms : List Module) (t : ModuleTable) (name : List ℕ) (is_new : Bool) → IsTable files ms t
    → is_new ≡ not (is_some (value_of t.numbers name)) → is_some (module_named ms name) ≡ not is_new
there files ms t name is_new h e = sym (ap not e ∙ not_not _ ∙ ap is_some (h.numbers name) ∙ some-number (module_named ms name))

-- a new name
pub adds : (files : List SourceFile) (ms : List Module) (t new : ModuleTable) (m : Module) (row : ModuleRow) (name : List ℕ) (is_new : Bool) (count : ℕ)
    → IsTable files ms t → IsRow files m row → name ≡ m.name → is_new ≡ not (is_some (value_of t.numbers name)) → is_new ≡ true → count ≡ length t.rows
    → ((q : List ℕ) → value_of new.numbers q ≡ option_or (value_of t.numbers q) (only name count q)) → new.rows ≡ t.rows ++ row ∷ []
    → IsTable files (ms ++ m ∷ []) new
adds files ms t new m row name is_new count h r named e fresh long put rows = record {
  rows = subst (λ (rs : List ModuleRow). (n : ℕ) → IsRowAt files (slice_get (ms ++ m ∷ []) n) (slice_get rs n)) (sym rows)
      (rows-more files ms t.rows m row h.rows r);
  numbers = λ q. put q ∙ ap (λ o. option_or o (only name count q)) (h.numbers q)
      ∙ ap (λ (n : List ℕ). option_or (number (module_named ms q)) (only n count q)) named
      ∙ ap (λ k. option_or (number (module_named ms q)) (only m.name k q)) (long ∙ same-length files ms t.rows h.rows)
      ∙ number-or (module_named ms q) (bytes_eq q m.name) (length ms) m
      ∙ ap (λ k. number (option_or (module_named ms q) (cond (bytes_eq q m.name) (Some (k, m)) None))) (from_0 (length ms))
      ∙ ap number (sym (module-more 0 ms m q));
  single = still-single ms m h.single (ap (λ n. is_some (module_named ms n)) (sym named) ∙ there files ms t name is_new h e ∙ ap not fresh);
}
  where
    from_0 : (n : ℕ) → n ≡ 0 + n
    from_0 n = omega arith

-- a name that stands before
pub second : (files : List SourceFile) (ms : List Module) (t : ModuleTable) (m : Module) (name : List ℕ) (is_new : Bool) → IsTable files ms t
    → name ≡ m.name → is_new ≡ not (is_some (value_of t.numbers name)) → is_new ≡ false → IsSecond (ms ++ m ∷ []) (fault.Duplicate m.place)
second files ms t m name is_new h named e old =
    is-second ms m h.single (ap (λ n. is_some (module_named ms n)) (sym named) ∙ there files ms t name is_new h e ∙ ap not old)

-- the second of its name is so whatever stands behind it
pub second-further : (ms more : List Module) (f : ElabFault) → IsSecond ms f → IsSecond (ms ++ more) f
second-further ms more fault.NoMemory h = tt
second-further ms more (fault.Duplicate p) h = λ rest found. ap (λ l. top_fault (second_name [] l) found) (append_assoc ms more rest) ∙ h (more ++ rest) found
second-further ms more (fault.NoTop p) h = λ rest found. ap (λ l. top_fault (second_name [] l) found) (append_assoc ms more rest) ∙ h (more ++ rest) found
second-further ms more (fault.NotConstant p) h = λ rest found. ap (λ l. top_fault (second_name [] l) found) (append_assoc ms more rest) ∙ h (more ++ rest) found
second-further ms more (fault.BadSelect p) h = λ rest found. ap (λ l. top_fault (second_name [] l) found) (append_assoc ms more rest) ∙ h (more ++ rest) found
second-further ms more (fault.BadRange p) h = λ rest found. ap (λ l. top_fault (second_name [] l) found) (append_assoc ms more rest) ∙ h (more ++ rest) found
second-further ms more (fault.WidthPast128 p) h = λ rest found. ap (λ l. top_fault (second_name [] l) found) (append_assoc ms more rest)
    ∙ h (more ++ rest) found
second-further ms more (fault.BadGenvar p) h = λ rest found. ap (λ l. top_fault (second_name [] l) found) (append_assoc ms more rest) ∙ h (more ++ rest) found
second-further ms more (fault.UnknownModule p) h = λ rest found. ap (λ l. top_fault (second_name [] l) found) (append_assoc ms more rest)
    ∙ h (more ++ rest) found
second-further ms more (fault.BadOverride p) h = λ rest found. ap (λ l. top_fault (second_name [] l) found) (append_assoc ms more rest) ∙ h (more ++ rest) found
second-further ms more (fault.Recursive p) h = λ rest found. ap (λ l. top_fault (second_name [] l) found) (append_assoc ms more rest) ∙ h (more ++ rest) found
second-further ms more (fault.Limit l) h = λ rest found. ap (λ l. top_fault (second_name [] l) found) (append_assoc ms more rest) ∙ h (more ++ rest) found

-- ---- modules one after the other

pub not_true : (b : Bool) → not b ≡ true → b ≡ false
not_true true h = cc
not_true false h = refl

pub not_false : (b : Bool) → not b ≡ false → b ≡ true
not_false true h = refl
not_false false h = cc

get-at : {X : Type 0} (xs : List X) (i : ℕ) (x : X) → i < length xs → x ≡ get_or xs i x → slice_get xs i ≡ Some x
get-at [] i x lt e = absurd (omega arith)
get-at (y ∷ xs) zero x lt e = ap Some (sym e)
get-at (y ∷ xs) (suc i) x lt e = get-at xs i x (omega arith) e

pub file-at : (files : List SourceFile) (i : ℕ) (f : SourceFile) → i < length files → f ≡ get_or files i f → slice_get files i ≡ Some f
file-at files i f lt e = get-at files i f lt e

pub placed : (files : List SourceFile) (number i : ℕ) (f : SourceFile) (mods : List Module) (m : Module) → slice_get files number ≡ Some f → mods ≡ f.modules
    → i < length mods → m ≡ get_or mods i m → module_at files number i ≡ Some m
placed files number i f mods m at same lt e =
    ap (λ o. and_then o (λ (g : SourceFile). slice_get g.modules i)) at ∙ ap (λ l. slice_get l i) (sym same) ∙ get-at mods i m lt e

one-more : {X : Type 0} (xs : List X) (i : ℕ) (x : X) → i < length xs → x ≡ get_or xs i x → take i xs ++ x ∷ [] ≡ take (i + 1) xs
one-more {X} xs i x lt e = sym (take_more xs i x lt ∙ ap (λ (y : X). take i xs ++ y ∷ []) (sym e))

pub module-further : (files : List SourceFile) (ms mods : List Module) (i : ℕ) (m : Module) (t : ModuleTable) → i < length mods → m ≡ get_or mods i m
    → IsTable files ((ms ++ take i mods) ++ m ∷ []) t → IsTable files (ms ++ take (i + 1) mods) t
module-further files ms mods i m t lt e h =
    subst (λ l. IsTable files l t) (append_assoc ms (take i mods) (m ∷ []) ∙ ap (λ l. ms ++ l) (one-more mods i m lt e)) h

-- the fault of one module is that of all
pub module-fails : (ms mods all : List Module) (i : ℕ) (m : Module) (f : ElabFault) → i < length mods → m ≡ get_or mods i m → mods ≡ all
    → IsSecond ((ms ++ take i mods) ++ m ∷ []) f → IsSecond (ms ++ all) f
module-fails ms mods all i m f lt e same h =
    subst (λ l. IsSecond l f)
    (append_assoc (ms ++ take i mods) (m ∷ []) (drop (i + 1) mods)
    ∙ append_assoc ms (take i mods) (m ∷ drop (i + 1) mods)
    ∙ ap (λ l. ms ++ l) (sym (append_assoc (take i mods) (m ∷ []) (drop (i + 1) mods))
    ∙ ap (λ l. l ++ drop (i + 1) mods) (one-more mods i m lt e) ∙ take-append-drop (i + 1) mods ∙ same))
    (second-further ((ms ++ take i mods) ++ m ∷ []) (drop (i + 1) mods) f h)

abbrev of_file : SourceFile → List Module
of_file f = f.modules

pub file-further : (files : List SourceFile) (i : ℕ) (f : SourceFile) (t : ModuleTable) → i < length files → f ≡ get_or files i f
    → IsTable files (modules (take i files) ++ f.modules) t → IsTable files (modules (take (i + 1) files)) t
file-further files i f t lt e h =
    subst (λ l. IsTable files l t)
    (ap (λ l. modules (take i files) ++ l) (sym (append-nil f.modules)) ∙ sym (flat_map-append of_file (take i files) (f ∷ []))
    ∙ ap modules (one-more files i f lt e)) h

pub file-fails : (files : List SourceFile) (i : ℕ) (f : SourceFile) (fault : ElabFault) → i < length files → f ≡ get_or files i f
    → IsSecond (modules (take i files) ++ f.modules) fault → IsSecond (modules files) fault
file-fails files i f fault lt e h =
    subst (λ l. IsSecond l fault)
    (ap (λ l. l ++ modules (drop (i + 1) files)) (ap (λ l. modules (take i files) ++ l) (sym (append-nil f.modules))
    ∙ sym (flat_map-append of_file (take i files) (f ∷ [])))
    ∙ sym (flat_map-append of_file (take i files ++ f ∷ []) (drop (i + 1) files))
    ∙ ap (λ l. modules (l ++ drop (i + 1) files)) (one-more files i f lt e) ∙ ap modules (take-append-drop (i + 1) files))
    (second-further (modules (take i files) ++ f.modules) (modules (drop (i + 1) files)) fault h)

none-named : (q : List ℕ) → module_named [] q ≡ None
unfolding module_from
none-named q = refl

pub none-yet : (files : List SourceFile) (t : ModuleTable) → t.rows ≡ [] → ((q : List ℕ) → value_of t.numbers q ≡ None) → IsTable files [] t
none-yet files t rows empty = record {
  rows = λ n. subst (λ (rs : List ModuleRow). IsRowAt files None (slice_get rs n)) (sym rows) tt;
  numbers = λ q. empty q ∙ ap number (sym (none-named q));
  single = none-second;
}

pub rows-long : (files : List SourceFile) (ms : List Module) (t : ModuleTable) → IsTable files ms t → length t.rows ≡ length ms
rows-long files ms t h = same-length files ms t.rows h.rows
