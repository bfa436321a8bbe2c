-- One name more in a scope.
use Rattle.std.proofs.Common.{◌≡◌, ◌∙◌, sym, ap, refl, subst, ℕ, ◌+◌, ◌<◌, Bool, true, false, not, ◌||◌, List, [], ◌∷◌, ◌++◌, length, take, get_or, map}
use Rattle.std.proofs.Common.{append_assoc, is_some}
use Rattle.std.proofs.lemmas.List.{map-append, take_more}
use Rattle.std.proofs.lemmas.List.Folds.{list_any-append}
use Rattle.std.specs.List.{list_any}
use Rattle.std.specs.Option.{option_or}
use Rattle.std.specs.Str.{bytes_eq}
use Rattle.vlog_tree.specs.declared.item.Item.{Item}
use Rattle.scope_meaning.specs.Declared.{Declared, declares, is_in, names_of}
use Rattle.scope_meaning.specs.Overrides.{has_twice}
use Rattle.name_table.specs.declared.table.NameTable.{NameTable}
use Rattle.name_table.specs.Tables.{value_of, only}
use Rattle.elab_overrides.specs.Overrides.{AreAmong}
use Rattle.elab_overrides.proofs.Names.{any-more, twice-more, with_name}
use Rattle.elab_names.specs.declared.declared.DeclaredName.{DeclaredName}
use Rattle.elab_names.specs.DeclaredNames.{seen}
use Rattle.elab_blocks.specs.Duplicates.{is_duplicate, names_in}

not_not : (a : Bool) → not (not a) ≡ a
not_not true = refl
not_not false = refl

or_false : (a : Bool) → (a || false) ≡ a
or_false true = refl
or_false false = refl

-- what a table says of a name that is put into it
pub was_there : (before : List (List ℕ)) (old : NameTable Unit) (name : List ℕ) (is_new : Bool) → AreAmong before old
    → is_new ≡ not (is_some (value_of old name)) → not is_new ≡ is_in name before
was_there before old name is_new h n = ap not n ∙ not_not (is_some (value_of old name)) ∙ h name

pub one-twice : (before : List (List ℕ)) (old : NameTable Unit) (name : List ℕ) (is_new : Bool) → AreAmong before old
    → is_new ≡ not (is_some (value_of old name)) → not is_new ≡ is_duplicate before (name ∷ [])
one-twice before old name is_new h n = was_there before old name is_new h n ∙ sym (or_false (is_in name before))

four : (h a i b : Bool) → ((h || i) || (a || b)) ≡ ((h || a) || (b || i))
four true a i b = refl
four false true true b = refl
four false true false b = refl
four false false true true = refl
four false false true false = refl
four false false false true = refl
four false false false false = refl

-- one name more
duplicate-more : (before ns : List (List ℕ)) (n : List ℕ) → is_duplicate before (ns ++ n ∷ []) ≡ (is_duplicate before ns || is_in n (before ++ ns))
duplicate-more before ns n =
    ap (λ b. b || list_any (λ m. is_in m before) (ns ++ n ∷ [])) (twice-more ns n)
    ∙ ap (λ b. (has_twice ns || is_in n ns) || b) (any-more (λ m. is_in m before) ns n)
    ∙ four (has_twice ns) (list_any (λ m. is_in m before) ns) (is_in n ns) (is_in n before)
    ∙ ap (λ b. is_duplicate before ns || b) (sym (list_any-append (bytes_eq n) before ns))

abbrev among : List (List ℕ) → List DeclaredName → NameTable Unit → Type 0
among before ds table = AreAmong (before ++ names_in ds) table

names-more : (ds : List DeclaredName) (i : ℕ) (d : DeclaredName) → i < length ds → d ≡ get_or ds i d
    → names_in (take (i + 1) ds) ≡ names_in (take i ds) ++ d.name ∷ []
names-more ds i d lt is =
    ap names_in (take_more ds i d lt ∙ ap (λ (e : DeclaredName). take i ds ++ e ∷ []) (sym is)) ∙ map-append (λ (e : DeclaredName). e.name) (take i ds) (d ∷ [])

pub step-names : (before : List (List ℕ)) (ds : List DeclaredName) (i : ℕ) (d : DeclaredName) (name : List ℕ) (old new : NameTable Unit) → i < length ds
    → d ≡ get_or ds i d → name ≡ d.name → among before (take i ds) old → ((q : List ℕ) → value_of new q ≡ option_or (value_of old q) (only name tt q))
    → among before (take (i + 1) ds) new
step-names before ds i d name old new lt is named h put =
    subst (λ (ns : List (List ℕ)). AreAmong ns new)
    (append_assoc before (names_in (take i ds)) (name ∷ [])
    ∙ ap (λ (ns : List (List ℕ)). before ++ ns)
    (ap (λ (n : List ℕ). names_in (take i ds) ++ n ∷ []) named ∙ sym (names-more ds i d lt is)))
    (with_name (before ++ names_in (take i ds)) old new name h put)

pub step-bad : (before : List (List ℕ)) (ds : List DeclaredName) (i : ℕ) (d : DeclaredName) (name : List ℕ) (old : NameTable Unit) (bad is_new after : Bool)
    → i < length ds → d ≡ get_or ds i d → name ≡ d.name → among before (take i ds) old → bad ≡ is_duplicate before (names_in (take i ds))
    → is_new ≡ not (is_some (value_of old name)) → after ≡ (bad || not is_new) → after ≡ is_duplicate before (names_in (take (i + 1) ds))
step-bad before ds i d name old bad is_new after lt is named h b n a =
    a ∙ ap (λ x. x || not is_new) b
    ∙ ap (λ x. is_duplicate before (names_in (take i ds)) || x) (was_there (before ++ names_in (take i ds)) old name is_new h n)
    ∙ sym (duplicate-more before (names_in (take i ds)) name)
    ∙ ap (is_duplicate before) (ap (λ (n : List ℕ). names_in (take i ds) ++ n ∷ []) named ∙ sym (names-more ds i d lt is))

-- the names of an item
names-seen : (ds : List Declared) → names_in (map seen ds) ≡ map (λ (d : Declared). d.name) ds
names-seen [] = refl
names-seen (d ∷ ds) = ap (λ (ns : List (List ℕ)). d.name ∷ ns) (names-seen ds)

pub item-names : (item : Item) (all slice : List DeclaredName) → slice ≡ all → all ≡ map seen (declares item) → names_in slice ≡ names_of item
item-names item all slice same are = ap names_in (same ∙ are) ∙ names-seen (declares item)
