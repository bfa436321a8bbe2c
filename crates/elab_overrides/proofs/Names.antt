-- Names in tables, and names that stand twice.
use Rattle.std.proofs.Common.{◌≡◌, ◌∙◌, sym, ap, refl, subst, ℕ, ◌+◌, ◌<◌, length, take, get_or, Bool, true, false, not, ◌||◌, cond, List, [], ◌∷◌, ◌++◌, map}
use Rattle.std.proofs.Common.{Option, Some, None, is_some}
use Rattle.std.proofs.lemmas.List.Folds.{list_any-append}
use Rattle.std.proofs.lemmas.List.{map-append, take_more}
use Rattle.std.proofs.lemmas.Cmp.{nat_list_eq_equiv}
use Rattle.std.specs.List.{list_any}
use Rattle.std.specs.Option.{option_or}
use Rattle.std.specs.Str.{bytes_eq}
use Rattle.vlog_tree.specs.declared.item.NamedConn.{NamedConn}
use Rattle.scope_meaning.specs.Declared.{is_in}
use Rattle.scope_meaning.specs.Overrides.{has_twice}
use Rattle.name_table.specs.declared.table.NameTable.{NameTable}
use Rattle.name_table.specs.Tables.{value_of, only}
use Rattle.elab_overrides.specs.Overrides.{AreAmong, are_bad_named}

or_false : (a : Bool) → (a || false) ≡ a
or_false true = refl
or_false false = refl

pub any-more : {X : Type 0} (p : X → Bool) (xs : List X) (x : X) → list_any p (xs ++ x ∷ []) ≡ (list_any p xs || p x)
any-more p xs x = list_any-append p xs (x ∷ []) ∙ ap (λ b. list_any p xs || b) (or_false (p x))

some_or : (a : Option Unit) (b : Bool) → is_some (option_or a (cond b (Some tt) None)) ≡ (is_some a || b)
some_or (Some x) b = refl
some_or None true = refl
some_or None false = refl

-- one name more
pub with_name : (names : List (List ℕ)) (old new : NameTable Unit) (name : List ℕ) → AreAmong names old
    → ((q : List ℕ) → value_of new q ≡ option_or (value_of old q) (only name tt q)) → AreAmong (names ++ name ∷ []) new
with_name names old new name h put q =
    ap is_some (put q) ∙ some_or (value_of old q) (bytes_eq q name) ∙ ap (λ b. b || bytes_eq q name) (h q) ∙ sym (any-more (bytes_eq q) names name)

pub eq-sym : (a b : List ℕ) → bytes_eq a b ≡ bytes_eq b a
eq-sym = nat_list_eq_equiv.symm

swap : (a b c d : Bool) → ((a || b) || (c || d)) ≡ ((a || c) || (b || d))
swap true b c d = refl
swap false true true d = refl
swap false true false d = refl
swap false false c d = refl

-- a name more stands twice where it did before, or where it is one of those before
pub twice-more : (ns : List (List ℕ)) (n : List ℕ) → has_twice (ns ++ n ∷ []) ≡ (has_twice ns || is_in n ns)
twice-more [] n = refl
twice-more (m ∷ ns) n =
    ap (λ b. b || has_twice (ns ++ n ∷ [])) (any-more (bytes_eq m) ns n)
    ∙ ap (λ b. (is_in m ns || bytes_eq m n) || b) (twice-more ns n)
    ∙ swap (is_in m ns) (bytes_eq m n) (has_twice ns) (is_in n ns)
    ∙ ap (λ b. (is_in m ns || has_twice ns) || (b || is_in n ns)) (eq-sym m n)

four : (a b c d : Bool) → ((a || b) || (c || d)) ≡ ((a || d) || (b || c))
four true b c d = refl
four false true c true = refl
four false true c false = refl
four false false true true = refl
four false false true false = refl
four false false false true = refl
four false false false false = refl

-- one value by name more
pub bad-more : (names : List (List ℕ)) (cs : List NamedConn) (c : NamedConn)
    → are_bad_named names (cs ++ c ∷ []) ≡ (are_bad_named names cs || (is_in c.name (map (λ c. c.name) cs) || not (is_in c.name names)))
bad-more names cs c =
    ap (λ b. b || has_twice (map (λ c. c.name) (cs ++ c ∷ []))) (any-more (λ c. not (is_in c.name names)) cs c)
    ∙ ap (λ ns. (list_any (λ c. not (is_in c.name names)) cs || not (is_in c.name names)) || has_twice ns) (map-append (λ (c : NamedConn). c.name) cs (c ∷ []))
    ∙ ap (λ b. (list_any (λ c. not (is_in c.name names)) cs || not (is_in c.name names)) || b) (twice-more (map (λ c. c.name) cs) c.name)
    ∙ sym (four (list_any (λ c. not (is_in c.name names)) cs) (has_twice (map (λ c. c.name) cs)) (is_in c.name (map (λ c. c.name) cs))
    (not (is_in c.name names)))

-- the first values, and one more
next : (vs : List NamedConn) (i : ℕ) (v : NamedConn) → i < length vs → v ≡ get_or vs i v → take (i + 1) vs ≡ take i vs ++ v ∷ []
next vs i v lt is = take_more vs i v lt ∙ ap (λ (x : NamedConn). take i vs ++ x ∷ []) (sym is)

abbrev names_in : List NamedConn → List (List ℕ)
names_in = map (λ c. c.name)

pub seen-more : (vs : List NamedConn) (i : ℕ) (v : NamedConn) (name : List ℕ) (old new : NameTable Unit) → i < length vs → v ≡ get_or vs i v → name ≡ v.name
    → AreAmong (names_in (take i vs)) old → ((q : List ℕ) → value_of new q ≡ option_or (value_of old q) (only name tt q))
    → AreAmong (names_in (take (i + 1) vs)) new
seen-more vs i v name old new lt is named h put =
    subst (λ (ns : List (List ℕ)). AreAmong ns new)
    (ap (λ (n : List ℕ). names_in (take i vs) ++ n ∷ []) named ∙ sym (ap names_in (next vs i v lt is)
    ∙ map-append (λ (c : NamedConn). c.name) (take i vs) (v ∷ [])))
    (with_name (names_in (take i vs)) old new name h put)

not_not : (a : Bool) → not (not a) ≡ a
not_not true = refl
not_not false = refl

pub bad-step : (names : List (List ℕ)) (vs : List NamedConn) (i : ℕ) (v : NamedConn) (name : List ℕ) (old : NameTable Unit) (bad is_new known after : Bool)
    → i < length vs → v ≡ get_or vs i v → name ≡ v.name → AreAmong (names_in (take i vs)) old → bad ≡ are_bad_named names (take i vs)
    → is_new ≡ not (is_some (value_of old name)) → known ≡ is_in name names → after ≡ (bad || (not is_new || not known))
    → after ≡ are_bad_named names (take (i + 1) vs)
bad-step names vs i v name old bad is_new known after lt is named h b n k a =
    a ∙ ap (λ x. x || (not is_new || not known)) b
    ∙ ap (λ x. are_bad_named names (take i vs) || (x || not known)) (ap not n ∙ not_not (is_some (value_of old name)) ∙ h name)
    ∙ ap (λ x. are_bad_named names (take i vs) || (is_in name (names_in (take i vs)) || not x)) k
    ∙ ap (λ x. are_bad_named names (take i vs) || (is_in x (names_in (take i vs)) || not (is_in x names))) named
    ∙ sym (ap (are_bad_named names) (next vs i v lt is) ∙ bad-more names (take i vs) v)
