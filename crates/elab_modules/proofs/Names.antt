-- Modules by name, and the second of a name.
use Rattle.std.proofs.Common.{◌≡◌, ◌∙◌, sym, ap, refl, subst, ℕ, zero, suc, ◌+◌, Bool, true, false, not, cond, ◌||◌, List, [], ◌∷◌, ◌++◌, length, Option, Some}
use Rattle.std.proofs.Common.{None, is_some, append_assoc, arith}
use Rattle.std.specs.Prelude.{slice_get}
use Rattle.std.specs.Option.{option_or}
use Rattle.std.specs.Str.{bytes_eq}
use Rattle.std.proofs.lemmas.Slice.Eq.{bytes_eq-Decides}
use Rattle.vlog_tree.specs.declared.module.Module.{Module}
use Rattle.elab_types.specs.declared.elab_fault.ElabFault.TheVariants as fault
use Rattle.scope_meaning.specs.Constants.{option_of}
use Rattle.scope_meaning.specs.Declared.{is_in}
use Rattle.scope_meaning.specs.Heads.{module_from, module_named}
use Rattle.scope_meaning.specs.ScopeTrees.{second_name, top_fault}
use Rattle.cov_types.specs.declared.place.Place.{Place}

-- one module more by name
pub module-more : (k : ℕ) (ms : List Module) (m : Module) (q : List ℕ)
    → module_from k (ms ++ m ∷ []) q ≡ option_or (module_from k ms q) (cond (bytes_eq q m.name) (Some (k + length ms, m)) None)
unfolding module_from
module-more k [] m q = ap (λ n. cond (bytes_eq q m.name) (Some (n, m)) None) (omega arith)
module-more k (x ∷ ms) m q =
    elim (bytes_eq q x.name) as (λ b. cond b (Some (k, x)) (module_from (k + 1) (ms ++ m ∷ []) q)
    ≡ option_or (cond b (Some (k, x)) (module_from (k + 1) ms q)) (cond (bytes_eq q m.name) (Some (k + suc (length ms), m)) None)) [
      | true ↦ refl
      | false ↦ module-more (k + 1) ms m q
          ∙ ap (λ n. option_or (module_from (k + 1) ms q) (cond (bytes_eq q m.name) (Some (n, m)) None)) (next (length ms))
    ]
  where
    next : (l : ℕ) → (k + 1) + l ≡ k + suc l
    next l = omega arith

-- a module that is found has the name, and stands at its number
pub record IsNamed (k : ℕ) (ms : List Module) (q : List ℕ) (p : ℕ × Module) : Type 0 where
  pub behind : ℕ
  pub number : p.0 ≡ k + behind
  pub stands : slice_get ms behind ≡ Some p.1
  pub name : q ≡ p.1.name

here-or-behind : (k : ℕ) (x : Module) (ms : List Module) (q : List ℕ) (p : ℕ × Module) (rest : Option (ℕ × Module))
    → (rest ≡ Some p → IsNamed (k + 1) ms q p) → (b : Bool) → bytes_eq q x.name ≡ b → cond b (Some (k, x)) rest ≡ Some p → IsNamed k (x ∷ ms) q p
here-or-behind k x ms q p rest on true h e =
    let same : (k, x) ≡ p = cc in
    subst (IsNamed k (x ∷ ms) q) same (record { behind = 0; number = omega arith; stands = refl; name = (bytes_eq-Decides q x.name).0 h })
here-or-behind k x ms q p rest on false h e =
    let r = on e in
    record { behind = suc r.behind; number = let n = r.number in omega arith; stands = r.stands; name = r.name }

pub named-at : (k : ℕ) (ms : List Module) (q : List ℕ) (p : ℕ × Module) → module_from k ms q ≡ Some p → IsNamed k ms q p
unfolding module_from
named-at k [] q p e = cc
named-at k (x ∷ ms) q p e = here-or-behind k x ms q p (module_from (k + 1) ms q) (named-at (k + 1) ms q p) (bytes_eq q x.name) refl e

-- ---- the second of a name

abbrev onto : List (List ℕ) → List Module → List (List ℕ)
onto before [] = before
onto before (m ∷ ms) = onto (m.name ∷ before) ms

or_true : (a : Bool) → (a || true) ≡ true
or_true true = refl
or_true false = refl

or_false : (a : Bool) → (a || false) ≡ a
or_false true = refl
or_false false = refl

in-onto : (k : ℕ) (q : List ℕ) (before : List (List ℕ)) (ms : List Module) → is_in q (onto before ms) ≡ (is_in q before || is_some (module_from k ms q))
unfolding module_from
in-onto k q before [] = sym (or_false (is_in q before))
in-onto k q before (m ∷ ms) =
    in-onto (k + 1) q (m.name ∷ before) ms
    ∙ elim (bytes_eq q m.name) as (λ b. ((b || is_in q before) || is_some (module_from (k + 1) ms q))
    ≡ (is_in q before || is_some (cond b (Some (k, m)) (module_from (k + 1) ms q)))) [ true ↦ sym (or_true (is_in q before)) | false ↦ refl ]

passed : (p : Place) (now later to : Option Place) → (now ≡ None → later ≡ to) → (b : Bool) → cond b (Some p) now ≡ None → cond b (Some p) later ≡ to
passed p now later to on true e = cc
passed p now later to on false e = on e

behind : (before : List (List ℕ)) (ms rest : List Module) → second_name before ms ≡ None → second_name before (ms ++ rest) ≡ second_name (onto before ms) rest
unfolding second_name
behind before [] rest e = refl
behind before (m ∷ ms) rest e =
    passed m.place (second_name (m.name ∷ before) ms) (second_name (m.name ∷ before) (ms ++ rest)) (second_name (onto (m.name ∷ before) ms) rest)
    (behind (m.name ∷ before) ms rest) (is_in m.name before) e

at_name : (names : List (List ℕ)) (m : Module) (rest : List Module) (b : Bool) → is_in m.name names ≡ b
    → second_name names (m ∷ rest) ≡ cond b (Some m.place) (second_name (m.name ∷ names) rest)
unfolding second_name
at_name names m rest b h = ap (λ b. cond b (Some m.place) (second_name (m.name ∷ names) rest)) h

none_behind : (names : List (List ℕ)) → second_name names [] ≡ None
unfolding second_name
none_behind names = refl

pub none-second : second_name [] [] ≡ None
none-second = none_behind []

pub still-single : (ms : List Module) (m : Module) → second_name [] ms ≡ None → is_some (module_named ms m.name) ≡ false → second_name [] (ms ++ m ∷ []) ≡ None
still-single ms m e h =
    behind [] ms (m ∷ []) e ∙ at_name (onto [] ms) m [] false (in-onto 0 m.name [] ms ∙ h) ∙ none_behind (m.name ∷ onto [] ms)

pub is-second : (ms : List Module) (m : Module) → second_name [] ms ≡ None → is_some (module_named ms m.name) ≡ true → (rest : List Module)
    → (found : Option (ℕ × Module)) → top_fault (second_name [] ((ms ++ m ∷ []) ++ rest)) found ≡ Some (fault.Duplicate m.place)
is-second ms m e h rest found =
    ap (λ o. top_fault o found) (ap (second_name []) (append_assoc ms (m ∷ []) rest) ∙ behind [] ms (m ∷ rest) e
    ∙ at_name (onto [] ms) m rest true (in-onto 0 m.name [] ms ∙ h))
