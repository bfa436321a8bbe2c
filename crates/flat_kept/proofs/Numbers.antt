-- The number of one variable more.
use Rattle.std.proofs.Common.{◌≡◌, ◌∙◌, sym, ap, refl, subst, ℕ, ◌+◌, ◌==◌, Bool, true, false, ◌&&◌, cond, List, [], ◌∷◌, ◌++◌, length}
use Rattle.std.proofs.Common.{Option, Some, None, arith}
use Rattle.std.specs.Option.{option_or}
use Rattle.std.specs.Str.{bytes_eq}
use Rattle.elab_types.specs.declared.flat_source.FlatVar.{FlatVar}
use Rattle.flat_source_meaning.specs.Environments.{is_variable, position_from, position}
use Rattle.name_table.specs.Tables.{only}
use Rattle.scope_table.specs.declared.table.ScopeTable.{ScopeTable}
use Rattle.scope_table.specs.Tables.{value_in, only_in}

position_push : (k : ℕ) (xs : List FlatVar) (x : FlatVar) (s : ℕ) (n : List ℕ)
    → position_from k (xs ++ x ∷ []) s n ≡ option_or (position_from k xs s n) (cond (is_variable s n x.scope x.name) (Some (k + length xs)) None)
unfolding position_from
position_push k [] x s n = let e : k ≡ k + 0 = omega arith in ap (λ m. cond (is_variable s n x.scope x.name) (Some m) None) e
position_push k (y ∷ ys) x s n = by (is_variable s n y.scope y.name) (position_push (k + 1) ys x s n)
  where
    by : (b : Bool) → position_from (k + 1) (ys ++ x ∷ []) s n
        ≡ option_or (position_from (k + 1) ys s n) (cond (is_variable s n x.scope x.name) (Some ((k + 1) + length ys)) None)
        → cond b (Some k) (position_from (k + 1) (ys ++ x ∷ []) s n)
        ≡ option_or (cond b (Some k) (position_from (k + 1) ys s n)) (cond (is_variable s n x.scope x.name) (Some (k + length (y ∷ ys))) None)
    by true rest = refl
    by false rest =
        let e : (k + 1) + length ys ≡ k + length (y ∷ ys) = omega arith in
        rest ∙ ap (λ m. option_or (position_from (k + 1) ys s n) (cond (is_variable s n x.scope x.name) (Some m) None)) e

only_there : (s : ℕ) (n : List ℕ) (scope : ℕ) (name : List ℕ) (k : ℕ) → only_in scope name k s n ≡ cond (is_variable s n scope name) (Some k) None
only_there s n scope name k = by (s == scope) (bytes_eq n name)
  where
    by : (a b : Bool) → cond a (cond b (Some k) None) None ≡ cond (a && b) (Some k) None
    by true b = refl
    by false b = refl

pub numbered_push : (old new : ScopeTable ℕ) (vars more : List FlatVar) (x : FlatVar) (name : List ℕ) (number : ℕ) → more ≡ vars ++ x ∷ []
    → number ≡ length vars → name ≡ x.name
    → ((s : ℕ) (n : List ℕ) → value_in new s n ≡ option_or (value_in old s n) (only_in x.scope name number s n))
    → ((s : ℕ) (n : List ℕ) → value_in old s n ≡ position vars s n) → (s : ℕ) (n : List ℕ) → value_in new s n ≡ position more s n
numbered_push old new vars more x name number is count named put h s n =
    put s n
    ∙ ap (λ (o : Option ℕ). option_or o (only_in x.scope name number s n)) (h s n)
    ∙ ap (option_or (position vars s n)) (only_there s n x.scope name number)
    ∙ ap (λ (m : List ℕ). option_or (position vars s n) (cond (is_variable s n x.scope m) (Some number) None)) named
    ∙ ap (λ k. option_or (position vars s n) (cond (is_variable s n x.scope x.name) (Some k) None)) count
    ∙ sym (position_push 0 vars x s n ∙ zero)
    ∙ ap (λ (xs : List FlatVar). position xs s n) (sym is)
  where
    zero : option_or (position vars s n) (cond (is_variable s n x.scope x.name) (Some (0 + length vars)) None)
        ≡ option_or (position vars s n) (cond (is_variable s n x.scope x.name) (Some (length vars)) None)
    zero = let e : 0 + length vars ≡ length vars = omega arith in ap (λ k. option_or (position vars s n) (cond (is_variable s n x.scope x.name) (Some k) None)) e

pub none_numbered : (numbers : ScopeTable ℕ) (vars : List FlatVar) → vars ≡ [] → ((s : ℕ) (n : List ℕ) → value_in numbers s n ≡ None)
    → (s : ℕ) (n : List ℕ) → value_in numbers s n ≡ position vars s n
unfolding position_from
none_numbered numbers vars is none s n = none s n ∙ ap (λ (xs : List FlatVar). position xs s n) (sym is)
