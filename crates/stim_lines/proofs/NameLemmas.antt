-- Names of inputs among fields.
use Rattle.std.proofs.Common.{◌≡◌, ℕ, ◌+◌, Bool, true, false, cond, zero, suc, List, [], ◌∷◌, ◌++◌, map, take, drop, Option, Some, refl, sym, ◌∙◌, ap, arith}
use Rattle.std.specs.Prelude.{find, ◌||◌, ◌&&◌}
use Rattle.std.specs.List.{list_all, list_any}
use Rattle.std.specs.Option.{option_map_or}
use Rattle.std.specs.Str.{bytes_eq}
use Rattle.cov_types.specs.declared.var.Var.{Var}
use Rattle.design_tree.specs.declared.design.Input as design
use Rattle.stim_lines.specs.Header.{Input, fields_fault, input_of, is_among, names_of}
use Rattle.stim_lines.specs.Layouts.{column_of}
use Rattle.stim_lines.specs.RowLines.{width_of}

-- the names of inputs
pub names-any : (vars : List Var) (inputs : List design.Input) (field : List ℕ)
    → list_any (λ (i : design.Input). bytes_eq field i.name) inputs ≡ is_among (names_of (map (input_of vars) inputs)) field
names-any vars [] field = refl
names-any vars (i ∷ is) field = ap (λ (t : Bool). bytes_eq field i.name || t) (names-any vars is field)

pub names-all : (vars : List Var) (inputs : List design.Input) (fields : List (List ℕ))
    → list_all (λ (i : design.Input). is_among fields i.name) inputs ≡ list_all (is_among fields) (names_of (map (input_of vars) inputs))
names-all vars [] fields = refl
names-all vars (i ∷ is) fields = ap (λ (t : Bool). is_among fields i.name && t) (names-all vars is fields)

-- the first input with a name
pub width-found : (vars : List Var) (inputs : List design.Input) (name : List ℕ)
    → width_of (map (input_of vars) inputs) name
    ≡ option_map_or (λ (i : design.Input). (input_of vars i).width) (find (λ (i : design.Input). bytes_eq i.name name) inputs) 0
width-found vars [] name = refl
width-found vars (i ∷ is) name = by (width-found vars is name) (bytes_eq i.name name)
  where
    by : width_of (map (input_of vars) is) name
        ≡ option_map_or (λ (j : design.Input). (input_of vars j).width) (find (λ (j : design.Input). bytes_eq j.name name) is) 0 → (t : Bool)
        → option_map_or (λ (j : Input). j.width) (cond t (Some (input_of vars i)) (find (λ (j : Input). bytes_eq j.name name) (map (input_of vars) is))) 0
        ≡ option_map_or (λ (j : design.Input). (input_of vars j).width) (cond t (Some i) (find (λ (j : design.Input). bytes_eq j.name name) is)) 0
    by more true = refl
    by more false = more

-- one more element from the front of what is left
pub taken-more : (k : ℕ) (xs : List (List ℕ)) (y : List ℕ) (ys : List (List ℕ)) → drop k xs ≡ y ∷ ys → take (suc k) xs ≡ take k xs ++ y ∷ []
taken-more zero [] y ys e = absurd (cc)
taken-more zero (x ∷ xs) y ys e = let same : x ≡ y = cc in rw same refl
taken-more (suc k) [] y ys e = absurd (cc)
taken-more (suc k) (x ∷ xs) y ys e = ap (λ (zs : List (List ℕ)). x ∷ zs) (taken-more k xs y ys e)

pub dropped-more : (k : ℕ) (xs : List (List ℕ)) (y : List ℕ) (ys : List (List ℕ)) → drop k xs ≡ y ∷ ys → drop (suc k) xs ≡ ys
dropped-more zero [] y ys e = absurd (cc)
dropped-more zero (x ∷ xs) y ys e = cc
dropped-more (suc k) [] y ys e = absurd (cc)
dropped-more (suc k) (x ∷ xs) y ys e = dropped-more k xs y ys e

-- the columns of inputs
pub columns-named : (vars : List Var) (inputs : List design.Input) (fields : List (List ℕ))
    → map (λ (i : design.Input). column_of fields i.name) inputs ≡ map (λ (i : Input). column_of fields i.name) (map (input_of vars) inputs)
columns-named vars [] fields = refl
columns-named vars (i ∷ is) fields = ap (λ (ns : List ℕ). column_of fields i.name ∷ ns) (columns-named vars is fields)

-- the width of the input that was found
pub width-here : (vars : List Var) (inputs : List design.Input) (name : List ℕ) (found : Option design.Input)
    → found ≡ find (λ (i : design.Input). bytes_eq i.name name) inputs
    → width_of (map (input_of vars) inputs) name ≡ option_map_or (λ (i : design.Input). (input_of vars i).width) found 0
width-here vars inputs name found e = width-found vars inputs name
    ∙ ap (λ (o : Option design.Input). option_map_or (λ (i : design.Input). (input_of vars i).width) o 0) (sym e)

-- a field that names an input, and none that an earlier field names
pub fields-step : (inputs : List Input) (n k : ℕ) (fields rest more : List (List ℕ)) (field : List ℕ) → rest ≡ field ∷ more → drop k fields ≡ rest
    → is_among (names_of inputs) field ≡ true → is_among (take k fields) field ≡ false
    → fields_fault inputs n (take (k + 1) fields) more ≡ fields_fault inputs n (take k fields) rest
fields-step inputs n k fields rest more field e d known fresh =
    let one : k + 1 ≡ suc k = omega arith in rw (one, taken-more k fields field more (d ∙ e), e, known, fresh) refl
