-- The widths of the inputs of a design whose inputs have different names.
use Rattle.std.proofs.Common.{◌≡◌, ◌≢◌, ℕ, ◌+◌, ◌<◌, Bool, true, false, cond, not, suc, List, [], ◌∷◌, length, map, None, refl, sym, ◌∙◌, ap, arith}
use Rattle.std.specs.Prelude.{AllPairs, slice_index, slice_index_or, ◌||◌, ◌&&◌}
use Rattle.std.specs.List.{list_all}
use Rattle.std.specs.Str.{bytes_eq}
use Rattle.std.proofs.lemmas.Slice.Eq.{bytes_eq-Decides}
use Rattle.cov_types.specs.declared.var.Var.{Var}
use Rattle.design_tree.specs.declared.design.Input as design
use Rattle.stim_lines.specs.Header.{Input, fields_fault, header_fault, input_of, is_among, missing_fault, names_of}
use Rattle.stim_lines.specs.Layouts.{column_of, input_widths, layout_of, placed}
use Rattle.stim_lines.specs.RowLines.{width_of}
use Rattle.stim_lines.specs.declared.fault.StimFault.TheVariants.{MissingInput}
use Rattle.stim_lines.proofs.LayoutLemmas.{none-second, test-passed}

same-text : (a b : List ℕ) → bytes_eq a b ≡ true → a ≡ b
same-text a b e = (bytes_eq-Decides a b).0 e

text-same : (a b : List ℕ) → a ≡ b → bytes_eq a b ≡ true
text-same a b e = (bytes_eq-Decides a b).1 e

other-text : (a b : List ℕ) → (a ≡ b → ⊥) → bytes_eq a b ≡ false
other-text a b ne = by (bytes_eq a b) refl
  where
    by : (t : Bool) → bytes_eq a b ≡ t → bytes_eq a b ≡ false
    by true e = absurd (ne (same-text a b e))
    by false e = e

-- the width of the column of a name
width-at : (inputs : List Input) (header : List (List ℕ)) (name : List ℕ) → is_among header name ≡ true
    → slice_index (map (width_of inputs) header) (column_of header name) ≡ width_of inputs name
width-at inputs [] name e = absurd (cc)
width-at inputs (h ∷ hs) name e = by (λ more. width-at inputs hs name more) (bytes_eq h name) refl
  where
    by : (is_among hs name ≡ true → slice_index (map (width_of inputs) hs) (column_of hs name) ≡ width_of inputs name) → (t : Bool) → bytes_eq h name ≡ t
        → slice_index (map (width_of inputs) (h ∷ hs)) (cond (not t) (1 + column_of hs name) 0) ≡ width_of inputs name
    by rest true same = ap (width_of inputs) (same-text h name same)
    by rest false other =
        let one : 1 + column_of hs name ≡ suc (column_of hs name) = omega arith in
        let differ : bytes_eq name h ≡ false = other-text name h (λ f. absurd (let no : bytes_eq h name ≡ true = text-same h name (sym f) in cc)) in
        let more : is_among hs name ≡ true = ap (λ (t : Bool). t || is_among hs name) (sym differ) ∙ e in
        rw one (rest more)

both-first : (a b : Bool) → (a && b) ≡ true → a ≡ true
both-first true b e = refl
both-first false b e = e

both-second : (a b : Bool) → (a && b) ≡ true → b ≡ true
both-second true b e = e
both-second false b e = absurd (cc)

widths-at : (inputs is : List Input) (header : List (List ℕ)) → list_all (is_among header) (names_of is) ≡ true
    → placed (map (width_of inputs) header) (map (λ (i : Input). column_of header i.name) is) ≡ map (λ (i : Input). width_of inputs i.name) is
widths-at inputs [] header e = refl
widths-at inputs (i ∷ is) header e =
    let first = both-first (is_among header i.name) (list_all (is_among header) (names_of is)) e in
    let rest = both-second (is_among header i.name) (list_all (is_among header) (names_of is)) e in
    rw (width-at inputs header i.name first, widths-at inputs is header rest) refl

-- an input with another name doesn't count
others : (vars : List Var) (d : design.Input) (rest js : List design.Input) → ((k : ℕ) (e : design.Input) → k < length js
    → d.name ≢ (slice_index_or js k e).name)
    → map (λ (i : Input). width_of (input_of vars d ∷ map (input_of vars) rest) i.name) (map (input_of vars) js)
    ≡ map (λ (i : Input). width_of (map (input_of vars) rest) i.name) (map (input_of vars) js)
others vars d rest [] differ = refl
others vars d rest (j ∷ js) differ =
    let one : bytes_eq d.name j.name ≡ false = other-text d.name j.name (differ 0 d (omega arith)) in
    rw (one, others vars d rest js (λ k e h. differ (suc k) e (omega arith))) refl

own-widths : (vars : List Var) (ds : List design.Input) → AllPairs (λ (a b : design.Input). a.name ≢ b.name) ds
    → map (λ (i : Input). width_of (map (input_of vars) ds) i.name) (map (input_of vars) ds) ≡ map (λ (i : Input). i.width) (map (input_of vars) ds)
own-widths vars [] differ = refl
own-widths vars (d ∷ ds) differ =
    rw (
      text-same d.name d.name refl,
      others vars d ds ds (λ k e h. differ 0 (suc k) e (omega arith) (omega arith)),
      own-widths vars ds (λ i j e lt h. differ (suc i) (suc j) e (omega arith) (omega arith)),
    ) refl

-- where a header has no fault, it names each input
pub all-named : (inputs : List Input) (n : ℕ) (fields : List (List ℕ)) → header_fault inputs n fields ≡ None
    → list_all (is_among fields) (names_of inputs) ≡ true
all-named inputs n fields e =
    test-passed (list_all (is_among fields) (names_of inputs)) (MissingInput n)
    (none-second (fields_fault inputs n [] fields) (missing_fault inputs n fields) e)

pub own_columns : (vars : List Var) (ds : List design.Input) (header : List (List ℕ)) → list_all (is_among header) (names_of (map (input_of vars) ds)) ≡ true
    → AllPairs (λ (a b : design.Input). a.name ≢ b.name) ds → input_widths (layout_of (map (input_of vars) ds) header)
    ≡ map (λ (i : Input). i.width) (map (input_of vars) ds)
own_columns vars ds header named differ = widths-at (map (input_of vars) ds) (map (input_of vars) ds) header named ∙ own-widths vars ds differ
