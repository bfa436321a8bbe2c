-- The first bad name, and the first whose base name stands already.
use Rattle.std.proofs.Common.{◌≡◌, ◌==◌, ℕ, ◌<◌, ◌≤◌, ◌-◌, ◌+◌, Bor, is_some, slice_index, Bool, true, false, cond, ◌||◌, not, List, [], ◌∷◌, ◌++◌, length}
use Rattle.std.proofs.Common.{drop, take, get_or, Option, None, Some, option_map, refl, sym, ap, ◌∙◌, arith, add-one, drop-cons}
use Rattle.std.specs.List.{list_any, suffix_len}
use Rattle.std.specs.Ordering.{is_eq}
use Rattle.std.specs.Str.{bytes_eq}
use Rattle.std.proofs.lemmas.List.{take_more}
use Rattle.std.proofs.lemmas.List.Folds.{list_any-append}
use Rattle.std.proofs.lemmas.List.Sums.{suffix_len_is}
use Rattle.std.proofs.lemmas.Map.Text.{is_eq-slice_cmp}
use Rattle.report_text.specs.FileNames.{bad_file_name, base_name, is_good_name, same_base_behind, same_base_name}
use Rattle.report_text.specs.Faults.{or_then, name_fault}
use Rattle.report_text.specs.declared.report_fault.ReportFault.{ReportFault}
use Rattle.report_text.specs.declared.report_fault.ReportFault.TheVariants as fault
use Rattle.cov_report.specs.Names.{bad_name_fault, bad_name_of, by_bytes, same_name_fault, same_name_of}

or_false : (b : Bool) → (b || false) ≡ b
or_false true = refl
or_false false = refl

some_either : (b : Bool) (k : ℕ) (o : Option ℕ) → is_some (cond b (Some k) o) ≡ (is_some o || b)
some_either true k None = refl
some_either true k (Some n) = refl
some_either false k None = refl
some_either false k (Some n) = refl

-- where no name is bad, the fault is that of the base names
pub no_bad_name : (names : List (List ℕ)) → bad_name_fault names ≡ None → name_fault names ≡ same_name_fault names
no_bad_name names none = ap (λ (o : Option ReportFault). or_then o (same_name_fault names)) none

-- a bad name is the fault
pub bad_name_first : (names : List (List ℕ)) (f : ReportFault) → bad_name_fault names ≡ Some f → name_fault names ≡ Some f
bad_name_first names f is = ap (λ (o : Option ReportFault). or_then o (same_name_fault names)) is

module _ (names : List (List ℕ)) (k : ℕ) (d : List ℕ) (within : k < length names) where
  drop_name : drop k names ≡ get_or names k d ∷ drop (k + 1) names
  drop_name = rw (add-one, drop-cons names k d) refl

  pub bad_name_here : bad_file_name (drop k names) ≡ bad_file_name names → is_good_name (get_or names k d) ≡ false
      → bad_name_fault names ≡ bad_name_of (get_or names k d)
  bad_name_here so_far bad = ap (λ (o : Option (List ℕ)). option_map fault.BadFileName o)
      (sym so_far ∙ ap bad_file_name drop_name ∙ ap (λ (b : Bool). cond (not b) (Some (get_or names k d)) (bad_file_name (drop (k + 1) names))) bad)

  pub good_name_here : bad_file_name (drop k names) ≡ bad_file_name names → is_good_name (get_or names k d) ≡ true
      → bad_file_name (drop (k + 1) names) ≡ bad_file_name names
  good_name_here so_far good =
      sym (ap (λ (b : Bool). cond (not b) (Some (get_or names k d)) (bad_file_name (drop (k + 1) names))) good) ∙ sym (ap bad_file_name drop_name) ∙ so_far

-- what stands behind the last `/`
pub base_from : (name : List ℕ) (from : ℕ) → from ≤ length name → ((k : ℕ) → from ≤ k → k < length name → (slice_index name k == 47) ≡ false) → (0 < from
    → slice_index name (from - 1) ≡ 47)
    → drop from name ≡ base_name name
base_from name from within passed stop =
    let suffix =
    suffix_len_is (λ (x : ℕ). not (x == 47)) name from 0 within (λ k a b. ap not (passed k a b)) (λ some. ap (λ (n : ℕ). not (n == 47)) (stop some)) in
    ap (λ (n : ℕ). drop n name) {x = from} {y = length name - suffix_len (λ (x : ℕ). not (x == 47)) name} (omega (arith, suffix))

module _ (names : List (List ℕ)) (k : ℕ) (d : List ℕ) (within : k < length names) where
  -- a base name that stands already
  pub same_name_here : same_base_behind (take k names) (drop k names) ≡ same_base_name names
      → list_any (λ other. bytes_eq (base_name other) (base_name (get_or names k d))) (take k names) ≡ true
      → same_name_fault names ≡ same_name_of (get_or names k d)
  same_name_here so_far again = ap (λ (o : Option (List ℕ)). option_map fault.SameBaseName o)
      (sym so_far ∙ ap (same_base_behind (take k names)) (drop_name names k d within)
      ∙ ap (λ (b : Bool). cond b (Some (get_or names k d)) (same_base_behind (take k names ++ get_or names k d ∷ []) (drop (k + 1) names))) again)

  -- one that doesn't
  pub other_name_here : same_base_behind (take k names) (drop k names) ≡ same_base_name names
      → list_any (λ other. bytes_eq (base_name other) (base_name (get_or names k d))) (take k names) ≡ false
      → same_base_behind (take (k + 1) names) (drop (k + 1) names) ≡ same_base_name names
  other_name_here so_far new =
      ap (λ (xs : List (List ℕ)). same_base_behind xs (drop (k + 1) names)) (take_more names k d within)
      ∙ sym (ap (λ (b : Bool). cond b (Some (get_or names k d)) (same_base_behind (take k names ++ get_or names k d ∷ []) (drop (k + 1) names))) new)
      ∙ sym (ap (same_base_behind (take k names)) (drop_name names k d within)) ∙ so_far

  -- the base names with one more
  pub bases_here : (b : Bor (List ℕ)) (G H : Bor (List ℕ) → Option ℕ) → b.now ≡ base_name (get_or names k d)
      → ((base : Bor (List ℕ)) → is_some (G base) ≡ list_any (λ other. bytes_eq (base_name other) base.now) (take k names))
      → ((base : Bor (List ℕ)) → H base ≡ cond (is_eq (by_bytes b base)) (Some k) (G base))
      → (base : Bor (List ℕ)) → is_some (H base) ≡ list_any (λ other. bytes_eq (base_name other) base.now) (take (k + 1) names)
  bases_here b G H is g h base =
      let test = λ (other : List ℕ). bytes_eq (base_name other) base.now in
      ap is_some (h base) ∙ some_either (is_eq (by_bytes b base)) k (G base)
      ∙ ap (λ (t : Bool). is_some (G base) || t) (is_eq-slice_cmp b.now base.now ∙ ap (λ (n : List ℕ). bytes_eq n base.now) is)
      ∙ ap (λ (t : Bool). t || test (get_or names k d)) (g base)
      ∙ ap (λ (t : Bool). list_any test (take k names) || t) (sym (or_false (test (get_or names k d))))
      ∙ sym (list_any-append test (take k names) (get_or names k d ∷ []))
      ∙ ap (list_any test) (sym (take_more names k d within))

-- whether a base name stands already
pub any_here : (names : List (List ℕ)) (k : ℕ) (d : List ℕ) (b : Bor (List ℕ)) (o : Option ℕ) (t : Bool) → b.now ≡ base_name (get_or names k d)
    → is_some o ≡ list_any (λ other. bytes_eq (base_name other) b.now) (take k names) → is_some o ≡ t
    → list_any (λ other. bytes_eq (base_name other) (base_name (get_or names k d))) (take k names) ≡ t
any_here names k d b o t is has e = ap (λ (n : List ℕ). list_any (λ other. bytes_eq (base_name other) n) (take k names)) (sym is) ∙ sym has ∙ e
