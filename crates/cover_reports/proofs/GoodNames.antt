-- Names of annotated files, none of which is bad.
use Rattle.std.proofs.Common.{◌≡◌, ℕ, zero, suc, ◌<◌, Bool, true, false, cond, ◌&&◌, not, List, [], ◌∷◌, length, get_or, refl, ◌∙◌, ap, None, Some, arith}
use Rattle.std.specs.Str.{is_utf8}
use Rattle.report_text.specs.FileNames.{bad_file_name, base_name, is_good_name, is_name, is_reserved}

-- where none is bad, the first is good, and none behind it is bad
first_good : (file : List ℕ) (files : List (List ℕ)) → bad_file_name (file ∷ files) ≡ None → (is_good_name file ≡ true) × (bad_file_name files ≡ None)
first_good file files none =
    elim (is_good_name file) as (λ b. cond (not b) (Some file) (bad_file_name files) ≡ None → (b ≡ true) × (bad_file_name files ≡ None)) [
      | true ↦ λ e. (refl, e)
      | false ↦ λ e. absurd (cc)
    ] none

-- where none is bad, each is good
pub good_at : (files : List (List ℕ)) (k : ℕ) (d : List ℕ) → bad_file_name files ≡ None → k < length files → is_good_name (get_or files k d) ≡ true
good_at [] k d none within = absurd (omega arith)
good_at (file ∷ files) zero d none within = (first_good file files none).0
good_at (file ∷ files) (suc k) d none within = good_at files k d (first_good file files none).1 (omega arith)

left_true : (a b : Bool) → a && b ≡ true → a ≡ true
left_true true b is = refl
left_true false b is = is

other_default : (files : List (List ℕ)) (k : ℕ) (d e : List ℕ) → k < length files → get_or files k d ≡ get_or files k e
other_default [] k d e within = absurd (omega arith)
other_default (file ∷ files) zero d e within = refl
other_default (file ∷ files) (suc k) d e within = other_default files k d e (omega arith)

-- one of the names
pub name_at : (files names : List (List ℕ)) (k : ℕ) (d name : List ℕ) → names ≡ files → k < length files → name ≡ get_or names k d → name ≡ get_or files k []
name_at files names k d name same within is = is ∙ ap (λ (ns : List (List ℕ)). get_or ns k d) same ∙ other_default files k d [] within

-- it is text
pub utf8_at : (files names : List (List ℕ)) (k : ℕ) (d name : List ℕ) → names ≡ files → k < length files → bad_file_name files ≡ None → name ≡ get_or names k d
    → is_utf8 name ≡ true
utf8_at files names k d name same within none is =
    left_true (is_utf8 name) (is_name name)
    (left_true (is_utf8 name && is_name name) (not (is_reserved (base_name name)))
    (ap is_good_name (name_at files names k d name same within is) ∙ good_at files k [] none within))
