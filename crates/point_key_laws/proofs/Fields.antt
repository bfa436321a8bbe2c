-- Fields are told by their text.
use Rattle.std.proofs.Common.{◌≡◌, ℕ, List, [], ◌∷◌, ◌++◌, refl, sym, ◌∙◌, ap₂, append_assoc}
use Rattle.std.specs.List.{AllByRecursion, flat_map}
use Rattle.cov_types.specs.Key.{is_mark, IsField, field_text}
use Rattle.point_key_laws.proofs.Cutting.{EndsText, cut}

abbrev Field : Type 0
Field = List ℕ × List ℕ

abbrev fields_text : List Field → List ℕ
fields_text fs = flat_map field_text fs

ends : (fs : List Field) → EndsText is_mark (fields_text fs)
ends [] = tt
ends (f ∷ fs) = refl

text_is : (f : Field) (fs : List Field) → fields_text (f ∷ fs) ≡ 1 ∷ (f.0 ++ (2 ∷ (f.1 ++ fields_text fs)))
text_is f fs = append_assoc (1 ∷ f.0) (2 ∷ f.1) (fields_text fs)

pub fields_tell : (fs gs : List Field) → AllByRecursion IsField fs → AllByRecursion IsField gs → fields_text fs ≡ fields_text gs → fs ≡ gs
fields_tell [] [] a b is = refl
fields_tell [] (g ∷ gs) a b is = absurd (cc)
fields_tell (f ∷ fs) [] a b is = absurd (cc)
fields_tell (f ∷ fs) (g ∷ gs) a b is =
    let whole : ◌≡◌ {A = List ℕ} (1 ∷ (f.0 ++ (2 ∷ (f.1 ++ fields_text fs)))) (1 ∷ (g.0 ++ (2 ∷ (g.1 ++ fields_text gs)))) =
    sym (text_is f fs) ∙ (is ∙ text_is g gs) in
    let names : f.0 ++ (2 ∷ (f.1 ++ fields_text fs)) ≡ g.0 ++ (2 ∷ (g.1 ++ fields_text gs)) = cc in
    let first = cut is_mark f.0 g.0 (2 ∷ (f.1 ++ fields_text fs)) (2 ∷ (g.1 ++ fields_text gs)) a.0.1 b.0.1 refl refl names in
    let behind = first.1 in
    let values : f.1 ++ fields_text fs ≡ g.1 ++ fields_text gs = cc in
    let second = cut is_mark f.1 g.1 (fields_text fs) (fields_text gs) a.0.2 b.0.2 (ends fs) (ends gs) values in
    ap₂ (λ (x : Field) (xs : List Field). x ∷ xs) (ap₂ (λ (x y : List ℕ). (x, y)) first.0 second.0) (fields_tell fs gs a.1 b.1 second.1)
