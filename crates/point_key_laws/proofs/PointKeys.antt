-- The key of a plain point is one, and tells the point.
use Rattle.std.proofs.Common.{◌≡◌, ℕ, ◌<◌, ◌^◌, false, cond, eqb, List, [], ◌∷◌, ◌++◌, get_or, refl, sym, ◌∙◌, ap, arith}
use Rattle.std.specs.Prelude.{codes, All}
use Rattle.std.specs.List.{AllByRecursion}
use Rattle.std.proofs.lemmas.List.{append_cancel_left}
use Rattle.std.proofs.lemmas.List.Elements.{All-head, All-tail}
use Rattle.std.proofs.lemmas.Fmt.{decimal_injective}
use Rattle.cov_types.specs.Key.{is_mark, IsField, IsPlain}
use Rattle.cov_types.specs.LineLists.{AreRuns}
use Rattle.cov_types.specs.declared.line_range.LineRange.{LineRange}
use Rattle.cov_points.specs.declared.point.Point.{Point}
use Rattle.cov_points.specs.declared.point.PointKind.{PointKind}
use Rattle.cov_points.specs.declared.point.PointKind.TheVariants as kind
use Rattle.cov_points.specs.KeyText.{kind_text, page_text, key_fields}
use Rattle.cov_points.specs.KeyLaw.{IsPlainPoint, KeyTellsAll, KeyIsKey}
use Rattle.point_key_laws.specs.LineLaws.{MayBeWritten}
use Rattle.point_key_laws.proofs.Cutting.{all-append}
use Rattle.point_key_laws.proofs.Decimals.{plain_decimal}
use Rattle.point_key_laws.proofs.LineTexts.{plain_lines, text_tells_lists}
use Rattle.point_key_laws.proofs.Fields.{fields_tell}

-- the runs of a plain point can be written
written : (rs : List LineRange) → AreRuns rs → All (λ (r : LineRange). r.to < 2 ^ 32) rs → AllByRecursion MayBeWritten rs
written [] runs ends = tt
written (r ∷ []) runs ends = (record { order = runs; last = let last = All-head (λ (r : LineRange). r.to < 2 ^ 32) r [] ends in omega (arith, last) }, tt)
written (r ∷ q ∷ rs) runs ends = (
  record { order = runs.0; last = let last = All-head (λ (r : LineRange). r.to < 2 ^ 32) r (q ∷ rs) ends in omega (arith, last) },
  written (q ∷ rs) runs.2 (All-tail (λ (r : LineRange). r.to < 2 ^ 32) r (q ∷ rs) ends),
)

plain_kind : (k : PointKind) → IsPlain (kind_text k)
plain_kind kind.Line = (refl, (refl, (refl, (refl, tt))))
plain_kind kind.Branch = (refl, (refl, (refl, (refl, (refl, (refl, tt))))))
plain_kind kind.Toggle = (refl, (refl, (refl, (refl, (refl, (refl, tt))))))
plain_kind kind.User = (refl, (refl, (refl, (refl, tt))))

both_plain : (xs ys : List ℕ) → IsPlain xs → IsPlain ys → IsPlain (xs ++ ys)
both_plain = all-append (λ b. is_mark b ≡ false)

plain_page : (k : PointKind) (module_text : List ℕ) → IsPlain module_text → IsPlain (page_text k module_text)
plain_page k module_text plain =
    (refl, (refl, both_plain (kind_text k ++ codes "/") module_text (both_plain (kind_text k) (codes "/") (plain_kind k) (refl, tt)) plain))

fields_are : (names : List (List ℕ)) (p : Point) → IsPlainPoint names p → AllByRecursion IsField (key_fields names p)
fields_are names p plain = (
  (omega arith, (refl, tt), plain.file),
  (
    (omega arith, (refl, tt), plain_decimal p.place.line (let h = plain.line in omega arith)),
    (
      (omega arith, (refl, tt), plain_decimal p.place.column (let h = plain.column in omega arith)),
      (
        (omega arith, (refl, tt), plain_kind p.kind),
        (
          (omega arith, (refl, (refl, (refl, (refl, tt)))), plain_page p.kind p.module plain.module_text),
          (
            (omega arith, (refl, tt), plain.comment),
            (
              (omega arith, (refl, tt), plain_lines p.lines (written p.lines plain.lines plain.ends)),
              ((omega arith, (refl, tt), plain.hier), tt),
            ),
          ),
        ),
      ),
    ),
  ),
)

pub key_is_key : KeyIsKey
key_is_key names p plain = (key_fields names p, omega arith, fields_are names p plain, refl)

-- the type that is written so
abbrev kind_back : List ℕ → PointKind
kind_back text =
    cond (eqb (get_or text 1 0) 105) kind.Line (cond (eqb (get_or text 1 0) 114) kind.Branch (cond (eqb (get_or text 1 0) 111) kind.Toggle kind.User))

kind_again : (k : PointKind) → kind_back (kind_text k) ≡ k
kind_again kind.Line = refl
kind_again kind.Branch = refl
kind_again kind.Toggle = refl
kind_again kind.User = refl

pub kinds : (k j : PointKind) → kind_text k ≡ kind_text j → k ≡ j
kinds k j is = sym (kind_again k) ∙ (ap kind_back is ∙ kind_again j)

modules : (k j : PointKind) (m n : List ℕ) → k ≡ j → page_text k m ≡ page_text j n → m ≡ n
modules k j m n same is = append_cancel_left (codes "v_" ++ kind_text j ++ codes "/") m n (sym (ap (λ (i : PointKind). page_text i m) same) ∙ is)

-- the value of the field with this number
abbrev value_at : ℕ → List (List ℕ × List ℕ) → List ℕ
value_at k fields = (get_or fields k ([], [])).1

pub key_tells_all : KeyTellsAll
key_tells_all names p q a b is =
    let same : key_fields names p ≡ key_fields names q =
    fields_tell (key_fields names p) (key_fields names q) (fields_are names p a) (fields_are names q b) is in
    let kind_is : p.kind ≡ q.kind = kinds p.kind q.kind (ap (value_at 3) same) in
    record {
      file = ap (value_at 0) same;
      line = decimal_injective p.place.line q.place.line (let h = a.line in omega arith) (let h = b.line in omega arith) (ap (value_at 1) same);
      column = decimal_injective p.place.column q.place.column (let h = a.column in omega arith) (let h = b.column in omega arith) (ap (value_at 2) same);
      kind = kind_is;
      module_text = modules p.kind q.kind p.module q.module kind_is (ap (value_at 4) same);
      comment = ap (value_at 5) same;
      lines = text_tells_lists p.lines q.lines (written p.lines a.lines a.ends) (written q.lines b.lines b.ends) (ap (value_at 6) same);
      hier = ap (value_at 7) same;
    }
