-- A line list is told by its text, which has no marks.
use Rattle.std.proofs.Common.{◌≡◌, ℕ, ◌<◌, ◌^◌, Bool, true, false, cond, eqb, List, [], ◌∷◌, ◌++◌, length, refl, sym, ◌∙◌, ap, ap₂, arith, append_assoc}
use Rattle.std.proofs.Common.{length-append}
use Rattle.std.specs.Prelude.{⊤, codes}
use Rattle.std.specs.Fmt.{decimal}
use Rattle.std.specs.List.{AllByRecursion}
use Rattle.std.proofs.lemmas.Bool.{eqb-true}
use Rattle.std.proofs.lemmas.List.{append-nil}
use Rattle.std.proofs.lemmas.Fmt.{decimal_injective, decimal_nonempty}
use Rattle.cov_types.specs.Key.{is_mark, IsPlain}
use Rattle.cov_types.specs.LineLists.{lines_text, range_text}
use Rattle.cov_types.specs.declared.line_range.LineRange.{LineRange}
use Rattle.point_key_laws.specs.LineLaws.{MayBeWritten, TextTellsLists}
use Rattle.point_key_laws.proofs.Cutting.{EndsText, cut, all-append}
use Rattle.point_key_laws.proofs.Decimals.{is_sign, plain_decimal, unsigned_decimal}

-- what stands behind the first number of a range
abbrev to_part : Bool → ℕ → List ℕ
to_part one to = cond one [] (45 ∷ decimal to)

-- what stands behind the first range
abbrev more_text : List LineRange → List ℕ
more_text [] = []
more_text (r ∷ rs) = 44 ∷ lines_text (r ∷ rs)

-- what is empty or begins with a comma
abbrev IsMore : List ℕ → Type 0
IsMore [] = ⊤
IsMore (b ∷ bs) = b ≡ 44

is_more : (rs : List LineRange) → IsMore (more_text rs)
is_more [] = tt
is_more (r ∷ rs) = refl

more_ends : (m : List ℕ) → IsMore m → EndsText is_sign m
more_ends [] h = tt
more_ends (b ∷ bs) h = ap is_sign h

part_ends : (one : Bool) (to : ℕ) (m : List ℕ) → IsMore m → EndsText is_sign (to_part one to ++ m)
part_ends true to m h = more_ends m h
part_ends false to m h = refl

range_is : (r : LineRange) (one : Bool) → eqb r.from r.to ≡ one → range_text r ≡ decimal r.from ++ to_part one r.to
range_is r true is = ap (λ (t : Bool). cond t (decimal r.from) (decimal r.from ++ codes "-" ++ decimal r.to)) is ∙ sym (append-nil (decimal r.from))
range_is r false is =
    ap (λ (t : Bool). cond t (decimal r.from) (decimal r.from ++ codes "-" ++ decimal r.to)) is ∙ append_assoc (decimal r.from) (45 ∷ []) (decimal r.to)

lines_are : (r : LineRange) (rs : List LineRange) → lines_text (r ∷ rs) ≡ range_text r ++ more_text rs
lines_are r [] = sym (append-nil (range_text r))
lines_are r (q ∷ rs) = append_assoc (range_text r) (44 ∷ []) (lines_text (q ∷ rs))

-- the text: the first number, what stands behind it, and the other ranges
text_is : (r : LineRange) (rs : List LineRange) → lines_text (r ∷ rs) ≡ decimal r.from ++ (to_part (eqb r.from r.to) r.to ++ more_text rs)
text_is r rs =
    lines_are r rs ∙ ap (λ (xs : List ℕ). xs ++ more_text rs) (range_is r (eqb r.from r.to) refl)
    ∙ append_assoc (decimal r.from) (to_part (eqb r.from r.to) r.to) (more_text rs)

no_dash : (m rest : List ℕ) → IsMore m → m ≡ 45 ∷ rest → ⊥
no_dash [] rest h is = absurd (cc)
no_dash (b ∷ bs) rest h is = let dash : b ≡ 45 = cc in omega (arith, dash, h)

tails : (r q : LineRange) (m n : List ℕ) (s t : Bool) → MayBeWritten r → MayBeWritten q → eqb r.from r.to ≡ s → eqb q.from q.to ≡ t → r.from ≡ q.from
    → IsMore m → IsMore n → to_part s r.to ++ m ≡ to_part t q.to ++ n → (r.to ≡ q.to) × (m ≡ n)
tails r q m n true true a b first second from e f is = (omega (arith, eqb-true r.from r.to first, eqb-true q.from q.to second, from), is)
tails r q m n true false a b first second from e f is = absurd (no_dash m (decimal q.to ++ n) e is)
tails r q m n false true a b first second from e f is = absurd (no_dash n (decimal r.to ++ m) f (sym is))
tails r q m n false false a b first second from e f is =
    let rest : decimal r.to ++ m ≡ decimal q.to ++ n = cc in
    let both = cut is_sign (decimal r.to) (decimal q.to) m n (unsigned_decimal r.to a.last) (unsigned_decimal q.to b.last)
    (more_ends m e) (more_ends n f) rest in
    (decimal_injective r.to q.to a.last b.last both.0, both.1)

lists_of : (rs qs : List LineRange) → more_text rs ≡ more_text qs → lines_text rs ≡ lines_text qs
lists_of [] [] is = refl
lists_of [] (q ∷ qs) is = absurd (cc)
lists_of (r ∷ rs) [] is = absurd (cc)
lists_of (r ∷ rs) (q ∷ qs) is = cc

first_fits : (r : LineRange) → MayBeWritten r → r.from < 2 ^ 64
first_fits r a = let order = a.order in let last = a.last in omega arith

some_text : (r : LineRange) (rs : List LineRange) → MayBeWritten r → [] ≡ lines_text (r ∷ rs) → ⊥
some_text r rs a is =
    let digits = decimal_nonempty r.from (first_fits r a) in
    let long : 0 ≡ length (decimal r.from ++ (to_part (eqb r.from r.to) r.to ++ more_text rs)) = ap length (is ∙ text_is r rs) in
    omega (arith, digits, long, length-append (decimal r.from) (to_part (eqb r.from r.to) r.to ++ more_text rs))

pub text_tells_lists : TextTellsLists
text_tells_lists [] [] a b is = refl
text_tells_lists [] (q ∷ qs) a b is = absurd (some_text q qs b.0 is)
text_tells_lists (r ∷ rs) [] a b is = absurd (some_text r rs a.0 (sym is))
text_tells_lists (r ∷ rs) (q ∷ qs) a b is =
    let low = first_fits r a.0 in
    let low' = first_fits q b.0 in
    let first = cut is_sign (decimal r.from) (decimal q.from) (to_part (eqb r.from r.to) r.to ++ more_text rs) (to_part (eqb q.from q.to) q.to ++ more_text qs)
    (unsigned_decimal r.from low) (unsigned_decimal q.from low')
    (part_ends (eqb r.from r.to) r.to (more_text rs) (is_more rs)) (part_ends (eqb q.from q.to) q.to (more_text qs) (is_more qs))
    (sym (text_is r rs) ∙ (is ∙ text_is q qs)) in
    let from = decimal_injective r.from q.from low low' first.0 in
    let rest = tails r q (more_text rs) (more_text qs) (eqb r.from r.to) (eqb q.from q.to) a.0 b.0 refl refl from (is_more rs) (is_more qs) first.1 in
    ap₂ (λ (x : LineRange) (xs : List LineRange). x ∷ xs) (ap₂ (λ (x y : ℕ). record { from = x; to = y }) from rest.0)
    (text_tells_lists rs qs a.1 b.1 (lists_of rs qs rest.1))

-- ---- it has no marks

plain_part : (one : Bool) (to : ℕ) → to < 2 ^ 64 → IsPlain (to_part one to)
plain_part true to h = tt
plain_part false to h = (refl, plain_decimal to h)

both_plain : (xs ys : List ℕ) → IsPlain xs → IsPlain ys → IsPlain (xs ++ ys)
both_plain = all-append (λ b. is_mark b ≡ false)

pub plain_lines : (rs : List LineRange) → AllByRecursion MayBeWritten rs → IsPlain (lines_text rs)
plain_lines [] a = tt
plain_lines (r ∷ rs) a = rw (text_is r rs) (both_plain (decimal r.from) (to_part (eqb r.from r.to) r.to ++ more_text rs)
    (plain_decimal r.from (first_fits r a.0))
    (both_plain (to_part (eqb r.from r.to) r.to) (more_text rs) (plain_part (eqb r.from r.to) r.to a.0.last) (plain_more rs (plain_lines rs a.1))))
  where
    plain_more : (rs : List LineRange) → IsPlain (lines_text rs) → IsPlain (more_text rs)
    plain_more [] p = tt
    plain_more (r ∷ rs) p = (refl, p)
