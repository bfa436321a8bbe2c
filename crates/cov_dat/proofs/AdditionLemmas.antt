use Rattle.std.proofs.Common.{◌≡◌, ℕ, ◌+◌, Bool, true, false, cond, List, [], ◌∷◌, Option, None, Some, refl, sym, ap, subst, ◌∙◌, arith}
use Rattle.std.specs.Str.{bytes_eq}
use Rattle.std.specs.Ordering.{nat_cmp}
use Rattle.std.specs.Option.{option_map_or}
use Rattle.std.specs.Cmp.Lexicographic.{slice_cmp, nat_list_cmp_total}
use Rattle.std.specs.FinMap.{find, get-from_entries, same_map, slice_cmp-IsAntisymmetric, nat_cmp-IsAntisymmetric}
use Rattle.std.proofs.lemmas.Bool.{true≢false}
use Rattle.std.proofs.lemmas.Cmp.{nat_list_eq_equiv}
use Rattle.std.proofs.lemmas.Map.Text.{is_eq-slice_cmp}
use Rattle.std.proofs.lemmas.Slice.Eq.{bytes_eq-Decides}
use Rattle.cov_dat.specs.Merging.{Counts, added, saturated}
use Rattle.cov_dat.specs.Laws.{AdditionsInAnyOrder}
use Rattle.cov_dat.proofs.WeightLemmas.{saturated-twice, zero_more}

-- what is found of a key
abbrev found : Counts → List ℕ → Option ℕ
found counts q = find (slice_cmp nat_cmp) q counts

-- the count of a key, 0 where it has none
abbrev count_in : Option ℕ → ℕ
count_in known = option_map_or (λ n. n) known 0

-- what is found where a count more of a key was added
abbrev with_more : Option ℕ → List ℕ → ℕ → List ℕ → Option ℕ → Option ℕ
with_more known k n q other = cond (bytes_eq q k) (Some (saturated (count_in known + n))) other

-- a key among an entry and further ones
found_first : (q : List ℕ) (e : List ℕ × ℕ) (es : Counts) → found (e ∷ es) q ≡ cond (bytes_eq q e.0) (Some e.1) (found es q)
found_first q e es = ap (λ (t : Bool). cond t (Some e.1) (found es q)) (is_eq-slice_cmp q e.0)

-- a test that is repeated
swallowed : (t : Bool) (a b c : Option ℕ) → cond t a c ≡ cond t a (cond t b c)
swallowed true a b c = refl
swallowed false a b c = refl

-- two tests of which one holds at most
exchanged : (s t : Bool) (a b c : Option ℕ) → (s ≡ true → t ≡ false) → cond s a (cond t b c) ≡ cond t b (cond s a c)
exchanged true true a b c apart = absurd (true≢false (apart refl))
exchanged true false a b c apart = refl
exchanged false t a b c apart = refl

-- a key is not each of two that differ
not_both : (q j k : List ℕ) → bytes_eq j k ≡ false → bytes_eq q j ≡ true → bytes_eq q k ≡ false
not_both q j k apart is = ap (λ (x : List ℕ). bytes_eq x k) ((bytes_eq-Decides q j).0 is) ∙ apart

-- a count more of the first key
added_first : (e : List ℕ × ℕ) (es : Counts) (n : ℕ) (q : List ℕ)
    → found ((e.0, saturated (e.1 + n)) ∷ es) q ≡ with_more (found (e ∷ es) e.0) e.0 n q (found (e ∷ es) q)
added_first e es n q =
    let known : found (e ∷ es) e.0 ≡ Some e.1 = found_first e.0 e es
    ∙ ap (λ (t : Bool). cond t (Some e.1) (found es e.0)) ((bytes_eq-Decides e.0 e.0).1 refl) in
    found_first q (e.0, saturated (e.1 + n)) es
    ∙ swallowed (bytes_eq q e.0) (Some (saturated (e.1 + n))) (Some e.1) (found es q)
    ∙ ap (λ (o : Option ℕ). with_more o e.0 n q (cond (bytes_eq q e.0) (Some e.1) (found es q))) (sym known)
    ∙ ap (with_more (found (e ∷ es) e.0) e.0 n q) (sym (found_first q e es))

-- a count more of a later key
added_later : (e : List ℕ × ℕ) (es : Counts) (k : List ℕ) (n : ℕ) (q : List ℕ) → bytes_eq k e.0 ≡ false
    → found (added es k n) q ≡ with_more (found es k) k n q (found es q)
    → found (e ∷ added es k n) q ≡ with_more (found (e ∷ es) k) k n q (found (e ∷ es) q)
added_later e es k n q apart later =
    let known : found (e ∷ es) k ≡ found es k = found_first k e es ∙ ap (λ (t : Bool). cond t (Some e.1) (found es k)) apart in
    found_first q e (added es k n)
    ∙ ap (cond (bytes_eq q e.0) (Some e.1)) later
    ∙ exchanged (bytes_eq q e.0) (bytes_eq q k) (Some e.1) (Some (saturated (count_in (found es k) + n))) (found es q)
    (not_both q e.0 k (nat_list_eq_equiv.symm e.0 k ∙ apart))
    ∙ ap (λ (o : Option ℕ). with_more o k n q (cond (bytes_eq q e.0) (Some e.1) (found es q))) (sym known)
    ∙ ap (with_more (found (e ∷ es) k) k n q) (sym (found_first q e es))

-- an addition changes what is found of its key alone
found_added : (counts : Counts) (k : List ℕ) (n : ℕ) (q : List ℕ) → found (added counts k n) q ≡ with_more (found counts k) k n q (found counts q)
found_added [] k n q = found_first q (k, saturated n) [] ∙ ap (λ (m : ℕ). cond (bytes_eq q k) (Some (saturated m)) None) (sym (zero_more n))
found_added (e ∷ es) k n q =
    elim (bytes_eq k e.0) as (λ t. bytes_eq k e.0 ≡ t
    → found (cond t ((e.0, saturated (e.1 + n)) ∷ es) (e ∷ added es k n)) q ≡ with_more (found (e ∷ es) k) k n q (found (e ∷ es) q)) [
      | true ↦ λ is.
          added_first e es n q ∙ ap (λ (o : List ℕ). with_more (found (e ∷ es) o) o n q (found (e ∷ es) q)) (sym ((bytes_eq-Decides k e.0).0 is))
      | false ↦ λ apart. added_later e es k n q apart (found_added es k n q)
    ] refl

-- two counts more of one number
more_twice : (x m n : ℕ) → saturated (saturated (x + m) + n) ≡ saturated (saturated (x + n) + m)
more_twice x m n = let same : (x + m) + n ≡ (x + n) + m = omega arith in sym (saturated-twice (x + m) n) ∙ ap saturated same ∙ saturated-twice (x + n) m

-- two additions, the first of one key and then of another
abbrev both : Option ℕ → Option ℕ → Option ℕ → List ℕ → ℕ → List ℕ → ℕ → List ℕ → Option ℕ
both of_j of_k of_q j m k n q = with_more (with_more of_j j m k of_k) k n q (with_more of_j j m q of_q)

found_both : (counts : Counts) (j k : List ℕ) (m n : ℕ) (q : List ℕ)
    → found (added (added counts j m) k n) q ≡ both (found counts j) (found counts k) (found counts q) j m k n q
found_both counts j k m n q =
    found_added (added counts j m) k n q
    ∙ ap (λ (o : Option ℕ). with_more o k n q (found (added counts j m) q)) (found_added counts j m k)
    ∙ ap (with_more (with_more (found counts j) j m k (found counts k)) k n q) (found_added counts j m q)

-- of one key
one_key : (known other : Option ℕ) (k : List ℕ) (m n : ℕ) (q : List ℕ) → both known known other k m k n q ≡ both known known other k n k m q
one_key known other k m n q =
    let is : bytes_eq k k ≡ true = (bytes_eq-Decides k k).1 refl in
    let x = count_in known in
    ap (λ (t : Bool). with_more (cond t (Some (saturated (x + m))) known) k n q (with_more known k m q other)) is
    ∙ sym (swallowed (bytes_eq q k) (Some (saturated (saturated (x + m) + n))) (Some (saturated (x + m))) other)
    ∙ ap (λ (c : ℕ). cond (bytes_eq q k) (Some c) other) (more_twice x m n)
    ∙ swallowed (bytes_eq q k) (Some (saturated (saturated (x + n) + m))) (Some (saturated (x + n))) other
    ∙ ap (λ (t : Bool). with_more (cond t (Some (saturated (x + n))) known) k m q (with_more known k n q other)) (sym is)

-- of two keys
two_keys : (of_j of_k other : Option ℕ) (j k : List ℕ) (m n : ℕ) (q : List ℕ) → bytes_eq j k ≡ false
    → both of_j of_k other j m k n q ≡ both of_k of_j other k n j m q
two_keys of_j of_k other j k m n q apart =
    ap (λ (t : Bool). with_more (cond t (Some (saturated (count_in of_j + m))) of_k) k n q (with_more of_j j m q other)) (nat_list_eq_equiv.symm k j ∙ apart)
    ∙ exchanged (bytes_eq q k) (bytes_eq q j) (Some (saturated (count_in of_k + n))) (Some (saturated (count_in of_j + m))) other
    (not_both q k j (nat_list_eq_equiv.symm k j ∙ apart))
    ∙ ap (λ (t : Bool). with_more (cond t (Some (saturated (count_in of_k + n))) of_j) j m q (with_more of_k k n q other)) (sym apart)

-- the order of two additions changes nothing that is found
either_order : (counts : Counts) (j k : List ℕ) (m n : ℕ) (q : List ℕ)
    → both (found counts j) (found counts k) (found counts q) j m k n q ≡ both (found counts k) (found counts j) (found counts q) k n j m q
either_order counts j k m n q =
    elim (bytes_eq j k) as (λ t. bytes_eq j k ≡ t
    → both (found counts j) (found counts k) (found counts q) j m k n q ≡ both (found counts k) (found counts j) (found counts q) k n j m q) [
      | true ↦ λ is.
          subst (λ (i : List ℕ). both (found counts i) (found counts k) (found counts q) i m k n q
          ≡ both (found counts k) (found counts i) (found counts q) k n i m q)
          (sym ((bytes_eq-Decides j k).0 is)) (one_key (found counts k) (found counts q) k m n q)
      | false ↦ λ apart. two_keys (found counts j) (found counts k) (found counts q) j k m n q apart
    ] refl

pub additions_in_any_order : AdditionsInAnyOrder
additions_in_any_order counts j k m n = same_map nat_list_cmp_total (slice_cmp-IsAntisymmetric nat_cmp-IsAntisymmetric) _ _
    (λ q. get-from_entries nat_list_cmp_total (added (added counts j m) k n) q ∙ found_both counts j k m n q ∙ either_order counts j k m n q
    ∙ sym (get-from_entries nat_list_cmp_total (added (added counts k n) j m) q ∙ found_both counts k j n m q))
