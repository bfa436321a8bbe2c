-- The least count of a line, found item by item.
use Rattle.std.proofs.Common.{◌≡◌, ℕ, ◌+◌, ◌<◌, ◌==◌, min, length, drop, get_or, add-one, drop-cons, Bool, true, false, cond, ◌||◌, List, [], ◌∷◌, map, filter}
use Rattle.std.proofs.Common.{Option, None, Some, refl, sym, ap, ◌∙◌, arith}
use Rattle.std.specs.List.{list_any, flat_map}
use Rattle.std.specs.Ordering.{nat_cmp, is_eq, eq_by_cmp}
use Rattle.std.specs.BTreeMap.{get, IsOrdered, BTreeMap}
use Rattle.std.specs.FinMap.{nat_cmp-IsAntisymmetric}
use Rattle.std.specs.Cmp.{nat_cmp_total}
use Rattle.std.proofs.lemmas.Bool.Decides.{nat_tests, Decides-eqb}
use Rattle.std.proofs.lemmas.List.Folds.{list_any-append}
use Rattle.cov_types.specs.declared.line_range.LineRange.{LineRange}
use Rattle.cov_dat.specs.Merging.{Counts}
use Rattle.report_text.specs.Items.{Point, in_order, least, lines_of_point, lines_of_range}
use Rattle.report_table.specs.LineCounts.{lesser, offered, has_line, least_at}
use Rattle.report_table.specs.FileTables.{counted_in, lines_table}
use Rattle.report_table.proofs.Gathering.{gathers_each}

again : (g : Option ℕ) (c : ℕ) → lesser g c ≡ min c (lesser g c)
again None c = omega arith
again (Some a) c = omega arith

-- a count that is offered twice
pub offered_twice : (g : Option ℕ) (a b : Bool) (c : ℕ) → offered g (a || b) c ≡ offered (offered g a c) b c
offered_twice g false b c = refl
offered_twice g true false c = refl
offered_twice g true true c = ap (λ (n : ℕ). Some n) (again g c)

-- the two tests of a number
pub same_line : (a b : ℕ) → is_eq (nat_cmp a b) ≡ (b == a)
same_line a b = grind (arith, nat_tests)

pub swapped_line : (a b : ℕ) → (a == b) ≡ (b == a)
swapped_line a b = grind (arith, nat_tests)

-- what an insertion of the least gives
pub line_added : (g h : Option ℕ) (line q c w : ℕ) (G : ℕ → Option ℕ) → G line ≡ g → w ≡ lesser g c → h ≡ cond (is_eq (nat_cmp line q)) (Some w) (G q)
    → h ≡ offered (G q) (line == q) c
line_added g h line q c w G at is e =
    e ∙ ap (λ (b : Bool). cond b (Some w) (G q)) (same_line line q ∙ swapped_line q line)
    ∙ elim (line == q) as (λ b. (line == q) ≡ b → cond b (Some w) (G q) ≡ offered (G q) b c) [
      | true ↦ λ t. ap (λ (n : ℕ). Some n) (is ∙ ap (λ (o : Option ℕ). lesser o c) (sym at ∙ ap G ((Decides-eqb line q).0 t)))
      | false ↦ λ t. refl
    ] refl

min_swapped : (a c n : ℕ) → min (min c a) n ≡ min a (min c n)
min_swapped a c n = omega arith

-- the lesser of a number and the least of others
least_lesser : (a c : ℕ) (ns : List ℕ) → least (min c a ∷ ns) ≡ min a (least (c ∷ ns))
least_lesser a c [] = omega arith
least_lesser a c (n ∷ ns) = min_swapped a c (least (n ∷ ns))

-- the counts of the items of a line
abbrev counts_at : ℕ → Counts → List ℕ
counts_at n ps = map (λ (p : Point). p.1) (filter (λ p. has_line n (lines_of_point p)) ps)

-- the least, where one count is known
least_from : (n : ℕ) (ps : Counts) (a : ℕ) → least_at n ps (Some a) ≡ Some (least (a ∷ counts_at n ps))
least_from n [] a = refl
least_from n (p ∷ ps) a =
    elim (has_line n (lines_of_point p)) as (λ b. least_at n ps (offered (Some a) b p.1)
    ≡ Some (least (a ∷ map (λ (x : Point). x.1)
    (cond b (p ∷ filter (λ x. has_line n (lines_of_point x)) ps) (filter (λ x. has_line n (lines_of_point x)) ps))))) [
      | true ↦ least_from n ps (min p.1 a) ∙ ap (λ (m : ℕ). Some m) (least_lesser a p.1 (counts_at n ps))
      | false ↦ least_from n ps a
    ]

none_or_least : (b c : Bool) (x y : ℕ) → x ≡ y → cond (b || c) (Some x) None ≡ cond (b || c) (Some y) None
none_or_least b c x y e = ap (λ (n : ℕ). cond (b || c) (Some n) None) e

-- a line's least count, if it has items
pub least_of_line : (n : ℕ) (ps : Counts) → least_at n ps None ≡ cond (has_line n (flat_map lines_of_point ps)) (Some (least (counts_at n ps))) None
least_of_line n [] = refl
least_of_line n (p ∷ ps) =
    elim (has_line n (lines_of_point p)) as (λ b. has_line n (lines_of_point p) ≡ b → least_at n ps (offered None b p.1)
    ≡ cond (b || has_line n (flat_map lines_of_point ps))
    (Some (least (map (λ (x : Point). x.1)
    (cond b (p ∷ filter (λ x. has_line n (lines_of_point x)) ps) (filter (λ x. has_line n (lines_of_point x)) ps))))) None) [
      | true ↦ λ t. least_from n ps p.1
      | false ↦ λ t. least_of_line n ps
    ] refl
    ∙ ap (λ (b : Bool). cond b (Some (least (counts_at n (p ∷ ps)))) None) (sym (list_any-append (λ m. m == n) (lines_of_point p) (flat_map lines_of_point ps)))

tests_alike : (q : ℕ) (ms : List ℕ) → has_line q ms ≡ list_any (eq_by_cmp nat_cmp q) ms
tests_alike q [] = refl
tests_alike q (m ∷ ms) = ap (λ (b : Bool). b || has_line q ms) (sym (same_line q m)) ∙ ap (λ (b : Bool). eq_by_cmp nat_cmp q m || b) (tests_alike q ms)

counted_pairs : (f : ℕ → ℕ) (ns : List ℕ) → counted_in (map (λ n. (n, f n)) ns) ≡ map (λ n. record { line = n; count = f n }) ns
counted_pairs f [] = refl
counted_pairs f (n ∷ ns) = ap (λ ls. record { line = n; count = f n } ∷ ls) (counted_pairs f ns)

-- a map with the least count of each line has the lines in order as entries
pub lines_counted : (m : BTreeMap ℕ ℕ) (ps : Counts) → IsOrdered nat_cmp m → ((line : ℕ) → get nat_cmp m line ≡ least_at line ps None)
    → counted_in m.entries ≡ lines_table ps
lines_counted m ps ordered has =
    ap counted_in (gathers_each nat_cmp nat_cmp_total nat_cmp-IsAntisymmetric m.entries (flat_map lines_of_point ps) (λ n. least (counts_at n ps)) ordered
    (λ q. has q ∙ least_of_line q ps ∙ ap (λ (b : Bool). cond b (Some (least (counts_at q ps))) None) (tests_alike q (flat_map lines_of_point ps))))
    ∙ counted_pairs (λ n. least (counts_at n ps)) (in_order nat_cmp (flat_map lines_of_point ps))

-- the rest of a list from a place on
pub drop_here : {A : Type 0} (xs : List A) (k : ℕ) (d : A) → k < length xs → drop k xs ≡ get_or xs k d ∷ drop (k + 1) xs
drop_here xs k d within = rw (add-one, drop-cons xs k d) refl

-- one run more
pub runs_step : (q : ℕ) (runs : List LineRange) (k : ℕ) (d : LineRange) (g h : Option ℕ) (c : ℕ) → k < length runs
    → h ≡ offered g (has_line q (lines_of_range (get_or runs k d))) c
    → offered h (has_line q (flat_map lines_of_range (drop (k + 1) runs))) c ≡ offered g (has_line q (flat_map lines_of_range (drop k runs))) c
runs_step q runs k d g h c within is =
    let rest = flat_map lines_of_range (drop (k + 1) runs) in
    ap (λ (o : Option ℕ). offered o (has_line q rest) c) is
    ∙ sym (offered_twice g (has_line q (lines_of_range (get_or runs k d))) (has_line q rest) c)
    ∙ ap (λ (b : Bool). offered g b c) (sym (list_any-append (λ m. m == q) (lines_of_range (get_or runs k d)) rest))
    ∙ ap (λ (xs : List LineRange). offered g (has_line q (flat_map lines_of_range xs)) c) (sym (drop_here runs k d within))
