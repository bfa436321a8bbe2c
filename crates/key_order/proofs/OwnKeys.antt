-- Rows with keys of their own have them in any order, and ascend strictly where they are sorted.
use Rattle.std.proofs.Common.{◌≡◌, ℕ, ◌<◌, Bool, false, List, length, get_or, inl, inr, refl, sym, ◌∙◌, ap, arith, Ordering, Less, Equal, Greater, nat_cmp, is_lt}
use Rattle.std.specs.Prelude.{AllPairs, swap}
use Rattle.std.specs.List.Sorted.{IsPermutation, IsSortedBy}
use Rattle.std.specs.Cmp.Lexicographic.{slice_cmp, nat_list_cmp_total}
use Rattle.std.specs.Ordering.{ordering_reverse}
use Rattle.std.proofs.lemmas.Bool.{cases_eq}
use Rattle.std.proofs.lemmas.List.Edits.{length-swap, swapped_from_swap}
use Rattle.std.proofs.lemmas.List.Sorted.{ranks_by, sorted_far, IsPermutation-keeps}
use Rattle.std.specs.FinMap.{slice_cmp-IsAntisymmetric, nat_cmp-IsAntisymmetric}
use Rattle.design_tree.specs.declared.instrumented.PointRow.{PointRow}
use Rattle.design_meaning.specs.Names.{IsBefore}
use Rattle.key_order.specs.Keys.{HaveOwnKeys}

-- ---- two rows change places

-- where the row at i came from
data From (a b : ℕ) : ℕ → ℕ → Type 0 where
  at_first : {i p : ℕ} → i ≡ a → p ≡ b → From a b i p
  at_second : {i p : ℕ} → i ≡ b → p ≡ a → From a b i p
  elsewhere : {i p : ℕ} → (i ≡ a → ⊥) → (i ≡ b → ⊥) → p ≡ i → From a b i p

one_place : (a b i j p q : ℕ) → From a b i p → From a b j q → p ≡ q → i ≡ j
one_place a b i j p q (at_first e f) (at_first g h) s = omega arith
one_place a b i j p q (at_first e f) (at_second g h) s = omega arith
one_place a b i j p q (at_first e f) (elsewhere g h k) s = absurd (h (omega arith))
one_place a b i j p q (at_second e f) (at_first g h) s = omega arith
one_place a b i j p q (at_second e f) (at_second g h) s = omega arith
one_place a b i j p q (at_second e f) (elsewhere g h k) s = absurd (g (omega arith))
one_place a b i j p q (elsewhere e f r) (at_first g h) s = absurd (f (omega arith))
one_place a b i j p q (elsewhere e f r) (at_second g h) s = absurd (e (omega arith))
one_place a b i j p q (elsewhere e f r) (elsewhere g h k) s = omega arith

record Came (rows : List PointRow) (a b : ℕ) (d : PointRow) (i : ℕ) : Type 0 where
  pub place : ℕ
  pub inside : place < length rows
  pub is : get_or (swap rows a b) i d ≡ get_or rows place d
  pub came : From a b i place

came_from : (rows : List PointRow) (a b : ℕ) (d : PointRow) (i : ℕ) → a < length rows → b < length rows → i < length rows → Came rows a b d i
came_from rows a b d i la lb li =
    let s = swapped_from_swap rows (swap rows a b) a b d la lb refl in
    elim (cases_eq i a) [
      | inl e ↦ record { place = b; inside = lb; is = ap (λ k. get_or (swap rows a b) k d) e ∙ s.0; came = at_first e refl }
      | inr ne ↦ elim (cases_eq i b) [
        | inl e ↦ record { place = a; inside = la; is = ap (λ k. get_or (swap rows a b) k d) e ∙ s.1; came = at_second e refl }
        | inr nf ↦ record { place = i; inside = li; is = s.2 i ne nf; came = elsewhere ne nf refl }
      ]
    ]

swap_keeps : (rows : List PointRow) (a b : ℕ) → a < length rows → b < length rows → HaveOwnKeys rows → HaveOwnKeys (swap rows a b)
swap_keeps rows a b la lb own i j d li lj same =
    let e = length-swap rows a b in
    let x = came_from rows a b d i la lb (omega arith) in
    let y = came_from rows a b d j la lb (omega arith) in
    one_place a b i j x.place y.place x.came y.came
    (own x.place y.place d x.inside y.inside (ap (λ (r : PointRow). r.key) (sym x.is) ∙ (same ∙ ap (λ (r : PointRow). r.key) y.is)))

pub moved_keeps : (rows ordered : List PointRow) → IsPermutation rows ordered → HaveOwnKeys rows → HaveOwnKeys ordered
moved_keeps rows ordered moved own =
    IsPermutation-keeps rows HaveOwnKeys own (λ l i j li lj h. swap_keeps l i j li lj h) ordered moved

-- ---- sorted by keys

abbrev pub by_keys : PointRow → PointRow → Bool
by_keys a b = is_lt (slice_cmp nat_cmp a.key b.key)

less : (o p : Ordering) → o ≡ ordering_reverse p → is_lt p ≡ false → (p ≡ Equal → ⊥) → o ≡ Less
less o Less e f g = absurd (cc)
less o Equal e f g = absurd (g refl)
less o Greater e f g = e

pub ascending : (rows : List PointRow) → IsSortedBy by_keys rows → HaveOwnKeys rows → AllPairs (λ a b. IsBefore a.key b.key) rows
ascending rows sorted own i j d low high =
    let a = get_or rows i d in
    let b = get_or rows j d in
    less (slice_cmp nat_cmp a.key b.key) (slice_cmp nat_cmp b.key a.key)
    (nat_list_cmp_total.antisymm a.key b.key)
    (sorted_far by_keys (ranks_by nat_list_cmp_total (λ (r : PointRow). r.key)) rows sorted i j d (omega arith) high)
    (λ e. let k : i ≡ j = own i j d (omega arith) high (sym (slice_cmp-IsAntisymmetric nat_cmp-IsAntisymmetric b.key a.key e)) in absurd (omega arith))
