-- Toggle entries word by word.
use Rattle.std.proofs.Common.{◌≡◌, ◌∙◌, sym, ap, subst, refl, ℕ, zero, suc, ◌+◌, ◌-◌, ◌<◌, ◌≤◌, ◌^◌, ◌==◌, Bool, true, false}
use Rattle.std.proofs.Common.{cond, not, List, [], ◌∷◌, ◌++◌, filter}
use Rattle.std.proofs.Common.{length, map, take, drop, bit_xor, ◌%◌, ◌≢◌, arith}
use Rattle.std.specs.Prelude.{Some, slice_index, slice_index_or, slice_range}
use Rattle.std.specs.Int.{bit_at}
use Rattle.std.proofs.Math.Seq.{take-add}
use Rattle.std.proofs.lemmas.Bool.{eq-eqb, ne_eqb}
use Rattle.std.proofs.lemmas.Nat.Bits.{bit_at-lt, bit_at_xor}
use Rattle.std.proofs.lemmas.List.{get_or_default, take_more, length-take-le, length-drop, get_or-take, get_or-drop, map-append}
use Rattle.std.proofs.lemmas.List.Elements.{filter-append}
use Rattle.design_tree.specs.declared.instrumented.ToggleEntry.{ToggleEntry}
use Rattle.circuit_run.specs.States.{State, bit, held}
use Rattle.design_meaning.specs.Counters.{HasCounted, is_toggled, toggle_bit, toggled}
use Rattle.cycle_parts.specs.Toggles.{AreOfOneWord, differing, entry_at, no_entry}
use Rattle.cycle_parts.proofs.CountLaws.{counted_both, counted_least}

-- ---- counters of the entries for which a test holds

abbrev raised_where : (ToggleEntry → Bool) → List ToggleEntry → List ℕ
raised_where test es = map (λ e. e.counter) (filter test es)

raised_both : (test : ToggleEntry → Bool) (xs ys : List ToggleEntry) → raised_where test (xs ++ ys) ≡ raised_where test xs ++ raised_where test ys
raised_both test xs ys = ap (map (λ e. e.counter)) (filter-append test xs ys) ∙ map-append (λ e. e.counter) (filter test xs) (filter test ys)

raised_one : (test : ToggleEntry → Bool) (x : ToggleEntry) (b : Bool) → test x ≡ b → raised_where test (x ∷ []) ≡ cond b (x.counter ∷ []) []
raised_one test x b e = ap (λ b. map (λ e. e.counter) (cond b (x ∷ []) [])) e ∙ go b
  where
    go : (b : Bool) → map (λ e. e.counter) (cond b (x ∷ []) []) ≡ cond b (x.counter ∷ []) []
    go true = refl
    go false = refl

few_raised : (test : ToggleEntry → Bool) (es : List ToggleEntry) → length (raised_where test es) ≤ length es
few_raised test [] = omega arith
few_raised test (x ∷ es) = go (test x) (few_raised test es)
  where
    go : (b : Bool) → length (raised_where test es) ≤ length es → length (map (λ e. e.counter) (cond b (x ∷ filter test es) (filter test es))) ≤ suc (length es)
    go true h = omega (arith, h)
    go false h = omega (arith, h)

none_raised : (test : ToggleEntry → Bool) (es : List ToggleEntry) → ((e : ToggleEntry) → test e ≡ false) → raised_where test es ≡ []
none_raised test [] h = refl
none_raised test (x ∷ es) h = ap (λ b. map (λ e. e.counter) (cond b (x ∷ filter test es) (filter test es))) (h x) ∙ none_raised test es h

-- two tests that agree on all entries of a list
same_raised : (p q : ToggleEntry → Bool) (es : List ToggleEntry) → ((k : ℕ) → k < length es → p (entry_at es k) ≡ q (entry_at es k))
    → raised_where p es ≡ raised_where q es
same_raised p q [] h = refl
same_raised p q (x ∷ es) h = ap (λ b. map (λ e. e.counter) (cond b (x ∷ filter p es) (filter p es))) (h 0 (omega arith))
    ∙ go (q x) (same_raised p q es (λ k lt. h (suc k) (omega (arith, lt))))
  where
    go : (b : Bool) → raised_where p es ≡ raised_where q es
        → map (λ e. e.counter) (cond b (x ∷ filter p es) (filter p es)) ≡ map (λ e. e.counter) (cond b (x ∷ filter q es) (filter q es))
    go true rest = ap (λ l. x.counter ∷ l) rest
    go false rest = rest

-- ---- the entries of one word, one after the other

abbrev differs : ℕ → ℕ → ToggleEntry → Bool
differs was is t = not (bit_at was t.bit == bit_at is t.bit)

-- by the bits of the exclusive or
one_of_two : (a b : ℕ) → a < 2 → b < 2 → (a + b) % 2 ≡ 1 → a ≢ b
one_of_two a b ha hb h e = omega (arith, ha, hb, h, e)

both_or_none : (a b : ℕ) → a < 2 → b < 2 → (a + b) % 2 ≢ 1 → a ≡ b
both_or_none a b ha hb h = omega (arith, ha, hb, h)

pub apart : (was is k : ℕ) → bit_at (bit_xor was is) k ≡ 1 → not (bit_at was k == bit_at is k) ≡ true
apart was is k h = ap not (ne_eqb (bit_at was k) (bit_at is k)
    (one_of_two (bit_at was k) (bit_at is k) (bit_at-lt was k) (bit_at-lt is k) (sym (bit_at_xor was is k) ∙ h)))

pub same_bits : (was is k : ℕ) → bit_at (bit_xor was is) k ≢ 1 → not (bit_at was k == bit_at is k) ≡ false
same_bits was is k h = ap not (eq-eqb (bit_at was k) (bit_at is k)
    (both_or_none (bit_at was k) (bit_at is k) (bit_at-lt was k) (bit_at-lt is k) (λ e. h (bit_at_xor was is k ∙ e))))

no_bit : (was is k : ℕ) → bit_at (bit_xor was is) k ≡ 0 → not (bit_at was k == bit_at is k) ≡ false
no_bit was is k h = same_bits was is k (λ e. omega (arith, h, e))

no_more : (xs : List ℕ) → xs ++ [] ≡ xs
no_more [] = refl
no_more (x ∷ xs) = ap (λ l. x ∷ l) (no_more xs)

module _ (was is : ℕ) (es : List ToggleEntry) (i : ℕ) (x : ToggleEntry) (lt : i < length es) (e : x ≡ slice_index_or es i x) where
  next : (b : Bool) → differs was is x ≡ b → differing was is (take (i + 1) es) ≡ differing was is (take i es) ++ cond b (x.counter ∷ []) []
  next b eb = ap (raised_where (differs was is)) (take_more es i x lt ∙ ap (λ y. take i es ++ y ∷ []) (sym e))
      ∙ raised_both (differs was is) (take i es) (x ∷ [])
      ∙ ap (λ l. differing was is (take i es) ++ l) (raised_one (differs was is) x b eb)

  pub differing_here : (a b c : List ℕ) → differs was is x ≡ true → HasCounted a (differing was is (take i es)) b → HasCounted b (x.counter ∷ []) c
      → HasCounted a (differing was is (take (i + 1) es)) c
  differing_here a b c h ha hb = subst (λ r. HasCounted a r c) (sym (next true h)) (counted_both a b c (differing was is (take i es)) (x.counter ∷ []) ha hb)

  pub same_here : (a b : List ℕ) → differs was is x ≡ false → HasCounted a (differing was is (take i es)) b
      → HasCounted a (differing was is (take (i + 1) es)) b
  same_here a b h ha = subst (λ r. HasCounted a r b) (sym (next false h ∙ no_more (differing was is (take i es)))) ha

-- entries whose bit is no one of the exclusive or raise nothing
pub none_here : (was is : ℕ) (es : List ToggleEntry) (i j : ℕ) (a b : List ℕ) → i ≤ j → j ≤ length es
    → ((k : ℕ) → i ≤ k → k < j → bit_at (bit_xor was is) (entry_at es k).bit ≡ 0) → HasCounted a (differing was is (take i es)) b
    → HasCounted a (differing was is (take j es)) b
none_here was is es i j a b le within none h =
    subst (λ k. HasCounted a (differing was is (take k es)) b) (omega (arith, le)) (go (j - i) (omega (arith, le)))
  where
    go : (n : ℕ) → i + n ≤ j → HasCounted a (differing was is (take (i + n) es)) b
    go zero le = subst (λ k. HasCounted a (differing was is (take k es)) b) (omega arith) h
    go (suc n) le = subst (λ k. HasCounted a (differing was is (take k es)) b) (omega arith)
        (same_here was is es (i + n) (entry_at es (i + n)) (omega (arith, le, within))
        (get_or_default es (i + n) no_entry (entry_at es (i + n)) (omega (arith, le, within))) a b
        (no_bit was is (entry_at es (i + n)).bit (none (i + n) (omega arith) (omega (arith, le)))) (go n (omega (arith, le))))

pub room_for_entry : (was is : ℕ) (a b : List ℕ) (es : List ToggleEntry) (i k : ℕ) → ((k : ℕ) → slice_index a k + length es < 2 ^ 64) → i < length es
    → HasCounted a (differing was is (take i es)) b → slice_index b k + 1 < 2 ^ 64
room_for_entry was is a b es i k fit lt h =
    let few = few_raised (differs was is) (take i es) in
    omega (arith, fit k, lt, counted_least a (differing was is (take i es)) b k h, few, length-take-le i es (omega (arith, lt)))

-- ---- the words one after the other

-- entries whose bit is the same in both states raise nothing
no_toggles : (s t : State) (es : List ToggleEntry) → ((k : ℕ) → k < length es → is_toggled s t (entry_at es k) ≡ false) → toggled (Some s) t es ≡ []
no_toggles s t es h = same_raised (is_toggled s t) (λ e. false) es h ∙ none_raised (λ e. false) es (λ e. refl)

untoggled : (s t : State) (e : ToggleEntry) → held t e.var ≡ held s e.var → is_toggled s t e ≡ false
untoggled s t e same = ap not (eq-eqb (bit s (toggle_bit e)) (bit t (toggle_bit e)) (sym (ap (λ w. bit_at (slice_index w.words e.word) e.bit) same)))

pub length_range : (es : List ToggleEntry) (i j : ℕ) → i ≤ j → j ≤ length es → length (slice_range es i j) ≡ j - i
length_range es i j le within = length-take-le (j - i) (drop i es) (omega (arith, length-drop i es, le, within))

pub in_range : (es : List ToggleEntry) (i j k : ℕ) → i ≤ j → k < j - i → entry_at (slice_range es i j) k ≡ entry_at es (i + k)
in_range es i j k le lt = get_or-take (j - i) (drop i es) k no_entry lt ∙ get_or-drop i es k no_entry

take_range : (es : List ToggleEntry) (i j : ℕ) → i ≤ j → take j es ≡ take i es ++ slice_range es i j
take_range es i j le = ap (λ n. take n es) (sum i j le) ∙ take-add i (j - i) es
  where
    sum : (i j : ℕ) → i ≤ j → j ≡ i + (j - i)
    sum i j le = omega (arith, le)

module _ (s t : State) (es : List ToggleEntry) (i j : ℕ) (less : i < j) (within : j ≤ length es) where
  abbrev word : State → ℕ
  word s = slice_index (held s (entry_at es i).var).words (entry_at es i).word

  alike : ((k : ℕ) → i ≤ k → k < j → AreOfOneWord (entry_at es i) (entry_at es k)) → (k : ℕ) → k < length (slice_range es i j)
      → is_toggled s t (entry_at (slice_range es i j) k) ≡ differs (word s) (word t) (entry_at (slice_range es i j) k)
  alike same k lt =
      let here : k < j - i = omega (arith, lt, length_range es i j (omega (arith, less)) within) in
      subst (λ x. is_toggled s t x ≡ differs (word s) (word t) x) (sym (in_range es i j k (omega (arith, less)) here))
      (of_word (entry_at es i) (entry_at es (i + k)) (same (i + k) (omega arith) (omega (arith, here))))
    where
      of_word : (a b : ToggleEntry) → AreOfOneWord a b
          → is_toggled s t b ≡ differs (slice_index (held s a.var).words a.word) (slice_index (held t a.var).words a.word) b
      of_word a b one = ap (λ v. not (bit_at (slice_index (held s v).words b.word) b.bit == bit_at (slice_index (held t v).words b.word) b.bit)) (sym one.var)
          ∙ ap (λ w. not (bit_at (slice_index (held s a.var).words w) b.bit == bit_at (slice_index (held t a.var).words w) b.bit)) (sym one.word)

  pub word_counted : (was is : ℕ) (a b c : List ℕ) → was ≡ word s → is ≡ word t
      → ((k : ℕ) → i ≤ k → k < j → AreOfOneWord (entry_at es i) (entry_at es k))
      → HasCounted a (toggled (Some s) t (take i es)) b → HasCounted b (differing was is (slice_range es i j)) c
      → HasCounted a (toggled (Some s) t (take j es)) c
  word_counted was is a b c ew ei same h g = subst (λ r. HasCounted a r c) (sym all) (counted_both a b c front group h raised)
    where
      front : List ℕ
      front = toggled (Some s) t (take i es)

      group : List ℕ
      group = toggled (Some s) t (slice_range es i j)

      all : toggled (Some s) t (take j es) ≡ front ++ group
      all = ap (raised_where (is_toggled s t)) (take_range es i j (omega (arith, less))) ∙ raised_both (is_toggled s t) (take i es) (slice_range es i j)

      raised : HasCounted b group c
      raised = subst (λ r. HasCounted b r c) (sym (same_raised (is_toggled s t) (differs (word s) (word t)) (slice_range es i j) (alike same)))
          (subst (λ w. HasCounted b (differing w (word t) (slice_range es i j)) c) ew (subst (λ w. HasCounted b (differing was w (slice_range es i j)) c) ei g))

  pub room_for_word : (a b : List ℕ) (k : ℕ) → ((k : ℕ) → slice_index a k + length es < 2 ^ 64) → HasCounted a (toggled (Some s) t (take i es)) b
      → slice_index b k + length (slice_range es i j) < 2 ^ 64
  room_for_word a b k fit h =
      omega (
        arith,
        fit k,
        less,
        within,
        counted_least a (toggled (Some s) t (take i es)) b k h,
        few_raised (is_toggled s t) (take i es),
        length-take-le i es (omega (arith, less, within)),
        length_range es i j (omega (arith, less)) within,
      )

-- ---- entries that are passed over

pub passed : (s t : State) (es : List ToggleEntry) (i j : ℕ) (a b : List ℕ) → i ≤ j → j ≤ length es
    → ((k : ℕ) → i ≤ k → k < j → held t (entry_at es k).var ≡ held s (entry_at es k).var)
    → HasCounted a (toggled (Some s) t (take i es)) b → HasCounted a (toggled (Some s) t (take j es)) b
passed s t es i j a b le within same h = subst (λ r. HasCounted a r b) (sym all) h
  where
    none : toggled (Some s) t (slice_range es i j) ≡ []
    none = no_toggles s t (slice_range es i j) (λ k lt.
        let here : k < j - i = omega (arith, lt, length_range es i j le within) in
        subst (λ x. is_toggled s t x ≡ false) (sym (in_range es i j k le here))
        (untoggled s t (entry_at es (i + k)) (same (i + k) (omega arith) (omega (arith, here)))))

    all : toggled (Some s) t (take j es) ≡ toggled (Some s) t (take i es)
    all = ap (raised_where (is_toggled s t)) (take_range es i j le) ∙ raised_both (is_toggled s t) (take i es) (slice_range es i j)
        ∙ ap (λ r. toggled (Some s) t (take i es) ++ r) none ∙ no_more (toggled (Some s) t (take i es))
