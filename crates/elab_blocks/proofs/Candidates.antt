-- The first candidate that passes a test.
use Rattle.std.proofs.Common.{◌≡◌, ◌∙◌, sym, ap, refl, subst, ℕ, zero, suc, ◌+◌, ◌-◌, ◌<◌, ◌≤◌, Bool, true, false, not, cond, List, [], ◌∷◌, ◌++◌, length, map}
use Rattle.std.proofs.Common.{Option, Some, None, arith}
use Rattle.std.proofs.lemmas.List.{length-map}
use Rattle.std.proofs.lemmas.List.Folds.{find-append}
use Rattle.std.proofs.lemmas.List.FromFn.{map-range_with_len_more}
use Rattle.std.specs.List.{find, range_with_len}
use Rattle.std.specs.Option.{option_or}
use Rattle.scope_meaning.specs.Declared.{Declared, is_in}
use Rattle.scope_meaning.specs.Scope.{Frame}
use Rattle.scope_meaning.specs.BlockNames.{genblk, or_empty, unnamed_block}

abbrev Text : Type 0
Text = List ℕ

-- the first of so many candidates
abbrev pub first_of : (Text → Bool) → (ℕ → Text) → ℕ → Option Text
first_of p g k = find p (map g (range_with_len 0 k))

-- one candidate more
first-more : (p : Text → Bool) (g : ℕ → Text) (k : ℕ) → first_of p g (k + 1) ≡ option_or (first_of p g k) (cond (p (g k)) (Some (g k)) None)
first-more p g k = ap (find p) (map-range_with_len_more g 0 k k (omega arith)) ∙ find-append p (map g (range_with_len 0 k)) (g k ∷ [])

none-more : (p : Text → Bool) (g : ℕ → Text) (k : ℕ) → first_of p g k ≡ None → p (g k) ≡ false → first_of p g (k + 1) ≡ None
none-more p g k h e = first-more p g k ∙ ap (λ o. option_or o (cond (p (g k)) (Some (g k)) None)) h ∙ ap (λ b. cond b (Some (g k)) None) e

here : (p : Text → Bool) (g : ℕ → Text) (k : ℕ) → first_of p g k ≡ None → p (g k) ≡ true → first_of p g (k + 1) ≡ Some (g k)
here p g k h e = first-more p g k ∙ ap (λ o. option_or o (cond (p (g k)) (Some (g k)) None)) h ∙ ap (λ b. cond b (Some (g k)) None) e

stays : (p : Text → Bool) (g : ℕ → Text) (k r : ℕ) (t : Text) → first_of p g k ≡ Some t → first_of p g (k + r) ≡ Some t
stays p g k zero t h = ap (first_of p g) (omega arith) ∙ h
stays p g k (suc r) t h =
    ap (first_of p g) (omega arith) ∙ first-more p g (k + r) ∙ ap (λ o. option_or o (cond (p (g (k + r))) (Some (g (k + r))) None)) (stays p g k r t h)

fewer : (p : Text → Bool) (g : ℕ → Text) (k r : ℕ) → first_of p g (k + r) ≡ None → first_of p g k ≡ None
fewer p g k r h = by (first_of p g k) refl
  where
    by : (o : Option Text) → first_of p g k ≡ o → first_of p g k ≡ None
    by None e = e
    by (Some t) e = cc (sym (stays p g k r t e) ∙ h)

abbrev pub is_free : Frame → Text → Bool
is_free f name = not (is_in name (map (λ (d : Declared). d.name) f.declared))

-- what trying one candidate says
abbrev pub tried : Frame → ℕ → ℕ → Option Text
tried f n k = cond (is_free f (genblk n k)) (Some (genblk n k)) None

some_free : (b : Bool) (t u : Text) → Some u ≡ cond b (Some t) None → (b ≡ true) × (u ≡ t)
some_free true t u e = (refl, cc)
some_free false t u e = cc

none_free : (b : Bool) (t : Text) → None ≡ cond b (Some t) None → b ≡ false
none_free true t e = cc
none_free false t e = refl

abbrev pub NoneBefore : Frame → ℕ → ℕ → Type 0
NoneBefore f n k = first_of (is_free f) (genblk n) k ≡ None

pub goes-on : (f : Frame) (n k : ℕ) → NoneBefore f n k → None ≡ tried f n k → NoneBefore f n (k + 1)
goes-on f n k h e = none-more (is_free f) (genblk n) k h (none_free _ _ e)

count-names : (f : Frame) → length (map (λ (d : Declared). d.name) f.declared) ≡ length f.declared
count-names f = length-map f.declared (λ (d : Declared). d.name)

-- none of those before is free where none of more is
pub none-of-fewer : (f : Frame) (n count k : ℕ) → count ≤ k → NoneBefore f n k → NoneBefore f n count
none-of-fewer f n count k le h =
    let more : k ≡ count + (k - count) = omega arith in
    fewer (is_free f) (genblk n) count (k - count) (ap (first_of (is_free f) (genblk n)) (sym more) ∙ h)

-- the first that is free is the name
pub is-name : (f : Frame) (n k count : ℕ) (u : Text) → count ≡ length f.declared → k ≤ count → NoneBefore f n k → Some u ≡ tried f n k
    → u ≡ unnamed_block (map (λ (d : Declared). d.name) f.declared) n
is-name f n k count u c le h e =
    let s = some_free (is_free f (genblk n k)) (genblk n k) u e in
    let more : (k + 1) + (count - k) ≡ length (map (λ (d : Declared). d.name) f.declared) + 1 = omega (arith, count-names f) in
    s.1 ∙ sym (ap or_empty (ap (first_of (is_free f) (genblk n)) (sym more)
    ∙ stays (is_free f) (genblk n) (k + 1) (count - k) (genblk n k) (here (is_free f) (genblk n) k h s.0)))

pub no-name : (f : Frame) (n count : ℕ) → count ≡ length f.declared → NoneBefore f n count → None ≡ tried f n count
    → [] ≡ unnamed_block (map (λ (d : Declared). d.name) f.declared) n
no-name f n count c h e =
    let more : count + 1 ≡ length (map (λ (d : Declared). d.name) f.declared) + 1 = omega (arith, count-names f) in
    sym (ap or_empty (ap (first_of (is_free f) (genblk n)) (sym more) ∙ none-more (is_free f) (genblk n) count h (none_free _ _ e)))
