-- Looking a name up where one more entry stands last.
use Rattle.std.proofs.Common.{◌≡◌, ℕ, Bool, true, false, List, [], ◌∷◌, ◌++◌, Option, Some, None, cond, is_some, refl, sym, ap, ◌∙◌}
use Rattle.std.specs.Map.{lookup}
use Rattle.std.specs.Option.{option_or}
use Rattle.std.specs.Str.{bytes_eq}

-- what the entries before the last don't have, the last may have
lookup-last : {K V : Type 0} (test : K → Bool) (es : List (K × V)) (key : K) (v : V)
    → lookup test (es ++ (key, v) ∷ []) ≡ option_or (lookup test es) (cond (test key) (Some v) None)
lookup-last test [] key v = refl
lookup-last {K} {V} test (e ∷ es) key v =
    elim (test e.0) as (λ b. cond b (Some e.1) (lookup test (es ++ (key, v) ∷ []))
    ≡ option_or (cond b (Some e.1) (lookup test es)) (cond (test key) (Some v) None)) [
      | true ↦ refl
      | false ↦ lookup-last test es key v
    ]

is_none : {A : Type 0} (a : Option A) → is_some a ≡ false → a ≡ None
is_none None h = refl
is_none (Some a) h = cc

module _ {K V : Type 0} (bytes : K → List ℕ) (es : List (K × V)) (key : K) (name : List ℕ) (same : bytes key ≡ name) where
  -- a key whose name has no value has none
  pub absent : (b : Bool) → b ≡ is_some (lookup (λ k. bytes_eq name (bytes k)) es) → b ≡ false → lookup (λ k. bytes_eq (bytes key) (bytes k)) es ≡ None
  absent b h false_is = ap (λ n. lookup (λ k. bytes_eq n (bytes k)) es) same ∙ is_none (lookup (λ k. bytes_eq name (bytes k)) es) (sym h ∙ false_is)

  -- the values of names once the key stands last
  pub appended : (v : V) (new : List (K × V)) → new ≡ es ++ (key, v) ∷ [] → (q : List ℕ)
      → lookup (λ k. bytes_eq q (bytes k)) new ≡ option_or (lookup (λ k. bytes_eq q (bytes k)) es) (cond (bytes_eq q name) (Some v) None)
  appended v new h q =
      ap (lookup (λ k. bytes_eq q (bytes k))) h ∙ lookup-last (λ k. bytes_eq q (bytes k)) es key v
      ∙ ap (λ (n : List ℕ). option_or (lookup (λ k. bytes_eq q (bytes k)) es) (cond (bytes_eq q n) (Some v) None)) same
