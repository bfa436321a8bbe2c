-- What is left of the tokens of a file behind a part of it, and where a token stands.
use Rattle.std.proofs.Common.{◌≡◌, ◌∙◌, sym, ap, ℕ, suc, ◌-◌, ◌≤◌, ◌∷◌, length, slice_get, Some, arith}
use Rattle.cov_types.specs.declared.place.Place.{Place}
use Rattle.vlog_tokens.specs.declared.token.Token.{Token}
use Rattle.vlog_grammar.specs.Tokens.{Tokens}

-- the first tokens are an end of the second
pub data IsEnd : Tokens → Tokens → Type 0 where
  whole : {ts : Tokens} → IsEnd ts ts
  later : {t : Token} {us ts : Tokens} → IsEnd us ts → IsEnd us (t ∷ ts)

-- the end behind the first token of one
pub next : {t : Token} {us ts : Tokens} → IsEnd (t ∷ us) ts → IsEnd us ts
next whole = later whole
next (later e) = later (next e)

no_longer : {us ts : Tokens} → IsEnd us ts → length us ≤ length ts
no_longer whole = omega arith
no_longer (later e) = omega (arith, no_longer e)

-- with so many tokens left, its own included, a token of this place comes next
pub record Stands (all : Tokens) (n : ℕ) (p : Place) : Type 0 where
  pub token : Token
  pub rest : Tokens
  pub end : IsEnd (token ∷ rest) all
  pub left : length (token ∷ rest) ≡ n
  pub place : token.place ≡ p

number_of : {t : Token} {us ts : Tokens} → IsEnd (t ∷ us) ts → slice_get ts (length ts - length (t ∷ us)) ≡ Some t
number_of {t} {us} whole = ap (slice_get (t ∷ us)) (none (length us))
  where
    none : (n : ℕ) → suc n - suc n ≡ 0
    none n = omega arith
number_of {t} {us} (later {t = s} {ts = ts} e) = ap (slice_get (s ∷ ts)) (one_more (length ts) (length us) (no_longer e)) ∙ number_of e
  where
    one_more : (m n : ℕ) → suc n ≤ m → suc m - suc n ≡ suc (m - suc n)
    one_more m n le = omega (arith, le)

-- no two of these tokens stand at one place
abbrev pub OnePlace : Tokens → Type 0
OnePlace all = (m n : ℕ) (t u : Token) → slice_get all m ≡ Some t → slice_get all n ≡ Some u → t.place ≡ u.place → m ≡ n

-- then a place tells how many tokens are left
pub same_left : {all : Tokens} {m n : ℕ} {p q : Place} → OnePlace all → Stands all m p → Stands all n q → p ≡ q → m ≡ n
same_left {all} {m} {n} one a b e =
    let i = length all - length (a.token ∷ a.rest) in
    let j = length all - length (b.token ∷ b.rest) in
    let same : i ≡ j = one i j a.token b.token (number_of a.end) (number_of b.end) (a.place ∙ e ∙ sym b.place) in
    sym a.left ∙ left_again (length all) (length a.rest) (length b.rest) (no_longer a.end) (no_longer b.end) same ∙ b.left
  where
    left_again : (k x y : ℕ) → suc x ≤ k → suc y ≤ k → k - suc x ≡ k - suc y → suc x ≡ suc y
    left_again k x y le less e = omega (arith, le, less, e)

-- the number of such a token
pub at_number : {all : Tokens} {m : ℕ} {p : Place} → Stands all m p → (k : ℕ) × (t : Token) × (slice_get all k ≡ Some t) × (t.place ≡ p)
at_number {all} a = (length all - length (a.token ∷ a.rest), a.token, number_of a.end, a.place)
