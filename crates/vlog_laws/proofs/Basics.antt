-- Steps of reading, seen from what they found.
use Rattle.std.proofs.Common.{◌≡◌, ℕ, ◌<◌, Bool, true, false, cond, ◌==◌, ◌⊎◌, [], ◌∷◌, Option, Some, None, refl, sym, ◌∙◌, ap, subst, inl, inr, arith}
use Rattle.std.proofs.Common.{eqb-true, eq-eqb, lit<}
use Rattle.cov_types.specs.declared.place.Place.{Place}
use Rattle.vlog_tokens.specs.declared.token.TokenKind.{TokenKind}
use Rattle.vlog_tokens.specs.declared.token.TokenKind.TheVariants as k
use Rattle.vlog_tree.specs.declared.operator.BinaryOp.{BinaryOp}
use Rattle.vlog_grammar.specs.Tokens.{Tokens, at, NotNext, infix_of, tightest}
use Rattle.vlog_reading.specs.Marks.{mark}
use Rattle.vlog_reading.specs.Reading.{Parser, and_then, sees, after, expect, rest_of, next_infix}
pub use Rattle.vlog_laws.proofs.Marked.{of_mark, same_Some, same_mark}

-- the level of the operator that comes next, or 0
abbrev pub level_at : Option (ℕ × BinaryOp) → ℕ
level_at (Some p) = p.0
level_at None = 0

pub nothing : {A B : Type 0} (x : A) → ◌≡◌ {A = Option A} None (Some x) → B
nothing x h = absurd cc

-- the two parts of what was read
pub both : {A : Type 0} (a b : A) (ts us : Tokens) → ◌≡◌ {A = Option (A × Tokens)} (Some (a, ts)) (Some (b, us)) → (a ≡ b) × (ts ≡ us)
both a b ts us h = let p : (a, ts) ≡ (b, us) = same_Some (a, ts) (b, us) h in (ap (λ r. r.0) p, ap (λ r. r.1) p)

-- a step that found something, and went on
pub and_then_some : {A B : Type 0} (r : Option (A × Tokens)) (f : A → Parser B) (y : B × Tokens)
    → and_then r f ≡ Some y → (x : A) × (us : Tokens) × (r ≡ Some (x, us)) × (f x us ≡ Some y)
and_then_some (Some p) f y h = (p.0, p.1, refl, h)
and_then_some None f y h = absurd cc

pub if_parser : {A : Type 0} (b : Bool) (p q : Parser A) (ts : Tokens) (y : Option (A × Tokens)) → cond b p q ts ≡ y
    → ((b ≡ true) × (p ts ≡ y)) ⊎ ((b ≡ false) × (q ts ≡ y))
if_parser true p q ts y h = inl (refl, h)
if_parser false p q ts y h = inr (refl, h)

pub if_some : {A : Type 0} (b : Bool) (x y z : A) → cond b x y ≡ z → ((b ≡ true) × (x ≡ z)) ⊎ ((b ≡ false) × (y ≡ z))
if_some true x y z h = inl (refl, h)
if_some false x y z h = inr (refl, h)

pub bool_cases : (b : Bool) → (b ≡ true) ⊎ (b ≡ false)
bool_cases true = inl refl
bool_cases false = inr refl

-- the word or mark that was asked for stands in front
pub sees_it : (kind : TokenKind) (ts : Tokens) → of_mark (mark kind) ≡ Some kind → sees kind ts ≡ true
    → (p : Place) × (ts ≡ at p kind ∷ rest_of ts)
unfolding sees
sees_it kind [] known h = absurd cc
sees_it kind (t ∷ ts) known h = (t.place, ap (λ w. at t.place w ∷ ts) (same_mark t.what kind known (eqb-true _ _ h)))

pub after_it : (kind : TokenKind) (ts : Tokens) → sees kind ts ≡ true → after kind ts ≡ rest_of ts
unfolding after
after_it kind ts h = rw h refl

pub after_none : (kind : TokenKind) (ts : Tokens) → sees kind ts ≡ false → after kind ts ≡ ts
unfolding after
after_none kind ts h = rw h refl

pub sees_at : (kind : TokenKind) (p : Place) (ts : Tokens) → sees kind (at p kind ∷ ts) ≡ true
unfolding sees
sees_at kind p ts = eq-eqb (mark kind) (mark kind) refl

pub sees_other : (kind other : TokenKind) (p : Place) (ts : Tokens) → (mark other == mark kind) ≡ false → sees kind (at p other ∷ ts) ≡ false
unfolding sees
sees_other kind other p ts h = h

-- no such token comes next, exactly where none is seen
pub unseen : (kind : TokenKind) (ts : Tokens) → sees kind ts ≡ false → NotNext kind ts
unseen kind ts h p rest e = let two : true ≡ false = sym (sees_at kind p rest) ∙ ap (sees kind) (sym e) ∙ h in absurd cc

pub not_seen : (kind : TokenKind) (ts : Tokens) → of_mark (mark kind) ≡ Some kind → NotNext kind ts → sees kind ts ≡ false
not_seen kind ts known none =
    elim (bool_cases (sees kind ts)) [
      | inl some ↦ (let it = sees_it kind ts known some in absurd (none it.0 (rest_of ts) it.1))
      | inr h ↦ h
    ]

-- the mark that had to come next
pub expects : {B : Type 0} (kind : TokenKind) (f : Parser B) (ts : Tokens) (y : B × Tokens) → of_mark (mark kind) ≡ Some kind
    → and_then (expect kind ts) (λ _. f) ≡ Some y → (p : Place) × (us : Tokens) × (ts ≡ at p kind ∷ us) × (f us ≡ Some y)
unfolding expect
expects kind f ts y known h =
    let found = and_then_some (expect kind ts) (λ _. f) y h in
    elim (if_some (sees kind ts) _ _ _ found.2) [
      | inl some ↦
          let it = sees_it kind ts known some.0 in
          let e = both tt found.0 (rest_of ts) found.1 some.1 in
          (it.0, found.1, it.1 ∙ ap (λ r. at it.0 kind ∷ r) e.1, found.3)
      | inr none ↦ nothing (found.0, found.1) none.1
    ]

-- the mark that was taken where it came next
pub eats : {B : Type 0} (kind : TokenKind) (f g : Parser B) (ts : Tokens) (y : B × Tokens) → of_mark (mark kind) ≡ Some kind
    → cond (sees kind ts) f g (after kind ts) ≡ Some y
    → ((p : Place) × (us : Tokens) × (ts ≡ at p kind ∷ us) × (f us ≡ Some y)) ⊎ ((sees kind ts ≡ false) × (g ts ≡ Some y))
eats kind f g ts y known h =
    elim (if_parser (sees kind ts) f g (after kind ts) (Some y) h) [
      | inl some ↦
          let it = sees_it kind ts known some.0 in
          inl (it.0, rest_of ts, it.1, ap f (sym (after_it kind ts some.0)) ∙ some.1)
      | inr none ↦ inr (none.0, ap g (sym (after_none kind ts none.0)) ∙ none.1)
    ]

levels_low : (kind : TokenKind) → level_at (infix_of kind) < 12
levels_low k.LogicalOr = lit< tt
levels_low k.LogicalAnd = lit< tt
levels_low k.Pipe = lit< tt
levels_low k.Caret = lit< tt
levels_low k.CaretTilde = lit< tt
levels_low k.TildeCaret = lit< tt
levels_low k.Ampersand = lit< tt
levels_low k.Equal = lit< tt
levels_low k.NotEqual = lit< tt
levels_low k.CaseEqual = lit< tt
levels_low k.CaseNotEqual = lit< tt
levels_low k.Less = lit< tt
levels_low k.LessOrEqual = lit< tt
levels_low k.Greater = lit< tt
levels_low k.GreaterOrEqual = lit< tt
levels_low k.ShiftLeft = lit< tt
levels_low k.ShiftRight = lit< tt
levels_low k.ArithmeticShiftLeft = lit< tt
levels_low k.ArithmeticShiftRight = lit< tt
levels_low k.Plus = lit< tt
levels_low k.Minus = lit< tt
levels_low k.Star = lit< tt
levels_low k.Slash = lit< tt
levels_low k.Percent = lit< tt
levels_low _ = lit< tt

pub infix_it : (ts : Tokens) (n : ℕ) (op : BinaryOp) → next_infix ts ≡ Some (n, op)
    → (p : Place) × (kind : TokenKind) × (ts ≡ at p kind ∷ rest_of ts) × (infix_of kind ≡ Some (n, op))
unfolding next_infix
infix_it [] n op h = absurd cc
infix_it (t ∷ ts) n op h = (t.place, t.what, refl, h)

-- all binary operators are below the unary ones
pub infix_low : (kind : TokenKind) (n : ℕ) (op : BinaryOp) → infix_of kind ≡ Some (n, op) → n < tightest
infix_low kind n op h = let p : level_at (infix_of kind) ≡ n = ap level_at h in omega (arith, levels_low kind, p)

pub next_low : (ts : Tokens) → level_at (next_infix ts) < tightest
unfolding next_infix
next_low [] = omega arith
next_low (t ∷ ts) = omega (arith, levels_low t.what)

-- nothing after these tokens goes on with an expression that stands before them
abbrev pub Ends : Tokens → Type 0
Ends ts = (next_infix ts ≡ None) × (sees k.Question ts ≡ false)

pub ends_at : (kind : TokenKind) (p : Place) (ts : Tokens) → infix_of kind ≡ None → (mark kind == mark k.Question) ≡ false → Ends (at p kind ∷ ts)
unfolding next_infix sees
ends_at kind p ts none other = (none, other)

pub ends_empty : Ends []
unfolding next_infix sees
ends_empty = (refl, refl)

pub infix_at_front : (kind : TokenKind) (p : Place) (ts : Tokens) → next_infix (at p kind ∷ ts) ≡ infix_of kind
unfolding next_infix
infix_at_front kind p ts = refl

-- a step that finds something, and goes on
pub goes : {A B : Type 0} {r : Option (A × Tokens)} {x : A} {us : Tokens} {y : Option (B × Tokens)} (f : A → Parser B)
    → r ≡ Some (x, us) → f x us ≡ y → and_then r f ≡ y
goes f e h = ap (λ r. and_then r f) e ∙ h

pub goes_mark : {B : Type 0} {y : Option (B × Tokens)} (kind : TokenKind) (p : Place) (us : Tokens) (f : Parser B)
    → f us ≡ y → and_then (expect kind (at p kind ∷ us)) (λ _. f) ≡ y
unfolding expect
goes_mark kind p us f h = rw (sees_at kind p us) h

pub eat_yes : {B : Type 0} {y : Option (B × Tokens)} (kind : TokenKind) (p : Place) (us : Tokens) (f g : Parser B)
    → f us ≡ y → cond (sees kind (at p kind ∷ us)) f g (after kind (at p kind ∷ us)) ≡ y
eat_yes kind p us f g h = rw (sees_at kind p us, after_it kind (at p kind ∷ us) (sees_at kind p us)) h

pub eat_no : {B : Type 0} {y : Option (B × Tokens)} (kind : TokenKind) (ts : Tokens) (f g : Parser B)
    → sees kind ts ≡ false → g ts ≡ y → cond (sees kind ts) f g (after kind ts) ≡ y
eat_no kind ts f g none h = rw (none, after_none kind ts none) h

-- another mark stands there
pub eat_other : {B : Type 0} {y : Option (B × Tokens)} (kind other : TokenKind) (p : Place) (us : Tokens) (f g : Parser B)
    → (mark other == mark kind) ≡ false → g (at p other ∷ us) ≡ y
    → cond (sees kind (at p other ∷ us)) f g (after kind (at p other ∷ us)) ≡ y
eat_other kind other p us f g differ h = eat_no kind (at p other ∷ us) f g (sees_other kind other p us differ) h

-- a relation at equal tokens and trees
pub before : {A : Type 0} (R : Tokens → A → Tokens → Type 0) {ts us vs : Tokens} {a : A} → ts ≡ vs → R ts a us → R vs a us
before R {ts} {us} {vs} {a} e h = subst (λ x. R x a us) e h

pub onto : {A : Type 0} (R : Tokens → A → Tokens → Type 0) {ts us vs : Tokens} {a : A} → us ≡ vs → R ts a us → R ts a vs
onto R {ts} {us} {vs} {a} e h = subst (λ x. R ts a x) e h

pub same : {A : Type 0} (R : Tokens → A → Tokens → Type 0) {ts us vs : Tokens} {a b : A} → ◌≡◌ {A = Option (A × Tokens)} (Some (a, us)) (Some (b, vs))
    → R ts a us → R ts b vs
same R {ts} {us} {vs} {a} {b} e h = let p : (a, us) ≡ (b, vs) = same_Some (a, us) (b, vs) e in subst (λ x. R ts x.0 x.1) p h
