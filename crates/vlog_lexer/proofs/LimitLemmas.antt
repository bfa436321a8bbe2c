-- Counts of tokens and the limit that is passed.
use Rattle.std.proofs.Common.{◌≡◌, ℕ, ◌+◌, ◌&&◌, ◌||◌, Bool, true, false, cond, not, nat_lt, suc, List, ◌∷◌, take, count_by, refl, ◌∙◌, arith}
use Rattle.std.proofs.lemmas.List.Sums.{sum_by-cons}
use Rattle.std.specs.List.{prefix_len, take_while}
use Rattle.vlog_lexer.specs.Limits.{begins_process, braces, branches, counts_as_operator, is_branch, is_comma, is_operator, is_semicolon, limit_at}
use Rattle.vlog_lexer.specs.Limits.{limit_passed, name_length, operators, role_of, with_those_before}
use Rattle.vlog_lexer.specs.LimitsKept.{AreCounts, branched, operated}
use Rattle.vlog_lexer.specs.declared.limits.Counts.{Counts}
use Rattle.vlog_lexer.specs.declared.limits.Role.{Role}
use Rattle.vlog_lexer.specs.declared.limits.Role.TheVariants as r
use Rattle.vlog_tokens.specs.declared.token.TokenKind.{TokenKind}

pub limit_is : (kind : TokenKind) (before : List TokenKind) (counts : Counts) (n : ℕ) → n ≡ name_length kind → AreCounts (kind ∷ before) counts
    → limit_at n counts.nesting counts.operators counts.branches ≡ limit_passed (kind ∷ before)
unfolding limit_passed
limit_is kind before counts n e are = rw (e, are.nesting_is, are.operators_is, are.branches_is) refl

-- a count over what stands at the front, with one more before it
counted_front : {X : Type 0} (c p : X → Bool) (x : X) (xs : List X) (t : Bool)
    → count_by c (take (cond t (1 + prefix_len p xs) 0) (x ∷ xs)) ≡ cond t (cond (c x) 1 0 + count_by c (take_while p xs)) 0
counted_front c p x xs true =
    let e : 1 + prefix_len p xs ≡ suc (prefix_len p xs) = omega arith in
    rw e (sum_by-cons (λ y. cond (c y) 1 0) x (take (prefix_len p xs) xs))
counted_front c p x xs false = refl

comma_more : (t : Bool) (m : ℕ) → cond t 1 0 + m ≡ cond t (m + 1) m
comma_more true m = omega arith
comma_more false m = omega arith

operated_is : (role : Role) (n m : ℕ) → cond (not (is_semicolon role)) (cond (is_operator role || (is_comma role && nat_lt 0 n)) 1 0 + m) 0 ≡ operated role n m
operated_is r.Operates n m = omega arith
operated_is r.Separates n m = comma_more (nat_lt 0 n) m
operated_is r.Ends n m = refl
operated_is r.Opens n m = omega arith
operated_is r.OpensBrace n m = omega arith
operated_is r.Closes n m = omega arith
operated_is r.ClosesBrace n m = omega arith
operated_is r.Branches n m = omega arith
operated_is r.Process n m = omega arith
operated_is r.Other n m = omega arith

-- operators since the latest `;`, token by token
pub operators_next : (kind : TokenKind) (before : List TokenKind) → operators (kind ∷ before) ≡ operated (role_of kind) (braces before) (operators before)
operators_next kind before =
    counted_front counts_as_operator (λ token. not (is_semicolon (role_of token.0))) (kind, before) (with_those_before before)
    (not (is_semicolon (role_of kind)))
    ∙ operated_is (role_of kind) (braces before) (operators before)

branched_is : (role : Role) (m : ℕ) → cond (not (begins_process role)) (cond (is_branch role) 1 0 + m) 0 ≡ branched role m
branched_is r.Branches m = omega arith
branched_is r.Process m = refl
branched_is r.Operates m = omega arith
branched_is r.Separates m = omega arith
branched_is r.Ends m = omega arith
branched_is r.Opens m = omega arith
branched_is r.OpensBrace m = omega arith
branched_is r.Closes m = omega arith
branched_is r.ClosesBrace m = omega arith
branched_is r.Other m = omega arith

-- branches since the latest process, token by token
pub branches_next : (kind : TokenKind) (before : List TokenKind) → branches (kind ∷ before) ≡ branched (role_of kind) (branches before)
branches_next kind before =
    counted_front (λ token. is_branch (role_of token)) (λ token. not (begins_process (role_of token))) kind before (not (begins_process (role_of kind)))
    ∙ branched_is (role_of kind) (branches before)
