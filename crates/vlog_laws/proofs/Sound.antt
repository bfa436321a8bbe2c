-- What is read as an expression is spelled so.
use Rattle.std.proofs.Common.{◌≡◌, ℕ, zero, suc, ◌+◌, ◌-◌, ◌<◌, ◌≤◌, max, Bool, cond, ◌==◌, List, [], ◌∷◌, ◌++◌, length, Option, Some, None, refl, sym, ◌∙◌}
use Rattle.std.proofs.Common.{ap, subst, inl, inr, arith, append_assoc, ltb, ltb-true, ltb-false, lt-ltb, add-one, eqb-true}
use Rattle.cov_types.specs.declared.place.Place.{Place}
use Rattle.vlog_tokens.specs.declared.token.TokenKind.{TokenKind}
use Rattle.vlog_tokens.specs.declared.token.TokenKind.TheVariants as k
use Rattle.vlog_tree.specs.declared.operator.UnaryOp.{UnaryOp}
use Rattle.vlog_tree.specs.declared.operator.BinaryOp.{BinaryOp}
use Rattle.vlog_tree.specs.declared.operator.SystemCall.{SystemCall}
use Rattle.vlog_tree.specs.declared.expression.Expr.{Expr}
use Rattle.vlog_tree.specs.declared.expression.Expr.TheVariants as e
use Rattle.vlog_tree.specs.declared.expression.Select.{Select}
use Rattle.vlog_tree.specs.declared.expression.Select.TheVariants as sel
use Rattle.vlog_grammar.specs.Tokens.{Tokens, at, prefix_of, call_of, tightest}
use Rattle.vlog_grammar.specs.Expressions.{IsExpr, plain, choice, IsBinary, operand, higher, joined, IsUnary, prefix, primary, IsPrimary, number, part, inner}
use Rattle.vlog_grammar.specs.Expressions.{join, repeat, call, IsPart, name, position, slice, twice, IsSelect, single, several, IsSlice, between, up, down}
use Rattle.vlog_grammar.specs.Expressions.{AreExprs, last, more, SpellsExpr}
use Rattle.vlog_reading.specs.Marks.{mark}
use Rattle.vlog_reading.specs.Reading.{Parser, and_then, rest_of, next_infix}
use Rattle.vlog_reading.specs.ReadExpressions as read
use Rattle.vlog_laws.proofs.Basics.{level_at, nothing, both, and_then_some, if_parser, same_Some, of_mark, expects, eats, unseen, before, onto, same}
use Rattle.vlog_laws.proofs.Basics.{infix_it, infix_low, next_low}

-- a level that is read in place of a lower one
lower : (k n : ℕ) {ts us : Tokens} {a : Expr} → IsBinary (k + n) ts a us → IsBinary n ts a us
lower zero n {ts} {us} {a} b = let z : 0 + n ≡ n = omega arith in subst (λ m. IsBinary m ts a us) z b
lower (suc k) n {ts} {us} {a} b = let s : suc k + n ≡ suc (k + n) = omega arith in lower k n (higher (subst (λ m. IsBinary m ts a us) s b))

at_least : (m n : ℕ) {ts us : Tokens} {a : Expr} → n ≤ m → IsBinary m ts a us → IsBinary n ts a us
at_least m n {ts} {us} {a} h b = let s : m ≡ (m - n) + n = omega arith in lower (m - n) n (subst (λ x. IsBinary x ts a us) s b)

module _ (expr : ℕ → Parser Expr)
    (whole : (ts us : Tokens) (a : Expr) → expr 1 ts ≡ Some (a, us) → IsExpr ts a us)
    (some_level : (n : ℕ) (ts us : Tokens) (a : Expr) → 2 ≤ n → n ≤ tightest → expr n ts ≡ Some (a, us) → IsBinary n ts a us × (level_at (next_infix us) < n))
    (unary : (ts us : Tokens) (a : Expr) → expr tightest ts ≡ Some (a, us) → IsUnary ts a us)
  where
    pub within_sound : (close : TokenKind) (ts us : Tokens) (a : Expr) → of_mark (mark close) ≡ Some close → read.nested_before expr close ts ≡ Some (a, us)
        → (p : Place) × IsExpr ts a (at p close ∷ us)
    unfolding read.nested_before
    within_sound close ts us a known h =
        let first = and_then_some (expr 1 ts) _ (a, us) h in
        let shut = expects close _ first.1 (a, us) known first.3 in
        (shut.0, same (λ x y z. IsExpr x y (at shut.0 close ∷ z)) shut.3 (onto IsExpr shut.2 (whole ts first.1 first.0 first.2)))

    pub list_sound : (t : ℕ) (found : List Expr) (ts us : Tokens) (all : List Expr) → read.list_from expr t found ts ≡ Some (all, us)
        → (new : List Expr) × (all ≡ found ++ new) × AreExprs ts new us
    unfolding read.list_from
    list_sound zero found ts us all h = nothing (all, us) h
    list_sound (suc t) found ts us all h =
        let first = and_then_some (expr 1 ts) _ (all, us) h in
        let one = whole ts first.1 first.0 first.2 in
        elim (eats k.Comma _ _ first.1 (all, us) refl first.3) [
          | inl some ↦
              let rest = list_sound t (found ++ first.0 ∷ []) some.1 us all some.3 in
              (first.0 ∷ rest.0, rest.1 ∙ append_assoc found (first.0 ∷ []) rest.0, more (onto IsExpr some.2 one) rest.2)
          | inr none ↦
              let ends = both (found ++ first.0 ∷ []) all first.1 us none.1 in
              (first.0 ∷ [], sym ends.0, onto AreExprs ends.1 (last one))
        ]

    repeated_sound : (n : Expr) (p q : Place) (ts vs us : Tokens) (a : Expr) → IsExpr ts n (at q k.OpenBrace ∷ vs)
        → read.repeated expr n vs ≡ Some (a, us) → IsPrimary (at p k.OpenBrace ∷ ts) a us
    unfolding read.repeated read.list
    repeated_sound n p q ts vs us a count h =
        let parts = and_then_some (read.list expr [] vs) _ (a, us) h in
        let all = list_sound (length vs) [] vs parts.1 parts.0 parts.2 in
        let one = expects k.CloseBrace _ parts.1 (a, us) refl parts.3 in
        let two = expects k.CloseBrace _ one.1 (a, us) refl one.3 in
        let list : AreExprs vs parts.0 (at one.0 k.CloseBrace ∷ at two.0 k.CloseBrace ∷ two.1) =
        subst (λ x. AreExprs vs x (at one.0 k.CloseBrace ∷ at two.0 k.CloseBrace ∷ two.1)) (sym all.1)
        (onto AreExprs {vs = at one.0 k.CloseBrace ∷ at two.0 k.CloseBrace ∷ two.1} (one.2 ∙ ap (λ x. at one.0 k.CloseBrace ∷ x) two.2) all.2) in
        same IsPrimary two.3 (repeat count list)

    others_sound : (first : Expr) (ts vs us : Tokens) (all : List Expr) → IsExpr ts first vs → read.others expr first vs ≡ Some (all, us) → AreExprs ts all us
    unfolding read.others read.list
    others_sound first ts vs us all one h =
        elim (eats k.Comma _ _ vs (all, us) refl h) [
          | inl some ↦
              let rest = list_sound (length some.1) (first ∷ []) some.1 us all some.3 in
              subst (λ x. AreExprs ts x us) (sym rest.1) (more (onto IsExpr some.2 one) rest.2)
          | inr none ↦ same AreExprs none.1 (last one)
        ]

    joined_sound : (first : Expr) (p : Place) (ts vs us : Tokens) (a : Expr) → IsExpr ts first vs
        → read.joined expr first vs ≡ Some (a, us) → IsPrimary (at p k.OpenBrace ∷ ts) a us
    unfolding read.joined
    joined_sound first p ts vs us a one h =
        let parts = and_then_some (read.others expr first vs) _ (a, us) h in
        let shut = expects k.CloseBrace _ parts.1 (a, us) refl parts.3 in
        same IsPrimary shut.3 (join (onto AreExprs shut.2 (others_sound first ts vs parts.1 parts.0 one parts.2)))

    braces_sound : (p : Place) (ts us : Tokens) (a : Expr) → read.in_braces expr ts ≡ Some (a, us) → IsPrimary (at p k.OpenBrace ∷ ts) a us
    unfolding read.in_braces
    braces_sound p ts us a h =
        let first = and_then_some (expr 1 ts) _ (a, us) h in
        let one = whole ts first.1 first.0 first.2 in
        elim (eats k.OpenBrace _ _ first.1 (a, us) refl first.3) [
          | inl some ↦ repeated_sound first.0 p some.0 ts some.1 us a (onto IsExpr some.2 one) some.3
          | inr none ↦ joined_sound first.0 p ts first.1 us a one none.1
        ]

    prefixed_sound : (kind : TokenKind) (found : Option UnaryOp) (p : Place) (ts us : Tokens) (a : Expr) → prefix_of kind ≡ found
        → read.prefixed expr found (at p kind ∷ ts) ≡ Some (a, us) → IsUnary (at p kind ∷ ts) a us
    prefixed_sound kind None p ts us a known h = nothing (a, us) h
    prefixed_sound kind (Some op) p ts us a known h =
        let of = and_then_some (expr tightest ts) _ (a, us) h in
        same IsUnary of.3 (prefix known (unary ts of.1 of.0 of.2))

    slice_sound : (first : Expr) (ts vs us : Tokens) (some : Select) → IsExpr ts first vs → read.slice expr first vs ≡ Some (some, us) → IsSlice ts some us
    unfolding read.slice read.slice_by_width
    slice_sound first ts vs us some one h =
        elim (eats k.Colon _ _ vs (some, us) refl h) [
          | inl colon ↦
              let second = and_then_some (read.nested_before expr k.CloseBracket colon.1) _ (some, us) colon.3 in
              same IsSlice second.3 (between (onto IsExpr colon.2 one) (within_sound k.CloseBracket colon.1 second.1 second.0 refl second.2).1)
          | inr none ↦
              elim (eats k.PlusColon _ _ vs (some, us) refl none.1) [
                | inl plus ↦
                    let second = and_then_some (read.nested_before expr k.CloseBracket plus.1) _ (some, us) plus.3 in
                    same IsSlice second.3 (up (onto IsExpr plus.2 one) (within_sound k.CloseBracket plus.1 second.1 second.0 refl second.2).1)
                | inr neither ↦
                    let minus = expects k.MinusColon _ vs (some, us) refl neither.1 in
                    let second = and_then_some (read.nested_before expr k.CloseBracket minus.1) _ (some, us) minus.3 in
                    same IsSlice second.3 (down (onto IsExpr minus.2 one) (within_sound k.CloseBracket minus.1 second.1 second.0 refl second.2).1)
              ]
        ]

    select_sound : (ts us : Tokens) (some : Select) → read.select expr ts ≡ Some (some, us) → IsSelect ts some us
    unfolding read.select
    select_sound ts us some h =
        let first = and_then_some (expr 1 ts) _ (some, us) h in
        let one = whole ts first.1 first.0 first.2 in
        elim (eats k.CloseBracket _ _ first.1 (some, us) refl first.3) [
          | inl shut ↦ same IsSelect shut.3 (single (onto IsExpr shut.2 one))
          | inr none ↦ several (slice_sound first.0 ts first.1 us some one none.1)
        ]

    again_sound : (s : List ℕ) (first : Expr) (p q r : Place) (ts vs us : Tokens) (a : Expr) → IsExpr ts first (at r k.CloseBracket ∷ vs)
        → read.second_select expr (e.Select (e.Name s) (sel.At first)) vs ≡ Some (a, us) → IsPart (at p (k.Name s) ∷ at q k.OpenBracket ∷ ts) a us
    unfolding read.second_select
    again_sound s first p q r ts vs us a one h =
        elim (eats k.OpenBracket _ _ vs (a, us) refl h) [
          | inl some ↦
              let second = and_then_some (read.select expr some.1) _ (a, us) some.3 in
              same IsPart second.3 (twice (onto IsExpr (ap (λ x. at r k.CloseBracket ∷ x) some.2) one) (select_sound some.1 second.1 second.0 second.2))
          | inr none ↦ same IsPart none.1 (position one (unseen k.OpenBracket vs none.0))
        ]

    bracketed_sound : (s : List ℕ) (p q : Place) (ts us : Tokens) (a : Expr) → read.part_after_bracket expr s ts ≡ Some (a, us)
        → IsPart (at p (k.Name s) ∷ at q k.OpenBracket ∷ ts) a us
    unfolding read.part_after_bracket
    bracketed_sound s p q ts us a h =
        let first = and_then_some (expr 1 ts) _ (a, us) h in
        let one = whole ts first.1 first.0 first.2 in
        elim (eats k.CloseBracket _ _ first.1 (a, us) refl first.3) [
          | inl shut ↦ again_sound s first.0 p q shut.0 ts shut.1 us a (onto IsExpr shut.2 one) shut.3
          | inr none ↦
              let some = and_then_some (read.slice expr first.0 first.1) _ (a, us) none.1 in
              same IsPart some.3 (slice (slice_sound first.0 ts first.1 some.1 some.0 one some.2))
        ]

    pub named_sound : (s : List ℕ) (p : Place) (ts us : Tokens) (a : Expr) → read.part_after_name expr s ts ≡ Some (a, us) → IsPart (at p (k.Name s) ∷ ts) a us
    unfolding read.part_after_name
    named_sound s p ts us a h =
        elim (eats k.OpenBracket _ _ ts (a, us) refl h) [
          | inl some ↦ before IsPart (ap (λ x. at p (k.Name s) ∷ x) (sym some.2)) (bracketed_sound s p some.0 some.1 us a some.3)
          | inr none ↦ same IsPart none.1 (name (unseen k.OpenBracket ts none.0))
        ]

    called_sound : (s : List ℕ) (found : Option SystemCall) (p : Place) (ts us : Tokens) (a : Expr) → call_of s ≡ found
        → read.system_function expr found ts ≡ Some (a, us) → IsPrimary (at p (k.System s) ∷ ts) a us
    called_sound s None p ts us a known h = nothing (a, us) h
    called_sound s (Some what) p ts us a known h =
        let open1 = expects k.OpenParen _ ts (a, us) refl h in
        let of = and_then_some (read.nested_before expr k.CloseParen open1.1) _ (a, us) open1.3 in
        same IsPrimary of.3 (before IsPrimary (ap (λ x. at p (k.System s) ∷ x) (sym open1.2))
        (call known (within_sound k.CloseParen open1.1 of.1 of.0 refl of.2).1))

    number_sound : (width value free : ℕ) (signed : Bool) (p : Place) (ts us : Tokens) (a : Expr)
        → cond {A = Parser Expr} (free == 0) (λ x. Some (e.Number width signed value free, x)) (λ x. None) ts ≡ Some (a, us)
        → IsPrimary (at p (k.Number width signed value free) ∷ ts) a us
    number_sound width value free signed p ts us a h =
        elim (if_parser (free == 0) _ _ ts (Some (a, us)) h) [
          | inl zero1 ↦
              same IsPrimary zero1.1 (subst (λ f. IsPrimary (at p (k.Number width signed value f) ∷ ts) (e.Number width signed value f) ts)
              (sym (eqb-true free 0 zero1.0)) number)
          | inr bits ↦ nothing (a, us) bits.1
        ]

    operand_at : (kind : TokenKind) (p : Place) (ts us : Tokens) (a : Expr) → read.unary_or_primary_by expr (Some kind) (at p kind ∷ ts) ≡ Some (a, us)
        → IsUnary (at p kind ∷ ts) a us
    operand_at (k.Number width signed value free) p ts us a h = primary (number_sound width value free signed p ts us a h)
    operand_at (k.Name s) p ts us a h = primary (part (named_sound s p ts us a h))
    operand_at (k.System s) p ts us a h = primary (called_sound s (call_of s) p ts us a refl h)
    operand_at k.OpenParen p ts us a h = primary (inner (within_sound k.CloseParen ts us a refl h).1)
    operand_at k.OpenBrace p ts us a h = primary (braces_sound p ts us a h)
    operand_at kind p ts us a h = prefixed_sound kind (prefix_of kind) p ts us a refl h

    operand_sound : (ts us : Tokens) (a : Expr) → read.unary_or_primary expr ts ≡ Some (a, us) → IsUnary ts a us
    unfolding read.unary_or_primary
    operand_sound [] us a h = nothing (a, us) h
    operand_sound (t ∷ ts) us a h = operand_at t.what t.place ts us a h

    climb_stops : (m least : ℕ) (ts r us : Tokens) (a b : Expr) → least ≤ m → IsBinary m ts a r → level_at (next_infix r) < least
        → ◌≡◌ {A = Option (Expr × Tokens)} (Some (a, r)) (Some (b, us)) → IsBinary least ts b us × (level_at (next_infix us) < least)
    climb_stops m least ts r us a b h tree next found =
        let ends = both a b r us found in (
          subst (λ x. IsBinary least ts x us) ends.0 (subst (λ x. IsBinary least ts a x) ends.1 (at_least m least h tree)),
          subst (λ x. level_at (next_infix x) < least) ends.1 next,
        )

    -- the turn after an operator of level n
    climb_turn : (t m n least : ℕ) (op : BinaryOp) (ts r us : Tokens) (a b : Expr) → 2 ≤ least → least ≤ n → n ≤ m → IsBinary m ts a r
        → next_infix r ≡ Some (n, op)
        → ((m : ℕ) (r : Tokens) (a : Expr) → least ≤ m → IsBinary m ts a r → level_at (next_infix r) ≤ m
        → read.climb expr least t a r ≡ Some (b, us) → IsBinary least ts b us × (level_at (next_infix us) < least))
        → and_then (expr (n + 1) (rest_of r)) (λ right. read.climb expr least t (e.Binary op a right)) ≡ Some (b, us)
        → IsBinary least ts b us × (level_at (next_infix us) < least)
    climb_turn t m n least op ts r us a b two h below tree next again found =
        let it = infix_it r n op next in
        let low : n < tightest = infix_low it.1 n op it.3 in
        let right = and_then_some (expr (n + 1) (rest_of r)) _ (b, us) found in
        let operand = some_level (n + 1) (rest_of r) right.1 right.0 (omega arith) (omega arith) right.2 in
        let left : IsBinary n ts a (at it.0 it.1 ∷ rest_of r) = subst (λ x. IsBinary n ts a x) it.2 (at_least m n below tree) in
        let second : IsBinary (suc n) (rest_of r) right.0 right.1 = subst (λ x. IsBinary x (rest_of r) right.0 right.1) (add-one n) operand.0 in
        again n right.1 (e.Binary op a right.0) h (joined left it.3 second) (omega (arith, operand.1)) right.3

    climb_by_sound : (found : Option (ℕ × BinaryOp)) (t m least : ℕ) (ts r us : Tokens) (a b : Expr) → 2 ≤ least → least ≤ m → IsBinary m ts a r
        → next_infix r ≡ found → level_at found ≤ m
        → ((m : ℕ) (r : Tokens) (a : Expr) → least ≤ m → IsBinary m ts a r → level_at (next_infix r) ≤ m
        → read.climb expr least t a r ≡ Some (b, us) → IsBinary least ts b us × (level_at (next_infix us) < least))
        → read.climb_by expr least (read.climb expr least t) a found r ≡ Some (b, us)
        → IsBinary least ts b us × (level_at (next_infix us) < least)
    climb_by_sound None t m least ts r us a b two h tree next below again found =
        climb_stops m least ts r us a b h tree (let z : level_at (next_infix r) ≡ 0 = ap level_at next in omega arith) found
    climb_by_sound (Some o) t m least ts r us a b two h tree next below again found =
        elim (if_parser (ltb o.0 least) _ _ r (Some (b, us)) found) [
          | inl stop ↦
              let z : level_at (next_infix r) ≡ o.0 = ap level_at next in
              climb_stops m least ts r us a b h tree (omega (arith, z, ltb-true o.0 least stop.0)) stop.1
          | inr goes ↦ climb_turn t m o.0 least o.1 ts r us a b two (ltb-false o.0 least goes.0) below tree next again goes.1
        ]

    climb_sound : (t m least : ℕ) (ts r us : Tokens) (a b : Expr) → 2 ≤ least → least ≤ m → IsBinary m ts a r → level_at (next_infix r) ≤ m
        → read.climb expr least t a r ≡ Some (b, us) → IsBinary least ts b us × (level_at (next_infix us) < least)
    unfolding read.climb
    climb_sound zero m least ts r us a b two h tree next found = nothing (b, us) found
    climb_sound (suc t) m least ts r us a b two h tree next found =
        climb_by_sound (next_infix r) t m least ts r us a b two h tree refl next
        (λ m' r' a' h' tree' next' found'. climb_sound t m' least ts r' us a' b two h' tree' next' found') found

    operations_sound : (least : ℕ) (ts vs us : Tokens) (first a : Expr) → 2 ≤ least → least ≤ tightest → read.unary_or_primary expr ts ≡ Some (first, vs)
        → read.binary_rest expr least first vs ≡ Some (a, us) → IsBinary least ts a us × (level_at (next_infix us) < least)
    unfolding read.binary_rest
    operations_sound least ts vs us first a two low one h =
        climb_sound (length vs + 1) tightest least ts vs us first a two low (operand (operand_sound ts vs first one)) (omega (arith, next_low vs)) h

    chosen_sound : (ts vs us : Tokens) (test a : Expr) → IsBinary 2 ts test vs → read.conditional_rest expr test vs ≡ Some (a, us) → IsExpr ts a us
    unfolding read.conditional_rest
    chosen_sound ts vs us test a tree h =
        elim (eats k.Question _ _ vs (a, us) refl h) [
          | inl some ↦
              let first = and_then_some (read.nested_before expr k.Colon some.1) _ (a, us) some.3 in
              let second = and_then_some (expr 1 first.1) _ (a, us) first.3 in
              same IsExpr second.3 (choice (subst (λ x. IsBinary 2 ts test x) some.2 tree)
              (within_sound k.Colon some.1 first.1 first.0 refl first.2).1 (whole _ _ _ second.2))
          | inr none ↦ same IsExpr none.1 (plain tree)
        ]

    pub level_whole : (ts us : Tokens) (a : Expr) → read.at_level expr 1 ts ≡ Some (a, us) → IsExpr ts a us
    unfolding read.at_level
    level_whole ts us a h =
        let first = and_then_some (read.unary_or_primary expr ts) _ (a, us) h in
        let all = and_then_some (read.binary_rest expr 2 first.0 first.1) _ (a, us) first.3 in
        chosen_sound ts all.1 us all.0 a (operations_sound 2 ts first.1 all.1 first.0 all.0 (omega arith) (omega arith) first.2 all.2).0 all.3

    pub level_some : (n : ℕ) (ts us : Tokens) (a : Expr) → 2 ≤ n → n ≤ tightest → read.at_level expr n ts ≡ Some (a, us)
        → IsBinary n ts a us × (level_at (next_infix us) < n)
    unfolding read.at_level
    level_some n ts us a two low h =
        let first = and_then_some (read.unary_or_primary expr ts) _ (a, us) h in
        let all = and_then_some (read.binary_rest expr (max n 2) first.0 first.1) _ (a, us) first.3 in
        let same : max n 2 ≡ n = omega arith in
        let tree =
        operations_sound n ts first.1 all.1 first.0 all.0 two low first.2 (subst (λ m. read.binary_rest expr m first.0 first.1 ≡ Some
        (all.0, all.1)) same all.2) in
        elim (if_parser (ltb n 2) _ _ all.1 (Some (a, us)) all.3) [
          | inl less ↦ absurd (omega (arith, ltb-true n 2 less.0))
          | inr ends ↦
              let parts = both all.0 a all.1 us ends.1 in (
                subst (λ x. IsBinary n ts x us) parts.0 (subst (λ x. IsBinary n ts all.0 x) parts.1 tree.0),
                subst (λ x. level_at
                    (next_infix x) < n) parts.1 tree.1,
              )
        ]

    climb_tight : (found : Option (ℕ × BinaryOp)) (t : ℕ) (a : Expr) (r : Tokens) → level_at found < tightest
        → read.climb_by expr tightest (read.climb expr tightest t) a found r ≡ Some (a, r)
    climb_tight None t a r low = refl
    climb_tight (Some o) t a r low = rw (lt-ltb o.0 tightest low) refl

    pub level_unary : (ts us : Tokens) (a : Expr) → read.at_level expr tightest ts ≡ Some (a, us) → IsUnary ts a us
    unfolding read.at_level read.binary_rest read.climb
    level_unary ts us a h =
        let first = and_then_some (read.unary_or_primary expr ts) _ (a, us) h in
        let all = and_then_some (read.binary_rest expr tightest first.0 first.1) _ (a, us) first.3 in
        let turn : read.climb expr tightest (length first.1 + 1) first.0 first.1 ≡ Some (first.0, first.1) =
        rw (add-one (length first.1)) (climb_tight (next_infix first.1) (length first.1) first.0 first.1 (next_low first.1)) in
        let ends = both first.0 all.0 first.1 all.1 (sym turn ∙ all.2) in
        same IsUnary all.3 (subst (λ x. IsUnary ts x all.1) ends.0 (onto IsUnary ends.1 (operand_sound ts first.1 first.0 first.2)))

-- whatever is read is spelled so, at each depth
pub record IsSound (expr : ℕ → Parser Expr) : Type 0 where
  pub whole : (ts us : Tokens) (a : Expr) → expr 1 ts ≡ Some (a, us) → IsExpr ts a us
  pub some_level : (n : ℕ) (ts us : Tokens) (a : Expr) → 2 ≤ n → n ≤ tightest → expr n ts ≡ Some (a, us) → IsBinary n ts a us × (level_at (next_infix us) < n)
  pub unary : (ts us : Tokens) (a : Expr) → expr tightest ts ≡ Some (a, us) → IsUnary ts a us

pub expr_sound : (depth : ℕ) → IsSound (read.expr depth)
unfolding read.expr
expr_sound zero = record {
  whole = λ ts us a h. nothing (a, us) h;
  some_level = λ n ts us a two low h. nothing (a, us) h;
  unary = λ ts us a h. nothing (a, us) h;
}
expr_sound (suc d) =
    let below = expr_sound d in
    record {
      whole = level_whole (read.expr d) below.whole below.some_level below.unary;
      some_level = level_some (read.expr d) below.whole below.some_level below.unary;
      unary = level_unary (read.expr d) below.whole below.some_level below.unary;
    }

pub expression_sound : (ts us : Tokens) (a : Expr) → read.expression ts ≡ Some (a, us) → IsExpr ts a us
unfolding read.expression
expression_sound ts us a h = (expr_sound (length ts)).whole ts us a h

pub expressions_sound : (ts us : Tokens) (all : List Expr) → read.expressions ts ≡ Some (all, us) → AreExprs ts all us
unfolding read.expressions read.list
expressions_sound ts us all h =
    let s = expr_sound (length ts) in
    let list = list_sound (read.expr (length ts)) s.whole s.some_level s.unary (length ts) [] ts us all h in
    subst (λ x. AreExprs ts x us) (sym list.1) list.2

pub whole_some : {A : Type 0} (r : Option (A × Tokens)) (a : A) → read.whole r ≡ Some a → r ≡ Some (a, [])
whole_some (Some (b, [])) a h = ap (λ x. Some (x, [])) (same_Some b a h)
whole_some (Some (b, t ∷ ts)) a h = nothing a h
whole_some None a h = nothing a h

pub only_sound : (ts : Tokens) (a : Expr) → read.only_expression ts ≡ Some a → SpellsExpr ts a
unfolding read.only_expression
only_sound ts a h = expression_sound ts [] a (whole_some _ a h)
