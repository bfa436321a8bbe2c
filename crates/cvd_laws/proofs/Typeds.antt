-- No expression's spelling is a front of another's.
use Rattle.std.specs.Prelude.{◌≡◌, ℕ, Bool, true, false, List, [], ◌∷◌, ◌++◌, codes, refl, find}
use mathlib.Core.Path.{sym, ap, subst, ◌∙◌}
use native.Mathlib.Omega.{arith}
use Rattle.std.specs.Cmp.Lexicographic.{bytes_decides}
use Rattle.std.specs.Str.{bytes_eq}
use Rattle.std.specs.Option.{option_map_or}
use Rattle.design_tree.specs.declared.operator.TypedUnary.{TypedUnary}
use Rattle.design_tree.specs.declared.operator.TypedUnary.TheVariants as u
use Rattle.design_tree.specs.declared.operator.TypedBinary.{TypedBinary}
use Rattle.design_tree.specs.declared.operator.TypedBinary.TheVariants as b
use Rattle.design_tree.specs.declared.typed.Index.{Index, roll-Index, roll-out-Index, fold_out-Index}
use Rattle.design_tree.specs.declared.typed.Typed.{Typed, Typed-F, out-Typed, roll-Typed, out-roll-Typed, roll-out-Typed, fold-roll-Typed}
use Rattle.design_tree.specs.declared.typed.Typed.TheVariants as e
use Rattle.design_tree.specs.declared.typed.Typed.TheOpen as t
use Rattle.cvd_text.specs.Tokens.{Token, word, number, hex}
use Rattle.cvd_laws.specs.Expressions.{is_token}
use Rattle.cvd_text.specs.Expressions.{unary_word, binary_word, sign_word, Position, node_tokens, index_tokens, tokens_of, position_of}
use Rattle.spelling_laws.specs.Spelled.{ApartAt}
use Rattle.cvd_laws.proofs.Numerals.{same_numeral}
use Rattle.spelling_laws.proofs.Then as after
use Rattle.spelling_laws.proofs.One as single
use Rattle.design_meaning.proofs.TypedInduction.{typed_induction}

-- the first word of an expression
pub data Head : Type 0 where
  a_number : Head
  a_variable : Head
  a_word : Head
  a_part : Head
  zeros : Head
  signs : Head
  cut : Head
  unary : TypedUnary → Head
  binary : TypedBinary → Head
  join : Head
  repeats : Head
  choice : Head

abbrev pub head_text : Head → List ℕ
head_text a_number = codes "k"
head_text a_variable = codes "v"
head_text a_word = codes "m"
head_text a_part = codes "p"
head_text zeros = codes "z"
head_text signs = codes "x"
head_text cut = codes "t"
head_text (unary op) = unary_word op
head_text (binary op) = binary_word op
head_text join = codes "cat"
head_text repeats = codes "rep"
head_text choice = codes "sel"

abbrev all_heads : List Head
all_heads =
    a_number ∷ a_variable ∷ a_word ∷ a_part ∷ zeros ∷ signs ∷ cut ∷ unary u.Not ∷ unary u.Neg ∷ unary u.ReduceAnd ∷ unary u.ReduceOr ∷ unary u.ReduceXor
    ∷ binary b.Add ∷ binary b.Sub ∷ binary b.Mul ∷ binary b.DivideUnsigned ∷ binary b.DivideSigned ∷ binary b.RemainderUnsigned ∷ binary b.RemainderSigned
    ∷ binary b.And ∷ binary b.Or ∷ binary b.Xor ∷ binary b.Equal ∷ binary b.BelowUnsigned ∷ binary b.AtMostUnsigned ∷ binary b.BelowSigned ∷ binary
    b.AtMostSigned
    ∷ binary b.ShiftLeft ∷ binary b.ShiftRight ∷ binary b.ShiftRightSigned ∷ join ∷ repeats ∷ choice ∷ []

abbrev head_of : List ℕ → Head
head_of text = option_map_or (λ h. h) (find (λ h. bytes_eq text (head_text h)) all_heads) a_number

head_back : (h : Head) → head_of (head_text h) ≡ h
head_back a_number = refl
head_back a_variable = refl
head_back a_word = refl
head_back a_part = refl
head_back zeros = refl
head_back signs = refl
head_back cut = refl
head_back (unary u.Not) = refl
head_back (unary u.Neg) = refl
head_back (unary u.ReduceAnd) = refl
head_back (unary u.ReduceOr) = refl
head_back (unary u.ReduceXor) = refl
head_back (binary b.Add) = refl
head_back (binary b.Sub) = refl
head_back (binary b.Mul) = refl
head_back (binary b.DivideUnsigned) = refl
head_back (binary b.DivideSigned) = refl
head_back (binary b.RemainderUnsigned) = refl
head_back (binary b.RemainderSigned) = refl
head_back (binary b.And) = refl
head_back (binary b.Or) = refl
head_back (binary b.Xor) = refl
head_back (binary b.Equal) = refl
head_back (binary b.BelowUnsigned) = refl
head_back (binary b.AtMostUnsigned) = refl
head_back (binary b.BelowSigned) = refl
head_back (binary b.AtMostSigned) = refl
head_back (binary b.ShiftLeft) = refl
head_back (binary b.ShiftRight) = refl
head_back (binary b.ShiftRightSigned) = refl
head_back join = refl
head_back repeats = refl
head_back choice = refl

pub same_text : (x y : List ℕ) → bytes_eq x y ≡ true → x ≡ y
same_text x y e = (bytes_decides x y).0 e

abbrev pub head_token : Head → Token
head_token h = word (head_text h)

pub same_heads : (p : List ℕ) (v w : Head) → is_token p (head_token v) ≡ true → is_token p (head_token w) ≡ true → v ≡ w
same_heads p v w e f = sym (head_back v) ∙ ap head_of (sym (same_text p (head_text v) e) ∙ same_text p (head_text w) f) ∙ head_back w

same_numbers : (p : List ℕ) (v w : ℕ) → is_token p (number v) ≡ true → is_token p (number w) ≡ true → v ≡ w
same_numbers p v w e f = same_numeral 10 v w (omega arith) (omega arith) (sym (same_text p _ e) ∙ same_text p _ f)

same_hexes : (p : List ℕ) (v w : ℕ) → is_token p (hex v) ≡ true → is_token p (hex w) ≡ true → v ≡ w
same_hexes p v w e f = same_numeral 16 v w (omega arith) (omega arith) (sym (same_text p _ e) ∙ same_text p _ f)

sign_back : (s : Bool) → bytes_eq (sign_word s) (codes "s") ≡ s
sign_back true = refl
sign_back false = refl

abbrev pub sign_token : Bool → Token
sign_token s = word (sign_word s)

same_signs : (p : List ℕ) (v w : Bool) → is_token p (sign_token v) ≡ true → is_token p (sign_token w) ≡ true → v ≡ w
same_signs p v w e f = sym (sign_back v) ∙ ap (λ x. bytes_eq x (codes "s")) (sym (same_text p (sign_word v) e) ∙ same_text p (sign_word w) f) ∙ sign_back w

-- ---- heads and parts

abbrev pub Parts : Head → Type 0
Parts a_number = (w : ℕ) × ℕ
Parts a_variable = ℕ
Parts a_word = (v : ℕ) × ((low : ℕ) × ((s : Bool) × Typed))
Parts a_part = (w : ℕ) × ((low : ℕ) × ((s : Bool) × ((of : Typed) × Typed)))
Parts zeros = (w : ℕ) × Typed
Parts signs = (w : ℕ) × Typed
Parts cut = (w : ℕ) × Typed
Parts (unary op) = Typed
Parts (binary op) = (l : Typed) × Typed
Parts join = (h : Typed) × Typed
Parts repeats = (n : ℕ) × Typed
Parts choice = (test : Typed) × ((l : Typed) × Typed)

-- spellings of parts
abbrev pub sNumber : ℕ → List Token
sNumber n = number n ∷ []

abbrev pub sHex : ℕ → List Token
sHex n = hex n ∷ []

abbrev pub sSign : Bool → List Token
sSign s = sign_token s ∷ []

abbrev pub parts_spelled : (h : Head) → Parts h → List Token
parts_spelled a_number p = sNumber p.0 ++ sHex p.1
parts_spelled a_variable v = sNumber v
parts_spelled a_word p = sNumber p.0 ++ (sNumber p.1.0 ++ (sSign p.1.1.0 ++ tokens_of p.1.1.1))
parts_spelled a_part p = sNumber p.0 ++ (sNumber p.1.0 ++ (sSign p.1.1.0 ++ (tokens_of p.1.1.1.0 ++ tokens_of p.1.1.1.1)))
parts_spelled zeros p = sNumber p.0 ++ tokens_of p.1
parts_spelled signs p = sNumber p.0 ++ tokens_of p.1
parts_spelled cut p = sNumber p.0 ++ tokens_of p.1
parts_spelled (unary op) of = tokens_of of
parts_spelled (binary op) p = tokens_of p.0 ++ tokens_of p.1
parts_spelled join p = tokens_of p.0 ++ tokens_of p.1
parts_spelled repeats p = sNumber p.0 ++ tokens_of p.1
parts_spelled choice p = tokens_of p.0 ++ (tokens_of p.1.0 ++ tokens_of p.1.1)

abbrev pub Whole : Type 0
Whole = (h : Head) × Parts h

abbrev pub whole_spelled : Whole → List Token
whole_spelled p = (head_token p.0 ∷ []) ++ parts_spelled p.0 p.1

abbrev pub index : ℕ → Bool → Typed → Index
index low s v = roll-Index (record { low = low; signed = s; value = v })

abbrev made : (h : Head) → Parts h → Typed
made a_number p = e.Number p.0 p.1
made a_variable v = e.Var v
made a_word p = e.Word p.0 (index p.1.0 p.1.1.0 p.1.1.1)
made a_part p = e.Part p.0 p.1.1.1.0 (index p.1.0 p.1.1.0 p.1.1.1.1)
made zeros p = e.ZeroExtend p.0 p.1
made signs p = e.SignExtend p.0 p.1
made cut p = e.Truncate p.0 p.1
made (unary op) of = e.Unary op of
made (binary op) p = e.Binary op p.0 p.1
made join p = e.Join p.0 p.1
made repeats p = e.Repeat p.0 p.1
made choice p = e.Choose p.0 p.1.0 p.1.1

abbrev to : Whole → Typed
to p = made p.0 p.1

abbrev pub layer_parts : Typed-F Typed Index → Whole
layer_parts (t.Number w n) = (a_number, (w, n))
layer_parts (t.Var v) = (a_variable, v)
layer_parts (t.Word v at) = (a_word, (v, (at.low, (at.signed, at.value))))
layer_parts (t.Part w of at) = (a_part, (w, (at.low, (at.signed, (of, at.value)))))
layer_parts (t.ZeroExtend w of) = (zeros, (w, of))
layer_parts (t.SignExtend w of) = (signs, (w, of))
layer_parts (t.Truncate w of) = (cut, (w, of))
layer_parts (t.Unary op of) = (unary op, of)
layer_parts (t.Binary op l r) = (binary op, (l, r))
layer_parts (t.Join h l) = (join, (h, l))
layer_parts (t.Repeat n of) = (repeats, (n, of))
layer_parts (t.Choose test l r) = (choice, (test, (l, r)))

abbrev pub from : Typed → Whole
from x = layer_parts (out-Typed x)

pub index_back : (at : Index) → index at.low at.signed at.value ≡ at
index_back at = roll-out-Index at

there_layer : (x : Typed-F Typed Index) → to (layer_parts x) ≡ roll-Typed x
there_layer (t.Number w n) = sym (e.rolls-Number w n)
there_layer (t.Var v) = sym (e.rolls-Var v)
there_layer (t.Word v at) = ap (e.Word v) (index_back at) ∙ sym (e.rolls-Word v at)
there_layer (t.Part w of at) = ap (e.Part w of) (index_back at) ∙ sym (e.rolls-Part w of at)
there_layer (t.ZeroExtend w of) = sym (e.rolls-ZeroExtend w of)
there_layer (t.SignExtend w of) = sym (e.rolls-SignExtend w of)
there_layer (t.Truncate w of) = sym (e.rolls-Truncate w of)
there_layer (t.Unary op of) = sym (e.rolls-Unary op of)
there_layer (t.Binary op l r) = sym (e.rolls-Binary op l r)
there_layer (t.Join h l) = sym (e.rolls-Join h l)
there_layer (t.Repeat n of) = sym (e.rolls-Repeat n of)
there_layer (t.Choose test l r) = sym (e.rolls-Choose test l r)

there : (x : Typed) → to (from x) ≡ x
there x = there_layer (out-Typed x) ∙ roll-out-Typed x

pub position_at : (at : Index) → position_of at ≡ index_tokens (record { low = at.low; signed = at.signed; value = tokens_of at.value })
position_at at = fold_out-Index (List Token) Position node_tokens index_tokens at

alike_layer : (x : Typed-F Typed Index) → tokens_of (roll-Typed x) ≡ whole_spelled (layer_parts x)
alike_layer (t.Number w n) = fold-roll-Typed (List Token) Position node_tokens index_tokens (t.Number w n)
alike_layer (t.Var v) = fold-roll-Typed (List Token) Position node_tokens index_tokens (t.Var v)
alike_layer (t.Word v at) = fold-roll-Typed (List Token) Position node_tokens index_tokens (t.Word v at)
    ∙ ap (λ (q : Position). word (codes "m") ∷ number v ∷ (q.front ++ q.value)) (position_at at)
alike_layer (t.Part w of at) = fold-roll-Typed (List Token) Position node_tokens index_tokens (t.Part w of at)
    ∙ ap (λ (q : Position). word (codes "p") ∷ number w ∷ (q.front ++ (tokens_of of ++ q.value))) (position_at at)
alike_layer (t.ZeroExtend w of) = fold-roll-Typed (List Token) Position node_tokens index_tokens (t.ZeroExtend w of)
alike_layer (t.SignExtend w of) = fold-roll-Typed (List Token) Position node_tokens index_tokens (t.SignExtend w of)
alike_layer (t.Truncate w of) = fold-roll-Typed (List Token) Position node_tokens index_tokens (t.Truncate w of)
alike_layer (t.Unary op of) = fold-roll-Typed (List Token) Position node_tokens index_tokens (t.Unary op of)
alike_layer (t.Binary op l r) = fold-roll-Typed (List Token) Position node_tokens index_tokens (t.Binary op l r)
alike_layer (t.Join h l) = fold-roll-Typed (List Token) Position node_tokens index_tokens (t.Join h l)
alike_layer (t.Repeat n of) = fold-roll-Typed (List Token) Position node_tokens index_tokens (t.Repeat n of)
alike_layer (t.Choose test l r) = fold-roll-Typed (List Token) Position node_tokens index_tokens (t.Choose test l r)

pub alike : (x : Typed) → tokens_of x ≡ whole_spelled (from x)
alike x = ap tokens_of (sym (roll-out-Typed x)) ∙ alike_layer (out-Typed x)

-- ---- apart

abbrev IsApart : Typed → Type 0
IsApart x = ApartAt is_token tokens_of x

pub apart_number : (n : ℕ) → ApartAt is_token sNumber n
apart_number = single.apart_one is_token ℕ number same_numbers

pub apart_hex : (n : ℕ) → ApartAt is_token sHex n
apart_hex = single.apart_one is_token ℕ hex same_hexes

pub apart_sign : (s : Bool) → ApartAt is_token sSign s
apart_sign = single.apart_one is_token Bool sign_token same_signs

-- a value is apart where its head's parts are
apart_whole : (h : Head) (x : Parts h) → ApartAt is_token (parts_spelled h) x → ApartAt is_token whole_spelled (h, x)
apart_whole h x apart = after.apart_pair is_token Head Parts (λ k. head_token k ∷ []) parts_spelled h x (single.apart_one is_token Head head_token
    same_heads h) apart

apart_layer : (x : Typed-F Typed Index) → ApartAt is_token whole_spelled (layer_parts x) → IsApart (roll-Typed x)
apart_layer x apart =
    single.apart_via is_token Whole Typed to from there whole_spelled tokens_of alike (roll-Typed x)
    (subst (λ y. ApartAt is_token whole_spelled (layer_parts y)) (sym (out-roll-Typed x)) apart)

-- one behind another, where the second doesn't depend on the first
pub then_apart : (A B : Type 0) (sA : A → List Token) (sB : B → List Token) (a : A) (b : B) → ApartAt is_token sA a → ApartAt is_token sB b
    → ApartAt is_token {A = (x : A) × B} (λ p. sA p.0 ++ sB p.1) (a, b)
then_apart A B sA sB a b p q = after.apart_pair is_token A (λ x. B) sA (λ x y. sB y) a b p q

-- N E, and E F
number_then : (n : ℕ) (x : Typed) → IsApart x → ApartAt is_token {A = (m : ℕ) × Typed} (λ p. sNumber p.0 ++ tokens_of p.1) (n, x)
number_then n x p = then_apart ℕ Typed sNumber tokens_of n x (apart_number n) p

two : (x y : Typed) → IsApart x → IsApart y → ApartAt is_token {A = (l : Typed) × Typed} (λ p. tokens_of p.0 ++ tokens_of p.1) (x, y)
two x y p q = then_apart Typed Typed tokens_of tokens_of x y p q

-- no expression's spelling is a front of another's
pub apart_typed : (x : Typed) → IsApart x
apart_typed = typed_induction IsApart
    (λ w n. subst IsApart (e.rolls-Number w n) (apart_layer (t.Number w n) (apart_whole a_number (w, n) (then_apart ℕ ℕ sNumber sHex w n (apart_number w)
    (apart_hex n)))))
    (λ v. subst IsApart (e.rolls-Var v) (apart_layer (t.Var v) (apart_whole a_variable v (apart_number v))))
    (λ v at p. subst IsApart (e.rolls-Word v at) (apart_layer (t.Word v at) (apart_whole a_word (v, (at.low, (at.signed, at.value)))
    (then_apart ℕ _ sNumber _ v _ (apart_number v) (then_apart ℕ _ sNumber _ at.low _ (apart_number at.low) (then_apart Bool _ sSign tokens_of at.signed
    at.value (apart_sign at.signed) p))))))
    (λ w of at p q. subst IsApart (e.rolls-Part w of at) (apart_layer (t.Part w of at) (apart_whole a_part (w, (at.low, (at.signed, (of, at.value))))
    (then_apart ℕ _ sNumber _ w _ (apart_number w) (then_apart ℕ _ sNumber _ at.low _ (apart_number at.low) (then_apart Bool _ sSign _ at.signed _
    (apart_sign at.signed) (two of at.value p q)))))))
    (λ w of p. subst IsApart (e.rolls-ZeroExtend w of) (apart_layer (t.ZeroExtend w of) (apart_whole zeros (w, of) (number_then w of p))))
    (λ w of p. subst IsApart (e.rolls-SignExtend w of) (apart_layer (t.SignExtend w of) (apart_whole signs (w, of) (number_then w of p))))
    (λ w of p. subst IsApart (e.rolls-Truncate w of) (apart_layer (t.Truncate w of) (apart_whole cut (w, of) (number_then w of p))))
    (λ op of p. subst IsApart (e.rolls-Unary op of) (apart_layer (t.Unary op of) (apart_whole (unary op) of p)))
    (λ op l r p q. subst IsApart (e.rolls-Binary op l r) (apart_layer (t.Binary op l r) (apart_whole (binary op) (l, r) (two l r p q))))
    (λ h l p q. subst IsApart (e.rolls-Join h l) (apart_layer (t.Join h l) (apart_whole join (h, l) (two h l p q))))
    (λ n of p. subst IsApart (e.rolls-Repeat n of) (apart_layer (t.Repeat n of) (apart_whole repeats (n, of) (number_then n of p))))
    (λ test l r p q s. subst IsApart (e.rolls-Choose test l r) (apart_layer (t.Choose test l r) (apart_whole choice (test, (l, r)) (then_apart Typed _
    tokens_of _ test _ p (two l r q s)))))
