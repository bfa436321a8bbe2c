-- A first word tells one form.
use Rattle.std.proofs.Common.{◌≡◌, ℕ, Bool, true, false, cond, List, [], ◌∷◌, Option, Some, None, refl, sym, ◌∙◌, ap}
use Rattle.std.specs.Prelude.{◌&&◌}
use Rattle.std.specs.List.{list_all}
use Rattle.std.specs.Option.{option_map}
use Rattle.std.specs.Str.{bytes_eq}
use Rattle.std.specs.Cmp.Lexicographic.{bytes_decides}
use Rattle.std.proofs.lemmas.Bool.{cases_Bool, true≢false}
use mathlib.Core.Logic.{inl, inr}
use Rattle.design_tree.specs.declared.operator.TypedUnary.{TypedUnary}
use Rattle.design_tree.specs.declared.operator.TypedUnary.TheVariants as u
use Rattle.design_tree.specs.declared.operator.TypedBinary.{TypedBinary}
use Rattle.design_tree.specs.declared.operator.TypedBinary.TheVariants as b
use Rattle.cvd_text.specs.Expressions.{unary_word, binary_word}
use Rattle.cvd_text.specs.Tokens.{word}
use Rattle.cvd_text.specs.Pieces.{Piece, a_word, feed, fits, token}
use Rattle.spelling_laws.specs.Spelled.{ApartAt}
use Rattle.spelling_laws.proofs.One as single
use Rattle.cvd_cursor.specs.Reads.{marks}
use Rattle.cvd_nodes.specs.Heads.{head_text, Entry, look_up, plain_table, unary_table, value_table, other_table, first_of, head_of}
use Rattle.cvd_nodes.specs.Nodes.{head_tokens}
use Rattle.cvd_nodes.specs.declared.head.Head.{Head}
use Rattle.cvd_nodes.specs.declared.head.Head.TheVariants as head

same_text : (x y : List ℕ) → bytes_eq x y ≡ true → x ≡ y
same_text x y e = (bytes_decides x y).0 e

-- ---- tables

module _ {A : Type 0} (word_of : A → List ℕ) where
  -- each entry of a table has the word of what it tells
  abbrev is_right : List (Entry A) → Bool
  is_right es = list_all (λ (e : Entry A). bytes_eq e.text (word_of e.tells)) es

  found : (es : List (Entry A)) (text : List ℕ) (a : A) → is_right es ≡ true → look_up es text ≡ Some a → bytes_eq text (word_of a) ≡ true
  found [] text a right e = absurd (cc)
  found (x ∷ es) text a right e =
      by (bytes_eq text x.text) refl (bytes_eq x.text (word_of x.tells)) refl right e (λ r. found es text a r)
    where
      by : (t : Bool) → bytes_eq text x.text ≡ t → (q : Bool) → bytes_eq x.text (word_of x.tells) ≡ q → (q && is_right es) ≡ true
          → cond t (Some x.tells) (look_up es text) ≡ Some a → (is_right es ≡ true → look_up es text ≡ Some a → bytes_eq text (word_of a) ≡ true)
          → bytes_eq text (word_of a) ≡ true
      by true p true q r f later =
          let tells : x.tells ≡ a = cc in
          ap (λ l. bytes_eq l (word_of a)) (same_text text x.text p) ∙ ap (λ y. bytes_eq x.text (word_of y)) (sym tells) ∙ q
      by true p false q r f later = absurd (true≢false (sym r))
      by false p true q r f later = later r f
      by false p false q r f later = absurd (true≢false (sym r))

mapped : {A B : Type 0} (f : A → B) (o : Option A) (y : B) → option_map f o ≡ Some y → (a : A) × ((o ≡ Some a) × (f a ≡ y))
mapped f None y e = absurd (cc)
mapped f (Some a) y e = (a, (refl, cc))

-- the word that tells a form is that form's
pub head_found : (text : List ℕ) (h : Head) → head_of text ≡ Some h → bytes_eq text (head_text h) ≡ true
head_found text h = by (look_up plain_table text) (look_up unary_table text) (look_up value_table text) (look_up other_table text) refl refl refl refl
  where
    by : (p : Option Head) (q : Option TypedUnary) (v o : Option TypedBinary) → look_up plain_table text ≡ p → look_up unary_table text ≡ q
        → look_up value_table text ≡ v → look_up other_table text ≡ o
        → first_of p (first_of (option_map head.Unary q) (first_of (option_map head.Binary v) (option_map head.Binary o))) ≡ Some h
        → bytes_eq text (head_text h) ≡ true
    by (Some a) q v o e1 e2 e3 e4 e = found head_text plain_table text h refl (e1 ∙ e)
    by None (Some a) v o e1 e2 e3 e4 e =
        let same : head.Unary a ≡ h = cc in
        ap (λ k. bytes_eq text (head_text k)) (sym same) ∙ found unary_word unary_table text a refl e2
    by None None (Some a) o e1 e2 e3 e4 e =
        let same : head.Binary a ≡ h = cc in
        ap (λ k. bytes_eq text (head_text k)) (sym same) ∙ found binary_word value_table text a refl e3
    by None None None o e1 e2 e3 e4 e =
        let m = mapped head.Binary o h e in
        ap (λ k. bytes_eq text (head_text k)) (sym m.1.1) ∙ found binary_word other_table text m.0 refl (e4 ∙ m.1.0)

-- the word of a form tells it
head_again : (h : Head) → head_of (head_text h) ≡ Some h
head_again head.Number = refl
head_again head.Var = refl
head_again head.Word = refl
head_again head.Part = refl
head_again head.ZeroExtend = refl
head_again head.SignExtend = refl
head_again head.Truncate = refl
head_again (head.Unary u.Not) = refl
head_again (head.Unary u.Neg) = refl
head_again (head.Unary u.ReduceAnd) = refl
head_again (head.Unary u.ReduceOr) = refl
head_again (head.Unary u.ReduceXor) = refl
head_again (head.Binary b.Add) = refl
head_again (head.Binary b.Sub) = refl
head_again (head.Binary b.Mul) = refl
head_again (head.Binary b.DivideUnsigned) = refl
head_again (head.Binary b.DivideSigned) = refl
head_again (head.Binary b.RemainderUnsigned) = refl
head_again (head.Binary b.RemainderSigned) = refl
head_again (head.Binary b.And) = refl
head_again (head.Binary b.Or) = refl
head_again (head.Binary b.Xor) = refl
head_again (head.Binary b.Equal) = refl
head_again (head.Binary b.BelowUnsigned) = refl
head_again (head.Binary b.AtMostUnsigned) = refl
head_again (head.Binary b.BelowSigned) = refl
head_again (head.Binary b.AtMostSigned) = refl
head_again (head.Binary b.ShiftLeft) = refl
head_again (head.Binary b.ShiftRight) = refl
head_again (head.Binary b.ShiftRightSigned) = refl
head_again head.Join = refl
head_again head.Repeat = refl
head_again head.Choose = refl

pub head_none : (text : List ℕ) → head_of text ≡ None → (h : Head) → bytes_eq text (head_text h) ≡ false
head_none text e h = elim (cases_Bool (bytes_eq text (head_text h))) [
  | inl same ↦ let again = sym (head_again h) ∙ ap head_of (sym (same_text text (head_text h) same)) ∙ e in absurd (cc)
  | inr other ↦ other
]

some_same : {A : Type 0} (x y : A) → Some x ≡ Some y → x ≡ y
some_same x y e = cc

same_heads : (p : Piece) (v w : Head) → fits p (token (word (head_text v))) ≡ true → fits p (token (word (head_text w))) ≡ true → v ≡ w
same_heads (a_word text) v w e f =
    some_same v w (sym (head_again v) ∙ ap head_of (sym (same_text text (head_text v) e) ∙ same_text text (head_text w) f) ∙ head_again w)
same_heads feed v w e f = absurd (true≢false (sym e))

pub apart_head : (h : Head) → ApartAt fits (marks head_tokens) h
apart_head h = single.apart_one fits Head (λ k. token (word (head_text k))) same_heads h
