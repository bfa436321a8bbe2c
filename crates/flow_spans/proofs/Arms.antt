-- What each kind of expression adds, from what its operands add.
use Rattle.std.proofs.Common.{◌≡◌, ◌∙◌, sym, ap, ℕ, Bool, ◌||◌, Option, Some, None, List}
use Rattle.std.specs.Prelude.{ℤ, pos}
use Rattle.cov_types.specs.declared.var.Var.{Var}
use Rattle.design_tree.specs.declared.operator.TypedUnary.{TypedUnary}
use Rattle.design_tree.specs.declared.operator.TypedBinary.{TypedBinary}
use Rattle.design_tree.specs.declared.typed.Index.{Index}
use Rattle.design_tree.specs.declared.typed.Typed.{Typed}
use Rattle.design_tree.specs.declared.typed.Typed.TheVariants as typed
use Rattle.design_tree.specs.declared.step.Target.{Target}
use Rattle.design_tree.specs.declared.step.Target.TheVariants as target
use Rattle.circuit_run.specs.States.{Bit}
use Rattle.design_meaning.specs.Spans as meaning
use Rattle.design_meaning.specs.Spans.{is_in_any, constant_position, places_from, reads_of_index}
use Rattle.design_meaning.specs.Targets.{target_reads}
use Rattle.design_meaning.proofs.ListLaws.{any_append}
use Rattle.flow_marks.specs.declared.span.Span.{Span}
use Rattle.flow_spans.specs.Reads.{Adds}
use Rattle.flow_spans.specs.Asked.{reads_asked}
use Rattle.flow_spans.proofs.Adding.{adds_none, adds_both, adds_same}
use Rattle.flow_spans.proofs.ReadBits as bits

abbrev pub Asked : Type 0
Asked = Option (ℤ × ℕ)

-- the bits that an expression reads
abbrev pub seen : Typed → Asked → Bit → Bool
seen e asked b = is_in_any b (reads_asked e asked)

abbrev pub index_seen : Index → Bit → Bool
index_seen at b = is_in_any b (reads_of_index at)

module _ (vars : List Var) where
  pub index_adds : (o p : List Span) (at : Index) (x : Typed) → x ≡ at.value → Adds vars o p (seen x None) → Adds vars o p (index_seen at)
  index_adds o p at x k h = adds_same vars o p (seen x None) (index_seen at) (λ b. ap (λ u. seen u None b) k ∙ bits.index_bits at b) h

  pub number_adds : (o : List Span) (w n : ℕ) (e : Typed) (asked : Asked) → e ≡ typed.Number w n → Adds vars o o (seen e asked)
  number_adds o w n e asked k = adds_none vars o (seen e asked) (λ b. ap (λ u. seen u asked b) k ∙ bits.number_bits w n asked b)

  pub var_adds : (o p : List Span) (v : ℕ) (e : Typed) (asked : Asked) → e ≡ typed.Var v
      → Adds vars o p (λ b. meaning.is_in b (record { var = v; word = Some (pos 0); places = asked })) → Adds vars o p (seen e asked)
  var_adds o p v e asked k h = adds_same vars o p (λ b. meaning.is_in b (record { var = v; word = Some (pos 0); places = asked })) (seen e asked)
      (λ b. bits.var_bits v asked b ∙ ap (λ u. seen u asked b) (sym k)) h

  pub word_adds : (o p q : List Span) (v : ℕ) (at : Index) (e : Typed) (asked : Asked) (word : Option ℤ) → e ≡ typed.Word v at → word ≡ constant_position at
      → Adds vars o p (index_seen at) → Adds vars p q (λ b. meaning.is_in b (record { var = v; word = word; places = asked })) → Adds vars o q (seen e asked)
  word_adds o p q v at e asked word k m f g = adds_same vars o q (λ b. index_seen at b || meaning.is_in b (record {
    var = v;
    word = word;
    places = asked;
  })) (seen e asked)
      (λ b. ap (λ z. index_seen at b || meaning.is_in b (record { var = v; word = z; places = asked })) m ∙ bits.word_bits v at asked b ∙ ap (λ u. seen u
      asked b) (sym k))
      (adds_both vars o p q (index_seen at) (λ b. meaning.is_in b (record { var = v; word = word; places = asked })) f g)

  pub part_adds : (o p q : List Span) (w : ℕ) (of : Typed) (at : Index) (e x : Typed) (asked given : Asked) → e ≡ typed.Part w of at → x ≡ of
      → given ≡ places_from (constant_position at) w → Adds vars o p (index_seen at) → Adds vars p q (seen x given) → Adds vars o q (seen e asked)
  part_adds o p q w of at e x asked given k l m f g = adds_same vars o q (λ b. index_seen at b || seen x given b) (seen e asked)
      (λ b. ap (λ u. index_seen at b || seen u given b) l ∙ ap (λ z. index_seen at b || seen of z b) m ∙ bits.part_bits w of at asked b ∙ ap (λ u. seen u
      asked b) (sym k))
      (adds_both vars o p q (index_seen at) (seen x given) f g)

  pub zero_adds : (o p : List Span) (w : ℕ) (of e x : Typed) (asked : Asked) → e ≡ typed.ZeroExtend w of → x ≡ of → Adds vars o p (seen x None) → Adds vars
      o p (seen e asked)
  zero_adds o p w of e x asked k l h = adds_same vars o p (seen x None) (seen e asked)
      (λ b. ap (λ u. seen u None b) l ∙ bits.zero_bits w of asked b ∙ ap (λ u. seen u asked b) (sym k)) h

  pub sign_adds : (o p : List Span) (w : ℕ) (of e x : Typed) (asked : Asked) → e ≡ typed.SignExtend w of → x ≡ of → Adds vars o p (seen x None) → Adds vars
      o p (seen e asked)
  sign_adds o p w of e x asked k l h = adds_same vars o p (seen x None) (seen e asked)
      (λ b. ap (λ u. seen u None b) l ∙ bits.sign_bits w of asked b ∙ ap (λ u. seen u asked b) (sym k)) h

  pub truncate_adds : (o p : List Span) (w : ℕ) (of e x : Typed) (asked : Asked) → e ≡ typed.Truncate w of → x ≡ of → Adds vars o p (seen x None) → Adds
      vars o p (seen e asked)
  truncate_adds o p w of e x asked k l h = adds_same vars o p (seen x None) (seen e asked)
      (λ b. ap (λ u. seen u None b) l ∙ bits.truncate_bits w of asked b ∙ ap (λ u. seen u asked b) (sym k)) h

  pub unary_adds : (o p : List Span) (op : TypedUnary) (of e x : Typed) (asked : Asked) → e ≡ typed.Unary op of → x ≡ of → Adds vars o p (seen x None) →
      Adds vars o p (seen e asked)
  unary_adds o p op of e x asked k l h = adds_same vars o p (seen x None) (seen e asked)
      (λ b. ap (λ u. seen u None b) l ∙ bits.unary_bits op of asked b ∙ ap (λ u. seen u asked b) (sym k)) h

  pub repeat_adds : (o p : List Span) (count : ℕ) (of e x : Typed) (asked : Asked) → e ≡ typed.Repeat count of → x ≡ of → Adds vars o p (seen x None) →
      Adds vars o p (seen e asked)
  repeat_adds o p count of e x asked k l h = adds_same vars o p (seen x None) (seen e asked)
      (λ b. ap (λ u. seen u None b) l ∙ bits.repeat_bits count of asked b ∙ ap (λ u. seen u asked b) (sym k)) h

  two : (o p q : List Span) (l r e x y : Typed) (asked : Asked) → ((b : Bit) → (seen l None b || seen r None b) ≡ seen e asked b) → x ≡ l → y ≡ r
      → Adds vars o p (seen x None) → Adds vars p q (seen y None) → Adds vars o q (seen e asked)
  two o p q l r e x y asked k m n f g = adds_same vars o q (λ b. seen x None b || seen y None b) (seen e asked)
      (λ b. ap (λ u. seen u None b || seen y None b) m ∙ ap (λ u. seen l None b || seen u None b) n ∙ k b)
      (adds_both vars o p q (seen x None) (seen y None) f g)

  pub binary_adds : (o p q : List Span) (op : TypedBinary) (l r e x y : Typed) (asked : Asked) → e ≡ typed.Binary op l r → x ≡ l → y ≡ r
      → Adds vars o p (seen x None) → Adds vars p q (seen y None) → Adds vars o q (seen e asked)
  binary_adds o p q op l r e x y asked k = two o p q l r e x y asked (λ b. bits.binary_bits op l r asked b ∙ ap (λ u. seen u asked b) (sym k))

  pub join_adds : (o p q : List Span) (l r e x y : Typed) (asked : Asked) → e ≡ typed.Join l r → x ≡ l → y ≡ r
      → Adds vars o p (seen x None) → Adds vars p q (seen y None) → Adds vars o q (seen e asked)
  join_adds o p q l r e x y asked k = two o p q l r e x y asked (λ b. bits.join_bits l r asked b ∙ ap (λ u. seen u asked b) (sym k))

  pub choose_adds : (o p q r : List Span) (test left right e x y z : Typed) (asked : Asked) → e ≡ typed.Choose test left right → x ≡ test → y ≡ left → z ≡ right
      → Adds vars o p (seen x None) → Adds vars p q (seen y None) → Adds vars q r (seen z None) → Adds vars o r (seen e asked)
  choose_adds o p q r test left right e x y z asked k l m n f g h = adds_same vars o r (λ b. (seen x None b || seen y None b) || seen z None b) (seen e asked)
      (λ b. ap (λ u. (seen u None b || seen y None b) || seen z None b) l ∙ ap (λ u. (seen test None b || seen u None b) || seen z None b) m
      ∙ ap (λ u. (seen test None b || seen left None b) || seen u None b) n ∙ bits.choose_bits test left right asked b ∙ ap (λ u. seen u asked b) (sym k))
      (adds_both vars o q r (λ b. seen x None b || seen y None b) (seen z None) (adds_both vars o p q (seen x None) (seen y None) f g) h)

  -- a target's two positions
  pub target_adds : (o p q : List Span) (v : ℕ) (word : Index) (w : ℕ) (at : Index) (t : Target) → t ≡ target.WordPart v word w at
      → Adds vars o p (index_seen word) → Adds vars p q (index_seen at) → Adds vars o q (λ b. is_in_any b (target_reads t))
  target_adds o p q v word w at t k f g = adds_same vars o q (λ b. index_seen word b || index_seen at b) (λ b. is_in_any b (target_reads t))
      (λ b. sym (any_append (meaning.is_in b) (reads_of_index word) (reads_of_index at)) ∙ ap (λ t. is_in_any b (target_reads t)) (sym k))
      (adds_both vars o p q (index_seen word) (index_seen at) f g)
