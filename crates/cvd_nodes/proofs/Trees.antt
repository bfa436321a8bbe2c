-- An expression in front of others is its first node with its operands in front of those others.
use Rattle.std.proofs.Common.{◌≡◌, ℕ, zero, suc, ◌+◌, Bool, List, [], ◌∷◌, ◌++◌, map, Some, refl, sym, ◌∙◌, ap, arith, append_assoc}
use Rattle.std.specs.Option.{option_and_then}
use Rattle.design_tree.specs.declared.typed.Index.{Index, roll-out-Index}
use Rattle.design_tree.specs.declared.typed.Typed.{Typed, Typed-F, out-Typed, roll-Typed, roll-out-Typed}
use Rattle.design_tree.specs.declared.typed.Typed.TheVariants as e
use Rattle.design_tree.specs.declared.typed.Typed.TheOpen as t
use Rattle.design_meaning.proofs.TypedFolds as folds
use Rattle.cvd_text.specs.Tokens.{Token}
use Rattle.cvd_text.specs.Expressions.{tokens_of, Position, node_tokens, index_tokens}
use Rattle.cvd_text.specs.Pieces.{Mark, token}
use Rattle.cvd_nodes.specs.Nodes.{Fields, Own, own_marks, node_with}
use Rattle.cvd_nodes.specs.declared.node.Node.{Node}
use Rattle.cvd_nodes.specs.Trees.{Trees, tree_marks, list_of, index, operands, plug, push}
use Rattle.cvd_nodes.specs.declared.head.Head.{Head}
use Rattle.cvd_nodes.specs.declared.head.Head.TheVariants as head

-- how many expressions come behind a node, where so many come behind its expression
abbrev pub behind : Head → ℕ → ℕ
behind head.Number k = k
behind head.Var k = k
behind head.Word k = suc k
behind head.Part k = suc (suc k)
behind head.ZeroExtend k = suc k
behind head.SignExtend k = suc k
behind head.Truncate k = suc k
behind (head.Unary op) k = suc k
behind (head.Binary op) k = suc (suc k)
behind head.Join k = suc (suc k)
behind head.Repeat k = suc k
behind head.Choose k = suc (suc (suc k))

abbrev pub Split : ℕ → Type 0
Split k = (n : Own) × Trees (behind n.0 k)

abbrev pub split_marks : (k : ℕ) → Split k → List Mark
split_marks k p = own_marks p.0 ++ tree_marks (behind p.0.0 k) p.1

abbrev pub made : (h : Head) → Fields h → (k : ℕ) → Trees (behind h k) → Trees (suc k)
made head.Number f k ts = (e.Number f.0 f.1, ts)
made head.Var v k ts = (e.Var v, ts)
made head.Word f k ts = (e.Word f.0 (index f.1.0 f.1.1 ts.0), ts.1)
made head.Part f k ts = (e.Part f.0 ts.0 (index f.1.0 f.1.1 ts.1.0), ts.1.1)
made head.ZeroExtend w k ts = (e.ZeroExtend w ts.0, ts.1)
made head.SignExtend w k ts = (e.SignExtend w ts.0, ts.1)
made head.Truncate w k ts = (e.Truncate w ts.0, ts.1)
made (head.Unary op) u k ts = (e.Unary op ts.0, ts.1)
made (head.Binary op) u k ts = (e.Binary op ts.0 ts.1.0, ts.1.1)
made head.Join u k ts = (e.Join ts.0 ts.1.0, ts.1.1)
made head.Repeat n k ts = (e.Repeat n ts.0, ts.1)
made head.Choose u k ts = (e.Choose ts.0 ts.1.0 ts.1.1.0, ts.1.1.1)

abbrev pub join : (k : ℕ) → Split k → Trees (suc k)
join k p = made p.0.0 p.0.1 k p.1

abbrev parted : (k : ℕ) → Typed-F Typed Index → Trees k → Split k
parted k (t.Number w n) ts = ((head.Number, (w, n)), ts)
parted k (t.Var v) ts = ((head.Var, v), ts)
parted k (t.Word v at) ts = ((head.Word, (v, (at.low, at.signed))), (at.value, ts))
parted k (t.Part w of at) ts = ((head.Part, (w, (at.low, at.signed))), (of, (at.value, ts)))
parted k (t.ZeroExtend w of) ts = ((head.ZeroExtend, w), (of, ts))
parted k (t.SignExtend w of) ts = ((head.SignExtend, w), (of, ts))
parted k (t.Truncate w of) ts = ((head.Truncate, w), (of, ts))
parted k (t.Unary op of) ts = ((head.Unary op, tt), (of, ts))
parted k (t.Binary op l r) ts = ((head.Binary op, tt), (l, (r, ts)))
parted k (t.Join h l) ts = ((head.Join, tt), (h, (l, ts)))
parted k (t.Repeat n of) ts = ((head.Repeat, n), (of, ts))
parted k (t.Choose c l r) ts = ((head.Choose, tt), (c, (l, (r, ts))))

abbrev pub part : (k : ℕ) → Trees (suc k) → Split k
part k p = parted k (out-Typed p.0) p.1

index_back : (at : Index) → index at.low at.signed at.value ≡ at
index_back at = roll-out-Index at

joined : (k : ℕ) (x : Typed-F Typed Index) (ts : Trees k) → ◌≡◌ {A = Trees (suc k)} (join k (parted k x ts)) (roll-Typed x, ts)
joined k (t.Number w n) ts = ap (λ y. (y, ts)) (sym (e.rolls-Number w n))
joined k (t.Var v) ts = ap (λ y. (y, ts)) (sym (e.rolls-Var v))
joined k (t.Word v at) ts = ap (λ y. (y, ts)) (ap (e.Word v) (index_back at) ∙ sym (e.rolls-Word v at))
joined k (t.Part w of at) ts = ap (λ y. (y, ts)) (ap (e.Part w of) (index_back at) ∙ sym (e.rolls-Part w of at))
joined k (t.ZeroExtend w of) ts = ap (λ y. (y, ts)) (sym (e.rolls-ZeroExtend w of))
joined k (t.SignExtend w of) ts = ap (λ y. (y, ts)) (sym (e.rolls-SignExtend w of))
joined k (t.Truncate w of) ts = ap (λ y. (y, ts)) (sym (e.rolls-Truncate w of))
joined k (t.Unary op of) ts = ap (λ y. (y, ts)) (sym (e.rolls-Unary op of))
joined k (t.Binary op l r) ts = ap (λ y. (y, ts)) (sym (e.rolls-Binary op l r))
joined k (t.Join h l) ts = ap (λ y. (y, ts)) (sym (e.rolls-Join h l))
joined k (t.Repeat n of) ts = ap (λ y. (y, ts)) (sym (e.rolls-Repeat n of))
joined k (t.Choose c l r) ts = ap (λ y. (y, ts)) (sym (e.rolls-Choose c l r))

pub join_part : (k : ℕ) (p : Trees (suc k)) → ◌≡◌ {A = Trees (suc k)} (join k (part k p)) p
join_part k p = joined k (out-Typed p.0) p.1 ∙ ap (λ y. (y, p.1)) (roll-out-Typed p.0)

-- ---- marks

map-append : (xs ys : List Token) → map token (xs ++ ys) ≡ map token xs ++ map token ys
map-append [] ys = refl
map-append (x ∷ xs) ys = ap (λ l. token x ∷ l) (map-append xs ys)

abbrev position : (low : ℕ) (signed : Bool) (value : Typed) → Position
position low signed value = index_tokens (record { low = low; signed = signed; value = tokens_of value })

module _ (S : List Mark) where
  -- the marks of one operand and of what comes behind, of two, of three
  two : (xs ys : List Token) → map token (xs ++ ys) ++ S ≡ map token xs ++ (map token ys ++ S)
  two xs ys = ap (λ l. l ++ S) (map-append xs ys) ∙ append_assoc (map token xs) (map token ys) S

  three : (xs ys zs : List Token) → map token (xs ++ (ys ++ zs)) ++ S ≡ map token xs ++ (map token ys ++ (map token zs ++ S))
  three xs ys zs = ap (λ l. l ++ S) (map-append xs (ys ++ zs)) ∙ append_assoc (map token xs) (map token (ys ++ zs)) S ∙ ap (λ l. map token xs ++ l) (two ys zs)

at_word : (v low : ℕ) (signed : Bool) (x : Typed) → tokens_of (e.Word v (index low signed x)) ≡ node_tokens (t.Word v (position low signed x))
at_word v low signed x = folds.fold-Word (List Token) Position node_tokens index_tokens v (index low signed x)
    ∙ ap (λ (q : Position). node_tokens (t.Word v q)) (folds.fold-index (List Token) Position node_tokens index_tokens low signed x)

at_part : (w low : ℕ) (signed : Bool) (of x : Typed)
    → tokens_of (e.Part w of (index low signed x)) ≡ node_tokens (t.Part w (tokens_of of) (position low signed x))
at_part w low signed of x = folds.fold-Part (List Token) Position node_tokens index_tokens w of (index low signed x)
    ∙ ap (λ (q : Position). node_tokens (t.Part w (tokens_of of) q)) (folds.fold-index (List Token) Position node_tokens index_tokens low signed x)

pub marks_made : (h : Head) (f : Fields h) (k : ℕ) (ts : Trees (behind h k))
    → tree_marks (suc k) (made h f k ts) ≡ own_marks (h, f) ++ tree_marks (behind h k) ts
marks_made head.Number f k ts = ap (λ l. map token l ++ tree_marks k ts) (folds.fold-Number (List Token) Position node_tokens index_tokens f.0 f.1)
marks_made head.Var v k ts = ap (λ l. map token l ++ tree_marks k ts) (folds.fold-Var (List Token) Position node_tokens index_tokens v)
marks_made head.Word f k ts = ap (λ l. map token l ++ tree_marks k ts.1) (at_word f.0 f.1.0 f.1.1 ts.0)
marks_made head.Part f k ts =
    ap (λ l. map token l ++ tree_marks k ts.1.1) (at_part f.0 f.1.0 f.1.1 ts.0 ts.1.0)
    ∙ ap (λ l. own_marks (head.Part, f) ++ l) (two (tree_marks k ts.1.1) (tokens_of ts.0) (tokens_of ts.1.0))
marks_made head.ZeroExtend w k ts = ap (λ l. map token l ++ tree_marks k ts.1) (folds.fold-ZeroExtend (List Token) Position node_tokens index_tokens w ts.0)
marks_made head.SignExtend w k ts = ap (λ l. map token l ++ tree_marks k ts.1) (folds.fold-SignExtend (List Token) Position node_tokens index_tokens w ts.0)
marks_made head.Truncate w k ts = ap (λ l. map token l ++ tree_marks k ts.1) (folds.fold-Truncate (List Token) Position node_tokens index_tokens w ts.0)
marks_made (head.Unary op) u k ts = ap (λ l. map token l ++ tree_marks k ts.1) (folds.fold-Unary (List Token) Position node_tokens index_tokens op ts.0)
marks_made (head.Binary op) u k ts =
    ap (λ l. map token l ++ tree_marks k ts.1.1) (folds.fold-Binary (List Token) Position node_tokens index_tokens op ts.0 ts.1.0)
    ∙ ap (λ l. own_marks (head.Binary op, tt) ++ l) (two (tree_marks k ts.1.1) (tokens_of ts.0) (tokens_of ts.1.0))
marks_made head.Join u k ts =
    ap (λ l. map token l ++ tree_marks k ts.1.1) (folds.fold-Join (List Token) Position node_tokens index_tokens ts.0 ts.1.0)
    ∙ ap (λ l. own_marks (head.Join, tt) ++ l) (two (tree_marks k ts.1.1) (tokens_of ts.0) (tokens_of ts.1.0))
marks_made head.Repeat n k ts = ap (λ l. map token l ++ tree_marks k ts.1) (folds.fold-Repeat (List Token) Position node_tokens index_tokens n ts.0)
marks_made head.Choose u k ts =
    ap (λ l. map token l ++ tree_marks k ts.1.1.1) (folds.fold-Choose (List Token) Position node_tokens index_tokens ts.0 ts.1.0 ts.1.1.0)
    ∙ ap (λ l. own_marks (head.Choose, tt) ++ l) (three (tree_marks k ts.1.1.1) (tokens_of ts.0) (tokens_of ts.1.0) (tokens_of ts.1.1.0))

pub marks_join : (k : ℕ) (p : Split k) → tree_marks (suc k) (join k p) ≡ split_marks k p
marks_join k p = marks_made p.0.0 p.0.1 k p.1

pub marks_part : (k : ℕ) (ts : Trees (suc k)) → tree_marks (suc k) ts ≡ split_marks k (part k ts)
marks_part k ts = ap (tree_marks (suc k)) (sym (join_part k ts)) ∙ marks_join k (part k ts)

-- ---- nodes in front

pub push_made : (h : Head) (f : Fields h) (k : ℕ) (ts : Trees (behind h k))
    → push (node_with h f) (list_of (behind h k) ts) ≡ Some (list_of (suc k) (made h f k ts))
push_made head.Number f k ts = refl
push_made head.Var v k ts = refl
push_made head.Word f k ts = refl
push_made head.Part f k ts = refl
push_made head.ZeroExtend w k ts = refl
push_made head.SignExtend w k ts = refl
push_made head.Truncate w k ts = refl
push_made (head.Unary op) u k ts = refl
push_made (head.Binary op) u k ts = refl
push_made head.Join u k ts = refl
push_made head.Repeat n k ts = refl
push_made head.Choose u k ts = refl

pub behind_is : (h : Head) (k : ℕ) → behind h k ≡ k + operands h
behind_is head.Number k = omega arith
behind_is head.Var k = omega arith
behind_is head.Word k = omega arith
behind_is head.Part k = omega arith
behind_is head.ZeroExtend k = omega arith
behind_is head.SignExtend k = omega arith
behind_is head.Truncate k = omega arith
behind_is (head.Unary op) k = omega arith
behind_is (head.Binary op) k = omega arith
behind_is head.Join k = omega arith
behind_is head.Repeat k = omega arith
behind_is head.Choose k = omega arith

-- some expressions
pub some_trees : (k : ℕ) → Trees k
some_trees zero = tt
some_trees (suc k) = (e.Number 1 0, some_trees k)

-- ---- nodes behind others

pub plug_more : (ns : List Node) (n : Node) (ts us : List Typed) → push n ts ≡ Some us → plug (ns ++ n ∷ []) ts ≡ plug ns us
plug_more [] n ts us h = h
plug_more (m ∷ ns) n ts us h = ap (option_and_then (push m)) (plug_more ns n ts us h)
