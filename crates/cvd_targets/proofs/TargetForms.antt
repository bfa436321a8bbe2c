-- Targets as they are read, from their first word and what follows it.
use Rattle.std.proofs.Common.{◌≡◌, ℕ, ◌+◌, ◌<◌, ◌≤◌, Bool, true, false, List, [], ◌∷◌, ◌++◌, codes, map, length, Some, refl, sym, ◌∙◌, ap, arith}
use Rattle.std.specs.Prelude.{◌&&◌, ◌==◌, max, nat_le, nat_lt}
use Rattle.std.proofs.lemmas.Bool.{true≢false}
use Rattle.std.proofs.lemmas.Bool.Decides.{nat_tests}
use Rattle.cov_types.specs.Limits.{most}
use Rattle.cov_types.specs.declared.limit.LimitName.TheVariants as limit
use Rattle.cov_types.specs.declared.kind.ProcessKind.{ProcessKind}
use Rattle.design_tree.specs.declared.design.Design.{Design}
use Rattle.design_tree.specs.declared.step.Target.{Target}
use Rattle.design_tree.specs.declared.step.Target.TheVariants as target
use Rattle.design_tree.specs.declared.typed.Index.{Index}
use Rattle.design_meaning.specs.Sizes.{nodes, target_nodes, target_depth}
use Rattle.design_meaning.specs.States.{var_of}
use Rattle.design_meaning.specs.ValidProcesses.{kind_written}
use Rattle.design_meaning.specs.WellTyped.{is_var, is_width, is_index}
use Rattle.design_meaning.proofs.TypedFolds as folds
use Rattle.spelling_laws.specs.Spelled.{Apart}
use Rattle.cvd_text.specs.Expressions.{Position, tokens_of, position_tokens, node_tokens, index_tokens, sign_word}
use Rattle.cvd_text.specs.Pieces.{Mark, token, fits}
use Rattle.cvd_text.specs.Targets.{same_kind, target_tokens}
use Rattle.cvd_text.specs.Tokens.{Token, word, number}
use Rattle.cvd_laws.proofs.Marks.{apart_marks}
use Rattle.cvd_laws.proofs.Targets.{apart_target}
use Rattle.cvd_laws.proofs.Typeds.{index_back}
use Rattle.cvd_cursor.specs.Reads.{marks}
use Rattle.cvd_nodes.specs.Heads.{look_up}
use Rattle.cvd_nodes.proofs.Fields.{apart_number, then_apart}
use Rattle.cvd_targets.specs.Positions.{At, at_marks, index_at, may_be_at, may_name}
use Rattle.cvd_targets.specs.TargetParts.{form_text, form_table, form_tokens, Parts, parts_marks, made, sized_marks, may_be_target}
use Rattle.cvd_targets.specs.declared.target.TargetForm.{TargetForm}
use Rattle.cvd_targets.specs.declared.target.TargetForm.TheVariants as form
use Rattle.cvd_targets.proofs.Lists as lists
use Rattle.cvd_targets.proofs.Lists.{both}
use Rattle.cvd_targets.proofs.Positions.{stands, stands_back, nodes_at, apart_at, some_at}
use Rattle.cvd_targets.proofs.Words as words

-- ---- the first word

pub form_again : (f : TargetForm) → look_up form_table (form_text f) ≡ Some f
form_again form.Whole = refl
form_again form.Part = refl
form_again form.Word = refl
form_again form.WordPart = refl

pub apart_form : Apart fits (marks form_tokens)
apart_form = words.apart_word form_text form_table form_again

-- ---- what follows it

pub apart_sized : Apart fits sized_marks
apart_sized = then_apart ℕ At (marks (λ n. number n ∷ [])) at_marks apart_number apart_at

pub some_parts : (f : TargetForm) → Parts f
some_parts form.Whole = 0
some_parts form.Part = (0, (1, some_at))
some_parts form.Word = (0, some_at)
some_parts form.WordPart = (0, (some_at, (1, some_at)))

-- ---- the spelling of a target by its parts

abbrev pub Whole : Type 0
Whole = (f : TargetForm) × Parts f

abbrev pub whole_marks : Whole → List Mark
whole_marks p = marks form_tokens p.0 ++ parts_marks p.0 p.1

abbrev pub to : Whole → Target
to p = made p.0 p.1

abbrev at_of : Index → At
at_of at = ((at.low, at.signed), at.value)

abbrev pub from : Target → Whole
from (target.Whole v) = (form.Whole, v)
from (target.Part v w at) = (form.Part, (v, (w, at_of at)))
from (target.Word v at) = (form.Word, (v, at_of at))
from (target.WordPart v at w low) = (form.WordPart, (v, (at_of at, (w, at_of low))))

there : (t : Target) → to (from t) ≡ t
there (target.Whole v) = refl
there (target.Part v w at) = ap (target.Part v w) (index_back at)
there (target.Word v at) = ap (target.Word v) (index_back at)
there (target.WordPart v at w low) = ap (λ i. target.WordPart v i w (index_at (at_of low))) (index_back at) ∙ ap (target.WordPart v at w) (index_back low)

-- the tokens of a position
abbrev at_tokens : At → List Token
at_tokens a = number a.0.0 ∷ word (sign_word a.0.1) ∷ tokens_of a.1

spelled_at : (a : At) → position_tokens (index_at a) ≡ at_tokens a
spelled_at a = ap (λ (q : Position). q.front ++ q.value) (folds.fold-index (List Token) Position node_tokens index_tokens a.0.0 a.0.1 a.1)

joined : (xs ys : List Token) → map token (xs ++ ys) ≡ map token xs ++ map token ys
joined [] ys = refl
joined (x ∷ xs) ys = ap (λ l. token x ∷ l) (joined xs ys)

pub alike_to : (p : Whole) → marks target_tokens (to p) ≡ whole_marks p
alike_to p = by p.0 p.1
  where
    by : (f : TargetForm) (x : Parts f) → marks target_tokens (made f x) ≡ whole_marks (f, x)
    by form.Whole v = refl
    by form.Part x = ap (λ l. map token (word (codes "b") ∷ number x.0 ∷ number x.1.0 ∷ l)) (spelled_at x.1.1)
    by form.Word x = ap (λ l. map token (word (codes "m") ∷ number x.0 ∷ l)) (spelled_at x.1)
    by form.WordPart x =
        ap (λ l. map token (word (codes "q") ∷ number x.0 ∷ (l ++ (number x.1.1.0 ∷ position_tokens (index_at x.1.1.1))))) (spelled_at x.1.0)
        ∙ ap (λ l. map token (word (codes "q") ∷ number x.0 ∷ (at_tokens x.1.0 ++ (number x.1.1.0 ∷ l)))) (spelled_at x.1.1.1)
        ∙ ap (λ l. token (word (codes "q")) ∷ token (number x.0) ∷ l) (joined (at_tokens x.1.0) (number x.1.1.0 ∷ at_tokens x.1.1.1))

pub alike : (t : Target) → marks target_tokens t ≡ whole_marks (from t)
alike t = ap (marks target_tokens) (sym (there t)) ∙ alike_to (from t)

-- no target's marks begin another's
pub apart_targets : Apart fits (marks target_tokens)
apart_targets t = apart_marks target_tokens t (apart_target t)

pub some_target : Target
some_target = target.Whole 0

pub target_long : (t : Target) → 1 ≤ length (marks target_tokens t)
target_long (target.Whole v) = omega arith
target_long (target.Part v w at) = omega arith
target_long (target.Word v at) = omega arith
target_long (target.WordPart v at w low) = omega arith

-- ---- whether one may stand

pub record Five (a b c d e : Bool) : Type 0 where
  pub first : a ≡ true
  pub second : b ≡ true
  pub third : c ≡ true
  pub fourth : d ≡ true
  pub fifth : e ≡ true

five : (a b c d e : Bool) → ((((a && b) && c) && d) && e) ≡ true → Five a b c d e
five true true true true true h = record { first = refl; second = refl; third = refl; fourth = refl; fifth = refl }
five true true true true false h = absurd (true≢false (sym h))
five true true true false e h = absurd (true≢false (sym h))
five true true false d e h = absurd (true≢false (sym h))
five true false c d e h = absurd (true≢false (sym h))
five false b c d e h = absurd (true≢false (sym h))

all_five : (a b c d e : Bool) → Five a b c d e → ((((a && b) && c) && d) && e) ≡ true
all_five a b c d e h = both _ _ (both _ _ (both _ _ (both a b h.first h.second) h.third) h.fourth) h.fifth

pub record Seven (a b c d e f g : Bool) : Type 0 where
  pub first : a ≡ true
  pub second : b ≡ true
  pub third : c ≡ true
  pub fourth : d ≡ true
  pub fifth : e ≡ true
  pub sixth : f ≡ true
  pub seventh : g ≡ true

seven : (a b c d e f g : Bool) → ((((((a && b) && c) && d) && e) && f) && g) ≡ true → Seven a b c d e f g
seven true true true true true true true h = record { first = refl; second = refl; third = refl; fourth = refl; fifth = refl; sixth = refl; seventh = refl }
seven true true true true true true false h = absurd (true≢false (sym h))
seven true true true true true false g h = absurd (true≢false (sym h))
seven true true true true false f g h = absurd (true≢false (sym h))
seven true true true false e f g h = absurd (true≢false (sym h))
seven true true false d e f g h = absurd (true≢false (sym h))
seven true false c d e f g h = absurd (true≢false (sym h))
seven false b c d e f g h = absurd (true≢false (sym h))

all_seven : (a b c d e f g : Bool) → Seven a b c d e f g → ((((((a && b) && c) && d) && e) && f) && g) ≡ true
all_seven a b c d e f g h = both _ _ (both _ _ (both _ _ (both _ _ (both _ _ (both a b h.first h.second) h.third) h.fourth) h.fifth) h.sixth) h.seventh

module _ (d : Design) (k : ProcessKind) (v : ℕ) where
  abbrev same : Bool
  same = same_kind (var_of d v).kind (kind_written k)

  abbrev single : Bool
  single = (var_of d v).words == 1

  name_of : is_var d v ≡ true → same ≡ true → may_name d k v ≡ true
  name_of h s = both (is_var d v) same h s

  var_from : may_name d k v ≡ true → is_var d v ≡ true
  var_from h = lists.left_of (is_var d v) same h

  same_from : may_name d k v ≡ true → same ≡ true
  same_from h = lists.right_of (is_var d v) same h

  -- a whole variable
  pub whole_stands : may_name d k v ≡ true → single ≡ true → may_be_target d k (target.Whole v) ≡ true
  whole_stands h s = all_five (is_var d v) single same true true (record { first = var_from h; second = s; third = same_from h; fourth = refl; fifth = refl })

  pub whole_parts : may_be_target d k (target.Whole v) ≡ true → (may_name d k v ≡ true) × (single ≡ true)
  whole_parts e = let p = five (is_var d v) single same true true e in (name_of p.first p.third, p.second)

  -- a word
  pub word_stands : (a : At) → may_name d k v ≡ true → may_be_at d a ≡ true → may_be_target d k (target.Word v (index_at a)) ≡ true
  word_stands a h s =
      let at = stands d a s in
      all_five (is_var d v) (is_index d (index_at a)) same (nat_le (target_depth (target.Word v (index_at a))) (most limit.Depth))
      (nat_le (target_nodes (target.Word v (index_at a))) (most limit.Nodes))
      (record { first = var_from h; second = at.index; third = same_from h; fourth = lists.test_le _ _ at.deep; fifth = lists.test_le _ _ at.few })

  pub word_parts : (a : At) → may_be_target d k (target.Word v (index_at a)) ≡ true → (may_name d k v ≡ true) × (may_be_at d a ≡ true)
  word_parts a e =
      let p = five (is_var d v) (is_index d (index_at a)) same (nat_le (target_depth (target.Word v (index_at a))) (most limit.Depth))
      (nat_le (target_nodes (target.Word v (index_at a))) (most limit.Nodes)) e in (
        name_of p.first p.third,
        stands_back d a (record { index = p.second; deep = lists.le_of _ _ p.fourth; few = lists.le_of _ _ p.fifth }),
      )

  -- a part
  pub part_stands : (w : ℕ) (a : At) → may_name d k v ≡ true → single ≡ true → is_width w ≡ true → may_be_at d a ≡ true
      → may_be_target d k (target.Part v w (index_at a)) ≡ true
  part_stands w a h s wide g =
      let at = stands d a g in
      all_seven (is_var d v) single (is_width w) (is_index d (index_at a)) same (nat_le (target_depth (target.Part v w (index_at a))) (most limit.Depth))
      (nat_le (target_nodes (target.Part v w (index_at a))) (most limit.Nodes))
      (record {
        first = var_from h;
        second = s;
        third = wide;
        fourth = at.index;
        fifth = same_from h;
        sixth = lists.test_le _ _ at.deep;
        seventh = lists.test_le _ _ at.few;
      })

  pub part_parts : (w : ℕ) (a : At) → may_be_target d k (target.Part v w (index_at a)) ≡ true
      → (may_name d k v ≡ true) × ((single ≡ true) × ((is_width w ≡ true) × (may_be_at d a ≡ true)))
  part_parts w a e =
      let p = seven (is_var d v) single (is_width w) (is_index d (index_at a)) same (nat_le (target_depth (target.Part v w (index_at a))) (most limit.Depth))
      (nat_le (target_nodes (target.Part v w (index_at a))) (most limit.Nodes)) e in (
        name_of p.first p.fifth,
        (p.second, (p.third, stands_back d a (record { index = p.fourth; deep = lists.le_of _ _ p.sixth; few = lists.le_of _ _ p.seventh }))),
      )

  -- a part of a word
  pub word_part_stands : (i : At) (w : ℕ) (a : At) → may_name d k v ≡ true → may_be_at d i ≡ true → is_width w ≡ true → may_be_at d a ≡ true
      → nodes i.1 + nodes a.1 ≤ most limit.Nodes → may_be_target d k (target.WordPart v (index_at i) w (index_at a)) ≡ true
  word_part_stands i w a h g wide j sum =
      let at = stands d i g in
      let low = stands d a j in
      let at_nodes = nodes_at i in
      let low_nodes = nodes_at a in
      let deep = at.deep in
      let low_deep = low.deep in
      let one = target.WordPart v (index_at i) w (index_at a) in
      all_seven (is_var d v) (is_index d (index_at i)) (is_width w) (is_index d (index_at a)) same (nat_le (target_depth one) (most limit.Depth))
      (nat_le (target_nodes one) (most limit.Nodes))
      (record {
        first = var_from h;
        second = at.index;
        third = wide;
        fourth = low.index;
        fifth = same_from h;
        sixth = max_within _ _ _ deep low_deep;
        seventh = lists.test_le _ _ (omega arith);
      })
    where
      max_within : (m n l : ℕ) → m ≤ l → n ≤ l → nat_le (max m n) l ≡ true
      max_within m n l h g = grind (arith, nat_tests)

  pub record WordParts (i : At) (w : ℕ) (a : At) : Type 0 where
    pub named : may_name d k v ≡ true
    pub at : may_be_at d i ≡ true
    pub wide : is_width w ≡ true
    pub low : may_be_at d a ≡ true
    pub few : nodes i.1 + nodes a.1 ≤ most limit.Nodes

  pub word_part_parts : (i : At) (w : ℕ) (a : At) → may_be_target d k (target.WordPart v (index_at i) w (index_at a)) ≡ true → WordParts i w a
  word_part_parts i w a e =
      let one = target.WordPart v (index_at i) w (index_at a) in
      let p = seven (is_var d v) (is_index d (index_at i)) (is_width w) (is_index d (index_at a)) same (nat_le (target_depth one) (most limit.Depth))
      (nat_le (target_nodes one) (most limit.Nodes)) e in
      let few = lists.le_of (target_nodes one) (most limit.Nodes) p.seventh in
      let deep = max_parts _ _ _ (lists.le_of (target_depth one) (most limit.Depth) p.sixth) in
      let at_nodes = nodes_at i in
      let low_nodes = nodes_at a in
      record {
        named = name_of p.first p.fifth;
        at = stands_back d i (record { index = p.second; deep = deep.0; few = omega arith });
        wide = p.third;
        low = stands_back d a (record { index = p.fourth; deep = deep.1; few = omega arith });
        few = omega arith;
      }
    where
      max_parts : (m n l : ℕ) → max m n ≤ l → (m ≤ l) × (n ≤ l)
      max_parts m n l h = (grind (arith, nat_tests), grind (arith, nat_tests))

-- ---- tests of numbers

pub one_word : (d : Design) (k : ProcessKind) (v : ℕ) → (var_of d v).words ≡ 1 → ((var_of d v).words == 1) ≡ true
one_word d k v e = by (var_of d v).words e
  where
    by : (n : ℕ) → n ≡ 1 → (n == 1) ≡ true
    by n e = grind (arith, nat_tests)

pub words_of : (d : Design) (k : ProcessKind) (v : ℕ) → ((var_of d v).words == 1) ≡ true → (var_of d v).words ≡ 1
words_of d k v e = by (var_of d v).words e
  where
    by : (n : ℕ) → (n == 1) ≡ true → n ≡ 1
    by n e = grind (arith, nat_tests)

pub too_wide : (w : ℕ) → nat_lt w 256 ≡ false → is_width w ≡ false
too_wide w h = lists.and_false (nat_le 1 w) _ (lists.test_above w 128 (by w h))
  where
    by : (w : ℕ) → nat_lt w 256 ≡ false → 128 < w
    by w h = grind (arith, nat_tests)
