-- What is left to read of an expression, behind the nodes that were read of it.
use Rattle.std.proofs.Common.{◌≡◌, ℕ, suc, ◌+◌, ◌^◌, ◌≤◌, ◌<◌, Bool, true, false, cond, List, [], ◌∷◌, ◌++◌, length, Some, None, refl, sym, ◌∙◌, ap, subst}
use Rattle.std.proofs.Common.{arith, length-append}
use Rattle.std.specs.Prelude.{◌&&◌, nat_le}
use Rattle.std.proofs.lemmas.Bool.{true≢false}
use Rattle.std.proofs.lemmas.Bool.Decides.{nat_tests}
use mathlib.Core.Logic.{inl, inr}
use Rattle.cov_types.specs.Limits.{most}
use Rattle.cov_types.specs.declared.limit.LimitName.TheVariants as limit
use Rattle.design_tree.specs.declared.design.Design.{Design}
use Rattle.design_tree.specs.declared.typed.Typed.{Typed}
use Rattle.design_meaning.specs.Sizes.{nodes}
use Rattle.design_meaning.specs.WellTyped.{is_typed}
use Rattle.spelling_laws.proofs.Fitting.{no_more, same_length, length-joined}
use Rattle.cvd_text.specs.Expressions.{tokens_of}
use Rattle.cvd_text.specs.Pieces.{fits}
use Rattle.cvd_cursor.specs.Places.{Reading}
use Rattle.cvd_cursor.specs.Reads.{Takes, Refused, marks}
use Rattle.cvd_cursor.specs.declared.fault.ReadFault.{ReadFault}
use Rattle.cvd_cursor.proofs.Composed.{takes_both, takes_as, refused_first, refused_second, refused_by}
use Rattle.cvd_nodes.specs.Nodes.{Own, fields_fit, held_node, node_of, own_marks}
use Rattle.cvd_nodes.specs.Trees.{Trees, tree_marks, list_of, push, plug, may_be, Keeps, HoldsNodes}
use Rattle.cvd_nodes.specs.declared.node.Node.{Node}
use Rattle.cvd_nodes.proofs.Fields.{apart_own}
use Rattle.cvd_nodes.proofs.Trees.{behind, Split, split_marks, join, part, marks_join, marks_part, push_made, plug_more, some_trees}
use Rattle.cvd_nodes.proofs.Typings.{fst, tree_count, count_made, all_typed, typed_operands, typed_made, fields_made}

-- so many expressions are still to read for one, and whether all nodes were kept
pub record Goes (old now : Reading) (pending : ℕ) (whole : Bool) (kept : List Node) : Type 0 where
  pub tree : Trees pending → Typed
  pub takes : (new : Reading) (ts : Trees pending) → Takes (tree_marks pending) now new ts → Takes (marks tokens_of) old new (tree ts)
  pub refused : (new : Reading) (fault : ReadFault) → Refused (tree_marks pending) now fault new → Refused (marks tokens_of) old fault new
  pub typed : (d : Design) (ts : Trees pending) → is_typed d (tree ts) ≡ true → all_typed d pending ts ≡ true
  pub built : whole ≡ true → (ts : Trees pending) → plug kept (list_of pending ts) ≡ Some (tree ts ∷ [])
  pub count : whole ≡ true → (ts : Trees pending) → nodes (tree ts) ≡ length kept + tree_count pending ts
  pub few : whole ≡ true → length kept ≤ most limit.Nodes
  pub broken : whole ≡ false → (d : Design) (ts : Trees pending) → length d.vars ≤ 2 ^ 32 → may_be d (tree ts) ≡ false

-- ---- at first

alike_first : (ts : Trees 1) → marks tokens_of ts.0 ≡ tree_marks 1 ts
alike_first ts = sym (no_more (marks tokens_of ts.0))

pub at_first : (old : Reading) → Goes old old 1 true []
at_first old = record {
  tree = λ ts. ts.0;
  takes = λ new ts h. takes_as (Trees 1) Typed (λ us. us.0) (λ e. (e, tt)) (tree_marks 1) (marks tokens_of) (λ e. alike_first (e, tt)) alike_first old new ts h;
  refused = λ new fault h. refused_by (Trees 1) Typed (λ us. us.0) (λ e. (e, tt)) (tree_marks 1) (marks tokens_of) (λ e. alike_first (e, tt)) alike_first old
      new fault h;
  typed = λ d ts h. ap (λ x. x && true) h;
  built = λ h ts. refl;
  count = λ h ts. omega arith;
  few = λ h. omega arith;
  broken = λ h. absurd (true≢false h);
}

-- ---- one node more

-- a node is read in front of what is left
pub takes_node : (k : ℕ) (now mid new : Reading) (n : Own) (ts : Trees (behind n.0 k)) → Takes own_marks now mid n
    → Takes (tree_marks (behind n.0 k)) mid new ts
    → Takes (tree_marks (suc k)) now new (join k (n, ts))
takes_node k now mid new n ts h r =
    takes_as (Split k) (Trees (suc k)) (join k) (part k) (split_marks k) (tree_marks (suc k)) (marks_part k) (marks_join k) now new (n, ts)
    (takes_both Own (λ m. Trees (behind m.0 k)) own_marks (λ m. tree_marks (behind m.0 k)) now mid new n ts h r)

pub refused_behind : (k : ℕ) (now mid new : Reading) (n : Own) (fault : ReadFault) → Takes own_marks now mid n
    → Refused (tree_marks (behind n.0 k)) mid fault new
    → Refused (tree_marks (suc k)) now fault new
refused_behind k now mid new n fault h r =
    refused_by (Split k) (Trees (suc k)) (join k) (part k) (split_marks k) (tree_marks (suc k)) (marks_part k) (marks_join k) now new fault
    (refused_second Own (λ m. Trees (behind m.0 k)) own_marks (λ m. tree_marks (behind m.0 k)) n (apart_own n) now mid new fault h r)

pub refused_node : (k : ℕ) (now new : Reading) (fault : ReadFault) → Refused own_marks now fault new → Refused (tree_marks (suc k)) now fault new
refused_node k now new fault r =
    refused_by (Split k) (Trees (suc k)) (join k) (part k) (split_marks k) (tree_marks (suc k)) (marks_part k) (marks_join k) now new fault
    (refused_first Own (λ m. Trees (behind m.0 k)) own_marks (λ m. tree_marks (behind m.0 k)) apart_own (λ m. some_trees (behind m.0 k)) now new fault r)

held_some : (fit : Bool) (m n : Node) → cond fit (Some m) None ≡ Some n → m ≡ n
held_some true m n e = cc
held_some false m n e = absurd (cc)

held_none : (fit : Bool) (m : Node) → cond fit (Some m) None ≡ None → fit ≡ false
held_none true m e = absurd (cc)
held_none false m e = refl

either_false : (a b : Bool) → (a ≡ true → b ≡ false) → (a && b) ≡ false
either_false true b h = h refl
either_false false b h = refl

not_both : (a b : Bool) → (a ≡ true → ⊥) → (a && b) ≡ false
not_both true b h = absurd (h refl)
not_both false b h = refl

too_many : (n m : ℕ) → m < n → nat_le n m ≡ false
too_many n m h = grind (arith, nat_tests)

module _ (old now mid : Reading) (k : ℕ) (kept : List Node) (n : Own) (here : Takes own_marks now mid n) where
  -- an expression with a number that doesn't fit, and one with too many nodes
  unfit : (whole : Bool) (g : Goes old now (suc k) whole kept) → held_node n ≡ None → (d : Design) (ts : Trees (behind n.0 k)) → length d.vars ≤ 2 ^ 32
      → may_be d (g.tree (join k (n, ts))) ≡ false
  unfit whole g none d ts small = not_both (is_typed d (g.tree (join k (n, ts)))) _ (λ h.
      let all = g.typed d (join k (n, ts)) h in
      let first = fst (is_typed d (join k (n, ts)).0) _ all in
      let fit = fields_made d n.0 n.1 k ts small (sym (typed_made d n.0 n.1 k ts) ∙ first) in
      true≢false (sym fit ∙ held_none (fields_fit n.0 n.1) (node_of n) none))

  full : (g : Goes old now (suc k) true kept) → most limit.Nodes ≤ length kept → (d : Design) (ts : Trees (behind n.0 k))
      → may_be d (g.tree (join k (n, ts))) ≡ false
  full g h d ts = either_false (is_typed d (g.tree (join k (n, ts)))) _ (λ t.
      let all = g.count refl (join k (n, ts)) in
      let more = count_made n.0 n.1 k ts in
      too_many (nodes (g.tree (join k (n, ts)))) (most limit.Nodes) (omega arith))

  goes_kept : (m : Node) → Goes old now (suc k) true kept → held_node n ≡ Some m → length kept < most limit.Nodes
      → Goes old mid (behind n.0 k) true (kept ++ m ∷ [])
  goes_kept m g held room = record {
    tree = λ ts. g.tree (join k (n, ts));
    takes = λ new ts h. g.takes new (join k (n, ts)) (takes_node k now mid new n ts here h);
    refused = λ new fault h. g.refused new fault (refused_behind k now mid new n fault here h);
    typed = λ d ts h. typed_operands d n.0 n.1 k ts (g.typed d (join k (n, ts)) h);
    built = λ w ts. plug_more kept m (list_of (behind n.0 k) ts) (list_of (suc k) (join k (n, ts)))
        (subst (λ x. push x (list_of (behind n.0 k) ts) ≡ Some (list_of (suc k) (join k (n, ts)))) (held_some (fields_fit n.0 n.1) (node_of n) m held)
        (push_made n.0 n.1 k ts))
        ∙ g.built refl (join k (n, ts));
    count = λ w ts. let all = g.count refl (join k (n, ts)) in let more = count_made n.0 n.1 k ts in omega (arith, length-append kept (m ∷ []));
    few = λ w. omega (arith, length-append kept (m ∷ []));
    broken = λ h. absurd (true≢false h);
  }

  goes_broken : (whole : Bool) (new_kept : List Node) (g : Goes old now (suc k) whole kept)
      → ((d : Design) (ts : Trees (behind n.0 k)) → length d.vars ≤ 2 ^ 32 → may_be d (g.tree (join k (n, ts))) ≡ false)
      → Goes old mid (behind n.0 k) false new_kept
  goes_broken whole new_kept g never = record {
    tree = λ ts. g.tree (join k (n, ts));
    takes = λ new ts h. g.takes new (join k (n, ts)) (takes_node k now mid new n ts here h);
    refused = λ new fault h. g.refused new fault (refused_behind k now mid new n fault here h);
    typed = λ d ts h. typed_operands d n.0 n.1 k ts (g.typed d (join k (n, ts)) h);
    built = λ w. absurd (true≢false (sym w));
    count = λ w. absurd (true≢false (sym w));
    few = λ w. absurd (true≢false (sym w));
    broken = λ w d ts small. never d ts small;
  }

  pub goes_on : (whole done : Bool) (new_kept : List Node) → Goes old now (suc k) whole kept → Keeps kept whole (held_node n) done new_kept
      → Goes old mid (behind n.0 k) done new_kept
  goes_on true true new_kept g h = subst (λ l. Goes old mid (behind n.0 k) true l) (sym h.1.1.1.1) (goes_kept h.1.0 g h.1.1.0 h.1.1.1.0)
  goes_on false true new_kept g h = absurd (true≢false (sym h.0))
  goes_on false false new_kept g h = goes_broken false new_kept g (λ d ts small. g.broken refl d (join k (n, ts)) small)
  goes_on true false new_kept g h = elim h [
    | inl w ↦ absurd (true≢false w)
    | inr rest ↦ elim rest [
      | inl none ↦ goes_broken true new_kept g (unfit true g none)
      | inr enough ↦ goes_broken true new_kept g (λ d ts small. full g enough d ts)
    ]
  ]

-- a node takes a piece at least
pub shorter : (now mid : Reading) (n : Own) → Takes own_marks now mid n → length mid.rest < length now.rest
shorter now mid n h =
    let cut = ap length h.read.split ∙ length-joined h.read.given mid.rest in
    let long = same_length fits h.read.given (own_marks n) h.read.fit in
    omega arith

-- ---- at last

pub holds : (old now : Reading) (kept : List Node) (g : Goes old now 0 true kept) → HoldsNodes (g.tree tt) (Some kept)
holds old now kept g = (g.built refl tt, let all = g.count refl tt in omega arith, g.few refl)

pub takes_nothing : (now : Reading) → Takes (tree_marks 0) now now tt
takes_nothing now = record { same = refl; read = record { given = []; split = refl; fit = refl } }

pub goes_as : (old now : Reading) (p q : ℕ) (w v : Bool) (kept : List Node) → p ≡ q → w ≡ v → Goes old now p w kept → Goes old now q v kept
goes_as old now p q w v kept e f g = subst (λ x. Goes old now q x kept) f (subst (λ n. Goes old now n w kept) e g)
