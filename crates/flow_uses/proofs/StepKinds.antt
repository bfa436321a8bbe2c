-- What is gathered of each kind of step, from what is gathered of its parts.
use Rattle.std.proofs.Common.{◌≡◌, ◌∙◌, sym, ap, refl, ℕ, ◌==◌, Bool, true, false, ◌||◌, List, [], ◌∷◌}
use Rattle.std.specs.Prelude.{flat_map}
use Rattle.std.specs.List.{list_any}
use Rattle.cov_types.specs.declared.var.Var.{Var}
use Rattle.design_tree.specs.declared.typed.Typed.{Typed}
use Rattle.design_tree.specs.declared.step.Target.{Target}
use Rattle.design_tree.specs.declared.step.Piece.{Piece}
use Rattle.design_tree.specs.declared.step.StepArm.{StepArm}
use Rattle.design_tree.specs.declared.step.Step.{Step}
use Rattle.design_tree.specs.declared.step.Step.TheVariants as step
use Rattle.circuit_run.specs.States.{Bit}
use Rattle.design_meaning.specs.Spans as meaning
use Rattle.design_meaning.specs.Spans.{reads_of}
use Rattle.design_meaning.specs.Targets.{var_named, names_bit, target_reads}
use Rattle.design_meaning.specs.Paths.{Event, reads, sets, defers, assign_reads, piece_reads, item_reads}
use Rattle.design_meaning.specs.Reach.{event_reads, event_sets, event_defers}
use Rattle.design_meaning.proofs.ListLaws.{any_append, any_flat, or_false}
use Rattle.flow_marks.specs.declared.span.Span.{Span}
use Rattle.flow_spans.specs.Reads.{Adds}
use Rattle.flow_spans.proofs.Adding.{adds_both, adds_same}
use Rattle.flow_uses.specs.declared.lists.Lists.{Lists}
use Rattle.flow_uses.specs.Walks.{some_in, some_in_all, arm_has, sets_bit, defers_bit}
use Rattle.flow_uses.specs.Gathers.{AddsNamed, Gathers}
use Rattle.flow_uses.proofs.Walks.{some_of_steps, some_set, some_later, some_if, some_case, some_show, some_finish, some_stop, some_count}
use Rattle.flow_uses.proofs.Gathering as gathering

-- no target makes such an event
none_of : (targets : List Target) (f : Target → Bool) → ((x : Target) → f x ≡ false) → list_any f targets ≡ false
none_of [] f h = refl
none_of (x ∷ xs) f h = ap (λ r. r || list_any f xs) (h x) ∙ none_of xs f h

or_none : (a b : Bool) → b ≡ false → a ≡ (a || b)
or_none true b h = refl
or_none false b h = sym h

assign_bits : (b : Bit) (targets : List Target) (value : Typed)
    → (meaning.is_in_any b (reads_of value) || list_any (λ t. meaning.is_in_any b (target_reads t)) targets) ≡ meaning.is_in_any b (assign_reads targets value)
assign_bits b targets value =
    ap (λ r. meaning.is_in_any b (reads_of value) || r) (sym (any_flat (meaning.is_in b) target_reads targets))
    ∙ sym (any_append (meaning.is_in b) (reads_of value) (flat_map target_reads targets))

module _ (vars : List Var) where
  pub set_gathers : (o q : Lists) (r : List Span) (targets : List Target) (value : Typed) (one : Step) → one ≡ step.Set targets value
      → Adds vars o.reads.items r (λ b. meaning.is_in_any b (reads_of value))
      → Adds vars r q.reads.items (λ b. list_any (λ t. meaning.is_in_any b (target_reads t)) targets)
      → AddsNamed vars o.sets.items q.sets.items (λ b. list_any (names_bit b) targets) (λ v. list_any (λ t. var_named t == v) targets)
      → q.defers.items ≡ o.defers.items → Gathers vars o q (λ test. some_in test one)
  set_gathers o q r targets value one is x y z k = record {
    reads = adds_same vars o.reads.items q.reads.items (λ b. meaning.is_in_any b (reads_of value) || list_any (λ t. meaning.is_in_any b (target_reads t))
        targets) (λ b. some_in (event_reads b) one)
        (λ b. assign_bits b targets value ∙ or_none (meaning.is_in_any b (assign_reads targets value)) (list_any (λ x. event_reads b (sets x)) targets)
        (none_of targets (λ x. false) (λ x. refl)) ∙ at (event_reads b))
        (adds_both vars o.reads.items r q.reads.items (λ b. meaning.is_in_any b (reads_of value)) (λ b. list_any (λ t. meaning.is_in_any b (target_reads
        t)) targets) x y);
    sets = gathering.named_same vars o.sets.items q.sets.items (λ b. list_any (names_bit b) targets) (λ b. some_in (sets_bit b) one)
        (λ v. list_any (λ t. var_named t == v) targets) (λ v. some_in (event_sets v) one) (λ b. at (sets_bit b)) (λ v. at (event_sets v)) z;
    defers = rw k (gathering.named_none vars o.defers.items (λ b. some_in (defers_bit b) one) (λ v. some_in (event_defers v) one)
        (λ b. sym (at (defers_bit b)) ∙ none_of targets (λ x. false) (λ x. refl)) (λ v. sym (at (event_defers v)) ∙ none_of targets (λ x. false) (λ x. refl)));
  }
    where
      at : (t : Event → Bool) → (t (reads (assign_reads targets value)) || list_any (λ x. t (sets x)) targets) ≡ some_in t one
      at t = sym (some_set t targets value) ∙ ap (some_in t) (sym is)

  pub later_gathers : (o q : Lists) (r : List Span) (targets : List Target) (value : Typed) (one : Step) → one ≡ step.Later targets value
      → Adds vars o.reads.items r (λ b. meaning.is_in_any b (reads_of value))
      → Adds vars r q.reads.items (λ b. list_any (λ t. meaning.is_in_any b (target_reads t)) targets)
      → AddsNamed vars o.defers.items q.defers.items (λ b. list_any (names_bit b) targets) (λ v. list_any (λ t. var_named t == v) targets)
      → q.sets.items ≡ o.sets.items → Gathers vars o q (λ test. some_in test one)
  later_gathers o q r targets value one is x y z k = record {
    reads = adds_same vars o.reads.items q.reads.items (λ b. meaning.is_in_any b (reads_of value) || list_any (λ t. meaning.is_in_any b (target_reads t))
        targets) (λ b. some_in (event_reads b) one)
        (λ b. assign_bits b targets value ∙ or_none (meaning.is_in_any b (assign_reads targets value)) (list_any (λ x. event_reads b (defers x)) targets)
        (none_of targets (λ x. false) (λ x. refl)) ∙ at (event_reads b))
        (adds_both vars o.reads.items r q.reads.items (λ b. meaning.is_in_any b (reads_of value)) (λ b. list_any (λ t. meaning.is_in_any b (target_reads
        t)) targets) x y);
    sets = rw k (gathering.named_none vars o.sets.items (λ b. some_in (sets_bit b) one) (λ v. some_in (event_sets v) one)
        (λ b. sym (at (sets_bit b)) ∙ none_of targets (λ x. false) (λ x. refl)) (λ v. sym (at (event_sets v)) ∙ none_of targets (λ x. false) (λ x. refl)));
    defers = gathering.named_same vars o.defers.items q.defers.items (λ b. list_any (names_bit b) targets) (λ b. some_in (defers_bit b) one)
        (λ v. list_any (λ t. var_named t == v) targets) (λ v. some_in (event_defers v) one) (λ b. at (defers_bit b)) (λ v. at (event_defers v)) z;
  }
    where
      at : (t : Event → Bool) → (t (reads (assign_reads targets value)) || list_any (λ x. t (defers x)) targets) ≡ some_in t one
      at t = sym (some_later t targets value) ∙ ap (some_in t) (sym is)

  -- an expression is read, and then two parts are gathered
  three : (o p q r : Lists) (e : Typed) (f g : (Event → Bool) → Bool) → p.sets.items ≡ o.sets.items → p.defers.items ≡ o.defers.items
      → Adds vars o.reads.items p.reads.items (λ b. meaning.is_in_any b (reads_of e)) → Gathers vars p q f → Gathers vars q r g
      → Gathers vars o r (λ t. (t (reads (reads_of e)) || f t) || g t)
  three o p q r e f g k l x y z =
      gathering.gathers_both vars o q r (λ t. t (reads (reads_of e)) || f t) g
      (gathering.gathers_both vars o p q (λ t. t (reads (reads_of e))) f (gathering.gathers_reads vars o p (reads_of e) k l x) y) z

  pub if_gathers : (o p q r : Lists) (test : Typed) (left right : List Step) (one : Step) → one ≡ step.If test left right → p.sets.items ≡ o.sets.items →
      p.defers.items ≡ o.defers.items
      → Adds vars o.reads.items p.reads.items (λ b. meaning.is_in_any b (reads_of test))
      → Gathers vars p q (λ t. list_any (some_in t) left) → Gathers vars q r (λ t. list_any (some_in t) right) → Gathers vars o r (λ t. some_in t one)
  if_gathers o p q r test left right one is k l x y z =
      gathering.gathers_same vars o r (λ t. (t (reads (reads_of test)) || list_any (some_in t) left) || list_any (some_in t) right) (λ t. some_in t one)
      (λ t a. assoc (t (reads (reads_of test))) (list_any (some_in t) left) (list_any (some_in t) right)
      ∙ ap (λ r. t (reads (reads_of test)) || (r || list_any (some_in t) right)) (sym (some_of_steps t left))
      ∙ ap (λ r. t (reads (reads_of test)) || (some_in_all t left || r)) (sym (some_of_steps t right)) ∙ sym (some_if t test left right) ∙ ap (some_in t)
      (sym is))
      (three o p q r test (λ t. list_any (some_in t) left) (λ t. list_any (some_in t) right) k l x y z)
    where
      assoc : (a b c : Bool) → ((a || b) || c) ≡ (a || (b || c))
      assoc true b c = refl
      assoc false b c = refl

  pub case_gathers : (o p q r : Lists) (on : Typed) (arms : List StepArm) (rest : List Step) (one : Step) → one ≡ step.Case on arms rest → p.sets.items ≡
      o.sets.items → p.defers.items ≡ o.defers.items
      → Adds vars o.reads.items p.reads.items (λ b. meaning.is_in_any b (reads_of on))
      → Gathers vars p q (λ t. list_any (arm_has t) arms) → Gathers vars q r (λ t. list_any (some_in t) rest) → Gathers vars o r (λ t. some_in t one)
  case_gathers o p q r on arms rest one is k l x y z =
      gathering.gathers_same vars o r (λ t. (t (reads (reads_of on)) || list_any (arm_has t) arms) || list_any (some_in t) rest) (λ t. some_in t one)
      (λ t a. ap (λ r. (t (reads (reads_of on)) || list_any (arm_has t) arms) || r) (sym (some_of_steps t rest)) ∙ sym (some_case t a on arms rest) ∙ ap
      (some_in t) (sym is))
      (three o p q r on (λ t. list_any (arm_has t) arms) (λ t. list_any (some_in t) rest) k l x y z)

  pub show_gathers : (o p : Lists) (pieces : List Piece) (one : Step) → one ≡ step.Show pieces → p.sets.items ≡ o.sets.items → p.defers.items ≡ o.defers.items
      → Adds vars o.reads.items p.reads.items (λ b. list_any (λ piece. meaning.is_in_any b (piece_reads piece)) pieces) → Gathers vars o p (λ t. some_in t one)
  show_gathers o p pieces one is k l x =
      gathering.gathers_same vars o p (λ t. t (reads (flat_map piece_reads pieces))) (λ t. some_in t one) (λ t a. sym (some_show t pieces) ∙ ap (some_in t)
      (sym is))
      (gathering.gathers_reads vars o p (flat_map piece_reads pieces) k l
      (adds_same vars o.reads.items p.reads.items (λ b. list_any (λ piece. meaning.is_in_any b (piece_reads piece)) pieces) (λ b. meaning.is_in_any b
      (flat_map piece_reads pieces))
      (λ b. sym (any_flat (meaning.is_in b) piece_reads pieces)) x))

  pub finish_gathers : (o : Lists) (one : Step) → one ≡ step.Finish → Gathers vars o o (λ t. some_in t one)
  finish_gathers o one is = gathering.gathers_none vars o (λ t. some_in t one) (λ t. ap (some_in t) is ∙ some_finish t)

  pub stop_gathers : (o : Lists) (one : Step) → one ≡ step.Stop → Gathers vars o o (λ t. some_in t one)
  stop_gathers o one is = gathering.gathers_none vars o (λ t. some_in t one) (λ t. ap (some_in t) is ∙ some_stop t)

  pub count_gathers : (o : Lists) (counter : ℕ) (one : Step) → one ≡ step.Count counter → Gathers vars o o (λ t. some_in t one)
  count_gathers o counter one is = gathering.gathers_none vars o (λ t. some_in t one) (λ t. ap (some_in t) is ∙ some_count t counter)

  pub arm_gathers : (o p q : Lists) (arm : StepArm) → p.sets.items ≡ o.sets.items → p.defers.items ≡ o.defers.items
      → Adds vars o.reads.items p.reads.items (λ b. list_any (λ item. meaning.is_in_any b (item_reads item)) arm.items)
      → Gathers vars p q (λ t. list_any (some_in t) arm.body) → Gathers vars o q (λ t. arm_has t arm)
  arm_gathers o p q arm k l x y =
      gathering.gathers_same vars o q (λ t. t (reads (flat_map item_reads arm.items)) || list_any (some_in t) arm.body) (λ t. arm_has t arm)
      (λ t a. ap (λ r. t (reads (flat_map item_reads arm.items)) || r) (sym (some_of_steps t arm.body)))
      (gathering.gathers_both vars o p q (λ t. t (reads (flat_map item_reads arm.items))) (λ t. list_any (some_in t) arm.body)
      (gathering.gathers_reads vars o p (flat_map item_reads arm.items) k l
      (adds_same vars o.reads.items p.reads.items (λ b. list_any (λ item. meaning.is_in_any b (item_reads item)) arm.items) (λ b. meaning.is_in_any b
      (flat_map item_reads arm.items))
      (λ b. sym (any_flat (meaning.is_in b) item_reads arm.items)) x)) y)
