-- All lines stand where each holds by itself and what they add up to is within the limits.
use Rattle.std.proofs.Common.{◌≡◌, ℕ, ◌+◌, ◌≤◌, Bool, true, List, [], ◌∷◌, ◌++◌, map, refl, sym, ◌∙◌, arith}
use Rattle.std.specs.Prelude.{◌&&◌, nat_le}
use Rattle.std.specs.List.{list_all}
use Rattle.std.proofs.lemmas.Bool.Decides.{nat_tests}
use Rattle.std.proofs.lemmas.List.Folds.{list_all-append}
use Rattle.circuit_run.specs.Lists.{total}
use Rattle.cvd_text.specs.Lines.{Load, Line, added, is_within, stands, all_stand}
use Rattle.spelling_laws.proofs.Fitting.{first_true, second_true, both_true}
use Rattle.cvd_step_laws.specs.LineMarks.{load_behind}

-- ---- tests

pub le_of : (m n : ℕ) → nat_le m n ≡ true → m ≤ n
le_of m n e = grind (arith, nat_tests)

pub of_le : (m n : ℕ) → m ≤ n → nat_le m n ≡ true
of_le m n e = grind (arith, nat_tests)

-- ---- holding

-- whether the own conditions of all lines hold
abbrev pub holds_all : List Line → Bool
holds_all ls = list_all (λ (l : Line). l.holds) ls

pub holds_join : (ls ms : List Line) → holds_all ls ≡ true → holds_all ms ≡ true → holds_all (ls ++ ms) ≡ true
holds_join ls ms e f = list_all-append (λ (l : Line). l.holds) ls ms ∙ both_true (holds_all ls) (holds_all ms) e f

pub holds_front : (ls ms : List Line) → holds_all (ls ++ ms) ≡ true → holds_all ls ≡ true
holds_front ls ms e = first_true (holds_all ls) (holds_all ms) (sym (list_all-append (λ (l : Line). l.holds) ls ms) ∙ e)

pub holds_back : (ls ms : List Line) → holds_all (ls ++ ms) ≡ true → holds_all ms ≡ true
holds_back ls ms e = second_true (holds_all ls) (holds_all ms) (sym (list_all-append (λ (l : Line). l.holds) ls ms) ∙ e)

-- ---- limits

pub record Few (sum : Load) : Type 0 where
  pub bits : sum.bits ≤ 16777216
  pub steps : sum.steps ≤ 4194304
  pub nodes : sum.nodes ≤ 4194304
  pub shown : sum.shown ≤ 16777216

pub few_of : (sum : Load) → is_within sum ≡ true → Few sum
few_of sum e =
    let front = first_true (nat_le sum.bits 16777216 && nat_le sum.steps 4194304 && nat_le sum.nodes 4194304) (nat_le sum.shown 16777216) e in
    let two = first_true (nat_le sum.bits 16777216 && nat_le sum.steps 4194304) (nat_le sum.nodes 4194304) front in
    record {
      bits = le_of sum.bits 16777216 (first_true (nat_le sum.bits 16777216) (nat_le sum.steps 4194304) two);
      steps = le_of sum.steps 4194304 (second_true (nat_le sum.bits 16777216) (nat_le sum.steps 4194304) two);
      nodes = le_of sum.nodes 4194304 (second_true (nat_le sum.bits 16777216 && nat_le sum.steps 4194304) (nat_le sum.nodes 4194304) front);
      shown = le_of sum.shown 16777216
          (second_true (nat_le sum.bits 16777216 && nat_le sum.steps 4194304 && nat_le sum.nodes 4194304) (nat_le sum.shown 16777216) e);
    }

pub of_few : (sum : Load) → Few sum → is_within sum ≡ true
of_few sum f =
    both_true _ _ (both_true _ _ (both_true _ _ (of_le sum.bits 16777216 f.bits) (of_le sum.steps 4194304 f.steps)) (of_le sum.nodes 4194304 f.nodes))
    (of_le sum.shown 16777216 f.shown)

-- ---- sums

-- what lines add of one of the four
abbrev pub sum_of : (Load → ℕ) → List Line → ℕ
sum_of f ls = total (map (λ (l : Line). f l.load) ls)

module _ (f : Load → ℕ) (f_added : (a b : Load) → f (added a b) ≡ f a + f b) where
  pub behind_sum : (before : Load) (ls : List Line) → f (load_behind before ls) ≡ f before + sum_of f ls
  behind_sum before [] = omega arith
  behind_sum before (l ∷ ls) =
      let more = behind_sum (added before l.load) ls in
      let one = f_added before l.load in
      omega arith

pub total_join : (ms ns : List ℕ) → total (ms ++ ns) ≡ total ms + total ns
total_join [] ns = omega arith
total_join (m ∷ ms) ns = let more = total_join ms ns in omega arith

pub sum_join : (f : Load → ℕ) (ls ms : List Line) → sum_of f (ls ++ ms) ≡ sum_of f ls + sum_of f ms
sum_join f [] ms = omega arith
sum_join f (l ∷ ls) ms = let more = sum_join f ls ms in omega arith

-- ---- all lines

pub stands_all : (before : Load) (ls : List Line) → all_stand before ls ≡ true → holds_all ls ≡ true
stands_all before [] e = refl
stands_all before (l ∷ ls) e =
    both_true l.holds (holds_all ls) (first_true l.holds (is_within (added before l.load)) (first_true (stands before l) _ e))
    (stands_all (added before l.load) ls (second_true (stands before l) _ e))

pub within_all : (before : Load) (ls : List Line) → is_within before ≡ true → all_stand before ls ≡ true → is_within (load_behind before ls) ≡ true
within_all before [] w e = w
within_all before (l ∷ ls) w e =
    within_all (added before l.load) ls (second_true l.holds (is_within (added before l.load)) (first_true (stands before l) _ e))
    (second_true (stands before l) _ e)

-- lines add to a load
few_before : (before : Load) (ls : List Line) → Few (load_behind before ls) → Few before
few_before before ls f =
    let b = behind_sum (λ s. s.bits) (λ x y. refl) before ls in
    let s = behind_sum (λ s. s.steps) (λ x y. refl) before ls in
    let n = behind_sum (λ s. s.nodes) (λ x y. refl) before ls in
    let h = behind_sum (λ s. s.shown) (λ x y. refl) before ls in
    record { bits = omega (arith, f.bits); steps = omega (arith, f.steps); nodes = omega (arith, f.nodes); shown = omega (arith, f.shown) }

pub all_of_them : (before : Load) (ls : List Line) → holds_all ls ≡ true → Few (load_behind before ls) → all_stand before ls ≡ true
all_of_them before [] e f = refl
all_of_them before (l ∷ ls) e f =
    both_true (stands before l) _
    (both_true l.holds _ (first_true l.holds (holds_all ls) e) (of_few (added before l.load) (few_before (added before l.load) ls f)))
    (all_of_them (added before l.load) ls (second_true l.holds (holds_all ls) e) f)
