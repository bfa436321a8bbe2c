-- One variable more, behind those that are there.
use Rattle.std.proofs.Common.{◌≡◌, ◌∙◌, ap, sym, subst, refl, ℕ, zero, suc, ◌+◌, ◌<◌, ◌≤◌, ◌^◌, List, [], ◌∷◌, ◌++◌, length, map, take, drop, replicate, true}
use Rattle.std.proofs.Common.{pow_pos, inl, inr, arith}
use Rattle.std.specs.Prelude.{All, slice_index_or}
use Rattle.std.proofs.lemmas.Grind.{common_steps}
use Rattle.std.proofs.lemmas.List.{length-append, length-map, length-replicate, take-append-le, drop-append-le, length-drop}
use Rattle.cov_types.specs.declared.var.Var.{Var}
use Rattle.circuit_run.specs.States.{AreWordsOf, no_var, no_words, held}
use Rattle.design_tree.specs.declared.design.Design.{Design}
use Rattle.design_meaning.specs.States.{IsStateOf, var_of}
use Rattle.design_meaning.specs.Starts.{start_values}
use Rattle.design_meaning.specs.ValidVariables.{IsVariable, HasStart}
use Rattle.design_meaning.specs.WellTyped.{is_width}
use Rattle.design_state.specs.declared.state.Slot.{Slot}
use Rattle.design_state.specs.Layout.{split, AreLaid, start_of}

take_all : (words : List ℕ) → take (length words) words ≡ words
take_all [] = refl
take_all (w ∷ ws) = ap (λ l. w ∷ l) (take_all ws)

drop_all : (words : List ℕ) → drop (length words) words ≡ []
drop_all [] = refl
drop_all (w ∷ ws) = drop_all ws

-- a slot whose words are all that is left
last_laid : (base : ℕ) (slot : Slot) (words : List ℕ) → slot.base ≡ base → 1 ≤ slot.width → slot.width ≤ 128 → length words ≡ slot.count
    → All (λ n. n < 2 ^ slot.width) words
    → AreLaid base (slot ∷ []) words
last_laid base slot words b some most many fit = (
  record {
    begins = b;
    some = some;
    most = most;
    enough = omega (arith, many);
    fit = subst (All (λ n. n < 2 ^ slot.width)) (sym (ap (λ k. take k words) (sym many) ∙ take_all words)) fit;
  },
  ap (λ k. drop k words) (sym many) ∙ drop_all words,
)

pub more_laid : (base : ℕ) (slots : List Slot) (words : List ℕ) (slot : Slot) (new : List ℕ) → AreLaid base slots words → slot.base ≡ base + length words
    → 1 ≤ slot.width → slot.width ≤ 128 → length new ≡ slot.count → All (λ n. n < 2 ^ slot.width) new → AreLaid base (slots ++ slot ∷ []) (words ++ new)
more_laid base [] words slot new h b some most many fit =
    let e : words ≡ [] = h in
    rw e (last_laid base slot new (b ∙ ap (λ l. base + length l) e ∙ omega arith) some most many fit)
more_laid base (head ∷ slots) words slot new h b some most many fit =
    let rest : List ℕ = drop head.count words in
    let e : drop head.count (words ++ new) ≡ rest ++ new = drop-append-le head.count words new h.0.enough in
    let f : take head.count (words ++ new) ≡ take head.count words = take-append-le head.count words new h.0.enough in (
      record {
        begins = h.0.begins;
        some = h.0.some;
        most = h.0.most;
        enough = omega (arith, h.0.enough, length-append words new);
        fit = subst (All (λ n. n < 2 ^ head.width)) (sym f) h.0.fit;
      },
      subst (AreLaid (base + head.count) (slots ++ slot ∷ [])) (sym e)
          (more_laid (base + head.count) slots rest slot new h.1 (omega (arith, b, h.0.enough, length-drop head.count words)) some most many fit),
    )

pub more_split : (base : ℕ) (slots : List Slot) (words : List ℕ) (slot : Slot) (new : List ℕ) → AreLaid base slots words → length new ≡ slot.count
    → split (slots ++ slot ∷ []) (words ++ new) ≡ split slots words ++ record { width = slot.width; words = new } ∷ []
more_split base [] words slot new h many =
    let e : words ≡ [] = h in
    rw e (ap (λ ws. record { width = slot.width; words = ws } ∷ []) (ap (λ k. take k new) (sym many) ∙ take_all new))
more_split base (head ∷ slots) words slot new h many =
    let e : drop head.count (words ++ new) ≡ drop head.count words ++ new = drop-append-le head.count words new h.0.enough in
    let f : take head.count (words ++ new) ≡ take head.count words = take-append-le head.count words new h.0.enough in
    rw (e, f) (ap (λ t. record { width = head.width; words = take head.count words } ∷ t)
    (more_split (base + head.count) slots (drop head.count words) slot new h.1 many))

-- ---- starts

wide_bounds : (w : ℕ) → is_width w ≡ true → (1 ≤ w) × (w ≤ 128)
wide_bounds w h = grind (arith, common_steps)

start_small : (v : Var) → HasStart v → v.start < 2 ^ v.width
start_small v h = elim h [
  | inl none ↦ subst (λ n. n < 2 ^ v.width) (sym none) (pow_pos v.width)
  | inr some ↦ some.2
]

pub start_bounds : (v : Var) → IsVariable v → (1 ≤ v.width) × (v.width ≤ 128) × (v.start < 2 ^ v.width)
start_bounds v h = let b : (1 ≤ v.width) × (v.width ≤ 128) = wide_bounds v.width h.wide in (b.0, b.1, start_small v h.starts)

pub all_same : (most n k : ℕ) → n < most → All (λ m. m < most) (replicate k n)
all_same most n zero h i d lt = absurd (omega (arith, lt))
all_same most n (suc k) h zero d lt = h
all_same most n (suc k) h (suc i) d lt = all_same most n k h i d (omega (arith, lt))

-- the start values are a state of the design
pub start_is_state : (d : Design) → All IsVariable d.vars → IsStateOf d (start_values d)
start_is_state d vars = record { as_many = length-map d.vars start_of; each = each }
  where
    each : (v : ℕ) → v < length d.vars → AreWordsOf (var_of d v) (held (start_values d) v)
    each v lt =
        let x : Var = var_of d v in
        let e : held (start_values d) v ≡ start_of x = get_or_map d.vars v lt in
        subst (AreWordsOf x) (sym e) (record {
          as_wide = refl;
          as_many = length-replicate {A = ℕ} x.words x.start;
          fit = all_same (2 ^ x.width) x.start x.words
              (start_bounds x (vars v no_var lt)).2;
        })
      where
        get_or_map : (vars : List Var) (v : ℕ) → v < length vars → slice_index_or (map start_of vars) v no_words ≡ start_of (slice_index_or vars v no_var)
        get_or_map [] v lt = absurd (omega (arith, lt))
        get_or_map (x ∷ xs) zero lt = refl
        get_or_map (x ∷ xs) (suc v) lt = get_or_map xs v (omega (arith, lt))
