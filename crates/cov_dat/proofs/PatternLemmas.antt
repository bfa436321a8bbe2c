-- Patterns, sign by sign.
use Rattle.std.proofs.Common.{
  ◌≡◌,
  ℕ,
  zero,
  suc,
  ◌+◌,
  ◌<◌,
  ◌≤◌,
  Bool,
  true,
  false,
  cond,
  not,
  ◌||◌,
  ◌&&◌,
  eqb,
  List,
  [],
  ◌∷◌,
  ◌++◌,
  length,
  drop,
  refl,
  sym,
  ◌∙◌,
  ap,
  arith,
  append_assoc,
  length-append,
  inl,
  inr,
  subst,
  get_or,
}
use Rattle.std.specs.List.{list_any}
use Rattle.std.proofs.lemmas.Bool.{false≢true, cases_Bool}
use Rattle.std.proofs.lemmas.List.{drop-drop, drop_all, drop_more}
use Rattle.std.proofs.lemmas.List.Folds.{list_all-append}
use Rattle.std.proofs.Math.Seq.{drop-append-add}
use Rattle.cov_dat.specs.Patterns.{begins, spells, tails}
use Rattle.cov_dat.specs.FrontFits.{FrontFits, has_no_star, spells_from}

-- a sign that is no star spells one byte
pub spells-sign : (c : ℕ) (pattern text : List ℕ) → eqb c 42 ≡ false → spells (c ∷ pattern) text ≡ begins c (spells pattern) text
spells-sign c pattern text other = ap (λ (test : Bool). cond test (list_any (spells pattern) (tails text)) (begins c (spells pattern) text)) other

-- a star spells nothing, or one byte and then as before
pub spells-star : (pattern : List ℕ) (b : ℕ) (bs : List ℕ) → spells (42 ∷ pattern) (b ∷ bs) ≡ (spells pattern (b ∷ bs) || spells (42 ∷ pattern) bs)
spells-star pattern b bs = refl

or_false : (t : Bool) → (t || false) ≡ t
or_false true = refl
or_false false = refl

pub spells-star_end : (pattern : List ℕ) → spells (42 ∷ pattern) [] ≡ spells pattern []
spells-star_end pattern = or_false (spells pattern [])

or_true : (t u : Bool) → u ≡ true → (t || u) ≡ true
or_true true u is = refl
or_true false u is = is

-- what a star and its rest spell behind a place, they spell before it
pub star_earlier : (k : ℕ) (pattern text : List ℕ) → spells (42 ∷ pattern) (drop k text) ≡ true → spells (42 ∷ pattern) text ≡ true
star_earlier zero pattern text is = is
star_earlier (suc k) pattern [] is = is
star_earlier (suc k) pattern (b ∷ bs) is = or_true (spells pattern (b ∷ bs)) (spells (42 ∷ pattern) bs) (star_earlier k pattern bs is)

split_test : (test rest : Bool) → (not test && rest) ≡ true → (test ≡ false) × (rest ≡ true)
split_test true rest none = absurd (false≢true none)
split_test false rest none = (refl, none)

and_second : (t u : Bool) → (t && u) ≡ true → u ≡ true
and_second true u is = is
and_second false u is = absurd (false≢true is)

-- signs without a star take as many bytes off
pub signs_take : (signs pattern text : List ℕ) → has_no_star signs ≡ true → spells (signs ++ pattern) text ≡ true
    → spells pattern (drop (length signs) text) ≡ true
signs_take [] pattern text none is = is
signs_take (c ∷ signs) pattern [] none is =
    let first = split_test (eqb c 42) (has_no_star signs) none in
    absurd (false≢true (sym (spells-sign c (signs ++ pattern) [] first.0) ∙ is))
signs_take (c ∷ signs) pattern (b ∷ bs) none is =
    let first = split_test (eqb c 42) (has_no_star signs) none in
    let goes_on : ((eqb c 63 || eqb c b) && spells (signs ++ pattern) bs) ≡ true = sym (spells-sign c (signs ++ pattern) (b ∷ bs) first.0) ∙ is in
    signs_take signs pattern bs first.1 (and_second (eqb c 63 || eqb c b) (spells (signs ++ pattern) bs) goes_on)

-- where a star and its rest spell a text, the rest spells what stands behind some place
pub star_place : (pattern text : List ℕ) → spells (42 ∷ pattern) text ≡ true → (k : ℕ) × (spells pattern (drop k text) ≡ true)
star_place pattern [] is = (0, sym (spells-star_end pattern) ∙ is)
star_place pattern (b ∷ bs) is = elim (cases_Bool (spells pattern (b ∷ bs))) [
  | inl here ↦ (0, here)
  | inr there ↦
      let further = star_place pattern bs (ap (λ (t : Bool). t || spells (42 ∷ pattern) bs) (sym there) ∙ is) in
      (suc further.0, further.1)
]

pub star_now : (pattern text : List ℕ) → spells pattern text ≡ true → spells (42 ∷ pattern) text ≡ true
star_now pattern [] is = spells-star_end pattern ∙ is
star_now pattern (b ∷ bs) is = ap (λ (t : Bool). t || spells (42 ∷ pattern) bs) is

same_tests : (a b : Bool) → (a ≡ true → b ≡ true) → (b ≡ true → a ≡ true) → a ≡ b
same_tests true b there back = sym (there refl)
same_tests false true there back = back refl
same_tests false false there back = refl

-- a star in front of signs that fit up to the next star
pub star_front : (pattern text left text_left : List ℕ) → FrontFits pattern text (42 ∷ left) text_left
    → spells (42 ∷ pattern) text ≡ spells (42 ∷ left) text_left
star_front pattern text left text_left fits = same_tests (spells (42 ∷ pattern) text) (spells (42 ∷ left) text_left)
    (λ is.
    let place = star_place pattern text is in
    let k = place.0 in
    let taken : spells (42 ∷ left) (drop (length fits.signs) (drop k text)) ≡ true =
    signs_take fits.signs (42 ∷ left) (drop k text) fits.no_star (ap (λ (ps : List ℕ). spells ps (drop k text)) (sym fits.pattern_split) ∙ place.1) in
    let both : drop (length fits.signs) (drop k text) ≡ drop k text_left =
    drop-drop (length fits.signs) k text ∙ ap (λ (n : ℕ). drop n text)
    (let e : k + length fits.signs ≡ length fits.bytes + k = omega (arith, fits.as_many) in e)
    ∙ ap (drop (length fits.bytes + k)) fits.text_split ∙ drop-append-add fits.bytes text_left k in
    star_earlier k left text_left (ap (spells (42 ∷ left)) (sym both) ∙ taken))
    (λ is. star_now pattern text (fits.same ∙ is))

-- a step of the search: up to a star
pub from_star : (behind : Bool) (pattern text left text_left : List ℕ) → FrontFits pattern text (42 ∷ left) text_left
    → spells_from behind pattern text ≡ spells_from true left text_left
from_star true pattern text left text_left fits = star_front pattern text left text_left fits
from_star false pattern text left text_left fits = fits.same

-- the whole fits
pub from_whole : (behind : Bool) (pattern text : List ℕ) → spells pattern text ≡ true → spells_from behind pattern text ≡ true
from_whole true pattern text is = star_now pattern text is
from_whole false pattern text is = is

-- nothing is left to try
pub from_misfit : (behind : Bool) (pattern text : List ℕ) → spells pattern text ≡ false → behind ≡ false → spells_from behind pattern text ≡ false
from_misfit true pattern text is none = absurd (false≢true (sym none))
from_misfit false pattern text is none = is

pub from_end : (behind : Bool) (pattern text : List ℕ) → spells pattern text ≡ false → length text ≡ 0 → spells_from behind pattern text ≡ false
from_end true pattern [] is none = spells-star_end pattern ∙ is
from_end true pattern (b ∷ bs) is none = absurd (omega arith)
from_end false pattern text is none = is

-- the next place of the text
pub from_next : (behind : Bool) (pattern text : List ℕ) → spells pattern text ≡ false → behind ≡ true → 0 < length text
    → spells_from behind pattern text ≡ spells_from behind pattern (drop 1 text)
from_next true pattern [] is star some = absurd (omega arith)
from_next true pattern (b ∷ bs) is star some = ap (λ (t : Bool). t || spells (42 ∷ pattern) bs) is
from_next false pattern text is star some = absurd (false≢true star)

-- nothing is matched yet
pub fits_none : (pattern text : List ℕ) → FrontFits pattern text pattern text
fits_none pattern text = record { signs = []; bytes = []; pattern_split = refl; text_split = refl; as_many = refl; no_star = refl; same = refl }

-- one sign more
pub fits_more : (pattern text : List ℕ) (c b : ℕ) (cs bs : List ℕ) → FrontFits pattern text (c ∷ cs) (b ∷ bs) → eqb c 42 ≡ false → (eqb c 63 || eqb c b) ≡ true
    → FrontFits pattern text cs bs
fits_more pattern text c b cs bs fits other same = record {
  signs = fits.signs ++ c ∷ [];
  bytes = fits.bytes ++ b ∷ [];
  pattern_split = fits.pattern_split ∙ sym (append_assoc fits.signs (c ∷ []) cs);
  text_split = fits.text_split ∙ sym (append_assoc fits.bytes (b ∷ []) bs);
  as_many = omega (arith, length-append fits.signs (c ∷ []), length-append fits.bytes (b ∷ []), fits.as_many);
  no_star = list_all-append (λ x. not (eqb x 42)) fits.signs (c ∷ []) ∙ rw (fits.no_star, other) refl;
  same = fits.same ∙ spells-sign c cs (b ∷ bs) other ∙ ap (λ (t : Bool). t && spells cs bs) same;
}

-- a sign that fits no byte
pub misfits : (pattern text : List ℕ) (c b : ℕ) (cs bs : List ℕ) → FrontFits pattern text (c ∷ cs) (b ∷ bs) → eqb c 42 ≡ false → (eqb c 63 || eqb c b) ≡ false
    → spells pattern text ≡ false
misfits pattern text c b cs bs fits other apart = fits.same ∙ spells-sign c cs (b ∷ bs) other ∙ ap (λ (t : Bool). t && spells cs bs) apart

pub misfits_end : (pattern text : List ℕ) (c : ℕ) (cs : List ℕ) → FrontFits pattern text (c ∷ cs) [] → eqb c 42 ≡ false → spells pattern text ≡ false
misfits_end pattern text c cs fits other = fits.same ∙ spells-sign c cs [] other

-- the same by places
pub fits_star : (pattern text : List ℕ) (at : ℕ) → FrontFits pattern text (drop at pattern) (drop at text) → at < length pattern → get_or pattern at 0 ≡ 42
    → FrontFits pattern text (42 ∷ drop (at + 1) pattern) (drop at text)
fits_star pattern text at fits within star =
    let next : drop at pattern ≡ 42 ∷ drop (at + 1) pattern = drop_more pattern at 0 within ∙ ap (λ (c : ℕ). c ∷ drop (at + 1) pattern) star in
    subst (λ (left : List ℕ). FrontFits pattern text left (drop at text)) next fits

both_next : (pattern text : List ℕ) (at : ℕ) → FrontFits pattern text (drop at pattern) (drop at text) → at < length pattern → at < length text
    → FrontFits pattern text (get_or pattern at 0 ∷ drop (at + 1) pattern) (get_or text at 0 ∷ drop (at + 1) text)
both_next pattern text at fits within inside =
    subst (λ (left : List ℕ). FrontFits pattern text (get_or pattern at 0 ∷ drop (at + 1) pattern) left) (drop_more text at 0 inside)
    (subst (λ (left : List ℕ). FrontFits pattern text left (drop at text)) (drop_more pattern at 0 within) fits)

pub fits_step : (pattern text : List ℕ) (at : ℕ) → FrontFits pattern text (drop at pattern) (drop at text) → at < length pattern → at < length text
    → eqb (get_or pattern at 0) 42 ≡ false → (eqb (get_or pattern at 0) 63 || eqb (get_or pattern at 0) (get_or text at 0)) ≡ true
    → FrontFits pattern text (drop (at + 1) pattern) (drop (at + 1) text)
fits_step pattern text at fits within inside other same =
    fits_more pattern text (get_or pattern at 0) (get_or text at 0) (drop (at + 1) pattern) (drop (at + 1) text)
    (both_next pattern text at fits within inside) other same

pub misfit_step : (pattern text : List ℕ) (at : ℕ) → FrontFits pattern text (drop at pattern) (drop at text) → at < length pattern → at < length text
    → eqb (get_or pattern at 0) 42 ≡ false → (eqb (get_or pattern at 0) 63 || eqb (get_or pattern at 0) (get_or text at 0)) ≡ false
    → spells pattern text ≡ false
misfit_step pattern text at fits within inside other apart =
    misfits pattern text (get_or pattern at 0) (get_or text at 0) (drop (at + 1) pattern) (drop (at + 1) text) (both_next pattern text at fits within inside)
    other apart

pub misfit_end : (pattern text : List ℕ) (at : ℕ) → FrontFits pattern text (drop at pattern) (drop at text) → at < length pattern → length text ≤ at
    → eqb (get_or pattern at 0) 42 ≡ false → spells pattern text ≡ false
misfit_end pattern text at fits within past other =
    misfits_end pattern text (get_or pattern at 0) (drop (at + 1) pattern)
    (subst (λ (left : List ℕ). FrontFits pattern text (get_or pattern at 0 ∷ drop (at + 1) pattern) left) (drop_all at text past)
    (subst (λ (left : List ℕ). FrontFits pattern text left (drop at text)) (drop_more pattern at 0 within) fits)) other

pub whole_fits : (pattern text : List ℕ) (at : ℕ) → FrontFits pattern text (drop at pattern) (drop at text) → length pattern ≤ at → length text ≤ at
    → spells pattern text ≡ true
whole_fits pattern text at fits done past = fits.same ∙ rw (drop_all at pattern done, drop_all at text past) refl

pub rest_misfits : (pattern text : List ℕ) (at : ℕ) → FrontFits pattern text (drop at pattern) (drop at text) → length pattern ≤ at → at < length text
    → spells pattern text ≡ false
rest_misfits pattern text at fits done inside = fits.same ∙ rw (drop_all at pattern done, drop_more text at 0 inside) refl
