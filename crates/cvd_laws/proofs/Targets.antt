-- No target's spelling is the front of another's.
use Rattle.std.specs.Prelude.{◌≡◌, ℕ, Bool, true, List, [], ◌∷◌, ◌++◌, codes, refl, find}
use Rattle.std.proofs.Common.{sym, ap, ◌∙◌}
use Rattle.std.specs.Str.{bytes_eq}
use Rattle.std.specs.Option.{option_map_or}
use Rattle.design_tree.specs.declared.step.Target.{Target}
use Rattle.design_tree.specs.declared.step.Target.TheVariants as target
use Rattle.design_tree.specs.declared.typed.Index.{Index}
use Rattle.design_tree.specs.declared.typed.Typed.{Typed}
use Rattle.cvd_text.specs.Tokens.{Token, word, number}
use Rattle.cvd_text.specs.Expressions.{Position, tokens_of, position_tokens}
use Rattle.cvd_text.specs.Targets.{target_tokens}
use Rattle.spelling_laws.specs.Spelled.{ApartAt}
use Rattle.spelling_laws.proofs.Then as after
use Rattle.spelling_laws.proofs.One as single
use Rattle.cvd_laws.specs.Expressions.{is_token}
use Rattle.cvd_laws.proofs.Typeds.{index, index_back, position_at, then_apart, same_text, sNumber, sSign, apart_number, apart_sign, apart_typed}

-- ---- positions

abbrev pub Place : Type 0
Place = (low : ℕ) × ((s : Bool) × Typed)

abbrev pub sPlace : Place → List Token
sPlace p = sNumber p.0 ++ (sSign p.1.0 ++ tokens_of p.1.1)

pub apart_place : (p : Place) → ApartAt is_token sPlace p
apart_place p = then_apart ℕ _ sNumber _ p.0 _ (apart_number p.0) (then_apart Bool Typed sSign tokens_of p.1.0 p.1.1 (apart_sign p.1.0) (apart_typed p.1.1))

abbrev pub place_of : Index → Place
place_of at = (at.low, (at.signed, at.value))

abbrev pub index_at : Place → Index
index_at p = index p.0 p.1.0 p.1.1

pub position_alike : (at : Index) → position_tokens at ≡ sPlace (place_of at)
position_alike at = ap (λ (q : Position). q.front ++ q.value) (position_at at)

-- ---- heads and parts

pub data Head : Type 0 where
  whole : Head
  part : Head
  a_word : Head
  word_part : Head

abbrev pub head_text : Head → List ℕ
head_text whole = codes "w"
head_text part = codes "b"
head_text a_word = codes "m"
head_text word_part = codes "q"

abbrev head_of : List ℕ → Head
head_of text = option_map_or (λ h. h) (find (λ h. bytes_eq text (head_text h)) (whole ∷ part ∷ a_word ∷ word_part ∷ [])) whole

head_back : (h : Head) → head_of (head_text h) ≡ h
head_back whole = refl
head_back part = refl
head_back a_word = refl
head_back word_part = refl

abbrev pub head_token : Head → Token
head_token h = word (head_text h)

pub same_heads : (p : List ℕ) (v w : Head) → is_token p (head_token v) ≡ true → is_token p (head_token w) ≡ true → v ≡ w
same_heads p v w e f = sym (head_back v) ∙ ap head_of (sym (same_text p (head_text v) e) ∙ same_text p (head_text w) f) ∙ head_back w

abbrev pub Parts : Head → Type 0
Parts whole = ℕ
Parts part = (v : ℕ) × ((w : ℕ) × Place)
Parts a_word = (v : ℕ) × Place
Parts word_part = (v : ℕ) × ((at : Place) × ((w : ℕ) × Place))

abbrev pub parts_spelled : (h : Head) → Parts h → List Token
parts_spelled whole v = sNumber v
parts_spelled part p = sNumber p.0 ++ (sNumber p.1.0 ++ sPlace p.1.1)
parts_spelled a_word p = sNumber p.0 ++ sPlace p.1
parts_spelled word_part p = sNumber p.0 ++ (sPlace p.1.0 ++ (sNumber p.1.1.0 ++ sPlace p.1.1.1))

abbrev pub Whole : Type 0
Whole = (h : Head) × Parts h

abbrev pub whole_spelled : Whole → List Token
whole_spelled p = (head_token p.0 ∷ []) ++ parts_spelled p.0 p.1

abbrev made : (h : Head) → Parts h → Target
made whole v = target.Whole v
made part p = target.Part p.0 p.1.0 (index_at p.1.1)
made a_word p = target.Word p.0 (index_at p.1)
made word_part p = target.WordPart p.0 (index_at p.1.0) p.1.1.0 (index_at p.1.1.1)

abbrev to : Whole → Target
to p = made p.0 p.1

abbrev pub from : Target → Whole
from (target.Whole v) = (whole, v)
from (target.Part v w at) = (part, (v, (w, place_of at)))
from (target.Word v at) = (a_word, (v, place_of at))
from (target.WordPart v at w low) = (word_part, (v, (place_of at, (w, place_of low))))

there : (t : Target) → to (from t) ≡ t
there (target.Whole v) = refl
there (target.Part v w at) = ap (target.Part v w) (index_back at)
there (target.Word v at) = ap (target.Word v) (index_back at)
there (target.WordPart v at w low) = ap (λ i. target.WordPart v i w (index_at (place_of low))) (index_back at) ∙ ap (target.WordPart v at w) (index_back low)

pub alike : (t : Target) → target_tokens t ≡ whole_spelled (from t)
alike (target.Whole v) = refl
alike (target.Part v w at) = ap (λ l. word (codes "b") ∷ number v ∷ number w ∷ l) (position_alike at)
alike (target.Word v at) = ap (λ l. word (codes "m") ∷ number v ∷ l) (position_alike at)
alike (target.WordPart v at w low) =
    ap (λ l. word (codes "q") ∷ number v ∷ (l ++ (number w ∷ position_tokens low))) (position_alike at)
    ∙ ap (λ l. word (codes "q") ∷ number v ∷ (sPlace (place_of at) ++ (number w ∷ l))) (position_alike low)

apart_parts : (h : Head) (x : Parts h) → ApartAt is_token (parts_spelled h) x
apart_parts whole v = apart_number v
apart_parts part p =
    then_apart ℕ _ sNumber _ p.0 _ (apart_number p.0) (then_apart ℕ Place sNumber sPlace p.1.0 p.1.1 (apart_number p.1.0) (apart_place p.1.1))
apart_parts a_word p = then_apart ℕ Place sNumber sPlace p.0 p.1 (apart_number p.0) (apart_place p.1)
apart_parts word_part p =
    then_apart ℕ _ sNumber _ p.0 _ (apart_number p.0)
    (then_apart Place _ sPlace _ p.1.0 _ (apart_place p.1.0) (then_apart ℕ Place sNumber sPlace p.1.1.0 p.1.1.1 (apart_number p.1.1.0) (apart_place p.1.1.1)))

apart_whole : (p : Whole) → ApartAt is_token whole_spelled p
apart_whole p =
    after.apart_pair is_token Head Parts (λ k. head_token k ∷ []) parts_spelled p.0 p.1 (single.apart_one is_token Head head_token same_heads p.0)
    (apart_parts p.0 p.1)

-- no target's spelling is the front of another's
pub apart_target : (t : Target) → ApartAt is_token target_tokens t
apart_target t = single.apart_via is_token Whole Target to from there whole_spelled target_tokens alike t (apart_whole (from t))
