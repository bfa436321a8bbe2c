-- The list of parameters in the text of a module.
use Rattle.std.proofs.Common.{◌≡◌, ◌∙◌, sym, ap, refl, ℕ, ◌+◌, ◌<◌, Bool, true, false, not, ◌&&◌, cond, List, [], ◌∷◌, ◌++◌, length, take, get_or, map, filter}
use Rattle.std.proofs.Common.{append_assoc, append-nil}
use Rattle.std.specs.Prelude.{codes}
use Rattle.std.specs.List.{join_with_byte}
use Rattle.std.proofs.lemmas.List.{map-append, take_more}
use Rattle.std.proofs.lemmas.List.Elements.{filter-append}
use Rattle.elab_types.specs.declared.scope.Constant.{Constant as ConstantRow}
use Rattle.scope_meaning.specs.Constants.{Constant}
use Rattle.scope_meaning.specs.BlockNames.{constant_text, module_text}
use Rattle.scope_meaning.specs.Declared.{is_in}
use Rattle.scope_meaning.specs.ScopeTrees.{seen_constant}

abbrev pub is_none : List Constant → Bool
is_none [] = true
is_none (c ∷ cs) = false

-- a name with some parameters, their list still open
abbrev pub open_text : List ℕ → List Constant → List ℕ
open_text name [] = name
open_text name (c ∷ cs) = (name ++ codes "#(") ++ join_with_byte 44 (map constant_text (c ∷ cs))

-- the constants whose names are among these
abbrev pub kept : List (List ℕ) → List ConstantRow → List Constant
kept names rows = filter (λ c. is_in c.name names) (map seen_constant rows)

join-more : (t : List ℕ) (ts : List (List ℕ)) (u : List ℕ) → join_with_byte 44 ((t ∷ ts) ++ u ∷ []) ≡ join_with_byte 44 (t ∷ ts) ++ (44 ∷ u)
join-more t [] u = refl
join-more t (s ∷ ts) u = ap (λ r. t ++ (44 ∷ r)) (join-more s ts u) ∙ sym (append_assoc t (44 ∷ join_with_byte 44 (s ∷ ts)) (44 ∷ u))

-- one parameter more
open-more : (name : List ℕ) (ks : List Constant) (y : Constant)
    → open_text name ks ++ (cond (is_none ks) (codes "#(") (codes ",") ++ constant_text y) ≡ open_text name (ks ++ y ∷ [])
open-more name [] y = sym (append_assoc name (codes "#(") (constant_text y))
open-more name (k ∷ ks) y =
    append_assoc (name ++ codes "#(") (join_with_byte 44 (map constant_text (k ∷ ks))) (44 ∷ constant_text y)
    ∙ ap (λ r. (name ++ codes "#(") ++ r)
    (sym (ap (join_with_byte 44) (map-append constant_text (k ∷ ks) (y ∷ [])) ∙ join-more (constant_text k) (map constant_text ks) (constant_text y)))

text-more : (name : List ℕ) (ks : List Constant) (y : Constant) (w f : Bool) → f ≡ is_none ks
    → open_text name ks ++ cond w (cond f (codes "#(") (codes ",") ++ constant_text y) [] ≡ open_text name (ks ++ cond w (y ∷ []) [])
text-more name ks y true f h = ap (λ b. open_text name ks ++ (cond b (codes "#(") (codes ",") ++ constant_text y)) h ∙ open-more name ks y
text-more name ks y false f h = append-nil (open_text name ks) ∙ ap (open_text name) (sym (append-nil ks))

none-more : (ks : List Constant) (y : Constant) (w : Bool) → is_none (ks ++ cond w (y ∷ []) []) ≡ (is_none ks && not w)
none-more [] y true = refl
none-more [] y false = refl
none-more (k ∷ ks) y w = refl

kept-more : (names : List (List ℕ)) (rows : List ConstantRow) (i : ℕ) (r : ConstantRow) → i < length rows → r ≡ get_or rows i r
    → kept names (take (i + 1) rows) ≡ kept names (take i rows) ++ cond (is_in r.name names) (seen_constant r ∷ []) []
kept-more names rows i r lt is =
    ap (kept names) (take_more rows i r lt ∙ ap (λ (x : ConstantRow). take i rows ++ x ∷ []) (sym is))
    ∙ ap (filter (λ (c : Constant). is_in c.name names)) (map-append seen_constant (take i rows) (r ∷ []))
    ∙ filter-append (λ (c : Constant). is_in c.name names) (map seen_constant (take i rows)) (seen_constant r ∷ [])

pub step-text : (names : List (List ℕ)) (name : List ℕ) (rows : List ConstantRow) (i : ℕ) (r : ConstantRow) (old new : List ℕ) (w f : Bool) → i < length rows
    → r ≡ get_or rows i r → w ≡ is_in r.name names → old ≡ open_text name (kept names (take i rows)) → f ≡ is_none (kept names (take i rows))
    → new ≡ old ++ cond w (cond f (codes "#(") (codes ",") ++ constant_text (seen_constant r)) [] → new ≡ open_text name (kept names (take (i + 1) rows))
step-text names name rows i r old new w f lt is wanted text first more =
    more ∙ ap (λ (t : List ℕ). t ++ cond w (cond f (codes "#(") (codes ",") ++ constant_text (seen_constant r)) []) text
    ∙ text-more name (kept names (take i rows)) (seen_constant r) w f first
    ∙ ap (open_text name) (ap (λ (b : Bool). kept names (take i rows) ++ cond b (seen_constant r ∷ []) []) wanted ∙ sym (kept-more names rows i r lt is))

pub step-first : (names : List (List ℕ)) (rows : List ConstantRow) (i : ℕ) (r : ConstantRow) (w f new : Bool) → i < length rows
    → r ≡ get_or rows i r → w ≡ is_in r.name names → f ≡ is_none (kept names (take i rows)) → new ≡ (f && not w)
    → new ≡ is_none (kept names (take (i + 1) rows))
step-first names rows i r w f new lt is wanted first more =
    more ∙ ap (λ b. b && not w) first ∙ sym (none-more (kept names (take i rows)) (seen_constant r) w)
    ∙ ap is_none (ap (λ (b : Bool). kept names (take i rows) ++ cond b (seen_constant r ∷ []) []) wanted ∙ sym (kept-more names rows i r lt is))

-- the list closed
pub closes : (name : List ℕ) (ks : List Constant) (f : Bool) → f ≡ is_none ks → open_text name ks ++ cond f [] (codes ")") ≡ module_text name ks
closes name [] f h = ap (λ b. name ++ cond b [] (codes ")")) h ∙ append-nil name
closes name (k ∷ ks) f h = ap (λ b. open_text name (k ∷ ks) ++ cond b [] (codes ")")) h
