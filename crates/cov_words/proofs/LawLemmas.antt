-- The relation and the function say the same of the pieces of words.
use Rattle.std.proofs.Common.{◌≡◌, ℕ, Bool, true, false, List, [], ◌∷◌, ◌++◌, Option, None, Some, map, refl, sym, ◌∙◌, ap, subst, append_assoc}
use Rattle.std.specs.Prelude.{IfSome, codes, find, option_and_then}
use Rattle.std.specs.Str.{bytes_eq}
use Rattle.std.proofs.lemmas.Bool.{both_ways, cond_both, false_from_ne_true, false≢true}
use Rattle.std.proofs.lemmas.Option.{none-some, same_Some}
use Rattle.std.proofs.lemmas.Slice.Eq.{bytes_eq-Decides}
use Rattle.cov_words.proofs.SignLemmas.{Parts, StandAround, sign_at, around_sign}
use Rattle.cov_words.specs.Table.{word_of, row_of, option_named, is_flag}
use Rattle.cov_words.specs.Cut.{Piece, given, name, is_option, IsCut, no_more, a_name, a_flag, with_next, with_value, only_names}
use Rattle.cov_words.specs.Pieces.{at_equal_sign, Opening, whole, waiting, alone, together, parted, option_opening, opening, behind, opened, cut, pieces_of}
use Rattle.cov_words.specs.declared.table.CommandName.{CommandName}
use Rattle.cov_words.specs.declared.table.OptionName.{OptionName}
use Rattle.cov_words.specs.declared.table.OptionName.TheVariants.{Top, Out, Clock, Coverage, CoverageLine, CoverageToggle, CoverageUser, CoverageUnderscore}
use Rattle.cov_words.specs.declared.table.OptionName.TheVariants.{CoverageMaxWidth, CountBits, Data, Write, WriteInfo, Rank, Annotate, AnnotateAll}
use Rattle.cov_words.specs.declared.table.OptionName.TheVariants.{AnnotatePoints, AnnotateMin, FilterType}

-- ---- words

same_bytes : (a b : List ℕ) → bytes_eq a b ≡ true → a ≡ b
same_bytes a b e = (bytes_eq-Decides a b).0 e

equal_bytes : (a b : List ℕ) → a ≡ b → bytes_eq a b ≡ true
equal_bytes a b e = (bytes_eq-Decides a b).1 e

-- what is found passes the test
find-passes : {X : Type 0} (test : X → Bool) (xs : List X) → IfSome (find test xs) (λ x. test x ≡ true)
find-passes test [] = tt
find-passes test (x ∷ xs) = cond_both (test x) (Some x) (find test xs) (λ o. IfSome o (λ x. test x ≡ true)) (λ e. e) (λ _. find-passes test xs)

if_some : {X : Type 0} (P : X → Type 0) (o : Option X) (x : X) → o ≡ Some x → IfSome o P → P x
if_some P o x e h = subst (λ o. IfSome o P) e h

-- the word of an option that a command has
named_word : (c : CommandName) (word : List ℕ) (o : OptionName) → option_named c word ≡ Some o → word ≡ word_of o
named_word c word o e = same_bytes word (word_of o) (if_some (λ o. bytes_eq word (word_of o)
    ≡ true) (option_named c word) o e (find-passes (λ o. bytes_eq word (word_of o)) (row_of c).options))

-- what each option's word is like: it begins with '-', is not `--`, and has no '='
record IsOptionWord (word : List ℕ) : Type 0 where
  dashed : is_option word ≡ true
  is_longer : bytes_eq word (codes "--") ≡ false
  no_sign : at_equal_sign word ≡ None

option_word : (o : OptionName) → IsOptionWord (word_of o)
option_word Top = record { dashed = refl; is_longer = refl; no_sign = refl }
option_word Out = record { dashed = refl; is_longer = refl; no_sign = refl }
option_word Clock = record { dashed = refl; is_longer = refl; no_sign = refl }
option_word Coverage = record { dashed = refl; is_longer = refl; no_sign = refl }
option_word CoverageLine = record { dashed = refl; is_longer = refl; no_sign = refl }
option_word CoverageToggle = record { dashed = refl; is_longer = refl; no_sign = refl }
option_word CoverageUser = record { dashed = refl; is_longer = refl; no_sign = refl }
option_word CoverageUnderscore = record { dashed = refl; is_longer = refl; no_sign = refl }
option_word CoverageMaxWidth = record { dashed = refl; is_longer = refl; no_sign = refl }
option_word CountBits = record { dashed = refl; is_longer = refl; no_sign = refl }
option_word Data = record { dashed = refl; is_longer = refl; no_sign = refl }
option_word Write = record { dashed = refl; is_longer = refl; no_sign = refl }
option_word WriteInfo = record { dashed = refl; is_longer = refl; no_sign = refl }
option_word Rank = record { dashed = refl; is_longer = refl; no_sign = refl }
option_word Annotate = record { dashed = refl; is_longer = refl; no_sign = refl }
option_word AnnotateAll = record { dashed = refl; is_longer = refl; no_sign = refl }
option_word AnnotatePoints = record { dashed = refl; is_longer = refl; no_sign = refl }
option_word AnnotateMin = record { dashed = refl; is_longer = refl; no_sign = refl }
option_word FilterType = record { dashed = refl; is_longer = refl; no_sign = refl }

-- ---- a word with a '='

-- a word with a '=' is neither `--` nor an option's
no_dashes : (word : List ℕ) (p : Parts) → at_equal_sign word ≡ Some p → bytes_eq word (codes "--") ≡ false
no_dashes word p s = false_from_ne_true _ (λ e. none-some p (sym (ap at_equal_sign (same_bytes word (codes "--") e)) ∙ s))

no_option : (c : CommandName) (word : List ℕ) (p : Parts) → at_equal_sign word ≡ Some p → (found : Option OptionName) → option_named c word ≡ found
    → found ≡ None
no_option c word p s None e = refl
no_option c word p s (Some o) e = absurd (none-some p (sym (ap at_equal_sign (named_word c word o e) ∙ (option_word o).no_sign) ∙ s))

-- a word that goes on behind an option's begins with '-' too
still_dashed : (front value : List ℕ) → is_option front ≡ true → is_option (front ++ value) ≡ true
still_dashed [] value d = absurd (false≢true d)
still_dashed (b ∷ []) value d = absurd (false≢true d)
still_dashed (b ∷ b' ∷ front) value d = d

-- ---- what a word begins

-- how an opening stands in a word
data Begins (c : CommandName) (word : List ℕ) : Opening → Type 0 where
  as_name : is_option word ≡ false → Begins c word (whole (name word))
  as_flag : {o : OptionName} → option_named c word ≡ Some o → is_flag o ≡ true → Begins c word (whole (given o []))
  as_valued : {o : OptionName} {value : List ℕ} (before : List ℕ) → word ≡ before ++ codes "=" ++ value → option_named c before ≡ Some o → is_flag o ≡ false
      → Begins c word (whole (given o value))
  as_waiting : {o : OptionName} → option_named c word ≡ Some o → is_flag o ≡ false → Begins c word (waiting o)

abbrev BeginsIf : CommandName → List ℕ → Option Opening → Type 0
BeginsIf c word begun = IfSome begun (λ (opening : Opening). Begins c word opening)

alone-begins : (c : CommandName) (word : List ℕ) (o : OptionName) → option_named c word ≡ Some o → Begins c word (alone o)
alone-begins c word o e = cond_both (is_flag o) (whole (given o [])) (waiting o) (λ (opening : Opening). Begins c word opening) (λ f. as_flag e f)
    (λ f. as_waiting e f)

together-begins : (c : CommandName) (word before value : List ℕ) → word ≡ before ++ 61 ∷ value → (found : Option OptionName) → option_named c before ≡ found
    → BeginsIf c word (option_and_then (together value) found)
together-begins c word before value w None e = tt
together-begins c word before value w (Some o) e =
    cond_both (is_flag o) None (Some (whole (given o value))) (BeginsIf c word) (λ f. tt) (λ f. as_valued before (w
    ∙ sym (append_assoc before (codes "=") value)) e f)

parted-begins : (c : CommandName) (word : List ℕ) (p : Option Parts) → StandAround word p → BeginsIf c word (parted c p)
parted-begins c word None h = tt
parted-begins c word (Some p) h = together-begins c word p.0 p.1 h (option_named c p.0) refl

option_opening-begins : (c : CommandName) (word : List ℕ) (found : Option OptionName) → option_named c word ≡ found
    → BeginsIf c word (option_opening c word found)
option_opening-begins c word None e = parted-begins c word (at_equal_sign word) (around_sign word)
option_opening-begins c word (Some o) e = alone-begins c word o e

opening-begins : (c : CommandName) (word : List ℕ) → BeginsIf c word (opening c word)
opening-begins c word =
    cond_both (is_option word) (option_opening c word (option_named c word)) (Some (whole (name word))) (BeginsIf c word)
    (λ _. option_opening-begins c word (option_named c word) refl)
    (λ d. as_name d)

-- ---- the function gives what the relation says

behind-some : (piece : Piece) (rest : Option (List Piece)) (pieces : List Piece) → behind piece rest ≡ Some pieces
    → (ps : List Piece) × (rest ≡ Some ps) × (piece ∷ ps ≡ pieces)
behind-some piece None pieces e = absurd (none-some pieces e)
behind-some piece (Some ps) pieces e = (ps, refl, same_Some _ _ e)

-- what the pieces of words are, the first of which may be the value of an option
abbrev Means : CommandName → Option OptionName → List (List ℕ) → List Piece → Type 0
Means c None words pieces = IsCut c words pieces
Means c (Some o) words pieces = (word : List ℕ) → option_named c word ≡ Some o → is_flag o ≡ false → IsCut c (word ∷ words) pieces

abbrev MeansAll : CommandName → Option OptionName → List (List ℕ) → Type 0
MeansAll c wait words = (pieces : List Piece) → cut c wait words ≡ Some pieces → Means c wait words pieces

whole-means : (c : CommandName) (word : List ℕ) (words : List (List ℕ)) (piece : Piece) → Begins c word (whole piece) → (pieces : List Piece)
    → IsCut c words pieces → IsCut c (word ∷ words) (piece ∷ pieces)
whole-means c word words piece (as_name d) pieces h = a_name d h
whole-means c word words piece (as_flag e f) pieces h = a_flag e f h
whole-means c word words piece (as_valued before w e f) pieces h = with_value before w e f h

waiting-means : (c : CommandName) (word : List ℕ) (words : List (List ℕ)) (o : OptionName) → Begins c word (waiting o) → (pieces : List Piece)
    → Means c (Some o) words pieces → IsCut c (word ∷ words) pieces
waiting-means c word words o (as_waiting e f) pieces h = h word e f

opened-means : (c : CommandName) (word : List ℕ) (words : List (List ℕ)) (begun : Option Opening) → BeginsIf c word begun → MeansAll c None words
    → ((o : OptionName) → MeansAll c (Some o) words)
    → (pieces : List Piece) → opened (cut c None words) (λ o. cut c (Some o) words) begun ≡ Some pieces → IsCut c (word ∷ words) pieces
opened-means c word words None b rest wait pieces e = absurd (none-some pieces e)
opened-means c word words (Some (whole piece)) b rest wait pieces e =
    let s = behind-some piece (cut c None words) pieces e in
    subst (λ (ps : List Piece). IsCut c (word ∷ words) ps) s.2 (whole-means c word words piece b s.0 (rest s.0 s.1))
opened-means c word words (Some (waiting o)) b rest wait pieces e = waiting-means c word words o b pieces (wait o pieces e)

sound_from : (c : CommandName) (wait : Option OptionName) (words : List (List ℕ)) → MeansAll c wait words
sound_from c None [] = λ pieces e. subst (λ (ps : List Piece). IsCut c [] ps) (same_Some _ _ e) no_more
sound_from c (Some o) [] = λ pieces e. absurd (none-some pieces e)
sound_from c (Some o) (value ∷ words) = λ pieces e word n f.
    let s = behind-some (given o value) (cut c None words) pieces e in
    subst (λ (ps : List Piece). IsCut c (word ∷ value ∷ words) ps) s.2 (with_next n f (sound_from c None words s.0 s.1))
sound_from c None (word ∷ words) = λ pieces.
    cond_both (bytes_eq word (codes "--")) (Some (map name words)) (opened (cut c None words) (λ o. cut c (Some o) words) (opening c word))
    (λ (o : Option (List Piece)). o ≡ Some pieces → IsCut c (word ∷ words) pieces)
    (λ d e. subst (λ (ps : List Piece). IsCut c (word ∷ words) ps) (same_Some _ _ e) (only_names (same_bytes word (codes "--") d)))
    (λ _ e. opened-means c word words (opening c word) (opening-begins c word) (sound_from c None words) (λ o. sound_from c (Some o) words) pieces e)

pub sound : (c : CommandName) (words : List (List ℕ)) (pieces : List Piece) → pieces_of c words ≡ Some pieces → IsCut c words pieces
sound c words pieces e = sound_from c None words pieces e

-- ---- the relation holds of what the function gives

-- the next piece, where the first word begins it
opened-whole : (c : CommandName) (word : List ℕ) (words : List (List ℕ)) (piece : Piece) (pieces : List Piece) → bytes_eq word (codes "--") ≡ false
    → opening c word ≡ Some (whole piece) → pieces_of c words ≡ Some pieces → pieces_of c (word ∷ words) ≡ Some (piece ∷ pieces)
opened-whole c word words piece pieces l b e = rw l (rw b (rw e refl))

-- the next piece, where the second word is the value that the first waits for
opened-waiting : (c : CommandName) (word value : List ℕ) (words : List (List ℕ)) (o : OptionName) (pieces : List Piece) → bytes_eq word (codes "--") ≡ false
    → opening c word ≡ Some (waiting o) → pieces_of c words ≡ Some pieces → pieces_of c (word ∷ value ∷ words) ≡ Some (given o value ∷ pieces)
opened-waiting c word value words o pieces l b e = rw l (rw b (rw e refl))

name_opening : (c : CommandName) (word : List ℕ) → is_option word ≡ false → opening c word ≡ Some (whole (name word))
name_opening c word d = rw d refl

dashes-dashed : (word : List ℕ) → is_option word ≡ false → bytes_eq word (codes "--") ≡ false
dashes-dashed word d = false_from_ne_true _ (λ e. both_ways (is_option word) d (ap is_option (same_bytes word (codes "--") e)))

-- an option that is a word of its own
own_opening : (c : CommandName) (word : List ℕ) (o : OptionName) → option_named c word ≡ Some o → opening c word ≡ Some (alone o)
own_opening c word o e = let w = named_word c word o e in let d : is_option word ≡ true = ap is_option w ∙ (option_word o).dashed in rw d (rw e refl)

own-no_dashes : (c : CommandName) (word : List ℕ) (o : OptionName) → option_named c word ≡ Some o → bytes_eq word (codes "--") ≡ false
own-no_dashes c word o e = ap (λ (w : List ℕ). bytes_eq w (codes "--")) (named_word c word o e) ∙ (option_word o).is_longer

valued_sign : (c : CommandName) (word before value : List ℕ) (o : OptionName) → word ≡ before ++ codes "=" ++ value → option_named c before ≡ Some o
    → at_equal_sign word ≡ Some (before, value)
valued_sign c word before value o w e =
    ap at_equal_sign (w ∙ append_assoc before (codes "=") value) ∙ sign_at before value (ap at_equal_sign (named_word c before o e) ∙ (option_word o).no_sign)

valued_opening : (c : CommandName) (word before value : List ℕ) (o : OptionName) → word ≡ before ++ codes "=" ++ value → option_named c before ≡ Some o
    → is_flag o ≡ false → opening c word ≡ Some (whole (given o value))
valued_opening c word before value o w e f =
    let s = valued_sign c word before value o w e in
    let d : is_option word ≡ true = ap is_option (w ∙ append_assoc before (codes "=") value)
    ∙ still_dashed before (61 ∷ value) (ap is_option (named_word c before o e) ∙ (option_word o).dashed) in
    rw d (rw (no_option c word (before, value) s (option_named c word) refl) (rw s (rw e (rw f refl))))

pub complete : (c : CommandName) (words : List (List ℕ)) (pieces : List Piece) → IsCut c words pieces → pieces_of c words ≡ Some pieces
complete c _ _ no_more = refl
complete c _ _ (a_name {word} {words} {pieces} d h) = opened-whole c word words (name word) pieces (dashes-dashed word d) (name_opening c word d)
    (complete c words pieces h)
complete c _ _ (a_flag {word} {words} {pieces} {o} e f h) =
    opened-whole c word words (given o []) pieces (own-no_dashes c word o e) (own_opening c word o e ∙ (rw f refl)) (complete c words pieces h)
complete c _ _ (with_next {word} {value} {words} {pieces} {o} e f h) =
    opened-waiting c word value words o pieces (own-no_dashes c word o e) (own_opening c word o e ∙ (rw f refl)) (complete c words pieces h)
complete c _ _ (with_value {word} {value} {words} {pieces} {o} before w e f h) =
    opened-whole c word words (given o value) pieces (no_dashes word (before, value) (valued_sign c word before value o w e))
    (valued_opening c word before value o w e f) (complete c words pieces h)
complete c _ _ (only_names {word} {words} w) = rw (equal_bytes word (codes "--") w) refl

pub one : (c : CommandName) (words : List (List ℕ)) (a b : List Piece) → IsCut c words a → IsCut c words b → a ≡ b
one c words a b h k = same_Some a b (sym (complete c words a h) ∙ complete c words b k)
