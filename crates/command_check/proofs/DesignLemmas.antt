-- Design files that are read one after the other.
use Rattle.std.proofs.Common.{◌≡◌, ◌⊎◌, inl, inr, ℕ, suc, ◌+◌, ◌<◌, ◌≤◌, List, [], ◌∷◌, ◌++◌, length, get_or, take, drop, map, sym, ◌∙◌, ap, subst, Option}
use Rattle.std.proofs.Common.{None, Some, arith, add-zero}
use Rattle.std.specs.Prelude.{IfSome, Contains, sum}
use Rattle.std.proofs.lemmas.List.{length-take-le, map-append, take_more}
use Rattle.std.proofs.lemmas.List.Sums.{sum_by-append, sum_by-cons, sum_by_push}
use Rattle.std.proofs.Math.Seq.{split_at}
use Rattle.cov_port.specs.Files.{Names, FileFaults}
use Rattle.cov_types.specs.declared.limit.LimitName.TheVariants.{DesignBytes}
use Rattle.vlog_tree.specs.declared.module.SourceFile.{SourceFile}
use Rattle.command_ending.specs.Answer.{Answer, absent, over_limit}
use Rattle.command_check.specs.CheckAnswer.{AreDesigns, IsDesign, RefusesDesign, RefusesOne, StopsReading, lacking, too_long}
use Rattle.command_ending.specs.Stops.{Stops}
use Rattle.command_ending.proofs.PutLemmas.{if_told}
use Rattle.command_ending.proofs.StopLemmas.{stops_weaker}
use Rattle.command_check.specs.Steps.{IsLonger, design_promise, designs_promise}
use Rattle.command_ending.specs.declared.ending.Ending.{Ending}

-- a sum with one more
pub sum_more : {X : Type 0} (f : X → ℕ) (xs : List X) (x : X) → sum (map f (xs ++ x ∷ [])) ≡ sum (map f xs) + f x
sum_more f xs x = ap sum (map-append f xs (x ∷ [])) ∙ sum_by_push (λ (n : ℕ). n) (map f xs) (f x)

-- a sum around one
pub sum_around : {X : Type 0} (f : X → ℕ) (xs : List X) (x : X) (ys : List X) → sum (map f (xs ++ x ∷ ys)) ≡ sum (map f xs) + (f x + sum (map f ys))
sum_around f xs x ys =
    ap sum (map-append f xs (x ∷ ys)) ∙ sum_by-append (λ (n : ℕ). n) (map f xs) (f x ∷ map f ys)
    ∙ ap (λ (n : ℕ). sum (map f xs) + n) (sum_by-cons (λ (n : ℕ). n) (f x) (map f ys))

-- a text is not longer than all together
pub text_within : (texts : List (List ℕ)) (i : ℕ) → i < length texts → length (get_or texts i []) ≤ sum (map length texts)
text_within texts i within =
    omega (
      arith,
      ap (λ (ts : List (List ℕ)). sum (map length ts)) (split_at texts i [] within)
          ∙ sum_around length (take i texts) (get_or texts i []) (drop (suc i) texts),
    )

-- the names hold the texts, where they are told
abbrev pub Holds : Option Names → List (List ℕ) → List (List ℕ) → Type 0
Holds told names texts = IfSome told (λ held. map held names ≡ map Some texts)

-- a file that was not read stops the reading of all
pub unread_stops : (told : Option Names) (before now : FileFaults) (names done rest texts : List (List ℕ)) (name : List ℕ) (room : ℕ) (e : Ending)
    → names ≡ done ++ name ∷ rest → Holds told done texts → room + sum (map length texts) ≡ 4194304 → Contains names name
    → Stops (design_promise name room) told before now e → Stops (designs_promise names) told before now e
unread_stops told before now names done rest texts name room e split all few there is =
    stops_weaker (design_promise name room) (designs_promise names) told before now e (λ other same. subst (Contains names) (sym same) there)
    (λ status line may. may)
    (if_told told (λ held. map held done ≡ map Some texts) _ (λ held hold. answer held hold) all) is where
      answer : (held : Names) → map held done ≡ map Some texts → (a : Answer)
          → ((held name ≡ None) × (a ≡ absent name)) ⊎ (IsLonger name room held × (a ≡ over_limit DesignBytes)) → StopsReading held names a
      answer held hold a (inl none) = let within : sum (map length texts) ≤ 4194304 = omega arith in
          subst (StopsReading held names) (sym none.1) (lacking done rest texts name split (record { hold = hold; few = within }) none.0)
      answer held hold a (inr long) =
          let more = sum_more length texts long.0.0 in let size = long.0.2 in
          subst (StopsReading held names) (sym long.1)
          (too_long done rest texts name long.0.0 split (record { hold = hold; few = omega arith }) long.0.1 (omega (arith, more)))

-- one more design
pub designs_more : (number : ℕ) (texts : List (List ℕ)) (files : List SourceFile) (text : List ℕ) (file : SourceFile) → AreDesigns number texts files
    → IsDesign (number + length texts) text file → AreDesigns number (texts ++ text ∷ []) (files ++ file ∷ [])
designs_more number [] [] text file all one = (subst (λ (n : ℕ). IsDesign n text file) (add-zero number) one, tt)
designs_more number [] (f ∷ files) text file all one = absurd all
designs_more number (t ∷ texts) [] text file all one = absurd all
designs_more number (t ∷ texts) (f ∷ files) text file all one =
    let same : number + suc (length texts) ≡ number + 1 + length texts = omega arith in
    (all.0, designs_more (number + 1) texts files text file all.1 (subst (λ (n : ℕ). IsDesign n text file) same one))

-- the designs before a text, and the text
pub designs_to : (texts : List (List ℕ)) (i : ℕ) (files : List SourceFile) (file : SourceFile) → i < length texts → AreDesigns 0 (take i texts) files
    → IsDesign i (get_or texts i []) file → AreDesigns 0 (take (i + 1) texts) (files ++ file ∷ [])
designs_to texts i files file within all one =
    let number : i ≡ 0 + length (take i texts) = omega (arith, length-take-le i texts (omega arith)) in
    subst (λ (ts : List (List ℕ)). AreDesigns 0 ts (files ++ file ∷ [])) (sym (take_more texts i [] within))
    (designs_more 0 (take i texts) files (get_or texts i []) file all (subst (λ (n : ℕ). IsDesign n (get_or texts i []) file) number one))

-- the first file that is refused, behind designs
pub refuses_one : (names texts : List (List ℕ)) (i : ℕ) (files : List SourceFile) (answer : Answer) → length texts ≡ length names → i < length texts
    → AreDesigns 0 (take i texts) files
    → RefusesDesign i (get_or names i []) (get_or texts i []) answer → RefusesOne names texts answer
refuses_one names texts i files answer each within all refused =
    let inside : i < length names = omega arith in
    let count = length-take-le i names (omega arith) in
    record {
      names_before = take i names;
      name = get_or names i [];
      names_after = drop (suc i) names;
      texts_before = take i texts;
      text = get_or texts i [];
      texts_after = drop (suc i) texts;
      names_split = split_at names i [] inside;
      texts_split = split_at texts i [] within;
      same_number = count ∙ sym (length-take-le i texts (omega arith));
      files = files;
      designs = all;
      refusal = subst (λ (n : ℕ). RefusesDesign n (get_or names i []) (get_or texts i []) answer) (sym count) refused;
    }
