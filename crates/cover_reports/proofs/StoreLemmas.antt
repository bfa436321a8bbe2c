-- Annotated files to be stored, one after the other.
use Rattle.std.proofs.Common.{◌≡◌, ℕ, ◌+◌, ◌-◌, ◌<◌, List, [], ◌∷◌, ◌++◌, length, map, drop, get_or, sym, ◌∙◌, ap, subst, Option, Some}
use Rattle.std.specs.Prelude.{IfSome, Contains}
use Rattle.std.proofs.lemmas.List.{append_assoc, drop_more, map-append}
use Rattle.std.proofs.lemmas.List.Elements.{Contains-get_or}
use Rattle.cov_port.specs.Files.{Names, FileFaults}
use Rattle.cov_dat.specs.Merging.{Counts}
use Rattle.report_text.specs.Annotation.{Options}
use Rattle.command_ending.specs.Answer.{Answer}
use Rattle.command_ending.specs.Stops.{Stops}
use Rattle.command_ending.specs.declared.ending.Ending.{Ending}
use Rattle.command_ending.proofs.PutLemmas.{if_told, if_told_both}
use Rattle.command_ending.proofs.StopLemmas.{stops_weaker}
use Rattle.cover_answer.specs.Reports.{first_reason, source_of, stored_name}
use Rattle.cover_reports.specs.Sources.{annotating_promise, annotating_reasons, names_in, or_later, refused_from, sources_promise, store_of, IsAnnotated}
use Rattle.cover_reports.specs.Sources.{IsStored}

-- a source that is annotated goes on to those behind it
goes_on : (held : Names) (options : Options) (counts : Counts) (folder : List ℕ) (files : List (List ℕ)) (k left rest first : ℕ)
    (now new : List (List ℕ × List ℕ)) → k < length files
    → IsStored held options counts folder (get_or files k []) left now new rest
    → refused_from held counts left (drop k files) ≡ refused_from held counts first files
    → refused_from held counts rest (drop (k + 1) files) ≡ refused_from held counts first files
goes_on held options counts folder files k left rest first now new within made so =
    let file = get_or files k [] in
    let behind = refused_from held counts (left - length (source_of held file)) (drop (k + 1) files) in
    ap (λ (n : ℕ). refused_from held counts n (drop (k + 1) files)) made.rest_is
    ∙ sym (ap (λ (o : Option Answer). or_later o behind) made.sound)
    ∙ sym (ap (refused_from held counts left) (drop_more files k [] within)) ∙ so

pub source_passed : (told : Option Names) (options : Options) (counts : Counts) (folder : List ℕ) (files : List (List ℕ)) (k left rest first : ℕ)
    (now new : List (List ℕ × List ℕ))
    → k < length files → IfSome told (λ held. IsStored held options counts folder (get_or files k []) left now new rest)
    → IfSome told (λ held. refused_from held counts left (drop k files) ≡ refused_from held counts first files)
    → IfSome told (λ held. refused_from held counts rest (drop (k + 1) files) ≡ refused_from held counts first files)
source_passed told options counts folder files k left rest first now new within =
    if_told_both told _ _ _ (λ held made so. goes_on held options counts folder files k left rest first now new within made so)

-- its annotated file stands behind the stores
stands_behind : (held : Names) (options : Options) (counts : Counts) (folder : List ℕ) (files : List (List ℕ)) (k left rest : ℕ)
    (old now new : List (List ℕ × List ℕ)) → k < length files
    → IsStored held options counts folder (get_or files k []) left now new rest
    → now ++ map (store_of held options counts folder) (drop k files) ≡ old ++ map (store_of held options counts folder) files
    → new ++ map (store_of held options counts folder) (drop (k + 1) files) ≡ old ++ map (store_of held options counts folder) files
stands_behind held options counts folder files k left rest old now new within made so =
    let stored = store_of held options counts folder in
    let file = get_or files k [] in
    ap (λ (s : List (List ℕ × List ℕ)). s ++ map stored (drop (k + 1) files)) made.stores_is
    ∙ append_assoc now (stored file ∷ []) (map stored (drop (k + 1) files))
    ∙ sym (ap (λ (fs : List (List ℕ)). now ++ map stored fs) (drop_more files k [] within)) ∙ so

pub store_added : (told : Option Names) (options : Options) (counts : Counts) (folder : List ℕ) (files : List (List ℕ)) (k left rest : ℕ)
    (old now new : List (List ℕ × List ℕ))
    → k < length files → IfSome told (λ held. IsStored held options counts folder (get_or files k []) left now new rest)
    → IfSome told (λ held. now ++ map (store_of held options counts folder) (drop k files) ≡ old ++ map (store_of held options counts folder) files)
    → IfSome told (λ held. new ++ map (store_of held options counts folder) (drop (k + 1) files) ≡ old ++ map (store_of held options counts folder) files)
store_added told options counts folder files k left rest old now new within =
    if_told_both told _ _ _ (λ held made so. stands_behind held options counts folder files k left rest old now new within made so)

-- the name of an annotated file stands behind the names
pub name_added : (folder : List ℕ) (files : List (List ℕ)) (k : ℕ) (old now new : List (List ℕ)) → k < length files
    → new ≡ now ++ stored_name folder (get_or files k []) ∷ []
    → now ++ map (stored_name folder) (drop k files) ≡ old ++ map (stored_name folder) files
    → new ++ map (stored_name folder) (drop (k + 1) files) ≡ old ++ map (stored_name folder) files
name_added folder files k old now new within is so =
    ap (λ (ns : List (List ℕ)). ns ++ map (stored_name folder) (drop (k + 1) files)) is
    ∙ append_assoc now (stored_name folder (get_or files k []) ∷ []) (map (stored_name folder) (drop (k + 1) files))
    ∙ sym (ap (λ (fs : List (List ℕ)). now ++ map (stored_name folder) fs) (drop_more files k [] within)) ∙ so

-- the names of stores with one more behind them
pub names_pushed : (file name : List ℕ) (folder text : List ℕ) (old new : List (List ℕ × List ℕ)) → name ≡ file
    → new ≡ old ++ (stored_name folder name, text) ∷ [] → names_in new ≡ names_in old ++ stored_name folder file ∷ []
names_pushed file name folder text old new same is =
    ap names_in is ∙ map-append (λ (s : List ℕ × List ℕ). s.0) old ((stored_name folder name, text) ∷ [])
    ∙ ap (λ (n : List ℕ). names_in old ++ stored_name folder n ∷ []) same

-- sources of which one is refused are refused
is_refused : (held : Names) (counts : Counts) (files : List (List ℕ)) (k left first : ℕ) (answer : Answer) → k < length files
    → refused_from held counts left (drop k files) ≡ refused_from held counts first files
    → first_reason (annotating_reasons counts left (held (get_or files k [])) (get_or files k [])) ≡ Some answer
    → refused_from held counts first files ≡ Some answer
is_refused held counts files k left first answer within so is =
    let behind = refused_from held counts (left - length (source_of held (get_or files k []))) (drop (k + 1) files) in
    sym so ∙ ap (refused_from held counts left) (drop_more files k [] within) ∙ ap (λ (o : Option Answer). or_later o behind) is

pub source_refused : (told : Option Names) (counts : Counts) (files : List (List ℕ)) (k left first : ℕ) (before now : FileFaults) (e : Ending)
    → k < length files
    → IfSome told (λ held. refused_from held counts left (drop k files) ≡ refused_from held counts first files)
    → Stops (annotating_promise counts left (get_or files k [])) told before now e → Stops (sources_promise counts first files) told before now e
source_refused told counts files k left first before now e within so =
    let there = Contains-get_or files k [] within in
    stops_weaker (annotating_promise counts left (get_or files k [])) (sources_promise counts first files) told before now e
    (λ other same. subst (Contains files) (sym same) there) (λ status line one. (get_or files k [], there, one))
    (if_told told _ _ (λ held same answer one. is_refused held counts files k left first answer within same one) so)

-- an annotated source, whose text stands behind the stores under its name
stored_one : (held : Names) (options : Options) (counts : Counts) (folder name : List ℕ) (left : ℕ) (text : List ℕ) (rest : ℕ)
    (old new : List (List ℕ × List ℕ))
    → IsAnnotated held options counts name left text rest → new ≡ old ++ (stored_name folder name, text) ∷ []
    → IsStored held options counts folder name left old new rest
stored_one held options counts folder name left text rest old new made is = record {
  sound = made.sound;
  stores_is = is ∙ ap (λ (t : List ℕ). old ++ (stored_name folder name, t) ∷ []) made.text_is;
  rest_is = made.rest_is;
}

pub stored_told : (told : Option Names) (options : Options) (counts : Counts) (folder file name : List ℕ) (left : ℕ) (text : List ℕ) (rest : ℕ)
    (old new : List (List ℕ × List ℕ))
    → name ≡ file → IfSome told (λ held. IsAnnotated held options counts name left text rest) → new ≡ old ++ (stored_name folder name, text) ∷ []
    → IfSome told (λ held. IsStored held options counts folder file left old new rest)
stored_told told options counts folder file name left text rest old new same made is =
    subst (λ (n : List ℕ). IfSome told (λ held. IsStored held options counts folder n left old new rest)) same
    (if_told told _ _ (λ held one. stored_one held options counts folder name left text rest old new one is) made)
