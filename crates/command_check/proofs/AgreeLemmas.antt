-- A check has one answer at most, but for the place where tokens are outside the grammar.
use Rattle.std.proofs.Common.{◌≡◌, ℕ, ◌+◌, ◌<◌, ◌≤◌, suc, List, [], ◌∷◌, ◌++◌, length, get_or, map, refl, sym, ◌∙◌, ap, subst, Option, None, Some, Result, Ok}
use Rattle.std.proofs.Common.{Err, arith, add-zero}
use Rattle.std.specs.Prelude.{sum}
use Rattle.std.proofs.Math.Seq.{get_or-append_seam}
use Rattle.cov_port.specs.Files.{Names}
use Rattle.cov_types.specs.declared.limit.LimitName.TheVariants.{DesignBytes}
use Rattle.vlog_tokens.specs.declared.token_list.TokenList.{TokenList}
use Rattle.vlog_lexer.specs.Reading.{IsReadingOf}
use Rattle.vlog_lexer.specs.declared.fault.LexFault.{LexFault}
use Rattle.vlog_tree.specs.declared.module.SourceFile.{SourceFile}
use Rattle.vlog_grammar.specs.Modules.{SpellsFile}
use Rattle.command_ending.specs.Answer.{Answer, absent, over_limit}
use Rattle.command_check.specs.Agree.{Agree, same, syntax_place}
use Rattle.command_check.specs.CheckAnswer.{AreDesigns, AreRead, IsCheckAnswer, too_many, stopped, refused_file, all_accepted, IsDesign, RefusesDesign, tokens}
use Rattle.command_check.specs.CheckAnswer.{grammar, RefusesOne, StopsReading, lacking, too_long, accepted, token_refusal}
use Rattle.command_ending.specs.declared.status.Status.TheVariants.{Done}
use Rattle.command_ending.proofs.CutLemmas.{Cuts, at_one, sooner, later, cons_same, cuts}
use Rattle.command_check.proofs.DesignLemmas.{sum_around, sum_more}

-- a text has one reading at most
abbrev pub OneReading : Type 0
OneReading = (number : ℕ) (text : List ℕ) (a b : Result TokenList LexFault) → IsReadingOf number text a → IsReadingOf number text b → a ≡ b

-- tokens spell one file at most
abbrev pub OneFile : Type 0
OneFile = (found : TokenList) (a b : SourceFile) → SpellsFile found a → SpellsFile found b → a ≡ b

agree : (a b : Answer) → a ≡ b → Agree a b
agree a b is = subst (λ (x : Answer). Agree a x) is same

somes : (xs ys : List (List ℕ)) → map Some xs ≡ map Some ys → xs ≡ ys
somes [] [] is = refl
somes [] (b ∷ ys) is = absurd (cc)
somes (a ∷ xs) [] is = absurd (cc)
somes (a ∷ xs) (b ∷ ys) is = let first : a ≡ b = cc in let rest : map Some xs ≡ map Some ys = cc in cons_same a b xs ys first (somes xs ys rest)

-- names hold one list of texts
one_text : (held : Names) (names xs ys : List (List ℕ)) → AreRead held names xs → AreRead held names ys → xs ≡ ys
one_text held names xs ys a b = somes xs ys (sym a.hold ∙ b.hold)

-- the texts around that of one name
record Around (held : Names) (before : List (List ℕ)) (name : List ℕ) (texts : List (List ℕ)) : Type 0 where
  pub firsts : List (List ℕ)
  pub text : List ℕ
  pub rest : List (List ℕ)
  pub split : texts ≡ firsts ++ text ∷ rest
  pub hold : map held before ≡ map Some firsts
  pub here : held name ≡ Some text

around : (held : Names) (before : List (List ℕ)) (name : List ℕ) (after texts : List (List ℕ)) → map held (before ++ name ∷ after) ≡ map Some texts
    → Around held before name texts
around held [] name after [] is = absurd (cc)
around held [] name after (t ∷ texts) is = let here : held name ≡ Some t = cc in
    record { firsts = []; text = t; rest = texts; split = refl; hold = refl; here = here }
around held (b ∷ before) name after [] is = absurd (cc)
around held (b ∷ before) name after (t ∷ texts) is =
    let first : held b ≡ Some t = cc in
    let rest : map held (before ++ name ∷ after) ≡ map Some texts = cc in
    let found = around held before name after texts rest in
    record {
      firsts = t ∷ found.firsts;
      text = found.text;
      rest = found.rest;
      split = cons_same t t texts (found.firsts ++ found.text ∷ found.rest) refl found.split;
      hold = cons_same (held b) (Some t) (map held before) (map Some found.firsts) first found.hold;
      here = found.here;
    }

text_around : (held : Names) (names before after texts : List (List ℕ)) (name : List ℕ) → names ≡ before ++ name ∷ after → AreRead held names texts
    → Around held before name texts
text_around held names before after texts name split read = around held before name after texts (ap (map held) (sym split) ∙ read.hold)

none_some : (o : Option (List ℕ)) (text : List ℕ) → o ≡ None → o ≡ Some text → ⊥
none_some o text none some = absurd (cc)

some_same : (o : Option (List ℕ)) (a b : List ℕ) → o ≡ Some a → o ≡ Some b → a ≡ b
some_same o a b one two = cc

-- names that were read are none that stop the reading
stops_unread : (held : Names) (names texts : List (List ℕ)) (answer : Answer) → StopsReading held names answer → AreRead held names texts → ⊥
stops_unread held names texts answer (lacking before after done name split read none) all =
    let found = text_around held names before after texts name split all in none_some (held name) found.text none found.here
stops_unread held names texts answer (too_long before after done name text split read here long) all =
    let found = text_around held names before after texts name split all in
    let firsts = ap (λ (ts : List (List ℕ)). sum (map length ts)) (somes found.firsts done (sym found.hold ∙ read.hold)) in
    let one = ap length (some_same (held name) found.text text found.here here) in
    let whole = ap (λ (ts : List (List ℕ)). sum (map length ts)) found.split ∙ sum_around length found.firsts found.text found.rest in
    let more = sum_more length done text in
    let few = all.few in
    absurd (omega arith)

-- why reading stops at a name
data StopsAt (held : Names) (done : List (List ℕ)) (name : List ℕ) : Answer → Type 0 where
  lacks : held name ≡ None → StopsAt held done name (absent name)
  overfull : (text : List ℕ) → held name ≡ Some text → 4194304 < sum (map length (done ++ text ∷ [])) → StopsAt held done name (over_limit DesignBytes)

record Stop (held : Names) (names : List (List ℕ)) (answer : Answer) : Type 0 where
  pub before : List (List ℕ)
  pub name : List ℕ
  pub after : List (List ℕ)
  pub done : List (List ℕ)
  pub split : names ≡ before ++ name ∷ after
  pub read : AreRead held before done
  pub why : StopsAt held done name answer

stop_of : (held : Names) (names : List (List ℕ)) (answer : Answer) → StopsReading held names answer → Stop held names answer
stop_of held names answer (lacking before after done name split read none) =
    record { before = before; name = name; after = after; done = done; split = split; read = read; why = lacks none }
stop_of held names answer (too_long before after done name text split read here long) =
    record { before = before; name = name; after = after; done = done; split = split; read = read; why = overfull text here long }

stops_in : (held : Names) (names before done after : List (List ℕ)) (name : List ℕ) (answer : Answer) → names ≡ before ++ name ∷ after
    → AreRead held before done → StopsAt held done name answer
    → StopsReading held names answer
stops_in held names before done after name answer split read (lacks none) = lacking before after done name split read none
stops_in held names before done after name answer split read (overfull text here long) = too_long before after done name text split read here long

stops_alike : (held : Names) (done_a done_b : List (List ℕ)) (m n : List ℕ) (a b : Answer) → m ≡ n → StopsAt held done_a m a → StopsAt held done_b n b → a ≡ b
stops_alike held done_a done_b m n a b one (lacks none) (lacks nothing) = ap absent one
stops_alike held done_a done_b m n a b one (lacks none) (overfull text here long) = absurd (none_some (held m) text none (ap held one ∙ here))
stops_alike held done_a done_b m n a b one (overfull text here long) (lacks none) = absurd (none_some (held n) text none (ap held (sym one) ∙ here))
stops_alike held done_a done_b m n a b one (overfull text here long) (overfull t there more) = refl

-- reading stops with one answer
stops_once : (held : Names) (names : List (List ℕ)) (a b : Answer) → Stop held names a → Stop held names b → a ≡ b
stops_once held names a b one two = elim (cuts one.before one.name one.after two.before two.name two.after (sym one.split ∙ two.split)) [
  | at_one is name ↦ stops_alike held one.done two.done one.name two.name a b name one.why two.why
  | sooner more is ↦ absurd (stops_unread held two.before two.done a (stops_in held two.before one.before one.done more one.name a is one.read one.why)
      two.read)
  | later more is ↦ absurd (stops_unread held one.before one.done b (stops_in held one.before two.before two.done more two.name b is two.read two.why) one.read)
]

-- what reading gives
abbrev gives : TokenList → Result TokenList LexFault
gives found = Ok found

abbrev fails : LexFault → Result TokenList LexFault
fails fault = Err fault

ok_same : (a b : TokenList) → gives a ≡ gives b → a ≡ b
ok_same a b is = cc

ok_err : (a : TokenList) (b : LexFault) → gives a ≡ fails b → ⊥
ok_err a b is = absurd (cc)

err_same : (a b : LexFault) → fails a ≡ fails b → a ≡ b
err_same a b is = cc

-- a text is one design
one_design : OneReading → OneFile → (number : ℕ) (text : List ℕ) (a b : SourceFile) → IsDesign number text a → IsDesign number text b → a ≡ b
one_design reading file number text a b one two =
    let found = ok_same one.tokens two.tokens (reading number text (Ok one.tokens) (Ok two.tokens) one.reading two.reading) in
    file two.tokens a b (subst (λ (t : TokenList). SpellsFile t a) found one.tree) two.tree

-- a design is not refused
design_refused : OneReading → (number : ℕ) (name text : List ℕ) (file : SourceFile) (answer : Answer) → IsDesign number text file
    → RefusesDesign number name text answer → ⊥
design_refused reading number name text file answer is (tokens fault read) = ok_err is.tokens fault
    (reading number text (Ok is.tokens) (Err fault) is.reading read)
design_refused reading number name text file answer is (grammar found place read outside there) =
    outside file (subst (λ (t : TokenList). SpellsFile t file) (ok_same is.tokens found (reading number text (Ok is.tokens) (Ok found) is.reading read))
    is.tree)

-- a design is refused with one answer, but for the place of `Syntax`
refusals_agree : OneReading → (number : ℕ) (name text : List ℕ) (a b : Answer) → RefusesDesign number name text a → RefusesDesign number name text b → Agree a b
refusals_agree reading number name text a b (tokens fault read) (tokens found again) =
    agree _ _ (ap (token_refusal name) (err_same fault found (reading number text (Err fault) (Err found) read again)))
refusals_agree reading number name text a b (tokens fault read) (grammar found place again outside there) = absurd
    (ok_err found fault (reading number text (Ok found) (Err fault) again read))
refusals_agree reading number name text a b (grammar found place read outside there) (tokens fault again) = absurd
    (ok_err found fault (reading number text (Ok found) (Err fault) read again))
refusals_agree reading number name text a b (grammar found place read outside there) (grammar other q again without here) = syntax_place name place q

-- texts are one list of designs
one_list : OneReading → OneFile → (number : ℕ) (texts : List (List ℕ)) (xs ys : List SourceFile) → AreDesigns number texts xs → AreDesigns number texts ys
    → xs ≡ ys
one_list reading file number [] [] [] one two = refl
one_list reading file number [] [] (b ∷ ys) one two = absurd two
one_list reading file number [] (a ∷ xs) ys one two = absurd one
one_list reading file number (t ∷ texts) [] ys one two = absurd one
one_list reading file number (t ∷ texts) (a ∷ xs) [] one two = absurd two
one_list reading file number (t ∷ texts) (a ∷ xs) (b ∷ ys) one two =
    cons_same a b xs ys (one_design reading file number t a b one.0 two.0) (one_list reading file (number + 1) texts xs ys one.1 two.1)

-- each of the texts is a design
design_at : (number : ℕ) (before : List (List ℕ)) (text : List ℕ) (after : List (List ℕ)) (files : List SourceFile)
    → AreDesigns number (before ++ text ∷ after) files
    → (file : SourceFile) × IsDesign (number + length before) text file
design_at number [] text after [] all = absurd all
design_at number [] text after (f ∷ files) all = (f, subst (λ (n : ℕ). IsDesign n text f) (sym (add-zero number)) all.0)
design_at number (b ∷ before) text after [] all = absurd all
design_at number (b ∷ before) text after (f ∷ files) all =
    let found = design_at (number + 1) before text after files all.1 in
    let number_is : number + 1 + length before ≡ number + suc (length before) = omega arith in
    (found.0, subst (λ (n : ℕ). IsDesign n text found.0) number_is found.1)

-- texts among which one is refused are not all designs
refused_within : OneReading → (names texts whole more : List (List ℕ)) (files : List SourceFile) (answer : Answer) (r : RefusesOne names texts answer)
    → whole ≡ r.texts_before ++ r.text ∷ more → AreDesigns 0 whole files → ⊥
refused_within reading names texts whole more files answer r split all =
    let found = design_at 0 r.texts_before r.text more files (subst (λ (ts : List (List ℕ)). AreDesigns 0 ts files) split all) in
    let number : 0 + length r.texts_before ≡ length r.names_before = omega (arith, r.same_number) in
    design_refused reading (length r.names_before) r.name r.text found.0 answer (subst (λ (n : ℕ). IsDesign n r.text found.0) number found.1) r.refusal

name_at : (names before after : List (List ℕ)) (name : List ℕ) → names ≡ before ++ name ∷ after → get_or names (length before) [] ≡ name
name_at names before after name split = ap (λ (ns : List (List ℕ)). get_or ns (length before) []) split ∙ get_or-append_seam before name after []

-- one of the files is the first that is refused
firsts_agree : OneReading → (names texts : List (List ℕ)) (a b : Answer) → RefusesOne names texts a → RefusesOne names texts b → Agree a b
firsts_agree reading names texts a b one two =
    elim (cuts one.texts_before one.text one.texts_after two.texts_before two.text two.texts_after (sym one.texts_split ∙ two.texts_split)) [
      | at_one is text ↦
          let number = one.same_number ∙ ap length is ∙ sym two.same_number in
          let name = sym (name_at names one.names_before one.names_after one.name one.names_split)
          ∙ ap (λ (n : ℕ). get_or names n []) number ∙ name_at names two.names_before two.names_after two.name two.names_split in
          refusals_agree reading (length two.names_before) two.name two.text a b
          (subst (λ (n : ℕ). RefusesDesign n two.name two.text a) number
          (subst (λ (n : List ℕ). RefusesDesign (length one.names_before) n two.text a) name
          (subst (λ (t : List ℕ). RefusesDesign (length one.names_before) one.name t a) text one.refusal))) two.refusal
      | sooner more is ↦ absurd (refused_within reading names texts two.texts_before more two.files a one is two.designs)
      | later more is ↦ absurd (refused_within reading names texts one.texts_before more one.files b two is one.designs)
    ]

pub checks_agree : OneReading → OneFile → (held : Names) (names : List (List ℕ)) (a b : Answer) → IsCheckAnswer held names a → IsCheckAnswer held names b
    → Agree a b
checks_agree reading file held names a b (too_many many) (too_many more) = same
checks_agree reading file held names a b (too_many many) (stopped answer few stops) = absurd (omega arith)
checks_agree reading file held names a b (too_many many) (refused_file texts answer few read refusal) = absurd (omega arith)
checks_agree reading file held names a b (too_many many) (all_accepted texts files few read designs) = absurd (omega arith)
checks_agree reading file held names a b (stopped answer few stops) (too_many many) = absurd (omega arith)
checks_agree reading file held names a b (stopped answer few stops) (stopped other fewer ends) =
    agree answer other (stops_once held names answer other (stop_of held names answer stops) (stop_of held names other ends))
checks_agree reading file held names a b (stopped answer few stops) (refused_file texts other fewer read refusal) = absurd
    (stops_unread held names texts answer stops read)
checks_agree reading file held names a b (stopped answer few stops) (all_accepted texts files fewer read designs) = absurd
    (stops_unread held names texts answer stops read)
checks_agree reading file held names a b (refused_file texts answer few read refusal) (too_many many) = absurd (omega arith)
checks_agree reading file held names a b (refused_file texts answer few read refusal) (stopped other fewer stops) = absurd
    (stops_unread held names texts other stops read)
checks_agree reading file held names a b (refused_file texts answer few read refusal) (refused_file others other fewer again refused_too) =
    firsts_agree reading names others answer other
    (subst (λ (ts : List (List ℕ)). RefusesOne names ts answer) (one_text held names texts others read again) refusal) refused_too
checks_agree reading file held names a b (refused_file texts answer few read refusal) (all_accepted others files fewer again designs) =
    absurd (refused_within reading names texts others refusal.texts_after files answer refusal (one_text held names others texts again read
    ∙ refusal.texts_split) designs)
checks_agree reading file held names a b (all_accepted texts files few read designs) (too_many many) = absurd (omega arith)
checks_agree reading file held names a b (all_accepted texts files few read designs) (stopped other fewer stops) = absurd
    (stops_unread held names texts other stops read)
checks_agree reading file held names a b (all_accepted texts files few read designs) (refused_file others other fewer again refusal) =
    absurd (refused_within reading names others texts refusal.texts_after files other refusal (one_text held names texts others read again
    ∙ refusal.texts_split) designs)
checks_agree reading file held names a b (all_accepted texts files few read designs) (all_accepted others more fewer again all) =
    agree _ _ (ap accepted (one_list reading file 0 others files more
    (subst (λ (ts : List (List ℕ)). AreDesigns 0 ts files) (one_text held names texts others read again) designs) all))

-- an answer that agrees with one that is done is the same
agree_done : (a b : Answer) → Agree a b → b.status ≡ Done → a ≡ b
agree_done a b same over = refl
agree_done a b (syntax_place name p q) over = absurd (cc)

-- where all files are held and are designs, the number of modules is printed
pub done_unless_wrong : OneReading → OneFile → (held : Names) (names texts : List (List ℕ)) (files : List SourceFile) (answer : Answer) → length names ≤ 4096
    → AreRead held names texts → AreDesigns 0 texts files → IsCheckAnswer held names answer → answer ≡ accepted files
done_unless_wrong reading file held names texts files answer few read designs is =
    agree_done answer (accepted files) (checks_agree reading file held names answer (accepted files) is (all_accepted texts files few read designs)) refl
