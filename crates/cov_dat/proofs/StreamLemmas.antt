-- A data file read line by line.
use Rattle.std.proofs.Common.{
  ◌≡◌,
  ℕ,
  ◌+◌,
  ◌-◌,
  ◌≤◌,
  Bool,
  true,
  false,
  Option,
  None,
  Some,
  Result,
  Ok,
  Err,
  IfSome,
  IfOk,
  IfErr,
  OnOk,
  List,
  [],
  ◌∷◌,
  ◌++◌,
  length,
  map,
  take,
  refl,
  sym,
  ◌∙◌,
  ap,
  arith,
  length-append,
  append_assoc,
}
use Rattle.std.specs.Option.{option_map}
use Rattle.std.proofs.lemmas.Bool.{le-ltb}
use Rattle.std.proofs.lemmas.List.{map-append}
use Rattle.std.proofs.Math.Seq.{take-append_seam}
use Rattle.cov_port.specs.Cutting.{Cutter, Gives, GivesTold, KeepsLeft, begins_long, bytes_given, left_of, lines_given}
use Rattle.cov_port.specs.Lines.{Line, bytes_of, is_long, lines_of}
use Rattle.cov_port.specs.Sums.{total}
use Rattle.cov_port.specs.declared.line_step.CutFault.{CutFault}
use Rattle.cov_port.specs.declared.line_step.LineStep.{LineStep}
use Rattle.cov_dat.specs.DataLine.{Says, says_within}
use Rattle.cov_dat.specs.Reading.{all_say, nothing_read, only_fault, reading_from, reading_of}
use Rattle.cov_dat.specs.Streaming.{FaultOf, FollowsFault, IsFrugal, ReaderState, StandsIn, bytes_before_line, line_of}
use Rattle.cov_dat.specs.Taking.{Comes, ComesTold, IsNext, IsStory, NamesLine, reading_here}
use Rattle.cov_dat.specs.declared.fault.DataFault.{DataFault}
use Rattle.cov_dat.specs.declared.key_place.LineStory.{LineStory}
use Rattle.cov_dat.specs.declared.key_place.LineStory.TheVariants as story

-- what is read of a text is what its first line says, and what is read of the rest
first_said : (n before : ℕ) (left rest : List ℕ) (l : Line) → lines_of left ≡ l ∷ lines_of rest
    → reading_from n before left ≡ reading_of (says_within (before + bytes_of l) n l ∷ all_say (n + 1) (before + bytes_of l) (lines_of rest))
first_said n before left rest l lines = ap (λ (ls : List Line). reading_of (all_say n before ls)) lines

said_story : (comes : LineStory) (key : List ℕ) (count : ℕ) (said : Says) (more : List Says) → IsStory comes key count said
    → Comes comes key count (reading_of (said ∷ more)) (reading_of more)
said_story story.Record key count said more is = rw (← is.1) refl
said_story story.Nothing key count said more is = rw (← is.2) refl
said_story story.End key count said more is = absurd is

-- one line that is no fault
pub comes_line : (step : LineStep) (ended : Bool) (comes : LineStory) (line : List ℕ) (key : List ℕ) (count number bytes : ℕ) (before after : Option (List ℕ))
    → GivesTold step line before after → lines_given step line ≡ (line, ended) ∷ []
    → IsStory comes key count (says_within (bytes + bytes_of (line, ended)) number (line, ended))
    → ComesTold comes key count (option_map (reading_from number bytes) before)
    (option_map (reading_from (number + 1) (bytes + bytes_of (line, ended))) after)
comes_line step ended comes line key count number bytes None after gives one said = tt
comes_line step ended comes line key count number bytes (Some left) after gives one said =
    let rest = gives.0 in
    let lines : lines_of left ≡ (line, ended) ∷ lines_of rest = gives.2.lines ∙ ap (λ (ls : List Line). ls ++ lines_of rest) one in
    let read = first_said number bytes left rest (line, ended) lines in (
      reading_from (number + 1) (bytes + bytes_of (line, ended)) rest,
      ap (option_map (reading_from (number + 1) (bytes + bytes_of (line, ended)))) gives.1,
      rw read (said_story comes key count (says_within (bytes + bytes_of (line, ended)) number (line, ended))
          (all_say (number + 1) (bytes + bytes_of (line, ended)) (lines_of rest)) said),
    )

-- one line that is refused
pub refused_line : (step : LineStep) (ended : Bool) (line : List ℕ) (flaw : DataFault) (number bytes : ℕ) (before after : Option (List ℕ))
    → GivesTold step line before after → lines_given step line ≡ (line, ended) ∷ []
    → Err flaw ≡ says_within (bytes + bytes_of (line, ended)) number (line, ended)
    → IfSome (option_map (reading_from number bytes) before) (λ was. was ≡ only_fault flaw)
refused_line step ended line flaw number bytes None after gives one said = tt
refused_line step ended line flaw number bytes (Some left) after gives one said =
    let rest = gives.0 in
    let lines : lines_of left ≡ (line, ended) ∷ lines_of rest = gives.2.lines ∙ ap (λ (ls : List Line). ls ++ lines_of rest) one in
    first_said number bytes left rest (line, ended) lines ∙ rw (← said) refl

-- a line that is too long
long_first : (n before : ℕ) (flaw : DataFault) (left : List ℕ) (ls : List Line) → lines_of left ≡ ls → begins_long ls ≡ true
    → ((l : Line) → is_long l ≡ true → says_within (before + bytes_of l) n l ≡ Err flaw) → reading_from n before left ≡ only_fault flaw
long_first n before flaw left [] lines long says = absurd (cc)
long_first n before flaw left (l ∷ ls) lines long says = ap (λ (ms : List Line). reading_of (all_say n before ms)) lines ∙ rw (says l long) refl

pub refused_long : (flaw : DataFault) (number bytes : ℕ) (before : Option (List ℕ)) → IfSome before (λ left. begins_long (lines_of left) ≡ true)
    → ((l : Line) → is_long l ≡ true → says_within (bytes + bytes_of l) number l ≡ Err flaw)
    → IfSome (option_map (reading_from number bytes) before) (λ was. was ≡ only_fault flaw)
refused_long flaw number bytes None long says = tt
refused_long flaw number bytes (Some left) long says = long_first number bytes flaw left (lines_of left) refl long says

-- the end of the file
pub comes_end : (number bytes : ℕ) (key : List ℕ) (count : ℕ) (before after : Option (List ℕ)) (step : LineStep) (line : List ℕ)
    → GivesTold step line before after → bytes_given step line ≡ [] → ((rest : List ℕ) → Gives step line rest rest → rest ≡ [])
    → reading_from number bytes [] ≡ nothing_read
    → ComesTold story.End key count (option_map (reading_from number bytes) before) (option_map (reading_from number bytes) after)
comes_end number bytes key count None after step line gives none empty read = tt
comes_end number bytes key count (Some left) after step line gives none empty read =
    let rest = gives.0 in
    let same : left ≡ rest = gives.2.bytes ∙ ap (λ (xs : List ℕ). xs ++ rest) none in
    let nothing : rest ≡ [] = empty rest (rw same at gives.2) in (
      reading_from number bytes rest,
      ap (option_map (reading_from number bytes)) gives.1,
      (rw (same, nothing) read, rw nothing read),
    )

-- the sum of two lists
total-append : (ns ms : List ℕ) → total (ns ++ ms) ≡ total ns + total ms
total-append [] ms = omega arith
total-append (n ∷ ns) ms = omega (arith, total-append ns ms)

total_push : (ls : List Line) (l : Line) → total (map bytes_of (ls ++ l ∷ [])) ≡ total (map bytes_of ls) + bytes_of l
total_push ls l = ap total (map-append bytes_of ls (l ∷ [])) ∙ total-append (map bytes_of ls) (bytes_of l ∷ []) ∙ omega arith

-- one line further
pub stands_line : (text : List ℕ) (old new : ReaderState) (step : LineStep) (ended : Bool) (line : List ℕ) (rest_old rest_new : Option (List ℕ))
    → GivesTold step line (left_of old.cutter rest_old) (left_of new.cutter rest_new) → lines_given step line ≡ (line, ended) ∷ []
    → length (bytes_given step line) ≡ bytes_of (line, ended)
    → new.number ≡ old.number + 1 → new.bytes ≡ old.bytes + bytes_of (line, ended) → new.fault ≡ old.fault
    → StandsIn text old rest_old → StandsIn text new rest_new
stands_line text old new step ended line rest_old rest_new gives one long number bytes fault s =
    let told : (rest : List ℕ) × (left_of new.cutter rest_new ≡ Some rest) × Gives step line s.left rest = rw s.told at gives in
    let rest = told.0 in
    let lines : lines_of s.left ≡ (line, ended) ∷ lines_of rest = told.2.lines ∙ ap (λ (ls : List Line). ls ++ lines_of rest) one in
    record {
      front = s.front ++ bytes_given step line;
      before = s.before ++ (line, ended) ∷ [];
      left = rest;
      told = told.1;
      split = s.split ∙ ap (λ (xs : List ℕ). s.front ++ xs) told.2.bytes ∙ sym (append_assoc s.front (bytes_given step line) rest);
      lines = s.lines ∙ ap (λ (ls : List Line). s.before ++ ls) lines ∙ sym (append_assoc s.before ((line, ended) ∷ []) (lines_of rest));
      number = omega (arith, number, s.number, length-append s.before ((line, ended) ∷ []));
      bytes = bytes ∙ ap (λ (n : ℕ). n + bytes_of (line, ended)) s.bytes ∙ sym (total_push s.before (line, ended));
      counted = omega (arith, length-append s.front (bytes_given step line), long, bytes, s.counted);
      no_fault = fault ∙ s.no_fault;
    }

-- nothing is taken off at the end
pub stands_end : (text : List ℕ) (old new : ReaderState) (step : LineStep) (line : List ℕ) (rest_old rest_new : Option (List ℕ))
    → GivesTold step line (left_of old.cutter rest_old) (left_of new.cutter rest_new) → bytes_given step line ≡ []
    → new.number ≡ old.number → new.bytes ≡ old.bytes → new.fault ≡ old.fault → StandsIn text old rest_old → StandsIn text new rest_new
stands_end text old new step line rest_old rest_new gives none number bytes fault s =
    let told : (rest : List ℕ) × (left_of new.cutter rest_new ≡ Some rest) × Gives step line s.left rest = rw s.told at gives in
    let same : s.left ≡ told.0 = told.2.bytes ∙ ap (λ (xs : List ℕ). xs ++ told.0) none in
    record {
      front = s.front;
      before = s.before;
      left = told.0;
      told = told.1;
      split = s.split ∙ ap (λ (xs : List ℕ). s.front ++ xs) same;
      lines = s.lines ∙ ap (λ (xs : List ℕ). s.before ++ lines_of xs) same;
      number = number ∙ s.number;
      bytes = bytes ∙ s.bytes;
      counted = s.counted ∙ sym bytes;
      no_fault = fault ∙ s.no_fault;
    }

-- what was taken, where these bytes were given since and others are ahead
frugal : (text : List ℕ) (old : ReaderState) (rest_old : Option (List ℕ)) (given left : List ℕ) (cutter : Cutter) (rest : Option (List ℕ))
    → (s : StandsIn text old rest_old) → s.left ≡ given ++ left → left_of cutter rest ≡ Some left → length given + length cutter.ahead ≤ 65536
    → IsFrugal text rest old.number
frugal text old rest_old given left cutter None s split told few = absurd (cc)
frugal text old rest_old given left cutter (Some rest) s split told few =
    let whole : cutter.ahead ++ rest ≡ left = cc in
    let at : old.number - 1 ≡ length s.before = omega (arith, s.number) in
    let lines : take (old.number - 1) (lines_of text) ≡ s.before =
    rw (at, s.lines) (take-append_seam s.before (lines_of s.left)) in
    let counted : bytes_before_line old.number text ≡ length s.front = ap (λ (ls : List Line). total (map bytes_of ls)) lines ∙ sym s.bytes ∙ sym s.counted in
    record {
      taken = s.front ++ (given ++ cutter.ahead);
      left = rest;
      told = refl;
      split = s.split ∙ ap (λ (xs : List ℕ). s.front ++ xs) (split ∙ ap (λ (xs : List ℕ). given ++ xs) (sym whole))
          ∙ ap (λ (xs : List ℕ). s.front ++ xs) (sym (append_assoc given cutter.ahead rest)) ∙ sym (append_assoc s.front (given ++ cutter.ahead) rest);
      few = omega (arith, length-append s.front (given ++ cutter.ahead), length-append given cutter.ahead, counted, few);
    }

-- a line that is refused was given by the cutter
pub frugal_line : (text : List ℕ) (old : ReaderState) (step : LineStep) (line : List ℕ) (cutter : Cutter) (rest_old rest_new : Option (List ℕ)) (n : ℕ)
    → GivesTold step line (left_of old.cutter rest_old) (left_of cutter rest_new) → length (bytes_given step line) + length cutter.ahead ≤ 65536
    → n ≡ old.number → StandsIn text old rest_old → IsFrugal text rest_new n
frugal_line text old step line cutter rest_old rest_new n gives few is s =
    let told : (rest : List ℕ) × (left_of cutter rest_new ≡ Some rest) × Gives step line s.left rest = rw s.told at gives in
    rw is (frugal text old rest_old (bytes_given step line) told.0 cutter rest_new s told.2.bytes told.1 few)

-- a line that is too long stands in the buffer
pub frugal_long : (text : List ℕ) (old : ReaderState) (cutter : Cutter) (rest_old rest_new : Option (List ℕ)) (n : ℕ)
    → KeepsLeft (left_of old.cutter rest_old) (left_of cutter rest_new) → length cutter.ahead ≤ 65536
    → n ≡ old.number → StandsIn text old rest_old → IsFrugal text rest_new n
frugal_long text old cutter rest_old rest_new n kept few is s =
    let told : left_of cutter rest_new ≡ Some s.left = rw s.told at kept in
    rw is (frugal text old rest_old [] s.left cutter rest_new s refl told (omega arith))

-- what the line that was given comes to
pub tell_comes : (result : Result LineStory DataFault) (step : LineStep) (ended : Bool) (mid old new : ReaderState) (rest_old rest_new : Option (List ℕ))
    → GivesTold step mid.cutter.line (left_of old.cutter rest_old) (left_of mid.cutter rest_new)
    → lines_given step mid.cutter.line ≡ (mid.cutter.line, ended) ∷ [] → mid.number ≡ old.number → mid.bytes ≡ old.bytes
    → IfOk result (λ s. IsStory s new.key new.count (says_within (mid.bytes + bytes_of (mid.cutter.line, ended)) mid.number (mid.cutter.line, ended)))
    → OnOk result (IsNext (bytes_of (mid.cutter.line, ended)) mid new)
    → IfOk result (λ s. ComesTold s new.key new.count (reading_here old rest_old) (reading_here new rest_new))
tell_comes (Err flaw) step ended mid old new rest_old rest_new gives one number bytes is next = tt
tell_comes (Ok comes) step ended mid old new rest_old rest_new gives one number bytes is next =
    rw (next.cutter, next.number, next.bytes_more, ← number, ← bytes)
    (comes_line step ended comes mid.cutter.line new.key new.count mid.number mid.bytes (left_of old.cutter rest_old) (left_of mid.cutter rest_new) gives one
    is)

pub tell_fault : (result : Result LineStory DataFault) (step : LineStep) (ended : Bool) (mid old : ReaderState) (rest_old rest_new : Option (List ℕ))
    → GivesTold step mid.cutter.line (left_of old.cutter rest_old) (left_of mid.cutter rest_new)
    → lines_given step mid.cutter.line ≡ (mid.cutter.line, ended) ∷ [] → mid.number ≡ old.number → mid.bytes ≡ old.bytes
    → IfErr result (λ flaw. Err flaw ≡ says_within (mid.bytes + bytes_of (mid.cutter.line, ended)) mid.number (mid.cutter.line, ended))
    → IfErr result (λ flaw. FaultOf (reading_here old rest_old) flaw)
tell_fault (Ok comes) step ended mid old rest_old rest_new gives one number bytes is = tt
tell_fault (Err flaw) step ended mid old rest_old rest_new gives one number bytes is = λ other.
    rw (← number, ← bytes)
    (refused_line step ended mid.cutter.line flaw mid.number mid.bytes (left_of old.cutter rest_old) (left_of mid.cutter rest_new) gives one is)

pub tell_stands : (result : Result LineStory DataFault) (step : LineStep) (ended : Bool) (mid old new : ReaderState) (rest_old rest_new : Option (List ℕ))
    → GivesTold step mid.cutter.line (left_of old.cutter rest_old) (left_of mid.cutter rest_new)
    → lines_given step mid.cutter.line ≡ (mid.cutter.line, ended) ∷ [] → length (bytes_given step mid.cutter.line) ≡ bytes_of (mid.cutter.line, ended)
    → mid.number ≡ old.number → mid.bytes ≡ old.bytes → mid.fault ≡ old.fault
    → OnOk result (IsNext (bytes_of (mid.cutter.line, ended)) mid new)
    → OnOk result ((text : List ℕ) → StandsIn text old rest_old → StandsIn text new rest_new)
tell_stands (Err flaw) step ended mid old new rest_old rest_new gives one long number bytes fault next = tt
tell_stands (Ok comes) step ended mid old new rest_old rest_new gives one long number bytes fault next = λ text s.
    stands_line text old new step ended mid.cutter.line rest_old rest_new (rw next.cutter gives) one long
    (next.number ∙ ap (λ (n : ℕ). n + 1) number) (next.bytes_more ∙ ap (λ (n : ℕ). n + bytes_of (mid.cutter.line, ended)) bytes) (next.fault ∙ fault) s

names_frugal : (number : Option ℕ) (text : List ℕ) (old : ReaderState) (step : LineStep) (line : List ℕ) (cutter : Cutter) (rest_old rest_new : Option (List ℕ))
    → GivesTold step line (left_of old.cutter rest_old) (left_of cutter rest_new) → length (bytes_given step line) + length cutter.ahead ≤ 65536
    → IfSome number (λ n. n ≡ old.number) → StandsIn text old rest_old → IfSome number (λ n. IsFrugal text rest_new n)
names_frugal None text old step line cutter rest_old rest_new gives few names s = tt
names_frugal (Some n) text old step line cutter rest_old rest_new gives few names s = frugal_line text old step line cutter rest_old rest_new n gives few
    names s

-- how much was taken where the line that was given is refused, or the end of a file
pub tell_frugal : (result : Result LineStory DataFault) (step : LineStep) (old : ReaderState) (cutter : Cutter) (rest_old rest_new : Option (List ℕ))
    → GivesTold step cutter.line (left_of old.cutter rest_old) (left_of cutter rest_new) → length (bytes_given step cutter.line) + length cutter.ahead ≤ 65536
    → IfErr result (λ flaw. NamesLine flaw old.number)
    → IfErr result (λ flaw. (text : List ℕ) → StandsIn text old rest_old → IfSome (line_of flaw) (λ n. IsFrugal text rest_new n))
tell_frugal (Ok comes) step old cutter rest_old rest_new gives few names = tt
tell_frugal (Err flaw) step old cutter rest_old rest_new gives few names = λ text s.
    names_frugal (line_of flaw) text old step cutter.line cutter rest_old rest_new gives few names s

-- how much was taken where a line is too long
pub long_frugal : (number : Option ℕ) (text : List ℕ) (old : ReaderState) (cutter : Cutter) (rest_old rest_new : Option (List ℕ))
    → KeepsLeft (left_of old.cutter rest_old) (left_of cutter rest_new) → length cutter.ahead ≤ 65536
    → IfSome number (λ n. n ≡ old.number) → StandsIn text old rest_old → IfSome number (λ n. IsFrugal text rest_new n)
long_frugal None text old cutter rest_old rest_new kept few names s = tt
long_frugal (Some n) text old cutter rest_old rest_new kept few names s = frugal_long text old cutter rest_old rest_new n kept few names s

-- without a fault the cutter has none
pub follows : (flaw : Option DataFault) (cut : Option CutFault) → cut ≡ None → FollowsFault flaw cut
follows None cut none = none
follows (Some flaw) cut none = tt

-- the bytes of a line that isn't too long
pub given_bytes : (line : List ℕ) → length line ≤ 65535 → length (line ++ 10 ∷ []) ≡ bytes_of (line, true)
given_bytes line few = rw (le-ltb 65535 (length line) few) (omega (arith, length-append line (10 ∷ [])))

pub given_bytes_last : (line : List ℕ) → length line ≤ 65535 → length line ≡ bytes_of (line, false)
given_bytes_last line few = rw (le-ltb 65535 (length line) few) (omega arith)
