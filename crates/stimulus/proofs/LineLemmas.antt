-- The lines of an open stimulus.
use Rattle.std.proofs.Common.{◌≡◌, ℕ, ◌+◌, ◌-◌, ◌≤◌, Bool, true, false, not, Option, None, Some, Result, Ok, Err, IfSome, IfOk, IfErr, OnOk, List, [], ◌∷◌}
use Rattle.std.proofs.Common.{◌++◌, filter, length, map, take, refl, sym, ◌∙◌, ap, arith, length-append, append_assoc}
use Rattle.std.specs.Option.{option_map}
use Rattle.std.proofs.lemmas.Bool.{le-ltb}
use Rattle.std.proofs.lemmas.List.{map-append}
use Rattle.std.proofs.Math.Seq.{take-append_seam}
use Rattle.cov_port.specs.Cutting.{Cutter, Gives, GivesTold, KeepsLeft, begins_long, bytes_given, left_of, lines_given}
use Rattle.cov_port.specs.Lines.{Line, bytes_of, is_long, lines_of}
use Rattle.cov_port.specs.Sums.{total}
use Rattle.cov_port.specs.declared.line_step.LineStep.{LineStep}
use Rattle.stim_lines.specs.Fields.{Said, all_say, fields_of, is_skipped, refused, says, skipped, spoken}
use Rattle.stim_lines.specs.Reading.{NamesLine, line_of, seen_said}
use Rattle.stim_lines.specs.declared.fault.StimFault.{StimFault}
use Rattle.stimulus.specs.Lines.{IsFrugal, LinesState, StandsIn, bytes_before_line, heard, heard_left}
use Rattle.stimulus.specs.Taking.{BeginsRefused, Comes, ComesTold, IfSpoken, IsNext, IsStory, line_said, line_story}
use Rattle.stimulus.specs.declared.line_story.LineStory.{LineStory}
use Rattle.stimulus.specs.declared.line_story.LineStory.TheVariants as story

-- those that aren't skipped
abbrev spoken_of : List Said → List Said
spoken_of said = filter (λ (s : Said). not (is_skipped s)) said

-- what is heard of a text is what its first line says, and what is heard of the rest
first-heard : (number bytes : ℕ) (left rest : List ℕ) (l : Line) → lines_of left ≡ l ∷ lines_of rest
    → heard number bytes left ≡ spoken_of (says (bytes + bytes_of l) (number + 1) l ∷ all_say (number + 1 + 1) (bytes + bytes_of l) (lines_of rest))
first-heard number bytes left rest l lines = ap (λ (ls : List Line). spoken_of (all_say (number + 1) bytes ls)) lines

-- a line that is skipped, one that speaks, and one that is refused
pub text-skipped : (number bytes k : ℕ) (left rest line : List ℕ) (ended speaks : Bool) → lines_of left ≡ (line, ended) ∷ lines_of rest
    → k ≡ bytes_of (line, ended) → speaks ≡ false
    → seen_said (number + 1) line (Ok speaks) ≡ says (bytes + k) (number + 1) (line, ended) → heard number bytes left ≡ heard (number + 1) (bytes + k) rest
text-skipped number bytes k left rest line ended speaks lines sum silent said =
    let told : skipped ≡ says (bytes + bytes_of (line, ended)) (number + 1) (line, ended) = rw (silent, sum) at said in
    rw sum (first-heard number bytes left rest (line, ended) lines
    ∙ ap (λ (s : Said). spoken_of (s ∷ all_say (number + 1 + 1) (bytes + bytes_of (line, ended)) (lines_of rest))) (sym told))

pub text-spoken : (number bytes k : ℕ) (left rest line : List ℕ) (ended speaks : Bool) → lines_of left ≡ (line, ended) ∷ lines_of rest
    → k ≡ bytes_of (line, ended) → speaks ≡ true
    → seen_said (number + 1) line (Ok speaks) ≡ says (bytes + k) (number + 1) (line, ended)
    → heard number bytes left ≡ spoken (number + 1) (fields_of line) ∷ heard (number + 1) (bytes + k) rest
text-spoken number bytes k left rest line ended speaks lines sum loud said =
    let told : spoken (number + 1) (fields_of line) ≡ says (bytes + bytes_of (line, ended)) (number + 1) (line, ended) = rw (loud, sum) at said in
    rw sum (first-heard number bytes left rest (line, ended) lines
    ∙ ap (λ (s : Said). spoken_of (s ∷ all_say (number + 1 + 1) (bytes + bytes_of (line, ended)) (lines_of rest))) (sym told))

pub text-refused : (number bytes k : ℕ) (left rest line : List ℕ) (ended : Bool) (flaw : StimFault) → lines_of left ≡ (line, ended) ∷ lines_of rest
    → k ≡ bytes_of (line, ended)
    → refused flaw ≡ says (bytes + k) (number + 1) (line, ended) → BeginsRefused flaw (heard number bytes left)
text-refused number bytes k left rest line ended flaw lines sum said =
    let told : refused flaw ≡ says (bytes + bytes_of (line, ended)) (number + 1) (line, ended) = rw sum at said in
    let more = all_say (number + 1 + 1) (bytes + bytes_of (line, ended)) (lines_of rest) in
    (spoken_of more, first-heard number bytes left rest (line, ended) lines ∙ ap (λ (s : Said). spoken_of (s ∷ more)) (sym told))

story-said : (speaks : Bool) (n : ℕ) (line : List ℕ) (said : Said) → seen_said n line (Ok speaks) ≡ said → IsStory (line_story speaks) n line said
story-said true n line said e = sym e
story-said false n line said e = sym e

-- the same of a line as it was handed on
pub said-story : (speaks : Bool) (n bytes k : ℕ) (line here : List ℕ) (ended : Bool) → here ≡ line → k ≡ bytes_of (here, ended)
    → seen_said n here (Ok speaks) ≡ says (bytes + k) n (here, ended)
    → IsStory (line_story speaks) n line (says (bytes + bytes_of (line, ended)) n (line, ended))
said-story speaks n bytes k line here ended same sum said =
    rw (← same) (story-said speaks n here (says (bytes + bytes_of (here, ended)) n (here, ended)) (rw sum at said))

pub said-refused : (n bytes k : ℕ) (line here : List ℕ) (ended : Bool) (flaw : StimFault) → here ≡ line → k ≡ bytes_of (here, ended)
    → refused flaw ≡ says (bytes + k) n (here, ended) → says (bytes + bytes_of (line, ended)) n (line, ended) ≡ refused flaw
said-refused n bytes k line here ended flaw same sum said = rw (← same) (sym (rw sum at said))

heard-story : (comes : LineStory) (n : ℕ) (line : List ℕ) (said : Said) (more : List Said) → IsStory comes n line said
    → Comes comes (spoken n (fields_of line)) (spoken_of (said ∷ more)) (spoken_of more)
heard-story story.Skipped n line said more is = rw is refl
heard-story story.Spoken n line said more is = rw is refl
heard-story story.End n line said more is = absurd is

-- one line that is no fault
comes-line : (step : LineStep) (ended : Bool) (comes : LineStory) (line : List ℕ) (number bytes : ℕ) (before after : Option (List ℕ))
    → GivesTold step line before after → lines_given step line ≡ (line, ended) ∷ []
    → IsStory comes (number + 1) line (says (bytes + bytes_of (line, ended)) (number + 1) (line, ended))
    → ComesTold comes (spoken (number + 1) (fields_of line)) (option_map (heard number bytes) before)
    (option_map (heard (number + 1) (bytes + bytes_of (line, ended))) after)
comes-line step ended comes line number bytes None after gives one said = tt
comes-line step ended comes line number bytes (Some left) after gives one said =
    let rest = gives.0 in
    let lines : lines_of left ≡ (line, ended) ∷ lines_of rest = gives.2.lines ∙ ap (λ (ls : List Line). ls ++ lines_of rest) one in
    let read = first-heard number bytes left rest (line, ended) lines in (
      heard (number + 1) (bytes + bytes_of (line, ended)) rest,
      ap (option_map (heard (number + 1) (bytes + bytes_of (line, ended)))) gives.1,
      rw read (heard-story comes (number + 1) line (says (bytes + bytes_of (line, ended)) (number + 1) (line, ended))
          (all_say (number + 1 + 1) (bytes + bytes_of (line, ended)) (lines_of rest)) said),
    )

-- one line that is refused
refused-line : (step : LineStep) (ended : Bool) (line : List ℕ) (flaw : StimFault) (number bytes : ℕ) (before after : Option (List ℕ))
    → GivesTold step line before after → lines_given step line ≡ (line, ended) ∷ []
    → says (bytes + bytes_of (line, ended)) (number + 1) (line, ended) ≡ refused flaw
    → IfSome (option_map (heard number bytes) before) (BeginsRefused flaw)
refused-line step ended line flaw number bytes None after gives one said = tt
refused-line step ended line flaw number bytes (Some left) after gives one said =
    let rest = gives.0 in
    let lines : lines_of left ≡ (line, ended) ∷ lines_of rest = gives.2.lines ∙ ap (λ (ls : List Line). ls ++ lines_of rest) one in
    let more = all_say (number + 1 + 1) (bytes + bytes_of (line, ended)) (lines_of rest) in
    (spoken_of more, first-heard number bytes left rest (line, ended) lines ∙ ap (λ (s : Said). spoken_of (s ∷ more)) said)

-- a line that is too long
long-first : (number bytes : ℕ) (flaw : StimFault) (left : List ℕ) (ls : List Line) → lines_of left ≡ ls → begins_long ls ≡ true
    → ((l : Line) → is_long l ≡ true → says (bytes + bytes_of l) (number + 1) l ≡ refused flaw) → BeginsRefused flaw (heard number bytes left)
long-first number bytes flaw left [] lines long says_so = absurd (cc)
long-first number bytes flaw left (l ∷ ls) lines long says_so =
    let more = all_say (number + 1 + 1) (bytes + bytes_of l) ls in
    (spoken_of more, ap (λ (ms : List Line). spoken_of (all_say (number + 1) bytes ms)) lines ∙ ap (λ (s : Said). spoken_of (s ∷ more)) (says_so l long))

pub refused_long : (flaw : StimFault) (number bytes : ℕ) (before : Option (List ℕ)) → IfSome before (λ left. begins_long (lines_of left) ≡ true)
    → ((l : Line) → is_long l ≡ true → says (bytes + bytes_of l) (number + 1) l ≡ refused flaw)
    → IfSome (option_map (heard number bytes) before) (BeginsRefused flaw)
refused_long flaw number bytes None long says_so = tt
refused_long flaw number bytes (Some left) long says_so = long-first number bytes flaw left (lines_of left) refl long says_so

-- the end of the file
pub comes_end : (lines : LinesState) (before after : Option (List ℕ)) (step : LineStep) (line : List ℕ)
    → GivesTold step line before after → bytes_given step line ≡ [] → ((rest : List ℕ) → Gives step line rest rest → rest ≡ [])
    → ComesTold story.End (line_said lines) (option_map (heard lines.number lines.bytes) before) (option_map (heard lines.number lines.bytes) after)
comes_end lines None after step line gives none empty = tt
comes_end lines (Some left) after step line gives none empty =
    let rest = gives.0 in
    let same : left ≡ rest = gives.2.bytes ∙ ap (λ (xs : List ℕ). xs ++ rest) none in
    let nothing : rest ≡ [] = empty rest (rw same at gives.2) in (
      heard lines.number lines.bytes rest,
      ap (option_map (heard lines.number lines.bytes)) gives.1,
      (rw (same, nothing) refl, rw nothing refl),
    )

-- the sum of two lists
total-append : (ns ms : List ℕ) → total (ns ++ ms) ≡ total ns + total ms
total-append [] ms = omega arith
total-append (n ∷ ns) ms = omega (arith, total-append ns ms)

total_push : (ls : List Line) (l : Line) → total (map bytes_of (ls ++ l ∷ [])) ≡ total (map bytes_of ls) + bytes_of l
total_push ls l = ap total (map-append bytes_of ls (l ∷ [])) ∙ total-append (map bytes_of ls) (bytes_of l ∷ []) ∙ omega arith

-- one line further
stands-line : (text : List ℕ) (old new : LinesState) (step : LineStep) (ended : Bool) (line : List ℕ) (rest_old rest_new : Option (List ℕ))
    → GivesTold step line (left_of old.cutter rest_old) (left_of new.cutter rest_new) → lines_given step line ≡ (line, ended) ∷ []
    → length (bytes_given step line) ≡ bytes_of (line, ended)
    → new.number ≡ old.number + 1 → new.bytes ≡ old.bytes + bytes_of (line, ended)
    → StandsIn text old rest_old → StandsIn text new rest_new
stands-line text old new step ended line rest_old rest_new gives one long number bytes s =
    let told : (rest : List ℕ) × (left_of new.cutter rest_new ≡ Some rest) × Gives step line s.left rest = rw s.told at gives in
    let rest = told.0 in
    let lines : lines_of s.left ≡ (line, ended) ∷ lines_of rest = told.2.lines ∙ ap (λ (ls : List Line). ls ++ lines_of rest) one in
    record {
      front = s.front ++ bytes_given step line;
      before = s.before ++ (line, ended) ∷ [];
      left = rest;
      told = told.1;
      split = s.split ∙ ap (λ (xs : List ℕ). s.front ++ xs) told.2.bytes ∙ sym (append_assoc s.front (bytes_given step line) rest);
      parts = s.parts ∙ ap (λ (ls : List Line). s.before ++ ls) lines ∙ sym (append_assoc s.before ((line, ended) ∷ []) (lines_of rest));
      number = omega (arith, number, s.number, length-append s.before ((line, ended) ∷ []));
      bytes = bytes ∙ ap (λ (n : ℕ). n + bytes_of (line, ended)) s.bytes ∙ sym (total_push s.before (line, ended));
      counted = omega (arith, length-append s.front (bytes_given step line), long, bytes, s.counted);
    }

-- nothing is taken off at the end
pub stands_end : (text : List ℕ) (old new : LinesState) (step : LineStep) (line : List ℕ) (rest_old rest_new : Option (List ℕ))
    → GivesTold step line (left_of old.cutter rest_old) (left_of new.cutter rest_new) → bytes_given step line ≡ []
    → new.number ≡ old.number → new.bytes ≡ old.bytes → StandsIn text old rest_old → StandsIn text new rest_new
stands_end text old new step line rest_old rest_new gives none number bytes s =
    let told : (rest : List ℕ) × (left_of new.cutter rest_new ≡ Some rest) × Gives step line s.left rest = rw s.told at gives in
    let same : s.left ≡ told.0 = told.2.bytes ∙ ap (λ (xs : List ℕ). xs ++ told.0) none in
    record {
      front = s.front;
      before = s.before;
      left = told.0;
      told = told.1;
      split = s.split ∙ ap (λ (xs : List ℕ). s.front ++ xs) same;
      parts = s.parts ∙ ap (λ (xs : List ℕ). s.before ++ lines_of xs) same;
      number = number ∙ s.number;
      bytes = bytes ∙ s.bytes;
      counted = s.counted ∙ sym bytes;
    }

-- what was taken, where these bytes were given since and others are ahead
frugal : (text : List ℕ) (old : LinesState) (rest_old : Option (List ℕ)) (given left : List ℕ) (cutter : Cutter) (rest : Option (List ℕ))
    → (s : StandsIn text old rest_old) → s.left ≡ given ++ left → left_of cutter rest ≡ Some left → length given + length cutter.ahead ≤ 65536
    → IsFrugal text rest (old.number + 1)
frugal text old rest_old given left cutter None s split told few = absurd (cc)
frugal text old rest_old given left cutter (Some rest) s split told few =
    let whole : cutter.ahead ++ rest ≡ left = cc in
    let at : old.number + 1 - 1 ≡ length s.before = omega (arith, s.number) in
    let lines : take (old.number + 1 - 1) (lines_of text) ≡ s.before =
    rw (at, s.parts) (take-append_seam s.before (lines_of s.left)) in
    let counted : bytes_before_line (old.number + 1) text ≡ length s.front = ap (λ (ls : List Line). total (map bytes_of ls)) lines ∙ sym s.bytes
    ∙ sym s.counted in
    record {
      taken = s.front ++ (given ++ cutter.ahead);
      left = rest;
      told = refl;
      split = s.split ∙ ap (λ (xs : List ℕ). s.front ++ xs) (split ∙ ap (λ (xs : List ℕ). given ++ xs) (sym whole))
          ∙ ap (λ (xs : List ℕ). s.front ++ xs) (sym (append_assoc given cutter.ahead rest)) ∙ sym (append_assoc s.front (given ++ cutter.ahead) rest);
      few = omega (arith, length-append s.front (given ++ cutter.ahead), length-append given cutter.ahead, counted, few);
    }

-- a line that was given by the cutter
frugal-line : (text : List ℕ) (old : LinesState) (step : LineStep) (line : List ℕ) (cutter : Cutter) (rest_old rest_new : Option (List ℕ)) (n : ℕ)
    → GivesTold step line (left_of old.cutter rest_old) (left_of cutter rest_new) → length (bytes_given step line) + length cutter.ahead ≤ 65536
    → n ≡ old.number + 1 → StandsIn text old rest_old → IsFrugal text rest_new n
frugal-line text old step line cutter rest_old rest_new n gives few is s =
    let told : (rest : List ℕ) × (left_of cutter rest_new ≡ Some rest) × Gives step line s.left rest = rw s.told at gives in
    rw is (frugal text old rest_old (bytes_given step line) told.0 cutter rest_new s told.2.bytes told.1 few)

-- a line that is too long stands in the buffer
frugal-long : (text : List ℕ) (old : LinesState) (cutter : Cutter) (rest_old rest_new : Option (List ℕ)) (n : ℕ)
    → KeepsLeft (left_of old.cutter rest_old) (left_of cutter rest_new) → length cutter.ahead ≤ 65536
    → n ≡ old.number + 1 → StandsIn text old rest_old → IsFrugal text rest_new n
frugal-long text old cutter rest_old rest_new n kept few is s =
    let told : left_of cutter rest_new ≡ Some s.left = rw s.told at kept in
    rw is (frugal text old rest_old [] s.left cutter rest_new s refl told (omega arith))

-- what the line that was given comes to
pub tell_comes : (result : Result LineStory StimFault) (step : LineStep) (ended : Bool) (mid old new : LinesState) (rest_old rest_new : Option (List ℕ))
    → GivesTold step mid.cutter.line (left_of old.cutter rest_old) (left_of mid.cutter rest_new)
    → lines_given step mid.cutter.line ≡ (mid.cutter.line, ended) ∷ [] → mid.number ≡ old.number → mid.bytes ≡ old.bytes
    → IfOk result (λ s. IsStory s (mid.number + 1) mid.cutter.line
    (says (mid.bytes + bytes_of (mid.cutter.line, ended)) (mid.number + 1) (mid.cutter.line, ended)))
    → OnOk result (IsNext (bytes_of (mid.cutter.line, ended)) mid new)
    → IfOk result (λ s. ComesTold s (line_said new) (heard_left old rest_old) (heard_left new rest_new))
tell_comes (Err flaw) step ended mid old new rest_old rest_new gives one number bytes is next = tt
tell_comes (Ok comes) step ended mid old new rest_old rest_new gives one number bytes is next =
    rw (next.cutter, next.number, next.bytes_more, ← number, ← bytes)
    (comes-line step ended comes mid.cutter.line mid.number mid.bytes (left_of old.cutter rest_old) (left_of mid.cutter rest_new) gives one is)

pub tell_fault : (result : Result LineStory StimFault) (step : LineStep) (ended : Bool) (mid old : LinesState) (rest_old rest_new : Option (List ℕ))
    → GivesTold step mid.cutter.line (left_of old.cutter rest_old) (left_of mid.cutter rest_new)
    → lines_given step mid.cutter.line ≡ (mid.cutter.line, ended) ∷ [] → mid.number ≡ old.number → mid.bytes ≡ old.bytes
    → IfErr result (λ flaw. says (mid.bytes + bytes_of (mid.cutter.line, ended)) (mid.number + 1) (mid.cutter.line, ended) ≡ refused flaw)
    → IfErr result (λ flaw. IfSome (heard_left old rest_old) (BeginsRefused flaw))
tell_fault (Ok comes) step ended mid old rest_old rest_new gives one number bytes is = tt
tell_fault (Err flaw) step ended mid old rest_old rest_new gives one number bytes is =
    rw (← number, ← bytes)
    (refused-line step ended mid.cutter.line flaw mid.number mid.bytes (left_of old.cutter rest_old) (left_of mid.cutter rest_new) gives one is)

pub tell_stands : (result : Result LineStory StimFault) (step : LineStep) (ended : Bool) (mid old new : LinesState) (rest_old rest_new : Option (List ℕ))
    → GivesTold step mid.cutter.line (left_of old.cutter rest_old) (left_of mid.cutter rest_new)
    → lines_given step mid.cutter.line ≡ (mid.cutter.line, ended) ∷ [] → length (bytes_given step mid.cutter.line) ≡ bytes_of (mid.cutter.line, ended)
    → mid.number ≡ old.number → mid.bytes ≡ old.bytes
    → OnOk result (IsNext (bytes_of (mid.cutter.line, ended)) mid new)
    → OnOk result ((text : List ℕ) → StandsIn text old rest_old → StandsIn text new rest_new)
tell_stands (Err flaw) step ended mid old new rest_old rest_new gives one long number bytes next = tt
tell_stands (Ok comes) step ended mid old new rest_old rest_new gives one long number bytes next = λ text s.
    stands-line text old new step ended mid.cutter.line rest_old rest_new (rw next.cutter gives) one long
    (next.number ∙ ap (λ (n : ℕ). n + 1) number) (next.bytes_more ∙ ap (λ (n : ℕ). n + bytes_of (mid.cutter.line, ended)) bytes) s

-- how much was taken with the line that was given
pub tell_given : (result : Result LineStory StimFault) (step : LineStep) (ended : Bool) (mid old new : LinesState) (rest_old rest_new : Option (List ℕ))
    → GivesTold step mid.cutter.line (left_of old.cutter rest_old) (left_of mid.cutter rest_new)
    → length (bytes_given step mid.cutter.line) + length mid.cutter.ahead ≤ 65536
    → mid.number ≡ old.number → OnOk result (IsNext (bytes_of (mid.cutter.line, ended)) mid new)
    → IfOk result (λ s. IfSpoken s ((text : List ℕ) → StandsIn text old rest_old → IsFrugal text rest_new new.number))
tell_given (Err flaw) step ended mid old new rest_old rest_new gives few number next = tt
tell_given (Ok story.Skipped) step ended mid old new rest_old rest_new gives few number next = tt
tell_given (Ok story.End) step ended mid old new rest_old rest_new gives few number next = tt
tell_given (Ok story.Spoken) step ended mid old new rest_old rest_new gives few number next = λ text s.
    frugal-line text old step mid.cutter.line mid.cutter rest_old rest_new new.number gives few (next.number ∙ ap (λ (n : ℕ). n + 1) number) s

names-frugal : (number : Option ℕ) (text : List ℕ) (old : LinesState) (step : LineStep) (line : List ℕ) (cutter : Cutter) (rest_old rest_new : Option (List ℕ))
    → GivesTold step line (left_of old.cutter rest_old) (left_of cutter rest_new) → length (bytes_given step line) + length cutter.ahead ≤ 65536
    → IfSome number (λ n. n ≡ old.number + 1) → StandsIn text old rest_old → IfSome number (λ n. IsFrugal text rest_new n)
names-frugal None text old step line cutter rest_old rest_new gives few names s = tt
names-frugal (Some n) text old step line cutter rest_old rest_new gives few names s = frugal-line text old step line cutter rest_old rest_new n gives few
    names s

-- how much was taken where the line that was given is refused
pub tell_frugal : (result : Result LineStory StimFault) (step : LineStep) (old : LinesState) (cutter : Cutter) (rest_old rest_new : Option (List ℕ))
    → GivesTold step cutter.line (left_of old.cutter rest_old) (left_of cutter rest_new) → length (bytes_given step cutter.line) + length cutter.ahead ≤ 65536
    → IfErr result (λ flaw. NamesLine flaw (old.number + 1))
    → IfErr result (λ flaw. (text : List ℕ) → StandsIn text old rest_old → IfSome (line_of flaw) (λ n. IsFrugal text rest_new n))
tell_frugal (Ok comes) step old cutter rest_old rest_new gives few names = tt
tell_frugal (Err flaw) step old cutter rest_old rest_new gives few names = λ text s.
    names-frugal (line_of flaw) text old step cutter.line cutter rest_old rest_new gives few names s

-- how much was taken where a line is too long
pub long_frugal : (number : Option ℕ) (text : List ℕ) (old : LinesState) (cutter : Cutter) (rest_old rest_new : Option (List ℕ))
    → KeepsLeft (left_of old.cutter rest_old) (left_of cutter rest_new) → length cutter.ahead ≤ 65536
    → IfSome number (λ n. n ≡ old.number + 1) → StandsIn text old rest_old → IfSome number (λ n. IsFrugal text rest_new n)
long_frugal None text old cutter rest_old rest_new kept few names s = tt
long_frugal (Some n) text old cutter rest_old rest_new kept few names s = frugal-long text old cutter rest_old rest_new n kept few names s

-- the bytes of a line that isn't too long
pub given_bytes : (line : List ℕ) → length line ≤ 65535 → length (line ++ 10 ∷ []) ≡ bytes_of (line, true)
given_bytes line few = rw (le-ltb 65535 (length line) few) (omega (arith, length-append line (10 ∷ [])))

pub given_bytes_last : (line : List ℕ) → length line ≤ 65535 → length line ≡ bytes_of (line, false)
given_bytes_last line few = rw (le-ltb 65535 (length line) few) (omega arith)
