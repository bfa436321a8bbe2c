use Rattle.std.proofs.Common.{◌≡◌, ◌≤◌, ℕ, ◌+◌, suc, Bool, false, cond, List, [], ◌∷◌, ◌++◌, map, length, take, Err, refl, sym, ap, subst, ◌∙◌, append_assoc}
use Rattle.std.proofs.Common.{arith}
use Rattle.std.specs.Prelude.{◌==◌}
use Rattle.std.specs.List.{enumerate_from}
use Rattle.std.proofs.lemmas.Bool.Decides.{nat_tests}
use Rattle.cov_port.specs.Lines.{Line, bytes_of, lines_of}
use Rattle.cov_port.specs.Sums.{total}
use Rattle.cov_dat.specs.DataLine.{Says, says_within}
use Rattle.cov_dat.specs.Laws.{ReadsByLines}
use Rattle.cov_dat.specs.Reading.{all_say, line_says, lines_say, reading_of}
use Rattle.cov_dat.specs.declared.fault.DataFault.TheVariants.{BadHeader}

one_more : (n : ℕ) → n + 1 ≡ suc n
one_more n = omega arith

take_more : (n : ℕ) (d : Line) (ls : List Line) → take (n + 1) (d ∷ ls) ≡ d ∷ take n ls
take_more n d ls = ap (λ (k : ℕ). take k (d ∷ ls)) (one_more n)

-- the lines up to one behind others
take_up : (done : List Line) (l : Line) (rest : List Line) → take (length done + 1) (done ++ l ∷ rest) ≡ done ++ l ∷ []
take_up [] l rest = take_more 0 l rest
take_up (d ∷ done) l rest =
    take_more (length (d ∷ done)) d (done ++ l ∷ rest)
    ∙ ap (λ (k : ℕ). d ∷ take k (done ++ l ∷ rest)) (sym (one_more (length done)))
    ∙ ap (λ (ls : List Line). d ∷ ls) (take_up done l rest)

length_up : (done : List Line) (l : Line) → length (done ++ l ∷ []) ≡ length done + 1
length_up [] l = refl
length_up (d ∷ done) l = let rest = length_up done l in omega (arith, rest)

sum_up : (done : List Line) (l : Line) → total (map bytes_of (done ++ l ∷ [])) ≡ total (map bytes_of done) + bytes_of l
sum_up [] l = omega arith
sum_up (d ∷ done) l = let rest = sum_up done l in omega (arith, rest)

-- behind at least one line nothing lacks the header
no_header : (n : ℕ) → 1 ≤ n → (n + 1 == 1) ≡ false
no_header n some = grind (arith, nat_tests)

-- what the lines behind those that are done say
say_each : (done rest : List Line) (n before : ℕ) → n ≡ length done → before ≡ total (map bytes_of done) → 1 ≤ n
    → all_say (n + 1) before rest ≡ map (line_says (done ++ rest)) (enumerate_from (n + 1) rest)
say_each done [] n before is sum some = ap (λ (t : Bool). cond t (Err (BadHeader 1) ∷ []) []) (no_header n some)
say_each done (l ∷ rest) n before is sum some =
    let up : before + bytes_of l ≡ total (map bytes_of (take (n + 1) (done ++ l ∷ rest))) =
    ap (λ (m : ℕ). m + bytes_of l) sum ∙ sym (sum_up done l) ∙ ap (λ (ls : List Line). total (map bytes_of ls)) (sym (take_up done l rest))
    ∙ ap (λ (k : ℕ). total (map bytes_of (take (k + 1) (done ++ l ∷ rest)))) (sym is) in
    let further = say_each (done ++ l ∷ []) rest (n + 1) (before + bytes_of l) (ap (λ (k : ℕ). k + 1) is ∙ sym (length_up done l))
    (ap (λ (m : ℕ). m + bytes_of l) sum ∙ sym (sum_up done l)) (omega (arith, some)) in
    ap (λ (m : ℕ). says_within m (n + 1) l ∷ all_say (n + 1 + 1) (before + bytes_of l) rest) up
    ∙ ap (λ (says : List Says). line_says (done ++ l ∷ rest) (n + 1, l) ∷ says)
    (subst (λ (ls : List Line). all_say (n + 1 + 1) (before + bytes_of l) rest ≡ map (line_says ls) (enumerate_from (n + 1 + 1) rest))
    (append_assoc done (l ∷ []) rest) further)

all_by_lines : (ls : List Line) → all_say 1 0 ls ≡ lines_say ls
all_by_lines [] = refl
all_by_lines (l ∷ rest) =
    let up : 0 + bytes_of l ≡ total (map bytes_of (take 1 (l ∷ rest))) = omega arith in
    let sum : 0 + bytes_of l ≡ total (map bytes_of (l ∷ [])) = omega arith in
    ap (λ (m : ℕ). says_within m 1 l ∷ all_say 2 (0 + bytes_of l) rest) up
    ∙ ap (λ (says : List Says). line_says (l ∷ rest) (1, l) ∷ says) (say_each (l ∷ []) rest 1 (0 + bytes_of l) refl sum (omega arith))

pub reads_by_lines : ReadsByLines
reads_by_lines text = ap reading_of (all_by_lines (lines_of text))
