-- Faults of a line: they name the line, or the limit on bytes.
use Rattle.std.proofs.Common.{◌≡◌, ℕ, ◌≤◌, Bool, true, false, cond, List, drop, refl, subst, Option, None, Some, Result, Ok, Err, codes}
use Rattle.std.specs.Prelude.{IfErr, nat_eq, nat_lt, not, ◌&&◌, ◌==◌}
use Rattle.std.specs.List.{starts_with}
use Rattle.std.specs.Str.{bytes_eq}
use Rattle.cov_types.specs.declared.limit.LimitName.TheVariants.{DataBytes}
use Rattle.cov_port.specs.KeyTest.{is_key_text}
use Rattle.cov_port.specs.Lines.{Line, is_long}
use Rattle.cov_dat.specs.DataLine.{Says, at_last_quote, count_after, header, is_skipped, says, says_count, says_key, says_record, says_within}
use Rattle.cov_dat.specs.Streaming.{IsFileFault}
use Rattle.cov_dat.specs.declared.fault.DataFault.{DataFault}
use Rattle.cov_dat.specs.declared.fault.DataFault.TheVariants as fault

abbrev Names : Says → Type 0
Names (Ok r) = Unit {0}
Names (Err flaw) = IsFileFault flaw

either : (b : Bool) (x y : Says) → Names x → Names y → Names (cond b x y)
either true x y one two = one
either false x y one two = two

names_count : (n : ℕ) (key : List ℕ) (o : Option ℕ) → 1 ≤ n → Names (says_count n key o)
names_count n key None first = first
names_count n key (Some count) first = tt

names_key : (n : ℕ) (o : Option (List ℕ × List ℕ)) → 1 ≤ n → Names (says_key n o)
names_key n None first = first
names_key n (Some p) first = either (is_key_text p.0) (says_count n p.0 (count_after p.1)) (Err (fault.BadRecord n))
    (names_count n p.0 (count_after p.1) first) first

names_record : (n : ℕ) (line : List ℕ) → 1 ≤ n → Names (says_record n line)
names_record n line first =
    either (starts_with nat_eq line (codes "C '")) (says_key n (at_last_quote (drop 3 line))) (Err (fault.BadRecord n))
    (names_key n (at_last_quote (drop 3 line)) first) first

names_line : (n : ℕ) (l : Line) → 1 ≤ n → Names (says n l)
names_line n l first =
    either (is_long l) (Err (fault.LineTooLong n)) _ first
    (either (n == 1) _ _ (either (l.1 && bytes_eq l.0 header) (Ok None) (Err (fault.BadHeader n)) tt first)
    (either (not l.1) (Err (fault.BadRecord n)) _ first
    (either (is_skipped l.0) (Ok None) (says_record n l.0) tt (names_record n l.0 first))))

names_within : (bytes n : ℕ) (l : Line) → 1 ≤ n → Names (says_within bytes n l)
names_within bytes n l first = either (nat_lt 4294967296 bytes) (Err (fault.Limit DataBytes)) (says n l) refl (names_line n l first)

-- what a line that is refused names
pub said_names : {T : Type 0} (result : Result T DataFault) (bytes n : ℕ) (l : Line) → 1 ≤ n
    → IfErr result (λ flaw. Err flaw ≡ says_within bytes n l) → IfErr result IsFileFault
said_names (Ok story) bytes n l first said = tt
said_names (Err flaw) bytes n l first said = refused_names flaw (says_within bytes n l) said (names_within bytes n l first) where
  refused_names : (flaw : DataFault) (says : Says) → Err flaw ≡ says → Names says → IsFileFault flaw
  refused_names flaw (Ok r) said is = absurd (cc)
  refused_names flaw (Err other) said is = let same : other ≡ flaw = cc in subst IsFileFault same is
