-- What one line of a data file says (docs/formats.md, "Data file").
use Rattle.std.specs.Prelude.{
  ℕ,
  ◌-◌,
  ◌^◌,
  ◌==◌,
  ◌&&◌,
  Bool,
  true,
  not,
  nat_eq,
  nat_lt,
  List,
  [],
  ◌∷◌,
  drop,
  Option,
  None,
  Some,
  Result,
  Ok,
  Err,
  codes,
  if◌then◌else◌,
}
use Rattle.std.specs.List.{starts_with}
use Rattle.std.specs.Str.{bytes_eq}
use Rattle.std.specs.Option.{option_map_or}
use Rattle.cov_port.specs.Decimal.{decimal_of}
use Rattle.cov_port.specs.KeyTest.{is_key_text}
use Rattle.cov_types.specs.declared.limit.LimitName.TheVariants.{DataBytes}
use Rattle.cov_port.specs.Lines.{Line, is_long}
use Rattle.cov_dat.specs.declared.fault.DataFault.{DataFault}
use Rattle.cov_dat.specs.declared.fault.DataFault.TheVariants.{BadHeader, BadRecord, BadCount, LineTooLong, Limit}
use Rattle.cov_dat.specs.declared.record_list.Record.{Record}

-- the first line of each data file
abbrev pub header : List ℕ
header = codes "# SystemC::Coverage-3"

-- what stands before and after the last quote, where there is one
abbrev pub at_last_quote : List ℕ → Option (List ℕ × List ℕ)
at_last_quote [] = None
at_last_quote (b ∷ bs) = option_map_or (λ p. Some (b ∷ p.0, p.1)) (at_last_quote bs) (if b == 39 then Some ([], bs) else None)

-- a space and a count
abbrev pub count_after : List ℕ → Option ℕ
count_after [] = None
count_after (b ∷ bs) = if b == 32 then decimal_of bs (2 ^ 64 - 1) else None

-- what a line says: nothing, a record, or a fault
abbrev pub Says : Type 0
Says = Result (Option Record) DataFault

-- a record has a count behind its key
abbrev pub says_count : ℕ → List ℕ → Option ℕ → Says
says_count n key None = Err (BadCount n)
says_count n key (Some count) = Ok (Some (record { key = key; count = count }))

-- a record has a key before its last quote
abbrev pub says_key : ℕ → Option (List ℕ × List ℕ) → Says
says_key n None = Err (BadRecord n)
says_key n (Some p) = if is_key_text p.0 then says_count n p.0 (count_after p.1) else Err (BadRecord n)

-- a record begins with C, a space and a quote
abbrev pub says_record : ℕ → List ℕ → Says
says_record n line = if starts_with nat_eq line (codes "C '") then says_key n (at_last_quote (drop 3 line)) else Err (BadRecord n)

-- a line that is skipped is empty or begins with '#'
abbrev pub is_skipped : List ℕ → Bool
is_skipped [] = true
is_skipped (b ∷ bs) = b == 35

-- what the line with this number says, apart from the size of the file
abbrev pub says : ℕ → Line → Says
says n l =
    if is_long l then Err (LineTooLong n)
    else if n == 1 then (if l.1 && bytes_eq l.0 header then Ok None else Err (BadHeader n))
    else if not l.1 then Err (BadRecord n)
    else if is_skipped l.0 then Ok None
    else says_record n l.0

-- the same line where the file has this many bytes up to its end: the limit on bytes comes first
abbrev pub says_within : ℕ → ℕ → Line → Says
says_within bytes n l = if nat_lt 4294967296 bytes then Err (Limit DataBytes) else says n l
