-- Private: what a reader does with one line.
use Rattle.std.specs.Prelude.{◌≡◌, ℕ, ◌+◌, ◌<◌, ◌≤◌, Bool, true, false, List, [], length, take, slice_range, Option, None, Some, Result, Ok, Err, IfSome}
use Rattle.std.specs.Option.{option_map}
use Rattle.cov_types.specs.Key.{IsKey}
use Rattle.cov_port.specs.Cutting.{left_of}
use Rattle.cov_dat.specs.DataLine.{Says}
use Rattle.cov_dat.specs.Reading.{nothing_read, reading_from, with_record}
use Rattle.cov_dat.specs.Streaming.{ReaderState, line_of}
use Rattle.cov_dat.specs.declared.fault.DataFault.{DataFault}
use Rattle.cov_dat.specs.declared.key_place.KeyPlace.{KeyPlace}
use Rattle.cov_dat.specs.declared.key_place.LineStory.{LineStory}
use Rattle.cov_dat.specs.declared.key_place.LineStory.TheVariants as story
use Rattle.cov_dat.specs.declared.record_list.RecordList.{RecordList}

-- the key that stands in a line from its fourth byte on
abbrev pub key_at : List ℕ → ℕ → List ℕ
key_at line end = slice_range line 3 end

-- these are the first bytes of a text, and not all
pub record IsFront (text front : List ℕ) : Type 0 where
  pub less : length front < length text
  pub same : front ≡ take (length front) text

-- the key stands in the line from the fourth byte on
pub record StandsAt (line key : List ℕ) : Type 0 where
  pub within : 3 + length key ≤ length line
  pub same : key ≡ key_at line (3 + length key)

-- a place of a key and its count as what a line says
abbrev pub seen_place : List ℕ → Result (Option KeyPlace) DataFault → Says
seen_place line (Err fault) = Err fault
seen_place line (Ok None) = Ok None
seen_place line (Ok (Some p)) = Ok (Some (record { key = key_at line p.end; count = p.count }))

-- the place lies in the line
pub record LiesIn (line : List ℕ) (p : KeyPlace) : Type 0 where
  pub first : 3 ≤ p.end
  pub last : p.end ≤ length line
  pub key : IsKey (key_at line p.end)

-- what is read from here on, whatever fault was met
abbrev pub reading_here : ReaderState → Option (List ℕ) → Option RecordList
reading_here reader rest = option_map (reading_from reader.number reader.bytes) (left_of reader.cutter rest)

-- what one line comes to: nothing, a record, or the end
abbrev pub Comes : LineStory → List ℕ → ℕ → RecordList → RecordList → Type 0
Comes story.Nothing key count before after = before ≡ after
Comes story.Record key count before after = before ≡ with_record key count after
Comes story.End key count before after = (before ≡ nothing_read) × (after ≡ nothing_read)

abbrev pub ComesTold : LineStory → List ℕ → ℕ → Option RecordList → Option RecordList → Type 0
ComesTold story key count before after = IfSome before (λ was. (left : RecordList) × (after ≡ Some left) × Comes story key count was left)

-- a record has a key of the form; else no key and no count are told
abbrev pub KeyOf : LineStory → List ℕ → ℕ → Type 0
KeyOf story.Nothing key count = (key ≡ []) × (count ≡ 0)
KeyOf story.Record key count = IsKey key
KeyOf story.End key count = (key ≡ []) × (count ≡ 0)

abbrev pub KeyIf : Bool → List ℕ → ℕ → Type 0
KeyIf true key count = IsKey key
KeyIf false key count = (key ≡ []) × (count ≡ 0)

-- a line has bytes
abbrev pub Moves : LineStory → ℕ → ℕ → Type 0
Moves story.Nothing before now = before < now
Moves story.Record before now = before < now
Moves story.End before now = Unit {0}

-- whether a line is a record, with its key and count, as what the line says
abbrev pub seen_read : List ℕ → ℕ → Result Bool DataFault → Says
seen_read key count (Err fault) = Err fault
seen_read key count (Ok false) = Ok None
seen_read key count (Ok true) = Ok (Some (record { key = key; count = count }))

-- the reader stands one line of so many bytes further
pub record IsNext (bytes : ℕ) (old new : ReaderState) : Type 0 where
  pub cutter : new.cutter ≡ old.cutter
  pub number : new.number ≡ old.number + 1
  pub bytes_more : new.bytes ≡ old.bytes + bytes
  pub fault : new.fault ≡ old.fault

-- where the fault names a line, it is this one
abbrev pub NamesLine : DataFault → ℕ → Type 0
NamesLine fault number = IfSome (line_of fault) (λ n. n ≡ number)

-- what a line that says this comes to
abbrev pub IsStory : LineStory → List ℕ → ℕ → Says → Type 0
IsStory story.Nothing key count said = (key ≡ []) × (count ≡ 0) × (Ok None ≡ said)
IsStory story.Record key count said = IsKey key × (Ok (Some (record { key = key; count = count })) ≡ said)
IsStory story.End key count said = ⊥

-- what was told to be read is still to be read
abbrev pub KeepsReading : Option RecordList → Option RecordList → Type 0
KeepsReading before after = IfSome before (λ was. after ≡ Some was)
