-- Files and a sink in memory.
use Rattle.std.specs.Prelude.{ℕ, ◌+◌, ◌-◌, ◌^◌, ◌||◌, ◌&&◌, ◌==◌, nat_lt, min, Bool, List, [], ◌∷◌, ◌++◌, length, take, drop, None, Some, is_none, unwrap_or}
use Rattle.std.specs.Prelude.{if◌then◌else◌}
use Rattle.std.specs.List.{list_any}
use Rattle.std.specs.Option.{option_map_or}
use Rattle.std.specs.Str.{bytes_eq}
use Rattle.cov_port.specs.Files.{Names, FileFaults, lacks}

-- files in memory: what they hold, in order of storing, what is left of the open file, how often each call
-- failed, how many bytes a read gives at most, the calls made and those that are to fail, and the room left
pub record FilesInMemory : Type 0 where
  pub files : List (List ℕ × List ℕ)
  pub rest : List ℕ
  pub faults : FileFaults
  pub piece : ℕ
  pub calls : ℕ
  pub listed : List ℕ
  pub stores_left : ℕ
  pub bytes_left : ℕ

-- a sink in memory: what was put, how often a put failed, and the same of pieces, calls and room
pub record SinkInMemory : Type 0 where
  pub written : List ℕ
  pub faults : ℕ
  pub piece : ℕ
  pub calls : ℕ
  pub listed : List ℕ
  pub bytes_left : ℕ

-- no files, no call made or listed, and no room
abbrev pub no_files : ℕ → FilesInMemory
no_files piece = record {
  files = [];
  rest = [];
  faults = record { opens = 0; reads = 0; stores = 0 };
  piece = piece;
  calls = 0;
  listed = [];
  stores_left =
      0;
  bytes_left = 0;
}

-- nothing put, no call made or listed, and no room
abbrev pub empty_sink : ℕ → SinkInMemory
empty_sink piece = record { written = []; faults = 0; piece = piece; calls = 0; listed = []; bytes_left = 0 }

-- what a name holds: the bytes that were stored there last
abbrev pub held_in : List (List ℕ × List ℕ) → Names
held_in [] q = None
held_in (f ∷ fs) q = option_map_or (λ bytes. Some bytes) (held_in fs q) (if bytes_eq q f.0 then Some f.1 else None)

-- the number of the next call, from 1; it stays at its end
abbrev pub next_call : ℕ → ℕ
next_call calls = min (calls + 1) (2 ^ 64 - 1)

-- whether the next call is one that is to fail
abbrev pub is_listed : ℕ → List ℕ → Bool
is_listed calls listed = list_any (λ call. call == next_call calls) listed

-- whether opening the name fails
abbrev pub open_fails : FilesInMemory → List ℕ → Bool
open_fails memory name = is_listed memory.calls memory.listed || lacks (Some (held_in memory.files)) name

-- whether a read fails
abbrev pub read_fails : FilesInMemory → Bool
read_fails memory = is_listed memory.calls memory.listed

-- whether storing these bytes at the name fails
abbrev pub store_fails : FilesInMemory → List ℕ → List ℕ → Bool
store_fails memory name bytes = is_listed memory.calls memory.listed
    || (nat_lt memory.stores_left 1 || nat_lt memory.bytes_left (length name + length bytes))

-- a number of faults with one more; it stays at its end
abbrev pub one_more : ℕ → ℕ
one_more faults = min (faults + 1) (2 ^ 64 - 1)

-- the files with this one open
abbrev pub with_open : FilesInMemory → List ℕ → FilesInMemory
with_open memory name = record memory {
  rest = unwrap_or (held_in memory.files name) [];
  calls = next_call memory.calls;
}

-- the files with none open; an absent name is no fault
abbrev pub with_failed_open : FilesInMemory → List ℕ → FilesInMemory
with_failed_open memory name = record memory {
  rest = [];
  faults = record memory.faults { opens = if is_none (held_in memory.files name) then memory.faults.opens else one_more memory.faults.opens };
  calls = next_call memory.calls;
}

-- how many bytes a read gives into so long a buffer
abbrev pub read_count : FilesInMemory → ℕ → ℕ
read_count memory len = min memory.piece (min len (length memory.rest))

-- the files with so many bytes read
abbrev pub with_read : FilesInMemory → ℕ → FilesInMemory
with_read memory count = record memory {
  rest = drop count memory.rest;
  calls = next_call memory.calls;
}

-- the files after a read that failed
abbrev pub with_failed_read : FilesInMemory → FilesInMemory
with_failed_read memory = record memory {
  faults = record memory.faults { reads = one_more memory.faults.reads };
  calls = next_call memory.calls;
}

-- the files with one more stored, which uses up room
abbrev pub with_store : FilesInMemory → List ℕ → List ℕ → FilesInMemory
with_store memory name bytes = record memory {
  files = memory.files ++ (name, bytes) ∷ [];
  calls = next_call memory.calls;
  stores_left = memory.stores_left - 1;
  bytes_left = memory.bytes_left - (length name + length bytes);
}

-- the files after a store that failed
abbrev pub with_failed_store : FilesInMemory → FilesInMemory
with_failed_store memory = record memory {
  faults = record memory.faults { stores = one_more memory.faults.stores };
  calls = next_call memory.calls;
}

-- whether a put of the piece fails
abbrev pub put_fails : SinkInMemory → List ℕ → Bool
put_fails sink piece = is_listed sink.calls sink.listed || (nat_lt 0 (length piece) && nat_lt sink.bytes_left 1)

-- how many bytes of the piece a put takes
abbrev pub put_count : SinkInMemory → List ℕ → ℕ
put_count sink piece = min sink.piece (min (length piece) sink.bytes_left)

-- the sink with first bytes of the piece put, which use up room
abbrev pub with_put : SinkInMemory → List ℕ → SinkInMemory
with_put sink piece = record sink {
  written = sink.written ++ take (put_count sink piece) piece;
  calls = next_call sink.calls;
  bytes_left = sink.bytes_left - put_count sink piece;
}

-- the sink after a put that failed
abbrev pub with_failed_put : SinkInMemory → SinkInMemory
with_failed_put sink = record sink {
  faults = one_more sink.faults;
  calls = next_call sink.calls;
}
