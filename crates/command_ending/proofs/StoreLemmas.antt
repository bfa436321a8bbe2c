-- Stores that are made one after the other.
use Rattle.std.proofs.Common.{◌≡◌, ℕ, suc, ◌+◌, ◌<◌, List, [], ◌∷◌, ◌++◌, length, get_or, take, drop, map, refl, sym, ◌∙◌, ap, subst, cond, inl, inr, Option}
use Rattle.std.proofs.Common.{None, Some}
use Rattle.std.specs.Prelude.{Contains}
use Rattle.std.specs.Str.{bytes_eq}
use Rattle.std.proofs.Math.Seq.{split_at}
use Rattle.std.proofs.lemmas.List.{take_more, get_or-map, length-map}
use Rattle.std.proofs.lemmas.List.Elements.{Contains-get_or}
use Rattle.cov_port.specs.Causes.{Both}
use Rattle.cov_port.specs.Files.{Names, FileFaults, Stores, StoresPart}
use Rattle.command_ending.specs.World.{after_stores, StoresAll, StoresFront}

-- a name and its bytes
abbrev pub File : Type 0
File = List ℕ × List ℕ

abbrev pub no_file : File
no_file = ([], [])

-- what the names hold after one store more
after_more : (made : List File) (s : File) (old : Names) (q : List ℕ)
    → after_stores (made ++ s ∷ []) old q ≡ cond (bytes_eq q s.0) (Some s.1) (after_stores made old q)
after_more [] s old q = refl
after_more (m ∷ made) s old q = after_more made s (λ r. cond (bytes_eq r m.0) (Some m.1) (old r)) q

made_more : (made : List File) (s : File) (old mid new : Names) → StoresAll made old mid → Stores s.0 s.1 mid new → StoresAll (made ++ s ∷ []) old new
made_more made s old mid new before now = λ q. now q ∙ ap (λ (o : Option (List ℕ)). cond (bytes_eq q s.0) (Some s.1) o) (before q)
    ∙ sym (after_more made s old q)

both_more : (made : List File) (s : File) (old mid new : Option Names) → Both (StoresAll made) old mid → Both (Stores s.0 s.1) mid new
    → Both (StoresAll (made ++ s ∷ [])) old new
both_more made s None None None before now = tt
both_more made s None None (Some n) before now = now
both_more made s None (Some m) new before now = absurd before
both_more made s (Some o) None new before now = absurd before
both_more made s (Some o) (Some m) None before now = now
both_more made s (Some o) (Some m) (Some n) before now = made_more made s o m n before now

-- one store more of a list
pub stored_more : (stores : List File) (i : ℕ) (name bytes : List ℕ) (old mid new : Option Names) → i < length stores → name ≡ (get_or stores i no_file).0
    → bytes ≡ (get_or stores i no_file).1
    → Both (StoresAll (take i stores)) old mid → Both (Stores name bytes) mid new → Both (StoresAll (take (i + 1) stores)) old new
stored_more stores i name bytes old mid new within is_name is_bytes before now =
    rw (take_more stores i no_file within) (both_more (take i stores) (get_or stores i no_file) old mid new before (rw (sym is_name, sym is_bytes) now))

part_of : (made : List File) (name bytes : List ℕ) (old mid new : Names) → StoresAll made old mid → StoresPart name bytes mid new
    → StoresPart name bytes (after_stores made old) new
part_of made name bytes old mid new before part =
    (λ q other. part.0 q other ∙ before q, elim part.1 [ inl kept ↦ inl (kept ∙ before name) | inr front ↦ inr front ])

front_of : (stores : List File) (i : ℕ) (old mid new : Names) → i < length stores → StoresAll (take i stores) old mid
    → StoresPart (get_or stores i no_file).0 (get_or stores i no_file).1 mid new → StoresFront (get_or stores i no_file).0 stores old new
front_of stores i old mid new within before part = record {
  made = take i stores;
  bytes = (get_or stores i no_file).1;
  left = drop (suc i) stores;
  split = split_at stores i no_file within;
  part = part_of (take i stores) (get_or stores i no_file).0 (get_or stores i no_file).1 old mid new before part;
}

both_front : (stores : List File) (i : ℕ) (old mid new : Option Names) → i < length stores → Both (StoresAll (take i stores)) old mid
    → Both (StoresPart (get_or stores i no_file).0 (get_or stores i no_file).1) mid new → Both (StoresFront (get_or stores i no_file).0 stores) old new
both_front stores i None None None within before part = tt
both_front stores i None None (Some n) within before part = part
both_front stores i None (Some m) new within before part = absurd before
both_front stores i (Some o) None new within before part = absurd before
both_front stores i (Some o) (Some m) None within before part = part
both_front stores i (Some o) (Some m) (Some n) within before part = front_of stores i o m n within before part

-- the stores of a list up to one that failed
pub stored_front : (stores : List File) (i : ℕ) (name bytes : List ℕ) (old mid new : Option Names) → i < length stores → name ≡ (get_or stores i no_file).0
    → bytes ≡ (get_or stores i no_file).1
    → Both (StoresAll (take i stores)) old mid → Both (StoresPart name bytes) mid new → Both (StoresFront (get_or stores i no_file).0 stores) old new
stored_front stores i name bytes old mid new within is_name is_bytes before part = both_front stores i old mid new within before
    (rw (sym is_name, sym is_bytes) part)

-- the name of one of the stores
pub name_of_store : (stores : List File) (i : ℕ) → i < length stores → Contains (map (λ (s : File). s.0) stores) (get_or stores i no_file).0
name_of_store stores i within =
    subst (Contains (map (λ (s : File). s.0) stores)) (get_or-map (λ (s : File). s.0) stores i no_file [] within)
    (Contains-get_or (map (λ (s : File). s.0) stores) i [] (rw (length-map stores (λ (s : File). s.0)) within))

abbrev numbers : ℕ → ℕ → ℕ → FileFaults
numbers a b c = record { opens = a; reads = b; stores = c }

-- three numbers that stay
pub quiet_stores : (before now : FileFaults) → now.opens ≡ before.opens → now.reads ≡ before.reads → now.stores ≡ before.stores → now ≡ before
quiet_stores before now opens reads stores =
    ap (λ (n : ℕ). numbers n now.reads now.stores) opens ∙ ap (λ (n : ℕ). numbers before.opens n now.stores) reads
    ∙ ap (λ (n : ℕ). numbers before.opens before.reads n) stores
