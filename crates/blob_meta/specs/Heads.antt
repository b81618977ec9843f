-- The heads of a finite map, in order, and the names of its values.
use Rattle.std.specs.Prelude.{◌≡◌, ℕ, ◌≤◌, ◌<◌, Bool, true, false, List, [], length, map as each, Option, IsSome, None}
use Rattle.std.specs.Prelude.{IsTrue}
use Rattle.std.specs.Option.{option_map_or}
use Rattle.std.specs.Str.{bytes_eq}
use Rattle.std.specs.List.{AllWithin, HoldsAt}
use Rattle.std.specs.Ordering.{nat_cmp}
use Rattle.std.specs.FinMap as map
use Rattle.crc32c.specs.Crc.{crc32c_of}

-- the least head that isn't below this one
pub record IsNextFrom {V : Type 0} (m : map.FinMap nat_cmp V) (head next : ℕ) : Type 0 where
  pub there : IsSome (map.get m next)
  pub above : head ≤ next
  pub none_between : (h : ℕ) → head ≤ h → h < next → map.get m h ≡ None

-- no key from this one on
abbrev pub HasNoKeyFrom : {V : Type 0} → map.FinMap nat_cmp V → ℕ → Type 0
HasNoKeyFrom m head = (h : ℕ) → head ≤ h → map.get m h ≡ None

-- the heads of the entries rise. Clauses of public calls see no entries
abbrev pub IsInOrder : {V : Type 0} → List (ℕ × V) → Type 0
IsInOrder entries = IsTrue (map.is_sorted nat_cmp entries)

-- ---- names

-- the value is there, and this is its name
abbrev pub has_name : {V : Type 0} → (V → List ℕ) → List ℕ → Option V → Bool
has_name name_of name value = option_map_or (λ v. bytes_eq (name_of v) name) value false

-- the least head, from this one on, of a value of the name
pub record IsNextNamed {V : Type 0} (name_of : V → List ℕ) (name : List ℕ) (m : map.FinMap nat_cmp V) (head next : ℕ)
    : Type 0 where
  pub there : has_name name_of name (map.get m next) ≡ true
  pub above : head ≤ next
  pub none_between : (h : ℕ) → head ≤ h → h < next → has_name name_of name (map.get m h) ≡ false

-- no value of the name from this head on
abbrev pub HasNoNameFrom : {V : Type 0} → (V → List ℕ) → List ℕ → map.FinMap nat_cmp V → ℕ → Type 0
HasNoNameFrom name_of name m head = (h : ℕ) → head ≤ h → has_name name_of name (map.get m h) ≡ false

-- the checksum of the name of an entry's value
abbrev pub sum_of : {V : Type 0} → (V → List ℕ) → ℕ × V → ℕ
sum_of name_of e = crc32c_of (name_of e.1)

-- the checksums of entries, in their order
abbrev pub sums_of : {V : Type 0} → (V → List ℕ) → List (ℕ × V) → List ℕ
sums_of name_of entries = each (sum_of name_of) entries

-- the first place, from this one on, of an entry of the name
pub record IsFirstNamed {V : Type 0} (name_of : V → List ℕ) (name : List ℕ) (entries : List (ℕ × V)) (first place : ℕ)
    : Type 0 where
  pub from : first ≤ place
  pub within : place < length entries
  pub there : HoldsAt (λ e. bytes_eq (name_of e.1) name ≡ true) entries place
  pub none_between : AllWithin (λ e. bytes_eq (name_of e.1) name ≡ false) entries first place

-- What a map keeps: entries whose heads rise, and their checksums. Clauses of public calls see neither
pub record AreKept {V : Type 0} (name_of : V → List ℕ) (entries : List (ℕ × V)) (sums : List ℕ) : Type 0 where
  pub in_order : IsInOrder entries
  pub summed : sums ≡ sums_of name_of entries

-- What room keeps: no entry and no checksum, and memory for as many of these as of those
pub record IsRoom {V : Type 0} (entries : List (ℕ × V)) (sums : List ℕ) (memory sums_memory : ℕ) : Type 0 where
  pub entries_none : entries ≡ []
  pub sums_none : sums ≡ []
  pub same : sums_memory ≡ memory
