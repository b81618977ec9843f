-- The repairs by which recovery makes resolved metadata of what it finds: replacements, made one after another.
use Rattle.std.specs.Prelude.{◌≡◌, ℕ, ◌==◌, ◌<◌, ◌≤◌, ◌^◌, Bool, false, not, if◌then◌else◌, Option, Some, None, IsSome}
use Rattle.std.specs.Prelude.{List, [], ◌∷◌, ◌++◌, filter, map}
use Rattle.std.specs.List.{range_with_len}
use Rattle.std.specs.Option.{option_map, option_map_or, option_and_then}
use Rattle.std.specs.Ordering.{nat_cmp}
use Rattle.std.specs.FinMap.{FinMap, get}
use Rattle.blob_meta.specs.declared.meta.Meta.{Meta}
use Rattle.blob_meta.specs.declared.job.Replacement.{Replacement}
use Rattle.blob_meta.specs.Resolving.{mark_of, is_kept, resolved}

-- ---- replacements, one after another

-- the blob at one head replaced, or erased
abbrev pub with_replacement : (ℕ → Option Meta) → Replacement → ℕ → Option Meta
with_replacement metas x head = if head == x.head then x.new else metas head

-- the metadata after a list of replacements
abbrev pub after : (ℕ → Option Meta) → List Replacement → ℕ → Option Meta
after metas [] = metas
after metas (x ∷ list) = after (with_replacement metas x) list

-- ---- marked blobs

-- whether the marked blob at a head is kept, if there is one
abbrev pub keeps : (ℕ → Option Meta) → ℕ → Option Bool
keeps metas head = option_map (is_kept metas head) (option_and_then mark_of (metas head))

-- a marked blob that is kept
abbrev pub has_kept_mark : (ℕ → Option Meta) → ℕ → Bool
has_kept_mark metas head = option_map_or (λ kept. kept) (keeps metas head) false

-- a marked blob that isn't
abbrev pub is_removed : (ℕ → Option Meta) → ℕ → Bool
is_removed metas head = option_map_or not (keeps metas head) false

-- the blobs that recovery removes, as they are
abbrev pub removed : (ℕ → Option Meta) → ℕ → Option Meta
removed metas head = if is_removed metas head then metas head else None

-- no blob has a mark
abbrev pub HasNoMarks : (ℕ → Option Meta) → Type 0
HasNoMarks metas = (head : ℕ) (m : Meta) → metas head ≡ Some m → mark_of m ≡ None

-- ---- repairs

-- the heads that pass, ascending, of those below a number
abbrev pub heads_where : ℕ → (ℕ → Bool) → List ℕ
heads_where md_len test = filter test (range_with_len 0 md_len)

-- a repair gives a head what is resolved there: the blob without its marks, or none
abbrev pub repair_at : (ℕ → Option Meta) → ℕ → Replacement
repair_at metas head = record { head = head; new = resolved metas head }

-- first the kept marks, heads ascending, then the erasures, heads ascending, in a store with so many metadata pages
abbrev pub repairs : ℕ → (ℕ → Option Meta) → List Replacement
repairs md_len metas =
    map (repair_at metas) (heads_where md_len (has_kept_mark metas) ++ heads_where md_len (is_removed metas))

-- every head is below the number of metadata pages
abbrev pub HasHeadsBelow : ℕ → (ℕ → Option Meta) → Type 0
HasHeadsBelow md_len metas = (head : ℕ) → IsSome (metas head) → head < md_len

-- these are the heads that pass, whatever the number of metadata pages, of at most 2^32, below which all heads are
abbrev pub AreHeadsWhere : FinMap nat_cmp Meta → ((ℕ → Option Meta) → ℕ → Bool) → List ℕ → Type 0
AreHeadsWhere metas test heads = (md_len : ℕ) → md_len ≤ 2 ^ 32 → HasHeadsBelow md_len (get metas)
    → heads ≡ heads_where md_len (test (get metas))

-- these are the repairs, whatever the number of metadata pages, of at most 2^32, below which all heads are
abbrev pub AreRepairs : FinMap nat_cmp Meta → List Replacement → Type 0
AreRepairs metas list = (md_len : ℕ) → md_len ≤ 2 ^ 32 → HasHeadsBelow md_len (get metas)
    → list ≡ repairs md_len (get metas)
