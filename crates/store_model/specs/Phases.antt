-- What a job does: replacements of metadata, one after another, by phases of which each is one turn.
use Rattle.std.specs.Prelude.{◌≡◌, ℕ, ◌-◌, ◌==◌, if◌then◌else◌, Bool, true, false, List, [], ◌∷◌, ◌++◌, Option, Some}
use Rattle.std.specs.Prelude.{None}
use Rattle.std.specs.Option.{option_map, option_map_or}
use Rattle.volume_model.specs.declared.reply.Reply.{Reply}
use Rattle.blob_meta.specs.declared.meta.Meta.{Meta}
use Rattle.blob_meta.specs.Resolving.{mark_of}
use Rattle.md_chain.specs.Chain.{Look}
use Rattle.md_chain.specs.declared.plan.PlannedPage.{PlannedPage}
use Rattle.volume_model.specs.Xattrs.{Xattrs}
use Rattle.store_model.specs.Maps.{Map, Metas, Chains, with_option}

-- The metadata of the blob at a head replaced by new metadata, or, where there is none, the blob erased, as it is laid
-- on pages: the head's page is replaced in place, those behind it go to fresh places, and those that stood behind it
-- are erased.
pub record Replacing : Type 0 where
  pub head : ℕ
  pub new : Option Meta
  -- the blob is new, so that its head is one of the places that are taken
  pub makes : Bool
  -- the places behind the head, and the pages of the new chain, the head's first
  pub fresh : List ℕ
  pub planned : List PlannedPage
  -- the places that stood behind the head, and the clusters that no map has any more
  pub old : List ℕ
  pub freed : List ℕ

-- The attributes of the volume at a head as they are read from a commit on; none where it is gone.
pub record LiveChange : Type 0 where
  pub head : ℕ
  pub xattrs : Option Xattrs

-- What a commit makes: the reply that is logged with it, the one volume whose attributes are others as they are read
-- from then on, if there is one, and the blobs whose generations it renews.
pub record Committing : Type 0 where
  pub reply : Reply
  pub live : Option LiveChange
  pub renews : List ℕ

-- One turn of a job. The super block says that the store is in use; a page of a claimed cluster is overwritten with
-- zeros; a page of the next chain goes to its fresh place; a head's page is replaced, which may be the job's commit;
-- an old page is overwritten with zeros; the last of them is, and behind a flush all are clear.
pub data Phase : Type 0 where
  Marks : Phase
  Zeros : (page : ℕ) → Phase
  Writes : (place : ℕ) → Phase
  Replaces : (replacing : Replacing) (commit : Option Committing) → Phase
  Erases : (place : ℕ) → Phase
  Frees : (place : ℕ) (old : List ℕ) → Phase

-- the store is marked as in use, where it is clean, and then come these
abbrev pub marking : Bool → List Phase → List Phase
marking true others = Marks ∷ others
marking false others = others

-- pages go to these fresh places, and then come the others
abbrev pub writing : List ℕ → List Phase → List Phase
writing [] others = others
writing (place ∷ places) others = Writes place ∷ writing places others

-- these old places are erased one after another, and all old ones are clear behind the last; then come the others
abbrev pub erasing : List ℕ → List ℕ → List Phase → List Phase
erasing old [] others = others
erasing old (place ∷ []) others = Frees place old ∷ others
erasing old (place ∷ next ∷ places) others = Erases place ∷ erasing old (next ∷ places) others

-- one replacement: the fresh pages, the head, and the old pages
abbrev pub phases_of : Replacing → Option Committing → List Phase → List Phase
phases_of r commit others = writing r.fresh (Replaces r commit ∷ erasing r.old r.old others)

-- all of a list, of which the one with this number, from 1, is the commit
abbrev pub todo_of : List Replacing → ℕ → Committing → List Phase
todo_of [] number commit = []
todo_of (r ∷ rs) number commit =
    phases_of r (if number == 1 then Some commit else None) (todo_of rs (number - 1) commit)

-- whether the commit is still to come
abbrev pub has_commit : List Phase → Bool
has_commit [] = false
has_commit (Replaces r commit ∷ rest) = option_map_or (λ x. true) commit (has_commit rest)
has_commit (_ ∷ rest) = has_commit rest

-- the next replacement
abbrev pub next_replacing : List Phase → Option Replacing
next_replacing [] = None
next_replacing (Replaces r commit ∷ rest) = Some r
next_replacing (_ ∷ rest) = next_replacing rest

-- the page that is planned for a place
abbrev pub page_in : List PlannedPage → Look
page_in [] place = []
page_in (x ∷ xs) place = if place == x.place then x.page else page_in xs place

-- the pages that are planned for the next replacement
abbrev pub planned_in : List Phase → Look
planned_in [] place = []
planned_in (Replaces r commit ∷ rest) place = page_in r.planned place
planned_in (_ ∷ rest) place = planned_in rest place

-- the places that a replacement takes
abbrev pub taken_by : Replacing → List ℕ
taken_by r = if r.makes then r.head ∷ r.fresh else r.fresh

-- the chain that stands at the head before a replacement: none where the blob is new
abbrev pub chain_before : Replacing → Option (List ℕ)
chain_before r = if r.makes then None else Some (r.head ∷ r.old)

-- the places that all replacements to come take
abbrev pub taken_in : List Phase → List ℕ
taken_in [] = []
taken_in (Replaces r commit ∷ rest) = taken_by r ++ taken_in rest
taken_in (_ ∷ rest) = taken_in rest

-- the places that what is left of a job holds: those that it takes for chains to come, and old ones that aren't clear
-- yet
abbrev pub held_in : List Phase → List ℕ
held_in [] = []
held_in (Replaces r commit ∷ rest) = taken_by r ++ taken_in rest
held_in (Frees place old ∷ rest) = old ++ taken_in rest
held_in (_ ∷ rest) = held_in rest

-- the metadata and the chains once the replacement is made
abbrev pub replaced : Metas → Replacing → Metas
replaced base r = with_option base r.head r.new

abbrev pub rechained : Chains → Replacing → Chains
rechained chains r = with_option chains r.head (option_map (λ m. r.head ∷ r.fresh) r.new)

-- the metadata once all replacements of these phases are made
abbrev pub behind : Metas → List Phase → Metas
behind base [] = base
behind base (Replaces r commit ∷ rest) = behind (replaced base r) rest
behind base (_ ∷ rest) = behind base rest

-- no replacement of these phases is a commit, or gives a blob a mark
abbrev pub OnlyMend : List Phase → Type 0
OnlyMend [] = Unit {0}
OnlyMend (Replaces r None ∷ rest) = ((m : Meta) → r.new ≡ Some m → mark_of m ≡ None) × OnlyMend rest
OnlyMend (Replaces r (Some commit) ∷ rest) = ⊥
OnlyMend (_ ∷ rest) = OnlyMend rest

-- the attributes as they are read behind a commit
abbrev pub with_live : Map Xattrs → Option LiveChange → Map Xattrs
with_live live None = live
with_live live (Some change) = with_option live change.head change.xattrs
