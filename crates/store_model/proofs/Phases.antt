-- The phases of one replacement, before any is made.
use Rattle.std.proofs.Common.{◌≡◌, ℕ, ◌++◌, true, false, List, [], ◌∷◌, None, Some, refl, sym, subst, ap, ◌∙◌}
use Rattle.std.proofs.Common.{append_assoc}
use Rattle.std.proofs.lemmas.List.{append-nil}
use Rattle.store_model.specs.Phases.{Erases, Frees, Marks, Replaces, Writes, Zeros}
use Rattle.store_model.specs.Phases.{Phase, has_commit, held_in, taken_in, erasing, writing, planned_in}
use Rattle.store_model.specs.Phases.{behind, OnlyMend, replaced}
use Rattle.super_block.specs.declared.page.Super.{Super}
use Rattle.store_model.specs.Maps.{Metas, Chains, Map}
use Rattle.store_model.specs.StoreState.{StoreState}
use Rattle.store_model.specs.Jobs.{Anything, AreOldPages, zeros_in, Lays, Keeps, Does, IsLeftOfInsert}
use Rattle.page_disk.specs.Disk.{Image}
use Rattle.volume_model.specs.Xattrs.{Xattrs}
use Rattle.md_chain.specs.Chain.{is_among}
use Rattle.volume_model.specs.declared.command.Command.{Command}
use Rattle.store_model.proofs.LeftToDo.{among_left}
use Rattle.store_model.proofs.Sets.{among_first, among_later}

-- ---- pages behind a head

pub commit_behind : (fresh : List ℕ) (rest : List Phase) → has_commit (writing fresh rest) ≡ has_commit rest
commit_behind [] rest = refl
commit_behind (p ∷ ps) rest = commit_behind ps rest

pub held_behind : (fresh : List ℕ) (rest : List Phase) → held_in (writing fresh rest) ≡ held_in rest
held_behind [] rest = refl
held_behind (p ∷ ps) rest = held_behind ps rest

pub taken_behind : (fresh : List ℕ) (rest : List Phase) → taken_in (writing fresh rest) ≡ taken_in rest
taken_behind [] rest = refl
taken_behind (p ∷ ps) rest = taken_behind ps rest

pub does_behind : (Holds : Image → Type 0) (s : Super) (base : Metas) (live : Map Xattrs) (command : Command)
    (fresh : List ℕ)
    (rest : List Phase)
    → Does Holds s base live command rest → Does Holds s base live command (writing fresh rest)
does_behind Holds s base live command [] rest does = does
does_behind Holds s base live command (p ∷ ps) rest does = does_behind Holds s base live command ps rest does

pub leads_behind : (base : Metas) (fresh : List ℕ) (rest : List Phase)
    → behind base (writing fresh rest) ≡ behind base rest
leads_behind base [] rest = refl
leads_behind base (p ∷ ps) rest = leads_behind base ps rest

pub keeps_behind : (base : Metas) (fresh : List ℕ) (rest : List Phase) → Keeps base rest
    → Keeps base (writing fresh rest)
keeps_behind base [] rest keeps = keeps
keeps_behind base (p ∷ ps) rest keeps = keeps_behind base ps rest keeps

pub mends_behind : (fresh : List ℕ) (rest : List Phase) → OnlyMend rest → OnlyMend (writing fresh rest)
mends_behind [] rest mends = mends
mends_behind (p ∷ ps) rest mends = mends_behind ps rest mends

pub puts_behind : (p : StoreState) (row : ℕ) (fresh : List ℕ) (rest : List Phase) → IsLeftOfInsert p row rest
    → IsLeftOfInsert p row (writing fresh rest)
puts_behind p row [] rest puts = puts
puts_behind p row (x ∷ xs) rest puts = puts_behind p row xs rest puts

pub lays_behind : (s : Super) (base : Metas) (chains : Chains) (claimed written fresh : List ℕ) (rest : List Phase)
    → Lays s base chains claimed (written ++ fresh) rest → Lays s base chains claimed written (writing fresh rest)
lays_behind s base chains claimed written [] rest lays =
    subst (λ w. Lays s base chains claimed w rest) (append-nil written) lays
lays_behind s base chains claimed written (p ∷ ps) rest lays =
    lays_behind s base chains claimed (written ++ p ∷ []) ps rest
    (subst (λ w. Lays s base chains claimed w rest) (sym (append_assoc written (p ∷ []) ps)) lays)

-- ---- old pages, and what comes behind them

pub commit_old : (old places : List ℕ) (others : List Phase)
    → has_commit (erasing old places others) ≡ has_commit others
commit_old old [] others = refl
commit_old old (p ∷ []) others = refl
commit_old old (p ∷ q ∷ ps) others = commit_old old (q ∷ ps) others

pub taken_old : (old places : List ℕ) (others : List Phase) → taken_in (erasing old places others) ≡ taken_in others
taken_old old [] others = refl
taken_old old (p ∷ []) others = refl
taken_old old (p ∷ q ∷ ps) others = taken_old old (q ∷ ps) others

-- they are held, and what the others take, which begin with no old page
pub held_old : (old places : List ℕ) (others : List Phase) → (places ≡ [] → old ≡ [])
    → held_in others ≡ taken_in others → held_in (erasing old places others) ≡ old ++ taken_in others
held_old old [] others same begin = begin ∙ ap (λ l. l ++ taken_in others) (sym (same refl))
held_old old (p ∷ []) others same begin = refl
held_old old (p ∷ q ∷ ps) others same begin = held_old old (q ∷ ps) others (λ bad. absurd (cc bad)) begin

pub old_pages : (old places : List ℕ) → AreOldPages (erasing old places [])
old_pages old [] = tt
old_pages old (p ∷ []) = tt
old_pages old (p ∷ q ∷ ps) = old_pages old (q ∷ ps)

pub keeps_old : (base : Metas) (old places : List ℕ) (others : List Phase) → Keeps base others
    → Keeps base (erasing old places others)
keeps_old base old [] others keeps = keeps
keeps_old base old (p ∷ []) others keeps = keeps
keeps_old base old (p ∷ q ∷ ps) others keeps = keeps_old base old (q ∷ ps) others keeps

pub does_old : (Holds : Image → Type 0) (s : Super) (base : Metas) (live : Map Xattrs) (command : Command)
    (old places : List ℕ) (others : List Phase) → Does Holds s base live command others
    → Does Holds s base live command (erasing old places others)
does_old Holds s base live command old [] others does = does
does_old Holds s base live command old (p ∷ []) others does = does
does_old Holds s base live command old (p ∷ q ∷ ps) others does =
    does_old Holds s base live command old (q ∷ ps) others does

pub mends_clearing : (old places : List ℕ) → OnlyMend (erasing old places [])
mends_clearing old [] = tt
mends_clearing old (p ∷ []) = tt
mends_clearing old (p ∷ q ∷ ps) = mends_clearing old (q ∷ ps)

pub leads_old : (base : Metas) (old places : List ℕ) (others : List Phase)
    → behind base (erasing old places others) ≡ behind base others
leads_old base old [] others = refl
leads_old base old (p ∷ []) others = refl
leads_old base old (p ∷ q ∷ ps) others = leads_old base old (q ∷ ps) others

pub lays_old : (s : Super) (base : Metas) (chains : Chains) (old places : List ℕ) (others : List Phase)
    → ((x : ℕ) → is_among x places ≡ true → is_among x old ≡ true) → held_in others ≡ taken_in others
    → Lays s base chains [] [] others → Lays s base chains [] [] (erasing old places others)
lays_old s base chains old [] others all begin lays = lays
lays_old s base chains old (p ∷ []) others all begin lays = (refl, all p (among_first p []), begin, lays)
lays_old s base chains old (p ∷ q ∷ ps) others all begin lays = (
  refl,
  ap (is_among p) (held_old old (q ∷ ps) others (λ bad. absurd (cc bad)) begin)
      ∙ among_left p old (taken_in others) (all p (among_first p (q ∷ ps))),
  lays_old s base chains old (q ∷ ps) others (λ x among. all x (among_later x p (q ∷ ps) among)) begin lays,
)

-- ---- old pages, which are the last of a job

pub no_commit : (old places : List ℕ) → has_commit (erasing old places []) ≡ false
no_commit old places = commit_old old places []

pub keeps_clearing : (base : Metas) (old places : List ℕ) → Keeps base (erasing old places [])
keeps_clearing base old places = keeps_old base old places [] tt

-- none is a page of zeros
pub no_zeros : (old places : List ℕ) → zeros_in (erasing old places []) ≡ []
no_zeros old [] = refl
no_zeros old (p ∷ []) = refl
no_zeros old (p ∷ q ∷ ps) = no_zeros old (q ∷ ps)

pub zeros_behind : (fresh : List ℕ) (rest : List Phase) → zeros_in (writing fresh rest) ≡ zeros_in rest
zeros_behind [] rest = refl
zeros_behind (p ∷ ps) rest = zeros_behind ps rest

-- ---- what is known behind the pages

pub lays_reached : (s : Super) (base : Metas) (chains : Chains) (claimed written fresh : List ℕ) (rest : List Phase)
    → Lays s base chains claimed written (writing fresh rest) → Lays s base chains claimed (written ++ fresh) rest
lays_reached s base chains claimed written [] rest lays =
    subst (λ w. Lays s base chains claimed w rest) (sym (append-nil written)) lays
lays_reached s base chains claimed written (p ∷ ps) rest lays =
    subst (λ w. Lays s base chains claimed w rest) (append_assoc written (p ∷ []) ps)
    (lays_reached s base chains claimed (written ++ p ∷ []) ps rest lays)

pub does_reached : (Holds : Image → Type 0) (s : Super) (base : Metas) (live : Map Xattrs) (command : Command)
    (fresh : List ℕ)
    (rest : List Phase)
    → Does Holds s base live command (writing fresh rest) → Does Holds s base live command rest
does_reached Holds s base live command [] rest does = does
does_reached Holds s base live command (p ∷ ps) rest does = does_reached Holds s base live command ps rest does

-- what does a command has its commit to come
pub does_commit : (Holds : Image → Type 0) (s : Super) (base : Metas) (live : Map Xattrs) (command : Command)
    (todo : List Phase) → Does Holds s base live command todo → has_commit todo ≡ true
does_commit Holds s base live command [] does = absurd does
does_commit Holds s base live command (Marks ∷ rest) does = does_commit Holds s base live command rest does
does_commit Holds s base live command (Zeros page ∷ rest) does = does_commit Holds s base live command rest does
does_commit Holds s base live command (Writes place ∷ rest) does = does_commit Holds s base live command rest does
does_commit Holds s base live command (Replaces r None ∷ rest) does =
    does_commit Anything s (replaced base r) live command rest does.1
does_commit Holds s base live command (Replaces r (Some commit) ∷ rest) does = refl
does_commit Holds s base live command (Erases place ∷ rest) does = does_commit Holds s base live command rest does
does_commit Holds s base live command (Frees place old ∷ rest) does = does_commit Holds s base live command rest does

-- what is known of all devices is known of these
pub does_anywhere : (Holds : Image → Type 0) (s : Super) (base : Metas) (live : Map Xattrs) (command : Command)
    (todo : List Phase) → Does Anything s base live command todo → Does Holds s base live command todo
does_anywhere Holds s base live command [] does = does
does_anywhere Holds s base live command (Marks ∷ rest) does = does_anywhere Holds s base live command rest does
does_anywhere Holds s base live command (Zeros page ∷ rest) does = does_anywhere Holds s base live command rest does
does_anywhere Holds s base live command (Writes place ∷ rest) does = does_anywhere Holds s base live command rest does
does_anywhere Holds s base live command (Replaces r None ∷ rest) does = does
does_anywhere Holds s base live command (Replaces r (Some commit) ∷ rest) does = (
  record {
    metadata = does.0.metadata;
    done = does.0.done;
    allowed = does.0.allowed;
    may_fail = does.0.may_fail;
    shows = λ image holds. does.0.shows image tt;
    lives = does.0.lives;
    writable = does.0.writable;
    renews = does.0.renews;
    numbers = does.0.numbers;
    leaves = does.0.leaves;
  },
  does.1,
  does.2,
)
does_anywhere Holds s base live command (Erases place ∷ rest) does = does_anywhere Holds s base live command rest does
does_anywhere Holds s base live command (Frees place old ∷ rest) does =
    does_anywhere Holds s base live command rest does

pub planned_behind : (fresh : List ℕ) (rest : List Phase) (place : ℕ)
    → planned_in (writing fresh rest) place ≡ planned_in rest place
planned_behind [] rest place = refl
planned_behind (p ∷ ps) rest place = planned_behind ps rest place

-- ---- a repair

-- it has no commit
pub mends_no_commit : (todo : List Phase) → OnlyMend todo → has_commit todo ≡ false
mends_no_commit [] mends = refl
mends_no_commit (Marks ∷ rest) mends = mends_no_commit rest mends
mends_no_commit (Zeros page ∷ rest) mends = mends_no_commit rest mends
mends_no_commit (Writes place ∷ rest) mends = mends_no_commit rest mends
mends_no_commit (Replaces r None ∷ rest) mends = mends_no_commit rest mends.1
mends_no_commit (Replaces r (Some commit) ∷ rest) mends = absurd mends
mends_no_commit (Erases place ∷ rest) mends = mends_no_commit rest mends
mends_no_commit (Frees place old ∷ rest) mends = mends_no_commit rest mends

-- ---- behind an insert

-- behind its replacement nothing is to be put
pub puts_none : (p : StoreState) (row : ℕ) (todo : List Phase) → AreOldPages todo → IsLeftOfInsert p row todo
puts_none p row [] old = tt
puts_none p row (Erases place ∷ rest) old = puts_none p row rest old
puts_none p row (Frees place places ∷ rest) old = puts_none p row rest old
puts_none p row (Replaces r commit ∷ rest) old = absurd old
puts_none p row (Marks ∷ rest) old = absurd old
puts_none p row (Zeros page ∷ rest) old = absurd old
puts_none p row (Writes place ∷ rest) old = absurd old
