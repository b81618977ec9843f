-- What is left of a job: its next replacement, and the places that its phases write to.
use Rattle.std.proofs.Common.{◌≡◌, ◌≢◌, ◌⊎◌, ℕ, ◌++◌, true, false, List, [], ◌∷◌, Option, None, Some, inl, inr, sym}
use Rattle.std.proofs.Common.{subst, ap, ◌∙◌, refl}
use Rattle.store_model.specs.Places.{AreDistinct, claimed_by, held_by}
use Rattle.store_model.specs.Phases.{Replacing, taken_by, Phase, Writes, held_in, next_replacing, page_in, has_commit}
use Rattle.store_model.specs.Phases.{chain_before, planned_in, Erases, Zeros, Replaces, taken_in, Frees, Marks}
use Rattle.store_model.specs.Phases.{replaced}
use Rattle.super_block.specs.declared.page.Super.{Super}
use Rattle.md_chain.specs.Chain.{is_among, Look}
use Rattle.store_model.specs.StoreState.{JobState, going_on, planned_at, waiting, Service, ForCommand, ForInsert}
use Rattle.store_model.specs.Maps.{Metas, Chains, Map}
use Rattle.store_model.proofs.Sets.{among_either, among_later, among_first}
use Rattle.std.proofs.lemmas.Bool.{cases_Bool, both_ways}
use Rattle.store_model.specs.Rows.{Rows}
use Rattle.store_model.specs.Jobs.{Anything, gained_by, inserted_by, Lays, CanReplace, Does, shown_of}
use Rattle.md_chain.specs.declared.plan.PlannedPage.{PlannedPage}
use Rattle.volume_model.specs.Xattrs.{Xattrs}
use Rattle.volume_model.specs.declared.command.Command.{Command}
use Rattle.store_model.specs.Scans.{is_head}
use Rattle.store_model.specs.Turning.{put_by}
use Rattle.page_disk.specs.Disk.{Image}
use Rattle.blob_meta.specs.declared.meta.Meta.{Meta}
use Rattle.volume_model.specs.Steps.{Allowed}
use Rattle.store_model.proofs.JobPages.{fresh_no_head, zeros_no_head}
use Rattle.store_model.specs.Shown.{fixed_of}
use Rattle.store_model.specs.Regions.{region_of}
use Rattle.volume_model.specs.Volumes.{zero_page, Fixed, Volumes}
use Rattle.volume_model.specs.declared.command.Command.TheVariants as c
use Rattle.volume_model.specs.declared.reply.Reply.TheVariants as r
use Rattle.store_model.specs.StoreState.{ForCommand, ForInsert, ForRepair, Service}

-- ---- places of lists put together

pub among_left : (x : ℕ) (ps qs : List ℕ) → is_among x ps ≡ true → is_among x (ps ++ qs) ≡ true
among_left x [] qs is = absurd (cc is)
among_left x (p ∷ ps) qs is = elim (among_either x p ps is) [
  | inl e ↦ subst (λ y. is_among y (p ∷ (ps ++ qs)) ≡ true) (sym e) (among_first p (ps ++ qs))
  | inr later ↦ among_later x p (ps ++ qs) (among_left x ps qs later)
]

pub among_right : (x : ℕ) (ps qs : List ℕ) → is_among x qs ≡ true → is_among x (ps ++ qs) ≡ true
among_right x [] qs is = is
among_right x (p ∷ ps) qs is = among_later x p (ps ++ qs) (among_right x ps qs is)

pub among_split : (x : ℕ) (ps qs : List ℕ) → is_among x (ps ++ qs) ≡ true
    → (is_among x ps ≡ true) ⊎ (is_among x qs ≡ true)
among_split x [] qs is = inr is
among_split x (p ∷ ps) qs is = elim (among_either x p (ps ++ qs) is) [
  | inl e ↦ inl (subst (λ y. is_among y (p ∷ ps) ≡ true) (sym e) (among_first p ps))
  | inr later ↦ elim (among_split x ps qs later) [ inl left ↦ inl (among_later x p ps left) | inr right ↦ inr right ]
]

pub distinct_right : (ps qs : List ℕ) → AreDistinct (ps ++ qs) → AreDistinct qs
distinct_right [] qs x = x
distinct_right (p ∷ ps) qs x = distinct_right ps qs x.1

pub distinct_left : (ps qs : List ℕ) → AreDistinct (ps ++ qs) → AreDistinct ps
distinct_left [] qs x = tt
distinct_left (p ∷ ps) qs x = (not_among_left p ps qs x.0, distinct_left ps qs x.1)
  where
    not_among_left : (y : ℕ) (ps qs : List ℕ) → is_among y (ps ++ qs) ≡ false → is_among y ps ≡ false
    not_among_left y ps qs none = elim (cases_Bool (is_among y ps)) [
      | inl among ↦ absurd (both_ways (is_among y (ps ++ qs)) none (among_left y ps qs among))
      | inr out ↦ out
    ]

-- no place of the first list is one of the second
pub distinct_apart : (ps qs : List ℕ) → AreDistinct (ps ++ qs) → (x : ℕ) → is_among x ps ≡ true → is_among x qs ≡ true
    → ⊥
distinct_apart [] qs d x left right = cc left
distinct_apart (p ∷ ps) qs d x left right = elim (among_either x p ps left) [
  | inl e ↦ both_ways (is_among p (ps ++ qs)) d.0 (among_right p ps qs (subst (λ y. is_among y qs ≡ true) e right))
  | inr later ↦ distinct_apart ps qs d.1 x later right
]

pub distinct_both : (ps qs : List ℕ) → AreDistinct ps → AreDistinct qs
    → ((x : ℕ) → is_among x ps ≡ true → is_among x qs ≡ true → ⊥)
    → AreDistinct (ps ++ qs)
distinct_both [] qs a b apart = b
distinct_both (p ∷ ps) qs a b apart =
    let first : is_among p (ps ++ qs) ≡ false = elim (cases_Bool (is_among p (ps ++ qs))) [
      | inl among ↦ elim (among_split p ps qs among) [
        | inl left ↦ absurd (both_ways (is_among p ps) a.0 left)
        | inr right ↦ absurd (apart p (among_first p ps) right)
      ]
      | inr out ↦ out
    ] in
    (first, distinct_both ps qs a.1 b (λ x left right. apart x (among_later x p ps left) right))

pub no_place : (ps : List ℕ) (place : ℕ) → is_among place ps ≡ true → ps ≡ [] → ⊥
no_place ps place among none =
    let bad : is_among place [] ≡ true = subst (λ l. is_among place l ≡ true) none among in cc bad

-- ---- the next replacement

pub chain_new : (r : Replacing) → r.makes ≡ true → chain_before r ≡ None
chain_new r makes = rw makes refl

pub chain_there : (r : Replacing) → r.makes ≡ false → chain_before r ≡ Some (r.head ∷ r.old)
chain_there r there = rw there refl

pub among_taken : (r : Replacing) (place : ℕ) → is_among place r.fresh ≡ true → is_among place (taken_by r) ≡ true
among_taken r place among = elim (cases_Bool r.makes) [
  | inl makes ↦ rw makes (among_later place r.head r.fresh among)
  | inr there ↦ rw there among
]

module _ (s : Super) (base : Metas) (chains : Chains) (claimed : List ℕ) where
  -- where pages are written, a replacement follows that they are planned for
  pub record HasNext (written : List ℕ) (next : Option Replacing) (planned : Look) (held : List ℕ) : Type 0 where
    pub replacing : Replacing
    pub is : next ≡ Some replacing
    pub planned_is : (place : ℕ) → planned place ≡ page_in replacing.planned place
    pub can : CanReplace s base chains claimed replacing.fresh replacing
    pub fresh : (place : ℕ) → is_among place written ≡ true → is_among place replacing.fresh ≡ true
    pub is_held : (place : ℕ) → is_among place replacing.fresh ≡ true → is_among place held ≡ true

  pub next_of : (todo : List Phase) (written : List ℕ) (place : ℕ) → is_among place written ≡ true
      → Lays s base chains claimed written todo
      → HasNext written (next_replacing todo) (planned_in todo) (held_in todo)
  next_of [] written place among lays = absurd (no_place written place among lays.0)
  next_of (Marks ∷ rest) written place among lays = next_of rest written place among lays.1
  next_of (Zeros page ∷ rest) written place among lays = next_of rest written place among lays.1
  next_of (Writes more ∷ rest) written place among lays =
      let later = next_of rest (written ++ more ∷ []) place (among_left place written (more ∷ []) among) lays in
      record {
        replacing = later.replacing;
        is = later.is;
        planned_is = later.planned_is;
        can = later.can;
        fresh = λ q is. later.fresh q (among_left q written (more ∷ []) is);
        is_held = later.is_held;
      }
  next_of (Replaces r commit ∷ rest) written place among lays = record {
    replacing = r;
    is = refl;
    planned_is = λ q. refl;
    can = subst (λ w. CanReplace s base chains claimed w r) lays.0.all lays.0;
    fresh = λ q is. subst (λ w. is_among q w ≡ true) lays.0.all is;
    is_held = λ q is. among_left q (taken_by r) (taken_in rest) (among_taken r q is);
  }
  next_of (Erases old ∷ rest) written place among lays = absurd (no_place written place among lays.0)
  next_of (Frees last old ∷ rest) written place among lays = absurd (no_place written place among lays.0)

  -- ---- a page that a phase writes

  -- it goes to a place that the job holds, and is no head
  pub record IsQuietPut (held : List ℕ) (put : PlannedPage) : Type 0 where
    pub is_held : is_among put.place held ≡ true
    pub quiet : is_head put.place put.page ≡ false

  pub fresh_quiet : (written : List ℕ) (place : ℕ) (rest : List Phase)
      → Lays s base chains claimed written (Writes place ∷ rest)
      → IsQuietPut (held_in rest) (record { place = place; page = planned_in rest place })
  fresh_quiet written place rest lays =
      let next = next_of rest (written ++ place ∷ []) place
      (among_right place written (place ∷ []) (among_first place [])) lays in
      let among = next.fresh place (among_right place written (place ∷ []) (among_first place [])) in
      record {
        is_held = next.is_held place among;
        quiet = ap (is_head place) (next.planned_is place) ∙ by next.replacing next.can among next.replacing.new refl;
      }
    where
      by : (r : Replacing) → CanReplace s base chains claimed r.fresh r → is_among place r.fresh ≡ true
          → (o : Option Meta) → r.new ≡ o
          → is_head place (page_in r.planned place) ≡ false
      by r can among None is = absurd (no_place r.fresh place among (can.gone is).0)
      by r can among (Some m) is =
          fresh_no_head (page_in r.planned) (region_of s) r.head m r.fresh place (can.says m is) among

  pub put_quiet : (j : JobState) (phase : Phase) (rest : List Phase) → j.todo ≡ phase ∷ rest
      → Lays s base chains claimed j.written j.todo
      → (put : PlannedPage) → put_by j phase ≡ Some put → IsQuietPut (held_in j.todo) put
  put_quiet j (Writes place) rest e lays put is =
      let x = fresh_quiet j.written place rest (subst (Lays s base chains claimed j.written) e lays) in
      let planned : planned_at j place ≡ planned_in rest place = ap (λ t. planned_in t place) e in
      let same : record { place = place; page = planned_at j place } ≡ put = cc is in
      subst (IsQuietPut (held_in j.todo)) same
      (record {
        is_held = ap (λ t. is_among place (held_in t)) e ∙ x.is_held;
        quiet = ap (is_head place) planned ∙ x.quiet;
      })
  put_quiet j (Erases place) rest e lays put is =
      let x = subst (Lays s base chains claimed j.written) e lays in
      let same : record { place = place; page = zero_page } ≡ put = cc is in
      subst (IsQuietPut (held_in j.todo)) same
      (record { is_held = ap (λ t. is_among place (held_in t)) e ∙ x.1; quiet = zeros_no_head place })
  put_quiet j (Frees place old) rest e lays put is =
      let x = subst (Lays s base chains claimed j.written) e lays in
      let same : record { place = place; page = zero_page } ≡ put = cc is in
      subst (IsQuietPut (held_in j.todo)) same
      (record {
        is_held = ap (λ t. is_among place (held_in t)) e ∙ among_left place old (taken_in rest) x.1;
        quiet = zeros_no_head place;
      })
  put_quiet j Marks rest e lays put is = absurd (cc is)
  put_quiet j (Zeros page) rest e lays put is = absurd (cc is)
  put_quiet j (Replaces r commit) rest e lays put is = absurd (cc is)

-- ---- the job once a phase is done

-- what goes on has something left
pub record GoesOn (j : JobState) (written : List ℕ) (rest : List Phase) (next : JobState) : Type 0 where
  pub is : next ≡ record j { written = written; todo = rest }
  pub some : rest ≢ []

pub goes_on_as : (j : JobState) (written : List ℕ) (rest : List Phase) (next : JobState)
    → going_on j written rest ≡ Some next → GoesOn j written rest next
goes_on_as j written [] next is = absurd (cc is)
goes_on_as j written (x ∷ xs) next is = record { is = cc is; some = λ e. cc e }

pub held_after : (j : JobState) (written : List ℕ) (rest : List Phase)
    → held_by (going_on j written rest) ≡ held_in rest
held_after j written [] = refl
held_after j written (x ∷ xs) = refl

-- a job that ends has no claim
pub claimed_after : (s : Super) (base : Metas) (chains : Chains) (rows : Rows) (j : JobState) (written : List ℕ)
    (rest : List Phase)
    → Lays s base chains (gained_by rows j) written rest → claimed_by (going_on j written rest) ≡ j.claimed
claimed_after s base chains rows j written [] lays = sym (second_none (inserted_by rows j.serves) j.claimed lays.1)
  where
    second_none : (xs ys : List ℕ) → xs ++ ys ≡ [] → ys ≡ []
    second_none [] ys none = none
    second_none (x ∷ xs) ys none = absurd (cc none)
claimed_after s base chains rows j written (x ∷ xs) lays = refl

pub none_claimed_after : (j : JobState) (written : List ℕ) (rest : List Phase) → j.claimed ≡ []
    → claimed_by (going_on j written rest) ≡ []
none_claimed_after j written [] none = refl
none_claimed_after j written (x ∷ xs) none = none

-- whoever waits for a job waits on while the commit doesn't come
pub same_wait : (j : JobState) (phase : Phase) (rest : List Phase) → j.todo ≡ phase ∷ rest
    → has_commit (phase ∷ rest) ≡ has_commit rest
    → waiting j.serves j.todo ≡ waiting j.serves rest
same_wait j phase rest next same = ap (waiting j.serves) next ∙ by j.serves
  where
    by : (x : Service) → waiting x (phase ∷ rest) ≡ waiting x rest
    by (ForCommand c) = rw same refl
    by (ForInsert c) = refl
    by ForRepair = refl

-- whether a command may fail doesn't depend on the volumes
whatever : (f : Fixed) (v w : Volumes) (command : Command) → Allowed f v command r.Fault → Allowed f w command r.Fault
whatever f v w (c.Create name slots thick uuid) may = may
whatever f v w (c.Write volume page word) may = may
whatever f v w (c.Read volume page) may = may
whatever f v w c.Flush may = may
whatever f v w (c.SetX volume key value) may = may
whatever f v w (c.DelX volume key) may = may
whatever f v w (c.GetX volume key) may = may
whatever f v w (c.Put volume key value) may = may
whatever f v w (c.Sync volume) may = may
whatever f v w (c.Resize volume slots) may = may
whatever f v w (c.Snapshot volume name) may = may
whatever f v w (c.Clone volume name) may = may
whatever f v w (c.Inflate volume) may = may
whatever f v w (c.Decouple volume) may = may
whatever f v w (c.Delete volume) may = may
whatever f v w (c.Rename volume name) may = may
whatever f v w (c.ReadOnly volume) may = may
whatever f v w (c.Info volume) may = may
whatever f v w c.List may = may
whatever f v w c.Df may = may

-- a command that waits for its commit may fail
pub may_fail : (Holds : Image → Type 0) (s : Super) (base : Metas) (live : Map Xattrs) (command : Command)
    (todo : List Phase) → Does Holds s base live command todo
    → (image : Image) → Allowed (fixed_of s) (shown_of s base live image) command r.Fault
may_fail Holds s base live command [] does image = absurd does
may_fail Holds s base live command (Marks ∷ rest) does image = may_fail Holds s base live command rest does image
may_fail Holds s base live command (Zeros page ∷ rest) does image = may_fail Holds s base live command rest does image
may_fail Holds s base live command (Writes place ∷ rest) does image = may_fail Holds s base live command rest does image
may_fail Holds s base live command (Replaces x (Some commit) ∷ rest) does image = does.0.may_fail image
may_fail Holds s base live command (Replaces x None ∷ rest) does image =
    whatever (fixed_of s) (shown_of s (replaced base x) live image) (shown_of s base live image) command
    (may_fail Anything s (replaced base x) live command rest does.1 image)
may_fail Holds s base live command (Erases place ∷ rest) does image = may_fail Holds s base live command rest does image
may_fail Holds s base live command (Frees place old ∷ rest) does image = may_fail Holds s base live command rest does
    image
