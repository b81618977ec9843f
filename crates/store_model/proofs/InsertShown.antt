-- What is known once a cluster is put into its slot: every volume is shown as it was.
use Rattle.std.proofs.Common.{◌≡◌, suc, ◌+◌, ◌*◌, Bool, List, [], ◌∷◌, Option, Some, None, refl}
use Rattle.std.proofs.Common.{sym, ap, ◌∙◌, subst}
use Rattle.super_block.specs.Numbers.{cluster_pages_of}
use Rattle.page_disk.specs.Disk.{Image}
use Rattle.blob_meta.specs.declared.meta.Meta.{Meta}
use Rattle.blob_meta.specs.Repairs.{HasNoMarks}
use Rattle.blob_meta.specs.Resolving.{mark_of, resolved}
use Rattle.store_model.specs.Claiming.{stage_behind}
use Rattle.store_model.specs.Copying.{AreCopied, HasCopied, LeavesSlotsEmpty}
use Rattle.store_model.specs.Inserting.{with_slot}
use Rattle.store_model.specs.Jobs.{InsertStands, IsLeftOfInsert, PutsClaim}
use Rattle.store_model.specs.Maps.{Metas, with_entry}
use Rattle.store_model.specs.Phases.{page_in, Phase, rechained, replaced}
use Rattle.store_model.specs.Phases.{Replaces, Replacing}
use Rattle.store_model.specs.Rows.{OpenClaim, Row, Stage, with_row}
use Rattle.store_model.specs.Shown.{content, fixed_of, shown_by}
use Rattle.store_model.specs.StoreState.{going_on, JobState, shown, StoreState}
use Rattle.store_model.specs.Cases.Insert.{Inserts}
use Rattle.store_model.proofs.AtHead.{at_head, IsAtHead}
use Rattle.store_model.proofs.CopiesCommitted.{copied_committed}
use Rattle.store_model.proofs.Copies.{row_unclaimed}
use Rattle.store_model.proofs.Heads.{rechained_is, replaced_is}
use Rattle.store_model.proofs.InsertedContent.{Holds, leaves_inserted, shown_same}
use Rattle.store_model.proofs.JobKept.{copied_put, written_same}
use Rattle.store_model.proofs.Known.{Known}
use Rattle.store_model.proofs.OneReplacement.{base_lawful, base_steady, base_resolved, some_pages}
use Rattle.shown_volumes.proofs.Ranks.{levels, Levels}
use Rattle.store_model.proofs.WithEntry.{given_all}
use Rattle.store_model.proofs.Resolved.{unmarked_resolved}

module _ (known : Known) where
  open known use {s, placed, first, script, p, facts}

  module _ (told : Bool) (q : StoreState) (t : Inserts told p q) where
    open t.inserting use {row, serves}

    abbrev pub j : JobState
    j = t.running.job

    abbrev pub r : Replacing
    r = t.replacing

    abbrev pub rest : List Phase
    rest = t.running.rest

    abbrev pub next_job : Option JobState
    next_job = going_on j [] rest

    abbrev pub next : Row
    next = record { left = (p.rows row).left; stage = stage_behind rest; claim = None }

    abbrev pub now : StoreState
    now = record p {
      base = with_entry p.base r.head t.new;
      chains = with_entry p.chains r.head (r.head ∷ r.fresh);
      rows = with_row p.rows row next;
      job = next_job;
      device = t.device;
    }

    -- what is known of the replacement
    pub replacement : IsAtHead known r None t.running
    replacement = at_head known r None t.running

    open replacement use {well, stood, can, under}

    pub inserts : InsertStands p j row
    inserts = stood.inserts row serves

    pub puts : IsLeftOfInsert p row (Replaces r None ∷ rest)
    puts = subst (IsLeftOfInsert p row) t.running.next inserts.puts

    pub put : PutsClaim p row r
    put = puts.0

    abbrev pub claim : OpenClaim
    claim = put.claim

    abbrev pub old : Meta
    old = put.wanted.meta

    pub base_is : replaced p.base r ≡ now.base
    base_is = replaced_is p.base r t.new t.new_is

    pub chains_are : rechained p.chains r ≡ now.chains
    chains_are = rechained_is p.chains r t.new t.new_is

    -- ---- the metadata

    pub there : p.base claim.head ≡ Some old
    there = ap (λ (m : Metas). m claim.head) (sym (base_resolved known inserts.unmarked)) ∙ put.wanted.there

    abbrev all : Metas
    all = with_entry p.base claim.head (with_slot old claim.slot claim.cluster)

    pub base_all : now.base ≡ all
    base_all =
        let one : t.new ≡ with_slot old claim.slot claim.cluster = let both = sym t.new_is ∙ put.new in cc both in
        ap (λ h. with_entry p.base h t.new) put.head ∙ ap (with_entry p.base claim.head) one

    -- no blob has a mark then
    pub now_unmarked : HasNoMarks now.base
    now_unmarked = given_all p.base r.head t.new (λ h m. mark_of m ≡ None) inserts.unmarked (
        let one : t.new ≡ with_slot old claim.slot claim.cluster = let both = sym t.new_is ∙ put.new in cc both in
        ap mark_of one ∙ inserts.unmarked claim.head old there)

    pub resolved_all : resolved now.base ≡ all
    resolved_all = unmarked_resolved now.base now_unmarked ∙ base_all

    ranks : Levels p.super.md_len p.base
    ranks = levels p.super.md_len p.base (base_lawful known inserts.unmarked)
        (λ h m is. (base_steady known inserts.unmarked h m is).stored.low)

    -- ---- what is shown

    abbrev mid : StoreState
    mid = record p { device = t.device }

    read : AreCopied mid
    read = copied_put known told mid r.head (page_in r.planned r.head) refl refl refl refl well under t.moves.reads

    abbrev Held : Image → Type 0
    Held = Holds p.super (some_pages known) p.base claim.head old there ranks claim.slot claim.cluster put.within
        put.wanted.empty

    holds : Held t.device.reads
    holds n lt =
        read row claim put.held (record {
          current = put.wanted.current;
          meta = old;
          there = put.wanted.there;
          empty = put.wanted.empty;
        }) n (subst (λ (x : Stage). HasCopied (cluster_pages_of p.super) x n) (sym inserts.waits) lt)
        ∙ ap (λ (m : Metas). content (cluster_pages_of p.super) t.device.reads m (suc p.super.md_len) claim.head
        (claim.slot * cluster_pages_of p.super + n)) (base_resolved known inserts.unmarked)

    pub shows : shown now ≡ shown p
    shows =
        ap (λ (m : Metas). shown_by (fixed_of p.super) t.device.reads m p.live) resolved_all
        ∙ shown_same p.super (some_pages known) p.base claim.head old there ranks claim.slot claim.cluster
        put.within put.wanted.empty t.device.reads holds p.live
        ∙ ap (λ (m : Metas). shown_by (fixed_of p.super) t.device.reads m p.live)
        (sym (base_resolved known inserts.unmarked))
        ∙ written_same known told mid r.head (page_in r.planned r.head) refl under t.moves.reads

    pub copied : AreCopied now
    copied = copied_committed mid now read [] refl refl p.generations (λ h n is. is) refl well.claims_drawn
        (row_unclaimed (cluster_pages_of p.super) p.rows row next refl) (some_pages known) Held holds
        (λ h out. subst (λ (m : Metas). LeavesSlotsEmpty p.super m (resolved now.base) Held h)
        (sym (base_resolved known inserts.unmarked))
        (subst (λ (m : Metas). LeavesSlotsEmpty p.super p.base m Held h) (sym resolved_all)
        (leaves_inserted p.super (some_pages known) p.base claim.head old there ranks claim.slot claim.cluster
        put.within put.wanted.empty h)))
