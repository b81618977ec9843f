-- The turn marks_dirty.
use Rattle.std.proofs.Common.{◌≡◌, ◌≢◌, ◌+◌, ◌*◌, ◌/◌, ◌≤◌, ℕ, Bool, true, false, ◌∷◌, Some, refl, subst, sym}
use Rattle.std.proofs.Common.{ap, ◌∙◌, arith}
use Rattle.page_disk.specs.Disk.{Image, with_page}
use Rattle.page_disk.specs.declared.disk.PageDisk.{Ghosts}
use Rattle.super_block.specs.declared.page.Super.{Super}
use Rattle.super_block.specs.Numbers.{cluster_pages_of, fixed_clusters_of}
use Rattle.blob_meta.specs.Resolving.{IsLawful, resolved}
use Rattle.md_chain.specs.Chain.{is_among}
use Rattle.store_model.specs.Agreeing.{Stands}
use Rattle.store_model.specs.Cases.MarkDirty as case
use Rattle.store_model.specs.Cases.MarkDirty.{MarksDirty}
use Rattle.store_model.specs.Copying.{AreCopied}
use Rattle.store_model.specs.Device.{Device}
use Rattle.store_model.specs.Jobs.{gained_by, JobStands, Lays}
use Rattle.store_model.specs.Phases.{held_in, Marks, planned_in}
use Rattle.store_model.specs.Places.{AreDistinct, claimed_by, held_by}
use Rattle.store_model.specs.RunInvariant.{RunInvariant, RunsWell}
use Rattle.store_model.specs.Steady.{AreStored}
use Rattle.store_model.specs.StoreState.{JobState, shown, StoreState}
use Rattle.store_model.specs.Touches.{DoesTouch, left_by, read_now, replaces}
use Rattle.store_model.specs.Turning.{read_after_write}
use Rattle.store_model.proofs.Copies.{copied_behind}
use Rattle.store_model.proofs.Going.{told_reads}
use Rattle.store_model.proofs.Holding.{put_elsewhere}
use Rattle.store_model.proofs.JobGoesOn.{job_law, job_moves_on}
use Rattle.store_model.proofs.JobKept.{claimed_behind, held_low, IsPassed, lays_here, stands_next}
use Rattle.store_model.proofs.Known.{Known}
use Rattle.store_model.proofs.LeftToDo.{next_of}
use Rattle.store_model.proofs.Moved.{stands_same}
use Rattle.store_model.proofs.Over.{Effect, ImageLaw, known_of, moves, no_less, nothing, Over, TurnLaw}
use Rattle.store_model.proofs.Shows.{resolved_faultless, shown_same}
use Rattle.store_model.proofs.StandsKept.{far_super, super_outside}
use Rattle.store_model.proofs.SuperMarked.{elsewhere, mark_way, marked_image, marked_stands}

-- ---- it keeps what every state has

module _ (known : Known) (told : Bool) (q : StoreState) (t : MarksDirty told known.p q) where
  open known use {s, placed, first, script, p, facts}

  abbrev j : JobState
  j = t.running.job

  abbrev later : JobState
  later = record j { todo = t.running.rest }

  abbrev now : StoreState
  now = record p { clean = false; job = Some later; device = t.device }

  well : RunsWell first p
  well = facts.well t.running.runs

  lays : Lays p.super p.base p.chains (gained_by p.rows j) j.written (Marks ∷ t.running.rest)
  lays = subst (Lays p.super p.base p.chains (gained_by p.rows j) j.written) t.running.next
      (lays_here known j t.running.is t.running.runs)

  pub passed : IsPassed p j.claimed Marks t.running.rest
  passed = record { commit = refl; does = λ c x. x; keeps = λ x. x; leads = refl; mends = λ x. x; puts = λ row x. x }

  -- behind the fixed clusters it is read as before
  far : (n : ℕ) → fixed_clusters_of p.super * cluster_pages_of p.super ≤ n → t.device.reads n ≡ p.device.reads n
  far n le =
      let ne : 0 ≢ n = far_super s placed n
      (subst (λ (y : Super). fixed_clusters_of y * cluster_pages_of y ≤ n) facts.super le) in
      ap (λ (i : Image). i n) t.moves.reads ∙ by told n (λ e. ne (sym e))
    where
      by : (b : Bool) (n : ℕ) → n ≢ 0 → read_after_write b p.device.reads 0 t.page n ≡ p.device.reads n
      by true n ne = put_elsewhere p.device.reads 0 n t.page ne
      by false n ne = refl

  stored : AreStored p.super p.base
  stored = subst (λ (y : Super). AreStored y p.base) (sym facts.super) facts.stored

  lawful : IsLawful p.super.md_len (resolved p.base)
  lawful = subst (λ (y : Super). IsLawful y.md_len (resolved p.base)) (sym facts.super) facts.lawful

  shows : shown now ≡ shown p
  shows = shown_same p.super (resolved p.base) lawful.parents (resolved_faultless p.super p.base stored)
      p.device.reads t.device.reads far p.live

  copied : AreCopied now
  copied = copied_behind p now well.copied refl refl refl (λ row claim page x. x) lawful.parents
      (resolved_faultless p.super p.base stored) well.clusters far

  stands : JobStands p later
  stands = stands_next known j t.running.is t.running.runs Marks t.running.rest t.running.next passed j.written lays.1
      (subst (λ l. AreDistinct (held_in l)) t.running.next (well.job j t.running.is).distinct) refl

  pub keeps : RunInvariant s first script q
  keeps = subst (RunInvariant s first script) (sym t.next)
      (job_moves_on known Marks t.running j.written false t.device passed
      (let later = t.moves.clock in omega (arith, later)) shows copied refl lays.0
      (stands_same p now refl refl refl refl refl later (λ c in_job. refl)
      (λ page among. far page (claimed_behind known well page
      (ap (λ o. is_among (page / cluster_pages_of p.super) (claimed_by o)) t.running.is ∙ among))) stands))

-- ---- its images

module _ {D : Type 0} (d : Ghosts D) (x : Over d) (t : MarksDirty d.tells x.p x.q) where
  open x use {told, s, placed, first, script, p, q, from, from_is, to, to_is, old, facts}

  abbrev marked : Image
  marked = marked_image d x t.running.runs t.page t.says

  now_is : d.now to ≡ marked
  now_is =
      sym (told_reads d to told) ∙ sym (ap (λ (v : Device). v.reads) to_is)
      ∙ ap (λ (v : StoreState). v.device.reads) t.next ∙ t.moves.reads
      ∙ ap (λ (v : Device). read_after_write d.tells v.reads 0 t.page) from_is
      ∙ ap (λ (b : Bool). read_after_write b (read_now d from) 0 t.page) told
      ∙ ap (λ (i : Image). with_page i 0 t.page) (told_reads d from told)

  stands_there : Stands s first q.base q.chains q.log (d.now to) marked
  stands_there =
      let stands = marked_stands d x t.running.runs t.page t.says marked
      (elsewhere d x t.running.runs t.page t.says) in
      subst (λ (n : Image). Stands s first q.base q.chains q.log n marked) (sym now_is)
      (subst (λ (v : StoreState). Stands s first v.base v.chains v.log marked marked) (sym t.next) stands)

  job_now : q.job ≡ Some (later (known_of x) d.tells q t)
  job_now = ap (λ (v : StoreState). v.job) t.next

  images : DoesTouch d from to (replaces 0 t.page true)
      → ImageLaw d x (left_by (replaces 0 t.page true) (d.images from) (d.now from))
  images does = record {
    way = mark_way d x t.running.runs t.page t.says;
    stands = λ _ c held. subst (Stands s first q.base q.chains q.log (d.now to))
        (sym now_is ∙ sym ((does.durable refl told c).0 held)) stands_there;
    written = λ on job is place among.
        let same : later (known_of x) d.tells q t ≡ job = let both = sym job_now ∙ is in cc both in
        let among_j : is_among place t.running.job.written ≡ true =
        ap (λ (i : JobState). is_among place i.written) same ∙ among in
        let well = facts.well t.running.runs in
        let stood = well.job t.running.job t.running.is in
        let next = next_of p.super p.base p.chains (gained_by p.rows t.running.job) t.running.job.todo
        t.running.job.written place among_j stood.lays in
        let low = held_low (known_of x) well _ refl place
        (ap (λ o. is_among place (held_by o)) t.running.is ∙ next.is_held place (next.fresh place among_j)) in
        ap (λ (i : Image). i (s.md_start + place)) now_is
        ∙ elsewhere d x t.running.runs t.page t.says (s.md_start + place)
        (λ e. super_outside s placed place low (sym e))
        ∙ old.written t.running.runs t.running.job t.running.is place among_j
        ∙ ap (λ l. planned_in l place) t.running.next
        ∙ ap (λ (i : JobState). planned_in i.todo place) same;
  }

pub law : TurnLaw case.kind
law = record {
  keeps = λ _ told known q t. keeps known told q t;
  effect = λ told p q t. subst (Effect p) (sym t.next)
      (record {
        goes = moves t.running.runs refl t.moves.write_faults (no_less t.moves.read_faults);
        logs = nothing refl refl;
      });
  images = λ d x t does. images d x t does;
  job = λ _ told known q t. job_law known Marks t.running t.running.job.written false t.device
      (passed known told q t) q t.next;
}
