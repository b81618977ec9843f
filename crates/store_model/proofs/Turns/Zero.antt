-- The turn zeroes.
use Rattle.std.proofs.Common.{◌≡◌, ◌≢◌, ℕ, ◌+◌, ◌/◌, Bool, List, [], ◌∷◌, Some, refl, subst, sym, ap, ◌∙◌, arith}
use Rattle.std.proofs.Common.{inl, inr}
use Rattle.std.specs.Prelude.{true, false}
use Rattle.std.proofs.lemmas.Bool.{both_ways, cases_Bool, cases_eq}
use Rattle.store_model.proofs.Sets.{among_either}
use Rattle.page_disk.specs.Disk.{Image}
use Rattle.page_disk.specs.declared.disk.PageDisk.{Ghosts}
use Rattle.super_block.specs.Numbers.{cluster_pages_of}
use Rattle.volume_model.specs.Volumes.{zero_page}
use Rattle.md_chain.specs.Chain.{is_among}
use Rattle.store_model.specs.Device.{Device}
use Rattle.store_model.specs.StoreState.{ForInsert, JobState, StoreState}
use Rattle.store_model.specs.Agreeing.{IsSameButAt, Stands}
use Rattle.store_model.specs.Places.{claimed_by, held_by, AreDistinct}
use Rattle.store_model.specs.Phases.{behind as behind_all, has_commit, held_in, OnlyMend, planned_in, Zeros}
use Rattle.blob_meta.specs.Repairs.{HasNoMarks}
use Rattle.store_model.specs.Turning.{read_after_write}
use Rattle.store_model.specs.Touches.{left_by, puts, DoesTouch}
use Rattle.store_model.specs.Cases.Zero.{Zeroes}
use Rattle.store_model.specs.Cases.Zero as case
use Rattle.store_model.specs.Jobs.{gained_by, IsLeftOfInsert, zeros_in, Does, JobStands, Keeps, Lays, ReadsZeros}
use Rattle.store_model.specs.RunInvariant.{RunInvariant}
use Rattle.std.proofs.Common.{◌++◌}
use Rattle.std.proofs.lemmas.Nat.{div-mul-add}
use Rattle.store_model.specs.Copying.{AreCopied}
use Rattle.store_model.proofs.Copies.{copied_agree}
use Rattle.store_model.proofs.Moved.{inserted_none}
use Rattle.store_model.proofs.ClaimedPages.{no_page, behind, claimed_stands, claimed_way, shown_still}
use Rattle.store_model.proofs.Going.{left_of, told_reads}
use Rattle.store_model.proofs.Holding.{put_elsewhere, put_here}
use Rattle.store_model.proofs.JobKept.{held_low, lays_here, IsPassed}
use Rattle.store_model.proofs.JobGoesOn.{job_law, job_moves_on}
use Rattle.store_model.proofs.Known.{Known}
use Rattle.store_model.proofs.LeftToDo.{next_of, no_place}
use Rattle.store_model.proofs.Over.{Effect, ImageLaw, known_of, moves, no_less, nothing, Over, TurnLaw}
use Rattle.store_model.proofs.StandsKept.{far_metadata}

-- ---- what is read then

module _ (told : Bool) (p q : StoreState) (t : Zeroes told p q) where
  reads_there : t.device.reads t.page ≡ zero_page
  reads_there = by told refl
    where
      by : (b : Bool) → told ≡ b → t.device.reads t.page ≡ zero_page
      by true is =
          ap (λ (i : Image). i t.page) t.moves.reads
          ∙ ap (λ (b : Bool). read_after_write b p.device.reads t.page zero_page t.page) is
          ∙ put_here p.device.reads t.page t.page zero_page refl
      by false is =
          ap (λ (i : Image). i t.page) t.moves.reads
          ∙ ap (λ (b : Bool). read_after_write b p.device.reads t.page zero_page t.page) is ∙ t.blank is t.page

  reads_elsewhere : IsSameButAt t.page p.device.reads t.device.reads
  reads_elsewhere n ne = by told refl
    where
      by : (b : Bool) → told ≡ b → t.device.reads n ≡ p.device.reads n
      by true is =
          ap (λ (i : Image). i n) t.moves.reads
          ∙ ap (λ (b : Bool). read_after_write b p.device.reads t.page zero_page n) is
          ∙ put_elsewhere p.device.reads t.page n zero_page ne
      by false is =
          ap (λ (i : Image). i n) t.moves.reads
          ∙ ap (λ (b : Bool). read_after_write b p.device.reads t.page zero_page n) is

-- ---- it keeps what every state has

not_among : (x p : ℕ) (ps : List ℕ) → x ≢ p → is_among x ps ≡ false → is_among x (p ∷ ps) ≡ false
not_among x p ps ne out = elim (cases_Bool (is_among x (p ∷ ps))) [
  | inl among ↦ absurd (elim (among_either x p ps among) [
    | inl e ↦ ne e
    | inr later ↦ both_ways (is_among x ps) out later
  ])
  | inr none ↦ none
]

module _ (known : Known) (told : Bool) (q : StoreState) (t : Zeroes told known.p q) where
  open known use {s, placed, first, script, p, facts}

  abbrev j : JobState
  j = t.running.job

  abbrev later : JobState
  later = record j { todo = t.running.rest }

  abbrev now : StoreState
  now = record p { job = Some later; device = t.device }

  lays : Lays p.super p.base p.chains (gained_by p.rows j) j.written (Zeros t.page ∷ t.running.rest)
  lays = subst (Lays p.super p.base p.chains (gained_by p.rows j) j.written) t.running.next
      (lays_here known j t.running.is t.running.runs)

  stood : JobStands p j
  stood = (facts.well t.running.runs).job j t.running.is

  -- the job of an insert overwrites no page with zeros
  no_insert : (row : ℕ) → j.serves ≡ ForInsert row → ⊥
  no_insert row serves = subst (IsLeftOfInsert p row) t.running.next (stood.inserts row serves).puts

  pub among : is_among (t.page / cluster_pages_of p.super) (claimed_by p.job) ≡ true
  among = ap (λ o. is_among (t.page / cluster_pages_of p.super) (claimed_by o)) t.running.is
      ∙ subst (λ l. is_among (t.page / cluster_pages_of p.super) (l ++ j.claimed) ≡ true)
      (inserted_none p.rows j.serves no_insert) lays.0

  passed : IsPassed p j.claimed (Zeros t.page) t.running.rest
  passed = record {
    commit = refl;
    does = λ c x. x;
    keeps = λ x. x;
    leads = refl;
    mends = λ x. x;
    puts = λ row bad. absurd bad;
  }

  stands : JobStands now later
  stands = record {
    lays = lays.1;
    distinct = subst (λ l. AreDistinct (held_in l)) t.running.next stood.distinct;
    served = λ c serves waits.
        let y = stood.served c serves (ap has_commit t.running.next ∙ waits) in
        record {
          command = y.command;
          rest = y.rest;
          row = y.row;
          does = subst (Does (ReadsZeros p.super j.claimed) p.super p.base p.live y.command) t.running.next y.does;
        };
    keeps = λ none other. subst (Keeps p.base) t.running.next
        (stood.keeps (ap has_commit t.running.next ∙ none) other);
    settles = λ other. subst HasNoMarks (ap (behind_all p.base) t.running.next) (stood.settles other);
    mends = λ repair. subst OnlyMend t.running.next (stood.mends repair);
    inserts = λ row serves. absurd (no_insert row serves);
    zeroed = λ n claimed ahead. elim (cases_eq n t.page) [
      | inl e ↦ ap t.device.reads e ∙ reads_there told p q t
      | inr ne ↦ reads_elsewhere told p q t n ne
          ∙ stood.zeroed n claimed (ap (λ l. is_among n (zeros_in l)) t.running.next ∙ not_among n t.page
          (zeros_in t.running.rest) ne ahead)
    ];
  }

  -- what was copied to other clusters is read still
  copied : AreCopied now
  copied =
      let well = facts.well t.running.runs in
      copied_agree p now well.copied refl refl refl (λ _ _ _ x. x) facts.lawful.parents
      (λ head n cluster m there in_slot _. reads_elsewhere told p q t _
      (no_page known t.running.runs t.page among head n cluster m there in_slot))
      (λ row claim n held low. reads_elsewhere told p q t _ (λ e.
      let at : t.page / cluster_pages_of p.super ≡ claim.cluster =
      ap (λ m. m / cluster_pages_of p.super) (sym e) ∙ div-mul-add claim.cluster (cluster_pages_of p.super) n low in
      both_ways (is_among claim.cluster (claimed_by p.job)) (well.claims.job row claim held)
      (subst (λ m. is_among m (claimed_by p.job) ≡ true) at among)))

  -- a replacement is still to come
  some : t.running.rest ≢ []
  some none = no_place (gained_by p.rows j) (t.page / cluster_pages_of p.super) lays.0
      (subst (Lays p.super p.base p.chains (gained_by p.rows j) j.written) none lays.1).1

  keeps : RunInvariant s first script q
  keeps = subst (RunInvariant s first script) (sym t.next)
      (job_moves_on known (Zeros t.page) t.running j.written p.clean t.device passed
      (let c = t.moves.clock in omega (arith, c))
      (shown_still known t.running.runs t.page among t.device (reads_elsewhere told p q t)) copied refl some stands)

-- ---- its images

module _ {D : Type 0} (d : Ghosts D) (x : Over d) (t : Zeroes d.tells x.p x.q) where
  open x use {told, law, s, placed, first, script, p, q, from, from_is, to, to_is, old, facts}

  is_claimed : is_among (t.page / cluster_pages_of p.super) (claimed_by p.job) ≡ true
  is_claimed = among (known_of x) d.tells q t

  reads_from : p.device.reads ≡ d.now from
  reads_from = ap (λ (v : Device). v.reads) from_is ∙ told_reads d from told

  read : IsSameButAt t.page (d.now from) (d.now to)
  read n ne =
      ap (λ (i : Image). i n) (sym (told_reads d to told) ∙ sym (ap (λ (v : Device). v.reads) to_is)
      ∙ ap (λ (v : StoreState). v.device.reads) t.next) ∙ reads_elsewhere d.tells p q t n ne
      ∙ ap (λ (i : Image). i n) reads_from

  job_now : q.job ≡ Some (record t.running.job { todo = t.running.rest })
  job_now = ap (λ (v : StoreState). v.job) t.next

  images : DoesTouch d from to (puts t.page zero_page false)
      → ImageLaw d x (left_by (puts t.page zero_page false) (d.images from) (d.now from))
  images does = record {
    way = claimed_way d x t.running.runs t.page is_claimed;
    stands = λ on c held. subst (λ (n : StoreState). Stands s first n.base n.chains n.log (d.now to) c) (sym t.next)
        (claimed_stands d x t.running.runs t.page is_claimed (d.now to) read c
        (left_of d x (puts t.page zero_page false) does c held));
    written = λ on job is place among.
        let same : record t.running.job { todo = t.running.rest } ≡ job = let both = sym job_now ∙ is in cc both in
        let among_j : is_among place t.running.job.written ≡ true =
        ap (λ (i : JobState). is_among place i.written) same ∙ among in
        let well = facts.well t.running.runs in
        let stood = well.job t.running.job t.running.is in
        let next = next_of p.super p.base p.chains (gained_by p.rows t.running.job) t.running.job.todo
        t.running.job.written place
        among_j stood.lays in
        let low = held_low (known_of x) well (held_by p.job) refl place
        (ap (λ o. is_among place (held_by o)) t.running.is ∙ next.is_held place (next.fresh place among_j)) in
        read (s.md_start + place) (far_metadata s placed t.page (behind d x t.running.runs t.page is_claimed) place low)
        ∙ old.written t.running.runs t.running.job t.running.is place among_j
        ∙ ap (λ l. planned_in l place) t.running.next
        ∙ ap (λ (i : JobState). planned_in i.todo place) same;
  }

pub law : TurnLaw case.kind
law = record {
  keeps = λ _ told known q t. keeps known told q t;
  effect = λ told p q t. subst (Effect p) (sym t.next)
      (record {
        goes = moves t.running.runs refl t.moves.write_faults (no_less t.moves.read_faults);
        logs = nothing refl refl;
      });
  images = λ d x t does. images d x t does;
  job = λ _ told known q t. job_law known (Zeros t.page) t.running t.running.job.written known.p.clean t.device
      (passed known told q t) q t.next;
}
