-- What a turn of a running job that overwrites a page of a claimed cluster makes of the store.
use Rattle.std.proofs.Common.{Option, ◌≡◌, ℕ, ◌*◌, ◌/◌, ◌%◌, ◌<◌, Bool, true, false, List, [], ◌∷◌, ◌++◌}
use Rattle.std.proofs.Common.{Some, refl, sym, ◌∙◌, ap, subst, subst₂, arith, inr, drop}
use Rattle.std.specs.Prelude.{if◌then◌else◌, ◌||◌}
use Rattle.std.proofs.lemmas.Nat.{div-add-mod', mul-add-lt}
use Rattle.std.proofs.Math.Nat.{mod-lt}
use Rattle.page_disk.specs.Disk.{Written}
use Rattle.page_disk.specs.Moments.{CallsLeaveOnly}
use Rattle.page_disk.specs.declared.disk.PageDisk.{Ghosts}
use Rattle.page_disk.specs.declared.disk.WriteKind.TheVariants.{Plain}
use Rattle.super_block.specs.Numbers.{cluster_pages_of, clusters_of}
use Rattle.super_block.specs.Placed.{IsPlaced}
use Rattle.volume_model.specs.Volumes.{zero_page}
use Rattle.md_chain.specs.Chain.{is_among}
use Rattle.store_model.specs.StoreState.{ForCommand, JobState, StoreState}
use Rattle.store_model.specs.Cases.{FailsToReplace, WritesOnePage}
use Rattle.store_model.specs.Cases as kind
use Rattle.store_model.specs.Cases.Fail.{zeros}
use Rattle.store_model.specs.Jobs.{gained_by, inserted_by, JobStands, Lays}
use Rattle.store_model.specs.Phases.{has_commit, Phase, Zeros}
use Rattle.store_model.specs.RunInvariant.{RunsWell}
use Rattle.store_model.proofs.Used.{within}
use Rattle.store_model.proofs.Shaped.{waits_for_commit}
use Rattle.store_model.proofs.Zeroing.{commit_zeros}
use Rattle.running_store.specs.Jobs.{behind_zero, service_of, waits_for_job, writing_for, zeroing_for, IsZeroedFor}
use Rattle.running_store.specs.Zeroing.{next_zeroed, zeroed_from, IsLeft}
use Rattle.metadata_turns.specs.JobTurns.{with_job, IsAtWork, TurnsJob}
use Rattle.running_store.specs.StoreView.{StoreView, device_of, state_of}
use Rattle.running_store.specs.declared.replacements.Planned.{Planned}
use Rattle.running_store.specs.declared.job.Serves.{Serves}
use Rattle.running_store.specs.declared.job.Serves.TheVariants as whom
use Rattle.running_store.specs.declared.job.Zeroed.{Zeroed}
use Rattle.metadata_turns.specs.Telling.{HasFailed}
use Rattle.metadata_turns.proofs.JobFailed.{entry, fails_case}
use Rattle.running_store.proofs.CommitLeft.{commit_writing}
use Rattle.running_store.proofs.ZeroPages.{zeroed_of, zeroes_next}

-- a page of one of so many clusters
on_device : (page k clusters : ℕ) → 0 < k → page / k < clusters → page < k * clusters
on_device page k clusters some low =
    subst (λ n. n < k * clusters) (div-add-mod' page k)
    (mul-add-lt (page / k) k (page % k) clusters low (mod-lt page some))

module _ {D : Type 0} (d : Ghosts D) (p : StoreView D) (serves : Serves) (planned : Planned) (old : List ℕ) (z : Zeroed)
    (more : List Phase) (w : IsAtWork d p (zeroing_for serves planned old z more))
    (zeroed : IsZeroedFor serves planned z) where
  abbrev j : JobState
  j = zeroing_for serves planned old z more

  left : IsLeft planned.effects.claimed z
  left = (zeroed_of serves planned z zeroed).1

  abbrev s : StoreState
  s = state_of d (with_job p j)

  abbrev claimed : List ℕ
  claimed = planned.effects.claimed

  abbrev page : ℕ
  page = next_zeroed claimed z

  abbrev others : List Phase
  others = drop 1 j.todo

  todo_is : j.todo ≡ Zeros page ∷ others
  todo_is = zeroes_next serves planned old z more left

  well : RunsWell w.running.first s
  well = w.running.facts.well w.not_stopped

  stands : JobStands s j
  stands = well.job j refl

  waits : has_commit j.todo ≡ true
  waits =
      commit_zeros (zeroed_from z.cluster_pages (drop z.clusters claimed) z.pages)
      (writing_for serves planned old 0 more).todo
      ∙ commit_writing planned (drop 0 (drop 1 planned.chain)) old more
      ∙ ap (λ b. b || has_commit more) (zeroed_of serves planned z zeroed).2

  -- the job gains the clusters that it has claimed, and no other
  gained_is : gained_by s.rows j ≡ claimed
  gained_is = by serves refl
    where
      by : (x : Serves) → serves ≡ x → gained_by s.rows j ≡ claimed
      by (whom.Command channel freeze) e = ap (λ (y : Serves). inserted_by s.rows (service_of y) ++ claimed) e
      by (whom.Insert channel) e = absurd (subst (λ (x : Serves). IsZeroedFor x planned z) e zeroed)
      by whom.Repair e = absurd (subst (λ (x : Serves). IsZeroedFor x planned z) e zeroed)

  -- the page is one of a claimed cluster, and so of the device
  in_claimed : is_among (page / cluster_pages_of p.super) claimed ≡ true
  in_claimed = (subst (Lays s.super s.base s.chains claimed []) todo_is
      (subst (λ l. Lays s.super s.base s.chains l [] j.todo) gained_is stands.lays)).0

  placed : IsPlaced p.super
  placed = subst IsPlaced (sym w.running.facts.super) w.running.placed

  pub page_low : page < p.super.device_pages
  page_low =
      let cluster = page / cluster_pages_of p.super in
      let below = within p.clusters cluster (well.clusters.claimed_too cluster (inr in_claimed)) in
      let low : cluster < clusters_of p.super = omega (arith, below, well.clusters.count) in
      let inside = on_device page (cluster_pages_of p.super) (clusters_of p.super) placed.some_pages low in
      let turned : cluster_pages_of p.super * clusters_of p.super ≡ clusters_of p.super * cluster_pages_of p.super =
      omega arith in
      let all = placed.on_device in
      omega (arith, inside, turned, all)

  -- of a device that doesn't tell zeros are read
  blank : d.tells ≡ false → (n : ℕ) → s.device.reads n ≡ zero_page
  blank silent n = ap (λ (told : Bool). (if told then d.now p.disk else (λ _. zero_page)) n) silent

  module _ (disk : D) (at : ℕ) (at_is : at ≡ page) {content : List ℕ} (content_is : content ≡ zero_page)
      (touches : CallsLeaveOnly d p.disk disk (Written (d.images p.disk) at Plain content))
      (pages : d.pages disk ≡ d.pages p.disk) where
    touched : CallsLeaveOnly d p.disk disk (Written (d.images p.disk) page Plain zero_page)
    touched = subst₂
        (λ n l. CallsLeaveOnly d p.disk disk (Written (d.images p.disk) n Plain l)) at_is content_is touches

    pub failed_zeroing : FailsToReplace (Some at) (device_of d p.disk) (device_of d disk) → (q : StoreView D)
        → {told : Option ℕ} → told ≡ waits_for_job j
        → HasFailed j.freeze told (record p { disk = disk }) q (d.clock q.disk) → TurnsJob d (with_job p j) q
    failed_zeroing fails q told_is failed = by serves refl
      where
        by : (x : Serves) → serves ≡ x → TurnsJob d (with_job p j) q
        by (whom.Command channel freeze) e =
            let for_command : j.serves ≡ ForCommand channel = ap service_of e in
            let given = subst (λ (o : Option ℕ). HasFailed j.freeze o (record p { disk = disk }) q (d.clock q.disk))
            (told_is ∙ waits_for_commit j channel for_command waits) failed in
            subst (TurnsJob d (with_job p j)) (sym (entry d p j w channel for_command waits disk q given)) (record {
              kind = kind.fails;
              of_job = tt;
              made = (
                fails_case d p j w channel for_command waits disk (Zeros page) others todo_is (zeros page refl)
                    (subst (λ n. FailsToReplace (Some n) (device_of d p.disk) (device_of d disk)) at_is fails),
                record { moments = touched; durable = λ never. absurd (cc never); pages = pages },
              );
            })
        by (whom.Insert channel) e = absurd (subst (λ (x : Serves). IsZeroedFor x planned z) e zeroed)
        by whom.Repair e = absurd (subst (λ (x : Serves). IsZeroedFor x planned z) e zeroed)

    pub zeroed_one : WritesOnePage d.tells (device_of d p.disk) at content 1 (device_of d disk) → (k : JobState)
        → k ≡ behind_zero j → TurnsJob d (with_job p j) (record p { disk = disk; job = Some k })
    zeroed_one moves k is = record {
      kind = kind.zeroes;
      of_job = tt;
      made = (
        record {
          page = page;
          running = record { job = j; is = refl; rest = others; next = todo_is; runs = w.not_stopped };
          blank = blank;
          device = device_of d disk;
          moves = subst₂ (λ n l. WritesOnePage d.tells (device_of d p.disk) n l 1 (device_of d disk)) at_is content_is
              moves;
          next = ap (λ (x : JobState). record s { job = Some x; device = device_of d disk }) is;
        },
        record { moments = touched; durable = λ never. absurd (cc never); pages = pages },
      );
    }
