-- The turn commits keeps what every state has.
use Rattle.std.proofs.Common.{◌≡◌, ℕ, [], ◌∷◌, Some, None, refl, subst, sym, ap, ◌∙◌, arith}
use Rattle.std.proofs.Common.{Bool, Option, ◌++◌, ◌≢◌, true, ◌/◌}
use Rattle.std.specs.Option.{option_map, option_map_or}
use Rattle.super_block.specs.Numbers.{cluster_pages_of}
use Rattle.volume_model.specs.Volumes.{Volumes, Volume}
use Rattle.volume_model.specs.Logs.{replay}
use Rattle.volume_model.specs.Steps.{change, Allowed}
use Rattle.volume_model.specs.Xattrs.{Xattrs}
use Rattle.blob_meta.specs.declared.meta.Meta.{Meta}
use Rattle.blob_meta.specs.Repairs.{HasNoMarks}
use Rattle.blob_meta.specs.Resolving.{resolved}
use Rattle.md_chain.specs.Chain.{is_among}
use Rattle.store_model.specs.Maps.{without_entry}
use Rattle.store_model.specs.Rows.{Answered, Decided, Row}
use Rattle.store_model.specs.StoreState.{JobState, StoreState, shown, logged, going_on}
use Rattle.store_model.specs.Turning.{live_of}
use Rattle.store_model.specs.WithReplaced.{with_replaced}
use Rattle.store_model.specs.Cases.Commit.{Commits}
use Rattle.store_model.specs.Shown.{fixed_of, volume_of}
use Rattle.store_model.specs.Jobs.{gained_by, inserted_by, JobStands, Does, Lays, shown_of}
use Rattle.store_model.specs.Jobs.{MovesClusters, ReadsZeros, zeros_in}
use Rattle.store_model.specs.RunInvariant.{RunInvariant, CanBeWritten}
use Rattle.store_model.specs.Places.{UsedPages, claimed_by}
use Rattle.store_model.specs.Seen.{seen}
use Rattle.store_model.specs.Copying.{AreCopied}
use Rattle.store_model.specs.Phases.{Replacing, has_commit, page_in, Replaces, replaced}
use Rattle.store_model.specs.Phases.{behind}
use Rattle.store_model.specs.Guarding.{AreGenerations, frozen_behind}
use Rattle.store_model.proofs.CopiesCommitted.{copied_committed}
use Rattle.store_model.proofs.AtHead.{at_head}
use Rattle.store_model.proofs.FactsKept.{facts_with, log_kept, metadata_replaced}
use Rattle.store_model.proofs.Known.{Known}
use Rattle.store_model.proofs.Progress.{NoneWaits, none_after}
use Rattle.store_model.proofs.Shaped.{shaped_with, decided_may, waits_for_commit}
use Rattle.store_model.proofs.Writable.{AllWritable}
use Rattle.store_model.proofs.ReplacedBlob.{generation_kept, generations_replaced}
use Rattle.store_model.proofs.ReplacedBlob.{there_before}
use Rattle.store_model.proofs.Shows.{or_empty}
use Rattle.store_model.proofs.StateKept.{allowed_here, replay_plain}
use Rattle.store_model.proofs.Seen.{change_seen, metadata_seen}
use Rattle.store_model.proofs.LeftToDo.{no_place, goes_on_as, held_after, none_claimed_after}
use Rattle.store_model.proofs.JobKept.{claimed_unread, copied_put, no_other, served_does, written_same}
use Rattle.store_model.proofs.Copies.{row_unclaimed}
use Rattle.store_model.proofs.OneReplacement.{some_pages}
use Rattle.store_model.proofs.Claims.{with_row_claims}
use Rattle.store_model.proofs.ClustersMoved.{clusters_moved, differ_committed}
use Rattle.store_model.proofs.Guarding.{claims_drawn_still, guarded_behind}

module _ (known : Known) where
  open known use {s, placed, first, script, p, facts}

  module _ (told : Bool) (q : StoreState) (t : Commits told p q) where
    open t.served use {channel, serves, command, rest, row}

    abbrev j : JobState
    j = t.running.job

    abbrev r : Replacing
    r = t.replacing

    abbrev w : Volumes
    w = change (fixed_of p.super) (shown p) command t.commit.reply

    abbrev next_job : Option JobState
    next_job = going_on (record j { claimed = [] }) [] t.running.rest

    abbrev base : StoreState
    base = record (with_replaced p r t.commit.renews) {
      live = live_of w;
      job = next_job;
      frozen = frozen_behind p.frozen j t.running.rest;
    }

    abbrev now : StoreState
    now = logged base channel command rest t.commit.reply t.device

    open at_head known r (Some t.commit) t.running use {well, stood, lays, can, under, left, chains, pages}

    commits_here : has_commit j.todo ≡ true
    commits_here = ap has_commit t.running.next

    does : Does (ReadsZeros p.super j.claimed) p.super p.base p.live command
        (Replaces r (Some t.commit) ∷ t.running.rest)
    does = subst (Does (ReadsZeros p.super j.claimed) p.super p.base p.live command) t.running.next
        (served_does known j t.running.is t.running.runs t.served commits_here)

    row_claims : (c : ℕ) → (now.rows c).claim ≡ (p.rows c).claim
    row_claims = with_row_claims p.rows channel (record { left = rest; stage = Decided Answered; claim = None })
        (ap (λ (x : Row). x.claim) row) refl

    none_claimed : claimed_by next_job ≡ []
    none_claimed = none_claimed_after (record j { claimed = [] }) [] t.running.rest refl

    -- ---- generations

    generations_new : AreGenerations now.base now.generations now.drawn
    generations_new = generations_replaced p.base p.generations p.drawn r t.commit.renews
        (there_before p.super p.base p.chains well.chains r can.chain) does.0.numbers does.0.renews well.generations

    -- ---- what is shown

    -- each page of the claimed clusters was overwritten, and is read as zeros still
    zeros_read : ReadsZeros p.super j.claimed t.device.reads
    zeros_read page among =
        claimed_unread known well told r.head (page_in r.planned r.head) t.device under t.moves.reads
        page (subst (λ l. is_among (page / cluster_pages_of p.super) l ≡ true) (sym (ap claimed_by t.running.is)) among)
        ∙ stood.zeroed page among (ap (λ todo. is_among page (zeros_in todo)) t.running.next)

    shows : shown now ≡ w
    shows = subst (λ (v : Volumes). shown_of p.super
        (replaced p.base r) (live_of (change (fixed_of p.super) v command t.commit.reply)) t.device.reads
        ≡ change (fixed_of p.super) v command t.commit.reply)
        (written_same known told (record p { device = t.device }) r.head (page_in r.planned r.head) refl under
        t.moves.reads) (does.0.shows t.device.reads zeros_read)

    -- what was copied of empty slots is their content still
    copied_new : AreCopied now
    copied_new =
        let mid : StoreState = record p { device = t.device } in
        let read : AreCopied mid = copied_put known told mid r.head (page_in r.planned r.head) refl refl refl refl well
        under t.moves.reads in
        copied_committed mid now read t.commit.renews refl refl
        (option_map_or (λ new. p.generations) r.new (without_entry p.generations r.head))
        (generation_kept p.generations r) refl well.claims_drawn
        (row_unclaimed (cluster_pages_of p.super) p.rows channel _ refl) (some_pages known) (λ image. Unit {0}) tt
        does.0.leaves

    writable : AllWritable w
    writable h v is = does.0.writable p.device.reads h v is

    live_new : (h : ℕ) (m : Meta) → resolved now.base h ≡ Some m
        → (xattrs : Xattrs) × (live_of w h ≡ Some xattrs) × CanBeWritten xattrs
    live_new h m is =
        let v : Volume = volume_of (fixed_of p.super).cluster_pages t.device.reads (resolved now.base) p.super.md_len
        (or_empty (now.live h)) h m in
        let shown_it : shown now h ≡ Some v = rw is refl in
        let here : w h ≡ Some v = sym (ap (λ (u : Volumes). u h) shows) ∙ shown_it in
        (v.live, ap (λ o. option_map (λ (x : Volume). x.live) o) here, writable h v here)

    no_live_new : (h : ℕ) → resolved now.base h ≡ None → live_of w h ≡ None
    no_live_new h none =
        let gone : shown now h ≡ None = rw none refl in
        let here : w h ≡ None = sym (ap (λ (u : Volumes). u h) shows) ∙ gone in
        ap (λ o. option_map (λ (x : Volume). x.live) o) here

    -- ---- the job behind its commit

    stands_next : (k : JobState) → next_job ≡ Some k → JobStands now k
    stands_next k is =
        let g = goes_on_as (record j { claimed = [] }) [] t.running.rest k is in
        let stands : JobStands now (record j { claimed = []; written = []; todo = t.running.rest }) =
        record {
          lays = subst (λ l. Lays p.super now.base now.chains l [] t.running.rest)
              (sym (ap (λ x. inserted_by now.rows x ++ []) serves)) lays.2;
          distinct = left;
          served = λ c serves waits. absurd (let bad = sym does.1 ∙ waits in cc bad);
          inserts = λ row bad. absurd (let e = sym serves ∙ bad in cc e);
          keeps = λ none other. does.2;
          settles = λ other. subst HasNoMarks (ap (behind p.base) t.running.next) (stood.settles other);
          mends = λ repair. absurd (let bad = sym serves ∙ repair in cc bad);
          zeroed = λ page among out. absurd (no_place [] (page / cluster_pages_of p.super) among refl);
        } in
        subst (JobStands now) (sym g.is) stands

    pub none_waits : NoneWaits next_job
    none_waits = none_after (record j { claimed = [] }) [] t.running.rest (rw (serves, does.1) refl)

    pub keeps : RunInvariant s first script q
    keeps =
        let done_so : RunInvariant s first script now =
        facts_with known now refl (metadata_replaced known (gained_by p.rows j) j.written r can) (record {
          logs = log_kept known (Decided Answered) base channel command rest t.commit.reply t.device refl refl refl refl
              (ap (λ (x : Row). x.left) row) (let c = t.moves.clock in omega (arith, c))
              (subst (Allowed (fixed_of s) (replay (fixed_of s) first (seen p.tells p.log)) command)
              (sym (change_seen p.tells t.commit.reply t.done))
              (allowed_here known command t.commit.reply t.running.runs (does.0.allowed p.device.reads)));
          well = λ on. record {
            chains = chains;
            live = live_new;
            no_live = no_live_new;
            pages = subst (UsedPages p.super.md_len now.pages now.chains)
                (sym (held_after (record j { claimed = [] }) [] t.running.rest)) pages;
            clusters = clusters_moved p.super p.clusters p.base (replaced p.base r) r.freed p.rows now.rows p.job
                next_job row_claims none_claimed (subst (MovesClusters p.super p.base (replaced p.base r) r.freed)
                (ap (λ x. inserted_by p.rows x ++ j.claimed) serves ∙ ap claimed_by (sym t.running.is)) can.clusters)
                well.claims well.clusters;
            claims = differ_committed p.rows now.rows p.job next_job row_claims none_claimed well.claims;
            generations = generations_new;
            copied = copied_new;
            claims_drawn =
                claims_drawn_still p.rows now.rows p.drawn now.drawn row_claims (omega arith) well.claims_drawn;
            job = stands_next;
            replayed = shows ∙ sym (replay_plain known channel command t.commit.reply t.running.runs
                (metadata_seen p.tells command does.0.metadata) (change_seen p.tells t.commit.reply t.done));
          };
          shaped = shaped_with p facts.shaped now channel _ refl
              (no_other known j t.running.is channel (waits_for_commit j channel serves commits_here) now)
              (decided_may now channel rest)
              (λ k c is serves waits.
              let g = goes_on_as (record j { claimed = [] }) [] t.running.rest k is in
              absurd (let bad = sym does.1 ∙ ap (λ (i : JobState). has_commit i.todo) (sym g.is) ∙ waits in cc bad));
          guarded = guarded_behind p now facts.guarded j
              (record j { claimed = [] }) t.running.is refl t.running.runs t.running.rest refl refl;
          halted = λ n halts. absurd (let bad = sym t.running.runs ∙ halts in cc bad);
          unfinished = λ k is.
              let g = goes_on_as (record j { claimed = [] }) [] t.running.rest k is in
              subst (λ (i : JobState). i.todo ≢ []) (sym g.is) g.some;
        }) in
        subst (RunInvariant s first script) (sym t.next) done_so
