-- What a crash may leave of a store by whether it is clean, as it begins and over each turn.
use Rattle.std.proofs.Common.{◌≡◌, ◌≢◌, ◌⊎◌, ℕ, ◌*◌, ◌≤◌, ◌<◌, Bool, true, false, List, [], ◌∷◌, ◌++◌, length}
use Rattle.std.proofs.Common.{Some, None, sym, ap, ◌∙◌, subst, inl, inr, arith, IsTrue, get_or}
use Rattle.std.proofs.lemmas.Bool.{false≢true}
use Rattle.page_disk.specs.Disk.{Image, Images, Only, Telling}
use Rattle.page_disk.specs.Marks.{MarksKept}
use Rattle.page_disk.specs.declared.disk.PageDisk.{Ghosts}
use Rattle.page_disk.proofs.Images.{with_page-here}
use Rattle.page_disk.proofs.Marks.{first_mark, kept_by_run, marked_after_run}
use Rattle.super_block.specs.Numbers.{cluster_pages_of, fixed_clusters_of}
use Rattle.super_block.specs.Page.{super_of}
use Rattle.super_block.specs.Placed.{IsPlaced}
use Rattle.super_block.specs.declared.page.Super.{Super}
use Rattle.store_model.specs.Agreeing.{IsSameButAt}
use Rattle.store_model.specs.Cases.{Kind, the, Turn}
use Rattle.store_model.specs.Device.{Device}
use Rattle.store_model.specs.Phases.{marking}
use Rattle.store_model.specs.Recovers.{SaysInUse}
use Rattle.store_model.specs.StateLaws.{HasFixedPagesOf}
use Rattle.store_model.specs.StoreState.{JobState, Opens, StoreState}
use Rattle.store_model.specs.Touches.{device_of, DoesTouch, is_lasting, left_by, no_new, puts, replaces, Touch}
use Rattle.store_model.specs.Touches.{untouched}
use Rattle.store_model.proofs.Going.{told_reads}
use Rattle.store_model.proofs.Known.{Known}
use Rattle.store_model.proofs.Over as over
use Rattle.store_model.proofs.Over.{answer, fault, halt, Logs, nothing}
use Rattle.store_model.proofs.StandsKept.{far_super}
use Rattle.store_model.proofs.Turns.{law_of}
use Rattle.clean_images.specs.CleanImages.{CleanImages, IsInUse, IsMarkedOrOpened, MarksFirst}
use Rattle.clean_images.proofs.TouchedPages.{leaves, left_then, none_new, one_page}
use Rattle.clean_images.proofs.TurnsMade.{begins, behind, ends, Goes, goes_on, is_marked, Made, made, marks, none}
use Rattle.clean_images.proofs.TurnsMade.{other, Pages, RunsClean, stays}

-- ---- images

module _ (s : Super) where
  -- a super block that says so
  says_in_use : (content : List ℕ) → SaysInUse s content → (image : Image) → image 0 ≡ content → IsInUse s image
  says_in_use content says image is clean =
      let zero : (super_of (image 0) s.device_pages).clean ≡ 0 =
      ap (λ page. (super_of page s.device_pages).clean) is ∙ says.dirty in
      omega (arith, zero, clean)

  -- the super block is as it was
  in_use_still : (page : ℕ) → 0 ≢ page → (before image : Image) → IsSameButAt page before image → IsInUse s before
      → IsInUse s image
  in_use_still page ne before image same =
      subst (λ content. (super_of content s.device_pages).clean ≢ 1) (sym (same 0 ne))

  -- a page behind the fixed clusters is another
  behind_still : IsPlaced s → (opened : Image) (page : ℕ) → fixed_clusters_of s * cluster_pages_of s ≤ page
      → (before image : Image) → IsSameButAt page before image → IsMarkedOrOpened s opened before
      → IsMarkedOrOpened s opened image
  behind_still placed opened page far before image same (inl marked) =
      inl (in_use_still page (far_super s placed page far) before image same marked)
  behind_still placed opened page far before image same (inr fixed) =
      inr (λ n low. same n (λ e. omega (arith, e, far, low)) ∙ fixed n low)

module _ {D : Type 0} (d : Ghosts D) (law : IsTrue d.tells → Telling d.now d.images d.since d.clock) where
  -- ---- the beginning

  pub clean_begins : (s : Super) (p : StoreState) (disk : D) → IsTrue d.tells → Only (d.now disk) (d.images disk)
      → p.device ≡ device_of d disk → Opens p → (p.clean ≡ false → IsInUse s (d.now disk))
      → CleanImages d s (d.now disk) p disk
  clean_begins s p disk told one device opens tied = record {
    marks_first = λ clean job is. absurd (let bad : None ≡ Some job = sym opens.job ∙ is in cc bad);
    as_opened = λ _ _ image held page low. ap (λ (i : Image). i page) ((one image).0 held);
    in_use = λ dirty image held. subst (IsInUse s) (sym ((one image).0 held)) (tied dirty);
    any_moment = subst (λ m. MarksKept d disk m (λ i. IsMarkedOrOpened s (d.now disk)))
        (sym (opens.marks ∙ ap (λ (v : Device). v.clock ∷ []) device))
        (first_mark d disk (λ i. IsMarkedOrOpened s (d.now disk)) law
        (λ _ image held. inr (λ page low. ap (λ (i : Image). i page) ((one image).0 held))));
  }

  -- ---- a turn

  module _ (known : Known) (opened : Image) (q : StoreState) (kind : Kind) (from to : D) (told : IsTrue d.tells)
      (from_is : known.p.device ≡ device_of d from) (to_is : q.device ≡ device_of d to)
      (turn : Turn d.tells known.p kind q) (does : DoesTouch d from to ((the kind).touch d.tells known.p q turn))
      (old : CleanImages d known.s opened known.p from) where
    open known use {s, placed, p, facts}

    abbrev touch : Touch
    touch = (the kind).touch d.tells p q turn

    abbrev Kept : Images
    Kept = IsMarkedOrOpened s opened

    abbrev Left : Images
    Left = left_by touch (d.images from) (d.now from)

    so : Made s d.tells p q touch
    so = made known d.tells old.marks_first q kind turn

    held_now : d.images from (d.now from)
    held_now = (law told).reads_an_image from

    -- before the turn
    was : (c : Image) → d.images from c → Kept c
    was c held =
        let many : 0 < length p.marks = let counted = facts.counted in omega (arith, counted) in
        old.any_moment.any_moment told 0 many c
        ((law told).counts_now from (get_or p.marks 0 0) c (old.any_moment.past 0 many) held)

    -- an image in which the super block may be replaced is as before, or in use
    marked_or_old : (content : List ℕ) (lasting : Bool) → SaysInUse s content → touch ≡ replaces 0 content lasting
        → (c : Image) → Left c → d.images from c ⊎ IsInUse s c
    marked_or_old content lasting says is c left = by
        (subst (λ (t : Touch). left_by t (d.images from) (d.now from) c) is left)
      where
        by : left_by (replaces 0 content lasting) (d.images from) (d.now from) c → d.images from c ⊎ IsInUse s c
        by (inl held) = inl held
        by (inr put) = inr (says_in_use s content says c
            (ap (λ (i : Image). i 0) put ∙ with_page-here (d.now from) 0 content))

    -- at any moment of it
    on_the_way : Pages s p q touch → (c : Image) → Left c → Kept c
    on_the_way (none nothing_new) c left = was c (none_new touch nothing_new (d.images from) (d.now from) c left)
    on_the_way (behind page at far) c left =
        let x = one_page touch page at (d.images from) (d.now from) held_now c left in
        behind_still s placed opened page far x.before c x.but (was x.before x.was)
    on_the_way (other dirty page at ne) c left =
        let x = one_page touch page at (d.images from) (d.now from) held_now c left in
        inl (in_use_still s page ne x.before c x.but (old.in_use dirty x.before x.was))
    on_the_way (marks content lasting says is never) c left = elim (marked_or_old content lasting says is c left) [
      | inl held ↦ was c held
      | inr marked ↦ inl marked
    ]

    -- where the store was marked
    still_marked : p.clean ≡ false → Pages s p q touch → (c : Image) → Left c → IsInUse s c
    still_marked dirty (none nothing_new) c left =
        old.in_use dirty c (none_new touch nothing_new (d.images from) (d.now from) c left)
    still_marked dirty (behind page at far) c left =
        let x = one_page touch page at (d.images from) (d.now from) held_now c left in
        in_use_still s page (far_super s placed page far) x.before c x.but (old.in_use dirty x.before x.was)
    still_marked dirty (other _ page at ne) c left =
        let x = one_page touch page at (d.images from) (d.now from) held_now c left in
        in_use_still s page ne x.before c x.but (old.in_use dirty x.before x.was)
    still_marked dirty (marks content lasting says is never) c left = elim
        (marked_or_old content lasting says is c left) [
          | inl held ↦ old.in_use dirty c held
          | inr marked ↦ marked
        ]

    -- where it is marked by the turn, one image is left
    one_left : (t : Touch) → DoesTouch d from to t → is_lasting t ≡ true → Only (d.now to) (d.images to)
    one_left untouched done lasts = absurd (false≢true lasts)
    one_left (puts page content lasting) done lasts = done.durable lasts told
    one_left (replaces page content lasting) done lasts = done.durable lasts told
    one_left (no_new lasting) done lasts = done.durable lasts told

    reads_then : q.device.reads ≡ d.now to
    reads_then = ap (λ (v : Device). v.reads) to_is ∙ told_reads d to told

    -- at its exit
    in_use : Goes s d.tells p q touch → q.clean ≡ false → (c : Image) → d.images to c → IsInUse s c
    in_use (stays clean job) dirty c held = still_marked (sym clean ∙ dirty) so.pages c
        (left_then d (law told) told from to touch does c held)
    in_use (ends clean job) dirty c held = still_marked (sym clean ∙ dirty) so.pages c
        (left_then d (law told) told from to touch does c held)
    in_use (begins job others clean is todo) dirty c held = still_marked (sym clean ∙ dirty) so.pages c
        (left_then d (law told) told from to touch does c held)
    in_use (goes_on clean marked) dirty c held = still_marked marked so.pages c
        (left_then d (law told) told from to touch does c held)
    in_use (is_marked content says lasts reads now) dirty c held = says_in_use s content says c
        (ap (λ (i : Image). i 0) ((one_left touch does lasts c).0 held ∙ sym reads_then) ∙ reads told)

    -- where the store is clean behind the turn, it was before it
    was_clean : Goes s d.tells p q touch → q.clean ≡ true → p.clean ≡ true
    was_clean (stays clean job) is = sym clean ∙ is
    was_clean (ends clean job) is = sym clean ∙ is
    was_clean (begins job others clean begun todo) is = sym clean ∙ is
    was_clean (goes_on clean marked) is = sym clean ∙ is
    was_clean (is_marked content says lasts reads now) is = absurd (false≢true (sym now ∙ is))

    -- and where it runs on, it ran
    was_running : over.Goes p q → q.stopped ≡ None → p.stopped ≡ None
    was_running (over.stays same device) runs = sym same ∙ runs
    was_running (over.moves ran same counted later) runs = ran
    was_running (over.breaks ran stopped counted later) runs = ran

    as_opened : RunsClean q → Pages s p q touch → (c : Image) → Left c → HasFixedPagesOf s opened c
    as_opened runs pages = by pages
      where
        clean : p.clean ≡ true
        clean = was_clean so.goes runs.0

        old_image : (c : Image) → d.images from c → HasFixedPagesOf s opened c
        old_image = old.as_opened clean (was_running ((law_of kind).effect d.tells p q turn).goes runs.1)

        by : Pages s p q touch → (c : Image) → Left c → HasFixedPagesOf s opened c
        by (none nothing_new) c left = old_image c (none_new touch nothing_new (d.images from) (d.now from) c left)
        by (behind page at far) c left =
            let x = one_page touch page at (d.images from) (d.now from) held_now c left in
            λ n low. x.but n (λ e. omega (arith, e, far, low)) ∙ old_image x.before x.was n low
        by (other dirty page at ne) c left = absurd (false≢true (sym dirty ∙ clean))
        by (marks content lasting says is never) c left = absurd (never runs)

    marks_first : Goes s d.tells p q touch → MarksFirst q
    marks_first (stays clean same) is job there = old.marks_first (sym clean ∙ is) job (sym same ∙ there)
    marks_first (ends clean over) is job there = absurd (let bad : None ≡ Some job = sym over ∙ there in cc bad)
    marks_first (begins new others clean begun todo) is job there =
        let e : new ≡ job = let both : Some new ≡ Some job = sym begun ∙ there in cc both in (
          others,
          ap (λ (j : JobState). j.todo) (sym e) ∙ todo ∙ ap (λ b. marking b others) (sym clean ∙ is),
        )
    marks_first (goes_on clean marked) is job there = absurd (false≢true (sym marked ∙ sym clean ∙ is))
    marks_first (is_marked content says lasts reads now) is job there = absurd (false≢true (sym now ∙ is))

    -- ---- moments

    abbrev Always : ℕ → Images
    Always i = Kept

    later : d.clock from ≤ d.clock to
    later = (leaves d (law told) told from to touch does).later

    kept_so : MarksKept d to p.marks Always
    kept_so = kept_by_run d from to p.marks Always Always Left old.any_moment later
        (λ _. leaves d (law told) told from to touch does) (λ i lt c x. x) (λ _ i lt c left. on_the_way so.pages c left)

    one_more : q.marks ≡ p.marks ++ q.device.clock ∷ [] → MarksKept d to q.marks Always
    one_more marks_are = subst (λ m. MarksKept d to m Always)
        (sym (marks_are ∙ ap (λ (v : Device). p.marks ++ v.clock ∷ []) to_is))
        (marked_after_run d from to p.marks Always Always Left old.any_moment later
        (λ _. leaves d (law told) told from to touch does) (λ i lt c x. x) (λ _ i lt c left. on_the_way so.pages c left)
        (λ _ c left. on_the_way so.pages c
        (left_then d (law told) told from to touch does c ((law told).since_now to c left))))

    moments : Logs p q → MarksKept d to q.marks Always
    moments (nothing log_is marks_are) = subst (λ m. MarksKept d to m Always) (sym marks_are) kept_so
    moments (answer e log_is marks_are quiet runs cause) = one_more marks_are
    moments (halt e at log_is marks_are reply stops) = one_more marks_are
    moments (fault e log_is marks_are reply stops) = one_more marks_are

    pub clean_stays : CleanImages d s opened q to
    clean_stays = record {
      marks_first = marks_first so.goes;
      as_opened = λ clean runs c held. as_opened (clean, runs) so.pages c
          (left_then d (law told) told from to touch does c held);
      in_use = in_use so.goes;
      any_moment = moments ((law_of kind).effect d.tells p q turn).logs;
    }
