-- What a call does to a file that gathers.
use Rattle.std.proofs.Common.{◌≡◌, ◌+◌, ◌*◌, ℕ, Bool, true, false, List, [], ◌∷◌, ◌++◌, length, refl, sym, ◌∙◌, ap}
use Rattle.page_disk.specs.Disk.{Image}
use Rattle.page_disk.specs.declared.disk.WriteKind.{WriteKind}
use Rattle.page_disk.specs.declared.disk.WriteKind.TheVariants.{Plain}
use Rattle.file_disk.specs.FileCalls.{FileBytes, FileCall, DidWrite, DidSync, file_after, may_leave, pages_in}
use Rattle.file_disk.specs.FileCalls.{might_leave_since, ticks, with_bytes, with_run}
use Rattle.file_disk.specs.Recorded.{run_lost, since_now}
use Rattle.file_disk.proofs.Runs.{with_run-more}
use Rattle.gathered_file.specs.Gathering.{Covers, Gathers, is_synced}
use Rattle.gathered_file.proofs.Left.{at_more, run_more, onto_run}

module _ (opened : FileBytes) where
  -- a call that failed leaves all that was left before
  pub failed_covers : (asked sent : List FileCall) → Covers opened asked sent → (offset : ℕ) (pages : List (List ℕ))
      (kind : WriteKind) (took : Bool) → Covers opened (DidWrite offset pages kind took ∷ asked) sent
  failed_covers asked sent covers offset pages kind took image left =
      run_lost (may_leave opened asked) offset kind pages image (covers image left)

  module _ (asked sent : List FileCall) (start : ℕ) (kept : List (List ℕ)) (gathers : Gathers opened asked sent start kept) where
    -- what is kept may be lost
    pub covers : Covers opened asked sent
    covers image left = gathers.leaves image (run_lost (may_leave opened sent) start Plain kept image left)

    -- what is kept is sent, and that fails: what may be left is no more
    pub unsent_covers : Covers opened asked (DidWrite start kept Plain false ∷ sent)
    unsent_covers = gathers.leaves

    -- it is sent, and nothing is kept
    pub sent_gathers : (anywhere : ℕ) → Gathers opened asked (DidWrite start kept Plain true ∷ sent) anywhere []
    sent_gathers anywhere = record {
      holds = gathers.holds;
      leaves = gathers.leaves;
      unfailing = λ none. (refl, gathers.unfailing none);
    }

    -- one page more is kept behind the others
    pub kept_gathers : (offset : ℕ) (page : List ℕ) → offset ≡ start + length kept * 4096
        → Gathers opened (DidWrite offset (page ∷ []) Plain true ∷ asked) sent start (kept ++ page ∷ [])
    kept_gathers offset page is = record {
      holds =
          ap (λ file. with_bytes file offset page) gathers.holds
          ∙ ap (λ at. with_bytes (with_run (file_after opened sent) start kept) at page) is
          ∙ sym (with_run-more (file_after opened sent) start kept page);
      leaves = λ image left.
          at_more _ (may_leave opened asked) gathers.leaves offset Plain page image
          (onto_run (may_leave opened sent) start offset Plain kept page is image left);
      unfailing = λ none. gathers.unfailing none.1;
    }

  module _ (asked sent : List FileCall) (start : ℕ) (gathers : Gathers opened asked sent start []) where
    -- nothing is kept anywhere
    pub nothing_gathers : (anywhere : ℕ) → Gathers opened asked sent anywhere []
    nothing_gathers anywhere = record {
      holds = gathers.holds;
      leaves = gathers.leaves;
      unfailing = gathers.unfailing;
    }

    -- a call is passed on
    pub passed_gathers : (call : FileCall) → Gathers opened (call ∷ asked) (call ∷ sent) start []
    passed_gathers (DidWrite offset pages kind true) = record {
      holds = ap (λ file. with_run file offset pages) gathers.holds;
      leaves = run_more _ _ gathers.leaves offset kind pages;
      unfailing = λ none. (none.0, gathers.unfailing none.1);
    }
    passed_gathers (DidWrite offset pages kind false) = record {
      holds = gathers.holds;
      leaves = run_more _ _ gathers.leaves offset kind pages;
      unfailing = λ none. (none.0, gathers.unfailing none.1);
    }
    passed_gathers (DidSync true) = record {
      holds = gathers.holds;
      leaves = λ image is. is ∙ ap pages_in (sym gathers.holds);
      unfailing = λ none. (none.0, gathers.unfailing none.1);
    }
    passed_gathers (DidSync false) = record {
      holds = gathers.holds;
      leaves = gathers.leaves;
      unfailing = λ none. (none.0, gathers.unfailing none.1);
    }

  -- what a file whose newest call is a sync that answered Ok may leave is what it holds
  synced_holds : (sent : List FileCall) → is_synced sent ≡ true → (image : Image) → may_leave opened sent image
      → image ≡ pages_in (file_after opened sent)
  synced_holds [] is image left = cc
  synced_holds (DidWrite offset pages kind took ∷ earlier) is image left = cc
  synced_holds (DidSync true ∷ earlier) is image left = left
  synced_holds (DidSync false ∷ earlier) is image left = cc

  -- a sync of nothing isn't passed on
  pub skipped_gathers : (asked sent : List FileCall) (start : ℕ) → Gathers opened asked sent start []
      → is_synced sent ≡ true → Gathers opened (DidSync true ∷ asked) sent start []
  skipped_gathers asked sent start gathers is = record {
    holds = gathers.holds;
    leaves = λ image left. synced_holds sent is image left ∙ ap pages_in (sym gathers.holds);
    unfailing = λ none. gathers.unfailing none.1;
  }

  -- what a power failure may leave at a call's entry is what it may leave by what was asked for
  pub at_entry : (asked sent : List FileCall) → Covers opened asked sent → (image : Image)
      → might_leave_since opened sent (ticks sent) image → may_leave opened asked image
  at_entry asked sent covers image left = covers image (since_now opened sent image left)
