-- What images say where a replacement failed that is no commit: the old metadata, or the new.
use Rattle.std.proofs.Common.{◌≡◌, ◌≢◌, ℕ, [], None, Some, refl, sym, ◌∙◌}
use Rattle.page_disk.specs.Disk.{Image}
use Rattle.page_disk.specs.Moments.{IsReplaced}
use Rattle.page_disk.specs.declared.disk.PageDisk.{Ghosts}
use Rattle.store_model.specs.Cases.{replaces_more as kind_of_replacing}
use Rattle.store_model.specs.Cases.ReplaceMore.{ReplacesMore}
use Rattle.store_model.specs.Guarding.{frozen_behind}
use Rattle.store_model.specs.Phases.{page_in, Replaces, Replacing}
use Rattle.store_model.specs.RunInvariant.{RunInvariant}
use Rattle.store_model.specs.StoreState.{ForInsert, going_on, StoreState}
use Rattle.store_model.specs.Turning.{page_of_place, Runs}
use Rattle.store_model.specs.WithReplaced.{made_by, with_replaced}
use Rattle.store_model.proofs.Heads.{tried_way, would_move, would_read}
use Rattle.store_model.proofs.Over.{ImageLaw, Over, unchanged, Way}

module _ {D : Type 0} (d : Ghosts D) (x : Over d) (r : Replacing) (running : Runs x.p (Replaces r None))
    (no_insert : (channel : ℕ) → running.job.serves ≢ ForInsert channel) where
  open x use {laws, s, placed, first, script, p, q, from, facts}

  abbrev would_be : StoreState
  would_be = record (with_replaced p r (made_by r)) {
    job = going_on (record running.job { claimed = [] }) [] running.rest;
    frozen = frozen_behind p.frozen running.job running.rest;
    device = would_read d x r None running;
  }

  would : ReplacesMore d.tells p would_be
  would = record {
    replacing = r;
    running = running;
    no_insert = no_insert;
    device = would_read d x r None running;
    moves = would_move d x r None running;
    next = refl;
  }

  would_facts : RunInvariant s first script would_be
  would_facts = laws.plants.keep d.tells s first script p would_be kind_of_replacing placed facts would

  -- an image from before, or the one with the head's page
  more_way : (c : Image)
      → IsReplaced (d.images from) (d.now from) (page_of_place p r.head) (page_in r.planned r.head) c → Way d x c
  more_way = tried_way d x r None running would_be refl refl refl refl running.runs would_facts (unchanged refl)

  -- the store stops
  pub more_stops : (at : ℕ) → q.stopped ≡ Some at
      → ImageLaw d x (IsReplaced (d.images from) (d.now from) (page_of_place p r.head) (page_in r.planned r.head))
  more_stops at stops = record {
    way = more_way;
    stands = λ on. absurd (let bad = sym on ∙ stops in cc bad);
    written = λ on. absurd (let bad = sym on ∙ stops in cc bad);
  }
