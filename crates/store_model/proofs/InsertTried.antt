-- What images say where a turn failed that would have put a cluster into its slot: the old metadata, or the new.
use Rattle.std.proofs.Common.{◌≡◌, [], ◌∷◌, Some, None, refl, sym}
use Rattle.page_disk.specs.Disk.{Image}
use Rattle.page_disk.specs.Moments.{IsReplaced}
use Rattle.page_disk.specs.declared.disk.PageDisk.{Ghosts}
use Rattle.blob_meta.specs.declared.meta.Meta.{Meta}
use Rattle.store_model.specs.Claiming.{IsInserting, stage_behind}
use Rattle.store_model.specs.Maps.{with_entry}
use Rattle.store_model.specs.Phases.{page_in, Replaces, Replacing}
use Rattle.store_model.specs.Rows.{with_row}
use Rattle.store_model.specs.StoreState.{going_on, StoreState}
use Rattle.store_model.specs.Turning.{page_of_place, Runs}
use Rattle.store_model.specs.Cases.{inserts as kind_of_inserts}
use Rattle.store_model.specs.Cases.Insert.{Inserts}
use Rattle.store_model.specs.RunInvariant.{RunInvariant}
use Rattle.store_model.proofs.Heads.{rechained_is, replaced_is, tried_way, would_move, would_read}
use Rattle.store_model.proofs.Over.{Over, unchanged, Way}

module _ {D : Type 0} (d : Ghosts D) (x : Over d) (r : Replacing) (running : Runs x.p (Replaces r None))
    (inserting : IsInserting x.p running.job) (new : Meta) (new_is : r.new ≡ Some new) where
  open x use {laws, s, placed, first, script, p, from, facts}

  abbrev would_be : StoreState
  would_be = record p {
    base = with_entry p.base r.head new;
    chains = with_entry p.chains r.head (r.head ∷ r.fresh);
    rows = with_row p.rows inserting.row
        (record { left = (p.rows inserting.row).left; stage = stage_behind running.rest; claim = None });
    job = going_on running.job [] running.rest;
    device = would_read d x r None running;
  }

  would : Inserts d.tells p would_be
  would = record {
    replacing = r;
    running = running;
    inserting = inserting;
    new = new;
    new_is = new_is;
    device = would_read d x r None running;
    moves = would_move d x r None running;
    next = refl;
  }

  would_facts : RunInvariant s first script would_be
  would_facts = laws.plants.keep d.tells s first script p would_be kind_of_inserts placed facts would

  -- an image from before, or the one with the head's page
  pub insert_way : (c : Image)
      → IsReplaced (d.images from) (d.now from) (page_of_place p r.head) (page_in r.planned r.head) c → Way d x c
  insert_way = tried_way d x r None running would_be (sym (replaced_is p.base r new new_is))
      (sym (rechained_is p.chains r new new_is)) refl refl running.runs would_facts (unchanged refl)
