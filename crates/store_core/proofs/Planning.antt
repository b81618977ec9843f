-- What a plan made of what a running store has in memory is in the volumes that the store shows.
use Rattle.running_store.specs.RunningState.{IsRunning}
use Rattle.std.proofs.Common.{◌≡◌, ℕ, [], ◌∷◌, length, Some, None, refl, sym, true, ap, ◌∙◌}
use Rattle.std.specs.Prelude.{if◌then◌else◌, nat_lt}
use Rattle.std.specs.Option.{option_map, option_and_then}
use Rattle.std.specs.Ordering.{nat_cmp}
use Rattle.std.specs.FinMap as map
use Rattle.page_disk.specs.declared.disk.PageDisk.{Ghosts}
use Rattle.volume_model.specs.Volumes.{Fixed, Volume, Volumes, head_of}
use Rattle.volume_model.specs.Names.{IsName}
use Rattle.volume_model.specs.Xattrs.{Text, Xattrs, name_key, with_nul, with_value}
use Rattle.volume_model.specs.Steps.{edited_at}
use Rattle.volume_model.specs.declared.command.VolumeRef.{VolumeRef}
use Rattle.volume_model.specs.declared.command.Command.TheVariants as c
use Rattle.blob_meta.specs.Parents.{read_only}
use Rattle.blob_meta.specs.declared.meta.Meta.{Meta}
use Rattle.blob_meta.specs.Asked.{IsFirstCause}
use Rattle.blob_meta.specs.Resolving.{resolved}
use Rattle.blob_meta.specs.ShownBy.{IsFirstRefusal, IsHeadMeant, ShowsMetas}
use Rattle.blob_meta.specs.declared.job.Job.{Job}
use Rattle.blob_meta.specs.Jobs.{job_of_one, resize_job, resized_meta}
use Rattle.volume_model.specs.declared.reply.Reply.TheVariants as r
use Rattle.store_model.specs.Maps.{Map}
use Rattle.store_model.specs.Shown.{fixed_of, volume_of}
use Rattle.store_model.specs.StoreState.{StoreState, shown}
use Rattle.store_model.specs.Asking.{resizes, syncs, AsksFor}
use Rattle.job_begins.specs.Begins.{IsJobOf}
use Rattle.store_model.proofs.Shows.{or_empty}
use Rattle.store_model.proofs.Synced.{edited_here}
use Rattle.store_core.specs.Planning.{PlanLaws}
use Rattle.running_store.specs.StoreView.{state_of}
use Rattle.store_core.proofs.DeleteAsked.{asks_delete}
use Rattle.store_core.proofs.FillAsked.{asks_fill, asks_last}
use Rattle.store_core.proofs.NextHead.{asks_clone, asks_create, asks_snapshot, next_there}
use Rattle.running_store.proofs.Showing.{shows_metas}
use Rattle.running_store.proofs.Resolved.{unmarked_base}
use Rattle.metadata_turns.proofs.Answered.{found, live_same}
use Rattle.metadata_turns.proofs.Found.{is_live_of, shows_live}

module _ (p : StoreState) (running : IsRunning p) (runs : p.stopped ≡ None) (metas : map.FinMap nat_cmp Meta)
    (resolves : resolved p.base ≡ map.get metas) (base : p.base ≡ map.get metas) (volume : VolumeRef) (head : ℕ)
    (old : Meta) (live : Xattrs)
    (there : map.get metas head ≡ Some old) (is_live : p.live head ≡ Some live)
    (meant : IsHeadMeant metas p.super volume (Some head)) where
  abbrev f : Fixed
  f = fixed_of p.super

  abbrev v : Volumes
  v = shown p

  shows : ShowsMetas f p.super metas v
  shows = shows_metas p running runs metas resolves

  meant_now : head_of f v volume ≡ Some head
  meant_now = meant f v shows

  here : (x : Volume) × (v head ≡ Some x) × (x.live ≡ live)
  here = found f v p.live (live_same running.first p (running.facts.well runs)) head live is_live

  there_now : p.base head ≡ Some old
  there_now = ap (λ (m : Map Meta). m head) base ∙ there

  -- the volume after the edit of a step
  edited_now : (edit : Volume → Volume) → edited_at f v (head_of f v volume) edit head ≡ Some (edit here.0)
  edited_now edit = edited_here f v (head_of f v volume) edit head meant_now ∙ ap (option_map edit) here.1

  live_of_it : option_map (λ (x : Volume). x.live) (option_and_then v (head_of f v volume)) ≡ Some live
  live_of_it =
      ap (λ o. option_map (λ (x : Volume). x.live) (option_and_then v o)) meant_now
      ∙ ap (λ o. option_map (λ (x : Volume). x.live) o) here.1 ∙ ap Some here.2

  pub asks_put : (key value : Text) → IsFirstCause metas p.super (Some live) (c.Put volume key value) None
      → AsksFor p (c.Put volume key value) head (record old { xattrs = with_value live key value })
      (with_value live key value)
  asks_put key value cause = record {
    syncing = tt;
    asked = cause f v (record { shows = shows; live_is = live_of_it });
    found = meant_now;
    old = old;
    there = there_now;
    after = record here.0 { live = with_value here.0.live key value; synced = with_value here.0.live key value };
    step = edited_now (λ x. record x { live = with_value x.live key value; synced = with_value x.live key value });
    new_is = ap (λ (xs : Xattrs). record old { xattrs = with_value xs key value }) (sym here.2);
    live_is = ap (λ (xs : Xattrs). with_value xs key value) (sym here.2);
  }

  pub asks_sync : IsFirstCause metas p.super (Some live) (c.Sync volume) None
      → AsksFor p (c.Sync volume) head (record old { xattrs = live }) live
  asks_sync cause = record {
    syncing = tt;
    asked = cause f v (record { shows = shows; live_is = live_of_it });
    found = meant_now;
    old = old;
    there = there_now;
    after = record here.0 { synced = here.0.live };
    step = edited_now (λ x. record x { synced = x.live });
    new_is = ap (λ (xs : Xattrs). record old { xattrs = xs }) (sym here.2);
    live_is = sym here.2;
  }

  pub asks_read_only : IsFirstCause metas p.super (Some live) (c.ReadOnly volume) None
      → AsksFor p (c.ReadOnly volume) head (record old { xattrs = live; flags = read_only old.flags }) live
  asks_read_only cause = record {
    syncing = tt;
    asked = cause f v (record { shows = shows; live_is = live_of_it });
    found = meant_now;
    old = old;
    there = there_now;
    after = record here.0 { synced = here.0.live; read_only = true };
    step = edited_now (λ x. record x { synced = x.live; read_only = true });
    new_is = ap (λ (xs : Xattrs). record old { xattrs = xs; flags = read_only old.flags }) (sym here.2);
    live_is = sym here.2;
  }

-- a rename of a blob that is there, whatever its live attributes are
module _ (p : StoreState) (metas : map.FinMap nat_cmp Meta)
    (shows : ShowsMetas (fixed_of p.super) p.super metas (shown p)) (volume : VolumeRef)
    (name : Text) (head : ℕ) (old : Meta) (there : p.base head ≡ Some old)
    (resolves : resolved p.base head ≡ Some old) (named : IsName name)
    (meant : IsHeadMeant metas p.super volume (Some head))
    (unrefused : IsFirstRefusal metas p.super (c.Rename volume name) None) where
  abbrev edit : Volume → Volume
  edit x = record x {
    live = with_value x.live name_key (with_nul name);
    synced = with_value x.synced name_key (with_nul name);
  }

  -- the volume
  abbrev named_here : Volume
  named_here = volume_of (fixed_of p.super).cluster_pages p.device.reads (resolved p.base) p.super.md_len
      (or_empty (p.live head)) head old

  is_here : shown p head ≡ Some named_here
  is_here = rw resolves refl

  abbrev new_name : Meta
  new_name = record old { xattrs = with_value old.xattrs name_key (with_nul name) }

  asks_name : AsksFor p (c.Rename volume name) head new_name (edit named_here).live
  asks_name = record {
    syncing = named;
    asked = unrefused (fixed_of p.super) (shown p) shows;
    found = meant (fixed_of p.super) (shown p) shows;
    old = old;
    there = there;
    after = edit named_here;
    step = edited_here (fixed_of p.super) (shown p) (head_of (fixed_of p.super) (shown p) volume) edit head
        (meant (fixed_of p.super) (shown p) shows) ∙ ap (option_map edit) is_here;
    new_is = refl;
    live_is = refl;
  }

  asks_rename : (job : Job) → job ≡ job_of_one head new_name → IsJobOf p (c.Rename volume name) job
  asks_rename job is =
      record {
        commit = record {
          reply = r.Ok;
          live = Some (record { head = head; xattrs = Some (edit named_here).live });
          renews = [];
        };
        asked =
            syncs
            (record {
              head = head;
              new = new_name;
              live = (edit named_here).live;
              is = is;
              asks = asks_name;
              commit_is = refl;
            });
        next = next_there p job.list (record { head = head; new = Some new_name }) []
            (ap (λ (j : Job). j.list) is) old there;
      }

-- a resize of a blob that is there
asks_resize : (p : StoreState) (metas : map.FinMap nat_cmp Meta) → ShowsMetas (fixed_of p.super) p.super metas (shown p)
    → (volume : VolumeRef) (slots head : ℕ) (old : Meta) (job : Job) → p.base head ≡ Some old
    → IsHeadMeant metas p.super volume (Some head) → IsFirstRefusal metas p.super (c.Resize volume slots) None
    → job ≡ resize_job head old slots → IsJobOf p (c.Resize volume slots) job
asks_resize p metas shows volume slots head old job there meant unrefused is =
    record {
      commit = record { reply = r.Ok; live = None; renews = if nat_lt slots (length old.map) then head ∷ [] else [] };
      asked =
          resizes
          (record {
            volume = volume;
            slots = slots;
            command_is = refl;
            asked = unrefused (fixed_of p.super) (shown p) shows;
            head = head;
            found = meant (fixed_of p.super) (shown p) shows;
            old = old;
            there = there;
            is = is;
            commit_is = refl;
          });
      next = next_there p job.list (record { head = head; new = Some (resized_meta old slots) }) []
          (ap (λ (j : Job). j.list) is) old there;
    }

pub plan_laws : {D : Type 0} (d : Ghosts D) → PlanLaws d
plan_laws d = record {
  live = λ p command head xattrs running runs are found.
      is_live_of (state_of d p) running runs p.metas are.resolves p.live refl command head xattrs found;
  shows = λ p command head xattrs running runs are found.
      shows_live (state_of d p) running runs p.metas are.resolves p.live refl command head xattrs found;
  shows_all = λ p running runs are. shows_metas (state_of d p) running runs p.metas are.resolves;
  put = λ p volume head key value old live running runs are clean blob meant cause.
      asks_put (state_of d p) running runs p.metas are.resolves (unmarked_base p.metas p.marked are clean) volume head
      old live
      blob.there blob.is_live meant key value cause;
  sync = λ p volume head old live running runs are clean blob meant cause.
      asks_sync (state_of d p) running runs p.metas are.resolves (unmarked_base p.metas p.marked are clean) volume head
      old live
      blob.there blob.is_live meant cause;
  read_only = λ p volume head old live running runs are clean blob meant cause.
      asks_read_only (state_of d p) running runs p.metas are.resolves (unmarked_base p.metas p.marked are clean) volume
      head old live
      blob.there blob.is_live meant cause;
  rename = λ p volume name head old job running runs are clean is_name meant there unrefused is.
      asks_rename (state_of d p) p.metas (shows_metas (state_of d p) running runs p.metas are.resolves) volume name head
      old (ap (λ (m : Map Meta). m head) (unmarked_base p.metas p.marked are clean) ∙ there)
      (ap (λ (m : Map Meta). m head) are.resolves ∙ there) is_name meant unrefused job is;
  create = λ p name slots thick uuid head xattrs running runs are is_name next unrefused named.
      asks_create running.store running.first running.script (state_of d p) running.facts (running.facts.well runs)
      p.metas (shows_metas (state_of d p) running runs p.metas are.resolves) name slots thick uuid head xattrs is_name
      next unrefused named;
  resize = λ p volume slots head old job running runs are clean meant there unrefused is.
      asks_resize (state_of d p) p.metas (shows_metas (state_of d p) running runs p.metas are.resolves) volume slots
      head
      old job (ap (λ (m : Map Meta). m head) (unmarked_base p.metas p.marked are clean) ∙ there) meant unrefused is;
  clone = λ p volume name parent old head xattrs running runs are clean is_name meant there next unrefused named.
      asks_clone running.store running.first running.script (state_of d p) running.facts (running.facts.well runs)
      p.metas (shows_metas (state_of d p) running runs p.metas are.resolves) volume name parent old head xattrs is_name
      meant (ap (λ (m : Map Meta). m parent) (unmarked_base p.metas p.marked are clean) ∙ there) next unrefused named;
  snapshot = λ p volume name of old head xattrs running runs are clean is_name meant there next unrefused named.
      asks_snapshot running.store running.first running.script (state_of d p) running.facts (running.facts.well runs)
      p.metas (shows_metas (state_of d p) running runs p.metas are.resolves) volume name of old head xattrs is_name
      meant (ap (λ (m : Map Meta). m of) (unmarked_base p.metas p.marked are clean) ∙ there) next unrefused named;
  delete = λ p volume of job running runs are clean meant unrefused is.
      asks_delete running.store running.placed running.first running.script (state_of d p) running.facts p.metas
      (shows_metas (state_of d p) running runs p.metas are.resolves) (unmarked_base p.metas p.marked are clean) volume
      of job meant unrefused is;
  fill = λ p kind volume head slot running runs are meant unrefused least.
      asks_fill (state_of d p) p.metas (shows_metas (state_of d p) running runs p.metas are.resolves) kind volume head
      meant unrefused are.resolves slot least;
  last = λ p kind volume head job running runs are clean meant unrefused filled is.
      asks_last (state_of d p) p.metas (shows_metas (state_of d p) running runs p.metas are.resolves) kind volume head
      meant unrefused (unmarked_base p.metas p.marked are clean) job filled is;
}
