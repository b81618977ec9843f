-- What a channel's write of a page comes to, by what was found of its blob.
use Rattle.std.proofs.Common.{◌≡◌, ℕ, ◌/◌, ◌<◌, ◌∷◌, false, Option, Some, None, length}
use Rattle.std.proofs.Common.{refl, sym, ap, subst, ◌∙◌}
use Rattle.std.specs.Prelude.{IfSome, IsSome}
use Rattle.std.specs.Option.{option_map_or}
use Rattle.std.specs.FinMap as map
use Rattle.std.specs.FinSet as set
use Rattle.page_disk.specs.declared.disk.PageDisk.{Ghosts}
use Rattle.super_block.specs.Numbers.{cluster_pages_of}
use Rattle.volume_model.specs.Refusals.{refusal}
use Rattle.volume_model.specs.Volumes.{page_of}
use Rattle.volume_model.specs.declared.command.Command.{Command}
use Rattle.volume_model.specs.declared.command.Command.TheVariants as c
use Rattle.volume_model.specs.declared.reply.Reply.{Reply}
use Rattle.blob_meta.specs.Pages.{IsFirstOnPages, IsPageCause}
use Rattle.blob_meta.specs.ShownBy.{IsHeadMeant}
use Rattle.store_model.specs.Cases as kind
use Rattle.store_model.specs.Cases.WritePage.{WritesAt}
use Rattle.store_model.specs.Maps.{Metas}
use Rattle.store_model.specs.Rows.{Claiming, Idle, Row}
use Rattle.store_model.specs.Shown.{fixed_of}
use Rattle.store_model.specs.StoreState.{shown, StoreState}
use Rattle.channel_turns.specs.ChannelTurns.{IsOfWrite, WaitsToWrite, WritesNow}
use Rattle.running_store.specs.TurnMade.{TurnMade, TurnsAs}
use Rattle.channel_turns.specs.ClaimTurns.{writing_state}
use Rattle.running_store.specs.RunningState.{IsRunning}
use Rattle.running_store.specs.StoreView.{AreResolved, rows_of, state_of, StoreView}
use Rattle.running_store.specs.Steps.{with_row_at}
use Rattle.running_store.proofs.Entered.{disk_same_then, entered_then}
use Rattle.channel_turns.proofs.PagesShown.{page_low, writable}
use Rattle.running_store.proofs.Rowing.{state_with_row}
use Rattle.channel_turns.proofs.WriteMeant.{free, has_place, HasPlace, head_is, means_none, page_cause, place_by}
use Rattle.channel_turns.proofs.WriteMeant.{refused_so}
use Rattle.channel_turns.proofs.FirstCommand.{IsLogged}

module _ {D : Type 0} (d : Ghosts D) (p : StoreView D) (channel : ℕ) (running : IsRunning (state_of d p))
    (runs : p.stopped ≡ None) (are : AreResolved p.metas p.marked) (w : WaitsToWrite p channel Idle) (head : Option ℕ)
    (meant : IsHeadMeant p.metas p.super w.volume head)
    (thawed : option_map_or (set.contains p.guards.frozen) head false ≡ false) where
  abbrev s : StoreState
  s = state_of d p

  abbrev k : ℕ
  k = cluster_pages_of p.super

  abbrev command : Command
  command = c.Write w.volume w.page w.word

  -- it is refused
  pub refused : (reply : Reply) → IsPageCause reply → IsFirstOnPages p.metas p.super command (Some reply)
      → channel < length p.rows → (q : StoreView D)
      → IsLogged Idle d p channel reply q
      → TurnsAs d IsOfWrite p q
  refused reply caused first low q logged =
      let is = logged command w.rest (ap (λ (x : Row). x.left) w.row) in
      record {
        kind = kind.refuses_write;
        is = tt;
        made = (
          record {
            channel = channel;
            volume = w.volume;
            page = w.page;
            word = w.word;
            rest = w.rest;
            row = w.row;
            runs = runs;
            free = free d p channel Idle running runs are w head meant thawed;
            reply = reply;
            caused = page_cause reply caused;
            cause = refused_so d p channel Idle running runs are w head meant (Some reply) first;
            next = entered_then Idle d p q channel command w.rest reply low is;
          },
          disk_same_then Idle d p q channel command w.rest reply low is,
        );
      }

  module _ (first : Option Reply) (is_first : IsFirstOnPages p.metas p.super command first)
      (passes : first ≡ None) where
    asked : refusal (fixed_of p.super) (shown s) command ≡ None
    asked = refused_so d p channel Idle running runs are w head meant first is_first ∙ passes

    -- its slot has a cluster
    module _ (place : ℕ) (found : place_by (map.get p.metas) k w.page head ≡ Some place) where
      abbrev x : HasPlace (map.get p.metas) k head w.page place
      x = has_place (map.get p.metas) k w.page place head found

      abbrev writes_at : WritesAt s
      writes_at =
          let is = head_is d p channel Idle running runs are w head meant ∙ x.head_is in
          record {
            channel = channel;
            volume = w.volume;
            page = w.page;
            word = w.word;
            rest = w.rest;
            row = w.row;
            runs = runs;
            free = free d p channel Idle running runs are w head meant thawed;
            asked = asked;
            head = x.at;
            found = is;
            place = place;
            lies = record {
              meta = x.meta;
              there = ap (λ (b : Metas). b x.at) are.resolves ∙ x.there;
              writable =
                  writable s running runs p.metas are.resolves w.volume w.page w.word x.at x.meta is x.there asked;
              cluster = x.cluster;
              in_slot = x.in_slot;
              place_is = x.place_is;
            };
          }

      pub writes_now : WritesNow d p channel place (page_of w.word)
      writes_now = record { at = writes_at; channel_is = refl; place_is = refl; content_is = refl }

      pub place_low : place < p.super.device_pages
      place_low = subst (λ n. n < p.super.device_pages) (sym x.place_is)
          (page_low s running runs p.metas are.resolves x.at x.meta (w.page / k) x.cluster w.page x.there x.in_slot)

    -- its slot is empty
    pub found_empty : place_by (map.get p.metas) k w.page head ≡ None → IfSome head (λ h. IsSome (map.get p.metas h))
        → channel < length p.rows → (row : Row) → row ≡ record (rows_of p.rows channel) { stage = Claiming }
        → TurnMade d p (with_row_at p channel row) kind.finds_empty
    found_empty none there low row is = (
      record {
        write = writing_state d p channel Idle w;
        runs = runs;
        asked = asked;
        means = means_none d p channel Idle running runs are w head meant thawed asked none there;
        next = state_with_row d p channel row (record { left = command ∷ w.rest; stage = Claiming; claim = None })
            (is ∙ ap (λ (r : Row). record r { stage = Claiming }) w.row) low;
      },
      refl,
    )
