-- What a channel's read of a page comes to, by what was found of its blob.
use Rattle.std.proofs.Common.{◌≡◌, ◌≢◌, ◌+◌, ◌≤◌, ◌<◌, ℕ, ◌∷◌, Bool, true, false, List, Option, Some, None}
use Rattle.std.proofs.Common.{length, Result, Ok, Err, refl, sym, ap, subst, ◌∙◌, arith, inr, IsTrue}
use Rattle.std.specs.Prelude.{IfSome, IsSome, if◌then◌else◌, slice_get}
use Rattle.std.specs.Option.{option_and_then, option_map_or}
use Rattle.std.specs.FinMap as map
use Rattle.std.specs.FinSet as set
use Rattle.page_disk.specs.Disk.{Image}
use Rattle.page_disk.specs.Moments.{CallsLeaveOnly}
use Rattle.page_disk.specs.declared.disk.DiskFault.{DiskFault}
use Rattle.page_disk.specs.declared.disk.PageDisk.{Ghosts}
use Rattle.std.specs.Result.{is_err}
use Rattle.store_model.specs.Device.{Device}
use Rattle.super_block.specs.Numbers.{cluster_pages_of}
use Rattle.volume_model.specs.Refusals.{refusal}
use Rattle.volume_model.specs.Steps.{Allowed}
use Rattle.volume_model.specs.Volumes.{head_of, Volume, zero_page}
use Rattle.volume_model.specs.declared.command.Command.{Command}
use Rattle.volume_model.specs.declared.command.Command.TheVariants as c
use Rattle.volume_model.specs.declared.command.VolumeRef.{VolumeRef}
use Rattle.volume_model.specs.declared.reply.Reply.{Reply}
use Rattle.volume_model.specs.declared.reply.Reply.TheVariants as r
use Rattle.blob_meta.specs.declared.meta.Meta.{Meta}
use Rattle.blob_meta.specs.Pages.{IsFirstOnPages, IsPageCause, place_read}
use Rattle.blob_meta.specs.ShownBy.{IsHeadMeant}
use Rattle.blob_meta.proofs.Refused.{none_meant}
use Rattle.store_model.specs.Cases as kind
use Rattle.store_model.specs.Cases.CopyNotRead.{IsNotRead}
use Rattle.store_model.specs.Cases.Read.{IsRead}
use Rattle.store_model.specs.Rows.{Idle, Row}
use Rattle.store_model.specs.Seen.{seen_reply}
use Rattle.store_model.specs.Shown.{fixed_of}
use Rattle.store_model.specs.StoreState.{shown, StoreState}
use Rattle.store_model.specs.Touches.{no_new, Touched}
use Rattle.store_model.specs.Turning.{IsNotFrozen, IsQuiet}
use Rattle.channel_turns.specs.ChannelTurns.{IsFrozenFor, IsOfRead, ReadsNow, WaitsToRead}
use Rattle.channel_turns.proofs.WriteMeant.{found_frozen}
use Rattle.running_store.specs.DeviceCalls.{IsReadSo}
use Rattle.running_store.specs.TurnMade.{TurnsAs}
use Rattle.running_store.specs.Reserved.{IsContent}
use Rattle.running_store.specs.RunningState.{IsRunning}
use Rattle.running_store.specs.StoreView.{AreResolved, device_of, read_now, rows_of, state_of, StoreView}
use Rattle.running_store.specs.Steps.{Asks}
use Rattle.running_store.proofs.Entered.{disk_same_then, entered_then}
use Rattle.running_store.proofs.Moving.{not_read}
use Rattle.channel_turns.proofs.PagesShown.{in_range, page_shown, read_low, shows_pages, volume_shown}
use Rattle.channel_turns.proofs.FirstCommand.{frozen_first, IsFirstIn, IsLogged}

-- a channel's read, by what is read of its first command
abbrev pub seen_read : {D : Type 0} (p : StoreView D) (channel : ℕ) (w : WaitsToRead p channel) {rows : List Row}
    {command : Command} {volume : VolumeRef} {page : ℕ} → rows ≡ p.rows → IsFirstIn rows channel command
    → command ≡ c.Read volume page → WaitsToRead p channel
seen_read p channel w {rows} {command} {volume} {page} same first is = record {
  volume = volume;
  page = page;
  rest = w.rest;
  row = w.row ∙ ap (λ (k : Command). record { left = k ∷ w.rest; stage = Idle; claim = None })
      (sym (first (c.Read w.volume w.page) w.rest
      (ap (λ (l : List Row). (rows_of l channel).left) same ∙ ap (λ (x : Row). x.left) w.row)) ∙ is);
}

-- such a reply may come to a read, and speaks of no failed write or flush
caused_step : (s : StoreState) (volume : VolumeRef) (page : ℕ) (reply : Reply) → IsPageCause reply
    → refusal (fixed_of s.super) (shown s) (c.Read volume page) ≡ Some reply
    → Allowed (fixed_of s.super) (shown s) (c.Read volume page) (seen_reply s.tells reply) × IsQuiet reply
caused_step s volume page r.NoVolume is e = (e, tt)
caused_step s volume page r.Reserved is e = (e, tt)
caused_step s volume page r.OutOfRange is e = (e, tt)
caused_step s volume page r.ReadOnly is e = (e, tt)
caused_step s volume page _ is e = absurd is

caused_no_fault : (reply : Reply) → IsPageCause reply → reply ≢ r.ReadFault
caused_no_fault r.NoVolume is e = cc e
caused_no_fault r.Reserved is e = cc e
caused_no_fault r.OutOfRange is e = cc e
caused_no_fault r.ReadOnly is e = cc e
caused_no_fault _ is e = absurd is

-- of a device that doesn't tell zeros stand for the content
pub content_seen : (tells : Bool) (now : Image) (place : Option ℕ) (content : List ℕ)
    → (IsTrue tells → content ≡ option_map_or now place zero_page)
    → option_map_or (if tells then now else (λ page. zero_page)) place zero_page
    ≡ (if tells then content else zero_page)
content_seen true now place content is = sym (is refl)
content_seen false now None content is = refl
content_seen false now (Some n) content is = refl

-- what is seen of the device over a read, by whether it was done
pub read_so : {T : Type 0} (old new : Device) (x : Result T DiskFault) → is_err x ≡ false → IsReadSo old new x
    → (reply : Reply) → reply ≢ r.ReadFault → IsRead old new reply
read_so old new (Ok v) is so = so
read_so old new (Err e) is so = absurd (cc is)

pub failed_so : {T : Type 0} (old new : Device) (x : Result T DiskFault) → is_err x ≡ true → IsReadSo old new x
    → IsNotRead old new
failed_so old new (Ok v) is so = absurd (cc is)
failed_so old new (Err e) is so = so

-- the read of a page that failed, as what is seen over one read at most
as_read : {old new : Device} → IsNotRead old new → IsRead old new r.ReadFault
as_read failed = record {
  reads = failed.reads;
  clock = failed.clock;
  write_faults = failed.write_faults;
  read_calls = inr failed.read_calls;
  later = failed.later;
  fault = λ _. failed.read_faults;
  no_fault = λ other. absurd (other refl);
}

-- what is read of the device answers a read of a blob that isn't frozen
answered : {D : Type 0} (d : Ghosts D) (p : StoreView D) (channel : ℕ) (w : WaitsToRead p channel) → p.stopped ≡ None
    → IsNotFrozen (state_of d p) w.volume → channel < length p.rows → (disk : D)
    → CallsLeaveOnly d p.disk disk (d.images p.disk) → d.pages disk ≡ d.pages p.disk → (q : StoreView D)
    → (reply : Reply) → IsQuiet reply
    → Allowed (fixed_of p.super) (shown (state_of d p)) (c.Read w.volume w.page) (seen_reply d.tells reply)
    → IsRead (device_of d p.disk) (device_of d disk) reply → IsLogged Idle d (record p { disk = disk }) channel reply q
    → TurnsAs d IsOfRead p q
answered {D = D} d p channel w runs free low disk moments pages q reply quiet step read logged =
    let reading = c.Read w.volume w.page in
    let is = logged reading w.rest (ap (λ (x : Row). x.left) w.row) in
    let mid : StoreView D = record p { disk = disk } in
    record {
      kind = kind.reads;
      is = tt;
      made = (
        record {
          channel = channel;
          volume = w.volume;
          page = w.page;
          rest = w.rest;
          row = w.row;
          runs = runs;
          free = free;
          reply = reply;
          quiet = quiet;
          step = step;
          device = device_of d disk;
          read = read;
          next = entered_then Idle d mid q channel reading w.rest reply low is;
        },
        subst (λ (x : D). Touched d p.disk x (no_new false))
            (sym (disk_same_then Idle d mid q channel reading w.rest reply low is))
            (record { moments = moments; durable = λ never. absurd (cc never); pages = pages }),
      );
    }

-- ---- what is found of the blob

module _ {D : Type 0} (d : Ghosts D) (p : StoreView D) (channel : ℕ) (running : IsRunning (state_of d p))
    (runs : p.stopped ≡ None) (are : AreResolved p.metas p.marked) (w : WaitsToRead p channel) (head : Option ℕ)
    (meant : IsHeadMeant p.metas p.super w.volume head) where
  abbrev s : StoreState
  s = state_of d p

  abbrev k : ℕ
  k = cluster_pages_of p.super

  abbrev command : Command
  command = c.Read w.volume w.page

  head_is : head_of (fixed_of p.super) (shown s) w.volume ≡ head
  head_is = meant (fixed_of p.super) (shown s) (shows_pages s running runs p.metas are.resolves).shows

  -- its blob is frozen
  pub frozen_so : option_map_or (set.contains p.guards.frozen) head false ≡ true → Asks p channel (IsFrozenFor s)
  frozen_so on =
      let x = found_frozen (fixed_of p.super) (shown s) (set.contains p.guards.frozen) w.volume head head_is on in
      frozen_first d p channel command w.rest (ap (λ (x : Row). x.left) w.row)
      (record { head = x.0; named = x.1; frozen = x.2 })

  module _ (thawed : option_map_or (set.contains p.guards.frozen) head false ≡ false) where
    free : IsNotFrozen s w.volume
    free h is = subst (λ o. option_map_or (set.contains p.guards.frozen) o false ≡ false) (sym head_is ∙ is) thawed

    -- it is refused
    pub read_refused : (reply : Reply) → IsPageCause reply
        → IsFirstOnPages p.metas p.super command (Some reply)
        → channel < length p.rows → (q : StoreView D)
        → IsLogged Idle d p channel reply q
        → CallsLeaveOnly d p.disk p.disk (d.images p.disk)
        → TurnsAs d IsOfRead p q
    read_refused reply caused first low q logged none =
        let x = caused_step s w.volume w.page reply caused
        (first (fixed_of p.super) (shown s) (shows_pages s running runs p.metas are.resolves)) in
        answered d p channel w runs free low p.disk none refl q reply x.1 x.0
        (not_read d p.disk reply (caused_no_fault reply caused)) logged

    module _ (first : Option Reply) (is_first : IsFirstOnPages p.metas p.super command first)
        (passes : first ≡ None) where
      abbrev asked : refusal (fixed_of p.super) (shown s) command ≡ None
      asked = is_first (fixed_of p.super) (shown s) (shows_pages s running runs p.metas are.resolves) ∙ passes

      abbrev place_for : Option ℕ → Option ℕ
      place_for o = option_and_then (λ h. place_read k (map.get p.metas) (p.super.md_len + 1) h w.page) o

      -- the page is shown as what is read where it lies
      pub reads_now : IfSome head (λ h. IsSome (map.get p.metas h)) → (place : Option ℕ) → place ≡ place_for head
          → ReadsNow d p channel place
      reads_now there place is = record {
        waits = w;
        runs = runs;
        free = free;
        asked = asked;
        content = subst (λ (o : Option ℕ). option_and_then (λ (x : Volume). slice_get x.pages w.page)
            (option_and_then (shown s) (head_of (fixed_of p.super) (shown s) w.volume))
            ≡ Some (option_map_or (read_now d p.disk) o zero_page)) (sym is) (by head refl there);
      }
        where
          at_blob : (h : ℕ) → head ≡ Some h → (o : Option Meta) → map.get p.metas h ≡ o → IsSome o
              → option_and_then (λ (x : Volume). slice_get x.pages w.page)
              (option_and_then (shown s) (head_of (fixed_of p.super) (shown s) w.volume))
              ≡ Some (option_map_or (read_now d p.disk) (place_for (Some h)) zero_page)
          at_blob h is None gone some = absurd (cc some)
          at_blob h is (Some m) at some =
              ap (λ o. option_and_then (λ (x : Volume). slice_get x.pages w.page) (option_and_then (shown s) o))
              (head_is ∙ is)
              ∙ ap (λ o. option_and_then (λ (x : Volume). slice_get x.pages w.page) o)
              (volume_shown s running runs p.metas are.resolves h m at)
              ∙ page_shown s running runs p.metas are.resolves h m w.page
              (in_range s running runs p.metas are.resolves w.volume w.page h m (head_is ∙ is) at asked)

          by : (o : Option ℕ) → head ≡ o → IfSome o (λ h. IsSome (map.get p.metas h))
              → option_and_then (λ (x : Volume). slice_get x.pages w.page)
              (option_and_then (shown s) (head_of (fixed_of p.super) (shown s) w.volume))
              ≡ Some (option_map_or (read_now d p.disk) (place_for head) zero_page)
          by None is some = absurd (let bad : Some r.NoVolume ≡ None =
              sym (none_meant (fixed_of p.super) (shown s) w.volume _ (head_is ∙ is)) ∙ asked in cc bad)
          by (Some h) is some = at_blob h is (map.get p.metas h) refl some
              ∙ ap (λ o. Some (option_map_or (read_now d p.disk) (place_for o) zero_page)) (sym is)

      -- where it is read lies on the device
      pub read_inside : (bound : ℕ) → p.super.device_pages ≤ bound → (place : Option ℕ) → place ≡ place_for head
          → IfSome place (λ n. n < bound)
      read_inside bound le None is = tt
      read_inside bound le (Some n) is =
          let low : n < p.super.device_pages = by head (sym is) in omega (arith, low, le)
        where
          by : (o : Option ℕ) → place_for o ≡ Some n → n < p.super.device_pages
          by None is = absurd (cc is)
          by (Some h) is = read_low s running runs p.metas are.resolves (p.super.md_len + 1) w.page h n is

-- ---- the read itself

module _ {D : Type 0} (d : Ghosts D) (p : StoreView D) (channel : ℕ) (place : Option ℕ)
    (x : ReadsNow d p channel place) (low : channel < length p.rows) (disk : D)
    (moments : CallsLeaveOnly d p.disk disk (d.images p.disk)) (pages : d.pages disk ≡ d.pages p.disk)
    (q : StoreView D) where
  abbrev w : WaitsToRead p channel
  w = x.waits

  abbrev reading : Command
  reading = c.Read w.volume w.page

  left : (rows_of p.rows channel).left ≡ reading ∷ w.rest
  left = ap (λ (x : Row). x.left) w.row

  -- it failed
  pub read_failed : IsNotRead (device_of d p.disk) (device_of d disk)
      → IsLogged Idle d (record p { disk = disk }) channel r.ReadFault q
      → TurnsAs d IsOfRead p q
  read_failed failed logged = answered d p channel w x.runs x.free low disk moments pages q r.ReadFault tt
      (x.asked, tt) (as_read failed) logged

  -- the content is answered
  pub read_made : (content : List ℕ) → (IsTrue d.tells → content ≡ option_map_or (d.now p.disk) place zero_page)
      → ((reply : Reply) → reply ≢ r.ReadFault → IsRead (device_of d p.disk) (device_of d disk) reply)
      → (reply : Reply) → IsContent content reply
      → IsLogged Idle d (record p { disk = disk }) channel reply q
      → TurnsAs d IsOfRead p q
  read_made content is read (r.Content page) holds logged =
      answered d p channel w x.runs x.free low disk moments pages q (r.Content page) tt (
        x.asked,
        x.content ∙ ap (λ (l : List ℕ). Some l) (content_seen d.tells (d.now p.disk) place page.value
            (λ tells. holds ∙ is tells)),
      )
      (read (r.Content page) (λ e. cc e)) logged
  read_made content is read _ holds logged = absurd holds
