-- What an image recovers as the log grows by an entry.
use Rattle.std.proofs.Common.{◌≡◌, ℕ, ◌+◌, ◌<◌, ◌≤◌, List, [], ◌∷◌, ◌++◌, length, take, Option, Some, None, refl, sym}
use Rattle.std.proofs.Common.{◌∙◌, ap, subst, inl, inr, arith, length-append, append_assoc}
use Rattle.std.specs.Prelude.{slice_get}
use Rattle.std.proofs.lemmas.List.{append-nil, take_all, take-append-le, get_or_append_left, get_or_push}
use Rattle.std.proofs.Math.Path.{fun_ext}
use Rattle.std.proofs.lemmas.Option.{slice_get_within, get_or_from_slice_get, slice_get-get_or}
use Rattle.page_disk.specs.Disk.{Image}
use Rattle.super_block.specs.declared.page.Super.{Super}
use Rattle.volume_model.specs.Volumes.{Volume, Volumes}
use Rattle.volume_model.specs.Steps.{Allowed, IsRefusal}
use Rattle.volume_model.specs.Logs.{replay, stable, IsSettled, SettlesNothing}
use Rattle.volume_model.proofs.RefusalsChangeNothing.{refused}
use Rattle.volume_model.proofs.Replays.{replay_push}
use Rattle.volume_model.specs.declared.reply.Reply.TheVariants as r
use Rattle.volume_model.specs.declared.reply.Entry.{Entry}
use Rattle.blob_meta.specs.Resolving.{resolved}
use Rattle.store_model.specs.Shown.{fixed_of, shows}
use Rattle.store_model.specs.Recovers.{AgreeAt, IsChangeDone, Recovers, InProgress, RecoversAt, RecoversFrom}

-- ---- as many entries as are asked for

pub whole_from : (s : Super) (first : Volumes) (log : List Entry) (least : ℕ) (image : Image) → least ≤ length log
    → Recovers s first log image → RecoversFrom s first log least image
whole_from s first log least image le x = record {
  prefix = length log;
  holds_all = le;
  within = omega arith;
  recovers =
      inl (subst (λ (l : List Entry). Recovers s first l image) (sym (take_all (length log) log (omega arith))) x);
}

pub reached_at : (s : Super) (first : Volumes) (log : List Entry) (image : Image)
    → RecoversFrom s first log (length log) image → RecoversAt s first log (length log) image
reached_at s first log image x =
    let least = x.holds_all in
    let most = x.within in
    let all : x.prefix ≡ length log = omega (arith, least, most) in
    subst (λ (n : ℕ). RecoversAt s first log n image) all x.recovers

-- ---- an entry that isn't that of a verb which is done

agree_weaker : (S T : ℕ → Type 0) → ((p : ℕ) → T p → S p) → (v w : Option Volume) → AgreeAt S v w → AgreeAt T v w
agree_weaker S T more None None same = tt
agree_weaker S T more (Some v) (Some w) same =
    record { count = same.count; content = λ page is. same.content page (more page is); rest = same.rest }
agree_weaker S T more None (Some w) same = same
agree_weaker S T more (Some v) None same = same

module _ (s : Super) (first : Volumes) (log : List Entry) (e : Entry) where
  pub recovers_idle : SettlesNothing e → (rest : List Entry) (image : Image) → Recovers s first (log ++ rest) image
      → Recovers s first (log ++ e ∷ rest) image
  recovers_idle idle rest image x =
      let f = fixed_of s in
      record {
        store = x.store;
        metas = x.metas;
        chains = x.chains;
        says = x.says;
        few = x.few;
        lawful = x.lawful;
        shown = λ head.
            subst (AgreeAt (IsSettled f first (log ++ e ∷ rest) head) (shows f image (resolved x.metas) head))
            (sym (idle.survives f first log rest head))
            (agree_weaker (IsSettled f first (log ++ rest) head) (IsSettled f first (log ++ e ∷ rest) head)
            (λ p settled. idle.settled f first log rest head p settled)
            (shows f image (resolved x.metas) head) (stable f first (log ++ rest) head) (x.shown head));
      }

  -- what may be done behind a log may be behind an equal one
  may_at : {l k : List Entry}
      → l ≡ k → (done : Entry) → Allowed (fixed_of s) (replay (fixed_of s) first l) done.command done.reply
      → Allowed (fixed_of s) (replay (fixed_of s) first k) done.command done.reply
  may_at is done may =
      subst (λ (l : List Entry). Allowed (fixed_of s) (replay (fixed_of s) first l) done.command done.reply) is may

  -- an entry that refuses adds nothing to the replay
  same_replay : IsRefusal e.reply → replay (fixed_of s) first (log ++ e ∷ []) ≡ replay (fixed_of s) first log
  same_replay refuses = replay_push (fixed_of s) first log e
      ∙ fun_ext (refused (fixed_of s) (replay (fixed_of s) first log) e.command e.reply refuses)

  got_still : (place : ℕ) (x : Entry) → slice_get log place ≡ Some x → slice_get (log ++ e ∷ []) place ≡ Some x
  got_still place x is =
      let low : place < length log = slice_get_within log place x is in
      let longer : length (log ++ e ∷ []) ≡ length log + 1 = length-append log (e ∷ []) in
      slice_get-get_or (log ++ e ∷ []) place x (omega (arith, low, longer)) ∙ ap (λ (y : Entry). Some y)
      (get_or_append_left log (e ∷ []) x place low ∙ get_or_from_slice_get log place x x is)

  still_in_progress : (n : ℕ) (done : Entry) → n ≤ length log → InProgress s first log n done
      → InProgress s first (log ++ e ∷ []) n done
  still_in_progress n done le x = record {
    place = x.place;
    reached = x.reached;
    failed = got_still x.place _ x.failed;
    is_done = x.is_done;
    allowed = may_at (sym (take-append-le n log (e ∷ []) le)) done x.allowed;
  }

  pub at_still : (n : ℕ) (image : Image) → n ≤ length log → RecoversAt s first log n image
      → RecoversAt s first (log ++ e ∷ []) n image
  at_still n image le (inl x) =
      inl (subst (λ (l : List Entry). Recovers s first l image) (sym (take-append-le n log (e ∷ []) le)) x)
  at_still n image le (inr x) =
      inr (
        x.0,
        still_in_progress n x.0 le x.1,
        subst (λ (l : List Entry). Recovers s first (l ++ x.0 ∷ []) image) (sym (take-append-le n log (e ∷ []) le)) x.2,
      )

  pub from_still : (least : ℕ) (image : Image) → RecoversFrom s first log least image
      → RecoversFrom s first (log ++ e ∷ []) least image
  from_still least image x =
      let within = x.within in
      let longer : length (log ++ e ∷ []) ≡ length log + 1 = length-append log (e ∷ []) in
      record {
        prefix = x.prefix;
        holds_all = x.holds_all;
        within = omega (arith, within, longer);
        recovers = at_still x.prefix image x.within x.recovers;
      }

  pub idle_from : IsRefusal e.reply → SettlesNothing e → (image : Image) → RecoversFrom s first log (length log) image
      → RecoversFrom s first (log ++ e ∷ []) (length log + 1) image
  idle_from refuses idle image x = record {
    prefix = length log + 1;
    holds_all = omega arith;
    within = let l = longer in omega (arith, l);
    recovers = at (length log + 1) (sym longer) (reached_at s first log image x);
  }
    where
      longer : length (log ++ e ∷ []) ≡ length log + 1
      longer = length-append log (e ∷ [])

      all : (n : ℕ) → n ≡ length (log ++ e ∷ []) → take n (log ++ e ∷ []) ≡ log ++ e ∷ []
      all n is = take_all n (log ++ e ∷ []) (omega (arith, is))

      at : (n : ℕ) → n ≡ length (log ++ e ∷ []) → RecoversAt s first log (length log) image
          → RecoversAt s first (log ++ e ∷ []) n image
      at n is (inl y) =
          let old : Recovers s first log image =
          subst (λ (l : List Entry). Recovers s first l image) (take_all (length log) log (omega arith)) y in
          inl (subst (λ (l : List Entry). Recovers s first l image) (sym (all n is)) (recovers_idle idle [] image
          (subst (λ (l : List Entry). Recovers s first l image) (sym (append-nil log)) old)))
      at n is (inr y) =
          let reached = y.1.reached in
          let old : Recovers s first (log ++ y.0 ∷ []) image =
          subst (λ (l : List Entry). Recovers s first (l ++ y.0 ∷ []) image)
          (take_all (length log) log (omega arith)) y.2 in
          let new : Recovers s first ((log ++ e ∷ []) ++ y.0 ∷ []) image =
          subst (λ (l : List Entry). Recovers s first l image) (sym (append_assoc log (e ∷ []) (y.0 ∷ [])))
          (recovers_idle idle (y.0 ∷ []) image old) in
          inr (
            y.0,
            record {
              place = y.1.place;
              reached = omega (arith, reached, is, longer);
              failed = got_still y.1.place _ y.1.failed;
              is_done = y.1.is_done;
              allowed = subst (λ (v : Volumes). Allowed (fixed_of s) v y.0.command y.0.reply)
                  (ap (λ (l : List Entry). replay (fixed_of s) first l) (take_all (length log) log (omega arith))
                  ∙ sym (same_replay refuses)
                  ∙ ap (λ (l : List Entry). replay (fixed_of s) first l) (sym (all n is))) y.1.allowed;
            },
            subst (λ (l : List Entry). Recovers s first (l ++ y.0 ∷ []) image) (sym (all n is)) new,
          )

-- ---- a verb that failed, and whose change is there

module _ (s : Super) (first : Volumes) (log : List Entry) (done : Entry) (is : IsChangeDone done.reply)
    (may : Allowed (fixed_of s) (replay (fixed_of s) first log) done.command done.reply) where
  abbrev fault : Entry
  fault = record done { reply = r.Fault }

  longer : length (log ++ fault ∷ []) ≡ length log + 1
  longer = length-append log (fault ∷ [])

  in_progress : (n : ℕ)
      → length log ≤ n → replay (fixed_of s) first log ≡ replay (fixed_of s) first (take n (log ++ fault ∷ []))
      → InProgress s first (log ++ fault ∷ []) n done
  in_progress n le same = record {
    place = length log;
    reached = le;
    failed = slice_get-get_or (log ++ fault ∷ []) (length log) fault (omega (arith, longer))
        ∙ ap (λ (e : Entry). Some e) (get_or_push log fault fault (length log) refl);
    is_done = is;
    allowed = subst (λ (v : Volumes). Allowed (fixed_of s) v done.command done.reply) same may;
  }

  pub failed_at : (image : Image) → Recovers s first (log ++ done ∷ []) image
      → RecoversAt s first (log ++ fault ∷ []) (length log) image
  failed_at image x =
      let before : take (length log) (log ++ fault ∷ []) ≡ log =
      take-append-le (length log) log (fault ∷ []) (omega arith) ∙ take_all (length log) log (omega arith) in
      inr (
        done,
        in_progress (length log) (omega arith) (ap (λ (l : List Entry). replay (fixed_of s) first l) (sym before)),
        subst (λ (l : List Entry). Recovers s first (l ++ done ∷ []) image) (sym before) x,
      )

  pub failed_from : SettlesNothing fault → (least : ℕ) (image : Image) → least ≤ length log + 1
      → Recovers s first (log ++ done ∷ []) image → RecoversFrom s first (log ++ fault ∷ []) least image
  failed_from idle least image le x =
      let all : take (length log + 1) (log ++ fault ∷ []) ≡ log ++ fault ∷ [] =
      take_all (length log + 1) (log ++ fault ∷ []) (omega (arith, longer)) in
      let both : Recovers s first ((log ++ fault ∷ []) ++ done ∷ []) image =
      subst (λ (l : List Entry). Recovers s first l image) (sym (append_assoc log (fault ∷ []) (done ∷ [])))
      (recovers_idle s first log fault idle (done ∷ []) image x) in
      record {
        prefix = length log + 1;
        holds_all = le;
        within = omega (arith, longer);
        recovers = inr (
          done,
          in_progress (length log + 1) (omega arith)
              (sym (same_replay s first log fault tt) ∙ ap (λ (l : List Entry). replay (fixed_of s) first l) (sym all)),
          subst (λ (l : List Entry). Recovers s first (l ++ done ∷ []) image) (sym all) both,
        );
      }
