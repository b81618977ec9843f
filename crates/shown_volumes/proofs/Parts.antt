-- From what each part of a job is resolved to, to what it shows.
use Rattle.std.proofs.Common.{◌≡◌, ◌≢◌, ℕ, ◌^◌, ◌<◌, ◌≤◌, ◌==◌, ◌||◌, Bool, false, length, Some, None, refl}
use Rattle.std.proofs.Common.{sym, ap, ◌∙◌, subst, inl, inr, arith}
use Rattle.std.specs.Option.{option_map}
use Rattle.std.proofs.lemmas.Bool.{cases_Bool, cases_lt, eq-eqb, false≢true}
use Rattle.std.proofs.Math.Path.{fun_ext}
use Rattle.page_disk.specs.Disk.{Image}
use Rattle.volume_model.specs.Volumes.{Fixed, Volume, Volumes}
use Rattle.volume_model.specs.Xattrs.{Xattrs}
use Rattle.volume_model.specs.Steps.{change}
use Rattle.volume_model.specs.declared.command.Command.{Command}
use Rattle.volume_model.specs.declared.reply.Reply.{Reply}
use Rattle.blob_meta.specs.declared.job.Job.{Job}
use Rattle.blob_meta.specs.declared.meta.Meta.{Meta}
use Rattle.blob_meta.specs.Repairs.{HasNoMarks}
use Rattle.blob_meta.specs.Resolving.{IsLawful, resolved, slots_together}
use Rattle.shown_volumes.specs.Maps.{Map, Metas}
use Rattle.shown_volumes.specs.Shown.{live_of, or_empty, shown_by, volume_of}
use Rattle.shown_volumes.specs.EmptySlots.{Anything, LeavesEmpty}
use Rattle.shown_volumes.specs.ShowsStep.{IsAtRest, part_of, replaces, ShowsStep}
use Rattle.shown_volumes.proofs.Marked.{as_before}

-- metadata at rest is resolved
pub rest_resolved : (f : Fixed) (base : Metas) → IsAtRest f base → resolved base ≡ base
rest_resolved f base rest = fun_ext (λ h. as_before base base rest.unmarked h refl)

-- the same metadata leaves empty slots as they are
unchanged : (f : Fixed) (base : Metas) (h : ℕ) → LeavesEmpty f base base Anything h
unchanged f base h page m is empty = record { old = m; there = is; empty = empty; same = λ image _. refl }

-- a head that is neither the first of some nor one of the others
pub not_first : (h head : ℕ) (others : Bool) → ((head == h) || others) ≡ false → (h ≢ head) × (others ≡ false)
not_first h head others out = elim (cases_Bool (head == h)) [
  | inl is ↦ absurd (false≢true (sym out ∙ rw is refl))
  | inr isnt ↦ ((λ e. false≢true (sym isnt ∙ eq-eqb head h (sym e))), rw isnt at out)
]

-- parts before the commit that are resolved to the old metadata, and later ones to the new, show a step by which the
-- old volumes become those that the new metadata shows
pub shows_step : (f : Fixed) (base : Metas) (live : Map Xattrs) (command : Command) (reply : Reply) (job : Job)
    (next : Metas) → IsAtRest f base
    → ((count : ℕ) → count < job.commit → resolved (part_of job base count) ≡ base)
    → ((count : ℕ) → job.commit ≤ count → count ≤ length job.list → resolved (part_of job base count) ≡ next)
    → IsLawful f.md_len next
    → ((count : ℕ) → count ≤ length job.list → slots_together f.md_len (part_of job base count) ≤ 2 ^ 24)
    → HasNoMarks (part_of job base (length job.list))
    → ((image : Image)
    → shown_by f image next (live_of (change f (shown_by f image base live) command reply))
    ≡ change f (shown_by f image base live) command reply)
    → ((h : ℕ) → replaces job h ≡ false → LeavesEmpty f base next Anything h)
    → ShowsStep f base live command reply job
shows_step f base live command reply job next rest early late lawful few unmarked shows leaves = record {
  few = few;
  unmarked = unmarked;
  lawful = λ count le. elim (cases_lt count job.commit) [
    | inl lt ↦ subst (λ (m : Metas). IsLawful f.md_len m) (sym (early count lt)) rest.lawful
    | inr ge ↦ subst (λ (m : Metas). IsLawful f.md_len m) (sym (late count ge le)) lawful
  ];
  before = λ count lt image.
      ap (λ (m : Metas). shown_by f image m live) (early count lt ∙ sym (rest_resolved f base rest));
  since = λ count ge le image.
      subst (λ (m : Metas). shown_by f image (resolved (part_of job base count))
      (live_of (change f (shown_by f image m live) command reply)) ≡ change f (shown_by f image m live) command reply)
      (sym (rest_resolved f base rest))
      (ap (λ (m : Metas). shown_by f image m (live_of (change f (shown_by f image base live) command reply)))
      (late count ge le) ∙ shows image);
  undone = λ count lt. early count lt ∙ sym (rest_resolved f base rest);
  finished = λ count ge le.
      late count ge le ∙ sym (late job.commit (omega arith) (omega (arith, ge, le)));
  leaves = λ count le h out.
      subst (λ (m : Metas). LeavesEmpty f m (resolved (part_of job base count)) Anything h)
      (sym (rest_resolved f base rest)) (elim (cases_lt count job.commit) [
        | inl lt ↦ subst (λ (m : Metas). LeavesEmpty f base m Anything h) (sym (early count lt)) (unchanged f base h)
        | inr ge ↦ subst (λ (m : Metas). LeavesEmpty f base m Anything h) (sym (late count ge le)) (leaves h out)
      ]);
}

-- ---- what new metadata shows, head by head

module _ (f : Fixed) (image : Image) (next : Metas) (w : Volumes) where
  abbrev by : Xattrs → ℕ → Meta → Volume
  by xs h m = volume_of f.cluster_pages image next f.md_len xs h m

  pub some_shown : (h : ℕ) (m : Meta) (x : Volume) → next h ≡ Some m → w h ≡ Some x → by x.live h m ≡ x
      → shown_by f image next (live_of w) h ≡ w h
  some_shown h m x there is same =
      ap (λ o. option_map (λ n. by (or_empty (live_of w h)) h n) o) there
      ∙ ap (λ o. Some (by (or_empty (option_map (λ (y : Volume). y.live) o)) h m)) is
      ∙ ap (λ y. Some y) same ∙ sym is

  pub none_shown : (h : ℕ) → next h ≡ None → w h ≡ None → shown_by f image next (live_of w) h ≡ w h
  none_shown h none is = ap (λ o. option_map (λ n. by (or_empty (live_of w h)) h n) o) none ∙ sym is
