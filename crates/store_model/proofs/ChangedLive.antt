-- The attributes as they are read behind a commit by which those of one volume are others, or gone.
use Rattle.std.proofs.Common.{◌≡◌, ◌≢◌, ◌∷◌, [], ℕ, List, Option, None, Some, refl, sym, ap, ◌∙◌, subst, inl, inr}
use Rattle.std.specs.Option.{option_map}
use Rattle.std.proofs.lemmas.Bool.{cases_eq}
use Rattle.std.proofs.Math.Path.{fun_ext}
use Rattle.volume_model.specs.Volumes.{Volume, Volumes}
use Rattle.volume_model.specs.Xattrs.{Xattrs}
use Rattle.volume_model.specs.declared.reply.Reply.TheVariants as r
use Rattle.store_model.specs.Maps.{with_option}
use Rattle.store_model.specs.Phases.{Committing}
use Rattle.store_model.specs.Steady.{CanBeWritten}
use Rattle.store_model.specs.StoreState.{live_of, shown, StoreState}
use Rattle.store_model.proofs.Moved.{HaveLive, live_shown, live_writable, NoOtherLive}
use Rattle.store_model.proofs.WithEntry.{option_elsewhere, option_here}
use Rattle.store_model.proofs.Writable.{AllWritable}

-- what the commit makes that makes a blob at a head, with these attributes
abbrev pub made_commit : ℕ → Xattrs → Committing
made_commit head xattrs = record {
  reply = r.Made head;
  live = Some (record { head = head; xattrs = Some xattrs });
  renews = head ∷ [];
}

-- and one by which the blob at a head is gone, and these are renewed
abbrev pub deleted_commit : ℕ → List ℕ → Committing
deleted_commit head renewed =
    record { reply = r.Ok; live = Some (record { head = head; xattrs = None }); renews = renewed }

-- a volume's attributes are those that are read
pub is_live : (v : Volumes) (h : ℕ) (x : Volume) → v h ≡ Some x → live_of v h ≡ Some x.live
is_live v h x is = ap (λ o. option_map (λ (y : Volume). y.live) o) is

-- each volume changed in anything but its attributes has the live ones that it had
pub lives_mapped : (g : Volume → Volume) → ((x : Volume) → (g x).live ≡ x.live) → (o : Option Volume)
    → option_map (λ (x : Volume). x.live) (option_map g o) ≡ option_map (λ (x : Volume). x.live) o
lives_mapped g same None = refl
lives_mapped g same (Some x) = ap (λ (xs : Xattrs). Some xs) (same x)

-- attributes that are read as those of a volume that is shown can be written
pub writable_as_shown : (p : StoreState) → HaveLive p → (h : ℕ) (xs : Xattrs) → live_of (shown p) h ≡ Some xs
    → CanBeWritten xs
writable_as_shown p have_live h xs = by (shown p h) refl
  where
    by : (o : Option Volume) → shown p h ≡ o → live_of (shown p) h ≡ Some xs → CanBeWritten xs
    by None none bad = absurd (let both = sym (ap (λ o. option_map (λ (y : Volume). y.live) o) none) ∙ bad in cc both)
    by (Some x) was lives =
        let both : Some x.live ≡ Some xs = sym (is_live (shown p) h x was) ∙ lives in
        let one : x.live ≡ xs = cc both in
        subst CanBeWritten one (live_writable p have_live h x was)

-- volumes whose attributes are read as those that are shown, but for those of one
module _ (p : StoreState) (have_live : HaveLive p) (no_live : NoOtherLive p) (w : Volumes) (head : ℕ)
    (xattrs : Option Xattrs) (here : live_of w head ≡ xattrs)
    (others : (h : ℕ) → h ≢ head → live_of w h ≡ live_of (shown p) h) where
  pub lives_changed : live_of w ≡ with_option p.live head xattrs
  lives_changed = fun_ext (λ h. elim (cases_eq h head) [
    | inl e ↦ ap (live_of w) e ∙ here ∙ sym (option_here p.live head xattrs h e)
    | inr ne ↦ others h ne ∙ live_shown p have_live no_live h ∙ sym (option_elsewhere p.live head xattrs h ne)
  ])

  -- they can be written, where those of the one can
  pub writable_changed : ((xs : Xattrs) → xattrs ≡ Some xs → CanBeWritten xs) → AllWritable w
  writable_changed can h v is = elim (cases_eq h head) [
    | inl e ↦ can v.live (sym here ∙ ap (live_of w) (sym e) ∙ is_live w h v is)
    | inr ne ↦ writable_as_shown p have_live h v.live (sym (others h ne) ∙ is_live w h v is)
  ]
