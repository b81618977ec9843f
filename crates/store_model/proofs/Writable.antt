-- Attributes that can be written, when one is set or removed; and what a command that is answered in memory changes.
use Rattle.std.proofs.Common.{◌≡◌, ◌≢◌, ℕ, ◌+◌, ◌≤◌, Bool, false, List, [], ◌∷◌, length, Option, Some, None, refl}
use Rattle.std.proofs.Common.{sym, ◌∙◌, ap, subst, arith, inl, inr}
use Rattle.std.specs.Prelude.{nat_lt, ◌||◌}
use Rattle.std.specs.List.{find}
use Rattle.std.specs.Option.{option_map}
use Rattle.std.proofs.lemmas.Bool.{cases_eq}
use Rattle.std.proofs.lemmas.Bool.Decides.{nat_tests}
use Rattle.volume_model.specs.Volumes.{Fixed, Volume, Volumes, head_of, is_super}
use Rattle.volume_model.specs.Xattrs.{Xattrs, with_value, without}
use Rattle.volume_model.specs.Refusals.{is_reserved, refusal}
use Rattle.volume_model.specs.Steps.{Allowed, change, edited_at, IsRefusal}
use Rattle.volume_model.specs.declared.command.VolumeRef.{VolumeRef}
use Rattle.volume_model.specs.declared.command.Command.{Command}
use Rattle.volume_model.specs.declared.command.Command.TheVariants as c
use Rattle.volume_model.specs.declared.reply.Reply.{Reply}
use Rattle.volume_model.specs.declared.reply.Reply.TheVariants as r
use Rattle.store_model.specs.Cases.{IsInMemory, live_of}
use Rattle.store_model.specs.RunInvariant.{CanBeWritten}
use Rattle.store_model.proofs.Refusals.{RefusalsChangeNothing}
use Rattle.store_model.proofs.Synced.{edited_here, edited_there}
use Rattle.store_model.proofs.Shows.{or_empty}
pub use Rattle.shown_volumes.proofs.Passing.{none_holds}
pub use Rattle.shown_volumes.proofs.Written.{distinct_with, written_with, written_without}

-- ---- what a cause says that doesn't hold

none_third : (a b c : Bool) (x y z : Reply)
    → option_map (λ (cause : Bool × Reply). cause.1) (find (λ cause. cause.0) ((a, x) ∷ (b, y) ∷ (c, z) ∷ [])) ≡ None
    → c ≡ false
none_third a b c x y z none = (none_holds ((a, x) ∷ (b, y) ∷ (c, z) ∷ []) none).1.1.0

module _ (f : Fixed) (v : Volumes) (volume : VolumeRef) (head : ℕ) (x : Volume) (found : head_of f v volume ≡ Some head)
    (there : v head ≡ Some x) (key value : List ℕ) where
  within : nat_lt 4063 (length key + length value) ≡ false → length key + length value ≤ 4063
  within is = grind (arith, nat_tests, is)

  pub set_within : refusal f v (c.SetX volume key value) ≡ None → length key + length value ≤ 4063
  set_within none = within (none_third (is_super f head || is_reserved key) x.read_only
      (nat_lt 4063 (length key + length value)) r.Reserved r.ReadOnly r.TooLong (rw (found, there) at none))

  pub put_within : refusal f v (c.Put volume key value) ≡ None → length key + length value ≤ 4063
  put_within none = within (none_third (is_super f head || is_reserved key) x.read_only
      (nat_lt 4063 (length key + length value)) r.Reserved r.ReadOnly r.TooLong (rw (found, there) at none))

-- ---- commands that are answered in memory

-- each volume's live attributes can be written
abbrev pub AllWritable : Volumes → Type 0
AllWritable v = (h : ℕ) (x : Volume) → v h ≡ Some x → CanBeWritten x.live

-- nothing but live attributes is another
abbrev pub OnlyLive : Volumes → Volumes → Type 0
OnlyLive v w = (h : ℕ) → w h ≡ option_map (λ (x : Volume). record x { live = or_empty (live_of w h) }) (v h)

same_live : (o : Option Volume)
    → o ≡ option_map (λ (x : Volume). record x { live = or_empty (option_map (λ y. y.live) o) }) o
same_live None = refl
same_live (Some x) = refl

edited_live : (new : Volume → Xattrs) (o : Option Volume)
    → option_map (λ (x : Volume). record x { live = new x }) o ≡ option_map (λ (x : Volume). record x {
      live = or_empty (option_map (λ y. y.live) (option_map (λ (y : Volume). record y { live = new y }) o));
    }) o
edited_live new None = refl
edited_live new (Some x) = refl

module _ (f : Fixed) (v : Volumes) (writable : AllWritable v) where
  pub record ChangesLive (w : Volumes) : Type 0 where
    pub only : OnlyLive v w
    pub can : AllWritable w

  -- nothing is changed
  unchanged : (w : Volumes) → ((h : ℕ) → w h ≡ v h) → ChangesLive w
  unchanged w same = record {
    only = λ h. subst (λ (o : Option Volume).
        o ≡ option_map (λ (x : Volume). record x { live = or_empty (option_map (λ y. y.live) o) }) (v h)) (sym (same h))
        (same_live (v h));
    can = λ h x is. writable h x (sym (same h) ∙ is);
  }

  -- the live attributes of one volume
  edited : (o : Option ℕ) (new : Volume → Xattrs)
      → ((head : ℕ) (x : Volume) → o ≡ Some head → v head ≡ Some x → CanBeWritten (new x))
      → ChangesLive (edited_at f v o (λ x. record x { live = new x }))
  edited None new can = unchanged _ (λ h. refl)
  edited (Some head) new can =
      let w : Volumes = edited_at f v (Some head) (λ x. record x { live = new x }) in
      let here : (h : ℕ) → h ≡ head → w h ≡ option_map (λ (x : Volume). record x { live = new x }) (v h) =
      λ h e. at_head h e in
      let there : (h : ℕ) → h ≢ head → w h ≡ v h =
      λ h ne. edited_there f v (Some head) (λ (x : Volume). record x { live = new x }) head refl h ne in
      record {
        only = λ h. elim (cases_eq h head) [
          | inl e ↦ subst (λ (o : Option Volume). o ≡ option_map (λ (x : Volume).
              record x { live = or_empty (option_map (λ y. y.live) o) }) (v h)) (sym (here h e)) (edited_live new (v h))
          | inr ne ↦ subst (λ (o : Option Volume). o ≡ option_map (λ (x : Volume).
              record x { live = or_empty (option_map (λ y. y.live) o) }) (v h)) (sym (there h ne)) (same_live (v h))
        ];
        can = λ h x is. elim (cases_eq h head) [
          | inl e ↦ written h x (v h) e refl (sym (here h e) ∙ is)
          | inr ne ↦ writable h x (sym (there h ne) ∙ is)
        ];
      }
    where
      at_head : (h : ℕ) → h ≡ head → edited_at f v (Some head) (λ x. record x { live = new x }) h
          ≡ option_map (λ (x : Volume). record x { live = new x }) (v h)
      at_head h e = rw e (edited_here f v (Some head) (λ (x : Volume). record x { live = new x }) head refl)

      written : (h : ℕ) (x : Volume) (o : Option Volume) → h ≡ head → v h ≡ o
          → option_map (λ (y : Volume). record y { live = new y }) o ≡ Some x → CanBeWritten x.live
      written h x None e is made = absurd (cc made)
      written h x (Some y) e is made =
          let same : record y { live = new y } ≡ x = cc made in
          subst (λ (z : Volume). CanBeWritten z.live) same (can head y refl (sym (ap v e) ∙ is))

  module _ (quiet : RefusalsChangeNothing) where
    refused : (command : Command) (reply : Reply) → IsRefusal reply → Allowed f v command reply
        → ChangesLive (change f v command reply)
    refused command reply is allowed = unchanged _
        (λ h. quiet f v command reply (change f v command reply) is (record { allowed = allowed; after = λ k. refl }) h)

    pub in_memory : (command : Command) (reply : Reply) → IsInMemory command → Allowed f v command reply
        → ChangesLive (change f v command reply)
    in_memory (c.SetX volume key value) r.Ok is allowed =
        edited (head_of f v volume)
        (λ x. with_value x.live key value) (λ head x found there. written_with x.live key value
        (set_within f v volume head x found there key value allowed.0) (writable head x there))
    in_memory (c.SetX volume key value) (r.Made h) is allowed = absurd allowed.1
    in_memory (c.SetX volume key value) (r.Content page) is allowed = absurd allowed.1
    in_memory (c.SetX volume key value) (r.Value x) is allowed = absurd allowed.1
    in_memory (c.SetX volume key value) (r.Info info) is allowed = absurd allowed.1
    in_memory (c.SetX volume key value) (r.List list) is allowed = absurd allowed.1
    in_memory (c.SetX volume key value) (r.Df df) is allowed = absurd allowed.1
    in_memory (c.SetX volume key value) reply is allowed = refused (c.SetX volume key value) reply tt allowed
    in_memory (c.DelX volume key) r.Ok is allowed = edited (head_of f v volume) (λ x. without x.live key)
        (λ head x found there. written_without x.live key (writable head x there))
    in_memory (c.DelX volume key) (r.Made h) is allowed = absurd allowed.1
    in_memory (c.DelX volume key) (r.Content page) is allowed = absurd allowed.1
    in_memory (c.DelX volume key) (r.Value x) is allowed = absurd allowed.1
    in_memory (c.DelX volume key) (r.Info info) is allowed = absurd allowed.1
    in_memory (c.DelX volume key) (r.List list) is allowed = absurd allowed.1
    in_memory (c.DelX volume key) (r.Df df) is allowed = absurd allowed.1
    in_memory (c.DelX volume key) reply is allowed = refused (c.DelX volume key) reply tt allowed
    in_memory (c.GetX volume key) reply is allowed = unchanged _ (λ h. refl)
    in_memory (c.Info volume) reply is allowed = unchanged _ (λ h. refl)
    in_memory c.List reply is allowed = unchanged _ (λ h. refl)
    in_memory c.Df reply is allowed = unchanged _ (λ h. refl)
    in_memory _ reply is allowed = absurd is
