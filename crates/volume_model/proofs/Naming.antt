-- What a volume's `name` and `uuid` tell as they are read is what they tell on the disk: after each step, and so after
-- a log.
use Rattle.std.proofs.Common.{◌≡◌, ℕ, ◌+◌, ◌==◌, if◌then◌else◌, Option, Some, None, Bool, true, false, ◌||◌, List, []}
use Rattle.std.proofs.Common.{◌∷◌, refl, sym, ap, subst, ◌∙◌, inl, inr}
use Rattle.std.specs.Prelude.{find, nat_lt, is_none, length, not}
use Rattle.std.specs.List.{before_first}
use Rattle.std.specs.Option.{option_map, option_map_or, option_and_then}
use Rattle.std.specs.Str.{bytes_eq}
use Rattle.std.proofs.lemmas.Bool.{cases_Bool}
use Rattle.std.proofs.lemmas.Bool.Decides.{eqb_tells}
use Rattle.std.proofs.lemmas.Option.{same_Some}
use Rattle.volume_model.specs.Xattrs.{Text, Xattrs, told, value_of, with_value, without, with_nul, name_key, uuid_key}
use Rattle.volume_model.specs.Volumes.{Volume, Volumes, Fixed, head_of, is_given_head, is_super, zero_slots}
use Rattle.volume_model.specs.Refusals.{Causes, is_reserved, refusal}
use Rattle.volume_model.specs.Steps.{Allowed, added, change, deleted_at, edited_at, new_volume, volume_at}
use Rattle.volume_model.specs.Logs.{replay, IsLegal}
use Rattle.volume_model.specs.Naming.{IsNamedAlike, AreNamedAlike}
use Rattle.volume_model.specs.declared.command.VolumeRef.{VolumeRef}
use Rattle.volume_model.specs.declared.command.Command.{Command}
use Rattle.volume_model.specs.declared.command.Command.TheVariants as c
use Rattle.volume_model.specs.declared.reply.Reply.{Reply}
use Rattle.volume_model.specs.declared.reply.Reply.TheVariants as r
use Rattle.volume_model.specs.declared.reply.Entry.{Entry}
use Rattle.volume_model.proofs.RefusalsSettleNothing.{left_false, right_false}
use Rattle.volume_model.proofs.Told.{value_beside, value_set, value_without}

-- ---- of one volume

-- what is told of equal values
told_by : (xs ys : Xattrs) (key : Text) → value_of xs key ≡ value_of ys key → told xs key ≡ told ys key
told_by xs ys key e = ap (λ o. option_map_or (before_first (λ b. b == 0)) o []) e

-- the key is neither of the two
record IsAnother (key : Text) : Type 0 where
  no_name : bytes_eq key name_key ≡ false
  no_uuid : bytes_eq key uuid_key ≡ false

another : (key : Text) → is_reserved key ≡ false → IsAnother key
another key e = record {
  no_name = left_false (bytes_eq key name_key) (bytes_eq key uuid_key) e;
  no_uuid = right_false (bytes_eq key name_key) (bytes_eq key uuid_key) e;
}

set_alike : (x : Volume) (key value : Text) → IsAnother key → IsNamedAlike x
    → IsNamedAlike (record x { live = with_value x.live key value })
set_alike x key value other alike = record {
  name_told = told_by (with_value x.live key value) x.live name_key
      (value_beside x.live key value name_key other.no_name) ∙ alike.name_told;
  uuid_told = told_by (with_value x.live key value) x.live uuid_key
      (value_beside x.live key value uuid_key other.no_uuid) ∙ alike.uuid_told;
}

gone_alike : (x : Volume) (key : Text) → IsAnother key → IsNamedAlike x
    → IsNamedAlike (record x { live = without x.live key })
gone_alike x key other alike = record {
  name_told = told_by (without x.live key) x.live name_key (value_without x.live key name_key other.no_name)
      ∙ alike.name_told;
  uuid_told = told_by (without x.live key) x.live uuid_key (value_without x.live key uuid_key other.no_uuid)
      ∙ alike.uuid_told;
}

renamed_alike : (x : Volume) (value : Text) → IsNamedAlike x
    → IsNamedAlike (record x { live = with_value x.live name_key value; synced = with_value x.synced name_key value })
renamed_alike x value alike = record {
  name_told = told_by (with_value x.live name_key value) (with_value x.synced name_key value) name_key
      (value_set x.live name_key value ∙ sym (value_set x.synced name_key value));
  uuid_told =
      told_by (with_value x.live name_key value) x.live uuid_key (value_beside x.live name_key value uuid_key refl)
      ∙ alike.uuid_told
      ∙ told_by x.synced (with_value x.synced name_key value) uuid_key
      (sym (value_beside x.synced name_key value uuid_key refl));
}

-- one whose attributes are all synced
pub synced_alike : (x : Volume) → x.live ≡ x.synced → IsNamedAlike x
synced_alike x e = record {
  name_told = ap (λ (xs : Xattrs). told xs name_key) e;
  uuid_told = ap (λ (xs : Xattrs). told xs uuid_key) e;
}

-- attributes that stay as they are
kept_alike : (x y : Volume) → x.live ≡ y.live → x.synced ≡ y.synced → IsNamedAlike x → IsNamedAlike y
kept_alike x y live synced alike = record {
  name_told = subst (λ (xs : Xattrs). told xs name_key ≡ told y.synced name_key) live
      (subst (λ (xs : Xattrs). told x.live name_key ≡ told xs name_key) synced alike.name_told);
  uuid_told = subst (λ (xs : Xattrs). told xs uuid_key ≡ told y.synced uuid_key) live
      (subst (λ (xs : Xattrs). told x.live uuid_key ≡ told xs uuid_key) synced alike.uuid_told);
}

module _ (f : Fixed) (v : Volumes) where
  -- ---- of a key that an attribute command sets

  first_fails : (a : Bool) (reply : Reply) (rest : Causes)
      → option_map (λ (cause : Bool × Reply). cause.1) (find (λ (cause : Bool × Reply). cause.0) ((a, reply) ∷ rest))
      ≡ None → a ≡ false
  first_fails false reply rest none = refl
  first_fails true reply rest none = absurd (cc none)

  module _ (volume : VolumeRef) (h : ℕ) (x : Volume) (meant : head_of f v volume ≡ Some h) (there : v h ≡ Some x) where
    given : (key : Text) (rest : Causes) → option_map (λ (cause : Bool × Reply). cause.1)
        (find (λ (cause : Bool × Reply). cause.0) ((is_super f h || is_reserved key, r.Reserved) ∷ rest)) ≡ None
        → IsAnother key
    given key rest none = another key
        (right_false (is_super f h) (is_reserved key)
        (first_fails (is_super f h || is_reserved key) r.Reserved rest none))

    set_key : (key value : Text) → refusal f v (c.SetX volume key value) ≡ None → IsAnother key
    set_key key value none = given key
        ((x.read_only, r.ReadOnly) ∷ (nat_lt 4063 (length key + length value), r.TooLong) ∷ [])
        (rw (meant, there) at none)

    gone_key : (key : Text) → refusal f v (c.DelX volume key) ≡ None → IsAnother key
    gone_key key none = given key
        ((x.read_only, r.ReadOnly) ∷ (is_none (value_of x.live key), r.NoValue) ∷ [])
        (rw (meant, there) at none)

  -- ---- of changed volumes

  edited_alike : (o : Option ℕ) (edit : Volume → Volume)
      → ((h : ℕ) (x : Volume) → o ≡ Some h → v h ≡ Some x → IsNamedAlike x → IsNamedAlike (edit x))
      → AreNamedAlike v → AreNamedAlike (edited_at f v o edit)
  edited_alike None edit each alike k y is = alike k y is
  edited_alike (Some h) edit each alike k y is = elim (eqb_tells k h) [
    | inl here ↦ at here.1 (v k) refl (rw here.0 at is)
    | inr apart ↦ alike k y (rw apart.0 at is)
  ]
    where
      at : k ≡ h → (o : Option Volume) → v k ≡ o → option_map edit o ≡ Some y → IsNamedAlike y
      at here None there some = absurd (cc some)
      at here (Some x) there some = subst IsNamedAlike (same_Some (edit x) y some)
          (each h x refl (ap v (sym here) ∙ there) (alike k x there))

  added_alike : (w : Volumes) (h : ℕ) (o : Option Volume) → AreNamedAlike w
      → ((x : Volume) → o ≡ Some x → IsNamedAlike x) → AreNamedAlike (added f v w h o)
  added_alike w h o alike new k y is = elim (eqb_tells k h) [
    | inl here ↦ new y (rw here.0 at is)
    | inr apart ↦ alike k y (rw apart.0 at is)
  ]

  -- a volume is made of the one that is meant
  made_alike : (o : Option Volume) (make : Volume → Volume) → ((x : Volume) → IsNamedAlike (make x)) → (y : Volume)
      → option_map make o ≡ Some y → IsNamedAlike y
  made_alike None make each y some = absurd (cc some)
  made_alike (Some x) make each y some = subst IsNamedAlike (same_Some (make x) y some) (each x)

  -- a clone of the volume that is deleted has its parent
  abbrev with_parent : ℕ → Volume → Volume
  with_parent h x = record x {
    parent = if is_given_head h x.parent then option_and_then (λ y. y.parent) (v h) else x.parent;
  }

  deleted_alike : (o : Option ℕ) → AreNamedAlike v → AreNamedAlike (deleted_at f v o)
  deleted_alike None alike k y is = alike k y is
  deleted_alike (Some h) alike k y is = elim (cases_Bool (k == h)) [
    | inl here ↦ absurd (cc (rw here at is))
    | inr apart ↦ at (v k) refl (rw apart at is)
  ]
    where
      at : (o : Option Volume) → v k ≡ o → option_map (with_parent h) o ≡ Some y → IsNamedAlike y
      at None there some = absurd (cc some)
      at (Some x) there some = subst IsNamedAlike (same_Some (with_parent h x) y some)
          (kept_alike x (with_parent h x) refl refl (alike k x there))

  -- ---- every step

  module _ (alike : AreNamedAlike v) (volume : VolumeRef) where
    kept : (edit : Volume → Volume) → ((x : Volume) → x.live ≡ (edit x).live)
        → ((x : Volume) → x.synced ≡ (edit x).synced) → AreNamedAlike (edited_at f v (head_of f v volume) edit)
    kept edit live synced = edited_alike (head_of f v volume) edit
        (λ h x meant there is. kept_alike x (edit x) (live x) (synced x) is) alike

    all_synced : (edit : Volume → Volume) → ((x : Volume) → (edit x).live ≡ (edit x).synced)
        → AreNamedAlike (edited_at f v (head_of f v volume) edit)
    all_synced edit e = edited_alike (head_of f v volume) edit (λ h x meant there is. synced_alike (edit x) (e x)) alike

  -- where what is read of `name` and `uuid` is on the disk, it is so after a step
  pub after_step : (command : Command) (reply : Reply) → AreNamedAlike v → Allowed f v command reply
      → AreNamedAlike (change f v command reply)
  after_step (c.Create name slots thick uuid) (r.Made k) alike allowed =
      added_alike v k (Some (new_volume f v name uuid (zero_slots f slots) (not thick) false None)) alike
      (λ x is. made_alike (Some x) (λ y. new_volume f v name uuid (zero_slots f slots) (not thick) false None)
      (λ y. synced_alike (new_volume f v name uuid (zero_slots f slots) (not thick) false None) refl) x is)
  after_step (c.Write volume page word) r.Ok alike allowed = kept alike volume _ (λ x. refl) (λ x. refl)
  after_step (c.SetX volume key value) r.Ok alike allowed = edited_alike (head_of f v volume)
      (λ x. record x { live = with_value x.live key value })
      (λ h x meant there. set_alike x key value (set_key volume h x meant there key value allowed.0)) alike
  after_step (c.DelX volume key) r.Ok alike allowed = edited_alike (head_of f v volume)
      (λ x. record x { live = without x.live key })
      (λ h x meant there. gone_alike x key (gone_key volume h x meant there key allowed.0)) alike
  after_step (c.Put volume key value) r.Ok alike allowed = all_synced alike volume _ (λ x. refl)
  after_step (c.Sync volume) r.Ok alike allowed = all_synced alike volume _ (λ x. refl)
  after_step (c.Resize volume slots) r.Ok alike allowed = kept alike volume _ (λ x. refl) (λ x. refl)
  after_step (c.Snapshot volume name) (r.Made k) alike allowed =
      added_alike (edited_at f v (head_of f v volume) (λ x. record x { thin = true; parent = Some k })) k _
      (kept alike volume (λ x. record x { thin = true; parent = Some k }) (λ x. refl) (λ x. refl))
      (made_alike (volume_at f v volume) (λ x. new_volume f v name None x.pages x.thin true x.parent)
      (λ x. synced_alike (new_volume f v name None x.pages x.thin true x.parent) refl))
  after_step (c.Clone volume name) (r.Made k) alike allowed = added_alike v k _ alike
      (made_alike (volume_at f v volume) (λ x. new_volume f v name None x.pages true false (head_of f v volume))
      (λ x. synced_alike (new_volume f v name None x.pages true false (head_of f v volume)) refl))
  after_step (c.Inflate volume) r.Ok alike allowed = kept alike volume _ (λ x. refl) (λ x. refl)
  after_step (c.Decouple volume) r.Ok alike allowed = kept alike volume _ (λ x. refl) (λ x. refl)
  after_step (c.Delete volume) r.Ok alike allowed = deleted_alike (head_of f v volume) alike
  after_step (c.Rename volume name) r.Ok alike allowed = edited_alike (head_of f v volume)
      (λ x. record x {
        live = with_value x.live name_key (with_nul name);
        synced = with_value x.synced name_key (with_nul name);
      }) (λ h x meant there. renamed_alike x (with_nul name)) alike
  after_step (c.ReadOnly volume) r.Ok alike allowed = all_synced alike volume _ (λ x. refl)
  after_step (c.Create name slots thick uuid) _ alike allowed = alike
  after_step (c.Write volume page word) _ alike allowed = alike
  after_step (c.Read volume page) _ alike allowed = alike
  after_step c.Flush _ alike allowed = alike
  after_step (c.SetX volume key value) _ alike allowed = alike
  after_step (c.DelX volume key) _ alike allowed = alike
  after_step (c.GetX volume key) _ alike allowed = alike
  after_step (c.Put volume key value) _ alike allowed = alike
  after_step (c.Sync volume) _ alike allowed = alike
  after_step (c.Resize volume slots) _ alike allowed = alike
  after_step (c.Snapshot volume name) _ alike allowed = alike
  after_step (c.Clone volume name) _ alike allowed = alike
  after_step (c.Inflate volume) _ alike allowed = alike
  after_step (c.Decouple volume) _ alike allowed = alike
  after_step (c.Delete volume) _ alike allowed = alike
  after_step (c.Rename volume name) _ alike allowed = alike
  after_step (c.ReadOnly volume) _ alike allowed = alike
  after_step (c.Info volume) _ alike allowed = alike
  after_step c.List _ alike allowed = alike
  after_step c.Df _ alike allowed = alike

-- and so after a log
pub after_log : (f : Fixed) (first : Volumes) (log : List Entry) → AreNamedAlike first → IsLegal f first log
    → AreNamedAlike (replay f first log)
after_log f first [] alike legal = alike
after_log f first (e ∷ log) alike legal = after_log f (change f first e.command e.reply) log
    (after_step f first e.command e.reply alike legal.0) legal.1
