-- What refuses a command in all volumes that show metadata.
use Rattle.std.proofs.Common.{◌≡◌, ℕ, ◌-◌, ◌&&◌, Bool, Option, Some, None, List, [], ◌∷◌, length}
use Rattle.std.proofs.Common.{refl, sym, ap, ◌∙◌}
use Rattle.std.specs.Prelude.{nat_lt}
use Rattle.std.specs.Ordering.{nat_cmp}
use Rattle.std.specs.FinMap as map
use Rattle.super_block.specs.declared.page.Super.{Super}
use Rattle.volume_model.specs.Volumes.{Volume, Volumes, Fixed, all_slots, head_of, is_given_head, slots_of}
use Rattle.volume_model.specs.Refusals.{Causes, causes_on_volume, is_too_large}
use Rattle.volume_model.specs.Refusals.{has_longer_parent as longer}
use Rattle.volume_model.specs.declared.command.VolumeRef.{VolumeRef}
use Rattle.volume_model.specs.declared.command.Command.TheVariants as c
use Rattle.volume_model.specs.declared.reply.Reply.{Reply}
use Rattle.volume_model.specs.declared.reply.Reply.TheVariants as r
use Rattle.blob_meta.specs.declared.meta.Meta.{Meta}
use Rattle.blob_meta.specs.Asked.{first_cause}
use Rattle.blob_meta.specs.Parents.{head_of_id, is_read_only}
use Rattle.blob_meta.specs.ShownBy.{IsFirstRefusal, IsHeadMeant, IsTakenIn}
use Rattle.blob_meta.specs.SlotCounts.{HasSlots, HeadsFit, has_longer_parent}
use Rattle.blob_meta.proofs.Shown.{all_are, heads_fit, longer_same, volume_shown}

-- no volume is meant
pub none_meant : (f : Fixed) (v : Volumes) (volume : VolumeRef) (causes_at : ℕ → Volume → Causes)
    → head_of f v volume ≡ None → first_cause (causes_on_volume f v volume causes_at) ≡ Some r.NoVolume
none_meant f v volume causes_at none = rw none refl

-- the causes at the volume that is meant
pub at_volume : (f : Fixed) (v : Volumes) (volume : VolumeRef) (causes_at : ℕ → Volume → Causes) (h : ℕ) (x : Volume)
    → head_of f v volume ≡ Some h → v h ≡ Some x → causes_on_volume f v volume causes_at ≡ causes_at h x
at_volume f v volume causes_at h x meant there = rw (meant, there) refl

-- nothing refuses a create, or the first of its two causes
pub create_refused : (metas : map.FinMap nat_cmp Meta) (sup : Super) (name : List ℕ) (slots : ℕ) (thick : Bool)
    (uuid : Option (List ℕ)) (all : ℕ) (taken large : Bool) → IsTakenIn metas sup name taken → HasSlots metas all
    → ((f : Fixed) (v : Volumes) → large ≡ is_too_large f v slots all)
    → IsFirstRefusal metas sup (c.Create name slots thick uuid)
    (first_cause ((taken, r.NameTaken) ∷ (large, r.TooLarge) ∷ []))
create_refused metas sup name slots thick uuid all taken large is_taken has is f v s =
    ap (λ b. first_cause ((b, r.NameTaken) ∷ (is_too_large f v slots (all_slots f v), r.TooLarge) ∷ []))
    (is_taken f v s)
    ∙ ap (λ n. first_cause ((taken, r.NameTaken) ∷ (is_too_large f v slots n, r.TooLarge) ∷ []))
    (all_are f sup metas v s all has)
    ∙ ap (λ b. first_cause ((taken, r.NameTaken) ∷ (b, r.TooLarge) ∷ [])) (sym (is f v))

-- a resize of a volume that isn't there
pub resize_nowhere : (metas : map.FinMap nat_cmp Meta) (sup : Super) (volume : VolumeRef) (slots : ℕ)
    → IsHeadMeant metas sup volume None → IsFirstRefusal metas sup (c.Resize volume slots) (Some r.NoVolume)
resize_nowhere metas sup volume slots none f v s = none_meant f v volume _ (none f v s)

-- the causes of a resize of a blob
abbrev pub resize_causes : Bool → Bool → Bool → Bool → Causes
resize_causes reserved read_only short large =
    (reserved, r.Reserved) ∷ (read_only, r.ReadOnly) ∷ (short, r.Short) ∷ (large, r.TooLarge) ∷ []

same_causes : {a b c d a' b' c' d' : Bool} → a ≡ a' → b ≡ b' → c ≡ c' → d ≡ d'
    → resize_causes a b c d ≡ resize_causes a' b' c' d'
same_causes {a} {b} {c} {d} {a'} {b'} {c'} {d'} e i j k =
    ap (λ t. resize_causes t b c d) e ∙ ap (λ t. resize_causes a' t c d) i ∙ ap (λ t. resize_causes a' b' t d) j
    ∙ ap (λ t. resize_causes a' b' c' t) k

-- nothing refuses a resize of the volume that is meant, or the first of its causes
pub resize_refused : (metas : map.FinMap nat_cmp Meta) (sup : Super) (volume : VolumeRef) (slots h : ℕ) (m : Meta)
    (all : ℕ) (large : Bool) (first : Option Reply) → IsHeadMeant metas sup volume (Some h) → map.get metas h ≡ Some m
    → HasSlots metas all → ((f : Fixed) (v : Volumes) → large ≡ is_too_large f v slots (all - length m.map))
    → (HeadsFit metas → first ≡ first_cause (resize_causes (is_given_head h (head_of_id sup.super_blob))
    (is_read_only m.flags) (nat_lt (length m.map) slots && has_longer_parent metas m) large))
    → IsFirstRefusal metas sup (c.Resize volume slots) first
resize_refused metas sup volume slots h m all large first meant there has large_is is f v s =
    let shown = volume_shown f sup metas v s h m there in
    let x = shown.0 in
    let e = shown.2 in
    ap first_cause (at_volume f v volume _ h x (meant f v s) shown.1
    ∙ same_causes (ap (is_given_head h) s.super_is) e.read_only_is
    (ap (λ n. nat_lt n slots && longer f v x (slots_of f x)) e.slots_are
    ∙ ap (λ b. nat_lt (length m.map) slots && b) (longer_same f sup metas v s x m e))
    (ap (λ n. is_too_large f v slots (n - slots_of f x)) (all_are f sup metas v s all has)
    ∙ ap (λ n. is_too_large f v slots (all - n)) e.slots_are ∙ sym (large_is f v)))
    ∙ sym (is (heads_fit f sup metas v s))
