-- A volume is taken out, changed and put back.
use Rattle.std.proofs.Common.{◌≡◌, ℕ, ◌==◌, if◌then◌else◌, Option, Some, None, refl, sym, ap, ◌∙◌, inl, inr}
use Rattle.std.specs.Option.{option_map}
use Rattle.std.proofs.lemmas.Bool.Decides.{eqb_tells}
use Rattle.volume_model.specs.Volumes.{Volume, Volumes, head_of}
use Rattle.volume_model.specs.Steps as step
use Rattle.volume_model.specs.Machine.{Machine, volumes_in, PutsVolume}
use Rattle.volume_model.specs.declared.command.VolumeRef.{VolumeRef}

-- what the steps' change of one volume does, seen at each head
pub edit_seen : (v : Volumes) (f : _) (o : Option ℕ) (h : ℕ) (x y : Volume) (change : Volume → Volume) → o ≡ Some h
    → v h ≡ Some x → y ≡ change x
    → (k : ℕ) → (if k == h then Some y else v k) ≡ step.edited_at f v o change k
edit_seen v f o h x y change is here changed k = rw is (elim (eqb_tells k h) [
  | inl same ↦ rw same.0 (ap Some changed ∙ ap (option_map change) (sym here ∙ ap v (sym same.1)))
  | inr apart ↦ rw apart.0 refl
])

module _ (m taken n : Machine) (volume : VolumeRef) (h : ℕ) (x y : Volume) (change : Volume
    → Volume) (out : PutsVolume m h None taken) (back : PutsVolume taken h (Some y) n) where
  both : (k : ℕ) → volumes_in n k ≡ (if k == h then Some y else volumes_in m k)
  both k = back.after k ∙ elim (eqb_tells k h) [
    | inl same ↦ rw same.0 refl
    | inr apart ↦ rw apart.0 (out.after k ∙ rw apart.0 refl)
  ]

  -- a volume that is taken out and put back changed is what a step makes of it
  pub edited : head_of m.fixed (volumes_in m) volume ≡ Some h → volumes_in m h ≡ Some x → y ≡ change x → (k : ℕ)
      → volumes_in n k ≡ step.edited m.fixed (volumes_in m) volume change k
  edited meant here changed k = both k ∙ edit_seen (volumes_in m) m.fixed (head_of m.fixed (volumes_in m) volume) h x y
      change meant here changed k

  -- taking out and putting back keeps what is fixed
  pub fixed : n.fixed ≡ m.fixed
  fixed = back.fixed ∙ out.fixed
