-- What the calls of a disk do to its pages, and what a crash may leave of them.
use Rattle.std.specs.Prelude.{◌≡◌, ◌≢◌, ◌⊎◌, ◌↔◌, ◌+◌, ◌-◌, ◌^◌, ◌<◌, ◌≤◌, ◌==◌, if◌then◌else◌, ℕ, false, List, length}
use Rattle.std.specs.Prelude.{get_or, Result, IsErr}
use Rattle.crc32c.specs.Crc.{is_sound}
use Rattle.page_disk.specs.declared.disk.DiskFault.{DiskFault}
use Rattle.page_disk.specs.declared.disk.WriteKind.{WriteKind}
use Rattle.page_disk.specs.declared.disk.WriteKind.TheVariants.{Whole, Plain}

-- what each page holds
abbrev pub Image : Type 0
Image = ℕ → List ℕ

-- some images
abbrev pub Images : Type 1
Images = Image → Type 0

-- the image with this page at this place
unfoldable pub with_page : Image → ℕ → List ℕ → Image
with_page image place page = λ p. if p == place then page else image p

-- these images are those
abbrev pub Alike : Images → Images → Type 0
Alike a b = (c : Image) → a c ↔ b c

-- this image and no other
abbrev pub Only : Image → Images → Type 0
Only image images = (c : Image) → images c ↔ (c ≡ image)

-- 4096 bytes
pub record IsPage (page : List ℕ) : Type 0 where
  pub long : length page ≡ 4096
  pub bytes : (i : ℕ) → get_or page i 0 < 256

-- every page but the one at this place is as it was
abbrev pub IsSameElsewhere : ℕ → Image → Image → Type 0
IsSameElsewhere place old new = (p : ℕ) → p ≢ place → new p ≡ old p

-- what a write puts into its page: the given one, and where it may be torn any page that isn't sound
abbrev pub Puts : WriteKind → List ℕ → List ℕ → Type 0
Puts Whole given page = page ≡ given
Puts Plain given page = (page ≡ given) ⊎ (IsPage page × (is_sound page ≡ false))

-- one of the old images, with or without what the write puts there
pub record Written (old : Images) (place : ℕ) (kind : WriteKind) (given : List ℕ) (new : Image) : Type 0 where
  pub before : Image
  pub was : old before
  pub page : List ℕ
  pub kept_or_put : (new ≡ before) ⊎ ((new ≡ with_page before place page) × Puts kind given page)

-- Time goes on: a crash since t might have left what it might have left before, or what it may leave now.
pub record Elapses (before now : ℕ) (past since : ℕ → Image → Type 0) (images : Images) : Type 0 where
  pub later : before ≤ now
  pub each : (t : ℕ) (c : Image) → t ≤ before → since t c ↔ (past t c ⊎ images c)

-- after a write that answered Ok
pub record Wrote (old_now new_now : Image) (old new : Images) (place : ℕ) (kind : WriteKind)
    (given : List ℕ) : Type 0 where
  pub now : new_now ≡ with_page old_now place given
  pub images : (c : Image) → new c ↔ Written old place kind given c

-- after a write that failed: its page may hold all that one which succeeds would allow
pub record WroteOrNot (old_now new_now : Image) (old new : Images) (place : ℕ) (kind : WriteKind)
    (given : List ℕ) : Type 0 where
  pub elsewhere : IsSameElsewhere place old_now new_now
  pub images : (c : Image) → new c → Written old place kind given c

-- the greatest number of a counter
abbrev pub last_count : ℕ
last_count = 2 ^ 64 - 1

-- a count has risen, or stands at its last number
abbrev pub Rose : ℕ → ℕ → Type 0
Rose before after = (before < after) ⊎ (after ≡ last_count)

-- a count has risen by one, or stands at its last number
abbrev pub RoseByOne : ℕ → ℕ → Type 0
RoseByOne before after = (after ≡ before + 1) ⊎ ((before ≡ last_count) × (after ≡ last_count))

-- a fault has a cause
pub record HasCause {T : Type 0} (before after : ℕ) (result : Result T DiskFault) : Type 0 where
  pub later : before ≤ after
  pub cause : IsErr result → Rose before after

-- what holds of what a disk tells, at each of its states
pub record Telling {D : Type 0} (now : D → Image) (images : D → Images) (since : D → ℕ → Image → Type 0)
    (clock : D → ℕ) : Type 0 where
  -- what the disk reads is one of its images
  pub reads_an_image : (disk : D) → images disk (now disk)
  -- since this moment there is no other
  pub since_now : (disk : D) (c : Image) → since disk (clock disk) c → images disk c
  -- this moment is one of those since an earlier one
  pub counts_now : (disk : D) (t : ℕ) (c : Image) → t ≤ clock disk → images disk c → since disk t c
