-- The contents of blobs are the one function that fits their metadata: what fits it, on the pages that blobs have, is
-- what they show.
use Rattle.std.proofs.Common.{◌≡◌, ℕ, zero, suc, ◌*◌, ◌/◌, ◌<◌, Bool, true, false, Option, Some, None, length, map}
use Rattle.std.proofs.Common.{refl, sym, ap, ◌∙◌, arith}
use Rattle.std.specs.Prelude.{nat_lt, if◌then◌else◌}
use Rattle.std.specs.List.{range_with_len}
use Rattle.std.specs.Option.{option_map_or}
use Rattle.std.proofs.lemmas.Bool.Decides.{nat_tests}
use Rattle.page_disk.specs.Disk.{Image}
use Rattle.volume_model.specs.Volumes.{Page, zero_page}
use Rattle.blob_meta.specs.declared.meta.Meta.{Meta}
use Rattle.blob_meta.specs.Parents.{parent_of, slot}
use Rattle.shown_volumes.specs.Maps.{Metas}
use Rattle.shown_volumes.specs.Shown.{content, content_by}
use Rattle.shown_volumes.proofs.Fuel.{enough}
use Rattle.shown_volumes.proofs.Ranges.{same_below}
use Rattle.shown_volumes.proofs.Ranks.{Levels}
use Rattle.shown_volumes.proofs.SlotSums.{slots_in}

abbrev pub Contents : Type 0
Contents = ℕ → ℕ → Page

module _ (k : ℕ) (image : Image) (page : ℕ) where
  -- what an empty slot shows: the page of the parent, where it is below the parent's length
  abbrev pub from_parent : Metas → Contents → Option ℕ → Page
  from_parent metas shows o = option_map_or (λ p. option_map_or (λ (parent : Meta).
      if nat_lt page (k * length parent.map) then shows p page else zero_page) (metas p) zero_page) o zero_page

  pub in_filled : (metas : Metas) (shows : Contents) (m : Meta) (cluster : ℕ) → slot m (page / k) ≡ Some cluster
      → (n : Meta) (others : Metas) (show : Contents) → slot n (page / k) ≡ Some cluster
      → content_by k image metas shows page m ≡ content_by k image others show page n
  in_filled metas shows m cluster is n others show too = rw (is, too) refl

  pub in_empty : (metas : Metas) (shows : Contents) (m : Meta) → slot m (page / k) ≡ None
      → content_by k image metas shows page m ≡ from_parent metas shows (parent_of m)
  in_empty metas shows m is = rw is refl

  -- a parent that is as long shows the same, where it has the page
  module _ (metas others : Metas) (shows show : Contents) where
    abbrev LongAlike : Option ℕ → Type 0
    LongAlike o = (p : ℕ) → o ≡ Some p → slots_in (others p) ≡ slots_in (metas p)

    abbrev ShowAlike : Option ℕ → Type 0
    ShowAlike o = (p : ℕ) → o ≡ Some p → page < k * slots_in (metas p) → show p page ≡ shows p page

    by_length : (x y : Page) (m n : ℕ) → n ≡ m → (page < k * m → y ≡ x)
        → (if nat_lt page (k * n) then y else zero_page) ≡ (if nat_lt page (k * m) then x else zero_page)
    by_length x y m n e same = ap (λ i. if nat_lt page (k * i) then y else zero_page) e ∙ at (nat_lt page (k * m)) refl
      where
        at : (b : Bool) → nat_lt page (k * m) ≡ b
            → (if nat_lt page (k * m) then y else zero_page) ≡ (if nat_lt page (k * m) then x else zero_page)
        at true is =
            ap (λ (z : Page). if nat_lt page (k * m) then z else zero_page) (same (grind (arith, nat_tests, is)))
        at false is = rw is refl

    -- the page, by the number of slots
    pub counted : (o : Option Meta) (x : Page)
        → option_map_or (λ (parent : Meta). if nat_lt page (k * length parent.map) then x else zero_page) o zero_page
        ≡ (if nat_lt page (k * slots_in o) then x else zero_page)
    counted (Some m) x = refl
    counted None x = let past : nat_lt page (k * 0) ≡ false = grind (arith, nat_tests) in
        sym (ap (λ (b : Bool). if b then x else zero_page) past)

    pub same_parent : (o : Option ℕ) → LongAlike o → ShowAlike o
        → from_parent others show o ≡ from_parent metas shows o
    same_parent None long same = refl
    same_parent (Some p) long same = counted (others p) (show p page)
        ∙ by_length (shows p page) (show p page) (slots_in (metas p)) (slots_in (others p)) (long p refl) (same p refl)
        ∙ sym (counted (metas p) (shows p page))

    -- so does a blob with the same slot and the same parent
    pub same_level : (m n : Meta) → slot n (page / k) ≡ slot m (page / k) → parent_of n ≡ parent_of m
        → LongAlike (parent_of m) → ShowAlike (parent_of m)
        → content_by k image others show page n ≡ content_by k image metas shows page m
    same_level m n slots parent long same = at (slot m (page / k)) refl
      where
        at : (o : Option ℕ) → slot m (page / k) ≡ o
            → content_by k image others show page n ≡ content_by k image metas shows page m
        at (Some cluster) is = in_filled others show n cluster (slots ∙ is) m metas shows is
        at None is = in_empty others show n (slots ∙ is) ∙ ap (from_parent others show) parent
            ∙ same_parent (parent_of m) long same ∙ sym (in_empty metas shows m is)

module _ (k : ℕ) (image : Image) (md_len : ℕ) (metas : Metas) (levels : Levels md_len metas) where
  -- what the blobs show
  abbrev pub now : Contents
  now = content k image metas (suc md_len)

  -- the contents fit: a level is opened
  pub opened : (h page : ℕ) (m : Meta) → metas h ≡ Some m → now h page ≡ content_by k image metas now page m
  opened h page m there =
      let most = levels.most h in
      enough k image md_len metas levels page (suc md_len) (suc (suc md_len)) h (omega (arith, most))
      (omega (arith, most))
      ∙ ap (λ o. option_map_or (content_by k image metas now page) o zero_page) there

  -- Contents fit if each blob shows, on its own pages, what its slots and its parent give.
  abbrev pub Fits : Contents → Type 0
  Fits shows = (h page : ℕ) (m : Meta) → metas h ≡ Some m → page < k * length m.map
      → content_by k image metas shows page m ≡ shows h page

  module _ (shows : Contents) (fits : Fits shows) where
    -- a parent that has the page is there
    inside : (times p page : ℕ) → ((m : Meta) → metas p ≡ Some m → page < k * length m.map
        → content k image metas times p page ≡ shows p page) → (o : Option Meta) → metas p ≡ o → page < k * slots_in o
        → content k image metas times p page ≡ shows p page
    inside times p page each (Some m) there lt = each m there lt
    inside times p page each None there lt = absurd (omega (arith, lt))

    fits_after : (times h page : ℕ) (m : Meta) → levels.level h < times → metas h ≡ Some m → page < k * length m.map
        → content k image metas times h page ≡ shows h page
    fits_after zero h page m low there lt = absurd (omega (arith, low))
    fits_after (suc times) h page m low there lt =
        ap (λ o. option_map_or (content_by k image metas (λ p q. content k image metas times p q) page) o zero_page)
        there
        ∙ same_level k image page metas metas shows (λ p q. content k image metas times p q) m m refl refl
        (λ _ _. refl)
        (λ p of has.
        let falls = levels.falls h p m there of in
        inside times p page (λ n is less. fits_after times p page n (omega (arith, low, falls)) is less) (metas p) refl
        has)
        ∙ fits h page m there lt

    -- what fits is what blobs show
    pub fits_is : (h page : ℕ) (m : Meta) → metas h ≡ Some m → page < k * length m.map → now h page ≡ shows h page
    fits_is h page m there lt =
        let most = levels.most h in fits_after (suc md_len) h page m (omega (arith, most)) there lt

    -- so are all pages of a blob
    pub pages_fit : (h : ℕ) (m : Meta) (n : ℕ) (show : ℕ → Page) → metas h ≡ Some m → length m.map ≡ n
        → ((page : ℕ) → page < k * n → shows h page ≡ show page)
        → map (now h) (range_with_len 0 (k * length m.map)) ≡ map show (range_with_len 0 (k * n))
    pages_fit h m n show there long same =
        same_below show (now h) 0 (k * length m.map) (λ page lt.
        let less : page < k * length m.map = omega (arith, lt) in
        fits_is h page m there less ∙ same page (rw (sym long) less))
        ∙ ap (λ i. map show (range_with_len 0 (k * i))) long

-- ---- a blob whose metadata stays

module _ (k : ℕ) (image : Image) (md_len : ℕ) (metas later : Metas) (levels : Levels md_len metas)
    (new_levels : Levels md_len later) (shows : Contents) (fits : Fits k image md_len later new_levels shows) where
  -- a parent that is as long as it was, and shows what it showed, does so whatever fits
  parent_still : (p page : ℕ) → slots_in (later p) ≡ slots_in (metas p)
      → shows p page ≡ content k image metas (suc md_len) p page → page < k * slots_in (metas p)
      → content k image later (suc md_len) p page ≡ content k image metas (suc md_len) p page
  parent_still p page long same lt = at (later p) refl
    where
      at : (o : Option Meta) → later p ≡ o
          → content k image later (suc md_len) p page ≡ content k image metas (suc md_len) p page
      at None none =
          let bare : slots_in (later p) ≡ 0 = ap slots_in none in
          absurd (nothing (slots_in (metas p)) (sym long ∙ bare) lt)
        where
          nothing : (n : ℕ) → n ≡ 0 → page < k * n → ⊥
          nothing n is lt = let least : page < k * 0 = rw (sym is) lt in omega (arith, least)
      at (Some m) is =
          let whole : length m.map ≡ slots_in (metas p) = sym (ap slots_in is) ∙ long in
          fits_is k image md_len later new_levels shows fits p page m is (rw whole lt) ∙ same

  -- so the blob shows at each page what it showed
  pub same_still : (h page : ℕ) (m : Meta) → metas h ≡ Some m → later h ≡ Some m
      → ((p : ℕ) → parent_of m ≡ Some p → slots_in (later p) ≡ slots_in (metas p))
      → ((p : ℕ) → parent_of m ≡ Some p → shows p page ≡ content k image metas (suc md_len) p page)
      → content k image later (suc md_len) h page ≡ content k image metas (suc md_len) h page
  same_still h page m there is long same =
      opened k image md_len later new_levels h page m is
      ∙ same_level k image page metas later (content k image metas (suc md_len)) (content k image later (suc md_len)) m
      m refl refl long (λ p of lt. parent_still p page (long p of) (same p of) lt)
      ∙ sym (opened k image md_len metas levels h page m there)
