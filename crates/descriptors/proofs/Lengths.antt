-- How long a spelling is.
use Rattle.std.proofs.Common.{◌≡◌, ℕ, refl, ◌+◌, ◌*◌, List, [], ◌∷◌, ◌++◌, length, sym, ap, ◌∙◌, arith, length-append}
use Rattle.std.proofs.Common.{append_assoc, ◌<◌, ◌≤◌, take, drop, get_or}
use Rattle.std.proofs.lemmas.List.{flat_map_more, take-append-drop, take_more}
use Rattle.std.proofs.lemmas.List.Sums.{sum_by-cons}
use Rattle.std.proofs.lemmas.List.Concat.{flat_map-append}
use Rattle.descriptors.specs.declared.item.Item.{Item}
use Rattle.std.specs.List.{flat_map}
use Rattle.volume_model.specs.declared.lists.SlotRun.{SlotRun}
use Rattle.descriptors.specs.declared.item.Item.TheVariants.{Rle, Xattr, Flags, InternalXattr, Unknown}
use Rattle.descriptors.specs.Writing.{run_bytes, pair_bytes, flags_bytes, framed, item_bytes, item_size, spelled_size}
use Rattle.descriptors.specs.Writing.{spelling}
use Rattle.page_fields.specs.Fields.{number_bytes}
use Rattle.page_fields.proofs.Laws.{len-number_bytes}

-- how many bytes an attribute takes
pub length-pair_bytes : (name value : List ℕ) → length (pair_bytes name value) ≡ 4 + length name + length value
unfolding pair_bytes
length-pair_bytes name value = simp (length-append, len-number_bytes) (omega arith)

-- how many bytes flags take
pub length-flags_bytes : (a b c : ℕ) → length (flags_bytes a b c) ≡ 24
unfolding flags_bytes
length-flags_bytes a b c = simp (length-append, len-number_bytes)

-- how many bytes runs take
pub length-runs_bytes : (runs : List SlotRun) → length (flat_map run_bytes runs) ≡ 8 * length runs
length-runs_bytes [] = omega arith
length-runs_bytes (r ∷ rs) = simp (length-append, len-number_bytes) (omega (arith, length-runs_bytes rs))

-- a type and a length take five bytes more
pub length-framed : (kind : ℕ) (body : List ℕ) → length (framed kind body) ≡ 5 + length body
length-framed kind body = simp (length-append, len-number_bytes) (omega arith)

-- an item takes the bytes that its size says
pub length-item_bytes : (item : Item) → length (item_bytes item) ≡ item_size item
length-item_bytes (Rle runs) = omega (arith, length-framed 1 (flat_map run_bytes runs), length-runs_bytes runs)
length-item_bytes (Xattr key value) = omega (arith, length-framed 2 (pair_bytes key value), length-pair_bytes key value)
length-item_bytes (Flags a b c) = omega (arith, length-framed 3 (flags_bytes a b c), length-flags_bytes a b c)
length-item_bytes (InternalXattr key value) = omega
    (arith, length-framed 4 (pair_bytes key value), length-pair_bytes key value)
length-item_bytes (Unknown kind) = length-framed kind []

-- a head, and then the bytes that it counts
pub framed_put : (front mid whole : List ℕ) (kind size : ℕ) (body : List ℕ) → size ≡ length body
    → mid ≡ front ++ (kind ∷ number_bytes 4 size) → whole ≡ mid ++ body → whole ≡ front ++ framed kind body
framed_put front mid whole kind size body len head rest =
    rest ∙ ap (λ (t : List ℕ). t ++ body) head ∙ append_assoc front (kind ∷ number_bytes 4 size) body
    ∙ ap (λ (n : ℕ). front ++ (kind ∷ (number_bytes 4 n ++ body))) len

-- one run more
pub run_put : (front old new : List ℕ) (runs : List SlotRun) (i : ℕ) (d : SlotRun) → i < length runs
    → old ≡ front ++ flat_map run_bytes (take i runs)
    → new ≡ old ++ run_bytes (get_or runs i d) → new ≡ front ++ flat_map run_bytes (take (i + 1) runs)
run_put front old new runs i d lt so_far this =
    this ∙ ap (λ (t : List ℕ). t ++ run_bytes (get_or runs i d)) so_far
    ∙ flat_map_more run_bytes front (take i runs) (get_or runs i d)
    ∙ ap (λ (rs : List SlotRun). front ++ flat_map run_bytes rs) (sym (take_more runs i d lt))

-- for the loop of `put_items`: the next item is spelled behind those before
pub item_put : (front old new : List ℕ) (items : List Item) (i : ℕ) (d : Item) → i < length items
    → old ≡ front ++ spelling (take i items)
    → new ≡ old ++ item_bytes (get_or items i d) → new ≡ front ++ spelling (take (i + 1) items)
item_put front old new items i d lt so_far this =
    this ∙ ap (λ (t : List ℕ). t ++ item_bytes (get_or items i d)) so_far
    ∙ flat_map_more item_bytes front (take i items) (get_or items i d)
    ∙ ap (λ (rs : List Item). front ++ spelling rs) (sym (take_more items i d lt))

-- the item at i stands within the spelling
pub item_within : (items : List Item) (i : ℕ) (d : Item) → i < length items
    → length (spelling (take i items)) + length (item_bytes (get_or items i d)) ≤ length (spelling items)
item_within items i d lt =
    let whole : spelling (take (i + 1) items) ≡ spelling (take i items) ++ item_bytes (get_or items i d) =
    ap spelling (take_more items i d lt) ∙ sym (flat_map_more item_bytes [] (take i items) (get_or items i d)) in
    let rest : spelling items ≡ spelling (take (i + 1) items) ++ spelling (drop (i + 1) items) =
    ap spelling (sym (take-append-drop (i + 1) items))
    ∙ flat_map-append item_bytes (take (i + 1) items) (drop (i + 1) items) in
    omega (
      arith,
      ap length whole,
      ap length rest,
      length-append (spelling (take i items))
          (item_bytes (get_or items i d)),
      length-append (spelling (take (i + 1) items)) (spelling (drop (i + 1) items)),
    )

-- one item more takes its size more
pub length-more_items : (items : List Item) (i : ℕ) (d : Item) → i < length items
    → length (spelling (take (i + 1) items)) ≡ length (spelling (take i items)) + item_size (get_or items i d)
length-more_items items i d lt =
    let whole : spelling (take (i + 1) items) ≡ spelling (take i items) ++ item_bytes (get_or items i d) =
    ap spelling (take_more items i d lt) ∙ sym (flat_map_more item_bytes [] (take i items) (get_or items i d)) in
    ap length whole ∙ length-append (spelling (take i items)) (item_bytes (get_or items i d))
    ∙ ap (λ (n : ℕ). length (spelling (take i items)) + n) (length-item_bytes (get_or items i d))

-- a spelling has the size that its items say together
pub length-spelling : (items : List Item) → length (spelling items) ≡ spelled_size items
length-spelling [] = refl
length-spelling (item ∷ items) =
    omega (
      arith,
      length-append (item_bytes item) (spelling items),
      length-item_bytes item,
      length-spelling items,
      sum_by-cons item_size item items,
    )
