-- The items of metadata say that metadata.
use Rattle.std.proofs.Common.{◌≡◌, ℕ, ◌+◌, ◌^◌, false, List, [], ◌∷◌, ◌++◌, refl, sym, ap, ◌∙◌, arith}
use Rattle.std.specs.List.{AllByRecursion, filter_map, flat_map}
use Rattle.std.specs.Str.{bytes_eq}
use Rattle.std.proofs.lemmas.List.{append-nil}
use Rattle.volume_model.specs.declared.lists.SlotRun.{SlotRun}
use Rattle.volume_model.specs.declared.text.Xattr.{Xattr}
use Rattle.descriptors.specs.declared.item.Item.{Item}
use Rattle.descriptors.specs.Runs.{slots_in}
use Rattle.blob_meta.specs.declared.meta.Flags.{Flags}
use Rattle.blob_meta.specs.declared.meta.Meta.{Meta}
use Rattle.blob_meta.specs.Says.{last_flags, without_bit_1, firsts, xattr_in, internal_in, runs_in, meta_of}
use Rattle.blob_meta.specs.Items.{internal_bit, xattr_items, internal_items, run_items, items_of, IsItemsOf}
use Rattle.blob_meta.specs.Items.{HasDistinctNames}
use Rattle.blob_meta.proofs.Firsts.{others, turned}

-- ---- flags

flags_past_xattrs : (f : Flags) (xs : List Xattr) (rest : List Item)
    → last_flags f (xattr_items xs ++ rest) ≡ last_flags f rest
flags_past_xattrs f [] rest = refl
flags_past_xattrs f (x ∷ xs) rest = flags_past_xattrs f xs rest

flags_past_internal : (f : Flags) (xs : List Xattr) (rest : List Item)
    → last_flags f (internal_items xs ++ rest) ≡ last_flags f rest
flags_past_internal f [] rest = refl
flags_past_internal f (x ∷ xs) rest = flags_past_internal f xs rest

flags_past_runs : (f : Flags) (runs : List SlotRun) → last_flags f (run_items runs) ≡ f
flags_past_runs f [] = refl
flags_past_runs f (r ∷ rs) = refl

bit_again : (n : ℕ) (xs : List Xattr) → without_bit_1 n ≡ n → without_bit_1 (without_bit_1 n + internal_bit xs) ≡ n
bit_again n [] clear = ap (λ k. without_bit_1 (k + 0)) clear ∙ omega (arith, clear)
bit_again n (x ∷ xs) clear = ap (λ k. without_bit_1 (k + 2)) clear ∙ omega (arith, clear)

-- ---- attributes

xattrs_first : (xs : List Xattr) (rest : List Item)
    → filter_map xattr_in (xattr_items xs ++ rest) ≡ xs ++ filter_map xattr_in rest
xattrs_first [] rest = refl
xattrs_first (x ∷ xs) rest = ap (λ l. x ∷ l) (xattrs_first xs rest)

no_xattrs : (xs : List Xattr) (runs : List SlotRun) → filter_map xattr_in (internal_items xs ++ run_items runs) ≡ []
no_xattrs [] [] = refl
no_xattrs [] (r ∷ rs) = refl
no_xattrs (x ∷ xs) runs = no_xattrs xs runs

internal_past : (xs : List Xattr) (rest : List Item)
    → filter_map internal_in (xattr_items xs ++ rest) ≡ filter_map internal_in rest
internal_past [] rest = refl
internal_past (x ∷ xs) rest = internal_past xs rest

internal_first : (xs : List Xattr) (runs : List SlotRun)
    → filter_map internal_in (internal_items xs ++ run_items runs) ≡ xs
internal_first [] [] = refl
internal_first [] (r ∷ rs) = refl
internal_first (x ∷ xs) runs = ap (λ l. x ∷ l) (internal_first xs runs)

none_dropped : (name : List ℕ) (xs : List Xattr) → AllByRecursion (λ y. bytes_eq name y.key ≡ false) xs
    → others name xs ≡ xs
none_dropped name [] h = refl
none_dropped name (x ∷ xs) h = let other : bytes_eq x.key name ≡ false = turned name x.key h.0 in
    rw other (ap (λ l. x ∷ l) (none_dropped name xs h.1))

all_firsts : (xs : List Xattr) → HasDistinctNames xs → firsts xs ≡ xs
all_firsts [] h = refl
all_firsts (x ∷ xs) h = ap (λ l. x ∷ others x.key l) (all_firsts xs h.1) ∙ ap (λ l. x ∷ l) (none_dropped x.key xs h.0)

-- ---- runs

runs_past_xattrs : (xs : List Xattr) (rest : List Item)
    → flat_map runs_in (xattr_items xs ++ rest) ≡ flat_map runs_in rest
runs_past_xattrs [] rest = refl
runs_past_xattrs (x ∷ xs) rest = runs_past_xattrs xs rest

runs_past_internal : (xs : List Xattr) (rest : List Item)
    → flat_map runs_in (internal_items xs ++ rest) ≡ flat_map runs_in rest
runs_past_internal [] rest = refl
runs_past_internal (x ∷ xs) rest = runs_past_internal xs rest

runs_said : (runs : List SlotRun) → flat_map runs_in (run_items runs) ≡ runs
runs_said [] = refl
runs_said (r ∷ rs) = append-nil (r ∷ rs)

-- ---- all

say_of : (head : ℕ) (m : Meta) (runs : List SlotRun) → m.id ≡ 2 ^ 32 + head
    → without_bit_1 m.flags.invalid ≡ m.flags.invalid → HasDistinctNames m.xattrs → HasDistinctNames m.internal
    → slots_in runs ≡ m.map → meta_of head (items_of m runs) ≡ m
say_of head m runs id clear names internal_names spelt =
    let rest : List Item = internal_items m.internal ++ run_items runs in
    let written : Flags = record {
      invalid = without_bit_1 m.flags.invalid + internal_bit m.internal;
      data_ro = m.flags.data_ro;
      md_ro = m.flags.md_ro;
    } in
    let last : last_flags written (xattr_items m.xattrs ++ rest) ≡ written =
    flags_past_xattrs written m.xattrs rest ∙ flags_past_internal written m.internal (run_items runs)
    ∙ flags_past_runs written runs in
    let again : without_bit_1 (without_bit_1 m.flags.invalid + internal_bit m.internal) ≡ m.flags.invalid =
    bit_again m.flags.invalid m.internal clear in
    let clear_bit = λ (f : Flags). record f { invalid = without_bit_1 f.invalid } in
    let flags : clear_bit (last_flags written (xattr_items m.xattrs ++ rest)) ≡ m.flags =
    ap clear_bit last ∙ (λ i. record { invalid = again i; data_ro = m.flags.data_ro; md_ro = m.flags.md_ro }) in
    let xattrs : firsts (filter_map xattr_in (xattr_items m.xattrs ++ rest)) ≡ m.xattrs =
    ap firsts (xattrs_first m.xattrs rest ∙ ap (λ l. m.xattrs ++ l) (no_xattrs m.internal runs) ∙ append-nil m.xattrs)
    ∙ all_firsts m.xattrs names in
    let internal : firsts (filter_map internal_in (xattr_items m.xattrs ++ rest)) ≡ m.internal =
    ap firsts (internal_past m.xattrs rest ∙ internal_first m.internal runs) ∙ all_firsts m.internal internal_names in
    let slots : slots_in (flat_map runs_in (xattr_items m.xattrs ++ rest)) ≡ m.map =
    ap slots_in (runs_past_xattrs m.xattrs rest ∙ runs_past_internal m.internal (run_items runs) ∙ runs_said runs)
    ∙ spelt in
    λ i. record { id = sym id i; flags = flags i; xattrs = xattrs i; internal = internal i; map = slots i }

-- the law of `items_say`: the items of metadata say it again
pub says : (head : ℕ) (m : Meta) (items : List Item) → m.id ≡ 2 ^ 32 + head
    → without_bit_1 m.flags.invalid ≡ m.flags.invalid → HasDistinctNames m.xattrs → HasDistinctNames m.internal
    → IsItemsOf m items → meta_of head items ≡ m
says head m items id clear names internal_names is =
    ap (meta_of head) is.items_are ∙ say_of head m is.runs id clear names internal_names is.spelt
