use Rattle.std.proofs.Common.{ℕ, Option, Some, None, length, arith, refl}
use Rattle.std.specs.Prelude.{replicate}
use Rattle.std.specs.Option.{option_map}
use Rattle.std.specs.FinMap as map
use Rattle.std.proofs.lemmas.List.{length-replicate}
use Rattle.volume_model.specs.Volumes.{Volume, Fixed, zero_page}
use Rattle.blob_meta.specs.declared.meta.Meta.{Meta}
use Rattle.blob_meta.specs.Faults.{is_thin}
use Rattle.blob_meta.specs.Parents.{head_of_id, parent_of, is_read_only, is_locked}
use Rattle.blob_meta.specs.ShownBy.{ShowsAt}
use Rattle.blob_meta.proofs.laws.metadata_is_shown.Goals as goal

-- a page of zeros a slot
said : Meta → Volume
said m = record {
  pages = replicate (length m.map) zero_page;
  live = m.xattrs;
  synced = m.xattrs;
  thin = is_thin m.flags;
  read_only = is_read_only m.flags;
  locked = is_locked m.flags;
  parent = parent_of m;
}

one_page : ℕ → Option ℕ → Fixed
one_page md_len super_blob = record { cluster_pages = 1; md_len = md_len; super_blob = super_blob }

each : (md_len : ℕ) (super_blob : Option ℕ) (o : Option Meta)
    → ShowsAt (one_page md_len super_blob) (option_map said o) o
unfolding said one_page
each md_len super_blob None = tt
each md_len super_blob (Some m) = record {
  name_told = refl;
  uuid_told = refl;
  slots_are = let counted = length-replicate (length m.map) zero_page in omega (arith, counted);
  thin_is = refl;
  read_only_is = refl;
  locked_is = refl;
  parent_is = refl;
}

pub returns : goal.returns
unfolding one_page
returns c = λ metas sup md_len few below. (
  one_page md_len (head_of_id sup.super_blob),
  λ h. option_map said (map.get metas h),
  record {
    super_is = refl;
    some_pages = omega arith;
    few_heads = few;
    heads_below = below;
    shown = λ h. each md_len (head_of_id sup.super_blob) (map.get metas h);
  },
)
