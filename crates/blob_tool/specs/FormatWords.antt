-- What `format` is asked for with.
use Rattle.std.specs.Prelude.{ℕ, ◌*◌, ◌/◌, ◌%◌, ◌^◌, ◌==◌, nat_lt, ◌&&◌, if◌then◌else◌, List, Option, Some, None}
use Rattle.std.specs.Prelude.{is_some, false, true, Bool, String, option_and_then}
use Rattle.std.specs.Option.{option_map}
use Rattle.std.specs.declared.alloc.Global.{Global}
use Rattle.uuid.specs.Text.{parsed}
use Rattle.command_words.specs.Words.{asked_in, format, Asked, FormatTexts}
use Rattle.lvol_store.specs.Names.{is_name}
use Rattle.script_lang.specs.Words.{number_below}
use Rattle.store_format.specs.declared.super_blob.StoreName.{StoreName}
use Rattle.blob_tool.specs.declared.format_words.Format.{Format}

-- the bytes of a cluster, as its pages: a multiple of 4096 above 0, of fewer than 2^32 pages
abbrev pub cluster_in : List ℕ → Option ℕ
cluster_in word =
    option_and_then (λ bytes. if nat_lt 0 bytes && (bytes % 4096 == 0) then Some (bytes / 4096) else None)
    (number_below (4096 * 2 ^ 32) word)

-- at least one metadata page, and fewer than 2^32
abbrev pub md_pages_in : List ℕ → Option ℕ
md_pages_in word = option_and_then (λ pages. if nat_lt 0 pages then Some pages else None) (number_below (2 ^ 32) word)

-- a cluster without a size has 1 MiB, or 4 MiB in a logical volume store
abbrev pub asked_cluster : Bool → Option (List ℕ) → Option ℕ
asked_cluster false None = Some (2 ^ 20 / 4096)
asked_cluster true None = Some (2 ^ 22 / 4096)
asked_cluster is_lvol (Some word) = cluster_in word

-- without a number there are as many metadata pages as clusters
abbrev pub asked_md_pages : Option (List ℕ) → Option (Option ℕ)
asked_md_pages None = Some None
asked_md_pages (Some word) = option_map Some (md_pages_in word)

-- a name as volumes have one, and a text that says a uuid
abbrev pub store_name_in : List ℕ → List ℕ → Option StoreName
store_name_in name uuid =
    if is_name name then option_map (λ u. record { name = name; uuid = u }) (parsed uuid) else None

-- both are there, or neither
abbrev pub asked_name : Option (List ℕ) → Option (List ℕ) → Option (Option StoreName)
asked_name (Some name) (Some uuid) = option_map Some (store_name_in name uuid)
asked_name None None = Some None
asked_name _ _ = None

-- what the options ask for, where each has its form
abbrev pub of_options : FormatTexts → Option Format
of_options texts =
    option_and_then
    (λ lvol. option_and_then
    (λ k. option_map (λ n. record { cluster_pages = k; md_pages = n; lvol = lvol }) (asked_md_pages texts.md_pages))
    (asked_cluster (is_some lvol) texts.cluster)) (asked_name texts.lvol texts.uuid)

abbrev pub format_asked : Option Asked → Option Format
format_asked (Some (format image texts)) = of_options texts
format_asked _ = None

-- the new store for which the words ask
abbrev pub format_in : List (String Global) → Option Format
format_in words = format_asked (asked_in words)
