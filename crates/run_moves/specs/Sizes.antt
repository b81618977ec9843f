-- The numbers of a store that are fixed for a run.
use Rattle.std.specs.Prelude.{ℕ, ◌+◌, ◌*◌, ◌^◌}
use Rattle.super_block.specs.declared.page.Super.{Super}
use Rattle.super_block.specs.Numbers.{cluster_pages_of, clusters_of}
use Rattle.run_work.specs.RunState.{RunSizes}

-- the most turns of one replacement: each page of the metadata region is written once at most, and erased once
abbrev pub replacement_turns : Super → ℕ
replacement_turns s = 2 * s.md_len + 1

-- the most replacements of a job: those of a snapshot
abbrev pub most_replacements : ℕ
most_replacements = 4

-- A job of a command has so many replacements at most, before which each page of each claimed cluster is zeroed; and
-- before all else a job may mark the store as in use.
abbrev pub sizes_of : Super → RunSizes
sizes_of s = record {
  pages = cluster_pages_of s;
  insert_turns = replacement_turns s + 1;
  job_turns = clusters_of s * cluster_pages_of s + most_replacements * replacement_turns s + 1;
  replacements = most_replacements;
  slots = 2 ^ 20;
  rows = 17;
  heads = s.md_len;
}
