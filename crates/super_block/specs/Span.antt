-- A region of the device as a run of pages. Numbers are without bound: an end may be past 2^32.
use Rattle.std.specs.Prelude.{ℕ, ◌+◌, Bool, nat_lt, min, max, List, map, fold}
use Rattle.super_block.specs.declared.span.Span.{Span}

-- the page behind the last one
abbrev pub end_of : Span → ℕ
end_of a = a.start + a.len

-- some page is in both: the later start is before the earlier end
abbrev pub shares : Span → Span → Bool
shares a b = nat_lt (max a.start b.start) (min (end_of a) (end_of b))

-- the greatest end of these regions
abbrev pub greatest_end : List Span → ℕ
greatest_end spans = fold max 0 (map end_of spans)
