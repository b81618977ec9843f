-- Requests for pages, page by page.
use Rattle.std.proofs.Common.{◌≡◌, ℕ, ◌+◌, [], ◌∷◌, ◌++◌, map, arith}
use Rattle.std.specs.List.{range_with_len}
use Rattle.std.proofs.lemmas.List.FromFn.{map-range_with_len_more}
use Rattle.volume_model.specs.declared.command.Command.{Command}

-- the commands of one page more
pub one_page_more : (f : ℕ → Command) (i : ℕ)
    → map f (range_with_len 0 (i + 1)) ≡ map f (range_with_len 0 i) ++ f i ∷ []
one_page_more f i = map-range_with_len_more f 0 i i (omega arith)
