-- A text that is cut at a separator.
use Rattle.std.specs.Prelude.{ℕ, ◌+◌, ◌==◌, List, [], Option, Some, None, length}
use Rattle.std.specs.List.{slice_split}

-- the parts of a text between the separators, or none where there is no text
abbrev pub parts : ℕ → Option (List ℕ) → List (List ℕ)
parts separator None = []
parts separator (Some text) = slice_split (λ b. b == separator) text

-- how much is left of a text, with its end
abbrev pub size_left : Option (List ℕ) → ℕ
size_left None = 0
size_left (Some text) = length text + 1
