-- What is printed of a text.
use Rattle.std.specs.Prelude.{◌≡◌, ℕ, List, ◌++◌}

-- after the first text there stands a part of the second, from its beginning
pub record IsPartOf (before after whole : List ℕ) : Type 0 where
  pub part : List ℕ
  pub rest : List ℕ
  pub whole_is : whole ≡ part ++ rest
  pub after_is : after ≡ before ++ part
