-- Guards of blobs as contracts see them, and what each call makes of them.
use Rattle.std.specs.Prelude.{ℕ, ◌+◌, refl}
use Rattle.std.specs.Ordering.{nat_cmp}
use Rattle.std.specs.FinMap as map
use Rattle.std.specs.FinSet as set
use Rattle.std.specs.Coded.{Coded, code_by, coded×, coded_ℕ}

-- guards of heads
pub record GuardsState : Type 0 where
  -- the held heads, each with its generation
  pub generations : map.FinMap nat_cmp ℕ
  -- the heads that are frozen
  pub frozen : set.FinSet nat_cmp
  -- the number that was drawn last, or 0 before the first
  pub drawn : ℕ
  -- how many heads can be held at a time
  pub room : ℕ

-- guards are stored as the tuple of these
abbrev pub guards_code : Coded GuardsState
guards_code =
    code_by (map.FinMap nat_cmp ℕ × (set.FinSet nat_cmp × (ℕ × ℕ)))
    (coded× (map.code coded_ℕ coded_ℕ) (coded× (set.code coded_ℕ) (coded× coded_ℕ coded_ℕ)))
    (λ g. (g.generations, (g.frozen, (g.drawn, g.room))))
    (λ p. record { generations = p.0; frozen = p.1.0; drawn = p.1.1.0; room = p.1.1.1 }) (λ _. refl)

-- no head is held, and no number was drawn
abbrev pub no_guards : ℕ → GuardsState
no_guards room = record { generations = map.empty; frozen = set.empty; drawn = 0; room = room }

-- the head is held, with the next number as its generation
abbrev pub renewed : GuardsState → ℕ → GuardsState
renewed g head = record g { generations = map.insert g.generations head (g.drawn + 1); drawn = g.drawn + 1 }

-- the head is no longer held, and so not frozen either
abbrev pub guard_removed : GuardsState → ℕ → GuardsState
guard_removed g head = record g { generations = map.remove g.generations head; frozen = set.remove g.frozen head }

-- the head is frozen
abbrev pub frozen_at : GuardsState → ℕ → GuardsState
frozen_at g head = record g { frozen = set.insert g.frozen head }

-- the head is not frozen
abbrev pub released : GuardsState → ℕ → GuardsState
released g head = record g { frozen = set.remove g.frozen head }
