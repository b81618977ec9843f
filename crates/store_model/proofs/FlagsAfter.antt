-- The flags of a blob behind a verb that syncs, which may make it read-only.
use Rattle.std.proofs.Common.{◌≡◌, ℕ, ◌+◌, ◌*◌, ◌/◌, ◌≤◌, ◌<◌, Bool, true, None, refl, sym, ◌∙◌, inl, inr}
use Rattle.std.proofs.Common.{arith, ap}
use Rattle.std.specs.Prelude.{nat_le, ◌||◌}
use Rattle.std.proofs.lemmas.Bool.{cases_Bool, le-leb, lt-leb, leb-true, leb-false}
use Rattle.volume_model.specs.declared.command.Command.{Command}
use Rattle.volume_model.specs.declared.command.Command.TheVariants as c
use Rattle.blob_meta.specs.declared.meta.Flags.{Flags}
use Rattle.blob_meta.specs.declared.meta.Meta.{Meta}
use Rattle.blob_meta.specs.Faults.{is_thin, meta_fault}
use Rattle.blob_meta.specs.Says.{without_bit_1}
use Rattle.blob_meta.specs.Parents.{is_locked, is_read_only, read_only}
use Rattle.store_model.specs.Asking.{flags_after}

-- whether a volume is read-only behind the command, where it was or wasn't before
abbrev pub read_only_after : Command → Bool → Bool
read_only_after (c.ReadOnly volume) was = true
read_only_after _ was = was

pub thin_after : (command : Command) (flags : Flags) → is_thin (flags_after command flags) ≡ is_thin flags
thin_after (c.ReadOnly volume) flags = refl
thin_after _ flags = refl

set_is_on : (d : ℕ) → nat_le 1 (d / 2 * 2 + 1) ≡ true
set_is_on d = le-leb 1 (d / 2 * 2 + 1) (omega arith)

pub read_only_is_on : (flags : Flags) → is_read_only (read_only flags) ≡ true
read_only_is_on flags = rw (set_is_on flags.data_ro) refl

pub read_only_flags : (command : Command) (flags : Flags)
    → is_read_only (flags_after command flags) ≡ read_only_after command (is_read_only flags)
read_only_flags (c.ReadOnly volume) flags = read_only_is_on flags
read_only_flags _ flags = refl

-- the first bit locks nothing
locked_by_others : (d : ℕ) → nat_le 2 (d / 2 * 2 + 1) ≡ nat_le 2 d
locked_by_others d = elim (cases_Bool (nat_le 2 d)) [
  | inl high ↦ let two : 2 ≤ d = leb-true 2 d high in le-leb 2 (d / 2 * 2 + 1) (omega (arith, two)) ∙ sym high
  | inr low ↦ let less : d < 2 = leb-false 2 d low in lt-leb 2 (d / 2 * 2 + 1) (omega (arith, less)) ∙ sym low
]

pub locked_after : (command : Command) (flags : Flags) → is_locked (flags_after command flags) ≡ is_locked flags
locked_after (c.ReadOnly volume) flags = ap (λ b. b || nat_le 4 flags.md_ro) (locked_by_others flags.data_ro)
locked_after _ flags = refl

-- what is read-only stays so
pub read_only_stays : (command : Command) (flags : Flags) → is_read_only flags ≡ true
    → is_read_only (flags_after command flags) ≡ true
read_only_stays (c.ReadOnly volume) flags is = read_only_is_on flags
read_only_stays _ flags is = is

pub clear_after : (command : Command) (flags : Flags) → without_bit_1 flags.invalid ≡ flags.invalid
    → without_bit_1 (flags_after command flags).invalid ≡ (flags_after command flags).invalid
clear_after (c.ReadOnly volume) flags is = is
clear_after _ flags is = is

-- no fault of metadata comes of it
pub faultless_after : (command : Command) (fixed clusters : ℕ) (m : Meta) → meta_fault fixed clusters m ≡ None
    → meta_fault fixed clusters (record m { flags = flags_after command m.flags }) ≡ None
faultless_after (c.ReadOnly volume) fixed clusters m none = none
faultless_after _ fixed clusters m none = none
