-- How the text of a schedule is read, byte by byte.
use Rattle.std.specs.Prelude.{◌≡◌, ℕ, ◌+◌, ◌-◌, ◌*◌, ◌≤◌, ◌^◌, ◌==◌, nat_lt, nat_le, ◌&&◌, if◌then◌else◌, Bool, true}
use Rattle.std.specs.Prelude.{false, List, [], ◌∷◌, ◌++◌, length, Option, Some, None}
use Rattle.std.specs.Option.{option_and_then}
use Rattle.script_lang.specs.declared.schedule.Actor.{Actor}
use Rattle.script_lang.specs.declared.schedule.Actor.TheVariants.{Channel, Metadata}
use Rattle.script_lang.specs.declared.reading.Place.{Place}
use Rattle.script_lang.specs.declared.reading.Place.TheVariants.{Start, Named, Times}
use Rattle.script_lang.specs.declared.reading.Reading.{Reading}
use Rattle.script_lang.specs.Schedules.{repeated}

abbrev pub reading : List Actor → List Actor → Place → Reading
reading schedule actors place = record { schedule = schedule; actors = actors; place = place }

-- whether steps are at most 65,536
abbrev pub fits : ℕ → Bool
fits steps = nat_le steps (2 ^ 16)

abbrev pub is_digit : ℕ → Bool
is_digit b = nat_le 48 b && nat_le b 57

-- `1` may go on to 10 to 15
abbrev pub goes_on_as_number : Actor → ℕ → Bool
goes_on_as_number (Channel channel) b = (channel == 1) && (nat_le 48 b && nat_le b 53)
goes_on_as_number Metadata b = false

-- the first byte of an actor
abbrev pub after_start : List Actor → List Actor → ℕ → Option Reading
after_start schedule actors b =
    if b == 109 then Some (reading schedule actors (Named Metadata))
    else (if is_digit b then Some (reading schedule actors (Named (Channel (b - 48)))) else None)

-- a byte after an actor
abbrev pub after_actor : List Actor → List Actor → Actor → ℕ → Option Reading
after_actor schedule actors actor b =
    if b == 43 then
    (if fits (length schedule + length actors + 2) then Some (reading schedule (actors ++ actor ∷ []) Start) else None)
    else (if b == 42 then Some (reading schedule (actors ++ actor ∷ []) (Times 0))
    else (if goes_on_as_number actor b then Some (reading schedule actors (Named (Channel (b - 38)))) else None))

-- a further digit of a count
abbrev pub with_count : List Actor → List Actor → ℕ → Option Reading
with_count schedule actors n =
    if nat_le 1 n && nat_le n (2 ^ 16) && fits (length schedule + n * length actors)
    then Some (reading schedule actors (Times n)) else None

abbrev pub after_count : List Actor → List Actor → ℕ → ℕ → Option Reading
after_count schedule actors n b = if is_digit b then with_count schedule actors (n * 10 + (b - 48)) else None

-- the steps of what was read, where the text may end here
abbrev pub ended_at : List Actor → List Actor → Place → Option (List Actor)
ended_at schedule actors Start = None
ended_at schedule actors (Named actor) = Some (schedule ++ repeated 1 (actors ++ actor ∷ []))
ended_at schedule actors (Times n) = if nat_le 1 n then Some (schedule ++ repeated n actors) else None

abbrev pub ended : Reading → Option (List Actor)
ended r = ended_at r.schedule r.actors r.place

-- a comma: a part more
abbrev pub with_comma : List Actor → Option Reading
with_comma steps = if nat_lt (length steps) (2 ^ 16) then Some (reading steps [] Start) else None

-- a byte within a part
abbrev pub within_part : List Actor → List Actor → Place → ℕ → Option Reading
within_part schedule actors Start b = after_start schedule actors b
within_part schedule actors (Named actor) b = after_actor schedule actors actor b
within_part schedule actors (Times n) b = after_count schedule actors n b

-- how the reading goes on after a byte; none where no schedule goes on so
abbrev pub reading_after : Reading → ℕ → Option Reading
reading_after r b =
    if b == 44 then option_and_then with_comma (ended r) else within_part r.schedule r.actors r.place b

-- what was read leaves room for what must follow
abbrev pub HasRoomAt : List Actor → List Actor → Place → Type 0
HasRoomAt schedule actors Start = length schedule + length actors + 1 ≤ 2 ^ 16
HasRoomAt schedule actors (Named actor) = length schedule + length actors + 1 ≤ 2 ^ 16
HasRoomAt schedule actors (Times n) =
    (1 ≤ length actors) × (length schedule + length actors ≤ 2 ^ 16) × (n ≤ 2 ^ 16)
    × (length schedule + n * length actors ≤ 2 ^ 16)

abbrev pub HasRoom : Reading → Type 0
HasRoom r = HasRoomAt r.schedule r.actors r.place

-- a reading as it goes on, or that it doesn't
abbrev pub ReadsOn : Option Reading → Reading → Bool → Type 0
ReadsOn said r true = said ≡ Some r
ReadsOn said r false = said ≡ None

-- the steps at an end, with an empty part begun, or that there is no end
abbrev pub ReadsToEnd : Option (List Actor) → Reading → Bool → Type 0
ReadsToEnd said r true = (said ≡ Some r.schedule) × (r.actors ≡ []) × (r.place ≡ Start)
ReadsToEnd said r false = said ≡ None
