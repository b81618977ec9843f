-- One turn of the reading.
use Rattle.std.proofs.Common.{◌≡◌, ℕ, suc, ◌+◌, ◌-◌, ◌<◌, ◌≤◌, List, [], ◌∷◌, ◌++◌, length, take, drop, get_or, Some}
use Rattle.std.proofs.Common.{None, refl, sym, ap, subst, ◌∙◌, append_assoc, arith}
use Rattle.std.proofs.lemmas.List.{length-take-le, length-drop, drop-drop, get_or-drop, append-nil}
use Rattle.byteorder.specs.Endian.{little_number}
use Rattle.volume_model.specs.declared.lists.SlotRun.{SlotRun}
use Rattle.descriptors.specs.declared.item.Item.{Item}
use Rattle.page_fields.specs.Fields.{number}
use Rattle.descriptors.specs.Numbers.{number_from}
use Rattle.descriptors.specs.Rows.{spelled_runs, row}
use Rattle.descriptors.specs.Grammar.{Descriptor, Spells, short, ends, padding, adds, Spoils, past, bad, after_padding}
use Rattle.descriptors.specs.Grammar.{after_item}

-- a number within what is left is one of the whole
pub number_from-drop : (n i j : ℕ) (b : List ℕ) → number_from i n (drop j b) ≡ number_from (j + i) n b
unfolding number_from number
number_from-drop n i j b = ap (little_number n) (drop-drop i j b)

-- ---- runs

-- for the loop of `runs_of_bytes`: the next run is read
pub one_run : (runs : List SlotRun) (count i : ℕ) (rest : List ℕ) (all : List SlotRun) → i < count
    → runs ++ spelled_runs (count - i) rest ≡ all
    → (runs ++ record { cluster = number_from 0 4 rest; length = number_from 4 4 rest } ∷ [])
    ++ spelled_runs (count - (i + 1)) (drop 8 rest) ≡ all
one_run runs count i rest all lt h =
    let k : count - i ≡ suc (count - (i + 1)) = omega arith in
    append_assoc runs _ _ ∙ sym (ap (λ (n : ℕ). runs ++ spelled_runs n rest) k) ∙ h

-- ---- items

-- a head at a place, and the bytes that it counts
pub reads_head : (b : List ℕ) (at kind size : ℕ) (body : List ℕ) → kind ≡ get_or b at 0
    → size ≡ number_from (at + 1) 4 b → at + 5 + size ≤ length b → body ≡ take size (drop (at + 5) b)
    → Descriptor (drop at b) kind body (drop (at + 5 + size) b)
reads_head b at kind size body kind-is size-is fits body-is =
    let all : length (drop at b) ≡ length b - at = length-drop at b in
    let len : length body ≡ size = ap length body-is
    ∙ length-take-le size (drop (at + 5) b) (omega (arith, length-drop (at + 5) b)) in
    record {
      head = omega arith;
      fits = omega arith;
      kind_is = kind-is ∙ ap (λ (i : ℕ). get_or b i 0) (omega arith) ∙ sym (get_or-drop at b 0 0);
      size_is = len ∙ size-is ∙ sym (number_from-drop 4 1 at b);
      body_is = body-is ∙ ap (λ (n : ℕ). take n (drop (at + 5) b)) (sym len)
          ∙ ap (take (length body)) (sym (drop-drop 5 at b));
      rest_is = ap (λ (n : ℕ). drop n b) (omega arith) ∙ sym (drop-drop (5 + length body) at b);
    }

-- whatever the rest spells completes the items
abbrev pub ItemsComplete : List ℕ → ℕ → List Item → Type 0
ItemsComplete b at items = (more : List Item) → Spells (drop at b) more → Spells b (items ++ more)

-- where the rest is spoilt, the body is
abbrev pub Spoilt : List ℕ → ℕ → Type 0
Spoilt b at = (p k : ℕ) → Spoils (drop at b) p k → Spoils b (at + p) k

-- where nothing more is spelled, the items so far are all
pub ended : (b : List ℕ) (at : ℕ) (items : List Item) → ItemsComplete b at items → Spells (drop at b) []
    → Spells b items
ended b at items h s = subst (Spells b) (append-nil items) (h [] s)

-- fewer than five bytes end a body
pub at_end : (b : List ℕ) (at : ℕ) (items : List Item) → ItemsComplete b at items → length b < at + 5 → Spells b items
at_end b at items h lt = ended b at items h (short (drop at b) (omega (arith, length-drop at b)))

-- a padding descriptor of no length ends a body
pub at_terminator : (b : List ℕ) (at kind size : ℕ) (items : List Item) → ItemsComplete b at items → at + 5 ≤ length b
    → kind ≡ get_or b at 0 → size ≡ number_from (at + 1) 4 b → kind ≡ 0 → size ≡ 0 → Spells b items
at_terminator b at kind size items h in_body kind-is size-is zero-kind zero-size =
    let d : Descriptor (drop at b) 0 [] (drop (at + 5 + 0) b) =
    reads_head b at 0 0 [] (sym zero-kind ∙ kind-is) (sym zero-size ∙ size-is) (omega arith) refl in
    ended b at items h (ends (drop at b) [] _ d refl)

-- reading goes on over an item
pub over_item : (b : List ℕ) (at kind size : ℕ) (body : List ℕ) (items : List Item) (item : Item)
    → ItemsComplete b at items → 0 < kind → row kind body ≡ Some item
    → Descriptor (drop at b) kind body (drop (at + 5 + size) b) → ItemsComplete b (at + 5 + size) (items ++ item ∷ [])
over_item b at kind size body items item h lt is d more s =
    subst (Spells b) (sym (append_assoc items (item ∷ []) more))
    (h (item ∷ more) (adds (drop at b) kind body _ item more d lt is s))

-- reading goes on over padding
pub over_padding : (b : List ℕ) (at size : ℕ) (body : List ℕ) (items : List Item) → ItemsComplete b at items
    → 0 < length body
    → Descriptor (drop at b) 0 body (drop (at + 5 + size) b) → ItemsComplete b (at + 5 + size) items
over_padding b at size body items h lt d more s = h more (padding (drop at b) body _ more d lt s)

further : (b : List ℕ) (at size p k : ℕ) (body : List ℕ) → length body ≡ size → Spoilt b at
    → Spoils (drop at b) (5 + length body + p) k → Spoils b (at + 5 + size + p) k
further b at size p k body len h s = let place : at + (5 + length body + p) ≡ at + 5 + size + p = omega arith in
    subst (λ (q : ℕ). Spoils b q k) place (h (5 + length body + p) k s)

-- a fault behind an item is one of the body
pub spoilt_over_item : (b : List ℕ) (at kind size : ℕ) (body : List ℕ) (item : Item) → Spoilt b at → 0 < kind
    → row kind body ≡ Some item → length body ≡ size
    → Descriptor (drop at b) kind body (drop (at + 5 + size) b) → Spoilt b (at + 5 + size)
spoilt_over_item b at kind size body item h lt is len d p k s =
    further b at size p k body len h (after_item (drop at b) kind body _ item p k d lt is s)

-- a fault behind padding is one of the body
pub spoilt_over_padding : (b : List ℕ) (at size : ℕ) (body : List ℕ) → Spoilt b at → 0 < length body
    → length body ≡ size
    → Descriptor (drop at b) 0 body (drop (at + 5 + size) b) → Spoilt b (at + 5 + size)
spoilt_over_padding b at size body h lt len d p k s =
    further b at size p k body len h (after_padding (drop at b) body _ p k d lt s)

spoilt_here : (b : List ℕ) (at kind : ℕ) → Spoilt b at → Spoils (drop at b) 0 kind → Spoils b at kind
spoilt_here b at kind h s = let place : at + 0 ≡ at = omega arith in
    subst (λ (q : ℕ). Spoils b q kind) place (h 0 kind s)

-- a descriptor whose bytes say no item is the first fault
pub spoilt_by_row : (b : List ℕ) (at kind size : ℕ) (body : List ℕ) → Spoilt b at → 0 < kind → row kind body ≡ None
    → Descriptor (drop at b) kind body (drop (at + 5 + size) b) → Spoils b at kind
spoilt_by_row b at kind size body h lt is d = spoilt_here b at kind h (bad (drop at b) kind body _ d lt is)

-- a descriptor that reaches past the end is the first fault
pub spoilt_by_size : (b : List ℕ) (at kind size : ℕ) → Spoilt b at → at + 5 ≤ length b → kind ≡ get_or b at 0
    → size ≡ number_from (at + 1) 4 b → length b < at + 5 + size → Spoils b at kind
spoilt_by_size b at kind size h in_body kind-is size-is lt =
    let all : length (drop at b) ≡ length b - at = length-drop at b in
    let size-at : number_from 1 4 (drop at b) ≡ size = number_from-drop 4 1 at b ∙ sym size-is in
    let first : get_or (drop at b) 0 0 ≡ kind = get_or-drop at b 0 0 ∙ ap (λ (i : ℕ). get_or b i 0) (omega arith)
    ∙ sym kind-is in
    spoilt_here b at kind h (subst (λ (q : ℕ). Spoils (drop at b) 0 q) first
    (past (drop at b) (omega arith) (omega arith)))
