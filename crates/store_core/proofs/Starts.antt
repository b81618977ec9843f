-- What the loops of a start have made so far.
use Rattle.std.proofs.Common.{◌≡◌, ℕ, zero, suc, ◌+◌, ◌<◌, ◌≤◌, Bool, true, false, cond, List, [], ◌∷◌, ◌++◌, length}
use Rattle.std.proofs.Common.{Some, None, refl, sym, ◌∙◌, ap, subst, ◌⊎◌, arith, inl, inr, length-append, ◌≢◌}
use Rattle.std.specs.Prelude.{is_some, IsSome, nat_lt, replicate, slice_index_or, slice_set}
use Rattle.std.specs.Option.{option_map}
use Rattle.std.specs.Ordering.{nat_cmp}
use Rattle.std.specs.Cmp.{nat_cmp_total}
use Rattle.std.specs.FinMap as map
use Rattle.std.specs.FinSet as set
use Rattle.std.proofs.Math.Path.{fun_ext}
use Rattle.store_model.specs.Guarding.{AreGenerations}
use Rattle.store_model.proofs.Guarding.{one_more_numbered}
use Rattle.std.proofs.lemmas.Bool.{cases_eq, cases_lt, le-ltb, lt-ltb}
use Rattle.std.proofs.lemmas.List.{get_or_append_left, get_or_past, get_or_push, get_or-set_other}
use Rattle.volume_model.specs.Xattrs.{Xattrs}
use Rattle.volume_model.specs.declared.command.Command.{Command}
use Rattle.blob_meta.specs.declared.meta.Meta.{Meta}
use Rattle.io_freeze.specs.Guards.{GuardsState, no_guards, renewed}
use Rattle.store_model.specs.Maps.{Map, Metas, with_entry}
use Rattle.volume_model.specs.declared.reply.Entry.{Entry}
use Rattle.store_model.specs.Filling.{unused_row}
use Rattle.store_model.specs.Rows.{entries_of, fill_row, Row, Idle, Ended}
use Rattle.store_model.proofs.WithEntry.{given_here, given_elsewhere}
use Rattle.store_core.specs.Opening.{AreRows, IsLiveAtStart, row_at_start}
use Rattle.store_core.specs.Removing.{those_below}
use Rattle.running_store.specs.StoreView.{rows_of}
use Rattle.running_store.proofs.Maps.{insert_given}

-- the live attributes of the blobs whose heads are below this
pub record LiveBelow (metas : map.FinMap nat_cmp Meta) (live : map.FinMap nat_cmp Xattrs) (end : ℕ) : Type 0 where
  pub below : (h : ℕ) → h < end → map.get live h ≡ option_map (λ m. m.xattrs) (map.get metas h)
  pub none : (h : ℕ) → end ≤ h → map.get live h ≡ None

module _ (metas : map.FinMap nat_cmp Meta) (live : map.FinMap nat_cmp Xattrs) (end : ℕ)
    (so_far : LiveBelow metas live end) where
  pub live_some : (m : Meta) → map.get metas end ≡ Some m → LiveBelow metas (map.insert live end m.xattrs) (end + 1)
  live_some m is = record {
    below = λ h lt. ap (λ f. f h) (insert_given live end m.xattrs) ∙ elim (cases_eq h end) [
      | inl e ↦ given_here (map.get live) end m.xattrs h e
          ∙ sym (ap (λ o. option_map (λ (x : Meta). x.xattrs) o) (ap (map.get metas) e ∙ is))
      | inr ne ↦ given_elsewhere (map.get live) end m.xattrs h ne ∙ so_far.below h (omega (arith, lt, ne))
    ];
    none = λ h ge. ap (λ f. f h) (insert_given live end m.xattrs)
        ∙ given_elsewhere (map.get live) end m.xattrs h (λ e. omega (arith, e, ge)) ∙ so_far.none h (omega (arith, ge));
  }

  pub live_none : map.get metas end ≡ None → LiveBelow metas live (end + 1)
  live_none is = record {
    below = λ h lt. elim (cases_eq h end) [
      | inl e ↦ ap (map.get live) e ∙ so_far.none end (omega arith)
          ∙ sym (ap (λ o. option_map (λ (x : Meta). x.xattrs) o) (ap (map.get metas) e ∙ is))
      | inr ne ↦ so_far.below h (omega (arith, lt, ne))
    ];
    none = λ h ge. so_far.none h (omega (arith, ge));
  }

  pub live_all : ((h : ℕ) → end ≤ h → map.get metas h ≡ None) → IsLiveAtStart metas live
  live_all none h = elim (cases_lt h end) [
    | inl lt ↦ so_far.below h lt
    | inr ge ↦ so_far.none h ge ∙ sym (ap (λ o. option_map (λ (x : Meta). x.xattrs) o) (none h ge))
  ]

pub live_nothing : (metas : map.FinMap nat_cmp Meta) → LiveBelow metas map.empty 0
live_nothing metas = record { below = λ h lt. absurd (omega (arith, lt)); none = λ h ge. map.get-empty nat_cmp h }

module _ (metas : Metas) (end : ℕ) where
  pub below_in : (h : ℕ) → h < end → those_below metas end h ≡ metas h
  below_in h lt = rw (lt-ltb h end lt) refl

  pub below_past : (h : ℕ) → end ≤ h → those_below metas end h ≡ None
  below_past h ge = rw (le-ltb h end ge) refl

module _ (metas : Metas) (end : ℕ) where
  pub next_here : those_below metas (end + 1) end ≡ metas end
  next_here = below_in metas (end + 1) end (omega arith)

  pub next_other : (h : ℕ) → h ≢ end → those_below metas (end + 1) h ≡ those_below metas end h
  next_other h ne = elim (cases_lt h end) [
    | inl lt ↦ below_in metas (end + 1) h (omega (arith, lt)) ∙ sym (below_in metas end h lt)
    | inr ge ↦ below_past metas (end + 1) h (omega (arith, ge, ne)) ∙ sym (below_past metas end h ge)
  ]

  pub next_none : metas end ≡ None → those_below metas (end + 1) ≡ those_below metas end
  next_none none = fun_ext (λ h. elim (cases_eq h end) [
    | inl e ↦ ap (those_below metas (end + 1)) e ∙ next_here ∙ none ∙ sym (below_past metas end end (omega arith))
        ∙ ap (those_below metas end) (sym e)
    | inr ne ↦ next_other h ne
  ])

-- the guards of the blobs whose heads are below this
pub record GuardsBelow (metas : Metas) (guards : GuardsState) (heads end : ℕ) : Type 0 where
  pub room : heads ≤ guards.room
  pub few : map.len guards.generations ≤ end
  pub drawn : guards.drawn ≤ end
  pub none : (h : ℕ) → end ≤ h → map.get guards.generations h ≡ None
  pub generations : AreGenerations (those_below metas end) (map.get guards.generations) guards.drawn
  pub none_frozen : (h : ℕ) → set.contains guards.frozen h ≡ false

pub guards_nothing : (metas : Metas) (heads room : ℕ) → heads ≤ room
    → GuardsBelow metas (no_guards room) heads 0
guards_nothing metas heads room le = record {
  room = le;
  few = omega (arith, map.len-empty nat_cmp ℕ);
  drawn = omega arith;
  none = λ h ge. map.get-empty nat_cmp h;
  generations = record {
    each = λ h. ap is_some (map.get-empty nat_cmp h) ∙ sym (ap is_some (below_past metas 0 h (omega arith)));
    low = λ h number is. absurd (let bad = sym (map.get-empty nat_cmp h) ∙ is in cc bad);
    differ = λ h k number is too. absurd (let bad = sym (map.get-empty nat_cmp h) ∙ is in cc bad);
  };
  none_frozen = λ h. set.contains-empty nat_cmp h;
}

module _ (metas : Metas) (guards : GuardsState) (room end : ℕ)
    (so_far : GuardsBelow metas guards room end) where
  pub guards_same : metas end ≡ None → GuardsBelow metas guards room (end + 1)
  guards_same is = record {
    room = so_far.room;
    few = omega (arith, so_far.few);
    drawn = omega (arith, so_far.drawn);
    none = λ h ge. so_far.none h (omega (arith, ge));
    generations = subst (λ (base : Metas). AreGenerations base (map.get guards.generations) guards.drawn)
        (sym (next_none metas end is)) so_far.generations;
    none_frozen = so_far.none_frozen;
  }

  more : (has : Bool) (n : ℕ) {m : ℕ} → m ≡ cond has n (n + 1) → n ≤ end → m ≤ end + 1
  more true n e le = omega (arith, e, le)
  more false n e le = omega (arith, e, le)

  pub guards_more : IsSome (metas end) → GuardsBelow metas (renewed guards end) room (end + 1)
  guards_more some = record {
    room = so_far.room;
    few = more (map.contains_key guards.generations end) (map.len guards.generations)
        (map.len-insert nat_cmp_total guards.generations end (guards.drawn + 1)) so_far.few;
    drawn = omega (arith, so_far.drawn);
    none = λ h ge. ap (λ f. f h) given
        ∙ given_elsewhere (map.get guards.generations) end (guards.drawn + 1) h (λ e. omega (arith, e, ge))
        ∙ so_far.none h (omega (arith, ge));
    generations =
        subst (λ (g : Map ℕ). AreGenerations (those_below metas (end + 1)) g (guards.drawn + 1)) (sym given)
        (one_more_numbered (those_below metas end) (those_below metas (end + 1)) end
        (map.get guards.generations) guards.drawn
        (subst IsSome (sym (next_here metas end)) some)
        (λ h ne. ap is_some (next_other metas end h ne)) so_far.generations);
    none_frozen = so_far.none_frozen;
  }
    where
      given : map.get (map.insert guards.generations end (guards.drawn + 1))
          ≡ with_entry (map.get guards.generations) end (guards.drawn + 1)
      given = insert_given guards.generations end (guards.drawn + 1)

-- the rows of the channels below this, and the script that is left
pub record RowsBelow (script left : List (List Command)) (channels : ℕ) (rows : List Row) (end : ℕ) : Type 0 where
  pub count : length rows ≡ end
  pub each : (c : ℕ) → c < end → rows_of rows c ≡ row_at_start script channels c
  pub rest : (c : ℕ) → end ≤ c → slice_index_or left c [] ≡ slice_index_or script c []

pub rows_more : (script left : List (List Command)) (channels : ℕ) (rows : List Row) (end : ℕ) (row : Row)
    → RowsBelow script left channels rows end → row ≡ row_at_start script channels end
    → RowsBelow script (slice_set left end []) channels (rows ++ row ∷ []) (end + 1)
rows_more script left channels rows end row x is = record {
  count = length-append rows (row ∷ []) ∙ omega (arith, x.count);
  each = λ c lt. elim (cases_lt c end) [
    | inl below ↦ get_or_append_left rows (row ∷ []) (record { left = []; stage = Ended; claim = None }) c
        (subst (λ n. c < n) (sym x.count) below) ∙ x.each c below
    | inr ge ↦
        let e : c ≡ end = omega (arith, lt, ge) in
        get_or_push rows row (record { left = []; stage = Ended; claim = None }) c (x.count ∙ sym e) ∙ is
        ∙ ap (row_at_start script channels) (sym e)
  ];
  rest = λ c ge. get_or-set_other left end c [] [] (λ e. omega (arith, e, ge)) ∙ x.rest c (omega (arith, ge));
}

pub rows_nothing : (script : List (List Command)) (channels : ℕ) → RowsBelow script script channels [] 0
rows_nothing script channels = record { count = refl; each = λ c lt. absurd (omega (arith, lt)); rest = λ c ge. refl }

pub row_with : (script : List (List Command)) (channels channel : ℕ) (left : List Command)
    → nat_lt channel channels ≡ true → left ≡ slice_index_or script channel []
    → record { left = left; stage = Idle; claim = None } ≡ row_at_start script channels channel
row_with script channels channel left inside is =
    ap (λ (l : List Command). record { left = l; stage = Idle; claim = None }) is
    ∙ sym (ap (λ (b : Bool). cond b (record { left = slice_index_or script channel []; stage = Idle; claim = None })
    (record { left = []; stage = Ended; claim = None })) inside)

pub row_past : (script : List (List Command)) (channels channel : ℕ) → nat_lt channel channels ≡ false
    → record { left = []; stage = Ended; claim = None } ≡ row_at_start script channels channel
row_past script channels channel past =
    sym (ap (λ (b : Bool). cond b (record { left = slice_index_or script channel []; stage = Idle; claim = None })
    (record { left = []; stage = Ended; claim = None })) past)

-- the fill's row behind those of all channels
pub rows_all : (script left : List (List Command)) (channels : ℕ) (rows : List Row) (row : Row) → channels ≤ 16
    → RowsBelow script left channels rows 16 → row ≡ unused_row
    → ((channel : ℕ) → channels ≤ channel → slice_index_or script channel [] ≡ [])
    → AreRows script (rows ++ row ∷ [])
rows_all script left channels rows row few x is above = record {
  channels = channels;
  few = few;
  seventeen = length-append rows (row ∷ []) ∙ omega (arith, x.count);
  each = λ c low. get_or_append_left rows (row ∷ []) (record { left = []; stage = Ended; claim = None }) c
      (subst (λ n. c < n) (sym x.count) low) ∙ x.each c low;
  fill = get_or_push rows row (record { left = []; stage = Ended; claim = None }) fill_row x.count ∙ is;
  above = λ c past. elim (cases_lt c channels) [
    | inl lt ↦ absurd (let bad = sym (lt-ltb c channels lt) ∙ past in cc bad)
    | inr ge ↦ above c ge
  ];
}

-- a row waits at the start, or has ended, and holds no claim
record IsAtRest (row : Row) : Type 0 where
  waits : (row.stage ≡ Idle) ⊎ (row ≡ record { left = []; stage = Ended; claim = None })
  unclaimed : row.claim ≡ None

module _ (script : List (List Command)) (rows : List Row) (are : AreRows script rows) where
  by_channel : (channel : ℕ) (inside : Bool)
      → cond inside (record { left = slice_index_or script channel []; stage = Idle; claim = None })
      (record { left = []; stage = Ended; claim = None }) ≡ rows_of rows channel → IsAtRest (rows_of rows channel)
  by_channel channel true is = record {
    waits = inl (sym (ap (λ (r : Row). r.stage) is));
    unclaimed = sym (ap (λ (r : Row). r.claim) is);
  }
  by_channel channel false is = record { waits = inr (sym is); unclaimed = sym (ap (λ (r : Row). r.claim) is) }

  at_rest : (channel : ℕ) → IsAtRest (rows_of rows channel)
  at_rest channel = elim (cases_lt channel 16) [
    | inl low ↦ by_channel channel (nat_lt channel are.channels) (sym (are.each channel low))
    | inr high ↦ elim (cases_eq channel fill_row) [
      | inl e ↦ subst (λ n. IsAtRest (rows_of rows n)) (sym e)
          (subst IsAtRest (sym are.fill) (record { waits = inl refl; unclaimed = refl }))
      | inr ne ↦
          let count = are.seventeen in
          let past = get_or_past rows channel (record { left = []; stage = Ended; claim = None })
          (omega (arith, count, high, ne)) in
          subst IsAtRest (sym past) (record { waits = inr refl; unclaimed = refl })
    ]
  ]

  pub rows_wait : (channel : ℕ) → ((rows_of rows channel).stage ≡ Idle)
      ⊎ (rows_of rows channel ≡ record { left = []; stage = Ended; claim = None })
  rows_wait channel = (at_rest channel).waits

  pub rows_unclaimed : (channel : ℕ) → (rows_of rows channel).claim ≡ None
  rows_unclaimed channel = (at_rest channel).unclaimed

zeros : (n i : ℕ) → ◌≡◌ {A = ℕ} (slice_index_or (replicate n 0) i 0) 0
zeros zero i = refl
zeros (suc n) zero = refl
zeros (suc n) (suc i) = zeros n i

-- no entry is counted of an empty log
pub none_counted : (channel : ℕ) (log : List Entry) → log ≡ []
    → slice_index_or (replicate 16 0) channel 0 ≡ length (entries_of channel log)
none_counted channel log is =
    zeros 16 channel ∙ sym (ap (λ (l : List Entry). length (entries_of channel l)) is)
