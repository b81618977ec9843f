-- Counting the slots that have a cluster, slot by slot and head by head.
use Rattle.std.proofs.Common.{◌≡◌, ℕ, ◌+◌, ◌<◌, ◌≤◌, Bool, true, List, [], ◌∷◌, ◌++◌, length, take, drop, get_or}
use Rattle.std.proofs.Common.{Option, Some, None, refl, ap, subst, ◌∙◌, arith}
use Rattle.std.specs.Option.{option_map_or}
use Rattle.std.proofs.Math.Path.{fun_ext}
use Rattle.std.proofs.lemmas.Bool.{eq-eqb}
use Rattle.std.proofs.lemmas.List.{take_more, take-append-drop}
use Rattle.std.proofs.lemmas.List.Sums.{sum_by-append}
use Rattle.bit_array.specs.Bits.{is_in}
use Rattle.blob_meta.specs.declared.meta.Meta.{Meta}
use Rattle.store_model.specs.Maps.{Metas}
use Rattle.unclean_load.specs.Sharing.{copies_in, copies, AreCounted, AreInside}
use Rattle.unclean_load.proofs.Sums.{sum_more, sum_grows}

-- ---- one map

abbrev one : ℕ → Option ℕ → ℕ
one c slot = copies_in c (slot ∷ [])

-- how often a cluster stands in one slot more
pub copies_more : (c : ℕ) (slots : List (Option ℕ)) (i : ℕ) (d : Option ℕ) → i < length slots
    → copies_in c (take (i + 1) slots) ≡ copies_in c (take i slots) + one c (get_or slots i d)
copies_more c slots i d lt =
    ap (copies_in c) (take_more slots i d lt) ∙ sum_by-append _ (take i slots) (get_or slots i d ∷ [])

-- in the first slots it stands no more often than in all
pub copies_part : (c : ℕ) (slots : List (Option ℕ)) (i : ℕ) → copies_in c (take i slots) ≤ copies_in c slots
copies_part c slots i =
    let x = ap (copies_in c) (take-append-drop i slots) in
    let y : copies_in c (take i slots ++ drop i slots) ≡ copies_in c (take i slots) + copies_in c (drop i slots) =
    sum_by-append _ (take i slots) (drop i slots) in
    omega (arith, x, y)

-- a cluster that is in a slot is counted
pub some_copy : (c : ℕ) (slots : List (Option ℕ)) (i : ℕ) (d : Option ℕ) → i < length slots → get_or slots i d ≡ Some c
    → 0 < copies_in c slots
some_copy c slots i d lt is =
    let x = copies_more c slots i d lt in
    let y = copies_part c slots (i + 1) in
    let z : one c (get_or slots i d) ≡ 1 = ap (one c) is ∙ here in
    omega (arith, x, y, z)
  where
    here : one c (Some c) ≡ 1
    here = rw (eq-eqb c c refl) refl

-- an empty slot adds nothing
pub no_copy : (c : ℕ) (slots : List (Option ℕ)) (i : ℕ) (d : Option ℕ) → i < length slots → get_or slots i d ≡ None
    → copies_in c (take (i + 1) slots) ≡ copies_in c (take i slots)
no_copy c slots i d lt is =
    let x = copies_more c slots i d lt in let z : one c (get_or slots i d) ≡ 0 = ap (one c) is in omega (arith, x, z)

-- ---- a set of clusters that are counted

-- counts that are the same are of the same claims
pub counted_same : (fixed : ℕ) (f g : ℕ → ℕ) (bits : List Bool) (twice : Option ℕ) → ((c : ℕ) → f c ≡ g c)
    → AreCounted fixed f bits twice → AreCounted fixed g bits twice
counted_same fixed f g bits twice same x = subst (λ (h : ℕ → ℕ). AreCounted fixed h bits twice) (fun_ext same) x

-- what one map's slots so far have added to what was counted before
abbrev pub Adding : (old bits : List Bool) (first twice : Option ℕ) → List (Option ℕ) → ℕ → Type 0
Adding old bits first twice slots i =
    (fixed : ℕ) (count : ℕ → ℕ) → AreInside fixed (length old) slots → AreCounted fixed count old first
    → AreCounted fixed (λ c. count c + copies_in c (take i slots)) bits twice

-- an empty slot leaves the claims of a map as they were
pub adds_same : (old bits : List Bool) (first twice : Option ℕ) (slots : List (Option ℕ)) (i : ℕ) (d : Option ℕ)
    → i < length slots → get_or slots i d ≡ None → Adding old bits first twice slots i
    → Adding old bits first twice slots (i + 1)
adds_same old bits first twice slots i d lt is a fixed count inside x =
    counted_same fixed _ _ bits twice (λ c. let e = no_copy c slots i d lt is in omega (arith, e))
    (a fixed count inside x)

-- a slot with a cluster adds one claim
pub adds_one : (old bits : List Bool) (first twice : Option ℕ) (slots : List (Option ℕ)) (i : ℕ) (d : Option ℕ)
    (cluster : ℕ) (new : List Bool) (least : Option ℕ) → i < length slots → get_or slots i d ≡ Some cluster
    → ((fixed : ℕ) (count : ℕ → ℕ) → fixed ≤ cluster → AreCounted fixed count bits twice
    → AreCounted fixed (λ c. count c + copies_in c (Some cluster ∷ [])) new least)
    → Adding old bits first twice slots i → Adding old new first least slots (i + 1)
adds_one old bits first twice slots i d cluster new least lt is claim a fixed count inside x =
    counted_same fixed _ _ new least
    (λ c. let e = copies_more c slots i d lt in
    let f : one c (get_or slots i d) ≡ one c (Some cluster) = ap (one c) is in omega (arith, e, f))
    (claim fixed _ (inside cluster (some_copy cluster slots i d lt is)).0 (a fixed count inside x))

-- ---- the fixed clusters alone

-- the clusters below the end are claimed, and no other
pub record Filled (clusters : ℕ) (bits : List Bool) (end : ℕ) : Type 0 where
  pub count : length bits ≡ clusters
  pub first : (c : ℕ) → c < end → is_in bits c ≡ true
  pub no_other : (c : ℕ) → is_in bits c ≡ true → c < end

-- ---- head by head

-- a cluster's copies with the map of one head more
pub copies_next : (metas : Metas) (cluster head : ℕ)
    → copies (head + 1) metas cluster ≡ copies head metas cluster + option_map_or
    (λ (m : Meta). copies_in cluster m.map) (metas head) 0
copies_next metas cluster head = sum_more (λ h. option_map_or (λ (m : Meta). copies_in cluster m.map) (metas h) 0) head

-- a place without blob adds none
pub copies_none : (metas : Metas) (cluster head : ℕ) → metas head ≡ None
    → copies (head + 1) metas cluster ≡ copies head metas cluster
copies_none metas cluster head none =
    let x =
    copies_next metas cluster head in let y =
    ap (λ (o : Option Meta). option_map_or (λ (m : Meta). copies_in cluster m.map) o 0) none in omega (arith, x, y)

-- a blob adds those of its map
pub copies_some : (metas : Metas) (cluster head : ℕ) (m : Meta) → metas head ≡ Some m
    → copies (head + 1) metas cluster ≡ copies head metas cluster + copies_in cluster m.map
copies_some metas cluster head m there =
    let x =
    copies_next metas cluster head in let y =
    ap (λ (o : Option Meta). option_map_or (λ (m : Meta). copies_in cluster m.map) o 0) there in omega (arith, x, y)

-- more heads have no fewer copies
pub copies_grow : (metas : Metas) (cluster a b : ℕ) → a ≤ b → copies a metas cluster ≤ copies b metas cluster
copies_grow metas cluster a b le =
    sum_grows (λ h. option_map_or (λ (m : Meta). copies_in cluster m.map) (metas h) 0) a b le
