-- Places that a job takes, and those of a chain.
use Rattle.std.proofs.Common.{◌≡◌, ℕ, suc, ◌+◌, ◌<◌, Bool, true, false, List, [], ◌∷◌, length, get_or}
use Rattle.std.proofs.Common.{nat_eq, All, refl, sym, ◌∙◌, ap, subst, arith, inl, inr}
use Rattle.std.specs.List.{AllByRecursion, IsDistinct}
use Rattle.std.proofs.lemmas.Bool.{cases_Bool, cases_lt, both_ways, ne_eqb}
use Rattle.std.proofs.lemmas.List.{ext_get_or}
use Rattle.bit_array.specs.Bits.{is_in, IsLeastClear}
use Rattle.pools.specs.Pool.{PoolState}
use Rattle.descriptors.specs.declared.item.Item.{Item}
use Rattle.md_chain.specs.Chain.{is_among}
use Rattle.md_chain.specs.Planned.{pages_from}
use Rattle.store_model.specs.Places.{all_set, AreDistinct, AreLeastClear}
use Rattle.store_model.specs.Jobs.{places_of}
use Rattle.store_model.proofs.Sets.{all_set_in, all_set_out, length_all_set, not_first, were_clear, AllBelow}
use Rattle.job_begins.specs.Begins.{behind_in, taken_for, IsFreshHead}
use Rattle.std.specs.Prelude.{◌-◌, if◌then◌else◌}
use Rattle.running_store.proofs.Cleared.{among_get}

-- ---- places that are taken, and clear again

module _ (bits : List Bool) (fresh : List ℕ) (least : AreLeastClear bits fresh) where
  low : AllBelow (length bits) fresh
  low = λ x among. (were_clear bits fresh least x among).below

  in_use : All (λ x. is_in (all_set bits fresh true) x ≡ true) fresh
  in_use k d lt = all_set_in bits fresh true (get_or fresh k d) low (among_get fresh k d lt)

  back : all_set (all_set bits fresh true) fresh false ≡ bits
  back =
      let twice = all_set (all_set bits fresh true) fresh false in
      let long : length twice ≡ length bits =
      length_all_set (all_set bits fresh true) fresh false ∙ length_all_set bits fresh true in
      let low_then : AllBelow (length (all_set bits fresh true)) fresh =
      λ x among. subst (λ n. x < n) (sym (length_all_set bits fresh true)) (low x among) in
      ext_get_or false twice bits long (λ k h. elim (cases_Bool (is_among k fresh)) [
        | inl among ↦ all_set_in (all_set bits fresh true) fresh false k low_then among
            ∙ sym (were_clear bits fresh least k among).clear
        | inr out ↦ all_set_out (all_set bits fresh true) fresh false k out ∙ all_set_out bits fresh true k out
      ])

  -- once they are taken they are in use,
  pub taken_in_use : (now : List Bool) → now ≡ all_set bits fresh true → All (λ x. is_in now x ≡ true) fresh
  taken_in_use now taken = subst (λ (l : List Bool). All (λ x. is_in l x ≡ true) fresh) (sym taken) in_use

  -- and cleared again they leave what was before
  pub clear_again : (now new : List Bool) → now ≡ all_set bits fresh true → new ≡ all_set now fresh false → new ≡ bits
  clear_again now new taken cleared = cleared ∙ ap (λ (l : List Bool). all_set l fresh false) taken ∙ back

-- a pool is its places and its claims
pub same_pool : (p q : PoolState) → p.bits ≡ q.bits → p.claims ≡ q.claims → p ≡ q
same_pool p q bits claims =
    ap (λ (b : List Bool). record { bits = b; claims = p.claims }) bits
    ∙ ap (λ (l : List ℕ). record { bits = q.bits; claims = l }) claims

-- a pool of which places were taken is as it was once they are clear again
pub pool_again : (old new : PoolState) (fresh : List ℕ) → AreLeastClear old.bits fresh → (now : List Bool)
    → now ≡ all_set old.bits fresh true → new.bits ≡ all_set now fresh false → new.claims ≡ old.claims → new ≡ old
pool_again old new fresh least now taken cleared claims =
    same_pool new old (clear_again old.bits fresh least now new.bits taken cleared) claims

-- ---- places of a chain that differ

not_among : (x : ℕ) (ps : List ℕ) → is_among x ps ≡ false → AllByRecursion (λ q. nat_eq x q ≡ false) ps
not_among x [] out = tt
not_among x (p ∷ ps) out =
    let apart = not_first x p ps out in
    (ne_eqb x p apart.0, not_among x ps apart.1)

pub once_each : (ps : List ℕ) → AreDistinct ps → IsDistinct nat_eq ps
unfolding IsDistinct
once_each [] distinct = tt
once_each (p ∷ ps) distinct = (not_among p ps distinct.0, once_each ps distinct.1)

pub places_from : (head n place : ℕ) (fresh : List ℕ) (parts : List (List Item)) → length fresh + 1 ≡ length parts
    → places_of (pages_from head n place fresh parts) ≡ place ∷ fresh
places_from head n place [] [] len = absurd (omega (arith, len))
places_from head n place (q ∷ fresh) [] len = absurd (omega (arith, len))
places_from head n place [] (part ∷ []) len = refl
places_from head n place [] (part ∷ two ∷ parts) len = absurd (omega (arith, len))
places_from head n place (q ∷ fresh) (part ∷ parts) len =
    ap (λ l. place ∷ l) (places_from head (suc n) q fresh parts (omega (arith, len)))

-- ---- the head of a new blob

-- the least place that is clear is one
least_is_one : (bits : List Bool) (a b : ℕ) → IsLeastClear bits a → IsLeastClear bits b → a ≡ b
least_is_one bits a b x y = elim (cases_lt a b) [
  | inl lt ↦ absurd (both_ways (is_in bits a) x.clear (y.below a lt))
  | inr ge ↦ elim (cases_lt b a) [
    | inl lt ↦ absurd (both_ways (is_in bits b) y.clear (x.below b lt))
    | inr le ↦ omega (arith, ge, le)
  ]
]

-- the first place that is taken for a new blob is its head
pub first_is_head : (bits : List Bool) (head place : ℕ) → IsFreshHead bits head → IsLeastClear bits place
    → place ≡ head
first_is_head bits head place (inl least) x = least_is_one bits place head x least
first_is_head bits head place (inr full) x = absurd (both_ways (is_in bits place) x.clear (full place x.within))

-- what is taken is the head of a new blob and the places behind it
pub taken_is : (bits : List Bool) (makes : Bool) (head : ℕ) (taken : List ℕ) → AreLeastClear bits taken
    → (makes ≡ true → IsFreshHead bits head) → (makes ≡ true → 0 < length taken)
    → taken ≡ taken_for makes head (behind_in makes taken)
taken_is bits false head taken least next some = refl
taken_is bits true head [] least next some = absurd (let bad = some refl in omega (arith, bad))
taken_is bits true head (x ∷ xs) least next some =
    ap (λ n. n ∷ xs) (first_is_head bits head x (next refl) least.0)

-- as many are behind the head as the items need
pub behind_long : (makes : Bool) (taken : List ℕ) (parts : ℕ) → length taken ≡ (if makes then parts else parts - 1)
    → 0 < parts → length (behind_in makes taken) + 1 ≡ parts
behind_long true [] parts count some = absurd (omega (arith, count, some))
behind_long true (x ∷ xs) parts count some = omega (arith, count, some)
behind_long false taken parts count some = omega (arith, count, some)

-- one is taken at least for a new blob
pub some_taken : (makes : Bool) (long parts : ℕ) → long ≡ (if makes then parts else parts - 1) → 0 < parts
    → makes ≡ true → 0 < long
some_taken true long parts count some makes = omega (arith, count, some)
some_taken false long parts count some makes = absurd (cc makes)
