-- The blobs that are frozen and the generations, as states change.
use Rattle.std.proofs.Common.{◌≡◌, ◌≢◌, ◌⊎◌, ℕ, ◌+◌, ◌≤◌, Bool, true, false, List, [], ◌∷◌, length, Option, Some, None}
use Rattle.std.proofs.Common.{refl}
use Rattle.std.proofs.Common.{sym, ◌∙◌, ap, subst, arith, inl, inr}
use Rattle.std.specs.Prelude.{if◌then◌else◌, is_some, IsSome}
use Rattle.std.specs.List.{AllByRecursion}
use Rattle.std.proofs.lemmas.Bool.{cases_eq, eq-eqb, false≢true, ne_eqb}
use Rattle.blob_meta.specs.declared.meta.Meta.{Meta}
use Rattle.store_model.specs.Maps.{Map, Metas, with_entry}
use Rattle.store_model.specs.Phases.{Phase}
use Rattle.store_model.specs.Rows.{Rows}
use Rattle.store_model.specs.StoreState.{going_on, JobState, StoreState}
use Rattle.store_model.specs.Guarding.{all_renewed, AreClaimsDrawn, AreGenerations, freezing, frozen_behind, IsGuarded}
use Rattle.store_model.specs.Guarding.{releasing}
use Rattle.shown_volumes.proofs.WithEntry.{given_here, given_elsewhere}
use Rattle.store_model.proofs.Sets.{among_either, among_first}
use Rattle.md_chain.specs.Chain.{is_among}

-- ---- frozen blobs

-- no blob is frozen
pub none_guarded : (q : StoreState) → ((head : ℕ) → q.frozen head ≡ false) → IsGuarded q
none_guarded q none = record { frozen = λ head is. absurd (false≢true (sym (none head) ∙ is)); stopped = λ at is. none }

-- blobs stay frozen, and the job stays
pub guarded_same : (p q : StoreState) → q.frozen ≡ p.frozen → q.job ≡ p.job → q.stopped ≡ p.stopped → IsGuarded p
    → IsGuarded q
guarded_same p q frozen job stopped g = record {
  frozen = λ head is. let x = g.frozen head (ap (λ (f : ℕ → Bool). f head) (sym frozen) ∙ is) in (x.0, job ∙ x.1, x.2);
  stopped = λ at is head. ap (λ (f : ℕ → Bool). f head) frozen ∙ g.stopped at (sym stopped ∙ is) head;
}

-- a blob that isn't frozen, by what a frozen one comes to
thawed : (b : Bool) → (b ≡ true → ⊥) → b ≡ false
thawed true never = absurd (never refl)
thawed false never = refl

-- where no job runs that freezes a blob none is frozen
module _ (p : StoreState) (g : IsGuarded p) where
  pub none_frozen : p.job ≡ None → (head : ℕ) → p.frozen head ≡ false
  none_frozen none head = thawed (p.frozen head) (λ is. let x = g.frozen head is in let bad = sym none ∙ x.1 in cc bad)

  pub none_frozen_by : (j : JobState) → p.job ≡ Some j → j.freeze ≡ None → (head : ℕ) → p.frozen head ≡ false
  none_frozen_by j is none head = thawed (p.frozen head) (λ frozen.
      let x = g.frozen head frozen in
      let same : x.0 ≡ j = let both = sym x.1 ∙ is in cc both in
      let bad = sym none ∙ ap (λ (i : JobState). i.freeze) (sym same) ∙ x.2 in cc bad)

-- a job begins where none ran
module _ (p q : StoreState) (g : IsGuarded p) (no_job : p.job ≡ None) (k : JobState) (is : q.job ≡ Some k)
    (runs : q.stopped ≡ None) where
  pub guarded_begun : q.frozen ≡ freezing p.frozen k.freeze → IsGuarded q
  guarded_begun frozen = record {
    frozen = λ head on. (k, is, by k.freeze head (ap (λ (f : ℕ → Bool). f head) (sym frozen) ∙ on));
    stopped = λ at halts. absurd (let bad = sym runs ∙ halts in cc bad);
  }
    where
      by : (o : Option ℕ) (head : ℕ) → freezing p.frozen o head ≡ true → o ≡ Some head
      by None head on = absurd (false≢true (sym (none_frozen p g no_job head) ∙ on))
      by (Some blob) head on = elim (cases_eq head blob) [
        | inl e ↦ ap (λ (n : ℕ). Some n) (sym e)
        | inr ne ↦ absurd (false≢true (sym (none_frozen p g no_job head)
            ∙ ap (λ b. if b then true else p.frozen head) (sym (ne_eqb head blob ne)) ∙ on))
      ]

-- the job goes on as one that freezes the same blob
module _ (p q : StoreState) (g : IsGuarded p) (j other : JobState) (is : p.job ≡ Some j)
    (same : other.freeze ≡ j.freeze) (runs : q.stopped ≡ None) where
  its_own : (head : ℕ) → p.frozen head ≡ true → j.freeze ≡ Some head
  its_own head on =
      let x = g.frozen head on in
      let e : x.0 ≡ j = let both = sym x.1 ∙ is in cc both in
      ap (λ (i : JobState). i.freeze) (sym e) ∙ x.2

  pub guarded_on : q.job ≡ Some other → q.frozen ≡ p.frozen → IsGuarded q
  guarded_on job frozen = record {
    frozen = λ head on. (other, job, same ∙ its_own head (ap (λ (f : ℕ → Bool). f head) (sym frozen) ∙ on));
    stopped = λ at halts. absurd (let bad = sym runs ∙ halts in cc bad);
  }

  released : (o : Option ℕ) → j.freeze ≡ o → (head : ℕ) → releasing p.frozen o head ≡ false
  released None freezes head = none_frozen_by p g j is freezes head
  released (Some blob) freezes head = elim (cases_eq head blob) [
    | inl e ↦ rw (eq-eqb head blob e) refl
    | inr ne ↦ rw (ne_eqb head blob ne)
        (thawed (p.frozen head) (λ on. let both = sym freezes ∙ its_own head on in ne (cc both)))
  ]

  -- or is done, and its blob released
  pub guarded_behind : (rest : List Phase) → q.job ≡ going_on other [] rest → q.frozen ≡ frozen_behind p.frozen j rest
      → IsGuarded q
  guarded_behind [] job frozen =
      none_guarded q (λ head. ap (λ (f : ℕ → Bool). f head) frozen ∙ released j.freeze refl head)
  guarded_behind (x ∷ xs) job frozen = record {
    frozen = λ head on. (
      record other { written = []; todo = x ∷ xs },
      job,
      same ∙ its_own head (ap (λ (f : ℕ → Bool). f head) (sym frozen) ∙ on),
    );
    stopped = λ at halts. absurd (let bad = sym runs ∙ halts in cc bad);
  }

-- a job that freezes no blob leaves as they are those that are frozen
pub frozen_still : (frozen : ℕ → Bool) (j : JobState) (rest : List Phase) → j.freeze ≡ None
    → frozen_behind frozen j rest ≡ frozen
frozen_still frozen j [] none = ap (releasing frozen) none
frozen_still frozen j (x ∷ xs) none = refl

-- ---- generations

-- Numbers are as generations are to be, but that these blobs may have none yet.
record NumberedBut (base : Metas) (generations : Map ℕ) (drawn : ℕ) (heads : List ℕ) : Type 0 where
  each : (head : ℕ) → (is_some (generations head) ≡ is_some (base head)) ⊎ (is_among head heads ≡ true)
  low : (head number : ℕ) → generations head ≡ Some number → number ≤ drawn
  differ : (head other number : ℕ) → generations head ≡ Some number → generations other ≡ Some number → head ≡ other

-- the first of them, which is there, gets the next number
module _ (base : Metas) (head : ℕ) (heads : List ℕ) (generations : Map ℕ) (drawn : ℕ) (there : IsSome (base head))
    (g : NumberedBut base generations drawn (head ∷ heads)) where
  abbrev next : Map ℕ
  next = with_entry generations head (drawn + 1)

  here : (h : ℕ) → h ≡ head → next h ≡ Some (drawn + 1)
  here h e = given_here generations head (drawn + 1) h e

  elsewhere : (h : ℕ) → h ≢ head → next h ≡ generations h
  elsewhere h ne = given_elsewhere generations head (drawn + 1) h ne

  one_numbered : NumberedBut base next (drawn + 1) heads
  one_numbered = record {
    each = λ h. elim (cases_eq h head) [
      | inl e ↦ inl (ap is_some (here h e) ∙ sym (ap (λ n. is_some (base n)) e ∙ there))
      | inr ne ↦ elim (g.each h) [
        | inl same ↦ inl (ap is_some (elsewhere h ne) ∙ same)
        | inr among ↦ elim (among_either h head heads among) [ inl e ↦ absurd (ne e) | inr later ↦ inr later ]
      ]
    ];
    low = λ h number is. elim (cases_eq h head) [
      | inl e ↦ let same : drawn + 1 ≡ number = let both = sym (here h e) ∙ is in cc both in omega (arith, same)
      | inr ne ↦ let old = g.low h number (sym (elsewhere h ne) ∙ is) in omega (arith, old)
    ];
    differ = λ h k number is too. elim (cases_eq h head) [
      | inl e ↦ elim (cases_eq k head) [
        | inl f ↦ e ∙ sym f
        | inr nf ↦ absurd (new_only h k number e nf is too)
      ]
      | inr ne ↦ elim (cases_eq k head) [
        | inl f ↦ absurd (new_only k h number f ne too is)
        | inr nf ↦ g.differ h k number (sym (elsewhere h ne) ∙ is) (sym (elsewhere k nf) ∙ too)
      ]
    ];
  }
    where
      new_only : (h k number : ℕ) → h ≡ head → k ≢ head → next h ≡ Some number → next k ≡ Some number → ⊥
      new_only h k number e nf is too =
          let same : drawn + 1 ≡ number = let both = sym (here h e) ∙ is in cc both in
          let old = g.low k number (sym (elsewhere k nf) ∙ too) in
          omega (arith, same, old)

-- blobs that are there are numbered one after another
all_numbered : (base : Metas) (generations : Map ℕ) (drawn : ℕ) (heads : List ℕ)
    → NumberedBut base generations drawn heads → AllByRecursion (λ head. IsSome (base head)) heads
    → AreGenerations base (all_renewed generations drawn heads) (drawn + length heads)
all_numbered base generations drawn [] g there = subst (AreGenerations base generations) (omega arith)
    (record {
      each = λ h. elim (g.each h) [ inl same ↦ same | inr none ↦ absurd (cc none) ];
      low = g.low;
      differ = g.differ;
    })
all_numbered base generations drawn (head ∷ heads) g there =
    subst (AreGenerations base (all_renewed generations drawn (head ∷ heads))) (omega arith)
    (all_numbered base (with_entry generations head (drawn + 1)) (drawn + 1) heads
    (one_numbered base head heads generations drawn there.0 g) there.1)

-- a blob is there that gets the next number, and the others are as they were
pub one_more_numbered : (base other : Metas) (head : ℕ) (generations : Map ℕ) (drawn : ℕ) → IsSome (other head)
    → ((h : ℕ) → h ≢ head → is_some (other h) ≡ is_some (base h)) → AreGenerations base generations drawn
    → AreGenerations other (with_entry generations head (drawn + 1)) (drawn + 1)
one_more_numbered base other head generations drawn there same g =
    all_numbered other generations drawn (head ∷ []) (record {
      each = λ h. elim (cases_eq h head) [
        | inl e ↦ inr (among_here h head e)
        | inr ne ↦ inl (g.each h ∙ sym (same h ne))
      ];
      low = g.low;
      differ = g.differ;
    }) (there, tt)
  where
    among_here : (h head : ℕ) → h ≡ head → is_among h (head ∷ []) ≡ true
    among_here h head e = subst (λ n. is_among n (head ∷ []) ≡ true) (sym e) (among_first head [])

-- blobs that are there are renewed
pub generations_more : (base : Metas) (generations : Map ℕ) (drawn : ℕ) (heads : List ℕ)
    → AllByRecursion (λ h. IsSome (base h)) heads → AreGenerations base generations drawn
    → AreGenerations base (all_renewed generations drawn heads) (drawn + length heads)
generations_more base generations drawn heads there g = all_numbered base generations drawn heads
    (record { each = λ h. inl (g.each h); low = g.low; differ = g.differ }) there

-- One blob has other metadata, and blobs are renewed: it too, if it is new.
pub generations_renewed : (base : Metas) (head : ℕ) (new : Meta) (generations : Map ℕ) (drawn : ℕ) (heads : List ℕ)
    → AreGenerations base generations drawn → (is_some (base head) ≡ true) ⊎ (is_among head heads ≡ true)
    → AllByRecursion (λ h. IsSome (with_entry base head new h)) heads
    → AreGenerations (with_entry base head new) (all_renewed generations drawn heads) (drawn + length heads)
generations_renewed base head new generations drawn heads g was there =
    all_numbered (with_entry base head new) generations drawn heads (record {
      each = λ h. elim (cases_eq h head) [
        | inl e ↦ elim was [
          | inl some ↦ inl (g.each h ∙ ap (λ n. is_some (base n)) e ∙ some
              ∙ sym (ap is_some (given_here base head new h e)))
          | inr among ↦ inr (ap (λ n. is_among n heads) e ∙ among)
        ]
        | inr ne ↦ inl (g.each h ∙ sym (ap is_some (given_elsewhere base head new h ne)))
      ];
      low = g.low;
      differ = g.differ;
    }) there

-- ---- open claims

-- the same claims, and more numbers drawn
pub claims_drawn_still : (rows other : Rows) (drawn more : ℕ) → ((c : ℕ) → (other c).claim ≡ (rows c).claim)
    → drawn ≤ more → AreClaimsDrawn rows drawn → AreClaimsDrawn other more
claims_drawn_still rows other drawn more same le are c claim held =
    let low = are c claim (sym (same c) ∙ held) in omega (arith, low, le)
