use Rattle.std.proofs.Common.{rules, ◌≡◌, ◌+◌, ℕ, Bool, true, List, Some, None, sym, ap, subst, ◌∙◌, arith}
use Rattle.std.specs.Prelude.{option_copied}
use Rattle.std.specs.Ordering.{nat_cmp}
use Rattle.std.specs.FinMap as map
use Rattle.bit_array.specs.Bits.{is_in}
use Rattle.md_chain.specs.Chain.{is_among}
use Rattle.md_chain.specs.declared.fault.ChainFault.{ChainFault}
use Rattle.md_chain.specs.declared.fault.ChainFault.TheVariants as chain
use Rattle.blob_meta.specs.declared.meta.Meta.{Meta}
use Rattle.running_store.specs.Recovered.{chains_of}
use Rattle.store_model.specs.Maps.{Chains}
use Rattle.unclean_load.specs.declared.fault.LoadFault.{LoadFault}
use Rattle.unclean_load.specs.declared.fault.LoadFault.TheVariants as fault
use Rattle.unclean_load.specs.Claiming.{IsInTwo, IsTwice, IsPageFault}
use Rattle.unclean_load.proofs.ChainsOf.{chains_there, no_chain_there}
use Rattle.blob_meta.proofs.HeadsThere.{up_to_end, up_to_next}
use Rattle.unclean_load.proofs.Marks.{Marked, marked_none, marked_same, marked_more, in_two, all_used, all_apart}
use Rattle.unclean_load.proofs.masks.used_pages.Goals as goal
use Rattle.unclean_load.proofs.masks.used_pages.Goals.{in-Some-chain_of+in_ok-mark_pages, in_default-chain_of}

module _ (metas : map.FinMap nat_cmp Meta) (links : Chains) (md_len : ℕ) (bits : List Bool) where
  -- the marks are those of the blobs below a place
  abbrev AreMarked : ℕ → Type 0
  AreMarked end = Marked md_len (chains_of (map.get metas) links) bits end

  marked_on : (h : ℕ) → map.get metas h ≡ None → AreMarked h → AreMarked (h + 1)
  marked_on h none x =
      marked_same md_len (chains_of (map.get metas) links) bits h x (no_chain_there (map.get metas) links h none)

pub loop-head-init : goal.loop-head-init
loop-head-init c = (
  omega arith,
  marked_none c.args.md_len (chains_of (map.get c.args.metas.now) (map.get c.args.chains.now)) c.in_ok-bits.bits
      c.in_ok-bits.ensures,
)

pub mark_pages-requires-clause-low : goal.mark_pages-requires-clause-low
mark_pages-requires-clause-low c =
    let there : chains_of (map.get c.args.metas.now) (map.get c.args.chains.now) c.in-Some.head
    ≡ Some c.in-Some-chain_of.pages.now =
    sym c.chain_of.ensures ∙ ap option_copied c.in-Some-chain_of.is in
    let x =
    (chains_there (map.get c.args.metas.now) (map.get c.args.chains.now) c.args.md_len c.requires _ _ there).1 in
    let count = c.loop-head.invariant.1.count in
    λ place among. let y = x.low place among in omega (arith, y, count)

pub mark_pages-requires-clause-differ : goal.mark_pages-requires-clause-differ
mark_pages-requires-clause-differ c =
    let there : chains_of (map.get c.args.metas.now) (map.get c.args.chains.now) c.in-Some.head
    ≡ Some c.in-Some-chain_of.pages.now =
    sym c.chain_of.ensures ∙ ap option_copied c.in-Some-chain_of.is in
    (chains_there (map.get c.args.metas.now) (map.get c.args.chains.now) c.args.md_len c.requires _ _ there).1.differ

twice : (chains : Chains) (head h : ℕ) (why : ChainFault) (pages : List ℕ) (bits : List Bool)
    → ((place : ℕ) → is_among place pages ≡ true → is_in bits place ≡ true → IsInTwo chains head place)
    → IsTwice (λ at place. (at ≡ head) × (is_among place pages ≡ true) × (is_in bits place ≡ true)) h why
    → IsTwice (IsInTwo chains) h why
twice chains head h (chain.Loop place) pages bits two x =
    subst (λ (k : ℕ). IsInTwo chains k place) (sym x.0) (two place x.1 x.2)
twice chains head h (chain.LinkPastEnd a b) pages bits two x = absurd x
twice chains head h chain.ReadFault pages bits two x = absurd x
twice chains head h (chain.Unsound a) pages bits two x = absurd x
twice chains head h (chain.WrongId a b) pages bits two x = absurd x
twice chains head h (chain.WrongSequence a b d) pages bits two x = absurd x
twice chains head h (chain.BadItem a b d) pages bits two x = absurd x
twice chains head h chain.Memory pages bits two x = absurd x

page_fault : (chains : Chains) (head : ℕ) (pages : List ℕ) (bits : List Bool)
    → ((place : ℕ) → is_among place pages ≡ true → is_in bits place ≡ true → IsInTwo chains head place)
    → (why : LoadFault)
    → IsPageFault (λ at place. (at ≡ head) × (is_among place pages ≡ true) × (is_in bits place ≡ true)) why
    → IsPageFault (IsInTwo chains) why
page_fault chains head pages bits two (fault.Chain h why) x = twice chains head h why pages bits two x
page_fault chains head pages bits two fault.Memory x = tt
page_fault chains head pages bits two fault.ReadFault x = absurd x
page_fault chains head pages bits two (fault.Super e) x = absurd x
page_fault chains head pages bits two (fault.Meta h e) x = absurd x
page_fault chains head pages bits two (fault.MapsTooLarge n) x = absurd x
page_fault chains head pages bits two (fault.NoParentBlob blob parent) x = absurd x
page_fault chains head pages bits two (fault.WritableParent blob parent) x = absurd x
page_fault chains head pages bits two (fault.ParentLoop blob) x = absurd x
page_fault chains head pages bits two (fault.Shared cluster a b) x = absurd x
page_fault chains head pages bits two (fault.NoRoom blob has wants) x = absurd x

pub returns-in_err-mark_pages-clause-fault : goal.returns-in_err-mark_pages-clause-fault
returns-in_err-mark_pages-clause-fault c =
    let links = map.get c.args.chains.now in
    let chains = chains_of (map.get c.args.metas.now) links in
    let n = c.args.md_len in
    let bits = c.loop-head.bits in
    let head = c.in-Some.head in
    let there : chains head ≡ Some c.in-Some-chain_of.pages.now =
    sym c.chain_of.ensures ∙ ap option_copied c.in-Some-chain_of.is in
    let here : Marked n chains bits head =
    up_to_next c.args.metas.now (AreMarked c.args.metas.now links n bits) (marked_on c.args.metas.now links n bits)
    c.loop-head.from head c.in-Some.ensures.some c.loop-head.invariant.1 in
    let why = c.in_err-mark_pages.field-0.0 in
    let x : IsPageFault (IsInTwo chains) why =
    page_fault chains head c.in-Some-chain_of.pages.now bits
    (in_two n chains bits head here c.in-Some-chain_of.pages.now there) why c.in_err-mark_pages.ensures.fault in
    search rules

pub loop-head-preserved : goal.loop-head-preserved
loop-head-preserved c =
    let links = map.get c.args.chains.now in
    let chains = chains_of (map.get c.args.metas.now) links in
    let n = c.args.md_len in
    let bits = c.loop-head.bits in
    let head = c.in-Some.head in
    let low = c.in-Some.ensures.below in
    let here : Marked n chains bits head =
    up_to_next c.args.metas.now (AreMarked c.args.metas.now links n bits) (marked_on c.args.metas.now links n bits)
    c.loop-head.from head c.in-Some.ensures.some c.loop-head.invariant.1 in
    elim c.match-chain_of.branch [
      | in-Some-chain_of+in_ok-mark_pages w ↦
          let pages = w.in-Some-chain_of.pages.now in
          let there : chains head ≡ Some pages = sym c.chain_of.ensures ∙ ap option_copied w.in-Some-chain_of.is in
          let e = w.in_ok-mark_pages.ensures in
          rw w.bits-is (
            omega (arith, low),
            marked_more n chains bits head here pages there w.mark_pages.new.bits e.count e.added e.new,
          )
      | in_default-chain_of w ↦
          let none : chains head ≡ None = sym c.chain_of.ensures ∙ ap option_copied w.in_default-chain_of.is in
          rw w.bits-is (omega (arith, low), marked_same n chains bits head here none)
    ]

pub returns-clause-used : goal.returns-clause-used
returns-clause-used c =
    let links = map.get c.args.chains.now in
    let n = c.args.md_len in
    let bits = c.loop-head.bits in
    all_used n (chains_of (map.get c.args.metas.now) links) bits
    (up_to_end c.args.metas.now (AreMarked c.args.metas.now links n bits) (marked_on c.args.metas.now links n bits)
    c.loop-head.from n c.loop-head.invariant.0 c.in_default.ensures.none c.loop-head.invariant.1)
    (chains_there (map.get c.args.metas.now) links n c.requires)

pub returns-clause-apart : goal.returns-clause-apart
returns-clause-apart c =
    let links = map.get c.args.chains.now in
    let n = c.args.md_len in
    let bits = c.loop-head.bits in
    all_apart n (chains_of (map.get c.args.metas.now) links) bits
    (up_to_end c.args.metas.now (AreMarked c.args.metas.now links n bits) (marked_on c.args.metas.now links n bits)
    c.loop-head.from n c.loop-head.invariant.0 c.in_default.ensures.none c.loop-head.invariant.1)
    (chains_there (map.get c.args.metas.now) links n c.requires)
