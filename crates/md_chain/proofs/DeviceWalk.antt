-- What reading a device page by page leaves of it, and what is known while a chain is read.
use Rattle.std.proofs.Common.{◌≡◌, ℕ, suc, ◌+◌, ◌≤◌, Bool, true, false, cond, List, [], ◌∷◌, ◌++◌, length, Option, Some}
use Rattle.std.proofs.Common.{None, refl, sym, ap, subst, ◌∙◌, inl, inr, arith, length-append}
use Rattle.std.specs.Prelude.{IsTrue, ◌==◌, ◌||◌, not}
use Rattle.crc32c.specs.Crc.{is_sound}
use Rattle.page_disk.specs.Disk.{Image, Images, Alike, Rose, RoseByOne, with_page}
use Rattle.page_disk.specs.declared.disk.PageDisk.{Ghosts}
use Rattle.super_block.specs.declared.page.Super.{Super}
use Rattle.descriptors.specs.declared.item.Item.{Item}
use Rattle.descriptors.specs.Grammar.{Spells, Spoils}
use Rattle.md_page.specs.Page.{id_of, sequence_of, body_of, next_of}
use Rattle.md_chain.specs.declared.fault.ChainFault.{ChainFault}
use Rattle.md_chain.specs.declared.fault.ChainFault.TheVariants as faults
use Rattle.md_chain.specs.Chain.{Look, link_fault, blob_id, chain_end, is_among, Chain, IsBroken, at_link}
use Rattle.md_chain.specs.Fetching.{place_fault, page_fault, IsFetchFault, IsNthPageFault}
use Rattle.md_chain.specs.Reading.{OnlyRead, region_look, WasSeen, GaveChain, GaveFault, IsChainCause, IsPagesFault}
use Rattle.md_chain.specs.Reading.{RoseBy}
use Rattle.md_chain.proofs.PageWalk.{Way, at_head, goes_on, ends, fails, spoils, known, place_fails, place_passes}
use Rattle.md_chain.proofs.PageWalk.{new_place, unseen, unseen-none, unseen-new, among-more}

alike_two : (a b c : Images) → Alike b a → Alike c b → Alike c a
alike_two a b c ba cb image = (λ x. (ba image).0 ((cb image).0 x), λ x. (cb image).1 ((ba image).1 x))

-- one read more rises the count by one more
pub rose_more : (n a b c : ℕ) → RoseBy n a b → RoseByOne b c → RoseBy (n + 1) a c
rose_more n a b c (inl x) (inl y) = inl (omega arith)
rose_more n a b c (inl x) (inr y) = let p = y.0 in let q = y.1 in inr (omega (arith, p, q), omega (arith, p, q, x))
rose_more n a b c (inr x) (inl y) = let p = x.0 in let q = x.1 in inr (omega (arith, p, q, y), omega (arith, p, q, y))
rose_more n a b c (inr x) (inr y) = let p = x.0 in let q = x.1 in let s = y.0 in let t = y.1 in
    inr (omega (arith, p, q, s, t), omega (arith, p, q, s, t))

-- a count that rose by a number is no more than that above
pub rose_at_most : (n a b : ℕ) → RoseBy n a b → b ≤ a + n
rose_at_most n a b (inl x) = omega (arith, x)
rose_at_most n a b (inr x) = let p = x.1 in omega (arith, p)

or_turned : (a b c : Bool) → b ≡ c → (a || b) ≡ (c || a)
or_turned true true c e = rw (← e) refl
or_turned true false c e = rw (← e) refl
or_turned false true c e = rw (← e) refl
or_turned false false c e = rw (← e) refl

no_read_fault : (page : List ℕ) (head n place : ℕ) → page_fault page head n place ≡ Some faults.ReadFault → ⊥
no_read_fault page head n place e = go (is_sound page) (id_of page == blob_id head) (sequence_of page == n) e
  where
    go : (a b c : Bool) → cond (not a) (Some (faults.Unsound place))
        (cond (not b) (Some (faults.WrongId place (id_of page)))
        (cond (not c) (Some (faults.WrongSequence place (sequence_of page) n)) None)) ≡ Some faults.ReadFault → ⊥
    go true true true e = absurd cc
    go true true false e = absurd cc
    go true false c e = absurd cc
    go false b c e = absurd cc

module _ {D : Type 0} (d : Ghosts D) where
  -- a device that nothing was done to was only read
  pub no_read : (disk : D) → OnlyRead d disk disk
  no_read disk = record {
    now = λ _. refl;
    images = λ _ c. (λ x. x, λ x. x);
    since = λ _ t c. (λ x. x, λ x. x);
    clock = refl;
    pages = refl;
    read_faults = omega arith;
    write_faults = refl;
  }

  -- a device that was only read twice was only read
  pub read_on : (a b c : D) → OnlyRead d a b → OnlyRead d b c → OnlyRead d a c
  read_on a b c x y = record {
    now = λ told. y.now told ∙ x.now told;
    images = λ told. alike_two (d.images a) (d.images b) (d.images c) (x.images told) (y.images told);
    since = λ told t. alike_two (d.since a t) (d.since b t) (d.since c t) (x.since told t) (y.since told t);
    clock = y.clock ∙ x.clock;
    pages = y.pages ∙ x.pages;
    read_faults = omega arith;
    write_faults = y.write_faults ∙ x.write_faults;
  }

  -- the pages so far and the way along them
  pub record Walking (s : Super) (first disk : D) (head : ℕ) (pages : List ℕ) (items : List Item) (before place : ℕ) :
      Type 0 where
    pub same : OnlyRead d first disk
    pub no_fault : d.read_faults disk ≡ d.read_faults first
    pub count : RoseBy (length pages) (d.reads first) (d.reads disk)
    pub room : length pages + unseen s.md_len pages ≤ s.md_len
    pub look : Look
    pub seen : WasSeen d s first look
    pub behind : List ℕ
    pub are : (q : ℕ) → is_among q behind ≡ is_among q pages
    pub way : Way look s.md_len head (length pages) behind before place items pages

  -- for the loop of `read_chain`: before the first page
  pub begins : (s : Super) (disk : D) (head : ℕ) → Walking s disk disk head [] [] head head
  begins s disk head = record {
    same = no_read disk;
    no_fault = refl;
    count = inl (omega arith);
    room = omega (arith, unseen-none s.md_len);
    look = region_look s (d.now disk);
    seen = λ told. refl;
    behind = [];
    are = λ q. refl;
    way = at_head (region_look s (d.now disk)) s.md_len head;
  }

  module _ (s : Super) (first disk : D) (head : ℕ) (pages : List ℕ) (items : List Item) (before place : ℕ)
      (w : Walking s first disk head pages items before place) where
    -- a page that is read there
    module _ (page : List ℕ) (fetched : IsTrue d.tells → page ≡ d.now disk (s.md_start + place)) where
      there : WasSeen d s first (with_page w.look place page)
      there told =
          let is : page ≡ w.look place = fetched told ∙ ap (λ (image : Image). image (s.md_start + place))
          (w.same.now told) ∙ sym (ap (λ (l : Look). l place) (w.seen told)) in
          known w.look place page is ∙ w.seen told

      module _ (free : place_fault s.md_len pages before place ≡ None) where
        passes : page_fault page head (length pages) place ≡ None
            → link_fault page s.md_len head (length pages) w.behind before place ≡ None
        passes p = place_passes page s.md_len head (length pages) before place w.behind pages (w.are place) free ∙ p

        module _ (pass : page_fault page head (length pages) place ≡ None) (new : D) (same : OnlyRead d disk new)
            (quiet : d.read_faults new ≡ d.read_faults disk) (once : RoseByOne (d.reads disk) (d.reads new))
            (is : List Item) (spells : Spells (body_of page) is)
            (next : ℕ) (next_is : next ≡ next_of page) where
          more_room : length (pages ++ place ∷ []) + unseen s.md_len (pages ++ place ∷ []) ≤ s.md_len
          more_room = let n = new_place s.md_len before place pages free in let less =
              unseen-new s.md_len place pages n.0 n.1 in let r = w.room in
              omega (arith, length-append pages (place ∷ []), less, r)

          longer : length (pages ++ place ∷ []) ≡ suc (length pages)
          longer = omega (arith, length-append pages (place ∷ []))

          counted : RoseBy (length (pages ++ place ∷ [])) (d.reads first) (d.reads new)
          counted = subst (λ (n : ℕ). RoseBy n (d.reads first) (d.reads new)) (sym (length-append pages (place ∷ [])))
              (rose_more (length pages) _ _ _ w.count once)

          -- for the loop of `read_chain`: a page that links to the next
          pub walks_on : (next == chain_end) ≡ false → Walking s first new head (pages ++ place ∷ []) (items ++ is)
              place next
          walks_on ne = record {
            same = read_on first disk new w.same same;
            no_fault = quiet ∙ w.no_fault;
            count = counted;
            room = more_room;
            look = with_page w.look place page;
            seen = there;
            behind = place ∷ w.behind;
            are = λ q. or_turned (place == q) (is_among q w.behind) (is_among q pages) (w.are q)
                ∙ sym (among-more q place pages);
            way = subst (λ (n : ℕ). Way (with_page w.look place page) s.md_len head n (place ∷ w.behind) place next
                (items ++ is) (pages ++ place ∷ [])) (sym longer)
                (goes_on w.look s.md_len head (length pages) w.behind before place items pages w.way page
                (new_place s.md_len before place pages free).1 (passes pass) is spells next next_is ne);
          }

          -- for the loop of `read_chain`: a page that ends the chain
          pub gave : next ≡ chain_end → GaveChain d s first head (pages ++ place ∷ []) (items ++ is)
          gave end = record {
            look = with_page w.look place page;
            seen = there;
            chain = ends w.look s.md_len head (length pages) w.behind before place items pages w.way page
                (new_place s.md_len before place pages free).1 (passes pass) is spells next next_is end;
          }

        page_fails : (f : ChainFault) → page_fault page head (length pages) place ≡ Some f → GaveFault d s first head f
        page_fails f e = record {
          look = with_page w.look place page;
          seen = there;
          broken = fails w.look s.md_len head (length pages) w.behind before place items pages w.way page
              (new_place s.md_len before place pages free).1 f
              (place_passes page s.md_len head (length pages) before place w.behind pages (w.are place) free ∙ e);
        }

        spoilt : (p at kind : ℕ) → p ≡ place → page_fault page head (length pages) place ≡ None
            → Spoils (body_of page) at kind → GaveFault d s first head (faults.BadItem p at kind)
        spoilt p at kind is pass x = record {
          look = with_page w.look place page;
          seen = there;
          broken = subst (λ (q : ℕ). IsBroken (with_page w.look place page) s.md_len head (faults.BadItem q at kind))
              (sym is)
              (spoils w.look s.md_len head (length pages) w.behind before place items pages w.way page
              (new_place s.md_len before place pages free).1 at kind (passes pass) x);
        }

        -- its fault is the chain's
        pub page_cause : (new : D) (f : ChainFault) → IsNthPageFault page head (length pages) place f
            → IsChainCause d s first new head f
        page_cause new (faults.LinkPastEnd p q) x = page_fails _ x
        page_cause new (faults.Loop p) x = page_fails _ x
        page_cause new faults.ReadFault x = absurd (no_read_fault page head (length pages) place x)
        page_cause new (faults.Unsound p) x = page_fails _ x
        page_cause new (faults.WrongId p i) x = page_fails _ x
        page_cause new (faults.WrongSequence p i j) x = page_fails _ x
        page_cause new (faults.BadItem p at kind) x = spoilt p at kind x.0 x.1 x.2
        page_cause new faults.Memory x = tt

    place_fault_first : (f : ChainFault) → place_fault s.md_len pages before place ≡ Some f → GaveFault d s first head f
    place_fault_first f e = record {
      look = w.look;
      seen = w.seen;
      broken = w.way.breaks w.look (λ q a. refl) f (at_link (length pages) w.behind before place f
          (place_fails (w.look place) s.md_len head (length pages) before place w.behind pages (w.are place) f e));
    }

    -- a place that isn't read, or can't be
    pub fetch_cause : (new : D) (f : ChainFault) → IsFetchFault s.md_len pages before place (d.read_faults disk)
        (d.read_faults new) f → IsChainCause d s first new head f
    fetch_cause new (faults.LinkPastEnd p q) x = place_fault_first _ x.0
    fetch_cause new (faults.Loop p) x = place_fault_first _ x.0
    fetch_cause new faults.ReadFault x = subst (λ (n : ℕ). Rose n (d.read_faults new)) w.no_fault x.1
    fetch_cause new (faults.Unsound p) x = place_fault_first _ x.0
    fetch_cause new (faults.WrongId p i) x = place_fault_first _ x.0
    fetch_cause new (faults.WrongSequence p i j) x = place_fault_first _ x.0
    fetch_cause new (faults.BadItem p at kind) x = place_fault_first _ x.0
    fetch_cause new faults.Memory x = tt

    -- how often a page was asked for
    pub few_read : (new : D) → place_fault s.md_len pages before place ≡ None → RoseByOne (d.reads disk) (d.reads new)
        → d.reads new ≤ d.reads first + s.md_len
    few_read new free once =
        let n = new_place s.md_len before place pages free in
        let less = unseen-new s.md_len place pages n.0 n.1 in
        let r = w.room in
        let most = rose_at_most (length pages + 1) (d.reads first) (d.reads new)
        (rose_more (length pages) _ _ _ w.count once) in
        omega (arith, less, r, most)

    -- however reading ends, no more pages were read than the region has
    pub few_unread : (new : D) → ((place_fault s.md_len pages before place ≡ None → ⊥) → d.reads new ≡ d.reads disk)
        → (place_fault s.md_len pages before place ≡ None → d.reads new ≤ d.reads disk + 1)
        → d.reads new ≤ d.reads first + s.md_len
    few_unread new none one = go (place_fault s.md_len pages before place) refl
      where
        most : d.reads disk ≤ d.reads first + length pages
        most = rose_at_most (length pages) (d.reads first) (d.reads disk) w.count

        go : (o : Option ChainFault) → place_fault s.md_len pages before place ≡ o
            → d.reads new ≤ d.reads first + s.md_len
        go None e =
            let n = new_place s.md_len before place pages e in
            let less = unseen-new s.md_len place pages n.0 n.1 in
            let r = w.room in
            let more = one e in
            omega (arith, less, r, most, more)
        go (Some f) e =
            let same = none (λ n. let x : Some f ≡ None = sym e ∙ n in cc x) in
            let r = w.room in
            omega (arith, r, most, same)

  -- ---- where the device tells

  -- where the device tells, the chain that it gave is the one of its image
  pub told_chain : (s : Super) (disk : D) (head : ℕ) (pages : List ℕ) (items : List Item) → IsTrue d.tells
      → GaveChain d s disk head pages items → Chain (region_look s (d.now disk)) s.md_len head items pages
  told_chain s disk head pages items told x = subst (λ (l : Look). Chain l s.md_len head items pages) (x.seen told)
      x.chain

  told : (s : Super) (disk : D) (head : ℕ) (f : ChainFault) → IsTrue d.tells → GaveFault d s disk head f
      → IsBroken (region_look s (d.now disk)) s.md_len head f
  told s disk head f tells x = subst (λ (l : Look). IsBroken l s.md_len head f) (x.seen tells) x.broken

  -- where the device tells, the fault that it gave is the one of its image
  pub told_fault : (s : Super) (disk new : D) (head : ℕ) (f : ChainFault) → IsTrue d.tells → IsPagesFault f
      → IsChainCause d s disk new head f → IsBroken (region_look s (d.now disk)) s.md_len head f
  told_fault s disk new head (faults.LinkPastEnd p q) tells is x = told s disk head _ tells x
  told_fault s disk new head (faults.Loop p) tells is x = told s disk head _ tells x
  told_fault s disk new head faults.ReadFault tells is x = absurd is
  told_fault s disk new head (faults.Unsound p) tells is x = told s disk head _ tells x
  told_fault s disk new head (faults.WrongId p i) tells is x = told s disk head _ tells x
  told_fault s disk new head (faults.WrongSequence p i j) tells is x = told s disk head _ tells x
  told_fault s disk new head (faults.BadItem p at kind) tells is x = told s disk head _ tells x
  told_fault s disk new head faults.Memory tells is x = absurd is
