-- A job whose next turn replaces a head: what is known of the replacement, and of the chains and the pages behind it.
use Rattle.std.proofs.Common.{◌≡◌, ◌++◌, ◌<◌, ◌∷◌, Option, ap, inl, inr, subst, sym}
use Rattle.super_block.specs.declared.page.Super.{Super}
use Rattle.store_model.specs.Jobs.{CanReplace, gained_by, JobStands, Lays}
use Rattle.store_model.specs.Phases.{Committing, held_in, rechained, replaced, Replaces, Replacing, taken_by, taken_in}
use Rattle.store_model.specs.Places.{AreDistinct, held_by, UsedPages}
use Rattle.store_model.specs.RunInvariant.{HaveChains, RunsWell}
use Rattle.store_model.specs.Turning.{Runs}
use Rattle.store_model.specs.WithReplaced.{pages_with}
use Rattle.store_model.proofs.JobKept.{held_is, held_low}
use Rattle.store_model.proofs.Known.{Known}
use Rattle.store_model.proofs.LeftToDo.{among_left, among_taken}
use Rattle.store_model.proofs.ReplacedBlob.{chains_replaced, low_replaced, pages_replaced}
use Rattle.store_model.proofs.Sets.{AllBelow, among_either}
use Rattle.store_model.proofs.UsedCommitted.{old_distinct}

module _ (known : Known) (r : Replacing) (o : Option Committing) (running : Runs known.p (Replaces r o)) where
  open known use {s, first, p, facts}
  open running use {job, rest}

  pub record IsAtHead : Type 0 where
    pub well : RunsWell first p
    pub stood : JobStands p job
    pub lays : Lays p.super p.base p.chains (gained_by p.rows job) job.written (Replaces r o ∷ rest)
    pub can : CanReplace p.super p.base p.chains (gained_by p.rows job) job.written r
    -- the places that the job holds
    pub differ : AreDistinct (taken_by r ++ taken_in rest)
    pub used : UsedPages p.super.md_len p.pages p.chains (taken_by r ++ taken_in rest)
    pub low : r.head < p.super.md_len
    pub under : r.head < s.md_len
    -- behind the turn
    pub left : AreDistinct (held_in rest)
    pub chains : HaveChains p.super (replaced p.base r) (rechained p.chains r)
    pub pages : UsedPages p.super.md_len (pages_with p.pages r) (rechained p.chains r) (held_in rest)

  pub at_head : IsAtHead
  at_head =
      let well = facts.well running.runs in
      let stood = well.job job running.is in
      let lays : Lays p.super p.base p.chains (gained_by p.rows job) job.written (Replaces r o ∷ rest) =
      subst (Lays p.super p.base p.chains (gained_by p.rows job) job.written) running.next stood.lays in
      let can : CanReplace p.super p.base p.chains (gained_by p.rows job) job.written r = lays.0 in
      let later = taken_in rest in
      let held : held_by p.job ≡ taken_by r ++ later = held_is known job running.is (Replaces r o) rest running.next in
      let differ : AreDistinct (taken_by r ++ later) = subst AreDistinct (ap held_in running.next) stood.distinct in
      let used : UsedPages p.super.md_len p.pages p.chains (taken_by r ++ later) =
      subst (UsedPages p.super.md_len p.pages p.chains) held well.pages in
      let low : r.head < p.super.md_len = low_replaced p.super p.base p.chains well.chains p.pages r later can.chain
      can.unerased can.gone used (λ m is. (can.stored m is).low) in
      let all_low : AllBelow p.super.md_len (r.head ∷ r.fresh) =
      λ x among. elim (among_either x r.head r.fresh among) [
        | inl e ↦ subst (λ n. n < p.super.md_len) (sym e) low
        | inr f ↦ subst (λ (y : Super). x < y.md_len) (sym facts.super)
            (held_low known well (taken_by r ++ later) held x (among_left x (taken_by r) later (among_taken r x f)))
      ] in
      record {
        well = well;
        stood = stood;
        lays = lays;
        can = can;
        differ = differ;
        used = used;
        low = low;
        under = subst (λ (y : Super). r.head < y.md_len) facts.super low;
        left = subst AreDistinct (sym lays.1)
            (old_distinct p.super p.base p.chains well.chains p.pages r later can.chain can.unerased used differ);
        chains = chains_replaced p.super p.base p.chains well.chains p.pages r later can.chain can.unerased can.gone
            used differ all_low;
        pages = subst (UsedPages p.super.md_len (pages_with p.pages r) (rechained p.chains r)) (sym lays.1)
            (pages_replaced p.super p.base p.chains well.chains p.pages r later can.chain can.unerased can.gone used
            differ);
      }
