-- Which claims are wanted behind a replacement: none that wasn't before it.
use Rattle.std.proofs.Common.{◌≡◌, ◌+◌, ◌*◌, ◌/◌, ◌<◌, ◌≤◌, ℕ, Bool, false, ◌∷◌, Some, refl, sym, ap}
use Rattle.std.proofs.Common.{◌∙◌, subst, inl, inr, arith}
use Rattle.std.specs.Option.{option_map_or}
use Rattle.std.proofs.lemmas.Bool.{cases_Bool}
use Rattle.std.proofs.lemmas.Nat.{div-mul-add}
use Rattle.super_block.specs.Numbers.{cluster_pages_of}
use Rattle.blob_meta.specs.Parents.{slot}
use Rattle.blob_meta.specs.Resolving.{resolved}
use Rattle.store_model.specs.Cases.{Commits, ReplacesMore}
use Rattle.store_model.specs.Copying.{IsUpToDate, IsWanted, LeavesSlotsEmpty}
use Rattle.store_model.specs.Jobs.{Anything, Does, IsUnseen, JobStands, Keeps, ReadsZeros}
use Rattle.store_model.specs.Maps.{Map, Metas, without_entry}
use Rattle.store_model.specs.Phases.{has_commit, Replaces, Replacing}
use Rattle.store_model.specs.Rows.{OpenClaim}
use Rattle.store_model.specs.StoreState.{ForCommand, ForInsert, ForRepair, JobState, Service, StoreState}
use Rattle.store_model.specs.WithReplaced.{made_by}
use Rattle.store_model.proofs.CopiesCommitted.{renewed}
use Rattle.store_model.proofs.JobKept.{served_does}
use Rattle.store_model.proofs.Known.{Known}
use Rattle.store_model.proofs.OneReplacement.{some_pages}
use Rattle.store_model.proofs.Phases.{mends_no_commit}
use Rattle.store_model.proofs.ReplacedBlob.{generation_before, generation_kept}

-- Of the claims whose generations were drawn none is wanted behind a turn that wasn't before it.
pub record WantsNoMore (p q : StoreState) : Type 0 where
  pub drawn : p.drawn ≤ q.drawn
  pub wanted : (claim : OpenClaim) → claim.generation ≤ p.drawn → IsWanted q claim → IsWanted p claim

-- the blobs and their generations stay
pub same_blobs : (p : StoreState) {n q : StoreState} → q ≡ n → n.base ≡ p.base → n.generations ≡ p.generations
    → n.drawn ≡ p.drawn → WantsNoMore p q
same_blobs p {n} next base generations drawn = subst (WantsNoMore p) (sym next) (record {
  drawn = omega (arith, drawn);
  wanted = λ claim low wanted. record {
    current = ap (λ (g : Map ℕ). g claim.head) (sym generations) ∙ wanted.current;
    meta = wanted.meta;
    there = ap (λ (m : Metas). resolved m claim.head) (sym base) ∙ wanted.there;
    empty = wanted.empty;
  };
})

-- a slot of a claim's blob that is empty then was empty
was_wanted : (p q : StoreState) (claim : OpenClaim) → 0 < cluster_pages_of p.super
    → LeavesSlotsEmpty p.super (resolved p.base) (resolved q.base) Anything claim.head → IsUpToDate p claim
    → IsWanted q claim → IsWanted p claim
was_wanted p q claim some leaves current wanted =
    let k = cluster_pages_of p.super in
    let at : (claim.slot * k + 0) / k ≡ claim.slot = div-mul-add claim.slot k 0 some in
    let was = leaves (claim.slot * k + 0) wanted.meta wanted.there (ap (slot wanted.meta) at ∙ wanted.empty) in
    record { current = current; meta = was.old; there = was.there; empty = ap (slot was.old) (sym at) ∙ was.empty }

module _ (known : Known) where
  open known use {p, facts}

  module _ (told : Bool) (q : StoreState) where
    -- behind a commit
    pub commits_want : Commits told p q → WantsNoMore p q
    commits_want t = record {
      drawn = let more = ap (λ (v : StoreState). v.drawn) t.next in omega (arith, more);
      wanted = λ claim low wanted. elim (renewed (kept t.replacing) p.drawn t.commit.renews claim.head claim.generation
          (ap (λ (v : StoreState). v.generations claim.head) (sym t.next) ∙ wanted.current)) [
            | inl later ↦ absurd (omega (arith, low, later))
            | inr is ↦ was_wanted p q claim (some_pages known)
                (subst (λ (m : Metas). LeavesSlotsEmpty p.super (resolved p.base) (resolved m) Anything claim.head)
                (sym (ap (λ (v : StoreState). v.base) t.next)) ((does t).0.leaves claim.head is.0))
                (generation_kept p.generations t.replacing claim.head claim.generation is.1) wanted
          ];
    }
      where
        kept : Replacing → Map ℕ
        kept r = option_map_or (λ new. p.generations) r.new (without_entry p.generations r.head)

        does : (t : Commits told p q) → Does (ReadsZeros p.super t.running.job.claimed) p.super p.base p.live
            t.served.command (Replaces t.replacing (Some t.commit) ∷ t.running.rest)
        does t = subst (Does (ReadsZeros p.super t.running.job.claimed) p.super p.base p.live t.served.command)
            t.running.next (served_does known t.running.job t.running.is t.running.runs t.served
            (ap has_commit t.running.next))

    -- behind another replacement of a command's job or a repair's, with which the metadata resolves as before
    pub more_wants : ReplacesMore told p q → WantsNoMore p q
    more_wants t = subst (WantsNoMore p) (sym t.next) (record {
      drawn = omega arith;
      wanted = λ claim low wanted. record {
        current = generation_before p.generations p.drawn t.replacing (made_by t.replacing) claim.head claim.generation
            low wanted.current;
        meta = wanted.meta;
        there = ap (λ (m : Metas). m claim.head) (sym unseen) ∙ wanted.there;
        empty = wanted.empty;
      };
    })
      where
        job : JobState
        job = t.running.job

        stood : JobStands p job
        stood = (facts.well t.running.runs).job job t.running.is

        keeps : has_commit job.todo ≡ false → IsUnseen p.base t.replacing
        keeps none = (subst (Keeps p.base) t.running.next (stood.keeps none t.no_insert)).0

        by : (serves : Service) → job.serves ≡ serves → IsUnseen p.base t.replacing
        by (ForCommand channel) is = elim (cases_Bool (has_commit job.todo)) [
          | inl waits ↦
              let y = stood.served channel is waits in
              (subst (Does (ReadsZeros p.super job.claimed) p.super p.base p.live y.command) t.running.next y.does).0
          | inr none ↦ keeps none
        ]
        by (ForInsert channel) is = absurd (t.no_insert channel is)
        by ForRepair is = keeps (mends_no_commit job.todo (stood.mends is))

        unseen : IsUnseen p.base t.replacing
        unseen = by job.serves refl
