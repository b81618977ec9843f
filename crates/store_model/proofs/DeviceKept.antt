-- The device goes on: what every state has is kept where what is read shows the same.
use Rattle.page_disk.specs.Disk.{Image}
use Rattle.std.specs.Prelude.{ℕ, ◌/◌, true}
use Rattle.md_chain.specs.Chain.{is_among}
use Rattle.super_block.specs.Numbers.{cluster_pages_of}
use Rattle.store_model.specs.Places.{claimed_by}
use Rattle.std.proofs.Common.{◌≡◌, ◌≤◌, None, Option, refl, sym, ap, ◌∙◌, subst, arith}
use Rattle.volume_model.specs.Volumes.{Volumes}
use Rattle.volume_model.specs.Steps.{Allowed}
use Rattle.volume_model.specs.declared.command.Command.{Command}
use Rattle.volume_model.specs.declared.reply.Reply.{Reply}
use Rattle.store_model.specs.Copying.{AreCopied}
use Rattle.store_model.specs.Device.{Device}
use Rattle.store_model.specs.Shown.{fixed_of}
use Rattle.store_model.specs.StoreState.{shown, StoreState}
use Rattle.store_model.specs.RunInvariant.{RunInvariant}
use Rattle.store_model.proofs.Copies.{copied_same}
use Rattle.store_model.proofs.FactsKept.{claims_kept, facts_kept, log_stays, runs_on}
use Rattle.store_model.proofs.Guarding.{guarded_same}
use Rattle.store_model.proofs.Known.{Known}
use Rattle.store_model.proofs.Moved.{stands_same}
use Rattle.store_model.proofs.Shaped.{shaped_still}

module _ (known : Known) where
  open known use {s, placed, first, script, p, facts}

  -- what is allowed is so still, once the device has gone on
  pub shown_device : (d : Device) → d.reads ≡ p.device.reads
      → (command : Command) (reply : Reply) → Allowed (fixed_of p.super) (shown p) command reply
      → Allowed (fixed_of p.super) (shown (record p { device = d })) command reply
  shown_device d reads command reply allowed =
      let same : shown (record p { device = d }) ≡ shown p =
      ap (λ i. shown (record p { device = record d { reads = i } })) reads in
      subst (λ (v : Volumes). Allowed (fixed_of p.super) v command reply) (sym same) allowed

  -- the device goes on, and so may the fill: what is read shows the same volumes, and what was copied
  pub device_by : (filling : Option ℕ) (d : Device) → shown (record p { device = d; filling = filling }) ≡ shown p
      → (p.stopped ≡ None → AreCopied (record p { device = d; filling = filling }))
      → ((page : ℕ) → is_among (page / cluster_pages_of p.super) (claimed_by p.job) ≡ true
      → d.reads page ≡ p.device.reads page) → p.device.clock ≤ d.clock
      → RunInvariant s first script (record p { device = d; filling = filling })
  device_by filling d same copied zeroed later =
      let now : StoreState = record p { device = d; filling = filling } in
      facts_kept known now refl refl (record {
        logs = log_stays known now refl refl refl (λ c. refl) later;
        well = λ runs.
            let well = facts.well runs in
            runs_on first p now well refl (record {
              pages = well.pages;
              held = claims_kept first p now well refl refl refl refl (λ c. refl) refl (copied runs);
              job = λ j is. stands_same p now refl refl refl refl refl j (λ c in_job. refl)
                  (λ page among. zeroed page (ap (λ o. is_among (page / cluster_pages_of p.super) (claimed_by o)) is
                  ∙ among)) (well.job j is);
              replayed = same ∙ well.replayed;
            });
        shaped = shaped_still p now facts.shaped refl refl;
        guarded = guarded_same p now refl refl refl facts.guarded;
        halted = facts.halted;
        unfinished = facts.unfinished;
      })

  -- the fill's row works for another command, or for none
  pub filling_facts : (filling : Option ℕ) → RunInvariant s first script (record p { filling = filling })
  filling_facts filling = device_by filling p.device refl
      (λ runs. copied_same p (record p { filling = filling }) (facts.well runs).copied refl refl refl
      (λ row claim page x. x) refl)
      (λ page among. refl) (omega arith)

  -- it reads what it read
  pub device_facts : (d : Device) → d.reads ≡ p.device.reads → p.device.clock ≤ d.clock
      → RunInvariant s first script (record p { device = d })
  device_facts d reads later =
      device_by p.filling d (ap (λ i. shown (record p { device = record d { reads = i } })) reads)
      (λ runs. copied_same p (record p { device = d }) (facts.well runs).copied refl refl refl (λ row claim page x. x)
      reads) (λ page among. ap (λ (i : Image). i page) reads) later
