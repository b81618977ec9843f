-- A store stays one to which turns led from the store that was given.
use Rattle.std.proofs.Common.{◌≡◌, Option, Some, None, refl, sym, ap, subst, ◌∙◌}
use Rattle.page_disk.specs.declared.disk.PageDisk.{Ghosts}
use Rattle.store_model.specs.Repairing.{IsRepaired}
use Rattle.store_model.specs.StateLaws.{StateLaws}
use Rattle.store_model.specs.StoreState.{StoreState}
use Rattle.store_core.specs.StoreInvariant.{StoreInvariant}
use Rattle.running_store.specs.StoreView.{state_of, StoreView, WithOpening}
use Rattle.md_thread.specs.Leading.{Leads, stays, turns, TurnsOnceOrStays}
use Rattle.md_thread.proofs.Leading.{leads_nowhere, leads_on, leads_once}
use Rattle.worker_threads.specs.LockedStores.{IsLedFrom, LeadsFrom}

module _ {D : Type 0} (d : Ghosts D) where
  -- no turn was made of the store that was given
  pub starts_led : (given : Option (WithOpening D)) (p : WithOpening D) → given ≡ Some p
      → IsRepaired (state_of d p.at) → IsLedFrom d given p
  starts_led given p is repaired = subst (λ (g : Option (WithOpening D)). IsLedFrom d g p) (sym is) (record {
    opening = refl;
    right = refl;
    leads = leads_nowhere d.tells (state_of d p.at);
    repaired = repaired;
  })

  led_on : (given : Option (WithOpening D)) (p q : StoreState) → LeadsFrom d given p → Leads d.tells p q
      → LeadsFrom d given q
  led_on None p q led more = absurd led
  led_on (Some given) p q led more = leads_on d.tells (state_of d given.at) p q led more

  -- one turn more, or none
  pub still_led : (given : Option (WithOpening D)) (p q : WithOpening D) → IsLedFrom d given p
      → q.opening ≡ p.opening → q.right ≡ p.right
      → TurnsOnceOrStays d.tells (state_of d p.at) (state_of d q.at) → IsRepaired (state_of d q.at)
      → IsLedFrom d given q
  still_led given p q led opening right once repaired = record {
    opening = led.opening ∙ ap (λ (o : StoreView D). Some o) (sym opening);
    right = right ∙ led.right;
    leads = led_on given (state_of d p.at) (state_of d q.at) led.leads
        (leads_once d.tells (state_of d p.at) (state_of d q.at) once);
    repaired = repaired;
  }

  -- nothing is left to repair behind a turn
  repaired_on : (laws : StateLaws) (p q : WithOpening D) → StoreInvariant d p
      → TurnsOnceOrStays d.tells (state_of d p.at) (state_of d q.at) → IsRepaired (state_of d p.at)
      → IsRepaired (state_of d q.at)
  repaired_on laws p q kept (turns kind turn) repaired =
      laws.repaired_stays d.tells p.opening.super _ _ (state_of d p.at) (state_of d q.at) kind kept.facts turn repaired
  repaired_on laws p q kept (stays is) repaired = subst IsRepaired (sym is) repaired

  -- a turn of a channel
  pub channel_led : (laws : StateLaws) (given : Option (WithOpening D)) (p q : WithOpening D) → StoreInvariant d p
      → IsLedFrom d given p → q.opening ≡ p.opening → q.right ≡ p.right
      → TurnsOnceOrStays d.tells (state_of d p.at) (state_of d q.at) → IsLedFrom d given q
  channel_led laws given p q kept led opening right once =
      still_led given p q led opening right once (repaired_on laws p q kept once led.repaired)
