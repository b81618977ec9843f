-- The codes by which contracts store the running job.
use Rattle.std.specs.Prelude.{◌≡◌, ◌⊎◌, ℕ, ◌==◌, if◌then◌else◌, Bool, List, Option, refl}
use Rattle.std.specs.Coded.{Coded, code_by, coded×, coded⊎, coded_ℕ, coded_bool, coded_list, coded_option}
use Rattle.volume_model.specs.declared.reply.Reply.{Reply}
use Rattle.volume_model.specs.contracts.reply.Reply as reply
use Rattle.volume_model.specs.contracts.text.Xattr as xattr
use Rattle.volume_model.specs.declared.text.Xattr.{Xattr}
use Rattle.blob_meta.specs.declared.meta.Meta.{Meta}
use Rattle.blob_meta.specs.contracts.meta.Meta as meta
use Rattle.md_chain.specs.declared.plan.PlannedPage.{PlannedPage}
use Rattle.md_chain.specs.contracts.plan.PlannedPage as planned_page
use Rattle.store_model.specs.Phases.{Committing, LiveChange, Phase, Marks, Zeros, Writes, Replaces, Erases, Frees}
use Rattle.store_model.specs.Phases.{Replacing}
use Rattle.store_model.specs.StoreState.{JobState, Service, ForCommand, ForInsert, ForRepair}
use Rattle.std.proofs.Common.{ap, inl, inr}

abbrev pub replacing_code : Coded Replacing
replacing_code =
    code_by (ℕ × (Option Meta × (Bool × (List ℕ × (List PlannedPage × (List ℕ × List ℕ))))))
    (coded× coded_ℕ (coded× (coded_option meta.the_row.coded) (coded× coded_bool (coded× (coded_list coded_ℕ)
    (coded× (coded_list planned_page.the_row.coded) (coded× (coded_list coded_ℕ) (coded_list coded_ℕ)))))))
    (λ x. (x.head, (x.new, (x.makes, (x.fresh, (x.planned, (x.old, x.freed)))))))
    (λ p. record {
      head = p.0;
      new = p.1.0;
      makes = p.1.1.0;
      fresh = p.1.1.1.0;
      planned = p.1.1.1.1.0;
      old = p.1.1.1.1.1.0;
      freed = p.1.1.1.1.1.1;
    }) (λ _. refl)

abbrev pub live_code : Coded LiveChange
live_code =
    code_by (ℕ × Option (List Xattr)) (coded× coded_ℕ (coded_option (coded_list xattr.the_row.coded)))
    (λ x. (x.head, x.xattrs)) (λ p. record { head = p.0; xattrs = p.1 }) (λ _. refl)

abbrev pub committing_code : Coded Committing
committing_code =
    code_by (Reply × (Option LiveChange × List ℕ))
    (coded× reply.the_row.coded (coded× (coded_option live_code) (coded_list coded_ℕ)))
    (λ x. (x.reply, (x.live, x.renews))) (λ p. record { reply = p.0; live = p.1.0; renews = p.1.1 }) (λ _. refl)

-- a phase is one of these
abbrev pub PhaseSum : Type 0
PhaseSum = ℕ ⊎ (ℕ ⊎ (ℕ ⊎ ((Replacing × Option Committing) ⊎ (ℕ ⊎ (ℕ × List ℕ)))))

abbrev pub phase_in : Phase → PhaseSum
phase_in Marks = inl 0
phase_in (Zeros page) = inr (inl page)
phase_in (Writes place) = inr (inr (inl place))
phase_in (Replaces replacing commit) = inr (inr (inr (inl (replacing, commit))))
phase_in (Erases place) = inr (inr (inr (inr (inl place))))
phase_in (Frees place old) = inr (inr (inr (inr (inr (place, old)))))

abbrev pub phase_out : PhaseSum → Phase
phase_out (inl n) = Marks
phase_out (inr (inl page)) = Zeros page
phase_out (inr (inr (inl place))) = Writes place
phase_out (inr (inr (inr (inl p)))) = Replaces p.0 p.1
phase_out (inr (inr (inr (inr (inl place))))) = Erases place
phase_out (inr (inr (inr (inr (inr p))))) = Frees p.0 p.1

pub phase_back : (p : Phase) → phase_out (phase_in p) ≡ p
phase_back Marks = refl
phase_back (Zeros page) = refl
phase_back (Writes place) = refl
phase_back (Replaces replacing commit) = refl
phase_back (Erases place) = refl
phase_back (Frees place old) = refl

abbrev pub phase_code : Coded Phase
phase_code =
    code_by PhaseSum
    (coded⊎ coded_ℕ (coded⊎ coded_ℕ (coded⊎ coded_ℕ (coded⊎ (coded× replacing_code (coded_option committing_code))
    (coded⊎ coded_ℕ (coded× coded_ℕ (coded_list coded_ℕ)))))))
    phase_in phase_out phase_back

abbrev pub service_in : Service → ℕ × ℕ
service_in (ForCommand channel) = (0, channel)
service_in (ForInsert channel) = (1, channel)
service_in ForRepair = (2, 0)

abbrev pub service_out : ℕ × ℕ → Service
service_out p = if p.0 == 0 then ForCommand p.1 else (if p.0 == 1 then ForInsert p.1 else ForRepair)

pub service_back : (x : Service) → service_out (service_in x) ≡ x
service_back (ForCommand channel) = refl
service_back (ForInsert channel) = refl
service_back ForRepair = refl

abbrev pub job_code : Coded JobState
job_code =
    code_by ((ℕ × ℕ) × (Option ℕ × (List ℕ × (List ℕ × List Phase))))
    (coded× (coded× coded_ℕ coded_ℕ) (coded× (coded_option coded_ℕ)
    (coded× (coded_list coded_ℕ) (coded× (coded_list coded_ℕ) (coded_list phase_code)))))
    (λ j. (service_in j.serves, (j.freeze, (j.claimed, (j.written, j.todo)))))
    (λ p. record { serves = service_out p.0; freeze = p.1.0; claimed = p.1.1.0; written = p.1.1.1.0; todo = p.1.1.1.1 })
    (λ j. ap (λ x. record j { serves = x }) (service_back j.serves))
