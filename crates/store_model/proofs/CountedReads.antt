-- A `read fault` in a run's log has its cause: a failed read is counted.
use Rattle.std.proofs.Common.{◌≡◌, ℕ, ◌<◌, ◌≤◌, Bool, List, [], ◌∷◌, ◌++◌, sym, ◌∙◌, ap, subst, arith, inl, inr}
use Rattle.std.specs.Prelude.{All}
use Rattle.std.proofs.lemmas.Bool.{cases_lt}
use Rattle.std.proofs.lemmas.List.Elements.{All-nil, All-push}
use Rattle.page_disk.specs.Disk.{Rose}
use Rattle.volume_model.specs.declared.reply.Reply.TheVariants as r
use Rattle.volume_model.specs.declared.reply.Entry.{Entry}
use Rattle.store_model.specs.Device.{Device}
use Rattle.store_model.specs.StoreState.{StoreState}
use Rattle.store_model.specs.Cases.{Kind, Run}
use Rattle.store_model.proofs.Over as Over
use Rattle.store_model.proofs.Over.{answer, fault, Goes, halt, Logs, no_less, nothing}
use Rattle.store_model.proofs.Turns.{law_of}

-- a count that rose in one turn, and was no smaller before and no greater behind, rose over all
rose_within : (first before after last : ℕ) → first ≤ before → before ≤ after → Rose before after → after ≤ last
    → Rose first last
rose_within first before after last low mid (inl lt) high = inl (omega (arith, low, lt, high))
rose_within first before after last low mid (inr full) high = elim (cases_lt first last) [
  | inl lt ↦ inl lt
  | inr ge ↦ let same : last ≡ after = omega (arith, low, mid, high, ge) in inr (same ∙ full)
]

-- no turn counts down
goes_later : (p q : StoreState) → Goes p q → p.device.read_faults ≤ q.device.read_faults
goes_later p q (Over.stays stopped device) = no_less (ap (λ (d : Device). d.read_faults) device)
goes_later p q (Over.moves runs stopped uncounted later) = later
goes_later p q (Over.breaks runs halted rose later) = later

run_later : (told : Bool) (p q : StoreState) (kinds : List Kind) → Run told p kinds q
    → p.device.read_faults ≤ q.device.read_faults
run_later told p q [] run = no_less (ap (λ (s : StoreState). s.device.read_faults) run)
run_later told p q (kind ∷ kinds) run =
    let one = goes_later p run.0 ((law_of kind).effect told p run.0 run.1).goes in
    let rest = run_later told run.0 q kinds run.2 in
    omega (arith, one, rest)

-- each `read fault` has its cause between these counts
abbrev AreCaused : ℕ → ℕ → List Entry → Type 0
AreCaused first last log = All (λ e. e.reply ≡ r.ReadFault → Rose first last) log

caused_push : (first last : ℕ) (p q : StoreState) (e : Entry) → AreCaused first last p.log
    → (e.reply ≡ r.ReadFault → Rose first last) → q.log ≡ p.log ++ e ∷ [] → AreCaused first last q.log
caused_push first last p q e so_far cause is = subst (AreCaused first last) (sym is)
    (All-push (λ (x : Entry). x.reply ≡ r.ReadFault → Rose first last) p.log e so_far cause)

caused_turn : (first last : ℕ) (p q : StoreState) → first ≤ p.device.read_faults
    → p.device.read_faults ≤ q.device.read_faults → q.device.read_faults ≤ last → Logs p q
    → AreCaused first last p.log → AreCaused first last q.log
caused_turn first last p q low mid high (nothing is marks) so_far = subst (AreCaused first last) (sym is) so_far
caused_turn first last p q low mid high (answer e is marks quiet runs cause) so_far = caused_push first last p q e
    so_far (λ failed. rose_within first p.device.read_faults q.device.read_faults last low mid (cause failed) high) is
caused_turn first last p q low mid high (halt e at is marks reply halted) so_far =
    caused_push first last p q e so_far (λ failed. absurd (let bad = sym reply ∙ failed in cc bad)) is
caused_turn first last p q low mid high (fault e is marks reply halted) so_far =
    caused_push first last p q e so_far (λ failed. absurd (let bad = sym reply ∙ failed in cc bad)) is

goes_on_caused : (told : Bool) (first : ℕ) (p q : StoreState) (kinds : List Kind) → Run told p kinds q
    → first ≤ p.device.read_faults → AreCaused first q.device.read_faults p.log
    → AreCaused first q.device.read_faults q.log
goes_on_caused told first p q [] run low so_far =
    subst (AreCaused first q.device.read_faults) (sym (ap (λ (s : StoreState). s.log) run)) so_far
goes_on_caused told first p q (kind ∷ kinds) run low so_far =
    let one = (law_of kind).effect told p run.0 run.1 in
    let mid = goes_later p run.0 one.goes in
    let last = q.device.read_faults in
    goes_on_caused told first run.0 q kinds run.2 (omega (arith, low, mid))
    (caused_turn first last p run.0 low mid (run_later told run.0 q kinds run.2) one.logs so_far)

pub run_reads : (told : Bool) (p q : StoreState) (kinds : List Kind) → Run told p kinds q → p.log ≡ []
    → All (λ e. e.reply ≡ r.ReadFault → Rose p.device.read_faults q.device.read_faults) q.log
run_reads told p q kinds run none =
    let first = p.device.read_faults in
    goes_on_caused told first p q kinds run (omega arith) (subst (AreCaused first q.device.read_faults) (sym none)
    (All-nil (λ (e : Entry). e.reply ≡ r.ReadFault → Rose first q.device.read_faults)))
