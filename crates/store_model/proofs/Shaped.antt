-- How rows stand to the job, when one row changes.
use Rattle.std.proofs.Common.{◌⊎◌, Option, ◌≡◌, ◌≢◌, ℕ, List, [], ◌∷◌, Some, None, refl, sym, ◌∙◌, ap, subst, inl, inr}
use Rattle.std.proofs.Common.{false, true}
use Rattle.std.proofs.lemmas.Bool.{cases_eq}
use Rattle.volume_model.specs.declared.command.Command.{Command}
use Rattle.store_model.specs.Rows.{
  Claiming,
  Copying,
  fill_row,
  OpenClaim,
  Row,
  Rows,
  Stage,
  Idle,
  Posted,
  InJob,
  Answered,
  Decided,
  Decision,
  Ended,
  with_row,
}
use Rattle.store_model.specs.StoreState.{JobState, StoreState, ForCommand, waiting}
use Rattle.store_model.specs.RunInvariant.{IsServedRow, MayClaim, IsShaped}
use Rattle.store_model.proofs.RowsKept.{row_here, row_other}
use Rattle.store_model.specs.Phases.{has_commit}

-- the job for which a channel waits
pub record Serves (p : StoreState) (channel : ℕ) : Type 0 where
  pub job : JobState
  pub is : p.job ≡ Some job
  pub waits : waiting job.serves job.todo ≡ Some channel

pub serves : (p : StoreState) → IsShaped p → (channel : ℕ) → (p.rows channel).stage ≡ InJob → Serves p channel
serves p shaped channel is = let x = shaped.in_job channel is in record { job = x.0; is = x.1; waits = x.2 }

-- no channel is in a job for which none waits
pub none_waiting : (p : StoreState) → IsShaped p → (job : JobState) → p.job ≡ Some job
    → waiting job.serves job.todo ≡ None
    → (channel : ℕ) → (p.rows channel).stage ≡ InJob → ⊥
none_waiting p shaped job is none channel in_job =
    let x = serves p shaped channel in_job in
    let same : x.job ≡ job = let both = sym x.is ∙ is in cc both in
    let bad : Some channel ≡ None = sym x.waits ∙ ap (λ (j : JobState). waiting j.serves j.todo) same ∙ none in
    cc bad

pub none_without : (p : StoreState) → IsShaped p → p.job ≡ None → (channel : ℕ) → (p.rows channel).stage ≡ InJob → ⊥
none_without p shaped none channel in_job =
    let x = serves p shaped channel in_job in let bad = sym x.is ∙ none in cc bad

-- only the channel that waits for a job is in it
pub only_served : (p : StoreState) → IsShaped p → (job : JobState) → p.job ≡ Some job → (waits : ℕ)
    → waiting job.serves job.todo ≡ Some waits
    → (channel : ℕ) → (p.rows channel).stage ≡ InJob → channel ≡ waits
only_served p shaped job is waits known channel in_job =
    let x = serves p shaped channel in_job in
    let same : x.job ≡ job = let both = sym x.is ∙ is in cc both in
    let both : Some channel ≡ Some waits = sym x.waits ∙ ap (λ (j : JobState). waiting j.serves j.todo) same ∙ known in
    cc both

-- the channel of a command that waits for its commit
pub waits_for_commit : (j : JobState) (channel : ℕ) → j.serves ≡ ForCommand channel → has_commit j.todo ≡ true
    → waiting j.serves j.todo ≡ Some channel
waits_for_commit j channel serves commit = rw (serves, commit) refl

pub waits_no_more : (j : JobState) (channel : ℕ) → j.serves ≡ ForCommand channel → has_commit j.todo ≡ false
    → waiting j.serves j.todo ≡ None
waits_no_more j channel serves commit = rw (serves, commit) refl

-- what a row may be
pub record MayBe (p : StoreState) (channel : ℕ) (row : Row) : Type 0 where
  pub posted : (serial : ℕ) → row.stage ≡ Posted serial → (row.claim ≡ None) ⊎ (channel ≢ fill_row)
      → row.left ≢ []
  pub in_job : row.stage ≡ InJob → Serves p channel
  pub ended : row.stage ≡ Ended → row.left ≡ []
  pub claims : (claim : OpenClaim) → row.claim ≡ Some claim → MayClaim row.stage

module _ (p : StoreState) (shaped : IsShaped p) (q : StoreState) (channel : ℕ) (row : Row)
    (rows : q.rows ≡ with_row p.rows channel row)
    (others : (c : ℕ) → c ≢ channel → (p.rows c).stage ≡ InJob → Serves q c) where
  here : (c : ℕ) → c ≡ channel → q.rows c ≡ row
  here c e = ap (λ (r : Rows). r c) rows ∙ row_here p.rows channel row c e

  there : (c : ℕ) → c ≢ channel → q.rows c ≡ p.rows c
  there c ne = ap (λ (r : Rows). r c) rows ∙ row_other p.rows channel row c ne

  given_back : (c : ℕ) → Serves q c → (job : JobState) × (q.job ≡ Some job) × (waiting job.serves job.todo ≡ Some c)
  given_back c x = (x.job, x.is, x.waits)

  pub shaped_with : MayBe q channel row → ((job : JobState) (c : ℕ) → q.job ≡ Some job → job.serves ≡ ForCommand c
      → has_commit job.todo ≡ true → IsServedRow (q.rows c)) → IsShaped q
  shaped_with may served = record {
    served = served;
    posted = λ c serial is none. elim (cases_eq c channel) [
      | inl e ↦ subst (λ (r : Row). r.left ≢ []) (sym (here c e))
          (may.posted serial (sym (ap (λ (r : Row). r.stage) (here c e)) ∙ is) (elim none [
            | inl unclaimed ↦ inl (sym (ap (λ (r : Row). r.claim) (here c e)) ∙ unclaimed)
            | inr ne ↦ inr (λ f. ne (e ∙ f))
          ]))
      | inr ne ↦ subst (λ (r : Row). r.left ≢ []) (sym (there c ne))
          (shaped.posted c serial (sym (ap (λ (r : Row). r.stage) (there c ne)) ∙ is) (elim none [
            | inl unclaimed ↦ inl (sym (ap (λ (r : Row). r.claim) (there c ne)) ∙ unclaimed)
            | inr other ↦ inr other
          ]))
    ];
    in_job = λ c is. elim (cases_eq c channel) [
      | inl e ↦ given_back c (subst (Serves q) (sym e) (may.in_job (sym (ap (λ (r : Row). r.stage) (here c e)) ∙ is)))
      | inr ne ↦ given_back c (others c ne (sym (ap (λ (r : Row). r.stage) (there c ne)) ∙ is))
    ];
    ended = λ c is. elim (cases_eq c channel) [
      | inl e ↦ ap (λ (r : Row). r.left) (here c e) ∙ may.ended (sym (ap (λ (r : Row). r.stage) (here c e)) ∙ is)
      | inr ne ↦
          ap (λ (r : Row). r.left) (there c ne) ∙ shaped.ended c (sym (ap (λ (r : Row). r.stage) (there c ne)) ∙ is)
    ];
    claims = λ c claim is. elim (cases_eq c channel) [
      | inl e ↦ subst (λ (r : Row). MayClaim r.stage) (sym (here c e))
          (may.claims claim (sym (ap (λ (r : Row). r.claim) (here c e)) ∙ is))
      | inr ne ↦ subst (λ (r : Row). MayClaim r.stage) (sym (there c ne))
          (shaped.claims c claim (sym (ap (λ (r : Row). r.claim) (there c ne)) ∙ is))
    ];
  }

-- with the rows as they were
pub shaped_same : (p q : StoreState) → IsShaped p → q.rows ≡ p.rows → ((c : ℕ) → (p.rows c).stage ≡ InJob → Serves q c)
    → ((job : JobState) (c : ℕ) → q.job ≡ Some job → job.serves ≡ ForCommand c → has_commit job.todo ≡ true
    → IsServedRow (p.rows c)) → IsShaped q
shaped_same p q shaped rows served serving = record {
  served = λ job c is serves waits. subst (λ (r : Rows). IsServedRow (r c)) (sym rows) (serving job c is serves waits);
  posted = λ c serial is none. subst (λ (r : Rows). (r c).left ≢ []) (sym rows)
      (shaped.posted c serial (sym (ap (λ (r : Rows). (r c).stage) rows) ∙ is) (elim none [
        | inl unclaimed ↦ inl (sym (ap (λ (r : Rows). (r c).claim) rows) ∙ unclaimed)
        | inr other ↦ inr other
      ]));
  in_job = λ c is. let x = served c (sym (ap (λ (r : Rows). (r c).stage) rows) ∙ is) in (x.job, x.is, x.waits);
  ended = λ c is. ap (λ (r : Rows). (r c).left) rows ∙ shaped.ended c (sym (ap (λ (r : Rows). (r c).stage) rows) ∙ is);
  claims = λ c claim is. subst (λ (r : Rows). MayClaim (r c).stage) (sym rows)
      (shaped.claims c claim (sym (ap (λ (r : Rows). (r c).claim) rows) ∙ is));
}

-- the same job serves
pub serves_same : (p q : StoreState) → q.job ≡ p.job → (channel : ℕ) → Serves p channel → Serves q channel
serves_same p q job channel x = record { job = x.job; is = job ∙ x.is; waits = x.waits }

-- a row at a stage that holds no claim has none
pub no_claim : (p : StoreState) → IsShaped p → (channel : ℕ) → (MayClaim (p.rows channel).stage → ⊥)
    → (p.rows channel).claim ≡ None
no_claim p shaped channel never = by (p.rows channel).claim refl
  where
    by : (o : Option OpenClaim) → (p.rows channel).claim ≡ o → (p.rows channel).claim ≡ None
    by None is = is
    by (Some claim) is = absurd (never (shaped.claims channel claim is))

-- the row that the job serves stays where the job does and another row changes
pub served_still : (p q : StoreState) → IsShaped p → q.job ≡ p.job → (channel : ℕ) (row : Row)
    → q.rows ≡ with_row p.rows channel row → ((p.rows channel).stage ≡ InJob → ⊥)
    → (job : JobState) (c : ℕ) → q.job ≡ Some job → job.serves ≡ ForCommand c → has_commit job.todo ≡ true
    → IsServedRow (q.rows c)
served_still p q shaped same channel row rows free job c is serves waits =
    let x = shaped.served job c (sym same ∙ is) serves waits in
    let apart : c ≢ channel = λ e. free (ap (λ k. (p.rows k).stage) (sym e) ∙ ap (λ (r : Row). r.stage) x.is) in
    record {
      command = x.command;
      rest = x.rest;
      is = ap (λ (r : Rows). r c) rows ∙ row_other p.rows channel row c apart ∙ x.is;
    }

-- the job stays, and another row changes
pub shaped_row : (p q : StoreState) → IsShaped p → q.job ≡ p.job → (channel : ℕ) (row : Row)
    → q.rows ≡ with_row p.rows channel row → MayBe q channel row → ((p.rows channel).stage ≡ InJob → ⊥) → IsShaped q
shaped_row p q shaped job channel row rows may free = shaped_with p shaped q channel row rows
    (λ c ne in_job. serves_same p q job c (serves p shaped c in_job)) may
    (served_still p q shaped job channel row rows free)

-- the job stays, and all rows
pub shaped_still : (p q : StoreState) → IsShaped p → q.job ≡ p.job → q.rows ≡ p.rows → IsShaped q
shaped_still p q shaped job rows = shaped_same p q shaped rows
    (λ c in_job. serves_same p q job c (serves p shaped c in_job)) (λ j c is. shaped.served j c (sym job ∙ is))

-- ---- rows of one stage

pub idle_may : (p : StoreState) (channel : ℕ) (left : List Command)
    → MayBe p channel (record { left = left; stage = Idle; claim = None })
idle_may p channel left = record {
  posted = λ serial is. absurd (cc is);
  in_job = λ is. absurd (cc is);
  ended = λ is. absurd (cc is);
  claims = λ claim is. absurd (cc is);
}

pub claiming_may : (p : StoreState) (channel : ℕ) (left : List Command)
    → MayBe p channel (record { left = left; stage = Claiming; claim = None })
claiming_may p channel left = record {
  posted = λ serial is. absurd (cc is);
  in_job = λ is. absurd (cc is);
  ended = λ is. absurd (cc is);
  claims = λ claim is. absurd (cc is);
}

pub copying_may : (p : StoreState) (channel : ℕ) (left : List Command) (pages : ℕ) (claim : OpenClaim)
    → MayBe p channel (record { left = left; stage = Copying pages; claim = Some claim })
copying_may p channel left pages claim = record {
  posted = λ serial is. absurd (cc is);
  in_job = λ is. absurd (cc is);
  ended = λ is. absurd (cc is);
  claims = λ claim is. tt;
}

-- a row that holds a claim
pub holding_may : (p : StoreState) (channel : ℕ) (left : List Command) (stage : Stage) (claim : OpenClaim)
    → MayClaim stage → ((serial : ℕ) → stage ≡ Posted serial → channel ≢ fill_row → left ≢ [])
    → (stage ≡ InJob → Serves p channel)
    → MayBe p channel (record { left = left; stage = stage; claim = Some claim })
holding_may p channel left stage claim may posted serves = record {
  posted = λ serial is either. elim either [ inl none ↦ absurd (cc none) | inr ne ↦ posted serial is ne ];
  in_job = serves;
  ended = λ is. absurd (subst MayClaim is may);
  claims = λ other is. may;
}

pub decided_may : (p : StoreState) (channel : ℕ) (left : List Command)
    → MayBe p channel (record { left = left; stage = Decided Answered; claim = None })
decided_may p channel left = record {
  posted = λ serial is. absurd (cc is);
  in_job = λ is. absurd (cc is);
  ended = λ is. absurd (cc is);
  claims = λ claim is. absurd (cc is);
}

-- a row whose claim was lost, or won
pub outcome_may : (outcome : Decision) (p : StoreState) (channel : ℕ) (left : List Command)
    → MayBe p channel (record { left = left; stage = Decided outcome; claim = None })
outcome_may outcome p channel left = record {
  posted = λ serial is. absurd (cc is);
  in_job = λ is. absurd (cc is);
  ended = λ is. absurd (cc is);
  claims = λ claim is. absurd (cc is);
}

pub ended_may : (p : StoreState) (channel : ℕ) → MayBe p channel (record { left = []; stage = Ended; claim = None })
ended_may p channel = record {
  posted = λ serial is. absurd (cc is);
  in_job = λ is. absurd (cc is);
  ended = λ is. refl;
  claims = λ claim is. absurd (cc is);
}

pub posted_may : (p : StoreState) (channel serial : ℕ) (command : Command) (rest : List Command)
    → MayBe p channel (record { left = command ∷ rest; stage = Posted serial; claim = None })
posted_may p channel serial command rest = record {
  posted = λ n is unclaimed none. cc none;
  in_job = λ is. absurd (cc is);
  ended = λ is. absurd (cc is);
  claims = λ claim is. absurd (cc is);
}

pub in_job_may : (p : StoreState) (channel : ℕ) (command : Command) (rest : List Command) → Serves p channel
    → MayBe p channel (record { left = command ∷ rest; stage = InJob; claim = None })
in_job_may p channel command rest x = record {
  posted = λ serial is. absurd (cc is);
  in_job = λ is. x;
  ended = λ is. absurd (cc is);
  claims = λ claim is. absurd (cc is);
}
