-- A phase is done, and the job goes on with what is left, or ends: who waits for it waits on.
use Rattle.std.proofs.Common.{◌≡◌, ◌≢◌, ℕ, List, [], ◌∷◌, Option, Some, None, true, refl, sym, ap, ◌∙◌}
use Rattle.std.proofs.Common.{subst, arith}
use Rattle.store_model.specs.Phases.{has_commit, Phase}
use Rattle.store_model.specs.RunInvariant.{IsServedRow, IsShaped}
use Rattle.store_model.specs.Rows.{InJob}
use Rattle.store_model.specs.StoreState.{ForCommand, ForInsert, ForRepair, going_on, JobState, Service, StoreState}
use Rattle.store_model.specs.StoreState.{turns_left, waiting}
use Rattle.store_model.proofs.LeftToDo.{goes_on_as, same_wait}
use Rattle.store_model.proofs.Progress.{clears, JobLaw, none_after, NoneWaits, Progress, turns_after, turns_here, waits}
use Rattle.store_model.proofs.Shaped.{serves, Serves}

-- a job, not of an insert, whose next phase is no commit, and as which it goes on
module _ (p : StoreState) (j : JobState) (is : p.job ≡ Some j) (phase : Phase) (rest : List Phase)
    (next : j.todo ≡ phase ∷ rest) (same : has_commit (phase ∷ rest) ≡ has_commit rest)
    (no_insert : (channel : ℕ) → j.serves ≢ ForInsert channel) (other : JobState) (serving : other.serves ≡ j.serves)
    (q : StoreState) (now : q.job ≡ going_on other [] rest) where
  waits_on : waiting j.serves j.todo ≡ waiting j.serves rest
  waits_on = same_wait j phase rest next same

  -- a channel that waits for the job finds it going on
  some : (c : ℕ) → waiting j.serves j.todo ≡ Some c → rest ≢ []
  some c wait none = by j.serves refl (sym waits_on ∙ wait)
    where
      by : (x : Service) → j.serves ≡ x → waiting x rest ≡ Some c → ⊥
      by (ForCommand d) is w =
          let e : waiting (ForCommand d) [] ≡ Some c = subst (λ l. waiting (ForCommand d) l ≡ Some c) none w in cc e
      by (ForInsert d) is w = no_insert d is
      by ForRepair is w = cc w

  going : (todo : List Phase) → todo ≢ [] → going_on other [] todo ≡ Some (record other { written = []; todo = todo })
  going [] more = absurd (more refl)
  going (x ∷ xs) more = refl

  waiting_then : waiting other.serves rest ≡ waiting j.serves j.todo
  waiting_then = ap (λ x. waiting x rest) serving ∙ sym waits_on

  pub serves_still : IsShaped p → (c : ℕ) → (p.rows c).stage ≡ InJob → Serves q c
  serves_still shaped c in_job =
      let y = serves p shaped c in_job in
      let e : y.job ≡ j = let both = sym y.is ∙ is in cc both in
      let here : waiting j.serves j.todo ≡ Some c =
      ap (λ (i : JobState). waiting i.serves i.todo) (sym e) ∙ y.waits in
      record {
        job = record other { written = []; todo = rest };
        is = now ∙ going rest (some c here);
        waits = waiting_then ∙ here;
      }

  pub served_still : IsShaped p → (k : JobState) (c : ℕ) → q.job ≡ Some k → k.serves ≡ ForCommand c
      → has_commit k.todo ≡ true → IsServedRow (p.rows c)
  served_still shaped k c here served ahead =
      let g = goes_on_as other [] rest k (sym now ∙ here) in
      shaped.served j c is (sym serving ∙ ap (λ (i : JobState). i.serves) (sym g.is) ∙ served)
      (ap has_commit next ∙ same ∙ ap (λ (i : JobState). has_commit i.todo) (sym g.is) ∙ ahead)

  pub unfinished_still : (k : JobState) → q.job ≡ Some k → k.todo ≢ []
  unfinished_still k here =
      let g = goes_on_as other [] rest k (sym now ∙ here) in
      subst (λ (i : JobState). i.todo ≢ []) (sym g.is) g.some

  progress_of : q.rows ≡ p.rows → (o : Option ℕ) → waiting j.serves j.todo ≡ o → Progress p q
  progress_of rows None none = clears j is none rows
      (subst NoneWaits (sym now) (none_after other [] rest (waiting_then ∙ none)))
  progress_of rows (Some c) some_waits = waits j (record other { written = []; todo = rest }) is
      (now ∙ going rest (some c some_waits)) waiting_then rows

  -- it comes nearer to its end
  pub goes_on_law : q.rows ≡ p.rows → JobLaw p q
  goes_on_law rows =
      let before = turns_here p.job j phase rest is next in
      let then = ap turns_left now ∙ turns_after other [] rest in
      record {
        progress = progress_of rows (waiting j.serves j.todo) refl;
        less = omega (arith, before, then);
      }
