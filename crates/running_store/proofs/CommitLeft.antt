-- Whether the commit of a job's command is still to come.
use Rattle.std.proofs.Common.{◌≡◌, ℕ, Bool, true, false, List, [], ◌∷◌, Option, Some, None, refl, sym, ◌∙◌, ap, drop}
use Rattle.std.specs.Prelude.{is_some, ◌||◌}
use Rattle.std.specs.List.{list_any}
use Rattle.std.specs.Option.{option_map, option_map_or}
use Rattle.store_model.specs.Phases.{Phase, Replaces, erasing, has_commit, writing}
use Rattle.store_model.proofs.Marking.{commit_marking}
use Rattle.store_model.proofs.Phases.{commit_behind}
use Rattle.store_model.proofs.Zeroing.{commit_zeros}
use Rattle.running_store.specs.Effects.{commit_seen}
use Rattle.running_store.specs.Jobs.{commit_in, phases_for, phases_in, is_commit, replacing_of}
use Rattle.running_store.specs.Jobs.{commits_now, erasing_commit, erasure_of, job_seen, writing_for}
use Rattle.running_store.specs.Zeroing.{zeroed_from}
use Rattle.running_store.specs.declared.job.RunningJob.{RunningJob}
use Rattle.running_store.specs.declared.job.Work.{Work}
use Rattle.running_store.specs.declared.job.Work.TheVariants as work
use Rattle.running_store.specs.declared.replacements.Change.{Change}
use Rattle.running_store.specs.declared.replacements.Change.TheVariants as change
use Rattle.running_store.specs.declared.replacements.Commit.{Commit}
use Rattle.running_store.specs.declared.replacements.Erasure.{Erasure}
use Rattle.running_store.specs.declared.replacements.LaidReplacement.{LaidReplacement}
use Rattle.running_store.specs.declared.replacements.Planned.{Planned}

-- old pages commit nothing
pub commit_erasing : (old places : List ℕ) (others : List Phase)
    → has_commit (erasing old places others) ≡ has_commit others
commit_erasing old [] others = refl
commit_erasing old (p ∷ []) others = refl
commit_erasing old (p ∷ q ∷ ps) others = commit_erasing old (q ∷ ps) others

commit_by : (commit : Option Commit) (rest : Bool)
    → option_map_or (λ x. true) (option_map commit_seen commit) rest ≡ (is_some commit || rest)
commit_by None rest = refl
commit_by (Some commit) rest = refl

-- a job of which fresh pages are written commits with what is planned, or later
pub commit_writing : (planned : Planned) (fresh old : List ℕ) (others : List Phase)
    → has_commit (writing fresh (Replaces (replacing_of planned old) (commit_in planned) ∷ erasing old old others))
    ≡ (is_some planned.effects.commit || has_commit others)
commit_writing planned fresh old others =
    commit_behind fresh (Replaces (replacing_of planned old) (commit_in planned) ∷ erasing old old others)
    ∙ commit_by planned.effects.commit (has_commit (erasing old old others))
    ∙ ap (λ b. is_some planned.effects.commit || b) (commit_erasing old old others)

-- and so does one that erases a blob
pub commit_removing : (e : Erasure) (old : List ℕ) (others : List Phase)
    → has_commit (Replaces (erasure_of e old) (erasing_commit e) ∷ erasing old old others)
    ≡ (is_some e.commit || has_commit others)
commit_removing e old others =
    commit_by e.commit (has_commit (erasing old old others))
    ∙ ap (λ b. is_some e.commit || b) (commit_erasing old old others)

commit_one : (x : LaidReplacement) (others : List Phase)
    → has_commit (phases_for x others) ≡ (is_commit x || has_commit others)
commit_one x others = by x.change refl
  where
    by : (c : Change) → x.change ≡ c → has_commit (phases_for x others) ≡ (is_commit x || has_commit others)
    by (change.Writes p) e = rw e (commit_writing p (replacing_of p x.old).fresh x.old others)
    by (change.Erases gone) e = rw e (commit_removing gone x.old others)

-- the commit is one of the replacements to come
pub commit_coming : (l : List LaidReplacement) → has_commit (phases_in l) ≡ list_any is_commit l
commit_coming [] = refl
commit_coming (x ∷ xs) = commit_one x (phases_in xs) ∙ ap (λ b. is_commit x || b) (commit_coming xs)

-- the replacement at work is the commit, or one behind it
pub commit_now : (j : RunningJob)
    → (commits_now j.work || list_any is_commit j.later.items) ≡ has_commit (job_seen j).todo
commit_now j = by j.work refl ∙ sym (commit_marking j.marks (job_seen (record j { marks = false })).todo)
  where
    later : list_any is_commit j.later.items ≡ has_commit (phases_in j.later.items)
    later = sym (commit_coming j.later.items)

    by : (w : Work) → j.work ≡ w → (commits_now j.work || list_any is_commit j.later.items)
        ≡ has_commit (job_seen (record j { marks = false })).todo
    by (work.Zeroing p z) e = rw e (ap (λ b. is_some p.effects.commit || b) later
        ∙ sym (commit_zeros (zeroed_from z.cluster_pages (drop z.clusters p.effects.claimed) z.pages)
        (writing_for j.serves p j.old 0 (phases_in j.later.items)).todo
        ∙ commit_writing p (drop 0 (drop 1 p.chain)) j.old (phases_in j.later.items)))
    by (work.Writing p written) e = rw e (ap (λ b. is_some p.effects.commit || b) later
        ∙ sym (commit_writing p (drop written (drop 1 p.chain)) j.old (phases_in j.later.items)))
    by (work.Removing gone) e = rw e (ap (λ b. is_some gone.commit || b) later
        ∙ sym (commit_removing gone j.old (phases_in j.later.items)))
    by (work.Erasing erased) e = rw e (later
        ∙ sym (commit_erasing j.old (drop erased j.old) (phases_in j.later.items)))
