-- How a repair's job goes on, turn by turn.
use Rattle.std.proofs.Common.{◌≡◌, ◌≢◌, ℕ, ◌<◌, ◌≤◌, Bool, true, false, Option, Some, None, List, [], ◌∷◌, length, refl}
use Rattle.std.proofs.Common.{sym, ap, ◌∙◌, subst, inl, inr, arith}
use Rattle.std.specs.Prelude.{◌⊎◌, is_some, IsSome}
use Rattle.std.specs.Option.{option_and_then}
use Rattle.std.proofs.lemmas.Bool.{false≢true}
use Rattle.super_block.specs.declared.page.Super.{Super}
use Rattle.volume_model.specs.Volumes.{Volumes}
use Rattle.volume_model.specs.declared.command.Command.{Command}
use Rattle.blob_meta.specs.declared.meta.Meta.{Meta}
use Rattle.blob_meta.specs.Repairs.{HasHeadsBelow, heads_where}
use Rattle.blob_meta.specs.Resolving.{mark_of}
use Rattle.store_model.specs.Cases.{BeginsRepair, Kind, the, Turn}
use Rattle.store_model.specs.Cases as k
use Rattle.store_model.specs.Maps.{Metas}
use Rattle.store_model.specs.Phases.{marking, OnlyMend, Phase, phases_of, replaced, Replaces}
use Rattle.store_model.specs.Phases.{Replacing}
use Rattle.store_model.specs.RunInvariant.{AreStored, RunInvariant}
use Rattle.store_model.specs.StoreState.{ForCommand, ForInsert, ForRepair, going_on, JobState, StoreState}
use Rattle.store_model.specs.StoreState.{turns_left as turns_of}
use Rattle.store_model.specs.Turning.{Runs}
use Rattle.store_model.proofs.Progress.{same_job, turns_here}
use Rattle.repair_runs.specs.RepairLaws.{GoesOnMending, HasBegunToMend}
use Rattle.repair_runs.specs.RepairRuns.{has_mark, IsMending, IsOfInsert, IsOfRepair, marks_left, mended}
use Rattle.repair_runs.specs.RepairRuns.{replacements_left, to_mend, store_turns_left}
use Rattle.repair_runs.proofs.FewerMarks.{fewer_marks}
use Rattle.repair_runs.proofs.Replacements.{first_marked, one_replacement}

-- ---- what is left of a job

-- The job that is left behind a phase, if one is, serves the same and has the rest to do.
record IsLeft (o : Option JobState) (job : JobState) (rest : List Phase) : Type 0 where
  alike : (j : JobState) → o ≡ Some j → (j.serves ≡ job.serves) × (j.todo ≡ rest)
  there : rest ≢ [] → (j : JobState) × (o ≡ Some j)

-- it goes on for sure,
stays : (job other : JobState) → other.serves ≡ job.serves → IsLeft (Some other) job other.todo
stays job other same = record {
  alike = λ j is.
      let e : other ≡ j = cc is in
      (ap (λ (i : JobState). i.serves) (sym e) ∙ same, ap (λ (i : JobState). i.todo) (sym e));
  there = λ some. (other, refl);
}

-- or where something is left to do
goes_on : (job other : JobState) (written : List ℕ) (rest : List Phase) → other.serves ≡ job.serves
    → IsLeft (going_on other written rest) job rest
goes_on job other written [] same = record {
  alike = λ j is. absurd (cc is);
  there = λ some. absurd (some refl);
}
goes_on job other written (x ∷ xs) same = stays job (record other { written = written; todo = x ∷ xs }) same

turns_behind : (o : Option JobState) (job : JobState) (rest : List Phase) → IsLeft o job rest
    → turns_of o ≤ length rest
turns_behind None job rest left = omega arith
turns_behind (Some j) job rest left =
    let e : length j.todo ≡ length rest = ap (λ (l : List Phase). length l) (left.alike j refl).1 in
    omega (arith, e)

-- ---- heads

pub heads_below : (s : Super) (base : Metas) → AreStored s base → HasHeadsBelow s.md_len base
heads_below s base stored head some = by (base head) refl some
  where
    by : (o : Option Meta) → base head ≡ o → IsSome o → head < s.md_len
    by None is some = absurd (cc some)
    by (Some m) is some = (stored head m is).low

mark_there : (o : Option Meta) → is_some (option_and_then mark_of o) ≡ true → IsSome o
mark_there None bad = absurd (false≢true bad)
mark_there (Some m) is = refl

module _ (s : Super) (first : Volumes) (script : ℕ → List Command) (p : StoreState)
    (facts : RunInvariant s first script p) where
  pub below : HasHeadsBelow p.super.md_len p.base
  below = heads_below p.super p.base (subst (λ (y : Super). AreStored y p.base) (sym facts.super) facts.stored)

  marked_below : (head : ℕ) → has_mark p.base head ≡ true → head < p.super.md_len
  marked_below head marked = below head (mark_there (p.base head) marked)

-- ---- where a repair is under way

module _ (marks : ℕ) (p : StoreState) (mending : IsMending marks p) where
  serves_repair : (job : JobState) → p.job ≡ Some job → job.serves ≡ ForRepair
  serves_repair job is = by mending
    where
      by : IsMending marks p → job.serves ≡ ForRepair
      by (to_mend x count) = ap (λ (j : JobState). j.serves) (same_job p.job job x.job is x.is) ∙ x.serves
      by (mended none count) = (none job is).0

  no_command : (job : JobState) → p.job ≡ Some job → (channel : ℕ) → job.serves ≡ ForCommand channel → ⊥
  no_command job is channel serves =
      let bad : ForRepair ≡ ForCommand channel = sym (serves_repair job is) ∙ serves in cc bad

  no_insert : (job : JobState) → p.job ≡ Some job → (row : ℕ) → job.serves ≡ ForInsert row → ⊥
  no_insert job is row serves =
      let bad : ForRepair ≡ ForInsert row = sym (serves_repair job is) ∙ serves in cc bad

  module _ (q : StoreState) (job : JobState) (is : p.job ≡ Some job) (phase : Phase) (rest : List Phase)
      (next : job.todo ≡ phase ∷ rest) (left : IsLeft q.job job rest) (super : q.super ≡ p.super) where
    fewer : store_turns_left q < store_turns_left p
    fewer =
        let here = turns_here p.job job phase rest is next in
        let behind = turns_behind q.job job rest left in
        omega (arith, here, behind)

    -- the job that is known is the one that is left to do this
    todo_is : (j : JobState) → p.job ≡ Some j → replacements_left (phase ∷ rest) ≡ replacements_left j.todo
    todo_is j j_is = ap replacements_left (sym next)
        ∙ ap (λ (i : JobState). replacements_left i.todo) (same_job p.job job j is j_is)

    -- behind a page
    page_mends : replacements_left (phase ∷ rest) ≡ replacements_left rest → q.base ≡ p.base → IsMending marks q
    page_mends page base = by mending
      where
        same : marks_left q ≡ marks_left p
        same = λ i. length (heads_where (super i).md_len (has_mark (base i)))

        by : IsMending marks p → IsMending marks q
        by (to_mend x count) =
            let one : replacements_left rest ≡ x.replacing ∷ [] = sym page ∙ todo_is x.job x.is ∙ x.one in
            let some : rest ≢ [] = λ none.
            let bad : [] ≡ x.replacing ∷ [] = sym (ap replacements_left none) ∙ one in cc bad in
            let now = left.there some in
            let alike = left.alike now.0 now.1 in
            to_mend (record {
              job = now.0;
              is = now.1;
              serves = alike.0 ∙ serves_repair job is;
              replacing = x.replacing;
              one = ap replacements_left alike.1 ∙ one;
              marked = ap (λ (m : Metas). has_mark m x.replacing.head) base ∙ x.marked;
            }) (same ∙ count)
        by (mended none count) = mended (λ j j_is. (
          (left.alike j j_is).0 ∙ serves_repair job is,
          ap replacements_left (left.alike j j_is).1 ∙ sym page ∙ todo_is job is ∙ (none job is).1,
        )) (subst (λ n. n < marks) (sym same) count)

    -- behind its replacement
    replacement_mends : (r : Replacing) → replacements_left (phase ∷ rest) ≡ r ∷ replacements_left rest
        → ((m : Meta) → r.new ≡ Some m → mark_of m ≡ None)
        → (has_mark p.base r.head ≡ true → r.head < p.super.md_len) → q.base ≡ replaced p.base r → IsMending marks q
    replacement_mends r here unmarked low base = by mending
      where
        now : marks_left q ≡ length (heads_where p.super.md_len (has_mark (replaced p.base r)))
        now = λ i. length (heads_where (super i).md_len (has_mark (base i)))

        by : IsMending marks p → IsMending marks q
        by (to_mend x count) =
            let one : r ∷ replacements_left rest ≡ x.replacing ∷ [] = sym here ∙ todo_is x.job x.is ∙ x.one in
            let same : r ≡ x.replacing = cc one in
            let none : replacements_left rest ≡ [] = cc one in
            let marked : has_mark p.base r.head ≡ true =
            ap (λ (y : Replacing). has_mark p.base y.head) same ∙ x.marked in
            let less = fewer_marks p.base r unmarked p.super.md_len (low marked) marked in
            mended (λ j j_is. (
              (left.alike j j_is).0 ∙ serves_repair job is,
              ap replacements_left (left.alike j j_is).1 ∙ none,
            )) (omega (arith, now, less, count))
        by (mended none count) =
            let bad : r ∷ replacements_left rest ≡ [] = sym here ∙ todo_is job is ∙ (none job is).1 in
            absurd (cc bad)

-- ---- each kind

module _ (told : Bool) (s : Super) (first : Volumes) (script : ℕ → List Command) (marks : ℕ) (p : StoreState)
    (facts : RunInvariant s first script p) (runs : p.stopped ≡ None) (mending : IsMending marks p) where
  -- a page is written
  writes : (kind : Kind) → IsOfRepair kind → {n q : StoreState} {phase : Phase} (running : Runs p phase) → q ≡ n
      → replacements_left (phase ∷ running.rest) ≡ replacements_left running.rest
      → IsLeft n.job running.job running.rest
      → n.super ≡ p.super → n.base ≡ p.base → n.log ≡ p.log → n.rows ≡ p.rows → n.stopped ≡ p.stopped
      → GoesOnMending marks p kind q
  writes kind of_repair {n} {q} {phase} running next page left super base log rows stopped =
      subst (GoesOnMending marks p kind) (sym next) (record {
        of_repair = of_repair;
        log = log;
        rows = rows;
        fewer = fewer marks p mending n running.job running.is phase running.rest running.next left super;
        after = inl (
          stopped ∙ runs,
          page_mends marks p mending n running.job running.is phase running.rest running.next left super page base,
        );
      })

  -- the store stops
  stops : (kind : Kind) → IsOfRepair kind → {n q : StoreState} {phase : Phase} (running : Runs p phase) → q ≡ n
      → n.job ≡ None → n.log ≡ p.log → n.rows ≡ p.rows → n.stopped ≡ Some (length p.log)
      → GoesOnMending marks p kind q
  stops kind of_repair {n} {q} {phase} running next job log rows stopped =
      subst (GoesOnMending marks p kind) (sym next) (record {
        of_repair = of_repair;
        log = log;
        rows = rows;
        fewer =
            let here = turns_here p.job running.job phase running.rest running.is running.next in
            let none : store_turns_left n ≡ 0 = ap turns_of job in
            omega (arith, here, none);
        after = inr (stopped, job);
      })

  module _ (q : StoreState) where
    replaces : k.ReplacesMore told p q → GoesOnMending marks p k.replaces_more q
    replaces t =
        let job = t.running.job in
        let left = subst (λ o. IsLeft o job t.running.rest) (sym (ap (λ (v : StoreState). v.job) t.next))
        (goes_on job (record job { claimed = [] }) [] t.running.rest refl) in
        let super : q.super ≡ p.super = ap (λ (v : StoreState). v.super) t.next in
        record {
          of_repair = tt;
          log = ap (λ (v : StoreState). v.log) t.next;
          rows = ap (λ (v : StoreState). v.rows) t.next;
          fewer = fewer marks p mending q job t.running.is (Replaces t.replacing None) t.running.rest t.running.next
              left super;
          after = inl (
            ap (λ (v : StoreState). v.stopped) t.next ∙ runs,
            replacement_mends marks p mending q job t.running.is (Replaces t.replacing None) t.running.rest
                t.running.next left super t.replacing refl
                (subst OnlyMend t.running.next
                (((facts.well runs).job job t.running.is).mends (serves_repair marks p mending job t.running.is))).0
                (marked_below s first script p facts t.replacing.head) (ap (λ (v : StoreState). v.base) t.next),
          );
        }

    -- a turn of a job that serves a command or a repair
    job_turn : (kind : Kind) → (the kind).OfJob → Turn told p kind q → GoesOnMending marks p kind q
    job_turn k.marks_dirty of_job t = writes k.marks_dirty tt t.running t.next refl (stays t.running.job _ refl) refl
        refl refl refl refl
    job_turn k.zeroes of_job t = writes k.zeroes tt t.running t.next refl (stays t.running.job _ refl) refl refl refl
        refl refl
    job_turn k.writes of_job t = writes k.writes tt t.running t.next refl (stays t.running.job _ refl) refl refl refl
        refl refl
    job_turn k.erases of_job t = writes k.erases tt t.running t.next refl (stays t.running.job _ refl) refl refl refl
        refl refl
    job_turn k.frees of_job t = writes k.frees tt t.running t.next refl
        (goes_on t.running.job t.running.job [] t.running.rest refl) refl refl refl refl refl
    job_turn k.breaks_off of_job t = stops k.breaks_off tt t.running t.next refl refl refl refl
    job_turn k.more_breaks_off of_job t = stops k.more_breaks_off tt t.running t.next refl refl refl refl
    job_turn k.replaces_more of_job t = replaces t
    job_turn k.commits of_job t = absurd
        (no_command marks p mending t.running.job t.running.is t.served.channel t.served.serves)
    job_turn k.fails of_job t = absurd
        (no_command marks p mending t.running.job t.running.is t.served.channel t.served.serves)
    job_turn k.more_fails of_job t = absurd
        (no_command marks p mending t.running.job t.running.is t.served.channel t.served.serves)
    job_turn k.breaks_down of_job t =
        let bad : None ≡ Some t.at = sym runs ∙ t.stands in absurd (cc bad)
    job_turn _ none t = absurd none

    -- and none of an insert's is made
    insert_turn : (kind : Kind) → IsOfInsert kind → Turn told p kind q → ⊥
    insert_turn k.inserts of_insert t =
        no_insert marks p mending t.running.job t.running.is t.inserting.row t.inserting.serves
    insert_turn k.insert_ends of_insert t =
        no_insert marks p mending t.running.job t.running.is t.inserting.row t.inserting.serves
    insert_turn k.insert_fails of_insert t =
        no_insert marks p mending t.running.job t.running.is t.inserting.row t.inserting.serves
    insert_turn k.insert_breaks_down of_insert t =
        no_insert marks p mending t.job t.is t.inserting.row t.inserting.serves
    insert_turn _ none t = absurd none

    pub mends_on : (kind : Kind) → (the kind).OfJob ⊎ IsOfInsert kind → Turn told p kind q
        → GoesOnMending marks p kind q
    mends_on kind (inl of_job) t = job_turn kind of_job t
    mends_on kind (inr of_insert) t = absurd (insert_turn kind of_insert t)

-- ---- the begin and the end

-- a mark is no replacement
replacements_marking : (clean : Bool) (todo : List Phase)
    → replacements_left (marking clean todo) ≡ replacements_left todo
replacements_marking true todo = refl
replacements_marking false todo = refl

pub begins : (p q : StoreState) → BeginsRepair p q → HasBegunToMend p q
begins p q t = subst (HasBegunToMend p) (sym t.next) (record {
  mending = to_mend (record {
    job = _;
    is = refl;
    serves = refl;
    replacing = t.replacing;
    one = replacements_marking p.clean (phases_of t.replacing None []) ∙ one_replacement t.replacing None;
    marked = ap (has_mark p.base) t.laid.head ∙ first_marked p.super.md_len p.base t.repair t.others t.due;
  }) refl;
  log = refl;
  rows = refl;
  runs = t.runs;
})

pub ends : (marks : ℕ) (p : StoreState) → IsMending marks p → p.job ≡ None → marks_left p < marks
ends marks p (to_mend x count) none = let bad : None ≡ Some x.job = sym none ∙ x.is in absurd (cc bad)
ends marks p (mended none_left count) none = count
