-- The head that is next is a new blob's, and a create, a clone or a snapshot asks for its job there.
use Rattle.std.proofs.Common.{◌≡◌, ℕ, Bool, true, false, List, [], ◌∷◌, Option, Some, None, refl, sym, ap, ◌∙◌, inl}
use Rattle.std.proofs.Common.{inr, arith, subst, drop}
use Rattle.std.specs.Ordering.{nat_cmp}
use Rattle.std.specs.FinMap as map
use Rattle.super_block.specs.declared.page.Super.{Super}
use Rattle.bit_array.specs.Bits.{is_in}
use Rattle.volume_model.specs.Names.{IsName}
use Rattle.volume_model.specs.Refusals.{refusal}
use Rattle.volume_model.specs.Steps.{named_head}
use Rattle.volume_model.specs.Xattrs.{Text, Xattrs}
use Rattle.volume_model.specs.Volumes.{Fixed, two_xattrs, Volumes}
use Rattle.volume_model.specs.declared.command.Command.{Command}
use Rattle.volume_model.specs.declared.command.VolumeRef.{VolumeRef}
use Rattle.volume_model.specs.declared.command.Command.TheVariants as c
use Rattle.blob_meta.specs.declared.job.Job.{Job}
use Rattle.blob_meta.specs.declared.job.Replacement.{Replacement}
use Rattle.blob_meta.specs.declared.meta.Meta.{Meta}
use Rattle.blob_meta.specs.Jobs.{create_job, new_meta}
use Rattle.blob_meta.specs.ShownBy.{IsFirstRefusal, IsHeadMeant, ShowsMetas}
use Rattle.snapshots.specs.SnapshotJobs.{begun_snapshot, clone_job, new_clone, snapshot_job}
use Rattle.store_model.specs.Asking.{clones, creates, snapshots, IsCopyJob}
use Rattle.store_model.specs.Shown.{fixed_of}
use Rattle.store_model.specs.StoreState.{StoreState, shown}
use Rattle.store_model.specs.RunInvariant.{RunInvariant, RunsWell}
use Rattle.store_model.proofs.ChangedLive.{made_commit}
use Rattle.store_model.proofs.Sets.{among_first}
use Rattle.job_begins.specs.Begins.{IsFreshHead, IsJobOf}
use Rattle.running_store.specs.LoadedWhole.{IsNextHead}

-- ---- the head of the first replacement of a list, where it makes a blob

first_is : (list : List Replacement) (first x : Replacement) (rest xs : List Replacement) → list ≡ first ∷ rest
    → list ≡ x ∷ xs → first ≡ x
first_is list first x rest xs one other = let both : first ∷ rest ≡ x ∷ xs = sym one ∙ other in cc both

-- it is the page that is next,
pub next_made : (p : StoreState) (list : List Replacement) (first : Replacement) (rest : List Replacement)
    → list ≡ first ∷ rest → IsFreshHead p.pages first.head → (x : Replacement) (xs : List Replacement) → list ≡ x ∷ xs
    → p.base x.head ≡ None → IsFreshHead p.pages x.head
next_made p list first rest is fresh x xs other none =
    subst (λ (y : Replacement). IsFreshHead p.pages y.head) (first_is list first x rest xs is other) fresh

-- or the first replacement makes none.
pub next_there : (p : StoreState) (list : List Replacement) (first : Replacement) (rest : List Replacement)
    → list ≡ first ∷ rest → (old : Meta) → p.base first.head ≡ Some old → (x : Replacement) (xs : List Replacement)
    → list ≡ x ∷ xs → p.base x.head ≡ None → IsFreshHead p.pages x.head
next_there p list first rest is old there x xs other none =
    let same : first ≡ x = first_is list first x rest xs is other in
    let bad = sym there ∙ ap (λ (y : Replacement). p.base y.head) same ∙ none in absurd (cc bad)

module _ (s : Super) (first : Volumes) (script : ℕ → List _) (p : StoreState) (facts : RunInvariant s first script p)
    (well : RunsWell first p) where
  -- no blob's head is clear
  none_at_clear : (head : ℕ) (o : Option Meta) → p.base head ≡ o → is_in p.pages head ≡ false → p.base head ≡ None
  none_at_clear head None is clear = is
  none_at_clear head (Some m) is clear =
      let chain = well.chains.chain head m is in
      let set : is_in p.pages head ≡ true =
      well.pages.linked head
      (record { head = head; pages = head ∷ chain.0; chain = chain.1; among = among_first head chain.0 }) in
      let e : true ≡ false = sym set ∙ clear in absurd (cc e)

  -- and none is at the end of the region
  none_at_end : (head : ℕ) (o : Option Meta) → p.base head ≡ o → head ≡ p.super.md_len → p.base head ≡ None
  none_at_end head None is end = is
  none_at_end head (Some m) is end =
      let low = (facts.stored head m is).low in
      let e : head ≡ s.md_len = end ∙ ap (λ (x : Super). x.md_len) facts.super in
      absurd (omega (arith, low, e))

  no_blob : (head : ℕ) → IsNextHead p.super.md_len p.pages head → p.base head ≡ None
  no_blob head (inl least) = none_at_clear head (p.base head) refl least.clear
  no_blob head (inr full) = none_at_end head (p.base head) refl full.1

  fresh_head : (head : ℕ) → IsNextHead p.super.md_len p.pages head → IsFreshHead p.pages head
  fresh_head head (inl least) = inl least
  fresh_head head (inr full) = inr full.0

  -- a create that nothing refuses asks for a blob at the head that is next, with the attributes that its step gives
  pub asks_create : (metas : map.FinMap nat_cmp Meta) → ShowsMetas (fixed_of p.super) p.super metas (shown p)
      → (name : Text) (slots : ℕ) (thick : Bool) (uuid : Option (List ℕ)) (head : ℕ) (xattrs : Xattrs) → IsName name
      → IsNextHead p.super.md_len p.pages head → IsFirstRefusal metas p.super (c.Create name slots thick uuid) None
      → ((f : Fixed) (v : Volumes) → ShowsMetas f p.super metas v → two_xattrs f v name uuid ≡ xattrs)
      → IsJobOf p (c.Create name slots thick uuid) (create_job head xattrs thick slots)
  asks_create metas shows name slots thick uuid head xattrs is_name next unrefused named =
      let same : xattrs ≡ two_xattrs (fixed_of p.super) (shown p) name uuid =
      sym (named (fixed_of p.super) (shown p) shows) in
      let made = create_job head xattrs thick slots in
      record {
        commit = made_commit head xattrs;
        asked =
            creates
            (record {
              name = name;
              named = is_name;
              slots = slots;
              thick = thick;
              uuid = uuid;
              command_is = refl;
              asked = unrefused (fixed_of p.super) (shown p) shows;
              head = head;
              none = no_blob head next;
              is = ap (λ xs. create_job head xs thick slots) same;
              commit_is = ap (made_commit head) same;
            });
        next = next_made p made.list (record { head = head; new = Some (new_meta head xattrs thick slots) }) [] refl
            (fresh_head head next);
      }

  -- what is known of a copy of the blob that is meant, at the head that is next
  module _ (metas : map.FinMap nat_cmp Meta) (shows : ShowsMetas (fixed_of p.super) p.super metas (shown p))
      (copies : VolumeRef → Text → Command) (volume : VolumeRef) (name : Text) (of : ℕ) (old : Meta) (head : ℕ)
      (xattrs : Xattrs) (is_name : IsName name)
      (found : named_head (fixed_of p.super) (shown p) (copies volume name) ≡ Some of) (there : p.base of ≡ Some old)
      (next : IsNextHead p.super.md_len p.pages head)
      (asked : refusal (fixed_of p.super) (shown p) (copies volume name) ≡ None)
      (named : (f : Fixed) (v : Volumes) → ShowsMetas f p.super metas v → two_xattrs f v name None ≡ xattrs) where
    copied : (job : ℕ → Meta → ℕ → Xattrs → Job) (renewed : ℕ → ℕ → List ℕ)
        → IsCopyJob p copies job renewed (copies volume name) (job of old head xattrs)
        (record (made_commit head xattrs) { renews = renewed of head })
    copied job renewed =
        let same : xattrs ≡ two_xattrs (fixed_of p.super) (shown p) name None =
        sym (named (fixed_of p.super) (shown p) shows) in
        record {
          volume = volume;
          name = name;
          named = is_name;
          command_is = refl;
          asked = asked;
          of = of;
          found = found;
          old = old;
          there = there;
          head = head;
          none = no_blob head next;
          is = ap (job of old head) same;
          commit_is = ap (λ xs. record (made_commit head xs) { renews = renewed of head }) same;
        }

  -- a clone that nothing refuses asks for a blob at the head that is next, whose parent is the blob that is meant,
  pub asks_clone : (metas : map.FinMap nat_cmp Meta) → ShowsMetas (fixed_of p.super) p.super metas (shown p)
      → (volume : VolumeRef) (name : Text) (parent : ℕ) (old : Meta) (head : ℕ) (xattrs : Xattrs) → IsName name
      → IsHeadMeant metas p.super volume (Some parent) → p.base parent ≡ Some old
      → IsNextHead p.super.md_len p.pages head → IsFirstRefusal metas p.super (c.Clone volume name) None
      → ((f : Fixed) (v : Volumes) → ShowsMetas f p.super metas v → two_xattrs f v name None ≡ xattrs)
      → IsJobOf p (c.Clone volume name) (clone_job parent old head xattrs)
  asks_clone metas shows volume name parent old head xattrs is_name meant there next unrefused named = record {
    commit = made_commit head xattrs;
    asked =
        clones
        (copied metas shows c.Clone volume name parent old head xattrs is_name
        (meant (fixed_of p.super) (shown p) shows) there next (unrefused (fixed_of p.super) (shown p) shows) named
        clone_job (λ of head. head ∷ []));
    next = next_made p (clone_job parent old head xattrs).list
        (record { head = head; new = Some (new_clone parent old head xattrs) }) [] refl (fresh_head head next);
  }

  -- and a snapshot for one that becomes its parent.
  pub asks_snapshot : (metas : map.FinMap nat_cmp Meta) → ShowsMetas (fixed_of p.super) p.super metas (shown p)
      → (volume : VolumeRef) (name : Text) (of : ℕ) (old : Meta) (head : ℕ) (xattrs : Xattrs) → IsName name
      → IsHeadMeant metas p.super volume (Some of) → p.base of ≡ Some old
      → IsNextHead p.super.md_len p.pages head → IsFirstRefusal metas p.super (c.Snapshot volume name) None
      → ((f : Fixed) (v : Volumes) → ShowsMetas f p.super metas v → two_xattrs f v name None ≡ xattrs)
      → IsJobOf p (c.Snapshot volume name) (snapshot_job of old head xattrs)
  asks_snapshot metas shows volume name of old head xattrs is_name meant there next unrefused named = record {
    commit = record (made_commit head xattrs) { renews = of ∷ head ∷ [] };
    asked =
        snapshots
        (copied metas shows c.Snapshot volume name of old head xattrs is_name
        (meant (fixed_of p.super) (shown p) shows) there next (unrefused (fixed_of p.super) (shown p) shows) named
        snapshot_job (λ of head. of ∷ head ∷ []));
    next = next_made p (snapshot_job of old head xattrs).list
        (record { head = head; new = Some (begun_snapshot of old head xattrs) })
        (drop 1 (snapshot_job of old head xattrs).list) refl (fresh_head head next);
  }
