-- What the commit of an insert does: its row's claim was wanted, and none of that slot is wanted behind it.
use Rattle.std.proofs.Common.{◌≡◌, ◌≤◌, Bool, Some, sym, ap, ◌∙◌, inl, inr, arith}
use Rattle.std.proofs.lemmas.Bool.{cases_eq}
use Rattle.blob_meta.specs.declared.meta.Meta.{Meta}
use Rattle.blob_meta.specs.Parents.{slot}
use Rattle.blob_meta.specs.Resolving.{resolved}
use Rattle.store_model.specs.Cases.Insert.{Inserts}
use Rattle.store_model.specs.Copying.{IsWanted}
use Rattle.store_model.specs.Inserting.{with_slot}
use Rattle.store_model.specs.Jobs.{PutsClaim}
use Rattle.store_model.specs.Maps.{Metas, with_entry}
use Rattle.store_model.specs.Rows.{OpenClaim}
use Rattle.store_model.specs.StoreState.{StoreState}
use Rattle.store_model.proofs.InsertedBlob.{slot_beside, slot_filled}
use Rattle.store_model.proofs.InsertShown as insert
use Rattle.store_model.proofs.Known.{Known}
use Rattle.store_model.proofs.OneReplacement.{base_resolved}
use Rattle.store_model.proofs.WithEntry.{given_elsewhere, given_here}
use Rattle.insert_runs.specs.InsertRuns.{IsOfSameSlot, PutsCluster}
use Rattle.insert_runs.proofs.Wanted.{WantsNoMore}

module _ (known : Known) where
  open known use {p, facts}

  module _ (told : Bool) (q : StoreState) (t : Inserts told p q) where
    abbrev put : PutsClaim p t.inserting.row t.replacing
    put = insert.put known told q t

    abbrev pub claim : OpenClaim
    claim = insert.claim known told q t

    abbrev old : Meta
    old = insert.old known told q t

    abbrev new : Meta
    new = with_slot old claim.slot claim.cluster

    pub held : (p.rows t.inserting.row).claim ≡ Some claim
    held = put.held

    pub puts : PutsCluster p q claim
    puts = record {
      meta = old;
      can = record {
        there = insert.there known told q t;
        current = put.wanted.current;
        within = put.within;
        empty = put.wanted.empty;
      };
      base = ap (λ (v : StoreState). v.base) t.next ∙ insert.base_all known told q t;
    }

    -- the claim was wanted, and its generation drawn
    pub wanted : IsWanted p claim
    wanted = put.wanted

    pub drawn : claim.generation ≤ p.drawn
    drawn = (facts.well t.running.runs).claims_drawn t.inserting.row claim held

    now_resolved : resolved q.base ≡ with_entry p.base claim.head new
    now_resolved = ap (λ (v : StoreState). resolved v.base) t.next ∙ insert.resolved_all known told q t

    -- the slot is filled
    pub unwanted : (other : OpenClaim) → IsOfSameSlot claim other → IsWanted q other → ⊥
    unwanted other same is =
        let one : new ≡ is.meta =
        let both = sym (given_here p.base claim.head new other.head (sym same.head))
        ∙ ap (λ (m : Metas). m other.head) (sym now_resolved) ∙ is.there in cc both in
        let bad = sym is.empty ∙ ap (λ (m : Meta). slot m other.slot) (sym one) ∙ ap (slot new) (sym same.slot)
        ∙ slot_filled old claim.slot claim.cluster put.within put.wanted.empty in cc bad

    was_so : (other : OpenClaim) → IsWanted q other → IsWanted p other
    was_so other is = elim (cases_eq other.head claim.head) [
      | inl e ↦
          let one : new ≡ is.meta =
          let both = sym (given_here p.base claim.head new other.head e)
          ∙ ap (λ (m : Metas). m other.head) (sym now_resolved) ∙ is.there in cc both in
          record {
            current = ap (λ (v : StoreState). v.generations other.head) (sym t.next) ∙ is.current;
            meta = old;
            there = ap (resolved p.base) e ∙ put.wanted.there;
            empty = sym (slot_beside old claim.slot claim.cluster put.within put.wanted.empty other.slot
                (λ same. unwanted other (record { head = sym e; slot = sym same }) is))
                ∙ ap (λ (m : Meta). slot m other.slot) one ∙ is.empty;
          }
      | inr ne ↦ record {
        current = ap (λ (v : StoreState). v.generations other.head) (sym t.next) ∙ is.current;
        meta = is.meta;
        there = ap (λ (m : Metas). m other.head) (base_resolved known (insert.inserts known told q t).unmarked)
            ∙ sym (given_elsewhere p.base claim.head new other.head ne)
            ∙ ap (λ (m : Metas). m other.head) (sym now_resolved) ∙ is.there;
        empty = is.empty;
      }
    ]

    pub inserts_want : WantsNoMore p q
    inserts_want = record {
      drawn = let same = ap (λ (v : StoreState). v.drawn) t.next in omega (arith, same);
      wanted = λ other low is. was_so other is;
    }
