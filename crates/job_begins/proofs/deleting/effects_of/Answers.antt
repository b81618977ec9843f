use Rattle.std.proofs.Common.{◌≡◌, ◌↔◌, ◌<◌, ℕ, Bool, true, List, length, None, Some, sym, ap, subst, ◌∙◌, arith}
use Rattle.std.proofs.lemmas.Bool.Decides.{nat_tests}
use Rattle.blob_meta.specs.Faults.{clusters_held}
use Rattle.md_chain.specs.Chain.{is_among}
use Rattle.store_model.proofs.Sets.{length_all_set}
use Rattle.job_begins.specs.Alone.{IsMissing}
use Rattle.job_begins.specs.Begins.{no_effects}
use Rattle.job_begins.proofs.deleting.effects_of.Goals as goal

pub add_clusters-requires : goal.add_clusters-requires
add_clusters-requires g c = λ k among.
    subst (λ n. k < n) (sym c.in_ok-beside.ensures.count) (c.requires.taking k among)

pub missing-requires : goal.missing-requires
missing-requires g c = λ k among.
    let slots = c.args.ask.now.taking.map in
    let long : length c.add_clusters.new.clusters ≡ length c.args.running.now.clusters.bits =
    ap (λ (l : List Bool). length l) c.add_clusters.ensures
    ∙ length_all_set c.in_ok-beside.beside (clusters_held slots) true ∙ c.in_ok-beside.ensures.count in
    subst (λ n. k < n) (sym long) (c.requires.going k among)

pub returns-clause-are : goal.returns-clause-are
returns-clause-are g c =
    let ask = c.args.ask.now in
    let freed = c.in_ok-freed.freed in
    record {
      mark_room = c.in_ok-room.room;
      mark = c.in_ok-room.ensures.place;
      begin_is = c.in_rooms.ensures;
      commit_is = c.committing.ensures ∙ ap (λ (renews : List ℕ). record no_effects {
        commit = Some (record {
          made = None;
          live = Some (record { head = ask.of; value = None; room = None });
          renews = renews;
          shows = Some (record { head = ask.of; value = None; room = None });
        });
      }) (c.from_vec.ensures ∙ c.in_ok-renews.ensures.items);
      beside = c.in_ok-beside.beside;
      count = c.in_ok-beside.ensures.count;
      beside_are = c.in_ok-beside.ensures.are;
      once = c.in_ok-freed.ensures.once;
      freed = λ k. subst (λ (bits : List Bool). (is_among k freed ≡ true) ↔ IsMissing bits ask.going.map k)
          c.add_clusters.ensures (c.in_ok-freed.ensures.are k);
    }

pub returns-clause-numbers : goal.returns-clause-numbers
returns-clause-numbers g c =
    let can = c.can_renew.ensures in
    let is = c.if-not-can_renew.false in
    grind (arith, nat_tests, can, is)
