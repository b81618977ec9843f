-- The pages that a job writes, and what an image says once its head is written.
use Rattle.std.proofs.Common.{◌≡◌, ◌≢◌, ℕ, ◌≤◌, true, false, List, [], ◌∷◌, Some, refl, sym, subst, ◌∙◌, inl, inr}
use Rattle.std.proofs.Common.{arith}
use Rattle.std.specs.Prelude.{◌==◌, ◌&&◌}
use Rattle.std.proofs.lemmas.Bool.{cases_eq, ne_eqb, and_left, and_right}
use Rattle.page_fields.specs.Fields.{field, number}
use Rattle.crc32c.specs.Crc.{is_sound}
use Rattle.md_page.specs.Page.{id_of, sequence_of}
use Rattle.volume_model.specs.Volumes.{zero_page}
use Rattle.blob_meta.specs.declared.meta.Meta.{Meta}
use Rattle.md_chain.specs.Chain.{Look, blob_id, is_among}
use Rattle.md_chain.proofs.Links.{agree_by, later}
use Rattle.store_model.specs.Maps.{Metas, Chains, with_entry}
use Rattle.store_model.specs.Regions.{MdRegion}
use Rattle.store_model.specs.Scans.{is_head, MetaAt, Scanned}
use Rattle.shown_volumes.proofs.WithEntry.{given_here, given_elsewhere}
use Rattle.store_model.proofs.Sets.{among_either}
use Rattle.store_model.proofs.Scanning.{head_replaced, meta_kept}

pub torn_no_head : (place : ℕ) (page : List ℕ) → is_sound page ≡ false → is_head place page ≡ false
torn_no_head place page torn = rw torn refl

late_no_head : (place : ℕ) (page : List ℕ) → 1 ≤ sequence_of page → is_head place page ≡ false
late_no_head place page le = and_left (is_sound page && (sequence_of page == 0)) (id_of page == blob_id place)
    (and_right (is_sound page) (sequence_of page == 0) (ne_eqb (sequence_of page) 0 (λ e. omega (arith, e, le))))

zero_id : id_of zero_page ≡ 0
unfolding zero_page field number id_of
zero_id = refl

pub zeros_no_head : (place : ℕ) → is_head place zero_page ≡ false
zeros_no_head place = and_right (is_sound zero_page && (sequence_of zero_page == 0)) (id_of zero_page == blob_id place)
    (ne_eqb (id_of zero_page) (blob_id place) (λ e. let x = sym zero_id ∙ e in omega (arith, x)))

pub fresh_no_head : (planned : Look) (r : MdRegion) (head : ℕ) (new : Meta) (fresh : List ℕ) (place : ℕ)
    → MetaAt planned r head new (head ∷ fresh) → is_among place fresh ≡ true → is_head place (planned place) ≡ false
fresh_no_head planned r head new fresh place x among = late_no_head place (planned place)
    ((later planned r.len head 0 [] head head x.items head fresh x.chain).1 place among).late

pub head_written : (look other planned : Look) (r : MdRegion) (metas : Metas) (chains : Chains) (head : ℕ)
    (new : Meta) (fresh : List ℕ) → Scanned look r metas chains → MetaAt planned r head new (head ∷ fresh)
    → ((k : ℕ) (pages : List ℕ) → k ≢ head → chains k ≡ Some pages → is_among head pages ≡ false)
    → ((place : ℕ) → is_among place fresh ≡ true → look place ≡ planned place)
    → other head ≡ planned head → ((place : ℕ) → place ≢ head → other place ≡ look place)
    → Scanned other r (with_entry metas head new) (with_entry chains head (head ∷ fresh))
head_written look other planned r metas chains head new fresh said says apart written here elsewhere =
    head_replaced look r metas chains said other head apart elsewhere
    (with_entry metas head new) (with_entry chains head (head ∷ fresh)) new (head ∷ fresh)
    (meta_kept planned other r head new (head ∷ fresh)
    (agree_by planned other (head ∷ fresh) (λ q among. elim (cases_eq q head) [
      | inl e ↦ subst (λ k. other k ≡ planned k) (sym e) here
      | inr ne ↦ elsewhere q ne
          ∙ written q (elim (among_either q head fresh among) [ inl e ↦ absurd (ne e) | inr later ↦ later ])
    ])) says)
    (record { here = given_here metas head new head refl; elsewhere = λ q ne. given_elsewhere metas head new q ne })
    (record {
      here = given_here chains head (head ∷ fresh) head refl;
      elsewhere = λ q ne. given_elsewhere chains head (head ∷ fresh) q ne;
    })
