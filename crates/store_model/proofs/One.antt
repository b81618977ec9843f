-- An image says one thing.
use Rattle.std.proofs.Common.{◌≡◌, ℕ, List, [], Some, sym, ap, ◌∙◌, inl, inr}
use Rattle.std.proofs.lemmas.Bool.{both_ways}
use Rattle.blob_meta.specs.declared.meta.Meta.{Meta}
use Rattle.blob_meta.specs.Says.{meta_of}
use Rattle.md_chain.specs.Chain.{Look}
use Rattle.md_chain.proofs.OneChain.{one_chain}
use Rattle.store_model.specs.Maps.{Metas, Chains}
use Rattle.store_model.specs.Regions.{MdRegion}
use Rattle.store_model.specs.Scans.{head_at, Scanned}
use Rattle.store_model.proofs.Scanning.{is_at}

pub one_scan : (look : Look) (r : MdRegion) (m n : Metas) (c d : Chains) → Scanned look r m c → Scanned look r n d
    → (h : ℕ) → (m h ≡ n h) × (c h ≡ d h)
one_scan look r m n c d x y h = elim (x h) [
  | inl a ↦ elim (y h) [
    | inl b ↦
        let e = one_chain look r.len h 0 [] h h a.says.items b.says.items a.pages b.pages a.says.chain b.says.chain in (
          a.meta_is ∙ ap (λ (v : Meta). Some v) (a.says.meta_is ∙ ap (meta_of h) e.0 ∙ sym b.says.meta_is)
              ∙ sym b.meta_is,
          a.pages_are ∙ ap (λ (v : List ℕ). Some v) e.1 ∙ sym b.pages_are,
        )
    | inr b ↦ absurd (both_ways (head_at look r.len h) b.no_head (is_at look r h a.meta a.pages a.says))
  ]
  | inr a ↦ elim (y h) [
    | inl b ↦ absurd (both_ways (head_at look r.len h) a.no_head (is_at look r h b.meta b.pages b.says))
    | inr b ↦ (a.no_meta ∙ sym b.no_meta, a.no_chain ∙ sym b.no_chain)
  ]
]
