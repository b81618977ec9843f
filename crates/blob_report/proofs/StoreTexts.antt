-- The text of a store, put together line by line.
use Rattle.std.proofs.Common.{◌≡◌, ℕ, ◌+◌, zero, suc, List, [], ◌++◌, sym, ap, ◌∙◌, decimal, append_assoc, arith}
use Rattle.std.proofs.Common.{None, inl, inr, refl}
use Rattle.std.specs.Prelude.{codes}
use Rattle.std.specs.List.{flat_map, range_with_len}
use Rattle.std.specs.FinMap as map
use Rattle.std.proofs.lemmas.Bool.{cases_Bool}
use Rattle.std.proofs.lemmas.List.{append-nil}
use Rattle.super_block.specs.declared.page.Super.{Super}
use Rattle.volume_model.specs.Volumes.{is_given_head}
use Rattle.volume_model.specs.declared.reply.Df.{Df}
use Rattle.blob_report.specs.Pieces.{shown_bytes}
use Rattle.blob_meta.specs.Parents.{head_of_id}
use Rattle.blob_report.specs.StoreText.{line_of, MetasByHead, volume_text}

regroup : (a b c d e f g h i j k l m n o : List ℕ)
    → a ++ (b ++ (c ++ (d ++ (e ++ (f ++ (g ++ (h ++ (i ++ (j ++ (k ++ (l ++ (m ++ (n ++ (o ++ [])))))))))))))) ≡ a ++ b
    ++ c ++ d ++ e ++ f ++ g ++ h ++ i ++ j ++ k ++ l ++ m ++ n ++ o
regroup a b c d e f g h i j k l m n o = simp (append_assoc, append-nil)

-- the pieces of the store's line, one after the other
pub line_pieces : (kind : List ℕ) (cluster_size : ℕ) (space : Df) (clean : ℕ)
    → codes "store type " ++ (shown_bytes kind ++ (codes " cluster " ++ (decimal cluster_size
    ++ (codes " clusters " ++ (decimal space.clusters ++ (codes " free " ++ (decimal space.free_clusters
    ++ (codes " pages " ++ (decimal space.pages ++ (codes " free " ++ (decimal space.free_pages
    ++ (codes " clean " ++ (decimal clean ++ (codes "\n" ++ []))))))))))))))
    ≡ line_of kind cluster_size space clean
line_pieces kind cluster_size space clean =
    regroup (codes "store type ") (shown_bytes kind) (codes " cluster ") (decimal cluster_size) (codes " clusters ")
    (decimal space.clusters) (codes " free ") (decimal space.free_clusters) (codes " pages ") (decimal space.pages)
    (codes " free ") (decimal space.free_pages) (codes " clean ") (decimal clean) (codes "\n")

last_line : (f : ℕ → List ℕ) (a n : ℕ)
    → flat_map f (range_with_len a (suc n)) ≡ flat_map f (range_with_len a n) ++ f (a + n)
last_line f a zero = let e : a ≡ a + 0 = omega arith in append-nil (f a) ∙ ap f e
last_line f a (suc n) =
    let e : a + 1 + n ≡ a + suc n = omega arith in
    ap (λ text. f a ++ text) (last_line f (a + 1) n) ∙ sym (append_assoc (f a) _ _)
    ∙ ap (λ k. f a ++ flat_map f (range_with_len (a + 1) n) ++ f k) e

one_line_more : (f : ℕ → List ℕ) (n : ℕ)
    → flat_map f (range_with_len 0 (n + 1)) ≡ flat_map f (range_with_len 0 n) ++ f n
one_line_more f n =
    let s : n + 1 ≡ suc n = omega arith in
    let z : 0 + n ≡ n = omega arith in
    ap (λ k. flat_map f (range_with_len 0 k)) s ∙ last_line f 0 n ∙ ap (λ k. flat_map f (range_with_len 0 n) ++ f k) z

-- before the first line of a volume
pub begun : (before first between second now : List ℕ) → between ≡ before ++ first → now ≡ between ++ second
    → now ≡ before ++ (first ++ second ++ [])
begun before first between second now is more =
    more ∙ ap (λ text. text ++ second) is ∙ append_assoc before first second
    ∙ ap (λ text. before ++ text) (sym (append-nil (first ++ second)))

-- behind one line more
pub one_more : (f : ℕ → List ℕ) (head : ℕ) (before first between now : List ℕ)
    → between ≡ before ++ (first ++ flat_map f (range_with_len 0 head)) → now ≡ between ++ f head
    → now ≡ before ++ (first ++ flat_map f (range_with_len 0 (head + 1)))
one_more f head before first between now is more =
    let lines : List ℕ = flat_map f (range_with_len 0 head) in
    more ∙ ap (λ text. text ++ f head) is ∙ append_assoc before (first ++ lines) (f head)
    ∙ ap (λ text. before ++ text) (append_assoc first lines (f head))
    ∙ ap (λ text. before ++ (first ++ text)) (sym (one_line_more f head))

-- behind a place that has no line
pub no_line_more : (f : ℕ → List ℕ) (head : ℕ) (before first now : List ℕ) → f head ≡ []
    → now ≡ before ++ (first ++ flat_map f (range_with_len 0 head))
    → now ≡ before ++ (first ++ flat_map f (range_with_len 0 (head + 1)))
no_line_more f head before first now none is =
    one_more f head before first now now is (sym (append-nil now) ∙ ap (λ text. now ++ text) (sym none))

-- where no blob is there is no line
pub no_blob_line : (sup : Super) (metas : MetasByHead) (head : ℕ) → map.get metas head ≡ None
    → volume_text sup metas head ≡ []
no_blob_line sup metas head none = elim (cases_Bool (is_given_head head (head_of_id sup.super_blob))) [
  | inl is ↦ rw is refl
  | inr not ↦ rw (not, none) refl
]
