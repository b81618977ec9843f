-- A text of JSON is that of one listing.
use Rattle.std.proofs.Common.{◌≡◌, ◌∙◌, ℕ, zero, suc, ◌+◌, ◌<◌, ◌^◌}
use Rattle.std.proofs.Common.{Bool, false, List, [], ◌∷◌, ◌++◌, length, drop, get_or}
use Rattle.std.proofs.Common.{Option, Some, None, map, refl, sym, ap, ap₂, arith, length-append}
use Rattle.std.specs.Prelude.{IfSome}
use Rattle.std.specs.List.{AllByRecursion}
use Rattle.std.proofs.lemmas.Fmt.{decimal_injective}
use Rattle.json.specs.Json as json
use Rattle.json.specs.Lex.{tokens}
use Rattle.json.specs.Print.{print}
use Rattle.json.specs.Token.{Token}
use Rattle.json.specs.Tree.{depth, HasNumbers, ItemsHaveNumbers, json_tokens}
use Rattle.json.proofs.Printed.Decimals.{IsNumber-decimal}
use Rattle.json.proofs.Printed.Tokens.{tokens-print}
use Rattle.json.proofs.Printed.Trees.{ArePrintable-json_tokens, value-json_tokens}
use Rattle.serde_json.specs.View.{items_of}
use Rattle.serde_json.specs.Written.{compact_text, items_outline, outline}
use Rattle.serde_json.proofs.Texts.{print-outline}
use Rattle.volume_model.specs.declared.reply.Df.{Df}
use Rattle.listing_text.specs.Json.{data_of, json_of, parent_data, space_data, store_data, super_data, volume_data}
use Rattle.listing_text.specs.Listing.{BlobFacts, Listing, StoreFacts, VolumeFacts}
use Rattle.listing_laws.specs.Fitting.{FitsListing, FitsStore, FitsVolume}

-- ---- texts that have the same last byte

front_same : (xs ys : List ℕ) (c : ℕ) → xs ++ c ∷ [] ≡ ys ++ c ∷ [] → xs ≡ ys
front_same [] [] c e = refl
front_same [] (y ∷ ys) c e =
    let n : length (c ∷ []) ≡ length (y ∷ (ys ++ c ∷ [])) = ap length e in
    absurd (omega (arith, n, length-append ys (c ∷ [])))
front_same (x ∷ xs) [] c e =
    let n : length (x ∷ (xs ++ c ∷ [])) ≡ length (c ∷ []) = ap length e in
    absurd (omega (arith, n, length-append xs (c ∷ [])))
front_same (x ∷ xs) (y ∷ ys) c e =
    ap₂ (λ (z : ℕ) (zs : List ℕ). z ∷ zs) (ap (λ (l : List ℕ). get_or l 0 0) e)
    (front_same xs ys c (ap (λ (l : List ℕ). drop 1 l) e))

-- ---- texts that are printed alike are of the same JSON

abbrev first_read : (o : Option (json.Json × List Token)) → json.Json
first_read None = json.null
first_read (Some p) = p.0

same_json : (i j : json.Json) → HasNumbers i → HasNumbers j → print (json_tokens i) ≡ print (json_tokens j) → i ≡ j
same_json i j fits suits same =
    let ts : json_tokens i ≡ json_tokens j =
    sym (tokens-print (json_tokens i) (ArePrintable-json_tokens i fits)) ∙ ap tokens same
    ∙ tokens-print (json_tokens j) (ArePrintable-json_tokens j suits) in
    let deep = depth i + depth j in
    let one = value-json_tokens i deep [] (omega arith) in
    let two = value-json_tokens j deep [] (omega arith) in
    ap first_read (sym one ∙ ap (λ (us : List Token). json.value deep (us ++ [])) ts ∙ two)

-- ---- parts of JSON

abbrev at_member : ℕ → json.Members → json.Json
at_member n json.no_members = json.null
at_member zero (json.member k j ms) = j
at_member (suc n) (json.member k j ms) = at_member n ms

abbrev part : ℕ → json.Json → json.Json
part n (json.object ms) = at_member n ms
part n _ = json.null

abbrev items_in : json.Json → json.Items
items_in (json.array js) = js
items_in _ = json.no_items

abbrev text_in : json.Json → List ℕ
text_in (json.number s) = s
text_in (json.string s) = s
text_in _ = []

abbrev bit_in : json.Json → Bool
bit_in (json.boolean b) = b
bit_in _ = false

abbrev first_in : json.Items → json.Json
first_in json.no_items = json.null
first_in (json.item j js) = j

abbrev rest_in : json.Items → json.Items
rest_in json.no_items = json.no_items
rest_in (json.item j js) = js

-- ---- each part has numbers, and tells one value

space_same : (a b : Df) → a.free_clusters ≡ b.free_clusters → a.clusters ≡ b.clusters → a.free_pages ≡ b.free_pages
    → a.pages ≡ b.pages → a ≡ b
space_same a b fc c fp p =
    ap₂ (λ (x y : ℕ × ℕ). record { free_clusters = x.0; clusters = x.1; free_pages = y.0; pages = y.1 })
    (ap₂ (λ (x y : ℕ). (x, y)) fc c) (ap₂ (λ (x y : ℕ). (x, y)) fp p)

space_numbers : (total free : ℕ) → total < 2 ^ 64 → free < 2 ^ 64 → HasNumbers (outline (space_data total free))
space_numbers total free fits suits = (IsNumber-decimal free suits, (IsNumber-decimal total fits, tt))

store_numbers : (s : StoreFacts) → FitsStore s → HasNumbers (outline (store_data s))
store_numbers s fits = (
  tt,
  (
    IsNumber-decimal s.cluster_size fits.cluster_size,
    (
      space_numbers s.space.clusters s.space.free_clusters fits.clusters fits.free_clusters,
      (space_numbers s.space.pages s.space.free_pages fits.pages fits.free_pages, (tt, tt)),
    ),
  ),
)

store_same : (s t : StoreFacts) → FitsStore s → FitsStore t → outline (store_data s) ≡ outline (store_data t) → s ≡ t
store_same s t fits suits e =
    let size = decimal_injective s.cluster_size t.cluster_size fits.cluster_size suits.cluster_size
    (ap (λ (j : json.Json). text_in (part 1 j)) e) in
    let space = space_same s.space t.space
    (decimal_injective s.space.free_clusters t.space.free_clusters fits.free_clusters suits.free_clusters
    (ap (λ (j : json.Json). text_in (part 0 (part 2 j))) e))
    (decimal_injective s.space.clusters t.space.clusters fits.clusters suits.clusters
    (ap (λ (j : json.Json). text_in (part 1 (part 2 j))) e))
    (decimal_injective s.space.free_pages t.space.free_pages fits.free_pages suits.free_pages
    (ap (λ (j : json.Json). text_in (part 0 (part 3 j))) e))
    (decimal_injective s.space.pages t.space.pages fits.pages suits.pages
    (ap (λ (j : json.Json). text_in (part 1 (part 3 j))) e)) in
    ap₂ (λ (x : List ℕ × ℕ) (y : Df × Bool). record { kind = x.0; cluster_size = x.1; space = y.0; clean = y.1 })
    (ap₂ (λ (k : List ℕ) (n : ℕ). (k, n)) (ap (λ (j : json.Json). text_in (part 4 j)) e) size)
    (ap₂ (λ (d : Df) (b : Bool). (d, b)) space (ap (λ (j : json.Json). bit_in (part 0 j)) e))

blob_same : (a b : BlobFacts) → a.head ≡ b.head → a.name ≡ b.name → a.uuid ≡ b.uuid → a ≡ b
blob_same a b head name uuid =
    ap₂ (λ (n : ℕ) (x : List ℕ × List ℕ). record { head = n; name = x.0; uuid = x.1 }) head
    (ap₂ (λ (x y : List ℕ). (x, y)) name uuid)

super_numbers : (o : Option BlobFacts) → IfSome o (λ b. b.head < 2 ^ 64) → HasNumbers (outline (super_data o))
super_numbers None fits = tt
super_numbers (Some b) fits = (IsNumber-decimal b.head fits, (tt, (tt, tt)))

super_same : (o p : Option BlobFacts) → IfSome o (λ b. b.head < 2 ^ 64) → IfSome p (λ b. b.head < 2 ^ 64)
    → outline (super_data o) ≡ outline (super_data p) → o ≡ p
super_same None None fits suits e = refl
super_same None (Some b) fits suits e = cc e
super_same (Some a) None fits suits e = cc e
super_same (Some a) (Some b) fits suits e =
    ap Some (blob_same a b
    (decimal_injective a.head b.head fits suits (ap (λ (j : json.Json). text_in (part 0 j)) e))
    (ap (λ (j : json.Json). text_in (part 1 j)) e) (ap (λ (j : json.Json). text_in (part 2 j)) e))

parent_numbers : (o : Option ℕ) → IfSome o (λ n. n < 2 ^ 64) → HasNumbers (outline (parent_data o))
parent_numbers None fits = tt
parent_numbers (Some n) fits = IsNumber-decimal n fits

parent_same : (o p : Option ℕ) → IfSome o (λ n. n < 2 ^ 64) → IfSome p (λ n. n < 2 ^ 64)
    → outline (parent_data o) ≡ outline (parent_data p) → o ≡ p
parent_same None None fits suits e = refl
parent_same None (Some n) fits suits e = cc e
parent_same (Some m) None fits suits e = cc e
parent_same (Some m) (Some n) fits suits e = ap Some (decimal_injective m n fits suits (ap text_in e))

volume_numbers : (v : VolumeFacts) → FitsVolume v → HasNumbers (outline (volume_data v))
volume_numbers v fits = (
  IsNumber-decimal v.blob.head fits.head,
  (
    tt,
    (
      IsNumber-decimal v.own fits.own,
      (parent_numbers v.parent fits.parent, (tt, (IsNumber-decimal v.slots fits.slots, (tt, (tt, tt))))),
    ),
  ),
)

volume_same : (v w : VolumeFacts) → FitsVolume v → FitsVolume w → outline (volume_data v) ≡ outline (volume_data w)
    → v ≡ w
volume_same v w fits suits e =
    let blob = blob_same v.blob w.blob
    (decimal_injective v.blob.head w.blob.head fits.head suits.head (ap (λ (j : json.Json). text_in (part 0 j)) e))
    (ap (λ (j : json.Json). text_in (part 1 j)) e) (ap (λ (j : json.Json). text_in (part 7 j)) e) in
    let own = decimal_injective v.own w.own fits.own suits.own (ap (λ (j : json.Json). text_in (part 2 j)) e) in
    let slots = decimal_injective v.slots w.slots fits.slots suits.slots
    (ap (λ (j : json.Json). text_in (part 5 j)) e) in
    let parent = parent_same v.parent w.parent fits.parent suits.parent (ap (λ (j : json.Json). part 3 j) e) in
    ap₂ (λ (x : (BlobFacts × ℕ) × ℕ) (y : (Option ℕ × Bool) × Bool). record {
      blob = x.0.0;
      slots = x.0.1;
      own = x.1;
      parent = y.0.0;
      thin = y.0.1;
      read_only = y.1;
    })
    (ap₂ (λ (x : BlobFacts × ℕ) (n : ℕ). (x, n)) (ap₂ (λ (b : BlobFacts) (n : ℕ). (b, n)) blob slots) own)
    (ap₂ (λ (x : Option ℕ × Bool) (b : Bool). (x, b))
    (ap₂ (λ (o : Option ℕ) (b : Bool). (o, b)) parent (ap (λ (j : json.Json). bit_in (part 6 j)) e))
    (ap (λ (j : json.Json). bit_in (part 4 j)) e))

volumes_numbers : (vs : List VolumeFacts) → AllByRecursion FitsVolume vs
    → ItemsHaveNumbers (items_outline (items_of (map volume_data vs)))
volumes_numbers [] fits = tt
volumes_numbers (v ∷ vs) fits = (volume_numbers v fits.0, volumes_numbers vs fits.1)

volumes_same : (vs ws : List VolumeFacts) → AllByRecursion FitsVolume vs → AllByRecursion FitsVolume ws
    → items_outline (items_of (map volume_data vs)) ≡ items_outline (items_of (map volume_data ws)) → vs ≡ ws
volumes_same [] [] fits suits e = refl
volumes_same [] (w ∷ ws) fits suits e = cc e
volumes_same (v ∷ vs) [] fits suits e = cc e
volumes_same (v ∷ vs) (w ∷ ws) fits suits e =
    ap₂ (λ (x : VolumeFacts) (xs : List VolumeFacts). x ∷ xs)
    (volume_same v w fits.0 suits.0 (ap first_in e)) (volumes_same vs ws fits.1 suits.1 (ap rest_in e))

-- ---- the whole

numbers : (l : Listing) → FitsListing l → HasNumbers (outline (data_of l))
numbers l fits = (
  store_numbers l.store fits.store,
  (super_numbers l.super_blob fits.super_blob, (volumes_numbers l.volumes fits.volumes, tt)),
)

pub one_listing : (a b : Listing) → FitsListing a → FitsListing b → json_of a ≡ json_of b → a ≡ b
one_listing a b fits suits e =
    let texts : compact_text (data_of a) ≡ compact_text (data_of b) =
    front_same (compact_text (data_of a)) (compact_text (data_of b)) 10 e in
    let same : outline (data_of a) ≡ outline (data_of b) =
    same_json (outline (data_of a)) (outline (data_of b)) (numbers a fits) (numbers b suits)
    (print-outline (data_of a) ∙ texts ∙ sym (print-outline (data_of b))) in
    let store = store_same a.store b.store fits.store suits.store (ap (λ (j : json.Json). part 0 j) same) in
    let blob = super_same a.super_blob b.super_blob fits.super_blob suits.super_blob
    (ap (λ (j : json.Json). part 1 j) same) in
    let volumes = volumes_same a.volumes b.volumes fits.volumes suits.volumes
    (ap (λ (j : json.Json). items_in (part 2 j)) same) in
    ap₂ (λ (x : StoreFacts) (y : Option BlobFacts × List VolumeFacts). record {
      store = x;
      super_blob = y.0;
      volumes = y.1;
    }) store (ap₂ (λ (o : Option BlobFacts) (vs : List VolumeFacts). (o, vs)) blob volumes)
