-- Bytes have one reading.
use Rattle.std.proofs.Common.{◌≡◌, ℕ, ◌^◌, ◌<◌, false, cond, eqb, List, ◌++◌, length, refl, sym, ap, ◌∙◌}
use Rattle.std.proofs.Common.{arith, append_assoc}
use Rattle.std.proofs.lemmas.Bool.{ne_eqb}
use Rattle.nbd_words.specs.declared.options.OptionKind.{OptionKind}
use Rattle.nbd_words.specs.declared.options.OptionKind.TheVariants as options
use Rattle.nbd_words.specs.declared.options.OptionHead.{OptionHead}
use Rattle.nbd_words.specs.declared.requests.RequestKind.{RequestKind}
use Rattle.nbd_words.specs.declared.requests.RequestKind.TheVariants as requests
use Rattle.nbd_words.specs.declared.requests.RequestHead.{RequestHead}
use Rattle.nbd_words.specs.Numbers.{number_bytes}
use Rattle.nbd_words.specs.Options.{option_magic, option_number, IsOptionKind, AskedOption, AsksOption}
use Rattle.nbd_words.specs.Options.{IsInfoRequest, IsOptionHead, option_head_bytes, head_of_option}
use Rattle.nbd_words.specs.Requests.{request_magic, request_number, IsRequestKind, AskedRequest, AsksRequest}
use Rattle.nbd_words.specs.Requests.{payload_length, IsRequestHead, request_head_bytes}
use Rattle.nbd_words.proofs.NumberLaws.{same_number, same_text}

option_of : ℕ → OptionKind
option_of n = cond (eqb n 1) options.ExportName (cond (eqb n 2) options.Abort (cond (eqb n 3) options.ListExports
    (cond (eqb n 6) options.Info (cond (eqb n 7) options.Go (options.Other n)))))

option_back : (k : OptionKind) → IsOptionKind k → option_of (option_number k) ≡ k
unfolding option_of
option_back options.ExportName h = refl
option_back options.Abort h = refl
option_back options.ListExports h = refl
option_back options.Info h = refl
option_back options.Go h = refl
option_back (options.Other n) h =
    let a : eqb n 1 ≡ false = ne_eqb n 1 h.1 in
    let b : eqb n 2 ≡ false = ne_eqb n 2 h.2 in
    let c : eqb n 3 ≡ false = ne_eqb n 3 h.3 in
    let d : eqb n 6 ≡ false = ne_eqb n 6 h.4 in
    let e : eqb n 7 ≡ false = ne_eqb n 7 h.5 in
    rw (a, b, c, d, e) refl

-- one option has this number
same_option : (k l : OptionKind) → IsOptionKind k → IsOptionKind l → option_number k ≡ option_number l → k ≡ l
same_option k l h i e = sym (option_back k h) ∙ ap option_of e ∙ option_back l i

option_fits : (k : OptionKind) → IsOptionKind k → option_number k < 2 ^ 32
option_fits options.ExportName h = omega arith
option_fits options.Abort h = omega arith
option_fits options.ListExports h = omega arith
option_fits options.Info h = omega arith
option_fits options.Go h = omega arith
option_fits (options.Other n) h = h.0

request_of : ℕ → RequestKind
request_of n = cond (eqb n 0) requests.Read (cond (eqb n 1) requests.Write (cond (eqb n 2) requests.Disconnect
    (cond (eqb n 3) requests.Flush (requests.Other n))))

request_back : (k : RequestKind) → IsRequestKind k → request_of (request_number k) ≡ k
unfolding request_of
request_back requests.Read h = refl
request_back requests.Write h = refl
request_back requests.Disconnect h = refl
request_back requests.Flush h = refl
request_back (requests.Other n) h =
    let a : eqb n 0 ≡ false = ne_eqb n 0 h.1 in
    let b : eqb n 1 ≡ false = ne_eqb n 1 h.2 in
    let c : eqb n 2 ≡ false = ne_eqb n 2 h.3 in
    let d : eqb n 3 ≡ false = ne_eqb n 3 h.4 in
    rw (a, b, c, d) refl

-- one request has this number
same_request : (k l : RequestKind) → IsRequestKind k → IsRequestKind l → request_number k ≡ request_number l → k ≡ l
same_request k l h i e = sym (request_back k h) ∙ ap request_of e ∙ request_back l i

request_fits : (k : RequestKind) → IsRequestKind k → request_number k < 2 ^ 16
request_fits requests.Read h = omega arith
request_fits requests.Write h = omega arith
request_fits requests.Disconnect h = omega arith
request_fits requests.Flush h = omega arith
request_fits (requests.Other n) h = h.0

-- the same option with the same bytes
same_asked : (x y : AskedOption) → x.kind ≡ y.kind → x.bytes ≡ y.bytes → x ≡ y
same_asked x y e f =
    ap (λ (k : OptionKind). record { kind = k; bytes = x.bytes }) e
    ∙ ap (λ (t : List ℕ). record { kind = y.kind; bytes = t }) f

-- bytes begin with one head of an option
pub one_option_head : (g h : OptionHead) (r s : List ℕ) → IsOptionHead g → IsOptionHead h
    → option_head_bytes g ++ r ≡ option_head_bytes h ++ s → (g ≡ h) × (r ≡ s)
one_option_head g h r s p q e =
    let left : option_head_bytes g ++ r ≡ number_bytes 8 option_magic
    ++ (number_bytes 4 (option_number g.kind) ++ (number_bytes 4 g.length ++ r)) = simp append_assoc in
    let right : option_head_bytes h ++ s ≡ number_bytes 8 option_magic
    ++ (number_bytes 4 (option_number h.kind) ++ (number_bytes 4 h.length ++ s)) = simp append_assoc in
    let magic = same_number 8 option_magic option_magic _ _ (omega arith) (omega arith) (sym left ∙ e ∙ right) in
    let kind = same_number 4 (option_number g.kind) (option_number h.kind) _ _ (option_fits g.kind p.kind)
    (option_fits h.kind q.kind) magic.1 in
    let len = same_number 4 g.length h.length _ _ p.length q.length kind.1 in (
      ap (λ (k : OptionKind). record { kind = k; length = g.length }) (same_option g.kind h.kind p.kind q.kind kind.0)
          ∙ ap (λ (n : ℕ). record { kind = h.kind; length = n }) len.0,
      len.1,
    )

-- bytes begin with one option
pub one_option : (b : List ℕ) (x y : AskedOption) (r s : List ℕ) → AsksOption b x r → AsksOption b y s
    → (x ≡ y) × (r ≡ s)
one_option b x y r s p q =
    let left : b ≡ option_head_bytes (head_of_option x) ++ (x.bytes ++ r) =
    p.whole ∙ append_assoc (option_head_bytes (head_of_option x)) x.bytes r in
    let right : b ≡ option_head_bytes (head_of_option y) ++ (y.bytes ++ s) =
    q.whole ∙ append_assoc (option_head_bytes (head_of_option y)) y.bytes s in
    let heads = one_option_head (head_of_option x) (head_of_option y) _ _ p.head q.head (sym left ∙ right) in
    let text = same_text x.bytes y.bytes r s (ap (λ (h : OptionHead). h.length) heads.0) heads.1 in
    (same_asked x y (ap (λ (h : OptionHead). h.kind) heads.0) text.0, text.1)

-- the same head, field by field
same_head : (g h : RequestHead) → g.flags ≡ h.flags → g.kind ≡ h.kind → g.handle ≡ h.handle → g.offset ≡ h.offset
    → g.length ≡ h.length → g ≡ h
same_head g h a b c d e =
    ap (λ (x : ℕ). record { flags = x; kind = g.kind; handle = g.handle; offset = g.offset; length = g.length }) a
    ∙ ap (λ (x : RequestKind). record
    { flags = h.flags; kind = x; handle = g.handle; offset = g.offset; length = g.length }) b
    ∙ ap (λ (x : ℕ). record { flags = h.flags; kind = h.kind; handle = x; offset = g.offset; length = g.length }) c
    ∙ ap (λ (x : ℕ). record { flags = h.flags; kind = h.kind; handle = h.handle; offset = x; length = g.length }) d
    ∙ ap (λ (x : ℕ). record { flags = h.flags; kind = h.kind; handle = h.handle; offset = h.offset; length = x }) e

-- the same head with the same payload
same_asked_request : (x y : AskedRequest) → x.head ≡ y.head → x.payload ≡ y.payload → x ≡ y
same_asked_request x y e f =
    ap (λ (k : RequestHead). record { head = k; payload = x.payload }) e
    ∙ ap (λ (t : List ℕ). record { head = y.head; payload = t }) f

-- bytes begin with one head of a request
pub one_request_head : (g h : RequestHead) (r s : List ℕ) → IsRequestHead g → IsRequestHead h
    → request_head_bytes g ++ r ≡ request_head_bytes h ++ s → (g ≡ h) × (r ≡ s)
one_request_head g h r s p q e =
    let left : request_head_bytes g ++ r ≡ number_bytes 4 request_magic ++ (number_bytes 2 g.flags
    ++ (number_bytes 2 (request_number g.kind) ++ (number_bytes 8 g.handle ++ (number_bytes 8 g.offset
    ++ (number_bytes 4 g.length ++ r))))) = simp append_assoc in
    let right : request_head_bytes h ++ s ≡ number_bytes 4 request_magic ++ (number_bytes 2 h.flags
    ++ (number_bytes 2 (request_number h.kind) ++ (number_bytes 8 h.handle ++ (number_bytes 8 h.offset
    ++ (number_bytes 4 h.length ++ s))))) = simp append_assoc in
    let magic = same_number 4 request_magic request_magic _ _ (omega arith) (omega arith) (sym left ∙ e ∙ right) in
    let flags = same_number 2 g.flags h.flags _ _ p.flags q.flags magic.1 in
    let kind = same_number 2 (request_number g.kind) (request_number h.kind) _ _ (request_fits g.kind p.kind)
    (request_fits h.kind q.kind) flags.1 in
    let handle = same_number 8 g.handle h.handle _ _ p.handle q.handle kind.1 in
    let offset = same_number 8 g.offset h.offset _ _ p.offset q.offset handle.1 in
    let len = same_number 4 g.length h.length _ _ p.length q.length offset.1 in (
      same_head g h flags.0 (same_request g.kind h.kind p.kind q.kind kind.0) handle.0 offset.0 len.0,
      len.1,
    )

-- bytes begin with one request
pub one_request : (b : List ℕ) (x y : AskedRequest) (r s : List ℕ) → AsksRequest b x r → AsksRequest b y s
    → (x ≡ y) × (r ≡ s)
one_request b x y r s p q =
    let left : b ≡ request_head_bytes x.head ++ (x.payload ++ r) =
    p.whole ∙ append_assoc (request_head_bytes x.head) x.payload r in
    let right : b ≡ request_head_bytes y.head ++ (y.payload ++ s) =
    q.whole ∙ append_assoc (request_head_bytes y.head) y.payload s in
    let heads = one_request_head x.head y.head _ _ p.head q.head (sym left ∙ right) in
    let text = same_text x.payload y.payload r s
    (p.payload ∙ ap (λ (k : RequestHead). payload_length k.kind k.length) heads.0 ∙ sym q.payload) heads.1 in
    (same_asked_request x y heads.0 text.0, text.1)

-- the bytes of INFO have one name, and one list of what is asked for
pub one_info : (b name other infos others : List ℕ) → IsInfoRequest b name infos → IsInfoRequest b other others
    → (name ≡ other) × (infos ≡ others)
one_info b name other infos others p q =
    let left : b ≡ number_bytes 4 (length name) ++ (name ++ (number_bytes 2 p.count ++ infos)) =
    p.whole ∙ simp append_assoc in
    let right : b ≡ number_bytes 4 (length other) ++ (other ++ (number_bytes 2 q.count ++ others)) =
    q.whole ∙ simp append_assoc in
    let len = same_number 4 (length name) (length other) _ _ p.name_fits q.name_fits (sym left ∙ right) in
    let text = same_text name other _ _ len.0 len.1 in
    (text.0, (same_number 2 p.count q.count infos others p.count_fits q.count_fits text.1).1)
