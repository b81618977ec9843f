-- What was taken is what was said.
use Rattle.std.proofs.Common.{◌≡◌, ℕ, ◌+◌, ◌≤◌, ◌<◌, List, ◌++◌, length, take, drop, sym, ap, ◌∙◌}
use Rattle.std.proofs.Common.{arith, append_assoc, length-append}
use Rattle.std.proofs.lemmas.List.{take-append-drop, length-take}
use Rattle.nbd_words.specs.declared.options.OptionHead.{OptionHead}
use Rattle.nbd_words.specs.declared.requests.RequestHead.{RequestHead}
use Rattle.nbd_words.specs.Options.{IsOptionHead, option_head_bytes, head_of_option, AskedOption, AsksOption}
use Rattle.nbd_words.specs.Requests.{IsRequestHead, request_head_bytes, payload_length, AskedRequest, AsksRequest}
use Rattle.nbd_words.specs.Options.{client_flags_number, client_flags_bytes}
use Rattle.nbd_words.specs.declared.options.ClientFlags.{ClientFlags}
use Rattle.nbd_words.proofs.NumberLaws.{length-number, same_text}
use Rattle.nbd_words.proofs.OneReading.{one_option_head, one_request_head}
use Rattle.std.specs.Prelude.{Result, Ok, Err, IsErrAnd}
use Rattle.nbd_reader.specs.declared.fault.ReadFault.{ReadFault}
use Rattle.nbd_reader.specs.declared.fault.ReadFault.TheVariants.{Cut}
use Rattle.nbd_reader.specs.declared.payloads.Payload.{Payload}
use Rattle.nbd_reader.specs.Taken.{Takes}
use Rattle.nbd_reader.specs.Reading.{GivesPayload, GivesRequest}

-- an end inside that is passed on was one
pub cut_passed : {T : Type 0} (r : Result T ReadFault) (x : ReadFault) → IsErrAnd r (λ y. y ≡ x) → r ≡ Err Cut
    → x ≡ Cut
cut_passed (Ok v) x h e = absurd h
cut_passed (Err y) x h e = let same : y ≡ Cut = cc in sym h ∙ same

-- a request has a head
pub request_long : (left : List ℕ) (asked : AskedRequest) (rest : List ℕ) → AsksRequest left asked rest
    → 28 ≤ length left
request_long left asked rest q =
    let e : length left ≡ 28 + length asked.payload + length rest =
    ap length q.whole ∙ simp (length-append, length-number) (omega arith) in
    omega arith

-- an option has a head
pub option_long : (left : List ℕ) (asked : AskedOption) (rest : List ℕ) → AsksOption left asked rest
    → 16 ≤ length left
option_long left asked rest q =
    let e : length left ≡ 16 + length asked.bytes + length rest =
    ap length q.whole ∙ simp (length-append, length-number) (omega arith) in
    omega arith

-- a buffer that was filled stands in front of what is left behind it
pub front_of : (left mid buffer : List ℕ) (n : ℕ) → length buffer ≡ n → take n buffer ≡ take n left
    → take n buffer ≡ buffer → Takes left mid n → left ≡ buffer ++ mid
front_of left mid buffer n long same whole t =
    sym (take-append-drop n left) ∙ ap (λ (x : List ℕ). x ++ drop n left) (sym same ∙ whole)
    ∙ ap (λ (x : List ℕ). buffer ++ x) (sym t.rest)

-- the same for a buffer that was filled whole
pub whole_front : (left mid buffer : List ℕ) → Takes left mid (length buffer) → buffer ≡ take (length buffer) left
    → left ≡ buffer ++ mid
whole_front left mid buffer t is =
    sym (take-append-drop (length buffer) left) ∙ ap (λ (x : List ℕ). x ++ drop (length buffer) left) (sym is)
    ∙ ap (λ (x : List ℕ). buffer ++ x) (sym t.rest)

-- where four bytes aren't a client's flags, none stand in front
pub other_flags : (left mid buffer : List ℕ) → left ≡ buffer ++ mid → length buffer ≡ 4
    → ((flags : ClientFlags) → buffer ≡ client_flags_bytes flags → ⊥)
    → (flags : ClientFlags) (rest : List ℕ) → left ≡ client_flags_bytes flags ++ rest → ⊥
other_flags left mid buffer is long none flags rest e =
    none flags (same_text buffer (client_flags_bytes flags) mid rest
    (long ∙ sym (length-number 4 (client_flags_number flags))) (sym is ∙ e)).0

-- where a payload isn't whole, no request begins
pub short_payload : (left mid : List ℕ) (head : RequestHead) → IsRequestHead head
    → left ≡ request_head_bytes head ++ mid → length mid < payload_length head.kind head.length
    → (asked : AskedRequest) (rest : List ℕ) → AsksRequest left asked rest → ⊥
short_payload left mid head fits is short asked rest q =
    let other : left ≡ request_head_bytes asked.head ++ (asked.payload ++ rest) =
    q.whole ∙ append_assoc (request_head_bytes asked.head) asked.payload rest in
    let same = one_request_head head asked.head mid (asked.payload ++ rest) fits q.head (sym is ∙ other) in
    let count : payload_length head.kind head.length ≡ payload_length asked.head.kind asked.head.length =
    ap (λ (h : RequestHead). payload_length h.kind h.length) same.0 in
    absurd (omega (arith, ap length same.1, length-append asked.payload rest, q.payload, count))

-- where an option's bytes aren't whole, no option begins
pub short_bytes : (left mid : List ℕ) (head : OptionHead) → IsOptionHead head → left ≡ option_head_bytes head ++ mid
    → length mid < head.length → (asked : AskedOption) (rest : List ℕ) → AsksOption left asked rest → ⊥
short_bytes left mid head fits is short asked rest q =
    let other : left ≡ option_head_bytes (head_of_option asked) ++ (asked.bytes ++ rest) =
    q.whole ∙ append_assoc (option_head_bytes (head_of_option asked)) asked.bytes rest in
    let same = one_option_head head (head_of_option asked) mid (asked.bytes ++ rest) fits q.head (sym is ∙ other) in
    let count : head.length ≡ length asked.bytes = ap (λ (h : OptionHead). h.length) same.0 in
    absurd (omega (arith, ap length same.1, length-append asked.bytes rest, count))

-- a head and a payload are a request
pub gives_request : (left mid now : List ℕ) (head : RequestHead) (payload : Payload) (n : ℕ) → IsRequestHead head
    → left ≡ request_head_bytes head ++ mid → n ≡ payload_length head.kind head.length → Takes mid now n
    → GivesPayload payload (take n mid) → GivesRequest left (record { head = head; payload = payload }) now
gives_request left mid now head payload n fits is count t given = record {
  payload = take n mid;
  given = given;
  asks = record {
    head = fits;
    payload = let w : n ≤ length mid = t.within in omega (arith, length-take n mid);
    whole = is ∙ ap (λ (x : List ℕ). request_head_bytes head ++ x)
        (sym (take-append-drop n mid) ∙ ap (λ (x : List ℕ). take n mid ++ x) (sym t.rest))
        ∙ sym (append_assoc (request_head_bytes head) (take n mid) now);
  };
}
