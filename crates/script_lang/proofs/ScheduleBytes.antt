-- What a text says with a byte more.
use Rattle.std.proofs.Common.{◌≡◌, ℕ, ◌+◌, ◌-◌, ◌*◌, ◌/◌, ◌%◌, ◌≤◌, ◌^◌, true, ◌&&◌, ltb, leb, eqb, List, [], ◌∷◌, ◌++◌}
use Rattle.std.proofs.Common.{length, Option, Some, None, refl, sym, ap, ◌∙◌, subst, append_assoc, decimal, codes, inl}
use Rattle.std.proofs.Common.{inr, arith}
use Rattle.std.specs.Option.{option_and_then}
use Rattle.std.proofs.lemmas.Bool.{false≢true, leb-true, eqb-true}
use Rattle.std.proofs.lemmas.List.{append-nil}
use Rattle.std.proofs.lemmas.Fmt.{decimal_digit, decimal_step}
use Rattle.script_lang.specs.declared.schedule.Actor.{Actor}
use Rattle.script_lang.specs.declared.schedule.Actor.TheVariants.{Channel, Metadata}
use Rattle.script_lang.specs.declared.reading.Place.{Place}
use Rattle.script_lang.specs.declared.reading.Place.TheVariants.{Start, Named, Times}
use Rattle.script_lang.specs.declared.reading.Reading.{Reading}
use Rattle.script_lang.specs.Schedules.{IsActor, metadata, channel, AreParts}
use Rattle.script_lang.proofs.Numbers.{both}
use Rattle.script_lang.proofs.ScheduleReads.{two_digits}
use Rattle.script_lang.specs.Reading.{reading, after_start, after_actor, after_count, with_comma, ended, within_part}
use Rattle.script_lang.specs.Reading.{reading_after, goes_on_as_number, HasRoomAt, HasRoom}
use Rattle.script_lang.proofs.ScheduleTexts.{Steps, some_done, none_joined, some_joined, actor_joined, IsAtStart}
use Rattle.script_lang.proofs.ScheduleTexts.{IsAtActor, IsCount, IsAtCount, ReadsAt, Reads, when_some, which_some}
use Rattle.script_lang.proofs.ScheduleTexts.{the_same, ended_parts}

-- a byte more
one_more : (a b c : List ℕ) (byte : ℕ) → (a ++ (b ++ c)) ++ byte ∷ [] ≡ a ++ (b ++ (c ++ byte ∷ []))
one_more a b c byte = append_assoc a (b ++ c) (byte ∷ []) ∙ ap (λ t. a ++ t) (append_assoc b c (byte ∷ []))

comma_read : (text : List ℕ) (steps : Steps) (s : Reading) → AreParts text steps → with_comma steps ≡ Some s
    → Reads (text ++ 44 ∷ []) s
comma_read text steps s h e =
    let w = when_some (ltb (length steps) (2 ^ 16)) _ s e in
    let same : reading steps [] Start ≡ s = the_same _ _ w.1 in
    subst (Reads (text ++ 44 ∷ [])) same (record {
      ended = text ++ 44 ∷ [];
      joined = [];
      text_is = sym (append-nil (text ++ 44 ∷ []));
      are_done = some_done text steps h;
      are_joined = none_joined;
    })

-- a byte that begins an actor
pub start_read : (text : List ℕ) (done xs : Steps) (b : ℕ) (s : Reading) → IsAtStart text done xs
    → after_start done xs b ≡ Some s
    → Reads (text ++ b ∷ []) s
start_read text done xs b s h e =
    let t : text ++ b ∷ [] ≡ h.ended ++ (h.joined ++ b ∷ []) =
    ap (λ u. u ++ b ∷ []) h.text_is ∙ append_assoc h.ended h.joined (b ∷ []) in
    elim (which_some (eqb b 109) _ _ s e) [
      | inl w ↦ subst (Reads (text ++ b ∷ [])) (the_same _ _ w.1) (record {
        ended = h.ended;
        joined = h.joined;
        name = b ∷ [];
        text_is = t;
        are_done = h.are_done;
        are_joined = h.are_joined;
        is_actor = subst (λ (k : ℕ). IsActor (k ∷ []) Metadata) (sym (eqb-true b 109 w.0)) metadata;
      })
      | inr w ↦
          let d = when_some (leb 48 b && leb b 57) _ s w.1 in
          let within = both (leb 48 b) (leb b 57) d.0 in
          let low : 48 ≤ b = leb-true 48 b within.0 in
          let high : b ≤ 57 = leb-true b 57 within.1 in
          let k : 48 + (b - 48) ≡ b = omega arith in
          let name : decimal (b - 48) ≡ b ∷ [] = decimal_digit (b - 48) (omega arith) ∙ ap (λ (n : ℕ). n ∷ []) k in
          subst (Reads (text ++ b ∷ [])) (the_same _ _ d.1) (record {
            ended = h.ended;
            joined = h.joined;
            name = b ∷ [];
            text_is = t;
            are_done = h.are_done;
            are_joined = h.are_joined;
            is_actor = subst (λ (n : List ℕ). IsActor n (Channel (b - 48))) name (channel (b - 48) (omega arith));
          })
    ]

-- the text of an actor
abbrev text_of : Actor → List ℕ
text_of (Channel n) = decimal n
text_of Metadata = codes "m"

named_text : (text : List ℕ) (actor : Actor) → IsActor text actor → text ≡ text_of actor
named_text _ _ metadata = refl
named_text _ _ (channel n lt) = refl

longer_name : (name : List ℕ) (actor : Actor) (b : ℕ) → IsActor name actor → goes_on_as_number actor b ≡ true
    → IsActor (name ++ b ∷ []) (Channel (b - 38))
longer_name name Metadata b h e = absurd (false≢true e)
longer_name name (Channel n) b h e =
    let w = both (eqb n 1) _ e in
    let within = both (leb 48 b) (leb b 53) w.1 in
    let low : 48 ≤ b = leb-true 48 b within.0 in
    let high : b ≤ 53 = leb-true b 53 within.1 in
    let k : 38 + (b - 38) ≡ b = omega arith in
    let one : name ≡ 49 ∷ [] = named_text name (Channel n) h
    ∙ ap decimal (eqb-true n 1 w.0) ∙ decimal_digit 1 (omega arith) in
    let two : decimal (b - 38) ≡ 49 ∷ b ∷ [] = two_digits (b - 38) (omega arith) (omega arith)
    ∙ ap (λ (m : ℕ). 49 ∷ m ∷ []) k in
    let all : decimal (b - 38) ≡ name ++ b ∷ [] = two ∙ sym (ap (λ m. m ++ b ∷ []) one) in
    subst (λ (m : List ℕ). IsActor m (Channel (b - 38))) all (channel (b - 38) (omega arith))

actor_read_on : (text : List ℕ) (done xs : Steps) (actor : Actor) (b : ℕ) (s : Reading) → IsAtActor text done xs actor
    → after_actor done xs actor b ≡ Some s → Reads (text ++ b ∷ []) s
actor_read_on text done xs actor b s h e =
    let all = actor_joined h.joined h.name xs actor h.are_joined h.is_actor in
    elim (which_some (eqb b 43) _ _ s e) [
      | inl w ↦
          let f = when_some (leb (length done + length xs + 2) (2 ^ 16)) _ s w.1 in
          subst (Reads (text ++ b ∷ [])) (the_same _ _ f.1) (record {
            ended = h.ended;
            joined = (h.joined ++ h.name) ++ 43 ∷ [];
            text_is = ap (λ t. t ++ b ∷ []) h.text_is ∙ append_assoc h.ended (h.joined ++ h.name) (b ∷ [])
                ∙ ap (λ k. h.ended ++ ((h.joined ++ h.name) ++ k ∷ [])) (eqb-true b 43 w.0);
            are_done = h.are_done;
            are_joined = some_joined (h.joined ++ h.name) (xs ++ actor ∷ []) all;
          })
      | inr w ↦
          elim (which_some (eqb b 42) _ _ s w.1) [
            | inl v ↦ subst (Reads (text ++ b ∷ [])) (the_same _ _ v.1) (record {
              ended = h.ended;
              actors = h.joined ++ h.name;
              digits = [];
              text_is = ap (λ t. t ++ b ∷ []) h.text_is ∙ append_assoc h.ended (h.joined ++ h.name) (b ∷ [])
                  ∙ ap (λ k. h.ended ++ ((h.joined ++ h.name) ++ k ∷ [])) (eqb-true b 42 v.0);
              are_done = h.are_done;
              are_actors = all;
              is_count = inl (refl, refl);
            })
            | inr v ↦
                let g = when_some (goes_on_as_number actor b) _ s v.1 in
                subst (Reads (text ++ b ∷ [])) (the_same _ _ g.1) (record {
                  ended = h.ended;
                  joined = h.joined;
                  name = h.name ++ b ∷ [];
                  text_is = ap (λ t. t ++ b ∷ []) h.text_is ∙ one_more h.ended h.joined h.name b;
                  are_done = h.are_done;
                  are_joined = h.are_joined;
                  is_actor = longer_name h.name actor b h.is_actor g.0;
                })
          ]
    ]

-- a digit more
longer_count : (digits : List ℕ) (n b : ℕ) → 48 ≤ b → b ≤ 57 → 1 ≤ n * 10 + (b - 48) → n ≤ 2 ^ 16 → IsCount digits n
    → decimal (n * 10 + (b - 48)) ≡ digits ++ b ∷ []
longer_count digits n b low high some most (inl c) =
    let k : 48 + (b - 48) ≡ b = omega arith in
    let m : n * 10 + (b - 48) ≡ b - 48 = omega (arith, c.0) in
    ap decimal m ∙ decimal_digit (b - 48) (omega arith) ∙ ap (λ (n : ℕ). n ∷ []) k ∙ sym (ap (λ ds. ds ++ b ∷ []) c.1)
longer_count digits n b low high some most (inr c) =
    let q : (n * 10 + (b - 48)) / 10 ≡ n = omega arith in
    let r : 48 + (n * 10 + (b - 48)) % 10 ≡ b = omega arith in
    decimal_step (n * 10 + (b - 48)) (omega (arith, c.0)) (omega arith)
    ∙ ap (λ k. decimal k ++ (48 + (n * 10 + (b - 48)) % 10) ∷ []) q
    ∙ ap (λ (k : ℕ). decimal n ++ k ∷ []) r ∙ sym (ap (λ ds. ds ++ b ∷ []) c.1)

-- a digit of a count
pub count_read_on : (text : List ℕ) (done xs : Steps) (n b : ℕ) (s : Reading) → n ≤ 2 ^ 16 → IsAtCount text done xs n
    → after_count done xs n b ≡ Some s → Reads (text ++ b ∷ []) s
count_read_on text done xs n b s most h e =
    let w = when_some (leb 48 b && leb b 57) _ s e in
    let within = both (leb 48 b) (leb b 57) w.0 in
    let f = when_some _ _ s w.1 in
    let least = both (leb 1 (n * 10 + (b - 48)) && leb (n * 10 + (b - 48)) (2 ^ 16)) _ f.0 in
    let first = both (leb 1 (n * 10 + (b - 48))) _ least.0 in
    let some : 1 ≤ n * 10 + (b - 48) = leb-true 1 _ first.0 in
    subst (Reads (text ++ b ∷ [])) (the_same _ _ f.1) (record {
      ended = h.ended;
      actors = h.actors;
      digits = h.digits ++ b ∷ [];
      text_is = ap (λ t. t ++ b ∷ []) h.text_is ∙ one_more h.ended h.actors (42 ∷ h.digits) b;
      are_done = h.are_done;
      are_actors = h.are_actors;
      is_count = inr (
        some,
        sym (longer_count h.digits n b (leb-true 48 b within.0) (leb-true b 57 within.1) some most h.is_count),
      );
    })

within_read : (text : List ℕ) (done xs : Steps) (place : Place) (b : ℕ) (s : Reading) → HasRoomAt done xs place
    → ReadsAt text done xs place → within_part done xs place b ≡ Some s → Reads (text ++ b ∷ []) s
within_read text done xs Start b s room h e = start_read text done xs b s h e
within_read text done xs (Named actor) b s room h e = actor_read_on text done xs actor b s h e
within_read text done xs (Times n) b s room h e = count_read_on text done xs n b s room.2 h e

and_then_some : (o : Option Steps) (s : Reading) → option_and_then with_comma o ≡ Some s
    → (steps : Steps) × ((o ≡ Some steps) × (with_comma steps ≡ Some s))
and_then_some None s e = absurd (cc)
and_then_some (Some steps) s e = (steps, (refl, e))

-- a byte with which the reading goes on
pub byte_read : (text : List ℕ) (r s : Reading) (b : ℕ) → HasRoom r → Reads text r → reading_after r b ≡ Some s
    → Reads (text ++ b ∷ []) s
byte_read text r s b room h e =
    elim (which_some (eqb b 44) (option_and_then with_comma (ended r))
    (within_part r.schedule r.actors r.place b) s e) [
      | inl w ↦
          let c = and_then_some (ended r) s w.1 in
          subst (λ (k : ℕ). Reads (text ++ k ∷ []) s) (sym (eqb-true b 44 w.0))
          (comma_read text c.0 s (ended_parts text r.schedule r.actors r.place c.0 room h c.1.0) c.1.1)
      | inr w ↦ within_read text r.schedule r.actors r.place b s room h w.1
    ]
