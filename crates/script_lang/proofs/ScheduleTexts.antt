-- What the text that was read says.
use Rattle.std.proofs.Common.{◌≡◌, ℕ, ◌≤◌, ◌⊎◌, Bool, true, false, cond, leb, List, [], ◌∷◌, ◌++◌, Option, Some, None}
use Rattle.std.proofs.Common.{refl, sym, ap, ◌∙◌, subst, append_assoc, decimal, inl, inr}
use Rattle.std.proofs.lemmas.Bool.{false≢true}
use Rattle.script_lang.specs.declared.schedule.Actor.{Actor}
use Rattle.script_lang.specs.declared.reading.Place.{Place}
use Rattle.script_lang.specs.declared.reading.Place.TheVariants.{Start, Named, Times}
use Rattle.script_lang.specs.declared.reading.Reading.{Reading}
use Rattle.script_lang.specs.Schedules.{repeated, IsActor, AreActors, one_actor, more_actors, IsPart, once, times}
use Rattle.script_lang.specs.Schedules.{AreParts, one_part, more_parts}
use Rattle.script_lang.specs.Reading.{reading, ended_at, HasRoomAt}

abbrev pub Steps : Type 0
Steps = List Actor

-- parts that have ended, each with its comma
pub data AreDone : List ℕ → Steps → Type 0 where
  none_done : AreDone [] []
  some_done : (text : List ℕ) (steps : Steps) → AreParts text steps → AreDone (text ++ 44 ∷ []) steps

-- actors of a part, each with its `+`
pub data AreJoined : List ℕ → Steps → Type 0 where
  none_joined : AreJoined [] []
  some_joined : (text : List ℕ) (xs : Steps) → AreActors text xs → AreJoined (text ++ 43 ∷ []) xs

-- parts that have ended, and one that ends
pub part_done : (d p : List ℕ) (done later : Steps) → AreDone d done → IsPart p later
    → AreParts (d ++ p) (done ++ later)
part_done _ p _ later none_done i = one_part p later i
part_done _ p _ later (some_done text steps h) i =
    subst (λ (t : List ℕ). AreParts t (steps ++ later)) (sym (append_assoc text (44 ∷ []) p))
    (more_parts text p steps later h i)

-- actors of a part, and one more
pub actor_joined : (j x : List ℕ) (xs : Steps) (actor : Actor) → AreJoined j xs → IsActor x actor
    → AreActors (j ++ x) (xs ++ actor ∷ [])
actor_joined _ x _ actor none_joined i = one_actor x actor i
actor_joined _ x _ actor (some_joined text xs h) i =
    subst (λ (t : List ℕ). AreActors t (xs ++ actor ∷ [])) (sym (append_assoc text (43 ∷ []) x))
    (more_actors text x xs actor h i)

-- nothing of the next actor is read
pub record IsAtStart (text : List ℕ) (done xs : List Actor) : Type 0 where
  pub ended : List ℕ
  pub joined : List ℕ
  pub text_is : text ≡ ended ++ joined
  pub are_done : AreDone ended done
  pub are_joined : AreJoined joined xs

-- an actor is read
pub record IsAtActor (text : List ℕ) (done xs : List Actor) (actor : Actor) : Type 0 where
  pub ended : List ℕ
  pub joined : List ℕ
  pub name : List ℕ
  pub text_is : text ≡ ended ++ (joined ++ name)
  pub are_done : AreDone ended done
  pub are_joined : AreJoined joined xs
  pub is_actor : IsActor name actor

-- no digit of a count, or those of a count from 1 on
abbrev pub IsCount : List ℕ → ℕ → Type 0
IsCount digits n = ((n ≡ 0) × (digits ≡ [])) ⊎ ((1 ≤ n) × (digits ≡ decimal n))

-- a `*` is read, and the digits of a count
pub record IsAtCount (text : List ℕ) (done xs : List Actor) (n : ℕ) : Type 0 where
  pub ended : List ℕ
  pub actors : List ℕ
  pub digits : List ℕ
  pub text_is : text ≡ ended ++ (actors ++ 42 ∷ digits)
  pub are_done : AreDone ended done
  pub are_actors : AreActors actors xs
  pub is_count : IsCount digits n

-- what was read by the place that it came to
abbrev pub ReadsAt : List ℕ → List Actor → List Actor → Place → Type 0
ReadsAt text done xs Start = IsAtStart text done xs
ReadsAt text done xs (Named actor) = IsAtActor text done xs actor
ReadsAt text done xs (Times n) = IsAtCount text done xs n

-- what was read of a text
abbrev pub Reads : List ℕ → Reading → Type 0
Reads text r = ReadsAt text r.schedule r.actors r.place

-- before the first byte
pub none_read : Reads [] (reading [] [] Start)
none_read = record { ended = []; joined = []; text_is = refl; are_done = none_done; are_joined = none_joined }

-- a choice that gave something
pub when_some : {X : Type 0} (c : Bool) (x : Option X) (y : X) → cond c x None ≡ Some y → (c ≡ true) × (x ≡ Some y)
when_some true x y e = (refl, e)
when_some false x y e = absurd (cc)

-- which of two choices gave something
pub which_some : {X : Type 0} (c : Bool) (x y : Option X) (z : X) → cond c x y ≡ Some z
    → ((c ≡ true) × (x ≡ Some z)) ⊎ ((c ≡ false) × (y ≡ Some z))
which_some true x y z e = inl (refl, e)
which_some false x y z e = inr (refl, e)

-- one value in both
pub the_same : {X : Type 0} (x y : X) → Some x ≡ Some y → x ≡ y
the_same x y e = cc

-- a text that may end says its parts
pub ended_parts : (text : List ℕ) (done xs : Steps) (place : Place) (steps : Steps) → HasRoomAt done xs place
    → ReadsAt text done xs place → ended_at done xs place ≡ Some steps → AreParts text steps
ended_parts text done xs Start steps room h e = absurd (cc)
ended_parts text done xs (Named actor) steps room h e =
    let p = part_done h.ended (h.joined ++ h.name) done (repeated 1 (xs ++ actor ∷ [])) h.are_done
    (once (h.joined ++ h.name) (xs ++ actor ∷ []) (actor_joined h.joined h.name xs actor h.are_joined h.is_actor)) in
    subst (λ (t : List ℕ). AreParts t steps) (sym h.text_is)
    (subst (λ (s : Steps). AreParts (h.ended ++ (h.joined ++ h.name)) s) (the_same _ _ e) p)
ended_parts text done xs (Times n) steps room h e =
    let w = when_some (leb 1 n) _ _ e in
    elim h.is_count [
      | inl c ↦ absurd (false≢true (subst (λ (k : ℕ). leb 1 k ≡ true) c.0 w.0))
      | inr c ↦
          let p = part_done h.ended (h.actors ++ 42 ∷ decimal n) done (repeated n xs) h.are_done
          (times h.actors xs n h.are_actors c.0 room.2) in
          let t : text ≡ h.ended ++ (h.actors ++ 42 ∷ decimal n) = h.text_is
          ∙ ap (λ ds. h.ended ++ (h.actors ++ 42 ∷ ds)) c.1 in
          subst (λ (t : List ℕ). AreParts t steps) (sym t)
          (subst (λ (s : Steps). AreParts (h.ended ++ (h.actors ++ 42 ∷ decimal n)) s) (the_same _ _ w.1) p)
    ]
