-- The words that follow a verb, read one by one.
use Rattle.std.proofs.Common.{◌≡◌, ℕ, ◌+◌, ◌<◌, ◌≤◌, List, [], ◌∷◌, ◌++◌, length, drop, get_or, Option, Some, None}
use Rattle.std.proofs.Common.{Result, Ok, Err, refl, sym, ap, ◌∙◌, subst, append_assoc, append-nil, add-one, arith}
use Rattle.std.proofs.Common.{length-append, drop-cons}
use Rattle.std.proofs.lemmas.Grind.{common_steps}
use Rattle.script_lang.specs.declared.fault.LineKind.{LineKind}
use Rattle.script_lang.specs.declared.fault.LineKind.TheVariants as kind
use Rattle.script_lang.specs.declared.form.Form.{Form}
use Rattle.script_lang.specs.declared.form.Value.{Value}
use Rattle.script_lang.specs.Forms.{says_word, says_values, joined, or_kind, kind_of_form, worse, fault_after}
use Rattle.script_lang.specs.Forms.{said_or_wrong}

worse_assoc : (a b c : LineKind) → worse (worse a b) c ≡ worse a (worse b c)
worse_assoc a b kind.Form = refl
worse_assoc a b _ = refl

-- what words say is the same however they are grouped
pub joined_assoc : (a b c : Result (List Value) LineKind) → joined (joined a b) c ≡ joined a (joined b c)
joined_assoc (Ok a) (Ok b) (Ok c) = ap Ok (append_assoc a b c)
joined_assoc (Ok a) (Ok b) (Err k) = refl
joined_assoc (Ok a) (Err k) (Ok c) = refl
joined_assoc (Ok a) (Err k) (Err l) = refl
joined_assoc (Err k) (Ok b) (Ok c) = refl
joined_assoc (Err k) (Ok b) (Err l) = refl
joined_assoc (Err k) (Err l) (Ok c) = refl
joined_assoc (Err k) (Err l) (Err m) = ap Err (worse_assoc k l m)

joined_none : (a : Result (List Value) LineKind) → joined a (Ok []) ≡ a
joined_none (Ok a) = ap Ok (append-nil a)
joined_none (Err k) = refl

no_words : (forms : List Form) → says_values forms [] ≡ Ok []
no_words [] = refl
no_words (form ∷ forms) = refl

-- what the first words said, so many forms being read, with what the others say
pub record IsReading (forms : List Form) (words : List (List ℕ)) (index : ℕ)
    (left : List (List ℕ)) (values : List Value) (fault : Option LineKind) : Type 0 where
  pub whole : joined (said_or_wrong values fault) (says_values (drop index forms) left) ≡ says_values forms
      words
  pub few : length values ≤ index

none_said : (r : Result (List Value) LineKind) → joined (said_or_wrong [] None) r ≡ r
none_said (Ok values) = refl
none_said (Err kind) = refl

pub begun : (forms : List Form) (words : List (List ℕ))
    → IsReading forms words 0 words [] None
begun forms words = record { whole = none_said (says_values forms words); few = omega arith }

said_good : (values : List Value) (fault : Option LineKind) (value : Value)
    → joined (said_or_wrong values fault) (Ok (value ∷ [])) ≡ said_or_wrong (values ++ value ∷ []) fault
said_good values None value = refl
said_good values (Some kind) value = refl

said_bad : (values : List Value) (fault : Option LineKind) (kind : LineKind)
    → joined (said_or_wrong values fault) (Err kind) ≡ said_or_wrong values (Some (fault_after fault kind))
said_bad values None kind = refl
said_bad values (Some first) kind = refl

next_form : (forms : List Form) (index : ℕ) (d : Form) → index < length forms
    → drop index forms ≡ get_or forms index d ∷ drop (index + 1) forms
next_form forms index d lt = rw add-one (drop-cons forms index d lt)

module _ (forms : List Form) (words : List (List ℕ)) (index : ℕ) (left : List (List ℕ))
    (values : List Value) (fault : Option LineKind) (r : IsReading forms words index left values fault)
    (d : Form) (lt : index < length forms) where
  -- no word is left for this form
  pub none_left : (ended : List (List ℕ)) → left ≡ [] → ended ≡ []
      → IsReading forms words (index + 1) ended values fault
  none_left ended e still = record {
    whole =
        ap (λ w. joined (said_or_wrong values fault) (says_values (drop (index + 1) forms) w)) still
        ∙ ap (joined (said_or_wrong values fault)) (no_words (drop (index + 1) forms)
        ∙ sym (no_words (drop index forms)))
        ∙ ap (λ w. joined (said_or_wrong values fault) (says_values (drop index forms) w)) (sym e)
        ∙ r.whole;
    few = omega (arith, r.few);
  }

  module _ (word : List ℕ) (rest : List (List ℕ)) (e : left ≡ word ∷ rest) where
    split : joined (joined (said_or_wrong values fault)
        (or_kind (get_or forms index d) (says_word (get_or forms index d) word)))
        (says_values (drop (index + 1) forms) rest) ≡ says_values forms words
    split =
        joined_assoc (said_or_wrong values fault)
        (or_kind (get_or forms index d) (says_word (get_or forms index d) word))
        (says_values (drop (index + 1) forms) rest)
        ∙ ap (λ fs. joined (said_or_wrong values fault) (says_values fs (word ∷ rest)))
        (sym (next_form forms index d lt))
        ∙ ap (λ w. joined (said_or_wrong values fault) (says_values (drop index forms) w)) (sym e)
        ∙ r.whole

    pub one_value : (value : Value) → says_word (get_or forms index d) word ≡ Some value
        → IsReading forms words (index + 1) rest (values ++ value ∷ []) fault
    one_value value said = record {
      whole = ap (λ a. joined a (says_values (drop (index + 1) forms) rest))
          (sym (ap (λ o. joined (said_or_wrong values fault) (or_kind (get_or forms index d) o)) said
          ∙ said_good values fault value)) ∙ split;
      few = omega (arith, r.few, length-append values (value ∷ []));
    }

    pub one_fault : says_word (get_or forms index d) word ≡ None
        → IsReading forms words (index + 1) rest values
        (Some (fault_after fault (kind_of_form (get_or forms index d))))
    one_fault said = record {
      whole = ap (λ a. joined a (says_values (drop (index + 1) forms) rest))
          (sym (ap (λ o. joined (said_or_wrong values fault) (or_kind (get_or forms index d) o)) said
          ∙ said_bad values fault (kind_of_form (get_or forms index d)))) ∙ split;
      few = omega (arith, r.few);
    }

pub all_read : (forms : List Form) (words left : List (List ℕ)) (index : ℕ) (values : List Value)
    (fault : Option LineKind)
    → IsReading forms words index left values fault → length forms ≤ index
    → says_values forms words ≡ said_or_wrong values fault
all_read forms words left index values fault r end =
    sym r.whole
    ∙ ap (λ fs. joined (said_or_wrong values fault) (says_values fs left)) (none_after forms index end)
    ∙ joined_none (said_or_wrong values fault)
  where
    none_after : (forms : List Form) (index : ℕ) → length forms ≤ index → drop index forms ≡ []
    none_after forms index end = grind (arith, common_steps)

-- the same for values and a fault that are the same
pub as_now : (forms : List Form) (words left : List (List ℕ)) (index : ℕ)
    (values new_values : List Value) (fault new_fault : Option LineKind)
    → IsReading forms words index left values fault → new_values ≡ values → new_fault ≡ fault
    → IsReading forms words index left new_values new_fault
as_now forms words left index values new_values fault new_fault r v f =
    subst (λ (x : Option LineKind). IsReading forms words index left new_values x) (sym f)
    (subst (λ (x : List Value). IsReading forms words index left x fault) (sym v) r)
