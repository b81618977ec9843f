-- Each generated line is a line of the grammar, with its command in its channel.
use Rattle.std.proofs.Common.{◌≡◌, ℕ, zero, suc, ◌+◌, ◌-◌, ◌/◌, ◌%◌, ◌<◌, ◌^◌, Bool, true, false, ◌&&◌, cond, eqb, ltb}
use Rattle.std.proofs.Common.{List, [], ◌∷◌, ◌++◌, length, map, Some, None, Ok, Err, refl, sym, ap, subst, ◌∙◌}
use Rattle.std.proofs.Common.{append_assoc, decimal, codes, arith}
use Rattle.std.specs.Prelude.{nat_lt}
use Rattle.std.specs.List.{All, range_with_len}
use Rattle.std.specs.Option.{option_map, option_and_then}
use Rattle.std.proofs.lemmas.Bool.{lt-ltb, ltb-true}
use Rattle.std.proofs.lemmas.Bool.Decides.{nat_tests}
use Rattle.std.proofs.lemmas.Fmt.{decimal_digit}
use Rattle.std.proofs.lemmas.List.Elements.{All-nil, All-cons}
use Rattle.std.proofs.Math.Nat.{mod-lt}
use Rattle.volume_model.specs.declared.command.VolumeRef.{VolumeRef}
use Rattle.volume_model.specs.declared.command.VolumeRef.TheVariants.{Named}
use Rattle.volume_model.specs.declared.command.PageWord.TheVariants.{Fill}
use Rattle.volume_model.specs.declared.command.Command.{Command}
use Rattle.volume_model.specs.declared.command.Command.TheVariants as c
use Rattle.lvol_store.specs.Names.{is_name}
use Rattle.script_lang.specs.declared.fault.LineKind.TheVariants as kind
use Rattle.script_lang.specs.declared.form.Form.{Form}
use Rattle.script_lang.specs.declared.form.Form.TheVariants as form
use Rattle.script_lang.specs.declared.form.Value.{Value}
use Rattle.script_lang.specs.declared.form.Value.TheVariants as value
use Rattle.script_lang.specs.declared.generated.GeneratedCommand.{GeneratedCommand}
use Rattle.script_lang.specs.declared.generated.GeneratedCommand.TheVariants.{Create, Write, Read, Flush, Put}
use Rattle.script_lang.specs.declared.generated.GeneratedLine.{GeneratedLine}
use Rattle.script_lang.specs.declared.verb.Verb.{Verb}
use Rattle.script_lang.specs.declared.verb.Verb.TheVariants as v
use Rattle.script_lang.specs.Commands.{commands_of, page_by_page, write_at, read_at}
use Rattle.script_lang.specs.Forms.{says_word, says_values, joined, or_kind}
use Rattle.script_lang.specs.Generated.{AreDrawn, drawn_command, drawn_line, making_line, generated_line, volume_name}
use Rattle.script_lang.specs.Generated.{words_of, text_of, generated_command, request_of}
use Rattle.script_lang.specs.Generator.{after_draws, drawn, before_line}
use Rattle.script_lang.specs.Lines.{says, says_words, says_verb, commands_said, in_channel, is_skipped, is_printable}
use Rattle.script_lang.specs.Lines.{is_spaced, words, no_request}
use Rattle.script_lang.specs.Verbs.{verb_in, forms_of, takes}
use Rattle.script_lang.specs.Words.{name_in, count_of, is_visible, value_in}
use Rattle.script_lang.proofs.Numbers.{is_number}
use Rattle.script_lang.proofs.SpacedWords.{spaced, IsWord, words_are, are_printable, are_spaced, decimal_visible}
use Rattle.script_lang.proofs.SpacedWords.{decimal_word}

-- what holds of 0 to 3 holds of each number below 4
below_four : (P : ℕ → Type 0) → P 0 → P 1 → P 2 → P 3 → (n : ℕ) → n < 4 → P n
below_four P a b c d zero lt = a
below_four P a b c d (suc zero) lt = b
below_four P a b c d (suc (suc zero)) lt = c
below_four P a b c d (suc (suc (suc zero))) lt = d
below_four P a b c d (suc (suc (suc (suc n)))) lt = absurd (omega arith)

not_skipped : (channel : ℕ) (more : List ℕ) → channel < 4 → is_skipped (decimal channel ++ more) ≡ false
not_skipped channel more lt =
    let some : eqb (length ((48 + channel) ∷ more)) 0 ≡ false = grind (arith, nat_tests) in
    let other : eqb (48 + channel) 35 ≡ false = grind (arith, nat_tests) in
    ap (λ digits. is_skipped (digits ++ more)) (decimal_digit channel (omega arith)) ∙ (rw some (rw other refl))

-- words by their forms, and what each says
data AreSaid : List Form → List (List ℕ) → List Value → Type 0 where
  no_words : (forms : List Form) → AreSaid forms [] []
  more_words : (f : Form) (forms : List Form) (word : List ℕ) (more : List (List ℕ)) (x : Value) (values : List Value)
      → IsWord word → says_word f word ≡ Some x → AreSaid forms more values
      → AreSaid (f ∷ forms) (word ∷ more) (x ∷ values)

nothing_said : (forms : List Form) → says_values forms [] ≡ Ok []
nothing_said [] = refl
nothing_said (f ∷ forms) = refl

values_said : (forms : List Form) (words : List (List ℕ)) (values : List Value) → AreSaid forms words values
    → says_values forms words ≡ Ok values
values_said _ _ _ (no_words forms) = nothing_said forms
values_said _ _ _ (more_words f forms word more x values w e later) =
    ap (λ o. joined (or_kind f o) (says_values forms more)) e
    ∙ ap (joined (Ok (x ∷ []))) (values_said forms more values later)

words_said : (forms : List Form) (words : List (List ℕ)) (values : List Value) → AreSaid forms words values
    → All IsWord words
words_said _ _ _ (no_words forms) = All-nil IsWord
words_said _ _ _ (more_words f forms word more x values w e later) =
    All-cons IsWord word more w (words_said forms more values later)

-- a line of the grammar
abbrev IsGood : ℕ → List ℕ → List Command → Type 0
IsGood channel line commands = (says line ≡ Ok (record { channel = channel; commands = commands }))
    × (is_printable line ≡ true)

-- a channel, a verb and its words say what the verb and its values say
says_line : (channel : ℕ) (name : List ℕ) (verb : Verb) (more : List (List ℕ)) (values : List Value)
    (commands : List Command) → channel < 4 → IsWord name → verb_in name ≡ Some verb
    → takes verb (length more) ≡ true → AreSaid (forms_of verb) more values
    → commands_of verb values ≡ Ok commands
    → IsGood channel (spaced (decimal channel) (name ∷ more)) commands
says_line channel name verb more values commands lt word is_verb few said made =
    let all = words_said (forms_of verb) more values said in
    let line : List ℕ = spaced (decimal channel) (name ∷ more) in
    let first = decimal_word channel (omega arith) in
    let rest = All-cons IsWord name more word all in
    let printable : is_printable line ≡ true = are_printable (decimal channel) (name ∷ more) first rest in
    let good : (is_printable line && is_spaced line) ≡ true =
    ap (λ b. b && is_spaced line) printable ∙ are_spaced (decimal channel) (name ∷ more) first rest in (
      ap (λ b. cond b (Ok no_request) (cond (is_printable line && is_spaced line) (says_words (words line))
          (Err kind.Form))) (not_skipped channel (32 ∷ spaced name more) lt)
          ∙ ap (λ b. cond b (says_words (words line)) (Err kind.Form)) good
          ∙ ap says_words (words_are (decimal channel) (name ∷ more) first rest)
          ∙ ap (λ o. in_channel o (says_verb (verb_in name) more))
          (is_number 16 channel (decimal channel) (omega arith) (omega arith) refl)
          ∙ ap (λ o. in_channel (Some channel) (says_verb o more)) is_verb
          ∙ ap (λ b. in_channel (Some channel)
          (cond b (commands_said verb (says_values (forms_of verb) more)) (Err kind.Form))) few
          ∙ ap (λ r. in_channel (Some channel) (commands_said verb r)) (values_said (forms_of verb) more values said)
          ∙ ap (in_channel (Some channel)) made,
      printable,
    )

name_said : (volume : ℕ) → volume < 4 → name_in (volume_name volume) ≡ Some (volume_name volume)
name_said volume lt =
    let named : is_name (volume_name volume) ≡ true =
    ap (λ digits. is_name (118 ∷ digits)) (decimal_digit volume (omega arith))
    ∙ below_four (λ n. is_name (118 ∷ (48 + n) ∷ []) ≡ true) refl refl refl refl volume lt in
    ap (λ b. cond b (Some (volume_name volume)) None) named

volume_said : (volume : ℕ) → volume < 4
    → says_word form.Volume (volume_name volume) ≡ Some (value.Volume (Named (volume_name volume)))
volume_said volume lt = ap (λ o. option_map value.Volume (option_map Named o)) (name_said volume lt)

number_said : (n : ℕ) (word : List ℕ) → n < 2 ^ 64 → decimal n ≡ word
    → says_word form.Number word ≡ Some (value.Number n)
number_said n word small e = ap (option_map value.Number) (is_number (2 ^ 64) n word (omega arith) small e)

count_said : says_word form.Count (codes "1") ≡ Some (value.Number 1)
count_said = ap (λ o. option_map value.Number (option_and_then count_of o))
    (is_number (2 ^ 64) 1 (codes "1") (omega arith) (omega arith) (decimal_digit 1 (omega arith)))

text_value : (n : ℕ) → n < 2 ^ 64 → value_in (codes "t:" ++ decimal n) ≡ Some (decimal n)
text_value n small = ap (λ b. cond b (Some (decimal n)) None) (decimal_visible n small)

volume_word : (volume : ℕ) → volume < 4 → IsWord (volume_name volume)
volume_word volume lt = record {
  some = lt-ltb 0 (length (volume_name volume)) (omega arith);
  visible = decimal_visible volume (omega arith);
}

text_word : (n : ℕ) → n < 2 ^ 64 → IsWord (codes "t:" ++ decimal n)
text_word n small = record {
  some = lt-ltb 0 (length (codes "t:" ++ decimal n)) (omega arith);
  visible = decimal_visible n small;
}

one_page : (page : ℕ) (f : ℕ → Command) → page < 32 → page_by_page page 1 f ≡ Ok (f 0 ∷ [])
one_page page f lt =
    let few : ltb (page + 1) (2 ^ 64) ≡ true = lt-ltb (page + 1) (2 ^ 64) (omega arith) in
    ap (λ b. cond b (Ok (map f (range_with_len 0 1))) (Err kind.Number)) few

first_write : (volume : VolumeRef) (page word : ℕ) → word < 32768
    → write_at volume page word 0 ≡ c.Write volume page (Fill word)
first_write volume page word lt =
    let p : page + 0 ≡ page = omega arith in
    let w : (word + 0) % 2 ^ 64 ≡ word = omega arith in
    ap (λ n. c.Write volume n (Fill ((word + 0) % 2 ^ 64))) p ∙ ap (λ n. c.Write volume page (Fill n)) w

first_read : (volume : VolumeRef) (page : ℕ) → read_at volume page 0 ≡ c.Read volume page
first_read volume page = let p : page + 0 ≡ page = omega arith in ap (c.Read volume) p

-- a word that is written out
abbrev written : {word : List ℕ} → nat_lt 0 (length word) ≡ true → is_visible word ≡ true → IsWord word
written some visible = record { some = some; visible = visible }

create_said : (channel volume : ℕ) → channel < 4 → volume < 4
    → IsGood channel (decimal channel ++ words_of (Create volume)) (generated_command (Create volume) ∷ [])
unfolding verb_in
create_said channel volume lt small =
    says_line channel (codes "create") v.Create (volume_name volume ∷ codes "8" ∷ codes "thin" ∷ [])
    (value.Name (volume_name volume) ∷ value.Number 8 ∷ value.Thick false ∷ []) (generated_command (Create volume) ∷ [])
    lt (written refl refl) refl refl
    (more_words _ _ _ _ _ _ (volume_word volume small) (ap (option_map value.Name) (name_said volume small))
    (more_words _ _ _ _ _ _ (written refl refl)
    (number_said 8 (codes "8") (omega arith) (decimal_digit 8 (omega arith)))
    (more_words _ _ _ _ _ _ (written refl refl) refl (no_words (form.Uuid ∷ [])))))
    refl

write_said : (channel volume page word : ℕ) → channel < 4 → volume < 4 → page < 32 → word < 32768
    → IsGood channel (decimal channel ++ words_of (Write volume page word))
    (generated_command (Write volume page word) ∷ [])
unfolding verb_in
write_said channel volume page word lt small few less =
    subst
    (λ rest. IsGood channel (decimal channel ++ (codes " write v" ++ rest))
    (generated_command (Write volume page word) ∷ []))
    (sym (append_assoc (decimal volume ++ codes " " ++ decimal page) (codes " 1 ") (decimal word)
    ∙ append_assoc (decimal volume ++ codes " ") (decimal page) (codes " 1 " ++ decimal word)
    ∙ append_assoc (decimal volume) (codes " ") (decimal page ++ (codes " 1 " ++ decimal word))))
    (says_line channel (codes "write") v.Write (volume_name volume ∷ decimal page ∷ codes "1" ∷ decimal word ∷ [])
    (value.Volume (Named (volume_name volume)) ∷ value.Number page ∷ value.Number 1 ∷ value.Number word ∷ [])
    (generated_command (Write volume page word) ∷ []) lt (written refl refl) refl refl
    (more_words _ _ _ _ _ _ (volume_word volume small) (volume_said volume small)
    (more_words _ _ _ _ _ _ (decimal_word page (omega arith)) (number_said page (decimal page) (omega arith) refl)
    (more_words _ _ _ _ _ _ (written refl refl) count_said
    (more_words _ _ _ _ _ _ (decimal_word word (omega arith)) (number_said word (decimal word) (omega arith) refl)
    (no_words [])))))
    (one_page page (write_at (Named (volume_name volume)) page word) few
    ∙ ap (λ command. Ok (command ∷ [])) (first_write (Named (volume_name volume)) page word less)))

read_said : (channel volume page : ℕ) → channel < 4 → volume < 4 → page < 32
    → IsGood channel (decimal channel ++ words_of (Read volume page)) (generated_command (Read volume page) ∷ [])
unfolding verb_in
read_said channel volume page lt small few =
    subst (λ rest. IsGood channel (decimal channel ++ (codes " read v" ++ rest))
    (generated_command (Read volume page) ∷ []))
    (sym (append_assoc (decimal volume ++ codes " ") (decimal page) (codes " 1")
    ∙ append_assoc (decimal volume) (codes " ") (decimal page ++ codes " 1")))
    (says_line channel (codes "read") v.Read (volume_name volume ∷ decimal page ∷ codes "1" ∷ [])
    (value.Volume (Named (volume_name volume)) ∷ value.Number page ∷ value.Number 1 ∷ [])
    (generated_command (Read volume page) ∷ []) lt (written refl refl) refl refl
    (more_words _ _ _ _ _ _ (volume_word volume small) (volume_said volume small)
    (more_words _ _ _ _ _ _ (decimal_word page (omega arith)) (number_said page (decimal page) (omega arith) refl)
    (more_words _ _ _ _ _ _ (written refl refl) count_said (no_words []))))
    (one_page page (read_at (Named (volume_name volume)) page) few
    ∙ ap (λ command. Ok (command ∷ [])) (first_read (Named (volume_name volume)) page)))

flush_said : (channel : ℕ) → channel < 4
    → IsGood channel (decimal channel ++ words_of Flush) (generated_command Flush ∷ [])
unfolding verb_in
flush_said channel lt = says_line channel (codes "flush") v.Flush [] [] (c.Flush ∷ []) lt
    (written refl refl) refl refl (no_words []) refl

put_said : (channel volume number : ℕ) → channel < 4 → volume < 4 → number < 1000
    → IsGood channel (decimal channel ++ words_of (Put volume number)) (generated_command (Put volume number) ∷ [])
unfolding verb_in
put_said channel volume number lt small few =
    subst (λ rest. IsGood channel (decimal channel ++ (codes " put v" ++ rest))
    (generated_command (Put volume number) ∷ []))
    (sym (append_assoc (decimal volume) (codes " k t:") (decimal number)))
    (says_line channel (codes "put") v.Put (volume_name volume ∷ codes "k" ∷ (codes "t:" ++ decimal number) ∷ [])
    (value.Volume (Named (volume_name volume)) ∷ value.Text (codes "k") ∷ value.Text (decimal number) ∷ [])
    (generated_command (Put volume number) ∷ []) lt (written refl refl) refl refl
    (more_words _ _ _ _ _ _ (volume_word volume small) (volume_said volume small)
    (more_words _ _ _ _ _ _ (written refl refl) refl
    (more_words _ _ _ _ _ _ (text_word number (omega arith))
    (ap (option_map value.Text) (text_value number (omega arith))) (no_words []))))
    refl)

command_is_said : (channel : ℕ) (command : GeneratedCommand) → channel < 4 → AreDrawn command
    → IsGood channel (decimal channel ++ words_of command) (generated_command command ∷ [])
command_is_said channel (Create volume) lt d = create_said channel volume lt d
command_is_said channel (Write volume page word) lt d = write_said channel volume page word lt d.0 d.1 d.2
command_is_said channel (Read volume page) lt d = read_said channel volume page lt d.0 d.1
command_is_said channel Flush lt d = flush_said channel lt
command_is_said channel (Put volume number) lt d = put_said channel volume number lt d.0 d.1

-- what holds of both of two holds of the chosen one
chosen : {X : Type 0} (P : X → Type 0) (b : Bool) (x y : X) → (b ≡ true → P x) → P y → P (cond b x y)
chosen P true x y px py = px refl
chosen P false x y px py = py

drawn_below : (x draw n : ℕ) → 0 < n → drawn x draw n < n
drawn_below x draw n some = mod-lt (after_draws draw x / 65536) some

are_drawn : (x : ℕ) → AreDrawn (drawn_command x)
are_drawn x =
    chosen AreDrawn (nat_lt (drawn x 2 8) 4) _ _
    (λ e. (
      drawn_below x 1 4 (omega arith),
      drawn_below x 3 32 (omega arith),
      drawn_below x 4 32768 (omega arith),
    ))
    (chosen AreDrawn (nat_lt (drawn x 2 8) 6) _ _
    (λ e. (drawn_below x 3 4 (omega arith), drawn_below x 4 32 (omega arith)))
    (chosen AreDrawn (nat_lt (drawn x 2 8) 7) _ _ (λ e. tt)
    (drawn_below x 1 4 (omega arith), drawn_below x 3 1000 (omega arith))))

-- a line with its numbers as they are drawn
pub record IsSmallLine (line : GeneratedLine) : Type 0 where
  pub channel : line.channel < 4
  pub command : AreDrawn line.command

-- each generated line is so
pub small_line : (number line : ℕ) → IsSmallLine (generated_line number line)
small_line number line =
    chosen IsSmallLine (nat_lt line 4) (making_line line) (drawn_line (before_line number (line - 4)))
    (λ e. let lt : line < 4 = ltb-true line 4 e in record { channel = lt; command = lt })
    (record {
      channel = drawn_below (before_line number (line - 4)) 1 4 (omega arith);
      command = are_drawn (before_line number (line - 4));
    })

-- each generated line asks for its command in its channel
pub line_said : (number line : ℕ)
    → says (text_of (generated_line number line)) ≡ Ok (request_of (generated_line number line))
line_said number line =
    let small = small_line number line in
    (command_is_said _ (generated_line number line).command small.channel small.command).0

-- the text of each generated line is printable
pub line_printable : (number line : ℕ) → is_printable (text_of (generated_line number line)) ≡ true
line_printable number line =
    let small = small_line number line in
    (command_is_said _ (generated_line number line).command small.channel small.command).1
