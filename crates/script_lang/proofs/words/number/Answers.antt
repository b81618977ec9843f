use Rattle.std.proofs.Common.{◌≡◌, ◌^◌, List, ℕ, None, Ok, sym, subst, rules, arith, decimal}
use Rattle.std.specs.Str.Parse.{ParsesUnsigned}
use Rattle.std.specs.declared.num.ParseIntError.{ParseIntError}
use Rattle.script_lang.specs.Words.{number_below}
use Rattle.script_lang.proofs.Numbers.{is_number, no_text, not_parsed, not_printed}
use Rattle.script_lang.proofs.words.number.Goals as goal

pub returns-in_default : goal.returns-in_default
returns-in_default c = sym (no_text (2 ^ 64) c.args.word.now (omega arith) c.in_default.ensures.cases.0)

pub returns-in_default-parse : goal.returns-in_default-parse
returns-in_default-parse c =
    sym (subst (λ (w : List ℕ). number_below (2 ^ 64) w ≡ None) c.in-Ok.ensures.cases.0
    (not_parsed (2 ^ 64) c.in-Ok.text.now (omega arith) c.in_default-parse.field-0
    c.in_default-parse.ensures.value.0))

pub returns-then-eq : goal.returns-then-eq
returns-then-eq c =
    let e : decimal c.in-Ok-parse.number ≡ c.args.word.now = search rules in
    sym (is_number (2 ^ 64) c.in-Ok-parse.number c.args.word.now (omega arith) (omega arith) e)

pub returns-else-eq : goal.returns-else-eq
returns-else-eq c =
    let parsed = subst (λ (w : List ℕ). ParsesUnsigned {E = ParseIntError} 64 10 w (Ok c.in-Ok-parse.number))
    c.in-Ok.ensures.cases.0 c.in-Ok-parse.ensures.value.0 in
    let differs : decimal c.in-Ok-parse.number ≡ c.args.word.now → ⊥ = search rules in
    sym (not_printed (2 ^ 64) c.args.word.now (omega arith) ParseIntError c.in-Ok-parse.number parsed
    (λ small e. differs e))
