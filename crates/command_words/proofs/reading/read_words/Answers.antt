use Rattle.std.proofs.Common.{◌∙◌, None, Some, sym}
use Rattle.clap.specs.Matches.{found_of}
use Rattle.clap.specs.Walk.{rows_of}
use Rattle.clap.specs.declared.parser.matches.ArgMatches.TheViews.{out-ArgMatches}
use Rattle.command_words.proofs.Parsed.{asked, asked_none, joined, none_found}
use Rattle.command_words.proofs.TakenWords.{read_exactly}
use Rattle.command_words.proofs.reading.read_words.Goals as goal

pub returns-in_default : goal.returns-in_default
returns-in_default c =
    let among = rw c.in_default.is at c.in_ok-matches.ensures.refused in
    let none = sym (asked_none c.args.words.now _ among) in
    record { command = none; taken = read_exactly c.args.words.now None none }

pub returns-in-Some : goal.returns-in-Some
returns-in-Some c =
    let sub = (out-ArgMatches c.in-Ok.matches).subcommand in
    let rows = rows_of (found_of c.in-Some.found.now) in
    let some = rw c.in-Ok.is at c.in_ok-matches.ensures.found in
    let read = c.command_of.ensures
    ∙ sym (asked c.args.words.now (Some (c.in-Some.name.now, rows))
    (some ∙ joined sub c.in-Some.name.now rows c.in-Some.ensures.name c.in-Some.ensures.rows)) in
    record { command = read; taken = read_exactly c.args.words.now c.command_of.result read }

pub returns : goal.returns
returns c =
    let sub = (out-ArgMatches c.in-Ok.matches).subcommand in
    let some = rw c.in-Ok.is at c.in_ok-matches.ensures.found in
    let none = sym (asked c.args.words.now None (some ∙ none_found sub c.in-None.ensures.name)) in
    record { command = none; taken = read_exactly c.args.words.now None none }
