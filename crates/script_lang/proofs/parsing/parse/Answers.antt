use Rattle.std.proofs.Common.{◌≡◌, ◌+◌, ◌<◌, ◌∙◌, ap, refl, Ok, Err, rules, arith}
use Rattle.script_lang.specs.Commands.{count_of_pages}
use Rattle.script_lang.specs.Lines.{says}
use Rattle.script_lang.proofs.ByLines.{begun, one_more, all_read, bad_line, too_many_pages, too_many_lines, pushed_room}
use Rattle.script_lang.proofs.ByLines.{few_read, same_pages}
use Rattle.script_lang.proofs.Requests.{IsSized, says_sized, says_channel, if_said}
use Rattle.script_lang.proofs.parsing.parse.Goals as goal

pub loop-line-init : goal.loop-line-init
loop-line-init c = begun _ _ c.new-script.result c.lines-lines.ensures.lines c.new-script.ensures

pub returns-then-number-gt-MAX_LINES-clause-refused : goal.returns-then-number-gt-MAX_LINES-clause-refused
returns-then-number-gt-MAX_LINES-clause-refused c =
    (too_many_lines _ _ c.in-Some.line.now _ _ _ _ c.loop-line.invariant c.in-Some.ensures.some c.args.text.now
    (omega arith) refl (omega arith)).1

pub returns-then-number-gt-MAX_LINES-clause-why : goal.returns-then-number-gt-MAX_LINES-clause-why
returns-then-number-gt-MAX_LINES-clause-why c =
    (too_many_lines _ _ c.in-Some.line.now _ _ _ _ c.loop-line.invariant c.in-Some.ensures.some c.args.text.now
    (omega arith) refl (omega arith)).0

pub returns-in-Err-Bad-clause-refused : goal.returns-in-Err-Bad-clause-refused
returns-in-Err-Bad-clause-refused c =
    let said : says c.in-Some.line.now ≡ Err c.in-Err-Bad.kind = search rules in
    (bad_line _ _ c.in-Some.line.now _ _ _ _ c.loop-line.invariant c.in-Some.ensures.some c.args.text.now
    c.in-Err-Bad.kind (omega arith) refl (omega arith) said).1

pub returns-in-Err-Bad-clause-why : goal.returns-in-Err-Bad-clause-why
returns-in-Err-Bad-clause-why c =
    let said : says c.in-Some.line.now ≡ Err c.in-Err-Bad.kind = search rules in
    let why = (bad_line _ _ c.in-Some.line.now _ _ _ _ c.loop-line.invariant c.in-Some.ensures.some c.args.text.now
    c.in-Err-Bad.kind (omega arith) refl (omega arith) said).0 in
    search rules

pub returns-then-more-pages-clause-refused : goal.returns-then-more-pages-clause-refused
returns-then-more-pages-clause-refused c =
    let said : says c.in-Some.line.now ≡ Ok c.in-Ok.request = search rules in
    let more : c.pages_of-more.result ≡ count_of_pages c.in-Ok.request.commands = c.pages_of-more.ensures
    ∙ ap count_of_pages c.as_slice.ensures in
    (too_many_pages _ _ c.in-Some.line.now _ _ _ _ c.loop-line.invariant c.in-Some.ensures.some c.in-Ok.request said
    c.args.text.now (omega arith) refl (omega arith) (omega (arith, more))).1

pub returns-then-more-pages-clause-why : goal.returns-then-more-pages-clause-why
returns-then-more-pages-clause-why c =
    let said : says c.in-Some.line.now ≡ Ok c.in-Ok.request = search rules in
    let more : c.pages_of-more.result ≡ count_of_pages c.in-Ok.request.commands = c.pages_of-more.ensures
    ∙ ap count_of_pages c.as_slice.ensures in
    (too_many_pages _ _ c.in-Some.line.now _ _ _ _ c.loop-line.invariant c.in-Some.ensures.some c.in-Ok.request said
    c.args.text.now (omega arith) refl (omega arith) (omega (arith, more))).0

pub push_request-requires-clause-channel : goal.push_request-requires-clause-channel
push_request-requires-clause-channel c =
    let said : says c.in-Some.line.now ≡ Ok c.in-Ok.request = search rules in
    if_said (λ request. request.channel < 16) _ c.in-Ok.request said (says_channel c.in-Some.line.now)

pub push_request-requires-clause-room : goal.push_request-requires-clause-room
push_request-requires-clause-room c =
    let said : says c.in-Some.line.now ≡ Ok c.in-Ok.request = search rules in
    let more : c.pages_of-more.result ≡ count_of_pages c.in-Ok.request.commands = c.pages_of-more.ensures
    ∙ ap count_of_pages c.as_slice.ensures in
    let sized = if_said (λ request. IsSized request.commands) _ c.in-Ok.request said
    (says_sized c.in-Some.line.now) in
    pushed_room _ _ _ c.loop-line.invariant c.in-Ok.request sized (omega arith) (omega (arith, more))

pub loop-line-preserved : goal.loop-line-preserved
loop-line-preserved c =
    let said : says c.in-Some.line.now ≡ Ok c.in-Ok.request = search rules in
    let more : c.pages_of-more.result ≡ count_of_pages c.in-Ok.request.commands = c.pages_of-more.ensures
    ∙ ap count_of_pages c.as_slice.ensures in
    let sized = if_said (λ request. IsSized request.commands) _ c.in-Ok.request said
    (says_sized c.in-Some.line.now) in
    same_pages _ _ _ _ _ _
    (one_more _ _ c.in-Some.line.now _ _ _ _ c.loop-line.invariant c.in-Some.ensures.some c.in-Ok.request said
    c.push_request.new.script sized (omega arith) (omega (arith, more)) c.in_ok-push_request.ensures.ok
    c.in_ok-push_request.ensures.more)
    (ap (λ n. c.loop-line.pages + n) more)

pub returns-clause-found : goal.returns-clause-found
returns-clause-found c = all_read c.args.text.now _ _ _ _ (omega arith) c.loop-line.invariant
    c.in_default.ensures.none

pub returns-clause-few : goal.returns-clause-few
returns-clause-few c = few_read _ _ _ c.loop-line.invariant
