use Rattle.std.proofs.Common.{◌≡◌, get_or, sym, ap, ◌∙◌}
use Rattle.upon_lexer.proofs.Plain.{mark_is_plain, spaces_are_plain, word_runs, word_is_plain}
use Rattle.upon_lexer.proofs.compile.plain.plain_at.Goals as goal

pub returns-in-Some-clause-token : goal.returns-in-Some-clause-token
returns-in-Some-clause-token c =
    let s = c.args.source.now in
    let at = c.args.at in
    let b = get_or c.as_bytes.result.now at 0 in
    let is : b ≡ get_or s at 0 = ap (λ x. get_or x at 0) c.as_bytes.ensures.value in
    mark_is_plain s at b c.requires.inside is c.utf8.source c.requires.boundary c.in-Some.mark c.in-Some.ensures

pub returns-then-is_blank-clause-token : goal.returns-then-is_blank-clause-token
returns-then-is_blank-clause-token c =
    let s = c.args.source.now in
    let at = c.args.at in
    let b = get_or c.as_bytes.result.now at 0 in
    let is : b ≡ get_or s at 0 = ap (λ x. get_or x at 0) c.as_bytes.ensures.value in
    let end = c.in_ok-ascii_end in
    spaces_are_plain s at b c.requires.inside is c.utf8.source c.requires.boundary end.field-0 (sym c.is_blank.ensures ∙ c.if-is_blank.true) end.ensures.run end.ensures.longest end.ensures.span

pub word_of-requires-clause-run : goal.word_of-requires-clause-run
word_of-requires-clause-run c =
    let s = c.args.source.now in
    let at = c.args.at in
    let b = get_or c.as_bytes.result.now at 0 in
    let is : b ≡ get_or s at 0 = ap (λ x. get_or x at 0) c.as_bytes.ensures.value in
    let end = c.in_ok-end in
    word_runs s at b c.requires.inside is c.utf8.source c.requires.boundary end.end (c.begins_word.ensures c.if-begins_word.true) end.ensures.run end.ensures.longest

pub returns-then-begins_word-clause-token : goal.returns-then-begins_word-clause-token
returns-then-begins_word-clause-token c =
    let s = c.args.source.now in
    let at = c.args.at in
    let b = get_or c.as_bytes.result.now at 0 in
    let is : b ≡ get_or s at 0 = ap (λ x. get_or x at 0) c.as_bytes.ensures.value in
    let end = c.in_ok-end in
    let word = c.word_of in
    word_is_plain s at b c.requires.inside is c.utf8.source c.requires.boundary end.end word.result (c.begins_word.ensures c.if-begins_word.true) word.ensures.kind word.ensures.extent word.ensures.fits end.ensures.span
