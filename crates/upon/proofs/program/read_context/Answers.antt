use Rattle.std.proofs.Common.{◌≡◌, ◌<◌, ◌+◌, ◌∷◌, [], ℕ, List, Option, Some, None, String, Global, map, length, take, get_or, string_bytes, sym, ap, subst, ◌∙◌}
use Rattle.std.specs.Prelude.{bytes_eq, if◌then◌else◌}
use Rattle.std.proofs.lemmas.List.{map-append, take_all, take_more}
use Rattle.upon_types.specs.Conversions.{last_at, or_else, HoldsLast}
use Rattle.upon_types.specs.Val.{Val, entry_at}
use Rattle.upon_types.specs.View.{view, entries_view}
use Rattle.upon_types.proofs.Bindings.{rises-entries}
use Rattle.upon_types.proofs.ConversionLemmas.{entry_at-insert, last_at-append}
use Rattle.upon_types.proofs.Views.{view-Map}
use Rattle.upon.specs.Program.{word_pair}
use Rattle.upon.proofs.program.read_context.Goals as goal

-- one word more
words_last : (key : List ℕ) (words : List (String Global)) (i : ℕ) (d : String Global) (p : List ℕ × Val) (o : Option Val) → i < length words → p ≡ word_pair (get_or words i d)
    → o ≡ last_at key (map word_pair (take i words)) → or_else (if bytes_eq key p.0 then Some p.1 else None) o ≡ last_at key (map word_pair (take (i + 1) words))
words_last key words i d p o inside is so_far =
    let w = get_or words i d in
    ap (or_else (if bytes_eq key p.0 then Some p.1 else None)) so_far
    ∙ ap (λ q. or_else (if bytes_eq key q.0 then Some q.1 else None) (last_at key (map word_pair (take i words)))) is
    ∙ sym (last_at-append key (map word_pair (take i words)) (word_pair w))
    ∙ ap (last_at key) (sym (map-append word_pair (take i words) (w ∷ [])))
    ∙ ap (λ ws. last_at key (map word_pair ws)) (sym (take_more words i d inside))

pub loop-word-preserved : goal.loop-word-preserved
loop-word-preserved c =
    let so_far = c.loop-word.invariant in
    let named = c.in_ok-from_str.ensures.ok in
    let valued = c.in_ok-value.ensures in
    let pair : (string_bytes c.in_ok-from_str.field-0, view c.in_ok-value.value) ≡ word_pair c.word-item.result = (λ j. (named j, valued j)) ∙ c.pair_of.ensures in (
      rises-entries c.insert.new.self.entries c.in_ok-insert.ensures.ordered,
      λ key. entry_at-insert c.loop-word.texts c.insert.new.self c.in_ok-from_str.field-0 c.in_ok-value.value c.in_ok-insert.ensures.updates key
          ∙ words_last key c.args.words.now c.loop-word.word-index c.word-item.result (string_bytes c.in_ok-from_str.field-0, view c.in_ok-value.value) (entry_at key (entries_view c.loop-word.texts.entries)) c.loop-word-test.true (pair ∙ ap word_pair c.word-item.is) (so_far.1 key),
    )

pub returns : goal.returns
returns c =
    let so_far = c.loop-word.invariant in
    let words = c.args.words.now in
    let all : take c.loop-word.word-index words ≡ words = take_all c.loop-word.word-index words c.loop-word-test.false in
    subst (HoldsLast (map word_pair words)) (sym (view-Map c.loop-word.texts)) (so_far.0, λ key. so_far.1 key ∙ ap (λ ws. last_at key (map word_pair ws)) all)
