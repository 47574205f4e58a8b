-- Words of a shell in single quotes: what is written for anything but a text.
use Rattle.std.proofs.Common.{◌≡◌, ℕ, List, [], ◌∷◌, ◌++◌, Result, Ok, Err, sym, ap, ◌∙◌, append_assoc}
use Rattle.std.proofs.lemmas.Bool.{true≢false}
use Rattle.upon_types.specs.Answers.{well}
use Rattle.upon_types.specs.Val.{Val}
use Rattle.upon_meaning_spec.specs.DefaultFormat.{default_format, format_text}
use Rattle.upon_fmt.specs.Formatter.{text_of, Formats, Writes}
use Rattle.upon_fmt.specs.declared.fmt.Error.{Error}
use Rattle.upon_fmt.specs.declared.fmt.Formatter.{Formatter}
use Rattle.upon_quote.specs.Shell.{shell_escape_of}
use Rattle.upon_quote.specs.Tokens.{one_shell_word, shell_format, word_once}
use Rattle.upon_quote.proofs.PlainDefaults.{NotText, no_nul_default, quoted_default}
use Rattle.upon_quote.proofs.ShellLemmas.{shell_leaves}

-- what is written well is between quotes
plain_word : (v : Val) → NotText v → (default_format v).end ≡ well → shell_format v ≡ format_text (39 ∷ ((default_format v).text ++ (39 ∷ [])))
plain_word v h is =
    let text = (default_format v).text in
    ap (word_once text) is
    ∙ (ap (λ b. one_shell_word b text) (no_nul_default shell_escape_of shell_leaves v h)
    ∙ ap (λ t. format_text (39 ∷ (t ++ (39 ∷ [])))) (quoted_default shell_escape_of shell_leaves v h))

regroup : (a t : List ℕ) → ((a ++ (39 ∷ [])) ++ t) ++ (39 ∷ []) ≡ a ++ (39 ∷ (t ++ (39 ∷ [])))
regroup a t = simp append_assoc

-- the quotes are closed
pub closes : (v : Val) → NotText v → (old first second new : Formatter) (r : Result (Unit {0}) Error) → Writes old first (Ok tt) (39 ∷ []) → Formats first second (Ok tt) (default_format v) → Writes second new r (39 ∷ []) → Formats old new r (shell_format v)
closes v h old first second new (Ok u) one two three = λ mark.
    let text = (default_format v).text in
    let wrote = two three.0 in
    let is = plain_word v h wrote.2 in
    let joined : text_of new ≡ text_of old ++ (39 ∷ (text ++ (39 ∷ []))) =
    three.2 ∙ (ap (λ t. t ++ (39 ∷ [])) (wrote.1 ∙ ap (λ t. t ++ text) one.2) ∙ regroup (text_of old) text) in
    (one.0, joined ∙ ap (λ o. text_of old ++ o.text) (sym is), ap (λ o. o.end) is)
closes v h old first second new (Err e) one two three = λ mark. absurd (true≢false (sym three.1 ∙ mark))
