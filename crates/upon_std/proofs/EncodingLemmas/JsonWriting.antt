-- How a formatter appends the parts of a text one after the other.
use Rattle.std.proofs.Common.{◌≡◌, ℕ, false, List, [], ◌++◌, Result, Ok, Err, refl, ap, sym, ◌∙◌, append_assoc}
use Rattle.std.proofs.lemmas.Bool.{true≢false}
use Rattle.std.proofs.lemmas.List.{append-nil}
use Rattle.upon_meaning_spec.specs.DefaultFormat.{format_text}
use Rattle.upon_fmt.specs.Formatter.{text_of, is_marked, Formats, Writes}
use Rattle.upon_fmt.specs.declared.fmt.Error.{Error}
use Rattle.upon_fmt.specs.declared.fmt.Formatter.{Formatter}

-- if no mark is set: none was set at first, and what is written and then the rest is the whole after what was there
abbrev pub Keeps : Formatter → Formatter → List ℕ → List ℕ → Type 0
Keeps first now rest whole = is_marked now ≡ false → (is_marked first ≡ false) × (text_of now ++ rest ≡ text_of first ++ whole)

-- nothing is written so far
pub begins : (f : Formatter) (whole : List ℕ) → Keeps f f whole whole
begins f whole = λ mark. (mark, refl)

-- a part more is written
pub adds : (first now next : Formatter) (part rest rest' whole : List ℕ) → Formats now next (Ok tt) (format_text part) → rest ≡ part ++ rest'
    → Keeps first now rest whole → Keeps first next rest' whole
adds first now next part rest rest' whole wrote e kept = λ mark.
    let w = wrote mark in
    let k = kept w.0 in
    (k.0, ap (λ t. t ++ rest') w.1 ∙ append_assoc (text_of now) part rest' ∙ ap (λ t. text_of now ++ t) (sym e) ∙ k.1)

-- a text that is written is formatted well
pub formatted : (f g : Formatter) (r : Result (Unit {0}) Error) (text : List ℕ) → Writes f g r text → Formats f g r (format_text text)
formatted f g (Ok u) text w = λ mark. (w.0, w.2, refl)
formatted f g (Err e) text w = λ mark. absurd (true≢false (sym w.1 ∙ mark))

-- the last part is written
pub ends : (first now next : Formatter) (r : Result (Unit {0}) Error) (part whole : List ℕ) → Formats now next r (format_text part)
    → Keeps first now part whole → Formats first next r (format_text whole)
ends first now next r part whole wrote kept = λ mark.
    let w = wrote mark in
    let k = kept w.0 in
    (k.0, w.1 ∙ k.1, w.2)

-- nothing is left, so that the whole is written
pub done : (first now : Formatter) (rest whole text : List ℕ) → rest ≡ [] → whole ≡ text → Keeps first now rest whole
    → Formats first now (Ok tt) (format_text text)
done first now rest whole text none is kept = λ mark.
    let k = kept mark in
    (k.0, sym (append-nil (text_of now)) ∙ ap (λ t. text_of now ++ t) (sym none) ∙ k.1 ∙ ap (λ t. text_of first ++ t) is, refl)
