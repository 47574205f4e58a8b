-- A word of a shell is read as the text that was written.
use Rattle.std.proofs.Common.{◌≡◌, ℕ, ◌+◌, List, [], ◌∷◌, ◌++◌, Option, Some, None, option_map, refl, ap, sym, subst, eqb, inl, inr, false}
use Rattle.std.proofs.lemmas.Bool.{cases_Bool, or_parts}
use Rattle.std.proofs.lemmas.Bool.Decides.{eqb_tells}
use Rattle.upon_quote.specs.Quoted.{quoted_by}
use Rattle.upon_quote.proofs.PlainDefaults.{LeavesDefaults, below_ten}
use Rattle.upon_quote.proofs.QuoteLemmas.{IsAsciiEscape}
use Rattle.upon_quote.specs.Shell.{Quoting, bare, behind_backslash, in_quotes, shell_escape_of, shell_rest, shell_word, quoted_shell, has_nul}

-- the quotes around a text are closed at its end
abbrev Again : List ℕ → Type 0
Again text = shell_rest in_quotes (quoted_by shell_escape_of text ++ (39 ∷ [])) ≡ Some text

apostrophe : (cs : List ℕ) → Again cs → Again (39 ∷ cs)
apostrophe cs h = ap (option_map (λ text. 39 ∷ text)) h

itself : (c : ℕ) (cs : List ℕ) → eqb c 39 ≡ false → eqb c 0 ≡ false → Again cs → Again (c ∷ cs)
itself c cs quote nul h = rw (quote) (rw quote (rw nul (ap (option_map (λ text. c ∷ text)) h)))

again : (text : List ℕ) → has_nul text ≡ false → Again text
again [] h = refl
again (c ∷ cs) h =
    let parts = or_parts (eqb c 0) (has_nul cs) h in
    let rest = again cs parts.1 in
    elim (eqb_tells c 39) as (λ x. Again (c ∷ cs)) [ inl e ↦ subst (λ c. Again (c ∷ cs)) (sym e.1) (apostrophe cs rest) | inr e ↦ itself c cs e.0 parts.0 rest ]

pub shell_word_quoted : (text : List ℕ) → has_nul text ≡ false → shell_word (quoted_shell text) ≡ Some text
shell_word_quoted text h = again text h

-- its escape is ASCII
pub shell_ascii : (c : ℕ) → IsAsciiEscape (shell_escape_of c)
shell_ascii c = elim (cases_Bool (eqb c 39)) as (λ x. IsAsciiEscape (shell_escape_of c)) [ inl h ↦ rw h refl | inr h ↦ rw h tt ]

-- what the default formatter writes for anything but a text is left as it is
pub shell_leaves : LeavesDefaults shell_escape_of
shell_leaves = record {
  digit = below_ten (λ d. shell_escape_of (48 + d) ≡ None) (refl, (refl, (refl, (refl, (refl, (refl, (refl, (refl, (refl, (refl, tt))))))))));
  minus = refl;
  true_word = (refl, (refl, (refl, (refl, tt))));
  false_word = (refl, (refl, (refl, (refl, (refl, tt)))));
}

-- no word stands for a text with U+0000
abbrev NoNul : Quoting → List ℕ → Type 0
NoNul q cs = (text : List ℕ) → shell_rest q cs ≡ Some text → has_nul text ≡ false

one_more : (c : ℕ) (r : Option (List ℕ)) → eqb c 0 ≡ false → ((text : List ℕ) → r ≡ Some text → has_nul text ≡ false) → (text : List ℕ) → option_map (λ text. c ∷ text) r ≡ Some text → has_nul text ≡ false
one_more c None h rest text e = absurd cc
one_more c (Some t) h rest text e =
    let same : c ∷ t ≡ text = cc e in
    subst (λ t. has_nul t ≡ false) same (rw h (rest t refl))

no_nul : (q : Quoting) (cs : List ℕ) → NoNul q cs
no_nul bare [] = λ text e. let same : [] ≡ text = cc e in subst (λ t. has_nul t ≡ false) same refl
no_nul behind_backslash [] = λ text e. absurd cc
no_nul in_quotes [] = λ text e. absurd cc
no_nul bare (c ∷ cs) = λ text e.
    elim (cases_Bool (eqb c 39)) as (λ x. has_nul text ≡ false) [
      | inl h ↦ no_nul in_quotes cs text (rw h at e)
      | inr h ↦ elim (cases_Bool (eqb c 92)) as (λ x. has_nul text ≡ false) [
        | inl k ↦ no_nul behind_backslash cs text (rw (h, k) at e)
        | inr k ↦ let none : None ≡ Some text = rw (h, k) at e in absurd cc
      ]
    ]
no_nul behind_backslash (c ∷ cs) = λ text e.
    elim (cases_Bool (eqb c 0)) as (λ x. has_nul text ≡ false) [
      | inl h ↦ let none : None ≡ Some text = rw h at e in absurd cc
      | inr h ↦ elim (cases_Bool (eqb c 10)) as (λ x. has_nul text ≡ false) [
        | inl k ↦ let none : None ≡ Some text = rw (h, k) at e in absurd cc
        | inr k ↦ one_more c (shell_rest bare cs) h (no_nul bare cs) text (rw (h, k) at e)
      ]
    ]
no_nul in_quotes (c ∷ cs) = λ text e.
    elim (cases_Bool (eqb c 39)) as (λ x. has_nul text ≡ false) [
      | inl h ↦ no_nul bare cs text (rw h at e)
      | inr h ↦ elim (cases_Bool (eqb c 0)) as (λ x. has_nul text ≡ false) [
        | inl k ↦ let none : None ≡ Some text = rw (h, k) at e in absurd cc
        | inr k ↦ one_more c (shell_rest in_quotes cs) k (no_nul in_quotes cs) text (rw (h, k) at e)
      ]
    ]

pub word_without_nul : (word text : List ℕ) → shell_word word ≡ Some text → has_nul text ≡ false
word_without_nul [] text e = absurd cc
word_without_nul (c ∷ cs) text e = no_nul bare (c ∷ cs) text e
