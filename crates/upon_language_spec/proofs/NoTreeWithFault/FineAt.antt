-- A token among fine ones is fine, with the brackets that are open there and after the token that is before it.
use Rattle.std.proofs.Common.{◌≡◌, ℕ, List, [], ◌∷◌, ◌++◌, Option, Some}
use Rattle.upon_language_spec.specs.Cut.{Lexeme}
use Rattle.upon_language_spec.specs.Reading.{brackets_after, brackets_from}
use Rattle.upon_language_spec.specs.InTags.{last_or}
use Rattle.upon_language_spec.proofs.NoTreeWithFault.Fine.{TokenFine, Fine}

pub fine_at : (s : List ℕ) (stack stack' : List Lexeme) (before before' : Option Lexeme) (fs : List Lexeme) (b : Lexeme) (ms : List Lexeme) → Fine s stack before (fs ++ (b ∷ ms)) stack' before' → TokenFine s (brackets_from stack fs) (last_or before fs) b.token b
fine_at s stack stack' before before' [] b ms h = h.0
fine_at s stack stack' before before' (f ∷ fs) b ms h = fine_at s (brackets_after stack f.token f) stack' (Some f) before' fs b ms h.1

-- the brackets that are open after fine tokens
pub fine_stack : (s : List ℕ) (stack stack' : List Lexeme) (before before' : Option Lexeme) (ls : List Lexeme) → Fine s stack before ls stack' before' → brackets_from stack ls ≡ stack'
fine_stack s stack stack' before before' [] h = h.0
fine_stack s stack stack' before before' (l ∷ ls) h = fine_stack s (brackets_after stack l.token l) stack' (Some l) before' ls h.1
