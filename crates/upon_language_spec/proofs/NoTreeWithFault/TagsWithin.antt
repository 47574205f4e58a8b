-- Where a begin is among the tokens of statements, a whole tag is there.
use Rattle.std.proofs.Common.{◌≡◌, inl, inr, ℕ, ◌<◌, ◌≤◌, List, [], ◌∷◌, ◌++◌, length, true, Option, None, refl, sym, ap, ◌∙◌, subst}
use Rattle.upon_types.specs.declared.types.token.Token.{Token}
use Rattle.upon_types.specs.declared.types.token.Token.TheVariants.{BeginExpr, BeginBlock}
use Rattle.upon_language_spec.specs.Cut.{Lexeme}
use Rattle.upon_language_spec.specs.Reading.{brackets_from}
use Rattle.upon_language_spec.specs.Tags.{IsTag}
use Rattle.upon_language_spec.proofs.NoTreeWithFault.Fine.{TokenFine, Fine}
use Rattle.upon_language_spec.specs.InTags.{last_or, ends_a_tag}
use Rattle.upon_language_spec.proofs.NoTreeWithFault.FineAt.{fine_at}
use Rattle.upon_language_spec.proofs.NoTreeWithFault.Tails.{Tail, tail_one, tail_then, among_or_behind, rows_rest}
use Rattle.upon_language_spec.proofs.NoTreeWithFault.TagShapes.{begins_a_tag, TagShape, tag_shape}

module _ (s : List ℕ) where
  begin_is_not_fine : (stack : List Lexeme) (before : Option Lexeme) (t : Token) (l : Lexeme) → begins_a_tag t ≡ true → TokenFine s stack before t l → ⊥
  begin_is_not_fine stack before BeginExpr l h f = f
  begin_is_not_fine stack before BeginBlock l h f = f
  begin_is_not_fine stack before _ l h f = absurd cc

  begin_is_no_end : (t : Token) → begins_a_tag t ≡ true → ends_a_tag t ≡ true → ⊥
  begin_is_no_end BeginExpr h k = cc
  begin_is_no_end BeginBlock h k = cc
  begin_is_no_end _ h k = absurd cc

  pub shape_tail : (ts rest : List Lexeme) → TagShape s ts rest → Tail ts rest
  shape_tail ts rest g =
      let p = g.fine [] in
      tail_then ts g.inside rest (tail_one ts g.inside g.begin g.starts) (tail_then g.inside g.last rest (p.0, p.1) (tail_one g.last rest g.end g.stops))

  -- no begin is after a tag's first token, up to its end
  no_inner_begin : (ts rest : List Lexeme) (g : TagShape s ts rest) (fs : List Lexeme) (b : Lexeme) (more : List Lexeme) → g.inside ≡ fs ++ (b ∷ more) → length rest < length (b ∷ more) → begins_a_tag b.token ≡ true → ⊥
  no_inner_begin ts rest g fs b more e l begins =
      let p = g.fine [] in
      let row : (p.0 ++ (g.end ∷ rest)) ≡ (fs ++ (b ∷ more)) = ap (λ x. p.0 ++ x) (sym g.stops) ∙ sym p.1 ∙ e in
      elim (among_or_behind p.0 g.end rest fs b more row l) [
        | inl found ↦
            let fine = p.2 None refl in
            let F : List Lexeme → Type 0 = λ x. Fine s [] None x [] fine.0 in
            begin_is_not_fine (brackets_from [] fs) (last_or None fs) b.token b begins (fine_at s [] [] None fine.0 fs b found.0 (subst F found.1 fine.2))
        | inr same ↦ begin_is_no_end b.token begins (sym (ap (λ (x : Lexeme). ends_a_tag x.token) same) ∙ g.closes)
      ]

  -- a begin before the tag's end is the tag's own
  only_first : (ts rest : List Lexeme) → TagShape s ts rest → (b : Lexeme) (more : List Lexeme) → Tail ts (b ∷ more) → length rest < length (b ∷ more) → begins_a_tag b.token ≡ true → ts ≡ b ∷ more
  only_first ts rest g b more (fs, e) l begins = first_or_inner fs e
    where
      first_or_inner : (fs : List Lexeme) → ts ≡ fs ++ (b ∷ more) → ts ≡ b ∷ more
      first_or_inner [] e = e
      first_or_inner (f ∷ fs) e = let rows : (g.begin ∷ g.inside) ≡ (f ∷ (fs ++ (b ∷ more))) = sym g.starts ∙ e in absurd (no_inner_begin ts rest g fs b more (rows_rest rows) l begins)

  abbrev pub Found : List Lexeme → List Lexeme → Type 0
  Found us rest = (after : List Lexeme) × IsTag s us after × (length rest ≤ length after)

  -- in a tag
  pub in_tag_found : (ts mid rest : List Lexeme) → IsTag s ts mid → length rest ≤ length mid → (b : Lexeme) (more : List Lexeme) → Tail ts (b ∷ more) → length mid < length (b ∷ more) → begins_a_tag b.token ≡ true → Found (b ∷ more) rest
  in_tag_found ts mid rest tag l b more t k begins =
      let F : List Lexeme → Type 0 = λ x. IsTag s x mid in
      (mid, subst F (only_first ts mid (tag_shape s ts mid tag) b more t k begins) tag, l)
