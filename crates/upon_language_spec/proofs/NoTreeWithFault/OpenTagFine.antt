-- The open tag of a text that has a tree: its tokens are fine, and so is the token that comes next.
use Rattle.std.proofs.Common.{◌≡◌, ◌⊎◌, inl, inr, ℕ, ◌≤◌, List, [], ◌∷◌, ◌++◌, length, true, false, Option, None, refl, sym, ap, ◌∙◌, subst, arith, append_assoc, length-append}
use Rattle.std.proofs.lemmas.List.{map-append, length-map}
use Rattle.upon_types.specs.Tree.{Statements}
use Rattle.upon_language_spec.specs.Cut.{Lexeme}
use Rattle.upon_language_spec.specs.Reading.{brackets_from}
use Rattle.upon_language_spec.specs.Grammar.{AreStatements}
use Rattle.upon_language_spec.specs.Tags.{IsTag, Symbol, symbol_of, symbols_of, BeginsTag}
use Rattle.upon_language_spec.proofs.NoTreeWithFault.Fine.{TokenFine, Fine, FineFrom}
use Rattle.upon_language_spec.specs.LaterFaults.{minus_before}
use Rattle.upon_language_spec.specs.InTags.{last_or, ends_a_tag}
use Rattle.upon_language_spec.proofs.NoTreeWithFault.FineAt.{fine_at}
use Rattle.upon_language_spec.proofs.NoTreeWithFault.Tails.{Meets, sooner, later, together, meets, rows_rest}
use Rattle.upon_language_spec.proofs.NoTreeWithFault.TagShapes.{begins_a_tag, TagShape, tag_shape}
use Rattle.upon_language_spec.proofs.NoTreeWithFault.TagsInStatements.{found_statements}

-- none of the tokens ends a tag
abbrev pub NoEnds : List Lexeme → Type 0
NoEnds [] = Unit {0}
NoEnds (l ∷ ls) = (ends_a_tag l.token ≡ false) × NoEnds ls

no_end_at : (fs : List Lexeme) (e : Lexeme) (ms : List Lexeme) → NoEnds (fs ++ (e ∷ ms)) → ends_a_tag e.token ≡ false
no_end_at [] e ms h = h.0
no_end_at (f ∷ fs) e ms h = no_end_at fs e ms h.1

module _ (s : List ℕ) (tree : Statements) (front : List Lexeme) (begin : Lexeme) (inner : List Lexeme) (x : Lexeme) (back : List Lexeme)
    (reads : AreStatements s tree (front ++ (begin ∷ (inner ++ (x ∷ back)))) []) (begins : begins_a_tag begin.token ≡ true) (no_ends : NoEnds inner) where
  -- the tag that is at the begin
  the_tag : (after : List Lexeme) × IsTag s (begin ∷ (inner ++ (x ∷ back))) after
  the_tag = let f = found_statements s begin (inner ++ (x ∷ back)) begins tree (front ++ (begin ∷ (inner ++ (x ∷ back)))) [] reads (front, refl) (omega arith) in (f.0, f.1)

  the_shape : TagShape s (begin ∷ (inner ++ (x ∷ back))) the_tag.0
  the_shape = tag_shape s (begin ∷ (inner ++ (x ∷ back))) the_tag.0 the_tag.1

  no_end_in_inner : (mid : List Lexeme) (e : Lexeme) (ms : List Lexeme) → inner ≡ mid ++ (e ∷ ms) → ends_a_tag e.token ≡ true → ⊥
  no_end_in_inner mid e ms same h = let none : ends_a_tag e.token ≡ false = no_end_at mid e ms (subst NoEnds same no_ends) in both h none
    where
      both : ends_a_tag e.token ≡ true → ends_a_tag e.token ≡ false → ⊥
      both h k = cc

  -- the tag goes beyond the next token, or ends with it
  abbrev pub Holds : Type 0
  Holds = ((after : List Lexeme) × IsTag s (begin ∷ (inner ++ (x ∷ back))) after × (length after ≤ length back))
      × (((ends_a_tag x.token ≡ true) × ((before' : Option Lexeme) × Fine s [] None inner [] before')) ⊎ TokenFine s (brackets_from [] inner) (last_or None inner) x.token x)

  inside_is : inner ++ (x ∷ back) ≡ the_shape.inside
  inside_is = rows_rest the_shape.starts

  -- the next token is the tag's end, after fine ones, or is fine itself
  next_by : (mid : List Lexeme) → ((before : Option Lexeme) → minus_before before ≡ false → FineFrom s mid [] [] before) → Meets mid the_shape.end the_tag.0 inner x back → Holds
  next_by mid fine (sooner ms h k) =
      let long : length back ≡ length (ms ++ (the_shape.end ∷ the_tag.0)) = ap length k in
      let from = fine None refl in
      let F : List Lexeme → Type 0 = λ v. Fine s [] None v [] from.0 in
      ((the_tag.0, the_tag.1, omega (arith, long, length-append ms (the_shape.end ∷ the_tag.0))), inr (fine_at s [] [] None from.0 inner x ms (subst F h from.2)))
  next_by mid fine (later ms h) = absurd (no_end_in_inner mid the_shape.end ms h the_shape.closes)
  next_by mid fine (together h k l) =
      let from = fine None refl in
      let F : List Lexeme → Type 0 = λ v. Fine s [] None v [] from.0 in
      let long : length the_tag.0 ≡ length back = ap length l in
      ((the_tag.0, the_tag.1, omega (arith, long)), inl (sym (ap (λ (v : Lexeme). ends_a_tag v.token) k) ∙ the_shape.closes, (from.0, subst F h from.2)))

  pub next_token : Holds
  next_token =
      let p = the_shape.fine [] in
      next_by p.0 p.2 (meets p.0 the_shape.end the_tag.0 inner x back (ap (λ v. p.0 ++ v) (sym the_shape.stops) ∙ sym p.1 ∙ sym inside_is))

  -- the open tag's tokens and the next one begin a tag
  pub row_begins : (row : List Symbol) → row ≡ symbols_of s (begin ∷ inner) → BeginsTag (row ++ (symbol_of s x ∷ []))
  row_begins row e = record {
    text = s;
    lexemes = begin ∷ (inner ++ (x ∷ back));
    rest = next_token.0.0;
    tag = next_token.0.1;
    more = symbols_of s back;
    begins = ap (λ v. symbol_of s begin ∷ v) (map-append (symbol_of s) inner (x ∷ back)) ∙ sym (append_assoc (symbols_of s (begin ∷ inner)) (symbol_of s x ∷ []) (symbols_of s back)) ∙ ap (λ v. (v ++ (symbol_of s x ∷ [])) ++ symbols_of s back) (sym e);
    within = let long : length (symbols_of s back) ≡ length back = length-map back (symbol_of s) in omega (arith, long, next_token.0.2);
  }
