-- An expression of a tag that was read is known to be there: the tag's tokens run on to its end, and only it is read of them.
use Rattle.std.proofs.Common.{◌≡◌, ◌⊎◌, inl, inr, ℕ, List, [], ◌∷◌, ◌++◌, Some, None, false, refl, sym, ◌∙◌, subst, append-nil}
use Rattle.std.proofs.lemmas.List.{map-append}
use Rattle.std.proofs.lemmas.Option.{same_Some}
use Rattle.upon_types.specs.Expression.{Expression}
use Rattle.upon_types.specs.declared.types.token.Token.{Token}
use Rattle.upon_types.specs.declared.types.token.Token.TheVariants.{EndExpr, EndBlock, Keyword}
use Rattle.upon_language_spec.specs.Cut.{Lexeme}
use Rattle.upon_language_spec.specs.Expressions.{IsExpression}
use Rattle.upon_language_spec.specs.Keys.{Key, keyword_of, no_key}
use Rattle.upon_language_spec.specs.OpenParts.{ending_parts}
use Rattle.upon_language_spec.specs.PartLeads.{Leads}
use Rattle.upon_language_spec.specs.Parts.{Part, Path, after, after_symbol, as_word, end_block, end_expr, filters}
use Rattle.upon_language_spec.specs.Tags.{Symbol, symbol_of, symbols_of}
use Rattle.upon_language_spec.specs.Wanted.{Wanted}
use Rattle.upon_language_spec.proofs.OneTree.Claims.{BehindExpression, continues_args, continues_filters}
use Rattle.upon_language_spec.proofs.OneTree.Expression.{one_expression}
use Rattle.upon_language_spec.proofs.OneTree.Path.{continues_base}
use Rattle.upon_language_spec.proofs.Totality.ExpressionMore.{expression_more}
use Rattle.upon_tag_parser.specs.TagParsing.{ReadsExpression, StartsBase, StuckAt}
use Rattle.upon_tag_parser.specs.WholeTags.{LeadsToEnd}
use Rattle.upon_tag_parser.proofs.Endings.{expression_quiet}
use Rattle.upon_tree.specs.Opened.{IsExpressionKnown}

-- ---- a run of the parts
-- what is left of a run after its beginning
path_rest : (xs ys : List Symbol) (from p to : List Part) → Path from (xs ++ ys) to → Path from xs p → Path p ys to
path_rest [] ys from p to h e = let F : List Part → Type 0 = λ q. Path q ys to in subst F e h
path_rest (x ∷ xs) ys from p to (n, is, more) (m, is_m, more_m) =
    let F : List Part → Type 0 = λ q. Path q (xs ++ ys) to in
    path_rest xs ys m p to (subst F (same_Some n m (sym is ∙ is_m)) more) more_m

-- the whole run, in its tokens
whole_path : (s : List ℕ) (from : List Part) (ts : List Lexeme) (end : Token) (word : Wanted) (h : LeadsToEnd s from ts end word) → Path from (symbols_of s ts) h.to
whole_path s from ts end word h =
    let F : List Lexeme → Type 0 = λ xs. Path from (symbols_of s xs) h.to in
    subst F (sym (h.leads.splits ∙ append-nil h.leads.read)) h.leads.path

-- a run to the end goes on from wherever its tokens lead
pub leads_on : (s : List ℕ) (from p : List Part) (ts us : List Lexeme) (end : Token) (word : Wanted) → LeadsToEnd s from ts end word → Leads s from ts p us → LeadsToEnd s p us end word
leads_on s from p ts us end word h l =
    let F : List Lexeme → Type 0 = λ xs. Path from (symbols_of s xs) h.to in
    let G : List Symbol → Type 0 = λ xs. Path from xs h.to in
    let all = subst G (map-append (symbol_of s) l.read us) (subst F l.splits (whole_path s from ts end word h)) in
    record {
      to = h.to;
      leads = record { read = us; splits = sym (append-nil us); path = path_rest (symbols_of s l.read) (symbols_of s us) from p h.to all l.path };
      ends = h.ends;
      wants = h.wants;
    }

-- what is next in a run is taken
pub taken : (s : List ℕ) (from : List Part) (l : Lexeme) (ls : List Lexeme) (end : Token) (word : Wanted) → LeadsToEnd s from (l ∷ ls) end word → (next : List Part) × (after_symbol from (symbol_of s l) ≡ Some next)
taken s from l ls end word h = let p = whole_path s from (l ∷ ls) end word h in (p.0, p.1)

-- a tag's end
abbrev pub IsTagEnd : Token → Type 0
IsTagEnd end = (end ≡ EndExpr) ⊎ (end ≡ EndBlock)

ends_not : (parts : List Part) (end : Token) → IsTagEnd end → ((k : Key) → after parts end k ≡ Some []) → ((k : Key) → (after parts EndExpr k ≡ None) × (after parts EndBlock k ≡ None)) → ⊥
ends_not parts end (inl is) ends none = let F : Token → Type 0 = λ t. after parts t no_key ≡ Some [] in let e = subst F is (ends no_key) in let n = (none no_key).0 in cc
ends_not parts end (inr is) ends none = let F : Token → Type 0 = λ t. after parts t no_key ≡ Some [] in let e = subst F is (ends no_key) in let n = (none no_key).1 in cc

-- so tokens of a run are not stuck
pub no_stuck : (s : List ℕ) (from : List Part) (ts left : List Lexeme) (end : Token) (word w : Wanted) → IsTagEnd end → LeadsToEnd s from ts end word → StuckAt s from ts left w → ⊥
no_stuck s from ts [] end word w is h x =
    let on = leads_on s from x.to ts [] end word h x.leads in
    let p : x.to ≡ on.to = whole_path s x.to [] end word on in
    let F : List Part → Type 0 = λ q. (k : Key) → after q end k ≡ Some [] in
    ends_not x.to end is (subst F (sym p) on.ends) x.refuses
no_stuck s from ts (l ∷ ls) end word w is h x =
    let on = leads_on s from x.to ts (l ∷ ls) end word h x.leads in
    let t = taken s x.to l ls end word on in
    let refused : after_symbol x.to (symbol_of s l) ≡ None = x.refuses in
    let e = t.1 in
    cc

-- ---- what may follow an expression
-- nothing that goes on with an expression is taken by these parts
abbrev pub Stops : List Part → Type 0
Stops parts = (t : Token) (k : Key) (next : List Part) → after parts t k ≡ Some next → (continues_base (Some t) ≡ false) × (continues_args (Some t) ≡ false) × (continues_filters (Some t) ≡ false)

pub end_expr_stops : Stops (end_expr ∷ [])
end_expr_stops EndExpr k next e = (refl, refl, refl)
end_expr_stops t k next e = absurd cc

pub end_block_stops : Stops (end_block ∷ [])
end_block_stops EndBlock k next e = (refl, refl, refl)
end_block_stops t k next e = absurd cc

pub as_stops : Stops (as_word ∷ end_block ∷ [])
as_stops Keyword k next e = (refl, refl, refl)
as_stops t k next e = absurd cc

module _ (s : List ℕ) (e : Expression) (ts tail rest_e : List Lexeme) (reads : IsExpression s e (ts ++ tail) rest_e) (behind_e : BehindExpression rest_e) (behind_tail : BehindExpression tail)
    (p P : List Part) (starts : StartsBase s p (filters ∷ P) ts) (stops : Stops P) (end : Token) (word : Wanted) (is_end : IsTagEnd end) (leads : LeadsToEnd s p ts end word) where
  behind_rest : (f : Expression) (rest : List Lexeme) → ReadsExpression s f ts rest → BehindExpression (rest ++ tail)
  behind_rest f [] h = behind_tail
  behind_rest f (l ∷ ls) h =
      let parts = ending_parts h.part.ending ++ filters ∷ P in
      let on = leads_on s p parts ts (l ∷ ls) end word leads (h.part.leads p P starts.takes) in
      let t = taken s parts l ls end word on in
      let k = keyword_of (symbol_of s l).word in
      let x = stops l.token k t.0 (sym (expression_quiet h.part.ending P l ls k h.part.quiet h.no_more) ∙ t.1) in
      ((x.0, x.1), x.2)

  pub known_by : IsExpressionKnown s e ts
  known_by = record {
    only = λ f rest h. (one_expression s f e (ts ++ tail) (ts ++ tail) (rest ++ tail) rest_e refl (expression_more s tail f ts rest h.part.reads) (behind_rest f rest h) reads behind_e).0;
    free = λ want left stuck. no_stuck s p ts _ end word _ is_end leads (stuck p P starts);
  }
