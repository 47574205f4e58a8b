-- The spans of an expression lie in the text whose tokens it is read from, one after the other.
use Rattle.std.proofs.Common.{◌≡◌, ◌⊎◌, inl, inr, ℕ, ◌≤◌, List, [], ◌∷◌, true, false, refl, sym, subst, arith}
use Rattle.std.proofs.Math.Nat.{min-eq_left, max-eq_right}
use Rattle.std.specs.Str.{IsCharBoundary}
use Rattle.upon_types.specs.declared.types.Span.{Span}
use Rattle.upon_types.specs.declared.types.token.Token.{Token}
use Rattle.upon_types.specs.declared.types.token.Token.TheVariants.{OpenBracket, CloseBracket, OpenBrace, CloseBrace, OpenParen, CloseParen, Pipe, Comma, Colon, Number, Index, Ident as Identifier, Keyword, String}
use Rattle.upon_types.specs.Span.{LiesIn}
use Rattle.upon_types.specs.Val.{Val, none_val, bool_val, int_val, text_val, list_val, map_val}
use Rattle.upon_types.specs.Path.{Ident, Access, by_index, by_key, Member, access_span, last_member, path_span}
use Rattle.upon_types.specs.Expression.{Expression, base, filtered, Base, var, literal, list, mapping, paren, call, Bases, no_bases, base_then, Items, no_items, item_then, Arguments, no_arguments, arguments, base_span, expression_span}
use Rattle.upon_language_spec.specs.Cut.{Lexeme}
use Rattle.upon_language_spec.specs.Tokens.{from_to}
use Rattle.upon_language_spec.specs.Expressions.{op_token, sign_token, IsAccess, IsMember, IsBareName, AreMembers, IsLiteral, Closes, ClosesList, last_end, filter_end, IsBase, IsListBody, IsListTail, IsMapBody, IsMapTail, IsCallBody, IsArgs, IsMoreArgs, IsExpression, IsFilterArgs}
use Rattle.upon_language_spec.specs.SpansLieIn.{StepLiesIn, StepsLieIn, ExpressionLiesIn, BaseLiesIn, BasesLieIn, ItemsLieIn, ArgumentsLieIn}
use Rattle.upon_language_spec.proofs.Spans.Along.{Along, Passed, goes_along, by_along}

-- a span from one that was passed to a later one
pub from_to_lies : (s : List ℕ) (a b : Span) → LiesIn s a → LiesIn s b → a.n ≤ b.m → LiesIn s (from_to a b)
from_to_lies s a b x y l = record { ordered = omega (arith, l, x.ordered, y.ordered); start = x.start; end = y.end }

module _ (s : List ℕ) where
  -- a span that ends where a token ends
  pub record Ended (p n : ℕ) (rest : List Lexeme) : Type 0 where
    pub after : p ≤ n
    pub end : IsCharBoundary s n
    pub along : Along s n rest

  pub closes_along : (p : ℕ) (t : Token) (span : Span) (ts rest : List Lexeme) → Along s p ts → Closes t span ts rest → Ended p span.n rest
  closes_along p t span ts rest h g =
      let x = goes_along s p t g.0 ts rest h g.1 in
      let F : ℕ → Type 0 = λ n. Ended p n rest in
      subst F g.2 (record { after = omega (arith, x.from, x.lies.ordered); end = x.lies.end; along = x.along })

  closes_list_along : (p : ℕ) (t : Token) (span : Span) (ts rest : List Lexeme) → Along s p ts → ClosesList t span ts rest → Ended p span.n rest
  closes_list_along p t span ts rest h (inl g) = closes_along p t span ts rest h g
  closes_list_along p t span ts rest h (inr g) = closes_along p t span g.0 rest (by_along s p Comma ts g.0 h g.1) g.2

  -- what is from an opening token to a closing one
  enclosed : (p from : ℕ) (opening span : Span) (rest : List Lexeme) → LiesIn s opening → p ≤ opening.m → opening.m ≡ span.m → opening.n ≤ from → Ended from span.n rest → Passed s p span rest
  enclosed p from opening span rest lies l same m e = record {
    lies = record { ordered = omega (arith, same, m, e.after, lies.ordered); start = subst (IsCharBoundary s) same lies.start; end = e.end };
    from = omega (arith, l, same);
    along = e.along;
  }

  access_along : (p : ℕ) (x : Access) (ts rest : List Lexeme) → Along s p ts → IsAccess s x ts rest → Passed s p (access_span x) rest
  access_along p (by_index i span) ts rest h g = goes_along s p Index span ts rest h g.0
  access_along p (by_key name) ts rest h g = goes_along s p Identifier name.span ts rest h g.0

  step_along : (p : ℕ) (x : Member) (ts rest : List Lexeme) → Along s p ts → IsMember s x ts rest → StepLiesIn s x × Passed s p x.span rest
  step_along p x ts rest h g =
      let op = goes_along s p (op_token x.op) g.0 ts g.1 h g.2 in
      let access = access_along g.0.n x.access g.1 rest op.along g.3 in
      let whole = from_to_lies s g.0 (access_span x.access) op.lies access.lies access.from in
      let passed : Passed s p (from_to g.0 (access_span x.access)) rest = record { lies = whole; from = op.from; along = access.along } in
      let F : Span → Type 0 = λ y. Passed s p y rest in
      let all : Passed s p x.span rest = subst F (sym g.4) passed in
      ((access.lies, all.lies), all)

  first_along : (p : ℕ) (x : Member) (ts rest : List Lexeme) → Along s p ts → (IsBareName s x ts rest ⊎ IsMember s x ts rest) → StepLiesIn s x × Passed s p x.span rest
  first_along p x ts rest h (inr g) = step_along p x ts rest h g
  first_along p x ts rest h (inl g) =
      let name = goes_along s p Identifier g.0.span ts rest h g.1.0 in
      let F : Member → Type 0 = λ y. StepLiesIn s y × Passed s p y.span rest in
      subst F (sym g.2) ((name.lies, name.lies), name)

  -- the steps after a step, and where the last of them ends
  steps_along : (first : Member) (xs : List Member) (ts rest : List Lexeme) → LiesIn s first.span → Along s first.span.n ts → AreMembers s xs ts rest
      → StepsLieIn s xs × LiesIn s (last_member first xs).span × (first.span.m ≤ (last_member first xs).span.m) × (first.span.n ≤ (last_member first xs).span.n) × Along s (last_member first xs).span.n rest
  steps_along first [] ts rest lies h g = let F : List Lexeme → Type 0 = λ x. Along s first.span.n x in (tt, lies, omega arith, omega arith, subst F g h)
  steps_along first (x ∷ xs) ts rest lies h g =
      let step = step_along first.span.n x ts g.0 h g.1 in
      let others = steps_along x xs g.0 rest step.1.lies step.1.along g.2 in
      ((step.0, others.0), others.1, omega (arith, lies.ordered, step.1.from, others.2), omega (arith, step.1.from, step.1.lies.ordered, others.3), others.4)

  path_along : (p : ℕ) (first : Member) (xs : List Member) (ts mid rest : List Lexeme) → Along s p ts → (IsBareName s first ts mid ⊎ IsMember s first ts mid) → AreMembers s xs mid rest → BaseLiesIn s (var first xs) × Passed s p (path_span first xs) rest
  path_along p first xs ts mid rest h g k =
      let start = first_along p first ts mid h g in
      let others = steps_along first xs mid rest start.1.lies start.1.along k in
      let last = (last_member first xs).span in
      let low : (path_span first xs).m ≡ first.span.m = min-eq_left others.2 in
      let high : (path_span first xs).n ≡ last.n = max-eq_right others.3 in
      let lies : LiesIn s (path_span first xs) = record {
        ordered = omega (arith, low, high, start.1.lies.ordered, others.3);
        start = subst (IsCharBoundary s) (sym low) start.1.lies.start;
        end = subst (IsCharBoundary s) (sym high) others.1.end;
      } in
      let F : ℕ → Type 0 = λ n. Along s n rest in
      ((start.0, others.0, lies), record { lies = lies; from = omega (arith, low, start.1.from); along = subst F (sym high) others.4 })

  signed_along : (p : ℕ) (t : Token) (span sign number : Span) (ts mid rest : List Lexeme) → Passed s p sign mid → Passed s sign.n number rest → span ≡ from_to sign number → Passed s p span rest
  signed_along p t span sign number ts mid rest x y e =
      let F : Span → Type 0 = λ z. Passed s p z rest in
      subst F (sym e) (record { lies = from_to_lies s sign number x.lies y.lies y.from; from = x.from; along = y.along })

  literal_along : (p : ℕ) (v : Val) (span : Span) (ts rest : List Lexeme) → Along s p ts → IsLiteral s v span ts rest → Passed s p span rest
  literal_along p (bool_val true) span ts rest h g = goes_along s p Keyword span ts rest h g.0
  literal_along p (bool_val false) span ts rest h g = goes_along s p Keyword span ts rest h g.0
  literal_along p (int_val z) span ts rest h (inl g) = goes_along s p Number span ts rest h g.0
  literal_along p (int_val z) span ts rest h (inr g) =
      let sign = goes_along s p (sign_token g.0) g.1 ts g.3 h g.4 in
      signed_along p Number span g.1 g.2 ts g.3 rest sign (goes_along s g.1.n Number g.2 g.3 rest sign.along g.5) g.6
  literal_along p (text_val t) span ts rest h g = goes_along s p String span ts rest h g.0
  literal_along p none_val span ts rest h g = absurd g
  literal_along p (list_val vs) span ts rest h g = absurd g
  literal_along p (map_val es) span ts rest h g = absurd g

  opened_list : (p : ℕ) (opening span : Span) (ts mid rest : List Lexeme) (Parts : Type 0) → Passed s p opening mid → opening.m ≡ span.m → Parts × Ended opening.n span.n rest → (Parts × LiesIn s span) × Passed s p span rest
  opened_list p opening span ts mid rest Parts x same body =
      let whole = enclosed p opening.n opening span rest x.lies x.from same (omega arith) body.1 in
      ((body.0, whole.lies), whole)

  ended_before : (q p n : ℕ) (rest : List Lexeme) → q ≤ p → Ended p n rest → Ended q n rest
  ended_before q p n rest l e = record { after = omega (arith, l, e.after); end = e.end; along = e.along }

  -- arguments are from a span to the last of them
  args_lie : (m : ℕ) (bases : Bases) (place : Span) (p : ℕ) (rest : List Lexeme) → IsCharBoundary s m → m ≤ p → place ≡ record { m = m; n = last_end 0 bases } → BasesLieIn s bases × Ended p (last_end 0 bases) rest → ArgumentsLieIn s (arguments bases place) × Ended p place.n rest
  args_lie m bases place p rest start l e x =
      let F : Span → Type 0 = λ y. (BasesLieIn s bases × LiesIn s y) × Ended p y.n rest in
      subst F (sym e) ((x.0, record { ordered = omega (arith, l, x.1.after); start = start; end = x.1.end }), x.1)

  -- where arguments end, where some are
  abbrev args_end : ℕ → Arguments → ℕ
  args_end n no_arguments = n
  args_end n (arguments bases span) = span.n

  filter_end_is : (name : Ident) (args : Arguments) → args_end name.span.n args ≡ filter_end name args
  filter_end_is name no_arguments = refl
  filter_end_is name (arguments bases span) = refl

  filter_lies : (e : Expression) (p : ℕ) (name : Ident) (args : Arguments) (span : Span) (rest left : List Lexeme) → ExpressionLiesIn s e → Passed s p (expression_span e) left → LiesIn s name.span → (expression_span e).n ≤ name.span.m → ArgumentsLieIn s args × Ended name.span.n (args_end name.span.n args) rest
      → span ≡ record { m = (expression_span e).m; n = filter_end name args } → (ExpressionLiesIn s e × LiesIn s name.span × ArgumentsLieIn s args × LiesIn s span) × Passed s p span rest
  filter_lies e p name args span rest left received passed named from last is =
      let F : ℕ → Type 0 = λ n. Ended name.span.n n rest in
      let end = subst F (filter_end_is name args) last.1 in
      let whole : Span = record { m = (expression_span e).m; n = filter_end name args } in
      let lies : LiesIn s whole = record { ordered = omega (arith, passed.lies.ordered, from, named.ordered, end.after); start = passed.lies.start; end = end.end } in
      let G : Span → Type 0 = λ y. LiesIn s y × Passed s p y rest in
      let all : G span = subst G (sym is) (lies, record { lies = lies; from = passed.from; along = end.along }) in
      ((received, named, last.0, all.0), all.1)

  mutual
    pub base_along : (b : Base) (p : ℕ) (ts rest : List Lexeme) → Along s p ts → IsBase s b ts rest → BaseLiesIn s b × Passed s p (base_span b) rest
    base_along (var first others) p ts rest h g = path_along p first others ts g.0 rest h g.1 g.2
    base_along (literal v span) p ts rest h g = let x = literal_along p v span ts rest h g in (x.lies, x)
    base_along (list bases span) p ts rest h g =
        let opening = goes_along s p OpenBracket g.1.0 ts g.0 h g.1.1 in
        opened_list p g.1.0 span ts g.0 rest (BasesLieIn s bases) opening g.1.2 (list_body_along bases span g.1.0.n g.0 rest opening.along g.2)
    base_along (mapping items span) p ts rest h g =
        let opening = goes_along s p OpenBrace g.1.0 ts g.0 h g.1.1 in
        opened_list p g.1.0 span ts g.0 rest (ItemsLieIn s items) opening g.1.2 (map_body_along items span g.1.0.n g.0 rest opening.along g.2)
    base_along (paren e span) p ts rest h g =
        let opening = goes_along s p OpenParen g.2.0 ts g.0 h g.2.1 in
        let inside = expression_along e g.2.0.n g.0 g.1 opening.along g.3 in
        let closing = closes_along (expression_span e).n CloseParen span g.1 rest inside.1.along g.4 in
        opened_list p g.2.0 span ts g.0 rest (ExpressionLiesIn s e) opening g.2.2 (inside.0, ended_before g.2.0.n (expression_span e).n span.n rest (omega (arith, inside.1.from, inside.1.lies.ordered)) closing)
    base_along (call name args span) p ts rest h g =
        let named = goes_along s p Identifier name.span ts g.0 h g.2.0 in
        let opening = goes_along s name.span.n OpenParen g.4.0 g.0 g.1 named.along g.4.1 in
        let start = subst (IsCharBoundary s) g.3 named.lies.start in
        let body = call_body_along args span g.4.0.n g.1 rest start (omega (arith, g.3, named.lies.ordered, opening.from, opening.lies.ordered)) opening.along g.5 in
        let whole = enclosed p g.4.0.n name.span span rest named.lies named.from g.3 (omega (arith, opening.from, opening.lies.ordered)) body.1 in
        ((named.lies, body.0, whole.lies), whole)

    list_body_along : (bs : Bases) (span : Span) (p : ℕ) (ts rest : List Lexeme) → Along s p ts → IsListBody s bs span ts rest → BasesLieIn s bs × Ended p span.n rest
    list_body_along no_bases span p ts rest h g = (tt, closes_along p CloseBracket span ts rest h g)
    list_body_along (base_then b bs) span p ts rest h g =
        let first = base_along b p ts g.0 h g.1 in
        let others = list_tail_along bs span (base_span b).n g.0 rest first.1.along g.2 in
        ((first.0, others.0), ended_before p (base_span b).n span.n rest (omega (arith, first.1.from, first.1.lies.ordered)) others.1)

    list_tail_along : (bs : Bases) (span : Span) (p : ℕ) (ts rest : List Lexeme) → Along s p ts → IsListTail s bs span ts rest → BasesLieIn s bs × Ended p span.n rest
    list_tail_along no_bases span p ts rest h g = (tt, closes_list_along p CloseBracket span ts rest h g)
    list_tail_along (base_then b bs) span p ts rest h g =
        let first = base_along b p g.0 g.1 (by_along s p Comma ts g.0 h g.2) g.3 in
        let others = list_tail_along bs span (base_span b).n g.1 rest first.1.along g.4 in
        ((first.0, others.0), ended_before p (base_span b).n span.n rest (omega (arith, first.1.from, first.1.lies.ordered)) others.1)

    map_body_along : (items : Items) (span : Span) (p : ℕ) (ts rest : List Lexeme) → Along s p ts → IsMapBody s items span ts rest → ItemsLieIn s items × Ended p span.n rest
    map_body_along no_items span p ts rest h g = (tt, closes_along p CloseBrace span ts rest h g)
    map_body_along (item_then key b items) span p ts rest h g =
        let named = goes_along s p String key.span ts g.0 h g.2.0 in
        let first = base_along b key.span.n g.1 g.4.0 (by_along s key.span.n Colon g.0 g.1 named.along g.3) g.4.1 in
        let others = map_tail_along items span (base_span b).n g.4.0 rest first.1.along g.4.2 in
        ((named.lies, first.0, others.0), ended_before p (base_span b).n span.n rest (omega (arith, named.from, named.lies.ordered, first.1.from, first.1.lies.ordered)) others.1)

    map_tail_along : (items : Items) (span : Span) (p : ℕ) (ts rest : List Lexeme) → Along s p ts → IsMapTail s items span ts rest → ItemsLieIn s items × Ended p span.n rest
    map_tail_along no_items span p ts rest h g = (tt, closes_list_along p CloseBrace span ts rest h g)
    map_tail_along (item_then key b items) span p ts rest h g =
        let named = goes_along s p String key.span g.0 g.1 (by_along s p Comma ts g.0 h g.3) g.4.0 in
        let first = base_along b key.span.n g.2 g.6.0 (by_along s key.span.n Colon g.1 g.2 named.along g.5) g.6.1 in
        let others = map_tail_along items span (base_span b).n g.6.0 rest first.1.along g.6.2 in
        ((named.lies, first.0, others.0), ended_before p (base_span b).n span.n rest (omega (arith, named.from, named.lies.ordered, first.1.from, first.1.lies.ordered)) others.1)

    call_body_along : (args : Arguments) (span : Span) (p : ℕ) (ts rest : List Lexeme) → IsCharBoundary s span.m → span.m ≤ p → Along s p ts → IsCallBody s args span ts rest → ArgumentsLieIn s args × Ended p span.n rest
    call_body_along no_arguments span p ts rest start l h g = (tt, closes_along p CloseParen span ts rest h g)
    call_body_along (arguments bases place) span p ts rest start l h g =
        let inside = args_along bases p ts g.0 h g.1 in
        let lie = args_lie span.m bases place p g.0 start l g.2 inside in
        (lie.0, ended_before p place.n span.n rest lie.1.after (closes_along place.n CloseParen span g.0 rest lie.1.along g.3))

    args_along : (bs : Bases) (p : ℕ) (ts rest : List Lexeme) → Along s p ts → IsArgs s bs ts rest → BasesLieIn s bs × Ended p (last_end 0 bs) rest
    args_along no_bases p ts rest h g = absurd g
    args_along (base_then b bs) p ts rest h g =
        let first = base_along b p ts g.0 h g.1 in
        let others = more_along bs (base_span b).n g.0 rest first.1.lies.end first.1.along g.2 in
        ((first.0, others.0), ended_before p (base_span b).n (last_end (base_span b).n bs) rest (omega (arith, first.1.from, first.1.lies.ordered)) others.1)

    more_along : (bs : Bases) (n : ℕ) (ts rest : List Lexeme) → IsCharBoundary s n → Along s n ts → IsMoreArgs s bs ts rest → BasesLieIn s bs × Ended n (last_end n bs) rest
    more_along no_bases n ts rest start h g = let F : List Lexeme → Type 0 = λ x. Along s n x in (tt, record { after = omega arith; end = start; along = subst F g h })
    more_along (base_then b bs) n ts rest start h g =
        let first = base_along b n g.0 g.1 (by_along s n Comma ts g.0 h g.2) g.3 in
        let others = more_along bs (base_span b).n g.1 rest first.1.lies.end first.1.along g.4 in
        ((first.0, others.0), ended_before n (base_span b).n (last_end (base_span b).n bs) rest (omega (arith, first.1.from, first.1.lies.ordered)) others.1)

    pub expression_along : (e : Expression) (p : ℕ) (ts rest : List Lexeme) → Along s p ts → IsExpression s e ts rest → ExpressionLiesIn s e × Passed s p (expression_span e) rest
    expression_along (base b) p ts rest h g = base_along b p ts rest h g
    expression_along (filtered e name args span) p ts rest h g =
        let received = expression_along e p ts g.0 h g.3 in
        let named = goes_along s (expression_span e).n Identifier name.span g.1 g.2 (by_along s (expression_span e).n Pipe g.0 g.1 received.1.along g.4) g.5.0 in
        let last = filter_args_along args name.span.n g.2 rest named.lies.end named.along g.6 in
        filter_lies e p name args span rest g.0 received.0 received.1 named.lies named.from last g.7

    filter_args_along : (args : Arguments) (n : ℕ) (ts rest : List Lexeme) → IsCharBoundary s n → Along s n ts → IsFilterArgs s args ts rest → ArgumentsLieIn s args × Ended n (args_end n args) rest
    filter_args_along no_arguments n ts rest start h g = let F : List Lexeme → Type 0 = λ x. Along s n x in (tt, record { after = omega arith; end = start; along = subst F g h })
    filter_args_along (arguments bases place) n ts rest start h g =
        let colon = goes_along s n Colon g.0 ts g.1 h g.2 in
        let inside = args_along bases g.0.n g.1 rest colon.along g.3 in
        let lie = args_lie g.0.m bases place g.0.n rest colon.lies.start colon.lies.ordered g.4 inside in
        (lie.0, ended_before n g.0.n place.n rest (omega (arith, colon.from, colon.lies.ordered)) lie.1)
