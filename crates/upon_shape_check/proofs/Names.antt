-- Names that are bound to something else, and back.
use Rattle.std.proofs.Common.{◌≡◌, ℕ, ◌+◌, ◌-◌, ◌<◌, ◌≤◌, zero, suc, List, [], ◌∷◌, ◌++◌, length, map, drop, set, get_or, Option, Some, None, Bool, true, false, cond, refl, sym, ap, ◌∙◌, arith}
use Rattle.std.specs.Prelude.{bytes_eq, option_map}
use Rattle.std.proofs.Math.Nat.{lt_irrefl}
use Rattle.upon_types.specs.AstPath.{access_of, first_member, first_of, ident_of, member_of, rest_members}
use Rattle.upon_types.specs.Path.{Member, by_key}
use Rattle.upon_types.specs.declared.types.ast.path.Access.TheVariants.{Key}
use Rattle.upon_types.specs.declared.types.ast.path.Ident.{Ident as AstIdent}
use Rattle.upon_types.specs.declared.types.ast.path.Member.{Member as AstMember}
use Rattle.upon_types.specs.declared.types.ast.path.Var.{Var}
use Rattle.upon_shape_spec.specs.Shape.{Shape}
use Rattle.upon_shape_spec.specs.Narrowed.{narrowed, narrowed_bindings, narrowed_bound, narrowed_names, narrowed_root, narrowed_scope}
use Rattle.upon_shape_spec.specs.Scope.{BoundShape, NameShape, Scope, bound_shape_of, name_shape, first_bound_shape}
use Rattle.upon_shape_check.specs.Scope.{bound_view, name_depth, name_view, names_view}
use Rattle.upon_shape_check.specs.Undo.{bound_anew}
use Rattle.upon_shape_check.specs.declared.scope.BoundShape.{BoundShape as CodeBound}
use Rattle.upon_shape_check.specs.declared.scope.NameShape.{NameShape as CodeName}
use Rattle.upon_shape_check.proofs.OnTop.{on_top-cons, length-on_top, get-on_top}

-- a scope by its parts
abbrev pub scope_of : List NameShape → Shape → Scope
scope_of names root = record { names = names; root = root }

-- ---- the first of a name, and its depth
below_step : (same : Bool) (deeper : Option ℕ) (n len : ℕ) → ((m : ℕ) → deeper ≡ Some m → m < len)
    → cond same (Some 0) (option_map (λ m. m + 1) deeper) ≡ Some n → n < suc len
below_step true deeper n len below e = let zero_is : 0 ≡ n = cc in omega arith
below_step false None n len below e = cc
below_step false (Some m) n len below e = let next : m + 1 ≡ n = cc in let less = below m refl in omega arith

-- the depth is below how many names there are
pub depth_of-below : (name : List ℕ) (bs : List NameShape) (n : ℕ) → name_depth name bs ≡ Some n → n < length bs
depth_of-below name [] n e = cc
depth_of-below name (b ∷ bs) n e = below_step (bytes_eq name b.name) (name_depth name bs) n (length bs) (depth_of-below name bs) e

narrowed_step : (same : Bool) (deeper : Option ℕ) (first : Option BoundShape) (x : NameShape) (ms : List Member) (tail bs : List NameShape) (n : ℕ) (b : BoundShape)
    → ((m : ℕ) → deeper ≡ Some m → first ≡ Some b → tail ≡ bound_anew m (narrowed_bound ms b) bs)
    → cond same (Some 0) (option_map (λ m. m + 1) deeper) ≡ Some n → cond same (Some x.bound) first ≡ Some b
    → cond same (name_shape x.name (narrowed_bound ms x.bound) ∷ bs) (x ∷ tail) ≡ bound_anew n (narrowed_bound ms b) (x ∷ bs)
narrowed_step true deeper first x ms tail bs n b rest e f =
    let zero_is : 0 ≡ n = cc in
    let bound_is : x.bound ≡ b = cc in
    ap (λ c. name_shape x.name (narrowed_bound ms c) ∷ bs) bound_is ∙ ap (λ m. bound_anew m (narrowed_bound ms b) (x ∷ bs)) zero_is
narrowed_step false None first x ms tail bs n b rest e f = cc
narrowed_step false (Some m) first x ms tail bs n b rest e f =
    let next : suc m ≡ n = let same : m + 1 ≡ n = cc in omega arith in
    ap (λ l. x ∷ l) (rest m refl f) ∙ ap (λ k. bound_anew k (narrowed_bound ms b) (x ∷ bs)) next

-- the name that is narrowed is the one at its depth
pub narrowed_found : (name : List ℕ) (ms : List Member) (bs : List NameShape) (n : ℕ) (b : BoundShape) → name_depth name bs ≡ Some n → first_bound_shape name bs ≡ Some b
    → narrowed_names name ms bs ≡ bound_anew n (narrowed_bound ms b) bs
narrowed_found name ms [] n b e f = cc
narrowed_found name ms (x ∷ bs) n b e f =
    narrowed_step (bytes_eq name x.name) (name_depth name bs) (first_bound_shape name bs) x ms (narrowed_names name ms bs) bs n b (λ m. narrowed_found name ms bs m b) e f

missing_step : (same : Bool) (deeper : Option ℕ) (x y : NameShape) (tail bs : List NameShape) → (deeper ≡ None → tail ≡ bs)
    → cond same (Some 0) (option_map (λ m. m + 1) deeper) ≡ None → cond same (y ∷ bs) (x ∷ tail) ≡ x ∷ bs
missing_step true deeper x y tail bs rest e = cc
missing_step false None x y tail bs rest e = ap (λ l. x ∷ l) (rest refl)
missing_step false (Some m) x y tail bs rest e = cc

-- where the name is not bound nothing is narrowed
pub narrowed_missing : (name : List ℕ) (ms : List Member) (bs : List NameShape) → name_depth name bs ≡ None → narrowed_names name ms bs ≡ bs
narrowed_missing name ms [] e = refl
narrowed_missing name ms (x ∷ bs) e =
    missing_step (bytes_eq name x.name) (name_depth name bs) x (name_shape x.name (narrowed_bound ms x.bound)) (narrowed_names name ms bs) bs (narrowed_missing name ms bs) e

-- ---- bound to something else, and back
pub bound_at-back : (bs : List NameShape) (n : ℕ) (b c : BoundShape) (d : NameShape) → n < length bs → (get_or bs n d).bound ≡ b → bound_anew n b (bound_anew n c bs) ≡ bs
bound_at-back [] n b c d less e = absurd (omega arith)
bound_at-back (x ∷ bs) zero b c d less e = ap (λ y. name_shape x.name y ∷ bs) (sym e)
bound_at-back (x ∷ bs) (suc n) b c d less e = ap (λ l. x ∷ l) (bound_at-back bs n b c d (omega arith) e)

-- at the end, and ahead of it
bound_at-last : (bs : List NameShape) (x : NameShape) (b : BoundShape) → bound_anew (length bs) b (bs ++ x ∷ []) ≡ bs ++ name_shape x.name b ∷ []
bound_at-last [] x b = refl
bound_at-last (y ∷ bs) x b = ap (λ l. y ∷ l) (bound_at-last bs x b)

bound_at-ahead : (bs cs : List NameShape) (n : ℕ) (b : BoundShape) → n < length bs → bound_anew n b (bs ++ cs) ≡ bound_anew n b bs ++ cs
bound_at-ahead [] cs n b less = absurd (omega arith)
bound_at-ahead (x ∷ bs) cs zero b less = refl
bound_at-ahead (x ∷ bs) cs (suc n) b less = ap (λ l. x ∷ l) (bound_at-ahead bs cs n b (omega arith))

-- beyond the names there is nothing to bind
pub bound_at-beyond : (bs : List NameShape) (n : ℕ) (b : BoundShape) → length bs ≤ n → bound_anew n b bs ≡ bs
bound_at-beyond [] n b more = refl
bound_at-beyond (x ∷ bs) zero b more = absurd (omega arith)
bound_at-beyond (x ∷ bs) (suc n) b more = ap (λ l. x ∷ l) (bound_at-beyond bs n b (omega arith))

-- a name of a program's row is bound to something else
pub names_view-set : (xs : List CodeName) (i d : ℕ) (y x : CodeName) → i + d + 1 ≡ length xs → y.name.now ≡ (get_or xs i x).name.now
    → names_view (set xs i y) ≡ bound_anew d (bound_view y.bound) (names_view xs)
names_view-set [] i d y x e same = absurd (omega arith)
names_view-set (z ∷ zs) zero d y x e same =
    let at : length (names_view zs) ≡ d = omega (arith, length-on_top name_view zs) in
    on_top-cons name_view y zs
    ∙ (ap (λ t. names_view zs ++ name_shape t (bound_view y.bound) ∷ []) same
    ∙ (sym (bound_at-last (names_view zs) (name_view z) (bound_view y.bound))
    ∙ (ap (λ n. bound_anew n (bound_view y.bound) (names_view zs ++ name_view z ∷ [])) at
    ∙ ap (bound_anew d (bound_view y.bound)) (sym (on_top-cons name_view z zs)))))
names_view-set (z ∷ zs) (suc i) d y x e same =
    let less : d < length (names_view zs) = omega (arith, length-on_top name_view zs) in
    let rest : i + d + 1 ≡ length zs = omega arith in
    on_top-cons name_view z (set zs i y)
    ∙ (ap (λ l. l ++ name_view z ∷ []) (names_view-set zs i d y x rest same)
    ∙ (sym (bound_at-ahead (names_view zs) (name_view z ∷ []) d (bound_view y.bound) less)
    ∙ ap (bound_anew d (bound_view y.bound)) (sym (on_top-cons name_view z zs))))

-- the name at a depth is bound to something else
pub rebound_at : (xs : List CodeName) (d : ℕ) (x : CodeName) (b new : CodeBound) → d < length xs → new ≡ b
    → names_view (set xs (length xs - 1 - d) (record { name = (get_or xs (length xs - 1 - d) x).name; bound = new })) ≡ bound_anew d (bound_view b) (names_view xs)
rebound_at xs d x b new less e =
    let even : length xs - 1 - d + d + 1 ≡ length xs = omega arith in
    names_view-set xs (length xs - 1 - d) d (record { name = (get_or xs (length xs - 1 - d) x).name; bound = new }) x even refl ∙ ap (λ c. bound_anew d (bound_view c) (names_view xs)) e

-- and back
pub rebound_back : (xs : List CodeName) (d : ℕ) (x : CodeName) (b new old : CodeBound) → d < length xs → new ≡ b → old ≡ (get_or xs (length xs - 1 - d) x).bound
    → bound_anew d (bound_view old) (names_view (set xs (length xs - 1 - d) (record { name = (get_or xs (length xs - 1 - d) x).name; bound = new }))) ≡ names_view xs
rebound_back xs d x b new old less e was =
    let even : length xs - 1 - d + d + 1 ≡ length xs = omega arith in
    let within : d < length (names_view xs) = omega (arith, length-on_top name_view xs) in
    ap (bound_anew d (bound_view old)) (rebound_at xs d x b new less e)
    ∙ bound_at-back (names_view xs) d (bound_view old) (bound_view b) (name_view x) within
    (ap (λ (n : NameShape). n.bound) (get-on_top name_view xs (length xs - 1 - d) d x (name_view x) even) ∙ ap bound_view (sym was))

-- ---- where a path is true
members_are : (members : List AstMember) (some : 0 < length members) → map member_of members ≡ member_of (first_of members some) ∷ map member_of (drop 1 members)
members_are [] some = absurd (lt_irrefl 0 some)
members_are (m ∷ ms) some = refl

pub path_members : (path : Var) → map member_of path.path.items ≡ first_member path ∷ rest_members path
path_members path = members_are path.path.items path.not_empty

by_word : (path : Var) (first : AstMember) (word : AstIdent) → member_of first ≡ first_member path → first.access ≡ Key word → (first_member path).access ≡ by_key (ident_of word)
by_word path first word is at = sym (ap (λ (m : Member). m.access) is) ∙ ap access_of at

-- a path that finds no name
pub narrowed_context : (path : Var) (first : AstMember) (word : AstIdent) (slice items : List CodeName) (root new : Shape) (text : List ℕ) → member_of first ≡ first_member path → first.access ≡ Key word → text ≡ word.name → slice ≡ items
    → name_depth text (names_view slice) ≡ None → first_bound_shape text (names_view slice) ≡ None → new ≡ narrowed (map member_of path.path.items) root
    → scope_of (names_view items) new ≡ narrowed_scope (first_member path) (rest_members path) (scope_of (names_view items) root)
narrowed_context path first word slice items root new text is at named same depth none e =
    let access = by_word path first word is at in
    let no_depth : name_depth word.name (names_view items) ≡ None = sym (ap (λ t. name_depth t (names_view items)) named) ∙ (sym (ap (λ l. name_depth text (names_view l)) same) ∙ depth) in
    let not_bound : first_bound_shape word.name (names_view items) ≡ None = sym (ap (λ t. first_bound_shape t (names_view items)) named) ∙ (sym (ap (λ l. first_bound_shape text (names_view l)) same) ∙ none) in
    let kept : narrowed_bindings (first_member path).access (rest_members path) (names_view items) ≡ names_view items =
    ap (λ a. narrowed_bindings a (rest_members path) (names_view items)) access ∙ narrowed_missing word.name (rest_members path) (names_view items) no_depth in
    let root_is : narrowed_root (bound_shape_of (first_member path).access (names_view items)) (first_member path ∷ rest_members path) root ≡ new =
    ap (λ a. narrowed_root (bound_shape_of a (names_view items)) (first_member path ∷ rest_members path) root) access
    ∙ (ap (λ o. narrowed_root o (first_member path ∷ rest_members path) root) not_bound ∙ sym (e ∙ ap (λ l. narrowed l root) (path_members path))) in
    sym (ap (λ l. scope_of l (narrowed_root (bound_shape_of (first_member path).access (names_view items)) (first_member path ∷ rest_members path) root)) kept ∙ ap (scope_of (names_view items)) root_is)

-- a path that finds a name
pub narrowed_name : (path : Var) (first : AstMember) (word : AstIdent) (slice items new : List CodeName) (root : Shape) (text : List ℕ) (depth : ℕ) (b nb : BoundShape) (rest : List Member)
    → member_of first ≡ first_member path → first.access ≡ Key word → text ≡ word.name → slice ≡ items → name_depth text (names_view slice) ≡ Some depth → first_bound_shape text (names_view slice) ≡ Some b
    → rest ≡ rest_members path → nb ≡ narrowed_bound rest b → names_view new ≡ bound_anew depth nb (names_view items)
    → scope_of (names_view new) root ≡ narrowed_scope (first_member path) (rest_members path) (scope_of (names_view items) root)
narrowed_name path first word slice items new root text depth b nb rest is at named same at_depth found rest_is nb_is e =
    let access = by_word path first word is at in
    let depth_is : name_depth word.name (names_view items) ≡ Some depth = sym (ap (λ t. name_depth t (names_view items)) named) ∙ (sym (ap (λ l. name_depth text (names_view l)) same) ∙ at_depth) in
    let bound_is : first_bound_shape word.name (names_view items) ≡ Some b = sym (ap (λ t. first_bound_shape t (names_view items)) named) ∙ (sym (ap (λ l. first_bound_shape text (names_view l)) same) ∙ found) in
    let names_are : narrowed_bindings (first_member path).access (rest_members path) (names_view items) ≡ names_view new =
    ap (λ a. narrowed_bindings a (rest_members path) (names_view items)) access
    ∙ (narrowed_found word.name (rest_members path) (names_view items) depth b depth_is bound_is
    ∙ sym (e ∙ ap (λ c. bound_anew depth c (names_view items)) (nb_is ∙ ap (λ l. narrowed_bound l b) rest_is))) in
    let root_is : narrowed_root (bound_shape_of (first_member path).access (names_view items)) (first_member path ∷ rest_members path) root ≡ root =
    ap (λ a. narrowed_root (bound_shape_of a (names_view items)) (first_member path ∷ rest_members path) root) access
    ∙ ap (λ o. narrowed_root o (first_member path ∷ rest_members path) root) bound_is in
    sym (ap (λ l. scope_of l (narrowed_root (bound_shape_of (first_member path).access (names_view items)) (first_member path ∷ rest_members path) root)) names_are ∙ ap (scope_of (names_view new)) root_is)

-- a name's depth is within a program's row
pub depth_within : (text : List ℕ) (slice items : List CodeName) (depth : ℕ) → slice ≡ items → name_depth text (names_view slice) ≡ Some depth → depth < length items
depth_within text slice items depth same e =
    let less = depth_of-below text (names_view slice) depth e in
    let even : length slice ≡ length items = ap (λ (l : List CodeName). length l) same in
    omega (arith, length-on_top name_view slice)
