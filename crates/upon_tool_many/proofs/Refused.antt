-- Why there are no pages of items.
use Rattle.std.proofs.Common.{◌≡◌, ◌<◌, ◌∷◌, ℕ, List, length, get_or, Result, Ok, Err, IfErr, IsErrAnd, sym, subst, inl, inr}
use Rattle.upon_types.specs.Val.{Val, Entries}
use Rattle.upon_types.specs.View.{vals_view}
use Rattle.upon_types.specs.declared.value.Value.{Value}
use Rattle.upon_engine.specs.Texts.{Texts}
use Rattle.upon_tool_many.specs.Each.{NamesItems, RefusesEach, RefusesItem, RefusesNames, RefusesTwice}
use Rattle.upon_tool_many.specs.Names.{page_names}
use Rattle.upon_tool_many.specs.Values.{IsSplit}
use Rattle.upon_tool_many.specs.declared.each.Each.{Each}
use Rattle.upon_tool_many.specs.declared.each.EachFault.{EachFault}
use Rattle.upon_tool_many.specs.declared.pages.Page.{Page}
use Rattle.upon_tool_many.proofs.Rows.{left_here, LeftAt}

handed_on : {A : Type 0} (P : EachFault → Type 0) (f : EachFault) (r : Result A EachFault) → IsErrAnd r (λ x. x ≡ f) → P f → IfErr r P
handed_on P f (Ok a) is said = absurd is
handed_on P f (Err x) is said = subst P (sym is) said

-- an item is refused that is at the place of the next one
pub item_refused : {A : Type 0} (e : Texts) (asked : Each) (others : Entries) (listed items rest all : List Value) (place count : ℕ) (item : Value) (f : EachFault) (r : Result A EachFault) → all ≡ listed → items ≡ item ∷ rest → place ≡ count → LeftAt items all count
    → IsErrAnd r (λ x. x ≡ f) → RefusesItem e asked others place item f → IfErr r (RefusesNames e asked others listed)
item_refused e asked others listed items rest all place count item f r same is counted at handed refused =
    let here = left_here items rest all count item is at in
    let there = subst (λ n. (n < length all) × (get_or all n item ≡ item)) (sym counted) here in
    let whole = subst (λ all. (place < length all) × (get_or all place item ≡ item)) same there in
    handed_on (RefusesNames e asked others listed) f r handed (inr (place, item, whole.0, whole.1, refused))

-- ---- and why no page is rendered
pub names_refused : {A : Type 0} (e : Texts) (asked : Each) (context : Val) (others : Entries) (items : List Value) (f : EachFault) (r : Result A EachFault) → IsSplit asked.key.now context others (vals_view items) → IsErrAnd r (λ x. x ≡ f)
    → RefusesNames e asked others items f → IfErr r (RefusesEach e asked context)
names_refused e asked context others items f r split handed refused = handed_on (RefusesEach e asked context) f r handed (inr (others, items, split, inl refused))

pub twice_refused : {A : Type 0} (e : Texts) (asked : Each) (context : Val) (others : Entries) (items : List Value) (pages lent : List (Page Value)) (f : EachFault) (r : Result A EachFault) → IsSplit asked.key.now context others (vals_view items)
    → NamesItems e asked others items pages → lent ≡ pages → IsErrAnd r (λ x. x ≡ f) → RefusesTwice (page_names lent) f → IfErr r (RefusesEach e asked context)
twice_refused e asked context others items pages lent f r split named same handed refused =
    handed_on (RefusesEach e asked context) f r handed (inr (others, items, split, inr (pages, named, subst (λ pages. RefusesTwice (page_names pages) f) same refused)))
