-- How a plan is made, entry by entry.
use Rattle.std.proofs.Common.{arith, ◌≡◌, ◌⊎◌, ◌<◌, ◌≤◌, ◌+◌, inl, inr, ℕ, zero, suc, List, [], ◌∷◌, ◌++◌, length, length-append, drop, get_or, true, false, ◌||◌, ◌&&◌, Option, Some, None, IsSome, refl, sym, ap, ◌∙◌, subst, append_assoc}
use Rattle.std.proofs.lemmas.List.{append-nil}
use Rattle.std.proofs.lemmas.Slice.Eq.{bytes_eq-Decides}
use Rattle.upon_meaning_spec.specs.Engine.{Table, Template}
use Rattle.upon_meaning_spec.specs.MapOrder.{IsAmong}
use Rattle.upon_shape_spec.specs.Accepted.{OnSome, Planned, is_planned}
use Rattle.upon_shape_spec.specs.Declared.{Declared}
use Rattle.upon_shape_spec.specs.Doubted.{planned, none_included, IsReached, itself, next, EachReached, AreApart}
use Rattle.upon_shape_spec.specs.Doubts.{Unsure, Doubt, has_member, loop_has_member, takes_values, has_text, has_items, is_included, statements_doubts}
use Rattle.upon_shape_spec.specs.Scope.{Scope, scope_wider}
use Rattle.upon_shape_spec.proofs.Among.{among_first, among_second, among_either}
use Rattle.upon_shape_spec.proofs.FewerDoubts.{none_known}
use Rattle.upon_shape_spec.proofs.Order.{scope_itself}
use Rattle.upon_shape_check.specs.Planning.{EachHeld, include_of, IsIncludeIn, IsSettled, AddsOne, AddsIncluded, IsLookedInto, EachLookedInto, IsPlanFor}
use Rattle.upon_shape_check.specs.Verdict.{AreDoubtsOf}
use Rattle.upon_shape_check.specs.declared.plan.TheConstants.{MOST_PLANNED}
use Rattle.upon_shape_check.proofs.Plans.{planned_first, planned_second}

-- ---- what a plan has
planned_here : (p : Planned) → is_planned (p ∷ []) p.name p.scope ≡ true
planned_here p =
    ap (λ b. (b && scope_wider p.scope p.scope) || false) ((bytes_eq-Decides p.name p.name).1 refl)
    ∙ ap (λ b. b || false) (scope_itself p.scope)

pub planned_last : (plan : List Planned) (p : Planned) → is_planned (plan ++ p ∷ []) p.name p.scope ≡ true
planned_last plan p = planned_second plan (p ∷ []) p.name p.scope (planned_here p)

-- ---- entries that are apart
pub apart_append : (seen xs ys : List Planned) → AreApart seen xs → AreApart (seen ++ xs) ys → AreApart seen (xs ++ ys)
apart_append seen [] ys h k = subst (λ (l : List Planned). AreApart l ys) (append-nil seen) k
apart_append seen (x ∷ xs) ys h k =
    (h.0, apart_append (seen ++ x ∷ []) xs ys h.1 (subst (λ (l : List Planned). AreApart l ys) (sym (append_assoc seen (x ∷ []) xs)) k))

-- ---- what needs no entry more needs none where there are others
pub settled_more : (table : Table) (plan added new : List Planned) (q : Planned) → new ≡ plan ++ added → IsSettled table plan q → IsSettled table new q
settled_more table plan added new q is (inl none) = inl none
settled_more table plan added new q is (inr (inl has)) =
    inr (inl (ap (λ (l : List Planned). is_planned l q.name q.scope) is ∙ planned_first plan added q.name q.scope has))
settled_more table plan added new q is (inr (inr full)) =
    let long : length new ≡ length plan + length added = ap length is ∙ length-append plan added in
    inr (inr (omega (arith, full, long)))

-- ---- adding
module _ (table : Table) where
  pub add_none : (p : Planned) (plan : List Planned) → IsSettled table plan p → AddsOne table p plan plan
  add_none p plan settled = record {
    added = [];
    is_made = sym (append-nil plan);
    each = λ q h. absurd h;
    are_apart = tt;
    are_settled = λ q e. subst (λ (q : Planned). IsSettled table plan q) (sym e) settled;
    are_few = λ few. few;
  }

  pub add_last : (p : Planned) (plan new : List Planned) → IsSome (table p.name) → is_planned plan p.name p.scope ≡ false → length plan < MOST_PLANNED
      → new ≡ plan ++ p ∷ [] → AddsOne table p plan new
  add_last p plan new held apart few is = record {
    added = p ∷ [];
    is_made = is;
    each = λ q h. elim h [
      | inl e ↦ (sym e, subst (λ (q : Planned). IsSome (table q.name)) e held)
      | inr none ↦ absurd none
    ];
    are_apart = (apart, tt);
    are_settled = λ q e. subst (λ (q : Planned). IsSettled table new q) (sym e)
        (inr (inl (ap (λ (l : List Planned). is_planned l p.name p.scope) is ∙ planned_last plan p)));
    are_few = λ old.
        let long : length new ≡ length plan + 1 = ap length is ∙ length-append plan (p ∷ []) in
        omega (arith, long, few);
  }

  -- ---- the includes among doubts
  pub adds_nothing : (plan : List Planned) → AddsIncluded table [] plan plan
  adds_nothing plan = record {
    added = [];
    is_made = sym (append-nil plan);
    each = λ q h. absurd h;
    are_apart = tt;
    are_settled = λ q e. absurd e.1;
    are_few = λ few. few;
  }

  include_is : (unsure : Unsure) (q : Planned) → include_of unsure ≡ Some q → unsure ≡ is_included q.name q.scope
  include_is (is_included name scope) q e =
      let same : planned name scope ≡ q = cc in
      ap (λ (p : Planned). is_included p.name p.scope) same
  include_is (has_member s) q e = absurd (cc)
  include_is loop_has_member q e = absurd (cc)
  include_is (takes_values ss) q e = absurd (cc)
  include_is (has_text s) q e = absurd (cc)
  include_is (has_items s) q e = absurd (cc)

  -- the include among one doubt more
  include_last : (ds : List Doubt) (d : Doubt) (q : Planned) → IsIncludeIn (ds ++ d ∷ []) q → IsIncludeIn ds q ⊎ (include_of d.unsure ≡ Some q)
  include_last ds d q h =
      elim (among_either (record { place = h.0; unsure = is_included q.name q.scope }) ds (d ∷ []) h.1) [
        | inl k ↦ inl (h.0, k)
        | inr k ↦ elim k [ inl e ↦ inr (ap (λ (d : Doubt). include_of d.unsure) e) | inr none ↦ absurd none ]
      ]

  -- a doubt more, which is an include, and the entry that it needs
  pub adds_more : (ds : List Doubt) (d : Doubt) (q : Planned) (old mid new : List Planned) → include_of d.unsure ≡ Some q
      → AddsIncluded table ds old mid → AddsOne table q mid new → AddsIncluded table (ds ++ d ∷ []) old new
  adds_more ds d q old mid new is a b = record {
    added = a.added ++ b.added;
    is_made = b.is_made ∙ (ap (λ (l : List Planned). l ++ b.added) a.is_made ∙ append_assoc old a.added b.added);
    each = λ r h. elim (among_either r a.added b.added h) [
      | inl k ↦ let it = a.each r k in ((it.0.0, among_first (record { place = it.0.0; unsure = is_included r.name r.scope }) ds (d ∷ []) it.0.1), it.1)
      | inr k ↦
          let it = b.each r k in
          let same : d ≡ record { place = d.place; unsure = is_included r.name r.scope } =
          ap (λ (u : Unsure). record { place = d.place; unsure = u }) (include_is d.unsure r (is ∙ ap (λ (p : Planned). Some p) (sym it.0))) in
          ((d.place, among_second (record { place = d.place; unsure = is_included r.name r.scope }) ds (d ∷ []) (inl same)), it.1)
    ];
    are_apart = apart_append old a.added b.added a.are_apart (subst (λ (l : List Planned). AreApart l b.added) a.is_made b.are_apart);
    are_settled = λ r h. elim (include_last ds d r h) [
      | inl k ↦ settled_more table mid b.added new r b.is_made (a.are_settled r k)
      | inr e ↦
          let same : r ≡ q = cc in
          b.are_settled r same
    ];
    are_few = λ few. b.are_few (a.are_few few);
  }

  -- a doubt more, which is no include
  pub adds_same : (ds : List Doubt) (d : Doubt) (old new : List Planned) → include_of d.unsure ≡ None
      → AddsIncluded table ds old new → AddsIncluded table (ds ++ d ∷ []) old new
  adds_same ds d old new none a = record {
    added = a.added;
    is_made = a.is_made;
    each = λ r h. let it = a.each r h in ((it.0.0, among_first (record { place = it.0.0; unsure = is_included r.name r.scope }) ds (d ∷ []) it.0.1), it.1);
    are_apart = a.are_apart;
    are_settled = λ r h. elim (include_last ds d r h) [
      | inl k ↦ a.are_settled r k
      | inr e ↦ absurd (cc)
    ];
    are_few = a.are_few;
  }

  -- the doubts up to those that are left
  pub record AddsSoFar (all rest : List Doubt) (old new : List Planned) : Type 0 where
    pub done : List Doubt
    pub is_whole : done ++ rest ≡ all
    pub adds : AddsIncluded table done old new

  pub so_far_none : (all rest : List Doubt) (plan : List Planned) → rest ≡ all → AddsSoFar all rest plan plan
  so_far_none all rest plan is = record { done = []; is_whole = is; adds = adds_nothing plan }

  whole_more : (done all rest more : List Doubt) (d : Doubt) → rest ≡ d ∷ more → done ++ rest ≡ all → (done ++ d ∷ []) ++ more ≡ all
  whole_more done all rest more d is whole = append_assoc done (d ∷ []) more ∙ (ap (λ (l : List Doubt). done ++ l) (sym is) ∙ whole)

  pub so_far_more : (all rest more : List Doubt) (d : Doubt) (q : Planned) (old mid new : List Planned) → rest ≡ d ∷ more → include_of d.unsure ≡ Some q
      → AddsSoFar all rest old mid → AddsOne table q mid new → AddsSoFar all more old new
  so_far_more all rest more d q old mid new is some so_far adds = record {
    done = so_far.done ++ d ∷ [];
    is_whole = whole_more so_far.done all rest more d is so_far.is_whole;
    adds = adds_more so_far.done d q old mid new some so_far.adds adds;
  }

  pub so_far_same : (all rest more : List Doubt) (d : Doubt) (old new : List Planned) → rest ≡ d ∷ more → include_of d.unsure ≡ None
      → AddsSoFar all rest old new → AddsSoFar all more old new
  so_far_same all rest more d old new is none so_far = record {
    done = so_far.done ++ d ∷ [];
    is_whole = whole_more so_far.done all rest more d is so_far.is_whole;
    adds = adds_same so_far.done d old new none so_far.adds;
  }

  pub so_far_all : (all rest : List Doubt) (old new : List Planned) → rest ≡ [] → AddsSoFar all rest old new → AddsIncluded table all old new
  so_far_all all rest old new none so_far =
      let whole : so_far.done ≡ all = sym (append-nil so_far.done) ∙ (ap (λ (l : List Doubt). so_far.done ++ l) (sym none) ∙ so_far.is_whole) in
      subst (λ (l : List Doubt). AddsIncluded table l old new) whole so_far.adds

  -- what a plan gets of doubts is held
  pub adds_held : (ds : List Doubt) (old new : List Planned) → AddsIncluded table ds old new → EachHeld table old → EachHeld table new
  adds_held ds old new adds each q h =
      elim (among_either q old adds.added (subst (λ (l : List Planned). IsAmong q l) adds.is_made h)) [
        | inl k ↦ each q k
        | inr k ↦ (adds.each q k).1
      ]

  pub adds_apart : (ds : List Doubt) (old new : List Planned) → AddsIncluded table ds old new → AreApart [] old → AreApart [] new
  adds_apart ds old new adds apart =
      subst (λ (l : List Planned). AreApart [] l) (sym adds.is_made) (apart_append [] old adds.added apart adds.are_apart)

-- ---- what is looked into
module _ (declared : Declared) (table : Table) where
  looked_more : (plan added new : List Planned) (p : Planned) → new ≡ plan ++ added → IsLookedInto declared table plan p → IsLookedInto declared table new p
  looked_more plan added new p is looked = record {
    before = looked.before;
    since = looked.since ++ added;
    is_made = is ∙ (ap (λ (l : List Planned). l ++ added) looked.is_made ∙ append_assoc looked.before looked.since added);
    doubts = looked.doubts;
    are_doubts = looked.are_doubts;
    are_settled = λ q h. settled_more table plan added new q is (looked.are_settled q h);
  }

  pub looks_into : (p : Planned) (ds : List Doubt) (old new : List Planned) → AreDoubtsOf declared table old p ds → AddsIncluded table ds old new → IsLookedInto declared table new p
  looks_into p ds old new told adds = record {
    before = old;
    since = adds.added;
    is_made = adds.is_made;
    doubts = ds;
    are_doubts = told;
    are_settled = adds.are_settled;
  }

  pub still_looked : (ds : List Doubt) (old new : List Planned) (p : Planned) → AddsIncluded table ds old new → IsLookedInto declared table old p → IsLookedInto declared table new p
  still_looked ds old new p adds looked = looked_more old adds.added new p adds.is_made looked

  -- each entry of a plan is looked into, but those from a number on
  abbrev pub LookedIntoTo : List Planned → ℕ → Type 0
  LookedIntoTo plan at = (p : Planned) → IsAmong p plan → IsLookedInto declared table plan p ⊎ IsAmong p (drop at plan)

  pub to_none : (plan : List Planned) → LookedIntoTo plan 0
  to_none plan p h = inr h

  drop_first : (at : ℕ) (xs ys : List Planned) (p : Planned) → IsAmong p (drop at xs) → IsAmong p (drop at (xs ++ ys))
  drop_first zero xs ys p h = among_first p xs ys h
  drop_first (suc at) [] ys p h = absurd h
  drop_first (suc at) (x ∷ xs) ys p h = drop_first at xs ys p h

  drop_second : (at : ℕ) (xs ys : List Planned) (p : Planned) → at ≤ length xs → IsAmong p ys → IsAmong p (drop at (xs ++ ys))
  drop_second zero xs ys p less h = among_second p xs ys h
  drop_second (suc at) [] ys p less h = absurd (omega (arith, less))
  drop_second (suc at) (x ∷ xs) ys p less h = drop_second at xs ys p (omega (arith, less)) h

  drop_here : (at : ℕ) (xs : List Planned) (p q : Planned) → at < length xs → q ≡ get_or xs at q → IsAmong p (drop at xs) → (q ≡ p) ⊎ IsAmong p (drop (suc at) xs)
  drop_here at [] p q less is h = absurd (omega (arith, less))
  drop_here zero (x ∷ xs) p q less is (inl e) = inl (is ∙ e)
  drop_here zero (x ∷ xs) p q less is (inr h) = inr h
  drop_here (suc at) (x ∷ xs) p q less is h = drop_here at xs p q (omega (arith, less)) is h

  drop_all : (at : ℕ) (xs : List Planned) (p : Planned) → length xs ≤ at → IsAmong p (drop at xs) → ⊥
  drop_all zero [] p less h = h
  drop_all zero (x ∷ xs) p less h = absurd (omega (arith, less))
  drop_all (suc at) [] p less h = h
  drop_all (suc at) (x ∷ xs) p less h = drop_all at xs p (omega (arith, less)) h

  -- the entry of a number is looked into
  pub to_next : (at : ℕ) (ds : List Doubt) (old new : List Planned) (q : Planned) → at < length old → q ≡ get_or old at q
      → AreDoubtsOf declared table old q ds → AddsIncluded table ds old new → LookedIntoTo old at → LookedIntoTo new (suc at)
  to_next at ds old new q less is told adds so_far p h =
      elim (among_either p old adds.added (subst (λ (l : List Planned). IsAmong p l) adds.is_made h)) [
        | inl k ↦ elim (so_far p k) [
          | inl looked ↦ inl (still_looked ds old new p adds looked)
          | inr left ↦ elim (drop_here at old p q less is left) [
            | inl e ↦ inl (subst (λ (p : Planned). IsLookedInto declared table new p) e (looks_into q ds old new told adds))
            | inr rest ↦ inr (subst (λ (l : List Planned). IsAmong p (drop (suc at) l)) (sym adds.is_made) (drop_first (suc at) old adds.added p rest))
          ]
        ]
        | inr k ↦ inr (subst (λ (l : List Planned). IsAmong p (drop (suc at) l)) (sym adds.is_made) (drop_second (suc at) old adds.added p (omega (arith, less)) k))
      ]

  pub to_all : (at : ℕ) (plan : List Planned) → length plan ≤ at → LookedIntoTo plan at → EachLookedInto declared table plan
  to_all at plan few so_far p h =
      elim (so_far p h) [
        | inl looked ↦ looked
        | inr left ↦ absurd (drop_all at plan p few left)
      ]

-- ---- what is reached
-- a doubt by a plan is one where no include is known not to fail
in_doubt : (declared : Declared) (plan : List Planned) (scope : Scope) (o : Option Template) (ds : List Doubt) (d : Doubt)
    → OnSome o (λ t. ds ≡ statements_doubts declared (is_planned plan) scope t.tree) → IsAmong d ds
    → OnSome o (λ t. IsAmong d (statements_doubts declared none_included scope t.tree))
in_doubt declared plan scope None ds d told h = told
in_doubt declared plan scope (Some t) ds d told h =
    none_known declared (is_planned plan) scope t.tree d (subst (λ (l : List Doubt). IsAmong d l) told h)

module _ (declared : Declared) (table : Table) (asked : Planned) where
  -- what a plan gets of the doubts of a reached template is reached
  adds_reached : (p : Planned) (ds : List Doubt) (old new : List Planned)
      → IsReached declared table asked p → AreDoubtsOf declared table old p ds → AddsIncluded table ds old new
      → EachReached declared table asked old → EachReached declared table asked new
  adds_reached p ds old new reached told adds each q h =
      elim (among_either q old adds.added (subst (λ (l : List Planned). IsAmong q l) adds.is_made h)) [
        | inl k ↦ each q k
        | inr k ↦
            let it = adds.each q k in
            next p q reached (it.0.0, in_doubt declared old p.scope (table p.name) ds (record { place = it.0.0; unsure = is_included q.name q.scope }) told it.0.1)
      ]

  -- a plan of which the entries up to a number are looked into
  pub record IsPlanSoFar (plan : List Planned) (at : ℕ) : Type 0 where
    pub are_held : EachHeld table plan
    pub are_reached : EachReached declared table asked plan
    pub are_apart : AreApart [] plan
    pub are_few : length plan ≤ MOST_PLANNED
    pub is_looked_into : IsLookedInto declared table plan asked
    pub are_looked_into : LookedIntoTo declared table plan at

  pub begun : (ds : List Doubt) (empty new : List Planned) → empty ≡ [] → AreDoubtsOf declared table empty asked ds → AddsIncluded table ds empty new → IsPlanSoFar new 0
  begun ds empty new none told adds =
      let F : List Planned → Type 0 = λ empty. AreDoubtsOf declared table empty asked ds → AddsIncluded table ds empty new → IsPlanSoFar new 0 in
      let go : F [] = λ told adds. record {
        are_held = adds_held table ds [] new adds (λ p h. absurd h);
        are_reached = adds_reached asked ds [] new itself told adds (λ p h. absurd h);
        are_apart = adds_apart table ds [] new adds tt;
        are_few = adds.are_few (omega arith);
        is_looked_into = looks_into declared table asked ds [] new told adds;
        are_looked_into = to_none declared table new;
      } in
      subst F (sym none) go told adds

  pub went_on : (at : ℕ) (ds : List Doubt) (old new : List Planned) (q : Planned) → at < length old → q ≡ get_or old at q → IsAmong q old
      → AreDoubtsOf declared table old q ds → AddsIncluded table ds old new → IsPlanSoFar old at → IsPlanSoFar new (at + 1)
  went_on at ds old new q less is among told adds so_far = record {
    are_held = adds_held table ds old new adds so_far.are_held;
    are_reached = adds_reached q ds old new (so_far.are_reached q among) told adds so_far.are_reached;
    are_apart = adds_apart table ds old new adds so_far.are_apart;
    are_few = adds.are_few so_far.are_few;
    is_looked_into = still_looked declared table ds old new asked adds so_far.is_looked_into;
    are_looked_into =
        let e : suc at ≡ at + 1 = omega arith in
        subst (λ n. LookedIntoTo declared table new n) e (to_next declared table at ds old new q less is told adds so_far.are_looked_into);
  }

  pub planned_all : (at : ℕ) (plan : List Planned) → length plan ≤ at → IsPlanSoFar plan at → IsPlanFor declared table asked plan
  planned_all at plan few so_far = record {
    are_held = so_far.are_held;
    are_reached = so_far.are_reached;
    are_apart = so_far.are_apart;
    is_looked_into = so_far.is_looked_into;
    are_looked_into = to_all declared table at plan few so_far.are_looked_into;
  }
