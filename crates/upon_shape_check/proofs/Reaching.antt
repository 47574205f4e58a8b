-- Misfits by a plan are really in doubt.
use Rattle.std.proofs.Common.{arith, ◌≡◌, ◌==◌, ◌<◌, inl, inr, ℕ, zero, suc, List, [], ◌∷◌, ◌++◌, length, map, get_or, false, Option, Some, None, IsSome, Result, Ok, Err, IfErr, IsErrAnd, refl, sym, ap, ◌∙◌, subst, append_assoc}
use Rattle.upon_types.specs.declared.types.Span.{Span}
use Rattle.upon_meaning_spec.specs.Engine.{Table, Template}
use Rattle.upon_meaning_spec.specs.MapOrder.{IsAmong}
use Rattle.upon_shape_spec.specs.Accepted.{OnSome, Planned, is_planned}
use Rattle.upon_shape_spec.specs.Declared.{Declared}
use Rattle.upon_shape_spec.specs.Doubted.{planned, none_included, IsReached, itself, IsLeftOut, IsDoubted, AreDoubted}
use Rattle.upon_shape_spec.specs.Doubted as spec
use Rattle.upon_shape_spec.specs.Doubts.{Unsure, Doubt, has_member, loop_has_member, takes_values, has_text, has_items, is_included, statements_doubts}
use Rattle.std.proofs.lemmas.Bool.{false≢true}
use Rattle.upon_shape_spec.proofs.Among.{among_either}
use Rattle.upon_shape_spec.proofs.FewerDoubts.{none_known, statements_among}
use Rattle.upon_shape_spec.proofs.IncludesInDoubt.{among_out, statements_out}
use Rattle.upon_shape_check.specs.Doubted.{misfits_of, template_misfits, each_misfits}
use Rattle.upon_shape_check.specs.Planning.{AreAmong, IsLookedInto, IsPlanFor}
use Rattle.upon_shape_check.specs.Verdict.{AreDoubtsOf, IsUntold, IsUntoldAmong, IsUntoldFrom}
use Rattle.upon_shape_check.specs.declared.plan.TheConstants.{MOST_PLANNED}
use Rattle.upon_shape_check.specs.declared.refusal.Refusal.{Refusal}
use Rattle.upon_shape_check.specs.declared.refusal.Refusal.TheVariants.{NoTemplate, Misfits, TooDeep, Memory}
use Rattle.upon_shape_check.proofs.Plans.{planned_first}

-- ---- what is among what rows denote
pub among_at : {A B : Type 0} (f : A → B) (xs : List A) (i : ℕ) (x : A) → i < length xs → x ≡ get_or xs i x → IsAmong (f x) (map f xs)
among_at f [] i x less is = absurd (omega arith)
among_at f (y ∷ ys) zero x less is = inl (ap f (sym is))
among_at f (y ∷ ys) (suc i) x less is = inr (among_at f ys i x (omega arith) is)

in_mapped : {A B : Type 0} (f : A → B) (xs : List A) (i : ℕ) (x : A) → i < length xs → x ≡ get_or xs i x
    → (i < length (map f xs)) × (f x ≡ get_or (map f xs) i (f x))
in_mapped f [] i x less is = absurd (omega (arith, less))
in_mapped f (y ∷ ys) zero x less is = (omega arith, ap f is)
in_mapped f (y ∷ ys) (suc i) x less is =
    let it = in_mapped f ys i x (omega (arith, less)) is in
    (omega (arith, it.0), it.1)

-- what is looked up is there
pub looked_up : {A B : Type 0} (f : A → B) (xs ys : List A) (i : ℕ) (x : A) → ys ≡ xs → i < length ys → x ≡ get_or ys i x
    → (i < length (map f xs)) × (f x ≡ get_or (map f xs) i (f x)) × IsAmong (f x) (map f xs)
looked_up {A} {B} f xs ys i x same less is =
    let F : List A → Type 0 = λ l. (i < length (map f l)) × (f x ≡ get_or (map f l) i (f x)) × IsAmong (f x) (map f l) in
    let it = in_mapped f ys i x less is in
    subst F same (it.0, it.1, among_at f ys i x less is)

among_map : {A B : Type 0} (f : A → B) (b : B) (xs : List A) → IsAmong b (map f xs) → (x : A) × (f x ≡ b) × IsAmong x xs
among_map f b [] h = absurd h
among_map f b (x ∷ xs) (inl e) = (x, e, inl refl)
among_map f b (x ∷ xs) (inr h) = let t = among_map f b xs h in (t.0, t.1, inr t.2)

-- a row that is not empty denotes one that is not
pub some_denoted : {A B : Type 0} (f : A → B) (xs : List A) (n : ℕ) → n ≡ length xs → (n == 0) ≡ false → map f xs ≡ [] → ⊥
some_denoted f [] n same is none = absurd (grind (arith, same, is))
some_denoted f (x ∷ xs) n same is none = absurd (cc)

-- ---- why doubts are not told
pub untold_among : (declared : Declared) (table : Table) (plan : List Planned) (p : Planned) (r : Refusal) → IsAmong p plan → IsUntold declared table p r → IsUntoldAmong declared table plan r
untold_among declared table plan p NoTemplate is h = (p, is, h)
untold_among declared table plan p (Misfits ms) is h = h
untold_among declared table plan p (TooDeep at place) is h = (p, is, h.0, h.1)
untold_among declared table plan p (Memory error) is h = tt

pub untold_more : (declared : Declared) (table : Table) (these those : List Planned) (r : Refusal) → AreAmong these those → IsUntoldAmong declared table these r → IsUntoldAmong declared table those r
untold_more declared table these those NoTemplate are h = (h.0, are h.0 h.1, h.2)
untold_more declared table these those (Misfits ms) are h = h
untold_more declared table these those (TooDeep at place) are h = (h.0, are h.0 h.1, h.2, h.3)
untold_more declared table these those (Memory error) are h = tt

pub from_itself : (declared : Declared) (table : Table) (asked : Planned) (r : Refusal) → IsUntold declared table asked r → IsUntoldFrom declared table asked r
from_itself declared table asked NoTemplate h = h
from_itself declared table asked (Misfits ms) h = h
from_itself declared table asked (TooDeep at place) h = (asked, itself, h.0, h.1)
from_itself declared table asked (Memory error) h = tt

held_not : (o : Option Template) → IsSome o → o ≡ None → ⊥
held_not None held h = absurd (cc)
held_not (Some t) held h = absurd (cc)

pub from_reached : (declared : Declared) (table : Table) (asked p : Planned) (r : Refusal) → IsReached declared table asked p → IsSome (table p.name) → IsUntold declared table p r → IsUntoldFrom declared table asked r
from_reached declared table asked p NoTemplate reached held h = absurd (held_not (table p.name) held h)
from_reached declared table asked p (Misfits ms) reached held h = h
from_reached declared table asked p (TooDeep at place) reached held h = (p, reached, h.0, h.1)
from_reached declared table asked p (Memory error) reached held h = tt

pub from_plan : (declared : Declared) (table : Table) (asked : Planned) (plan : List Planned) (r : Refusal) → IsPlanFor declared table asked plan → IsUntoldAmong declared table (asked ∷ plan) r → IsUntoldFrom declared table asked r
from_plan declared table asked plan NoTemplate is_plan h =
    elim h.1 [
      | inl e ↦ ap (λ (p : Planned). table p.name) e ∙ h.2
      | inr k ↦ absurd (held_not (table h.0.name) (is_plan.are_held h.0 k) h.2)
    ]
from_plan declared table asked plan (Misfits ms) is_plan h = h
from_plan declared table asked plan (TooDeep at place) is_plan h =
    elim h.1 [
      | inl e ↦ (h.0, subst (λ (p : Planned). IsReached declared table asked p) e itself, h.2, h.3)
      | inr k ↦ (h.0, is_plan.are_reached h.0 k, h.2, h.3)
    ]
from_plan declared table asked plan (Memory error) is_plan h = tt

-- ---- of entries that are among others
pub rest_among : (p : Planned) (all rest left : List Planned) → all ≡ p ∷ rest → AreAmong all left → AreAmong rest left
rest_among p all rest left is are q h = are q (subst (λ (l : List Planned). IsAmong q l) (sym is) (inr h))

pub one_among : (p : Planned) (all rest old new left : List Planned) → all ≡ p ∷ rest → new ≡ old ++ p ∷ [] → AreAmong all left → AreAmong old left → AreAmong new left
one_among p all rest old new left is made are so_far q h =
    elim (among_either q old (p ∷ []) (subst (λ (l : List Planned). IsAmong q l) made h)) [
      | inl k ↦ so_far q k
      | inr k ↦ elim k [
        | inl e ↦ are q (subst (λ (l : List Planned). IsAmong q l) (sym is) (inl e))
        | inr none ↦ absurd none
      ]
    ]

-- of what a `?` hands on
pub if_err_same : {A E : Type 0} (r : Result A E) (e : E) (P : E → Type 0) → IsErrAnd r (λ x. x ≡ e) → P e → IfErr r P
if_err_same (Ok a) e P same h = absurd same
if_err_same (Err x) e P same h = subst P (sym same) h

-- ---- what is in doubt by a plan for a template
module _ (declared : Declared) (table : Table) (asked : Planned) (plan : List Planned) (is_plan : IsPlanFor declared table asked plan) where
  -- an include is left out
  left_out : (p : Planned) (t : Template) (place : Span) (unsure : Unsure) → table p.name ≡ Some t → IsLookedInto declared table plan p
      → IsAmong (record { place = place; unsure = unsure }) (statements_doubts declared (is_planned plan) p.scope t.tree)
      → IsLeftOut declared table asked MOST_PLANNED unsure
  left_out p t place (is_included name scope) here looked h =
      let d : Doubt = record { place = place; unsure = is_included name scope } in
      let out : is_planned plan name scope ≡ false =
      among_out (is_planned plan) d (statements_doubts declared (is_planned plan) p.scope t.tree) (statements_out (is_planned plan) declared p.scope t.tree) h in
      let told : looked.doubts ≡ statements_doubts declared (is_planned looked.before) p.scope t.tree =
      subst (λ (o : Option Template). OnSome o (λ t. looked.doubts ≡ statements_doubts declared (is_planned looked.before) p.scope t.tree)) here looked.are_doubts in
      let before : IsAmong d (statements_doubts declared (is_planned looked.before) p.scope t.tree) =
      statements_among declared (is_planned plan) (is_planned looked.before)
      (λ n s k. ap (λ (l : List Planned). is_planned l n s) looked.is_made ∙ planned_first looked.before looked.since n s k) p.scope t.tree d h in
      elim (looked.are_settled (planned name scope) (place, subst (λ (l : List Doubt). IsAmong d l) (sym told) before)) [
        | inl none ↦ inl none
        | inr more ↦ elim more [
          | inl has ↦ absurd (false≢true (sym out ∙ has))
          | inr full ↦ inr (record { plan = plan; are_reached = is_plan.are_reached; are_apart = is_plan.are_apart; are_many = full })
        ]
      ]
  left_out p t place (has_member s) here looked h = tt
  left_out p t place loop_has_member here looked h = tt
  left_out p t place (takes_values ss) here looked h = tt
  left_out p t place (has_text s) here looked h = tt
  left_out p t place (has_items s) here looked h = tt

  one_doubted : (p : Planned) (o : Option Template) (m : spec.PlaceInDoubt) → table p.name ≡ o
      → IsReached declared table asked p → IsLookedInto declared table plan p → IsAmong m (template_misfits declared plan p o)
      → IsDoubted declared table asked MOST_PLANNED m
  one_doubted p None m is reached looked h = absurd h
  one_doubted p (Some t) m is reached looked h =
      let it = among_map (λ (d : Doubt). record { template = p.name; doubt = d }) m (statements_doubts declared (is_planned plan) p.scope t.tree) h in
      subst (λ (m : spec.PlaceInDoubt). IsDoubted declared table asked MOST_PLANNED m) it.1 (record {
        scope = p.scope;
        is_reached = reached;
        is_in_doubt = subst (λ (o : Option Template). OnSome o (λ t. IsAmong it.0 (statements_doubts declared none_included p.scope t.tree))) (sym is)
            (none_known declared (is_planned plan) p.scope t.tree it.0 it.2);
        is_left_out = left_out p t it.0.place it.0.unsure is looked it.2;
      })

  each_doubted : (rest : List Planned) (m : spec.PlaceInDoubt) → ((p : Planned) → IsAmong p rest → IsReached declared table asked p × IsLookedInto declared table plan p)
      → IsAmong m (each_misfits declared table plan rest) → IsDoubted declared table asked MOST_PLANNED m
  each_doubted [] m each h = absurd h
  each_doubted (p ∷ rest) m each h =
      elim (among_either m (template_misfits declared plan p (table p.name)) (each_misfits declared table plan rest) h) [
        | inl k ↦ let it = each p (inl refl) in one_doubted p (table p.name) m refl it.0 it.1 k
        | inr k ↦ each_doubted rest m (λ q i. each q (inr i)) k
      ]

  -- each misfit of a template and of a plan for it is really in doubt
  pub are_doubted : (ms : List spec.PlaceInDoubt) → ms ≡ template_misfits declared plan asked (table asked.name) ++ each_misfits declared table plan plan
      → (ms ≡ [] → ⊥) → AreDoubted declared table asked MOST_PLANNED ms
  are_doubted ms told some = (
    some,
    λ m h.
        elim (among_either m (template_misfits declared plan asked (table asked.name)) (each_misfits declared table plan plan)
        (subst (λ (l : List spec.PlaceInDoubt). IsAmong m l) told h)) [
          | inl k ↦ one_doubted asked (table asked.name) m refl itself is_plan.is_looked_into k
          | inr k ↦ each_doubted plan m (λ p i. (is_plan.are_reached p i, is_plan.are_looked_into p i)) k
        ],
  )

-- ---- misfits, one after the other
pub told_misfits : (declared : Declared) (plan : List Planned) (p : Planned) (o : Option Template) (ds : List Doubt)
    → OnSome o (λ t. ds ≡ statements_doubts declared (is_planned plan) p.scope t.tree) → misfits_of p.name ds ≡ template_misfits declared plan p o
told_misfits declared plan p None ds told = absurd told
told_misfits declared plan p (Some t) ds told = ap (misfits_of p.name) told

-- one doubt more of a template
pub one_told : (name : List ℕ) (done more : List spec.PlaceInDoubt) (d : Doubt) (ds rest : List Doubt) → more ≡ done ++ record { template = name; doubt = d } ∷ []
    → ds ≡ d ∷ rest → more ++ misfits_of name rest ≡ done ++ misfits_of name ds
one_told name done more d ds rest e f =
    ap (λ (l : List spec.PlaceInDoubt). l ++ misfits_of name rest) e
    ∙ (append_assoc done (record { template = name; doubt = d } ∷ []) (misfits_of name rest)
    ∙ ap (λ (l : List Doubt). done ++ misfits_of name l) (sym f))

-- one template more of a plan
pub next_told : (declared : Declared) (table : Table) (plan : List Planned) (p : Planned) (ds : List Doubt) (done more all : List spec.PlaceInDoubt) (old rest : List Planned)
    → AreDoubtsOf declared table plan p ds → more ≡ done ++ misfits_of p.name ds → old ≡ p ∷ rest
    → done ++ each_misfits declared table plan old ≡ all → more ++ each_misfits declared table plan rest ≡ all
next_told declared table plan p ds done more all old rest told e f so_far =
    ap (λ (l : List spec.PlaceInDoubt). l ++ each_misfits declared table plan rest) (e ∙ ap (λ (l : List spec.PlaceInDoubt). done ++ l) (told_misfits declared plan p (table p.name) ds told))
    ∙ (append_assoc done (template_misfits declared plan p (table p.name)) (each_misfits declared table plan rest)
    ∙ (ap (λ (l : List Planned). done ++ each_misfits declared table plan l) (sym f)
    ∙ so_far))
