-- What is known of a path by frames, and what that says of a look-up.
use denote.Ref.{Bor}
use Rattle.std.proofs.Common.{◌≡◌, ℕ, ◌+◌, ◌<◌, ◌≤◌, List, [], ◌∷◌, ◌++◌, length, take, get_or, Bool, true, Option, Some, None, Result, Ok, Err, arith, refl, sym, ap, ◌∙◌, subst}
use Rattle.std.proofs.lemmas.List.{take_more}
use Rattle.upon_types.specs.Cow.{cow_view}
use Rattle.upon_types.specs.Path.{Access, Member}
use Rattle.upon_types.specs.Val.{Val}
use Rattle.upon_types.specs.View.{view}
use Rattle.upon_types.specs.declared.value.Value.{Value}
use Rattle.upon_types.specs.declared.error.Error.{Error}
use Rattle.upon_types.specs.declared.value.cow.ValueCow.{ValueCow}
use Rattle.upon_lookup.specs.Answer.{Answers, IsLent, Lends}
use Rattle.upon_lookup.specs.Environment.{Root, context, value_source, nothing, Environment, root_environment}
use Rattle.upon_lookup.specs.Finding.{Finding, found, at_fault, Reply, reply}
use Rattle.upon_render.specs.Frames.{frame_over, frames_over, frame_lends, frames_lend}
use Rattle.upon_lookup.specs.Seen.{FindsMade, LooksUp, RootTells, made_view}
use Rattle.upon_lookup.specs.Lookup.{or_root, root_value, lookup}
use Rattle.upon_lookup.specs.Settled.{SettledPath, known_path, root_settles, or_root_settles, Settles, FindsSettled}
use Rattle.upon_lookup.specs.Source.{Source}
use Rattle.upon_render.specs.declared.stack.Frame.{Frame}
use Rattle.upon_lookup.specs.declared.value.Made.{Made}
use Rattle.upon_render.proofs.Known.{bound_to-nil}

-- ---- one frame more
pub frames_over-push : (env : Environment) (frames : List Frame) (frame : Frame) → frames_over env (frames ++ frame ∷ []) ≡ frame_over frame (frames_over env frames)
frames_over-push env [] frame = refl
frames_over-push env (f ∷ frames) frame = frames_over-push (frame_over f env) frames frame

frames_lend-push : (lent : Bool) (frames : List Frame) (frame : Frame) (selector : Access)
    → frames_lend lent (frames ++ frame ∷ []) selector ≡ frame_lends frame selector (frames_lend lent frames selector)
frames_lend-push lent [] frame selector = refl
frames_lend-push lent (f ∷ frames) frame selector = frames_lend-push (frame_lends f selector lent) frames frame selector

abbrev pub known_by_frames : Environment → Bool → List Frame → Member → List Member → SettledPath
known_by_frames env lent frames first rest = known_path (frames_over env frames) (frames_lend lent frames first.access) first rest

abbrev pub known_by_frame : Frame → Environment → Bool → List Frame → Member → List Member → SettledPath
known_by_frame frame env lent frames first rest =
    known_path (frame_over frame (frames_over env frames)) (frame_lends frame first.access (frames_lend lent frames first.access)) first rest

known-push : (env : Environment) (lent : Bool) (frames : List Frame) (frame : Frame) (first : Member) (rest : List Member)
    → known_by_frames env lent (frames ++ frame ∷ []) first rest ≡ known_by_frame frame env lent frames first rest
known-push env lent frames frame first rest =
    ap (λ e. known_path e (frames_lend lent (frames ++ frame ∷ []) first.access) first rest) (frames_over-push env frames frame)
    ∙ ap (λ l. known_path (frame_over frame (frames_over env frames)) l first rest) (frames_lend-push lent frames frame first.access)

-- the frame at k, ahead of those below it
known-take : (env : Environment) (lent : Bool) (frames : List Frame) (n k : ℕ) (frame : Frame) (first : Member) (rest : List Member)
    → n ≡ k + 1 → n ≤ length frames → frame ≡ get_or frames k frame
    → known_by_frames env lent (take n frames) first rest ≡ known_by_frame frame env lent (take k frames) first rest
known-take env lent frames n k frame first rest next within is =
    let below : k < length frames = omega arith in
    let took : take n frames ≡ take k frames ++ frame ∷ [] = ap (λ i. take i frames) next ∙ take_more frames k frame below ∙ ap (λ y. take k frames ++ y ∷ []) (sym is) in
    ap (λ fs. known_by_frames env lent fs first rest) took ∙ known-push env lent (take k frames) frame first rest

-- what all frames say, by the frame at k ahead of those below it
pub known-step : (env : Environment) (lent : Bool) (frames : List Frame) (n k : ℕ) (frame : Frame) (first : Member) (rest : List Member)
    → n ≡ k + 1 → n ≤ length frames → frame ≡ get_or frames k frame
    → known_by_frames env lent frames first rest ≡ known_by_frames env lent (take n frames) first rest
    → known_by_frames env lent frames first rest ≡ known_by_frame frame env lent (take k frames) first rest
known-step env lent frames n k frame first rest next within is same = same ∙ known-take env lent frames n k frame first rest next within is

-- where that frame binds nothing, by those below it
pub known-passed : (env : Environment) (lent : Bool) (frames : List Frame) (n k : ℕ) (frame : Frame) (first : Member) (rest : List Member)
    → n ≡ k + 1 → n ≤ length frames → frame ≡ get_or frames k frame
    → known_by_frames env lent frames first rest ≡ known_by_frames env lent (take n frames) first rest
    → known_by_frame frame env lent (take k frames) first rest ≡ known_by_frames env lent (take k frames) first rest
    → known_by_frames env lent frames first rest ≡ known_by_frames env lent (take k frames) first rest
known-passed env lent frames n k frame first rest next within is same passed = known-step env lent frames n k frame first rest next within is same ∙ passed

-- ---- what is settled is what a look-up finds
inner_is : (a b : Finding Val) → Some a ≡ Some b → a ≡ b
inner_is a b is = cc

root_settled : {Q : Type 0} (ask : Source Q) (root : Root) (first : Member) (rest : List Member) (q : Q) (o : Finding Val) → root_settles root first rest ≡ Some o → root_value ask root first rest q ≡ reply o q
root_settled ask (context v) first rest q o is = ap (λ a. reply a q) (inner_is _ o is)
root_settled ask value_source first rest q o is = absurd cc
root_settled ask nothing first rest q o is = ap (λ a. reply a q) (inner_is _ o is)

or_root_settled : {Q : Type 0} (x : Finding (Option Val)) (ask : Source Q) (root : Root) (first : Member) (rest : List Member) (q : Q) (o : Finding Val)
    → or_root_settles x root first rest ≡ Some o → or_root x ask root first rest q ≡ reply o q
or_root_settled (found (Some v)) ask root first rest q o is = ap (λ a. reply a q) (inner_is _ o is)
or_root_settled (found None) ask root first rest q o is = root_settled ask root first rest q o is
or_root_settled (at_fault fault) ask root first rest q o is = ap (λ a. reply a q) (inner_is _ o is)

root_asked : {Q : Type 0} (ask : Source Q) (root : Root) (first : Member) (rest : List Member) (q : Q) → root_settles root first rest ≡ None → root_value ask root first rest q ≡ root_value ask value_source first rest q
root_asked ask (context v) first rest q is = absurd cc
root_asked ask value_source first rest q is = refl
root_asked ask nothing first rest q is = absurd cc

or_root_asked : {Q : Type 0} (x : Finding (Option Val)) (ask : Source Q) (root : Root) (first : Member) (rest : List Member) (q : Q)
    → or_root_settles x root first rest ≡ None → or_root x ask root first rest q ≡ root_value ask value_source first rest q
or_root_asked (found (Some v)) ask root first rest q is = absurd cc
or_root_asked (found None) ask root first rest q is = root_asked ask root first rest q is
or_root_asked (at_fault fault) ask root first rest q is = absurd cc

same_root : {Q : Type 0} (x : Finding (Option Val)) (ask : Source Q) (root below : Root) (first : Member) (rest : List Member) (q : Q)
    → or_root_settles x root first rest ≡ root_settles below first rest → or_root x ask root first rest q ≡ root_value ask below first rest q
same_root x ask root (context v) first rest q is = or_root_settled x ask root first rest q _ is
same_root x ask root value_source first rest q is = or_root_asked x ask root first rest q is
same_root x ask root nothing first rest q is = or_root_settled x ask root first rest q _ is

bare_settles : (root : Root) (lent : Bool) (first : Member) (rest : List Member) → (known_path (root_environment root) lent first rest).settled ≡ root_settles root first rest
bare_settles root lent first rest = rw (bound_to-nil first.access) refl

-- where frames bind nothing, the root answers
pub lookup_in_root : {Q : Type 0} (ask : Source Q) (env : Environment) (root : Root) (lent own : Bool) (first : Member) (rest : List Member) (q : Q)
    → known_path env lent first rest ≡ known_path (root_environment root) own first rest → lookup ask env first rest q ≡ root_value ask root first rest q
lookup_in_root ask env root lent own first rest q same = same_root _ ask env.root root first rest q (ap (λ (k : SettledPath). k.settled) same ∙ bare_settles root own first rest)

-- what settles a path answers a look-up, and the source is not asked
pub lookup_answer : {Q : Type 0} (source : List ℕ) (ask : Source Q) (env : Environment) (lent : Bool) (first : Member) (rest : List Member) (q : Q) (r : Result ValueCow Error)
    → Settles source (known_path env lent first rest) r → Answers cow_view source (lookup ask env first rest q).answer r
lookup_answer source ask env lent first rest q r (o, (is, answers, lends)) =
    let P : Reply _ (Finding Val) → Type 0 = λ s. Answers cow_view source s.answer r in
    subst P (sym (or_root_settled _ ask env.root first rest q o is)) answers

pub lookup_next : {Q : Type 0} (source : List ℕ) (ask : Source Q) (env : Environment) (lent : Bool) (first : Member) (rest : List Member) (q : Q) (r : Result ValueCow Error)
    → Settles source (known_path env lent first rest) r → (lookup ask env first rest q).next ≡ q
lookup_next source ask env lent first rest q r (o, (is, answers, lends)) = ap (λ (s : Reply _ (Finding Val)). s.next) (or_root_settled _ ask env.root first rest q o is)

pub lookup_lends : {Q : Type 0} (source : List ℕ) (ask : Source Q) (env : Environment) (lent : Bool) (first : Member) (rest : List Member) (q : Q) (r : Result ValueCow Error)
    → Settles source (known_path env lent first rest) r → lent ≡ true → Lends IsLent (lookup ask env first rest q).answer r
lookup_lends source ask env lent first rest q r (o, (is, answers, lends)) lent_is =
    let P : Reply _ (Finding Val) → Type 0 = λ s. Lends IsLent s.answer r in
    subst P (sym (or_root_settled _ ask env.root first rest q o is)) (lends lent_is)

-- ---- what a search through frames says
pub some_known : (source : List ℕ) (env : Environment) (lent : Bool) (fs gs : List Frame) (first : Member) (rest : List Member) (r : Result (Option ValueCow) Error) (o : Option ValueCow) (value : ValueCow)
    → gs ≡ fs → r ≡ Ok o → o ≡ Some value → FindsSettled source (known_by_frames env lent gs first rest) (known_path env lent first rest) r
    → Settles source (known_by_frames env lent fs first rest) (Ok value)
some_known source env lent fs gs first rest r o value same is some h =
    let P : List Frame → Type 0 = λ l. FindsSettled source (known_by_frames env lent l first rest) (known_path env lent first rest) r in
    let R : Result (Option ValueCow) Error → Type 0 = λ x. FindsSettled source (known_by_frames env lent fs first rest) (known_path env lent first rest) x in
    subst R (is ∙ ap (λ (x : Option ValueCow). Ok x) some) (subst P same h)

pub none_known : (source : List ℕ) (env : Environment) (lent : Bool) (fs gs : List Frame) (first : Member) (rest : List Member) (r : Result (Option ValueCow) Error) (o : Option ValueCow)
    → gs ≡ fs → r ≡ Ok o → o ≡ None → FindsSettled source (known_by_frames env lent gs first rest) (known_path env lent first rest) r
    → known_by_frames env lent fs first rest ≡ known_path env lent first rest
none_known source env lent fs gs first rest r o same is none h =
    let P : List Frame → Type 0 = λ l. FindsSettled source (known_by_frames env lent l first rest) (known_path env lent first rest) r in
    let R : Result (Option ValueCow) Error → Type 0 = λ x. FindsSettled source (known_by_frames env lent fs first rest) (known_path env lent first rest) x in
    subst R (is ∙ ap (λ (x : Option ValueCow). Ok x) none) (subst P same h)

pub error_known : (source : List ℕ) (env : Environment) (lent : Bool) (fs gs : List Frame) (first : Member) (rest : List Member) (r : Result (Option ValueCow) Error) (error : Error)
    → gs ≡ fs → r ≡ Err error → FindsSettled source (known_by_frames env lent gs first rest) (known_path env lent first rest) r
    → Settles source (known_by_frames env lent fs first rest) (Err error)
error_known source env lent fs gs first rest r error same is h =
    let P : List Frame → Type 0 = λ l. FindsSettled source (known_by_frames env lent l first rest) (known_path env lent first rest) r in
    let R : Result (Option ValueCow) Error → Type 0 = λ x. FindsSettled source (known_by_frames env lent fs first rest) (known_path env lent first rest) x in
    subst R is (subst P same h)

-- what settles a path is what a look-up finds, and the source is not asked
pub lookup_settled : {Q : Type 0} (ask : Source Q) (env : Environment) (lent : Bool) (first : Member) (rest : List Member) (q : Q) (o : Finding Val)
    → (known_path env lent first rest).settled ≡ Some o → lookup ask env first rest q ≡ reply o q
lookup_settled ask env lent first rest q o is = or_root_settled _ ask env.root first rest q o is

-- a value that all frames settle
pub looks_up_here : {Q : Type 0} (ask : Source Q) (env : Environment) (lent : Bool) (fs gs : List Frame) (first : Member) (rest : List Member) (q : Q) (v : Val)
    → gs ≡ fs → (known_by_frames env lent gs first rest).settled ≡ Some (found v) → lookup ask (frames_over env fs) first rest q ≡ reply (found v) q
looks_up_here ask env lent fs gs first rest q v same is =
    lookup_settled ask (frames_over env fs) (frames_lend lent fs first.access) first rest q (found v)
    (subst (λ (l : List Frame). (known_by_frames env lent l first rest).settled ≡ Some (found v)) same is)

-- one that the root has, where no frame binds the path
pub looks_up_root : {Q : Type 0} (ask : Source Q) (env : Environment) (root : Root) (lent own : Bool) (first : Member) (rest : List Member) (q : Q) (r : Option (Bor Value))
    → known_path env lent first rest ≡ known_path (root_environment root) own first rest → RootTells ask root first rest q r → LooksUp (λ v. view v.now) ask env first rest q r
looks_up_root ask env root lent own first rest q None same h = tt
looks_up_root ask env root lent own first rest q (Some v) same h = lookup_in_root ask env root lent own first rest q same ∙ h

-- what a loop among them says of itself
pub looks_up_made : {Q : Type 0} (ask : Source Q) (env : Environment) (lent : Bool) (fs gs : List Frame) (first : Member) (rest : List Member) (q : Q) (r : Option Made)
    → gs ≡ fs → FindsMade (known_by_frames env lent gs first rest) r → LooksUp made_view ask (frames_over env fs) first rest q r
looks_up_made ask env lent fs gs first rest q None same h = tt
looks_up_made ask env lent fs gs first rest q (Some made) same h = looks_up_here ask env lent fs gs first rest q (made_view made) same h
