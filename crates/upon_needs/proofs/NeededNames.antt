-- Names that are chosen from a list: those that begin a path in a program outside of what binds them.
use Rattle.std.proofs.Common.{◌≡◌, ◌⊎◌, ◌↔◌, ◌<◌, ◌≤◌, ◌+◌, ◌-◌, ◌||◌, ℕ, zero, suc, leb, if◌then◌else◌, List, [], ◌∷◌, ◌++◌, length, get_or, drop, Bool, true, false, Bor, bytes_eq, inl, inr, refl, sym, ap, ◌∙◌, subst, arith}
use Rattle.std.specs.BTreeSet.{BTreeSet}
use Rattle.std.specs.List.{list_any}
use Rattle.std.proofs.lemmas.List.{drop_more}
use Rattle.std.proofs.lemmas.Slice.Eq.{bytes_eq-Decides}
use Rattle.upon_machine_spec.specs.Instr.{Instr, jump, with_start, with_end, loop_start}
use Rattle.upon_machine_spec.specs.ProgramNames.{block_begins, loop_binds, count_after, unbound, path_name, is_this}
use Rattle.upon_compiler.specs.Program.{instr_of, program_view}
use Rattle.upon_compiler.specs.declared.types.program.Instr.{Instr as CodeInstr}
use Rattle.upon_needs.specs.Names.{texts, has_name}

-- an instruction at which no path begins so is passed
past : (name : List ℕ) (at count : ℕ) (i : Instr) (is : List Instr) → (count ≡ 0 → is_this name (path_name i) ≡ false) → list_any (λ i. is_this name (path_name i)) (unbound name at count (i ∷ is)) ≡ list_any (λ i. is_this name (path_name i)) (unbound name (at + 1) (count_after name at i count) is)
past name at zero i is nothing = ap (λ x. x || list_any (λ i. is_this name (path_name i)) (unbound name (at + 1) (count_after name at i zero) is)) (nothing refl)
past name at (suc count) i is nothing = refl

pub walk_on : (name : List ℕ) (at count : ℕ) (instrs : List CodeInstr) (item : CodeInstr) → at < length instrs → item ≡ get_or instrs at item → (count ≡ 0 → is_this name (path_name (instr_of item)) ≡ false)
    → list_any (λ i. is_this name (path_name i)) (unbound name (at + 1) (count_after name at (instr_of item) count) (program_view (drop (at + 1) instrs))) ≡ list_any (λ i. is_this name (path_name i)) (unbound name at count (program_view (drop at instrs)))
walk_on name at count instrs item inside is nothing =
    let rest = drop (at + 1) instrs in
    sym (ap (λ l. list_any (λ i. is_this name (path_name i)) (unbound name at count (program_view l))) (drop_more instrs at item inside ∙ ap (λ x. x ∷ rest) (sym is)) ∙ past name at count (instr_of item) (program_view rest) nothing)

-- the count grows by one at most
begin_grows : (binds : Bool) (n : ℕ) → block_begins binds n ≤ n + 1
begin_grows true zero = omega arith
begin_grows false zero = omega arith
begin_grows binds (suc n) = omega arith

jump_grows : (back : Bool) (n : ℕ) → (if back then n - 1 else n) ≤ n + 1
jump_grows true n = omega arith
jump_grows false n = omega arith

pub count_grows : (name : List ℕ) (at : ℕ) (i : Instr) (n : ℕ) → count_after name at i n ≤ n + 1
count_grows name at (with_start word) n = begin_grows (bytes_eq word.text name) n
count_grows name at with_end n = omega arith
count_grows name at (loop_start names span) n = begin_grows (loop_binds name names) n
count_grows name at (jump to) n = jump_grows (leb to at) n
count_grows name at _ n = omega arith

-- what is found in fewer instructions is found in all
pub either_way : (a b c : Bool) → (b ≡ true → c ≡ true) → (a || b) ≡ true → (a || c) ≡ true
either_way true b c h e = refl
either_way false b c h e = h e

pub weaker : (a b c : Bool) → (b ≡ true → c ≡ true) → b ≡ true → (a || c) ≡ true
weaker true b c h e = refl
weaker false b c h e = h e

-- a set has the names of a list that are so
abbrev pub Chosen : (List ℕ → Type 0) → BTreeSet (Bor (List ℕ)) → List (Bor (List ℕ)) → Type 0
Chosen P chosen names = (name : List ℕ) → (has_name chosen name ≡ true) ↔ ((list_any (bytes_eq name) (texts names) ≡ true) × P name)

module _ (P : List ℕ → Type 0) where
  pub chosen_none : (names : BTreeSet (Bor (List ℕ))) → ((name : List ℕ) → has_name names name ≡ false) → Chosen P names []
  chosen_none names empty name = (λ e. let never : false ≡ true = sym (empty name) ∙ e in absurd (cc), λ h. let never : false ≡ true = h.0 in absurd (cc))

  last_listed : (names : List (Bor (List ℕ))) (one : Bor (List ℕ)) (name : List ℕ) → list_any (bytes_eq name) (texts (names ++ one ∷ [])) ≡ (list_any (bytes_eq name) (texts names) || bytes_eq name one.now)
  last_listed [] one name = or_false (bytes_eq name one.now)
    where
      or_false : (x : Bool) → (x || false) ≡ (false || x)
      or_false true = refl
      or_false false = refl
  last_listed (k ∷ names) one name = ap (λ x. bytes_eq name k.now || x) (last_listed names one name) ∙ sym (or_assoc (bytes_eq name k.now) (list_any (bytes_eq name) (texts names)) (bytes_eq name one.now))
    where
      or_assoc : (x y z : Bool) → ((x || y) || z) ≡ (x || (y || z))
      or_assoc true y z = refl
      or_assoc false y z = refl

  module _ (old new : BTreeSet (Bor (List ℕ))) (names : List (Bor (List ℕ))) (one : Bor (List ℕ)) (h : Chosen P old names) where
    split : (name : List ℕ) (x y : Bool) → (x || y) ≡ true → (x ≡ true) ⊎ (y ≡ true)
    split name true y e = inl refl
    split name false y e = inr e

    join_left : (x y : Bool) → x ≡ true → (x || y) ≡ true
    join_left true y e = refl
    join_left false y e = absurd (cc)

    join_right : (x y : Bool) → y ≡ true → (x || y) ≡ true
    join_right true y e = refl
    join_right false y e = e

    same_text : (name : List ℕ) → bytes_eq name one.now ≡ true → one.now ≡ name
    same_text name e = sym ((bytes_eq-Decides name one.now).0 e)

    -- one that is so, and is put in
    pub chosen_yes : ((name : List ℕ) → has_name new name ≡ (has_name old name || bytes_eq name one.now)) → P one.now → Chosen P new (names ++ one ∷ [])
    chosen_yes puts so name = (
      λ e. from (split name (has_name old name) (bytes_eq name one.now) (sym (puts name) ∙ e)),
      λ k. puts name ∙ to (split name (list_any (bytes_eq name) (texts names)) (bytes_eq name one.now) (sym (last_listed names one name) ∙ k.0)) k.1,
    )
      where
        from : (has_name old name ≡ true) ⊎ (bytes_eq name one.now ≡ true) → (list_any (bytes_eq name) (texts (names ++ one ∷ [])) ≡ true) × P name
        from (inl e) = let k = (h name).0 e in (last_listed names one name ∙ join_left (list_any (bytes_eq name) (texts names)) (bytes_eq name one.now) k.0, k.1)
        from (inr e) = (last_listed names one name ∙ join_right (list_any (bytes_eq name) (texts names)) (bytes_eq name one.now) e, subst P (same_text name e) so)

        to : (list_any (bytes_eq name) (texts names) ≡ true) ⊎ (bytes_eq name one.now ≡ true) → P name → (has_name old name || bytes_eq name one.now) ≡ true
        to (inl e) p = join_left (has_name old name) (bytes_eq name one.now) ((h name).1 (e, p))
        to (inr e) p = join_right (has_name old name) (bytes_eq name one.now) e

    -- one that is not so
    pub chosen_no : ((name : List ℕ) → has_name new name ≡ has_name old name) → (P one.now → ⊥) → Chosen P new (names ++ one ∷ [])
    chosen_no stays not_so name = (
      λ e. let k = (h name).0 (sym (stays name) ∙ e) in (last_listed names one name ∙ join_left (list_any (bytes_eq name) (texts names)) (bytes_eq name one.now) k.0, k.1),
      λ k. stays name ∙ to (split name (list_any (bytes_eq name) (texts names)) (bytes_eq name one.now) (sym (last_listed names one name) ∙ k.0)) k.1,
    )
      where
        to : (list_any (bytes_eq name) (texts names) ≡ true) ⊎ (bytes_eq name one.now ≡ true) → P name → has_name old name ≡ true
        to (inl e) p = (h name).1 (e, p)
        to (inr e) p = absurd (not_so (subst P (sym (same_text name e)) p))
