-- Alike rows have the same lead, and the same lists and floors.
use Rattle.std.proofs.Common.{◌≡◌, ◌⊎◌, ℕ, zero, suc, ◌≤◌, Bool, true, false, cond, List, [], ◌∷◌, map, nat_lt, Option, None, Some, inl, inr, ap, sym, ◌∙◌, refl, subst, arith}
use Rattle.std.specs.Prelude.{ℤ, pos, ◌+ℤ◌, ◌-ℤ◌, int_lt}
use Rattle.std.specs.List.{fold}
use Rattle.std.specs.Option.{option_and_then}
use Rattle.std.specs.Ordering.{int_eq}
use Rattle.std.proofs.lemmas.Bool.Decides.{Decides-int_eq}
use Rattle.std.proofs.lemmas.Int.{ints}
use Rattle.lin_facts.specs.Rows.{coefficient_of, same_term}
use Rattle.lin_facts.specs.declared.row.Part.{Part}
use Rattle.lin_facts.specs.declared.row.Row.{Row}
use Rattle.lin_facts.specs.declared.row.Term.{Term}
use Rattle.lin_facts.specs.declared.row.Term.TheVariants.{Value, Length, Names, Pos, Count}
use Rattle.lin_facts.proofs.Forms.{coefficient_append, same_is}
use Rattle.bst_meaning.specs.declared.condition.Cond.{Cond}
use Rattle.sym_state.specs.References.{row_said}
use Rattle.sym_state.specs.State.{State}
use Rattle.sym_state.specs.declared.proof.Reference.{Reference}
use Rattle.straight_proofs.specs.Floors.{floor_within, greatest, greatest_behind}
use Rattle.straight_proofs.specs.Remainders.{Alike, AreAlike, fits, higher, lead, less, minus, rank, same_sign, turned}
use Rattle.straight_proofs.specs.Straight.{ended, first_list, left_behind, list_within, references}
use Rattle.straight_proofs.proofs.AddingUp.{next_highest, no_lead}
use Rattle.straight_proofs.proofs.Canonical.{less_alike}
use Rattle.straight_proofs.proofs.Floored.{floor_at_end, floor_behind, floor_further, no_floor}
use Rattle.straight_proofs.proofs.Lists.{at_end, none_left, one_more}

-- terms of one rank are one
pub rank_tells : (s t : Term) → rank s ≡ rank t → s ≡ t
rank_tells Pos Pos e = refl
rank_tells Pos Count e = absurd (omega arith)
rank_tells Pos (Value n) e = absurd (omega arith)
rank_tells Pos (Length n) e = absurd (omega arith)
rank_tells Pos (Names n) e = absurd (omega arith)
rank_tells Count Pos e = absurd (omega arith)
rank_tells Count Count e = refl
rank_tells Count (Value n) e = absurd (omega arith)
rank_tells Count (Length n) e = absurd (omega arith)
rank_tells Count (Names n) e = absurd (omega arith)
rank_tells (Value m) Pos e = absurd (omega arith)
rank_tells (Value m) Count e = absurd (omega arith)
rank_tells (Value m) (Value n) e = ap Value (omega arith)
rank_tells (Value m) (Length n) e = absurd (omega arith)
rank_tells (Value m) (Names n) e = absurd (omega arith)
rank_tells (Length m) Pos e = absurd (omega arith)
rank_tells (Length m) Count e = absurd (omega arith)
rank_tells (Length m) (Value n) e = absurd (omega arith)
rank_tells (Length m) (Length n) e = ap Length (omega arith)
rank_tells (Length m) (Names n) e = absurd (omega arith)
rank_tells (Names m) Pos e = absurd (omega arith)
rank_tells (Names m) Count e = absurd (omega arith)
rank_tells (Names m) (Value n) e = absurd (omega arith)
rank_tells (Names m) (Length n) e = absurd (omega arith)
rank_tells (Names m) (Names n) e = ap Names (omega arith)

-- the higher of two terms is no lower than each
higher_first : (t u : Term) → rank t ≤ rank (higher t (Some u))
higher_first t u = by (nat_lt (rank t) (rank u)) refl
  where
    by : (b : Bool) → nat_lt (rank t) (rank u) ≡ b → rank t ≤ rank (cond b u t)
    by true e = grind (arith, e)
    by false e = omega arith

higher_second : (t u : Term) → rank u ≤ rank (higher t (Some u))
higher_second t u = by (nat_lt (rank t) (rank u)) refl
  where
    by : (b : Bool) → nat_lt (rank t) (rank u) ≡ b → rank u ≤ rank (cond b u t)
    by true e = omega arith
    by false e = grind (arith, e)

-- the highest term so far is no lower than one before it
never_lower : (all parts : List Part) (u t : Term) → fold (next_highest all) (Some u) parts ≡ Some t → rank u ≤ rank t
never_lower all [] u t e = let same : u ≡ t = cc in omega (arith, ap rank same)
never_lower all (part ∷ parts) u t e = by (int_eq (coefficient_of all part.term) (pos 0)) (λ v. never_lower all parts v t) e
  where
    by : (b : Bool) → ((v : Term) → fold (next_highest all) (Some v) parts ≡ Some t → rank v ≤ rank t)
        → fold (next_highest all) (cond b (Some u) (Some (higher part.term (Some u)))) parts ≡ Some t → rank u ≤ rank t
    by true rest f = rest u f
    by false rest f = omega (arith, higher_second part.term u, rest (higher part.term (Some u)) f)

-- and no lower than each term whose coefficient isn't 0
no_lower : (all parts : List Part) (so_far : Option Term) (t u : Term) → fold (next_highest all) so_far parts ≡ Some t
    → (coefficient_of all u ≡ pos 0) ⊎ ((coefficient_of parts u ≡ pos 0) ⊎ (rank u ≤ rank t))
no_lower all [] so_far t u e = inr (inl refl)
no_lower all (part ∷ parts) so_far t u e =
    by (int_eq (coefficient_of all part.term) (pos 0)) (same_term part.term u) refl refl (λ next. no_lower all parts next t u) e
  where
    first : (so_far : Option Term) → fold (next_highest all) (Some (higher part.term so_far)) parts ≡ Some t → rank part.term ≤ rank t
    first None f = never_lower all parts part.term t f
    first (Some s) f = omega (arith, higher_first part.term s, never_lower all parts (higher part.term (Some s)) t f)

    past : (coefficient_of all u ≡ pos 0) ⊎ ((coefficient_of parts u ≡ pos 0) ⊎ (rank u ≤ rank t))
        → (coefficient_of all u ≡ pos 0) ⊎ (((pos 0 +ℤ coefficient_of parts u) ≡ pos 0) ⊎ (rank u ≤ rank t))
    past (inl none) = inl none
    past (inr (inl none)) = inr (inl (omega (arith, ints, none)))
    past (inr (inr low)) = inr (inr low)

    by : (b d : Bool) → int_eq (coefficient_of all part.term) (pos 0) ≡ b → same_term part.term u ≡ d
        → ((next : Option Term) → fold (next_highest all) next parts ≡ Some t → (coefficient_of all u ≡ pos 0) ⊎ ((coefficient_of parts u ≡ pos 0) ⊎ (rank u ≤ rank t)))
        → fold (next_highest all) (cond b so_far (Some (higher part.term so_far))) parts ≡ Some t
        → (coefficient_of all u ≡ pos 0) ⊎ (((cond d part.coefficient (pos 0) +ℤ coefficient_of parts u) ≡ pos 0) ⊎ (rank u ≤ rank t))
    by true true z s rest f = inl (ap (coefficient_of all) (sym (same_is part.term u s)) ∙ (Decides-int_eq (coefficient_of all part.term) (pos 0)).0 z)
    by false true z s rest f = inr (inr (subst (λ (v : Term). rank v ≤ rank t) (same_is part.term u s) (first so_far f)))
    by true false z s rest f = past (rest so_far f)
    by false false z s rest f = past (rest (Some (higher part.term so_far)) f)

-- the highest term's coefficient isn't 0
is_taken : (all parts : List Part) (so_far : Option Term) (t : Term) → ((u : Term) → so_far ≡ Some u → int_eq (coefficient_of all u) (pos 0) ≡ false)
    → fold (next_highest all) so_far parts ≡ Some t → int_eq (coefficient_of all t) (pos 0) ≡ false
is_taken all [] so_far t h e = h t e
is_taken all (part ∷ parts) so_far t h e = by (int_eq (coefficient_of all part.term) (pos 0)) refl (λ next. is_taken all parts next t) e
  where
    either : (so_far : Option Term) → ((u : Term) → so_far ≡ Some u → int_eq (coefficient_of all u) (pos 0) ≡ false)
        → int_eq (coefficient_of all part.term) (pos 0) ≡ false → int_eq (coefficient_of all (higher part.term so_far)) (pos 0) ≡ false
    either None k z = z
    either (Some s) k z =
        elim (nat_lt (rank part.term) (rank s)) as (λ (b : Bool). int_eq (coefficient_of all (cond b s part.term)) (pos 0) ≡ false) [ true ↦ k s refl | false ↦ z ]

    by : (b : Bool) → int_eq (coefficient_of all part.term) (pos 0) ≡ b
        → ((next : Option Term) → ((u : Term) → next ≡ Some u → int_eq (coefficient_of all u) (pos 0) ≡ false)
        → fold (next_highest all) next parts ≡ Some t → int_eq (coefficient_of all t) (pos 0) ≡ false)
        → fold (next_highest all) (cond b so_far (Some (higher part.term so_far))) parts ≡ Some t → int_eq (coefficient_of all t) (pos 0) ≡ false
    by true z rest f = rest so_far h f
    by false z rest f =
        rest (Some (higher part.term so_far))
        (λ u same. let one : higher part.term so_far ≡ u = cc in ap (λ (v : Term). int_eq (coefficient_of all v) (pos 0)) (sym one) ∙ either so_far h z) f

-- the lead's coefficient isn't 0
lead_taken : (row : Row) (t : Term) → lead row ≡ Some t → coefficient_of row.parts t ≡ pos 0 → ⊥
lead_taken row t e z =
    let taken = is_taken row.parts row.parts None t (λ u f. absurd (cc)) e in
    let none = (Decides-int_eq (coefficient_of row.parts t) (pos 0)).1 z in
    absurd (cc)

-- no term whose coefficient isn't 0 is higher than the lead
lead_highest : (row : Row) (t u : Term) → lead row ≡ Some t → (coefficient_of row.parts u ≡ pos 0) ⊎ (rank u ≤ rank t)
lead_highest row t u e = elim (no_lower row.parts row.parts None t u e) [
  | inl none ↦ inl none
  | inr rest ↦ rest
]

-- a lead of one of two alike rows is no higher than that of the other
not_higher : (row other : Row) (s t : Term) → Alike row other → lead row ≡ Some s → lead other ≡ Some t → rank t ≤ rank s
not_higher row other s t h e f = elim (lead_highest row s t e) [
  | inl none ↦ absurd (lead_taken other t f (sym (h.terms t) ∙ none))
  | inr low ↦ low
]

pub turned_about : (row other : Row) → Alike row other → Alike other row
turned_about row other h = record { constant = sym h.constant; terms = λ t. sym (h.terms t) }

pub one_after_other : (row other third : Row) → Alike row other → Alike other third → Alike row third
one_after_other row other third h k = record { constant = h.constant ∙ k.constant; terms = λ t. h.terms t ∙ k.terms t }

-- alike rows have the same lead
pub same_lead : (row other : Row) → Alike row other → lead row ≡ lead other
same_lead row other h = by (lead row) (lead other) refl refl
  where
    by : (o p : Option Term) → lead row ≡ o → lead other ≡ p → o ≡ p
    by None None e f = refl
    by None (Some t) e f = absurd (lead_taken other t f (sym (h.terms t) ∙ no_lead row t e))
    by (Some s) None e f = absurd (lead_taken row s e (h.terms s ∙ no_lead other s f))
    by (Some s) (Some t) e f =
        let low = not_higher row other s t h e f in
        let high = not_higher other row t s (turned_about row other h) f e in
        ap (λ (u : Term). Some u) (rank_tells s t (omega arith))

-- the same rows may be subtracted from alike remainders
same_fits : (leads : Option Term) (remainder other row : Row) → Alike remainder other → fits leads remainder row ≡ fits leads other row
same_fits None remainder other row h = refl
same_fits (Some t) remainder other row h = ap (λ (n : ℤ). same_sign n (coefficient_of row.parts t)) (h.terms t)

-- and what is left is alike
minus_alike : (remainder other row : Row) → Alike remainder other → Alike (minus remainder row) (minus other row)
minus_alike remainder other row h = record {
  constant = ap (λ (n : ℤ). n -ℤ row.constant) h.constant;
  terms = λ t.
      coefficient_append remainder.parts (map turned row.parts) t
      ∙ ap (λ (n : ℤ). n +ℤ coefficient_of (map turned row.parts) t) (h.terms t)
      ∙ sym (coefficient_append other.parts (map turned row.parts) t);
}

-- what is left where a row may be subtracted is alike, whether it is kept in its form or not
pub left_alike : (leads : Option Term) (remainder other row : Row) → Alike remainder other
    → AreAlike (cond (fits leads remainder row) (Some (minus remainder row)) None) (cond (fits leads other row) (Some (minus other row)) None)
left_alike leads remainder other row h =
    subst (λ (b : Bool). AreAlike (cond (fits leads remainder row) (Some (minus remainder row)) None) (cond b (Some (minus other row)) None)) (same_fits leads remainder other row h)
    (elim (fits leads remainder row) as (λ (b : Bool). AreAlike (cond b (Some (minus remainder row)) None) (cond b (Some (minus other row)) None)) [
      | true ↦ minus_alike remainder other row h
      | false ↦ tt
    ])

pub kept_alike : (b : Bool) (remainder row : Row) → AreAlike (cond b (Some (less remainder row)) None) (cond b (Some (minus remainder row)) None)
kept_alike true remainder row = less_alike remainder row
kept_alike false remainder row = tt

behind_alike : (c : Cond) (state : State) (leads : Option Term) (remainder other : Row) (r : Reference) → Alike remainder other
    → AreAlike (left_behind c state leads remainder r) (left_behind c state leads other r)
behind_alike c state leads remainder other r h =
    elim (row_said c state r) as (λ (o : Option Row).
    AreAlike (option_and_then (λ row. cond (fits leads remainder row) (Some (minus remainder row)) None) o)
    (option_and_then (λ row. cond (fits leads other row) (Some (minus other row)) None) o)) [
      | None ↦ tt
      | Some row ↦ left_alike leads remainder other row h
    ]

-- what is the same of alike rows is the same of what is left
pub same_behind : {X : Type 0} (next : Row → Option X) → ((row other : Row) → Alike row other → next row ≡ next other)
    → (left right : Option Row) → AreAlike left right → option_and_then next left ≡ option_and_then next right
same_behind next h None None k = refl
same_behind next h (Some row) (Some other) k = h row other k
same_behind next h None (Some other) k = absurd k
same_behind next h (Some row) None k = absurd k

-- the first list is the same where the lists behind all references are
first_same : (behind other : Reference → Option (List Reference)) → ((r : Reference) → behind r ≡ other r) → (all : List Reference)
    → first_list behind all ≡ first_list other all
first_same behind other h [] = refl
first_same behind other h (r ∷ all) =
    ap (λ (o : Option (List Reference)). elim o as (λ _. Option (List Reference)) [ Some l ↦ Some (r ∷ l) | None ↦ first_list behind all ]) (h r)
    ∙ ap (λ (rest : Option (List Reference)). elim (other r) as (λ _. Option (List Reference)) [ Some l ↦ Some (r ∷ l) | None ↦ rest ]) (first_same behind other h all)

ended_same : (row other : Row) → Alike row other → ended row ≡ ended other
ended_same row other h = ap (λ (n : ℤ). cond (int_lt n (pos 0)) None (Some [])) h.constant

-- what rows have by their lead is the same of alike rows
by_lead : {A : Type 0} (f : Row → A) (row other : Row) → Alike row other → (lead row ≡ None → lead other ≡ None → f row ≡ f other)
    → ((t : Term) → lead row ≡ Some t → lead other ≡ Some t → f row ≡ f other) → f row ≡ f other
by_lead f row other h ended behind = by (lead row) refl
  where
    by : (o : Option Term) → lead row ≡ o → f row ≡ f other
    by None e = ended e (sym (same_lead row other h) ∙ e)
    by (Some t) e = behind t e (sym (same_lead row other h) ∙ e)

-- alike rows have the same list
pub same_list : (n : ℕ) (c : Cond) (state : State) (row other : Row) → Alike row other → list_within n c state row ≡ list_within n c state other
same_list zero c state row other h =
    by_lead (list_within zero c state) row other h
    (λ e f. at_end zero c state row e ∙ ended_same row other h ∙ sym (at_end zero c state other f))
    (λ t e f. none_left c state row t e ∙ sym (none_left c state other t f))
same_list (suc n) c state row other h =
    by_lead (list_within (suc n) c state) row other h
    (λ e f. at_end (suc n) c state row e ∙ ended_same row other h ∙ sym (at_end (suc n) c state other f))
    (λ t e f.
    one_more n c state row t e
    ∙ first_same (λ r. option_and_then (list_within n c state) (left_behind c state (Some t) row r))
    (λ r. option_and_then (list_within n c state) (left_behind c state (Some t) other r))
    (λ r. same_behind (list_within n c state) (same_list n c state) (left_behind c state (Some t) row r) (left_behind c state (Some t) other r)
    (behind_alike c state (Some t) row other r h))
    (references state)
    ∙ sym (one_more n c state other t f))

greatest_same : (behind other : Reference → Option ℤ) → ((r : Reference) → behind r ≡ other r) → (all : List Reference)
    → greatest_behind behind all ≡ greatest_behind other all
greatest_same behind other h [] = refl
greatest_same behind other h (r ∷ all) =
    ap (λ (o : Option ℤ). greatest o (greatest_behind behind all)) (h r) ∙ ap (greatest (other r)) (greatest_same behind other h all)

-- alike rows have the same floor
pub same_floor : (n : ℕ) (c : Cond) (state : State) (row other : Row) → Alike row other → floor_within n c state row ≡ floor_within n c state other
same_floor zero c state row other h =
    by_lead (floor_within zero c state) row other h
    (λ e f. floor_at_end zero c state row e ∙ ap (λ (n : ℤ). Some n) h.constant ∙ sym (floor_at_end zero c state other f))
    (λ t e f. no_floor c state row t e ∙ sym (no_floor c state other t f))
same_floor (suc n) c state row other h =
    by_lead (floor_within (suc n) c state) row other h
    (λ e f. floor_at_end (suc n) c state row e ∙ ap (λ (n : ℤ). Some n) h.constant ∙ sym (floor_at_end (suc n) c state other f))
    (λ t e f.
    floor_further n c state row t e
    ∙ greatest_same (floor_behind n c state row t) (floor_behind n c state other t)
    (λ r. same_behind (floor_within n c state) (same_floor n c state) (left_behind c state (Some t) row r) (left_behind c state (Some t) other r)
    (behind_alike c state (Some t) row other r h))
    (references state)
    ∙ sym (floor_further n c state other t f))
