-- The rows of a straight proof add up to the goal: what is found shows it.
use Rattle.std.proofs.Common.{◌≡◌, ◌⊎◌, ℕ, zero, suc, ◌+◌, ◌<◌, ◌≤◌, Bool, true, false, cond, List, [], ◌∷◌, length, map, Option, None, Some, Result, Ok, Err, IfOk, inl, inr, ap, sym, ◌∙◌, refl, subst, arith}
use Rattle.std.specs.Prelude.{ℤ, pos, negsuc, ◌+ℤ◌, ◌*ℤ◌, ◌≤ℤ◌, ◌<ℤ◌, neg_ℤ, int_lt}
use Rattle.std.specs.List.{All, fold}
use Rattle.std.specs.Option.{IfSome, option_and_then, option_map, option_map_or}
use Rattle.std.specs.Ordering.{int_eq}
use borrow.Author.Differences.{product_is}
use Rattle.std.proofs.lemmas.Bool.Decides.{Decides-int_eq}
use Rattle.std.proofs.lemmas.Int.{ints}
use Rattle.std.proofs.lemmas.List.Elements.{All-nil, All-cons}
use Rattle.lin_facts.specs.Rows.{coefficient_of, same_term}
use Rattle.lin_facts.specs.Follows.{entry, follows, left_over, row_at, summed}
use Rattle.lin_facts.specs.declared.row.Part.{Part}
use Rattle.lin_facts.specs.declared.row.Row.{Row}
use Rattle.lin_facts.specs.declared.row.Step.{Step}
use Rattle.lin_facts.specs.declared.row.StepUse.{StepUse}
use Rattle.lin_facts.specs.declared.row.Term.{Term}
use Rattle.lin_facts.proofs.Decided.{then_follows}
use Rattle.lin_facts.proofs.Forms.{coefficient_append, same_is}
use Rattle.bst_meaning.specs.declared.condition.Cond.{Cond}
use Rattle.sym_state.specs.Cases.{absurdity}
use Rattle.sym_state.specs.References.{row_said, row_uses, rows_said, shows}
use Rattle.sym_state.specs.State.{State}
use Rattle.sym_state.specs.declared.proof.Proof.{Proof}
use Rattle.sym_state.specs.declared.proof.Reference.{Reference}
use Rattle.straight_proofs.specs.declared.straight.TheConstants.{MOST_REFERENCES}
use Rattle.straight_proofs.specs.Remainders.{counted_in, fits, higher, lead, minus, turned}
use Rattle.straight_proofs.specs.Straight.{drop_list, drop_proof, first_list, left_behind, list_within, once, proof_of, references, straight_proof}
use Rattle.straight_proofs.proofs.Lists.{at_end, none_left, one_more}

-- a number of each row, added up
abbrev pub total : (Row → ℤ) → List Row → ℤ
total number [] = pos 0
total number (row ∷ rows) = number row +ℤ total number rows

-- rows add up to a remainder, but for a constant that isn't negative
pub record AddUp (remainder : Row) (rows : List Row) : Type 0 where
  pub constant : total (λ row. row.constant) rows ≤ℤ remainder.constant
  pub terms : (t : Term) → coefficient_of remainder.parts t ≡ total (λ row. coefficient_of row.parts t) rows

pub turned_coefficient : (parts : List Part) (t : Term) → coefficient_of (map turned parts) t ≡ neg_ℤ (coefficient_of parts t)
turned_coefficient [] t = refl
turned_coefficient (part ∷ parts) t =
    let rest = turned_coefficient parts t in
    elim (same_term part.term t) as (λ (b : Bool). (cond b (neg_ℤ part.coefficient) (pos 0) +ℤ coefficient_of (map turned parts) t) ≡ neg_ℤ (cond b part.coefficient (pos 0) +ℤ coefficient_of parts t)) [
      | true ↦ omega (arith, ints, rest)
      | false ↦ omega (arith, ints, rest)
    ]

-- a row more adds up to the remainder from which it wasn't subtracted yet
one_row : (remainder row : Row) (rows : List Row) → AddUp (minus remainder row) rows → AddUp remainder (row ∷ rows)
one_row remainder row rows h = record {
  constant = omega (arith, ints, h.constant);
  terms = λ t. omega (arith, ints, h.terms t, coefficient_append remainder.parts (map turned row.parts) t, turned_coefficient row.parts t);
}

-- the highest term so far, and another part
abbrev pub next_highest : List Part → Option Term → Part → Option Term
next_highest all highest part = counted_in (coefficient_of all part.term) part.term highest

pub still_some : (all parts : List Part) (t : Term) → fold (next_highest all) (Some t) parts ≡ None → ⊥
still_some all [] t e = cc
still_some all (part ∷ parts) t e =
    elim (int_eq (coefficient_of all part.term) (pos 0)) as (λ (b : Bool). fold (next_highest all) (cond b (Some t) (Some (higher part.term (Some t)))) parts ≡ None → ⊥) [
      | true ↦ λ f. still_some all parts t f
      | false ↦ λ f. still_some all parts (higher part.term (Some t)) f
    ] e

-- where no term is left each coefficient comes to 0
no_term : (all parts : List Part) (t : Term) → fold (next_highest all) None parts ≡ None → (coefficient_of all t ≡ pos 0) ⊎ (coefficient_of parts t ≡ pos 0)
no_term all [] t e = inr refl
no_term all (part ∷ parts) t e =
    elim (int_eq (coefficient_of all part.term) (pos 0)) as
    (λ (b : Bool). int_eq (coefficient_of all part.term) (pos 0) ≡ b → fold (next_highest all) (cond b None (Some (higher part.term None))) parts ≡ None
    → (coefficient_of all t ≡ pos 0) ⊎ (coefficient_of (part ∷ parts) t ≡ pos 0)) [
      | true ↦ λ z f.
          elim (same_term part.term t) as (λ (b : Bool). same_term part.term t ≡ b → (coefficient_of all t ≡ pos 0) ⊎ ((cond b part.coefficient (pos 0) +ℤ coefficient_of parts t) ≡ pos 0)) [
            | true ↦ λ s. inl (ap (coefficient_of all) (sym (same_is part.term t s)) ∙ (Decides-int_eq (coefficient_of all part.term) (pos 0)).0 z)
            | false ↦ λ s. elim (no_term all parts t f) [
              | inl none ↦ inl none
              | inr none ↦ inr (omega (arith, ints, none))
            ]
          ] refl
      | false ↦ λ z f. absurd (still_some all parts (higher part.term None) f)
    ] refl e

pub no_lead : (remainder : Row) (t : Term) → lead remainder ≡ None → coefficient_of remainder.parts t ≡ pos 0
no_lead remainder t e = elim (no_term remainder.parts remainder.parts t e) [ inl none ↦ none | inr none ↦ none ]

-- a list of at most so many references, whose rows are there and add up to a remainder
pub record Listed (n : ℕ) (c : Cond) (state : State) (remainder : Row) (list : List Reference) : Type 0 where
  pub few : length list ≤ n
  pub rows : List Row
  pub said : rows_said c state (map once list) ≡ Some rows
  pub many : length rows ≡ length list
  pub adds : AddUp remainder rows

not_below : (n : ℤ) → int_lt n (pos 0) ≡ false → pos 0 ≤ℤ n
not_below (pos n) e = omega (arith, ints)
not_below (negsuc n) e = absurd (cc)

-- the end of a list
at_its_end : (n : ℕ) (c : Cond) (state : State) (remainder : Row) (list : List Reference) → lead remainder ≡ None → (b : Bool) → int_lt remainder.constant (pos 0) ≡ b
    → cond b None (Some []) ≡ Some list → Listed n c state remainder list
at_its_end n c state remainder list e true below f = absurd (cc)
at_its_end n c state remainder list e false below f =
    let empty : [] ≡ list = cc in
    subst (λ (l : List Reference). Listed n c state remainder l) empty
    (record {
      few = omega arith;
      rows = [];
      said = refl;
      many = refl;
      adds = record { constant = not_below remainder.constant below; terms = λ t. no_lead remainder t e };
    })

-- a first reference and those behind it
pub record FirstOf (behind : Reference → Option (List Reference)) (list : List Reference) : Type 0 where
  pub reference : Reference
  pub more : List Reference
  pub is : list ≡ reference ∷ more
  pub goes_on : behind reference ≡ Some more

first_of_list : (behind : Reference → Option (List Reference)) (all list : List Reference) → first_list behind all ≡ Some list → FirstOf behind list
first_of_list behind [] list e = absurd (cc)
first_of_list behind (r ∷ all) list e =
    elim (behind r) as (λ (o : Option (List Reference)). behind r ≡ o
    → elim o as (λ _. Option (List Reference)) [ Some l ↦ Some (r ∷ l) | None ↦ first_list behind all ] ≡ Some list → FirstOf behind list) [
      | Some more ↦ λ f g. record { reference = r; more = more; is = cc; goes_on = f }
      | None ↦ λ f g. first_of_list behind all list g
    ] refl e

-- the row of a reference, what it leaves, and the list behind that
pub record Left (c : Cond) (state : State) (n : ℕ) (remainder : Row) (r : Reference) (more : List Reference) : Type 0 where
  pub row : Row
  pub said : row_said c state r ≡ Some row
  pub goes_on : list_within n c state (minus remainder row) ≡ Some more

left_of : (c : Cond) (state : State) (n : ℕ) (leads : Option Term) (remainder : Row) (r : Reference) (more : List Reference)
    → option_and_then (list_within n c state) (left_behind c state leads remainder r) ≡ Some more → Left c state n remainder r more
left_of c state n leads remainder r more e =
    elim (row_said c state r) as (λ (o : Option Row). row_said c state r ≡ o
    → option_and_then (list_within n c state) (option_and_then (λ row. cond (fits leads remainder row) (Some (minus remainder row)) None) o) ≡ Some more
    → Left c state n remainder r more) [
      | None ↦ λ f g. absurd (cc)
      | Some row ↦ λ f g.
          elim (fits leads remainder row) as (λ (b : Bool). option_and_then (list_within n c state) (cond b (Some (minus remainder row)) None) ≡ Some more → Left c state n remainder r more) [
            | true ↦ λ h. record { row = row; said = f; goes_on = h }
            | false ↦ λ h. absurd (cc)
          ] g
    ] refl e

-- a list that begins with a reference adds up where the list behind it does
begins : (c : Cond) (state : State) (n : ℕ) (leads : Option Term) (remainder : Row) (list : List Reference)
    → ((left : Row) (more : List Reference) → list_within n c state left ≡ Some more → Listed n c state left more)
    → first_list (λ r. option_and_then (list_within n c state) (left_behind c state leads remainder r)) (references state) ≡ Some list
    → Listed (suc n) c state remainder list
begins c state n leads remainder list behind e =
    let first = first_of_list (λ r. option_and_then (list_within n c state) (left_behind c state leads remainder r)) (references state) list e in
    let left = left_of c state n leads remainder first.reference first.more first.goes_on in
    let rest = behind (minus remainder left.row) first.more left.goes_on in
    subst (λ (l : List Reference). Listed (suc n) c state remainder l) (sym first.is)
    (record {
      few = let few = rest.few in omega arith;
      rows = left.row ∷ rest.rows;
      said =
          ap (λ (o : Option Row). option_and_then (λ row. option_map (λ (rows : List Row). row ∷ rows) (rows_said c state (map once first.more))) o) left.said
          ∙ ap (λ (o : Option (List Row)). option_map (λ (rows : List Row). left.row ∷ rows) o) rest.said;
      many = ap (λ (k : ℕ). suc k) rest.many;
      adds = one_row remainder left.row rest.rows rest.adds;
    })

-- each list that is found adds up
listed : (n : ℕ) (c : Cond) (state : State) (remainder : Row) (list : List Reference) → list_within n c state remainder ≡ Some list → Listed n c state remainder list
listed zero c state remainder list e =
    elim (lead remainder) as (λ (o : Option Term). lead remainder ≡ o → Listed zero c state remainder list) [
      | None ↦ λ f. at_its_end zero c state remainder list f (int_lt remainder.constant (pos 0)) refl (sym (at_end zero c state remainder f) ∙ e)
      | Some t ↦ λ f. let none = sym (none_left c state remainder t f) ∙ e in absurd (cc none)
    ] refl
listed (suc n) c state remainder list e =
    elim (lead remainder) as (λ (o : Option Term). lead remainder ≡ o → Listed (suc n) c state remainder list) [
      | None ↦ λ f. at_its_end (suc n) c state remainder list f (int_lt remainder.constant (pos 0)) refl (sym (at_end (suc n) c state remainder f) ∙ e)
      | Some t ↦ λ f. begins c state n (Some t) remainder list (listed n c state) (sym (one_more n c state remainder t f) ∙ e)
    ] refl

-- numbered uses are of rows that are there
numbered : (k n : ℕ) (list : List Reference) → k + length list ≤ n → All (λ u. u.row < n) (row_uses k (map once list))
numbered k n [] h = All-nil (λ (u : StepUse). u.row < n)
numbered k n (r ∷ list) h =
    let less : suc k + length list ≤ n = omega arith in
    All-cons (λ (u : StepUse). u.row < n) (record { row = k; times = 1 }) (row_uses (suc k) (map once list)) (omega arith) (numbered (suc k) n list less)

one_times : (n : ℤ) → pos 1 *ℤ n ≡ n
one_times n = omega (arith, ints, product_is (pos 1) n)

-- rows that are used once each, in their order, are added up
summed_once : (column : _) (rows rest : List Row) (k : ℕ) (list : List Reference) → ((i : ℕ) → row_at rows (k + i) ≡ row_at rest i) → length rest ≡ length list
    → summed rows column (row_uses k (map once list)) ≡ total (entry column) rest
summed_once column rows [] k [] h e = refl
summed_once column rows [] k (r ∷ list) h e = absurd (omega arith)
summed_once column rows (row ∷ rest) k [] h e = absurd (omega arith)
summed_once column rows (row ∷ rest) k (r ∷ list) h e =
    let same : k ≡ k + 0 = omega arith in
    let here : row_at rows k ≡ row = ap (row_at rows) same ∙ h 0 in
    let later : (i : ℕ) → row_at rows (suc k + i) ≡ row_at rest i = λ i. let next : suc k + i ≡ k + suc i = omega arith in ap (row_at rows) next ∙ h (suc i) in
    let fewer : length rest ≡ length list = omega arith in
    ap (λ (n : ℤ). n +ℤ summed rows column (row_uses (suc k) (map once list))) (one_times (entry column (row_at rows k)) ∙ ap (entry column) here)
    ∙ ap (λ (n : ℤ). entry column row +ℤ n) (summed_once column rows rest (suc k) list later fewer)

-- the uses of a proof that takes each reference once
abbrev pub step_of : List Reference → Step
step_of list = record { uses = row_uses 0 (map once list); divisor = 1 }

summed_all : (column : _) (rows : List Row) (list : List Reference) → length rows ≡ length list
    → summed rows column (row_uses 0 (map once list)) ≡ total (entry column) rows
summed_all column rows list many =
    summed_once column rows rows 0 list (λ i. let same : 0 + i ≡ i = omega arith in ap (row_at rows) same) many

-- what is left over in a column
constant_left : (column : _) (rows : List Row) (goal : Row) (list : List Reference) → length rows ≡ length list
    → total (entry column) rows ≤ℤ entry column goal → neg_ℤ (pos 1) <ℤ left_over rows (step_of list) goal column
constant_left column rows goal list many h = omega (arith, ints, one_times (entry column goal), summed_all column rows list many, h)

none_over : (column : _) (rows : List Row) (goal : Row) (list : List Reference) → length rows ≡ length list
    → entry column goal ≡ total (entry column) rows → left_over rows (step_of list) goal column ≡ pos 0
none_over column rows goal list many h = omega (arith, ints, one_times (entry column goal), summed_all column rows list many, h)

-- a list that adds up is a proof
proves : (n : ℕ) (c : Cond) (state : State) (goal : Row) (list : List Reference) → Listed n c state goal list → shows c state (proof_of list) goal ≡ true
proves n c state goal list h =
    ap (λ (o : Option (List Row)). option_map_or (λ rows. follows rows (step_of list) goal) o false) h.said
    ∙ then_follows h.rows (step_of list) goal
    (record {
      divisor = omega arith;
      in_range = let many = h.many in numbered 0 (length h.rows) list (omega arith);
      constant = search (constant_left, h.many, h.adds.constant);
      terms = λ t. search (none_over, h.many, h.adds.terms t);
    })

-- what is found shows what is wanted, by few references
pub record Shown (c : Cond) (state : State) (goal : Row) (proof : Proof) : Type 0 where
  pub few : length proof.uses ≤ MOST_REFERENCES
  pub shows : shows c state proof goal ≡ true

once_length : (list : List Reference) → length (map once list) ≡ length list
once_length [] = refl
once_length (r ∷ list) = ap (λ (n : ℕ). suc n) (once_length list)

shown_where : (c : Cond) (state : State) (goal : Row) (found : Option (List Reference))
    → ((list : List Reference) → found ≡ Some list → Listed MOST_REFERENCES c state goal list) → IfSome (option_map proof_of found) (Shown c state goal)
shown_where c state goal None h = tt
shown_where c state goal (Some list) h =
    let listed = h list refl in
    let few = listed.few in
    record { few = omega (arith, once_length list); shows = proves MOST_REFERENCES c state goal list listed }

straight_shown : (c : Cond) (state : State) (goal : Row) → IfSome (straight_proof c state goal) (Shown c state goal)
straight_shown c state goal = shown_where c state goal (list_within MOST_REFERENCES c state goal) (listed MOST_REFERENCES c state goal)

drop_shown : (c : Cond) (state : State) → IfSome (drop_proof c state) (Shown c state absurdity)
drop_shown c state = shown_where c state absurdity (drop_list c state) (λ list. begins c state 7 None absurdity list (listed 7 c state))

-- what holds of each proof that is found holds of what is found
along : {E : Type 0} (P : Proof → Type 0) (wanted : Option Proof) → IfSome wanted P → (r : Result (Option Proof) E) → IfOk r (λ found. found ≡ wanted) → IfOk r (λ found. IfSome found P)
along P wanted h (Ok found) e = subst (λ (o : Option Proof). IfSome o P) (sym e) h
along P wanted h (Err fault) e = tt

part_of : {E : Type 0} (P Q : Proof → Type 0) → ((proof : Proof) → P proof → Q proof) → (r : Result (Option Proof) E) → IfOk r (λ found. IfSome found P) → IfOk r (λ found. IfSome found Q)
part_of P Q f (Ok (Some proof)) h = f proof h
part_of P Q f (Ok None) h = tt
part_of P Q f (Err fault) h = tt

pub straight_shows : {E : Type 0} (c : Cond) (state : State) (goal : Row) (r : Result (Option Proof) E) → IfOk r (λ found. found ≡ straight_proof c state goal)
    → IfOk r (λ found. IfSome found (λ proof. shows c state proof goal ≡ true))
straight_shows c state goal r e =
    part_of (Shown c state goal) (λ proof. shows c state proof goal ≡ true) (λ proof h. h.shows) r (along (Shown c state goal) (straight_proof c state goal) (straight_shown c state goal) r e)

pub straight_is_short : {E : Type 0} (c : Cond) (state : State) (goal : Row) (r : Result (Option Proof) E) → IfOk r (λ found. found ≡ straight_proof c state goal)
    → IfOk r (λ found. IfSome found (λ proof. length proof.uses ≤ MOST_REFERENCES))
straight_is_short c state goal r e =
    part_of (Shown c state goal) (λ proof. length proof.uses ≤ MOST_REFERENCES) (λ proof h. h.few) r (along (Shown c state goal) (straight_proof c state goal) (straight_shown c state goal) r e)

pub drop_shows : {E : Type 0} (c : Cond) (state : State) (r : Result (Option Proof) E) → IfOk r (λ found. found ≡ drop_proof c state)
    → IfOk r (λ found. IfSome found (λ proof. shows c state proof absurdity ≡ true))
drop_shows c state r e =
    part_of (Shown c state absurdity) (λ proof. shows c state proof absurdity ≡ true) (λ proof h. h.shows) r (along (Shown c state absurdity) (drop_proof c state) (drop_shown c state) r e)

pub drop_is_short : {E : Type 0} (c : Cond) (state : State) (r : Result (Option Proof) E) → IfOk r (λ found. found ≡ drop_proof c state)
    → IfOk r (λ found. IfSome found (λ proof. length proof.uses ≤ MOST_REFERENCES))
drop_is_short c state r e =
    part_of (Shown c state absurdity) (λ proof. length proof.uses ≤ MOST_REFERENCES) (λ proof h. h.few) r (along (Shown c state absurdity) (drop_proof c state) (drop_shown c state) r e)
