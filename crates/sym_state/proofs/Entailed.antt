-- Where a state entails a piece, the piece holds of what the state stands for.
use Rattle.std.proofs.Common.{◌≡◌, ℕ, suc, ◌+◌, ◌-◌, ◌≤◌, Bool, true, false, cond, ap, sym, ◌∙◌, subst, refl, List, [], ◌∷◌, ◌++◌, length, map, reverse, take, drop, arith, nat_eq, nat_lt, slice_get, Option, None, Some, append_assoc}
use Rattle.std.specs.Prelude.{ℤ, ◌+ℤ◌, ◌*ℤ◌, pos, ◌≤ℤ◌}
use Rattle.std.specs.List.{AllByRecursion, list_all, zip}
use Rattle.std.specs.Option.{option_or, option_map_or}
use Rattle.std.proofs.lemmas.Bool.{and_parts}
use Rattle.std.proofs.lemmas.Bool.Decides.{nat_tests}
use Rattle.std.proofs.lemmas.List.{reverse-append, take-append-drop, length-drop, map-append}
use Rattle.lin_facts.specs.Rows.{Holds, sum_of}
use Rattle.lin_facts.specs.declared.row.Term.{Term}
use Rattle.lin_facts.specs.declared.row.Term.TheVariants.{Value as ValueOf, Length as LengthOf, Names as NamesOf, Pos, Count}
use Rattle.lin_facts.specs.declared.row.Part.{Part}
use Rattle.lin_facts.specs.declared.row.Row.{Row}
use Rattle.name_table.specs.declared.names.NameId.{NameId}
use Rattle.name_table.specs.declared.style.Style.{Style}
use Rattle.bst_meaning.specs.declared.condition.Cond.{Cond}
use Rattle.bst_meaning.specs.EntryLists.{EntryList}
use Rattle.bst_meaning.specs.declared.value.Value.{Value}
use Rattle.bst_meaning.specs.Config.{Config}
use Rattle.bst_meaning.specs.Machine.{visited_entry}
use Rattle.bst_meaning.specs.StyleParts.{kind_of}
use Rattle.sym_state.specs.declared.symbol.Sym.{Sym}
use Rattle.sym_state.specs.declared.symbol.Bind.{Bind}
use Rattle.sym_state.specs.declared.piece.Piece.{Piece}
use Rattle.sym_state.specs.declared.proof.Proof.{Proof}
use Rattle.sym_state.specs.State.{State}
use Rattle.sym_state.specs.Changes.{symbol_at}
use Rattle.sym_state.specs.Facts.{FactHolds, subject}
use Rattle.sym_state.specs.Entailing.{agrees, bind_agrees, fact_follows, first_before_rows, first_failing, first_line_failing, first_row_line, first_unentailed, first_unshown, match_of, row_shown, stack_places, under, after_stack}
use Rattle.sym_state.specs.Renaming.{row_renamed, term_renamed, through}
use Rattle.sym_state.specs.Stands.{IsBound, PieceHolds, Satisfies, Stands, value_by, values_of}
use Rattle.sym_state.specs.Symbols.{Valuation, numbers}
use Rattle.sym_state.proofs.Consequences.{known_holds}
use Rattle.sym_state.proofs.Deciding.{same_number}
use Rattle.sym_state.proofs.Shown.{shown_holds}

-- a stack on another
pub values_append : (v : Valuation) (a b : List Sym) → values_of v (a ++ b) ≡ values_of v b ++ values_of v a
values_append v a b =
    ap (λ (s : List Sym). map (λ x. v.value x.0) s) (reverse-append a b) ∙ map-append (λ (x : Sym). v.value x.0) (reverse b) (reverse a)

pub one_more : (v : Valuation) (s : Sym) (stack : List Sym) → values_of v (s ∷ stack) ≡ values_of v stack ++ v.value s.0 ∷ []
one_more v s stack = values_append v (s ∷ []) stack

-- stacks whose symbols agree have the same values
same_values : (v : Valuation) (match : ℕ → ℕ) (stack known : List Sym) → length stack ≡ length known
    → list_all (agrees match) (zip stack known) ≡ true → values_of (through match v) stack ≡ values_of v known
same_values v match [] [] long all = refl
same_values v match [] (t ∷ known) long all = absurd (omega arith)
same_values v match (s ∷ stack) [] long all = absurd (omega arith)
same_values v match (s ∷ stack) (t ∷ known) long all =
    let both = and_parts (nat_eq (match s.0) t.0) (list_all (agrees match) (zip stack known)) all in
    one_more (through match v) s stack
    ∙ ap (λ (values : List Value). values ++ v.value (match s.0) ∷ []) (same_values v match stack known (omega arith) both.1)
    ∙ ap (λ (n : ℕ). values_of v known ++ v.value n ∷ []) (same_number (match s.0) t.0 both.0)
    ∙ sym (one_more v t known)

stack_holds : (v : Valuation) (match : ℕ → ℕ) (known stack : List Sym) (below literal : List Value) → length stack ≤ length known
    → list_all (agrees match) (stack_places known stack) ≡ true → literal ≡ values_of v known ++ below
    → literal ≡ values_of (through match v) stack ++ (values_of v (take (length known - length stack) known) ++ below)
stack_holds v match known stack below literal few all is =
    let n : ℕ = length known - length stack in
    let top = drop n known in
    let long : length stack ≡ length top = let l = length-drop n known in omega arith in
    is
    ∙ ap (λ (values : List Value). values ++ below)
    (ap (λ (s : List Sym). values_of v s) (sym (take-append-drop n known))
    ∙ values_append v (take n known) top
    ∙ ap (λ (values : List Value). values ++ values_of v (take n known)) (sym (same_values v match stack top long all)))
    ∙ append_assoc (values_of (through match v) stack) (values_of v (take n known)) below

-- a name that the state binds has the value of its symbol
pub found_value : (style : Style) (v : Valuation) (c : Config) (name : NameId) (known : List Bind) (there : Sym)
    → AllByRecursion (IsBound style v c.globals (visited_entry c)) known → symbol_at name known ≡ Some there → value_by (kind_of style name) name c.globals (visited_entry c) ≡ Some (v.value there.0)
found_value style v c name [] there all e = absurd (cc)
found_value style v c name (b ∷ known) there all e =
    elim (nat_eq b.name.0 name.0) as (λ t. nat_eq b.name.0 name.0 ≡ t → cond t (Some b.sym) (symbol_at name known) ≡ Some there → value_by (kind_of style name) name c.globals (visited_entry c) ≡ Some (v.value there.0)) [
      | true ↦ λ here found.
          let same : b.sym ≡ there = cc in
          subst (λ (s : Sym). value_by (kind_of style name) name c.globals (visited_entry c) ≡ Some (v.value s.0)) same
          (subst (λ (n : ℕ). let id : NameId = record { 0 = n } in value_by (kind_of style id) id c.globals (visited_entry c) ≡ Some (v.value b.sym.0)) (same_number b.name.0 name.0 here) all.0)
      | false ↦ λ here found. found_value style v c name known there all.1 found
    ] refl e

bind_holds : (style : Style) (v : Valuation) (c : Config) (match : ℕ → ℕ) (known : List Bind) (b : Bind)
    → AllByRecursion (IsBound style v c.globals (visited_entry c)) known → bind_agrees match known b ≡ true → IsBound style (through match v) c.globals (visited_entry c) b
bind_holds style v c match known b all e =
    elim (symbol_at b.name known) as (λ (o : Option Sym). symbol_at b.name known ≡ o → option_map_or (λ there. agrees match (b.sym, there)) o false ≡ true → IsBound style (through match v) c.globals (visited_entry c) b) [
      | Some there ↦ λ is found.
          found_value style v c b.name known there all is ∙ ap (λ (n : ℕ). Some (v.value n)) (sym (same_number (match b.sym.0) there.0 found))
      | None ↦ λ is found. absurd (cc)
    ] refl e

-- where no line fails, each passes
none_fails : {X : Type 0} (P : X → Type 0) (test : X → Bool) (line : ℕ) (xs : List X) → ((x : X) → test x ≡ true → P x)
    → first_failing test line xs ≡ None → AllByRecursion P xs
none_fails P test line [] holds e = tt
none_fails P test line (x ∷ xs) holds e =
    elim (test x) as (λ t. test x ≡ t → cond t (first_failing test (suc line) xs) (Some line) ≡ None → P x × AllByRecursion P xs) [
      | true ↦ λ is rest. (holds x is, none_fails P test (suc line) xs holds rest)
      | false ↦ λ is rest. absurd (cc)
    ] refl e

-- a renamed term has the number that the term has by the assignment through the names
same_number_of : (v : Valuation) (name : ℕ → ℕ) (t : Term) → numbers v (term_renamed name t) ≡ numbers (through name v) t
same_number_of v name (ValueOf s) = refl
same_number_of v name (LengthOf s) = refl
same_number_of v name (NamesOf s) = refl
same_number_of v name Pos = refl
same_number_of v name Count = refl

same_sum : (v : Valuation) (name : ℕ → ℕ) (parts : List Part)
    → sum_of (numbers v) (map (λ part. record { coefficient = part.coefficient; term = term_renamed name part.term }) parts) ≡ sum_of (numbers (through name v)) parts
same_sum v name [] = refl
same_sum v name (part ∷ parts) =
    ap (λ (n : ℤ). part.coefficient *ℤ n +ℤ sum_of (numbers v) (map (λ p. record { coefficient = p.coefficient; term = term_renamed name p.term }) parts)) (same_number_of v name part.term)
    ∙ ap (λ (n : ℤ). part.coefficient *ℤ numbers (through name v) part.term +ℤ n) (same_sum v name parts)

pub through_row : (v : Valuation) (name : ℕ → ℕ) (row : Row) → Holds (numbers v) (row_renamed name row) → Holds (numbers (through name v)) row
through_row v name row h = subst (λ (n : ℤ). pos 0 ≤ℤ n) (ap (λ (n : ℤ). row.constant +ℤ n) (same_sum v name row.parts)) h

rows_hold : (style : Style) (admits : Cond) (v : Valuation) (state : State) (match : ℕ → ℕ) (line : ℕ) (rows : List Row) (proofs : List Proof)
    → Satisfies style admits v state → first_unshown match admits state line rows proofs ≡ None → AllByRecursion (Holds (numbers (through match v))) rows
rows_hold style admits v state match line [] proofs h e = tt
rows_hold style admits v state match line (row ∷ rows) proofs h e =
    elim (row_shown match admits state row (slice_get proofs 0)) as (λ t. row_shown match admits state row (slice_get proofs 0) ≡ t
    → cond t (first_unshown match admits state (suc line) rows (drop 1 proofs)) (Some line) ≡ None → AllByRecursion (Holds (numbers (through match v))) (row ∷ rows)) [
      | true ↦ λ is rest. (shown_row (slice_get proofs 0) is, rows_hold style admits v state match (suc line) rows (drop 1 proofs) h rest)
      | false ↦ λ is rest. absurd (cc)
    ] refl e
  where
    shown_row : (proof : Option Proof) → row_shown match admits state row proof ≡ true → Holds (numbers (through match v)) row
    shown_row (Some proof) is = through_row v match row (shown_holds style admits v state proof (row_renamed match row) h is)
    shown_row None is = absurd (cc)

-- the first of two answers, and the second
neither : {X : Type 0} (a b : Option X) → option_or a b ≡ None → (a ≡ None) × (b ≡ None)
neither (Some x) b e = absurd (cc)
neither None b e = (refl, e)

passed : (test : Bool) (line : ℕ) → cond test None (Some line) ≡ None → test ≡ true
passed true line e = refl
passed false line e = absurd (cc)

-- what holds of a state where no line of a piece before the rows fails under a match
pub record LinesPass (match : ℕ → ℕ) (state : State) (piece : Piece) : Type 0 where
  pub stack : list_all (agrees match) (stack_places state.stack piece.stack) ≡ true
  pub vars : first_failing (bind_agrees match state.vars) (after_stack piece.stack) piece.vars ≡ None
  pub fields : first_failing (bind_agrees match state.fields) (after_stack piece.stack + length piece.vars) piece.fields ≡ None
  pub facts : first_failing (fact_follows match state.facts) (after_stack piece.stack + length piece.vars + length piece.fields) piece.facts ≡ None

pub lines_pass : (match : ℕ → ℕ) (state : State) (piece : Piece) → first_before_rows match state piece ≡ None → LinesPass match state piece
lines_pass match state piece none =
    let a = neither _ _ none in
    let b = neither _ _ a.1 in
    let d = neither _ _ b.1 in
    record {
      stack = passed (list_all (agrees match) (stack_places state.stack piece.stack)) 1 a.0;
      vars = b.0;
      fields = d.0;
      facts = d.1;
    }

-- where no line before the rows fails and the rows hold, the piece holds
pub lines_hold : (style : Style) (admits : Cond) (list : EntryList) (v : Valuation) (state : State) (c : Config) (below : List Value)
    (piece : Piece) (match : ℕ → ℕ) → length piece.stack ≤ length state.stack → first_before_rows match state piece ≡ None
    → AllByRecursion (Holds (numbers (through match v))) piece.rows → Stands style admits list v state c below
    → PieceHolds style (through match v) piece c (values_of v (under state piece) ++ below)
lines_hold style admits list v state c below piece match few none rows stands =
    let vars = after_stack piece.stack in
    let fields = vars + length piece.vars in
    let facts = fields + length piece.fields in
    let lines = lines_pass match state piece none in
    record {
      stack = stack_holds v match state.stack piece.stack below c.stack few lines.stack stands.stack;
      met = record {
        vars = none_fails (IsBound style (through match v) c.globals (visited_entry c)) (bind_agrees match state.vars) vars piece.vars
            (λ bind is. bind_holds style v c match state.vars bind stands.vars is) lines.vars;
        fields = none_fails (IsBound style (through match v) c.globals (visited_entry c)) (bind_agrees match state.fields) fields piece.fields
            (λ bind is. bind_holds style v c match state.fields bind stands.fields is) lines.fields;
        facts = none_fails (FactHolds style (through match v)) (fact_follows match state.facts) facts piece.facts
            (λ fact is. known_holds style v (match (subject fact)) state.facts fact stands.satisfied.facts is) lines.facts;
        rows = rows;
      };
    }

pub entailed : (style : Style) (admits : Cond) (list : EntryList) (v : Valuation) (state : State) (c : Config) (below : List Value)
    (piece : Piece) (match : ℕ → ℕ) (proofs : List Proof) → length piece.stack ≤ length state.stack
    → first_line_failing match admits state piece proofs ≡ None → Stands style admits list v state c below
    → PieceHolds style (through match v) piece c (values_of v (under state piece) ++ below)
entailed style admits list v state c below piece match proofs few none stands =
    let both = neither _ _ none in
    lines_hold style admits list v state c below piece match few both.0
    (rows_hold style admits v state match (first_row_line piece) piece.rows proofs stands.satisfied both.1) stands

-- the same where no line of the piece fails under its match
pub unentailed_none : (style : Style) (admits : Cond) (list : EntryList) (v : Valuation) (state : State) (c : Config) (below : List Value)
    (piece : Piece) (kept : ℕ) (proofs : List Proof) → first_unentailed state admits piece kept proofs ≡ None
    → Stands style admits list v state c below
    → PieceHolds style (through (match_of state piece kept) v) piece c (values_of v (under state piece) ++ below)
unentailed_none style admits list v state c below piece kept proofs none stands =
    let match : ℕ → ℕ = match_of state piece kept in
    elim (nat_lt (length state.stack) (length piece.stack)) as (λ (t : Bool). nat_lt (length state.stack) (length piece.stack) ≡ t
    → cond t (Some 0) (first_line_failing match admits state piece proofs) ≡ None
    → PieceHolds style (through match v) piece c (values_of v (under state piece) ++ below)) [
      | true ↦ λ is found. absurd (cc)
      | false ↦ λ is found.
          let few : length piece.stack ≤ length state.stack = grind (arith, nat_tests) in
          entailed style admits list v state c below piece match proofs few found stands
    ] refl none
