-- A state with further facts and rows, or with a new symbol, is well made if what is added fits.
use Rattle.std.proofs.Common.{◌≡◌, ℕ, ◌<◌, ◌≤◌, ◌+◌, ◌^◌, Bool, true, false, cond, List, [], ◌∷◌, ◌++◌, reverse, refl, sym, subst, Result, Ok, Err, OnOk, OnErr, arith}
use Rattle.std.specs.Prelude.{ℤ, pos, negsuc, neg_ℤ, ◌+ℤ◌}
use Rattle.std.specs.List.{All}
use Rattle.std.specs.Ordering.{int_eq}
use Rattle.std.proofs.lemmas.Int.{ints}
use Rattle.std.proofs.lemmas.List.{append-nil}
use Rattle.std.proofs.lemmas.List.Elements.{All-append, All-cons, All-head, All-nil, All-push, All-same, All-tail, All-weaker}
use Rattle.lin_facts.specs.Rows.{IsWithin, same_term}
use Rattle.lin_facts.specs.declared.row.Part.{Part}
use Rattle.lin_facts.specs.declared.row.Row.{Row}
use Rattle.lin_facts.specs.declared.row.Term.{Term}
use Rattle.lin_facts.specs.declared.row.Term.TheVariants.{Value, Length, Names}
use Rattle.name_table.specs.declared.names.NameId.{NameId}
use Rattle.name_table.specs.declared.style.Style.{Style}
use Rattle.sym_state.specs.State.{State}
use Rattle.sym_state.specs.declared.symbol.Bind.{Bind}
use Rattle.sym_state.specs.declared.symbol.Fact.{Fact}
use Rattle.sym_state.specs.declared.symbol.Fact.TheVariants.{Is}
use Rattle.sym_state.specs.declared.symbol.Kinds.{Kinds}
use Rattle.sym_state.specs.declared.symbol.Kinds.TheVariants.{Int, Str, Missing, Optional, Func, Any}
use Rattle.sym_state.specs.declared.symbol.Sym.{Sym}
use Rattle.sym_state.specs.Changes.{kind_facts, rebound, with_bind, with_fresh}
use Rattle.sym_state.specs.Facts.{subject}
use Rattle.sym_state.specs.Fitting.{FactFits, RowFits}
use Rattle.sym_state.specs.References.{at_least, at_most, exceeds}
use Rattle.sym_state.specs.Results.{and_part, kept_part, next_of, part, sum_of_three, sum_of_two, with_result, with_symbol, with_top}
use Rattle.sym_state.specs.WellMade.{HasBounds, HasByteText, HasShortText, HasSmallInteger, IsBounded, IsOfStyle, IsTermBelow, WellMade, size}
use Rattle.sym_state.proofs.Rebound.{bind_kept}
use Rattle.sym_state.proofs.Bounds.{within_size}
use Rattle.sym_state.proofs.Making.{RowBelow}
use Rattle.sym_state.proofs.Frames.{all_reversed}
use Rattle.sym_state.proofs.Pushing.{without}
use Rattle.sym_state.proofs.Sums.{three_bounded, two_bounded}

-- facts and rows that fit
pub record Fits (style : Style) (next : ℕ) (more : List Fact) (shown : List Row) : Type 0 where
  pub facts : All (FactFits style next) more
  pub rows : All (RowFits next) shown

pub nothing_fits : (style : Style) (next : ℕ) → Fits style next [] []
nothing_fits style next = record { facts = All-nil (FactFits style next); rows = All-nil (RowFits next) }

pub one_fits : (style : Style) (next : ℕ) (fact : Fact) → subject fact < next → IsOfStyle style fact → HasSmallInteger fact
    → HasByteText fact → HasShortText fact → Fits style next (fact ∷ []) []
one_fits style next fact below of_style integer bytes short = record {
  facts = All-cons (FactFits style next) fact [] (record { below = below; of_style = of_style; integer = integer; bytes = bytes; short = short })
      (All-nil (FactFits style next));
  rows = All-nil (RowFits next);
}

pub row_fits : (style : Style) (next : ℕ) (row : Row) → RowFits next row → Fits style next [] (row ∷ [])
row_fits style next row fits =
    record { facts = All-nil (FactFits style next); rows = All-cons (RowFits next) row [] fits (All-nil (RowFits next)) }

pub both_fit : (style : Style) (next : ℕ) (facts others : List Fact) (rows more : List Row) → Fits style next facts rows → Fits style next others more
    → Fits style next (facts ++ others) (rows ++ more)
both_fit style next facts others rows more f g = record {
  facts = All-append (FactFits style next) facts others f.facts g.facts;
  rows = All-append (RowFits next) rows more f.rows g.rows;
}

pub rows_fit : (style : Style) (next : ℕ) (first second : Row) → RowFits next first → RowFits next second → Fits style next [] (first ∷ (second ∷ []))
rows_fit style next first second f s =
    both_fit style next [] [] (first ∷ []) (second ∷ []) (row_fits style next first f) (row_fits style next second s)

-- what is below a number is below a greater one
term_raised : (m n : ℕ) (t : Term) → m ≤ n → IsTermBelow m t → IsTermBelow n t
term_raised m n (Value s) more h = omega arith
term_raised m n (Length s) more h = omega arith
term_raised m n (Names s) more h = omega arith
term_raised m n _ more h = tt

row_raised : (m n : ℕ) (row : Row) → m ≤ n → RowBelow m row → RowBelow n row
row_raised m n row more h =
    All-weaker (λ (p : Part). IsTermBelow m p.term) (λ (p : Part). IsTermBelow n p.term) (λ p below. term_raised m n p.term more below) row.parts h

-- further facts and rows, and a number that isn't less
pub more_made : (style : Style) (state : State) (n : ℕ) (facts : List Fact) (rows : List Row) → WellMade style state → state.next ≤ n
    → Fits style n facts rows → WellMade style (record state { facts = state.facts ++ facts; rows = state.rows ++ rows; next = n })
more_made style state n facts rows made more fits = record {
  stack = All-weaker (λ (s : Sym). s.0 < state.next) (λ (s : Sym). s.0 < n) (λ s h. omega arith) state.stack made.stack;
  vars = All-weaker (λ (bind : Bind). bind.sym.0 < state.next) (λ (bind : Bind). bind.sym.0 < n) (λ bind h. omega arith) state.vars made.vars;
  fields = All-weaker (λ (bind : Bind). bind.sym.0 < state.next) (λ (bind : Bind). bind.sym.0 < n) (λ bind h. omega arith) state.fields made.fields;
  facts = All-append (λ (fact : Fact). subject fact < n) state.facts facts
      (All-weaker (λ (fact : Fact). subject fact < state.next) (λ (fact : Fact). subject fact < n) (λ fact h. omega arith) state.facts made.facts)
      (All-weaker (FactFits style n) (λ (fact : Fact). subject fact < n) (λ fact h. h.below) facts fits.facts);
  rows = All-append (RowBelow n) state.rows rows
      (All-weaker (RowBelow state.next) (RowBelow n) (λ row h. row_raised state.next n row more h) state.rows made.rows)
      (All-weaker (RowFits n) (RowBelow n) (λ row h. h.below) rows fits.rows);
  binds_vars = made.binds_vars;
  binds_fields = made.binds_fields;
  of_style = All-append (IsOfStyle style) state.facts facts made.of_style
      (All-weaker (FactFits style n) (IsOfStyle style) (λ fact h. h.of_style) facts fits.facts);
  integers = All-append HasSmallInteger state.facts facts made.integers
      (All-weaker (FactFits style n) HasSmallInteger (λ fact h. h.integer) facts fits.facts);
  bytes = All-append HasByteText state.facts facts made.bytes
      (All-weaker (FactFits style n) HasByteText (λ fact h. h.bytes) facts fits.facts);
  bounds = record {
    facts = All-append HasShortText state.facts facts made.bounds.facts (All-weaker (FactFits style n) HasShortText (λ fact h. h.short) facts fits.facts);
    rows = All-append IsBounded state.rows rows made.bounds.rows (All-weaker (RowFits n) IsBounded (λ row h. h.bounded) rows fits.rows);
  };
}

-- a new symbol
kind_fits : (style : Style) (next : ℕ) (s : Sym) (kind : Kinds) → s.0 < next → Fits style next (kind_facts s kind) []
kind_fits style next s Int below = one_fits style next (Is s Int) below tt tt tt tt
kind_fits style next s Str below = one_fits style next (Is s Str) below tt tt tt tt
kind_fits style next s Missing below = one_fits style next (Is s Missing) below tt tt tt tt
kind_fits style next s Optional below = one_fits style next (Is s Optional) below tt tt tt tt
kind_fits style next s Func below = one_fits style next (Is s Func) below tt tt tt tt
kind_fits style next s Any below = nothing_fits style next

-- a new symbol with the fact of its kind alone
pub fresh_made : (style : Style) (state : State) (kind : Kinds) → WellMade style state → WellMade style (with_fresh kind state)
fresh_made style state kind made =
    let n = state.next + 1 in
    let facts = kind_facts (next_of state) kind in
    subst (λ (rows : List Row). WellMade style (record state { facts = state.facts ++ facts; rows = rows; next = n })) (append-nil state.rows)
    (more_made style state n facts [] made (omega arith) (kind_fits style n (next_of state) kind (omega arith)))

pub symbol_made : (style : Style) (state : State) (kind : Kinds) (facts : List Fact) (rows : List Row) → WellMade style state
    → Fits style (state.next + 1) facts rows → WellMade style (with_symbol kind facts rows state)
symbol_made style state kind facts rows made fits =
    let n = state.next + 1 in
    more_made style state n (kind_facts (next_of state) kind ++ facts) rows made (omega arith)
    (both_fit style n (kind_facts (next_of state) kind) facts [] rows (kind_fits style n (next_of state) kind (omega arith)) fits)

-- the same where the facts are as they have to be
pub fresh_facts : (style : Style) (state : State) (kind : Kinds) (facts : List Fact) → facts ≡ state.facts ++ kind_facts (next_of state) kind
    → WellMade style state → WellMade style (record state { facts = facts; next = state.next + 1 })
fresh_facts style state kind facts e made =
    subst (λ (all : List Fact). WellMade style (record state { facts = all; next = state.next + 1 })) (sym e) (fresh_made style state kind made)

-- another stack
stack_made : (style : Style) (state : State) (stack : List Sym) → WellMade style state → All (λ s. s.0 < state.next) stack
    → WellMade style (record state { stack = stack })
stack_made style state stack made below = record {
  vars = made.vars;
  fields = made.fields;
  stack = below;
  facts = made.facts;
  rows = made.rows;
  binds_vars = made.binds_vars;
  binds_fields = made.binds_fields;
  of_style = made.of_style;
  integers = made.integers;
  bytes = made.bytes;
  bounds = record { facts = made.bounds.facts; rows = made.bounds.rows };
}

pub top_made : (style : Style) (state : State) (s : Sym) → WellMade style state → s.0 < state.next → WellMade style (with_top s state)
top_made style state s made below =
    stack_made style state (state.stack ++ s ∷ []) made (All-push (λ (x : Sym). x.0 < state.next) state.stack s made.stack below)

pub rest_made : (style : Style) (state : State) (rest : List Sym) → WellMade style state → All (λ s. s.0 < state.next) rest
    → WellMade style (without rest state)
rest_made style state rest made old = stack_made style state (reverse rest) made (all_reversed state.next rest old)

-- a result on top
pub result_made : (style : Style) (state : State) (kind : Kinds) (facts : List Fact) (rows : List Row) → WellMade style state
    → Fits style (state.next + 1) facts rows → WellMade style (with_result kind facts rows state)
result_made style state kind facts rows made fits =
    top_made style (with_symbol kind facts rows state) (next_of state) (symbol_made style state kind facts rows made fits) (omega arith)

-- the stack of a state after a symbol was put on it, or none was
pub push_made : {E : Type 0} (style : Style) (state : State) (s : Sym) (stack : List Sym) (given : Result (Unit {0}) E)
    → OnOk given (stack ≡ state.stack ++ s ∷ []) → OnErr given (stack ≡ state.stack) → WellMade style state → s.0 < state.next
    → WellMade style (record state { stack = stack })
push_made style state s stack (Ok _) pushed same made below =
    subst (λ (all : List Sym). WellMade style (record state { stack = all })) (sym pushed) (top_made style state s made below)
push_made style state s stack (Err _) pushed same made below = subst (λ (all : List Sym). WellMade style (record state { stack = all })) (sym same) made

-- the rows of a state after one was added, or none was
pub row_bounds : {E : Type 0} (state : State) (row : Row) (rows : List Row) (given : Result (Unit {0}) E)
    → OnOk given (rows ≡ state.rows ++ row ∷ []) → IsBounded row → HasBounds state → OnOk given (HasBounds (record state { rows = rows }))
row_bounds state row rows (Ok _) added bounded bounds =
    record { facts = bounds.facts; rows = All-same IsBounded rows _ added (All-push IsBounded state.rows row bounds.rows bounded) }
row_bounds state row rows (Err _) added bounded bounds = tt

-- a state with the facts and rows of a case has bounds where all have
pub case_bounds : (state : State) (facts : List Fact) (rows : List Row) → HasBounds state → All HasShortText facts → All IsBounded rows
    → HasBounds (record state { facts = state.facts ++ facts; rows = state.rows ++ rows })
case_bounds state facts rows bounds short bounded = record {
  facts = All-append HasShortText state.facts facts bounds.facts short;
  rows = All-append IsBounded state.rows rows bounds.rows bounded;
}

-- another binding
pub bind_made : (style : Style) (state : State) (name : NameId) (s : Sym) → WellMade style state → s.0 < state.next → WellMade style (with_bind name s state)
bind_made style state name s made below =
    bind_kept style name s state (rebound name s state.vars) (rebound name s state.fields) refl refl made below

-- rows of one term and of two
abbrev PartsBelow : ℕ → List Part → Type 0
PartsBelow next parts = All (λ (p : Part). IsTermBelow next p.term) parts

part_below : (next : ℕ) (p : Part) (parts : List Part) → IsTermBelow next p.term → PartsBelow next parts → PartsBelow next (p ∷ parts)
part_below next p parts below others = All-cons (λ (q : Part). IsTermBelow next q.term) p parts below others

none_below : (next : ℕ) → PartsBelow next []
none_below next = All-nil (λ (p : Part). IsTermBelow next p.term)

negated : (n : ℤ) → size n ≤ 2 ^ 45 → IsWithin (2 ^ 45) (neg_ℤ n)
negated n h = let w = within_size (2 ^ 45) n h in record { low = omega (arith, ints, w.low, w.high); high = omega (arith, ints, w.low, w.high) }

pub at_least_fits : (next : ℕ) (t : Term) (n : ℤ) → IsTermBelow next t → size n ≤ 2 ^ 45 → RowFits next (at_least t n)
at_least_fits next t n below few = record {
  below = part_below next (part (pos 1) t) [] below (none_below next);
  bounded = record { parts = omega arith; constant = negated n few; coefficients = omega arith };
}

pub at_most_fits : (next : ℕ) (t : Term) (n : ℤ) → IsTermBelow next t → size n ≤ 2 ^ 45 → RowFits next (at_most t n)
at_most_fits next t n below few = record {
  below = part_below next (part (negsuc 0) t) [] below (none_below next);
  bounded = record { parts = omega arith; constant = within_size (2 ^ 45) n few; coefficients = omega arith };
}

pub exceeds_fits : (next : ℕ) (t u : Term) (n : ℤ) → IsTermBelow next t → IsTermBelow next u → size n ≤ 2 ^ 45 → RowFits next (exceeds t u n)
exceeds_fits next t u n below others few = record {
  below = part_below next (part (pos 1) t) (part (negsuc 0) u ∷ []) below (part_below next (part (negsuc 0) u) [] others (none_below next));
  bounded = record { parts = omega arith; constant = negated n few; coefficients = omega arith };
}

-- sums
kept_below : (next : ℕ) (n : ℤ) (t : Term) (parts : List Part) → IsTermBelow next t → PartsBelow next parts → PartsBelow next (kept_part n t parts)
kept_below next n t parts below others =
    elim (int_eq n (pos 0)) as (λ (z : Bool). PartsBelow next (cond z parts (part n t ∷ parts))) [
      | true ↦ others
      | false ↦ part_below next (part n t) parts below others
    ]

and_below : (next : ℕ) (n : ℤ) (t : Term) (parts : List Part) → IsTermBelow next t → PartsBelow next parts → PartsBelow next (and_part n t parts)
and_below next n t [] below others = kept_below next n t [] below others
and_below next n t (first ∷ parts) below others =
    let rest = All-tail (λ (p : Part). IsTermBelow next p.term) first parts others in
    let head = All-head (λ (p : Part). IsTermBelow next p.term) first parts others in
    elim (same_term first.term t) as (λ (z : Bool). PartsBelow next (cond z (kept_part (n +ℤ first.coefficient) t parts) (first ∷ and_part n t parts))) [
      | true ↦ kept_below next (n +ℤ first.coefficient) t parts below rest
      | false ↦ part_below next first (and_part n t parts) head (and_below next n t parts below rest)
    ]

pub two_fits : (next : ℕ) (constant m : ℤ) (s : Term) (n : ℤ) (t : Term) → IsTermBelow next s → IsTermBelow next t
    → size constant ≤ 2 ^ 45 → size m ≤ 2 ^ 40 → size n ≤ 2 ^ 40 → RowFits next (sum_of_two constant m s n t)
two_fits next constant m s n t first second bound few others = record {
  below = and_below next n t (kept_part m s []) second (kept_below next m s [] first (none_below next));
  bounded = two_bounded constant m s n t (within_size (2 ^ 45) constant bound) (within_size (2 ^ 40) m few) (within_size (2 ^ 40) n others);
}

pub three_fits : (next : ℕ) (constant l : ℤ) (r : Term) (m : ℤ) (s : Term) (n : ℤ) (t : Term) → IsTermBelow next r → IsTermBelow next s → IsTermBelow next t
    → size constant ≤ 2 ^ 45 → size l ≤ 2 ^ 40 → size m ≤ 2 ^ 40 → size n ≤ 2 ^ 40 → RowFits next (sum_of_three constant l r m s n t)
three_fits next constant l r m s n t new first second bound one two three = record {
  below = and_below next n t (and_part m s (kept_part l r [])) second
      (and_below next m s (kept_part l r []) first (kept_below next l r [] new (none_below next)));
  bounded = three_bounded constant l r m s n t (within_size (2 ^ 45) constant bound)
      (within_size (2 ^ 40) l one) (within_size (2 ^ 40) m two) (within_size (2 ^ 40) n three);
}

-- a fact or a row is added, or none is
pub fact_made : {E : Type 0} (style : Style) (state : State) (fact : Fact) (facts : List Fact) (given : Result (Unit {0}) E)
    → OnOk given (facts ≡ state.facts ++ fact ∷ []) → OnErr given (facts ≡ state.facts) → WellMade style state → FactFits style state.next fact
    → WellMade style (record state { facts = facts })
fact_made style state fact facts (Ok _) added same made fits =
    let fit : Fits style state.next (fact ∷ []) [] = record { facts = All-cons (FactFits style state.next) fact [] fits (All-nil (FactFits style state.next)); rows = All-nil (RowFits state.next) } in
    subst (λ (all : List Fact). WellMade style (record state { facts = all })) (sym added)
    (subst (λ (rows : List Row). WellMade style (record state { facts = state.facts ++ fact ∷ []; rows = rows })) (append-nil state.rows)
    (more_made style state state.next (fact ∷ []) [] made (omega arith) fit))
fact_made style state fact facts (Err _) added same made fits =
    subst (λ (all : List Fact). WellMade style (record state { facts = all })) (sym same) made

pub row_made : {E : Type 0} (style : Style) (state : State) (row : Row) (rows : List Row) (given : Result (Unit {0}) E)
    → OnOk given (rows ≡ state.rows ++ row ∷ []) → OnErr given (rows ≡ state.rows) → WellMade style state → RowFits state.next row
    → WellMade style (record state { rows = rows })
row_made style state row rows (Ok _) added same made fits =
    subst (λ (all : List Row). WellMade style (record state { rows = all })) (sym added)
    (subst (λ (facts : List Fact). WellMade style (record state { facts = facts; rows = state.rows ++ row ∷ [] })) (append-nil state.facts)
    (more_made style state state.next [] (row ∷ []) made (omega arith) (row_fits style state.next row fits)))
row_made style state row rows (Err _) added same made fits =
    subst (λ (all : List Row). WellMade style (record state { rows = all })) (sym same) made
