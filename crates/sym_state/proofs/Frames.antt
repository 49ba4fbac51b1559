-- What a state says stays where an assignment agrees with another, and a new symbol is added.
use Rattle.std.proofs.Common.{◌≡◌, ℕ, suc, ◌<◌, Bool, true, false, cond, nat_eq, List, [], ◌∷◌, ◌++◌, map, reverse, Some, refl, sym, ap, subst, ◌∙◌, arith}
use Rattle.std.specs.Prelude.{ℤ, ◌+ℤ◌, ◌*ℤ◌, ◌≤ℤ◌, pos}
use Rattle.std.specs.List.{All, AllByRecursion}
use Rattle.std.proofs.lemmas.Bool.Decides.{nat_tests}
use Rattle.std.proofs.lemmas.List.{reverse-append}
use Rattle.std.proofs.lemmas.List.Elements.{All-append, All-cons, All-head, All-nil, All-same, All-tail}
use Rattle.lin_facts.specs.Rows.{Holds, sum_of}
use Rattle.lin_facts.specs.declared.row.Part.{Part}
use Rattle.lin_facts.specs.declared.row.Row.{Row}
use Rattle.lin_facts.specs.declared.row.Term.{Term}
use Rattle.lin_facts.specs.declared.row.Term.TheVariants.{Value as ValueOf, Length as LengthOf, Names as NamesOf, Pos, Count}
use Rattle.name_table.specs.declared.style.Style.{Style}
use Rattle.bst_meaning.specs.declared.value.Value.{Value}
use Rattle.bst_meaning.specs.Config.{Config}
use Rattle.bst_meaning.specs.Machine.{visited_entry}
use Rattle.sym_state.specs.declared.symbol.Sym.{Sym}
use Rattle.sym_state.specs.declared.symbol.Bind.{Bind}
use Rattle.sym_state.specs.declared.symbol.Fact.{Fact}
use Rattle.sym_state.specs.Facts.{FactHolds, Says, subject}
use Rattle.sym_state.specs.Stands.{IsBound}
use Rattle.sym_state.specs.Symbols.{Agrees, IsValue, Valuation, integer_of, length_of, name_count_of, numbers}
use Rattle.sym_state.specs.WellMade.{IsTermBelow}

-- with one symbol more, which has this value
abbrev pub with_next : ℕ → Value → Valuation → Valuation
with_next next value v = record v { value = λ s. cond (nat_eq s next) value (v.value s) }

below_differs : (s next : ℕ) → s < next → nat_eq s next ≡ false
below_differs s next less = grind (arith, nat_tests)

same_self : (n : ℕ) → nat_eq n n ≡ true
same_self n = grind (arith, nat_tests)

pub next_agrees : (next : ℕ) (value : Value) (v : Valuation) → Agrees next v (with_next next value v)
next_agrees next value v = record {
  value = λ s less. ap (λ (t : Bool). cond t value (v.value s)) (below_differs s next less);
  position = refl;
  count = refl;
}

pub next_is : (next : ℕ) (value : Value) (v : Valuation) → (with_next next value v).value next ≡ value
next_is next value v = ap (λ (t : Bool). cond t value (v.value next)) (same_self next)

pub agrees_self : (next : ℕ) (v : Valuation) → Agrees next v v
agrees_self next v = record { value = λ s less. refl; position = refl; count = refl }

pub agrees_further : (next : ℕ) (u v w : Valuation) → Agrees next u v → Agrees (suc next) v w → Agrees next u w
agrees_further next u v w a b = record {
  value = λ s less. b.value s (omega arith) ∙ a.value s less;
  position = b.position ∙ a.position;
  count = b.count ∙ a.count;
}

pub value_case : (value : Value) (v : Valuation) → IsValue value → ((s : ℕ) → IsValue (v.value s)) → (s : ℕ) (t : Bool) → IsValue (cond t value (v.value s))
value_case value v is all s true = is
value_case value v is all s false = all s

-- terms, rows, facts and bindings on the symbols that were there
pub term_agrees : (next : ℕ) (v w : Valuation) (t : Term) → Agrees next v w → IsTermBelow next t → numbers w t ≡ numbers v t
term_agrees next v w (ValueOf s) a less = ap integer_of (a.value s less)
term_agrees next v w (LengthOf s) a less = ap length_of (a.value s less)
term_agrees next v w (NamesOf s) a less = ap name_count_of (a.value s less)
term_agrees next v w Pos a less = ap pos a.position
term_agrees next v w Count a less = ap pos a.count

sum_agrees : (next : ℕ) (v w : Valuation) (parts : List Part) → Agrees next v w → All (λ part. IsTermBelow next part.term) parts
    → sum_of (numbers w) parts ≡ sum_of (numbers v) parts
sum_agrees next v w [] a all = refl
sum_agrees next v w (part ∷ parts) a all =
    ap (λ (n : ℤ). part.coefficient *ℤ n +ℤ sum_of (numbers w) parts)
    (term_agrees next v w part.term a (All-head (λ part. IsTermBelow next part.term) part parts all))
    ∙ ap (λ (n : ℤ). part.coefficient *ℤ numbers v part.term +ℤ n)
    (sum_agrees next v w parts a (All-tail (λ part. IsTermBelow next part.term) part parts all))

row_agrees : (next : ℕ) (v w : Valuation) (row : Row) → Agrees next v w → All (λ part. IsTermBelow next part.term) row.parts
    → Holds (numbers v) row → Holds (numbers w) row
row_agrees next v w row a all h =
    subst (λ (n : ℤ). pos 0 ≤ℤ (row.constant +ℤ n)) (sym (sum_agrees next v w row.parts a all)) h

pub rows_agree : (next : ℕ) (v w : Valuation) (rows : List Row) → Agrees next v w
    → All (λ row. All (λ part. IsTermBelow next part.term) row.parts) rows
    → AllByRecursion (Holds (numbers v)) rows → AllByRecursion (Holds (numbers w)) rows
rows_agree next v w [] a all h = tt
rows_agree next v w (row ∷ rows) a all h = (
  row_agrees next v w row a (All-head (λ row. All (λ part. IsTermBelow next part.term) row.parts) row rows all) h.0,
  rows_agree next v w rows a (All-tail (λ row. All (λ part. IsTermBelow next part.term) row.parts) row rows all) h.1,
)

pub facts_agree : (style : Style) (next : ℕ) (v w : Valuation) (facts : List Fact) → Agrees next v w → All (λ fact. subject fact < next) facts
    → AllByRecursion (FactHolds style v) facts → AllByRecursion (FactHolds style w) facts
facts_agree style next v w [] a all h = tt
facts_agree style next v w (fact ∷ facts) a all h = (
  subst (Says style fact) (sym (a.value (subject fact) (All-head (λ fact. subject fact < next) fact facts all))) h.0,
  facts_agree style next v w facts a (All-tail (λ fact. subject fact < next) fact facts all) h.1,
)

pub binds_agree : (style : Style) (next : ℕ) (v w : Valuation) (c : Config) (binds : List Bind) → Agrees next v w
    → All (λ bind. bind.sym.0 < next) binds → AllByRecursion (IsBound style v c.globals (visited_entry c)) binds → AllByRecursion (IsBound style w c.globals (visited_entry c)) binds
binds_agree style next v w c [] a all h = tt
binds_agree style next v w c (bind ∷ binds) a all h = (
  h.0 ∙ ap Some (sym (a.value bind.sym.0 (All-head (λ bind. bind.sym.0 < next) bind binds all))),
  binds_agree style next v w c binds a (All-tail (λ bind. bind.sym.0 < next) bind binds all) h.1,
)

-- the values of symbols, in their order
abbrev pub value_list : Valuation → List Sym → List Value
value_list v syms = map (λ s. v.value s.0) syms

pub list_agrees : (next : ℕ) (v w : Valuation) (syms : List Sym) → Agrees next v w → All (λ s. s.0 < next) syms
    → value_list w syms ≡ value_list v syms
list_agrees next v w [] a all = refl
list_agrees next v w (s ∷ syms) a all =
    ap (λ (x : Value). x ∷ value_list w syms) (a.value s.0 (All-head (λ s. s.0 < next) s syms all))
    ∙ ap (λ (l : List Value). v.value s.0 ∷ l) (list_agrees next v w syms a (All-tail (λ s. s.0 < next) s syms all))

-- symbols in the opposite order
pub all_reversed : (next : ℕ) (xs : List Sym) → All (λ s. s.0 < next) xs → All (λ s. s.0 < next) (reverse xs)
all_reversed next [] all = All-nil (λ s. s.0 < next)
all_reversed next (x ∷ xs) all =
    All-same (λ s. s.0 < next) (reverse (x ∷ xs)) (reverse xs ++ x ∷ []) (reverse-append (x ∷ []) xs)
    (All-append (λ s. s.0 < next) (reverse xs) (x ∷ []) (all_reversed next xs (All-tail (λ s. s.0 < next) x xs all))
    (All-cons (λ s. s.0 < next) x [] (All-head (λ s. s.0 < next) x xs all) (All-nil (λ s. s.0 < next))))

-- what holds of two lists holds of both together
pub joined : {X : Type 0} (P : X → Type 0) (xs ys : List X) → AllByRecursion P xs → AllByRecursion P ys → AllByRecursion P (xs ++ ys)
joined P [] ys h more = more
joined P (x ∷ xs) ys h more = (h.0, joined P xs ys h.1 more)
