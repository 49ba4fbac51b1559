-- What written variables and the facts and rows of a post say of the state that a summary leaves.
use Rattle.std.proofs.Common.{◌≡◌, ℕ, List, [], ◌∷◌, map, refl, ap, subst, ◌∙◌}
use Rattle.std.specs.Prelude.{ℤ, pos, ◌+ℤ◌, ◌*ℤ◌, ◌≤ℤ◌}
use Rattle.std.specs.List.{AllByRecursion}
use Rattle.lin_facts.specs.Rows.{Holds, sum_of}
use Rattle.lin_facts.specs.declared.row.Part.{Part}
use Rattle.lin_facts.specs.declared.row.Row.{Row}
use Rattle.lin_facts.specs.declared.row.Term.{Term}
use Rattle.lin_facts.specs.declared.row.Term.TheVariants as term
use Rattle.name_table.specs.declared.style.Style.{Style}
use Rattle.sym_state.specs.Facts.{FactHolds}
use Rattle.sym_state.specs.Renaming.{fact_renamed, row_renamed, term_renamed, through}
use Rattle.sym_state.specs.Symbols.{Valuation, numbers}
use Rattle.sym_state.specs.declared.symbol.Fact.{Fact}
use Rattle.sym_state.specs.declared.symbol.Fact.TheVariants as fact

-- a renamed fact holds where the fact does through the names
renamed_fact : (style : Style) (w : Valuation) (name : ℕ → ℕ) (f : Fact) → FactHolds style (through name w) f → FactHolds style w (fact_renamed name f)
renamed_fact style w name (fact.Is s kind) h = h
renamed_fact style w name (fact.Int s n) h = h
renamed_fact style w name (fact.Text s text) h = h
renamed_fact style w name (fact.Call s id) h = h
renamed_fact style w name (fact.Block s number) h = h
renamed_fact style w name (fact.Blank s) h = h
renamed_fact style w name (fact.Nonblank s) h = h
renamed_fact style w name (fact.Wellformed s) h = h

pub renamed_facts : (style : Style) (w : Valuation) (name : ℕ → ℕ) (facts : List Fact) → AllByRecursion (FactHolds style (through name w)) facts
    → AllByRecursion (FactHolds style w) (map (fact_renamed name) facts)
renamed_facts style w name [] all = tt
renamed_facts style w name (f ∷ facts) all = (renamed_fact style w name f all.0, renamed_facts style w name facts all.1)

-- a renamed row holds where the row does through the names
term_through : (w : Valuation) (name : ℕ → ℕ) (t : Term) → numbers (through name w) t ≡ numbers w (term_renamed name t)
term_through w name (term.Value s) = refl
term_through w name (term.Length s) = refl
term_through w name (term.Names s) = refl
term_through w name term.Pos = refl
term_through w name term.Count = refl

sum_through : (w : Valuation) (name : ℕ → ℕ) (parts : List Part) → sum_of (numbers (through name w)) parts
    ≡ sum_of (numbers w) (map (λ part. record { coefficient = part.coefficient; term = term_renamed name part.term }) parts)
sum_through w name [] = refl
sum_through w name (part ∷ parts) =
    ap (λ (n : ℤ). part.coefficient *ℤ n +ℤ sum_of (numbers (through name w)) parts) (term_through w name part.term)
    ∙ ap (λ (n : ℤ). part.coefficient *ℤ numbers w (term_renamed name part.term) +ℤ n) (sum_through w name parts)

pub renamed_rows : (w : Valuation) (name : ℕ → ℕ) (rows : List Row) → AllByRecursion (Holds (numbers (through name w))) rows
    → AllByRecursion (Holds (numbers w)) (map (row_renamed name) rows)
renamed_rows w name [] all = tt
renamed_rows w name (row ∷ rows) all = (
  subst (λ (n : ℤ). pos 0 ≤ℤ n) (ap (λ (n : ℤ). row.constant +ℤ n) (sum_through w name row.parts)) all.0,
  renamed_rows w name rows all.1,
)
