-- The states that a unit leaves are well made.
use Rattle.std.proofs.Common.{◌≡◌, ℕ, ◌+◌, ◌-◌, ◌≤◌, ◌<◌, Bool, true, false, cond, sym, subst, refl, List, [], ◌∷◌, ◌++◌, length, map, reverse, arith, max, is_none, Ok, Err}
use Rattle.std.specs.List.{All, flat_map}
use Rattle.std.proofs.lemmas.List.{reverse-reverse}
use Rattle.std.proofs.lemmas.List.Sums.{count_by-le-length}
use Rattle.std.proofs.lemmas.List.Elements.{All-append, All-head, All-map, All-tail, All-take, All-weaker}
use Rattle.lin_facts.specs.declared.row.Row.{Row}
use Rattle.name_table.specs.declared.names.NameId.{NameId}
use Rattle.name_table.specs.declared.style.Style.{Style}
use Rattle.bst_meaning.specs.declared.condition.Cond.{Cond}
use Rattle.bst_meaning.specs.StyleParts.{kind_of}
use Rattle.sym_state.specs.State.{State}
use Rattle.sym_state.specs.declared.demand.EffectFault.TheVariants.{NotEntailed}
use Rattle.sym_state.specs.declared.hint.Hint.{Hint}
use Rattle.sym_state.specs.declared.piece.Piece.{Piece}
use Rattle.sym_state.specs.declared.symbol.Bind.{Bind}
use Rattle.sym_state.specs.declared.symbol.Fact.{Fact}
use Rattle.sym_state.specs.declared.symbol.Fact.TheVariants.{Is, Nonblank, Wellformed}
use Rattle.sym_state.specs.declared.symbol.Sym.{Sym}
use Rattle.sym_state.specs.Changes.{symbol_at, with_bind}
use Rattle.sym_state.specs.Entailing.{match_of, under}
use Rattle.sym_state.specs.Facts.{subject}
use Rattle.sym_state.specs.Renaming.{bind_renamed, fact_renamed, row_renamed, sym_renamed}
use Rattle.sym_state.specs.Showing.{Shown, piece_by}
use Rattle.sym_state.specs.Fitting.{FactFits, RowFits}
use Rattle.sym_state.specs.Starting.{own_facts, own_rows, seats, symbols_of, unbound}
use Rattle.sym_state.specs.WellMade.{HasByteText, HasShortText, HasSmallFields, HasSmallInteger, IsOfStyle, WellMade}
use Rattle.sym_state.proofs.Entailed.{lines_pass}
use Rattle.sym_state.proofs.Frames.{all_reversed}
use Rattle.sym_state.proofs.Keeping.{own_bounded}
use Rattle.sym_state.proofs.Making.{bounded_renamed, bytes_renamed, each_given, own_facts_are, own_rows_below, renamed_row, seats_below, short_renamed, small_renamed, style_renamed, subject_renamed}
use Rattle.sym_state.proofs.Numbering.{stack_below, vars_below}
use Rattle.sym_state.proofs.Resulting.{Fits, bind_made, both_fit, more_made, rest_made}
use Rattle.sym_state.proofs.ShownPieces.{IsShown, shown_parts}
use Rattle.cert_check.specs.Left.{HasPlaces, IsPost}
use Rattle.cert_check.specs.Uses.{Passage, comes_by, facts_left, fits, left_by, left_state, new_symbols, own_count, own_places, post_match, rows_left, with_binds}
use Rattle.cert_check.proofs.LeftPlaces.{name_below}
use Rattle.cert_check.proofs.LeftSteps.{few_new}

-- what a state that comes to a unit shows
pub came_shows : (unit : Passage) (admits : Cond) (pre : Piece) (state : State) (hints left : List Hint)
    → comes_by unit admits pre state hints ≡ Ok left → IsShown admits state pre 0 hints left
came_shows unit admits pre state hints left e =
    elim (fits unit pre state) as (λ (t : Bool). (let shown : Shown = cond t (piece_by admits state pre 0 hints) (Err (NotEntailed 0)) in shown) ≡ Ok left
    → IsShown admits state pre 0 hints left) [
      | true ↦ λ found. shown_parts admits state pre 0 hints left found
      | false ↦ λ found. absurd (cc)
    ] e

-- bindings take nothing from a state
pub binds_made : (style : Style) (binds : List Bind) (state : State) → WellMade style state → All (λ (b : Bind). b.sym.0 < state.next) binds
    → WellMade style (with_binds binds state)
binds_made style [] state made below = made
binds_made style (bind ∷ binds) state made below =
    binds_made style binds (with_bind bind.name bind.sym state)
    (bind_made style state bind.name bind.sym made (All-head (λ (b : Bind). b.sym.0 < state.next) bind binds below))
    (All-tail (λ (b : Bind). b.sym.0 < state.next) bind binds below)

pub binds_next : (binds : List Bind) (state : State) → (with_binds binds state).next ≡ state.next
binds_next [] state = refl
binds_next (bind ∷ binds) state = binds_next binds (with_bind bind.name bind.sym state)

-- another stack
pub stack_made : (style : Style) (state : State) (stack : List Sym) → WellMade style state → All (λ (s : Sym). s.0 < state.next) stack
    → WellMade style (record state { stack = stack })
stack_made style state stack made below =
    subst (λ (all : List Sym). WellMade style (record state { stack = all })) (reverse-reverse stack)
    (rest_made style state (reverse stack) made (all_reversed state.next stack below))

-- a fact and a row of a post with their symbols matched, which are below a number
fact_fits : (style : Style) (name : ℕ → ℕ) (m n : ℕ) (fact : Fact) → ((s : ℕ) → s < m → name s < n) → FactFits style m fact
    → FactFits style n (fact_renamed name fact)
fact_fits style name m n fact below fits = record {
  below = subst (λ (s : ℕ). s < n) (sym (subject_renamed name fact)) (below (subject fact) fits.below);
  of_style = style_renamed style name fact fits.of_style;
  integer = small_renamed name fact fits.integer;
  bytes = bytes_renamed name fact fits.bytes;
  short = short_renamed name fact fits.short;
}

row_fits : (name : ℕ → ℕ) (m n : ℕ) (row : Row) → ((s : ℕ) → s < m → name s < n) → RowFits m row → RowFits n (row_renamed name row)
row_fits name m n row below fits =
    record { below = renamed_row n m name row below fits.below; bounded = bounded_renamed name row fits.bounded }

-- the facts and rows of a post fit
post_fits : (style : Style) (kept : ℕ) (post : Piece) → IsPost style kept post → Fits style (max kept (symbols_of post)) post.facts post.rows
post_fits style kept post is = record {
  facts = λ k d less. record {
    below = is.facts k d less;
    of_style = is.fit.of_style k d less;
    integer = is.fit.integers k d less;
    bytes = is.fit.bytes k d less;
    short = is.fit.texts k d less;
  };
  rows = λ k d less. record { below = is.rows k d less; bounded = is.fit.rows k d less };
}

-- the facts and rows of variables and fields fit
own_fact : (style : Style) (n : ℕ) (fact : Fact) → subject fact < n → IsOfStyle style fact → HasSmallInteger fact → HasByteText fact → HasShortText fact
    → FactFits style n fact
own_fact style n fact below of_style integer bytes short =
    record { below = below; of_style = of_style; integer = integer; bytes = bytes; short = short }

own_fit : (style : Style) (admits : Cond) (n : ℕ) (written : List Bind) → HasSmallFields admits → All (λ (b : Bind). b.sym.0 < n) written
    → Fits style n (flat_map (λ bind. own_facts admits (kind_of style bind.name) bind) written)
    (flat_map (λ bind. own_rows admits (kind_of style bind.name) bind) written)
own_fit style admits n written small seated = record {
  facts = each_given (FactFits style n) (λ bind. own_facts admits (kind_of style bind.name) bind) (λ (b : Bind). b.sym.0 < n) written
      (λ b h. own_facts_are (FactFits style n) admits (kind_of style b.name) b
      (λ kind. own_fact style n (Is b.sym kind) h tt tt tt tt) (own_fact style n (Nonblank b.sym) h tt tt tt tt)
      (own_fact style n (Wellformed b.sym) h tt tt tt tt)) seated;
  rows = each_given (RowFits n) (λ bind. own_rows admits (kind_of style bind.name) bind) (λ (b : Bind). b.sym.0 < n) written
      (λ b h k d less. record {
        below = own_rows_below n admits (kind_of style b.name) b h k d less;
        bounded = own_bounded admits (kind_of style b.name) b small k d less;
      }) seated;
}

-- what a post adds fits
left_fits : (style : Style) (admits : Cond) (name : ℕ → ℕ) (written : List Bind) (post : Piece) (n kept : ℕ) → HasSmallFields admits
    → ((s : ℕ) → s < max kept (symbols_of post) → name s < n) → All (λ (b : Bind). b.sym.0 < n) written → IsPost style kept post
    → Fits style n (facts_left style admits name written post) (rows_left style admits name written post)
left_fits style admits name written post n kept small below seated is =
    let m : ℕ = max kept (symbols_of post) in
    let all = post_fits style kept post is in
    both_fit style n (flat_map (λ bind. own_facts admits (kind_of style bind.name) bind) written) (map (fact_renamed name) post.facts)
    (flat_map (λ bind. own_rows admits (kind_of style bind.name) bind) written) (map (row_renamed name) post.rows)
    (own_fit style admits n written small seated) (record {
      facts = All-map (FactFits style n) (fact_renamed name) post.facts
          (All-weaker (FactFits style m) (λ fact. FactFits style n (fact_renamed name fact)) (λ fact fits. fact_fits style name m n fact below fits) post.facts all.facts);
      rows = All-map (RowFits n) (row_renamed name) post.rows
          (All-weaker (RowFits m) (λ row. RowFits n (row_renamed name row)) (λ row fits. row_fits name m n row below fits) post.rows all.rows);
    })

-- the state that is left by a post over what is below
left_by_made : (style : Style) (admits : Cond) (name : ℕ → ℕ) (written : List Bind) (n kept : ℕ) (pre post : Piece) (state : State)
    → HasSmallFields admits → WellMade style state → state.next ≤ n → ((s : ℕ) → s < max kept (symbols_of post) → name s < n)
    → All (λ (b : Bind). b.sym.0 < n) written → IsPost style kept post
    → WellMade style (left_by style admits name written n post (record state { stack = under state pre }))
left_by_made style admits name written n kept pre post state small made old below seated is =
    let facts : List Fact = facts_left style admits name written post in
    let rows : List Row = rows_left style admits name written post in
    let stack : List Sym = under state pre ++ map (sym_renamed name) post.stack in
    let told : State = record state { facts = state.facts ++ facts; rows = state.rows ++ rows; next = n } in
    let told_made : WellMade style told =
    more_made style state n facts rows made old (left_fits style admits name written post n kept small below seated is) in
    let stack_is : All (λ (s : Sym). s.0 < n) stack =
    All-append (λ (s : Sym). s.0 < n) (under state pre) (map (sym_renamed name) post.stack)
    (All-take (λ (s : Sym). s.0 < n) (length state.stack - length pre.stack) state.stack
    (All-weaker (λ (s : Sym). s.0 < state.next) (λ (s : Sym). s.0 < n) (λ s h. omega (arith, h, old)) state.stack made.stack))
    (All-map (λ (s : Sym). s.0 < n) (sym_renamed name) post.stack
    (All-weaker (λ (s : Sym). s.0 < symbols_of post) (λ (s : Sym). name s.0 < n) (λ s h. below s.0 (omega (arith, h))) post.stack
    (stack_below (symbols_of post) post (omega arith)))) in
    binds_made style written (record told { stack = stack }) (stack_made style told stack told_made stack_is) seated

-- the state that a unit leaves by a post is well made, where a well-made state came to the unit
pub left_made : (style : Style) (admits : Cond) (unit : Passage) (pre post : Piece) (kept : ℕ) (state : State) (hints left : List Hint)
    → HasSmallFields admits → WellMade style state → HasPlaces 0 kept pre → IsPost style kept post
    → comes_by unit admits pre state hints ≡ Ok left → WellMade style (left_state style admits unit pre kept state post)
unfolding left_state
left_made style admits unit pre post kept state hints left small made has is came =
    let count : ℕ = own_count post kept in
    let own : List (Sym × Sym) = own_places unit state post kept count state.next in
    let name : ℕ → ℕ = post_match own state pre in
    let first : ℕ = state.next + new_symbols unit state post kept count in
    let binds : List Bind = map (bind_renamed name) post.vars in
    let written : List Bind = seats binds first unit.writes in
    let n : ℕ = first + unbound binds unit.writes in
    let shown = came_shows unit admits pre state hints left came in
    let lines = lines_pass (match_of state pre 0) state pre shown.lines in
    let below : (s : ℕ) → s < max kept (symbols_of post) → name s < first =
    λ s less. name_below style unit (match_of state pre 0) state pre post kept s made shown.few lines has less in
    let bound : All (λ (b : Bind). b.sym.0 < first) binds =
    All-map (λ (b : Bind). b.sym.0 < first) (bind_renamed name) post.vars
    (All-weaker (λ (b : Bind). b.sym.0 < symbols_of post) (λ (b : Bind). name b.sym.0 < first) (λ b h. below b.sym.0 (omega (arith, h))) post.vars
    (vars_below (symbols_of post) post (omega arith))) in
    left_by_made style admits name written n kept pre post state small made (omega arith)
    (λ s less. let h = below s less in omega (arith, h)) (seats_below binds first n unit.writes bound (omega arith)) is

-- its new symbols are those of the post's own that stand for no other, and those of written variables that the post doesn't bind
pub next_few : (style : Style) (admits : Cond) (unit : Passage) (pre post : Piece) (kept : ℕ) (state : State)
    → (left_state style admits unit pre kept state post).next
    ≤ state.next + (new_symbols unit state post kept (own_count post kept) + length unit.writes)
unfolding left_state
next_few style admits unit pre post kept state =
    let count : ℕ = own_count post kept in
    let own : List (Sym × Sym) = own_places unit state post kept count state.next in
    let name : ℕ → ℕ = post_match own state pre in
    let first : ℕ = state.next + new_symbols unit state post kept count in
    let binds : List Bind = map (bind_renamed name) post.vars in
    let seated = count_by-le-length (λ (w : NameId). is_none (symbol_at w binds)) unit.writes in
    let same = binds_next (seats binds first unit.writes) (record state {
      stack = under state pre ++ map (sym_renamed name) post.stack;
      facts = state.facts ++ facts_left style admits name (seats binds first unit.writes) post;
      rows = state.rows ++ rows_left style admits name (seats binds first unit.writes) post;
      next = first + unbound binds unit.writes;
    }) in
    omega (arith, seated, same)

-- they are no more than the post has of its own and the unit writes variables
pub left_next : (style : Style) (admits : Cond) (unit : Passage) (pre post : Piece) (kept : ℕ) (state : State)
    → (left_state style admits unit pre kept state post).next ≤ state.next + ((symbols_of post - kept) + length unit.writes)
left_next style admits unit pre post kept state =
    let new = few_new unit state post kept (own_count post kept) in
    let next = next_few style admits unit pre post kept state in
    omega (arith, new, next)
