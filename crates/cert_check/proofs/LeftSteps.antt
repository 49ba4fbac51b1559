-- What a use of a unit leaves, step by step.
use Rattle.std.proofs.Common.{◌≡◌, ℕ, zero, suc, ◌+◌, ◌-◌, ◌≤◌, ◌<◌, ap, sym, ◌∙◌, List, [], ◌∷◌, ◌++◌, map, Option, None, Some, arith, add-one, append_assoc}
use Rattle.std.specs.Option.{unwrap_or}
use Rattle.name_table.specs.declared.style.Style.{Style}
use Rattle.bst_meaning.specs.declared.condition.Cond.{Cond}
use Rattle.sym_state.specs.State.{State}
use Rattle.sym_state.specs.declared.piece.Piece.{Piece}
use Rattle.sym_state.specs.declared.symbol.Bind.{Bind}
use Rattle.sym_state.specs.declared.symbol.Sym.{Sym}
use Rattle.sym_state.specs.Entailing.{under}
use Rattle.sym_state.specs.Renaming.{bind_renamed}
use Rattle.sym_state.specs.Starting.{seats, unbound}
use Rattle.cert_check.specs.Uses.{Passage, left_by, left_state, new_one, new_symbols, own_count, own_places, post_match, unchanged}

-- the symbol of a number
abbrev pub numbered : ℕ → Sym
numbered n = record { 0 = n }

own_next : (unit : Passage) (state : State) (post : Piece) (s count next : ℕ) → s < count
    → own_places unit state post s (count - s) next
    ≡ (numbered s, unwrap_or (unchanged unit state post s) (numbered next))
    ∷ own_places unit state post (s + 1) (count - (s + 1)) (next + new_one (unchanged unit state post s))
own_next unit state post s count next less =
    let found = unchanged unit state post s in
    let fewer : count - s ≡ suc (count - suc s) = omega arith in
    ap (λ (m : ℕ). own_places unit state post s m next) fewer
    ∙ ap (λ (k : ℕ). (numbered s, unwrap_or found (numbered next)) ∷ own_places unit state post k (count - k) (next + new_one found)) (sym (add-one s))

new_next : (unit : Passage) (state : State) (post : Piece) (s count : ℕ) → s < count
    → new_symbols unit state post s (count - s) ≡ new_one (unchanged unit state post s) + new_symbols unit state post (s + 1) (count - (s + 1))
new_next unit state post s count less =
    let found = unchanged unit state post s in
    let fewer : count - s ≡ suc (count - suc s) = omega arith in
    ap (λ (m : ℕ). new_symbols unit state post s m) fewer
    ∙ ap (λ (k : ℕ). new_one found + new_symbols unit state post k (count - k)) (sym (add-one s))

pub own_pushed : (unit : Passage) (state : State) (post : Piece) (s count next more : ℕ) (found : Option Sym) (there : Sym)
    (before after total : List (Sym × Sym)) → s < count → found ≡ unchanged unit state post s → there ≡ unwrap_or found (numbered next)
    → more ≡ new_one found → after ≡ before ++ (numbered s, there) ∷ []
    → before ++ own_places unit state post s (count - s) next ≡ total
    → after ++ own_places unit state post (s + 1) (count - (s + 1)) (next + more) ≡ total
own_pushed unit state post s count next more found there before after total less e_found e_there e_more e_after e =
    let rest : ℕ → List (Sym × Sym) = λ m. own_places unit state post (s + 1) (count - (s + 1)) (next + m) in
    let there_is : there ≡ unwrap_or (unchanged unit state post s) (numbered next) =
    e_there ∙ ap (λ (o : Option Sym). unwrap_or o (numbered next)) e_found in
    let more_is : more ≡ new_one (unchanged unit state post s) = e_more ∙ ap new_one e_found in
    ap (λ (all : List (Sym × Sym)). all ++ rest more) e_after
    ∙ append_assoc before ((numbered s, there) ∷ []) (rest more)
    ∙ ap (λ (t : Sym). before ++ (numbered s, t) ∷ rest more) there_is
    ∙ ap (λ (m : ℕ). before ++ (numbered s, unwrap_or (unchanged unit state post s) (numbered next)) ∷ rest m) more_is
    ∙ ap (λ (all : List (Sym × Sym)). before ++ all) (sym (own_next unit state post s count next less))
    ∙ e

pub new_counted : (unit : Passage) (state : State) (post : Piece) (s count next more total : ℕ) (found : Option Sym) → s < count
    → found ≡ unchanged unit state post s → more ≡ new_one found → next + new_symbols unit state post s (count - s) ≡ total
    → next + more + new_symbols unit state post (s + 1) (count - (s + 1)) ≡ total
new_counted unit state post s count next more total found less e_found e_more e =
    let more_is : more ≡ new_one (unchanged unit state post s) = e_more ∙ ap new_one e_found in
    let step = new_next unit state post s count less in
    omega (arith, more_is, step, e)

at_most_one : (found : Option Sym) → new_one found ≤ 1
at_most_one (Some s) = omega arith
at_most_one None = omega arith

pub few_new : (unit : Passage) (state : State) (post : Piece) (s more : ℕ) → new_symbols unit state post s more ≤ more
few_new unit state post s zero = omega arith
few_new unit state post s (suc more) =
    let rest = few_new unit state post (suc s) more in
    let one = at_most_one (unchanged unit state post s) in
    omega (arith, rest, one)

-- the parts of a state that is left are those of the definition
pub left_is : (style : Style) (admits : Cond) (unit : Passage) (pre : Piece) (kept : ℕ) (state : State) (post : Piece) (own : List (Sym × Sym))
    (first next total : ℕ) (name : ℕ → ℕ) (binds written : List Bind) (below : State)
    → own ≡ own_places unit state post kept (own_count post kept) state.next
    → first ≡ state.next + new_symbols unit state post kept (own_count post kept)
    → name ≡ post_match own state pre
    → binds ≡ map (bind_renamed name) post.vars
    → written ≡ seats binds first unit.writes
    → next ≡ first + unbound binds unit.writes
    → total ≡ next
    → below ≡ record state { stack = under state pre }
    → left_by style admits name written total post below ≡ left_state style admits unit pre kept state post
unfolding left_state
left_is style admits unit pre kept state post own first next total name binds written below e_own e_first e_name e_binds e_written e_next e_total e_below =
    let count : ℕ = own_count post kept in
    let own' : List (Sym × Sym) = own_places unit state post kept count state.next in
    let name' : ℕ → ℕ = post_match own' state pre in
    let first' : ℕ = state.next + new_symbols unit state post kept count in
    let binds' : List Bind = map (bind_renamed name') post.vars in
    let written' : List Bind = seats binds' first' unit.writes in
    let name_is : name ≡ name' = e_name ∙ ap (λ (o : List (Sym × Sym)). post_match o state pre) e_own in
    let binds_are : binds ≡ binds' = e_binds ∙ ap (λ (n : ℕ → ℕ). map (bind_renamed n) post.vars) name_is in
    let written_are : written ≡ written' =
    e_written ∙ ap (λ (bs : List Bind). seats bs first unit.writes) binds_are ∙ ap (λ (n : ℕ). seats binds' n unit.writes) e_first in
    let total_is : total ≡ first' + unbound binds' unit.writes =
    e_total ∙ e_next ∙ ap (λ (bs : List Bind). first + unbound bs unit.writes) binds_are ∙ ap (λ (n : ℕ). n + unbound binds' unit.writes) e_first in
    ap (λ (n : ℕ → ℕ). left_by style admits n written total post below) name_is
    ∙ ap (λ (bs : List Bind). left_by style admits name' bs total post below) written_are
    ∙ ap (λ (n : ℕ). left_by style admits name' written' n post below) total_is
    ∙ ap (λ (s : State). left_by style admits name' written' (first' + unbound binds' unit.writes) post s) e_below
