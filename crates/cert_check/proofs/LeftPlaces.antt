-- Each symbol of a post has a place, at a symbol of the state that is left.
use Rattle.std.proofs.Common.{◌≡◌, ℕ, zero, suc, ◌+◌, ◌-◌, ◌≤◌, ◌<◌, Bool, true, false, cond, ◌||◌, sym, ◌∙◌, refl, List, [], ◌∷◌, ◌++◌, length, map, drop, arith, nat_eq, nat_lt, max, Option, None, Some}
use Rattle.std.specs.List.{All, cons_option, list_any, zip}
use Rattle.std.specs.Option.{option_map, option_map_or, option_or, option_and_then, unwrap_or}
use Rattle.std.proofs.lemmas.Bool.Decides.{nat_tests}
use Rattle.std.proofs.lemmas.List.{length-drop}
use Rattle.std.proofs.lemmas.List.Elements.{All-append, All-cons, All-drop, All-head, All-nil, All-tail, All-weaker}
use Rattle.std.proofs.lemmas.List.Folds.{list_any-append}
use Rattle.name_table.specs.declared.names.NameId.{NameId}
use Rattle.name_table.specs.declared.style.Style.{Style}
use Rattle.sym_state.specs.State.{State}
use Rattle.sym_state.specs.declared.piece.Piece.{Piece}
use Rattle.sym_state.specs.declared.symbol.Bind.{Bind}
use Rattle.sym_state.specs.declared.symbol.Sym.{Sym}
use Rattle.sym_state.specs.Changes.{bound, symbol_at}
use Rattle.sym_state.specs.Entailing.{agrees, at_first_place, bind_agrees, bind_places, first_failing, matched, places, stack_places}
use Rattle.sym_state.specs.Starting.{placed, symbols_of}
use Rattle.sym_state.specs.WellMade.{WellMade}
use Rattle.sym_state.proofs.Entailed.{LinesPass}
use Rattle.sym_state.proofs.Making.{found_below}
use Rattle.cert_check.specs.Left.{HasPlaces}
use Rattle.cert_check.specs.Uses.{Passage, first_name, is_among, new_one, new_symbols, own_count, own_places, post_match, unchanged, unwritten}
use Rattle.cert_check.proofs.LeftSteps.{numbered}

-- a symbol has a place among these
abbrev pub has_place : List (Sym × Sym) → ℕ → Bool
has_place ps s = list_any (λ p. nat_eq p.0.0 s) ps

-- places at symbols below a number
abbrev pub AreBelow : ℕ → List (Sym × Sym) → Type 0
AreBelow n ps = All (λ (p : Sym × Sym). p.1.0 < n) ps

-- what is at a symbol's first place is below what all are below
place_below : (n : ℕ) (ps : List (Sym × Sym)) (s : ℕ) → AreBelow n ps → has_place ps s ≡ true → at_first_place ps s < n
place_below n [] s all has = absurd (cc)
place_below n (p ∷ ps) s all has =
    elim (nat_eq p.0.0 s) as (λ (t : Bool). (t || has_place ps s) ≡ true → cond t p.1.0 (at_first_place ps s) < n) [
      | true ↦ λ found. All-head (λ (q : Sym × Sym). q.1.0 < n) p ps all
      | false ↦ λ found. place_below n ps s (All-tail (λ (q : Sym × Sym). q.1.0 < n) p ps all) found
    ] has

-- a match without symbols that are kept
pub matched_below : (n : ℕ) (ps : List (Sym × Sym)) (s : ℕ) → AreBelow n ps → has_place ps s ≡ true → matched 0 ps s < n
matched_below n ps s all has =
    elim (nat_lt s 0) as (λ (t : Bool). nat_lt s 0 ≡ t → cond t s (at_first_place ps s) < n) [
      | true ↦ λ is. absurd (grind (arith, nat_tests))
      | false ↦ λ is. place_below n ps s all has
    ] refl

first_of : (a b : Bool) → a ≡ true → (a || b) ≡ true
first_of true b e = refl
first_of false b e = absurd (cc)

second_of : (a b : Bool) → b ≡ true → (a || b) ≡ true
second_of true b e = refl
second_of false b e = e

-- places before others, and behind them
pub has_first : (a b : List (Sym × Sym)) (s : ℕ) → has_place a s ≡ true → has_place (a ++ b) s ≡ true
has_first a b s has = list_any-append (λ (p : Sym × Sym). nat_eq p.0.0 s) a b ∙ first_of (has_place a s) (has_place b s) has

pub has_second : (a b : List (Sym × Sym)) (s : ℕ) → has_place b s ≡ true → has_place (a ++ b) s ≡ true
has_second a b s has = list_any-append (λ (p : Sym × Sym). nat_eq p.0.0 s) a b ∙ second_of (has_place a s) (has_place b s) has

-- a symbol is among these
abbrev has_symbol : List Sym → ℕ → Bool
has_symbol syms s = list_any (λ sym. nat_eq sym.0 s) syms

zip_has : (stack known : List Sym) (s : ℕ) → length stack ≤ length known → has_symbol stack s ≡ true → has_place (zip stack known) s ≡ true
zip_has [] known s few has = absurd (cc)
zip_has (t ∷ stack) [] s few has = absurd (omega arith)
zip_has (t ∷ stack) (there ∷ known) s few has =
    elim (nat_eq t.0 s) as (λ (b : Bool). (b || has_symbol stack s) ≡ true → (b || has_place (zip stack known) s) ≡ true) [
      | true ↦ λ found. refl
      | false ↦ λ found. zip_has stack known s (omega arith) found
    ] has

-- where the lines of names agree each of their symbols has a place
binds_have : (match : ℕ → ℕ) (known binds : List Bind) (line s : ℕ) → first_failing (bind_agrees match known) line binds ≡ None
    → has_symbol (map (λ bind. bind.sym) binds) s ≡ true → has_place (bind_places known binds) s ≡ true
binds_have match known [] line s none has = absurd (cc)
binds_have match known (bind ∷ binds) line s none has =
    elim (symbol_at bind.name known) as (λ (o : Option Sym).
    cond (option_map_or (λ there. agrees match (bind.sym, there)) o false) (first_failing (bind_agrees match known) (suc line) binds) (Some line) ≡ None
    → has_place (cons_option (option_map (λ there. (bind.sym, there)) o) (bind_places known binds)) s ≡ true) [
      | Some there ↦ λ lines.
          let rest : first_failing (bind_agrees match known) (suc line) binds ≡ None =
          passed (agrees match (bind.sym, there)) (first_failing (bind_agrees match known) (suc line) binds) line lines in
          elim (nat_eq bind.sym.0 s) as (λ (b : Bool). (b || has_symbol (map (λ c. c.sym) binds) s) ≡ true → (b || has_place (bind_places known binds) s) ≡ true) [
            | true ↦ λ found. refl
            | false ↦ λ found. binds_have match known binds (suc line) s rest found
          ] has
      | None ↦ λ lines. absurd (cc)
    ] none
  where
    passed : (t : Bool) (later : Option ℕ) (line : ℕ) → cond t later (Some line) ≡ None → later ≡ None
    passed true later line e = e
    passed false later line e = absurd (cc)

-- the symbols of a piece that is shown have places
pub pre_has : (match : ℕ → ℕ) (state : State) (pre : Piece) (s : ℕ) → length pre.stack ≤ length state.stack → LinesPass match state pre
    → has_symbol (placed pre) s ≡ true → has_place (places state pre) s ≡ true
pre_has match state pre s few lines has =
    let known : List Sym = drop (length state.stack - length pre.stack) state.stack in
    let long : length pre.stack ≤ length known = let l = length-drop (length state.stack - length pre.stack) state.stack in omega arith in
    let vars : List Sym = map (λ bind. bind.sym) pre.vars in
    let fields : List Sym = map (λ bind. bind.sym) pre.fields in
    let at_vars = bind_places state.vars pre.vars in
    let at_fields = bind_places state.fields pre.fields in
    elim (has_symbol pre.stack s) as (λ (b : Bool). has_symbol pre.stack s ≡ b → (b || has_symbol (vars ++ fields) s) ≡ true
    → has_place (places state pre) s ≡ true) [
      | true ↦ λ is found. has_first (stack_places state.stack pre.stack) (at_vars ++ at_fields) s (zip_has pre.stack known s long is)
      | false ↦ λ is found.
          has_second (stack_places state.stack pre.stack) (at_vars ++ at_fields) s
          (elim (has_symbol vars s) as (λ (b : Bool). has_symbol vars s ≡ b → (b || has_symbol fields s) ≡ true → has_place (at_vars ++ at_fields) s ≡ true) [
            | true ↦ λ here found'. has_first at_vars at_fields s (binds_have match state.vars pre.vars _ s lines.vars here)
            | false ↦ λ here found'. has_second at_vars at_fields s (binds_have match state.fields pre.fields _ s lines.fields found')
          ] refl (sym (list_any-append (λ (t : Sym). nat_eq t.0 s) vars fields) ∙ found))
    ] refl (sym (list_any-append (λ (t : Sym). nat_eq t.0 s) pre.stack (vars ++ fields)) ∙ has)

zip_below : (n : ℕ) (stack known : List Sym) → All (λ (t : Sym). t.0 < n) known → AreBelow n (zip stack known)
zip_below n [] known all = All-nil (λ (p : Sym × Sym). p.1.0 < n)
zip_below n (t ∷ stack) [] all = All-nil (λ (p : Sym × Sym). p.1.0 < n)
zip_below n (t ∷ stack) (there ∷ known) all =
    All-cons (λ (p : Sym × Sym). p.1.0 < n) (t, there) (zip stack known) (All-head (λ (x : Sym). x.0 < n) there known all)
    (zip_below n stack known (All-tail (λ (x : Sym). x.0 < n) there known all))

binds_below : (n : ℕ) (known binds : List Bind) → All (λ (b : Bind). b.sym.0 < n) known → AreBelow n (bind_places known binds)
binds_below n known [] all = All-nil (λ (p : Sym × Sym). p.1.0 < n)
binds_below n known (bind ∷ binds) all =
    elim (symbol_at bind.name known) as (λ (o : Option Sym). symbol_at bind.name known ≡ o
    → AreBelow n (cons_option (option_map (λ there. (bind.sym, there)) o) (bind_places known binds))) [
      | Some there ↦ λ is.
          All-cons (λ (p : Sym × Sym). p.1.0 < n) (bind.sym, there) (bind_places known binds) (found_below n bind.name known there all is)
          (binds_below n known binds all)
      | None ↦ λ is. binds_below n known binds all
    ] refl

-- the places of a piece are at symbols of a well-made state
pub places_below : (style : Style) (state : State) (pre : Piece) → WellMade style state → AreBelow state.next (places state pre)
places_below style state pre made =
    let n : ℕ = state.next in
    All-append (λ (p : Sym × Sym). p.1.0 < n) (stack_places state.stack pre.stack) (bind_places state.vars pre.vars ++ bind_places state.fields pre.fields)
    (zip_below n pre.stack (drop (length state.stack - length pre.stack) state.stack)
    (All-drop (λ (t : Sym). t.0 < n) (length state.stack - length pre.stack) state.stack made.stack))
    (All-append (λ (p : Sym × Sym). p.1.0 < n) (bind_places state.vars pre.vars) (bind_places state.fields pre.fields)
    (binds_below n state.vars pre.vars made.vars) (binds_below n state.fields pre.fields made.fields))

-- a symbol that a post's own symbol stands for is the state's
pub named_below : (style : Style) (unit : Passage) (state : State) (found : Option NameId) (t : Sym) → WellMade style state
    → option_and_then (unwritten unit state) found ≡ Some t → t.0 < state.next
named_below style unit state None t made e = absurd (cc)
named_below style unit state (Some name) t made e =
    elim (is_among unit.writes name) as (λ (b : Bool). (let there : Option Sym = cond b None (bound name state) in there) ≡ Some t → t.0 < state.next) [
      | true ↦ λ is. absurd (cc)
      | false ↦ λ is.
          elim (symbol_at name state.vars) as (λ (o : Option Sym). symbol_at name state.vars ≡ o → option_or o (symbol_at name state.fields) ≡ Some t
          → t.0 < state.next) [
            | Some there ↦ λ here same. found_below state.next name state.vars t made.vars (here ∙ same)
            | None ↦ λ here same. found_below state.next name state.fields t made.fields same
          ] refl is
    ] e

-- the places of a post's own symbols are at symbols of the state and at new ones
pub own_below : (style : Style) (unit : Passage) (state : State) (post : Piece) (s more next n : ℕ) → WellMade style state → state.next ≤ n
    → next + new_symbols unit state post s more ≤ n → AreBelow n (own_places unit state post s more next)
own_below style unit state post s zero next n made old few = All-nil (λ (p : Sym × Sym). p.1.0 < n)
own_below style unit state post s (suc more) next n made old few =
    let later : ℕ → List (Sym × Sym) = λ m. own_places unit state post (suc s) more (next + m) in
    let rest : ℕ = new_symbols unit state post (suc s) more in
    elim (unchanged unit state post s) as (λ (o : Option Sym). unchanged unit state post s ≡ o → next + (new_one o + rest) ≤ n
    → AreBelow n ((numbered s, unwrap_or o (numbered next)) ∷ later (new_one o))) [
      | Some there ↦ λ is few'.
          let below = named_below style unit state (first_name s post) there made is in
          All-cons (λ (p : Sym × Sym). p.1.0 < n) (numbered s, there) (later 0) (omega (arith, below, old))
          (own_below style unit state post (suc s) more (next + 0) n made old (omega (arith, few')))
      | None ↦ λ is few'.
          All-cons (λ (p : Sym × Sym). p.1.0 < n) (numbered s, numbered next) (later 1) (omega (arith, few'))
          (own_below style unit state post (suc s) more (next + 1) n made old (omega (arith, few')))
    ] refl few

pub own_has : (unit : Passage) (state : State) (post : Piece) (s more next k : ℕ) → s ≤ k → k < s + more
    → has_place (own_places unit state post s more next) k ≡ true
own_has unit state post s zero next k low high = absurd (omega arith)
own_has unit state post s (suc more) next k low high =
    let then : ℕ = next + new_one (unchanged unit state post s) in
    elim (nat_eq s k) as (λ (b : Bool). nat_eq s k ≡ b → (b || has_place (own_places unit state post (suc s) more then) k) ≡ true) [
      | true ↦ λ is. refl
      | false ↦ λ is. own_has unit state post (suc s) more then k (grind (arith, nat_tests)) (omega (arith, high))
    ] refl

-- the state's symbol for a symbol that a post may name is below the number of the state's symbols and of the new ones
pub name_below : (style : Style) (unit : Passage) (match : ℕ → ℕ) (state : State) (pre post : Piece) (kept s : ℕ) → WellMade style state
    → length pre.stack ≤ length state.stack → LinesPass match state pre → HasPlaces 0 kept pre → s < max kept (symbols_of post)
    → post_match (own_places unit state post kept (own_count post kept) state.next) state pre s
    < state.next + new_symbols unit state post kept (own_count post kept)
name_below style unit match state pre post kept s made few lines has less =
    let count : ℕ = own_count post kept in
    let own : List (Sym × Sym) = own_places unit state post kept count state.next in
    let n : ℕ = state.next + new_symbols unit state post kept count in
    let old : state.next ≤ n = omega arith in
    let all : AreBelow n (own ++ places state pre) =
    All-append (λ (p : Sym × Sym). p.1.0 < n) own (places state pre)
    (own_below style unit state post kept count state.next n made old (omega arith))
    (All-weaker (λ (p : Sym × Sym). p.1.0 < state.next) (λ (p : Sym × Sym). p.1.0 < n) (λ p h. omega (arith, h, old)) (places state pre)
    (places_below style state pre made)) in
    matched_below n (own ++ places state pre) s all
    (elim (nat_lt s kept) as (λ (b : Bool). nat_lt s kept ≡ b → has_place (own ++ places state pre) s ≡ true) [
      | true ↦ λ is. has_second own (places state pre) s (pre_has match state pre s few lines (has s (omega arith) (grind (arith, nat_tests))))
      | false ↦ λ is.
          let high : kept ≤ s = grind (arith, nat_tests) in
          has_first own (places state pre) s (own_has unit state post kept count state.next s high (omega (arith, high, less)))
    ] refl)
