-- After a token that pushes a value the state stands and is well made, and keeps what it bound.
use Rattle.std.proofs.Common.{◌≡◌, ℕ, zero, suc, ◌<◌, ◌≤◌, ◌+◌, ◌^◌, true, List, [], ◌∷◌, ◌++◌, length, reverse, Option, None, Some, slice_get, refl, sym, ap, subst, ◌∙◌, arith}
use Rattle.std.specs.List.{AllByRecursion}
use Rattle.std.specs.Option.{option_and_then, option_map, option_map_or, option_or}
use Rattle.std.proofs.lemmas.List.{reverse-append, reverse-reverse}
use Rattle.bv_base.specs.declared.limits.TheConstants.{STYLE_BYTES}
use Rattle.bv_base.specs.declared.place.Place.{Place}
use Rattle.name_table.specs.Sound.{Each, IsSound, IsTokenSound, block_of}
use Rattle.name_table.specs.Numbers.{IsByteList}
use Rattle.name_table.specs.declared.names.Kind.{Kind}
use Rattle.name_table.specs.declared.names.Kind.TheVariants.{Field, IntEntry, StrEntry, IntGlobal, StrGlobal}
use Rattle.name_table.specs.declared.names.NameId.{NameId}
use Rattle.name_table.specs.declared.style.BodyId.{BodyId}
use Rattle.name_table.specs.declared.style.Style.{Style}
use Rattle.name_table.specs.declared.style.Token.{Token}
use Rattle.name_table.specs.declared.style.Token.TheVariants.{Int as IntToken, Str as StrToken, Quote, Block as BlockToken, Call}
use Rattle.bst_meaning.specs.Config.{Config}
use Rattle.bst_meaning.specs.Machine.{call_step, token_step, visited_entry, with_found, with_value}
use Rattle.bst_meaning.specs.StyleParts.{kind_of, text_of}
use Rattle.bst_meaning.specs.declared.condition.Cond.{Cond}
use Rattle.bst_meaning.specs.EntryLists.{EntryList}
use Rattle.bst_meaning.specs.declared.value.Target.TheVariants.{Named, Block}
use Rattle.bst_meaning.specs.declared.value.Value.{Value}
use Rattle.bst_meaning.specs.declared.value.Value.TheVariants.{Int as IntValue, Str as StrValue, Func as FuncValue}
use Rattle.sym_state.specs.declared.symbol.Fact.{Fact}
use Rattle.sym_state.specs.declared.symbol.Fact.TheVariants.{Int as IntFact, Text as TextFact, Call as CallFact, Block as BlockFact}
use Rattle.sym_state.specs.declared.symbol.Kinds.{Kinds}
use Rattle.sym_state.specs.declared.symbol.Kinds.TheVariants.{Int, Str, Func}
use Rattle.sym_state.specs.declared.symbol.Sym.{Sym}
use Rattle.sym_state.specs.Changes.{bound, kind_facts, symbol_at}
use Rattle.sym_state.specs.Facts.{FactHolds, IsBlock, Says, has_kind, subject}
use Rattle.sym_state.specs.Covers.{CoversPush}
use Rattle.sym_state.specs.Frames.{LeavesVariables}
use Rattle.sym_state.specs.Pushes.{block_pushed, pushed_by}
use Rattle.sym_state.specs.Results.{next_of, with_result, with_top}
use Rattle.sym_state.specs.Stands.{Stands, value_by}
use Rattle.sym_state.specs.State.{State}
use Rattle.sym_state.specs.Symbols.{IsValue, Valuation}
use Rattle.sym_state.specs.WellMade.{HasByteText, HasShortText, HasSmallInteger, IsOfStyle, WellMade}
use Rattle.sym_state.proofs.Entailed.{found_value}
use Rattle.sym_state.proofs.Frames.{agrees_self, next_agrees, next_is, value_list, with_next}
use Rattle.sym_state.proofs.Leaving.{added, moved as on_stack}
use Rattle.sym_state.proofs.Making.{found_below}
use Rattle.sym_state.proofs.Pushing.{moved, pushed, tops_below, with_stack, without}
use Rattle.sym_state.proofs.Resulting.{one_fits, result_made, top_made}
use Rattle.sym_state.proofs.Spots.{Spot}

-- a token that pushes, at a place
abbrev PushesAt : Spot → Token → State → Type 0
PushesAt s token after = CoversPush s.style s.admits s.list s.v s.state s.c s.below s.place token after

the_same : {A : Type 0} {x y : A} → Some x ≡ Some y → x ≡ y
the_same e = cc

-- a literal: a new symbol has its value, and one fact says so
literal_stands : (s : Spot) (token : Token) (kind : Kinds) (fact : Fact) (value : Value) → IsValue value → has_kind kind value ≡ true
    → subject fact ≡ s.state.next → Says s.style fact value → token_step s.style token s.place s.c ≡ with_value value s.c
    → PushesAt s token (with_result kind (fact ∷ []) [] s.state)
literal_stands s token kind fact value is of_kind about says machine =
    let tops : List Sym = reverse s.state.stack in
    let w : Valuation = with_next s.state.next value s.v in
    let whole : without tops s.state ≡ s.state = ap (λ (l : List Sym). record s.state { stack = l }) (reverse-reverse s.state.stack) in
    let new : w.value (subject fact) ≡ value = ap (λ (n : ℕ). w.value n) about ∙ next_is s.state.next value s.v in
    let holds : FactHolds s.style w fact = subst (λ (x : Value). Says s.style fact x) (sym new) says in
    let on : Stands s.style s.admits s.list w (with_result kind (fact ∷ []) [] (without tops s.state))
    (with_stack (value ∷ (value_list s.v tops ++ s.below)) s.c.events s.c.log s.c) s.below
    = pushed s.style s.admits s.list s.v s.state s.c s.below tops kind (fact ∷ []) [] value s.c.events s.c.log s.made s.stands
    (tops_below s.style s.state tops s.made refl) is of_kind (holds, tt) tt in
    let on_state = subst (λ (x : State). Stands s.style s.admits s.list w (with_result kind (fact ∷ []) [] x)
    (with_stack (value ∷ (value_list s.v tops ++ s.below)) s.c.events s.c.log s.c) s.below) whole on in
    record {
      value = value;
      pushes = machine;
      assignment = w;
      agrees = next_agrees s.state.next value s.v;
      stands = subst (λ (l : List Value). Stands s.style s.admits s.list w (with_result kind (fact ∷ []) [] s.state)
          (with_stack (value ∷ l) s.c.events s.c.log s.c) s.below) (sym s.stands.stack) on_state;
    }

-- the machine pushes the value of a variable or a field
value_pushed : (style : Style) (kind : Option Kind) (name : NameId) (place : Place) (c : Config) (value : Value)
    → value_by kind name c.globals (visited_entry c) ≡ Some value → call_step style kind name place c ≡ with_value value c
value_pushed style (Some Field) name place c value e = ap (λ (r : Option Value). with_found r place c) e
value_pushed style (Some IntEntry) name place c value e = ap (λ (r : Option Value). with_found r place c) e
value_pushed style (Some StrEntry) name place c value e = ap (λ (r : Option Value). with_found r place c) e
value_pushed style (Some IntGlobal) name place c value e = ap (λ (r : Option Value). with_found r place c) e
value_pushed style (Some StrGlobal) name place c value e = ap (λ (r : Option Value). with_found r place c) e
value_pushed style _ name place c value e = absurd (cc)

-- a symbol that is bound to a variable or a field has its value, and is the state's
record IsOld (s : Spot) (name : NameId) (a : Sym) : Type 0 where
  value : value_by (kind_of s.style name) name s.c.globals (visited_entry s.c) ≡ Some (s.v.value a.0)
  below : a.0 < s.state.next

bound_old : (s : Spot) (name : NameId) (a : Sym) (vars fields : Option Sym) → symbol_at name s.state.vars ≡ vars → symbol_at name s.state.fields ≡ fields
    → option_or vars fields ≡ Some a → IsOld s name a
bound_old s name a (Some x) fields e f is =
    let found : symbol_at name s.state.vars ≡ Some a = e ∙ is in
    record {
      value = found_value s.style s.v s.c name s.state.vars a s.stands.vars found;
      below = found_below s.state.next name s.state.vars a s.made.vars found;
    }
bound_old s name a None fields e f is =
    let found : symbol_at name s.state.fields ≡ Some a = f ∙ is in
    record {
      value = found_value s.style s.v s.c name s.state.fields a s.stands.fields found;
      below = found_below s.state.next name s.state.fields a s.made.fields found;
    }

on_top : (stack : List Sym) (a : Sym) → reverse (stack ++ a ∷ []) ≡ a ∷ reverse stack
on_top stack a = reverse-append stack (a ∷ [])

-- a symbol that is bound is put on top
bound_stands : (s : Spot) (name : NameId) (a : Sym) → IsOld s name a → PushesAt s (Call name) (with_top a s.state)
bound_stands s name a old =
    let tops : List Sym = a ∷ reverse s.state.stack in
    let on = moved s.style s.admits s.list s.v s.state s.c s.below tops (s.state.stack ++ a ∷ []) s.c.events s.c.log s.stands (on_top s.state.stack a) in
    let on_stack = subst (λ (l : List Value). Stands s.style s.admits s.list s.v (with_top a s.state)
    (with_stack (s.v.value a.0 ∷ l) s.c.events s.c.log s.c) s.below) (sym s.stands.stack) on in
    record {
      value = s.v.value a.0;
      pushes = value_pushed s.style (kind_of s.style name) name s.place s.c (s.v.value a.0) old.value;
      assignment = s.v;
      agrees = agrees_self s.state.next s.v;
      stands = on_stack;
    }

each_of_texts : (P : List ℕ → Type 0) (texts : List (List ℕ)) (k : ℕ) → P [] → Each P texts → P (option_map_or (λ bytes. bytes) (slice_get texts k) [])
each_of_texts P [] k none all = none
each_of_texts P (text ∷ texts) zero none all = all.0
each_of_texts P (text ∷ texts) (suc k) none all = each_of_texts P texts k none all.1

-- the numbered block of a token
block_says : (s : Spot) (body : BodyId) (found : Option (Option ℕ)) (after : State) → block_of body s.style.bodies ≡ found
    → block_pushed (option_and_then (λ number. number) found) s.state ≡ Some after
    → PushesAt s (BlockToken body) after
block_says s body None after e is = absurd (cc)
block_says s body (Some None) after e is = absurd (cc)
block_says s body (Some (Some number)) after e is =
    subst (λ (x : State). PushesAt s (BlockToken body) x) (the_same is)
    (literal_stands s (BlockToken body) Func (BlockFact (next_of s.state) number) (FuncValue (Block body)) tt refl refl e refl)

-- the law of what stands
pub push_stands : (s : Spot) (token : Token) (after : State) → IsSound s.style → IsTokenSound s.style.names s.style.bodies s.style.texts token
    → pushed_by s.style token s.state ≡ Some after → PushesAt s token after
push_stands s (IntToken n) after sound fits is =
    subst (λ (x : State). PushesAt s (IntToken n) x) (the_same is)
    (literal_stands s (IntToken n) Int (IntFact (next_of s.state) n) (IntValue n) fits refl refl refl refl)
push_stands s (StrToken text) after sound fits is =
    let bytes : IsByteList (text_of s.style text) = each_of_texts IsByteList s.style.texts text.0 tt sound.byte_texts in
    subst (λ (x : State). PushesAt s (StrToken text) x) (the_same is)
    (literal_stands s (StrToken text) Str (TextFact (next_of s.state) (text_of s.style text)) (StrValue (text_of s.style text)) bytes refl refl refl refl)
push_stands s (Quote name) after sound fits is =
    subst (λ (x : State). PushesAt s (Quote name) x) (the_same is)
    (literal_stands s (Quote name) Func (CallFact (next_of s.state) name) (FuncValue (Named name)) tt refl refl refl refl)
push_stands s (BlockToken body) after sound fits is = block_says s body (block_of body s.style.bodies) after refl is
push_stands s (Call name) after sound fits is = name_stands (bound name s.state) refl is
  where
    name_stands : (found : Option Sym) → bound name s.state ≡ found → option_map (λ a. with_top a s.state) found ≡ Some after
        → PushesAt s (Call name) after
    name_stands None e put = absurd (cc)
    name_stands (Some a) e put =
        subst (λ (x : State). PushesAt s (Call name) x) (the_same put)
        (bound_stands s name a (bound_old s name a (symbol_at name s.state.vars) (symbol_at name s.state.fields) refl refl e))

-- a literal's state is well made
literal_made : (style : Style) (state : State) (kind : Kinds) (fact : Fact) → WellMade style state → subject fact ≡ state.next
    → IsOfStyle style fact → HasSmallInteger fact → HasByteText fact → HasShortText fact → WellMade style (with_result kind (fact ∷ []) [] state)
literal_made style state kind fact made about of_style integer bytes short =
    result_made style state kind (fact ∷ []) [] made (one_fits style (state.next + 1) fact (omega (arith, about)) of_style integer bytes short)

block_made : (style : Style) (state : State) (body : BodyId) (found : Option (Option ℕ)) (after : State) → WellMade style state
    → block_of body style.bodies ≡ found → block_pushed (option_and_then (λ number. number) found) state ≡ Some after → WellMade style after
block_made style state body None after made e is = absurd (cc)
block_made style state body (Some None) after made e is = absurd (cc)
block_made style state body (Some (Some number)) after made e is =
    subst (λ (x : State). WellMade style x) (the_same is)
    (literal_made style state Func (BlockFact (next_of state) number) made refl (body, e) tt tt tt)

bound_below : (style : Style) (state : State) (name : NameId) (a : Sym) (vars fields : Option Sym) → WellMade style state
    → symbol_at name state.vars ≡ vars → symbol_at name state.fields ≡ fields → option_or vars fields ≡ Some a → a.0 < state.next
bound_below style state name a (Some x) fields made e f is = found_below state.next name state.vars a made.vars (e ∙ is)
bound_below style state name a None fields made e f is = found_below state.next name state.fields a made.fields (f ∙ is)

-- the law of what is well made
pub push_made : (style : Style) (state : State) (token : Token) (after : State) → IsSound style → IsTokenSound style.names style.bodies style.texts token
    → WellMade style state → pushed_by style token state ≡ Some after → WellMade style after
push_made style state (IntToken n) after sound fits made is =
    subst (λ (x : State). WellMade style x) (the_same is) (literal_made style state Int (IntFact (next_of state) n) made refl tt fits tt tt)
push_made style state (StrToken text) after sound fits made is =
    let bytes : IsByteList (text_of style text) = each_of_texts IsByteList style.texts text.0 tt sound.byte_texts in
    let short : length (text_of style text) ≤ 2 ^ 45 =
    each_of_texts (λ (b : List ℕ). length b ≤ 2 ^ 45) style.texts text.0 (omega arith) (each_short style.texts sound.short_texts) in
    subst (λ (x : State). WellMade style x) (the_same is) (literal_made style state Str (TextFact (next_of state) (text_of style text)) made refl tt tt bytes short)
  where
    each_short : (texts : List (List ℕ)) → Each (λ text. length text ≤ STYLE_BYTES) texts → Each (λ text. length text ≤ 2 ^ 45) texts
    each_short [] all = tt
    each_short (first ∷ texts) all = (omega (arith, all.0), each_short texts all.1)
push_made style state (Quote name) after sound fits made is =
    subst (λ (x : State). WellMade style x) (the_same is) (literal_made style state Func (CallFact (next_of state) name) made refl fits tt tt tt)
push_made style state (BlockToken body) after sound fits made is = block_made style state body (block_of body style.bodies) after made refl is
push_made style state (Call name) after sound fits made is = name_made (bound name state) refl is
  where
    name_made : (found : Option Sym) → bound name state ≡ found → option_map (λ a. with_top a state) found ≡ Some after → WellMade style after
    name_made None e put = absurd (cc)
    name_made (Some a) e put =
        subst (λ (x : State). WellMade style x) (the_same put)
        (top_made style state a made (bound_below style state name a (symbol_at name state.vars) (symbol_at name state.fields) made refl refl e))

-- the law of what stays
literal_leaves : (state : State) (kind : Kinds) (fact : Fact) → LeavesVariables state (with_result kind (fact ∷ []) [] state)
literal_leaves state kind fact =
    added state (state.stack ++ next_of state ∷ []) (state.next + 1) (kind_facts (next_of state) kind ++ fact ∷ []) [] (omega arith) (omega arith)

block_leaves : (state : State) (found : Option ℕ) (after : State) → block_pushed found state ≡ Some after → LeavesVariables state after
block_leaves state None after is = absurd (cc)
block_leaves state (Some number) after is =
    subst (λ (x : State). LeavesVariables state x) (the_same is) (literal_leaves state Func (BlockFact (next_of state) number))

bound_leaves : (state : State) (found : Option Sym) (after : State) → option_map (λ a. with_top a state) found ≡ Some after → LeavesVariables state after
bound_leaves state None after is = absurd (cc)
bound_leaves state (Some a) after is =
    subst (λ (x : State). LeavesVariables state x) (the_same is) (on_stack state (state.stack ++ a ∷ []))

pub push_leaves : (style : Style) (state : State) (token : Token) (after : State) → pushed_by style token state ≡ Some after → LeavesVariables state after
push_leaves style state (IntToken n) after is =
    subst (λ (x : State). LeavesVariables state x) (the_same is) (literal_leaves state Int (IntFact (next_of state) n))
push_leaves style state (StrToken text) after is =
    subst (λ (x : State). LeavesVariables state x) (the_same is) (literal_leaves state Str (TextFact (next_of state) (text_of style text)))
push_leaves style state (Quote name) after is =
    subst (λ (x : State). LeavesVariables state x) (the_same is) (literal_leaves state Func (CallFact (next_of state) name))
push_leaves style state (BlockToken body) after is = block_leaves state (option_and_then (λ number. number) (block_of body style.bodies)) after is
push_leaves style state (Call name) after is = bound_leaves state (bound name state) after is
