-- What the effect of a built-in function leaves of a state as it was.
use Rattle.std.proofs.Common.{◌≡◌, ◌≢◌, ℕ, zero, suc, ◌+◌, Bool, true, false, cond, nat_eq, inl, inr, List, [], ◌∷◌, map, reverse, Option, None, Some, Ok, option_map, refl, ap, subst, ◌∙◌, arith}
use Rattle.std.specs.Prelude.{ℤ, pos, negsuc, ◌+ℤ◌, ◌-ℤ◌}
use Rattle.std.specs.Option.{option_map_or}
use Rattle.std.proofs.lemmas.Bool.Decides.{nat_tests}
use Rattle.name_table.specs.declared.builtin.Builtin.{Builtin}
use Rattle.name_table.specs.declared.builtin.Builtin.TheVariants as op
use Rattle.name_table.specs.declared.names.Kind.{Kind}
use Rattle.name_table.specs.declared.names.Kind.TheVariants.{Field, IntEntry, StrEntry, IntGlobal, StrGlobal}
use Rattle.name_table.specs.declared.names.NameId.{NameId}
use Rattle.name_table.specs.declared.style.Style.{Style}
use Rattle.name_table.specs.Names.{kind_at}
use Rattle.bst_meaning.specs.declared.condition.Cond.{Cond}
use Rattle.bst_meaning.specs.StyleParts.{kind_of}
use Rattle.sym_state.specs.declared.hint.Hint.{Hint}
use Rattle.sym_state.specs.State.{State}
use Rattle.sym_state.specs.declared.symbol.Bind.{Bind}
use Rattle.sym_state.specs.declared.symbol.Sym.{Sym}
use Rattle.sym_state.specs.Changes.{rebound, symbol_at, with_bind}
use Rattle.sym_state.specs.Decided.{ByName, ByNumber, Function, exact_function, exact_integer, exact_text}
use Rattle.sym_state.specs.Demands.{After, Chooses, Gives, Rule}
use Rattle.sym_state.specs.Effects.{assigned, assigned_to, byte_number, cut_bound, effect_of, exact_sum, fits_exactly, one_byte, rule_of, string_assigned, summed}
use Rattle.sym_state.specs.Frames.{EffectFrame, LeavesVariables}
use Rattle.sym_state.specs.References.{at_most}
use Rattle.lin_facts.specs.declared.row.Term.TheVariants.{Length}
use Rattle.sym_state.specs.WellMade.{WellMade, ids_from, is_field, is_variable}
use Rattle.sym_state.proofs.Ensured.{Ensures, ensured}
use Rattle.sym_state.proofs.Leaving.{added, moved}
use Rattle.sym_state.proofs.Pushing.{without}
use Rattle.sym_state.proofs.Rebound.{rebound_none, symbol_rebound}
use Rattle.builtin_effects.proofs.Rebinding.{Differs, later_differ}

-- every state that a rule gives is framed
abbrev Frames : Style → Cond → Builtin → State → Rule → Type 0
Frames style admits o state rule = Ensures admits state (EffectFrame style o state) rule

-- a name of a kind that isn't bound
none_of : (name : NameId) (binds : List Bind) → Differs name.0 binds → symbol_at name binds ≡ None
none_of name [] differ = refl
none_of name (b ∷ binds) differ =
    ap (λ (t : Bool). cond t (Some b.sym) (symbol_at name binds)) differ.0 ∙ none_of name binds differ.1

lower_differs : (n id i : ℕ) → n ≡ id → nat_eq n (id + suc i) ≡ false
lower_differs n id i e = grind (arith, nat_tests)

first_unbound : (id i : ℕ) (rest : List NameId) (binds : List Bind) → map (λ b. b.name) binds ≡ record { 0 = id } ∷ rest
    → ((bs : List Bind) → map (λ b. b.name) bs ≡ rest → symbol_at (record { 0 = suc id + i }) bs ≡ None)
    → symbol_at (record { 0 = id + suc i }) binds ≡ None
first_unbound id i rest [] e later = absurd (cc)
first_unbound id i rest (b ∷ binds) e later =
    let head : b.name ≡ record { 0 = id } = cc in
    let tail : map (λ b. b.name) binds ≡ rest = cc in
    let next : suc id + i ≡ id + suc i = omega arith in
    ap (λ (t : Bool). cond t (Some b.sym) (symbol_at (record { 0 = id + suc i }) binds)) (lower_differs b.name.0 id i (ap (λ (n : NameId). n.0) head))
    ∙ subst (λ (n : ℕ). symbol_at (record { 0 = n }) binds ≡ None) next (later binds tail)

unbound_at : (test : Kind → Bool) (id i : ℕ) (names : List (List ℕ × Kind)) (kind : Kind) (binds : List Bind)
    → kind_at (record { 0 = i }) names ≡ Some kind → test kind ≡ false → map (λ b. b.name) binds ≡ ids_from test id names
    → symbol_at (record { 0 = id + i }) binds ≡ None
unbound_at test id i [] kind binds is fails e = absurd (cc)
unbound_at test id zero (name ∷ names) kind binds is fails e =
    let same : kind ≡ name.1 = cc in
    let skips : test name.1 ≡ false = subst (λ (k : Kind). test k ≡ false) same fails in
    let ids : map (λ b. b.name) binds ≡ ids_from test (suc id) names =
    e ∙ ap (λ (t : Bool). cond t (record { 0 = id } ∷ ids_from test (suc id) names) (ids_from test (suc id) names)) skips in
    none_of (record { 0 = id + 0 }) binds (later_differ test (suc id) (id + 0) names binds (omega arith) ids)
unbound_at test id (suc i) (name ∷ names) kind binds is fails e =
    let rest : List NameId = ids_from test (suc id) names in
    let next : suc id + i ≡ id + suc i = omega arith in
    elim (test name.1) as (λ (t : Bool). map (λ b. b.name) binds ≡ cond t (record { 0 = id } ∷ rest) rest
    → symbol_at (record { 0 = id + suc i }) binds ≡ None) [
      | true ↦ λ found. first_unbound id i rest binds found (λ bs ids. unbound_at test (suc id) i names kind bs is fails ids)
      | false ↦ λ found. subst (λ (n : ℕ). symbol_at (record { 0 = n }) binds ≡ None) next (unbound_at test (suc id) i names kind binds is fails found)
    ] e

-- no field is a variable
not_field : (at_entry : Bool) (kind : Kind) → is_variable at_entry kind ≡ true → is_field at_entry kind ≡ false
not_field at_entry Field e = absurd (cc)
not_field at_entry _ e = refl

fields_left : (style : Style) (state : State) (name : NameId) (kind : Kind) (symbol : Sym) → WellMade style state
    → kind_of style name ≡ Some kind → is_variable state.at_entry kind ≡ true → rebound name symbol state.fields ≡ state.fields
fields_left style state name kind symbol made is variable =
    let none : 0 + name.0 ≡ name.0 = omega arith in
    rebound_none name symbol state.fields (subst (λ (n : ℕ). symbol_at (record { 0 = n }) state.fields ≡ None) none
    (unbound_at (is_field state.at_entry) 0 name.0 style.names kind state.fields is (not_field state.at_entry kind variable) made.binds_fields))

other_number : (a b : ℕ) → a ≢ b → nat_eq b a ≡ false
other_number a b differ = grind (arith, nat_tests)

others_left : (name other : NameId) (symbol : Sym) (binds : List Bind) → other.0 ≢ name.0
    → symbol_at other (rebound name symbol binds) ≡ symbol_at other binds
others_left name other symbol binds differ =
    symbol_rebound other name symbol binds
    ∙ ap (λ (t : Bool). cond t (option_map (λ s. symbol) (symbol_at other binds)) (symbol_at other binds)) (other_number other.0 name.0 differ)

-- the top symbol's exact function is a variable of a kind
record Names (style : Style) (state : State) (f : Sym) (below : List Sym) (name : NameId) (kind : Kind) : Type 0 where
  pub made : WellMade style state
  pub tops : reverse state.stack ≡ f ∷ below
  pub named : exact_function state.facts f.0 ≡ Some (ByName name)
  pub is : kind_of style name ≡ Some kind
  pub variable : is_variable state.at_entry kind ≡ true

-- it is bound to a symbol, in a state that leaves the variables
assigns : (style : Style) (state rest : State) (f : Sym) (below : List Sym) (name : NameId) (kind : Kind) (symbol : Sym)
    → Names style state f below name kind → LeavesVariables state rest → EffectFrame style op.Assign state (with_bind name symbol rest)
assigns style state rest f below name kind symbol names left = inr (
  refl,
  record {
    extends = record {
      whole = left.extends.whole;
      at_entry = left.extends.at_entry;
      fields = ap (λ (bs : List Bind). rebound name symbol bs) left.extends.fields ∙ fields_left style state name kind symbol names.made names.is names.variable;
      next = left.extends.next;
      few = left.extends.few;
      facts = left.extends.facts;
      rows = left.extends.rows;
    };
    top = f;
    below = below;
    on_top = names.tops;
    name = name;
    named = names.named;
    variable = ap (λ (o : Option Kind). option_map_or (is_variable state.at_entry) o false) names.is ∙ names.variable;
    symbol = symbol;
    vars = ap (λ (bs : List Bind). rebound name symbol bs) left.vars;
    others = λ other differ. ap (λ (bs : List Bind). symbol_at other (rebound name symbol bs)) left.vars ∙ others_left name other symbol state.vars differ;
  },
)

string_framed : (style : Style) (admits : Cond) (state : State) (f : Sym) (below rest : List Sym) (name : NameId) (kind : Kind) (most : ℕ) (a : Sym)
    → Names style state f below name kind → Frames style admits op.Assign state (string_assigned state name most a (without rest state))
string_framed style admits state f below rest name kind most a names =
    let bound = assigns style state (without rest state) f below name kind a names (moved state (reverse rest)) in
    let cut = assigns style state _ f below name kind (record { 0 = state.next }) names
    (added state (reverse rest) (state.next + 1) _ (at_most (Length state.next) (pos most) ∷ []) (omega arith) (omega arith)) in
    elim (fits_exactly (exact_text state.facts a.0) most) as (λ (t : Bool). Frames style admits op.Assign state
    (cond t (Gives (with_bind name a (without rest state))) (Chooses true (at_most (Length a.0) (pos most)) (Gives (with_bind name a (without rest state))) (cut_bound name most (without rest state))))) [
      | true ↦ bound
      | false ↦ (λ wanted shown. bound, cut)
    ]

assigned_framed : (style : Style) (admits : Cond) (state : State) (f : Sym) (below rest : List Sym) (name : NameId) (kind : Option Kind) (a : Sym)
    → WellMade style state → reverse state.stack ≡ f ∷ below → exact_function state.facts f.0 ≡ Some (ByName name) → kind_of style name ≡ kind
    → Frames style admits op.Assign state (assigned state kind name a (without rest state))
assigned_framed style admits state f below rest name (Some IntGlobal) a made tops named is = λ met.
    assigns style state (without rest state) f below name IntGlobal a (record { made = made; tops = tops; named = named; is = is; variable = refl }) (moved state (reverse rest))
assigned_framed style admits state f below rest name (Some StrGlobal) a made tops named is = λ met.
    string_framed style admits state f below rest name StrGlobal 20000 a (record { made = made; tops = tops; named = named; is = is; variable = refl })
assigned_framed style admits state f below rest name (Some IntEntry) a made tops named is = λ there met.
    assigns style state (without rest state) f below name IntEntry a (record { made = made; tops = tops; named = named; is = is; variable = there }) (moved state (reverse rest))
assigned_framed style admits state f below rest name (Some StrEntry) a made tops named is = λ there met.
    string_framed style admits state f below rest name StrEntry 250 a (record { made = made; tops = tops; named = named; is = is; variable = there })
assigned_framed style admits state f below rest name _ a made tops named is = tt

assigned_to_framed : (style : Style) (admits : Cond) (state : State) (f : Sym) (below rest : List Sym) (found : Option Function) (a : Sym)
    → WellMade style state → reverse state.stack ≡ f ∷ below → exact_function state.facts f.0 ≡ found
    → Frames style admits op.Assign state (assigned_to style state found a (without rest state))
assigned_to_framed style admits state f below rest (Some (ByName name)) a made tops named =
    assigned_framed style admits state f below rest name (kind_of style name) a made tops named refl
assigned_to_framed style admits state f below rest (Some (ByNumber number)) a made tops named = tt
assigned_to_framed style admits state f below rest None a made tops named = tt

-- numbers
summed_framed : (style : Style) (admits : Cond) (o : Builtin) (state : State) (sign : ℤ) (a b : Sym) (rest : List Sym) (found : Option ℤ)
    → Frames style admits o state (summed sign a b (without rest state) found)
summed_framed style admits o state sign a b rest (Some n) = λ met. inl (added state _ _ _ _ (omega arith) (omega arith))
summed_framed style admits o state sign a b rest None = λ low high. inl (added state _ _ _ _ (omega arith) (omega arith))

byte_framed : (style : Style) (admits : Cond) (o : Builtin) (state : State) (a : Sym) (rest : List Sym) (found : Option ℕ)
    → Frames style admits o state (byte_number a (without rest state) found)
byte_framed style admits o state a rest (Some b) = inl (added state _ _ _ _ (omega arith) (omega arith))
byte_framed style admits o state a rest None = λ low high. inl (added state _ _ _ _ (omega arith) (omega arith))

-- the rule of each built-in function
rule_framed : (style : Style) (admits : Cond) (state : State) (o : Builtin) → WellMade style state → Frames style admits o state (rule_of style admits state o)
rule_framed style admits state op.Plus made = λ a b rest tops lower_met upper_met.
    summed_framed style admits op.Plus state (pos 1) a b rest (exact_sum (exact_integer state.facts a.0) (exact_integer state.facts b.0) (λ x y. x +ℤ y))
rule_framed style admits state op.Minus made = λ a b rest tops lower_met upper_met.
    summed_framed style admits op.Minus state (negsuc 0) a b rest (exact_sum (exact_integer state.facts a.0) (exact_integer state.facts b.0) (λ x y. x -ℤ y))
rule_framed style admits state op.Join made = λ a b rest tops lower_met upper_met. inl (added state _ _ _ _ (omega arith) (omega arith))
rule_framed style admits state op.Assign made = λ a f rest tops lower_met upper_met.
    assigned_to_framed style admits state f (a ∷ rest) rest (exact_function state.facts f.0) a made tops refl
rule_framed style admits state op.AddPeriod made = λ a rest tops met. inl (added state _ _ _ _ (omega arith) (omega arith))
rule_framed style admits state op.ChangeCase made = λ a c rest tops lower_met upper_met mode. inl (added state _ _ _ _ (omega arith) (omega arith))
rule_framed style admits state op.ChrToInt made = λ a rest tops met. byte_framed style admits op.ChrToInt state a rest (one_byte (exact_text state.facts a.0))
rule_framed style admits state op.Cite made = λ met. inl (added state _ _ _ _ (omega arith) (omega arith))
rule_framed style admits state op.Duplicate made = λ a rest tops met. inl (moved state _)
rule_framed style admits state op.FormatName made = λ s i p rest tops lowest_met middle_met top_met low high formed known.
    inl (added state _ _ _ _ (omega arith) (omega arith))
rule_framed style admits state op.IntToChr made = λ a rest tops met low high. inl (added state _ _ _ _ (omega arith) (omega arith))
rule_framed style admits state op.IntToStr made = λ a rest tops met. inl (added state _ _ _ _ (omega arith) (omega arith))
rule_framed style admits state op.Newline made = inl (moved state state.stack)
rule_framed style admits state op.NumNames made = λ a rest tops met few. inl (added state _ _ _ _ (omega arith) (omega arith))
rule_framed style admits state op.Pop made = λ a rest tops met. inl (moved state _)
rule_framed style admits state op.Preamble made = inl (added state _ _ _ _ (omega arith) (omega arith))
rule_framed style admits state op.Purify made = λ a rest tops met. inl (added state _ _ _ _ (omega arith) (omega arith))
rule_framed style admits state op.Quote made = inl (added state _ _ _ _ (omega arith) (omega arith))
rule_framed style admits state op.Skip made = inl (moved state state.stack)
rule_framed style admits state op.Stack made = λ whole. inl (moved state [])
rule_framed style admits state op.Substring made = λ a b c rest tops lowest_met middle_met top_met.
    (λ wanted shown. inl (added state _ _ _ _ (omega arith) (omega arith)), inl (added state _ _ _ _ (omega arith) (omega arith)))
rule_framed style admits state op.Swap made = λ a b rest tops lower_met upper_met. inl (moved state _)
rule_framed style admits state op.TextLength made = λ a rest tops met few. inl (added state _ _ _ _ (omega arith) (omega arith))
rule_framed style admits state op.TextPrefix made = λ a n rest tops lower_met upper_met. inl (added state _ _ _ _ (omega arith) (omega arith))
rule_framed style admits state op.Top made = λ a rest tops met. inl (moved state _)
rule_framed style admits state op.TypeName made = λ met. inl (added state _ _ _ _ (omega arith) (omega arith))
rule_framed style admits state op.Warning made = λ a rest tops met. inl (moved state _)
rule_framed style admits state op.Width made = λ a rest tops met few. inl (added state _ _ _ _ (omega arith) (omega arith))
rule_framed style admits state op.Write made = λ a rest tops met. inl (moved state _)
rule_framed style admits state _ made = tt

pub effect_framed : (style : Style) (admits : Cond) (state : State) (o : Builtin) (hints : List Hint) (after : After) → WellMade style state
    → effect_of style admits state o hints ≡ Ok after → EffectFrame style o state after.state
effect_framed style admits state o hints after made e =
    ensured admits state (EffectFrame style o state) (rule_of style admits state o) hints after (rule_framed style admits state o made) e
