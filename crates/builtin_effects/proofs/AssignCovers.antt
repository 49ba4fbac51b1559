-- The effect of `:=` covers the machine.
use Rattle.std.proofs.Common.{◌≡◌, ℕ, ◌≤◌, Bool, true, false, cond, List, [], ◌∷◌, ◌++◌, length, take, reverse, Option, None, Some, Ok, refl, sym, ap, subst, ◌∙◌, arith}
use Rattle.std.specs.Prelude.{pos, nat_le}
use Rattle.std.specs.Option.{option_map}
use Rattle.std.proofs.lemmas.Bool.{le-leb, leb-true}
use Rattle.std.proofs.lemmas.Int.{ints}
use Rattle.std.proofs.lemmas.List.{length-take, reverse-reverse}
use Rattle.lin_facts.specs.declared.row.Term.TheVariants.{Length as LengthOf}
use Rattle.name_table.specs.declared.builtin.Builtin.TheVariants as op
use Rattle.name_table.specs.declared.names.Kind.{Kind}
use Rattle.name_table.specs.declared.names.Kind.TheVariants.{IntEntry, StrEntry, IntGlobal, StrGlobal}
use Rattle.name_table.specs.declared.names.NameId.{NameId}
use Rattle.bst_meaning.specs.declared.value.Target.TheVariants.{Named}
use Rattle.bst_meaning.specs.declared.value.Value.{Value}
use Rattle.bst_meaning.specs.declared.value.Value.TheVariants.{Func as FuncValue, Int as IntValue, Str as StrValue}
use Rattle.bst_meaning.specs.Builtins.{assign_to, assigned_integer, assigned_string, at_entry, built_in, cut_warning}
use Rattle.bst_meaning.specs.Config.{Config, EntryState, Variable}
use Rattle.bst_meaning.specs.Effect.{Effect, left}
use Rattle.bst_meaning.specs.Entries.{IsByteList}
use Rattle.bst_meaning.specs.Machine.{assigned_by}
use Rattle.bst_meaning.specs.StyleParts.{kind_of}
use Rattle.sym_state.specs.State.{State}
use Rattle.sym_state.specs.declared.symbol.Kinds.TheVariants.{Str}
use Rattle.sym_state.specs.declared.symbol.Sym.{Sym}
use Rattle.sym_state.specs.Changes.{with_bind}
use Rattle.sym_state.specs.Decided.{ByName, ByNumber, Function, exact_function, exact_text}
use Rattle.sym_state.specs.Demands.{Chooses, Gives, Rule}
use Rattle.sym_state.specs.Effects.{assigned_to, cut_bound, effect_of, fits_exactly, string_assigned}
use Rattle.sym_state.specs.Effects as rule
use Rattle.sym_state.specs.References.{at_most}
use Rattle.sym_state.specs.Results.{next_of, with_symbol}
use Rattle.sym_state.specs.Symbols.{Valuation, length_of, numbers}
use Rattle.sym_state.specs.WellMade.{is_field, is_variable}
use Rattle.sym_state.proofs.Deciding.{exact_text_is}
use Rattle.sym_state.proofs.Frames.{agrees_self, next_agrees}
use Rattle.sym_state.proofs.KnownKinds.{name_is}
use Rattle.sym_state.proofs.Pushing.{moved, with_stack, without}
use Rattle.sym_state.proofs.RowSums.{at_most_says}
use Rattle.sym_state.proofs.Saying.{at_most_holds}
use Rattle.sym_state.proofs.Spots.{Spot}
use Rattle.builtin_effects.proofs.Assigned.{Assigned, assigned, rebound_stands, variable_bound}
use Rattle.name_table.proofs.ByteLists.{bytes_taken}
use Rattle.builtin_effects.proofs.Covering.{CoversAt, after_value, around, lower, row_met, term_new_length, two_given, unseen, value_new, CoversBy, CoversOf}
use Rattle.builtin_effects.proofs.EntryCovers.{entry_given}
use Rattle.builtin_effects.proofs.OperandValues.{IsText, number_met, text_met}
use Rattle.builtin_effects.proofs.Rebinding.{Unique, each_once}
use Rattle.sym_state.proofs.Below.{two_below}

-- a value and the name of a variable on top
record Assigning (s : Spot) (name : NameId) (kind : Kind) (a f : Sym) (rest : List Sym) : Type 0 where
  pub tops : reverse s.state.stack ≡ f ∷ (a ∷ rest)
  pub target : s.v.value f.0 ≡ FuncValue (Named name)
  pub kind_is : kind_of s.style name ≡ Some kind
  pub variable : is_variable s.state.at_entry kind ≡ true

machine_assigns : (s : Spot) (name : NameId) (kind : Kind) (a f : Sym) (rest : List Sym) (value : Value) → Assigning s name kind a f rest → s.v.value a.0 ≡ value
    → built_in op.Assign (around s) s.c.stack ≡ assign_to (around s) (Some kind) name value (lower s rest)
machine_assigns s name kind a f rest value g is =
    two_given s op.Assign a f rest value (FuncValue (Named name)) g.tops is g.target
    ∙ ap (λ (k : Option Kind). assign_to (around s) k name value (lower s rest)) g.kind_is

-- what the machine assigns, and what it logs
abbrev assigning : Spot → List Sym → NameId → Value → List (List ℕ) → Effect
assigning s rest name value logged = record (left (lower s rest)) { assigned = Some (record { name = name; value = value }); logged = logged }

abbrev before : Spot → List Sym → List (List ℕ) → Config
before s rest logged = with_stack (lower s rest) (s.c.events ++ []) (s.c.log ++ logged) s.c

assigned_there : (s : Spot) (name : NameId) (kind : Kind) (a f : Sym) (rest : List Sym) (value : Value) (logged : List (List ℕ)) → Assigning s name kind a f rest
    → Assigned s.style name value (before s rest logged) (assigned_by (kind_of s.style name) (record { name = name; value = value }) (before s rest logged))
assigned_there s name kind a f rest value logged g =
    let old = variable_bound s name kind g.kind_is g.variable in
    assigned s.style (record { name = name; value = value }) kind s.state.at_entry (before s rest logged) old.value g.kind_is g.variable
    old.is

once_vars : (s : Spot) → Unique s.state.vars
once_vars s = each_once (is_variable s.state.at_entry) 0 s.style.names s.state.vars s.made.binds_vars

once_fields : (s : Spot) → Unique s.state.fields
once_fields s = each_once (is_field s.state.at_entry) 0 s.style.names s.state.fields s.made.binds_fields

-- the symbol of the value is bound
symbol_bound : (s : Spot) (name : NameId) (kind : Kind) (a f : Sym) (rest : List Sym) (value : Value)
    → Assigning s name kind a f rest → s.v.value a.0 ≡ value
    → assign_to (around s) (Some kind) name value (lower s rest) ≡ Ok (assigning s rest name value [])
    → CoversAt s op.Assign (with_bind name a (without rest s.state))
symbol_bound s name kind a f rest value g is machine =
    let c : Config = before s rest [] in
    let new : Variable = record { name = name; value = value } in
    let there = assigned_there s name kind a f rest value [] g in
    let stands = moved s.style s.admits s.list s.v s.state s.c s.below rest (reverse rest) (s.c.events ++ []) (s.c.log ++ []) s.stands (reverse-reverse rest) in record {
      effect = assigning s rest name value [];
      gives = machine_assigns s name kind a f rest value g is ∙ machine;
      assignment = s.v;
      agrees = agrees_self s.state.next s.v;
      stands = rebound_stands s s.v (without rest s.state) c (assigned_by (kind_of s.style name) new c) name a stands (once_vars s) (once_fields s)
          (subst (λ (x : Value). Assigned s.style name x c (assigned_by (kind_of s.style name) new c)) (sym is) there);
    }

-- a new symbol is bound, of a string that is no longer than the variable
new_bound : (s : Spot) (name : NameId) (kind : Kind) (a f : Sym) (rest : List Sym) (bytes y : List ℕ) (size : ℕ) (logged : List (List ℕ))
    → Assigning s name kind a f rest → s.v.value a.0 ≡ StrValue bytes → IsByteList y → length y ≤ size
    → assign_to (around s) (Some kind) name (StrValue bytes) (lower s rest) ≡ Ok (assigning s rest name (StrValue y) logged)
    → CoversBy s op.Assign (cut_bound name size (without rest s.state))
new_bound s name kind a f rest bytes y size logged g is fine few machine =
    let r = LengthOf s.state.next in
    let rows = at_most r (pos size) ∷ [] in
    let value : Value = StrValue y in
    let w : Valuation = after_value s value in
    let wr : numbers w r ≡ pos (length y) = term_new_length s value in
    let inner : State = with_symbol Str [] rows (without rest s.state) in
    let c : Config = before s rest logged in
    let new : Variable = record { name = name; value = value } in
    let there = assigned_there s name kind a f rest value logged g in
    let stands = unseen s rest Str [] rows value (s.c.events ++ []) (s.c.log ++ logged) (two_below s.style s.state a f rest s.made g.tops).others fine refl tt
    (at_most_holds (numbers w) r (pos size) (omega (arith, ints, wr, few)), tt) in record {
      effect = assigning s rest name value logged;
      gives = machine_assigns s name kind a f rest (StrValue bytes) g is ∙ machine;
      assignment = w;
      agrees = next_agrees s.state.next value s.v;
      stands = rebound_stands s w inner c (assigned_by (kind_of s.style name) new c) name (next_of s.state) stands (once_vars s) (once_fields s)
          (subst (λ (x : Value). Assigned s.style name x c (assigned_by (kind_of s.style name) new c)) (sym (value_new s value)) there);
    }

-- a string that isn't too long is assigned whole, and a longer one is cut
whole_string : (s : Spot) (name : NameId) (size : ℕ) (bytes : List ℕ) (rest : List Sym) → nat_le (length bytes) size ≡ true
    → assigned_string s.style name size bytes (lower s rest) ≡ Ok (assigning s rest name (StrValue bytes) [])
whole_string s name size bytes rest e =
    ap (λ (t : Bool). cond t (Ok (assigning s rest name (StrValue bytes) []))
    (Ok (assigning s rest name (StrValue (take size bytes)) (cut_warning s.style name size ∷ [])))) e

cut_string : (s : Spot) (name : NameId) (size : ℕ) (bytes : List ℕ) (rest : List Sym) → nat_le (length bytes) size ≡ false
    → assigned_string s.style name size bytes (lower s rest) ≡ Ok (assigning s rest name (StrValue (take size bytes)) (cut_warning s.style name size ∷ []))
cut_string s name size bytes rest e =
    ap (λ (t : Bool). cond t (Ok (assigning s rest name (StrValue bytes) []))
    (Ok (assigning s rest name (StrValue (take size bytes)) (cut_warning s.style name size ∷ [])))) e

taken_few : (size : ℕ) (bytes : List ℕ) → length (take size bytes) ≤ size
taken_few size bytes = let taken = length-take size bytes in omega (arith, taken)

-- where its text is exact and not too long
exact_fits : (s : Spot) (a : Sym) (bytes : List ℕ) (size : ℕ) → s.v.value a.0 ≡ StrValue bytes → fits_exactly (exact_text s.state.facts a.0) size ≡ true
    → nat_le (length bytes) size ≡ true
exact_fits s a bytes size is e =
    elim (exact_text s.state.facts a.0) as (λ (o : Option (List ℕ)). exact_text s.state.facts a.0 ≡ o → fits_exactly o size ≡ true → nat_le (length bytes) size ≡ true) [
      | Some text ↦ λ exact found.
          let same : StrValue text ≡ StrValue bytes = sym (exact_text_is s.style s.v a.0 s.state.facts text s.stands.satisfied.facts exact) ∙ is in
          let text_is : text ≡ bytes = cc in
          subst (λ (l : List ℕ). nat_le (length l) size ≡ true) text_is found
      | None ↦ λ exact found. absurd (cc)
    ] refl e

-- a string is bound whole or cut, whatever its length
loosely_bound : (s : Spot) (name : NameId) (kind : Kind) (a f : Sym) (rest : List Sym) (size : ℕ) (text : IsText s a) → Assigning s name kind a f rest
    → assign_to (around s) (Some kind) name (StrValue text.bytes) (lower s rest) ≡ assigned_string s.style name size text.bytes (lower s rest)
    → CoversBy s op.Assign (cut_bound name size (without rest s.state))
loosely_bound s name kind a f rest size text g machine =
    let x : List ℕ = text.bytes in
    elim (nat_le (length x) size) as (λ (t : Bool). nat_le (length x) size ≡ t → CoversBy s op.Assign (cut_bound name size (without rest s.state))) [
      | true ↦ λ few.
          new_bound s name kind a f rest x x size [] g text.is text.fine (leb-true (length x) size few) (machine ∙ whole_string s name size x rest few)
      | false ↦ λ long.
          new_bound s name kind a f rest x (take size x) size (cut_warning s.style name size ∷ []) g text.is
          (bytes_taken size x text.fine) (taken_few size x) (machine ∙ cut_string s name size x rest long)
    ] refl

string_covers : (s : Spot) (name : NameId) (kind : Kind) (a f : Sym) (rest : List Sym) (size : ℕ) → Assigning s name kind a f rest → (text : IsText s a)
    → assign_to (around s) (Some kind) name (StrValue text.bytes) (lower s rest) ≡ assigned_string s.style name size text.bytes (lower s rest)
    → CoversBy s op.Assign (string_assigned s.state name size a (without rest s.state))
string_covers s name kind a f rest size g text machine =
    let x : List ℕ = text.bytes in
    let row = at_most (LengthOf a.0) (pos size) in
    let kept : Rule = Gives (with_bind name a (without rest s.state)) in
    let cut : Rule = cut_bound name size (without rest s.state) in
    let all : nat_le (length x) size ≡ true → CoversBy s op.Assign kept =
    λ few. symbol_bound s name kind a f rest (StrValue x) g text.is (machine ∙ whole_string s name size x rest few) in
    elim (fits_exactly (exact_text s.state.facts a.0) size) as (λ (t : Bool). fits_exactly (exact_text s.state.facts a.0) size ≡ t
    → CoversBy s op.Assign (cond t kept (Chooses true row kept cut))) [
      | true ↦ λ fits. all (exact_fits s a x size text.is fits)
      | false ↦ λ fits. (
        λ wanted shown.
            let says = at_most_says (numbers s.v) (LengthOf a.0) (pos size) (row_met s row shown) in
            let length_is : numbers s.v (LengthOf a.0) ≡ pos (length x) = ap length_of text.is in
            all (le-leb (length x) size (omega (arith, ints, says, length_is))),
        loosely_bound s name kind a f rest size text g machine,
      )
    ] refl

-- by the kind of the variable
kind_covers : (s : Spot) (name : NameId) (kind : Option Kind) (a f : Sym) (rest : List Sym)
    → reverse s.state.stack ≡ f ∷ (a ∷ rest) → s.v.value f.0 ≡ FuncValue (Named name) → kind_of s.style name ≡ kind
    → CoversBy s op.Assign (rule.assigned s.state kind name a (without rest s.state))
kind_covers s name (Some IntGlobal) a f rest tops target is = λ met.
    let number = number_met s a met in
    symbol_bound s name IntGlobal a f rest (IntValue number.n) (record { tops = tops; target = target; kind_is = is; variable = refl }) number.is refl
kind_covers s name (Some StrGlobal) a f rest tops target is = λ met.
    string_covers s name StrGlobal a f rest 20000 (record { tops = tops; target = target; kind_is = is; variable = refl }) (text_met s a met) refl
kind_covers s name (Some IntEntry) a f rest tops target is = λ there met.
    let number = number_met s a met in
    let entry = entry_given s there in
    symbol_bound s name IntEntry a f rest (IntValue number.n) (record { tops = tops; target = target; kind_is = is; variable = there }) number.is
    (ap (λ (o : Option EntryState). at_entry (option_map (λ x. x.entry) o) (λ _. assigned_integer name number.n (lower s rest))) entry.visited)
kind_covers s name (Some StrEntry) a f rest tops target is = λ there met.
    let text = text_met s a met in
    let entry = entry_given s there in
    string_covers s name StrEntry a f rest 250 (record { tops = tops; target = target; kind_is = is; variable = there }) text
    (ap (λ (o : Option EntryState). at_entry (option_map (λ x. x.entry) o) (λ _. assigned_string s.style name 250 text.bytes (lower s rest))) entry.visited)
kind_covers s name _ a f rest tops target is = tt

pub assign_covers : (s : Spot) → CoversOf s op.Assign
assign_covers s = λ a f rest tops lower_met upper_met.
    elim (exact_function s.state.facts f.0) as (λ (o : Option Function). exact_function s.state.facts f.0 ≡ o
    → CoversBy s op.Assign (assigned_to s.style s.state o a (without rest s.state))) [
      | Some (ByName name) ↦ λ exact.
          kind_covers s name (kind_of s.style name) a f rest tops (name_is s.style s.v f.0 s.state.facts name s.stands.satisfied.facts exact) refl
      | Some (ByNumber number) ↦ λ exact. tt
      | None ↦ λ exact. tt
    ] refl
