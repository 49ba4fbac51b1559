-- A piece that was read fits its style, and its symbols are where it says.
use Rattle.std.proofs.Common.{◌≡◌, ◌≢◌, ℕ, suc, ◌+◌, ◌*◌, ◌^◌, ◌≤◌, ◌<◌, ◌&&◌, ◌||◌, ◌⊎◌, inl, inr, not, Bool, true, false, nat_eq, nat_lt, max, List, [], ◌∷◌, ◌++◌, length, length-append, map, slice_get, Option, None, Some, ℤ, pos, negsuc, refl, sym, ap, subst, arith}
use Rattle.std.specs.Prelude.{is_some}
use Rattle.std.specs.List.{All, sum_by}
use Rattle.std.specs.Option.{option_map, option_map_or}
use Rattle.std.proofs.lemmas.Bool.{and_parts}
use Rattle.std.proofs.lemmas.Bool.Decides.{nat_tests}
use Rattle.std.proofs.lemmas.List.Elements.{All-cons, All-nil}
use Rattle.std.proofs.lemmas.List.Sums.{sum_by-cons}
use Rattle.std.proofs.lemmas.List.{length-map}
use Rattle.std.proofs.lemmas.Option.{slice_get_within}
use Rattle.lin_facts.specs.declared.row.Part.{Part}
use Rattle.lin_facts.specs.declared.row.Row.{Row}
use Rattle.lin_facts.specs.declared.row.Term.{Term}
use Rattle.lin_facts.specs.declared.row.Term.TheVariants.{Value, Length, Names, Pos, Count}
use Rattle.name_table.specs.Names.{kind_at}
use Rattle.name_table.specs.Numbers.{has_32_bits}
use Rattle.name_table.specs.Sound.{Each, IsSound, block_of}
use Rattle.name_table.specs.declared.names.Kind.{Kind}
use Rattle.name_table.specs.declared.names.Kind.TheVariants as kind
use Rattle.name_table.specs.declared.names.NameId.{NameId}
use Rattle.name_table.specs.declared.style.BodyId.{BodyId}
use Rattle.name_table.specs.declared.style.Style.{Style}
use Rattle.bv_base.specs.declared.limits.TheConstants.{GREATEST_INTEGER}
use Rattle.bst_meaning.specs.StyleParts.{kind_of}
use Rattle.cert_format.specs.CertText.{IsFact, IsPart, IsPiece, IsRow, IsTerm, IsVariable, is_within, next_behind}
use Rattle.cert_format.specs.CondText.{IsField, is_chain}
use Rattle.cert_format.specs.Items.{is_field as read_field}
use Rattle.cert_format.specs.PieceItems.{body_of, is_before, term_rank, term_symbol}
use Rattle.cert_format.specs.PieceItems as items
use Rattle.cert_format.specs.declared.piece_items.TheConstants.{ROW_SIZE}
use Rattle.cert_format.proofs.CertTargets.{block_found}
use Rattle.sym_state.specs.Facts.{subject}
use Rattle.sym_state.specs.Positions.{position_size, position_sizes}
use Rattle.sym_state.specs.Starting.{IsFit, has_kind, placed, symbols_of}
use Rattle.sym_state.specs.WellMade.{HasByteText, HasShortText, HasSmallInteger, IsBounded, IsOfStyle, IsTermBelow, is_field, is_variable, size}
use Rattle.sym_state.specs.declared.piece.Piece.{Piece}
use Rattle.sym_state.specs.declared.symbol.Bind.{Bind}
use Rattle.sym_state.specs.declared.symbol.Fact.{Fact}
use Rattle.sym_state.specs.declared.symbol.Fact.TheVariants as fact
use Rattle.sym_state.proofs.Bounds.{within_size}
use Rattle.cert_check.specs.Certified.{IsMovable, IsPieceOf, IsShort, HasNoPos}
use Rattle.cert_check.specs.Left.{IsPlaced, IsPost}
use Rattle.cert_check.specs.Uses.{Passage}
use Rattle.cert_check.proofs.ReadPlaces.{InOrder, few_rise, go_upwards, in_order}

-- what holds of each item and gives something else of it
pub each_all : {A : Type 0} (P Q : A → Type 0) → ((x : A) → P x → Q x) → (xs : List A) → Each P xs → All Q xs
each_all P Q gives [] each = All-nil Q
each_all P Q gives (x ∷ xs) each = All-cons Q x xs (gives x each.0) (each_all P Q gives xs each.1)

pub each_each : {A : Type 0} (P Q : A → Type 0) → ((x : A) → P x → Q x) → (xs : List A) → Each P xs → Each Q xs
each_each P Q gives [] each = tt
each_each P Q gives (x ∷ xs) each = (gives x each.0, each_each P Q gives xs each.1)

-- a name that has a kind is one of the style's
pub name_there : (names : List (List ℕ × Kind)) (name : NameId) → is_some (kind_at name names) ≡ true → name.0 < length names
name_there names name is = by_entry (slice_get names name.0) refl is
  where
    by_entry : (o : Option (List ℕ × Kind)) → slice_get names name.0 ≡ o → is_some (option_map (λ entry. entry.1) o) ≡ true → name.0 < length names
    by_entry (Some entry) there e = slice_get_within names name.0 entry there
    by_entry None there e = absurd (cc)

-- variables and fields
variable_kind : (entry : Bool) (o : Option Kind) → items.is_variable o ≡ true → (items.is_of_entry o && not entry) ≡ false
    → (is_some o ≡ true) × (option_map_or (is_variable entry) o false ≡ true)
variable_kind true (Some kind.IntEntry) is at = (refl, refl)
variable_kind true (Some kind.StrEntry) is at = (refl, refl)
variable_kind false (Some kind.IntEntry) is at = absurd (cc)
variable_kind false (Some kind.StrEntry) is at = absurd (cc)
variable_kind entry (Some kind.IntGlobal) is at = (refl, refl)
variable_kind entry (Some kind.StrGlobal) is at = (refl, refl)
variable_kind entry (Some kind.Field) is at = absurd (cc)
variable_kind entry (Some (kind.Builtin op)) is at = absurd (cc)
variable_kind entry (Some (kind.Wizard body)) is at = absurd (cc)
variable_kind entry None is at = absurd (cc)

pub variable_is : (style : Style) (entry : Bool) (name : NameId) → IsVariable entry style.names name
    → (name.0 < length style.names) × (option_map_or (is_variable entry) (kind_at name style.names) false ≡ true)
variable_is style entry name is =
    let both = variable_kind entry (kind_at name style.names) is.0 is.1 in
    (name_there style.names name both.0, both.1)

field_is : (style : Style) (entry : Bool) (name : NameId) → IsField style.names name → entry ≡ true
    → (name.0 < length style.names) × (option_map_or (is_field entry) (kind_at name style.names) false ≡ true)
field_is style entry name is at =
    let both = by_kind entry (kind_at name style.names) is at in
    (name_there style.names name both.0, both.1)
  where
    by_kind : (entry : Bool) (o : Option Kind) → read_field o ≡ true → entry ≡ true → (is_some o ≡ true) × (option_map_or (is_field entry) o false ≡ true)
    by_kind entry (Some kind.Field) is at = (refl, at)
    by_kind entry (Some _) is at = absurd (cc)
    by_kind entry None is at = absurd (cc)

-- facts
record FactFitting (style : Style) (next : ℕ) (f : Fact) : Type 0 where
  below : subject f < next
  of_style : IsOfStyle style f
  integer : HasSmallInteger f
  bytes : HasByteText f

integer_small : (n : ℤ) → is_within (suc GREATEST_INTEGER) GREATEST_INTEGER n ≡ true → has_32_bits n ≡ true
integer_small (pos n) is = is
integer_small (negsuc n) is = grind (arith, nat_tests)

fact_fits : (style : Style) (next : ℕ) (f : Fact) → IsFact style next f → FactFitting style next f
fact_fits style next (fact.Is s k) is = record { below = is.0; of_style = tt; integer = tt; bytes = tt }
fact_fits style next (fact.Int s n) is = record { below = is.0; of_style = tt; integer = integer_small n is.1; bytes = tt }
fact_fits style next (fact.Text s text) is = record { below = is.0; of_style = tt; integer = tt; bytes = is.1 }
fact_fits style next (fact.Call s name) is = record { below = is.0; of_style = name_there style.names name is.1; integer = tt; bytes = tt }
fact_fits style next (fact.Block s number) is =
    record { below = is.0; of_style = by_body (body_of number style.bodies) refl is.2; integer = tt; bytes = tt }
  where
    by_body : (o : Option BodyId) → body_of number style.bodies ≡ o → is_some o ≡ true → (body : BodyId) × (block_of body style.bodies ≡ Some (Some number))
    by_body (Some body) there e = (body, block_found style.bodies number body there)
    by_body None there e = absurd (cc)
fact_fits style next (fact.Blank s) is = record { below = is; of_style = tt; integer = tt; bytes = tt }
fact_fits style next (fact.Nonblank s) is = record { below = is; of_style = tt; integer = tt; bytes = tt }
fact_fits style next (fact.Wellformed s) is = record { below = is; of_style = tt; integer = tt; bytes = tt }

-- rows
term_below : (has_pos : Bool) (next : ℕ) (t : Term) → IsTerm has_pos next t → IsTermBelow next t
term_below has_pos next (Value s) is = is
term_below has_pos next (Length s) is = is
term_below has_pos next (Names s) is = is
term_below has_pos next Pos is = tt
term_below has_pos next Count is = tt

no_pos : (next : ℕ) (t : Term) → IsTerm false next t → t ≢ Pos
no_pos next (Value s) is = λ e. absurd (cc)
no_pos next (Length s) is = λ e. absurd (cc)
no_pos next (Names s) is = λ e. absurd (cc)
no_pos next Pos is = absurd (cc)
no_pos next Count is = λ e. absurd (cc)

size_within : (n : ℤ) → is_within ROW_SIZE ROW_SIZE n ≡ true → size n ≤ ROW_SIZE
size_within (pos n) is = grind (arith, nat_tests)
size_within (negsuc n) is = grind (arith, nat_tests)

sizes_few : (has_pos : Bool) (next : ℕ) (parts : List Part) → Each (IsPart has_pos next) parts → sum_by (λ part. size part.coefficient) parts ≤ ROW_SIZE * length parts
sizes_few has_pos next [] each = omega arith
sizes_few has_pos next (part ∷ parts) each =
    let here = size_within part.coefficient each.0.small in
    let rest = sizes_few has_pos next parts each.1 in
    let all = sum_by-cons (λ (p : Part). size p.coefficient) part parts in
    omega (arith, here, rest, all)

row_bounded : (has_pos : Bool) (next : ℕ) (row : Row) → IsRow has_pos next row → IsBounded row
row_bounded has_pos next row is =
    let few = is.few in
    let all = sizes_few has_pos next row.parts is.parts in
    record {
      parts = few;
      constant = within_size (2 ^ 45) row.constant (let small = size_within row.constant is.constant in omega (arith, small));
      coefficients = omega (arith, few, all);
    }

row_below : (has_pos : Bool) (next : ℕ) (row : Row) → IsRow has_pos next row → All (λ part. IsTermBelow next part.term) row.parts
row_below has_pos next row is =
    each_all (IsPart has_pos next) (λ part. IsTermBelow next part.term) (λ part one. term_below has_pos next part.term one.term) row.parts is.parts

-- behind `pos` it doesn't stand again
behind_pos : (first t : Term) → 3 ≤ term_rank first → is_before first t ≡ true → (n : ℤ) → (position_size n t ≡ 0) × (3 ≤ term_rank t)
behind_pos first (Value s) high e n = absurd (low (term_rank first) 0 (term_symbol first) s high (omega arith) e)
  where
    low : (r b m k : ℕ) → 3 ≤ r → b ≤ 2 → (nat_lt r b || (nat_eq r b && nat_lt m k)) ≡ true → ⊥
    low r b m k high less e = grind (arith, nat_tests)
behind_pos first (Length s) high e n = absurd (low (term_rank first) 1 (term_symbol first) s high (omega arith) e)
  where
    low : (r b m k : ℕ) → 3 ≤ r → b ≤ 2 → (nat_lt r b || (nat_eq r b && nat_lt m k)) ≡ true → ⊥
    low r b m k high less e = grind (arith, nat_tests)
behind_pos first (Names s) high e n = absurd (low (term_rank first) 2 (term_symbol first) s high (omega arith) e)
  where
    low : (r b m k : ℕ) → 3 ≤ r → b ≤ 2 → (nat_lt r b || (nat_eq r b && nat_lt m k)) ≡ true → ⊥
    low r b m k high less e = grind (arith, nat_tests)
behind_pos first Pos high e n = absurd (none (term_rank first) (term_symbol first) high e)
  where
    none : (r m : ℕ) → 3 ≤ r → (nat_lt r 3 || (nat_eq r 3 && nat_lt m 0)) ≡ true → ⊥
    none r m high e = grind (arith, nat_tests)
behind_pos first Count high e n = (refl, omega arith)

abbrev rises : List Part → Bool
rises parts = is_chain (λ a b. is_before a.term b.term) parts

no_more_pos : (first : Part) (parts : List Part) → 3 ≤ term_rank first.term → rises (first ∷ parts) ≡ true → position_sizes parts ≡ 0
no_more_pos first [] high rise = refl
no_more_pos first (part ∷ parts) high rise =
    let both = and_parts (is_before first.term part.term) (rises (part ∷ parts)) rise in
    let one = behind_pos first.term part.term high both.0 part.coefficient in
    let rest = no_more_pos part parts one.1 both.1 in
    let here = one.0 in
    let sum = sum_by-cons (λ (p : Part). position_size p.coefficient p.term) part parts in
    omega (arith, sum, here, rest)

-- a part is no `pos`, or none is behind it
pos_case : (part : Part) (parts : List Part) (t : Term) → part.term ≡ t → rises (part ∷ parts) ≡ true
    → (position_size part.coefficient part.term ≡ 0) ⊎ ((position_size part.coefficient part.term ≡ size part.coefficient) × (position_sizes parts ≡ 0))
pos_case part parts Pos is rise =
    let high : 3 ≤ term_rank part.term = subst (λ (t : Term). 3 ≤ term_rank t) (sym is) (omega arith) in
    inr (ap (position_size part.coefficient) is, no_more_pos part parts high rise)
pos_case part parts (Value s) is rise = inl (ap (position_size part.coefficient) is)
pos_case part parts (Length s) is rise = inl (ap (position_size part.coefficient) is)
pos_case part parts (Names s) is rise = inl (ap (position_size part.coefficient) is)
pos_case part parts Count is rise = inl (ap (position_size part.coefficient) is)

later_rise : (first : Part) (parts : List Part) → rises (first ∷ parts) ≡ true → rises parts ≡ true
later_rise first [] rise = refl
later_rise first (second ∷ parts) rise = (and_parts (is_before first.term second.term) (rises (second ∷ parts)) rise).1

-- the coefficient of `pos` is within the limit
one_pos : (has_pos : Bool) (next : ℕ) (parts : List Part) → Each (IsPart has_pos next) parts → rises parts ≡ true → position_sizes parts ≤ ROW_SIZE
one_pos has_pos next [] each rise = omega arith
one_pos has_pos next (part ∷ parts) each rise =
    let sum = sum_by-cons (λ (p : Part). position_size p.coefficient p.term) part parts in
    let rest = one_pos has_pos next parts each.1 (later_rise part parts rise) in
    let small = size_within part.coefficient each.0.small in
    elim (pos_case part parts part.term refl rise) [
      | inl none ↦ omega (arith, sum, rest, none)
      | inr here ↦ let one = here.0 in let others = here.1 in omega (arith, sum, small, one, others)
    ]

row_movable : (has_pos : Bool) (next : ℕ) (row : Row) → IsRow has_pos next row → IsMovable row
row_movable has_pos next row is =
    let small = size_within row.constant is.constant in
    let few = one_pos has_pos next row.parts is.parts is.rise in
    omega (arith, small, few)

pub read_movable : (style : Style) (entry has_pos : Bool) (next : ℕ) (piece : Piece) → IsPiece style entry has_pos next piece → All IsMovable piece.rows
read_movable style entry has_pos next piece is =
    let end : ℕ = next_behind next (placed piece) in
    each_all (IsRow has_pos end) IsMovable (row_movable has_pos end) piece.rows is.rows

-- a piece of which the texts are short
pub record IsRead (style : Style) (entry : Bool) (has_pos : Bool) (next : ℕ) (piece : Piece) : Type 0 where
  pub is : IsPiece style entry has_pos next piece
  pub texts : All HasShortText piece.facts
  pub small : next ≤ 200000
  pub sound : IsSound style

-- how many bindings it has
module _ (style : Style) (entry : Bool) (has_pos : Bool) (next : ℕ) (piece : Piece) (read : IsRead style entry has_pos next piece) where
  few_vars : length piece.vars ≤ 65536
  few_vars =
      let few = few_rise (λ (b : Bind). b.name.0) (length style.names) piece.vars read.is.vars_rise
      (each_each (λ (b : Bind). IsVariable entry style.names b.name) (λ b. b.name.0 < length style.names)
      (λ b one. (variable_is style entry b.name one).0) piece.vars read.is.vars) in
      let most = read.sound.few_names in
      omega (arith, few, most)

  few_fields : length piece.fields ≤ 65536
  few_fields =
      let few = few_rise (λ (b : Bind). b.name.0) (length style.names) piece.fields read.is.fields_rise
      (each_each (λ (b : Bind). IsField style.names b.name × (entry ≡ true)) (λ b. b.name.0 < length style.names)
      (λ b one. (field_is style entry b.name one.0 one.1).0) piece.fields read.is.fields) in
      let most = read.sound.few_names in
      omega (arith, few, most)

  few_places : length (placed piece) ≤ 131136
  few_places =
      let vars = few_vars in
      let fields = few_fields in
      let stack = read.is.few_symbols in
      let vs = map (λ b. b.sym) piece.vars in
      let fs = map (λ b. b.sym) piece.fields in
      let all = length-append piece.stack (vs ++ fs) in
      let both = length-append vs fs in
      let v = length-map piece.vars (λ (b : Bind). b.sym) in
      let f = length-map piece.fields (λ (b : Bind). b.sym) in
      omega (arith, vars, fields, stack, all, both, v, f)

  pub ordered : InOrder next (placed piece)
  ordered = let few = few_places in let small = read.small in in_order next (placed piece) read.is.placed (omega (arith, few, small))

  pub few_symbols : symbols_of piece ≤ next + 131136
  few_symbols = let few = few_places in let count = ordered.few in omega (arith, few, count)

  pub shortly : IsShort piece
  shortly =
      let count = few_symbols in
      let small = read.small in
      let vars = few_vars in
      let fields = few_fields in
      let facts = read.is.few_facts in
      let rows = read.is.few_rows in
      record {
        stack = read.is.few_symbols;
        symbols = omega (arith, count, small);
        lines = omega (arith, vars, fields, facts, rows);
      }

  pub fitting : IsFit style piece
  fitting = record {
    of_style = each_all (IsFact style (next_behind next (placed piece))) (IsOfStyle style) (λ f one. (fact_fits style (next_behind next (placed piece)) f one).of_style) piece.facts read.is.facts;
    integers = each_all (IsFact style (next_behind next (placed piece))) HasSmallInteger (λ f one. (fact_fits style (next_behind next (placed piece)) f one).integer) piece.facts read.is.facts;
    bytes = each_all (IsFact style (next_behind next (placed piece))) HasByteText (λ f one. (fact_fits style (next_behind next (placed piece)) f one).bytes) piece.facts read.is.facts;
    texts = read.texts;
    rows = each_all (IsRow has_pos (next_behind next (placed piece))) IsBounded (row_bounded has_pos (next_behind next (placed piece))) piece.rows read.is.rows;
  }

  -- its facts and rows name symbols below those that it has, or that the piece before it had
  pub posted : IsPost style next piece
  posted =
      let behind = ordered.behind in
      record {
        fit = fitting;
        facts = each_all (IsFact style (next_behind next (placed piece))) (λ f. subject f < max next (symbols_of piece))
            (λ f one. subst (λ (n : ℕ). subject f < n) behind (fact_fits style (next_behind next (placed piece)) f one).below) piece.facts read.is.facts;
        rows = each_all (IsRow has_pos (next_behind next (placed piece))) (λ row. All (λ part. IsTermBelow (max next (symbols_of piece)) part.term) row.parts)
            (λ row one. subst (λ (n : ℕ). All (λ part. IsTermBelow n part.term) row.parts) behind (row_below has_pos (next_behind next (placed piece)) row one))
            piece.rows read.is.rows;
      }

  pub variables : All (λ bind. has_kind style (is_variable entry) bind ≡ true) piece.vars
  variables =
      each_all (λ (b : Bind). IsVariable entry style.names b.name) (λ b. has_kind style (is_variable entry) b ≡ true)
      (λ b one. (variable_is style entry b.name one).1) piece.vars read.is.vars

  pub field_kinds : All (λ bind. has_kind style (is_field entry) bind ≡ true) piece.fields
  field_kinds =
      each_all (λ (b : Bind). IsField style.names b.name × (entry ≡ true)) (λ b. has_kind style (is_field entry) b ≡ true)
      (λ b one. (field_is style entry b.name one.0 one.1).1) piece.fields read.is.fields

-- a piece by itself, whose first symbol is 0
pub piece_read : (style : Style) (entry : Bool) (has_pos : Bool) (piece : Piece) → IsRead style entry has_pos 0 piece → IsPieceOf style entry piece
piece_read style entry has_pos piece read =
    let posted = posted style entry has_pos 0 piece read in
    let same : max 0 (symbols_of piece) ≡ symbols_of piece = omega arith in
    record {
      short = shortly style entry has_pos 0 piece read;
      numbered = record {
        facts = subst (λ (n : ℕ). All (λ f. subject f < n) piece.facts) same posted.facts;
        rows = subst (λ (n : ℕ). All (λ row. All (λ part. IsTermBelow n part.term) row.parts) piece.rows) same posted.rows;
      };
      fit = posted.fit;
      places = (ordered style entry has_pos 0 piece read).places;
      vars = variables style entry has_pos 0 piece read;
      fields = field_kinds style entry has_pos 0 piece read;
      upwards = go_upwards piece.vars read.is.vars_rise;
    }

-- its rows name no position where they may not
pub read_no_pos : (style : Style) (entry : Bool) (next : ℕ) (piece : Piece) → IsPiece style entry false next piece → HasNoPos piece
read_no_pos style entry next piece is =
    let end = next_behind next (placed piece) in
    each_all (IsRow false end) (λ row. All (λ part. part.term ≢ Pos) row.parts)
    (λ row one. each_all (IsPart false end) (λ part. part.term ≢ Pos) (λ part p. no_pos end part.term p.term) row.parts one.parts) piece.rows is.rows

-- a piece that goes on from the symbols of another, where a unit is
pub placed_read : (style : Style) (unit : Passage) (has_pos : Bool) (next : ℕ) (piece : Piece) → IsRead style unit.entry has_pos next piece
    → All (λ name. option_map_or (is_variable unit.entry) (kind_of style name) false ≡ true) unit.writes → IsPlaced style unit next piece
placed_read style unit has_pos next piece read writes = record {
  places = (ordered style unit.entry has_pos next piece read).places;
  vars = variables style unit.entry has_pos next piece read;
  fields = field_kinds style unit.entry has_pos next piece read;
  upwards = go_upwards piece.vars read.is.vars_rise;
  writes = writes;
}
