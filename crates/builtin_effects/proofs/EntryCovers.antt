-- The effects that give something of the entry, of the database or a constant cover the machine.
use Rattle.std.proofs.Common.{◌≡◌, ℕ, ◌≤◌, true, List, [], ◌∷◌, length, map, Option, None, Some, is_none, refl, ap, subst, ◌∙◌, arith, cond, Bool, false}
use Rattle.std.specs.Prelude.{pos, codes, slice_get}
use Rattle.std.specs.List.{All, AllByRecursion}
use Rattle.std.specs.Option.{option_and_then, option_map}
use Rattle.std.proofs.lemmas.Int.{ints}
use Rattle.std.proofs.lemmas.List.Elements.{All-from_recursion, All-get_or}
use Rattle.std.proofs.lemmas.List.Sorted.{All-permutation}
use Rattle.std.proofs.lemmas.Option.{get_or_from_slice_get, slice_get-map, slice_get_within}
use Rattle.lin_facts.specs.declared.row.Term.TheVariants.{Length as LengthOf}
use Rattle.name_table.specs.declared.builtin.Builtin.{Builtin}
use Rattle.name_table.specs.declared.builtin.Builtin.TheVariants as op
use Rattle.name_table.specs.TypeTarget.{type_function}
use Rattle.bst_meaning.specs.EntryLists.{Entry}
use Rattle.bst_meaning.specs.declared.value.Value.{Value}
use Rattle.bst_meaning.specs.declared.value.Value.TheVariants.{Str as StrValue}
use Rattle.bst_meaning.specs.Builtins.{at_entry, built_in, type_name}
use Rattle.bst_meaning.specs.Condition.{EntryMeets}
use Rattle.bst_meaning.specs.Config.{EntryState}
use Rattle.bst_meaning.specs.Effect.{pushed}
use Rattle.bst_meaning.specs.Entries.{EntryFits, IsByteList}
use Rattle.bst_meaning.specs.Machine.{visited_entry, visited_index}
use Rattle.sym_state.specs.declared.symbol.Fact.TheVariants.{Text as TextFact}
use Rattle.sym_state.specs.declared.symbol.Kinds.TheVariants.{Str}
use Rattle.sym_state.specs.Effects.{limited}
use Rattle.sym_state.specs.References.{at_most}
use Rattle.sym_state.specs.Results.{next_of}
use Rattle.sym_state.specs.Symbols.{numbers}
use Rattle.sym_state.proofs.Saying.{at_most_holds}
use Rattle.sym_state.proofs.Spots.{Spot}
use Rattle.builtin_effects.proofs.Covering.{after_value, around, put_first, term_new_length, value_new, CoversBy, CoversOf}

element : {X : Type 0} (P : X → Type 0) (xs : List X) (i : ℕ) (x : X) → All P xs → slice_get xs i ≡ Some x → P x
element P xs i x all e = subst P (get_or_from_slice_get xs i x x e) (All-get_or P xs i x (slice_get_within xs i x e) all)

-- what holds of each entry of the list holds of the one that is visited
visited_has : (s : Spot) (P : Entry → Type 0) (e : EntryState) → AllByRecursion P s.list.entries → visited_entry s.c ≡ Some e → P e.entry
visited_has s P e all is =
    let entries : List Entry = map (λ (x : EntryState). x.entry) s.c.entries in
    let each : All P entries = All-permutation P s.list.entries entries s.stands.has_list.entries (All-from_recursion P s.list.entries all) in
    elim (visited_index s.c) as (λ (o : Option ℕ). option_and_then (slice_get s.c.entries) o ≡ Some e → P e.entry) [
      | Some i ↦ λ found.
          element P entries i e.entry each
          (slice_get-map (λ (x : EntryState). x.entry) s.c.entries i ∙ ap (λ (o : Option EntryState). option_map (λ x. x.entry) o) found)
      | None ↦ λ found. absurd (cc)
    ] is

-- the visited entry
pub record AtEntry (s : Spot) : Type 0 where
  pub entry : EntryState
  pub visited : visited_entry s.c ≡ Some entry
  pub fits : EntryFits s.style entry.entry
  pub meets : EntryMeets s.style s.admits entry.entry

pub entry_given : (s : Spot) → s.state.at_entry ≡ true → AtEntry s
entry_given s e =
    let visit = s.stands.visiting e in record {
      entry = visit.entry;
      visited = visit.is_visited;
      fits = visited_has s (EntryFits s.style) visit.entry s.stands.has_list.fits.entries visit.is_visited;
      meets = visited_has s (EntryMeets s.style s.admits) visit.entry s.stands.has_list.meets.each visit.is_visited;
    }

-- a new string that is no longer than the condition says
limited_put : (s : Spot) (o : Builtin) (limit : ℕ) (bytes : List ℕ) → IsByteList bytes → length bytes ≤ limit
    → built_in o (around s) s.c.stack ≡ pushed (StrValue bytes) s.c.stack → CoversBy s o (limited limit s.state)
limited_put s o limit bytes fine few machine =
    let r = LengthOf s.state.next in
    let value : Value = StrValue bytes in
    let w = numbers (after_value s value) in
    let wr : w r ≡ pos (length bytes) = term_new_length s value in
    put_first s o Str [] (at_most r (pos limit) ∷ []) value machine fine refl tt (at_most_holds w r (pos limit) (omega (arith, ints, wr, few)), tt)

-- `cite$`
pub cite_covers : (s : Spot) → CoversOf s op.Cite
cite_covers s = λ met.
    let at = entry_given s met in
    limited_put s op.Cite s.admits.key at.entry.entry.key at.fits.key_bytes at.meets.key
    (ap (λ (o : Option EntryState). at_entry (option_map (λ x. x.entry) o) (λ x. pushed (StrValue x.key) s.c.stack)) at.visited)

-- `type$`
type_bytes : (unknown : Bool) (name : List ℕ) → IsByteList name → IsByteList (cond unknown [] name)
type_bytes true name h = tt
type_bytes false name h = h

pub type_name_covers : (s : Spot) → CoversOf s op.TypeName
type_name_covers s = λ met.
    let at = entry_given s met in
    let name : List ℕ = at.entry.entry.entry_type in
    put_first s op.TypeName Str [] [] (StrValue (type_name s.style name))
    (ap (λ (o : Option EntryState). at_entry (option_map (λ x. x.entry) o) (λ x. pushed (StrValue (type_name s.style x.entry_type)) s.c.stack)) at.visited)
    (type_bytes (is_none (type_function name s.style)) name at.fits.type_bytes) refl tt tt

-- `preamble$`
pub preamble_covers : (s : Spot) → CoversOf s op.Preamble
preamble_covers s =
    limited_put s op.Preamble s.admits.preamble s.list.preamble s.stands.has_list.fits.preamble_bytes s.stands.has_list.meets.preamble
    (ap (λ (l : List ℕ). pushed (StrValue l) s.c.stack) s.stands.has_list.preamble)

-- `quote$`
pub quote_covers : (s : Spot) → CoversOf s op.Quote
quote_covers s =
    let value : Value = StrValue (codes "\"") in
    put_first s op.Quote Str (TextFact (next_of s.state) (codes "\"") ∷ []) [] value refl (omega arith, tt) refl (value_new s value, tt) tt
