-- ITERATE and REVERSE are safe where what stands after them is: entries that were visited meet `keeps`, and the others the piece
-- from before.
use Rattle.std.proofs.Common.{◌≡◌, ◌≢◌, ℕ, zero, suc, ◌+◌, ◌-◌, ◌<◌, Bool, true, false, cond, nat_eq, List, [], ◌∷◌, length, map, slice_get, Option, None, Some, Ok, refl, sym, ap, subst, ◌∙◌, arith}
use Rattle.std.specs.Prelude.{nat_lt}
use Rattle.std.specs.List.{AllByRecursion}
use Rattle.std.specs.Option.{option_and_then}
use Rattle.std.proofs.lemmas.Bool.Decides.{nat_tests}
use Rattle.std.proofs.lemmas.List.{length-map}
use Rattle.std.proofs.lemmas.List.Sorted.{length_permutation}
use Rattle.bv_base.specs.declared.place.Place.{Place}
use Rattle.name_table.specs.declared.names.NameId.{NameId}
use Rattle.name_table.specs.declared.style.CommandAt.{CommandAt}
use Rattle.bst_meaning.specs.Condition.{EntryMeets}
use Rattle.bst_meaning.specs.Config.{Config, EntryState, Visit}
use Rattle.bst_meaning.specs.Invariant.{IsEntrySound, IsWellFormed}
use Rattle.bst_meaning.specs.Machine.{call_ended, command_step, next_index, step, visit_of, visit_step, visited_entry, visited_index, with_call}
use Rattle.sym_state.specs.Positions.{AtStart, AtNext, AtEnd}
use Rattle.sym_state.specs.Showing.{piece_by}
use Rattle.sym_state.specs.State.{State}
use Rattle.sym_state.specs.Symbols.{Valuation}
use Rattle.sym_state.specs.declared.hint.Hint.{Hint}
use Rattle.sym_state.specs.declared.piece.Piece.{Piece}
use Rattle.cert_check.specs.Safely.{SafeFor}
use Rattle.cert_check.proofs.Having.{got_all}
use Rattle.cert_check.proofs.Safety.{same_index}
use Rattle.command_flow.specs.Between.{piece_moved}
use Rattle.command_flow.specs.declared.between.Between.{Between}
use Rattle.command_flow.specs.Commands.{called, started_between, started_visit}
use Rattle.command_flow.specs.declared.between.Parts.{Parts}
use Rattle.command_flow.proofs.Calling.{Ended, MayCall, Run, call_safe, entered_formed, shown_known}
use Rattle.command_flow.proofs.Ending.{first_shown}
use Rattle.command_flow.proofs.Executing.{IsBetween}
use Rattle.command_flow.proofs.InPlay.{AtEntry, entries_meet, same_entries}
use Rattle.command_flow.proofs.Known.{Known, known_back, known_ended, known_entry, known_globals, known_still}
use Rattle.command_flow.proofs.Shaped.{IsGood, IsVisitGood}
use Rattle.command_flow.proofs.Starting.{between_stands, visit_made, visit_stands}
use Rattle.command_flow.proofs.Steps.{Quiet, command_begins, earlier, entered, frameless, quiet_fine}

-- a configuration has as many entries as its list
many : (r : Run) (c : Config) → IsWellFormed r.style r.list c → length c.entries ≡ length r.list.entries
many r c formed =
    sym (length-map c.entries (λ e. e.entry)) ∙ length_permutation r.list.entries (map (λ e. e.entry) c.entries) (same_entries r.style r.list c formed)

-- the visit of an entry, by how many were visited before
abbrev visit_at : Bool → ℕ → Visit
visit_at backwards k = record { backwards = backwards; visited = k }

-- what is known of an entry that is the j-th to be visited, where k were visited
abbrev piece_at : Parts → Between → ℕ → ℕ → Piece
piece_at parts between k j = cond (nat_lt j k) parts.keeps between.entry

-- ITERATE or REVERSE goes on: so many entries were visited
record GoesOn (r : Run) (at : CommandAt) (backwards : Bool) (left : List CommandAt) (parts : Parts) (between : Between) (k : ℕ) (c : Config) : Type 0 where
  quiet : Quiet c
  left_is : c.commands ≡ at ∷ left
  visit : visit_of backwards c.visit ≡ visit_at backwards k
  formed : IsWellFormed r.style r.list c
  globals : Known r.style r.list k parts.visit c.globals None
  entries : (j : ℕ) (e : EntryState) → j < length r.list.entries → slice_get c.entries (next_index (visit_at backwards j) (length r.list.entries)) ≡ Some e
      → Known r.style r.list 0 (piece_at parts between k j) [] (Some e)

-- a command that visits entries
record VisitCommand (r : Run) (at : CommandAt) (name : NameId) (backwards : Bool) (left : List CommandAt) (parts : Parts) (between : Between) (hints more : List Hint) : Type 0 where
  is : (c : Config) → command_step at.command at.place left c ≡ visit_step name at.place left (visit_of backwards c.visit) c
  good : IsGood r.style between
  parts_good : IsVisitGood r.style parts
  visits : called r.style r.cert name at.place (started_visit r.style r.cert.cond parts.visit between.entry) (piece_moved AtNext parts.visit ∷ (parts.keeps ∷ [])) hints
      ≡ Ok more

-- an element that is there
record There (e : List EntryState) (i : ℕ) : Type 0 where
  one : EntryState
  is : slice_get e i ≡ Some one

there : (xs : List EntryState) (i : ℕ) → i < length xs → There xs i
there [] i less = absurd (omega (arith, less))
there (x ∷ xs) zero less = record { one = x; is = refl }
there (x ∷ xs) (suc i) less = let rest = there xs i (omega (arith, less)) in record { one = rest.one; is = rest.is }

all_there : (P : EntryState → Type 0) (xs : List EntryState) → ((i : ℕ) (e : EntryState) → i < length xs → slice_get xs i ≡ Some e → P e) → AllByRecursion P xs
all_there P [] each = tt
all_there P (x ∷ xs) each = (each 0 x (omega arith) refl, all_there P xs (λ i e less is. each (suc i) e (omega (arith, less)) is))

-- the place in the list of the entry that is the k-th to be visited
index_within : (backwards : Bool) (k n : ℕ) → k < n → next_index (visit_at backwards k) n < n
index_within true k n less = omega (arith, less)
index_within false k n less = less

index_apart : (backwards : Bool) (j k n : ℕ) → j < n → k < n → nat_eq j k ≡ false → next_index (visit_at backwards k) n ≢ next_index (visit_at backwards j) n
index_apart true j k n first second differ = λ same. let e : n - (k + 1) ≡ n - (j + 1) = same in absurd (apart j k differ (omega (arith, first, second, e)))
  where
    apart : (j k : ℕ) → nat_eq j k ≡ false → j ≡ k → ⊥
    apart j k differ same = grind (arith, nat_tests)
index_apart false j k n first second differ = λ same. absurd (apart j k differ same)
  where
    apart : (j k : ℕ) → nat_eq j k ≡ false → k ≡ j → ⊥
    apart j k differ same = grind (arith, nat_tests)

index_twice : (backwards : Bool) (i n : ℕ) → i < n → next_index (visit_at backwards (next_index (visit_at backwards i) n)) n ≡ i
index_twice true i n less = omega (arith, less)
index_twice false i n less = refl

below_is : (k n : ℕ) → k < n → nat_lt k n ≡ true
below_is k n less = grind (arith, nat_tests)

above_is : (k : ℕ) → nat_lt k k ≡ false
above_is k = grind (arith, nat_tests)

next_is : (j k : ℕ) → nat_eq j k ≡ false → nat_lt j (k + 1) ≡ nat_lt j k
next_is j k differ = grind (arith, nat_tests)

same_number : (j k : ℕ) → nat_eq j k ≡ true → j ≡ k
same_number j k e = grind (arith, nat_tests)

-- the next entry is visited
abbrev visiting : Bool → ℕ → Config → Config
visiting backwards k c = record c { visit = Some (visit_at backwards k) }

begins_is : (r : Run) (at : CommandAt) (name : NameId) (backwards : Bool) (left : List CommandAt) (parts : Parts) (between : Between) (hints more : List Hint) (k : ℕ) (c : Config)
    → VisitCommand r at name backwards left parts between hints more → GoesOn r at backwards left parts between k c
    → step r.style c ≡ visit_step name at.place left (visit_at backwards k) c
begins_is r at name backwards left parts between hints more k c command on =
    command_begins r.style c at left on.quiet on.left_is ∙ command.is c
    ∙ ap (λ (v : Visit). visit_step name at.place left v c) on.visit

-- the entry that is next stands among those of the list
entry_here : (r : Run) (backwards : Bool) (k : ℕ) (place : Place) (c : Config) (e : EntryState) → IsWellFormed r.style r.list c
    → slice_get c.entries (next_index (visit_at backwards k) (length r.list.entries)) ≡ Some e → AtEntry r.style r.cert.cond (entered place (visiting backwards k c))
entry_here r backwards k place c e formed is =
    let i : ℕ = next_index (visit_at backwards k) (length r.list.entries) in
    record {
      entry = e;
      visited = ap (λ (n : ℕ). slice_get c.entries (next_index (visit_at backwards k) n)) (many r c formed) ∙ is;
      is_sound = got_all (IsEntrySound r.style) c.entries i e formed.entries is;
      meets = got_all (λ (x : EntryState). EntryMeets r.style r.cert.cond x.entry) c.entries i e (entries_meet r.style r.cert.cond r.list c r.meets formed) is;
    }

-- where a visit ends, one more entry was visited
goes_further : (r : Run) (at : CommandAt) (name : NameId) (backwards : Bool) (left : List CommandAt) (parts : Parts) (between : Between) (k : ℕ) (c : Config)
    (v w : Valuation) (state after : State) (d : Config) → IsVisitGood r.style parts → GoesOn r at backwards left parts between k c → k < length r.list.entries
    → Ended r at.place (piece_moved AtNext parts.visit ∷ (parts.keeps ∷ [])) v state (visiting backwards k c) after w d → w.position ≡ k
    → IsWellFormed r.style r.list (record d { frames = []; running = false; visit = Some (visit_at backwards (k + 1)) })
    → GoesOn r at backwards left parts between (k + 1) (record d { frames = []; running = false; visit = Some (visit_at backwards (k + 1)) })
goes_further r at name backwards left parts between k c v w state after d good on less ended position formed =
    let n : ℕ = length r.list.entries in
    let before : Config = visiting backwards k c in
    let moved = first_shown r.cert.cond at.place after (piece_moved AtNext parts.visit) (parts.keeps ∷ []) ended.ends.hints ended.ends.left ended.ends.shown in
    let kept = first_shown r.cert.cond at.place after parts.keeps [] moved.between ended.ends.left moved.rest in
    let globals : Known r.style r.list k (piece_moved AtNext parts.visit) d.globals (visited_entry d) =
    shown_known r k w after d (piece_moved AtNext parts.visit) ended.ends.hints moved.between ended.stands position moved.first in
    let keeps : Known r.style r.list k parts.keeps d.globals (visited_entry d) =
    shown_known r k w after d parts.keeps moved.between kept.between ended.stands position kept.first in
    let there : suc globals.v.position ≡ k + 1 = ap suc globals.position ∙ one_more k in
    let index : visited_index d ≡ Some (next_index (visit_at backwards k) n) =
    same_index (entered at.place before) d ended.remains.running ended.remains.visit ended.remains.order
    ∙ ap (λ (m : ℕ). Some (next_index (visit_at backwards k) m)) (many r c on.formed) in
    record {
      quiet = record { goes = ended.remains.goes; quiet = refl; frameless = refl; empty = ended.empty };
      left_is = ended.remains.commands ∙ on.left_is;
      visit = refl;
      formed = formed;
      globals = known_globals r.style r.list (k + 1) parts.visit d.globals (visited_entry d) None good.visit.about
          (known_back r.style r.list k (k + 1) AtNext parts.visit d.globals (visited_entry d) globals there);
      entries = λ j e within is.
          elim (nat_eq j k) as (λ (t : Bool). nat_eq j k ≡ t → Known r.style r.list 0 (piece_at parts between (k + 1) j) [] (Some e)) [
            | true ↦ λ same.
                let here : visited_entry d ≡ Some e =
                ap (λ (o : Option ℕ). option_and_then (slice_get d.entries) o) index
                ∙ ap (λ (m : ℕ). slice_get d.entries (next_index (visit_at backwards m) n)) (sym (same_number j k same)) ∙ is in
                let last : nat_lt j (k + 1) ≡ true = ap (λ (m : ℕ). nat_lt m (k + 1)) (same_number j k same) ∙ below_is k (k + 1) (omega arith) in
                subst (λ (t : Bool). Known r.style r.list 0 (cond t parts.keeps between.entry) [] (Some e)) (sym last)
                (known_still r.style r.list k 0 parts.keeps [] (Some e) good.still
                (known_entry r.style r.list k parts.keeps d.globals [] (Some e) good.keeps.about
                (subst (λ (o : Option EntryState). Known r.style r.list k parts.keeps d.globals o) here keeps)))
            | false ↦ λ differ.
                let i : ℕ = next_index (visit_at backwards j) n in
                let elsewhere : visited_index (entered at.place before) ≢ Some i = λ same.
                other (next_index (visit_at backwards k) n) i (index_apart backwards j k n within less differ)
                (sym (ap (λ (m : ℕ). Some (next_index (visit_at backwards k) m)) (many r c on.formed)) ∙ same) in
                subst (λ (t : Bool). Known r.style r.list 0 (cond t parts.keeps between.entry) [] (Some e)) (sym (next_is j k differ))
                (on.entries j e within (sym (ended.remains.others i elsewhere) ∙ is))
          ] refl;
    }
  where
    one_more : (k : ℕ) → suc k ≡ k + 1
    one_more k = omega arith

    other : (a b : ℕ) → a ≢ b → (let x : Option ℕ = Some a in x) ≡ Some b → ⊥
    other a b differ same = differ (cc)

-- all entries were visited
ends_visit : (r : Run) (at : CommandAt) (backwards : Bool) (left : List CommandAt) (parts : Parts) (between : Between) (k : ℕ) (c : Config) → k ≡ length r.list.entries
    → GoesOn r at backwards left parts between k c → IsWellFormed r.style r.list (record c { commands = left; visit = None })
    → IsBetween r (record { globals = piece_moved AtEnd parts.visit; entry = parts.keeps }) left (record c { commands = left; visit = None })
ends_visit r at backwards left parts between k c all on formed =
    let n : ℕ = length r.list.entries in
    record {
      quiet = record { goes = on.quiet.goes; quiet = on.quiet.quiet; frameless = on.quiet.frameless; empty = on.quiet.empty };
      unvisited = refl;
      left_is = refl;
      formed = formed;
      globals = known_ended r.style r.list 0 parts.visit c.globals None (subst (λ (m : ℕ). Known r.style r.list m parts.visit c.globals None) all on.globals);
      entries = all_there (λ e. Known r.style r.list 0 parts.keeps [] (Some e)) c.entries (λ i e less is.
          let count : length c.entries ≡ n = many r c on.formed in
          let within : i < n = omega (arith, less, count) in
          let j : ℕ = next_index (visit_at backwards i) n in
          let few : j < n = index_within backwards i n within in
          let visited : nat_lt j k ≡ true = below_is j k (omega (arith, few, all)) in
          subst (λ (t : Bool). Known r.style r.list 0 (cond t parts.keeps between.entry) [] (Some e)) visited
          (on.entries j e few (ap (slice_get c.entries) (index_twice backwards i n within) ∙ is)));
    }

-- the visits that are left are safe
visits_safe : (r : Run) (n : ℕ) (at : CommandAt) (name : NameId) (backwards : Bool) (left : List CommandAt) (parts : Parts) (between : Between) (hints more : List Hint)
    (waiting k : ℕ) (c : Config) → VisitCommand r at name backwards left parts between hints more → k + waiting ≡ length r.list.entries
    → GoesOn r at backwards left parts between k c
    → ((d : Config) → IsBetween r (record { globals = piece_moved AtEnd parts.visit; entry = parts.keeps }) left d → SafeFor r.style n d)
    → SafeFor r.style n c
unfolding entry_here
visits_safe r n at name backwards left parts between hints more zero k c command total on safe =
    let all : k ≡ length r.list.entries = omega (arith, total) in
    let last : Config = record c { commands = left; visit = None } in
    let over : nat_lt k (length c.entries) ≡ false = ap (nat_lt k) (many r c on.formed ∙ sym all) ∙ above_is k in
    let is : step r.style c ≡ last =
    begins_is r at name backwards left parts between hints more k c command on
    ∙ ap (λ (t : Bool). cond t (with_call name at.place (visiting backwards k c)) last) over in
    earlier r.style n c last (quiet_fine r.style c on.quiet.goes on.quiet.quiet) is
    (safe last (ends_visit r at backwards left parts between k c all on (subst (IsWellFormed r.style r.list) is (r.formed c on.formed))))
visits_safe r n at name backwards left parts between hints more (suc waiting) k c command total on safe =
    let count : ℕ = length r.list.entries in
    let less : k < count = omega (arith, total) in
    let few : nat_lt k (length c.entries) ≡ true = ap (nat_lt k) (many r c on.formed) ∙ below_is k count less in
    let next : Config = visiting backwards k c in
    let is : step r.style c ≡ with_call name at.place next =
    begins_is r at name backwards left parts between hints more k c command on
    ∙ ap (λ (t : Bool). cond t (with_call name at.place next) (record c { commands = left; visit = None })) few in
    let begun : IsWellFormed r.style r.list (with_call name at.place next) = subst (IsWellFormed r.style r.list) is (r.formed c on.formed) in
    let i : ℕ = next_index (visit_at backwards k) count in
    let entry = there c.entries i (subst (λ (m : ℕ). i < m) (sym (many r c on.formed)) (index_within backwards k count less)) in
    let state : State = started_visit r.style r.cert.cond parts.visit between.entry in
    let unvisited : nat_lt k k ≡ false = above_is k in
    let starts = visit_stands r.style r.cert.cond r.list k parts.visit between.entry (entered at.place next) command.parts_good.visit command.good.entry command.good.still
    r.fits r.meets (entered_formed r name at.place next begun) on.quiet.empty (record {
      here = entry_here r backwards k at.place c entry.one on.formed entry.is;
      visit = visit_at backwards k;
      goes_on = refl;
      before = refl;
      few = less;
    }) on.globals
    (subst (λ (t : Bool). Known r.style r.list 0 (cond t parts.keeps between.entry) [] (Some entry.one)) unvisited (on.entries k entry.one less entry.is)) in
    let may : MayCall r name at.place at left starts.assignment state next = record {
      goes = on.quiet.goes;
      frameless = on.quiet.frameless;
      left = on.left_is;
      begun = begun;
      made = visit_made r.style r.cert.cond parts.visit between.entry r.certified.fields command.parts_good.visit command.good.entry;
      stands = starts.stands;
    } in
    earlier r.style n c (with_call name at.place next) (quiet_fine r.style c on.quiet.goes on.quiet.quiet) is
    (call_safe r n name at.place at left starts.assignment state next (piece_moved AtNext parts.visit ∷ (parts.keeps ∷ [])) hints more may command.visits
    (λ end w d ended formed.
    let last : Config = record d { frames = []; running = false; visit = Some (visit_at backwards (k + 1)) } in
    let ends : call_ended d.visit left (frameless d) ≡ last = ap (λ (o : Option Visit). call_ended o left (frameless d)) ended.remains.visit in
    let position : w.position ≡ k = ended.agrees.position ∙ starts.position in
    let further : (k + 1) + waiting ≡ count = omega (arith, total) in
    subst (SafeFor r.style n) (sym ends)
    (visits_safe r n at name backwards left parts between hints more waiting (k + 1) last command further
    (goes_further r at name backwards left parts between k c starts.assignment w state end d command.parts_good on less ended position
    (subst (IsWellFormed r.style r.list) ends formed)) safe)))

-- the whole command
pub visit_safe : (r : Run) (n : ℕ) (at : CommandAt) (name : NameId) (backwards : Bool) (left : List CommandAt) (parts : Parts) (between : Between) (hints more : List Hint) (c : Config)
    → ((d : Config) → command_step at.command at.place left d ≡ visit_step name at.place left (visit_of backwards d.visit) d)
    → IsGood r.style between → IsVisitGood r.style parts → IsBetween r between (at ∷ left) c
    → piece_by r.cert.cond (started_between r.style r.cert.cond between) (piece_moved AtStart parts.visit) 0 parts.hints ≡ Ok hints
    → called r.style r.cert name at.place (started_visit r.style r.cert.cond parts.visit between.entry) (piece_moved AtNext parts.visit ∷ (parts.keeps ∷ [])) hints ≡ Ok more
    → ((d : Config) → IsBetween r (record { globals = piece_moved AtEnd parts.visit; entry = parts.keeps }) left d → SafeFor r.style n d)
    → SafeFor r.style n c
visit_safe r n at name backwards left parts between hints more c is good parts_good here first called safe =
    let state : State = started_between r.style r.cert.cond between in
    let starts = between_stands r.style r.cert.cond r.list 0 between.globals c good.globals r.fits r.meets here.formed here.quiet.empty here.globals in
    let known : Known r.style r.list 0 (piece_moved AtStart parts.visit) c.globals (visited_entry c) =
    shown_known r 0 starts.assignment state c (piece_moved AtStart parts.visit) parts.hints hints starts.stands starts.position first in
    let total : 0 + length r.list.entries ≡ length r.list.entries = omega arith in
    visits_safe r n at name backwards left parts between hints more (length r.list.entries) 0 c
    (record { is = is; good = good; parts_good = parts_good; visits = called }) total (record {
      quiet = here.quiet;
      left_is = here.left_is;
      visit = ap (visit_of backwards) here.unvisited;
      formed = here.formed;
      globals = known_globals r.style r.list 0 parts.visit c.globals (visited_entry c) None parts_good.visit.about
          (known_back r.style r.list 0 0 AtStart parts.visit c.globals (visited_entry c) known refl);
      entries = λ j e within there.
          let i : ℕ = next_index (visit_at backwards j) (length r.list.entries) in
          let none : nat_lt j 0 ≡ false = not_below j in
          subst (λ (t : Bool). Known r.style r.list 0 (cond t parts.keeps between.entry) [] (Some e)) (sym none)
          (got_all (λ (x : EntryState). Known r.style r.list 0 between.entry [] (Some x)) c.entries i e here.entries there);
    }) safe
  where
    not_below : (j : ℕ) → nat_lt j 0 ≡ false
    not_below j = grind (arith, nat_tests)
