-- A unit's own check ends in a post: the post's symbols have values in the state that came to the unit.
use Rattle.std.proofs.Common.{◌≡◌, ℕ, ◌≤◌, ◌<◌, Bool, true, false, cond, nat_eq, nat_lt, max, List, [], ◌∷◌, ◌++◌, length, slice_get, Option, None, Some, Ok, refl, sym, ap, subst, ◌∙◌, arith}
use Rattle.std.specs.List.{AllByRecursion, list_any}
use Rattle.std.specs.Option.{option_and_then, option_or}
use Rattle.std.proofs.lemmas.Bool.Decides.{nat_tests}
use Rattle.name_table.specs.declared.names.NameId.{NameId}
use Rattle.bst_meaning.specs.Config.{Config, Frame}
use Rattle.bst_meaning.specs.declared.condition.Cond.{Cond}
use Rattle.bst_meaning.specs.EntryLists.{EntryList}
use Rattle.sym_state.specs.State.{State}
use Rattle.sym_state.specs.Changes.{bound}
use Rattle.sym_state.specs.Entailing.{at_first_place, match_of, places}
use Rattle.sym_state.specs.Renaming.{through}
use Rattle.sym_state.specs.Showing.{piece_by}
use Rattle.sym_state.specs.Stands.{values_of}
use Rattle.sym_state.specs.Starting.{symbols_of}
use Rattle.sym_state.specs.Symbols.{Valuation}
use Rattle.sym_state.specs.declared.hint.Hint.{Hint}
use Rattle.sym_state.specs.declared.piece.Piece.{Piece}
use Rattle.sym_state.specs.declared.symbol.Bind.{Bind}
use Rattle.sym_state.specs.declared.symbol.Sym.{Sym}
use Rattle.sym_state.proofs.Entailed.{lines_pass}
use Rattle.sym_state.proofs.ShownPieces.{shown_parts, shown_piece_holds}
use Rattle.sym_state.proofs.Spots.{Spot}
use Rattle.cert_check.specs.Certified.{IsPostOf}
use Rattle.cert_check.specs.Uses.{first_name, is_among, name_at, own_count, own_places, post_match, unchanged, unwritten}
use Rattle.cert_check.specs.Walks.{Scope}
use Rattle.cert_check.proofs.Having.{have_value}
use Rattle.cert_check.proofs.LeftPlaces.{matched_below, named_below, own_has, places_below, pre_has}
use Rattle.cert_check.proofs.OwnFrame.{name_kept}
use Rattle.cert_check.proofs.OwnStart.{Begun, Inside, Used, below_used, came_fit, nothing_under, own_open, own_scope, own_start, value_in}
use Rattle.cert_check.proofs.OwnValues.{Valued, first_valued, none_kept, one_kept, own_passed, own_valued}
use Rattle.cert_check.proofs.Safety.{Reaches, Remains, onward, remains_twice, spot_at}
use Rattle.cert_check.proofs.Tokens.{bound_value}

-- a state at a unit's end shows one of its posts
pub record EndsIn (admits : Cond) (kept : ℕ) (posts : List Piece) (end : State) : Type 0 where
  pub k : ℕ
  pub post : Piece
  pub there : slice_get posts k ≡ Some post
  pub hints : List Hint
  pub left : List Hint
  pub shown : piece_by admits end post kept hints ≡ Ok left
  pub same : length end.stack ≡ length post.stack

-- where it does, the post holds inside the unit
pub ended_inside : (scope : Scope) (list : EntryList) (u : Used scope list) (b : Begun scope list u) (frames : List Frame) (posts : List Piece)
    (end : State) (w : Valuation) (d : Config) → Reaches (own_scope scope u.unit.writes) list frames (own_start scope list u b) end w d
    → (found : EndsIn scope.cert.cond u.kept posts end) → Inside scope list u found.post (through (match_of end found.post u.kept) w) d
ended_inside scope list u b frames posts end w d reached found =
    let opened = own_open scope list u b in
    let at = b.inside in
    let inner = own_scope scope u.unit.writes in
    let start = own_start scope list u b in
    let spot : Spot = spot_at inner list (onward inner list frames start end w d reached) (record { line = 1; column = 1 }) in
    let shown = shown_piece_holds scope.style scope.cert.cond list w end d (below_used scope list u) found.post u.kept found.hints found.left found.shown reached.stands in
    record {
      holds = record {
        stack = shown.stack ∙ ap (λ (l : List Sym). values_of (through (match_of end found.post u.kept) w) found.post.stack
            ++ (values_of w l ++ below_used scope list u)) (nothing_under end found.post found.same);
        met = shown.met;
      };
      values = λ x. reached.stands.satisfied.values (match_of end found.post u.kept x);
      has_list = record {
        fits = reached.stands.has_list.fits;
        meets = reached.stands.has_list.meets;
        preamble = reached.stands.has_list.preamble;
        entries = reached.stands.has_list.entries;
        count = reached.stands.has_list.count;
      };
      visiting = λ entry. let there = reached.stands.visiting (reached.follows.grows.at_entry ∙ entry) in record {
        entry = there.entry;
        is_visited = there.is_visited;
        visit = there.visit;
        goes_on = there.goes_on;
        before = there.before;
      };
      position = reached.agrees.position ∙ opened.agrees.position ∙ at.position;
      count = reached.agrees.count ∙ opened.agrees.count ∙ at.count;
      shared = λ x less. let few = b.shares in
          ap (λ (n : ℕ). w.value n) (one_kept u.kept (places end found.post) x less)
          ∙ reached.agrees.value x (omega (arith, less, few))
          ∙ opened.agrees.value x (omega (arith, less, few))
          ∙ at.shared x less;
      formed = reached.formed;
      remains = subst (λ (fs : List Frame). Remains u.unit.entry fs u.s.c d) (sym reached.remains.waiting)
          (remains_twice u.unit.entry b.d.frames frames u.s.c b.d d at.remains reached.remains);
      names = λ name not. name_kept inner list frames start end w d reached name not ∙ at.names name not;
      have = λ name k is takes. have_value spot u.unit.entry name k reached.formed (λ entry. reached.follows.grows.at_entry ∙ entry) is takes;
    }

-- the end of a unit's own check, where one of its posts holds
pub record EndOf (scope : Scope) (list : EntryList) (u : Used scope list) : Type 0 where
  pub post : Piece
  pub v : Valuation
  pub d : Config
  pub inside : Inside scope list u post v d
  pub is : IsPostOf scope.style u.unit u.kept post

-- what holds of bindings holds of the name at a symbol's place
name_at_has : (P : NameId → ℕ → Type 0) (x : ℕ) (binds : List Bind) (name : NameId) → name_at x binds ≡ Some name
    → AllByRecursion (λ b. P b.name b.sym.0) binds → P name x
name_at_has P x [] name e all = absurd (cc)
name_at_has P x (b ∷ binds) name e all =
    elim (nat_eq b.sym.0 x) as (λ (t : Bool). nat_eq b.sym.0 x ≡ t → cond t (Some b.name) (name_at x binds) ≡ Some name → P name x) [
      | true ↦ λ is found.
          let same : b.name ≡ name = cc in
          subst (λ (n : ℕ). P name n) (same_number b.sym.0 x is) (subst (λ (n : NameId). P n b.sym.0) same all.0)
      | false ↦ λ is found. name_at_has P x binds name found all.1
    ] refl e
  where
    same_number : (a b : ℕ) → nat_eq a b ≡ true → a ≡ b
    same_number a b e = grind (arith, nat_tests)

first_name_has : (P : NameId → ℕ → Type 0) (x : ℕ) (piece : Piece) (name : NameId) → first_name x piece ≡ Some name
    → AllByRecursion (λ b. P b.name b.sym.0) piece.vars → AllByRecursion (λ b. P b.name b.sym.0) piece.fields → P name x
first_name_has P x piece name e vars fields =
    elim (list_any (λ (s : Sym). nat_eq s.0 x) piece.stack) as (λ (t : Bool).
    (let found : Option NameId = cond t None (option_or (name_at x piece.vars) (name_at x piece.fields)) in found) ≡ Some name → P name x) [
      | true ↦ λ found. absurd (cc)
      | false ↦ λ found.
          elim (name_at x piece.vars) as (λ (o : Option NameId). name_at x piece.vars ≡ o → option_or o (name_at x piece.fields) ≡ Some name → P name x) [
            | Some first ↦ λ is there. name_at_has P x piece.vars name (is ∙ there) vars
            | None ↦ λ is there. name_at_has P x piece.fields name there fields
          ] refl found
    ] e

module _ (scope : Scope) (list : EntryList) (u : Used scope list) (e : EndOf scope list u) where
  -- a post's own symbol that stands for one of the state's has its value
  stays : (x : ℕ) (there : Sym) → unchanged u.unit u.s.state e.post x ≡ Some there → (there.0 < u.s.state.next) × (u.s.v.value there.0 ≡ e.v.value x)
  stays x there is = by_name (first_name x e.post) refl is
    where
      by_among : (name : NameId) (t : Bool) → first_name x e.post ≡ Some name → is_among u.unit.writes name ≡ t
          → (let found : Option Sym = cond t None (bound name u.s.state) in found) ≡ Some there → u.s.v.value there.0 ≡ e.v.value x
      by_among name true first among found = absurd (cc)
      by_among name false first among found =
          let before = bound_value scope list u.s name there found in
          let kept = e.inside.names name among in
          let after = first_name_has (λ (n : NameId) (y : ℕ). value_in scope.style n e.d ≡ Some (e.v.value y)) x e.post name first
          e.inside.holds.met.vars e.inside.holds.met.fields in
          let both : Some (u.s.v.value there.0) ≡ Some (e.v.value x) = sym before ∙ sym kept ∙ after in
          cc

      by_name : (o : Option NameId) → first_name x e.post ≡ o → option_and_then (unwritten u.unit u.s.state) o ≡ Some there
          → (there.0 < u.s.state.next) × (u.s.v.value there.0 ≡ e.v.value x)
      by_name None first found = absurd (cc)
      by_name (Some name) first found = (
        named_below scope.style u.unit u.s.state (Some name) there u.s.made found,
        by_among name (is_among u.unit.writes name) first refl found,
      )

  -- the places of the post's own symbols
  abbrev pub own_list : List (Sym × Sym)
  own_list = own_places u.unit u.s.state e.post u.kept (own_count e.post u.kept) u.s.state.next

  -- the values of the state's symbols, and of the post's own
  pub with_own : Valued u.s.state.next u.s.v (λ x. e.v.value x) own_list
  with_own =
      own_valued u.unit u.s.state e.post (λ x. e.v.value x) u.kept (own_count e.post u.kept) u.s.state.next u.s.state.next u.s.v (omega arith)
      e.inside.values u.s.stands.satisfied.values stays

  -- the state's symbol for a symbol of the post has the value that this has at the end
  pub name_valued : (x : ℕ) → x < max u.kept (symbols_of e.post) → with_own.assignment.value (post_match own_list u.s.state u.pre x) ≡ e.v.value x
  name_valued x less = by_kept (nat_lt x u.kept) refl
    where
      at_first : post_match own_list u.s.state u.pre x ≡ at_first_place (own_list ++ places u.s.state u.pre) x
      at_first = none_kept (own_list ++ places u.s.state u.pre) x

      below : nat_lt x u.kept ≡ true → x < u.kept
      below is = grind (arith, nat_tests)

      above : nat_lt x u.kept ≡ false → u.kept ≤ x
      above is = grind (arith, nat_tests)

      by_kept : (t : Bool) → nat_lt x u.kept ≡ t → with_own.assignment.value (post_match own_list u.s.state u.pre x) ≡ e.v.value x
      by_kept true is =
          let few = below is in
          let shares = u.is.shares in
          let there : ℕ = match_of u.s.state u.pre 0 x in
          let fit = came_fit scope list u in
          let parts = shown_parts scope.cert.cond u.s.state u.pre 0 u.hints u.left fit.shown in
          let has = pre_has (match_of u.s.state u.pre 0) u.s.state u.pre x parts.few (lines_pass (match_of u.s.state u.pre 0) u.s.state u.pre parts.lines)
          (u.is.places x (omega arith) (omega (arith, few, shares))) in
          let old : there < u.s.state.next = matched_below u.s.state.next (places u.s.state u.pre) x (places_below scope.style u.s.state u.pre u.s.made) has in
          let where_is : post_match own_list u.s.state u.pre x ≡ there =
          at_first
          ∙ own_passed u.unit u.s.state e.post u.kept (own_count e.post u.kept) u.s.state.next x (places u.s.state u.pre) few
          ∙ sym (none_kept (places u.s.state u.pre) x) in
          ap (λ (n : ℕ). with_own.assignment.value n) where_is ∙ with_own.agrees.value there old ∙ sym (e.inside.shared x few)
      by_kept false is =
          let high = above is in
          ap (λ (n : ℕ). with_own.assignment.value n) at_first
          ∙ first_valued (λ y. e.v.value y) with_own.assignment own_list (places u.s.state u.pre) x with_own.placed
          (own_has u.unit u.s.state e.post u.kept (own_count e.post u.kept) u.s.state.next x high (omega (arith, high, less)))
