-- A state that follows another: it is well made, and it keeps what a unit may not change. What a rule gives of a state.
use Rattle.std.proofs.Common.{◌≡◌, ℕ, ◌+◌, ◌*◌, ◌≤◌, List, [], ◌∷◌, ◌++◌, Option, None, Some, IfSome, Ok, refl, sym, ap, subst, ◌∙◌, arith, append_assoc, inl, inr}
use Rattle.std.specs.List.{All}
use Rattle.std.proofs.lemmas.List.{append-nil}
use Rattle.std.proofs.lemmas.List.Elements.{All-append, All-cons, All-head, All-nil, All-tail, All-weaker}
use Rattle.bv_base.specs.declared.place.Place.{Place}
use Rattle.lin_facts.specs.declared.row.Row.{Row}
use Rattle.cert_format.specs.declared.cert.Loop.{Loop}
use Rattle.sym_state.specs.State.{State}
use Rattle.sym_state.specs.Changes.{symbol_at}
use Rattle.sym_state.specs.Demands.{HasFewUses}
use Rattle.sym_state.specs.Frames.{Extends, LeavesVariables}
use Rattle.sym_state.specs.WellMade.{WellMade}
use Rattle.sym_state.specs.declared.hint.Hint.{Hint}
use Rattle.sym_state.specs.declared.symbol.Fact.{Fact}
use Rattle.refinements.specs.Covered.{IsAmong}
use Rattle.straight_hints.specs.declared.finding.Finding.{Finding}
use Rattle.cert_check.specs.Certified.{IsStanding, MakesStanding}
use Rattle.cert_check.specs.Courses.{Course, behind, counts, gives, gives_all, handed, left_behind}
use Rattle.cert_check.specs.Walks.{Scope}
pub use Rattle.cert_check.specs.Safely.{Follows, Grows}
use Rattle.cert_check.proofs.Inverted.{counts_ok, gives_all_ok, gives_ok}

-- a rule by itself
pub grows_of : (old new : State) → Extends old new → Grows old new
grows_of old new one = record { whole = one.whole; at_entry = one.at_entry; fields = one.fields; next = one.next; facts = one.facts; rows = one.rows }

pub grows_twice : (first second third : State) → Grows first second → Grows second third → Grows first third
grows_twice first second third one other = record {
  whole = other.whole ∙ one.whole;
  at_entry = other.at_entry ∙ one.at_entry;
  fields = other.fields ∙ one.fields;
  next = let low = one.next in let high = other.next in omega (arith, low, high);
  facts = (
    one.facts.0 ++ other.facts.0,
    other.facts.1 ∙ ap (λ (l : List Fact). l ++ other.facts.0) one.facts.1 ∙ append_assoc first.facts one.facts.0 other.facts.0,
  );
  rows = (
    one.rows.0 ++ other.rows.0,
    other.rows.1 ∙ ap (λ (l : List Row). l ++ other.rows.0) one.rows.1 ∙ append_assoc first.rows one.rows.0 other.rows.0,
  );
}

pub grows_self : (state : State) → Grows state state
grows_self state = record {
  whole = refl;
  at_entry = refl;
  fields = refl;
  next = omega arith;
  facts = ([], sym (append-nil state.facts));
  rows = ([], sym (append-nil state.rows));
}

pub follows_self : (scope : Scope) (state : State) → WellMade scope.style state → Follows scope state state
follows_self scope state made = record { made = made; grows = grows_self state; vars = λ name not. refl }

pub follows_twice : (scope : Scope) (first second third : State) → Follows scope first second → Follows scope second third → Follows scope first third
follows_twice scope first second third one other = record {
  made = other.made;
  grows = grows_twice first second third one.grows other.grows;
  vars = λ name not. other.vars name not ∙ one.vars name not;
}

pub left_follows : (scope : Scope) (first second : State) → WellMade scope.style second → LeavesVariables first second → Follows scope first second
left_follows scope first second made left = record {
  made = made;
  grows = grows_of first second left.extends;
  vars = λ name not. ap (symbol_at name) left.vars;
}

-- a state has few new symbols beside those of an earlier one: 65 at most for each that counts between these two counts, and so many
-- more
abbrev pub HasFewNew : ℕ → ℕ → ℕ → State → State → Type 0
HasFewNew room before after start state = state.next + 65 * before ≤ start.next + (room + 65 * after)

-- what holds of all states holds of one among them
pub among_all : {X : Type 0} (P : X → Type 0) (x : X) (xs : List X) → IsAmong x xs → All P xs → P x
among_all P x [] among all = absurd among
among_all P x (first ∷ xs) (inl is) all = subst P (sym is) (All-head P first xs all)
among_all P x (first ∷ xs) (inr later) all = among_all P x xs later (All-tail P first xs all)

-- loops that were made may stand in a certificate, where those may that are made
abbrev pub KeepsLoops : Scope → Course → Course → Type 0
KeepsLoops scope before after =
    IfSome scope.make (MakesStanding scope.style) → All (IsStanding scope.style) before.loops → All (IsStanding scope.style) after.loops

-- what a rule gives of a state: further states, each of which follows it; what is counted doesn't fall, each new symbol is one of
-- those for which there is room beside what counts, proofs stay short, and loops may be written
pub record Moved (scope : Scope) (room : ℕ) (start : State) (before after : Course) : Type 0 where
  pub more : List State
  pub given : after.given ≡ before.given ++ more
  pub follow : All (Follows scope start) more
  pub few : All (HasFewNew room before.count after.count start) more
  pub count : before.count ≤ after.count
  pub short : All HasFewUses before.hints → All HasFewUses after.hints
  pub loops : KeepsLoops scope before after
  pub stay : after.stay ≡ before.stay

-- each of these states has more room where more was counted
counted_on : (room low middle high : ℕ) (start : State) (states : List State) → low ≤ middle → All (HasFewNew room middle high start) states
    → All (HasFewNew room low high start) states
counted_on room low middle high start states less few =
    All-weaker (HasFewNew room middle high start) (HasFewNew room low high start) (λ state h. omega (arith, h, less)) states few

ended_on : (room low middle high : ℕ) (start : State) (states : List State) → middle ≤ high → All (HasFewNew room low middle start) states
    → All (HasFewNew room low high start) states
ended_on room low middle high start states less few =
    All-weaker (HasFewNew room low middle start) (HasFewNew room low high start) (λ state h. omega (arith, h, less)) states few

-- a rule that gives no state, and counts nothing
nothing_given : (scope : Scope) (room : ℕ) (start : State) (before after : Course) → after.given ≡ before.given → after.count ≡ before.count
    → after.stay ≡ before.stay → (All HasFewUses before.hints → All HasFewUses after.hints) → KeepsLoops scope before after
    → Moved scope room start before after
nothing_given scope room start before after given count stay short loops = record {
  more = [];
  given = given ∙ sym (append-nil before.given);
  follow = All-nil (Follows scope start);
  few = All-nil (HasFewNew room before.count after.count start);
  count = omega (arith, count);
  short = short;
  loops = loops;
  stay = stay;
}

pub moved_self : (scope : Scope) (room : ℕ) (start : State) (course : Course) → Moved scope room start course course
moved_self scope room start course = nothing_given scope room start course course refl refl refl (λ short. short) (λ makes all. all)

pub moved_twice : (scope : Scope) (room : ℕ) (start : State) (first second third : Course) → Moved scope room start first second
    → Moved scope room start second third → Moved scope room start first third
moved_twice scope room start first second third one other = record {
  more = one.more ++ other.more;
  given = other.given ∙ ap (λ (l : List State). l ++ other.more) one.given ∙ append_assoc first.given one.more other.more;
  follow = All-append (Follows scope start) one.more other.more one.follow other.follow;
  few = All-append (HasFewNew room first.count third.count start) one.more other.more
      (ended_on room first.count second.count third.count start one.more other.count one.few)
      (counted_on room first.count second.count third.count start other.more one.count other.few);
  count = let low = one.count in let high = other.count in omega (arith, low, high);
  short = λ short. other.short (one.short short);
  loops = λ makes all. other.loops makes (one.loops makes all);
  stay = other.stay ∙ one.stay;
}

-- the states follow another one, and have few new symbols beside it
moved_beside : (scope : Scope) (room more : ℕ) (start middle : State) (before after : Course) → (moved : Moved scope room middle before after)
    → All (Follows scope start) moved.more → All (HasFewNew more before.count after.count start) moved.more → Moved scope more start before after
moved_beside scope room more start middle before after moved follow few = record {
  more = moved.more;
  given = moved.given;
  follow = follow;
  few = few;
  count = moved.count;
  short = moved.short;
  loops = moved.loops;
  stay = moved.stay;
}

-- the states follow an earlier one, that has no fewer symbols but for so many
pub moved_from : (scope : Scope) (room more : ℕ) (start middle : State) (before after : Course) → Follows scope start middle
    → middle.next + room ≤ start.next + more → Moved scope room middle before after → Moved scope more start before after
moved_from scope room more start middle before after follows few moved =
    moved_beside scope room more start middle before after moved
    (All-weaker (Follows scope middle) (Follows scope start) (λ state h. follows_twice scope start middle state follows h) moved.more moved.follow)
    (All-weaker (HasFewNew room before.count after.count middle) (HasFewNew more before.count after.count start) (λ state h. omega (arith, h, few))
    moved.more moved.few)

-- there may be more room
pub moved_within : (scope : Scope) (room more : ℕ) (start : State) (before after : Course) → room ≤ more → Moved scope room start before after
    → Moved scope more start before after
moved_within scope room more start before after less moved =
    moved_beside scope room more start start before after moved moved.follow
    (All-weaker (HasFewNew room before.count after.count start) (HasFewNew more before.count after.count start) (λ state h. omega (arith, h, less))
    moved.more moved.few)

-- hints that are taken don't matter
pub rehinted : (scope : Scope) (room : ℕ) (start : State) (before after : Course) (hints : List Hint) → (All HasFewUses before.hints → All HasFewUses hints)
    → Moved scope room start (record before { hints = hints }) after → Moved scope room start before after
rehinted scope room start before after hints short =
    moved_twice scope room start before (record before { hints = hints }) after
    (nothing_given scope room start before (record before { hints = hints }) refl refl refl short (λ makes all. all))

-- so do those that were found
pub refound : (scope : Scope) (room : ℕ) (start : State) (before after : Course) (found : List Hint)
    → Moved scope room start (record before { found = found }) after → Moved scope room start before after
refound scope room start before after found =
    moved_twice scope room start before (record before { found = found }) after
    (nothing_given scope room start before (record before { found = found }) refl refl refl (λ short. short) (λ makes all. all))

-- and loops that were made
pub remade : (scope : Scope) (room : ℕ) (start : State) (before after : Course) (loops : List Loop)
    → (IfSome scope.make (MakesStanding scope.style) → All (IsStanding scope.style) after.loops → All (IsStanding scope.style) loops)
    → Moved scope room start before after → Moved scope room start before (record after { loops = loops })
remade scope room start before after loops keeps moved =
    moved_twice scope room start before after (record after { loops = loops }) moved
    (nothing_given scope room start after (record after { loops = loops }) refl refl refl (λ short. short) keeps)

-- so do those that were found for a rule
left_short : (finding : Option Finding) (left after : List Hint) (find : Finding → List Hint)
    → (All HasFewUses (handed finding left find) → All HasFewUses after) → All HasFewUses left → All HasFewUses (left_behind finding left after)
left_short None left after find short all = short all
left_short (Some finding) left after find short all = all

-- what holds behind a rule that was handed hints
pub behind_moved : (scope : Scope) (room : ℕ) (start : State) (before after : Course) (find : Finding → List Hint) (hints : List Hint)
    → (All HasFewUses (handed before.finding before.hints find) → All HasFewUses hints)
    → Moved scope room start (behind (handed before.finding before.hints find) hints before) after → Moved scope room start before after
behind_moved scope room start before after find hints short =
    let next = behind (handed before.finding before.hints find) hints before in
    moved_twice scope room start before next after
    (nothing_given scope room start before next refl refl refl (left_short before.finding before.hints hints find short) (λ makes all. all))

-- what counts makes room
pub counted_moved : (scope : Scope) (n room : ℕ) (start : State) (place : Place) (course middle after : Course) → counts n place course ≡ Ok middle
    → Moved scope (room + 65 * n) start middle after → Moved scope room start course after
counted_moved scope n room start place course middle after e moved =
    let is = counts_ok n place course middle e in
    let count : middle.count ≡ course.count + n = ap (λ (c : Course). c.count) is in
    record {
      more = moved.more;
      given = moved.given ∙ ap (λ (c : Course). c.given ++ moved.more) is;
      follow = moved.follow;
      few = All-weaker (HasFewNew (room + 65 * n) middle.count after.count start) (HasFewNew room course.count after.count start)
          (λ state h. omega (arith, h, count)) moved.more moved.few;
      count = let high = moved.count in omega (arith, high, count);
      short = λ short. moved.short (subst (λ (c : Course). All HasFewUses c.hints) (sym is) short);
      loops = λ makes all. moved.loops makes (subst (λ (c : Course). All (IsStanding scope.style) c.loops) (sym is) all);
      stay = moved.stay ∙ ap (λ (c : Course). c.stay) is;
    }

pub all_given : (scope : Scope) (room : ℕ) (start : State) (place : Place) (states : List State) (course after : Course) → All (Follows scope start) states
    → All (λ state. state.next ≤ start.next + room) states → gives_all place states course ≡ Ok after → Moved scope room start course after
all_given scope room start place states course after follow few e =
    let is = gives_all_ok place states course after e in
    subst (Moved scope room start course) (sym is) (record {
      more = states;
      given = refl;
      follow = follow;
      few = All-weaker (λ (state : State). state.next ≤ start.next + room) (HasFewNew room course.count course.count start) (λ state h. omega (arith, h)) states few;
      count = omega arith;
      short = λ short. short;
      loops = λ makes all. all;
      stay = refl;
    })

pub one_given : (scope : Scope) (room : ℕ) (start state : State) (place : Place) (course after : Course) → Follows scope start state
    → state.next ≤ start.next + room → gives place state course ≡ Ok after → Moved scope room start course after
one_given scope room start state place course after follow few e =
    let is = gives_ok place state course after e in
    subst (Moved scope room start course) (sym is) (record {
      more = state ∷ [];
      given = refl;
      follow = All-cons (Follows scope start) state [] follow (All-nil (Follows scope start));
      few = All-cons (HasFewNew room course.count course.count start) state [] (omega (arith, few)) (All-nil (HasFewNew room course.count course.count start));
      count = omega arith;
      short = λ short. short;
      loops = λ makes all. all;
      stay = refl;
    })
