-- Strings in front of a place are passed over: no window behind it has them, and none stands on both sides of it.
use Rattle.std.proofs.Common.{◌≡◌, ℕ, zero, suc, ◌+◌, ◌-◌, ◌<◌, ◌≤◌, ◌&&◌, inl, min, Bool, true, false, cond, nat_le, nat_lt, refl, sym, ap, subst, ◌∙◌, List, [], ◌∷◌, ◌++◌, append_assoc, arith, drop, get_or, length, slice_get, take, Some}
use Rattle.std.proofs.Math.ListN.{set}
use Rattle.std.proofs.lemmas.Bool.Decides.{nat_tests}
use Rattle.std.proofs.lemmas.List.{drop-drop, drop-set, drop-set-lt, drop_more, length-set, take-set}
use Rattle.std.proofs.lemmas.List.Sums.{sum_by-cons}
use Rattle.bst_step.specs.declared.held.Held.{Held}
use Rattle.bst_step.specs.declared.held.Held.TheVariants.{Int, Str, Empty, Missing, Func, Made}
use Rattle.bst_step.specs.declared.renewal.Window.{Window}
use Rattle.bst_step.specs.Settled.{AreBefore, IsBefore, Stands, ValuesStand, begins_in, first_behind, moved_bytes, moved_count, next_behind, settled, values_bytes, values_count, values_settled}
use Rattle.bst_step.proofs.FieldSteps.{drop_read}

-- a string in front of a window doesn't begin in it
begins_before : (w : Window) (front start count : ℕ) → front ≤ w.from → start + count < front → begins_in w start ≡ false
begins_before w front start count behind before = by (nat_le w.from start) refl
  where
    by : (t : Bool) → nat_le w.from start ≡ t → t && nat_lt start w.until ≡ false
    by false is = refl
    by true is = absurd (grind (arith, nat_tests))

-- so it isn't gone through
module _ (w : Window) (front : ℕ) (behind : front ≤ w.from) where
  no_bytes : (pool : List ℕ) (h : Held) → IsBefore front h → moved_bytes w pool h ≡ []
  no_bytes pool (Int n) before = refl
  no_bytes pool (Str bytes) before = refl
  no_bytes pool Empty before = refl
  no_bytes pool (Missing name) before = refl
  no_bytes pool (Func target) before = refl
  no_bytes pool (Made start count) before =
      ap (λ (t : Bool). cond t (take count (drop start pool)) []) (begins_before w front start count behind before)

  no_count : (h : Held) → IsBefore front h → moved_count w h ≡ 0
  no_count (Int n) before = refl
  no_count (Str bytes) before = refl
  no_count Empty before = refl
  no_count (Missing name) before = refl
  no_count (Func target) before = refl
  no_count (Made start count) before = ap (λ (t : Bool). cond t count 0) (begins_before w front start count behind before)

  stays : (at : ℕ) (h : Held) → IsBefore front h → settled w at h ≡ h
  stays at (Int n) before = refl
  stays at (Str bytes) before = refl
  stays at Empty before = refl
  stays at (Missing name) before = refl
  stays at (Func target) before = refl
  stays at (Made start count) before =
      ap (λ (t : Bool). cond t (Made at count) (Made start count)) (begins_before w front start count behind before)

  bytes_from : (pool : List ℕ) (n : ℕ) (vs : List Held) → AreBefore front (take n vs) → values_bytes w pool (drop n vs) ≡ values_bytes w pool vs
  bytes_from pool zero vs before = refl
  bytes_from pool (suc n) [] before = refl
  bytes_from pool (suc n) (v ∷ vs) before =
      bytes_from pool n vs before.1 ∙ sym (ap (λ (l : List ℕ). l ++ values_bytes w pool vs) (no_bytes pool v before.0))

  count_from : (n : ℕ) (vs : List Held) → AreBefore front (take n vs) → values_count w (drop n vs) ≡ values_count w vs
  count_from zero vs before = refl
  count_from (suc n) [] before = refl
  count_from (suc n) (v ∷ vs) before =
      omega (arith, count_from n vs before.1, sum_by-cons (moved_count w) v vs, no_count v before.0)

  settled_from : (at n : ℕ) (vs : List Held) → AreBefore front (take n vs) → take n vs ++ values_settled w at (drop n vs) ≡ values_settled w at vs
  settled_from at zero vs before = refl
  settled_from at (suc n) [] before = refl
  settled_from at (suc n) (v ∷ vs) before =
      let none : at ≡ at + moved_count w v = omega (arith, no_count v before.0) in
      ap (λ (l : List Held). v ∷ l) (settled_from at n vs before.1)
      ∙ ap (λ (h : Held). h ∷ values_settled w at vs) (sym (stays at v before.0))
      ∙ ap (λ (k : ℕ). settled w at v ∷ values_settled w k vs) none

-- and none of these strings begins behind it
module _ (until front : ℕ) (behind : front ≤ until) where
  no_next : (other : ℕ) (h : Held) → IsBefore front h → next_behind until other h ≡ other
  no_next other (Int n) before = refl
  no_next other (Str bytes) before = refl
  no_next other Empty before = refl
  no_next other (Missing name) before = refl
  no_next other (Func target) before = refl
  no_next other (Made start count) before = by (nat_le until start) refl
    where
      by : (t : Bool) → nat_le until start ≡ t → cond t (min other start) other ≡ other
      by false is = refl
      by true is = absurd (grind (arith, nat_tests))

  first_from : (other n : ℕ) (vs : List Held) → AreBefore front (take n vs) → first_behind until other (drop n vs) ≡ first_behind until other vs
  first_from other zero vs before = refl
  first_from other (suc n) [] before = refl
  first_from other (suc n) (v ∷ vs) before =
      first_from other n vs before.1 ∙ sym (ap (λ (k : ℕ). first_behind until k vs) (no_next other v before.0))

-- a list up to a place, and from there up to another
none_taken : {A : Type 0} (k : ℕ) → take {A = A} k [] ≡ []
none_taken zero = refl
none_taken (suc k) = refl

further : {A : Type 0} (m n : ℕ) (vs : List A) → take (m + n) vs ≡ take m vs ++ take n (drop m vs)
further zero n vs = ap (λ (k : ℕ). take k vs) (omega arith)
further (suc m) n [] = none_taken (suc m + n) ∙ sym (none_taken n)
further (suc m) n (v ∷ vs) =
    let one : suc m + n ≡ suc (m + n) = omega arith in
    ap (λ (k : ℕ). take k (v ∷ vs)) one ∙ ap (λ l. v ∷ l) (further m n vs)

-- those between two places are passed over
module _ (front at next : ℕ) (vs : List Held) (least : at ≤ next) (before : AreBefore front (take (next - at) (drop at vs))) where
  apart : at + (next - at) ≡ next
  apart = omega (arith, least)

  left : drop (next - at) (drop at vs) ≡ drop next vs
  left = drop-drop (next - at) at vs ∙ ap (λ (k : ℕ). drop k vs) apart

  front_and : take at vs ++ take (next - at) (drop at vs) ≡ take next vs
  front_and = sym (further at (next - at) vs) ∙ ap (λ (k : ℕ). take k vs) apart

  pub passed_bytes : (w : Window) (pool : List ℕ) → front ≤ w.from → values_bytes w pool (drop next vs) ≡ values_bytes w pool (drop at vs)
  passed_bytes w pool behind =
      sym (ap (λ (l : List Held). values_bytes w pool l) left) ∙ bytes_from w front behind pool (next - at) (drop at vs) before

  pub passed_first : (until other : ℕ) → front ≤ until → first_behind until other (drop next vs) ≡ first_behind until other (drop at vs)
  passed_first until other behind =
      sym (ap (λ (l : List Held). first_behind until other l) left) ∙ first_from until front behind other (next - at) (drop at vs) before

  pub passed_count : (w : Window) → front ≤ w.from → values_count w (drop next vs) ≡ values_count w (drop at vs)
  passed_count w behind =
      sym (ap (λ (l : List Held). values_count w l) left) ∙ count_from w front behind (next - at) (drop at vs) before

  pub passed_settled : (w : Window) (end : ℕ) → front ≤ w.from → take next vs ++ values_settled w end (drop next vs) ≡ take at vs ++ values_settled w end (drop at vs)
  passed_settled w end behind =
      let between : List Held = take (next - at) (drop at vs) in
      sym (ap (λ (l : List Held). l ++ values_settled w end (drop next vs)) front_and)
      ∙ append_assoc (take at vs) between (values_settled w end (drop next vs))
      ∙ sym (ap (λ (l : List Held). take at vs ++ (between ++ values_settled w end l)) left)
      ∙ ap (λ (l : List Held). take at vs ++ l) (settled_from w front behind end (next - at) (drop at vs) before)

  -- and stand on one side of the place
  before_stands : (h : Held) → IsBefore front h → Stands front front h
  before_stands (Int n) ends = tt
  before_stands (Str bytes) ends = tt
  before_stands Empty ends = tt
  before_stands (Missing name) ends = tt
  before_stands (Func target) ends = tt
  before_stands (Made start count) ends = inl (omega (arith, ends))

  before_stand : (hs : List Held) → AreBefore front hs → ValuesStand front front hs
  before_stand [] ends = tt
  before_stand (h ∷ hs) ends = (before_stands h ends.0, before_stand hs ends.1)

  both_stand : (hs more : List Held) → ValuesStand front front hs → ValuesStand front front more → ValuesStand front front (hs ++ more)
  both_stand [] more stand added = added
  both_stand (h ∷ hs) more stand added = (stand.0, both_stand hs more stand.1 added)

  pub passed_stand : ValuesStand front front (take at vs) → ValuesStand front front (take next vs)
  passed_stand stand =
      subst (ValuesStand front front) front_and
      (both_stand (take at vs) (take (next - at) (drop at vs)) stand (before_stand (take (next - at) (drop at vs)) before))

-- one value more stands on one side, or in front
one_further : (vs : List Held) (at : ℕ) (v : Held) → slice_get vs at ≡ Some v → take (at + 1) vs ≡ take at vs ++ v ∷ []
one_further vs at v there = further at 1 vs ∙ ap (λ (l : List Held). take at vs ++ take 1 l) (drop_read vs at v there)

pub one_stands : (front : ℕ) (vs : List Held) (at : ℕ) (v : Held) → slice_get vs at ≡ Some v → ValuesStand front front (take at vs)
    → Stands front front v → ValuesStand front front (take (at + 1) vs)
one_stands front vs at v there all one =
    subst (ValuesStand front front) (sym (one_further vs at v there)) (added (take at vs) all)
  where
    added : (hs : List Held) → ValuesStand front front hs → ValuesStand front front (hs ++ v ∷ [])
    added [] stand = (one, tt)
    added (h ∷ hs) stand = (stand.0, added hs stand.1)

pub one_before : (front : ℕ) (vs : List Held) (from at : ℕ) (v : Held) → from ≤ at → slice_get vs at ≡ Some v
    → AreBefore front (take (at - from) (drop from vs)) → IsBefore front v → AreBefore front (take (at + 1 - from) (drop from vs))
one_before front vs from at v least there all one =
    subst (AreBefore front) (sym whole) (added (take (at - from) (drop from vs)) all)
  where
    added : (hs : List Held) → AreBefore front hs → AreBefore front (hs ++ v ∷ [])
    added [] before = (one, tt)
    added (h ∷ hs) before = (before.0, added hs before.1)

    apart : from + (at - from) ≡ at
    apart = omega (arith, least)

    more : at + 1 - from ≡ at - from + 1
    more = omega (arith, least)

    whole : take (at + 1 - from) (drop from vs) ≡ take (at - from) (drop from vs) ++ v ∷ []
    whole =
        ap (λ (k : ℕ). take k (drop from vs)) more
        ∙ further (at - from) 1 (drop from vs)
        ∙ ap (λ (l : List Held). take (at - from) (drop from vs) ++ take 1 l)
        (drop-drop (at - from) from vs ∙ ap (λ (k : ℕ). drop k vs) apart ∙ drop_read vs at v there)

-- one value more is settled in its place
module _ (w : Window) (vs later : List Held) (at end count : ℕ) (d : Held) (there : at < length vs) (sets : later ≡ set vs at (settled w end (get_or vs at d)))
    (counts : count ≡ moved_count w (get_or vs at d)) where
  first_left : drop at vs ≡ get_or vs at d ∷ drop (at + 1) vs
  first_left = drop_more vs at d there

  same_behind : drop (at + 1) later ≡ drop (at + 1) vs
  same_behind = ap (λ (l : List Held). drop (at + 1) l) sets ∙ drop-set-lt (at + 1) vs at (settled w end (get_or vs at d)) (omega arith)

  settled_front : take (at + 1) later ≡ take at vs ++ settled w end (get_or vs at d) ∷ []
  settled_front =
      let h : Held = settled w end (get_or vs at d) in
      ap (λ (l : List Held). take (at + 1) l) sets
      ∙ further at 1 (set vs at h)
      ∙ ap (λ (l : List Held). l ++ take 1 (drop at (set vs at h))) (take-set vs at h)
      ∙ ap (λ (l : List Held). take at vs ++ take 1 l) (drop-set vs at h there)

  pub settled_further : (all : List Held) → take at vs ++ values_settled w end (drop at vs) ≡ all
      → take (at + 1) later ++ values_settled w (end + count) (drop (at + 1) later) ≡ all
  settled_further all is =
      let v : Held = get_or vs at d in
      ap (λ (l : List Held). l ++ values_settled w (end + count) (drop (at + 1) later)) settled_front
      ∙ append_assoc (take at vs) (settled w end v ∷ []) (values_settled w (end + count) (drop (at + 1) later))
      ∙ ap (λ (l : List Held). take at vs ++ (settled w end v ∷ values_settled w (end + count) l)) same_behind
      ∙ ap (λ (k : ℕ). take at vs ++ (settled w end v ∷ values_settled w (end + k) (drop (at + 1) vs))) counts
      ∙ sym (ap (λ (l : List Held). take at vs ++ values_settled w end l) first_left)
      ∙ is

  pub counted_further : (all : ℕ) → end + values_count w (drop at vs) ≡ all → end + count + values_count w (drop (at + 1) later) ≡ all
  counted_further all is =
      omega (
        arith,
        is,
        counts,
        ap (λ (l : List Held). values_count w l) same_behind,
        ap (λ (l : List Held). values_count w l) first_left ∙ sum_by-cons (moved_count w) (get_or vs at d) (drop (at + 1) vs),
      )

  pub as_many : length later ≡ length vs
  as_many = ap (λ (l : List Held). length l) sets ∙ length-set vs at (settled w end (get_or vs at d))
