-- The strings that begin in a window are brought to the front of their pool, and what is seen stays.
use Rattle.std.proofs.Common.{◌≡◌, ℕ, suc, ◌+◌, ◌-◌, ◌<◌, ◌≤◌, ◌&&◌, le_refl, min, inl, inr, Bool, true, false, cond, nat_le, nat_lt, refl, sym, ap, subst, ◌∙◌, List, [], ◌∷◌, ◌++◌, drop, length, map, take, arith}
use Rattle.std.proofs.Math.Seq.{drop-append_seam, take-append_seam}
use Rattle.std.proofs.lemmas.Bool.Decides.{nat_tests}
use Rattle.std.proofs.lemmas.List.{append_assoc, drop-drop, length-append, length-drop, length-take, length-take-le, take-take}
use Rattle.std.proofs.lemmas.List.Sums.{sum_by-cons}
use Rattle.bst_meaning.specs.declared.value.Value.{Value}
use Rattle.bst_meaning.specs.declared.value.Value.TheVariants.{Str as Text}
use Rattle.bst_step.specs.declared.held.Held.{Held}
use Rattle.bst_step.specs.declared.held.Held.TheVariants.{Int, Str, Empty, Missing, Func, Made}
use Rattle.bst_step.specs.declared.renewal.Window.{Window}
use Rattle.bst_step.specs.Held.{ValuesWithin, end_of, value_in}
use Rattle.bst_step.specs.Marks.{Mark, mark_of}
use Rattle.bst_step.specs.Settled.{AreParted, IsGathered, IsRenewed, Stands, ValuesStand, begins_in, first_behind, moved_bytes, moved_count, next_behind, put_over, settled, values_bytes, values_count, values_settled}
use Rattle.bst_step.proofs.HeldSteps.{same_stack, same_value}

-- as many values are left
pub as_many_settled : (w : Window) (at : ℕ) (vs : List Held) → length (values_settled w at vs) ≡ length vs
as_many_settled w at [] = refl
as_many_settled w at (v ∷ vs) = ap suc (as_many_settled w (at + moved_count w v) vs)

-- the marks stay
mark_settled : (w : Window) (at : ℕ) (h : Held) → mark_of (settled w at h) ≡ mark_of h
mark_settled w at (Int n) = refl
mark_settled w at (Str bytes) = refl
mark_settled w at Empty = refl
mark_settled w at (Missing name) = refl
mark_settled w at (Func target) = refl
mark_settled w at (Made start count) = by (begins_in w start)
  where
    by : (t : Bool) → mark_of (cond t (Made at count) (Made start count)) ≡ mark_of (Made start count)
    by true = refl
    by false = refl

marks_settled : (w : Window) (at : ℕ) (vs : List Held) → map mark_of (values_settled w at vs) ≡ map mark_of vs
marks_settled w at [] = refl
marks_settled w at (v ∷ vs) =
    ap (λ (m : Mark). m ∷ map mark_of (values_settled w (at + moved_count w v) vs)) (mark_settled w at v)
    ∙ ap (λ (l : List Mark). mark_of v ∷ l) (marks_settled w (at + moved_count w v) vs)

-- in the pool stand as many bytes as were counted
bytes_counted : (w : Window) (pool : List ℕ) (h : Held) → end_of h ≤ length pool → length (moved_bytes w pool h) ≡ moved_count w h
bytes_counted w pool (Int n) within = refl
bytes_counted w pool (Str bytes) within = refl
bytes_counted w pool Empty within = refl
bytes_counted w pool (Missing name) within = refl
bytes_counted w pool (Func target) within = refl
bytes_counted w pool (Made start count) within = by (begins_in w start)
  where
    by : (t : Bool) → length (cond t (take count (drop start pool)) []) ≡ cond t count 0
    by true = omega (arith, within, length-take count (drop start pool), length-drop start pool)
    by false = refl

values_counted : (w : Window) (pool : List ℕ) (vs : List Held) → ValuesWithin (length pool) vs → length (values_bytes w pool vs) ≡ values_count w vs
values_counted w pool [] within = refl
values_counted w pool (v ∷ vs) within =
    omega (
      arith,
      length-append (moved_bytes w pool v) (values_bytes w pool vs),
      bytes_counted w pool v within.0,
      values_counted w pool vs within.1,
      sum_by-cons (moved_count w) v vs,
    )

-- no string that begins at a place or behind it begins before another
abbrev Behind : ℕ → ℕ → Held → Type 0
Behind until next (Made start count) = until ≤ start → next ≤ start
Behind until next _ = Unit {0}

abbrev AllBehind : ℕ → ℕ → List Held → Type 0
AllBehind until next [] = Unit {0}
AllBehind until next (v ∷ vs) = Behind until next v × AllBehind until next vs

behind_earlier : (until m n : ℕ) (h : Held) → m ≤ n → Behind until n h → Behind until m h
behind_earlier until m n (Int k) less behind = tt
behind_earlier until m n (Str bytes) less behind = tt
behind_earlier until m n Empty less behind = tt
behind_earlier until m n (Missing name) less behind = tt
behind_earlier until m n (Func target) less behind = tt
behind_earlier until m n (Made start count) less behind = λ later. omega (arith, less, behind later)

all_earlier : (until m n : ℕ) (vs : List Held) → m ≤ n → AllBehind until n vs → AllBehind until m vs
all_earlier until m n [] less behind = tt
all_earlier until m n (v ∷ vs) less behind = (behind_earlier until m n v less behind.0, all_earlier until m n vs less behind.1)

next_least : (until other : ℕ) (h : Held) → next_behind until other h ≤ other
next_least until other (Int n) = le_refl other
next_least until other (Str bytes) = le_refl other
next_least until other Empty = le_refl other
next_least until other (Missing name) = le_refl other
next_least until other (Func target) = le_refl other
next_least until other (Made start count) = by (nat_le until start)
  where
    by : (t : Bool) → cond t (min other start) other ≤ other
    by true = omega arith
    by false = le_refl other

next_after : (until other : ℕ) (h : Held) → until ≤ other → until ≤ next_behind until other h
next_after until other (Int n) later = later
next_after until other (Str bytes) later = later
next_after until other Empty later = later
next_after until other (Missing name) later = later
next_after until other (Func target) later = later
next_after until other (Made start count) later = by (nat_le until start) refl
  where
    by : (t : Bool) → nat_le until start ≡ t → until ≤ cond t (min other start) other
    by true is = let here : until ≤ start = grind (arith, nat_tests) in omega (arith, later, here)
    by false is = later

next_is_behind : (until other : ℕ) (h : Held) → Behind until (next_behind until other h) h
next_is_behind until other (Int n) = tt
next_is_behind until other (Str bytes) = tt
next_is_behind until other Empty = tt
next_is_behind until other (Missing name) = tt
next_is_behind until other (Func target) = tt
next_is_behind until other (Made start count) = λ later. by later (nat_le until start) refl
  where
    by : until ≤ start → (t : Bool) → nat_le until start ≡ t → cond t (min other start) other ≤ start
    by later true is = omega arith
    by later false is = absurd (grind (arith, nat_tests))

first_least : (until other : ℕ) (vs : List Held) → first_behind until other vs ≤ other
first_least until other [] = le_refl other
first_least until other (v ∷ vs) =
    let rest : first_behind until other (v ∷ vs) ≤ next_behind until other v = first_least until (next_behind until other v) vs in
    omega (arith, rest, next_least until other v)

pub first_after : (until other : ℕ) (vs : List Held) → until ≤ other → until ≤ first_behind until other vs
first_after until other [] later = later
first_after until other (v ∷ vs) later = first_after until (next_behind until other v) vs (next_after until other v later)

all_behind : (until other : ℕ) (vs : List Held) → AllBehind until (first_behind until other vs) vs
all_behind until other [] = tt
all_behind until other (v ∷ vs) =
    let next : ℕ = next_behind until other v in
    (behind_earlier until (first_behind until next vs) next v (first_least until next vs) (next_is_behind until other v), all_behind until next vs)

-- what doesn't begin in a window begins before it or behind it
begins_elsewhere : (w : Window) (start : ℕ) → begins_in w start ≡ false → w.from ≤ start → w.until ≤ start
begins_elsewhere w start is later = by (nat_le w.from start) refl (nat_lt start w.until) refl is
  where
    by : (a : Bool) → nat_le w.from start ≡ a → (b : Bool) → nat_lt start w.until ≡ b → a && b ≡ false → w.until ≤ start
    by false front b back e = absurd (grind (arith, nat_tests))
    by true front false back e = grind (arith, nat_tests)
    by true front true back e = absurd (cc)

-- strings stand in the finished part of the pool, or are to come
at_front : (h : Held) → Stands 0 0 h
at_front (Int n) = tt
at_front (Str bytes) = tt
at_front Empty = tt
at_front (Missing name) = tt
at_front (Func target) = tt
at_front (Made start count) = inr (omega arith)

all_at_front : (vs : List Held) → ValuesStand 0 0 vs
all_at_front [] = tt
all_at_front (v ∷ vs) = (at_front v, all_at_front vs)

pub none_moved : (pool : List ℕ) (globals own : List Held) → AreParted 0 0 pool globals own
none_moved pool globals own = record { here = omega arith; globals_stand = all_at_front globals; own_stand = all_at_front own }

-- in the end none is to come
is_finished : (to from end : ℕ) (h : Held) → end < from → end_of h ≤ end → Stands to from h → end_of h ≤ to
is_finished to from end (Int n) far within stands = omega arith
is_finished to from end (Str bytes) far within stands = omega arith
is_finished to from end Empty far within stands = omega arith
is_finished to from end (Missing name) far within stands = omega arith
is_finished to from end (Func target) far within stands = omega arith
is_finished to from end (Made start count) far within (inl here) = here
is_finished to from end (Made start count) far within (inr later) = absurd (omega (arith, far, within, later))

all_finished : (to from end : ℕ) (vs : List Held) → end < from → ValuesWithin end vs → ValuesStand to from vs → ValuesWithin to vs
all_finished to from end [] far within stand = tt
all_finished to from end (v ∷ vs) far within stand =
    (is_finished to from end v far within.0 stand.0, all_finished to from end vs far within.1 stand.1)

-- the strings that begin in the window become finished
stands_settled : (w : Window) (to next at end : ℕ) (h : Held) → Stands to w.from h → Behind w.until next h → to ≤ end → at + moved_count w h ≤ end
    → Stands end next (settled w at h)
stands_settled w to next at end (Int n) stands behind more last = tt
stands_settled w to next at end (Str bytes) stands behind more last = tt
stands_settled w to next at end Empty stands behind more last = tt
stands_settled w to next at end (Missing name) stands behind more last = tt
stands_settled w to next at end (Func target) stands behind more last = tt
stands_settled w to next at end (Made start count) stands behind more last = by (begins_in w start) refl stands last
  where
    by : (t : Bool) → begins_in w start ≡ t → Stands to w.from (Made start count) → at + cond t count 0 ≤ end
        → Stands end next (cond t (Made at count) (Made start count))
    by true is stood fits = inl fits
    by false is (inl here) fits = inl (omega (arith, here, more))
    by false is (inr later) fits = inr (behind (begins_elsewhere w start is later))

values_stand : (w : Window) (to next at end : ℕ) (vs : List Held) → ValuesStand to w.from vs → AllBehind w.until next vs → to ≤ end
    → at + values_count w vs ≤ end → ValuesStand end next (values_settled w at vs)
values_stand w to next at end [] stand behind more last = tt
values_stand w to next at end (v ∷ vs) stand behind more last =
    let both : values_count w (v ∷ vs) ≡ moved_count w v + values_count w vs = sum_by-cons (moved_count w) v vs in (
      stands_settled w to next at end v stand.0 behind.0 more (omega (arith, last, both)),
      values_stand w to next (at + moved_count w v) end vs stand.1 behind.1 more (omega (arith, last, both)),
    )

-- all stand in a pool that isn't shorter
end_settled : (w : Window) (at m n : ℕ) (h : Held) → end_of h ≤ m → m ≤ n → at + moved_count w h ≤ n → end_of (settled w at h) ≤ n
end_settled w at m n (Int k) within more last = omega arith
end_settled w at m n (Str bytes) within more last = omega arith
end_settled w at m n Empty within more last = omega arith
end_settled w at m n (Missing name) within more last = omega arith
end_settled w at m n (Func target) within more last = omega arith
end_settled w at m n (Made start count) within more last = by (begins_in w start) last
  where
    by : (t : Bool) → at + cond t count 0 ≤ n → end_of (cond t (Made at count) (Made start count)) ≤ n
    by true fits = fits
    by false fits = omega (arith, within, more)

values_end : (w : Window) (at m n : ℕ) (vs : List Held) → ValuesWithin m vs → m ≤ n → at + values_count w vs ≤ n
    → ValuesWithin n (values_settled w at vs)
values_end w at m n [] within more last = tt
values_end w at m n (v ∷ vs) within more last =
    let both : values_count w (v ∷ vs) ≡ moved_count w v + values_count w vs = sum_by-cons (moved_count w) v vs in (
      end_settled w at m n v within.0 more (omega (arith, last, both)),
      values_end w (at + moved_count w v) m n vs within.1 more (omega (arith, last, both)),
    )

-- what stands behind the first bytes from a place on
next_bytes : (fresh first rest back : List ℕ) (at n : ℕ) → length first ≡ n → drop at fresh ≡ (first ++ rest) ++ back → drop (at + n) fresh ≡ rest ++ back
next_bytes fresh first rest back at n count is =
    sym (drop-drop n at fresh)
    ∙ ap (λ (l : List ℕ). drop n l) (is ∙ append_assoc first rest back)
    ∙ ap (λ (k : ℕ). drop k (first ++ (rest ++ back))) (sym count)
    ∙ drop-append_seam first (rest ++ back)

-- what is the same from a place on is so from a later one on
same_later : (pool fresh : List ℕ) (m n : ℕ) → m ≤ n → drop m fresh ≡ drop m pool → drop n fresh ≡ drop n pool
same_later pool fresh m n later same =
    let all : n ≡ m + (n - m) = omega (arith, later) in
    ap (λ (k : ℕ). drop k fresh) all
    ∙ sym (drop-drop (n - m) m fresh)
    ∙ ap (λ (l : List ℕ). drop (n - m) l) same
    ∙ drop-drop (n - m) m pool
    ∙ ap (λ (k : ℕ). drop k pool) (sym all)

-- what is held is seen as it was where the pool is another between the finished part and the next string that is to come
module _ (w : Window) (pool fresh : List ℕ) (to next : ℕ) (front : take to fresh ≡ take to pool) (after : drop next fresh ≡ drop next pool) where
  value_settled : (back : List ℕ) (at : ℕ) (h : Held) → end_of h ≤ length pool → Stands to w.from h → Behind w.until next h
      → drop at fresh ≡ moved_bytes w pool h ++ back → value_in fresh (settled w at h) ≡ value_in pool h
  value_settled back at (Int n) within stands behind is = refl
  value_settled back at (Str bytes) within stands behind is = refl
  value_settled back at Empty within stands behind is = refl
  value_settled back at (Missing name) within stands behind is = refl
  value_settled back at (Func target) within stands behind is = refl
  value_settled back at (Made start count) within stands behind is = by (begins_in w start) refl stands is
    where
      own : List ℕ
      own = take count (drop start pool)

      by : (t : Bool) → begins_in w start ≡ t → Stands to w.from (Made start count) → drop at fresh ≡ cond t own [] ++ back
          → value_in fresh (cond t (Made at count) (Made start count)) ≡ Text own
      by true here stood begun =
          let many : length own ≡ count = omega (arith, within, length-take count (drop start pool), length-drop start pool) in
          ap (λ (l : List ℕ). Text (take count l)) begun
          ∙ ap (λ (k : ℕ). Text (take k (own ++ back))) (sym many)
          ∙ ap (λ (l : List ℕ). Text l) (take-append_seam own back)
      by false here (inl done) begun = same_value to fresh pool front (Made start count) done
      by false here (inr later) begun =
          ap (λ (l : List ℕ). Text (take count l))
          (same_later pool fresh next start (behind (begins_elsewhere w start here later)) after)

  values_same : (back : List ℕ) (at : ℕ) (vs : List Held) → ValuesWithin (length pool) vs → ValuesStand to w.from vs → AllBehind w.until next vs
      → drop at fresh ≡ values_bytes w pool vs ++ back → map (value_in fresh) (values_settled w at vs) ≡ map (value_in pool) vs
  values_same back at [] within stand behind is = refl
  values_same back at (v ∷ vs) within stand behind is =
      let own : List ℕ = moved_bytes w pool v in
      let later : List ℕ = values_bytes w pool vs in
      let place : ℕ = at + moved_count w v in
      ap (λ (value : Value). value ∷ map (value_in fresh) (values_settled w place vs))
      (value_settled (later ++ back) at v within.0 stand.0 behind.0 (is ∙ append_assoc own later back))
      ∙ ap (λ (l : List Value). value_in pool v ∷ l)
      (values_same back place vs within.1 stand.1 behind.1
      (next_bytes fresh own later back at (moved_count w v) (bytes_counted w pool v within.0) is))

-- the bytes of a window of two lists are gathered
module _ (w : Window) (next : ℕ) (pool moved : List ℕ) (globals own : List Held) (all : IsGathered w next pool moved globals own) where
  in_front : length (values_bytes w pool globals) ≡ values_count w globals
  in_front = values_counted w pool globals all.globals_within

  in_all : length moved ≡ values_count w globals + values_count w own
  in_all =
      omega (
        arith,
        ap (λ (l : List ℕ). length l) all.bytes,
        length-append (values_bytes w pool globals) (values_bytes w pool own),
        in_front,
        values_counted w pool own all.own_within,
      )

  globals_behind : AllBehind w.until next globals
  globals_behind =
      let first : ℕ = first_behind w.until 18446744073709551615 globals in
      all_earlier w.until next first globals (omega (arith, all.first, first_least w.until first own)) (all_behind w.until 18446744073709551615 globals)

  own_behind : AllBehind w.until next own
  own_behind =
      subst (λ (n : ℕ). AllBehind w.until n own) (sym all.first) (all_behind w.until (first_behind w.until 18446744073709551615 globals) own)

  -- the next string that is to come stands behind the window
  pub next_later : w.until ≤ next
  next_later =
      let first : ℕ = first_behind w.until 18446744073709551615 globals in
      omega (arith, all.first, first_after w.until first own (first_after w.until 18446744073709551615 globals all.until))

  pub has_no_room : next < w.to + length moved → w.to + length moved ≤ 18446744073709551615
      → (w.until < 18446744073709551615) × AreParted w.to w.from pool globals own
  has_no_room short small = (omega (arith, short, small, next_later), all.parted)

  -- they are put over those of the pool, in front of that string
  module _ (fresh : List ℕ) (fits : w.to + length moved ≤ next) (put : fresh ≡ put_over w.to moved pool) where
    abbrev back : List ℕ
    back = drop (w.to + length moved) pool

    taken : length (take w.to pool) ≡ w.to
    taken = length-take-le w.to pool all.parted.here

    before : take w.to fresh ≡ take w.to pool
    before =
        ap (λ (l : List ℕ). take w.to l) put
        ∙ ap (λ (n : ℕ). take n (put_over w.to moved pool)) (sym taken)
        ∙ take-append_seam (take w.to pool) (moved ++ back)

    from_there : drop w.to fresh ≡ moved ++ back
    from_there =
        ap (λ (l : List ℕ). drop w.to l) put
        ∙ ap (λ (n : ℕ). drop n (put_over w.to moved pool)) (sym taken)
        ∙ drop-append_seam (take w.to pool) (moved ++ back)

    after : drop next fresh ≡ drop next pool
    after =
        same_later pool fresh (w.to + length moved) next fits
        (sym (drop-drop (length moved) w.to fresh)
        ∙ ap (λ (l : List ℕ). drop (length moved) l) from_there
        ∙ drop-append_seam moved back)

    as_long : length fresh ≡ w.to + (length moved + (length pool - (w.to + length moved)))
    as_long =
        omega (
          arith,
          ap (λ (l : List ℕ). length l) put,
          length-append (take w.to pool) (moved ++ back),
          length-append moved back,
          length-drop (w.to + length moved) pool,
          taken,
        )

    pub globals_fit : w.to + values_count w globals ≤ length fresh
    globals_fit = omega (arith, as_long, in_all)

    pub own_fit : (at : ℕ) → at ≡ w.to + values_count w globals → at + values_count w own ≤ length fresh
    own_fit at place = omega (arith, as_long, in_all, place)

    pub globals_renewed : (later : List Held) → later ≡ values_settled w w.to globals → IsRenewed pool globals fresh later
    globals_renewed later is =
        subst (IsRenewed pool globals fresh) (sym is) (record {
          within = values_end w w.to (length pool) (length fresh) globals all.globals_within (omega (arith, as_long)) globals_fit;
          seen =
              values_same w pool fresh w.to next before after (values_bytes w pool own ++ back) w.to globals all.globals_within all.parted.globals_stand globals_behind
              (from_there
              ∙ ap (λ (l : List ℕ). l ++ back) all.bytes
              ∙ append_assoc (values_bytes w pool globals) (values_bytes w pool own) back);
          marks = marks_settled w w.to globals;
        })

    pub own_renewed : (at : ℕ) (later : List Held) → at ≡ w.to + values_count w globals → later ≡ values_settled w at own
        → IsRenewed pool own fresh later
    own_renewed at later place is =
        subst (IsRenewed pool own fresh) (sym is) (record {
          within = values_end w at (length pool) (length fresh) own all.own_within (omega (arith, as_long)) (own_fit at place);
          seen =
              values_same w pool fresh w.to next before after back at own all.own_within all.parted.own_stand own_behind
              (ap (λ (n : ℕ). drop n fresh) place
              ∙ next_bytes fresh (values_bytes w pool globals) (values_bytes w pool own) back w.to (values_count w globals) in_front
              (from_there ∙ ap (λ (l : List ℕ). l ++ back) all.bytes));
          marks = marks_settled w at own;
        })

    pub has_moved : (at : ℕ) (later more : List Held) → at ≡ w.to + values_count w globals → later ≡ values_settled w w.to globals
        → more ≡ values_settled w at own → (w.until ≤ next) × AreParted (w.to + length moved) next fresh later more
    has_moved at later more place globals_are own_are = (
      next_later,
      record {
        here = omega (arith, as_long);
        globals_stand =
            subst (ValuesStand (w.to + length moved) next) (sym globals_are)
            (values_stand w w.to next w.to (w.to + length moved) globals all.parted.globals_stand globals_behind (omega arith) (omega (arith, in_all)));
        own_stand =
            subst (ValuesStand (w.to + length moved) next) (sym own_are)
            (values_stand w w.to next at (w.to + length moved) own all.parted.own_stand own_behind (omega arith) (omega (arith, in_all, place)));
      },
    )

-- values that are as they were are so seen, and what is renewed twice is renewed
pub renewed_not : (pool : List ℕ) (vs : List Held) → ValuesWithin (length pool) vs → IsRenewed pool vs pool vs
renewed_not pool vs within = record { within = within; seen = refl; marks = refl }

pub renewed_twice : (a b c : List ℕ) (xs ys zs : List Held) → IsRenewed a xs b ys → IsRenewed b ys c zs → IsRenewed a xs c zs
renewed_twice a b c xs ys zs one two = record { within = two.within; seen = two.seen ∙ one.seen; marks = two.marks ∙ one.marks }

-- the pool ends where the finished part does, once none is to come
pub renewed_whole : (first pool fresh : List ℕ) (to from : ℕ) (xs vs : List Held) → IsRenewed first xs pool vs → ValuesStand to from vs
    → length pool < from → to ≤ length pool → fresh ≡ take to pool → IsRenewed first xs fresh vs
renewed_whole first pool fresh to from xs vs renewed stand far here is =
    let within : ValuesWithin to vs = all_finished to from (length pool) vs far renewed.within stand in
    let many : length fresh ≡ to = ap (λ (l : List ℕ). length l) is ∙ length-take-le to pool here in
    let same : take to fresh ≡ take to pool = ap (λ (l : List ℕ). take to l) is ∙ take-take to to pool (le_refl to) in
    record {
      within = subst (λ (n : ℕ). ValuesWithin n vs) (sym many) within;
      seen = same_stack to fresh pool same vs within ∙ renewed.seen;
      marks = renewed.marks;
    }
