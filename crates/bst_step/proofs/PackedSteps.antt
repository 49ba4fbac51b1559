-- What is unpacked stays where more is put behind the others, and values that are packed are gone through one after the other.
use Rattle.std.proofs.Common.{◌≡◌, ℕ, zero, suc, ◌+◌, ◌<◌, ◌≤◌, refl, sym, ap, subst, ◌∙◌, List, [], ◌∷◌, ◌++◌, append_assoc, arith, drop, get_or, length, map, pos, slice_get, take, Some}
use Rattle.std.proofs.Math.ListN.{set}
use Rattle.std.proofs.lemmas.List.{get_or-take, length-map, length-set, length-take, map-append, map-set, set-get_or, take_more}
use Rattle.std.proofs.lemmas.Option.{get_or_from_slice_get}
use Rattle.bst_step.specs.declared.held.Held.{Held}
use Rattle.bst_step.specs.declared.held.Held.TheVariants as held
use Rattle.bst_step.specs.declared.packed_values.Packed.{Packed}
use Rattle.bst_step.specs.declared.packed_values.Packed.TheVariants.{Int, Empty, Made, Other}
use Rattle.bst_step.specs.EntryStates.{repeated}
use Rattle.bst_step.specs.PackedValues.{AreAmong, ArePacked, IsAmong, unpacked, values_in}
use Rattle.bst_step.specs.Settled.{first_behind, moved_bytes, moved_count, next_behind, settled, values_bytes}
use Rattle.bst_step.specs.declared.renewal.Window.{Window}
use Rattle.bst_step.proofs.FieldSteps.{drop_read}

-- a value stands among more others too
longer : (others more : List Held) → take (length others) more ≡ others → length others ≤ length more
longer others more grown = omega (arith, ap (λ (l : List Held). length l) grown, length-take (length others) more)

still_among : (m n : ℕ) (p : Packed) → m ≤ n → IsAmong m p → IsAmong n p
still_among m n (Int i) less among = tt
still_among m n Empty less among = tt
still_among m n (Made count start) less among = tt
still_among m n (Other at) less among = omega (arith, less, among)

all_still_among : (m n : ℕ) (ps : List Packed) → m ≤ n → AreAmong m ps → AreAmong n ps
all_still_among m n [] less among = tt
all_still_among m n (p ∷ ps) less among = (still_among m n p less among.0, all_still_among m n ps less among.1)

pub grown_among : (others more : List Held) (ps : List Packed) → take (length others) more ≡ others → AreAmong (length others) ps
    → AreAmong (length more) ps
grown_among others more ps grown among = all_still_among (length others) (length more) ps (longer others more grown) among

-- and is the same
same_unpacked : (others more : List Held) (p : Packed) → take (length others) more ≡ others → IsAmong (length others) p
    → unpacked more p ≡ unpacked others p
same_unpacked others more (Int i) grown among = refl
same_unpacked others more Empty grown among = refl
same_unpacked others more (Made count start) grown among = refl
same_unpacked others more (Other at) grown among =
    sym (get_or-take (length others) more at (held.Int (pos 0)) among) ∙ ap (λ (l : List Held). get_or l at (held.Int (pos 0))) grown

pub all_unpacked : (others more : List Held) (ps : List Packed) → take (length others) more ≡ others → AreAmong (length others) ps
    → map (unpacked more) ps ≡ map (unpacked others) ps
all_unpacked others more [] grown among = refl
all_unpacked others more (p ∷ ps) grown among =
    ap (λ (h : Held). h ∷ map (unpacked more) ps) (same_unpacked others more p grown among.0)
    ∙ ap (λ (l : List Held). unpacked others p ∷ l) (all_unpacked others more ps grown among.1)

-- all of two lists stand among the others
both_among : (n : ℕ) (ps more : List Packed) → AreAmong n ps → AreAmong n more → AreAmong n (ps ++ more)
both_among n [] more among added = added
both_among n (p ∷ ps) more among added = (among.0, both_among n ps more among.1 added)

set_among : (n : ℕ) (ps : List Packed) (at : ℕ) (p : Packed) → AreAmong n ps → IsAmong n p → AreAmong n (set ps at p)
set_among n [] at p all among = tt
set_among n (q ∷ ps) zero p all among = (among, all.1)
set_among n (q ∷ ps) (suc at) p all among = (all.0, set_among n ps at p all.1 among)

-- one value more is packed
pub one_packed : (others more : List Held) (ps later : List Packed) (p : Packed) (vs : List Held) (at : ℕ) (d : Held) → at < length vs
    → take (length others) more ≡ others → AreAmong (length others) ps → map (unpacked others) ps ≡ take at vs → unpacked more p ≡ get_or vs at d
    → later ≡ ps ++ p ∷ [] → map (unpacked more) later ≡ take (at + 1) vs
one_packed others more ps later p vs at d within grown among packed same adds =
    ap (λ (l : List Packed). map (unpacked more) l) adds
    ∙ map-append (unpacked more) ps (p ∷ [])
    ∙ ap (λ (l : List Held). l ++ unpacked more p ∷ []) (all_unpacked others more ps grown among ∙ packed)
    ∙ ap (λ (v : Held). take at vs ++ v ∷ []) same
    ∙ sym (take_more vs at d within)

pub one_among : (others more : List Held) (ps later : List Packed) (p : Packed) → take (length others) more ≡ others → AreAmong (length others) ps
    → IsAmong (length more) p → later ≡ ps ++ p ∷ [] → AreAmong (length more) later
one_among others more ps later p grown among there adds =
    subst (λ (l : List Packed). AreAmong (length more) l) (sym adds)
    (both_among (length more) ps (p ∷ []) (grown_among others more ps grown among) (there, tt))

-- the same values so many times
among_repeated : (n k : ℕ) (ps : List Packed) → AreAmong n ps → AreAmong n (repeated k ps)
among_repeated n zero ps among = tt
among_repeated n (suc k) ps among = both_among n ps (repeated k ps) among (among_repeated n k ps among)

map_repeated : (others : List Held) (k : ℕ) (ps : List Packed) → map (unpacked others) (repeated k ps) ≡ repeated k (map (unpacked others) ps)
map_repeated others zero ps = refl
map_repeated others (suc k) ps =
    map-append (unpacked others) ps (repeated k ps)
    ∙ ap (λ (l : List Held). map (unpacked others) ps ++ l) (map_repeated others k ps)

-- values that are packed, with none that stands as it is
seen_packed : (ps : List Packed) (others wide : List Held) → wide ≡ [] → values_in ps others wide ≡ map (unpacked others) ps
seen_packed ps others wide none = ap (λ (l : List Held). values_in ps others l) none

pub packed_repeated : (ps each : List Packed) (others wide vs : List Held) (k : ℕ) → wide ≡ [] → ps ≡ repeated k each → map (unpacked others) each ≡ vs
    → values_in ps others wide ≡ repeated k vs
packed_repeated ps each others wide vs k none is same =
    seen_packed ps others wide none
    ∙ ap (λ (l : List Packed). map (unpacked others) l) is
    ∙ map_repeated others k each
    ∙ ap (λ (l : List Held). repeated k l) same

pub repeated_packed : (ps each : List Packed) (others wide : List Held) (k room : ℕ) → wide ≡ [] → ps ≡ repeated k each → AreAmong (length others) each
    → length ps ≤ room → ArePacked ps others wide room
repeated_packed ps each others wide k room none is among fits = record {
  among = subst (λ (l : List Packed). AreAmong (length others) l) (sym is) (among_repeated (length others) k each among);
  many = ap (λ (l : List Held). length l) (seen_packed ps others wide none) ∙ length-map ps (unpacked others);
  room = fits;
}

-- a value that is packed takes the place of another
module _ (ps : List Packed) (others more wide : List Held) (room at : ℕ) (grown : take (length others) more ≡ others)
    (packed : ArePacked ps others wide room) (none : wide ≡ []) where
  pub set_packed : (p : Packed) (h : Held) → unpacked more p ≡ h → values_in (set ps at p) more wide ≡ set (values_in ps others wide) at h
  set_packed p h same =
      seen_packed (set ps at p) more wide none
      ∙ map-set (unpacked more) ps at p
      ∙ ap (λ (l : List Held). set l at (unpacked more p)) (all_unpacked others more ps grown packed.among)
      ∙ ap (λ (v : Held). set (map (unpacked others) ps) at v) same
      ∙ sym (ap (λ (l : List Held). set l at h) (seen_packed ps others wide none))

  pub still_packed : (p : Packed) → IsAmong (length more) p → ArePacked (set ps at p) more wide room
  still_packed p there = record {
    among = set_among (length more) ps at p (grown_among others more ps grown packed.among) there;
    many =
        ap (λ (l : List Held). length l) (seen_packed (set ps at p) more wide none)
        ∙ length-map (set ps at p) (unpacked more);
    room = omega (arith, packed.room, length-set ps at p);
  }

-- all stand as they are from now on, with a value in the place of another
seen_wide : (ps : List Packed) (others wide : List Held) → 0 < length wide → values_in ps others wide ≡ wide
seen_wide ps others [] some = absurd (omega (arith, some))
seen_wide ps others (v ∷ wide) some = refl

module _ (ps : List Packed) (others more wide later : List Held) (room at : ℕ) (h : Held) (grown : take (length others) more ≡ others)
    (packed : ArePacked ps others wide room) (none : wide ≡ []) (there : at < length (values_in ps others wide)) (widened : later ≡ map (unpacked more) ps) where
  all_stand : later ≡ values_in ps others wide
  all_stand = widened ∙ all_unpacked others more ps grown packed.among ∙ sym (seen_packed ps others wide none)

  some_stand : 0 < length later
  some_stand = omega (arith, there, ap (λ (l : List Held). length l) all_stand)

  pub set_widened : values_in ps more (set later at h) ≡ set (values_in ps others wide) at h
  set_widened =
      seen_wide ps more (set later at h) (omega (arith, some_stand, length-set later at h))
      ∙ ap (λ (l : List Held). set l at h) all_stand

  pub still_widened : (size : ℕ) → size ≡ room → ArePacked ps more (set later at h) size
  still_widened size same = record {
    among = grown_among others more ps grown packed.among;
    many = ap (λ (l : List Held). length l) set_widened ∙ length-set (values_in ps others wide) at h ∙ packed.many;
    room = omega (arith, packed.room, same);
  }

-- one string more is gathered
pub one_gathered : (w : Window) (pool : List ℕ) (vs : List Held) (at : ℕ) (v : Held) (before later all : List ℕ) → slice_get vs at ≡ Some v
    → before ++ values_bytes w pool (drop at vs) ≡ all → later ≡ before ++ moved_bytes w pool v → later ++ values_bytes w pool (drop (at + 1) vs) ≡ all
one_gathered w pool vs at v before later all there so_far adds =
    ap (λ (l : List ℕ). l ++ values_bytes w pool (drop (at + 1) vs)) adds
    ∙ append_assoc before (moved_bytes w pool v) (values_bytes w pool (drop (at + 1) vs))
    ∙ sym (ap (λ (l : List Held). before ++ values_bytes w pool l) (drop_read vs at v there))
    ∙ so_far

pub one_passed : (until : ℕ) (vs : List Held) (at : ℕ) (v : Held) (before later all : ℕ) → slice_get vs at ≡ Some v
    → first_behind until before (drop at vs) ≡ all → later ≡ next_behind until before v → first_behind until later (drop (at + 1) vs) ≡ all
one_passed until vs at v before later all there so_far is =
    ap (λ (n : ℕ). first_behind until n (drop (at + 1) vs)) is
    ∙ sym (ap (λ (l : List Held). first_behind until before l) (drop_read vs at v there))
    ∙ so_far

-- a string that begins in the window is settled, and another value stays
pub one_settled : (w : Window) (to : ℕ) (vs later : List Held) (at : ℕ) (v d h : Held) → slice_get vs at ≡ Some v → h ≡ settled w to v
    → later ≡ set vs at h → later ≡ set vs at (settled w to (get_or vs at d))
one_settled w to vs later at v d h there is given =
    given ∙ ap (λ (x : Held). set vs at x) (is ∙ sym (ap (λ (x : Held). settled w to x) (get_or_from_slice_get vs at v d there)))

pub one_stays : (w : Window) (to : ℕ) (vs : List Held) (at : ℕ) (v d : Held) → slice_get vs at ≡ Some v → settled w to v ≡ v
    → vs ≡ set vs at (settled w to (get_or vs at d))
one_stays w to vs at v d there stays =
    one_settled w to vs vs at v d v there (sym stays)
    (sym (set-get_or vs at d) ∙ ap (λ (x : Held). set vs at x) (get_or_from_slice_get vs at v d there))

pub one_counted : (w : Window) (vs : List Held) (at : ℕ) (v d : Held) (n : ℕ) → slice_get vs at ≡ Some v → n ≡ moved_count w v
    → n ≡ moved_count w (get_or vs at d)
one_counted w vs at v d n there is = is ∙ sym (ap (λ (x : Held). moved_count w x) (get_or_from_slice_get vs at v d there))
