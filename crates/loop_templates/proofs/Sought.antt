-- States behind searches under one condition.
use Rattle.std.proofs.Common.{◌≡◌, ℕ, ℤ, ◌+◌, ◌<◌, List, [], ◌∷◌, ◌++◌, length, map, take, drop, get_or, Option, Some, ap, sym, ◌∙◌, refl, arith}
use Rattle.std.specs.Option.{option_and_then, option_map}
use Rattle.std.proofs.lemmas.List.{length-drop, length-map, map_push, take_more}
use Rattle.bst_meaning.specs.declared.condition.Cond.{Cond}
use Rattle.lin_facts.specs.declared.row.Part.{Part}
use Rattle.sym_state.specs.State.{State}
use Rattle.straight_proofs.specs.Asked.{Asked}
use Rattle.loop_templates.specs.Rows.{floor_in, least_floor, lesser}
use Rattle.loop_templates.proofs.OneByOne.{next_left}

-- the states behind some searches
abbrev pub sought : List Asked → List State
sought searches = map (λ search. search.state) searches

-- an image more, of lists that have the same ones
pub images_more : {X Y Z : Type 0} (f : X → Z) (g : Y → Z) (xs new : List X) (ys : List Y) (k : ℕ) (x : X) (y : Y) → k < length ys → y ≡ get_or ys k y
    → new ≡ xs ++ x ∷ [] → f x ≡ g y → map f xs ≡ map g (take k ys) → map f new ≡ map g (take (k + 1) ys)
images_more {X} {Y} {Z} f g xs new ys k x y more is grown same before =
    ap (λ (them : List X). map f them) grown
    ∙ map_push f xs x
    ∙ ap (λ (front : List Z). front ++ f x ∷ []) before
    ∙ ap (λ (z : Z). map g (take k ys) ++ z ∷ []) (same ∙ ap g is)
    ∙ sym (map_push g (take k ys) (get_or ys k y))
    ∙ ap (λ (them : List Y). map g them) (sym (take_more ys k y more))

-- of two states or more, the lesser of the first one's floor and of what the others come to
least_of_more : (admits : Cond) (sum : List Part) (state : State) (states : List State) → 0 < length states
    → least_floor admits sum (state ∷ states) ≡ option_and_then (λ c. option_map (lesser c) (least_floor admits sum states)) (floor_in admits state sum)
least_of_more admits sum state [] more = absurd (omega (arith, more))
least_of_more admits sum state (second ∷ states) more = refl

-- the same of the states from one on
pub least_on : (admits : Cond) (sum : List Part) (all : List Asked) (k : ℕ) (one : Asked) (c : ℤ) → k + 1 < length all → one ≡ get_or all k one
    → one.cond ≡ admits → floor_in one.cond one.state sum ≡ Some c
    → least_floor admits sum (sought (drop k all)) ≡ option_map (lesser c) (least_floor admits sum (sought (drop (k + 1) all)))
least_on admits sum all k one c more is under found =
    let left = drop (k + 1) all in
    let states = sought left in
    let images = length-map left (λ (search : Asked). search.state) in
    let items = length-drop (k + 1) all in
    let many : 0 < length states = omega (arith, images, items, more) in
    ap (λ (those : List Asked). least_floor admits sum (sought those)) (next_left all k one (omega (arith, more)) is)
    ∙ least_of_more admits sum one.state states many
    ∙ ap (λ (it : Option ℤ). option_and_then (λ c. option_map (lesser c) (least_floor admits sum states)) it)
    (ap (λ (under : Cond). floor_in under one.state sum) (sym under) ∙ found)
