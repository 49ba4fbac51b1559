-- As many rounds as bytes are left are enough.
use Rattle.std.proofs.Common.{◌≡◌, ℕ, zero, suc, ◌<◌, ◌≤◌, cond, List, [], ◌∷◌, length, drop, Option, None, Some, Result, Ok, Err, refl, sym, ap, ◌∙◌, arith}
use Rattle.bv_base.specs.Runs.{length_before}
use Rattle.bv_base.specs.Answers.{then_do}
use Rattle.bib_read.specs.declared.stop.Stop.{Stop}
use Rattle.bib_read.specs.Entering.{take_field, take_fields}
use Rattle.bib_read.specs.Parts.{passed, stands, take_mark}
use Rattle.bib_read.specs.Progress.{Progress}
use Rattle.bib_read.specs.Reading.{next_item, take_item, take_items}
use Rattle.bib_read.specs.Runs.{after_at, after_first, is_at}
use Rattle.bib_read.specs.Values.{take_piece, take_pieces}
use Rattle.bib_read.proofs.Shorter.{Below, dropped, field_below, item_below, mark_below, passed_le, piece_below}

-- no byte is left
none_left : (bytes : List ℕ) → length bytes ≤ 0 → bytes ≡ []
none_left [] le = refl
none_left (b ∷ bytes) le = absurd (omega arith)

-- what is wanted next may depend on how few bytes are left
same_then : (r : Result Progress Stop) (n : ℕ) (f g : Progress → Result Progress Stop) → Below n r
    → ((q : Progress) → length q.left < n → f q ≡ g q) → then_do r f ≡ then_do r g
same_then (Ok q) n f g below same = same q below
same_then (Err stop) n f g below same = refl

pub same_pieces : (n m : ℕ) (p : Progress) → length p.left ≤ n → length p.left ≤ m → take_pieces n p ≡ take_pieces m p
same_pieces zero zero p a b = refl
same_pieces zero (suc m) p a b =
    sym (ap (λ left. take_pieces (suc m) (record p { left = left })) (none_left p.left a))
same_pieces (suc n) zero p a b =
    ap (λ left. take_pieces (suc n) (record p { left = left })) (none_left p.left b)
same_pieces (suc n) (suc m) p a b =
    same_then (take_piece p) (length p.left) _ _ (piece_below p)
    (λ q less.
    let le : length (passed 35 q).left ≤ length q.left = passed_le 35 q in
    ap (λ x. cond (stands 35 q) x (Ok (passed 35 q)))
    (same_pieces n m (passed 35 q) (omega arith) (omega arith)))

pub same_fields : (n m close : ℕ) (key : List ℕ) (p : Progress) → length p.left ≤ n → length p.left ≤ m
    → take_fields n close key p ≡ take_fields m close key p
same_fields zero zero close key p a b = refl
same_fields zero (suc m) close key p a b =
    sym (ap (λ left. take_fields (suc m) close key (record p { left = left })) (none_left p.left a))
same_fields (suc n) zero close key p a b =
    ap (λ left. take_fields (suc n) close key (record p { left = left })) (none_left p.left b)
same_fields (suc n) (suc m) close key p a b =
    let le : length (passed close p).left ≤ length p.left = passed_le close p in
    ap (λ x. cond (stands close p) (Ok (passed close p)) x)
    (same_then (take_mark 44 (passed close p)) (length (passed close p).left) _ _ (mark_below 44 (passed close p))
    (λ q less.
    let le2 : length (passed close q).left ≤ length q.left = passed_le close q in
    ap (λ x. cond (stands close q) (Ok (passed close q)) x)
    (same_then (take_field key (passed close q)) (length (passed close q).left) (take_fields n close key)
    (take_fields m close key) (field_below key (passed close q))
    (λ r less2. same_fields n m close key r (omega arith) (omega arith)))))

-- what follows an `@` is less than what it stands in
at_less : (bytes : List ℕ) → (left : List ℕ) → after_first bytes ≡ Some left → length left < length bytes
at_less [] left found = absurd (cc)
at_less (b ∷ bytes) left found = let same : bytes ≡ left = cc in omega (arith, ap (λ l. length l) same)

same_next : (o : Option (List ℕ)) (p : Progress) (n : ℕ) (f g : Progress → Result Progress Stop)
    → ((left : List ℕ) → o ≡ Some left → length left < n)
    → ((q : Progress) → length q.left < n → f q ≡ g q) → next_item o p f ≡ next_item o p g
same_next None p n f g short same = refl
same_next (Some left) p n f g short same =
    same_then (take_item (record p { left = left })) (length left) f g (item_below (record p { left = left }))
    (λ q less. let lt : length left < n = short left refl in same q (omega arith))

pub same_items : (n m : ℕ) (p : Progress) → length p.left ≤ n → length p.left ≤ m → take_items n p ≡ take_items m p
same_items zero zero p a b = refl
same_items zero (suc m) p a b =
    ap (λ left. Ok (record p { left = left })) (none_left p.left a)
    ∙ sym (ap (λ left. take_items (suc m) (record p { left = left })) (none_left p.left a))
same_items (suc n) zero p a b =
    ap (λ left. take_items (suc n) (record p { left = left })) (none_left p.left b)
    ∙ sym (ap (λ left. Ok (record p { left = left })) (none_left p.left b))
same_items (suc n) (suc m) p a b =
    same_next (after_at p.left) p (length p.left) (take_items n) (take_items m)
    (λ left found.
    let less : length left < length (drop (length_before is_at p.left) p.left) =
    at_less (drop (length_before is_at p.left) p.left) left found in
    let le : length (drop (length_before is_at p.left) p.left) ≤ length p.left = dropped (length_before is_at p.left) p.left in
    omega arith)
    (λ q less. same_items n m q (omega arith) (omega arith))
