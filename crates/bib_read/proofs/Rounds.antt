-- One round of what is taken so many times.
use Rattle.std.proofs.Common.{◌≡◌, ℕ, suc, ◌+◌, ◌-◌, ◌<◌, List, cond, Ok, ap, arith}
use Rattle.bv_base.specs.Answers.{then_do}
use Rattle.bib_read.specs.Entering.{take_field, take_fields}
use Rattle.bib_read.specs.Parts.{passed, stands, take_mark}
use Rattle.bib_read.specs.Progress.{Progress}
use Rattle.bib_read.specs.Reading.{next_item, take_items}
use Rattle.bib_read.specs.Runs.{after_at}
use Rattle.bib_read.specs.Values.{take_piece, take_pieces}

one_more : (end i : ℕ) → i < end → end - i ≡ suc (end - (i + 1))
one_more end i within = omega arith

pub pieces_round : (end i : ℕ) (p : Progress) → i < end
    → take_pieces (end - i) p
    ≡ then_do (take_piece p) (λ q. cond (stands 35 q) (take_pieces (end - (i + 1)) (passed 35 q)) (Ok (passed 35 q)))
pieces_round end i p within = ap (λ n. take_pieces n p) (one_more end i within)

pub fields_round : (end i close : ℕ) (key : List ℕ) (p : Progress) → i < end
    → take_fields (end - i) close key p
    ≡ cond (stands close p) (Ok (passed close p))
    (then_do (take_mark 44 (passed close p)) (λ q.
    cond (stands close q) (Ok (passed close q))
    (then_do (take_field key (passed close q)) (take_fields (end - (i + 1)) close key))))
fields_round end i close key p within = ap (λ n. take_fields n close key p) (one_more end i within)

pub items_round : (end i : ℕ) (p : Progress) → i < end
    → take_items (end - i) p ≡ next_item (after_at p.left) p (take_items (end - (i + 1)))
items_round end i p within = ap (λ n. take_items n p) (one_more end i within)
