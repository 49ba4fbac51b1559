use Rattle.std.proofs.Common.{◌≡◌, ◌∙◌, ◌-◌, suc, not, true, false, Bool, length, get_or, refl, sym, arith}
use Rattle.bv_base.specs.Bytes.{is_white}
use Rattle.name_split.proofs.Ending.{all_kept}
use Rattle.name_split.proofs.bytes.is_last_black.Goals as goal

pub returns-in-len1-up : goal.returns-in-len1-up
returns-in-len1-up c = λ black.
    let some : length c.args.bytes.now ≡ suc (length c.args.bytes.now - 1) = omega (arith, c.in-len1-up.len_at_least) in
    let last : is_white (get_or c.args.bytes.now (length c.args.bytes.now - 1) 0) ≡ false = sym c.is_white.ensures ∙ is_not c.is_white.result black in
    all_kept is_white c.args.bytes.now (length c.args.bytes.now - 1) some last
  where
    is_not : (v : Bool) → not v ≡ true → v ≡ false
    is_not true e = absurd (let other : false ≡ true = e in cc)
    is_not false e = refl
