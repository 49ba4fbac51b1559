use Rattle.std.proofs.Common.{◌≡◌, List, subst}
use Rattle.std.specs.Prelude.{IfOk}
use Rattle.bv_base.specs.KeySets.{has_lowered}
use Rattle.entry_list.specs.Keys.{Listed, firsts, is_listed}
use Rattle.entry_list.specs.Parents.{is_chosen, is_named_twice, is_wanted, same_listed}
use Rattle.entry_list.proofs.Among.{twice_named, wanted_told}
use Rattle.entry_list.proofs.Lists.{filter_same}
use Rattle.entry_list.proofs.parents.wanted.Goals as goal

-- the sets of keys say what is wanted
pub returns : goal.returns
returns c =
    let parents = c.args.parents.now in
    let list = c.args.list.now in
    let twice = c.in_ok-twice.twice in
    let listed = c.in_ok-listed.listed in
    subst (λ (l : List Listed). IfOk c.wanted_of.result (λ found. found.items ≡ l))
    (filter_same (is_chosen twice listed) (is_wanted parents list)
    (λ p. wanted_told (has_lowered p.key twice) (is_named_twice p.key parents) (has_lowered p.key listed) (is_listed p.key list)
    (c.in_ok-twice.ensures p.key)
    (λ named. c.in_ok-listed.ensures p.key (twice_named p.key parents named)))
    (firsts same_listed parents))
    c.wanted_of.ensures
